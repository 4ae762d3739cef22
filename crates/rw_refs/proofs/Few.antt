-- A file has no more kept sections, and no more copies, than its kept sections have bytes.
use Rattle.std.proofs.Common.{◌≡◌, ℕ, zero, suc, ◌+◌, ◌^◌, ◌<◌, ◌≤◌, Bool, true, false, not, ◌||◌, ◌&&◌, List, [], ◌∷◌, length, filter, get_or, sum_by, None, All, Contains, refl, sym, ap, subst, ◌∙◌, arith, inl, inr}
use Rattle.std.specs.List.{AllPairs, list_any}
use Rattle.std.proofs.lemmas.Bool.{cases_Bool, false≢true}
use Rattle.std.proofs.lemmas.Bool.Decides.{nat_tests}
use Rattle.std.proofs.lemmas.List.{get_or-map, length-map}
use Rattle.std.proofs.lemmas.List.Elements.{All-filter, Contains-get_or, filter_passes}
use Rattle.std.proofs.lemmas.List.Filters.{length-filter_both}
use Rattle.std.proofs.lemmas.List.Folds.{list_any_at}
use Rattle.std.proofs.lemmas.List.Kept.{AllPairs-filter}
use Rattle.std.proofs.lemmas.List.Sums.{sum_by-cons}
use Rattle.rw_base.specs.Rules.{first}
use Rattle.rw_base.proofs.First.{first_none}
use Rattle.rw_elf.specs.declared.section.Section.{Section}
use Rattle.rw_elf.specs.Places.{Covers, spans}
use Rattle.rw_elf.specs.Tables.{elf_rules, kept_sections}
use Rattle.rw_elf.proofs.Around.{filter_contains}
use Rattle.rw_elf.proofs.KeptPlaces.{kept_some}
use Rattle.rw_elf.proofs.Limits.{kept_total}
use Rattle.rw_reloc.specs.declared.slot.Slot.{Slot}
use Rattle.rw_reloc.specs.Entries.{entries, null_entry}
use Rattle.rw_reloc.specs.Relocations.{entry_fault, relocation_rules}
use Rattle.rw_reloc.specs.Slots.{EndsBefore, copies_of, is_copy_slot, is_kept_at, slot_of, slots_of}
use Rattle.rw_reloc.specs.Targets.{is_copy}
use Rattle.rw_reloc.proofs.Apart.{clean_entries, entry_clean, good_place, slots_apart}
use Rattle.rw_reloc.proofs.KeptSections.{kept_missing}

spans-low : (a : ℕ) (s : Section) → spans a s ≡ true → s.addr ≤ a
spans-low a s h = grind (arith, nat_tests)

spans-high : (a : ℕ) (s : Section) → spans a s ≡ true → a < s.addr + s.size
spans-high a s h = grind (arith, nat_tests)

spans-if : (a : ℕ) (s : Section) → Covers a s → spans a s ≡ true
spans-if a s on = grind (arith, nat_tests)

the-other : (a b : Bool) → (a || b) ≡ true → not a ≡ true → b ≡ true
the-other true b h n = absurd (false≢true n)
the-other false b h n = h

-- ---- items that ascend

module _ {X : Type 0} (start : X → ℕ) where
  at-least : (xs : List X) → AllPairs (λ x y. start x < start y) xs → (a k : ℕ) (d : X) → All (λ x. a ≤ start x) xs → k < length xs → a + k ≤ start (get_or xs k d)
  at-least xs up a zero d low within = let first = low 0 d within in omega (arith, first)
  at-least xs up a (suc k) d low within =
      let before = at-least xs up a k d low (omega arith) in
      let next = up k (suc k) d (omega arith) within in
      omega (arith, before, next)

  -- from an address up to another
  few-from : (xs : List X) → AllPairs (λ x y. start x < start y) xs → (a n : ℕ) → All (λ x. a ≤ start x) xs → All (λ x. start x < a + n) xs → length xs ≤ n
  few-from [] up a n low high = omega arith
  few-from (x ∷ xs) up a n low high =
      let last = at-least (x ∷ xs) up a (length xs) x low (omega arith) in
      let top = high (length xs) x (omega arith) in
      omega (arith, last, top)

  -- each at an address of one of some sections
  few-among : (ks : List Section) (xs : List X) → AllPairs (λ x y. start x < start y) xs → All (λ x. list_any (spans (start x)) ks ≡ true) xs → length xs ≤ sum_by (λ s. s.size) ks
  few-among [] [] up inside = omega arith
  few-among [] (x ∷ xs) up inside = absurd (false≢true (inside 0 x (omega arith)))
  few-among (s ∷ ks) xs up inside =
      let split = length-filter_both (λ x. spans (start x) s) (λ x. not (spans (start x) s)) (λ x. refl) xs in
      let passing = filter_passes (λ x. spans (start x) s) xs in
      let failing = filter_passes (λ x. not (spans (start x) s)) xs in
      let all = All-filter (λ x. not (spans (start x) s)) (λ x. list_any (spans (start x)) (s ∷ ks) ≡ true) xs inside in
      let here =
      few-from (filter (λ x. spans (start x) s) xs) (AllPairs-filter (λ x y. start x < start y) (λ x. spans (start x) s) xs up) s.addr s.size
      (λ k d within. spans-low (start (get_or (filter (λ x. spans (start x) s) xs) k d)) s (passing k d within))
      (λ k d within. spans-high (start (get_or (filter (λ x. spans (start x) s) xs) k d)) s (passing k d within)) in
      let there =
      few-among ks (filter (λ x. not (spans (start x) s)) xs) (AllPairs-filter (λ x y. start x < start y) (λ x. not (spans (start x) s)) xs up)
      (λ k d within. the-other (spans (start (get_or (filter (λ x. not (spans (start x) s)) xs) k d)) s) (list_any (spans (start (get_or (filter (λ x. not (spans (start x) s)) xs) k d))) ks) (all k d within) (failing k d within)) in
      let sum = sum_by-cons (λ (t : Section). t.size) s ks in
      omega (arith, split, here, there, sum)

-- ---- sections

few-sections : (ks : List Section) → All (λ s. 0 < s.size) ks → length ks ≤ sum_by (λ s. s.size) ks
few-sections [] some = omega arith
few-sections (s ∷ ks) some =
    let here = some 0 s (omega arith) in
    let rest = few-sections ks (λ k d within. some (suc k) d (omega arith)) in
    let sum = sum_by-cons (λ (t : Section). t.size) s ks in
    omega (arith, here, rest, sum)

-- ---- copies

both : (a b c : Bool) → (a && (b && c)) ≡ true → c ≡ true
both true true c h = h
both true false c h = absurd (false≢true h)
both false b c h = absurd (false≢true h)

copied : (a b : Bool) → (not a || b) ≡ true → a ≡ true → b ≡ true
copied true b h is = h
copied false b h is = absurd (false≢true is)

entry-kept : (bytes : List ℕ) (k : ℕ) → entry_fault bytes (get_or (entries bytes) k null_entry) ≡ None → is_copy_slot (slot_of bytes (get_or (entries bytes) k null_entry)) ≡ true
    → is_kept_at bytes (slot_of bytes (get_or (entries bytes) k null_entry)).address ≡ true
unfolding slot_of
entry-kept bytes k clean is =
    copied (is_copy (get_or (entries bytes) k null_entry)) (is_kept_at bytes (get_or (entries bytes) k null_entry).offset) (both _ _ _ (good_place bytes (get_or (entries bytes) k null_entry) clean)) is

slot-kept : (bytes : List ℕ) (s : Slot) → first (relocation_rules bytes) ≡ None → Contains (slots_of bytes) s → is_copy_slot s ≡ true → is_kept_at bytes s.address ≡ true
unfolding slots_of
slot-kept bytes s clean here is =
    let within : here.0 < length (entries bytes) = omega (arith, here.1, length-map (entries bytes) (slot_of bytes)) in
    let same : slot_of bytes (get_or (entries bytes) here.0 null_entry) ≡ s = sym (get_or-map (slot_of bytes) (entries bytes) here.0 null_entry s within) ∙ here.2 in
    (subst (λ t. is_copy_slot t ≡ true → is_kept_at bytes t.address ≡ true) same
    (entry-kept bytes here.0 (first_none _ _ (entry_clean bytes (clean_entries bytes clean) here.0 null_entry within)))) is

-- what is kept is an address of a kept section
kept-any : (bytes : List ℕ) (a : ℕ) → is_kept_at bytes a ≡ true → list_any (spans a) (kept_sections bytes) ≡ true
kept-any bytes a kept =
    elim (cases_Bool (list_any (spans a) (kept_sections bytes))) as (λ _. list_any (spans a) (kept_sections bytes) ≡ true) [
      | inl some ↦ some
      | inr none ↦
          absurd (false≢true (sym (kept_missing bytes a (λ s here on.
          false≢true (sym none ∙ list_any_at (spans a) (kept_sections bytes) here.0 s here.1 (ap (spans a) here.2 ∙ spans-if a s on)))) ∙ kept))
    ]

pub few-regions : (bytes : List ℕ) → first (elf_rules bytes) ≡ None → first (relocation_rules bytes) ≡ None → length (kept_sections bytes) + length (copies_of bytes) ≤ 2 ^ 31
unfolding copies_of
few-regions bytes clean relocated =
    let total = kept_total bytes clean in
    let sections = few-sections (kept_sections bytes) (kept_some bytes) in
    let apart = AllPairs-filter EndsBefore is_copy_slot (slots_of bytes) (slots_apart bytes (clean_entries bytes relocated)) in
    let copies =
    few-among (λ (s : Slot). s.address) (kept_sections bytes) (filter is_copy_slot (slots_of bytes)) (λ i j d low high. (apart i j d low high).0)
    (λ k d within.
    let here = Contains-get_or (filter is_copy_slot (slots_of bytes)) k d within in
    kept-any bytes (get_or (filter is_copy_slot (slots_of bytes)) k d).address
    (slot-kept bytes (get_or (filter is_copy_slot (slots_of bytes)) k d) relocated (filter_contains is_copy_slot (slots_of bytes) (get_or (filter is_copy_slot (slots_of bytes)) k d) here) (filter_passes is_copy_slot (slots_of bytes) k d within))) in
    omega (arith, total, sections, copies)
