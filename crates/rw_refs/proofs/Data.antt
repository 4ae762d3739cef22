-- Places in data: what is found has its offset, and a kept section that starts at an address is the one around it.
use Rattle.std.proofs.Common.{◌≡◌, ℕ, ◌+◌, ◌-◌, ◌<◌, ◌≤◌, true, false, List, length, get_or, Option, Some, None, refl, sym, ap, ◌∙◌, arith}
use Rattle.std.specs.List.{position}
use Rattle.std.specs.Option.{option_map, option_map_or, option_or}
use Rattle.std.proofs.lemmas.Bool.Decides.{nat_tests}
use Rattle.std.proofs.lemmas.List.Quantifiers.{position-Some}
use Rattle.std.proofs.lemmas.Option.{slice_get-get_or}
use Rattle.rw_base.specs.Rules.{first}
use Rattle.rw_words.specs.declared.atom.Atom.{Atom}
use Rattle.rw_words.specs.declared.atom.Atom.TheVariants.{Ptr}
use Rattle.rw_elf.specs.declared.section.Section.{Section}
use Rattle.rw_elf.specs.Places.{EndsBefore, ends_at, kept_around, kept_ending, spans}
use Rattle.rw_elf.specs.Section.{null_section}
use Rattle.rw_elf.specs.Tables.{elf_rules, kept_sections}
use Rattle.rw_elf.proofs.Clean.{kept_pairs}
use Rattle.rw_elf.proofs.KeptPlaces.{kept_some}
use Rattle.rw_elf.proofs.Search.{position-at}
use Rattle.rw_reloc.specs.declared.slot.Slot.{Slot}
use Rattle.rw_reloc.specs.Slots.{copies_of, copy_around, null_slot, takes}
use Rattle.rw_refs.specs.References.{copy_at, end_at, inside_at, offset_in, start_at, starts_at}

starts-addr : (a : ℕ) (s : Section) → starts_at a s ≡ true → s.addr ≡ a
starts-addr a s h = grind (arith, nat_tests)

spans-start : (a : ℕ) (s : Section) → s.addr ≡ a → 0 < s.size → spans a s ≡ true
spans-start a s start some = grind (arith, nat_tests)

spans-past : (a : ℕ) (s : Section) → s.addr + s.size ≤ a → spans a s ≡ false
spans-past a s past = grind (arith, nat_tests)

spans-low : (a : ℕ) (s : Section) → spans a s ≡ true → s.addr ≤ a
spans-low a s h = grind (arith, nat_tests)

takes-low : (a : ℕ) (s : Slot) → takes a s ≡ true → s.address ≤ a
takes-low a s h = grind (arith, nat_tests)

-- ---- what is found

offset-is : {A : Type 0} (list : List A) (offset : A → ℕ) (k : ℕ) (d : A) → k < length list → offset_in list offset k ≡ offset (get_or list k d)
offset-is list offset k d within = ap (λ o. option_map_or offset o 0) (slice_get-get_or list k d within)

pub record IsInside (bytes : List ℕ) (a k : ℕ) : Type 0 where
  pub within : k < length (kept_sections bytes)
  pub low : (get_or (kept_sections bytes) k null_section).addr ≤ a
  pub atom : Some (Ptr k (a - (get_or (kept_sections bytes) k null_section).addr)) ≡ inside_at bytes a

pub around-place : (bytes : List ℕ) (a k : ℕ) → kept_around bytes a ≡ Some k → IsInside bytes a k
unfolding kept_around
around-place bytes a k found =
    let parts = position-Some (spans a) (kept_sections bytes) k null_section found in
    record {
      within = parts.0;
      low = spans-low a (get_or (kept_sections bytes) k null_section) parts.1;
      atom =
          sym (ap (λ o. option_map (λ n. Ptr n (offset_in (kept_sections bytes) (λ (s : Section). a - s.addr) n)) o) found
          ∙ ap (λ n. Some (Ptr k n)) (offset-is (kept_sections bytes) (λ (s : Section). a - s.addr) k null_section parts.0));
    }

pub record IsEnd (bytes : List ℕ) (a k : ℕ) : Type 0 where
  pub within : k < length (kept_sections bytes)
  pub atom : Some (Ptr k (get_or (kept_sections bytes) k null_section).size) ≡ end_at bytes a

pub ending-place : (bytes : List ℕ) (a k : ℕ) → kept_ending bytes a ≡ Some k → IsEnd bytes a k
unfolding kept_ending
ending-place bytes a k found =
    let parts = position-Some (ends_at a) (kept_sections bytes) k null_section found in
    record {
      within = parts.0;
      atom =
          sym (ap (λ o. option_map (λ n. Ptr n (offset_in (kept_sections bytes) (λ (s : Section). s.size) n)) o) found
          ∙ ap (λ n. Some (Ptr k n)) (offset-is (kept_sections bytes) (λ (s : Section). s.size) k null_section parts.0));
    }

pub record IsInCopy (bytes : List ℕ) (a k : ℕ) : Type 0 where
  pub within : k < length (copies_of bytes)
  pub low : (get_or (copies_of bytes) k null_slot).address ≤ a
  pub atom : Some (Ptr (length (kept_sections bytes) + k) (a - (get_or (copies_of bytes) k null_slot).address)) ≡ copy_at bytes a

pub copy-place : (bytes : List ℕ) (a k : ℕ) → copy_around bytes a ≡ Some k → IsInCopy bytes a k
unfolding copy_around
copy-place bytes a k found =
    let parts = position-Some (takes a) (copies_of bytes) k null_slot found in
    record {
      within = parts.0;
      low = takes-low a (get_or (copies_of bytes) k null_slot) parts.1;
      atom =
          sym (ap (λ o. option_map (λ n. Ptr (length (kept_sections bytes) + n) (offset_in (copies_of bytes) (λ (s : Slot). a - s.address) n)) o) found
          ∙ ap (λ n. Some (Ptr (length (kept_sections bytes) + k) n)) (offset-is (copies_of bytes) (λ (s : Slot). a - s.address) k null_slot parts.0));
    }

-- ---- the start of a section

around-start : (bytes : List ℕ) (a k : ℕ) → first (elf_rules bytes) ≡ None → position (starts_at a) (kept_sections bytes) ≡ Some k → position (spans a) (kept_sections bytes) ≡ Some k
around-start bytes a k clean found =
    let parts = position-Some (starts_at a) (kept_sections bytes) k null_section found in
    let start = starts-addr a (get_or (kept_sections bytes) k null_section) parts.1 in
    position-at (spans a) (kept_sections bytes) k null_section parts.0 (spans-start a (get_or (kept_sections bytes) k null_section) start (kept_some bytes k null_section parts.0))
    (λ j low.
    let before : EndsBefore (get_or (kept_sections bytes) j null_section) (get_or (kept_sections bytes) k null_section) = kept_pairs bytes clean j k null_section low parts.0 in
    spans-past a (get_or (kept_sections bytes) j null_section) (omega (arith, before, start)))

started : (bytes : List ℕ) (a k : ℕ) → first (elf_rules bytes) ≡ None → position (starts_at a) (kept_sections bytes) ≡ Some k → Some (Ptr k 0) ≡ inside_at bytes a
unfolding kept_around
started bytes a k clean found =
    let parts = position-Some (starts_at a) (kept_sections bytes) k null_section found in
    let start = starts-addr a (get_or (kept_sections bytes) k null_section) parts.1 in
    let zero : 0 ≡ a - (get_or (kept_sections bytes) k null_section).addr = omega (arith, start) in
    ap (λ n. Some (Ptr k n)) zero ∙ (around-place bytes a k (around-start bytes a k clean found)).atom

pub start-inside : (bytes : List ℕ) (a : ℕ) → first (elf_rules bytes) ≡ None → option_or (start_at bytes a) (inside_at bytes a) ≡ inside_at bytes a
start-inside bytes a clean = by_start (position (starts_at a) (kept_sections bytes)) refl
  where
    by_start : (o : Option ℕ) → position (starts_at a) (kept_sections bytes) ≡ o → option_or (option_map (λ k. Ptr k 0) o) (inside_at bytes a) ≡ inside_at bytes a
    by_start None e = refl
    by_start (Some k) e = started bytes a k clean e

-- the rules on kept sections, where the start is a place inside
pub kept-first : (s i e : Option Atom) → option_or s i ≡ i → option_or i e ≡ option_or s (option_or i (option_or e None))
kept-first None None None h = refl
kept-first None None (Some x) h = refl
kept-first None (Some x) e h = refl
kept-first (Some x) None e h = absurd (cc)
kept-first (Some x) (Some y) e h = sym h
