-- The section around an address and the one that ends at it, among sections that are apart.
use Rattle.std.proofs.Common.{◌≡◌, ℕ, ◌+◌, ◌-◌, ◌^◌, ◌<◌, ◌≤◌, suc, Bool, true, false, List, length, get_or, slice_get, Some, None, All, Contains, sym, ap, ◌∙◌, arith, inl, inr}
use Rattle.std.specs.List.{AllPairs, position}
use Rattle.std.specs.List.Sorted.{IsNonDecreasingBy}
use Rattle.std.proofs.lemmas.Bool.{cases_lt, cases_eq}
use Rattle.std.proofs.lemmas.Bool.Decides.{nat_tests}
use Rattle.std.proofs.lemmas.List.{get_or_default}
use Rattle.std.proofs.lemmas.List.Elements.{All-filter, Contains-get_or}
use Rattle.std.proofs.lemmas.List.Quantifiers.{position-Some}
use Rattle.std.proofs.lemmas.Option.{slice_get-get_or, slice_get_within, get_or_from_slice_get}
use Rattle.rw_base.specs.Rules.{first}
use Rattle.rw_elf.specs.declared.section.Section.{Section}
use Rattle.rw_elf.specs.Places.{AreApart, Covers, EndsBefore, ends_at, spans}
use Rattle.rw_elf.specs.Section.{null_section}
use Rattle.rw_elf.specs.Sections.{is_placed, placed_sections}
use Rattle.rw_elf.specs.Tables.{elf_rules, is_kept, kept_sections}
use Rattle.rw_elf.proofs.Apart.{ends_before}
use Rattle.rw_elf.proofs.Around.{placed_from}
use Rattle.rw_elf.proofs.Clean.{kept_pairs}
use Rattle.rw_elf.proofs.Limits.{few_kept}
use Rattle.rw_elf.proofs.Search.{position-at, position-never, position-none}

pub apart_pairs : (list : List Section) → AreApart list → AllPairs EndsBefore list
apart_pairs list h i j d earlier within =
    ends_before list h i j _ _ earlier (slice_get-get_or list i d (omega arith)) (slice_get-get_or list j d within)

-- ---- the section around an address

pub spans-parts : (a : ℕ) (s : Section) → spans a s ≡ true → Covers a s
spans-parts a s h = grind (arith, nat_tests)

pub spans-whole : (a : ℕ) (s : Section) → Covers a s → spans a s ≡ true
spans-whole a s on = grind (arith, nat_tests)

pub around_on : (list : List Section) (a n : ℕ) (d : Section) → position (spans a) list ≡ Some n → Covers a (get_or list n d)
around_on list a n d found = spans-parts a (get_or list n d) (position-Some (spans a) list n d found).1

pub around_in : (list : List Section) (a n : ℕ) (d : Section) → position (spans a) list ≡ Some n → Contains list (get_or list n d)
around_in list a n d found = Contains-get_or list n d (position-Some (spans a) list n d found).0

pub around_never : (list : List Section) (a : ℕ) → position (spans a) list ≡ None → (k : ℕ) (s : Section) → slice_get list k ≡ Some s → Covers a s → ⊥
around_never list a none k s at on =
    let off : spans a (get_or list k s) ≡ false = position-never (spans a) list k s none (slice_get_within list k s at) in
    let here : spans a s ≡ true = spans-whole a s on in
    let same : spans a (get_or list k s) ≡ spans a s = ap (spans a) (get_or_from_slice_get list k s s at) in
    absurd (cc)

-- ---- the section that ends at an address

not-ending : (a : ℕ) (s : Section) → (s.addr + s.size ≡ a → ⊥) → ends_at a s ≡ false
not-ending a s h =
    elim (cases_eq (s.addr + s.size) a) [ inl same ↦ absurd (h same) | inr other ↦ grind (arith, nat_tests) ]

ending : (a : ℕ) (s : Section) → s.addr + s.size ≡ a → ends_at a s ≡ true
ending a s same = grind (arith, nat_tests)

module _ (list : List Section) (apart : AllPairs EndsBefore list) (some : All (λ s. 0 < s.size) list) (a : ℕ) where
  pub ending-zero : a ≡ 0 → position (ends_at a) list ≡ None
  ending-zero zero = position-none (ends_at a) list (λ k d within. not-ending a (get_or list k d) (λ same. let size = some k d within in omega (arith, same, size, zero)))

  pub ending-none : 0 < a → position (spans (a - 1)) list ≡ None → position (ends_at a) list ≡ None
  ending-none above none =
      position-none (ends_at a) list (λ k d within. not-ending a (get_or list k d) (λ same.
      let size = some k d within in
      around_never list (a - 1) none k (get_or list k d) (slice_get-get_or list k d within) (omega (arith, same, size), omega (arith, same, above))))

  pub ending-some : (n : ℕ) (d : Section) → 0 < a → position (spans (a - 1)) list ≡ Some n → (get_or list n d).addr + (get_or list n d).size ≡ a → position (ends_at a) list ≡ Some n
  ending-some n d above found same =
      let parts = position-Some (spans (a - 1)) list n d found in
      let on = spans-parts (a - 1) (get_or list n d) parts.1 in
      let low = on.0 in
      position-at (ends_at a) list n d parts.0 (ending a (get_or list n d) same) (λ k earlier. not-ending a (get_or list k d) (λ other.
      let far : (get_or list k d).addr + (get_or list k d).size ≤ (get_or list n d).addr = apart k n d earlier parts.0 in
      omega (arith, far, low, other, above)))

  pub ending-other : (n : ℕ) (d : Section) → 0 < a → position (spans (a - 1)) list ≡ Some n → ((get_or list n d).addr + (get_or list n d).size ≡ a → ⊥) → position (ends_at a) list ≡ None
  ending-other n d above found differs = position-none (ends_at a) list at
    where
      parts : (n < length list) × (spans (a - 1) (get_or list n d) ≡ true)
      parts = let p = position-Some (spans (a - 1)) list n d found in (p.0, p.1)

      on : Covers (a - 1) (get_or list n d)
      on = spans-parts (a - 1) (get_or list n d) parts.1

      at : (k : ℕ) (e : Section) → k < length list → ends_at a (get_or list k e) ≡ false
      at k e within =
          not-ending a (get_or list k e) (λ same.
          let default : get_or list k e ≡ get_or list k d = get_or_default list k e d within in
          let ends : (get_or list k d).addr + (get_or list k d).size ≡ a = ap (λ (s : Section). s.addr + s.size) (sym default) ∙ same in
          elim (cases_lt k n) [
            | inl before ↦
                let far : (get_or list k d).addr + (get_or list k d).size ≤ (get_or list n d).addr = apart k n d before parts.0 in
                let low = on.0 in
                absurd (omega (arith, far, low, ends, above))
            | inr later ↦
                elim (cases_lt n k) [
                  | inl behind ↦
                      let far : (get_or list n d).addr + (get_or list n d).size ≤ (get_or list k d).addr = apart n k d behind within in
                      let high = on.1 in
                      let size = some k d within in
                      absurd (omega (arith, far, high, ends, size, above))
                  | inr level ↦ let e : k ≡ n = omega arith in absurd (differs (ap (λ j. (get_or list j d).addr + (get_or list j d).size) (sym e) ∙ ends))
                ]
          ])

-- ---- the kept sections

pub kept_ascend : (bytes : List ℕ) → first (elf_rules bytes) ≡ None → IsNonDecreasingBy (λ s. s.addr) (kept_sections bytes)
kept_ascend bytes clean i j d low high =
    elim (cases_lt i j) [
      | inl earlier ↦ let apart : EndsBefore (get_or (kept_sections bytes) i d) (get_or (kept_sections bytes) j d) = kept_pairs bytes clean i j d earlier high in omega arith
      | inr later ↦ let same : i ≡ j = omega arith in rw same (omega arith)
    ]

pub placed-some : (s : Section) → is_placed s ≡ true → 0 < s.size
placed-some s placed = grind (arith, nat_tests)

pub kept_some : (bytes : List ℕ) → All (λ s. 0 < s.size) (kept_sections bytes)
unfolding kept_sections
kept_some bytes = All-filter (is_kept bytes) (λ s. 0 < s.size) _ (λ k d within. let here = placed_from bytes (get_or (placed_sections bytes) k d) (Contains-get_or _ k d within) in placed-some (get_or (placed_sections bytes) k d) here.1)

pub kept_apart : (bytes : List ℕ) → first (elf_rules bytes) ≡ None → AreApart (kept_sections bytes)
kept_apart bytes clean = record {
  ascending = kept_ascend bytes clean;
  apart = λ k s t within at_s at_t.
      let apart : EndsBefore (get_or (kept_sections bytes) k s) (get_or (kept_sections bytes) (suc k) s) = kept_pairs bytes clean k (suc k) s (omega arith) within in
      let same_s : get_or (kept_sections bytes) k s ≡ s = get_or_from_slice_get (kept_sections bytes) k s s at_s in
      let same_t : get_or (kept_sections bytes) (suc k) s ≡ t = get_or_from_slice_get (kept_sections bytes) (suc k) t s at_t in
      omega (arith, ap (λ x. x.addr + x.size) same_s, ap (λ x. x.addr) same_t);
}

-- a place of the list fits 32 bits
pub number_fits : (bytes : List ℕ) (p : Section → Bool) (n : ℕ) → first (elf_rules bytes) ≡ None → position p (kept_sections bytes) ≡ Some n → n < 2 ^ 32
number_fits bytes p n clean found =
    let within = (position-Some p (kept_sections bytes) n null_section found).0 in
    let few = few_kept bytes clean in
    omega (arith, within, few)
