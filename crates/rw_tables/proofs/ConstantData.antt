-- Of the kept sections only the one around the base of a table can have it.
use Rattle.std.proofs.Common.{◌≡◌, ℕ, ◌<◌, Bool, true, false, List, get_or, slice_get, Some, None, Contains, length, refl, sym, ap, subst, true≢false, ◌∙◌, arith, inl, inr}
use Rattle.std.specs.List.{list_any}
use Rattle.std.proofs.lemmas.Bool.{cases_lt, cases_Bool}
use Rattle.std.proofs.lemmas.Bool.Decides.{nat_tests}
use Rattle.std.proofs.lemmas.List.{get_or_default}
use Rattle.std.proofs.lemmas.List.Folds.{list_any_at}
use Rattle.std.proofs.lemmas.List.Quantifiers.{position-Some}
use Rattle.std.proofs.lemmas.Option.{slice_get-get_or}
use Rattle.rw_base.specs.Rules.{first}
use Rattle.rw_elf.specs.declared.section.Section.{Section}
use Rattle.rw_elf.specs.Places.{Covers, EndsBefore, kept_around, spans}
use Rattle.rw_elf.specs.Tables.{elf_rules, kept_sections}
use Rattle.rw_elf.proofs.Clean.{kept_pairs}
use Rattle.rw_elf.proofs.KeptPlaces.{around_in, around_never, around_on}
use Rattle.rw_tables.specs.declared.table.Table.{Table}
use Rattle.rw_tables.specs.Tables.{holds, is_constant}
use Rattle.rw_tables.proofs.TableFacts.{some-item}

held-base : (t : Table) (s : Section) → holds t s ≡ true → Covers t.base s
held-base t s h = grind (arith, nat_tests)

some-place : (xs : List Section) (s : Section) → (here : Contains xs s) → slice_get xs here.0 ≡ Some s
some-place xs s here = slice_get-get_or xs here.0 s here.1 ∙ ap Some here.2

one-holds : (xs : List Section) (t : Table) (s : Section) → Contains xs s → holds t s ≡ true → list_any (holds t) xs ≡ true
one-holds xs t s here on = list_any_at (holds t) xs here.0 s here.1 (ap (holds t) here.2 ∙ on)

pub within-around : (bytes : List ℕ) (a n : ℕ) (d : Section) → kept_around bytes a ≡ Some n → n < length (kept_sections bytes)
unfolding kept_around
within-around bytes a n d found = (position-Some (spans a) (kept_sections bytes) n d found).0

-- two kept sections that share an address have one place
no-other : (bytes : List ℕ) (a k n : ℕ) (d : Section) → first (elf_rules bytes) ≡ None → k < n → n < length (kept_sections bytes) → Covers a (get_or (kept_sections bytes) k d) → Covers a (get_or (kept_sections bytes) n d) → ⊥
no-other bytes a k n d clean earlier within on other =
    let apart : EndsBefore (get_or (kept_sections bytes) k d) (get_or (kept_sections bytes) n d) = kept_pairs bytes clean k n d earlier within in
    let end = on.1 in
    let start = other.0 in
    omega (arith, apart, end, start)

only-around : (bytes : List ℕ) (a n : ℕ) (u : Section) → first (elf_rules bytes) ≡ None → kept_around bytes a ≡ Some n → Contains (kept_sections bytes) u → Covers a u → get_or (kept_sections bytes) n u ≡ u
unfolding kept_around
only-around bytes a n u clean found here on =
    let on_u : Covers a (get_or (kept_sections bytes) here.0 u) = subst (Covers a) (sym here.2) on in
    let on_n : Covers a (get_or (kept_sections bytes) n u) = around_on (kept_sections bytes) a n u found in
    let low = here.1 in
    elim (cases_lt here.0 n) [
      | inl earlier ↦ absurd (no-other bytes a here.0 n u clean earlier (within-around bytes a n u found) on_u on_n)
      | inr later ↦
          elim (cases_lt n here.0) [
            | inl behind ↦ absurd (no-other bytes a n here.0 u clean behind low on_n on_u)
            | inr not_behind ↦ let same : n ≡ here.0 = omega (arith, later, not_behind) in ap (λ k. get_or (kept_sections bytes) k u) same ∙ here.2
          ]
    ]

pub constant-around : (bytes : List ℕ) (t : Table) (n : ℕ) (d : Section) → first (elf_rules bytes) ≡ None → kept_around bytes t.base ≡ Some n → holds t (get_or (kept_sections bytes) n d) ≡ is_constant bytes t
unfolding kept_around
constant-around bytes t n d clean found = by_any (is_constant bytes t) refl
  where
    by_any : (b : Bool) → is_constant bytes t ≡ b → holds t (get_or (kept_sections bytes) n d) ≡ is_constant bytes t
    by_any true is =
        let held = some-item (holds t) (kept_sections bytes) is in
        let same = only-around bytes t.base n held.0 clean found held.1 (held-base t held.0 held.2) in
        ap (holds t) (get_or_default (kept_sections bytes) n d held.0 (within-around bytes t.base n d found) ∙ same) ∙ held.2 ∙ sym is
    by_any false is =
        elim (cases_Bool (holds t (get_or (kept_sections bytes) n d))) as (λ _. holds t (get_or (kept_sections bytes) n d) ≡ is_constant bytes t) [
          | inl on ↦ absurd (true≢false (sym (one-holds (kept_sections bytes) t (get_or (kept_sections bytes) n d) (around_in (kept_sections bytes) t.base n d found) on) ∙ is))
          | inr off ↦ off ∙ sym is
        ]

-- where no kept section is around the base, none has the table
pub constant-nowhere : (bytes : List ℕ) (t : Table) → kept_around bytes t.base ≡ None → false ≡ is_constant bytes t
unfolding kept_around
constant-nowhere bytes t none = by_any (is_constant bytes t) refl
  where
    by_any : (b : Bool) → is_constant bytes t ≡ b → false ≡ is_constant bytes t
    by_any true is =
        let held = some-item (holds t) (kept_sections bytes) is in
        absurd (around_never (kept_sections bytes) t.base none held.1.0 held.0 (some-place (kept_sections bytes) held.0 held.1) (held-base t held.0 held.2))
    by_any false is = sym is
