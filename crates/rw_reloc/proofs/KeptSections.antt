-- The kept section that an address belongs to.
use Rattle.std.proofs.Common.{◌≡◌, ℕ, true, false, List, filter, get_or, slice_get, Option, Some, None, Contains, refl, sym, ap, ◌∙◌, inl, inr}
use Rattle.std.proofs.lemmas.Bool.{cases_Bool}
use Rattle.std.proofs.lemmas.Option.{slice_get-get_or, slice_get_within, get_or_from_slice_get}
use Rattle.std.specs.Option.{is_some, option_map_or}
use Rattle.rw_base.specs.Rules.{first}
use Rattle.rw_elf.specs.declared.section.Section.{Section}
use Rattle.rw_elf.specs.Places.{Covers, covers, kept_around, section_around}
use Rattle.rw_elf.specs.Section.{null_section, sections}
use Rattle.rw_elf.specs.Sections.{placed_sections}
use Rattle.rw_elf.specs.Tables.{elf_rules, is_kept, kept_sections}
use Rattle.rw_elf.proofs.Around.{contains_filter, filter_contains, filter_tests, placed_has, placed_from, covers-parts, covers-whole}
use Rattle.rw_elf.proofs.Clean.{clean_around}
use Rattle.rw_elf.proofs.KeptPlaces.{around_in, around_never, around_on}
use Rattle.rw_reloc.specs.Slots.{is_kept_at}

-- an address of a kept section
pub kept_found : (bytes : List ℕ) (a : ℕ) (s : Section) → first (elf_rules bytes) ≡ None → Contains (kept_sections bytes) s → Covers a s → is_kept_at bytes a ≡ true
unfolding kept_sections is_kept_at
kept_found bytes a s clean here on =
    let from = placed_from bytes s (filter_contains (is_kept bytes) (placed_sections bytes) s here) in
    let around : section_around bytes a ≡ Some s = clean_around bytes a s clean from.0 (covers-whole a s from.1 on) in
    ap (λ o. option_map_or (is_kept bytes) o false) around ∙ filter_tests (is_kept bytes) (placed_sections bytes) s here

is-first : (xs : List Section) (s : Section) → slice_get xs 0 ≡ Some s → Contains xs s
is-first xs s at = (0, slice_get_within xs 0 s at, get_or_from_slice_get xs 0 s s at)

around-covers : (bytes : List ℕ) (a : ℕ) (s : Section) → section_around bytes a ≡ Some s → Contains (placed_sections bytes) s × Covers a s
unfolding section_around
around-covers bytes a s around =
    let here = is-first (filter (covers a) (sections bytes)) s around in
    let parts = covers-parts a s (filter_tests (covers a) (sections bytes) s here) in
    (placed_has bytes s (filter_contains (covers a) (sections bytes) s here) parts.0, parts.1)

-- an address of none
pub kept_missing : (bytes : List ℕ) (a : ℕ) → ((s : Section) → Contains (kept_sections bytes) s → Covers a s → ⊥) → is_kept_at bytes a ≡ false
unfolding kept_sections is_kept_at
kept_missing bytes a none =
    (elim (section_around bytes a) as (λ o. section_around bytes a ≡ o → option_map_or (is_kept bytes) o false ≡ false) [
      | None ↦ λ around. refl
      | Some s ↦ λ around.
          elim (cases_Bool (is_kept bytes s)) as (λ _. is_kept bytes s ≡ false) [
            | inl kept ↦
                let on = around-covers bytes a s around in
                absurd (none s (contains_filter (is_kept bytes) (placed_sections bytes) s on.0 kept) on.1)
            | inr other ↦ other
          ]
    ]) refl

-- an address has the number of a kept section exactly if it belongs to one
pub kept_numbered : (bytes : List ℕ) (a : ℕ) (o : Option ℕ) → first (elf_rules bytes) ≡ None → o ≡ kept_around bytes a → is_some o ≡ is_kept_at bytes a
unfolding kept_around
kept_numbered bytes a None clean is =
    sym (kept_missing bytes a (λ t here on. around_never (kept_sections bytes) a (sym is) here.0 t (slice_get-get_or (kept_sections bytes) here.0 t here.1 ∙ ap Some here.2) on))
kept_numbered bytes a (Some n) clean is =
    sym (kept_found bytes a (get_or (kept_sections bytes) n null_section) clean (around_in (kept_sections bytes) a n null_section (sym is)) (around_on (kept_sections bytes) a n null_section (sym is)))
