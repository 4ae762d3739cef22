-- The bytes of copies in kept sections.
use Rattle.std.proofs.Common.{◌≡◌, ◌≤◌, ◌<◌, ◌^◌, ◌+◌, ◌-◌, ℕ, Bool, true, false, ◌==◌, List, [], ◌∷◌, ◌++◌, length, take, slice_get, get_or, Option, Some, None, Contains, refl, sym, ◌∙◌, ap, subst, arith}
use Rattle.std.specs.Prelude.{nat_le, option_map}
use Rattle.std.specs.Option.{option_map_or, option_and_then}
use Rattle.std.specs.List.{filter_map}
use Rattle.std.proofs.lemmas.Bool.{and_parts}
use Rattle.std.proofs.lemmas.Bool.Decides.{nat_tests}
use Rattle.std.proofs.lemmas.List.{take_more}
use Rattle.std.proofs.lemmas.List.Elements.{filter_map-append}
use Rattle.std.proofs.lemmas.Option.{slice_get-get_or}
use Rattle.rw_elf.specs.declared.section.Section.{Section}
use Rattle.rw_elf.specs.Places.{kept_around, section_around}
use Rattle.rw_elf.specs.Sections.{is_writable}
use Rattle.rw_elf.specs.Tables.{kept_sections}
use Rattle.rw_elf.proofs.Around.{filter_contains}
use Rattle.rw_elf.proofs.Limits.{placed_below}
use Rattle.rw_reloc.specs.declared.slot.Slot.{Slot}
use Rattle.rw_reloc.specs.Relocations.{holds}
use Rattle.rw_reloc.specs.Slots.{copies_of, is_copy_slot, slots_of}
use Rattle.rw_reloc.specs.Targets.{target_size}
use Rattle.rw_reloc.proofs.SlotFacts.{held}
use Rattle.rw_domain.specs.declared.place.Hole.{Hole}
use Rattle.rw_data.specs.FirstFault.{first_fault}
use Rattle.rw_data.proofs.Clean.{IsClean, around-covers, each_clean}
use Rattle.rw_code.specs.Ground.{hole_from, hole_in}

-- the hole of a copy
abbrev pub hole_for : List ℕ → Slot → Option Hole
hole_for file c = option_and_then (hole_in file c) (kept_around file c.address)

held-low : (file : List ℕ) (s : Slot) (o : Option Section) → IsClean file → section_around file s.address ≡ o → option_map_or (holds s.address (target_size s.target) (s.kind == 5)) o false ≡ true → s.address + target_size s.target ≤ 2 ^ 47
held-low file s None clean e h = absurd (cc)
held-low file s (Some u) clean e h =
    let around = around-covers file s.address u e in
    let end = placed_below file u clean.elf around.0 around.1 in
    let fits = le (s.address + target_size s.target) (u.addr + u.size) (and_parts (nat_le (s.address + target_size s.target) (u.addr + u.size)) _ (and_parts (is_writable u) _ h).1).0 in
    omega (arith, end, fits)
  where
    le : (m n : ℕ) → nat_le m n ≡ true → m ≤ n
    le m n g = grind (arith, nat_tests)

-- a copy ends at a low address
pub copy-low : (file : List ℕ) (c : Slot) → first_fault file ≡ None → Contains (copies_of file) c → c.address + target_size c.target ≤ 2 ^ 47
unfolding copies_of
copy-low file c clean here =
    let each = each_clean file clean in
    held-low file c (section_around file c.address) each refl (held file c each.relocations (filter_contains is_copy_slot (slots_of file) c here))

-- the hole, by the section
pub hole-there : (file : List ℕ) (c : Slot) (k : ℕ) (d : Section) → kept_around file c.address ≡ Some k → k < length (kept_sections file) → hole_for file c ≡ Some (hole_from c k (get_or (kept_sections file) k d).addr)
hole-there file c k d found within = ap (option_and_then (hole_in file c)) found ∙ ap (option_map (λ s. hole_from c k s.addr)) (slice_get-get_or (kept_sections file) k d within)

-- one more copy
pub holes-more : {X Y : Type 0} (f : X → Option Y) (xs : List X) (k : ℕ) (d : X) → k < length xs → filter_map f (take (k + 1) xs) ≡ filter_map f (take k xs) ++ filter_map f (get_or xs k d ∷ [])
holes-more f xs k d low = ap (filter_map f) (take_more xs k d low) ∙ filter_map-append f (take k xs) (get_or xs k d ∷ [])
