-- The reference of an address of the file: what the address stands for wherever the file is loaded.
use Rattle.std.specs.Prelude.{ℕ, ◌+◌, ◌-◌, List, [], ◌∷◌, length, Bool, ◌==◌, Option, Some, None, option_map, slice_get, position, if◌then◌else◌}
use Rattle.std.specs.Option.{option_map_or}
use Rattle.rw_base.specs.Rules.{first_some}
use Rattle.rw_words.specs.declared.atom.Atom.{Atom}
use Rattle.rw_words.specs.declared.atom.Atom.TheVariants.{Ptr, Code, Import}
use Rattle.rw_elf.specs.declared.section.Section.{Section}
use Rattle.rw_elf.specs.Places.{kept_around, kept_ending}
use Rattle.rw_elf.specs.Tables.{kept_sections}
use Rattle.rw_reloc.specs.Slots.{copies_of, copy_around}
use Rattle.rw_funcs.specs.Points.{is_point, file_points}
use Rattle.rw_refs.specs.Stubs.{stub_at}

-- ---- data: the regions are the kept sections, numbered by address, and then the copies

abbrev pub starts_at : ℕ → Section → Bool
starts_at a s = s.addr == a

-- the offset in the item with a number
abbrev pub offset_in : {A : Type 0} → List A → (A → ℕ) → ℕ → ℕ
offset_in list offset k = option_map_or offset (slice_get list k) 0

-- inside the place of a copy
abbrev pub copy_at : List ℕ → ℕ → Option Atom
copy_at bytes a =
    option_map (λ k. Ptr (length (kept_sections bytes) + k) (offset_in (copies_of bytes) (λ s. a - s.address) k)) (copy_around bytes a)

-- the start of a kept section, an address inside one, and the end of one
abbrev pub start_at : List ℕ → ℕ → Option Atom
start_at bytes a = option_map (λ k. Ptr k 0) (position (starts_at a) (kept_sections bytes))

abbrev pub inside_at : List ℕ → ℕ → Option Atom
inside_at bytes a = option_map (λ k. Ptr k (offset_in (kept_sections bytes) (λ s. a - s.addr) k)) (kept_around bytes a)

abbrev pub end_at : List ℕ → ℕ → Option Atom
end_at bytes a = option_map (λ k. Ptr k (offset_in (kept_sections bytes) (λ s. s.size) k)) (kept_ending bytes a)

-- a place in data: the first that applies
abbrev pub data_at : List ℕ → ℕ → Option Atom
data_at bytes a = first_some (copy_at bytes a ∷ start_at bytes a ∷ inside_at bytes a ∷ end_at bytes a ∷ [])

-- ---- code

-- a point
abbrev pub point_at : List ℕ → ℕ → Option Atom
point_at bytes a = if is_point (file_points bytes) a then Some (Code a) else None

-- a stub
abbrev pub import_through : List ℕ → ℕ → Option Atom
import_through bytes a = option_map Import (stub_at bytes a)

-- ---- the first that applies

-- of a jump or call that names its target
unfoldable pub target_at : List ℕ → ℕ → Option Atom
target_at bytes a = first_some (point_at bytes a ∷ import_through bytes a ∷ [])

-- of any other address
unfoldable pub reference_at : List ℕ → ℕ → Option Atom
reference_at bytes a =
    first_some (copy_at bytes a ∷ start_at bytes a ∷ inside_at bytes a ∷ end_at bytes a ∷ point_at bytes a ∷ import_through bytes a ∷ [])
