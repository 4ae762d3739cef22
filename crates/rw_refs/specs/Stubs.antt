-- Stubs: code of a linker that jumps to an imported function, through the slot that holds its address (psABI, "Procedure
-- Linkage Table").
use Rattle.std.specs.Prelude.{ℕ, ◌+◌, ◌-◌, ◌%◌, ◌^◌, List, [], ◌∷◌, length, take, drop, map, codes, ◌&&◌, ◌||◌, ◌==◌, nat_le, Option, Some, None, option_and_then, if◌then◌else◌}
use Rattle.std.specs.Str.{bytes_eq}
use Rattle.byteorder.specs.Endian.{little_number}
use Rattle.rw_base.specs.Rules.{first_some}
use Rattle.rw_base.specs.Width.{sign_extended}
use Rattle.rw_elf.specs.declared.section.Section.{Section}
use Rattle.rw_elf.specs.Places.{section_around, section_bytes}
use Rattle.rw_elf.specs.Tables.{is_named}
use Rattle.rw_reloc.specs.declared.slot.Target.{Target}
use Rattle.rw_reloc.specs.declared.slot.Target.TheVariants.{Import}
use Rattle.rw_reloc.specs.Slots.{slot_at, slots_of}

-- the sections that have stubs
abbrev pub stub_sections : List (List ℕ)
stub_sections = codes ".plt" ∷ codes ".plt.sec" ∷ codes ".plt.got" ∷ []

-- a jump through an address relative to %rip, up to its displacement (SDM, JMP: FF /4, ModRM 25): alone, with the prefix F2,
-- behind endbr64, and both
abbrev pub jumps : List (List ℕ)
jumps =
    (0xff ∷ 0x25 ∷ [])
    ∷ (0xf2 ∷ 0xff ∷ 0x25 ∷ [])
    ∷ (0xf3 ∷ 0x0f ∷ 0x1e ∷ 0xfa ∷ 0xff ∷ 0x25 ∷ [])
    ∷ (0xf3 ∷ 0x0f ∷ 0x1e ∷ 0xfa ∷ 0xf2 ∷ 0xff ∷ 0x25 ∷ [])
    ∷ []

-- the signed displacement of 32 bits behind a jump; it counts from its own end
abbrev pub displacement : List ℕ → List ℕ → ℕ
displacement code jump = sign_extended 32 (little_number 4 (drop (length jump) code))

-- the address that code at an address jumps through, where it begins with this jump and has its displacement
abbrev pub through : ℕ → List ℕ → List ℕ → Option ℕ
through a code jump =
    if nat_le (length jump + 4) (length code) && bytes_eq (take (length jump) code) jump
    then Some ((a + (length jump + 4) + displacement code jump) % 2 ^ 64)
    else None

-- the same of any of the jumps
abbrev pub place_through : ℕ → List ℕ → Option ℕ
place_through a code = first_some (map (through a code) jumps)

-- what a slot of type R_X86_64_GLOB_DAT (6) or R_X86_64_JUMP_SLOT (7) imports
abbrev pub import_of : ℕ → Target → Option ℕ
import_of kind (Import number) = if kind == 6 || kind == 7 then Some number else None
import_of kind _ = None

abbrev pub import_at : List ℕ → ℕ → Option ℕ
import_at bytes a = option_and_then (λ s. import_of s.kind s.target) (slot_at (slots_of bytes) a)

-- the bytes of a section from an address on
abbrev pub bytes_on : List ℕ → ℕ → Section → List ℕ
bytes_on bytes a s = drop (a - s.addr) (section_bytes bytes s)

abbrev pub stub_in : List ℕ → ℕ → Section → Option ℕ
stub_in bytes a s =
    if is_named bytes stub_sections s then option_and_then (import_at bytes) (place_through a (bytes_on bytes a s)) else None

-- the import of the stub at an address, by its number in the DYNSYM
unfoldable pub stub_at : List ℕ → ℕ → Option ℕ
stub_at bytes a = option_and_then (stub_in bytes a) (section_around bytes a)
