-- Slots: the places that entries fill.
use Rattle.std.specs.Prelude.{ℕ, ◌+◌, ◌<◌, ◌≤◌, ◌&&◌, List, map, filter, find, position, Bool, false, ◌==◌, nat_le, nat_lt, Option, slice_get}
use Rattle.std.specs.Option.{option_map_or}
use Rattle.rw_elf.specs.Places.{section_around}
use Rattle.rw_elf.specs.Tables.{is_kept}
use Rattle.rw_reloc.specs.declared.entry.Entry.{Entry}
use Rattle.rw_reloc.specs.declared.slot.Slot.{Slot}
use Rattle.rw_reloc.specs.declared.slot.Target.TheVariants.{To}
use Rattle.rw_reloc.specs.Entries.{entries}
use Rattle.rw_reloc.specs.Targets.{target_of, target_size}

-- the address belongs to a kept section
unfoldable pub is_kept_at : List ℕ → ℕ → Bool
is_kept_at bytes a = option_map_or (is_kept bytes) (section_around bytes a) false

unfoldable pub slot_of : List ℕ → Entry → Slot
slot_of bytes e = record {
  address = e.offset;
  kind = e.kind;
  target = target_of bytes e;
  kept = is_kept_at bytes e.offset;
}

-- the slots of a file, in the order of its entries
unfoldable pub slots_of : List ℕ → List Slot
slots_of bytes = map (slot_of bytes) (entries bytes)

-- the one begins before the other, and ends at or below where that begins
abbrev pub EndsBefore : Slot → Slot → Type 0
EndsBefore s t = (s.address < t.address) × (s.address + target_size s.target ≤ t.address)

abbrev pub starts_at : ℕ → Slot → Bool
starts_at a s = s.address == a

-- the slot that starts at an address; of slots without an overlap there is one at most
unfoldable pub slot_at : List Slot → ℕ → Option Slot
slot_at slots a = slice_get (filter (starts_at a) slots) 0

-- the address is one of the slot's
abbrev pub takes : ℕ → Slot → Bool
takes a s = nat_le s.address a && nat_lt a (s.address + target_size s.target)

-- the slot that an address belongs to; of slots without an overlap there is one at most
unfoldable pub slot_around : List Slot → ℕ → Option Slot
slot_around slots a = find (takes a) slots

-- the slots to which a symbol is copied, by address: R_X86_64_COPY is 5
abbrev pub is_copy_slot : Slot → Bool
is_copy_slot s = s.kind == 5

unfoldable pub copies_of : List ℕ → List Slot
copies_of bytes = filter is_copy_slot (slots_of bytes)

-- the number of the copy that an address belongs to
unfoldable pub copy_around : List ℕ → ℕ → Option ℕ
copy_around bytes a = position (takes a) (copies_of bytes)

-- a slot whose fields are all 0
abbrev pub null_slot : Slot
null_slot = record { address = 0; kind = 0; target = To 0; kept = false }
