-- Whether the text of a file can have names besides those of its functions, its entry and its counters.
use Rattle.std.specs.Prelude.{ℕ, ◌==◌, List, length, Bool, true, false, ◌&&◌}
use Rattle.std.specs.List.{list_all}
use Rattle.rw_reloc.specs.declared.slot.Target.{Target}
use Rattle.rw_reloc.specs.declared.slot.Target.TheVariants as target
use Rattle.rw_reloc.specs.Slots.{copies_of, slots_of}

abbrev pub is_address : Target → Bool
is_address (target.To a) = true
is_address _ = false

-- no symbol is copied, and each slot has the address of a place in the file
abbrev pub imports_nothing : List ℕ → Bool
imports_nothing file = (length (copies_of file) == 0) && list_all (λ s. is_address s.target) (slots_of file)
