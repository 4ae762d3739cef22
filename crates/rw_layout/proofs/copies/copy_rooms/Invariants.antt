use Rattle.std.proofs.Common.{◌≡◌, map, take}
use Rattle.asm_items.specs.Lines.{copies_of}
use Rattle.rw_layout.specs.Program.{seen, shown}
use Rattle.rw_layout.specs.Rule.{copy_extent}
use Rattle.rw_layout.specs.Units.{extent_of}
use Rattle.rw_layout.proofs.copies.copy_rooms.Given as goal

abbrev pub invariant-loop-i : goal.invariant-loop-i
invariant-loop-i l = map extent_of l.rooms.items ≡ map copy_extent (copies_of (take l.i (shown (seen l.text))))
