use Rattle.std.proofs.Common.{◌≡◌, drop, map, reverse}
use Rattle.asm_items.specs.Lines.{lines_from}
use Rattle.rw_layout.specs.Program.{seen, shown}
use Rattle.rw_layout.specs.Rule.{units_of}
use Rattle.rw_layout.specs.Units.{extent_of, lines_room}
use Rattle.rw_layout.proofs.units.units_back.Given as goal

abbrev pub invariant-loop-i : goal.invariant-loop-i
invariant-loop-i l = record {
  room : l.room ≡ lines_room (lines_from (drop l.i (shown (seen l.text))));
  units : map extent_of l.units.items ≡ reverse (units_of (drop l.i (shown (seen l.text))));
}
