use Rattle.std.proofs.Common.{◌≡◌, ◌++◌, drop, map}
use Rattle.rw_layout.specs.Rule.{bases_from, behind_all}
use Rattle.rw_layout.specs.Units.{extent_of}
use Rattle.rw_layout.proofs.bases.place.Given as goal

abbrev pub invariant-loop-room : goal.invariant-loop-room
invariant-loop-room l = record {
  list : l.list.items ++ bases_from l.gap l.end (map extent_of (drop l.room-index l.rooms)) ≡ bases_from l.gap l.cursor (map extent_of l.rooms);
  end : behind_all l.gap l.end (map extent_of (drop l.room-index l.rooms)) ≡ behind_all l.gap l.cursor (map extent_of l.rooms);
}
