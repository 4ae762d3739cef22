use Rattle.rw_base.specs.Places.{ArePlacesBelow}
use Rattle.rw_base.proofs.places.passing_places.Given as goal

abbrev pub invariant-loop-place : goal.invariant-loop-place
invariant-loop-place g l = ArePlacesBelow g.T.ByteTest.test l.place l.bytes l.list.items
