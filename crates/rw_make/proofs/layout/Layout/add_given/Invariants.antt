use Rattle.std.proofs.Common.{List, ◌++◌, map, take}
use Rattle.rw_make.specs.Image.{Piece, given}
use Rattle.rw_make.specs.Layout.{Holds}
use Rattle.rw_make.proofs.layout.Layout.add_given.Given as goal

abbrev pub invariant-loop-section : goal.invariant-loop-section
invariant-loop-section l = (pieces : List Piece) → Holds pieces l.initial.self → Holds (pieces ++ map given (take l.section-index l.sections)) l.self
