-- The words of the references and of the points of a file's program have width Q.
use Rattle.std.specs.Prelude.{ℕ, List, Option, Some, None}
use Rattle.std.proofs.Common.{refl}
use Rattle.rw_words.specs.declared.atom.Atom.{Atom}
use Rattle.rw_domain.specs.Placed.{Placed}
use Rattle.rw_domain.specs.Symbols.{symbols_over}
use Rattle.rw_machine.specs.Program.{IsWide, GivesWords}
use Rattle.rw_code.specs.declared.point.FilePoint.{FilePoint}
use Rattle.rw_code.specs.declared.point.FilePoint.TheVariants.{At, Past}
use Rattle.rw_code.specs.File.{point_word, reference_word, refers, symbolic}

reference-wide : (placed : Placed) (o : Option Atom) → IsWide (symbols_over placed) (reference_word o)
reference-wide placed None = refl
reference-wide placed (Some a) = refl

point-wide : (placed : Placed) (p : FilePoint) → IsWide (symbols_over placed) (point_word p)
point-wide placed (At a) = refl
point-wide placed (Past start) = refl

pub words-wide : (file : List ℕ) (placed : Placed) → GivesWords (symbols_over placed) (symbolic file)
words-wide file placed = record {
  references = λ r direct. reference-wide placed (refers file r direct);
  points = point-wide placed;
}
