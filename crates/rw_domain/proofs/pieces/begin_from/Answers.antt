use Rattle.std.proofs.Common.{arith}
use Rattle.std.proofs.lemmas.Bool.Decides.{nat_tests}
use Rattle.rw_domain.proofs.PiecesFound.{null_piece}
use Rattle.rw_domain.proofs.PiecesAscend.{begins-from}
use Rattle.rw_domain.proofs.pieces.begin_from.Goals as goal

pub returns-then-place-pieces : goal.returns-then-place-pieces
returns-then-place-pieces c = λ _ k d low within. absurd (omega (arith, low, within))

pub returns : goal.returns
returns c = λ holds. begins-from c.args.pieces.now c.args.place c.args.address null_piece c.requires.some c.requires.apart (λ within. grind (arith, nat_tests, holds))
