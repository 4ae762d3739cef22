use Rattle.std.proofs.Common.{arith}
use Rattle.std.proofs.lemmas.Bool.Decides.{nat_tests}
use Rattle.rw_domain.proofs.PiecesFound.{null_piece}
use Rattle.rw_domain.proofs.PiecesAscend.{ends-by}
use Rattle.rw_domain.proofs.pieces.end_by.Goals as goal

pub returns-then-place-eq0 : goal.returns-then-place-eq0
returns-then-place-eq0 c = λ _ k d low. absurd (omega (arith, low))

pub returns : goal.returns
returns c = λ holds. ends-by c.args.pieces.now c.args.place c.args.address null_piece c.requires.within c.requires.some c.requires.apart (λ positive. grind (arith, nat_tests, holds))
