use Rattle.rw_code.proofs.HasPoints.{symbolic-has, symbolic-gives}
use Rattle.rw_code.proofs.laws.symbolic_has_points.Goals as goal

pub returns-clause-points : goal.returns-clause-points
returns-clause-points c file span = symbolic-has file span

pub returns-clause-instructions : goal.returns-clause-instructions
returns-clause-instructions c file bytes clean found = symbolic-gives file bytes clean found
