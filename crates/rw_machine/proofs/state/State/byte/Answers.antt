use Rattle.std.proofs.Common.{IsSome, subst, sym, ◌↔◌}
use Rattle.rw_domain.specs.Operators.{IsInside}
use Rattle.rw_machine.specs.Views.{rows_of}
use Rattle.rw_machine.proofs.RowLemmas.{byte-inside}
use Rattle.rw_machine.proofs.state.State.byte.Goals as goal

pub returns-clause-inside : goal.returns-clause-inside
returns-clause-inside g c =
    subst (λ o. IsSome o ↔ IsInside (g.D.Domain.placed c.args.self.now.domain).regions c.args.at 1) (sym c.byte.ensures)
    (byte-inside (g.D.Domain.placed c.args.self.now.domain).regions (rows_of c.args.self.now.memory) c.args.at c.args.self.now.laid_out)
