use Rattle.std.proofs.Common.{◌∙◌, ap, length, map}
use Rattle.rw_machine.specs.Step.{filling}
use Rattle.rw_machine.proofs.RowLemmas.{first-laid}
use Rattle.rw_machine.proofs.state.State.new.Goals as goal

pub invariant_of-result : goal.invariant_of-result
invariant_of-result g c = record {
  laid_out =
      ap (map length) c.in_ok-memory.ensures.rows
      ∙ first-laid (filling (g.D.Domain.over (g.D.Domain.placed c.args.domain))) (g.D.Domain.placed c.args.domain).regions;
  undefined = c.in_ok-memory.ensures.undefined;
}
