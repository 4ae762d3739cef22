use Rattle.std.proofs.Common.{◌≡◌, ◌-◌, ◌+◌, suc, ◌∙◌, arith}
use Rattle.rw_machine.specs.Views.{rows_of}
use Rattle.rw_machine.proofs.Places.{written-next}
use Rattle.rw_machine.proofs.stores.write_elements.Goals as goal

pub loop-i-preserved : goal.loop-i-preserved
loop-i-preserved g c =
    let left : c.args.count - c.loop-i.i ≡ suc (c.args.count - (c.loop-i.i + 1)) = omega (arith, c.loop-i-test.true) in
    record {
      rest =
          written-next (g.D.Domain.over (g.D.Domain.placed c.args.domain.now)) c.args.step (c.args.count - c.loop-i.i) (c.args.count - (c.loop-i.i + 1))
          (rows_of c.loop-i.memory) (rows_of c.write_element.new.memory) c.loop-i.source c.loop-i.target c.advanced-source.result c.advanced-target.result
          left c.write_element.ensures.rows c.advanced-source.ensures c.advanced-target.ensures
          ∙ c.loop-i.invariant.rest;
      lengths = c.write_element.ensures.lengths ∙ c.loop-i.invariant.lengths;
      undefined = c.write_element.ensures.undefined ∙ c.loop-i.invariant.undefined;
    }
