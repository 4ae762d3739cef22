use Rattle.std.proofs.Common.{◌∙◌, sym, ap, Some, Ok}
use Rattle.rw_domain.specs.declared.cause.Cause.TheVariants.{ByteUnknown}
use Rattle.rw_machine.specs.Events.{if_known}
use Rattle.rw_machine.specs.Running.{range_at}
use Rattle.rw_sim.specs.Asked.{operators_of, memory_of}
use Rattle.rw_sim.specs.Builtins.{byte_numbers}
use Rattle.rw_sim.proofs.RangeBytes.{numbers-more, numbers-none, range-whole}
use Rattle.rw_sim.proofs.asked.Asked.numbers_of.Goals as goal

pub loop-i-preserved : goal.loop-i-preserved
loop-i-preserved g c =
    numbers-more (operators_of c.args.self.now) (range_at (memory_of c.args.self.now) c.args.start c.args.len) c.loop-i.i c.byte_of.result c.loop-i.numbers.items c.in-Some.number c.byte_of.ensures
    (sym c.byte_number.ensures ∙ c.in-Some.is) c.loop-i.invariant
    ∙ ap Some (sym c.in_ok-push-in-Some.ensures.items)

pub returns-in-None : goal.returns-in-None
returns-in-None g c =
    ap (λ o. if_known Ok ByteUnknown o)
    (numbers-none (operators_of c.args.self.now) (range_at (memory_of c.args.self.now) c.args.start c.args.len) c.loop-i.i c.byte_of.result c.byte_of.ensures (sym c.byte_number.ensures ∙ c.in-None.is))

pub returns : goal.returns
returns g c =
    ap (λ o. if_known Ok ByteUnknown o)
    (ap (byte_numbers (operators_of c.args.self.now)) (sym (range-whole (memory_of c.args.self.now) c.args.start c.args.len c.loop-i.i c.loop-i-test.false)) ∙ c.loop-i.invariant)
