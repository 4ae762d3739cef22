use Rattle.std.proofs.Common.{◌≡◌, ◌∙◌, ◌+◌, ◌-◌, sym, ap, arith, Ok, Some, None, pos}
use Rattle.rw_sim.specs.Asked.{operators_of, memory_of}
use Rattle.rw_sim.specs.Builtins.{string_at, string_length, string_within, longest}
use Rattle.rw_sim.proofs.Meeting.{same-stop}
use Rattle.rw_sim.proofs.StringBytes.{counted, string-is, is_other, count-begins, count-fails, count-ends, count-goes_on, count-is_long}
use Rattle.rw_sim.proofs.asked.Asked.length.Goals as goal

pub loop-left-init : goal.loop-left-init
loop-left-init g c =
    count-begins (operators_of c.args.self.now) (memory_of c.args.self.now) (string_at (operators_of c.args.self.now) (memory_of c.args.self.now) c.args.start)
    ∙ ap (counted (operators_of c.args.self.now) (memory_of c.args.self.now) 0) (string-is (operators_of c.args.self.now) (memory_of c.args.self.now) c.args.start)

pub returns-in_err-byte : goal.returns-in_err-byte
returns-in_err-byte g c =
    same-stop (string_length (operators_of c.args.self.now) (memory_of c.args.self.now) c.args.start) c.in_err-byte.field-0.0 c.from_residual.result
    (c.loop-left.invariant ∙ count-fails (operators_of c.args.self.now) (memory_of c.args.self.now) (longest - c.loop-left.left) c.loop-left.left c.loop-left.at c.in_err-byte.field-0.0 c.loop-left-test.true (sym c.byte_at.ensures ∙ c.in_err-byte.was))
    c.from_residual.ensures.1

pub returns-then-byte-eq0 : goal.returns-then-byte-eq0
returns-then-byte-eq0 g c =
    sym (c.loop-left.invariant ∙ count-ends (operators_of c.args.self.now) (memory_of c.args.self.now) (longest - c.loop-left.left) c.loop-left.left c.loop-left.at c.loop-left-test.true (sym c.byte_at.ensures ∙ c.in_ok-byte.was ∙ ap Ok c.if-byte-eq0.true))

pub loop-left-preserved : goal.loop-left-preserved
loop-left-preserved g c =
    c.loop-left.invariant
    ∙ count-goes_on (operators_of c.args.self.now) (memory_of c.args.self.now) (longest - c.loop-left.left) c.loop-left.left c.loop-left.at c.in_ok-byte.byte c.loop-left-test.true (sym c.byte_at.ensures ∙ c.in_ok-byte.was) (is_other c.in_ok-byte.byte c.if-byte-eq0.false)
    ∙ ap (λ k. counted (operators_of c.args.self.now) (memory_of c.args.self.now) k (string_within (operators_of c.args.self.now) (memory_of c.args.self.now) (c.loop-left.left - 1) ((operators_of c.args.self.now).sum (Some c.loop-left.at) None (pos 1))))
    (let some = c.loop-left-test.true in let few = c.loop-left.auto.left-fits in let e : longest - c.loop-left.left + 1 ≡ longest - (c.loop-left.left - 1) = omega (arith, some, few) in e)
    ∙ ap (λ v. counted (operators_of c.args.self.now) (memory_of c.args.self.now) (longest - (c.loop-left.left - 1)) (string_within (operators_of c.args.self.now) (memory_of c.args.self.now) (c.loop-left.left - 1) v))
    (sym (c.sum-at.ensures ∙ ap (λ d. (g.D.Domain.over (g.D.Domain.placed d)).sum (Some c.loop-left.at) None (pos 1)) c.domain.ensures))

pub returns : goal.returns
returns g c =
    sym (c.loop-left.invariant ∙ count-is_long (operators_of c.args.self.now) (memory_of c.args.self.now) (longest - c.loop-left.left) c.loop-left.left c.loop-left.at c.loop-left-test.false)
