use Rattle.std.proofs.Common.{◌∙◌, ◌-◌, sym, ap, Ok, Some, None, pos}
use Rattle.rw_sim.specs.Asked.{operators_of, memory_of}
use Rattle.rw_sim.specs.Builtins.{string_at, string_within, longest}
use Rattle.rw_sim.proofs.Meeting.{meets-stop}
use Rattle.rw_sim.proofs.StringBytes.{joined, string-begins, string-fails, string-ends, string-goes_on, string-is_long, is_other}
use Rattle.rw_sim.proofs.asked.Asked.string.Goals as goal

pub loop-left-init : goal.loop-left-init
loop-left-init g c =
    string-begins (operators_of c.args.self.now) (memory_of c.args.self.now) c.args.start
    ∙ ap (λ xs. joined xs (string_within (operators_of c.args.self.now) (memory_of c.args.self.now) longest c.args.start)) (sym c.new-bytes.ensures.items)

pub returns-in_err-byte : goal.returns-in_err-byte
returns-in_err-byte g c =
    meets-stop (λ bytes. bytes.items) (string_at (operators_of c.args.self.now) (memory_of c.args.self.now) c.args.start) c.in_err-byte.field-0.0 c.from_residual.result
    (c.loop-left.invariant ∙ string-fails (operators_of c.args.self.now) (memory_of c.args.self.now) c.loop-left.bytes.items c.loop-left.left c.loop-left.at c.in_err-byte.field-0.0 c.loop-left-test.true (sym c.byte_at.ensures ∙ c.in_err-byte.was))
    c.from_residual.ensures.1

pub returns-then-byte-eq0 : goal.returns-then-byte-eq0
returns-then-byte-eq0 g c =
    c.loop-left.invariant
    ∙ string-ends (operators_of c.args.self.now) (memory_of c.args.self.now) c.loop-left.bytes.items c.loop-left.left c.loop-left.at c.loop-left-test.true (sym c.byte_at.ensures ∙ c.in_ok-byte.was ∙ ap Ok c.if-byte-eq0.true)

pub loop-left-preserved : goal.loop-left-preserved
loop-left-preserved g c =
    c.loop-left.invariant
    ∙ string-goes_on (operators_of c.args.self.now) (memory_of c.args.self.now) c.loop-left.bytes.items c.loop-left.left c.loop-left.at c.in_ok-byte.byte c.loop-left-test.true (sym c.byte_at.ensures ∙ c.in_ok-byte.was) (is_other c.in_ok-byte.byte c.if-byte-eq0.false)
    ∙ ap (λ xs. joined xs (string_within (operators_of c.args.self.now) (memory_of c.args.self.now) (c.loop-left.left - 1) ((operators_of c.args.self.now).sum (Some c.loop-left.at) None (pos 1)))) (sym c.in_ok-push.ensures.items)
    ∙ ap (λ v. joined c.push.new.self.items (string_within (operators_of c.args.self.now) (memory_of c.args.self.now) (c.loop-left.left - 1) v))
    (sym (c.sum-at.ensures ∙ ap (λ d. (g.D.Domain.over (g.D.Domain.placed d)).sum (Some c.loop-left.at) None (pos 1)) c.domain.ensures))

pub returns : goal.returns
returns g c =
    c.loop-left.invariant
    ∙ string-is_long (operators_of c.args.self.now) (memory_of c.args.self.now) c.loop-left.bytes.items c.loop-left.left c.loop-left.at c.loop-left-test.false
