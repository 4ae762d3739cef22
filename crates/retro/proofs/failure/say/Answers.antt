use Rattle.std.proofs.Common.{◌≡◌, ◌∙◌, ap, subst, List, ℕ, [], ◌++◌}
use Rattle.std.specs.Prelude.{codes}
use Rattle.rw_io.specs.WriteAll.{WritesAll}
use Rattle.asm_print.specs.Line.{cut}
use Rattle.asm_print.proofs.Cut.{cut-short, cut-then}
use Rattle.retro.specs.Failure.{failure_text}
use Rattle.retro.specs.Call.{message}
use Rattle.retro.proofs.Short.{message-le}
use Rattle.retro.proofs.failure.say.Goals as goal

pub returns-clause-bytes : goal.returns-clause-bytes
returns-clause-bytes g c =
    let text = failure_text c.args.failure in
    let head = codes "retro: " in
    let one = c.put_str.new.self.bytes.items in
    let two = c.put_failure.new.line.bytes.items in
    let all = c.put_str-2.new.self.bytes.items in
    let first : one ≡ cut ([] ++ head) = c.put_str.ensures ∙ ap (λ (x : List ℕ). cut (x ++ head)) c.new-line.ensures in
    let whole : all ≡ cut ([] ++ ((head ++ text) ++ codes "\n")) = cut-then [] (head ++ text) (codes "\n") two all (cut-then [] head text one two first c.put_failure.ensures) c.put_str-2.ensures in
    let same : c.deref.result.now ≡ message text = c.deref.ensures.0 ∙ whole ∙ cut-short (message text) (message-le c.args.failure) in
    subst (λ x. WritesAll (g.E.Sink.held c.args.err.now) (g.E.Sink.held c.write_all.new.sink) c.write_all.result x) same c.write_all.ensures.bytes
