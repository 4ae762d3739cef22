use Rattle.std.proofs.Common.{◌+◌, take, drop, ◌∙◌, rules}
use Rattle.std.specs.Io.KnownBytes.{Appends}
use Rattle.std.proofs.KnownBytes.{Appends-trans}
use Rattle.std.proofs.lemmas.List.{take_rest}
use Rattle.std.proofs.Math.Seq.{take-add}
use Rattle.rw_io.proofs.outside.write_all.Goals as goal

pub loop-done-preserved : goal.loop-done-preserved
loop-done-preserved g c =
    let held = g.S.Sink.held in
    let first = take c.loop-done.done c.args.bytes.now in
    let next = take c.in-Ok.taken (drop c.loop-done.done c.args.bytes.now) in
    let both : Appends (held c.args.sink.now) (held c.write.new.self) (take (c.loop-done.done + c.in-Ok.taken) c.args.bytes.now) =
    rw (take-add c.loop-done.done c.in-Ok.taken c.args.bytes.now) (Appends-trans _ _ _ first next c.loop-done.invariant.appended (rw (take_rest c.args.bytes.now c.loop-done.done) at c.in-Ok.ensures.bytes)) in
    record {
      within = search rules;
      appended = both;
      same = c.in-Ok.ensures.cause ∙ c.loop-done.invariant.same;
    }
