use Rattle.std.proofs.lemmas.Result.{err_from_is_err_and}
use Rattle.std.specs.Prelude.{◌++◌}
use Rattle.rw_out.specs.Items.{copy_items, items_with, main_items, weak_items}
use Rattle.rw_out.proofs.Pieces.{stop_text, then_text}
use Rattle.rw_out.specs.Kept.{probes_in}
use Rattle.rw_out.proofs.text.write_text.Goals as goal

pub returns-clause-bytes : goal.returns-clause-bytes
unfolding items_with
returns-clause-bytes g c =
    let file = c.args.picture.now in
    let probes = probes_in c.args.probes.now in
    then_text (g.S.Sink.held c.args.sink.now) (g.S.Sink.held c.write_front.new.sink) (g.S.Sink.held c.write_main.new.sink) 0 c.in_ok-done.done c.write_main.result (copy_items file ++ weak_items file probes) (main_items file probes) c.in_ok-done.ensures.bytes c.write_main.ensures.bytes

pub returns-in_err-done-clause-bytes : goal.returns-in_err-done-clause-bytes
unfolding items_with
returns-in_err-done-clause-bytes g c =
    let file = c.args.picture.now in
    let probes = probes_in c.args.probes.now in
    let p = err_from_is_err_and c.from_residual.result c.from_residual.ensures.1 in
    rw (p.1, p.2)
    (stop_text (g.S.Sink.held c.args.sink.now) (g.S.Sink.held c.write_front.new.sink) 0 c.in_err-done.field-0.0 (copy_items file ++ weak_items file probes) (main_items file probes) c.in_err-done.ensures.bytes)
