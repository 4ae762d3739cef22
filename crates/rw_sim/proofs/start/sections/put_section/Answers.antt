use Rattle.std.proofs.Common.{◌+◌, ◌≡◌, length, Some, sym, ap, subst, ◌∙◌, arith}
use Rattle.std.proofs.lemmas.List.{take_all}
use Rattle.rw_machine.specs.Running.{written_at}
use Rattle.rw_machine.specs.State.{machine_of}
use Rattle.rw_machine.specs.Views.{HasRange}
use Rattle.rw_data.specs.Regions.{start_cells}
use Rattle.rw_sim.proofs.FileRows.{start-cell-at, start-length}
use Rattle.rw_sim.proofs.WrittenRows.{cell-put}
use Rattle.rw_sim.proofs.start.sections.put_section.Goals as goal

pub loop-offset-preserved : goal.loop-offset-preserved
loop-offset-preserved c =
    let file = c.args.picture.now in
    let s = c.args.section.now in
    let o = c.loop-offset.offset in
    let at : 0 + o ≡ o = omega arith in
    cell-put (machine_of c.args.state.now) (machine_of c.loop-offset.state) (machine_of c.put.new.self) (record { region = c.args.region; offset = 0 }) (start_cells file s) o o c.start_cell-cell.result at
    (start-cell-at file s o c.loop-offset-test.true ∙ ap Some (sym c.start_cell-cell.ensures))
    (subst (λ n. HasRange (machine_of c.args.state.now).memory (record { region = c.args.region; offset = 0 }) n) (sym (start-length file s)) c.requires.range)
    c.loop-offset.invariant c.in_ok-put.ensures.machine

pub returns : goal.returns
returns c =
    let file = c.args.picture.now in
    let s = c.args.section.now in
    let long = start-length file s in
    let end = c.loop-offset-test.false in
    c.loop-offset.invariant
    ∙ ap (λ cells. record (machine_of c.args.state.now) { memory = written_at (machine_of c.args.state.now).memory (record { region = c.args.region; offset = 0 }) cells }) (take_all c.loop-offset.offset (start_cells file s) (omega (arith, long, end)))
