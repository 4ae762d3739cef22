use Rattle.std.proofs.Common.{refl, sym, ap, arith, ◌<◌, length}
use Rattle.std.proofs.lemmas.Option.{slice_get-get_or}
use Rattle.rw_words.specs.declared.atom.Cell.TheVariants.{Num}
use Rattle.rw_machine.specs.State.{machine_of}
use Rattle.rw_sim.proofs.WrittenRows.{cell-put, none-written}
use Rattle.rw_sim.proofs.start.cells.put.Goals as goal

pub loop-i-init : goal.loop-i-init
loop-i-init c = ap (λ rows. record (machine_of c.args.state.now) { memory = rows }) (sym (none-written (machine_of c.args.state.now).memory c.args.at))

pub loop-i-preserved : goal.loop-i-preserved
loop-i-preserved c =
    let cells = c.args.cells.now in
    let low : c.loop-i.i < length cells = omega arith in
    cell-put (machine_of c.args.state.now) (machine_of c.loop-i.state) (machine_of c.put.new.self) c.args.at cells c.loop-i.i _ _ refl (slice_get-get_or cells c.loop-i.i (Num 0) low) c.requires.range c.loop-i.invariant c.in_ok-put.ensures.machine
