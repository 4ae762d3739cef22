use Rattle.std.proofs.Common.{◌≡◌, ◌+◌, ◌*◌, sym, ap, ◌∙◌, map, arith, length}
use Rattle.rw_base.specs.declared.width.Width.TheVariants.{Q}
use Rattle.rw_words.specs.declared.atom.Atom.TheVariants.{Ptr}
use Rattle.rw_words.specs.Words.{atom_cells, number_cells}
use Rattle.rw_machine.specs.State.{machine_of}
use Rattle.rw_code.specs.Start.{hosted_offset}
use Rattle.rw_sim.specs.Start.{file_ground, start_with}
use Rattle.rw_sim.proofs.StartPuts.{hosted-end}
use Rattle.rw_sim.proofs.StartRegisters.{hosted-set}
use Rattle.rw_sim.proofs.start.set_hosted.Goals as goal

pub returns : goal.returns
returns c =
    let file = c.args.picture.now in
    let args = c.args.args.now in
    let n = c.count-stack.ensures.count in
    let next : c.count-stack.result + 1 + 1 ≡ length (file_ground file).regions + 2 = omega (arith, n) in
    hosted-set (file_ground file) (start_with args) (machine_of c.args.state.now) c.requires.unknown (machine_of c.set_reg.new.self) (machine_of c.set_reg-2.new.self) (machine_of c.set_reg-3.new.self) (machine_of c.set_reg-4.new.self)
    c.atom.result c.num.result c.atom-2.result c.atom-3.result
    (c.atom.ensures ∙ ap (λ k. atom_cells (Ptr (k + 1) 1048568)) n ∙ ap (λ o. atom_cells (Ptr (length (file_ground file).regions + 1) o)) (hosted-end file args))
    (c.num.ensures ∙ ap (number_cells Q) c.count-count.ensures.count)
    (c.atom-2.ensures ∙ ap (λ k. atom_cells (Ptr k 0)) next)
    (c.atom-3.ensures ∙ ap (λ k. atom_cells (Ptr k (8 * (c.count-count.result + 1)))) next ∙ ap (λ k. atom_cells (Ptr (length (file_ground file).regions + 2) (8 * (k + 1)))) c.count-count.ensures.count)
    c.set_reg.ensures.machine c.set_reg-2.ensures.machine c.set_reg-3.ensures.machine c.set_reg-4.ensures.machine
