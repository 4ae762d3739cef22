use Rattle.std.proofs.Common.{◌∷◌, ◌++◌, ap}
use Rattle.asm_items.specs.declared.item.Item.TheVariants as items
use Rattle.rw_out.specs.Items.{with_symbols}
use Rattle.rw_out.specs.Positions.{points_on}
use Rattle.rw_out.proofs.steps.counting_step.Goals as goal

pub returns-in-Some : goal.returns-in-Some
returns-in-Some c = λ file probes past formed. (ap (λ xs. xs ++ items.Ins (with_symbols file c.args.insn) ∷ points_on file probes c.args.k c.args.next) c.in-Some.ensures.0, (past, formed, c.in-Some.ensures.1), c.requires)

pub returns-in-None : goal.returns-in-None
returns-in-None c = λ file probes past formed. (ap (λ xs. xs ++ items.Ins (with_symbols file c.args.insn) ∷ points_on file probes c.args.k c.args.next) c.in-None.ensures, (past, formed), c.requires)
