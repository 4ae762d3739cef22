use Rattle.std.proofs.Common.{ap, arith}
use Rattle.std.proofs.lemmas.List.{length-map}
use Rattle.asm_items.specs.Named.{named}
use Rattle.asm_items.specs.Lines.{Items}
use Rattle.rw_layout.specs.Program.{seen, shown}
use Rattle.rw_layout.proofs.UnitFacts.{functions-few, sections-few}
use Rattle.rw_layout.proofs.program.Program.units.Goals as goal

pub overflow_add-result : goal.overflow_add-result
overflow_add-result c =
    let text = c.self.inside.text in
    let items : Items = shown (seen text) in
    let all = length-map text.items.items (named text.names) in
    let functions = functions-few items in
    let sections = sections-few items in
    let f = ap (λ n. n.functions) c.count_units-counts.ensures in
    let s = ap (λ n. n.sections) c.count_units-counts.ensures in
    omega (arith, all, functions, sections, f, s, c.self.invariant.0.few)
