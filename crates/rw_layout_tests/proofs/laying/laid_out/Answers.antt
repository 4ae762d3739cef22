use Rattle.std.proofs.Common.{length, ap, arith}
use Rattle.std.proofs.lemmas.List.{length-map}
use Rattle.asm_items.specs.Named.{named}
use Rattle.rw_layout.specs.Program.{Numbered, shown}
use Rattle.rw_layout_tests.proofs.LookUps.{units-few}
use Rattle.rw_layout_tests.proofs.laying.laid_out.Goals as goal

pub layout-requires-clause-few : goal.layout-requires-clause-few
layout-requires-clause-few g c =
    let program = c.args.program.now in
    let few = units-few (shown program) in
    let same = length-map program.items (named program.names) in
    let read = ap (λ (t : Numbered). length t.items) c.text.ensures.text in
    omega (arith, few, same, read, c.len.ensures)
