use Rattle.std.proofs.Common.{◌≡◌, ◌+◌, ◌-◌, ◌<◌, ◌∷◌, suc, drop, length, ap, ◌∙◌, arith}
use Rattle.asm_items.specs.Lines.{Items, counters_number}
use Rattle.asm_items.specs.Named.{named}
use Rattle.rw_layout.specs.Program.{shown}
use Rattle.rw_layout.proofs.Lines.{shown-at}
use Rattle.rw_layout_tests.proofs.LookUps.{drop-at, line-at}
use Rattle.rw_layout_tests.proofs.looked.regions_before_counters.Goals as goal

pub loop-i-preserved : goal.loop-i-preserved
loop-i-preserved c =
    let program = c.args.program.now in
    let lines : Items = shown program in
    let k = c.loop-i.i - 1 in
    let item = c.index.result.now in
    let within : k < length program.items = omega (arith, c.loop-i.invariant.1) in
    let here = shown-at program.names program.items k item (line-at c.text.result.now program c.text.ensures.text k within item c.index.ensures) in
    let next : suc k ≡ c.loop-i.i = omega arith in
    let rest : drop k lines ≡ named program.names item ∷ drop c.loop-i.i lines = drop-at lines k (named program.names item) here ∙ ap (λ n. named program.names item ∷ drop n lines) next in
    let step = c.regions_of-count.ensures.count program.names (drop c.loop-i.i lines) in
    let count : counters_number (drop k lines) ≡ c.regions_of-count.result + counters_number (drop c.loop-i.i lines) = ap counters_number rest ∙ step in
    (omega (arith, count, c.loop-i.invariant.0), omega (arith, c.loop-i.invariant.1, c.regions_of-count.ensures.few))
