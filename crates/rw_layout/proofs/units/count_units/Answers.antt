use Rattle.std.proofs.Common.{◌≡◌, ◌-◌, drop, sym, ap, ◌∙◌, arith}
use Rattle.std.proofs.lemmas.List.{drop_all, length-map, length-drop}
use Rattle.asm_items.specs.Named.{named}
use Rattle.asm_items.specs.Lines.{Items}
use Rattle.rw_layout.specs.Program.{seen, shown}
use Rattle.rw_layout.specs.Units.{counts_of, counts_with}
use Rattle.rw_layout.proofs.Lines.{shown-at, read-at}
use Rattle.rw_layout.proofs.UnitFacts.{counts-before, functions-few, sections-few}
use Rattle.rw_layout.proofs.units.count_units.Goals as goal

pub loop-i-init : goal.loop-i-init
loop-i-init c =
    let items : Items = shown (seen c.args.text.now) in
    sym (ap counts_of (drop_all c.len-i.result items (omega (arith, length-map c.args.text.now.items.items (named c.args.text.now.names), c.len-i.ensures))))

pub counted-counts-requires : goal.counted-counts-requires
counted-counts-requires c =
    let text = c.args.text.now in
    let rest : Items = drop c.loop-i.i (shown (seen text)) in
    let short = length-drop c.loop-i.i (shown (seen text)) in
    let all = length-map text.items.items (named text.names) in
    let functions = functions-few rest in
    let sections = sections-few rest in
    let f = ap (λ n. n.functions) c.loop-i.invariant in
    let s = ap (λ n. n.sections) c.loop-i.invariant in
    (omega (arith, short, all, functions, f, c.requires.few), omega (arith, short, all, sections, s, c.requires.few))

pub loop-i-preserved : goal.loop-i-preserved
loop-i-preserved c =
    let text = c.args.text.now in
    let items : Items = shown (seen text) in
    let k = c.loop-i.i - 1 in
    let item = c.index.result.now in
    let here = shown-at text.names text.items.items k item (read-at text.items.items k item (omega arith) c.index.ensures) in
    c.counted-counts.ensures text.names ∙ ap (counts_with (named text.names item)) c.loop-i.invariant ∙ counts-before items k c.loop-i.i (omega arith) (named text.names item) here

pub returns : goal.returns
returns c =
    let none : c.loop-i.i ≡ 0 = omega arith in
    c.loop-i.invariant ∙ ap (λ n. counts_of (drop n (shown (seen c.args.text.now)))) none
