use Rattle.std.proofs.Common.{◌+◌, ◌∷◌, List, sym, subst, ◌∙◌, ap, arith, length}
use Rattle.std.proofs.lemmas.List.{length-append}
use Rattle.asm_print.specs.Reading.{TextItem}
use Rattle.asm_read.specs.Lines.{lines_of, IsFirstBad}
use Rattle.asm_read.specs.Shown.{Shows}
use Rattle.asm_read.proofs.Separated.{text-parts}
use Rattle.asm_read.proofs.Progress.{Progress, Progress-more, Progress-end, nothing-left, something-left, bad-last, bad-line}
use Rattle.asm_read.proofs.text.read_text.Goals as goal

pub returns-in_default-clause-refused : goal.returns-in_default-clause-refused
returns-in_default-clause-refused c =
    let h = c.loop-rest.invariant in
    subst (λ n. IsFirstBad (lines_of c.args.bytes.now) (n + 1)) (sym (c.len.ensures ∙ c.loop-rest.items.ok.0))
    (bad-last c.args.bytes.now c.loop-rest.names c.loop-rest.items.items c.loop-rest.rest.now h.0 h.1 (something-left c.loop-rest.rest.now c.is_empty.result c.is_empty.ensures c.loop-rest-test.true) c.in_default.ensures)

pub returns-in_default-2-clause-refused : goal.returns-in_default-2-clause-refused
returns-in_default-2-clause-refused c =
    let h = c.loop-rest.invariant in
    let text = c.in-Some.text.now in
    let none = subst (Shows c.loop-rest.names c.shown_item.new.names text) c.in_default-2.is c.in_ok-item.ensures in
    subst (λ n. IsFirstBad (lines_of c.args.bytes.now) (n + 1)) (sym (c.len.ensures ∙ c.loop-rest.items.ok.0))
    (bad-line c.args.bytes.now c.loop-rest.names c.loop-rest.items.items c.loop-rest.rest.now h.0 h.1 text c.in-Some.behind.now c.in-Some.ensures none)

pub loop-rest-smaller : goal.loop-rest-smaller
loop-rest-smaller c =
    let text = c.in-Some.text.now in
    let behind = c.in-Some.behind.now in
    omega (arith, ap length (text-parts 10 c.loop-rest.rest.now text behind c.in-Some.ensures), length-append text (10 ∷ behind))

pub loop-rest-preserved : goal.loop-rest-preserved
loop-rest-preserved c =
    let h = c.loop-rest.invariant in
    let text = c.in-Some.text.now in
    let behind = c.in-Some.behind.now in
    let names = c.shown_item.new.names in
    let x = c.in-Some-2.item in
    let shows = subst (Shows c.loop-rest.names names text) c.in-Some-2.is c.in_ok-item.ensures in
    let more = Progress-more c.args.bytes.now c.loop-rest.names c.loop-rest.items.items c.loop-rest.rest.now h.0 h.1 text behind c.in-Some.ensures names x shows in
    subst (λ xs. (shown : List TextItem) × Progress c.args.bytes.now names xs behind shown) (sym c.in_ok-push.ensures.items) more

pub returns-clause-read : goal.returns-clause-read
returns-clause-read c =
    let h = c.loop-rest.invariant in
    Progress-end c.args.bytes.now c.loop-rest.names c.loop-rest.items.items c.loop-rest.rest.now h.0 h.1 (nothing-left c.loop-rest.rest.now c.is_empty.result c.is_empty.ensures c.loop-rest-test.false)
