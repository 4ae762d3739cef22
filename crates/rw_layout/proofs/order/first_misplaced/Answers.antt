use Rattle.std.proofs.Common.{◌≡◌, sym, ◌∙◌, subst, arith, map, length}
use Rattle.std.proofs.lemmas.List.{length-map}
use Rattle.asm_items.specs.Named.{named}
use Rattle.asm_items.specs.Lines.{Items}
use Rattle.rw_layout.proofs.Lines.{shown-at, item-formed, read-at}
use Rattle.rw_layout.proofs.Prefixes.{misplaced-here, reached-more, all-placed, ends-early, rises-by-one}
use Rattle.rw_layout.specs.Checks.{IsFirstAt, IsMisplaced}
use Rattle.rw_layout.proofs.order.first_misplaced.Goals as goal

pub next-requires-clause-formed : goal.next-requires-clause-formed
next-requires-clause-formed c =
    let names = c.args.names.now in
    let items = c.args.items.now in
    let read = read-at items c.loop-i.i c.index-items-i.result (omega arith) c.index-items-i.is in
    item-formed (map (named names) items) c.loop-i.i (named names c.index-items-i.result) c.requires.formed (shown-at names items c.loop-i.i c.index-items-i.result read)

pub returns-in-None-clause-found : goal.returns-in-None-clause-found
returns-in-None-clause-found c =
    let names = c.args.names.now in
    let items = c.args.items.now in
    let read = read-at items c.loop-i.i c.index-items-i.result (omega arith) c.index-items-i.is in
    misplaced-here (map (named names) items) c.loop-i.i c.loop-i.state c.loop-i.invariant.reached (named names c.index-items-i.result)
    (shown-at names items c.loop-i.i c.index-items-i.result read) (sym c.next.ensures ∙ c.in-None.is)

pub loop-i-preserved : goal.loop-i-preserved
loop-i-preserved c =
    let names = c.args.names.now in
    let items = c.args.items.now in
    let read = read-at items c.loop-i.i c.index-items-i.result (omega arith) c.index-items-i.is in
    let some = sym c.next.ensures ∙ c.in-Some.is in
    let item = named names c.index-items-i.result in
    let rises = rises-by-one c.loop-i.state c.in-Some.more item some in
    record {
      reached = reached-more (map (named names) items) c.loop-i.i c.loop-i.state c.loop-i.invariant.reached item c.in-Some.more (shown-at names items c.loop-i.i c.index-items-i.result read) some;
      few = omega (arith, rises, c.loop-i.invariant.few);
    }

pub returns-then-is_done-clause-none : goal.returns-then-is_done-clause-none
returns-then-is_done-clause-none c = λ _.
    let names = c.args.names.now in
    let items = c.args.items.now in
    let end : c.loop-i.i ≡ length (map (named names) items) = omega (arith, length-map items (named names)) in
    all-placed (map (named names) items) c.loop-i.i c.loop-i.state c.loop-i.invariant.reached end (sym c.is_done.ensures ∙ c.if-is_done.true)

pub returns-else-is_done-clause-found : goal.returns-else-is_done-clause-found
returns-else-is_done-clause-found c =
    let names = c.args.names.now in
    let items = c.args.items.now in
    let shown : Items = map (named names) items in
    let end : c.loop-i.i ≡ length shown = omega (arith, length-map items (named names)) in
    let last : length shown ≡ length items = length-map items (named names) in
    subst (IsFirstAt (IsMisplaced shown)) last (ends-early shown c.loop-i.i c.loop-i.state c.loop-i.invariant.reached end (sym c.is_done.ensures ∙ c.if-is_done.false))
