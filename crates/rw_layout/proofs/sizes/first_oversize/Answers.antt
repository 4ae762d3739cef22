use Rattle.std.proofs.Common.{◌≡◌, [], arith, map, length}
use Rattle.std.proofs.lemmas.List.{length-map}
use Rattle.asm_items.specs.Named.{named}
use Rattle.rw_layout.proofs.Lines.{shown-at, read-at}
use Rattle.rw_layout.proofs.SizeFacts.{passes-here, summed-more, none-summed, none-passes}
use Rattle.rw_layout.proofs.sizes.first_oversize.Goals as goal

pub loop-i-init : goal.loop-i-init
loop-i-init c = record { within = (none-summed []).within; summed = λ names. none-summed (map (named names) c.args.items.now) }

pub returns-in-None-clause-found : goal.returns-in-None-clause-found
returns-in-None-clause-found c = λ names.
    let items = c.args.items.now in
    let read = read-at items c.loop-i.i c.index-items-i.result (omega arith) c.index-items-i.is in
    passes-here (map (named names) items) c.loop-i.i c.loop-i.sizes (c.loop-i.invariant.summed names) (named names c.index-items-i.result)
    (shown-at names items c.loop-i.i c.index-items-i.result read) (c.with_line.ensures.none c.in-None.is names)

pub loop-i-preserved : goal.loop-i-preserved
loop-i-preserved c =
    let items = c.args.items.now in
    let read = read-at items c.loop-i.i c.index-items-i.result (omega arith) c.index-items-i.is in
    record {
      within = c.in-Some.ensures.more.1;
      summed = λ names. summed-more (map (named names) items) c.loop-i.i c.loop-i.sizes (c.loop-i.invariant.summed names) (named names c.index-items-i.result)
          (shown-at names items c.loop-i.i c.index-items-i.result read) c.in-Some.more (c.in-Some.ensures.more.0 names) c.in-Some.ensures.more.1;
    }

pub returns-clause-none : goal.returns-clause-none
returns-clause-none c = λ _ names.
    let items = c.args.items.now in
    let end : c.loop-i.i ≡ length (map (named names) items) = omega (arith, length-map items (named names)) in
    none-passes (map (named names) items) c.loop-i.i c.loop-i.sizes (c.loop-i.invariant.summed names) end
