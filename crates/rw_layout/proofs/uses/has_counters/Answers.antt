use Rattle.std.proofs.Common.{Some, sym, ap, ◌∙◌, arith, map}
use Rattle.std.proofs.lemmas.List.{length-map}
use Rattle.asm_items.specs.declared.item.Item.TheVariants.{Name}
use Rattle.asm_items.specs.Named.{named}
use Rattle.rw_layout.specs.Order.{counts_name}
use Rattle.rw_layout.proofs.Lines.{shown-at, item-formed, read-at}
use Rattle.rw_layout.proofs.Used.{contains-at, at-contained, counts-line, no-counts-more}
use Rattle.rw_layout.proofs.uses.has_counters.Goals as goal

pub is_counts_line-requires : goal.is_counts_line-requires
is_counts_line-requires c =
    let names = c.args.names.now in
    let items = c.args.items.now in
    let read = read-at items c.loop-item.item-index c.item-item.result (omega arith) c.item-item.is in
    item-formed (map (named names) items) c.loop-item.item-index (named names c.item-item.result) c.requires (shown-at names items c.loop-item.item-index c.item-item.result read)

pub returns-then-is_counts_line : goal.returns-then-is_counts_line
returns-then-is_counts_line c =
    let names = c.args.names.now in
    let items = c.args.items.now in
    let read = read-at items c.loop-item.item-index c.item-item.result (omega arith) c.item-item.is in
    let here = shown-at names items c.loop-item.item-index c.item-item.result read in
    let is = counts-line (named names c.item-item.result) (sym c.is_counts_line.ensures ∙ c.if-is_counts_line.true) in
    (λ e. contains-at (map (named names) items) c.loop-item.item-index (Name counts_name) (here ∙ ap Some is), λ e h. cc)

pub loop-item-preserved : goal.loop-item-preserved
loop-item-preserved c =
    let names = c.args.names.now in
    let items = c.args.items.now in
    let read = read-at items c.loop-item.item-index c.item-item.result (omega arith) c.item-item.is in
    let here = shown-at names items c.loop-item.item-index c.item-item.result read in
    no-counts-more (map (named names) items) c.loop-item.item-index (named names c.item-item.result) here (sym c.is_counts_line.ensures ∙ c.if-is_counts_line.false) c.loop-item.invariant

pub returns : goal.returns
returns c =
    let names = c.args.names.now in
    let items = c.args.items.now in
    (λ e. cc, λ e h. c.loop-item.invariant h.0 (omega (arith, h.1, length-map items (named names))) (at-contained (map (named names) items) (Name counts_name) h))
