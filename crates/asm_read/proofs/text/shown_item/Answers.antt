use Rattle.std.proofs.Common.{◌≡◌, ℕ, true, List, sym, subst, ap, ◌∙◌}
use Rattle.asm_items.specs.declared.item.Item.{Item}
use Rattle.asm_items.specs.declared.item.NameId.{NameId}
use Rattle.asm_items.specs.Formed.{is_item}
use Rattle.asm_items.specs.Named.{map_names, named}
use Rattle.asm_print.specs.Reading.{TextItem}
use Rattle.asm_read.specs.Numbered.{numbered, name_in, with_shown}
use Rattle.asm_read.proofs.Numbers.{IsKnown, known-shown, shown-named}
use Rattle.asm_read.proofs.Shown.{candidate-formed, shown-yes, shown-no}
use Rattle.asm_read.proofs.text.shown_item.Goals as goal

-- the item with its number shows the item that was read
same-item : (old new : List (List ℕ)) (item : TextItem) (x : Item NameId) → is_item item ≡ true → x ≡ numbered new item → new ≡ with_shown old (name_in item) → named new x ≡ item
same-item old new item x formed e h =
    ap (named new) e ∙ shown-named new item formed (λ name k. subst (λ ns. IsKnown ns name) (sym h) (known-shown old (name_in item) name k))

pub is_line_of-requires : goal.is_line_of-requires
is_line_of-requires c =
    let item = map_names (λ name. name.now) c.in-Some.item in
    let formed = candidate-formed c.args.text.now item c.in-Some.ensures in
    ap is_item (same-item c.args.names.now c.numbered_item.new.names item c.in_ok-item.item formed c.in_ok-item.ensures.item c.in_ok-item.ensures.names) ∙ formed

pub returns-then-not-is_line_of : goal.returns-then-not-is_line_of
returns-then-not-is_line_of c =
    let item = map_names (λ name. name.now) c.in-Some.item in
    let formed = candidate-formed c.args.text.now item c.in-Some.ensures in
    let same = same-item c.args.names.now c.numbered_item.new.names item c.in_ok-item.item formed c.in_ok-item.ensures.item c.in_ok-item.ensures.names in
    shown-no c.args.text.now item (named c.numbered_item.new.names c.in_ok-item.item) c.is_line_of.result c.in-Some.ensures same c.is_line_of.ensures c.if-not-is_line_of.true

pub returns : goal.returns
returns c =
    let item = map_names (λ name. name.now) c.in-Some.item in
    let formed = candidate-formed c.args.text.now item c.in-Some.ensures in
    let same = same-item c.args.names.now c.numbered_item.new.names item c.in_ok-item.item formed c.in_ok-item.ensures.item c.in_ok-item.ensures.names in (
      item,
      shown-yes c.args.text.now item (named c.numbered_item.new.names c.in_ok-item.item) c.is_line_of.result c.in-Some.ensures same c.is_line_of.ensures c.if-not-is_line_of.false,
      c.in_ok-item.ensures.item,
      c.in_ok-item.ensures.names,
    )
