use Rattle.std.proofs.Common.{◌≡◌, ℕ, ◌+◌, ◌-◌, ◌<◌, List, [], ◌∷◌, ◌++◌, Some, map, length, sym, ap, subst, ◌∙◌, arith, true, false}
use Rattle.std.specs.Prelude.{slice_get, slice_index, slice_index_or}
use Rattle.asm_items.specs.declared.item.Item.{Item}
use Rattle.asm_items.specs.declared.item.NameId.{NameId}
use Rattle.asm_items.specs.Named.{named}
use Rattle.asm_items.specs.Lines.{Items, begins_section}
use Rattle.rw_layout.specs.Program.{seen, shown}
use Rattle.rw_layout.specs.Rule.{placed_size}
use Rattle.rw_layout.proofs.Lines.{shown-at, read-at}
use Rattle.rw_layout.proofs.PlaceFacts.{PlacedUpTo, none-placed, line-room, unit-begins, unit-goes-on, base-low, sum-within}
use Rattle.rw_layout.proofs.places.line_addresses.Goals as goal
use Rattle.rw_layout.proofs.places.line_addresses.Goals.{then-begins_unit, else-begins_unit}

read : (list items : List (Item NameId)) (names : List (List ℕ)) (i : ℕ) (item : Item NameId) → list ≡ items → i < length list → item ≡ slice_index_or list i item → slice_get (map (named names) items) i ≡ Some (named names item)
read list items names i item e h is = subst (λ xs. slice_get (map (named names) xs) i ≡ Some (named names item)) e (shown-at names list i item (read-at list i item h is))

pub loop-item-init : goal.loop-item-init
loop-item-init c = subst (λ xs. PlacedUpTo xs c.args.units.now (shown (seen c.args.text.now)) 0 0 0) (sym c.in_ok-list.ensures.items) (none-placed c.args.units.now (shown (seen c.args.text.now)))

pub overflow_add-last_base : goal.overflow_add-last_base
overflow_add-last_base c =
    let low = base-low c.args.units.now c.requires.low (c.loop-item.begun - 1) in
    let inv = c.loop-item.invariant in
    let within = sum-within (shown (seen c.args.text.now)) c.loop-item.item-index in
    omega (arith, low, c.last_base.ensures, inv.within, inv.bytes_are, within, c.requires.fits)

pub overflow_add-begun : goal.overflow_add-begun
overflow_add-begun c = let most = c.loop-item.invariant.most in omega (arith, most, c.loop-item-test.true, c.deref-item-items.type_inv)

pub overflow_add-before : goal.overflow_add-before
overflow_add-before c =
    let text = c.args.text.now in
    let here = read c.deref-item-items.result.now text.items.items text.names c.loop-item.item-index c.item-item.result c.deref-item-items.ensures.value c.loop-item-test.true c.item-item.is in
    let room = line-room c.loop-item.list.items c.args.units.now (shown (seen text)) c.loop-item.item-index c.loop-item.begun c.loop-item.before c.loop-item.invariant (named text.names c.item-item.result) here (c.last_base.result + c.loop-item.before) (ap (λ b. b + c.loop-item.before) c.last_base.ensures) in
    omega (arith, room, c.placed_size-before.ensures text.names, c.requires.fits)

pub loop-item-preserved : goal.loop-item-preserved
loop-item-preserved c =
    let text = c.args.text.now in
    let items : Items = shown (seen text) in
    let units = c.args.units.now in
    let i = c.loop-item.item-index in
    let line : Item (List ℕ) = named text.names c.item-item.result in
    let here = read c.deref-item-items.result.now text.items.items text.names i c.item-item.result c.deref-item-items.ensures.value c.loop-item-test.true c.item-item.is in
    let address : ℕ = c.last_base.result + c.loop-item.before in
    let is : address ≡ slice_index units (c.loop-item.begun - 1) + c.loop-item.before = ap (λ b. b + c.loop-item.before) c.last_base.ensures in
    let list : List ℕ = c.loop-item.list.items ++ address ∷ [] in
    subst (λ xs. PlacedUpTo xs units items (i + 1) c.if-begins_unit.begun c.if-begins_unit.before) (sym c.in_ok-push.ensures.items)
    (elim c.if-begins_unit.branch [
      | then-begins_unit w ↦
          let begins : begins_section line ≡ true = sym (c.begins_unit.ensures text.names) ∙ w.if-begins_unit.true in
          subst (λ n. PlacedUpTo list units items (i + 1) n c.if-begins_unit.before) (sym w.begun-is)
          (subst (λ b. PlacedUpTo list units items (i + 1) (c.loop-item.begun + 1) b) (sym w.before-is)
          (unit-begins c.loop-item.list.items units items i c.loop-item.begun c.loop-item.before c.loop-item.invariant line here address is begins))
      | else-begins_unit w ↦
          let goes_on : begins_section line ≡ false = sym (c.begins_unit.ensures text.names) ∙ w.if-begins_unit.false in
          let more : c.loop-item.before + placed_size line ≡ c.if-begins_unit.before = ap (λ s. c.loop-item.before + s) (sym (w.placed_size-before.ensures text.names)) ∙ sym w.before-is in
          subst (λ n. PlacedUpTo list units items (i + 1) n c.if-begins_unit.before) (sym w.begun-is)
          (subst (λ b. PlacedUpTo list units items (i + 1) c.loop-item.begun b) more
          (unit-goes-on c.loop-item.list.items units items i c.loop-item.begun c.loop-item.before c.loop-item.invariant line here address is goes_on))
    ])

pub returns : goal.returns
returns c =
    let inv = c.loop-item.invariant in
    λ q h. inv.placed q (omega (arith, h, c.loop-item-test.false, c.deref-item-items.ensures.len))
