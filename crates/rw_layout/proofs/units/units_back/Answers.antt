use Rattle.std.proofs.Common.{◌≡◌, ℕ, suc, ◌-◌, List, [], ◌∷◌, ◌++◌, Some, None, map, reverse, drop, sym, ap, ◌∙◌, arith}
use Rattle.std.proofs.lemmas.List.{drop_all, length-map, map-append}
use Rattle.std.proofs.lemmas.Grind.{reverse_onto}
use Rattle.asm_items.specs.declared.item.Item.{Item}
use Rattle.asm_items.specs.Named.{named}
use Rattle.asm_items.specs.Lines.{Items, lines_from}
use Rattle.rw_layout.specs.Program.{seen, shown}
use Rattle.rw_layout.specs.Rule.{units_of}
use Rattle.rw_layout.specs.Units.{extent_of, lines_room, unit_begun}
use Rattle.rw_layout.proofs.Lines.{shown-at, read-at, item-formed}
use Rattle.rw_layout.proofs.UnitFacts.{room-before, units-before, line-le, with_begun}
use Rattle.rw_layout.proofs.units.units_back.Goals as goal
use Rattle.rw_layout.proofs.units.units_back.Goals.{in-Some+in_ok-push, in_default}

pub loop-i-init : goal.loop-i-init
loop-i-init c =
    let items : Items = shown (seen c.args.text.now) in
    let past : drop c.len-i.result items ≡ [] = drop_all c.len-i.result items (omega (arith, length-map c.args.text.now.items.items (named c.args.text.now.names), c.len-i.ensures)) in
    record { room = sym (ap (λ xs. lines_room (lines_from xs)) past); units = ap (map extent_of) c.new-units.ensures.items ∙ sym (ap (λ xs. reverse (units_of xs)) past) }

pub with_line-room-requires-clause-formed : goal.with_line-room-requires-clause-formed
with_line-room-requires-clause-formed c =
    let names = c.args.text.now.names in
    let item = c.index-item.result.now in
    let read = read-at c.args.text.now.items.items (c.loop-i.i - 1) item (omega arith) c.index-item.ensures in
    (names, item-formed (shown (seen c.args.text.now)) (c.loop-i.i - 1) (named names item) c.requires.formed.formed (shown-at names c.args.text.now.items.items (c.loop-i.i - 1) item read))

pub with_line-room-requires-clause-fits : goal.with_line-room-requires-clause-fits
with_line-room-requires-clause-fits c =
    let names = c.args.text.now.names in
    let item = c.index-item.result.now in
    let read = read-at c.args.text.now.items.items (c.loop-i.i - 1) item (omega arith) c.index-item.ensures in
    let here = shown-at names c.args.text.now.items.items (c.loop-i.i - 1) item read in
    let next : c.loop-i.i ≡ suc (c.loop-i.i - 1) = omega arith in
    let most = line-le (shown (seen c.args.text.now)) (c.loop-i.i - 1) c.loop-i.i next (named names item) here c.loop-i.room c.loop-i.invariant.room in
    (names, omega (arith, most, c.requires.fits))

pub loop-i-preserved : goal.loop-i-preserved
loop-i-preserved c =
    let names = c.args.text.now.names in
    let items : Items = shown (seen c.args.text.now) in
    let item = c.index-item.result.now in
    let line : Item (List ℕ) = named names item in
    let k = c.loop-i.i - 1 in
    let here = shown-at names c.args.text.now.items.items k item (read-at c.args.text.now.items.items k item (omega arith) c.index-item.ensures) in
    let next : c.loop-i.i ≡ suc k = omega arith in
    let rest = units_of (drop c.loop-i.i items) in
    let before = units-before items k c.loop-i.i next line here c.loop-i.room c.loop-i.invariant.room in
    let begun = c.unit_begun.ensures names in
    record {
      room = c.with_line-room.ensures names ∙ room-before items k c.loop-i.i next line here c.loop-i.room c.loop-i.invariant.room;
      units = elim c.match-unit_begun.branch [
        | in-Some+in_ok-push w ↦
            let is : unit_begun line c.loop-i.room ≡ Some w.in-Some.unit = sym begun ∙ w.in-Some.is in
            let made : extent_of w.in-Some.unit ∷ rest ≡ units_of (drop k items) = sym (ap (λ o. with_begun o rest) is) ∙ before in
            ap (λ u. map extent_of u.items) w.units-is ∙ ap (map extent_of) w.in_ok-push.ensures.items ∙ map-append extent_of c.loop-i.units.items (w.in-Some.unit ∷ [])
            ∙ ap (λ us. us ++ extent_of w.in-Some.unit ∷ []) c.loop-i.invariant.units ∙ sym (reverse_onto rest (extent_of w.in-Some.unit) []) ∙ ap reverse made
        | in_default w ↦
            let is : unit_begun line c.loop-i.room ≡ None = sym begun ∙ cc in
            let made : rest ≡ units_of (drop k items) = sym (ap (λ o. with_begun o rest) is) ∙ before in
            ap (λ u. map extent_of u.items) w.units-is ∙ c.loop-i.invariant.units ∙ ap reverse made
      ];
    }

pub returns : goal.returns
returns c =
    let none : c.loop-i.i ≡ 0 = omega arith in
    c.loop-i.invariant.units ∙ ap (λ n. reverse (units_of (drop n (shown (seen c.args.text.now))))) none
