use Rattle.std.proofs.Common.{◌≡◌, List, map, reverse, sym, ap, subst, ◌∙◌, IfOk}
use Rattle.std.proofs.lemmas.List.{reverse-reverse}
use Rattle.asm_items.specs.Layout.{Extent}
use Rattle.rw_layout.specs.Program.{seen, shown}
use Rattle.rw_layout.specs.Rule.{bases_from, behind_all, behind_units, unit_bases, units_of}
use Rattle.rw_layout.specs.Units.{extent_of}
use Rattle.rw_layout.specs.declared.laying.Order.TheVariants.{Forward, Reverse}
use Rattle.rw_layout.specs.declared.units.Room.{Room}
use Rattle.rw_layout.proofs.LayoutFacts.{small-text, text-room, rooms-aligned, rooms-fit, map-reverse}
use Rattle.rw_layout.proofs.laying.unit_bases.Goals as goal

pub units_back-requires-clause-fits : goal.units_back-requires-clause-fits
units_back-requires-clause-fits c = text-room (shown (seen c.args.text.now)) (small-text (seen c.args.text.now) c.requires.formed c.requires.program c.requires.few)

turned : (rooms list back : List Room) (units : List Extent) → list ≡ rooms → rooms ≡ reverse back → map extent_of back ≡ reverse units → map extent_of list ≡ units
turned rooms list back units same is are = ap (map extent_of) (same ∙ is) ∙ map-reverse extent_of back ∙ ap reverse are ∙ reverse-reverse units

pub place-requires-clause-aligned : goal.place-requires-clause-aligned
place-requires-clause-aligned c =
    let small = small-text (seen c.args.text.now) c.requires.formed c.requires.program c.requires.few in
    rooms-aligned (shown (seen c.args.text.now)) small Forward c.args.gap c.requires.close c.deref.result.now
    (turned c.reverse.new.self.items c.deref.result.now c.in_ok-units.units.items (units_of (shown (seen c.args.text.now))) c.deref.ensures.value c.reverse.ensures.items c.in_ok-units.ensures)

pub place-requires-clause-fits : goal.place-requires-clause-fits
place-requires-clause-fits c =
    let small = small-text (seen c.args.text.now) c.requires.formed c.requires.program c.requires.few in
    rooms-fit (shown (seen c.args.text.now)) small Forward c.args.gap c.requires.close c.deref.result.now
    (turned c.reverse.new.self.items c.deref.result.now c.in_ok-units.units.items (units_of (shown (seen c.args.text.now))) c.deref.ensures.value c.reverse.ensures.items c.in_ok-units.ensures)

pub returns-in-Forward-clause-list : goal.returns-in-Forward-clause-list
returns-in-Forward-clause-list c =
    let are = turned c.reverse.new.self.items c.deref.result.now c.in_ok-units.units.items (units_of (shown (seen c.args.text.now))) c.deref.ensures.value c.reverse.ensures.items c.in_ok-units.ensures in
    subst (λ t. IfOk c.place.result (λ bases. bases.list.items ≡ t)) (ap (bases_from c.args.gap 65536) are ∙ sym (ap (λ o. unit_bases (shown (seen c.args.text.now)) o c.args.gap) c.in-Forward.is)) c.place.ensures.list

pub returns-in-Forward-clause-end : goal.returns-in-Forward-clause-end
returns-in-Forward-clause-end c =
    let are = turned c.reverse.new.self.items c.deref.result.now c.in_ok-units.units.items (units_of (shown (seen c.args.text.now))) c.deref.ensures.value c.reverse.ensures.items c.in_ok-units.ensures in
    subst (λ t. IfOk c.place.result (λ bases. bases.end ≡ t)) (ap (behind_all c.args.gap 65536) are ∙ sym (ap (λ o. behind_units (shown (seen c.args.text.now)) o c.args.gap) c.in-Forward.is)) c.place.ensures.end

pub place-requires-in-Reverse-clause-aligned : goal.place-requires-in-Reverse-clause-aligned
place-requires-in-Reverse-clause-aligned c =
    let small = small-text (seen c.args.text.now) c.requires.formed c.requires.program c.requires.few in
    rooms-aligned (shown (seen c.args.text.now)) small Reverse c.args.gap c.requires.close c.deref-in-Reverse.result.now (ap (map extent_of) c.deref-in-Reverse.ensures.value ∙ c.in_ok-units.ensures)

pub place-requires-in-Reverse-clause-fits : goal.place-requires-in-Reverse-clause-fits
place-requires-in-Reverse-clause-fits c =
    let small = small-text (seen c.args.text.now) c.requires.formed c.requires.program c.requires.few in
    rooms-fit (shown (seen c.args.text.now)) small Reverse c.args.gap c.requires.close c.deref-in-Reverse.result.now (ap (map extent_of) c.deref-in-Reverse.ensures.value ∙ c.in_ok-units.ensures)
