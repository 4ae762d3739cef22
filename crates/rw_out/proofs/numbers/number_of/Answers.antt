use Rattle.std.proofs.Common.{◌≡◌, Some, None, sym, ap, ◌∙◌}
use Rattle.std.specs.Prelude.{option_map, position}
use Rattle.std.specs.Str.{bytes_eq}
use Rattle.asm_items.specs.declared.item.NameId.{NameId}
use Rattle.rw_out.proofs.Appearance.{found-name, not-found}
use Rattle.rw_out.proofs.numbers.number_of.Goals as goal

pub returns-in-Some : goal.returns-in-Some
returns-in-Some c =
    let at : position (bytes_eq c.args.name.now) c.args.names.now ≡ Some c.in-Some.number.0 = sym c.find.ensures ∙ ap (option_map (λ (id : NameId). id.0)) c.in-Some.is in
    found-name c.args.names.now c.args.name.now c.in-Some.number.0 at

pub returns-in-None : goal.returns-in-None
returns-in-None c =
    let at : position (bytes_eq c.args.name.now) c.args.names.now ≡ None = sym c.find.ensures ∙ ap (option_map (λ (id : NameId). id.0)) c.in-None.is in
    let none = not-found c.args.names.now c.args.name.now at in
    let there = c.requires in
    absurd (cc)
