use Rattle.std.proofs.Common.{◌≡◌, Some, None, sym, ap, ◌∙◌}
use Rattle.std.specs.Prelude.{option_map, position}
use Rattle.std.specs.Str.{bytes_eq}
use Rattle.asm_items.specs.declared.item.NameId.{NameId}
use Rattle.asm_items.proofs.Numbers.{absent, present}
use Rattle.rw_out.proofs.naming.has.Goals as goal

pub returns-in-Some : goal.returns-in-Some
returns-in-Some c =
    let at : position (bytes_eq c.args.name.now) c.args.names.now ≡ Some c.in-Some.field-0.0 = sym c.find.ensures ∙ ap (option_map (λ (id : NameId). id.0)) c.in-Some.is in
    sym (present (bytes_eq c.args.name.now) c.args.names.now c.in-Some.field-0.0 at).0

pub returns-in-None : goal.returns-in-None
returns-in-None c =
    let at : position (bytes_eq c.args.name.now) c.args.names.now ≡ None = sym c.find.ensures ∙ ap (option_map (λ (id : NameId). id.0)) c.in-None.is in
    sym (absent (bytes_eq c.args.name.now) c.args.names.now at)
