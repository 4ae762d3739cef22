use Rattle.std.proofs.Common.{◌≡◌, ◌∙◌, ◌<◌, List, ℕ, Some, ap, length, option_map, refl, slice_get, subst, sym}
use Rattle.std.proofs.lemmas.List.{length-map}
use Rattle.std.proofs.lemmas.Option.{slice_get-map, slice_get_read}
use Rattle.asm_items.specs.Names.{AreDistinct}
use Rattle.asm_items.proofs.Numbers.{own-number}
use Rattle.asm_items.proofs.names.Names.get.Goals as goal

pub returns-clause-number : goal.returns-clause-number
returns-clause-number c =
    let texts = c.self.inside.texts.items in
    let id = c.args.id.0 in
    let within : id < length texts = subst (λ n. id < n) (ap length (sym c.self.view_is) ∙ length-map texts (λ x. x.items)) c.requires in
    let read : slice_get texts id ≡ Some c.index.result.now = slice_get_read texts (length texts) id c.index.result.now refl within c.index.ensures in
    let here : slice_get c.args.self.now id ≡ Some c.as_slice.result.now =
    ap (λ (l : List (List ℕ)). slice_get l id) (sym c.self.view_is) ∙ slice_get-map (λ x. x.items) texts id ∙ ap (option_map (λ x. x.items)) read ∙ ap Some (sym c.as_slice.ensures.value) in
    own-number c.args.self.now id c.as_slice.result.now (subst AreDistinct c.self.view_is c.self.invariant.2) here
