use Rattle.std.proofs.Common.{◌≡◌, nat_le, List, [], ◌∷◌, ◌++◌, slice_get, refl, sym, ap, ◌∙◌}
use Rattle.std.specs.Option.{option_or}
use Rattle.std.proofs.lemmas.List.Elements.{filter-append}
use Rattle.rw_data.specs.declared.piece.Piece.{Piece}
use Rattle.rw_data.specs.Pieces.{first_from, marks_in, quads_in, start_of, tables_in}
use Rattle.rw_data.proofs.picture.Picture.mark_from.Goals as goal

first-append : (xs ys : List Piece) → slice_get (xs ++ ys) 0 ≡ option_or (slice_get xs 0) (slice_get ys 0)
first-append [] ys = refl
first-append (x ∷ xs) ys = refl

pub returns : goal.returns
unfolding marks_in
returns c =
    let quads = quads_in c.args.self.now c.args.section.now in
    let tables = tables_in c.args.self.now c.args.section.now in
    c.or.ensures ∙ ap (λ o. option_or o c.table_from.result) c.quad_from.ensures ∙ ap (option_or (first_from c.args.address quads)) c.table_from.ensures
    ∙ sym (ap (λ ps. slice_get ps 0) (filter-append (λ p. nat_le c.args.address (start_of p)) quads tables) ∙ first-append _ _)
