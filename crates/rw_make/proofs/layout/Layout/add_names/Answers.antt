use Rattle.std.proofs.Common.{◌≡◌, [], ◌∷◌, ◌++◌, ◌∙◌, subst, rules}
use Rattle.rw_make.specs.Image.{names_piece}
use Rattle.rw_make.specs.Layout.{Holds, piece_of}
use Rattle.rw_make.proofs.Holding.{names_piece_is}
use Rattle.rw_make.proofs.layout.Layout.add_names.Goals as goal

pub returns : goal.returns
returns c pieces holds =
    let same : piece_of c.made.result ≡ names_piece pieces = c.made.ensures ∙ names_piece_is pieces c.args.self.now _ holds (search rules) in
    subst (λ p. Holds (pieces ++ p ∷ []) c.add.new.self) same (c.in_ok-add.ensures pieces holds)
