use Rattle.std.specs.Prelude.{List, [], ◌∷◌}
use Rattle.rw_domain.specs.declared.eight.Eight.{Eight}

-- the eight values, b0 first
abbrev pub eight_of : {T : Type 0} → Eight T → List T
eight_of e = e.b0 ∷ e.b1 ∷ e.b2 ∷ e.b3 ∷ e.b4 ∷ e.b5 ∷ e.b6 ∷ e.b7 ∷ []
