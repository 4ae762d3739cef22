-- What a sink of small operations is after it took those of a list.
use Rattle.std.specs.Prelude.{List, [], ◌∷◌}
use Rattle.x86_meaning.specs.declared.operations.Micro.{Micro}

-- after the operations of a list, one after another; "one" says what it is after one operation more
abbrev pub after_all : {S : Type 0} → (S → Micro → S) → S → List Micro → S
after_all one s [] = s
after_all one s (m ∷ ms) = after_all one (one s m) ms
