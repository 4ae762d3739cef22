-- Sinks after the small operations of a list.
use Rattle.std.proofs.Common.{◌≡◌, List, [], ◌∷◌, ◌++◌, refl, sym, ◌∙◌, append_assoc}
use Rattle.std.proofs.lemmas.List.{append-nil}
use Rattle.arrayvec.specs.ArrayVec.{ArrayVec}
use Rattle.x86_meaning.specs.declared.operations.Micro.{Micro}
use Rattle.x86_meaning.specs.Sinks.{after_all}

pub after_all_append : {S : Type 0} (one : S → Micro → S) (s : S) (xs ys : List Micro) → after_all one s (xs ++ ys) ≡ after_all one (after_all one s xs) ys
after_all_append one s [] ys = refl
after_all_append one s (x ∷ xs) ys = after_all_append one (one s x) xs ys

-- a list to whose end each operation is pushed
abbrev pushed : ArrayVec Micro → Micro → ArrayVec Micro
pushed s m = record { items = s.items ++ m ∷ [] }

pub after_all_pushed : (s : ArrayVec Micro) (ms : List Micro) → (after_all pushed s ms).items ≡ s.items ++ ms
after_all_pushed s [] = sym (append-nil s.items)
after_all_pushed s (m ∷ ms) = after_all_pushed (pushed s m) ms ∙ append_assoc s.items (m ∷ []) ms
