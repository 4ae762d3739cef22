-- Machines with equal parts.
use Rattle.std.proofs.Common.{◌≡◌, List, ◌∙◌, ap}
use Rattle.rw_domain.specs.Operators.{Operators}
use Rattle.rw_machine.specs.Step.{Machine}

module _ {D V C P : Type 0} (ops : Operators V C) (m : Machine D V C P) where
  pub same-machine : (memory memory' : List (List C)) (placed placed' : D) → memory ≡ memory' → placed ≡ placed' → record m { memory = memory; placed = placed } ≡ record m { memory = memory'; placed = placed' }
  same-machine memory memory' placed placed' e f = ap (λ x. record m { memory = x; placed = placed }) e ∙ ap (λ x. record m { memory = memory'; placed = x }) f
