-- Flags that are the same, and members of their lists.
use Rattle.std.proofs.Common.{◌≡◌, zero, suc, List, [], ◌∷◌, refl, ap, subst, arith}
use Rattle.std.specs.List.{Contains, AllByRecursion}
use Rattle.x86_insn.specs.declared.kinds.Cond.{Cond}
use Rattle.x86_insn.specs.declared.kinds.Cond.TheVariants as cond
use Rattle.x86_meaning.specs.Sets.{all_flags}
use Rattle.x86_meaning.specs.Flags.{condition_flags}
use Rattle.rw_domain.specs.declared.flags.Flags.{Flags}
use Rattle.rw_machine.specs.Conditions.{known_value, opposite, either, differ, holds}
use Rattle.rw_machine.specs.Agree.{SameFlag}

-- what holds of each element of a list holds of its members
pub each-at : {X : Type 0} (P : X → Type 0) (xs : List X) (x : X) → AllByRecursion P xs → Contains xs x → P x
each-at P [] x h (k, lt, e) = absurd (omega (arith, lt))
each-at P (y ∷ ys) x h (zero, lt, e) = subst P e h.0
each-at P (y ∷ ys) x h (suc k, lt, e) = each-at P ys x h.1 (k, omega (arith, lt), e)

pub each-of : {X : Type 0} (P : X → Type 0) (xs : List X) → ((x : X) → Contains xs x → P x) → AllByRecursion P xs
each-of P [] h = tt
each-of P (y ∷ ys) h = (h y (zero, omega arith, refl), each-of P ys (λ x (k, lt, e). h x (suc k, omega (arith, lt), e)))

-- the five flags are all
pub same-flags : (f g : Flags) → AllByRecursion (λ x. SameFlag x f g) all_flags → f ≡ g
same-flags f g h = λ i. record { cf = h.0 i; zf = h.1.0 i; sf = h.1.1.0 i; of = h.1.1.1.0 i; pf = h.1.1.1.1.0 i }

-- a condition looks at the flags that it names
pub same-condition : (c : Cond) (f g : Flags) → AllByRecursion (λ x. SameFlag x f g) (condition_flags c) → holds c f ≡ holds c g
same-condition cond.O f g h = ap known_value h.0
same-condition cond.No f g h = ap (λ t. opposite (known_value t)) h.0
same-condition cond.B f g h = ap known_value h.0
same-condition cond.Ae f g h = ap (λ t. opposite (known_value t)) h.0
same-condition cond.E f g h = ap known_value h.0
same-condition cond.Ne f g h = ap (λ t. opposite (known_value t)) h.0
same-condition cond.Be f g h = λ i. either (known_value (h.0 i)) (known_value (h.1.0 i))
same-condition cond.A f g h = λ i. opposite (either (known_value (h.0 i)) (known_value (h.1.0 i)))
same-condition cond.S f g h = ap known_value h.0
same-condition cond.Ns f g h = ap (λ t. opposite (known_value t)) h.0
same-condition cond.P f g h = ap known_value h.0
same-condition cond.Np f g h = ap (λ t. opposite (known_value t)) h.0
same-condition cond.L f g h = λ i. differ (known_value (h.0 i)) (known_value (h.1.0 i))
same-condition cond.Ge f g h = λ i. opposite (differ (known_value (h.0 i)) (known_value (h.1.0 i)))
same-condition cond.Le f g h = λ i. either (known_value (h.0 i)) (differ (known_value (h.1.0 i)) (known_value (h.1.1.0 i)))
same-condition cond.G f g h = λ i. opposite (either (known_value (h.0 i)) (differ (known_value (h.1.0 i)) (known_value (h.1.1.0 i))))
