-- One more element of a string step.
use Rattle.std.proofs.Common.{ℕ, suc, ◌≡◌, ◌<◌, ◌+◌, ◌-◌, ◌∙◌, refl, sym, arith, Result, Ok, Err}
use Rattle.rw_domain.specs.declared.cause.Cause.{Cause}
use Rattle.rw_domain.specs.declared.place.Place.{Place}
use Rattle.rw_domain.specs.Operators.{Operators}
use Rattle.rw_machine.specs.Running.{StringStep, element_places, elements_permitted, next_address}

one_left : (count i : ℕ) → i < count → count - i ≡ suc (count - (i + 1))
one_left count i below = omega (arith, below)

-- the i-th element of so many is permitted, or it isn't
pub permitted_next : {V C : Type 0} (ops : Operators V C) (step : StringStep V) (count i : ℕ) (source target : V) (p : Place × Place) (answer : Result (Place × Place) Cause)
    → i < count → answer ≡ element_places ops step source target → answer ≡ Ok p
    → elements_permitted ops step (count - (i + 1)) (next_address ops step source) (next_address ops step target) ≡ elements_permitted ops step (count - i) source target
permitted_next ops step count i source target p answer below is ok = rw (one_left count i below, sym is, ok) refl

pub permitted_fails : {V C : Type 0} (ops : Operators V C) (step : StringStep V) (count i : ℕ) (source target : V) (c : Cause) (answer : Result (Place × Place) Cause) (all : Result (V × V) Cause)
    → i < count → answer ≡ element_places ops step source target → answer ≡ Err c → elements_permitted ops step (count - i) source target ≡ all → Err c ≡ all
permitted_fails ops step count i source target c answer all below is err e = sym first ∙ e
  where
    first : elements_permitted ops step (count - i) source target ≡ Err c
    first = rw (one_left count i below, sym is, err) refl
