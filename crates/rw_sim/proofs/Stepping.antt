-- The event of a step that asks, by what a call of the code came to.
use Rattle.std.proofs.Common.{◌≡◌, sym, subst, ap, ◌∙◌}
use Rattle.rw_domain.specs.Placed.{Placed}
use Rattle.rw_machine.specs.declared.event.Event.{Event}
use Rattle.rw_machine.specs.declared.event.Answer.{Answer}
use Rattle.rw_machine.specs.declared.event.Answer.TheVariants as answer
use Rattle.rw_machine.specs.Program.{Program, Domains}
use Rattle.rw_machine.specs.State.{Stays, event_of, outcome_of}
use Rattle.rw_machine.specs.Step.{Machine, Asks, step_of}

pub stays-asked : {V S : Type 0} (given : Answer V) (event : Event V) (old new : S) → given ≡ answer.Asks event → Stays given old new → new ≡ old
stays-asked given event old new is stays = subst (λ a. Stays a old new) is stays

module _ {V C P R : Type 0} (dom : Domains Placed V C) (prog : Program P R V) (m n : Machine Placed V C P) (given : Answer V) (event : Event V)
    (came : outcome_of (dom.over m.placed) m given n ≡ step_of dom prog m) (is : given ≡ answer.Asks event) where
  pub asks-before : step_of dom prog m ≡ Asks (event_of (dom.over m.placed) m.memory event)
  asks-before = sym came ∙ ap (λ a. outcome_of (dom.over m.placed) m a n) is

  pub asks-behind : n ≡ m → step_of dom prog n ≡ Asks (event_of (dom.over n.placed) n.memory event)
  asks-behind same = subst (λ x. step_of dom prog x ≡ Asks (event_of (dom.over x.placed) x.memory event)) (sym same) asks-before
