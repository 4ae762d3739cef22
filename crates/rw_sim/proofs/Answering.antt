-- The answer to the call of a function, from what is known of the call.
use Rattle.std.proofs.Common.{◌≡◌, ℕ, List, Option, Result, sym, subst, ◌∙◌, ap}
use Rattle.std.specs.Prelude.{sum}
use Rattle.rw_domain.specs.declared.cause.Cause.{Cause}
use Rattle.rw_domain.specs.declared.place.Place.{Place}
use Rattle.rw_domain.specs.Placed.{Placed}
use Rattle.rw_machine.specs.Events.{Event, Import}
use Rattle.rw_machine.specs.Program.{Program, Domains}
use Rattle.rw_machine.specs.Step.{Machine}
use Rattle.rw_sim.specs.declared.answer.Refused.{Refused}
use Rattle.rw_sim.specs.Answers.{Answer, Meets}
use Rattle.rw_sim.specs.Asking.{fresh_sizes, stored_by, found_memory, answer_of_call, answer_to}
use Rattle.rw_sim.specs.Builtins.{call_memory, import_answer}

pub import-meets : {V C P R T : Type 0} (dom : Domains Placed V C) (prog : Program P R V) (m : Machine Placed V C P) (view : T → Answer V C) (name : ℕ → List ℕ) (result : Result T Refused)
    (held : Option (Place × V)) (words : List V) (fresh symbol : ℕ) (text : List ℕ) (e : Event V)
    → e.call ≡ Import symbol → e.words ≡ words → held ≡ stored_by dom prog m (prog.insn m.point) → fresh ≡ sum (fresh_sizes m.placed) → text ≡ name symbol
    → Meets view (import_answer (dom.over m.placed) (call_memory (dom.over m.placed) m.memory held) words fresh symbol text) result
    → Meets view (answer_to dom prog m name e) result
import-meets {V} {C} dom prog m view name result held words fresh symbol text e call is-words is-held is-fresh is-text met =
    let P : Result (Answer V C) Cause → Type 0 = λ a. Meets view a result in
    subst P
    (ap (λ o. import_answer (dom.over m.placed) (call_memory (dom.over m.placed) m.memory o) words fresh symbol text) is-held
    ∙ ap (λ n. import_answer (dom.over m.placed) (found_memory dom prog m) words n symbol text) is-fresh
    ∙ ap (λ t. import_answer (dom.over m.placed) (found_memory dom prog m) words (sum (fresh_sizes m.placed)) symbol t) is-text
    ∙ ap (λ w. answer_of_call dom prog m name (Import symbol) w) (sym is-words)
    ∙ ap (λ k. answer_of_call dom prog m name k e.words) (sym call))
    met
