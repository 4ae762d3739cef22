-- A run has used one answer for each of its events.
use Rattle.std.proofs.Common.{◌≡◌, ℕ, zero, suc, List, [], ◌∷◌, ◌++◌, length, drop, Option, Some, None, refl, sym, ap, subst, ◌∙◌}
use Rattle.rw_machine.specs.declared.ending.End.{End}
use Rattle.rw_machine.specs.Program.{Program, Domains}
use Rattle.rw_machine.specs.Events.{Event, Reply}
use Rattle.rw_machine.specs.Step.{Machine, Outcome, Moved, Asks, Ended, Stopped, step_of, reply_of}
use Rattle.rw_runs.specs.Runs.{Run, first_run, after_reply, after_event, after_step, one_more, advance, made}
use Rattle.rw_runs.proofs.Lists.{behind-front, length-one-more}
use Rattle.rw_runs.proofs.Made.{made-before}

module _ {D V C P R : Type 0} (dom : Domains D V C) (prog : Program P R V) (rs : List (Reply V C)) where
  abbrev Used : Run D V C P → Type 0
  Used run = run.answers ≡ drop (length run.events) rs

  abbrev UsedBy : Option (Run D V C P) → Type 0
  UsedBy None = Unit {0}
  UsedBy (Some run) = Used run

  module _ (run : Run D V C P) (h : Used run) where
    -- with one more event
    used_next : (event : Event V) (reply : Reply V C) (rest : List (Reply V C)) → run.answers ≡ reply ∷ rest → rest ≡ drop (length (run.events ++ event ∷ [])) rs
    used_next event reply rest is =
        sym (behind-front (length run.events) rs rest reply (sym h ∙ is)) ∙ ap (λ i. drop i rs) (sym (length-one-more run.events event))

    reply-used : (event : Event V) (reply : Reply V C) (rest : List (Reply V C)) → run.answers ≡ reply ∷ rest → (a : Outcome D V C P) → UsedBy (after_reply run event rest a)
    reply-used event reply rest is (Moved m) = used_next event reply rest is
    reply-used event reply rest is (Asks e) = tt
    reply-used event reply rest is (Ended m z) = used_next event reply rest is
    reply-used event reply rest is (Stopped c) = tt

    event-used : (event : Event V) (rest : List (Reply V C)) → run.answers ≡ rest → UsedBy (after_event dom prog run event rest)
    event-used event [] is = tt
    event-used event (reply ∷ rest) is = reply-used event reply rest is (reply_of dom prog run.machine reply)

    step-used : (a : Outcome D V C P) → UsedBy (after_step dom prog run a)
    step-used (Moved m) = h
    step-used (Asks event) = event-used event run.answers refl
    step-used (Ended m z) = h
    step-used (Stopped c) = tt

    more-used : (z : Option End) → UsedBy (one_more dom prog run z)
    more-used None = step-used (step_of dom prog run.machine)
    more-used (Some z) = tt

    advance-used : UsedBy (advance dom prog run)
    advance-used = more-used run.ending

-- the answers that are left are those behind one for each event
pub made-used : {D V C P R : Type 0} (dom : Domains D V C) (prog : Program P R V) (m : Machine D V C P) (rs : List (Reply V C)) (n : ℕ) (run : Run D V C P) → made dom prog n (first_run m rs) ≡ Some run → run.answers ≡ drop (length run.events) rs
made-used dom prog m rs zero run e = subst (λ o. UsedBy dom prog rs o) e refl
made-used dom prog m rs (suc n) run e =
    let before = made-before dom prog n (first_run m rs) run e in
    subst (λ o. UsedBy dom prog rs o) before.2 (advance-used dom prog rs before.0 (made-used dom prog m rs n before.0 before.1))
