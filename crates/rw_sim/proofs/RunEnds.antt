-- What a run comes to, by the steps that were made and what came behind them.
use Rattle.std.proofs.Common.{◌≡◌, ◌∙◌, sym, subst, ap, arith, ℕ, suc, ◌+◌, ◌<◌, ◌≤◌, List, Result, Ok, Err}
use Rattle.rw_domain.specs.declared.cause.Cause.{Cause}
use Rattle.rw_domain.specs.Placed.{Placed}
use Rattle.rw_machine.specs.declared.ending.End.{End}
use Rattle.rw_machine.specs.Program.{Program, Domains}
use Rattle.rw_sim.specs.declared.advance.Advance.{Advance}
use Rattle.rw_sim.specs.declared.advance.Advance.TheVariants as advance
use Rattle.rw_sim.specs.declared.advance.StepError.{StepError}
use Rattle.rw_sim.specs.declared.runs.RunEnd.{RunEnd}
use Rattle.rw_sim.specs.declared.runs.RunEnd.TheVariants as end
use Rattle.rw_sim.specs.AnsweredStep.{Comes, StepsTo, Starves, LosesInput, LosesOutput}
use Rattle.rw_sim.specs.Trace.{Leads, RunsTo}
use Rattle.rw_sim.specs.World.{World}

module _ {V C P R : Type 0} (dom : Domains Placed V C) (prog : Program P R V) (name : ℕ → List ℕ) (first_byte : Placed → ℕ → V × ℕ) (fuel : ℕ) where
  -- what a step came to, by its result
  pub step-is : (u v : World V C P) (r : Result Advance StepError) (f a : Advance) → r ≡ Ok f → f ≡ a → Comes dom prog name first_byte u v r → StepsTo dom prog name first_byte u v a
  step-is u v r f a is same comes = subst (Comes dom prog name first_byte u v) (is ∙ ap Ok same) comes

  pub failure-is : (u v : World V C P) (r : Result Advance StepError) (f e : StepError) → r ≡ Err f → f ≡ e → Comes dom prog name first_byte u v r → Comes dom prog name first_byte u v (Err e)
  failure-is u v r f e is same comes = subst (Comes dom prog name first_byte u v) (is ∙ ap Err same) comes

  pub one-more : (n : ℕ) (w u v : World V C P) → Leads dom prog name first_byte n w u → StepsTo dom prog name first_byte u v advance.Moved → Leads dom prog name first_byte (n + 1) w v
  one-more n w u v path step = subst (λ k. Leads dom prog name first_byte k w v) (let s : suc n ≡ n + 1 = omega arith in s) (u, path, step)

  module _ (k n : ℕ) (w u v : World V C P) (e : RunEnd) where
    pub ended : (z : End) → k ≡ n + 1 → e ≡ end.Ended z → n < fuel → Leads dom prog name first_byte n w u → StepsTo dom prog name first_byte u v (advance.Ended z) → RunsTo dom prog name first_byte fuel w v k e
    ended z steps is lt path step =
        let le : suc n ≤ fuel = omega arith in
        let same : suc n ≡ k = omega arith in
        subst (RunsTo dom prog name first_byte fuel w v k) (sym is) (subst (λ j. RunsTo dom prog name first_byte fuel w v j (end.Ended z)) same (le, (u, path, step)))

    pub cut : k ≡ n + 1 → e ≡ end.WriteFault → n < fuel → Leads dom prog name first_byte n w u → LosesOutput dom prog name first_byte u v → RunsTo dom prog name first_byte fuel w v k e
    cut steps is lt path step =
        let le : suc n ≤ fuel = omega arith in
        let same : suc n ≡ k = omega arith in
        subst (RunsTo dom prog name first_byte fuel w v k) (sym is) (subst (λ j. RunsTo dom prog name first_byte fuel w v j end.WriteFault) same (le, (u, path, step)))

    pub stopped : (cause : Cause) → k ≡ n → e ≡ end.Stopped cause → n < fuel → Leads dom prog name first_byte n w u → StepsTo dom prog name first_byte u v (advance.Stopped cause) → RunsTo dom prog name first_byte fuel w v k e
    stopped cause steps is lt path step =
        subst (RunsTo dom prog name first_byte fuel w v k) (sym is) (subst (λ j. RunsTo dom prog name first_byte fuel w v j (end.Stopped cause)) (sym steps) (lt, (u, path, step)))

    pub unread : k ≡ n → e ≡ end.ReadFault → n < fuel → Leads dom prog name first_byte n w u → LosesInput dom prog name first_byte u v → RunsTo dom prog name first_byte fuel w v k e
    unread steps is lt path step =
        subst (RunsTo dom prog name first_byte fuel w v k) (sym is) (subst (λ j. RunsTo dom prog name first_byte fuel w v j end.ReadFault) (sym steps) (lt, (u, path, step)))

    pub starved : k ≡ n → e ≡ end.Memory → n < fuel → Leads dom prog name first_byte n w u → Starves dom prog name first_byte u v → RunsTo dom prog name first_byte fuel w v k e
    starved steps is lt path step =
        subst (RunsTo dom prog name first_byte fuel w v k) (sym is) (subst (λ j. RunsTo dom prog name first_byte fuel w v j end.Memory) (sym steps) (lt, (u, path, step)))

  pub spent : (k n : ℕ) (w v : World V C P) (e : RunEnd) → k ≡ fuel → e ≡ end.Fuel → n ≡ fuel → Leads dom prog name first_byte n w v → RunsTo dom prog name first_byte fuel w v k e
  spent k n w v e steps is all path =
      subst (RunsTo dom prog name first_byte fuel w v k) (sym is) (steps, subst (λ j. Leads dom prog name first_byte j w v) (let same : n ≡ k = omega arith in same) path)
