-- Runs of a simulation: one step after another, as far as the fuel goes. A unit of fuel is a step that is made.
use Rattle.std.specs.Prelude.{◌≡◌, ◌<◌, ◌≤◌, ℕ, zero, suc, List}
use Rattle.rw_domain.specs.Placed.{Placed}
use Rattle.rw_machine.specs.Program.{Program, Domains}
use Rattle.rw_sim.specs.declared.advance.Advance.TheVariants as advance
use Rattle.rw_sim.specs.declared.runs.RunEnd.{RunEnd}
use Rattle.rw_sim.specs.declared.runs.RunEnd.TheVariants as end
use Rattle.rw_sim.specs.AnsweredStep.{StepsTo, Starves, LosesInput, LosesOutput}
use Rattle.rw_sim.specs.World.{World}

-- A domain, a program, the names of its imported symbols, and where its regions begin, as for one step.
module _ {V C P R : Type 0} (dom : Domains Placed V C) (prog : Program P R V) (name : ℕ → List ℕ) (first_byte : Placed → ℕ → V × ℕ) where
  -- so many steps, one after another, each of which is made and ends nothing
  abbrev pub Leads : ℕ → World V C P → World V C P → Type 0
  Leads zero w v = v ≡ w
  Leads (suc n) w v = (u : World V C P) × Leads n w u × StepsTo dom prog name first_byte u v advance.Moved

  -- so many such steps, and then something else
  abbrev pub Then : ℕ → (World V C P → World V C P → Type 0) → World V C P → World V C P → Type 0
  Then n Last w v = (u : World V C P) × Leads n w u × Last u v

  -- the same, where that is itself a step that is made, and counts
  abbrev pub ThenCounts : ℕ → (World V C P → World V C P → Type 0) → World V C P → World V C P → Type 0
  ThenCounts zero Last w v = ⊥
  ThenCounts (suc n) Last w v = Then n Last w v

  -- A run with so much fuel makes so many steps, from a world to a world, and has this end. The first step that ends it, stops or
  -- fails is the last one; where the fuel is spent before, the run ends by that, whatever the next step would do. A step that
  -- stops isn't made, and doesn't count; one whose bytes can't be written does.
  abbrev pub RunsTo : (fuel : ℕ) → World V C P → World V C P → (steps : ℕ) → RunEnd → Type 0
  RunsTo fuel w v steps (end.Ended ending) = (steps ≤ fuel) × ThenCounts steps (λ u t. StepsTo dom prog name first_byte u t (advance.Ended ending)) w v
  RunsTo fuel w v steps (end.Stopped cause) = (steps < fuel) × Then steps (λ u t. StepsTo dom prog name first_byte u t (advance.Stopped cause)) w v
  RunsTo fuel w v steps end.Fuel = (steps ≡ fuel) × Leads steps w v
  RunsTo fuel w v steps end.ReadFault = (steps < fuel) × Then steps (LosesInput dom prog name first_byte) w v
  RunsTo fuel w v steps end.WriteFault = (steps ≤ fuel) × ThenCounts steps (LosesOutput dom prog name first_byte) w v
  RunsTo fuel w v steps end.Memory = (steps < fuel) × Then steps (Starves dom prog name first_byte) w v
