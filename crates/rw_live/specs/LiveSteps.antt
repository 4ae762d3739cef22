-- What is live is enough for a step.
use Rattle.std.specs.Prelude.{◌≡◌, ℕ, ◌+◌, List, [], Some, Ok, true}
use Rattle.x86_insn.specs.declared.instruction.Insn.{Insn}
use Rattle.rw_machine.specs.declared.goal.Goal.TheVariants.{At}
use Rattle.rw_machine.specs.Program.{Program}
use Rattle.rw_machine.specs.Step.{Machine, Outcome}
use Rattle.rw_machine.specs.Agree.{Agree, AgreeStill}
use Rattle.rw_machine.specs.SameSteps.{SameOutcome}
use Rattle.rw_funcs.specs.Points.{Point, is_point, point_at}
use Rattle.rw_live.specs.Liveness.{IsLive, IsFlagLive, reads_all}

-- A program has the points of a function: at each its instruction; behind it no other address than the next one; and a
-- direct target that is one of them leads there.
pub record HasPoints {P V : Type 0} (points : List Point) (at : ℕ → P) (prog : Program P ℕ V) : Type 0 where
  pub insn : (c : ℕ) (p : Point) → point_at points c ≡ Some p → prog.insn (at c) ≡ Some p.insn
  pub next : (c d : ℕ) (p : Point) → point_at points c ≡ Some p → prog.next (at c) ≡ at d → d ≡ p.place + p.len
  pub target : (to : ℕ) → is_point points to ≡ true → prog.target (prog.resolve to true) ≡ Ok (At (at to))
  pub apart : (c d : ℕ) → at c ≡ at d → c ≡ d

-- two machines agree on what is live at a point of a function
abbrev pub AgreeOnLive : {D V C P : Type 0} → List Point → ℕ → Machine D V C P → Machine D V C P → Type 0
AgreeOnLive points c m o = Agree (λ r. IsLive points c r) (λ x. IsFlagLive points c x) m o

module _ {D V C P : Type 0} (points : List Point) (at : ℕ → P) where
  -- They have the same %rsp, memory, regions and point in any case. At a point of the function they agree on what is live there. Behind
  -- a call, a return, a system call, an indirect jump or a jump out of the function they agree on all registers and flags.
  abbrev pub AgreeBehind : Insn ℕ → Machine D V C P → Machine D V C P → Type 0
  AgreeBehind i m o =
      Agree (λ r. ⊥) (λ x. ⊥) m o
      × ((c : ℕ) → m.point ≡ at c → AgreeOnLive points c m o)
      × (reads_all points i ≡ true → Agree (λ r. Unit {0}) (λ x. Unit {0}) m o)

  -- the steps come to the same
  abbrev pub LiveStepsAgree : Insn ℕ → Machine D V C P → Machine D V C P → Outcome D V C P → Outcome D V C P → Type 0
  LiveStepsAgree i m o a b = SameOutcome (AgreeBehind i) (AgreeStill m o [] []) a b
