-- When a program over words stands for one over numbers that has probes at leaders.
use Rattle.std.specs.Prelude.{◌≡◌, ◌↔◌, ◌<◌, ℕ, List, length, slice_get, Option, Some, None, Ok, Bool, true, false}
use Rattle.std.specs.Option.{option_map_or}
use Rattle.x86_insn.specs.declared.kinds.Plain.TheVariants as plain
use Rattle.x86_insn.specs.declared.instruction.Insn.{Insn}
use Rattle.x86_insn.specs.declared.instruction.Insn.TheVariants as insn
use Rattle.rw_words.specs.declared.atom.Cell.{Cell}
use Rattle.rw_domain.specs.declared.place.Access.TheVariants.{Write}
use Rattle.rw_domain.specs.Placed.{Placed}
use Rattle.rw_domain.specs.NumberPlaces.{bases_of, numbers_over}
use Rattle.rw_domain.specs.Stands.{ResultStands}
use Rattle.rw_funcs.specs.Points.{Point, is_point}
use Rattle.rw_machine.specs.Program.{Program, GivesInstructions}
use Rattle.rw_machine.specs.Stands.{GoalStands, InsnFollows}
use Rattle.rw_live.specs.LiveSteps.{HasPoints}
use Rattle.rw_probe.specs.declared.form.Probe.{Probe}
use Rattle.rw_probe.specs.Counting.{StandFrom}
use Rattle.rw_probe.specs.Forgetting.{counter_place}
use Rattle.rw_probe.specs.Probes.{IsProbe, probe_insns}

-- ---- what stands at the label of a point

abbrev pub is_endbr64 : {R : Type 0} → Insn R → Bool
is_endbr64 (insn.Plain plain.Endbr64) = true
is_endbr64 _ = false

-- From a place on a probe stands, with the number of its counter, and of the place behind it something holds.
pub record ProbeStands {O R : Type 0} (d : Program O R ℕ) (counter : ℕ → R) (probe : ℕ × Probe) (q : O) (Behind : O → Type 0) : Type 0 where
  pub behind : O
  pub insns : StandFrom d q (probe_insns (counter probe.0) probe.1) behind
  pub then_holds : Behind behind

-- Words ties words, Named ties imported symbols, and Label ties a point to the place of its label.
module _ {P O R : Type 0} (Words : List Cell → ℕ → Type 0) (Named : ℕ → ℕ → Type 0) (Label : P → O → Type 0) (c : Program P ℕ (List Cell)) (d : Program O R ℕ) (counter : ℕ → R) where
  -- the instruction of a point, behind which the label of the next point stands
  abbrev pub StandsBare : P → O → Type 0
  StandsBare p q = InsnFollows Words Label c d p q (c.insn p) (d.insn q)

  -- with a probe: behind the instruction where that is endbr64, and else before it
  abbrev pub StandsProbed : ℕ × Probe → Bool → P → O → Type 0
  StandsProbed probe true p q = InsnFollows Words (λ s t. ProbeStands d counter probe t (Label s)) c d p q (c.insn p) (d.insn q)
  StandsProbed probe false p q = ProbeStands d counter probe q (StandsBare p)

  abbrev pub PointStands : Option (ℕ × Probe) → P → O → Type 0
  PointStands None p q = StandsBare p q
  PointStands (Some probe) p q = StandsProbed probe (option_map_or is_endbr64 (c.insn p) false) p q

  -- at the label of each point it stands, with its probe if it has one, and targets lead to labels
  pub record ProbedProgramStands (probe_at : P → Option (ℕ × Probe)) : Type 0 where
    pub points : (p : P) (q : O) → Label p q → PointStands (probe_at p) p q
    pub target : (a : List Cell) (b : ℕ) → Words a b → ResultStands (GoalStands Named Label) (c.target a) (d.target b)

-- ---- functions and leaders

-- The points of a program are those of functions, by address: `around a` are the points of the function that has one at a.
-- Each point with an instruction is one of these, and what comes next after a point of one function is no point of another.
pub record HasFunctions {P V : Type 0} (around : ℕ → List Point) (at : ℕ → P) (prog : Program P ℕ V) : Type 0 where
  pub formed : GivesInstructions prog
  pub points : (a : ℕ) → HasPoints (around a) at prog
  pub each : (p : P) (i : Insn ℕ) → prog.insn p ≡ Some i → (a : ℕ) × (p ≡ at a) × (is_point (around a) a ≡ true)
  pub same : (a b : ℕ) → is_point (around a) b ≡ true → around b ≡ around a
  pub next : (a b : ℕ) → is_point (around a) a ≡ true → is_point (around b) b ≡ true → prog.next (at a) ≡ at b → around b ≡ around a

-- There is a probe at a point exactly where the point is at a leader: the one by what is live there, with the leader's number.
pub record AreProbed {P : Type 0} (around : ℕ → List Point) (at : ℕ → P) (leaders : List ℕ) (probe_at : P → Option (ℕ × Probe)) : Type 0 where
  pub probes : (p : P) (k : ℕ) (probe : Probe) → probe_at p ≡ Some (k, probe) → (a : ℕ) × (p ≡ at a) × (slice_get leaders k ≡ Some a) × IsProbe (around a) a probe
  pub numbered : (k a : ℕ) → slice_get leaders k ≡ Some a → (probe : Probe) × (probe_at (at a) ≡ Some (k, probe))

-- a test of whether a point is the one at an address
abbrev pub TestsPoint : {P : Type 0} → (ℕ → P) → (ℕ → P → Bool) → Type 0
TestsPoint {P} at is_there = (a : ℕ) (p : P) → (is_there a p ≡ true) ↔ (p ≡ at a)

-- ---- counters

-- The references of so many counters lead to them, eight bytes each, in a region that has a base.
pub record HasCounters {O R : Type 0} (d : Program O R ℕ) (counter : ℕ → R) (region count : ℕ) (placed : Placed) : Type 0 where
  pub base : region < length (bases_of placed.bases)
  pub places : (k : ℕ) → k < count → (numbers_over placed).place (d.resolve (counter k) false) 8 Write ≡ Ok (counter_place region k)
