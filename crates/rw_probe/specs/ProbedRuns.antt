-- When a run over words stands for a run of a program with probes: where it is live.
use Rattle.std.specs.Prelude.{◌≡◌, ℕ, List, length, map, slice_get, All, Option, Some, None, Bool}
use Rattle.std.specs.Option.{option_map_or}
use Rattle.x86_insn.specs.declared.kinds.Reg.{Reg}
use Rattle.x86_insn.specs.declared.kinds.Reg.TheVariants.{Rsp}
use Rattle.x86_insn.specs.WellFormed.{code_of}
use Rattle.x86_meaning.specs.declared.sets.Flag.{Flag}
use Rattle.rw_words.specs.declared.atom.Cell.{Cell}
use Rattle.rw_domain.specs.declared.place.Place.{Place}
use Rattle.rw_domain.specs.declared.place.Region.{Region}
use Rattle.rw_domain.specs.Placed.{Placed}
use Rattle.rw_domain.specs.Stands.{Both, FlagStands, OptionStands}
use Rattle.rw_funcs.specs.Points.{Point}
use Rattle.rw_machine.specs.Agree.{flag_of}
use Rattle.rw_machine.specs.Program.{Program}
use Rattle.rw_machine.specs.Events.{Event, Reply}
use Rattle.rw_machine.specs.Step.{Machine, Asks, step_of}
use Rattle.rw_machine.specs.Stands.{Spare, RowsStand, EventStands}
use Rattle.rw_machine.specs.Domains.{symbols}
use Rattle.rw_live.specs.Liveness.{IsLive, IsFlagLive}
use Rattle.rw_runs.specs.Runs.{Run, first_run, made, entered}
use Rattle.rw_runs.specs.RunStands.{NearWhile}
use Rattle.rw_runs.specs.Correspond.{WordsRun}
use Rattle.rw_probe.specs.declared.form.Probe.{Probe}
use Rattle.rw_probe.specs.Forgetting.{HasFreeRoom, HasStack, HasWords}
use Rattle.rw_probe.specs.Probes.{step_count}

-- ---- machines that stand where it is live

-- the word of a register, where there is one
abbrev pub RegisterStands : {V W : Type 0} → (V → W → Type 0) → Reg → List V → List W → Type 0
RegisterStands R r xs ys = OptionStands R (slice_get xs (code_of r)) (slice_get ys (code_of r))

-- A machine stands for another on some registers and flags: these stand, and so do %rsp, all rows of memory, and the data of
-- the domains.
pub record StandsOn {D T V W E F P O : Type 0} (R : V → W → Type 0) (Byte : E → F → Type 0) (spare : Spare F) (Laid : D → T → Type 0) (on : Reg → Type 0) (and_on : Flag → Type 0) (m : Machine D V E P) (o : Machine T W F O) : Type 0 where
  pub count : length m.registers ≡ length o.registers
  pub stack : RegisterStands R Rsp m.registers o.registers
  pub registers : (r : Reg) → on r → RegisterStands R r m.registers o.registers
  pub flags : (x : Flag) → and_on x → FlagStands (flag_of x m.flags) (flag_of x o.flags)
  pub memory : RowsStand Byte spare m.memory o.memory
  pub placed : Laid m.placed o.placed

-- Where a run goes on at a point of a function, what is live there; else nothing is.
module _ {D V C P : Type 0} (around : ℕ → List Point) (at : ℕ → P) (run : Run D V C P) where
  abbrev pub LivesThere : Reg → Type 0
  LivesThere r = (run.ending ≡ None) × ((a : ℕ) × (run.machine.point ≡ at a) × IsLive (around a) a r)

  abbrev pub FlagLivesThere : Flag → Type 0
  FlagLivesThere x = (run.ending ≡ None) × ((a : ℕ) × (run.machine.point ≡ at a) × IsFlagLive (around a) a x)

-- The machines stand on what is live, the second is at the label of the point of the first as long as they go on, the events
-- so far correspond one by one, and both have ended alike or neither has.
pub record ProbedRunStands {D T V W E F P O : Type 0} (R : V → W → Type 0) (Byte : E → F → Type 0) (spare : Spare F) (Named : ℕ → ℕ → Type 0) (Laid : D → T → Type 0) (Label : P → O → Type 0) (around : ℕ → List Point) (at : ℕ → P)
    (run : Run D V E P) (other : Run T W F O) : Type 0 where
  pub machine : StandsOn R Byte spare Laid (LivesThere around at run) (FlagLivesThere around at run) run.machine other.machine
  pub point : NearWhile run.ending Label run.machine.point other.machine.point
  pub events : Both (EventStands R Named) run.events other.events
  pub ending : run.ending ≡ other.ending

-- ---- what probes cost and count

-- the instructions of the probe at the point of a run
abbrev pub probe_cost : {D V C P : Type 0} → (P → Option (ℕ × Probe)) → Run D V C P → ℕ
probe_cost probe_at run = option_map_or (λ f. step_count f.1) (probe_at run.machine.point) 0

-- for each leader how many of the first n steps were at it
abbrev pub entries : {P A : Type 0} → (ℕ → P → Bool) → List ℕ → Program P A (List Cell) → ℕ → WordsRun P → List ℕ
entries is_there leaders c n run = map (λ a. entered symbols c (is_there a) n run) leaders

-- ---- starts and answers over words

-- Sixteen registers of eight cells, the stack, and room below the red zone, as there is after each step.
pub record StartsProbed {P : Type 0} (m : Machine Placed (List Cell) Cell P) : Type 0 where
  pub words : HasWords m
  pub number : ℕ
  pub stack : Region
  pub has_stack : HasStack m number stack
  pub saved : Place
  pub room : HasFreeRoom m saved

-- words of eight cells, and writes that put no cell into a region
pub record FitsBeside (region : ℕ) (reply : Reply (List Cell) Cell) : Type 0 where
  pub result : length reply.result ≡ 8
  pub scratch : All (λ word. length word ≡ 8) reply.scratch
  pub writes : All (λ write. write.0.region ≡ region → length write.1 ≡ 0) reply.writes

-- along a run, where it has made k steps and asks
abbrev pub AllFitBeside : {P A : Type 0} → ℕ → Program P A (List Cell) → Machine Placed (List Cell) Cell P → List (Reply (List Cell) Cell) → Type 0
AllFitBeside {P} region c m answers =
    (k : ℕ) (run : WordsRun P) (event : Event (List Cell)) (reply : Reply (List Cell) Cell)
    → made symbols c k (first_run m answers) ≡ Some run → run.ending ≡ None → step_of symbols c run.machine ≡ Asks event
    → slice_get answers (length run.events) ≡ Some reply → FitsBeside region reply
