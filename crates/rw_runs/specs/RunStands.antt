-- When a run stands for another: R ties words, Byte ties bytes, Named ties imported symbols, Near ties points, and Laid ties
-- the data of domains. A spare region may have bytes in the second alone.
use Rattle.std.specs.Prelude.{◌≡◌, ℕ, List, length, take, slice_get, Option, Some, None}
use Rattle.rw_domain.specs.Stands.{Both}
use Rattle.rw_machine.specs.declared.ending.End.{End}
use Rattle.rw_machine.specs.Program.{Program, Domains}
use Rattle.rw_machine.specs.Events.{Event, Reply}
use Rattle.rw_machine.specs.Step.{Machine, Asks, placed_with, step_of}
use Rattle.rw_machine.specs.Stands.{Spare, EventStands, ReplyStands, MachineStands, reply_room}
use Rattle.rw_runs.specs.Runs.{Run, first_run, made, all_added}

-- Where the first machine runs from m with the answers rs, the answers qs of a second, which starts with the data t, stand
-- for these: where the run has made k steps and asks, its next answer has one in qs. That one stands for it, with the room
-- of the machine that asks, and the regions that the answers have brought then are laid out. Answers that the run never
-- comes to aren't compared.
abbrev pub RepliesStand : {D T V W E F P A : Type 0} → (V → W → Type 0) → (E → F → Type 0) → Spare F → (D → T → Type 0) → Domains D V E → Domains T W F → Program P A V → Machine D V E P → List (Reply V E) → T → List (Reply W F) → Type 0
RepliesStand {D} {T} {V} {W} {E} {F} {P} {A} R Byte spare Laid S N c m rs t qs =
    (k : ℕ) (run : Run D V E P) (event : Event V) (r : Reply V E)
    → made S c k (first_run m rs) ≡ Some run → run.ending ≡ None → step_of S c run.machine ≡ Asks event → slice_get rs (length run.events) ≡ Some r
    → (q : Reply W F) × (slice_get qs (length run.events) ≡ Some q)
    × ReplyStands R Byte spare (reply_room S c run.machine r.ending) r q
    × Laid (placed_with S run.machine.placed r.fresh) (placed_with N (all_added N t (take (length run.events) qs)) q.fresh)

-- points are near as long as a run goes on; once it has ended, they aren't compared
abbrev pub NearWhile : {P O : Type 0} → Option End → (P → O → Type 0) → P → O → Type 0
NearWhile None Near p q = Near p q
NearWhile (Some ending) Near p q = Unit {0}

-- The machines stand, the events so far correspond one by one, and both have ended alike or neither has.
pub record RunStands {D T V W E F P O : Type 0} (R : V → W → Type 0) (Byte : E → F → Type 0) (spare : Spare F) (Named : ℕ → ℕ → Type 0) (Laid : D → T → Type 0) (Near : P → O → Type 0) (r : Run D V E P) (q : Run T W F O) : Type 0 where
  pub machine : MachineStands R Byte spare Laid (NearWhile r.ending Near) r.machine q.machine
  pub events : Both (EventStands R Named) r.events q.events
  pub ending : r.ending ≡ q.ending

-- where the first run has a next state, the second has one for which it stands
abbrev pub RunFollows : {S T : Type 0} → (S → T → Type 0) → Option S → Option T → Type 0
RunFollows X None o = Unit {0}
RunFollows X (Some s) None = ⊥
RunFollows X (Some s) (Some t) = X s t
