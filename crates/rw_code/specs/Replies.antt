-- What the surroundings of a program may answer, to a system call and to the call of an imported function.
use Rattle.std.specs.Prelude.{◌≡◌, ℕ, ◌+◌, ◌^◌, ◌<◌, ◌≤◌, List, length, replicate, All, slice_get, true, Option, Some, None}
use Rattle.rw_base.specs.declared.width.Width.TheVariants.{Q}
use Rattle.x86_insn.specs.declared.kinds.Reg.{Reg}
use Rattle.rw_words.specs.declared.atom.Cell.{Cell}
use Rattle.rw_words.specs.Words.{undefined_cells}
use Rattle.rw_domain.specs.declared.place.Place.{Place}
use Rattle.rw_domain.specs.declared.place.Region.{Region}
use Rattle.rw_domain.specs.Placed.{Placed}
use Rattle.rw_domain.specs.LaidOut.{KnownCells}
use Rattle.rw_domain.specs.NumberPlaces.{is_inside}
use Rattle.rw_machine.specs.declared.ending as run_end
use Rattle.rw_machine.specs.declared.ending.End.TheVariants as ending
use Rattle.rw_machine.specs.Program.{Program}
use Rattle.rw_machine.specs.Events.{Call, Event, Reply, lost_to_system, lost_to_import}
use Rattle.rw_machine.specs.Events as events
use Rattle.rw_machine.specs.Step.{Machine, Asks, step_of}
use Rattle.rw_machine.specs.Domains.{symbols}
use Rattle.rw_runs.specs.Runs.{first_run, made}
use Rattle.rw_runs.specs.Correspond.{WordsRun}
use Rattle.rw_code.specs.Known.{Labels, has_address}

-- a write inside a writable region, and in none of its holes
pub record IsWrite (labels : Labels) (placed : Placed) (write : Place × List Cell) : Type 0 where
  pub region : Region
  pub is_there : slice_get placed.regions write.0.region ≡ Some region
  pub writable : region.writable ≡ true
  pub inside : is_inside placed.holes region write.0.region write.0.offset (write.0.offset + length write.1) ≡ true
  pub cells : KnownCells (has_address labels) write.1

-- a fresh region beside so many others: it has a byte at least, and an alignment that is a power of two
abbrev pub IsFresh : ℕ → Option (Region × ℕ) → Type 0
IsFresh count None = Unit {0}
IsFresh count (Some f) = (1 ≤ f.0.size) × ((k : ℕ) × (f.0.align ≡ 2 ^ k)) × (count + 1 < 4294967295)

abbrev pub IsEnd : Option run_end.End.End → Type 0
IsEnd None = Unit {0}
IsEnd (Some (ending.Returned v)) = v < 256
IsEnd (Some (ending.Exited v)) = v < 256
IsEnd (Some ending.Aborted) = Unit {0}
IsEnd (Some (ending.Trapped kind)) = Unit {0}

-- the registers that a call loses
abbrev pub lost_to : Call → List Reg
lost_to (events.System number) = lost_to_system
lost_to (events.Import symbol) = lost_to_import

-- An answer to a call where these regions are placed. Its atoms are of the file and the run: they have addresses. Of the
-- registers that the call loses nothing is known.
pub record IsLawful (labels : Labels) (placed : Placed) (call : Call) (reply : Reply (List Cell) Cell) : Type 0 where
  pub wide : length reply.result ≡ 8
  pub cells : KnownCells (has_address labels) reply.result
  pub scratch : reply.scratch ≡ replicate (length (lost_to call)) (undefined_cells Q)
  pub writes : All (IsWrite labels placed) reply.writes
  pub fresh : IsFresh (length placed.regions) reply.fresh
  pub ending : IsEnd reply.ending

-- Answers to a machine that starts so: where its run has made k steps and asks, the next answer is lawful. Answers that the
-- run never comes to may be anything.
abbrev pub AreLawful : {P A : Type 0} → Labels → Program P A (List Cell) → Machine Placed (List Cell) Cell P → List (Reply (List Cell) Cell) → Type 0
AreLawful {P} labels prog machine answers =
    (k : ℕ) (run : WordsRun P) (event : Event (List Cell)) (reply : Reply (List Cell) Cell)
    → made symbols prog k (first_run machine answers) ≡ Some run → run.ending ≡ None → step_of symbols prog run.machine ≡ Asks event
    → slice_get answers (length run.events) ≡ Some reply → IsLawful labels run.machine.placed event.call reply
