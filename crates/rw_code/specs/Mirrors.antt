-- When a machine over numbers does what the symbolic machine of a file does, as long as that doesn't stop.
use Rattle.std.specs.Prelude.{◌≡◌, ℕ, ◌+◌, ◌^◌, ◌<◌, true, List, Some, None}
use Rattle.rw_words.specs.declared.atom.Cell.{Cell}
use Rattle.rw_words.specs.Addresses.{Addresses, CellsStand}
use Rattle.rw_domain.specs.Placed.{Placed}
use Rattle.rw_domain.specs.Stands.{FlagsStand, Both}
use Rattle.rw_domain.specs.RegionsLaidOut.{ByteStands, RegionsAreLaidOut}
use Rattle.rw_domain.specs.LaidOut.{WordStands, KnownByteStands}
use Rattle.rw_machine.specs.Program.{Program}
use Rattle.rw_machine.specs.Events.{Reply}
use Rattle.rw_machine.specs.Step.{Machine}
use Rattle.rw_machine.specs.Stands.{Spare}
use Rattle.rw_machine.specs.Domains.{symbols, numbers}
use Rattle.rw_runs.specs.Runs.{first_run, made, total}
use Rattle.rw_runs.specs.RunStands.{RepliesStand, RunStands}
use Rattle.rw_runs.specs.Correspond.{WordsRun, NumbersRun}
use Rattle.rw_code.specs.declared.point.FilePoint.{FilePoint}
use Rattle.rw_code.specs.Ground.{Ground}
use Rattle.rw_code.specs.Known.{Labels, has_address}
use Rattle.rw_code.specs.Start.{Start, IsStart, numbers_placed, words_start}
use Rattle.rw_code.specs.Replies.{AreLawful}
use Rattle.rw_code.specs.Imports.{have_one_name}
use Rattle.rw_code.specs.File.{labels_of, symbolic}
use Rattle.rw_code.specs.Placing.{Placing, IsPlacing, placing_addresses, IsPlaceOf}
use Rattle.rw_code.specs.Original.{original}

abbrev pub SymbolicRun : Type 0
SymbolicRun = WordsRun FilePoint

-- At some addresses a machine over numbers starts at a point, with these regions, and with registers, flags and memory for
-- which those of the symbolic machine stand. What the symbolic machine leaves open may be anything.
pub record Begins {P : Type 0} (l : Addresses) (file_ground : Ground) (start : Start) (laid : Placed) (first : P) (machine : Machine Placed ℕ ℕ P) : Type 0 where
  pub registers : Both (CellsStand l) (words_start file_ground start).registers machine.registers
  pub flags : FlagsStand (words_start file_ground start).flags machine.flags
  pub memory : Both (Both (ByteStands l)) (words_start file_ground start).memory machine.memory
  pub placed : machine.placed ≡ laid
  pub point : machine.point ≡ first

-- Registers, flags, memory and points, the events so far one by one, and both have ended alike or neither has. All atoms
-- of the words are ones that an answer may hold. A spare region may have bytes in the second alone, imported symbols are
-- Named alike, and points are Near.
abbrev pub Alike : {P : Type 0} → Addresses → Labels → Spare ℕ → (ℕ → ℕ → Type 0) → (FilePoint → P → Type 0) → SymbolicRun → NumbersRun P → Type 0
Alike l labels spare Named Near run other =
    RunStands (WordStands l (has_address labels)) (KnownByteStands l (has_address labels)) spare Named (RegionsAreLaidOut l) Near run other

-- Where the symbolic machine makes n steps from a start, with lawful answers, a machine over numbers that begins as is asked
-- makes them too, and for each what the run costs there besides, with answers for which these stand along the run. The two
-- runs are then the same, for these answers and n.
abbrev pub Mirrors : {R P : Type 0} → List ℕ → Ground → Start → (SymbolicRun → ℕ) → Program P R ℕ → Addresses → (Machine Placed ℕ ℕ P → Type 0) → (List (Reply (List Cell) Cell) → ℕ → SymbolicRun → NumbersRun P → Type 0) → Type 0
Mirrors {R} {P} file file_ground start cost prog l Begin Same =
    (answers : List (Reply (List Cell) Cell)) (n : ℕ) (run : SymbolicRun)
    → AreLawful (labels_of file file_ground) (symbolic file) (words_start file_ground start) answers → n < 2 ^ 64
    → made symbols (symbolic file) n (first_run (words_start file_ground start) answers) ≡ Some run
    → (machine : Machine Placed ℕ ℕ P) (replies : List (Reply ℕ ℕ)) → Begin machine
    → RepliesStand (CellsStand l) (ByteStands l) None (RegionsAreLaidOut l) symbols numbers (symbolic file) (words_start file_ground start) answers machine.placed replies
    → (other : NumbersRun P)
    × (made numbers prog (total symbols (symbolic file) cost n (first_run (words_start file_ground start) answers)) (first_run machine replies) ≡ Some other)
    × Same answers n run other

-- no probe stands anywhere
abbrev pub no_cost : SymbolicRun → ℕ
no_cost run = 0

-- the original does what the symbolic machine does, from each start and at each placing
abbrev pub OriginalMirrors : List ℕ → Ground → Type 0
OriginalMirrors file file_ground =
    (start : Start) (placing : Placing) → IsStart start → IsPlacing file file_ground start placing →
    let l = placing_addresses file placing in
    Mirrors file file_ground start no_cost (original file placing) l
    (Begins l file_ground start (numbers_placed file_ground start l.region) (placing.base + file_ground.entry))
    (λ answers n. Alike l (labels_of file file_ground) None (λ i j. have_one_name file i j ≡ true) (IsPlaceOf file placing.base))
