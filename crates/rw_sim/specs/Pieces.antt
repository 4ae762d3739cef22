-- What reading a piece of the input for an answer does, and writing what an answer sends.
use Rattle.std.specs.Prelude.{◌≡◌, ◌<◌, ◌≤◌, ◌++◌, ℕ, List, [], length, Option, Some, None, IsSome, Result, Ok, Err, Vec}
use Rattle.std.specs.declared.alloc.Global.{Global}
use Rattle.std.specs.Io.KnownBytes.{IsAtEnd}
use Rattle.rw_sim.specs.declared.advance.StepError.{StepError}
use Rattle.rw_sim.specs.declared.advance.StepError.TheVariants.{ReadFault, WriteFault, Memory}
use Rattle.rw_sim.specs.declared.pieces.Sent.{Sent}
use Rattle.rw_sim.specs.AnsweredStep.{bytes_of, length_of, BreaksOff, IsPiece, IsLast, sent_to}
use Rattle.rw_sim.specs.World.{Outside, Rests, Fails, IsRead, IsWritten}

-- what contracts see of a piece, and of what is sent
abbrev pub piece_value : Option (Vec ℕ Global) → Option (List ℕ)
piece_value None = None
piece_value (Some piece) = Some piece.items

abbrev pub sent_value : Option Sent → Option (ℕ × List ℕ)
sent_value None = None
sent_value (Some sent) = Some (sent.descriptor, sent.bytes.items)

-- one piece was read, of so many bytes at most
abbrev pub ReadsPiece : ℕ → Outside → Outside → Result (Vec ℕ Global) StepError → Type 0
ReadsPiece limit old new (Ok piece) = (length piece.items ≤ limit) × (piece.items ≡ [] → 0 < limit → IsAtEnd new.bytes) × IsRead old new piece.items
ReadsPiece limit old new (Err ReadFault) = Fails old new
ReadsPiece limit old new (Err WriteFault) = ⊥
ReadsPiece limit old new (Err Memory) = Rests old new

-- a piece was read where there is a limit, and its length is kept
pub record ReadsAsAsked (limit : Option ℕ) (before behind : List ℕ) (old new : Outside) (taken : Option (List ℕ)) : Type 0 where
  pub piece : IsPiece limit taken
  pub last : IsLast limit taken new.bytes
  pub reads : behind ≡ before ++ length_of taken
  pub input : IsRead old new (bytes_of taken)

abbrev pub ReadsFor : Option ℕ → List ℕ → List ℕ → Outside → Outside → Result (Option (Vec ℕ Global)) StepError → Type 0
ReadsFor limit before behind old new (Ok piece) = ReadsAsAsked limit before behind old new (piece_value piece)
ReadsFor limit before behind old new (Err ReadFault) = IsSome limit × (behind ≡ before) × Fails old new
ReadsFor limit before behind old new (Err WriteFault) = ⊥
ReadsFor limit before behind old new (Err Memory) = (behind ≡ before) × Rests old new

-- there is no limit, or it is one that a piece's length in 32 bits can have
abbrev pub IsShort : Option ℕ → Type 0
IsShort None = Unit {0}
IsShort (Some limit) = limit ≤ 65536

-- ---- what is sent

abbrev pub SendsOut : Option (ℕ × List ℕ) → Outside → Outside → Outside → Outside → Result Unit StepError → Type 0
SendsOut sent out out_now err err_now (Ok v) = IsWritten out out_now (sent_to 1 sent) × IsWritten err err_now (sent_to 2 sent)
SendsOut sent out out_now err err_now (Err WriteFault) = BreaksOff sent out out_now err err_now
SendsOut sent out out_now err err_now (Err ReadFault) = ⊥
SendsOut sent out out_now err err_now (Err Memory) = ⊥
