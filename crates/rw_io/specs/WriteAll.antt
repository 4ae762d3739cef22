-- What a whole write does.
use Rattle.std.specs.Prelude.{ℕ, ◌≤◌, List, length, take, Option, Result, Ok, Err}
use Rattle.std.specs.Io.KnownBytes.{Appends}
use Rattle.rw_io.specs.declared.outside.WriteFault.{WriteFault}

-- all the bytes are appended, or at a fault the first `done` of them
abbrev pub WritesAll : {T : Type 0} → Option (List ℕ) → Option (List ℕ) → Result T WriteFault → List ℕ → Type 0
WritesAll old new (Ok v) bytes = Appends old new bytes
WritesAll old new (Err e) bytes = (e.done ≤ length bytes) × Appends old new (take e.done bytes)
