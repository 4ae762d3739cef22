-- Lines that are written one by one.
use Rattle.std.specs.Prelude.{ℕ, List, Option, Result, Ok, Err}
use Rattle.std.specs.Io.KnownBytes.{Appends}
use Rattle.retro.specs.Call.{AppendsPart}

-- all of a text is appended, or at a fault a front of it
abbrev pub Lists : {T E : Type 0} → Option (List ℕ) → Option (List ℕ) → Result T E → List ℕ → Type 0
Lists old new (Ok v) text = Appends old new text
Lists old new (Err e) text = AppendsPart old new text
