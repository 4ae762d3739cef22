-- A text that is written piece by piece, with a count of the bytes so far.
use Rattle.std.specs.Prelude.{◌≡◌, ℕ, ◌+◌, ◌≤◌, List, length, take, Option, Result, Ok, Err}
use Rattle.std.specs.Io.KnownBytes.{Appends}
use Rattle.rw_io.specs.declared.outside.WriteFault.{WriteFault}

-- the whole text is appended and counted, or at a fault a front of it
abbrev pub WritesOn : Option (List ℕ) → Option (List ℕ) → ℕ → Result ℕ WriteFault → List ℕ → Type 0
WritesOn old new done (Ok n) text = (n ≡ done + length text) × Appends old new text
WritesOn old new done (Err e) text = (k : ℕ) × (e.done ≡ done + k) × (k ≤ length text) × Appends old new (take k text)
