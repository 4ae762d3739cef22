-- What a reading up to a limit takes from a reader.
use Rattle.std.specs.Prelude.{◌≡◌, ℕ, ◌+◌, ◌≤◌, List, length, Option, Result, Ok, Err, Vec}
use Rattle.std.specs.Io.KnownBytes.{Consumes, IsAtEnd}
use Rattle.std.specs.declared.alloc.Global.{Global}
use Rattle.rw_io.specs.declared.outside.FileError.{FileError}
use Rattle.rw_io.specs.declared.outside.FileError.TheVariants.{Failed, Memory, TooLarge}

-- some bytes were taken, as many as the test says
abbrev pub Takes : (ℕ → Type 0) → Option (List ℕ) → Option (List ℕ) → Type 0
Takes Many old new = (bytes : List ℕ) × Many (length bytes) × Consumes old new bytes

-- all bytes up to the end, where they are within the limit; else one byte past the limit is taken, and no more
abbrev pub ReadsUpTo : ℕ → Option (List ℕ) → Option (List ℕ) → Result (Vec ℕ Global) FileError → Type 0
ReadsUpTo limit old new (Ok bytes) = (length bytes.items ≤ limit) × Consumes old new bytes.items × IsAtEnd new
ReadsUpTo limit old new (Err (TooLarge n)) = (n ≡ limit + 1) × Takes (λ count. count ≡ limit + 1) old new
ReadsUpTo limit old new (Err Failed) = Takes (λ count. count ≤ limit + 1) old new
ReadsUpTo limit old new (Err Memory) = Takes (λ count. count ≤ limit + 1) old new
