-- Counts of faults, and the files that are told.
use Rattle.std.specs.Prelude.{◌≡◌, ℕ, ◌+◌, ◌-◌, ◌^◌, ◌<◌, ◌≤◌, min, List, [], ◌∷◌, length, bytes_eq, if◌then◌else◌, ⊤, Option, Some, None, unwrap_or, Result, Ok, Err, Vec, IfOk}
use Rattle.std.specs.declared.alloc.Global.{Global}
use Rattle.rw_io.specs.declared.outside.FileError.{FileError}
use Rattle.rw_io.specs.declared.outside.FileError.TheVariants.{Failed, Memory, TooLarge}

-- a count of faults rose: it is greater, or stands at the end of its type
abbrev pub Rose : ℕ → ℕ → Type 0
Rose before now = min (before + 1) (2 ^ 64 - 1) ≤ now

-- a failure raises the count, and nothing else moves it
abbrev pub HasCause : {T E : Type 0} → ℕ → ℕ → Result T E → Type 0
HasCause before now (Ok v) = now ≡ before
HasCause before now (Err e) = (before ≤ now) × Rose before now

-- a piece that isn't empty is taken at least in part
abbrev pub TakesSome : {E : Type 0} → Result ℕ E → List ℕ → Type 0
TakesSome result piece = IfOk result (λ n. 0 < length piece → 0 < n)

-- files by name
abbrev pub Store : Type 0
Store = List (List ℕ × List ℕ)

-- the bytes of the first file of a name
abbrev pub find_file : Store → List ℕ → Option (List ℕ)
find_file [] name = None
find_file (file ∷ files) name = if bytes_eq file.0 name then Some file.1 else find_file files name

-- an absent file is taken as empty
abbrev pub file_at : Store → List ℕ → List ℕ
file_at files name = unwrap_or (find_file files name) []

-- what is read of a file: all of it, unless it is longer than the limit
abbrev pub FileAnswer : List ℕ → ℕ → Result (Vec ℕ Global) FileError → Type 0
FileAnswer file limit (Ok bytes) = bytes.items ≡ file
FileAnswer file limit (Err (TooLarge n)) = limit < length file
FileAnswer file limit (Err Failed) = ⊤
FileAnswer file limit (Err Memory) = ⊤

-- no more than the limit is read, and one byte past it is named
abbrev pub FileFits : ℕ → Result (Vec ℕ Global) FileError → Type 0
FileFits limit (Ok bytes) = length bytes.items ≤ limit
FileFits limit (Err (TooLarge n)) = n ≡ limit + 1
FileFits limit (Err Failed) = ⊤
FileFits limit (Err Memory) = ⊤

-- only a failure moves the count, and raises it
abbrev pub FileCause : ℕ → ℕ → Result (Vec ℕ Global) FileError → Type 0
FileCause before now (Ok bytes) = now ≡ before
FileCause before now (Err (TooLarge n)) = now ≡ before
FileCause before now (Err Failed) = (before ≤ now) × Rose before now
FileCause before now (Err Memory) = now ≡ before
