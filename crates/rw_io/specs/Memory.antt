-- The forms in memory: what contracts see of them, and what a call leaves.
use Rattle.std.specs.Prelude.{ℕ, ◌+◌, ◌-◌, ◌^◌, ◌==◌, ◌||◌, min, Bool, if◌then◌else◌, List, ◌++◌, map, drop, Vec, String, string_bytes, Result, Ok, Err, is_none}
use Rattle.std.specs.List.{list_any}
use Rattle.std.specs.declared.alloc.Global.{Global}
use Rattle.rw_io.specs.Outside.{Store, find_file}

-- files as the store that they tell
abbrev pub store_of : List (String Global × Vec ℕ Global) → Store
store_of files = map (λ file. (string_bytes file.0, file.1.items)) files

-- a count after one more: it stands still at the end of its type
abbrev pub next_count : ℕ → ℕ
next_count n = min (n + 1) (2 ^ 64 - 1)

-- the next call's number is one of those that are to fail; calls are numbered from 1
abbrev pub is_listed : List ℕ → ℕ → Bool
is_listed fails calls = list_any (λ n. n == next_count calls) fails

-- files in memory: the numbers of the calls that are to fail, and how many calls and failures there were
pub record FilesState : Type 0 where
  pub files : Store
  pub fails : List ℕ
  pub calls : ℕ
  pub faults : ℕ

-- a reading of this name is to fail: the call is listed, or the name absent
abbrev pub is_failing : FilesState → List ℕ → Bool
is_failing s name = is_listed s.fails s.calls || is_none (find_file s.files name)

-- files after a reading of this name
abbrev pub after_read_all : FilesState → List ℕ → FilesState
after_read_all s name = record {
  files = s.files;
  fails = s.fails;
  calls = next_count s.calls;
  faults = if is_failing s name then next_count s.faults else s.faults;
}

-- a source in memory: the bytes that are left, and the rest as for files
pub record SourceState : Type 0 where
  pub left : List ℕ
  pub fails : List ℕ
  pub calls : ℕ
  pub faults : ℕ

-- a source after a read
abbrev pub after_read : {E : Type 0} → SourceState → Result ℕ E → SourceState
after_read s (Ok n) = record { left = drop n s.left; fails = s.fails; calls = next_count s.calls; faults = s.faults }
after_read s (Err e) = record { left = s.left; fails = s.fails; calls = next_count s.calls; faults = next_count s.faults }

-- a sink in memory: the bytes that it holds, how many writes found no memory, and the rest as for files
pub record SinkState : Type 0 where
  pub bytes : List ℕ
  pub fails : List ℕ
  pub calls : ℕ
  pub faults : ℕ
  pub starved : ℕ

-- a sink after a write of this piece: a failure that isn't listed is one for want of memory
abbrev pub after_write : {E : Type 0} → SinkState → List ℕ → Result ℕ E → SinkState
after_write s piece (Ok n) = record { bytes = s.bytes ++ piece; fails = s.fails; calls = next_count s.calls; faults = s.faults; starved = s.starved }
after_write s piece (Err e) = record {
  bytes = s.bytes;
  fails = s.fails;
  calls = next_count s.calls;
  faults = next_count s.faults;
  starved = if is_listed s.fails s.calls then s.starved else next_count s.starved;
}
