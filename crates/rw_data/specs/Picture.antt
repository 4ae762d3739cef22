-- What is kept of a file.
use Rattle.std.specs.Prelude.{◌≡◌, ◌<◌, ℕ, List, None, IsSomeAnd, slice_get}
use Rattle.rw_elf.specs.Tables.{kept_sections}
use Rattle.rw_data.specs.FirstFault.{first_fault}

-- the file has no fault, and these are its tables, relocations, functions and jump tables
pub record IsPictureOf (file relocs functions tables : List ℕ) : Type 0 where
  pub clean : first_fault file ≡ None
  pub relocs_of : relocs ≡ file
  pub functions_of : functions ≡ file
  pub tables_of : tables ≡ file

-- the offset lies in the kept section with a number
abbrev pub IsInRegion : List ℕ → ℕ → ℕ → Type 0
IsInRegion file region offset = IsSomeAnd (slice_get (kept_sections file) region) (λ s. offset < s.size)
