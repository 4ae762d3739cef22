-- What the law of the original asks of the ground of a file.
use Rattle.std.specs.Prelude.{◌≡◌, ℕ, ◌+◌, ◌^◌, ◌<◌, ◌≤◌, List, All, slice_get, true, Some}
use Rattle.rw_words.specs.declared.atom.Atom.TheVariants.{Code, Diff}
use Rattle.rw_domain.specs.LaidOut.{KnownCells}
use Rattle.rw_machine.specs.Views.{IsLaidOut}
use Rattle.rw_code.specs.Ground.{Ground, ground_of}
use Rattle.rw_code.specs.Known.{has_address}
use Rattle.rw_code.specs.File.{labels_of}

-- the distance of an instruction from a place of a region, where the regions have these addresses in the file, fits 32 bits
-- with its sign
pub record IsShort (places : List ℕ) (c r o : ℕ) : Type 0 where
  pub place : ℕ
  pub is_there : slice_get places r ≡ Some place
  pub above : place + o ≤ c + 2 ^ 31
  pub below : c < place + o + 2 ^ 31

-- It is the ground of the file, by first contents that have the sizes of the regions. Their atoms are of the file, and the
-- distances among them are those of instructions, and short.
pub record FitsFile (file : List ℕ) (file_ground : Ground) : Type 0 where
  pub is_ground : file_ground ≡ ground_of file file_ground.contents
  pub sizes : IsLaidOut file_ground.regions file_ground.contents
  pub atoms : All (KnownCells (has_address (labels_of file file_ground))) file_ground.contents
  pub met : (c r o : ℕ) → has_address (labels_of file file_ground) (Diff c r o) ≡ true → has_address (labels_of file file_ground) (Code c) ≡ true
  pub short : (c r o : ℕ) → has_address (labels_of file file_ground) (Diff c r o) ≡ true → IsShort file_ground.places c r o
