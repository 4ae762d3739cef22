-- Where a file lies in memory.
use Rattle.std.specs.Prelude.{◌≡◌, ◌≢◌, ℕ, ◌+◌, ◌%◌, ◌^◌, ◌<◌, ◌≤◌, List, Contains, length, slice_get, max, true, Some}
use Rattle.std.specs.Option.{option_map_or}
use Rattle.rw_words.specs.Addresses.{Addresses}
use Rattle.rw_domain.specs.declared.place.Region.{Region}
use Rattle.rw_domain.specs.RegionsLaidOut.{Apart, ArePlaced}
use Rattle.rw_elf.specs.declared.section.Section.{Section}
use Rattle.rw_elf.specs.Section.{sections}
use Rattle.rw_elf.specs.Sections.{is_placed}
use Rattle.rw_elf.specs.Tables.{kept_sections}
use Rattle.rw_funcs.specs.Functions.{functions_of}
use Rattle.rw_code.specs.declared.point.FilePoint.{FilePoint}
use Rattle.rw_code.specs.declared.point.FilePoint.TheVariants.{At, Past}
use Rattle.rw_code.specs.Ground.{Ground}
use Rattle.rw_code.specs.Start.{Start, regions_of}
use Rattle.rw_code.specs.Imports.{copy_of, import_name, is_outside}
use Rattle.rw_code.specs.File.{end_from}

-- the number that is added to each address of the file, the bases of the regions, the addresses of imported names, and where
-- a return from the program goes
pub record Placing : Type 0 where
  pub base : ℕ
  pub region : ℕ → ℕ
  pub name : List ℕ → ℕ
  pub finish : ℕ

-- an imported name that is copied has the address of its copy
abbrev pub name_address : List ℕ → Placing → List ℕ → ℕ
name_address file placing name =
    option_map_or (λ k. placing.region (length (kept_sections file) + k)) (copy_of file name) (placing.name name)

abbrev pub import_address : List ℕ → Placing → ℕ → ℕ
import_address file placing i = name_address file placing (import_name file i)

-- an address of 64 bits outside the regions and the image
pub record IsElsewhere (file : List ℕ) (file_ground : Ground) (start : Start) (placing : Placing) (address : ℕ) : Type 0 where
  pub fits : address < 2 ^ 64
  pub regions : (r : ℕ) (a : Region) → slice_get (regions_of file_ground start) r ≡ Some a → Apart address 1 (placing.region r) a.size
  pub image : (s : Section) → Contains (sections file) s → is_placed s ≡ true → Apart address 1 (placing.base + s.addr) s.size

-- The base is a multiple of a page and of each kept section's alignment (0 counts as 1), and the image ends at or below 2 ^ 47.
-- The file's regions lie in it where the file has them, and all others outside it. The end and the imported names that
-- aren't copied have addresses elsewhere, all different.
pub record IsPlacing (file : List ℕ) (file_ground : Ground) (start : Start) (placing : Placing) : Type 0 where
  pub least : 4096 ≤ placing.base
  pub pages : placing.base % 4096 ≡ 0
  pub aligned : (s : Section) → Contains (kept_sections file) s → placing.base % max 1 s.align ≡ 0
  pub most : (s : Section) → Contains (sections file) s → is_placed s ≡ true → placing.base + s.addr + s.size ≤ 2 ^ 47
  pub file_regions : (r a : ℕ) → slice_get file_ground.places r ≡ Some a → placing.region r ≡ placing.base + a
  pub regions : ArePlaced (regions_of file_ground start) file_ground.holes placing.region
  pub outside : (r : ℕ) (a : Region) (s : Section) → length file_ground.regions ≤ r → slice_get (regions_of file_ground start) r ≡ Some a → Contains (sections file) s → is_placed s ≡ true
      → Apart (placing.region r) a.size (placing.base + s.addr) s.size
  pub end_elsewhere : IsElsewhere file file_ground start placing placing.finish
  pub names_elsewhere : (i : ℕ) → is_outside file i ≡ true → IsElsewhere file file_ground start placing (placing.name (import_name file i))
  pub names_apart : (i j : ℕ) → is_outside file i ≡ true → is_outside file j ≡ true → placing.name (import_name file i) ≡ placing.name (import_name file j) → import_name file i ≡ import_name file j
  pub no_name_at_end : (i : ℕ) → is_outside file i ≡ true → placing.name (import_name file i) ≢ placing.finish

-- the place past a function is the function's end
abbrev pub placing_addresses : List ℕ → Placing → Addresses
placing_addresses file placing = record {
  region = placing.region;
  code = λ a. placing.base + a;
  past = λ s. placing.base + end_from (functions_of file) s;
  import = import_address file placing;
  finish = placing.finish;
}

-- the original's point
abbrev pub IsPlaceOf : List ℕ → ℕ → FilePoint → ℕ → Type 0
IsPlaceOf file base (At a) q = q ≡ base + a
IsPlaceOf file base (Past start) q = q ≡ base + end_from (functions_of file) start
