-- The first region that has a place, found region by region.
use Rattle.std.proofs.Common.{ℕ, ◌<◌, ◌≡◌, ◌∙◌, sym, ap, true, false, List, length, get_or, Option, Some, None}
use Rattle.std.specs.Option.{option_and_then, is_some}
use Rattle.std.proofs.lemmas.Option.{slice_get-get_or}
use Rattle.rw_base.specs.Rules.{first_from}
use Rattle.rw_base.proofs.First.{CleanBelow, found_at}
use Rattle.rw_domain.specs.declared.place.Place.{Place}
use Rattle.rw_domain.specs.declared.place.Region.{Region}
use Rattle.rw_domain.specs.declared.place.Hole.{Hole}
use Rattle.rw_domain.specs.NumberPlaces.{place_at, place_in}

-- the region that stands for one past the end of a list
abbrev pub null_region : Region
null_region = record { size = 0; align = 0; writable = false; zero = false }

-- what was found in the region with this number
pub place-here : (regions : List Region) (bases : List ℕ) (holes : List Hole) (address len n : ℕ) (d : Region) (o : Option Place) → n < length regions → o ≡ place_in holes n (get_or regions n d) (get_or bases n 0) address len → place_at regions bases holes address len n ≡ o
place-here regions bases holes address len n d o within e =
    ap (option_and_then (λ region. place_in holes n region (get_or bases n 0) address len)) (slice_get-get_or regions n d within) ∙ sym e

pub first-found : (g : ℕ → Option Place) (n k : ℕ) (o : Option Place) → k < n → CleanBelow g k → g k ≡ o → is_some o ≡ true → o ≡ first_from g 0 n
first-found g n k (Some place) within clean e some = found_at g n k place within clean e
first-found g n k None within clean e some = cc

pub none-here : (g : ℕ → Option Place) (k : ℕ) (o : Option Place) → g k ≡ o → is_some o ≡ false → g k ≡ None
none-here g k (Some place) e none = cc
none-here g k None e none = e
