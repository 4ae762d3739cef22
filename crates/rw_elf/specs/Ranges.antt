-- Items that take ranges of addresses, in a list by address.
use Rattle.std.specs.Prelude.{◌≡◌, ℕ, ◌<◌, ◌≤◌, ◌&&◌, List, length, Bool, nat_le, nat_lt, Option, Some, slice_get, position}
use Rattle.std.specs.List.{AllPairs}

-- the number of items whose range begins at or below an address
pub record CountsUpTo {X : Type 0} (start : X → ℕ) (list : List X) (a n : ℕ) : Type 0 where
  pub within : n ≤ length list
  pub below : (k : ℕ) (x : X) → k < n → slice_get list k ≡ Some x → start x ≤ a
  pub above : (k : ℕ) (x : X) → n ≤ k → slice_get list k ≡ Some x → a < start x

-- each range ends at or below where each later one begins
abbrev pub AreApartBy : {X : Type 0} → (X → ℕ) → (X → ℕ) → List X → Type 0
AreApartBy start end list = AllPairs (λ x y. end x ≤ start y) list

-- the address lies in the range of an item
abbrev pub lies_in : {X : Type 0} → (X → ℕ) → (X → ℕ) → ℕ → X → Bool
lies_in start end a x = nat_le (start x) a && nat_lt a (end x)

-- the number of the first item whose range has an address
abbrev pub number_around : {X : Type 0} → (X → ℕ) → (X → ℕ) → List X → ℕ → Option ℕ
number_around start end list a = position (lies_in start end a) list
