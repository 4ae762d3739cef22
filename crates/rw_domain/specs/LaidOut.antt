-- Where the regions, the code and the distances that words hold lie, as a layout of a text or a placing of a file has
-- them.
use Rattle.std.specs.Prelude.{ℕ, ◌-◌, ◌^◌, ◌<◌, ◌≤◌, ◌≡◌, ◌⊎◌, Bool, true, List, [], ◌∷◌}
use Rattle.rw_words.specs.declared.atom.Atom.{Atom}
use Rattle.rw_words.specs.declared.atom.Atom.TheVariants.{Ptr, Code, Diff}
use Rattle.rw_words.specs.declared.atom.Cell.{Cell}
use Rattle.rw_words.specs.declared.atom.Cell.TheVariants.{Num, Part, Undef}
use Rattle.rw_words.specs.Addresses.{Addresses, address_of, CellsStand, CellStands}
use Rattle.rw_domain.specs.Placed.{Placed}
use Rattle.rw_domain.specs.RegionsLaidOut.{RegionsAreLaidOut}

-- Where the atoms that have an address lie.
pub record AtomsAreLaidOut (l : Addresses) (known : Atom → Bool) : Type 0 where
  -- with a place every place of its region has one, and with a distance the instruction
  pub moved : (r o p : ℕ) → known (Ptr r o) ≡ true → known (Ptr r p) ≡ true
  pub met : (c r o : ℕ) → known (Diff c r o) ≡ true → known (Code c) ≡ true
  -- two instructions have two addresses
  pub code : (c : ℕ) → known (Code c) ≡ true → (4096 ≤ l.code c) × (l.code c ≤ 2 ^ 47)
  pub codes_apart : (c d : ℕ) → known (Code c) ≡ true → known (Code d) ≡ true → l.code c ≡ l.code d → c ≡ d
  -- a distance fits 32 bits with its sign
  pub near : (c r o : ℕ) → known (Diff c r o) ≡ true → (address_of l (Diff c r o) < 2 ^ 31) ⊎ (2 ^ 64 - 2 ^ 31 ≤ address_of l (Diff c r o))

-- What the operator laws ask: the atoms that have an address, the canary among them, and the regions lie as they should.
pub record DomainsAreLaidOut (l : Addresses) (known : Atom → Bool) (words numbers : Placed) : Type 0 where
  pub atoms : AtomsAreLaidOut l known
  pub known_canary : known (Ptr words.canary 0) ≡ true
  pub laid : RegionsAreLaidOut l words numbers

-- a cell stands for a byte, and its atom has an address
abbrev pub KnownCell : (Atom → Bool) → Cell → Type 0
KnownCell known (Num b) = Unit {0}
KnownCell known (Part a i) = known a ≡ true
KnownCell known Undef = Unit {0}

abbrev pub KnownCells : (Atom → Bool) → List Cell → Type 0
KnownCells known [] = Unit {0}
KnownCells known (c ∷ cells) = KnownCell known c × KnownCells known cells

-- a word stands for a number
pub record WordStands (l : Addresses) (known : Atom → Bool) (a : List Cell) (n : ℕ) : Type 0 where
  pub cells : CellsStand l a n
  pub atoms : KnownCells known a

-- a cell stands for a byte
pub record KnownByteStands (l : Addresses) (known : Atom → Bool) (c : Cell) (b : ℕ) : Type 0 where
  pub cell : CellStands l c b
  pub byte : b < 256
  pub atom : KnownCell known c
