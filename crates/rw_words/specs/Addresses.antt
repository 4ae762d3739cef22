-- Where atoms lie, and what cells and words stand for there.
use Rattle.std.specs.Prelude.{◌≡◌, ℕ, ◌+◌, ◌-◌, ◌/◌, ◌%◌, ◌^◌, List, [], ◌∷◌}
use Rattle.rw_words.specs.declared.atom.Atom.{Atom}
use Rattle.rw_words.specs.declared.atom.Atom.TheVariants.{Ptr, Code, Past, Import, End, Diff}
use Rattle.rw_words.specs.declared.atom.Cell.{Cell}
use Rattle.rw_words.specs.declared.atom.Cell.TheVariants.{Num, Part, Undef}

-- the bases of the regions, and the addresses of code, of the ends of functions, of imported names and of the end of the run
pub record Addresses : Type 0 where
  pub region : ℕ → ℕ
  pub code : ℕ → ℕ
  pub past : ℕ → ℕ
  pub import : ℕ → ℕ
  pub finish : ℕ

-- the address of an atom, modulo 2 ^ 64
abbrev pub address_of : Addresses → Atom → ℕ
address_of l (Ptr r o) = (l.region r + o) % 2 ^ 64
address_of l (Code c) = l.code c % 2 ^ 64
address_of l (Past c) = l.past c % 2 ^ 64
address_of l (Import i) = l.import i % 2 ^ 64
address_of l End = l.finish % 2 ^ 64
address_of l (Diff c r o) = (l.code c % 2 ^ 64 + 2 ^ 64 - (l.region r + o) % 2 ^ 64) % 2 ^ 64

-- byte i of a number, the lowest first
abbrev pub byte_of : ℕ → ℕ → ℕ
byte_of n i = n / 256 ^ i % 256

-- a cell stands for a byte
abbrev pub CellStands : Addresses → Cell → ℕ → Type 0
CellStands l (Num b) n = n ≡ b
CellStands l (Part a i) n = n ≡ byte_of (address_of l a) i
CellStands l Undef n = Unit {0}

-- a word stands for a number, cell by cell
abbrev pub CellsStand : Addresses → List Cell → ℕ → Type 0
CellsStand l [] n = n ≡ 0
CellsStand l (c ∷ cs) n = CellStands l c (n % 256) × CellsStand l cs (n / 256)
