-- Words whose atoms have addresses, what they are as a whole, and the words of these kinds.
use Rattle.std.proofs.Common.{ℕ, zero, suc, ◌^◌, ◌<◌, ◌≡◌, Bool, true, false, cond, nat_eq, List, [], ◌∷◌, Option, Some, None, get_or, take, refl, sym, subst}
use Rattle.rw_base.specs.declared.width.Width.{Width}
use Rattle.rw_base.specs.declared.width.Width.TheVariants.{B, W, L, Q}
use Rattle.rw_base.specs.Width.{byte_count}
use Rattle.rw_words.specs.declared.atom.Atom.{Atom}
use Rattle.rw_words.specs.declared.atom.Atom.TheVariants.{Ptr, Code, Past, Import, End, Diff}
use Rattle.rw_words.specs.declared.atom.Cell.{Cell}
use Rattle.rw_words.specs.declared.kind.Kind.{Kind}
use Rattle.rw_words.specs.declared.kind.Kind.TheVariants.{Number, Whole, Mixed}
use Rattle.rw_words.specs.Addresses.{Addresses, address_of}
use Rattle.rw_words.specs.Words.{number_cells, atom_cells, undefined_cells, number_in, whole_of}
use Rattle.rw_words.specs.Kinds.{kind_from, kind_of, KindStands}
use Rattle.rw_words.proofs.WordLemmas.{whole-parts, atom-stands, kind-stands}
use Rattle.rw_domain.specs.declared.place.Region.{Region}
use Rattle.rw_domain.specs.Stands.{KnownStands}
use Rattle.rw_domain.specs.Numbers.{low, modulus}
use Rattle.rw_domain.specs.Symbols.{low_cells, word_number, word_kind, word_of, moved_kind, whole_if, kinds_sum, kinds_difference, is_mask, align_of, masked_kind, kinds_and, kinds_or}
use Rattle.rw_domain.specs.LaidOut.{AtomsAreLaidOut, KnownCell, KnownCells, WordStands}
use Rattle.rw_domain.proofs.WordsStand.{fitting-stands, low-stands, any-stands, number-stands}

module _ (l : Addresses) (known : Atom → Bool) where
  pub known-numbers : (w : Width) (n : ℕ) → KnownCells known (number_cells w n)
  known-numbers B n = (tt, tt)
  known-numbers W n = (tt, (tt, tt))
  known-numbers L n = (tt, (tt, (tt, (tt, tt))))
  known-numbers Q n = (tt, (tt, (tt, (tt, (tt, (tt, (tt, (tt, tt))))))))

  pub known-undefined : (w : Width) → KnownCells known (undefined_cells w)
  known-undefined B = (tt, tt)
  known-undefined W = (tt, (tt, tt))
  known-undefined L = (tt, (tt, (tt, (tt, tt))))
  known-undefined Q = (tt, (tt, (tt, (tt, (tt, (tt, (tt, (tt, tt))))))))

  pub known-atom : (a : Atom) → known a ≡ true → KnownCells known (atom_cells a)
  known-atom a h = (h, (h, (h, (h, (h, (h, (h, (h, tt))))))))

  pub known-take : (k : ℕ) (a : List Cell) → KnownCells known a → KnownCells known (take k a)
  known-take zero a h = tt
  known-take (suc k) [] h = tt
  known-take (suc k) (c ∷ cells) h = (h.0, known-take k cells h.1)

  pub known-get : (a : List Cell) (i : ℕ) (c : Cell) → KnownCell known c → KnownCells known a → KnownCell known (get_or a i c)
  known-get [] i c d h = d
  known-get (x ∷ cells) zero c d h = h.0
  known-get (x ∷ cells) (suc i) c d h = known-get cells i c d h.1

  -- ---- words of a width

  pub number-word : (w : Width) (n : ℕ) → n < modulus w → WordStands l known (number_cells w n) n
  number-word w n small = record { cells = fitting-stands l w n small; atoms = known-numbers w n }

  pub any-word : (w : Width) (n : ℕ) → n < modulus w → WordStands l known (undefined_cells w) n
  any-word w n small = record { cells = any-stands l w n small; atoms = known-undefined w }

  pub low-word : (w : Width) (a : List Cell) (n : ℕ) → WordStands l known a n → WordStands l known (low_cells w a) (low w n)
  low-word w a n h = record { cells = low-stands l w a n h.cells; atoms = known-take (byte_count w) a h.atoms }

  pub atom-word : (a : Atom) → known a ≡ true → WordStands l known (atom_cells a) (address_of l a)
  atom-word a h = record { cells = atom-stands l a; atoms = known-atom a h }

  pub word-number : (w : Width) (a : List Cell) (n : ℕ) → WordStands l known a n → KnownStands (word_number w a) (Some (low w n))
  word-number w a n h = number-stands l w a n h.cells

  -- ---- kinds

  abbrev pub KnownKind : Kind → Type 0
  KnownKind (Whole a) = known a ≡ true
  KnownKind (Number n) = Unit {0}
  KnownKind Mixed = Unit {0}

  pub kind-known : (cells : List Cell) → KnownCells known cells → KnownKind (kind_of cells)
  kind-known cells h = by_parts (number_in cells) (whole_of cells) refl
    where
      by_parts : (number : Option ℕ) (whole : Option Atom) → whole_of cells ≡ whole → KnownKind (kind_from number whole)
      by_parts (Some n) whole e = tt
      by_parts None (Some a) e = (let parts : KnownCells known (atom_cells a) = subst (KnownCells known) (whole-parts cells a e) h in parts).0
      by_parts None None e = tt

  pub kind-word : (k : Kind) (n : ℕ) → n < 2 ^ 64 → KindStands l k n → KnownKind k → WordStands l known (word_of k) n
  kind-word (Number v) n small e h = subst (λ z. WordStands l known (number_cells Q z) n) e (number-word Q n small)
  kind-word (Whole a) n small e h = subst (WordStands l known (atom_cells a)) (sym e) (atom-word a h)
  kind-word Mixed n small e h = any-word Q n small

  pub word-kind-stands : (a : List Cell) (n : ℕ) → WordStands l known a n → KindStands l (word_kind a) (low Q n)
  word-kind-stands a n h = let q = low-word Q a n h in kind-stands l (low_cells Q a) (low Q n) q.cells

  pub word-kind-known : (a : List Cell) (n : ℕ) → WordStands l known a n → KnownKind (word_kind a)
  word-kind-known a n h = let q = low-word Q a n h in kind-known (low_cells Q a) q.atoms

  -- ---- the atoms of results

  module _ (atoms : AtomsAreLaidOut l known) where
    pub moved-known : (a : Atom) (v : ℕ) → known a ≡ true → KnownKind (moved_kind a v)
    moved-known (Ptr r o) v h = atoms.moved r o _ h
    moved-known (Code c) v h = tt
    moved-known (Past c) v h = tt
    moved-known (Import i) v h = tt
    moved-known End v h = tt
    moved-known (Diff c r o) v h = tt

    if-known : (b : Bool) (a : Atom) → known a ≡ true → KnownKind (whole_if b a)
    if-known true a h = h
    if-known false a h = tt

    pub sum-known : (a b : Kind) → KnownKind a → KnownKind b → KnownKind (kinds_sum a b)
    sum-known (Number x) (Number y) g h = tt
    sum-known (Whole a) (Number v) g h = moved-known a v g
    sum-known (Number v) (Whole a) g h = moved-known a v h
    sum-known (Whole (Ptr r o)) (Whole (Diff c s p)) g h = if-known _ (Code c) (atoms.met c s p h)
    sum-known (Whole (Diff c s p)) (Whole (Ptr r o)) g h = if-known _ (Code c) (atoms.met c s p g)
    sum-known (Whole _) (Whole _) g h = tt
    sum-known Mixed b g h = tt
    sum-known (Number x) Mixed g h = tt
    sum-known (Whole a) Mixed g h = tt

    number-known : (b : Bool) (n : ℕ) → KnownKind (cond b (Number n) Mixed)
    number-known true n = tt
    number-known false n = tt

    pub difference-known : (a b : Kind) → KnownKind a → KnownKind b → KnownKind (kinds_difference a b)
    difference-known (Number x) (Number y) g h = tt
    difference-known (Whole a) (Number v) g h = moved-known a _ g
    difference-known (Whole (Ptr r o)) (Whole (Ptr s p)) g h = number-known (nat_eq r s) _
    difference-known (Whole _) (Whole _) g h = tt
    difference-known (Number x) (Whole b) g h = tt
    difference-known Mixed b g h = tt
    difference-known (Number x) Mixed g h = tt
    difference-known (Whole a) Mixed g h = tt

    masked-known : (regions : List Region) (a : Atom) (v : ℕ) → known a ≡ true → KnownKind (masked_kind regions a v)
    masked-known regions (Ptr r o) v h = if-known (is_mask (align_of regions r) v) (Ptr r _) (atoms.moved r o _ h)
    masked-known regions (Code c) v h = tt
    masked-known regions (Past c) v h = tt
    masked-known regions (Import i) v h = tt
    masked-known regions End v h = tt
    masked-known regions (Diff c r o) v h = tt

    pub and-known : (regions : List Region) (a b : Kind) → KnownKind a → KnownKind b → KnownKind (kinds_and regions a b)
    and-known regions (Whole a) (Number v) g h = masked-known regions a v g
    and-known regions (Whole a) (Whole b) g h = if-known _ a g
    and-known regions (Whole a) Mixed g h = tt
    and-known regions (Number x) b g h = tt
    and-known regions Mixed b g h = tt

    pub or-known : (a b : Kind) → KnownKind a → KnownKind b → KnownKind (kinds_or a b)
    or-known (Whole a) (Whole b) g h = if-known _ a g
    or-known (Whole a) (Number v) g h = tt
    or-known (Whole a) Mixed g h = tt
    or-known (Number x) b g h = tt
    or-known Mixed b g h = tt
