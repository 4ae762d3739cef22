-- All operators over words stand for those over numbers.
use Rattle.std.proofs.Common.{◌≡◌, ℕ, zero, suc, ◌+◌, ◌/◌, ◌%◌, ◌^◌, ◌<◌, ◌≤◌, List, [], ◌∷◌, Bool, true, take, get_or, refl, sym, ap, subst, ◌∙◌, arith, lit<}
use Rattle.std.specs.Prelude.{slice_index_or, ◌-◌, ◌⊎◌}
use Rattle.std.proofs.Math.Nat.{mod-lt}
use Rattle.std.proofs.lemmas.Nat.{pow_pos}
use Rattle.std.proofs.lemmas.Option.{slice_get-get_or}
use Rattle.rw_base.specs.declared.width.Width.{Width}
use Rattle.rw_base.specs.declared.width.Width.TheVariants.{L, Q}
use Rattle.rw_base.specs.Width.{byte_count, bit_count}
use Rattle.rw_words.specs.declared.atom.Atom.{Atom}
use Rattle.rw_words.specs.declared.atom.Atom.TheVariants.{Ptr, Code, Diff}
use Rattle.rw_words.specs.declared.atom.Cell.{Cell}
use Rattle.rw_words.specs.declared.atom.Cell.TheVariants.{Undef}
use Rattle.rw_words.specs.Addresses.{Addresses, address_of, byte_of}
use Rattle.rw_words.specs.Words.{atom_cells}
use Rattle.rw_words.specs.Kinds.{kind_of}
use Rattle.rw_words.proofs.WordLemmas.{split-stands, kind-stands, address_below}
use Rattle.rw_domain.specs.Placed.{Placed}
use Rattle.rw_domain.specs.Stands.{Both, OperatorsStand}
use Rattle.rw_domain.specs.OtherOperators.{OtherOperatorsStand}
use Rattle.rw_domain.specs.Numbers.{low, join_of, extend_of}
use Rattle.rw_domain.specs.NumberPlaces.{base_of, numbers_over}
use Rattle.rw_domain.specs.Symbols.{symbols_over}
use Rattle.rw_domain.specs.LaidOut.{DomainsAreLaidOut, KnownCells, WordStands, KnownByteStands}
use Rattle.rw_domain.specs.RegionsLaidOut.{ByteStands, IsPlacedAt}
use Rattle.rw_domain.proofs.WordsStand.{num-stands, join-stands}
use Rattle.rw_domain.proofs.KnownWords.{known-numbers, known-get, any-word, atom-word, word-number}
use Rattle.rw_domain.proofs.AluStands.{alu-words}
use Rattle.rw_domain.proofs.SymbolsStand.{one-stands, shift-stands, mul-stands, div-stands, swap-stands, bit-stands, scan-stands}
use Rattle.rw_domain.proofs.ExtendStands.{extend-stands, signed-half}
use Rattle.rw_domain.proofs.LowArguments.{sign-low}
use Rattle.rw_domain.proofs.KindsStand.{distance}
use Rattle.rw_domain.proofs.SumOfWords.{word_sum-stands}
use Rattle.rw_domain.proofs.PlaceLemmas.{null_region}
use Rattle.rw_domain.proofs.PlacesOfWords.{place-stands}

module _ (l : Addresses) (known : Atom → Bool) (d t : Placed) (lie : DomainsAreLaidOut l known d t) where
  byte-of-word : (a : List Cell) (n i : ℕ) → WordStands l known a n → KnownByteStands l known (slice_index_or a i Undef) (byte_of n i)
  byte-of-word a n i h = record {
    cell = split-stands l a n i h.cells;
    byte = mod-lt (n / 256 ^ i) (lit< tt);
    atom = known-get l known a i Undef tt h.atoms;
  }

  bytes : (xs : List Cell) (ys : List ℕ) → Both (KnownByteStands l known) xs ys → Both (ByteStands l) xs ys
  bytes [] [] h = tt
  bytes [] (y ∷ ys) h = h
  bytes (x ∷ xs) [] h = h
  bytes (x ∷ xs) (y ∷ ys) h = ((h.0.cell, h.0.byte), bytes xs ys h.1)

  row-atoms : (k : ℕ) (xs : List Cell) (ys : List ℕ) → Both (KnownByteStands l known) xs ys → KnownCells known (take k xs)
  row-atoms zero xs ys h = tt
  row-atoms (suc k) [] ys h = tt
  row-atoms (suc k) (x ∷ xs) [] h = absurd h
  row-atoms (suc k) (x ∷ xs) (y ∷ ys) h = (h.0.atom, row-atoms k xs ys h.1)

  joined : (w : Width) (xs : List Cell) (ys : List ℕ) → Both (KnownByteStands l known) xs ys → WordStands l known (take (byte_count w) xs) (join_of w ys)
  joined w xs ys h = record { cells = join-stands l w xs ys (bytes xs ys h); atoms = row-atoms (byte_count w) xs ys h }

  canary-number : base_of t t.canary ≡ address_of l (Ptr d.canary 0)
  canary-number =
      let placed : IsPlacedAt (l.region d.canary) (get_or d.regions d.canary null_region) = lie.laid.placed d.canary (get_or d.regions d.canary null_region) (slice_get-get_or d.regions d.canary null_region lie.laid.has_canary) in
      let most : l.region d.canary + (get_or d.regions d.canary null_region).size ≤ 2 ^ 47 = placed.most in
      ap (base_of t) lie.laid.canary
      ∙ (lie.laid.bases d.canary lie.laid.has_canary
      ∙ sym (let e : (l.region d.canary + 0) % 2 ^ 64 ≡ l.region d.canary = omega arith in e))

  pub all-stand : OperatorsStand (WordStands l known) (KnownByteStands l known) (symbols_over d) (numbers_over t)
  all-stand = record {
    num = λ w v. record { cells = num-stands l w v; atoms = known-numbers l known w v };
    undef = λ w. any-word l known w 0 (pow_pos (bit_count w));
    number = λ w a b h. word-number l known w a b h;
    split = λ a b i h. byte-of-word a b i h;
    join = joined;
    alu = λ op w a c b e f g h k flags. alu-words l known d t lie op w a c b e f g h k flags;
    sum = λ base base' index index' disp h k. word_sum-stands l known d t lie base base' index index' disp h k;
    canary = subst (WordStands l known (atom_cells (Ptr d.canary 0))) (sym canary-number) (atom-word l known (Ptr d.canary 0) lie.known_canary);
    place = λ a b len access some h. place-stands l known d t lie (kind_of a) b len access (kind-stands l a b h.cells) some;
    stack = ap (λ canary. canary - 2) lie.laid.canary;
    stack_fits = λ a b h e. refl;
    forgets = λ e a b h. record { cell = tt; byte = h.byte; atom = tt };
    keeps = refl;
  }

  pub others-stand : OtherOperatorsStand (WordStands l known) (symbols_over d) (numbers_over t)
  others-stand = record {
    one = λ op w a b f g h k. one-stands l known d t lie op w a b f g h k;
    shift = λ op w a c b e f g h k flags. shift-stands l known d t lie op w a c b e f g h k flags;
    mul = λ is_signed w a c b e h k. mul-stands l known d t lie is_signed w a c b e h k;
    div = λ is_signed w a c e b f g h k m. div-stands l known d t lie is_signed w a c e b f g h k m;
    extend = λ is_signed from a b to h. extend-stands l known d t lie is_signed from a b to h;
    swap = λ w a b h. swap-stands l known d t lie w a b h;
    bit = λ op w a c b e f g h k flags. bit-stands l known d t lie op w a c b e f g h k flags;
    scan = λ op w a b h. scan-stands l known d t lie op w a b h;
  }

-- a table's place and the word in it
pub table-stands : (l : Addresses) (c r o : ℕ) → (address_of l (Diff c r o) < 2 ^ 31) ⊎ (2 ^ 64 - 2 ^ 31 ≤ address_of l (Diff c r o)) → low Q (address_of l (Ptr r o) + extend_of true L (low L (address_of l (Diff c r o))) Q) ≡ address_of l (Code c)
table-stands l c r o near =
    let value : extend_of true L (low L (address_of l (Diff c r o))) Q ≡ address_of l (Diff c r o) =
    sign-low L (address_of l (Diff c r o)) Q ∙ signed-half (address_of l (Diff c r o)) near (address_below l (Diff c r o)) in
    ap (λ z. low Q (address_of l (Ptr r o) + z)) value
    ∙ distance l (address_of l (Ptr r o)) (address_of l (Code c)) (address_below l (Ptr r o)) (address_below l (Code c))
