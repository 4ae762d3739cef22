-- The bytes of runs, of addresses and of distances among the lines of a section, and what they are as cells.
use Rattle.std.proofs.Common.{◌≡◌, ℕ, zero, suc, ◌+◌, ◌-◌, ◌*◌, ◌/◌, ◌%◌, ◌^◌, ◌<◌, ◌≤◌, List, [], ◌∷◌, ◌++◌, length, map, take, drop, get_or, All, true, refl, sym, ap, subst, ◌∙◌, arith, lit<}
use Rattle.std.specs.Prelude.{flat_map, min, replicate, slice_index, if◌then◌else◌}
use Rattle.std.specs.Int.{bytes_low_first, byte_at, to_le_bytes, w32, w64}
use Rattle.std.specs.List.{range_with_len}
use Rattle.std.proofs.Math.Nat.{div-one, mod-lt, div-add-mod}
use Rattle.std.proofs.Math.Seq.{drop-cons}
use Rattle.rw_base.specs.declared.width.Width.TheVariants.{L}
use Rattle.rw_words.specs.declared.atom.Atom.{Atom}
use Rattle.rw_words.specs.declared.atom.Cell.{Cell}
use Rattle.rw_words.specs.declared.atom.Cell.TheVariants.{Num, Undef}
use Rattle.rw_words.specs.Addresses.{Addresses, address_of, byte_of, CellStands, CellsStand}
use Rattle.rw_words.specs.Words.{atom_cells}
use Rattle.rw_words.proofs.WordLemmas.{atom-stands, split-stands}
use Rattle.rw_domain.specs.Stands.{Both}
use Rattle.rw_domain.specs.RegionsLaidOut.{ByteStands}
use Rattle.rw_domain.proofs.WordsStand.{low-stands}
use Rattle.rw_elf.specs.declared.section.Section.{Section}
use Rattle.rw_elf.specs.Places.{bytes_from}
use Rattle.rw_elf.specs.Sections.{has_bytes}
use Rattle.rw_funcs.proofs.Fuel.{drop_drop}
use Rattle.rw_data.specs.FirstCells.{byte_in}

-- ---- lists that stand

module _ {A B : Type 0} (R : A → B → Type 0) where
  pub both-joined : (xs : List A) (ys : List B) (us : List A) (vs : List B) → Both R xs ys → Both R us vs → Both R (xs ++ us) (ys ++ vs)
  both-joined [] [] us vs h k = k
  both-joined [] (y ∷ ys) us vs h k = absurd h
  both-joined (x ∷ xs) [] us vs h k = absurd h
  both-joined (x ∷ xs) (y ∷ ys) us vs h k = (h.0, both-joined xs ys us vs h.1 k)

  pub both-length : (xs : List A) (ys : List B) → Both R xs ys → length xs ≡ length ys
  both-length [] [] h = refl
  both-length [] (y ∷ ys) h = absurd h
  both-length (x ∷ xs) [] h = absurd h
  both-length (x ∷ xs) (y ∷ ys) h = ap suc (both-length xs ys h.1)

  -- number by number
  pub both-numbered : (f : ℕ → List A) (g : ℕ → List B) (a n : ℕ) → ((k : ℕ) → a ≤ k → k < a + n → Both R (f k) (g k)) → Both R (flat_map f (range_with_len a n)) (flat_map g (range_with_len a n))
  both-numbered f g a zero each = tt
  both-numbered f g a (suc n) each =
      both-joined (f a) (g a) (flat_map f (range_with_len (a + 1) n)) (flat_map g (range_with_len (a + 1) n)) (each a (omega arith) (omega arith))
      (both-numbered f g (a + 1) n (λ k low high. each k (omega (arith, low)) (omega (arith, high))))

-- ---- the parts of words

module _ (l : Addresses) where
  parts-stand : (cells : List Cell) (i n : ℕ) → ((j : ℕ) → CellStands l (get_or cells j Undef) (byte_of n (i + j))) → Both (ByteStands l) cells (bytes_low_first i (length cells) n)
  parts-stand [] i n h = tt
  parts-stand (c ∷ cells) i n h = (
    (subst (CellStands l c) (here i) (h 0), small i),
    parts-stand cells (suc i) n (λ j. subst (λ k. CellStands l (get_or cells j Undef) (byte_of n k)) (next i j) (h (suc j))),
  )
    where
      next : (i j : ℕ) → i + suc j ≡ suc i + j
      next i j = omega arith

      here : (i : ℕ) → byte_of n (i + 0) ≡ byte_at i n
      here zero = ap (λ k. n / k % 256) refl ∙ ap (λ x. x % 256) (div-one n)
      here (suc i) = let same : suc i + 0 ≡ suc i = omega arith in ap (byte_of n) same

      small : (i : ℕ) → byte_at i n < 256
      small zero = mod-lt n (lit< tt)
      small (suc i) = mod-lt (n / 256 ^ suc i) (lit< tt)

  -- the word of an atom is its address
  pub word-stands : (x : Atom) (n : ℕ) → n ≡ address_of l x → Both (ByteStands l) (atom_cells x) (to_le_bytes w64 n)
  word-stands x n e = parts-stand (atom_cells x) 0 n (λ j. subst (λ k. CellStands l (get_or (atom_cells x) j Undef) (byte_of n k)) (let same : j ≡ 0 + j = omega arith in same) (split-stands l (atom_cells x) n j (subst (CellsStand l (atom_cells x)) (sym e) (atom-stands l x))))

  -- its low four parts are the low bytes
  pub half-stands : (x : Atom) (n : ℕ) → n ≡ address_of l x → Both (ByteStands l) (take 4 (atom_cells x)) (to_le_bytes w32 (n % 2 ^ 32))
  half-stands x n e =
      parts-stand (take 4 (atom_cells x)) 0 (n % 2 ^ 32)
      (λ j. subst (λ k. CellStands l (get_or (take 4 (atom_cells x)) j Undef) (byte_of (n % 2 ^ 32) k)) (let same : j ≡ 0 + j = omega arith in same)
      (split-stands l (take 4 (atom_cells x)) (n % 2 ^ 32) j (low-stands l L (atom_cells x) n (subst (CellsStand l (atom_cells x)) (sym e) (atom-stands l x)))))

  pub zeros-stand : (n : ℕ) → Both (ByteStands l) (replicate n (Num 0)) (replicate n 0)
  zeros-stand zero = tt
  zeros-stand (suc n) = ((refl, lit< tt), zeros-stand n)

-- ---- runs of bytes

take-nil : (n : ℕ) → take {A = ℕ} n [] ≡ []
take-nil zero = refl
take-nil (suc n) = refl

take-parts : (n m : ℕ) (xs : List ℕ) → take (min n m) xs ++ take (m - n) (drop n xs) ≡ take m xs
take-parts zero m xs =
    let none : min 0 m ≡ 0 = omega arith in
    let all : m - 0 ≡ m = omega arith in
    ap (λ k. take k xs ++ take (m - 0) xs) none ∙ ap (λ k. take k xs) all
take-parts (suc n) zero xs =
    let none : min (suc n) 0 ≡ 0 = omega arith in
    let left : 0 - suc n ≡ 0 = omega arith in
    ap (λ k. take k xs ++ take (0 - suc n) (drop (suc n) xs)) none ∙ ap (λ k. take k (drop (suc n) xs)) left
take-parts (suc n) (suc m) [] = ap (λ ys. ys ++ take (suc m - suc n) []) (take-nil (min (suc n) (suc m))) ∙ take-nil (suc m - suc n)
take-parts (suc n) (suc m) (x ∷ xs) =
    let first : min (suc n) (suc m) ≡ suc (min n m) = omega arith in
    let left : suc m - suc n ≡ m - n = omega arith in
    ap (λ k. take k (x ∷ xs) ++ take (suc m - suc n) (drop n xs)) first ∙ ap (λ k. x ∷ (take (min n m) xs ++ take k (drop n xs))) left ∙ ap (λ ys. x ∷ ys) (take-parts n m xs)

module _ (file : List ℕ) (s : Section) where
  abbrev pub stored_at : ℕ → ℕ
  stored_at a = s.offset + (a - s.addr)

  -- lines of 16 bytes, from the one with a number on, have all bytes up to an end
  lines-whole : (c k start end : ℕ) → s.addr ≤ start → end - (start + 16 * k) ≤ 16 * c
      → flat_map (λ j. bytes_from file s (start + 16 * j) (min 16 (end - (start + 16 * j)))) (range_with_len k c) ≡ take (end - (start + 16 * k)) (drop (stored_at (start + 16 * k)) file)
  lines-whole zero k start end low enough = let none : 0 ≡ end - (start + 16 * k) = omega (arith, enough) in ap (λ n. take n (drop (stored_at (start + 16 * k)) file)) none
  lines-whole (suc c) k start end low enough =
      let m = end - (start + 16 * k) in
      let o = stored_at (start + 16 * k) in
      let rest = lines-whole c (k + 1) start end low (omega (arith, enough)) in
      let left : end - (start + 16 * (k + 1)) ≡ m - 16 = omega arith in
      let behind : stored_at (start + 16 * (k + 1)) ≡ o + 16 = omega (arith, low) in
      let size : o + min 16 m - o ≡ min 16 m = omega arith in
      ap (λ n. take n (drop o file) ++ flat_map (λ j. bytes_from file s (start + 16 * j) (min 16 (end - (start + 16 * j)))) (range_with_len (k + 1) c)) size
      ∙ ap (λ xs. take (min 16 m) (drop o file) ++ xs) (rest ∙ ap (λ n. take n (drop (stored_at (start + 16 * (k + 1))) file)) left ∙ ap (λ q. take (m - 16) (drop q file)) behind ∙ ap (take (m - 16)) (sym (drop_drop o 16 file)))
      ∙ take-parts 16 m (drop o file)

  enough-lines : (n : ℕ) → n ≤ 16 * ((n + 15) / 16)
  enough-lines n = let parts = div-add-mod (n + 15) 16 in let small : (n + 15) % 16 < 16 = mod-lt (n + 15) (lit< tt) in omega (arith, parts, small)

  pub run-lines : (start end : ℕ) → s.addr ≤ start
      → flat_map (λ j. bytes_from file s (start + 16 * j) (min 16 (end - (start + 16 * j)))) (range_with_len 0 ((end - start + 15) / 16)) ≡ take (end - start) (drop (stored_at start) file)
  run-lines start end low =
      let all = enough-lines (end - start) in
      let first : start + 16 * 0 ≡ start = omega arith in
      lines-whole ((end - start + 15) / 16) 0 start end low (omega (arith, all)) ∙ ap (λ a. take (end - a) (drop (stored_at a) file)) first

  -- the bytes of the file are those of the section
  module _ (l : Addresses) (bytes : All (λ b. b < 256) file) (has : has_bytes s ≡ true) where
    pub run-stands : (n a : ℕ) → s.addr ≤ a → stored_at a + n ≤ length file → Both (ByteStands l) (map (λ b. Num (byte_in file s b)) (range_with_len a n)) (take n (drop (stored_at a) file))
    run-stands zero a low within = tt
    run-stands (suc n) a low within =
        let o = stored_at a in
        let inside : o < length file = omega (arith, within) in
        let next : stored_at (a + 1) ≡ suc o = omega (arith, low) in
        let first : byte_in file s a ≡ get_or file o 0 = ap (λ t. if t then slice_index file o else 0) has in
        subst (λ xs. Both (ByteStands l) (Num (byte_in file s a) ∷ map (λ b. Num (byte_in file s b)) (range_with_len (a + 1) n)) (take (suc n) xs)) (sym (drop-cons file o 0 inside))
        ((sym first, bytes o 0 inside), subst (λ q. Both (ByteStands l) (map (λ b. Num (byte_in file s b)) (range_with_len (a + 1) n)) (take n (drop q file))) next (run-stands n (a + 1) (omega (arith, low)) (omega (arith, within, next))))
