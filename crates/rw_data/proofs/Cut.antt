-- What pieces hold, one after another.
use Rattle.std.proofs.Common.{◌≡◌, ℕ, zero, suc, ◌+◌, ◌-◌, ◌<◌, ◌≤◌, List, [], ◌∷◌, ◌++◌, length, map, get_or, All, Contains, refl, sym, ap, ◌∙◌, subst, arith, inl, inr}
use Rattle.std.specs.Prelude.{◌⊎◌}
use Rattle.std.specs.List.{flat_map, range_with_len}
use Rattle.std.proofs.lemmas.Bool.{cases_lt}
use Rattle.std.proofs.lemmas.Grind.{flat_map-append}
use Rattle.std.proofs.lemmas.List.{map-append}
use Rattle.rw_words.specs.declared.atom.Cell.{Cell}
use Rattle.rw_words.specs.declared.atom.Cell.TheVariants.{Num}
use Rattle.rw_elf.specs.declared.section.Section.{Section}
use Rattle.rw_data.specs.declared.piece.Piece.{Piece}
use Rattle.rw_data.specs.FirstCells.{byte_in}
use Rattle.rw_data.specs.Pieces.{cells_of, end_of_piece, filled, run, start_of}
use Rattle.rw_data.proofs.Filled.{Lie, lie-fits, run-none, run-some}

-- ---- rows of addresses

pub range-split : (a n m : ℕ) → range_with_len a (n + m) ≡ range_with_len a n ++ range_with_len (a + n) m
range-split a zero m =
    let none : 0 + m ≡ m = omega arith in
    let same : a ≡ a + 0 = omega arith in
    ap (range_with_len a) none ∙ ap (λ b. range_with_len b m) same
range-split a (suc n) m =
    let more : suc n + m ≡ suc (n + m) = omega arith in
    let up : a + 1 + n ≡ a + suc n = omega arith in
    ap (range_with_len a) more ∙ ap (λ xs. a ∷ xs) (range-split (a + 1) n m ∙ ap (λ b. range_with_len (a + 1) n ++ range_with_len b m) up)

pub range-same : {X : Type 0} (f g : ℕ → X) (a n : ℕ) → ((k : ℕ) → a ≤ k → k < a + n → f k ≡ g k) → map f (range_with_len a n) ≡ map g (range_with_len a n)
range-same f g a zero h = refl
range-same {X = X} f g a (suc n) h = two (h a (omega arith) (omega arith)) (range-same f g (a + 1) n (λ k low high. h k (omega arith) (omega arith)))
  where
    two : {x y : X} {xs ys : List X} → x ≡ y → xs ≡ ys → x ∷ xs ≡ y ∷ ys
    two {x = x} {ys = ys} e d = ap (λ zs. x ∷ zs) d ∙ ap (λ z. z ∷ ys) e

-- ---- addresses outside of pieces

abbrev pub Avoids : ℕ → List Piece → Type 0
Avoids a [] = Unit {0}
Avoids a (p ∷ ps) = (a < start_of p ⊎ end_of_piece p ≤ a) × Avoids a ps

pub avoids-below : (a from to : ℕ) (ps : List Piece) → Lie from to ps → a < from → Avoids a ps
avoids-below a from to [] lies low = tt
avoids-below a from to (p ∷ ps) lies low =
    let first = lies.0 in
    let some = lies.1 in
    (inl (omega (arith, first)), avoids-below a (end_of_piece p) to ps lies.2 (omega (arith, first, some)))

pub avoids-it : (a : ℕ) (ps : List Piece) (p : Piece) → Avoids a ps → Contains ps p → a < start_of p ⊎ end_of_piece p ≤ a
avoids-it a [] p avoids here = absurd (omega (arith, here.1))
avoids-it a (q ∷ ps) p avoids here = by_place (λ at. avoids-it a ps p avoids.1 at) here.0 here.1 here.2
  where
    by_place : (Contains ps p → a < start_of p ⊎ end_of_piece p ≤ a) → (k : ℕ) → k < length (q ∷ ps) → get_or (q ∷ ps) k p ≡ p → a < start_of p ⊎ end_of_piece p ≤ a
    by_place ih zero within at = subst (λ x. a < start_of x ⊎ end_of_piece x ≤ a) at avoids.0
    by_place ih (suc k) within at = ih (k, omega arith, at)

-- ---- the cells of all pieces

module _ (bytes : List ℕ) (s : Section) (f : ℕ → Cell) where
  -- a piece holds what a function gives of its addresses
  abbrev pub Holds : Piece → Type 0
  Holds p = cells_of bytes s p ≡ map f (range_with_len (start_of p) (end_of_piece p - start_of p))

  run-cells : (from to : ℕ) → from ≤ to → ((a : ℕ) → from ≤ a → a < to → f a ≡ Num (byte_in bytes s a)) → flat_map (cells_of bytes s) (run from to) ≡ map f (range_with_len from (to - from))
  run-cells from to fits between =
      elim (cases_lt from to) [
        | inl some ↦
            ap (flat_map (cells_of bytes s)) (run-some from to some) ∙ append_nil (map (λ a. Num (byte_in bytes s a)) (range_with_len from (to - from)))
            ∙ sym (range-same f (λ a. Num (byte_in bytes s a)) from (to - from) (λ k low high. between k low (omega arith)))
        | inr none ↦ ap (flat_map (cells_of bytes s)) (run-none from to none) ∙ ap (λ n. map f (range_with_len from n)) (let zero_is : 0 ≡ to - from = omega arith in zero_is)
      ]
    where
      append_nil : (xs : List Cell) → xs ++ [] ≡ xs
      append_nil [] = refl
      append_nil (x ∷ xs) = ap (λ ys. x ∷ ys) (append_nil xs)

  pub filled-cells : (from to : ℕ) (ms : List Piece) → Lie from to ms → All Holds ms → ((a : ℕ) → from ≤ a → a < to → Avoids a ms → f a ≡ Num (byte_in bytes s a)) → flat_map (cells_of bytes s) (filled from to ms) ≡ map f (range_with_len from (to - from))
  filled-cells from to [] lies hold between = run-cells from to lies (λ a low high. between a low high tt)
  filled-cells from to (p ∷ ps) lies hold between =
      let low = lies.0 in
      let some = lies.1 in
      let fits = lie-fits (end_of_piece p) to ps lies.2 in
      let first = run-cells from (start_of p) low (λ a up down. between a up (omega (arith, some, fits)) (inl down, avoids-below a (end_of_piece p) to ps lies.2 (omega (arith, some)))) in
      let here : Holds p = hold 0 p (omega arith) in
      let rest = filled-cells (end_of_piece p) to ps lies.2 (λ k d within. hold (suc k) d (omega arith)) (λ a up down avoids. between a (omega (arith, low, some)) down (inr up, avoids)) in
      flat_map-append (cells_of bytes s) (run from (start_of p)) (p ∷ filled (end_of_piece p) to ps)
      ∙ ap (λ xs. xs ++ (cells_of bytes s p ++ flat_map (cells_of bytes s) (filled (end_of_piece p) to ps))) first
      ∙ ap (λ xs. row from (start_of p - from) ++ (xs ++ flat_map (cells_of bytes s) (filled (end_of_piece p) to ps))) here
      ∙ ap (λ xs. row from (start_of p - from) ++ (row (start_of p) (end_of_piece p - start_of p) ++ xs)) rest
      ∙ ap (λ xs. row from (start_of p - from) ++ xs) (join (start_of p) (end_of_piece p) to (omega (arith, some)) fits)
      ∙ join from (start_of p) to low (omega (arith, some, fits))
    where
      row : ℕ → ℕ → List Cell
      row a n = map f (range_with_len a n)

      join : (a b c : ℕ) → a ≤ b → b ≤ c → map f (range_with_len a (b - a)) ++ map f (range_with_len b (c - b)) ≡ map f (range_with_len a (c - a))
      join a b c low high =
          sym (ap (λ n. map f (range_with_len a n)) (let sum : c - a ≡ (b - a) + (c - b) = omega arith in sum)
          ∙ ap (map f) (range-split a (b - a) (c - b) ∙ ap (λ x. range_with_len a (b - a) ++ range_with_len x (c - b)) (let up : a + (b - a) ≡ b = omega arith in up))
          ∙ map-append f (range_with_len a (b - a)) (range_with_len b (c - b)))
