-- Slots and tables that ascend without an overlap, and the pieces that they cut a section into.
use Rattle.std.proofs.Common.{◌≡◌, ℕ, suc, ◌<◌, ◌≤◌, true, false, cond, nat_le, nat_lt, List, [], ◌∷◌, ◌++◌, get_or, slice_get, Some, None, All, refl, sym, ap, ◌∙◌, subst, arith, inl, inr}
use Rattle.std.specs.List.{AllPairs}
use Rattle.std.proofs.lemmas.Bool.{cases_lt}
use Rattle.std.proofs.lemmas.Bool.Decides.{nat_tests}
use Rattle.rw_data.specs.declared.piece.Piece.{Piece}
use Rattle.rw_data.specs.declared.piece.Piece.TheVariants.{Bytes}
use Rattle.rw_data.specs.Pieces.{end_of_piece, filled, first_from, from_on, run, start_of}
use Rattle.rw_tables.proofs.Picked.{pairs-head, pairs-tail}

-- ---- tests

pub le-on : (a b : ℕ) → a ≤ b → nat_le a b ≡ true
le-on a b h = grind (arith, nat_tests)

pub le-off : (a b : ℕ) → b < a → nat_le a b ≡ false
le-off a b h = grind (arith, nat_tests)

pub lt-on : (a b : ℕ) → a < b → nat_lt a b ≡ true
lt-on a b h = grind (arith, nat_tests)

pub lt-off : (a b : ℕ) → b ≤ a → nat_lt a b ≡ false
lt-off a b h = grind (arith, nat_tests)

pub run-some : (a b : ℕ) → a < b → run a b ≡ Bytes (record { start = a; end = b }) ∷ []
run-some a b h = ap (λ t. cond t (Bytes (record { start = a; end = b }) ∷ []) []) (lt-on a b h)

pub run-none : (a b : ℕ) → b ≤ a → run a b ≡ []
run-none a b h = ap (λ t. cond t (Bytes (record { start = a; end = b }) ∷ []) []) (lt-off a b h)

-- ---- in their order

-- they ascend from an address up to another, and none overlaps another
abbrev pub Lie : ℕ → ℕ → List Piece → Type 0
Lie from to [] = from ≤ to
Lie from to (p ∷ ps) = (from ≤ start_of p) × (start_of p < end_of_piece p) × Lie (end_of_piece p) to ps

abbrev pub Follows : Piece → Piece → Type 0
Follows p q = end_of_piece p ≤ start_of q

abbrev pub LiesIn : ℕ → ℕ → Piece → Type 0
LiesIn from to p = (from ≤ start_of p) × (start_of p < end_of_piece p) × (end_of_piece p ≤ to)

pub lie-from : (from to : ℕ) (ps : List Piece) → AllPairs Follows ps → All (LiesIn from to) ps → from ≤ to → Lie from to ps
lie-from from to [] pairs within fits = fits
lie-from from to (p ∷ ps) pairs within fits =
    let here : LiesIn from to p = within 0 p (omega arith) in
    let low = here.0 in
    let some = here.1 in
    let high = here.2 in (
      low,
      some,
      lie-from (end_of_piece p) to ps (pairs-tail Follows p ps pairs) (λ k d inside.
          let one : LiesIn from to (get_or ps k d) = within (suc k) d (omega arith) in
          let far : Follows p (get_or ps k d) = pairs-head Follows p ps pairs k d inside in
          (far, one.1, one.2)) high,
    )

pub lie-fits : (from to : ℕ) (ps : List Piece) → Lie from to ps → from ≤ to
lie-fits from to [] h = h
lie-fits from to (p ∷ ps) h = let low = h.0 in let some = h.1 in omega (arith, low, some, lie-fits (end_of_piece p) to ps h.2)

pub lie-lower : (a from to : ℕ) (ps : List Piece) → a ≤ from → Lie from to ps → Lie a to ps
lie-lower a from to [] low h = omega arith
lie-lower a from to (p ∷ ps) low h = let first = h.0 in (omega (arith, first), h.1, h.2)

-- ---- those from an address on

on-first : (a : ℕ) (p : Piece) (ps : List Piece) → a ≤ start_of p → from_on a (p ∷ ps) ≡ p ∷ from_on a ps
on-first a p ps low = ap (λ t. cond t (p ∷ from_on a ps) (from_on a ps)) (le-on a (start_of p) low)

on-past : (a : ℕ) (p : Piece) (ps : List Piece) → start_of p < a → from_on a (p ∷ ps) ≡ from_on a ps
on-past a p ps low = ap (λ t. cond t (p ∷ from_on a ps) (from_on a ps)) (le-off a (start_of p) low)

pub on-all : (a from to : ℕ) (ps : List Piece) → a ≤ from → Lie from to ps → from_on a ps ≡ ps
on-all a from to [] low h = refl
on-all a from to (p ∷ ps) low h =
    let first = h.0 in
    let some = h.1 in
    on-first a p ps (omega (arith, first)) ∙ ap (λ qs. p ∷ qs) (on-all a (end_of_piece p) to ps (omega (arith, first, some)) h.2)

pub on-none : (a from to : ℕ) (ps : List Piece) → to ≤ a → Lie from to ps → from_on a ps ≡ []
on-none a from to [] high h = refl
on-none a from to (p ∷ ps) high h =
    let some = h.1 in
    let fits = lie-fits (end_of_piece p) to ps h.2 in
    on-past a p ps (omega (arith, some, fits)) ∙ on-none a (end_of_piece p) to ps high h.2

pub on-again : (a b : ℕ) (ps : List Piece) → a ≤ b → from_on b (from_on a ps) ≡ from_on b ps
on-again a b [] low = refl
on-again a b (p ∷ ps) low =
    elim (cases_lt (start_of p) a) [
      | inl past ↦ ap (from_on b) (on-past a p ps past) ∙ on-again a b ps low ∙ sym (on-past b p ps (omega arith))
      | inr here ↦
          ap (from_on b) (on-first a p ps here)
          ∙ elim (cases_lt (start_of p) b) [
            | inl past ↦ on-past b p (from_on a ps) past ∙ on-again a b ps low ∙ sym (on-past b p ps past)
            | inr there ↦ on-first b p (from_on a ps) there ∙ ap (λ qs. p ∷ qs) (on-again a b ps low) ∙ sym (on-first b p ps there)
          ]
    ]

pub on-lies : (a from to : ℕ) (ps : List Piece) → a ≤ to → Lie from to ps → Lie a to (from_on a ps)
on-lies a from to [] high h = high
on-lies a from to (p ∷ ps) high h =
    elim (cases_lt (start_of p) a) [
      | inl past ↦ subst (Lie a to) (sym (on-past a p ps past)) (on-lies a (end_of_piece p) to ps high h.2)
      | inr here ↦
          let some = h.1 in
          subst (Lie a to) (sym (on-first a p ps here ∙ ap (λ qs. p ∷ qs) (on-all a (end_of_piece p) to ps (omega (arith, some)) h.2))) (here, some, h.2)
    ]

-- the first of them, and the others
pub record Splits (a to : ℕ) (ps : List Piece) (m : Piece) : Type 0 where
  pub others : List Piece
  pub split : from_on a ps ≡ m ∷ others
  pub lies : Lie a to (m ∷ others)

split-first : (a to : ℕ) (ps qs : List Piece) (m : Piece) → from_on a ps ≡ qs → Lie a to qs → slice_get qs 0 ≡ Some m → Splits a to ps m
split-first a to ps [] m is lies first = absurd (cc)
split-first a to ps (q ∷ qs) m is lies first =
    let same : q ≡ m = cc in
    record { others = qs; split = is ∙ ap (λ x. x ∷ qs) same; lies = subst (λ x. Lie a to (x ∷ qs)) same lies }

pub first-splits : (a from to : ℕ) (ps : List Piece) (m : Piece) → a ≤ to → Lie from to ps → first_from a ps ≡ Some m → Splits a to ps m
first-splits a from to ps m high h first = split-first a to ps (from_on a ps) m refl (on-lies a from to ps high h) first

no-first : (qs : List Piece) → slice_get qs 0 ≡ None → qs ≡ []
no-first [] none = refl
no-first (q ∷ qs) none = absurd (cc)

pub first-none : (a : ℕ) (ps : List Piece) → first_from a ps ≡ None → from_on a ps ≡ []
first-none a ps none = no-first (from_on a ps) none

-- ---- the pieces from an address on

module _ (from to : ℕ) (ms : List Piece) (lies : Lie from to ms) (a : ℕ) where
  -- none at the end
  pub filled-end : to ≤ a → filled a to (from_on a ms) ≡ []
  filled-end past = ap (filled a to) (on-none a from to ms past lies) ∙ run-none a to past

  -- the bytes up to the end
  pub filled-last : a < to → first_from a ms ≡ None → filled a to (from_on a ms) ≡ Bytes (record { start = a; end = to }) ∷ filled to to (from_on to ms)
  filled-last low none =
      let none_on = first-none a ms none in
      let none_there = sym (on-again a to ms (omega arith)) ∙ ap (from_on to) none_on in
      ap (filled a to) none_on ∙ run-some a to low ∙ ap (λ qs. Bytes (record { start = a; end = to }) ∷ qs) (sym (ap (filled to to) none_there ∙ run-none to to (omega arith)))

  module _ (m : Piece) (within : a ≤ to) (first : first_from a ms ≡ Some m) where
    parts : Splits a to ms m
    parts = first-splits a from to ms m within lies first

    -- the bytes up to a slot or table
    pub filled-run : a < start_of m → filled a to (from_on a ms) ≡ Bytes (record { start = a; end = start_of m }) ∷ filled (start_of m) to (from_on (start_of m) ms)
    filled-run low =
        let o = parts.others in
        let some = parts.lies.1 in
        let there : from_on (start_of m) ms ≡ m ∷ o =
        sym (on-again a (start_of m) ms (omega arith)) ∙ ap (from_on (start_of m)) parts.split ∙ on-first (start_of m) m o (omega arith) ∙ ap (λ qs. m ∷ qs) (on-all (start_of m) (end_of_piece m) to o (omega (arith, some)) parts.lies.2) in
        ap (filled a to) parts.split ∙ ap (λ qs. qs ++ m ∷ filled (end_of_piece m) to o) (run-some a (start_of m) low)
        ∙ ap (λ qs. Bytes (record { start = a; end = start_of m }) ∷ qs) (sym (ap (filled (start_of m) to) there ∙ ap (λ qs. qs ++ m ∷ filled (end_of_piece m) to o) (run-none (start_of m) (start_of m) (omega arith))))

    -- the slot or table
    pub filled-mark : start_of m ≡ a → filled a to (from_on a ms) ≡ m ∷ filled (end_of_piece m) to (from_on (end_of_piece m) ms)
    filled-mark here =
        let o = parts.others in
        let some = parts.lies.1 in
        let there : from_on (end_of_piece m) ms ≡ o =
        sym (on-again a (end_of_piece m) ms (omega (arith, some, here))) ∙ ap (from_on (end_of_piece m)) parts.split ∙ on-past (end_of_piece m) m o (omega (arith, some)) ∙ on-all (end_of_piece m) (end_of_piece m) to o (omega arith) parts.lies.2 in
        ap (filled a to) parts.split ∙ ap (λ qs. qs ++ m ∷ filled (end_of_piece m) to o) (run-none a (start_of m) (omega (arith, here)))
        ∙ ap (λ qs. m ∷ filled (end_of_piece m) to qs) (sym there)

    -- it lies between the addresses
    pub mark-lies : LiesIn a to m
    mark-lies = (parts.lies.0, parts.lies.1, lie-fits (end_of_piece m) to parts.others parts.lies.2)
