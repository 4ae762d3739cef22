-- What separators cut is found again, where the pieces are of bytes that aren't the separator.
use Rattle.std.proofs.Common.{◌≡◌, ℕ, Bool, true, false, cond, eqb, Option, Some, None, List, [], ◌∷◌, ◌++◌, refl, sym, ap, subst, ◌∙◌, eq-eqb}
use Rattle.std.specs.List.{list_all}
use Rattle.std.specs.Prelude.{find}
use Rattle.std.proofs.lemmas.Bool.{and_parts, and_from, false≢true, ne_eqb}
use Rattle.std.proofs.lemmas.List.Folds.{list_all-append}
use Rattle.asm_print.specs.Pieces.{after_prefix, split, with_front, pieces, put_first}

-- ---- bytes of a kind

pub all-append : (p : ℕ → Bool) (xs ys : List ℕ) → list_all p xs ≡ true → list_all p ys ≡ true → list_all p (xs ++ ys) ≡ true
all-append p xs ys h k = list_all-append p xs ys ∙ and_from (list_all p xs) (list_all p ys) h k

-- bytes of a kind are bytes of a wider one
pub all-wider : (p q : ℕ → Bool) → ((b : ℕ) → p b ≡ true → q b ≡ true) → (xs : List ℕ) → list_all p xs ≡ true → list_all q xs ≡ true
all-wider p q f [] h = refl
all-wider p q f (x ∷ xs) h = let both = and_parts (p x) (list_all p xs) h in and_from (q x) (list_all q xs) (f x both.0) (all-wider p q f xs both.1)

-- ---- a separator that is no byte of the kind

split-step : (c b : ℕ) (bs : List ℕ) (t : Bool) → eqb b c ≡ t → split c (b ∷ bs) ≡ cond t (Some ([], bs)) (with_front b (split c bs))
unfolding split
split-step c b bs t e = ap (λ u. cond u (Some ([], bs)) (with_front b (split c bs))) e

pieces-step : (c b : ℕ) (bs : List ℕ) (t : Bool) → eqb b c ≡ t → pieces c (b ∷ bs) ≡ cond t ([] ∷ pieces c bs) (put_first b (pieces c bs))
unfolding pieces
pieces-step c b bs t e = ap (λ u. cond u ([] ∷ pieces c bs) (put_first b (pieces c bs))) e

module _ (p : ℕ → Bool) (c : ℕ) (apart : p c ≡ false) where
  -- a byte of the kind is not c
  pub other : (b : ℕ) → p b ≡ true → eqb b c ≡ false
  other b e = ne_eqb b c (λ h. false≢true (sym apart ∙ ap p (sym h) ∙ e))

  pub split-at : (xs ys : List ℕ) → list_all p xs ≡ true → split c (xs ++ c ∷ ys) ≡ Some (xs, ys)
  split-at [] ys e = split-step c c ys true (eq-eqb c c refl)
  split-at (x ∷ xs) ys e =
      let q = and_parts (p x) (list_all p xs) e in
      split-step c x (xs ++ c ∷ ys) false (other x q.0) ∙ ap (with_front x) (split-at xs ys q.1)

  pub split-none : (xs : List ℕ) → list_all p xs ≡ true → split c xs ≡ None
  unfolding split
  split-none [] e = refl
  split-none (x ∷ xs) e =
      let q = and_parts (p x) (list_all p xs) e in
      split-step c x xs false (other x q.0) ∙ ap (with_front x) (split-none xs q.1)

  pub one-piece : (xs : List ℕ) → list_all p xs ≡ true → pieces c xs ≡ xs ∷ []
  unfolding pieces
  one-piece [] e = refl
  one-piece (x ∷ xs) e =
      let q = and_parts (p x) (list_all p xs) e in
      pieces-step c x xs false (other x q.0) ∙ ap (put_first x) (one-piece xs q.1)

  pub first-piece : (xs ys : List ℕ) → list_all p xs ≡ true → pieces c (xs ++ c ∷ ys) ≡ xs ∷ pieces c ys
  first-piece [] ys e = pieces-step c c ys true (eq-eqb c c refl)
  first-piece (x ∷ xs) ys e =
      let q = and_parts (p x) (list_all p xs) e in
      pieces-step c x (xs ++ c ∷ ys) false (other x q.0) ∙ ap (put_first x) (first-piece xs ys q.1)

  -- bytes of the kind do not begin with c, and what follows them neither
  pub no-prefix : (xs ys rest : List ℕ) → list_all p xs ≡ true → after_prefix (c ∷ rest) ys ≡ None → after_prefix (c ∷ rest) (xs ++ ys) ≡ None
  no-prefix [] ys rest e h = h
  no-prefix (x ∷ xs) ys rest e h = ap (λ t. cond t (after_prefix rest (xs ++ ys)) None) (other x (and_parts (p x) (list_all p xs) e).0)

-- ---- pieces of any text

some-piece : (b : ℕ) (t : Bool) (all : List (List ℕ)) → (first : List ℕ) × (more : List (List ℕ)) × (cond t ([] ∷ all) (put_first b all) ≡ first ∷ more)
some-piece b true all = ([], all, refl)
some-piece b false [] = (b ∷ [], [], refl)
some-piece b false (p ∷ ps) = (b ∷ p, ps, refl)

pieces-some : (c : ℕ) (text : List ℕ) → (first : List ℕ) × (more : List (List ℕ)) × (pieces c text ≡ first ∷ more)
unfolding pieces
pieces-some c [] = ([], [], refl)
pieces-some c (b ∷ bs) = some-piece b (eqb b c) (pieces c bs)

put-append : (x : ℕ) (all rest : List (List ℕ)) → ((first : List ℕ) × (more : List (List ℕ)) × (all ≡ first ∷ more)) → put_first x (all ++ rest) ≡ put_first x all ++ rest
put-append x all rest (first, more, e) = subst (λ ps. put_first x (ps ++ rest) ≡ put_first x ps ++ rest) (sym e) refl

append-step : (x : ℕ) (t : Bool) (all front rest : List (List ℕ)) → all ≡ front ++ rest → put_first x (front ++ rest) ≡ put_first x front ++ rest → cond t ([] ∷ all) (put_first x all) ≡ cond t ([] ∷ front) (put_first x front) ++ rest
append-step x true all front rest e h = ap (λ ps. [] ∷ ps) e
append-step x false all front rest e h = ap (put_first x) e ∙ h

-- the pieces before a separator, and those behind it
pub pieces-append : (c : ℕ) (xs ys : List ℕ) → pieces c (xs ++ c ∷ ys) ≡ pieces c xs ++ pieces c ys
unfolding pieces
pieces-append c [] ys = pieces-step c c ys true (eq-eqb c c refl)
pieces-append c (x ∷ xs) ys = append-step x (eqb x c) (pieces c (xs ++ c ∷ ys)) (pieces c xs) (pieces c ys) (pieces-append c xs ys) (put-append x (pieces c xs) (pieces c ys) (pieces-some c xs))

-- ---- what a search finds

found-case : {A : Type 0} (p q : A → Bool) (x y : A) (t : Bool) (rest : Option A) → q x ≡ true → (rest ≡ Some y → q y ≡ true) → cond t (Some x) rest ≡ Some y → q y ≡ true
found-case p q x y true rest h k e = let same : x ≡ y = cc in subst (λ z. q z ≡ true) same h
found-case p q x y false rest h k e = k e

-- what holds of each element holds of the one that is found
pub found-all : {A : Type 0} (p q : A → Bool) (xs : List A) (y : A) → list_all q xs ≡ true → find p xs ≡ Some y → q y ≡ true
found-all p q [] y h e = absurd cc
found-all p q (x ∷ xs) y h e = let both = and_parts (q x) (list_all q xs) h in found-case p q x y (p x) (find p xs) both.0 (found-all p q xs y both.1) e
