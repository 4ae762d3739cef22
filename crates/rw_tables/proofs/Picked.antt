-- What a search of a list picks: items with what they give, in their order.
use Rattle.std.proofs.Common.{◌≡◌, ◌≢◌, ℕ, zero, suc, ◌+◌, ◌<◌, ◌≤◌, Bool, true, false, cond, List, [], ◌∷◌, ◌++◌, length, filter, map, get_or, slice_get, Option, Some, None, All, Contains, refl, sym, ap, ◌∙◌, subst, arith, inl, inr}
use Rattle.std.specs.List.{AllPairs, cons_option, filter_map}
use Rattle.std.specs.Option.{option_and_then, option_or}
use Rattle.std.proofs.lemmas.List.Elements.{All-nil, All-cons, Contains-get_or}
use Rattle.std.proofs.lemmas.List.Kept.{AllPairs-cons}

-- ---- where the items come from

Contains-cons : {X : Type 0} (x y : X) (xs : List X) → Contains xs y → Contains (x ∷ xs) y
Contains-cons x y xs h = (suc h.0, omega (arith, h.1), h.2)

-- an item and what it gives
pub record Gives {X Y : Type 0} (f : X → Option Y) (xs : List X) (y : Y) : Type 0 where
  pub item : X
  pub listed : Contains xs item
  pub given : f item ≡ Some y

gives-more : {X Y : Type 0} (f : X → Option Y) (x : X) (xs : List X) (y : Y) → Gives f xs y → Gives f (x ∷ xs) y
gives-more f x xs y g = record { item = g.item; listed = Contains-cons x g.item xs g.listed; given = g.given }

pub given-by : {X Y : Type 0} (f : X → Option Y) (xs : List X) (y : Y) → Contains (filter_map f xs) y → Gives f xs y
given-by f [] y here = absurd (omega (arith, here.1))
given-by {X = X} {Y = Y} f (x ∷ xs) y here = by_first (λ at. given-by f xs y at) (f x) refl here
  where
    by_place : (Contains (filter_map f xs) y → Gives f xs y) → (z : Y) → f x ≡ Some z → (k : ℕ) → k < length (z ∷ filter_map f xs) → get_or (z ∷ filter_map f xs) k y ≡ y → Gives f (x ∷ xs) y
    by_place ih z is zero within at = record { item = x; listed = (0, omega arith, refl); given = is ∙ ap Some at }
    by_place ih z is (suc k) within at = gives-more f x xs y (ih (k, omega arith, at))

    by_first : (Contains (filter_map f xs) y → Gives f xs y) → (o : Option Y) → f x ≡ o → Contains (cons_option o (filter_map f xs)) y → Gives f (x ∷ xs) y
    by_first ih None is at = gives-more f x xs y (ih at)
    by_first ih (Some z) is at = by_place ih z is at.0 at.1 at.2

pub gives-it : {X Y : Type 0} (f : X → Option Y) (xs : List X) (x : X) (y : Y) → Contains xs x → f x ≡ Some y → Contains (filter_map f xs) y
gives-it f [] x y here is = absurd (omega (arith, here.1))
gives-it {X = X} {Y = Y} f (w ∷ xs) x y here is = by_place (λ at. gives-it f xs x y at is) here.0 here.1 here.2
  where
    ahead : (o : Option Y) → Contains (filter_map f xs) y → Contains (cons_option o (filter_map f xs)) y
    ahead None at = at
    ahead (Some z) at = Contains-cons z y (filter_map f xs) at

    by_place : (Contains xs x → Contains (filter_map f xs) y) → (k : ℕ) → k < length (w ∷ xs) → get_or (w ∷ xs) k x ≡ x → Contains (filter_map f (w ∷ xs)) y
    by_place ih zero within at = subst (λ o. Contains (cons_option o (filter_map f xs)) y) (sym (ap f at ∙ is)) (0, omega arith, refl)
    by_place ih (suc k) within at = ahead (f w) (ih (k, omega arith, at))

pub all-given : {X Y : Type 0} (P : Y → Type 0) (f : X → Option Y) (xs : List X) → ((x : X) (y : Y) → Contains xs x → f x ≡ Some y → P y) → All P (filter_map f xs)
all-given P f xs h = λ k d within. let g = given-by f xs (get_or (filter_map f xs) k d) (Contains-get_or (filter_map f xs) k d within) in h g.item (get_or (filter_map f xs) k d) g.listed g.given

-- ---- pairs

pub pairs-tail : {X : Type 0} (R : X → X → Type 0) (x : X) (xs : List X) → AllPairs R (x ∷ xs) → AllPairs R xs
pairs-tail R x xs h = λ i j d low within. h (suc i) (suc j) d (omega arith) (omega arith)

pub pairs-head : {X : Type 0} (R : X → X → Type 0) (x : X) (xs : List X) → AllPairs R (x ∷ xs) → All (R x) xs
pairs-head R x xs h = λ k d within. h 0 (suc k) d (omega arith) (omega arith)

pub pairs-given : {X Y : Type 0} (R : X → X → Type 0) (S : Y → Y → Type 0) (f : X → Option Y) → ((a b : X) (c d : Y) → R a b → f a ≡ Some c → f b ≡ Some d → S c d) → (xs : List X) → AllPairs R xs → AllPairs S (filter_map f xs)
pairs-given R S f h [] pairs = λ i j d low within. absurd (omega (arith, within))
pairs-given {X = X} {Y = Y} R S f h (x ∷ xs) pairs = by_first (pairs-given R S f h xs (pairs-tail R x xs pairs)) (f x) refl
  where
    by_first : AllPairs S (filter_map f xs) → (o : Option Y) → f x ≡ o → AllPairs S (cons_option o (filter_map f xs))
    by_first rest None is = rest
    by_first rest (Some z) is = AllPairs-cons S z (filter_map f xs) (all-given (S z) f xs (λ a y here at.
        let pair : R x a = subst (R x) here.2 (pairs-head R x xs pairs here.0 a here.1) in
        h x a z y pair is at)) rest

-- ---- the first

pub first-given : {X Y : Type 0} (f : X → Option Y) (xs : List X) (n : ℕ) (d : X) (y : Y) → n < length xs → f (get_or xs n d) ≡ Some y → ((k : ℕ) → k < n → f (get_or xs k d) ≡ None) → slice_get (filter_map f xs) 0 ≡ Some y
first-given f [] n d y within here before = absurd (omega (arith, within))
first-given f (x ∷ xs) zero d y within here before = ap (λ o. slice_get (cons_option o (filter_map f xs)) 0) here
first-given f (x ∷ xs) (suc n) d y within here before =
    ap (λ o. slice_get (cons_option o (filter_map f xs)) 0) (before 0 (omega arith)) ∙ first-given f xs n d y (omega arith) here (λ k low. before (suc k) (omega arith))

pub none-given : {X Y : Type 0} (f : X → Option Y) (xs : List X) (d : X) → ((k : ℕ) → k < length xs → f (get_or xs k d) ≡ None) → slice_get (filter_map f xs) 0 ≡ None
none-given f [] d none = refl
none-given f (x ∷ xs) d none =
    ap (λ o. slice_get (cons_option o (filter_map f xs)) 0) (none 0 (omega arith)) ∙ none-given f xs d (λ k low. none (suc k) (omega arith))

-- ---- a test before and one behind

abbrev pub passed : {Y : Type 0} → (Y → Bool) → Option Y → Option Y
passed p None = None
passed p (Some y) = cond (p y) (Some y) None

abbrev pub tested : {X Y : Type 0} → (X → Bool) → (X → Option Y) → (Y → Bool) → X → Option Y
tested q f p x = cond (q x) (passed p (f x)) None

abbrev Join : {X Y : Type 0} → (X → Bool) → (X → Option Y) → (Y → Bool) → List X → Type 0
Join q f p xs = filter p (filter_map f (filter q xs)) ≡ filter_map (tested q f p) xs

pub tests-join : {X Y : Type 0} (q : X → Bool) (f : X → Option Y) (p : Y → Bool) (xs : List X) → filter p (filter_map f (filter q xs)) ≡ filter_map (tested q f p) xs
tests-join q f p [] = refl
tests-join {X = X} {Y = Y} q f p (x ∷ xs) = by_test (tests-join q f p xs) (q x) (f x) refl
  where
    by_last : Join q f p xs → (y : Y) (b : Bool) → cond b (y ∷ filter p (filter_map f (filter q xs))) (filter p (filter_map f (filter q xs))) ≡ cons_option (cond b (Some y) None) (filter_map (tested q f p) xs)
    by_last rest y true = ap (λ ys. y ∷ ys) rest
    by_last rest y false = rest

    by_given : Join q f p xs → (o : Option Y) → filter p (cons_option o (filter_map f (filter q xs))) ≡ cons_option (passed p o) (filter_map (tested q f p) xs)
    by_given rest None = rest
    by_given rest (Some y) = by_last rest y (p y)

    by_test : Join q f p xs → (b : Bool) (o : Option Y) → f x ≡ o → filter p (filter_map f (cond b (x ∷ filter q xs) (filter q xs))) ≡ cons_option (cond b (passed p o) None) (filter_map (tested q f p) xs)
    by_test rest true o is = ap (λ r. filter p (cons_option r (filter_map f (filter q xs)))) is ∙ by_given rest o
    by_test rest false o is = rest

pub map-given : {X Y : Type 0} (f : X → Y) (xs : List X) → map f xs ≡ filter_map (λ x. Some (f x)) xs
map-given f [] = refl
map-given f (x ∷ xs) = ap (λ ys. f x ∷ ys) (map-given f xs)
