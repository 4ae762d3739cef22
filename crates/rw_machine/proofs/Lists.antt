-- What keeps two lists tied element by element.
use Rattle.std.proofs.Common.{◌≡◌, ℕ, zero, suc, ◌+◌, take, drop, length, List, [], ◌∷◌, ◌++◌, map, refl, ap, subst, replicate}
use Rattle.std.specs.Prelude.{slice_index_or, slice_set}
use Rattle.rw_domain.specs.declared.place.Place.{Place}
use Rattle.rw_domain.specs.Stands.{Both}
use Rattle.rw_machine.specs.Running.{range_at, row_written, written_at}

pub get_both : {A B : Type 0} (R : A → B → Type 0) (d : A) (e : B) → R d e → (xs : List A) (ys : List B) (i : ℕ) → Both R xs ys → R (slice_index_or xs i d) (slice_index_or ys i e)
get_both R d e r [] [] i h = r
get_both R d e r [] (y ∷ ys) i h = absurd h
get_both R d e r (x ∷ xs) [] i h = absurd h
get_both R d e r (x ∷ xs) (y ∷ ys) zero h = h.0
get_both R d e r (x ∷ xs) (y ∷ ys) (suc i) h = get_both R d e r xs ys i h.1

pub set_both : {A B : Type 0} (R : A → B → Type 0) (a : A) (b : B) → R a b → (xs : List A) (ys : List B) (i : ℕ) → Both R xs ys → Both R (slice_set xs i a) (slice_set ys i b)
set_both R a b r [] [] i h = h
set_both R a b r [] (y ∷ ys) i h = absurd h
set_both R a b r (x ∷ xs) [] i h = absurd h
set_both R a b r (x ∷ xs) (y ∷ ys) zero h = (r, h.1)
set_both R a b r (x ∷ xs) (y ∷ ys) (suc i) h = (h.0, set_both R a b r xs ys i h.1)

pub take_both : {A B : Type 0} (R : A → B → Type 0) (n : ℕ) (xs : List A) (ys : List B) → Both R xs ys → Both R (take n xs) (take n ys)
take_both R zero xs ys h = tt
take_both R (suc n) [] [] h = tt
take_both R (suc n) [] (y ∷ ys) h = absurd h
take_both R (suc n) (x ∷ xs) [] h = absurd h
take_both R (suc n) (x ∷ xs) (y ∷ ys) h = (h.0, take_both R n xs ys h.1)

pub drop_both : {A B : Type 0} (R : A → B → Type 0) (n : ℕ) (xs : List A) (ys : List B) → Both R xs ys → Both R (drop n xs) (drop n ys)
drop_both R zero xs ys h = h
drop_both R (suc n) [] [] h = tt
drop_both R (suc n) [] (y ∷ ys) h = absurd h
drop_both R (suc n) (x ∷ xs) [] h = absurd h
drop_both R (suc n) (x ∷ xs) (y ∷ ys) h = drop_both R n xs ys h.1

pub join_both : {A B : Type 0} (R : A → B → Type 0) (xs : List A) (ys : List B) (us : List A) (vs : List B) → Both R xs ys → Both R us vs → Both R (xs ++ us) (ys ++ vs)
join_both R [] [] us vs h k = k
join_both R [] (y ∷ ys) us vs h k = absurd h
join_both R (x ∷ xs) [] us vs h k = absurd h
join_both R (x ∷ xs) (y ∷ ys) us vs h k = (h.0, join_both R xs ys us vs h.1 k)

pub replicate_both : {A B : Type 0} (R : A → B → Type 0) (k : ℕ) (a : A) (b : B) → R a b → Both R (replicate k a) (replicate k b)
replicate_both R zero a b r = tt
replicate_both R (suc k) a b r = (r, replicate_both R k a b r)

pub same_length : {A B : Type 0} (R : A → B → Type 0) (xs : List A) (ys : List B) → Both R xs ys → length xs ≡ length ys
same_length R [] [] h = refl
same_length R [] (y ∷ ys) h = absurd h
same_length R (x ∷ xs) [] h = absurd h
same_length R (x ∷ xs) (y ∷ ys) h = ap suc (same_length R xs ys h.1)

-- all of the first list replaced by one element
pub constant_both : {A B : Type 0} (R : A → B → Type 0) (c : A) → ((a : A) (b : B) → R a b → R c b) → (xs : List A) (ys : List B) → Both R xs ys → Both R (map (λ _. c) xs) ys
constant_both R c f [] [] h = tt
constant_both R c f [] (y ∷ ys) h = absurd h
constant_both R c f (x ∷ xs) [] h = absurd h
constant_both R c f (x ∷ xs) (y ∷ ys) h = (f x y h.0, constant_both R c f xs ys h.1)

pub range_both : {A B : Type 0} (R : A → B → Type 0) (x : List (List A)) (y : List (List B)) → Both (Both R) x y → (p : Place) (len : ℕ) → Both R (range_at x p len) (range_at y p len)
range_both R x y h p len = take_both R len _ _ (drop_both R p.offset _ _ (get_both (Both R) [] [] tt x y p.region h))

pub row_both : {A B : Type 0} (R : A → B → Type 0) (x : List A) (y : List B) (offset : ℕ) (us : List A) (vs : List B) → Both R x y → Both R us vs → Both R (row_written x offset us) (row_written y offset vs)
row_both R x y offset us vs h k =
    join_both R _ _ _ _ (take_both R offset x y h)
    (join_both R us vs _ _ k
    (subst (λ n. Both R (drop (offset + length us) x) (drop (offset + n) y)) (same_length R us vs k) (drop_both R (offset + length us) x y h)))

pub written_both : {A B : Type 0} (R : A → B → Type 0) (x : List (List A)) (y : List (List B)) → Both (Both R) x y → (p : Place) (us : List A) (vs : List B) → Both R us vs → Both (Both R) (written_at x p us) (written_at y p vs)
written_both R x y h p us vs k =
    set_both (Both R) _ _ (row_both R _ _ p.offset us vs (get_both (Both R) [] [] tt x y p.region h) k) x y p.region h

-- a row of the first alone is changed
pub set_first : {A B : Type 0} (R : A → B → Type 0) (a : A) (d : A) (e : B) → (xs : List A) (ys : List B) (i : ℕ) → R a (slice_index_or ys i e) → Both R xs ys → Both R (slice_set xs i a) ys
set_first R a d e [] [] i r h = h
set_first R a d e [] (y ∷ ys) i r h = absurd h
set_first R a d e (x ∷ xs) [] i r h = absurd h
set_first R a d e (x ∷ xs) (y ∷ ys) zero r h = (r, h.1)
set_first R a d e (x ∷ xs) (y ∷ ys) (suc i) r h = (h.0, set_first R a d e xs ys i r h.1)
