-- The bytes of memory with a stored word.
use Rattle.std.proofs.Common.{◌≡◌, ◌<◌, ◌≤◌, ℕ, suc, zero, ◌+◌, ◌-◌, List, [], ◌∷◌, length, map, slice_get, get_or, Option, Some, None, refl, sym, ◌∙◌, ap, subst, arith, Bool, true, false, nat_eq, nat_le, nat_lt, ◌&&◌, if◌then◌else◌}
use Rattle.std.specs.Option.{option_and_then}
use Rattle.std.proofs.lemmas.Bool.{eqb-true, leb-true, ltb-true}
use Rattle.std.proofs.lemmas.Option.{slice_get_within, slice_get_past, slice_get-get_or, get_or_from_slice_get}
use Rattle.rw_domain.specs.declared.place.Place.{Place}
use Rattle.rw_domain.specs.Operators.{Operators}
use Rattle.rw_machine.specs.Replying.{stored_index}
use Rattle.rw_machine.specs.Rows.{byte_at}
use Rattle.rw_machine.specs.Running.{written_at, bytes_from}
use Rattle.rw_machine.specs.Views.{HasRange}
use Rattle.rw_machine.proofs.After.{byte-after}
use Rattle.rw_machine.proofs.RowLemmas.{lengths-written}

-- two lists have the same at their places, where both places are below the length or neither is
same-got : {C : Type 0} (xs ys : List C) (i j : ℕ) → (i < length xs → j < length ys) → (j < length ys → i < length xs) → ((d : C) → get_or xs i d ≡ get_or ys j d) → slice_get xs i ≡ slice_get ys j
same-got {C} xs ys i j to from same = of (slice_get xs i) (slice_get ys j) refl refl
  where
    of : (a b : Option C) → slice_get xs i ≡ a → slice_get ys j ≡ b → a ≡ b
    of None None ea eb = refl
    of (Some x) (Some y) ea eb = ap Some (sym (get_or_from_slice_get xs i x y ea) ∙ same y ∙ get_or_from_slice_get ys j y y eb)
    of (Some x) None ea eb = let e = slice_get-get_or ys j x (to (slice_get_within xs i x ea)) in cc
    of None (Some y) ea eb = let e = slice_get-get_or xs i y (from (slice_get_within ys j y eb)) in cc

none-default : {X : Type 0} (xs : List X) (i : ℕ) (d : X) → slice_get xs i ≡ None → get_or xs i d ≡ d
none-default [] i d e = refl
none-default (x ∷ xs) zero d e = cc
none-default (x ∷ xs) (suc i) d e = none-default xs i d e

byte-of_row : {C : Type 0} (rows : List (List C)) (at : Place) → byte_at rows at ≡ slice_get (get_or rows at.region []) at.offset
byte-of_row {C} rows at = of (slice_get rows at.region) refl
  where
    of : (o : Option (List C)) → slice_get rows at.region ≡ o → option_and_then (λ row. slice_get row at.offset) o ≡ slice_get (get_or rows at.region []) at.offset
    of (Some row) e = ap (λ row. slice_get row at.offset) (sym (get_or_from_slice_get rows at.region row [] e))
    of None e = sym (slice_get_past (get_or rows at.region []) at.offset (subst (λ row. length row ≤ at.offset) (sym (none-default rows at.region [] e)) (omega arith)))

-- a byte of a word
byte-of_word : {V C : Type 0} (ops : Operators V C) (n k i : ℕ) (v : V) → i < n → slice_get (bytes_from ops n k v) i ≡ Some (ops.split v (k + i))
byte-of_word ops zero k i v lt = absurd (omega (arith, lt))
byte-of_word ops (suc n) k zero v lt = ap (λ m. Some (ops.split v m)) (let e : k ≡ k + 0 = omega arith in e)
byte-of_word ops (suc n) k (suc i) v lt = byte-of_word ops n (k + 1) i v (omega (arith, lt)) ∙ ap (λ m. Some (ops.split v m)) (let e : k + 1 + i ≡ k + suc i = omega arith in e)

index-in : (p : Place) (len r k : ℕ) (o : Option ℕ) → o ≡ stored_index p len r k → (j : ℕ) → o ≡ Some j → (nat_eq r p.region ≡ true) × (p.offset ≤ k) × (k - p.offset < len) × (j ≡ k - p.offset)
index-in p len r k o e j is = by (nat_eq r p.region) (nat_le p.offset k) (nat_lt (k - p.offset) len) refl refl refl (sym e ∙ is)
  where
    by : (a b c : Bool) → nat_eq r p.region ≡ a → nat_le p.offset k ≡ b → nat_lt (k - p.offset) len ≡ c → (if a && b && c then Some (k - p.offset) else None) ≡ Some j → (nat_eq r p.region ≡ true) × (p.offset ≤ k) × (k - p.offset < len) × (j ≡ k - p.offset)
    by true true true ea eb ec is = (ea, leb-true p.offset k eb, ltb-true (k - p.offset) len ec, let e : k - p.offset ≡ j = some-same is in sym e)
      where
        some-same : {a b : ℕ} → Some a ≡ Some b → a ≡ b
        some-same e = cc
    by false b c ea eb ec is = cc
    by true false c ea eb ec is = cc
    by true true false ea eb ec is = cc

-- the length of each row is as before
row-length : {C : Type 0} (rows : List (List C)) (p : Place) (bs : List C) (r : ℕ) → HasRange rows p (length bs) → length (get_or (written_at rows p bs) r []) ≡ length (get_or rows r [])
row-length rows p bs r h = length-of_row (written_at rows p bs) r ∙ ap (λ ns. get_or ns r 0) (lengths-written rows p bs h) ∙ sym (length-of_row rows r)
  where
    length-of_row : {C : Type 0} (rows : List (List C)) (r : ℕ) → length (get_or rows r []) ≡ get_or (map length rows) r 0
    length-of_row [] r = refl
    length-of_row (row ∷ rows) zero = refl
    length-of_row (row ∷ rows) (suc r) = length-of_row rows r

-- a byte beside the stored word is as before
pub byte-beside : {C : Type 0} (rows : List (List C)) (p : Place) (bs : List C) (at : Place) → HasRange rows p (length bs) → None ≡ stored_index p (length bs) at.region at.offset → byte_at (written_at rows p bs) at ≡ byte_at rows at
byte-beside rows p bs at h e =
    byte-of_row (written_at rows p bs) at
    ∙ same-got (get_or (written_at rows p bs) at.region []) (get_or rows at.region []) at.offset at.offset
    (subst (λ n. at.offset < n) same) (subst (λ n. at.offset < n) (sym same)) (λ d. byte-after rows p bs at.region at.offset d None h e)
    ∙ sym (byte-of_row rows at)
  where
    same : length (get_or (written_at rows p bs) at.region []) ≡ length (get_or rows at.region [])
    same = row-length rows p bs at.region h

-- a byte of the stored word
pub byte-stored : {C : Type 0} (rows : List (List C)) (p : Place) (bs : List C) (at : Place) (j : ℕ) → HasRange rows p (length bs) → Some j ≡ stored_index p (length bs) at.region at.offset → byte_at (written_at rows p bs) at ≡ slice_get bs j
byte-stored rows p bs at j h e =
    byte-of_row (written_at rows p bs) at
    ∙ same-got (get_or (written_at rows p bs) at.region []) bs at.offset j (λ _. below) (λ _. there) (λ d. byte-after rows p bs at.region at.offset d (Some j) h e)
  where
    found : (nat_eq at.region p.region ≡ true) × (p.offset ≤ at.offset) × (at.offset - p.offset < length bs) × (j ≡ at.offset - p.offset)
    found = index-in p (length bs) at.region at.offset (Some j) e j refl

    below : j < length bs
    below = subst (λ n. n < length bs) (sym found.3) found.2

    there : at.offset < length (get_or (written_at rows p bs) at.region [])
    there =
        subst (λ n. at.offset < n) (sym (row-length rows p bs at.region h))
        (subst (λ r. at.offset < length (get_or rows r [])) (sym (eqb-true at.region p.region found.0))
        (let le : p.offset + length bs ≤ length (get_or rows p.region []) = h.bytes in let a = found.1 in let b = found.2 in omega (arith, le, a, b)))

pub index-below : (p : Place) (len r k j : ℕ) → Some j ≡ stored_index p len r k → j < len
index-below p len r k j e = let found = index-in p len r k (Some j) e j refl in subst (λ n. n < len) (sym found.3) found.2

pub byte-of_low : {V C : Type 0} (ops : Operators V C) (n i : ℕ) (v : V) → i < n → slice_get (bytes_from ops n 0 v) i ≡ Some (ops.split v i)
byte-of_low ops n i v lt = byte-of_word ops n 0 i v lt ∙ ap (λ m. Some (ops.split v m)) (let e : 0 + i ≡ i = omega arith in e)
