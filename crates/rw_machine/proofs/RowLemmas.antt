-- Rows of memory that are written keep their lengths, and rows of regions hold what is inside the regions.
use Rattle.std.proofs.Common.{◌≡◌, ◌↔◌, IsSome, ◌≤◌, ◌<◌, ℕ, suc, zero, ◌+◌, List, [], ◌∷◌, ◌++◌, length, map, take, drop, set, get_or, slice_get, Option, Some, None, Ok, refl, sym, ◌∙◌, ap, subst, arith, length-append, length-drop, length-take, replicate, false, drop-cons, append_assoc, add-one, ◌-◌}
use Rattle.std.specs.Option.{option_and_then, option_map}
use Rattle.std.proofs.Math.Seq.{map-set_same}
use Rattle.std.proofs.lemmas.List.{map-set, get_or-map, get_or_append_left, take_more, length-map, length-replicate, set_at, set_split, set-append_right}
use Rattle.std.proofs.lemmas.Option.{slice_get_within, slice_get-get_or, get_or_from_slice_get, slice_get-map}
use Rattle.rw_domain.specs.declared.place.Region.{Region}
use Rattle.rw_domain.specs.declared.place.Place.{Place}
use Rattle.rw_domain.specs.declared.place.Access.{Access}
use Rattle.rw_domain.specs.Operators.{Operators, IsInside, PlacesInside}
use Rattle.rw_machine.specs.Running.{row_written, written_at}
use Rattle.rw_machine.specs.Rows.{front_replaced, byte_at}
use Rattle.rw_machine.proofs.Ranges.{has_range}
use Rattle.rw_machine.specs.Views.{HasRange, IsLaidOut}

-- a row in a vector of rows, as in the list of their items
pub row-item : {X C : Type 0} (f : X → List C) (rows : List X) (r : ℕ) (v : X) → r < length rows → v ≡ get_or rows r v → f v ≡ get_or (map f rows) r []
row-item f rows r v h at = sym (get_or-map f rows r v [] h ∙ ap f (sym at))

-- a row in a vector of rows is changed as in the list of their items
pub row-set : {X C : Type 0} (f : X → List C) (rows : List X) (r : ℕ) (v w : X) (F : List C → List C) → r < length rows → v ≡ get_or rows r v → f w ≡ F (f v) → map f (set rows r w) ≡ set (map f rows) r (F (get_or (map f rows) r []))
row-set f rows r v w F h at e =
    map-set f rows r w ∙ ap (set (map f rows) r) (e ∙ ap F (row-item f rows r v h at))

pub row-within : {X C : Type 0} (f : X → List C) (rows : List X) (p : Place) (len : ℕ) → HasRange (map f rows) p len → p.region < length rows
row-within f rows p len h = subst (λ n. p.region < n) (length-map rows f) h.region

-- one more byte of the front is replaced
pub front-more : {C : Type 0} (row : List C) (i : ℕ) (b : C) → i < length row → set (front_replaced row i b) i b ≡ front_replaced row (suc i) b
front-more [] i b h = absurd (omega arith)
front-more (x ∷ xs) zero b h = refl
front-more (x ∷ xs) (suc i) b h = ap (λ ys. b ∷ ys) (front-more xs i b (omega arith))

length-written : {C : Type 0} (row bytes : List C) (offset : ℕ) → offset + length bytes ≤ length row → length (row_written row offset bytes) ≡ length row
length-written row bytes offset h = simp (length-append, length-take, length-drop) (omega arith)

length-front : {C : Type 0} (row : List C) (n : ℕ) (b : C) → length (front_replaced row n b) ≡ length row
length-front row n b = simp (length-append, length-map, length-take, length-drop) (omega arith)

-- a write keeps the lengths of the rows
pub lengths-written : {C : Type 0} (rows : List (List C)) (p : Place) (bytes : List C) → HasRange rows p (length bytes) → map length (written_at rows p bytes) ≡ map length rows
lengths-written rows p bytes h =
    map-set_same length rows p.region (row_written (get_or rows p.region []) p.offset bytes) []
    (length-written (get_or rows p.region []) bytes p.offset h.bytes)

pub lengths-front : {C : Type 0} (rows : List (List C)) (r n : ℕ) (b : C) → map length (set rows r (front_replaced (get_or rows r []) n b)) ≡ map length rows
lengths-front rows r n b = map-set_same length rows r (front_replaced (get_or rows r []) n b) [] (length-front (get_or rows r []) n b)

-- each region has its first bytes
pub first-laid : {C : Type 0} (f : Region → C) (regions : List Region) → IsLaidOut regions (map (λ region. replicate region.size (f region)) regions)
first-laid f [] = refl
first-laid f (r ∷ rs) = ap (λ n. n ∷ map length (map (λ region. replicate region.size (f region)) rs)) (length-replicate r.size (f r)) ∙ ap (λ ns. r.size ∷ ns) (first-laid f rs)

pub laid-along : {C : Type 0} (regions : List Region) (rows rows' : List (List C)) → map length rows' ≡ map length rows → IsLaidOut regions rows → IsLaidOut regions rows'
laid-along regions rows rows' e laid = e ∙ laid

-- what is in a row is inside its region
pub rows-in-region : {C : Type 0} (regions : List Region) (rows : List (List C)) (p : Place) (len : ℕ) → IsLaidOut regions rows → HasRange rows p len → IsInside regions p len
rows-in-region {C} regions rows p len laid inside = (get_or regions p.region nothing, slice_get-get_or regions p.region nothing below, subst (λ n. p.offset + len ≤ n) size inside.bytes)
  where
    nothing : Region
    nothing = record { size = 0; align = 0; writable = false; zero = false }

    below : p.region < length regions
    below = let e : length rows ≡ length regions = sym (length-map rows length) ∙ ap length laid ∙ length-map regions (λ r. r.size) in omega (arith, inside.region)

    size : length (get_or rows p.region []) ≡ (get_or regions p.region nothing).size
    size =
        sym (get_or-map length rows p.region [] 0 inside.region)
        ∙ ap (λ sizes. get_or sizes p.region 0) laid
        ∙ get_or-map (λ r. r.size) regions p.region nothing 0 below

within-some : {C : Type 0} (xs : List C) (i : ℕ) → IsSome (slice_get xs i) → i < length xs
within-some {C} xs i some = of (slice_get xs i) refl some
  where
    of : (o : Option C) → slice_get xs i ≡ o → IsSome o → i < length xs
    of None e h = cc
    of (Some x) e h = slice_get_within xs i x e

-- a byte is there where its place is inside a region
pub byte-inside : {C : Type 0} (regions : List Region) (rows : List (List C)) (p : Place) → IsLaidOut regions rows → IsSome (byte_at rows p) ↔ IsInside regions p 1
byte-inside {C} regions rows p laid = (there (slice_get rows p.region) refl, inside)
  where
    there : (row : Option (List C)) → slice_get rows p.region ≡ row → IsSome (option_and_then (λ row. slice_get row p.offset) row) → IsInside regions p 1
    there None e some = cc
    there (Some row) e some =
        let h : p.offset < length row = within-some row p.offset some in
        rows-in-region regions rows p 1 laid (record { region = slice_get_within rows p.region row e; bytes = subst (λ row. p.offset + 1 ≤ length row) (sym (get_or_from_slice_get rows p.region row [] e)) (omega arith) })

    inside : IsInside regions p 1 → IsSome (byte_at rows p)
    inside i =
        let h = has_range regions rows p 1 laid i in
        let row : List C = get_or rows p.region [] in
        let below : p.offset < length row = let le : p.offset + 1 ≤ length row = h.bytes in omega arith in
        subst (λ row. IsSome (option_and_then (λ row. slice_get row p.offset) row)) (sym (slice_get-get_or rows p.region [] h.region))
        (subst (λ o. IsSome o) (sym (slice_get-get_or row p.offset (get_or row p.offset (front_byte row below)) below)) refl)
      where
        front_byte : (row : List C) → p.offset < length row → C
        front_byte (x ∷ xs) h = x
        front_byte [] h = absurd (omega arith)

-- one more byte of a word is written
next-byte : {C : Type 0} (xs row : List C) (k m : ℕ) (b : C) → length xs ≡ k → m < length row → set (xs ++ drop m row) k b ≡ (xs ++ b ∷ []) ++ drop (suc m) row
next-byte xs row k m b e h = ap (λ d. set (xs ++ d) k b) (drop-cons row m b h) ∙ set_at xs (get_or row m b) (drop (suc m) row) b k e ∙ sym (append_assoc xs (b ∷ []) (drop (suc m) row))

pub word-more : {C : Type 0} (row bs : List C) (o i : ℕ) (b : C) → o + i < length row → slice_get bs i ≡ Some b → set (row_written row o (take i bs)) (o + i) b ≡ row_written row o (take (i + 1) bs)
word-more {C} row bs o i b le got =
    set-append_right (take o row) (take i bs ++ drop (o + length (take i bs)) row) o (o + i) b front (omega arith)
    ∙ ap (λ ys. take o row ++ ys) inner
  where
    lt : i < length bs
    lt = slice_get_within bs i b got

    front : length (take o row) ≡ o
    front = simp length-take (omega arith)

    short : length (take i bs) ≡ i
    short = simp length-take (omega (arith, lt))

    more : take (i + 1) bs ≡ take i bs ++ b ∷ []
    more = take_more bs i b lt ∙ ap (λ y. take i bs ++ y ∷ []) (get_or_from_slice_get bs i b b got)

    long : length (take (i + 1) bs) ≡ i + 1
    long = simp length-take (omega (arith, lt))

    inner : set (take i bs ++ drop (o + length (take i bs)) row) (o + i - o) b ≡ take (i + 1) bs ++ drop (o + length (take (i + 1) bs)) row
    inner =
        next-byte (take i bs) row (o + i - o) (o + length (take i bs)) b (omega (arith, short)) (omega (arith, short))
        ∙ ap (λ ys. ys ++ drop (suc (o + length (take i bs))) row) (sym more)
        ∙ ap (λ n. take (i + 1) bs ++ drop n row) (let e : suc (o + length (take i bs)) ≡ o + length (take (i + 1) bs) = omega (arith, short, long) in e)

-- one byte is written
pub one-written : {C : Type 0} (row : List C) (o : ℕ) (b : C) → o < length row → set row o b ≡ row_written row o (b ∷ [])
one-written row o b h = set_split row o b h ∙ ap (λ n. take o row ++ b ∷ drop n row) (sym (add-one o))

-- the offset of a byte in a row, as it lies in a vector of rows
pub item-within : {X C : Type 0} (f : X → List C) (rows : List X) (p : Place) (v : X) → v ≡ get_or rows p.region v → HasRange (map f rows) p 1 → p.offset < length (f v)
item-within f rows p v at h =
    let e : get_or (map f rows) p.region [] ≡ f v = get_or-map f rows p.region v [] (row-within f rows p 1 h) ∙ ap f (sym at) in
    let le : p.offset + 1 ≤ length (get_or (map f rows) p.region []) = h.bytes in
    omega (arith, ap length e)

-- a read in a vector of rows
pub byte-read : {X C : Type 0} (f : X → List C) (rows : List X) (p : Place) → byte_at (map f rows) p ≡ option_and_then (λ row. slice_get (f row) p.offset) (slice_get rows p.region)
byte-read {X} f rows p = ap (λ o. option_and_then (λ row. slice_get row p.offset) o) (slice_get-map f rows p.region) ∙ of (slice_get rows p.region)
  where
    of : (o : Option X) → option_and_then (λ row. slice_get row p.offset) (option_map f o) ≡ option_and_then (λ row. slice_get (f row) p.offset) o
    of None = refl
    of (Some row) = refl

-- a place that the operators give is in the rows
pub placed-in-rows : {V C : Type 0} (ops : Operators V C) (regions : List Region) (rows : List (List C)) (a : V) (len : ℕ) (access : Access) (p : Place) → PlacesInside ops → ops.regions ≡ regions → IsLaidOut regions rows → Ok p ≡ ops.place a len access → HasRange rows p len
placed-in-rows ops regions rows a len access p inside e laid found =
    has_range regions rows p len laid (subst (λ rs. IsInside rs p len) e (inside a len access p (sym found)))

range-by : {C : Type 0} (rows rows' : List (List C)) (p : Place) (n : ℕ) → length rows ≤ length rows' → get_or (map length rows') p.region 0 ≡ get_or (map length rows) p.region 0 → HasRange rows p n → HasRange rows' p n
range-by rows rows' p n more e h =
    let below : p.region < length rows' = let lt = h.region in omega (arith, more, lt) in
    let size : length (get_or rows' p.region []) ≡ length (get_or rows p.region []) =
    sym (get_or-map length rows' p.region [] 0 below) ∙ e ∙ get_or-map length rows p.region [] 0 h.region in
    record { region = below; bytes = let fits = h.bytes in omega (arith, size, fits) }

-- rows of the same lengths have the same ranges, and so have those with more rows behind them
pub range-along : {C : Type 0} (rows rows' : List (List C)) (p : Place) (n : ℕ) → map length rows' ≡ map length rows → HasRange rows p n → HasRange rows' p n
range-along rows rows' p n e h =
    range-by rows rows' p n (let l : length rows' ≡ length rows = sym (length-map rows' length) ∙ ap length e ∙ length-map rows length in omega (arith, l)) (ap (λ ns. get_or ns p.region 0) e) h

pub range-grows : {C : Type 0} (rows more : List (List C)) (p : Place) (n : ℕ) → HasRange rows p n → HasRange (rows ++ more) p n
range-grows rows more p n h =
    record {
      region = let lt = h.region in omega (arith, lt, length-append rows more);
      bytes = subst (λ row. p.offset + n ≤ length row) (sym (get_or_append_left rows more [] p.region h.region)) h.bytes;
    }
