-- Rows of memory into which cells are written.
use Rattle.std.proofs.Common.{◌≡◌, ◌≤◌, ◌<◌, ℕ, suc, zero, ◌+◌, ◌-◌, List, [], ◌∷◌, ◌++◌, length, map, take, drop, set, get_or, replicate, slice_get, Some, refl, sym, ◌∙◌, ap, subst, arith, length-append, length-take, length-drop, drop-cons, append_assoc}
use Rattle.std.proofs.lemmas.List.{get_or-map, take-append-drop, set-get_or, get_or-append_right, get_or-drop, take_more, set_at, take-replicate, drop-replicate, get_or-append-add, set-append_right, get_or-set_same, map-append, length-map, length-replicate}
use Rattle.std.proofs.Math.ListN.{drop_of_length-le}
use Rattle.std.proofs.lemmas.Option.{slice_get_within, get_or_from_slice_get}
use Rattle.rw_domain.specs.declared.place.Place.{Place}
use Rattle.rw_domain.specs.declared.place.Region.{Region}
use Rattle.rw_domain.specs.Placed.{Placed}
use Rattle.rw_machine.specs.Running.{row_written, written_at}
use Rattle.rw_machine.specs.Step.{Machine}
use Rattle.rw_machine.specs.Views.{HasRange, IsLaidOut}
use Rattle.rw_machine.proofs.RowLemmas.{word-more, one-written}

length-written : {C : Type 0} (row bytes : List C) (offset : ℕ) → offset + length bytes ≤ length row → length (row_written row offset bytes) ≡ length row
length-written row bytes offset h = simp (length-append, length-take, length-drop) (omega arith)

set-again : {X : Type 0} (xs : List X) (i : ℕ) (x y : X) → set (set xs i x) i y ≡ set xs i y
set-again [] i x y = refl
set-again (z ∷ zs) zero x y = refl
set-again (z ∷ zs) (suc i) x y = ap (λ ws. z ∷ ws) (set-again zs i x y)

-- the first cells of a list, and one more
front-more : {X : Type 0} (xs : List X) (i : ℕ) (x : X) → slice_get xs i ≡ Some x → take (i + 1) xs ≡ take i xs ++ x ∷ []
front-more xs i x e = take_more xs i x (slice_get_within xs i x e) ∙ ap (λ y. take i xs ++ y ∷ []) (get_or_from_slice_get xs i x x e)

-- a whole row is written
pub whole-written : {C : Type 0} (rows : List (List C)) (k : ℕ) (cells : List C) → length (get_or rows k []) ≡ length cells → written_at rows (record { region = k; offset = 0 }) cells ≡ set rows k cells
whole-written rows k cells e = ap (set rows k) (ap (λ xs. cells ++ xs) (drop_of_length-le (get_or rows k []) (omega (arith, e))) ∙ append-none cells)
  where
    append-none : {X : Type 0} (xs : List X) → xs ++ [] ≡ xs
    append-none [] = refl
    append-none (x ∷ xs) = ap (λ ys. x ∷ ys) (append-none xs)

-- of rows, the first of which are those of the items of a list, one more is set
pub next-row : {X C : Type 0} (f : X → List C) (xs : List X) (rows : List (List C)) (k : ℕ) (x : X) → slice_get xs k ≡ Some x → k < length rows → set (map f (take k xs) ++ drop k rows) k (f x) ≡ map f (take (k + 1) xs) ++ drop (k + 1) rows
next-row f xs rows k x got low =
    ap (λ d. set (map f (take k xs) ++ d) k (f x)) (drop-cons rows k [] low)
    ∙ set_at (map f (take k xs)) (get_or rows k []) (drop (suc k) rows) (f x) k front
    ∙ sym (append_assoc (map f (take k xs)) (f x ∷ []) (drop (suc k) rows))
    ∙ ap (λ ys. ys ++ drop (suc k) rows) (sym (map-append f (take k xs) (x ∷ [])) ∙ ap (map f) (sym (front-more xs k x got)))
    ∙ (let next : suc k ≡ k + 1 = omega arith in ap (λ n. map f (take (k + 1) xs) ++ drop n rows) next)
  where
    within : k < length xs
    within = slice_get_within xs k x got

    front : length (map f (take k xs)) ≡ k
    front = simp (length-map, length-take) (omega (arith, within))

-- cells that are written into equal cells
pub among-equal : {C : Type 0} (n o : ℕ) (u : C) (cells : List C) → o + length cells ≤ n → row_written (replicate n u) o cells ≡ replicate o u ++ (cells ++ replicate (n - (o + length cells)) u)
among-equal n o u cells le = ap (λ xs. xs ++ (cells ++ drop (o + length cells) (replicate n u))) (take-replicate o n u (omega (arith, le))) ∙ ap (λ xs. replicate o u ++ (cells ++ xs)) (drop-replicate (o + length cells) n u)

-- what is written behind the first rows
pub behind : {C : Type 0} (front rows : List (List C)) (n j o : ℕ) (cells : List C) → length front ≡ n → written_at (front ++ rows) (record { region = n + j; offset = o }) cells ≡ front ++ written_at rows (record { region = j; offset = o }) cells
behind front rows n j o cells e =
    ap (λ r. set (front ++ rows) (n + j) (row_written r o cells)) (subst (λ m. get_or (front ++ rows) (m + j) [] ≡ get_or rows j []) e (get_or-append-add front rows j []))
    ∙ set-append_right front rows n (n + j) (row_written (get_or rows j []) o cells) e (omega arith)
    ∙ (let back : n + j - n ≡ j = omega arith in ap (λ i. front ++ set rows i (row_written (get_or rows j []) o cells)) back)

-- one more cell is written behind others
pub next-written : {C : Type 0} (rows : List (List C)) (p : Place) (cells : List C) (i : ℕ) (c : C) → HasRange rows p (length cells) → slice_get cells i ≡ Some c
    → written_at (written_at rows p (take i cells)) (record { region = p.region; offset = p.offset + i }) (c ∷ []) ≡ written_at rows p (take (i + 1) cells)
next-written {C} rows p cells i c range got =
    ap (λ r. set (set rows p.region front) p.region (row_written r (p.offset + i) (c ∷ []))) (get_or-set_same rows p.region front [] range.region)
    ∙ set-again rows p.region front (row_written front (p.offset + i) (c ∷ []))
    ∙ ap (set rows p.region) (sym (one-written front (p.offset + i) c (omega (arith, long, low, range.bytes))) ∙ word-more row cells p.offset i c (omega (arith, low, range.bytes)) got)
  where
    row : List C
    row = get_or rows p.region []

    front : List C
    front = row_written row p.offset (take i cells)

    low : i < length cells
    low = slice_get_within cells i c got

    few : length (take i cells) ≡ i
    few = simp length-take (omega (arith, low))

    long : length front ≡ length row
    long = length-written row (take i cells) p.offset (omega (arith, few, low, range.bytes))

-- no cell is written
pub none-written : {C : Type 0} (rows : List (List C)) (p : Place) → written_at rows p [] ≡ rows
none-written rows p =
    (let none : p.offset + 0 ≡ p.offset = omega arith in ap (λ n. set rows p.region (take p.offset (get_or rows p.region []) ++ drop n (get_or rows p.region []))) none)
    ∙ ap (set rows p.region) (take-append-drop p.offset (get_or rows p.region []))
    ∙ set-get_or rows p.region []

-- a row behind those that are set is as it was
pub row-at : {X C : Type 0} (f : X → List C) (xs : List X) (rows : List (List C)) (k : ℕ) → k ≤ length xs → get_or (map f (take k xs) ++ drop k rows) k [] ≡ get_or rows k []
row-at f xs rows k le =
    get_or-append_right (map f (take k xs)) (drop k rows) k k [] front (omega arith)
    ∙ get_or-drop k rows (k - k) []
    ∙ (let at : k + (k - k) ≡ k = omega arith in ap (λ n. get_or rows n []) at)
  where
    front : length (map f (take k xs)) ≡ k
    front = simp (length-map, length-take) (omega (arith, le))

pub range-at : {X C : Type 0} (f : X → List C) (xs : List X) (rows : List (List C)) (k len : ℕ) → k ≤ length xs → HasRange rows (record { region = k; offset = 0 }) len
    → HasRange (map f (take k xs) ++ drop k rows) (record { region = k; offset = 0 }) len
range-at f xs rows k len le range = record {
  region = let all = length-append (map f (take k xs)) (drop k rows) in let rest = length-drop k rows in let low = range.region in let first = front in omega (arith, all, rest, low, first);
  bytes = subst (λ row. 0 + len ≤ length row) (sym (row-at f xs rows k le)) range.bytes;
}
  where
    front : length (map f (take k xs)) ≡ k
    front = simp (length-map, length-take) (omega (arith, le))

-- the row of a region is as long as the region
pub row-length : {C : Type 0} (regions : List Region) (rows : List (List C)) (k : ℕ) (r : Region) → IsLaidOut regions rows → slice_get regions k ≡ Some r → (k < length rows) × (length (get_or rows k []) ≡ r.size)
row-length {C} regions rows k r laid got = (low, sym (get_or-map length rows k [] 0 low) ∙ ap (λ ns. get_or ns k 0) laid ∙ get_or-map (λ region. region.size) regions k r 0 within ∙ ap (λ region. region.size) (get_or_from_slice_get regions k r r got))
  where
    within : k < length regions
    within = slice_get_within regions k r got

    low : k < length rows
    low = let same : length rows ≡ length regions = sym (length-map rows length) ∙ ap length laid ∙ length-map regions (λ region. region.size) in omega (arith, same, within)

-- a machine into which one more cell is written
pub cell-put : {V C P : Type 0} (m m' m'' : Machine Placed V C P) (p : Place) (cells : List C) (i o : ℕ) (b : C) → p.offset + i ≡ o → slice_get cells i ≡ Some b → HasRange m.memory p (length cells)
    → m' ≡ record m { memory = written_at m.memory p (take i cells) } → m'' ≡ record m' { memory = written_at m'.memory (record { region = p.region; offset = o }) (b ∷ []) }
    → m'' ≡ record m { memory = written_at m.memory p (take (i + 1) cells) }
cell-put {V} {C} {P} m m' m'' p cells i o b at got range before put =
    put
    ∙ ap written before
    ∙ ap with_rows
    (ap (λ n. written_at (written_at m.memory p (take i cells)) (record { region = p.region; offset = n }) (b ∷ [])) (sym at) ∙ next-written m.memory p cells i b range got)
  where
    written : Machine Placed V C P → Machine Placed V C P
    written z = record z { memory = written_at z.memory (record { region = p.region; offset = o }) (b ∷ []) }

    with_rows : List (List C) → Machine Placed V C P
    with_rows rows = record m { memory = rows }
