-- Bytes of memory after a write.
use Rattle.std.proofs.Common.{add-zero, ◌≡◌, ◌≤◌, ◌<◌, ℕ, suc, zero, ◌+◌, ◌-◌, List, [], ◌∷◌, ◌++◌, length, map, take, drop, get_or, Option, Some, None, Bool, true, false, if◌then◌else◌, refl, sym, ◌∙◌, ap, subst, arith, length-take, drop-cons, nat_eq, nat_lt}
use Rattle.std.specs.Prelude.{◌&&◌, nat_le}
use Rattle.std.proofs.lemmas.Bool.{leb-true, leb-false, ltb-true, ltb-false, eqb-false, eqb-true}
use Rattle.std.proofs.lemmas.List.{get_or-append_right, get_or_append_left, get_or-take, get_or-drop, get_or-set_same, get_or-set_other, get_or_default, get_or-map, length-map}
use Rattle.rw_base.specs.declared.width.Width.{Width}
use Rattle.rw_base.specs.declared.width.Width.TheVariants.{B, W, L, Q}
use Rattle.rw_base.specs.Width.{byte_count}
use Rattle.rw_domain.specs.declared.eight.Eight.{Eight}
use Rattle.rw_domain.specs.Eight.{eight_of}
use Rattle.rw_domain.specs.declared.place.Place.{Place}
use Rattle.rw_machine.specs.Replying.{stored_index}
use Rattle.rw_machine.specs.Running.{row_written, written_at}
use Rattle.rw_machine.specs.Views.{HasRange}

row-inside : {C : Type 0} (row bs : List C) (o k : ℕ) (d : C) → o + length bs ≤ length row → o ≤ k → k - o < length bs → get_or (row_written row o bs) k d ≡ get_or bs (k - o) d
row-inside row bs o k d fits le lt =
    get_or-append_right (take o row) (bs ++ drop (o + length bs) row) o k d front le ∙ get_or_append_left bs (drop (o + length bs) row) d (k - o) lt
  where
    front : length (take o row) ≡ o
    front = simp length-take (omega (arith, fits))

row-before : {C : Type 0} (row bs : List C) (o k : ℕ) (d : C) → o + length bs ≤ length row → k < o → get_or (row_written row o bs) k d ≡ get_or row k d
row-before row bs o k d fits lt =
    get_or_append_left (take o row) (bs ++ drop (o + length bs) row) d k near ∙ get_or-take o row k d lt
  where
    near : k < length (take o row)
    near = simp length-take (omega (arith, fits, lt))

row-behind : {C : Type 0} (row bs : List C) (o k : ℕ) (d : C) → o + length bs ≤ length row → o + length bs ≤ k → get_or (row_written row o bs) k d ≡ get_or row k d
row-behind row bs o k d fits le =
    get_or-append_right (take o row) (bs ++ drop (o + length bs) row) o k d front (omega (arith, le))
    ∙ get_or-append_right bs (drop (o + length bs) row) (length bs) (k - o) d refl (omega (arith, le))
    ∙ get_or-drop (o + length bs) row (k - o - length bs) d
    ∙ ap (λ i. get_or row i d) (let e : o + length bs + (k - o - length bs) ≡ k = omega (arith, le) in e)
  where
    front : length (take o row) ≡ o
    front = simp length-take (omega (arith, fits))

abbrev pub picked : {C : Type 0} → List C → List C → ℕ → C → Option ℕ → C
picked row bs k d (Some j) = get_or bs j d
picked row bs k d None = get_or row k d

-- a byte of memory after a write is one that is written, or as before
pub byte-after : {C : Type 0} (rows : List (List C)) (p : Place) (bs : List C) (r k : ℕ) (d : C) (o : Option ℕ) → HasRange rows p (length bs) → o ≡ stored_index p (length bs) r k
    → get_or (get_or (written_at rows p bs) r []) k d ≡ picked (get_or rows r []) bs k d o
byte-after {C} rows p bs r k d o h e = rw e (by (nat_eq r p.region) (nat_le p.offset k) (nat_lt (k - p.offset) (length bs)) refl refl refl)
  where
    row : List C
    row = get_or rows p.region []

    same : get_or (written_at rows p bs) p.region [] ≡ row_written row p.offset bs
    same = get_or-set_same rows p.region (row_written row p.offset bs) [] h.region

    at_region : nat_eq r p.region ≡ true → get_or (row_written row p.offset bs) k d ≡ get_or row k d → get_or (get_or (written_at rows p bs) r []) k d ≡ get_or (get_or rows r []) k d
    at_region ea e =
        ap (λ r. get_or (get_or (written_at rows p bs) r []) k d) (eqb-true r p.region ea) ∙ ap (λ row. get_or row k d) same ∙ e ∙ ap (λ r. get_or (get_or rows r []) k d) (sym (eqb-true r p.region ea))

    by : (a b c : Bool) → nat_eq r p.region ≡ a → nat_le p.offset k ≡ b → nat_lt (k - p.offset) (length bs) ≡ c
        → get_or (get_or (written_at rows p bs) r []) k d ≡ picked (get_or rows r []) bs k d (if a && b && c then Some (k - p.offset) else None)
    by false b c ea eb ec = ap (λ row. get_or row k d) (get_or-set_other rows p.region r (row_written row p.offset bs) [] (eqb-false r p.region ea))
    by true false c ea eb ec = at_region ea (row-before row bs p.offset k d h.bytes (leb-false p.offset k eb))
    by true true false ea eb ec = at_region ea (let le = leb-true p.offset k eb in let lt = ltb-false (k - p.offset) (length bs) ec in row-behind row bs p.offset k d h.bytes (omega (arith, le, lt)))
    by true true true ea eb ec = ap (λ r. get_or (get_or (written_at rows p bs) r []) k d) (eqb-true r p.region ea) ∙ ap (λ row. get_or row k d) same ∙ row-inside row bs p.offset k d h.bytes (leb-true p.offset k eb) (ltb-true (k - p.offset) (length bs) ec)

-- so many elements from one on
abbrev pub listed : {C : Type 0} → ℕ → (ℕ → C) → List C
listed zero f = []
listed (suc n) f = f 0 ∷ listed n (λ i. f (suc i))

pub listed-range : {C : Type 0} (row : List C) (n o : ℕ) (f : ℕ → C) → o + n ≤ length row → ((i : ℕ) → i < n → (d : C) → get_or row (o + i) d ≡ f i) → listed n f ≡ take n (drop o row)
listed-range row zero o f fits h = refl
listed-range {C} row (suc n) o f fits h =
    sym (ap (λ l. take (suc n) l) (drop-cons row o (f 0) below) ∙ ap (λ b. b ∷ take n (drop (suc o) row)) (ap (λ i. get_or row i (f 0)) (sym (add-zero o)) ∙ h 0 (omega arith) (f 0))
    ∙ ap (λ l. f 0 ∷ l) (sym (listed-range row n (suc o) (λ i. f (suc i)) (omega (arith, fits)) (λ i lt d. (ap (λ j. get_or row j d) (let e : suc o + i ≡ o + suc i = omega arith in e)) ∙ h (suc i) (omega (arith, lt)) d))))
  where
    below : o < length row
    below = omega (arith, fits)

pub low-count : {C : Type 0} (w : Width) (e : Eight C) → length (take (byte_count w) (eight_of e)) ≡ byte_count w
low-count B e = refl
low-count W e = refl
low-count L e = refl
low-count Q e = refl

count-bound : (w : Width) → byte_count w ≤ 8
count-bound B = omega arith
count-bound W = omega arith
count-bound L = omega arith
count-bound Q = omega arith

-- the byte of a stored word is one of its bytes
pub index-below : (p : Place) (w : Width) (r k j : ℕ) → Some j ≡ stored_index p (byte_count w) r k → (j < byte_count w) × (j < 8)
index-below p w r k j e = by (nat_eq r p.region) (nat_le p.offset k) (nat_lt (k - p.offset) (byte_count w)) refl e
  where
    by : (a b c : Bool) → nat_lt (k - p.offset) (byte_count w) ≡ c → Some j ≡ (if a && b && c then Some (k - p.offset) else None) → (j < byte_count w) × (j < 8)
    by false b c ec e = cc
    by true false c ec e = cc
    by true true false ec e = cc
    by true true true ec e =
        let same : j ≡ k - p.offset = cc in
        let lt = ltb-true (k - p.offset) (byte_count w) ec in
        let most = count-bound w in
        (omega (arith, same, lt), omega (arith, same, lt, most))

pub word-byte-after : {C : Type 0} (rows : List (List C)) (p : Place) (w : Width) (e : Eight C) (r k : ℕ) (d : C) (o : Option ℕ) → HasRange rows p (byte_count w) → o ≡ stored_index p (byte_count w) r k
    → get_or (get_or (written_at rows p (take (byte_count w) (eight_of e))) r []) k d ≡ picked (get_or rows r []) (take (byte_count w) (eight_of e)) k d o
word-byte-after rows p w e r k d o h found =
    byte-after rows p (take (byte_count w) (eight_of e)) r k d o (subst (λ n. HasRange rows p n) (sym (low-count w e)) h) (found ∙ ap (λ n. stored_index p n r k) (sym (low-count w e)))

-- a row in a vector of rows, as in the list of their items
pub row-is : {X C : Type 0} (f : X → List C) (rows : List X) (r : ℕ) (v : X) → r < length (map f rows) → v ≡ get_or rows r v → get_or (map f rows) r [] ≡ f v
row-is f rows r v h at = let lt = subst (λ n. r < n) (length-map rows f) h in get_or-map f rows r v [] lt ∙ ap f (sym at)

pub item-is : {C : Type 0} (row : List C) (k : ℕ) (b d : C) → k < length row → b ≡ get_or row k b → get_or row k d ≡ b
item-is row k b d lt at = get_or_default row k d b lt ∙ sym at

-- eight bytes of a row, one after another
pub eight-range : {C : Type 0} (row : List C) (o : ℕ) (e : Eight C) → o + 8 ≤ length row
    → ((d : C) → get_or row (o + 0) d ≡ e.b0) → ((d : C) → get_or row (o + 1) d ≡ e.b1) → ((d : C) → get_or row (o + 2) d ≡ e.b2) → ((d : C) → get_or row (o + 3) d ≡ e.b3)
    → ((d : C) → get_or row (o + 4) d ≡ e.b4) → ((d : C) → get_or row (o + 5) d ≡ e.b5) → ((d : C) → get_or row (o + 6) d ≡ e.b6) → ((d : C) → get_or row (o + 7) d ≡ e.b7)
    → eight_of e ≡ take 8 (drop o row)
eight-range {C} row o e fits h0 h1 h2 h3 h4 h5 h6 h7 = listed-range row 8 o (λ i. get_or (eight_of e) i e.b0) fits at
  where
    at : (i : ℕ) → i < 8 → (d : C) → get_or row (o + i) d ≡ get_or (eight_of e) i e.b0
    at zero lt d = h0 d
    at (suc zero) lt d = h1 d
    at (suc (suc zero)) lt d = h2 d
    at (suc (suc (suc zero))) lt d = h3 d
    at (suc (suc (suc (suc zero)))) lt d = h4 d
    at (suc (suc (suc (suc (suc zero))))) lt d = h5 d
    at (suc (suc (suc (suc (suc (suc zero)))))) lt d = h6 d
    at (suc (suc (suc (suc (suc (suc (suc zero))))))) lt d = h7 d
    at (suc (suc (suc (suc (suc (suc (suc (suc i)))))))) lt d = absurd (omega (arith, lt))
