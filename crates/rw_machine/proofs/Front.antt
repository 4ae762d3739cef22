-- Bytes of a region that are marked as forgotten.
use Rattle.std.proofs.Common.{◌≡◌, ◌≢◌, ◌⊎◌, inl, inr, eqb, min, max, ◌≤◌, ◌<◌, ◌-◌, ℕ, zero, suc, ◌+◌, List, [], ◌∷◌, ◌++◌, length, take, drop, set, get_or, replicate, Bool, true, false, if◌then◌else◌, refl, sym, ◌∙◌, ap, subst, arith, length-take, length-append, append_assoc}
use Rattle.std.proofs.Math.Nat.{min-le_left, min-le_right, le-max_left, le-max_right, max-eq_left, max-eq_right}
use Rattle.std.proofs.Math.Seq.{take-add, drop-append-add}
use Rattle.std.proofs.lemmas.Bool.{cases_lt}
use Rattle.std.proofs.lemmas.Bool.Decides.{eqb_tells}
use Rattle.std.proofs.lemmas.List.{take-append-le, take-replicate, drop-replicate, drop-take, drop-drop, replicate-append-replicate, get_or-set_same, get_or-set_other, get_or_append_left}
use Rattle.rw_domain.specs.declared.place.Place.{Place}
use Rattle.rw_machine.specs.declared.marks.Marks.{Marks}
use Rattle.rw_machine.specs.Rows.{AreMarked, AreForgotten, first_marks, marks_left, front_replaced}
use Rattle.rw_machine.specs.Running.{row_written, written_at}
use Rattle.rw_machine.specs.Views.{HasRange}

-- what is there already is replaced by itself
pub front-same : {C : Type 0} (row : List C) (k : ℕ) (b : C) → take k row ≡ replicate k b → front_replaced row k b ≡ row
front-same row zero b e = refl
front-same [] (suc k) b e = cc
front-same (x ∷ xs) (suc k) b e =
    let h : b ≡ x = cc in
    let t : take k xs ≡ replicate k b = cc in
    ap (λ ys. b ∷ ys) (front-same xs k b t) ∙ ap (λ y. y ∷ xs) h

take-within : {C : Type 0} (row : List C) (n k : ℕ) → n ≤ k → take n (take k row) ≡ take n row
take-within row zero k le = refl
take-within row (suc n) zero le = absurd (omega (arith, le))
take-within [] (suc n) (suc k) le = refl
take-within (x ∷ xs) (suc n) (suc k) le = ap (λ ys. x ∷ ys) (take-within xs n k (omega (arith, le)))

pub starts-less : {C : Type 0} (row : List C) (n k : ℕ) (b : C) → take k row ≡ replicate k b → n ≤ k → take n row ≡ replicate n b
starts-less row n k b e le = sym (take-within row n k le) ∙ ap (take n) e ∙ take-replicate n k b le

pub front-starts : {C : Type 0} (row : List C) (n : ℕ) (b : C) → n ≤ length row → take n (front_replaced row n b) ≡ replicate n b
front-starts row zero b le = refl
front-starts [] (suc n) b le = absurd (omega (arith, le))
front-starts (x ∷ xs) (suc n) b le = ap (λ ys. b ∷ ys) (front-starts xs n b (omega (arith, le)))

-- those behind the front stay
front-behind : {C : Type 0} (row : List C) (k n : ℕ) (b : C) → k ≤ n → drop n (front_replaced row k b) ≡ drop n row
front-behind row zero n b le = refl
front-behind row (suc k) zero b le = absurd (omega (arith, le))
front-behind [] (suc k) (suc n) b le = refl
front-behind (x ∷ xs) (suc k) (suc n) b le = front-behind xs k n b (omega (arith, le))

-- a front that is replaced again, with more behind it
front-twice : {C : Type 0} (row : List C) (k n : ℕ) (b : C) → k ≤ n → front_replaced (front_replaced row k b) n b ≡ front_replaced row n b
front-twice row zero n b le = refl
front-twice row (suc k) zero b le = absurd (omega (arith, le))
front-twice [] (suc k) (suc n) b le = refl
front-twice (x ∷ xs) (suc k) (suc n) b le = ap (λ ys. b ∷ ys) (front-twice xs k n b (omega (arith, le)))

-- of a range of one byte, what is behind an offset
behind-less : {C : Type 0} (row : List C) (from k to : ℕ) (b : C) → take (to - from) (drop from row) ≡ replicate (to - from) b → from ≤ k → take (to - k) (drop k row) ≡ replicate (to - k) b
behind-less {C} row from k to b e le = by (to - k) refl
  where
    by : (m : ℕ) → to - k ≡ m → take m (drop k row) ≡ replicate m b
    by zero z = refl
    by (suc m) z =
        let at : k ≡ from + (k - from) = omega (arith, le) in
        let size : to - from ≡ (k - from) + suc m = omega (arith, le, z) in
        let left : to - from - (k - from) ≡ suc m = omega (arith, le, z) in
        ap (λ n. take (suc m) (drop n row)) at
        ∙ ap (take (suc m)) (sym (drop-drop (k - from) from row))
        ∙ sym (drop-take (k - from) (suc m) (drop from row))
        ∙ ap (λ n. drop (k - from) (take n (drop from row))) (sym size)
        ∙ ap (drop (k - from)) e
        ∙ drop-replicate (k - from) (to - from) b
        ∙ ap (λ n. replicate n b) left

-- a front of one byte and a range of it behind the front
front-joined : {C : Type 0} (row : List C) (from to : ℕ) (b : C) → take from row ≡ replicate from b → take (to - from) (drop from row) ≡ replicate (to - from) b → from ≤ to → take to row ≡ replicate to b
front-joined row from to b first behind le =
    let sum : to ≡ from + (to - from) = omega (arith, le) in
    ap (λ n. take n row) sum
    ∙ take-add from (to - from) row
    ∙ ap (λ xs. xs ++ take (to - from) (drop from row)) first
    ∙ ap (λ ys. replicate from b ++ ys) behind
    ∙ replicate-append-replicate from (to - from) b
    ∙ ap (λ n. replicate n b) (sym sum)

-- the front is replaced up to the marked range: then all is known up to the end of that
pub front-known : {C : Type 0} (row : List C) (m : Marks) (b : C) → AreMarked b row m → m.from ≤ length row → take (max m.from m.to) (front_replaced row m.from b) ≡ replicate (max m.from m.to) b
front-known row m b h le = by (cases_lt m.from m.to)
  where
    first : take m.from (front_replaced row m.from b) ≡ replicate m.from b
    first = front-starts row m.from b le

    by : (m.from < m.to) ⊎ (m.to ≤ m.from) → take (max m.from m.to) (front_replaced row m.from b) ≡ replicate (max m.from m.to) b
    by (inl lt) =
        subst (λ n. take n (front_replaced row m.from b) ≡ replicate n b) (sym (max-eq_right (omega (arith, lt))))
        (front-joined (front_replaced row m.from b) m.from m.to b first
        (ap (take (m.to - m.from)) (front-behind row m.from m.from b (omega arith)) ∙ h.behind) (omega (arith, lt)))
    by (inr ge) = subst (λ n. take n (front_replaced row m.from b) ≡ replicate n b) (sym (max-eq_left ge)) first

-- the longer of a front that is known and one that is replaced
front-longest : {C : Type 0} (row : List C) (known n : ℕ) (b : C) → take known row ≡ replicate known b → n ≤ length row → take (max known n) (front_replaced row n b) ≡ replicate (max known n) b
front-longest row known n b e le = by (cases_lt known n)
  where
    by : (known < n) ⊎ (n ≤ known) → take (max known n) (front_replaced row n b) ≡ replicate (max known n) b
    by (inl lt) = subst (λ k. take k (front_replaced row n b) ≡ replicate k b) (sym (max-eq_right (omega (arith, lt)))) (front-starts row n b le)
    by (inr ge) =
        subst (λ k. take k (front_replaced row n b) ≡ replicate k b) (sym (max-eq_left ge))
        (subst (λ row. take known row ≡ replicate known b) (sym (front-same row n b (starts-less row n known b e ge))) e)

-- a row is forgotten in two parts: up to the marked range, and behind it
pub parts-known : {C : Type 0} (row one : List C) (m : Marks) (n : ℕ) (b : C) → AreMarked b row m → m.from ≤ length row → one ≡ front_replaced row m.from b → take (min (max m.from m.to) n) one ≡ replicate (min (max m.from m.to) n) b
parts-known row one m n b h le e =
    starts-less one (min (max m.from m.to) n) (max m.from m.to) b (subst (λ row. take (max m.from m.to) row ≡ replicate (max m.from m.to) b) (sym e) (front-known row m b h le)) (min-le_left (max m.from m.to) n)

pub parts-forgotten : {C : Type 0} (row one two : List C) (m : Marks) (n : ℕ) (b : C) → m.from ≤ n → one ≡ front_replaced row m.from b → two ≡ front_replaced one n b → two ≡ front_replaced row n b
parts-forgotten row one two m n b le e f = f ∙ ap (λ row. front_replaced row n b) e ∙ front-twice row m.from n b le

pub parts-longest : {C : Type 0} (row one two : List C) (m : Marks) (n : ℕ) (b : C) → AreMarked b row m → m.from ≤ n → n ≤ length row → one ≡ front_replaced row m.from b → two ≡ front_replaced one n b → length one ≡ length row
    → take (max (max m.from m.to) n) two ≡ replicate (max (max m.from m.to) n) b
parts-longest row one two m n b h le room e f same =
    let known : take (max m.from m.to) one ≡ replicate (max m.from m.to) b = subst (λ row. take (max m.from m.to) row ≡ replicate (max m.from m.to) b) (sym e) (front-known row m b h (omega (arith, le, room))) in
    subst (λ row. take (max (max m.from m.to) n) row ≡ replicate (max (max m.from m.to) n) b) (sym f) (front-longest one (max m.from m.to) n b known (omega (arith, room, same)))

written-starts : {C : Type 0} (row bytes : List C) (o n : ℕ) (b : C) → take n row ≡ replicate n b → n ≤ o → o + length bytes ≤ length row → take n (row_written row o bytes) ≡ replicate n b
written-starts row bytes o n b e le room =
    let long : n ≤ length (take o row) = simp length-take (omega (arith, le, room)) in
    take-append-le n (take o row) (bytes ++ drop (o + length bytes) row) long ∙ take-within row n o le ∙ e

-- those behind a write stay
written-behind : {C : Type 0} (row bytes : List C) (o n : ℕ) → o + length bytes ≤ n → o + length bytes ≤ length row → drop n (row_written row o bytes) ≡ drop n row
written-behind row bytes o n le room =
    let e = o + length bytes in
    let front : length (take o row ++ bytes) ≡ e = simp (length-append, length-take) (omega (arith, room)) in
    let sum : n ≡ length (take o row ++ bytes) + (n - e) = omega (arith, le, front) in
    let whole : e + (n - e) ≡ n = omega (arith, le) in
    ap (drop n) (sym (append_assoc (take o row) bytes (drop e row)))
    ∙ ap (λ k. drop k ((take o row ++ bytes) ++ drop e row)) sum
    ∙ drop-append-add (take o row ++ bytes) (drop e row) (n - e)
    ∙ drop-drop (n - e) e row
    ∙ ap (λ k. drop k row) whole

-- a write leaves what is marked before and behind it
written-marked : {C : Type 0} (b : C) (row bytes : List C) (m : Marks) (o : ℕ) → AreMarked b row m → o + length bytes ≤ length row → AreMarked b (row_written row o bytes) (record m { count = min m.count o; from = max m.from (o + length bytes) })
written-marked b row bytes m o h room =
    let k = max m.from (o + length bytes) in
    record {
      first = written-starts row bytes o (min m.count o) b (starts-less row (min m.count o) m.count b h.first (min-le_left m.count o)) (min-le_right m.count o) room;
      behind =
          ap (take (m.to - k)) (written-behind row bytes o k (le-max_right m.from (o + length bytes)) room)
          ∙ behind-less row m.from k m.to b h.behind (le-max_left m.from (o + length bytes));
    }

-- after a write, as a memory knows it
pub marks-written : {C : Type 0} (b : C) (rows rows' : List (List C)) (at : Place) (bytes : List C) (end : ℕ) (m left : Marks) → AreForgotten b rows m → HasRange rows at (length bytes) → end ≡ at.offset + length bytes → left ≡ marks_left m at end → rows' ≡ written_at rows at bytes
    → AreForgotten b rows' left
marks-written {C} b rows rows' at bytes end m left h room e l w =
    subst (λ rows. AreForgotten b rows left) (sym w) (subst (λ m. AreForgotten b (written_at rows at bytes) m) (sym (l ∙ ap (marks_left m at) e)) (by (eqb_tells at.region m.region)))
  where
    row : List C
    row = row_written (get_or rows at.region []) at.offset bytes

    in_region : Marks
    in_region = record m { count = min m.count at.offset; from = max m.from (at.offset + length bytes) }

    same : at.region ≡ m.region → AreForgotten b (written_at rows at bytes) in_region
    same r =
        subst (λ k. AreMarked b (get_or (written_at rows at bytes) k []) in_region) r
        (subst (λ row. AreMarked b row in_region) (sym (get_or-set_same rows at.region row [] room.region))
        (written-marked b (get_or rows at.region []) bytes m at.offset (subst (λ k. AreMarked b (get_or rows k []) m) (sym r) h) room.bytes))

    other : at.region ≢ m.region → AreForgotten b (written_at rows at bytes) m
    other r = subst (λ row. AreMarked b row m) (sym (get_or-set_other rows at.region m.region row [] (λ k. r (sym k)))) h

    by : ((eqb at.region m.region ≡ true) × (at.region ≡ m.region)) ⊎ ((eqb at.region m.region ≡ false) × (at.region ≢ m.region)) → AreForgotten b (written_at rows at bytes) (marks_left m at (at.offset + length bytes))
    by (inl k) = subst (λ t. AreForgotten b (written_at rows at bytes) (if t then in_region else m)) (sym k.0) (same k.1)
    by (inr k) = subst (λ t. AreForgotten b (written_at rows at bytes) (if t then in_region else m)) (sym k.0) (other k.1)

-- more rows change nothing there
pub marks-grow : {C : Type 0} (b : C) (rows more : List (List C)) (m : Marks) → AreForgotten b rows m → AreForgotten b (rows ++ more) m
marks-grow {C} b rows more m h = record { first = kept m.count 0 h.first; behind = kept (m.to - m.from) m.from h.behind }
  where
    inside : (rows : List (List C)) (region n from : ℕ) → take (suc n) (drop from (get_or rows region [])) ≡ replicate (suc n) b → region < length rows
    inside [] region n zero e = cc
    inside [] region n (suc from) e = cc
    inside (row ∷ rows) zero n from e = omega arith
    inside (row ∷ rows) (suc region) n from e = let h = inside rows region n from e in omega (arith, h)

    kept : (n from : ℕ) → take n (drop from (get_or rows m.region [])) ≡ replicate n b → take n (drop from (get_or (rows ++ more) m.region [])) ≡ replicate n b
    kept zero from e = refl
    kept (suc n) from e = ap (λ row. take (suc n) (drop from row)) (get_or_append_left rows more [] m.region (inside rows m.region n from e)) ∙ e

-- the marks in a region, as a memory finds them
pub marks-within : {C : Type 0} (b : C) (rows : List (List C)) (m found : Marks) (region : ℕ) → AreForgotten b rows m → found ≡ (if eqb region m.region then m else first_marks region 0) → AreMarked b (get_or rows region []) found
marks-within {C} b rows m found region h e = subst (λ f. AreMarked b (get_or rows region []) f) (sym e) (by (eqb_tells region m.region))
  where
    of : (t : Bool) → Marks
    of t = if t then m else first_marks region 0

    by : ((eqb region m.region ≡ true) × (region ≡ m.region)) ⊎ ((eqb region m.region ≡ false) × (region ≢ m.region)) → AreMarked b (get_or rows region []) (of (eqb region m.region))
    by (inl k) = subst (λ t. AreMarked b (get_or rows region []) (of t)) (sym k.0) (subst (λ r. AreMarked b (get_or rows r []) m) (sym k.1) h)
    by (inr k) = subst (λ t. AreMarked b (get_or rows region []) (of t)) (sym k.0) (record { first = refl; behind = refl })

-- a row whose first bytes are known, among the rows
pub marks-first : {C : Type 0} (b : C) (rows rows' : List (List C)) (region known : ℕ) (row : List C) → region < length rows → rows' ≡ set rows region row → take known row ≡ replicate known b → AreForgotten b rows' (first_marks region known)
marks-first b rows rows' region known row below w e =
    subst (λ rows. AreForgotten b rows (first_marks region known)) (sym w)
    (subst (λ row. AreMarked b row (first_marks region known)) (sym (get_or-set_same rows region row [] below))
    (record { first = e; behind = subst (λ n. take n row ≡ replicate n b) (let z : known ≡ known - 0 = omega arith in z) e }))
