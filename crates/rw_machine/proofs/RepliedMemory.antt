-- Memory after an answer, whose second may also write where the first forgets.
use Rattle.std.proofs.Common.{◌≡◌, ◌≤◌, ℕ, zero, suc, ◌+◌, take, drop, min, map, length, length-append, length-drop, length-take, List, [], ◌∷◌, ◌++◌, Option, Some, None, Result, Ok, Err, Bool, true, false, cond, replicate, refl, sym, ap, subst, ◌∙◌, arith}
use Rattle.std.specs.Prelude.{slice_index_or, slice_set, All, not, nat_eq, nat_le, negsuc}
use Rattle.std.proofs.lemmas.Bool.{eqb-true, leb-true, and_parts}
use Rattle.std.proofs.lemmas.List.Elements.{All-head, All-tail}
use Rattle.rw_base.specs.declared.width.Width.TheVariants.{B}
use Rattle.x86_insn.specs.declared.kinds.Reg.TheVariants.{Rsp}
use Rattle.rw_domain.specs.declared.cause.Cause.{Cause}
use Rattle.rw_domain.specs.declared.place.Place.{Place}
use Rattle.rw_domain.specs.declared.place.Region.{Region}
use Rattle.rw_domain.specs.declared.place.Access.TheVariants.{Read}
use Rattle.rw_domain.specs.Operators.{Operators}
use Rattle.rw_domain.specs.Stands.{Both, OptionStands, OperatorsStand}
use Rattle.rw_machine.specs.Running.{row_written, written_at, undefined_byte, register}
use Rattle.rw_machine.specs.Events.{Reply}
use Rattle.rw_machine.specs.Step.{row_forgotten, all_written, filling, fresh_row, memory_after_reply, frame_forgotten, from_stack}
use Rattle.rw_machine.specs.Stands.{Spare, rows_without, RowsStand, Misses, PlacesMiss, Room, is_under, writes_outside, WriteStands, ReplyStands, room_up_to, frame_room}
use Rattle.rw_machine.proofs.Lists.{get_both, same_length, join_both, replicate_both, set_first}
use Rattle.rw_machine.proofs.Spare.{written-stands, append-stands, append-without, written-without, kept-written, kept-append}

-- ---- what is written grows no shorter

row_grows : {C : Type 0} (row : List C) (offset : ℕ) (bytes : List C) → length row ≤ length (row_written row offset bytes)
row_grows row offset bytes =
    let whole = length-append (take offset row) (bytes ++ drop (offset + length bytes) row) in
    let back = length-append bytes (drop (offset + length bytes) row) in
    let front = length-take offset row in
    let rest = length-drop (offset + length bytes) row in
    omega (arith, whole, back, front, rest)

same : (n : ℕ) → n ≤ n
same n = omega arith

set_grows : {C : Type 0} (memory : List (List C)) (r i : ℕ) (row : List C) → length (slice_index_or memory r []) ≤ length row → length (slice_index_or memory i []) ≤ length (slice_index_or (slice_set memory r row) i [])
set_grows [] r i row h = same 0
set_grows (x ∷ xs) zero zero row h = h
set_grows (x ∷ xs) zero (suc i) row h = same (length (slice_index_or xs i []))
set_grows (x ∷ xs) (suc r) zero row h = same (length x)
set_grows (x ∷ xs) (suc r) (suc i) row h = set_grows xs r i row h

written_grows : {C : Type 0} (memory : List (List C)) (p : Place) (bytes : List C) (i : ℕ) → length (slice_index_or memory i []) ≤ length (slice_index_or (written_at memory p bytes) i [])
written_grows memory p bytes i =
    set_grows memory p.region i (row_written (slice_index_or memory p.region []) p.offset bytes) (row_grows (slice_index_or memory p.region []) p.offset bytes)

-- ---- a row whose first bytes are replaced by one byte

module _ {C : Type 0} (c : C) where
  abbrev pub blank : ℕ → List C → List C
  blank k row = map (λ _. c) (take k row) ++ drop k row

  blank-nil : (k : ℕ) → blank k [] ≡ []
  blank-nil zero = refl
  blank-nil (suc k) = refl

  blank-twice : (k : ℕ) (row : List C) → blank k (blank k row) ≡ blank k row
  blank-twice zero row = refl
  blank-twice (suc k) [] = refl
  blank-twice (suc k) (x ∷ row) = ap (λ l. c ∷ l) (blank-twice k row)

  -- what is written doesn't depend on bytes that are replaced
  blank-over : (o : ℕ) (bytes : List C) (m k : ℕ) (row : List C) → m ≡ o + length bytes → blank k (take o (blank k row) ++ (bytes ++ drop m (blank k row))) ≡ blank k (take o row ++ (bytes ++ drop m row))
  blank-over zero [] zero k row e = blank-twice k row
  blank-over zero [] (suc m) k row e = absurd (omega (arith, e))
  blank-over zero (b ∷ bytes) zero k row e = absurd (omega (arith, e))
  blank-over zero (b ∷ bytes) (suc m) zero row e = refl
  blank-over zero (b ∷ bytes) (suc m) (suc k) [] e = refl
  blank-over zero (b ∷ bytes) (suc m) (suc k) (x ∷ row) e = ap (λ l. c ∷ l) (blank-over zero bytes m k row (omega (arith, e)))
  blank-over (suc o) bytes zero k row e = absurd (omega (arith, e))
  blank-over (suc o) bytes (suc m) zero row e = refl
  blank-over (suc o) bytes (suc m) (suc k) [] e = refl
  blank-over (suc o) bytes (suc m) (suc k) (x ∷ row) e = ap (λ l. c ∷ l) (blank-over o bytes m k row (omega (arith, e)))

  -- bytes that are written and replaced
  blank-under : (o : ℕ) (bytes : List C) (m k : ℕ) (row : List C) → m ≡ o + length bytes → m ≤ k → m ≤ length row → blank k (take o row ++ (bytes ++ drop m row)) ≡ blank k row
  blank-under zero [] zero k row e below inside = refl
  blank-under zero [] (suc m) k row e below inside = absurd (omega (arith, e))
  blank-under zero (b ∷ bytes) zero k row e below inside = absurd (omega (arith, e))
  blank-under zero (b ∷ bytes) (suc m) zero row e below inside = absurd (omega (arith, below))
  blank-under zero (b ∷ bytes) (suc m) (suc k) [] e below inside = absurd (omega (arith, inside))
  blank-under zero (b ∷ bytes) (suc m) (suc k) (x ∷ row) e below inside =
      ap (λ l. c ∷ l) (blank-under zero bytes m k row (omega (arith, e)) (omega (arith, below)) (omega (arith, inside)))
  blank-under (suc o) bytes zero k row e below inside = absurd (omega (arith, e))
  blank-under (suc o) bytes (suc m) zero row e below inside = absurd (omega (arith, below))
  blank-under (suc o) bytes (suc m) (suc k) [] e below inside = absurd (omega (arith, inside))
  blank-under (suc o) bytes (suc m) (suc k) (x ∷ row) e below inside =
      ap (λ l. c ∷ l) (blank-under o bytes m k row (omega (arith, e)) (omega (arith, below)) (omega (arith, inside)))

  -- the same in the row of a region
  abbrev pub blanked : ℕ → ℕ → List (List C) → List (List C)
  blanked k r rows = slice_set rows r (blank k (slice_index_or rows r []))

  blanked-twice : (k r : ℕ) (rows : List (List C)) → blanked k r (blanked k r rows) ≡ blanked k r rows
  blanked-twice k r [] = refl
  blanked-twice k zero (row ∷ rows) = ap (λ l. l ∷ rows) (blank-twice k row)
  blanked-twice k (suc r) (row ∷ rows) = ap (λ l. row ∷ l) (blanked-twice k r rows)

  abbrev put : ℕ → ℕ → List C → List (List C) → List (List C)
  put r o bytes rows = slice_set rows r (row_written (slice_index_or rows r []) o bytes)

  put-over : (k r i o : ℕ) (bytes : List C) (rows : List (List C)) → blanked k r (put i o bytes (blanked k r rows)) ≡ blanked k r (put i o bytes rows)
  put-over k r i o bytes [] = refl
  put-over k zero zero o bytes (row ∷ rows) = ap (λ l. l ∷ rows) (blank-over o bytes (o + length bytes) k row refl)
  put-over k zero (suc i) o bytes (row ∷ rows) = ap (λ l. l ∷ put i o bytes rows) (blank-twice k row)
  put-over k (suc r) zero o bytes (row ∷ rows) = ap (λ l. row_written row o bytes ∷ l) (blanked-twice k r rows)
  put-over k (suc r) (suc i) o bytes (row ∷ rows) = ap (λ l. row ∷ l) (put-over k r i o bytes rows)

  put-under : (k r o : ℕ) (bytes : List C) (rows : List (List C)) → o + length bytes ≤ k → o + length bytes ≤ length (slice_index_or rows r []) → blanked k r (put r o bytes rows) ≡ blanked k r rows
  put-under k r o bytes [] below inside = refl
  put-under k zero o bytes (row ∷ rows) below inside = ap (λ l. l ∷ rows) (blank-under o bytes (o + length bytes) k row refl below inside)
  put-under k (suc r) o bytes (row ∷ rows) below inside = ap (λ l. row ∷ l) (put-under k r o bytes rows below inside)

-- a test of two parts
under-parts : {C : Type 0} (r n : ℕ) (w : Place × List C) → is_under (Some (r, n)) w ≡ true → (w.0.region ≡ r) × (w.0.offset + length w.1 ≤ n)
under-parts r n w e =
    let parts = and_parts (nat_eq w.0.region r) (nat_le (w.0.offset + length w.1) n) e in
    (eqb-true w.0.region r parts.0, leb-true (w.0.offset + length w.1) n parts.1)

-- nothing lies under no room
pub outside-none : {C : Type 0} (ws : List (Place × List C)) → writes_outside None ws ≡ ws
outside-none [] = refl
outside-none (w ∷ ws) = ap (λ l. w ∷ l) (outside-none ws)

module _ {V U E F : Type 0} (R : V → U → Type 0) (Byte : E → F → Type 0) (s : Operators V E) (n : Operators U F) (laws : OperatorsStand R Byte s n) (spare : Spare F) where
  one-stands : (u : Place × List E) (v : Place × List F) → WriteStands Byte spare u v → (x : List (List E)) (y : List (List F)) → RowsStand Byte spare x y → RowsStand Byte spare (written_at x u.0 u.1) (written_at y v.0 v.1)
  one-stands u v h x y rows =
      subst (λ z. RowsStand Byte spare (written_at x u.0 u.1) (written_at y z v.1)) h.place
      (written-stands Byte spare x y rows u.0 u.1 v.1 h.bytes (subst (Misses spare u.0) (same_length Byte u.1 v.1 h.bytes) h.misses))

  all_written-stands : (us : List (Place × List E)) (vs : List (Place × List F)) → Both (WriteStands Byte spare) us vs → (x : List (List E)) (y : List (List F)) → RowsStand Byte spare x y → RowsStand Byte spare (all_written s us x) (all_written n vs y)
  all_written-stands [] [] h x y rows = rows
  all_written-stands [] (v ∷ vs) h x y rows = absurd h
  all_written-stands (u ∷ us) [] h x y rows = absurd h
  all_written-stands (u ∷ us) (v ∷ vs) h x y rows = all_written-stands us vs h.1 _ _ (one-stands u v h.0 x y rows)

  filling-stands : (t : Bool) → Byte (cond t (s.split (s.num B 0) 0) (s.split (s.undef B) 0)) (cond t (n.split (n.num B 0) 0) (n.split (n.undef B) 0))
  filling-stands true = laws.split _ _ 0 (laws.num B 0)
  filling-stands false = laws.split _ _ 0 (laws.undef B)

  fresh-stands : (f : Option (Region × ℕ)) (g : Option (Region × ℕ)) → OptionStands {A = Region × ℕ} {T = Region × ℕ} (λ u v. u.0 ≡ v.0) f g → Both (Both Byte) (fresh_row s f) (fresh_row n g)
  fresh-stands None None h = tt
  fresh-stands None (Some g) h = absurd h
  fresh-stands (Some f) None h = absurd h
  fresh-stands (Some f) (Some g) h =
      subst (λ r. Both (Both Byte) (fresh_row s (Some f)) (replicate r.size (filling n r) ∷ [])) h
      (replicate_both Byte f.0.size _ _ (filling-stands f.0.zero), tt)

  -- ---- forgotten bytes

  abbrev forgotten : ℕ → ℕ → List (List E) → List (List E)
  forgotten k r x = blanked (undefined_byte s) k r x

  blank-stands : s.forgets ≡ true → (k : ℕ) (us : List E) (vs : List F) → Both Byte us vs → Both Byte (blank (undefined_byte s) k us) vs
  blank-stands f zero us vs h = h
  blank-stands f (suc k) [] [] h = tt
  blank-stands f (suc k) [] (v ∷ vs) h = absurd h
  blank-stands f (suc k) (u ∷ us) [] h = absurd h
  blank-stands f (suc k) (u ∷ us) (v ∷ vs) h = (laws.forgets f u v h.0, blank-stands f k us vs h.1)

  blanked-both : s.forgets ≡ true → (k r : ℕ) (x : List (List E)) (y : List (List F)) → Both (Both Byte) x y → Both (Both Byte) (forgotten k r x) y
  blanked-both f k r x y rows = set_first (Both Byte) _ [] [] x y r (blank-stands f k _ _ (get_both (Both Byte) [] [] tt x y r rows)) rows

  blanked-stands : s.forgets ≡ true → (k r : ℕ) (x : List (List E)) (y : List (List F)) → RowsStand Byte spare x y → RowsStand Byte spare (forgotten k r x) y
  blanked-stands f k r x y rows = record { bytes = blanked-both f k r x (rows_without spare y) rows.bytes; kept = rows.kept }

  pub forgotten-row-stands : s.forgets ≡ true → (x : List (List E)) (y : List (List F)) → RowsStand Byte spare x y → (p : Result Place Cause) → RowsStand Byte spare (row_forgotten s x p) y
  forgotten-row-stands f x y rows (Err c) = rows
  forgotten-row-stands f x y rows (Ok p) = by_region (nat_eq p.region s.stack)
    where
      by_region : (t : Bool) → RowsStand Byte spare (cond t (forgotten (p.offset + 1) p.region x) x) y
      by_region true = blanked-stands f (p.offset + 1) p.region x y rows
      by_region false = rows

  -- more rows behind
  append-both : s.forgets ≡ true → (k r : ℕ) (x us : List (List E)) (y vs : List (List F)) → Both (Both Byte) (forgotten k r x) y → Both (Both Byte) us vs → Both (Both Byte) (forgotten k r (x ++ us)) (y ++ vs)
  append-both f k r [] us [] vs h more = blanked-both f k r us vs more
  append-both f k r [] us (y ∷ ys) vs h more = absurd h
  append-both f k zero (x ∷ xs) us [] vs h more = absurd h
  append-both f k (suc r) (x ∷ xs) us [] vs h more = absurd h
  append-both f k zero (x ∷ xs) us (y ∷ ys) vs h more = (h.0, join_both (Both Byte) xs ys us vs h.1 more)
  append-both f k (suc r) (x ∷ xs) us (y ∷ ys) vs h more = (h.0, append-both f k r xs us ys vs h.1 more)

  -- ---- writes of the two machines, where the first forgets a room at last

  -- a row of which the second writes what the first forgets
  row-rewritten : s.forgets ≡ true → (o : ℕ) (bytes : List F) (m k : ℕ) (us : List E) (vs : List F) → m ≡ o + length bytes → Both Byte (blank (undefined_byte s) k us) vs → m ≤ k → m ≤ length us → All (λ b. (a : E) × Byte a b) bytes
      → Both Byte (blank (undefined_byte s) k us) (take o vs ++ (bytes ++ drop m vs))
  row-rewritten f zero [] zero k us vs e h below inside each = h
  row-rewritten f zero [] (suc m) k us vs e h below inside each = absurd (omega (arith, e))
  row-rewritten f zero (b ∷ bytes) zero k us vs e h below inside each = absurd (omega (arith, e))
  row-rewritten f zero (b ∷ bytes) (suc m) zero us vs e h below inside each = absurd (omega (arith, below))
  row-rewritten f zero (b ∷ bytes) (suc m) (suc k) [] vs e h below inside each = absurd (omega (arith, inside))
  row-rewritten f zero (b ∷ bytes) (suc m) (suc k) (u ∷ us) [] e h below inside each = absurd h
  row-rewritten f zero (b ∷ bytes) (suc m) (suc k) (u ∷ us) (v ∷ vs) e h below inside each =
      let first = All-head (λ b. (a : E) × Byte a b) b bytes each in (
        laws.forgets f first.0 b first.1,
        row-rewritten f zero bytes m k us vs (omega (arith, e)) h.1 (omega (arith, below)) (omega (arith, inside)) (All-tail (λ b. (a : E) × Byte a b) b bytes each),
      )
  row-rewritten f (suc o) bytes zero k us vs e h below inside each = absurd (omega (arith, e))
  row-rewritten f (suc o) bytes (suc m) zero us vs e h below inside each = absurd (omega (arith, below))
  row-rewritten f (suc o) bytes (suc m) (suc k) [] vs e h below inside each = absurd (omega (arith, inside))
  row-rewritten f (suc o) bytes (suc m) (suc k) (u ∷ us) [] e h below inside each = absurd h
  row-rewritten f (suc o) bytes (suc m) (suc k) (u ∷ us) (v ∷ vs) e h below inside each =
      (h.0, row-rewritten f o bytes m k us vs (omega (arith, e)) h.1 (omega (arith, below)) (omega (arith, inside)) each)

  rewritten : s.forgets ≡ true → (r o : ℕ) (bytes : List F) (k : ℕ) (x : List (List E)) (y : List (List F)) → Both (Both Byte) (forgotten k r x) y
      → o + length bytes ≤ k → o + length bytes ≤ length (slice_index_or x r []) → All (λ b. (a : E) × Byte a b) bytes
      → Both (Both Byte) (forgotten k r x) (slice_set y r (row_written (slice_index_or y r []) o bytes))
  rewritten f r o bytes k [] [] h below inside each = h
  rewritten f r o bytes k [] (y ∷ ys) h below inside each = absurd h
  rewritten f zero o bytes k (x ∷ xs) [] h below inside each = absurd h
  rewritten f (suc r) o bytes k (x ∷ xs) [] h below inside each = absurd h
  rewritten f zero o bytes k (x ∷ xs) (y ∷ ys) h below inside each = (row-rewritten f o bytes (o + length bytes) k x y refl h.0 below inside each, h.1)
  rewritten f (suc r) o bytes k (x ∷ xs) (y ∷ ys) h below inside each = (h.0, rewritten f r o bytes k xs ys h.1 below inside each)

  module _ (forgets : s.forgets ≡ true) (p : Place) (size : ℕ) (low : size ≤ p.offset + 1) (miss : Misses spare p 1) where
    abbrev room : Room
    room = Some (p.region, size)

    -- the first machine's rows when it has forgotten
    abbrev at-last : List (List E) → List (List E)
    at-last x = forgotten (p.offset + 1) p.region x

    -- a range in the room misses the spare region
    room-misses : (sp : Spare F) → Misses sp p 1 → (q : Place) (len : ℕ) → q.region ≡ p.region → Misses sp q len
    room-misses None never q len e = tt
    room-misses (Some sp) never q len e = λ there. (let none = never (sym e ∙ there) in absurd (omega (arith, none)))

    -- the second writes in the room
    more-written : (v : Place × List F) (x : List (List E)) (y : List (List F)) → RowsStand Byte spare (at-last x) y → size ≤ length (slice_index_or x p.region [])
        → is_under room v ≡ true → All (λ b. (a : E) × Byte a b) v.1 → RowsStand Byte spare (at-last x) (written_at y v.0 v.1)
    more-written v x y rows inside under each =
        let parts = under-parts p.region size v under in
        let below = parts.1 in
        let missed = room-misses spare miss v.0 (length v.1) parts.0 in
        record {
          bytes = subst (Both (Both Byte) (at-last x)) (sym (written-without spare y v.0 v.1 missed))
              (subst (λ r. Both (Both Byte) (at-last x) (slice_set (rows_without spare y) r (row_written (slice_index_or (rows_without spare y) r []) v.0.offset v.1))) (sym parts.0)
              (rewritten forgets p.region v.0.offset v.1 (p.offset + 1) x (rows_without spare y) rows.bytes (omega (arith, below, low)) (omega (arith, below, inside)) each));
          kept = kept-written spare y v.0 v.1 missed rows.kept;
        }

    -- the first writes in the room
    own-written : (u : Place × List E) (x : List (List E)) → size ≤ length (slice_index_or x p.region []) → is_under room u ≡ true → at-last (written_at x u.0 u.1) ≡ at-last x
    own-written u x inside under =
        let parts = under-parts p.region size u under in
        let below = parts.1 in
        ap (λ r. at-last (slice_set x r (row_written (slice_index_or x r []) u.0.offset u.1))) parts.0
        ∙ put-under (undefined_byte s) (p.offset + 1) p.region u.0.offset u.1 x (omega (arith, below, low)) (omega (arith, below, inside))

    -- both write
    both-written : (u : Place × List E) (v : Place × List F) → WriteStands Byte spare u v → (x : List (List E)) (y : List (List F)) → RowsStand Byte spare (at-last x) y → RowsStand Byte spare (at-last (written_at x u.0 u.1)) (written_at y v.0 v.1)
    both-written u v h x y rows =
        subst (λ z. RowsStand Byte spare z (written_at y v.0 v.1)) (put-over (undefined_byte s) (p.offset + 1) p.region u.0.region u.0.offset u.1 x)
        (blanked-stands forgets (p.offset + 1) p.region _ _ (one-stands u v h (at-last x) y rows))

    abbrev Known : Place × List F → Type 0
    Known v = is_under room v ≡ true → All (λ b. (a : E) × Byte a b) v.1

    -- all writes: the first's are us, and others that are outside the room
    abbrev Written : List (Place × List E) → List (Place × List F) → List (List E) → List (List F) → Type 0
    Written us vs x y = RowsStand Byte spare (at-last x) y → size ≤ length (slice_index_or x p.region []) → All Known vs → RowsStand Byte spare (at-last (all_written s us x)) (all_written n vs y)

    grown : (u : Place × List E) (x : List (List E)) → size ≤ length (slice_index_or x p.region []) → size ≤ length (slice_index_or (written_at x u.0 u.1) p.region [])
    grown u x inside = let more = written_grows x u.0 u.1 p.region in omega (arith, inside, more)

    rest-written : (vs : List (Place × List F)) (x : List (List E)) (y : List (List F)) → Both (WriteStands Byte spare) [] (writes_outside room vs) → Written [] vs x y
    rest-written [] x y h rows inside each = rows
    rest-written (v ∷ vs) x y h rows inside each = by_test (λ y. rest-written vs x y) (is_under room v) refl h
      where
        by_test : ((y : List (List F)) → Both (WriteStands Byte spare) [] (writes_outside room vs) → Written [] vs x y) → (t : Bool) → is_under room v ≡ t → Both (WriteStands Byte spare) [] (cond (not t) (v ∷ writes_outside room vs) (writes_outside room vs))
            → RowsStand Byte spare (at-last x) (all_written n (v ∷ vs) y)
        by_test others true e h = others _ h (more-written v x y rows inside e (All-head Known v vs each e)) inside (All-tail Known v vs each)
        by_test others false e h = absurd h

    -- the first's next write is outside the room
    next-written : (u : Place × List E) (us : List (Place × List E)) → ((vs : List (Place × List F)) (x : List (List E)) (y : List (List F)) → Both (WriteStands Byte spare) (writes_outside room us) (writes_outside room vs) → Written us vs x y)
        → (vs : List (Place × List F)) (x : List (List E)) (y : List (List F)) → Both (WriteStands Byte spare) (u ∷ writes_outside room us) (writes_outside room vs) → Written (u ∷ us) vs x y
    next-written u us others [] x y h rows inside each = absurd h
    next-written u us others (v ∷ vs) x y h rows inside each = by_test (λ y. next-written u us others vs x y) (is_under room v) refl h
      where
        by_test : ((y : List (List F)) → Both (WriteStands Byte spare) (u ∷ writes_outside room us) (writes_outside room vs) → Written (u ∷ us) vs x y) → (t : Bool) → is_under room v ≡ t
            → Both (WriteStands Byte spare) (u ∷ writes_outside room us) (cond (not t) (v ∷ writes_outside room vs) (writes_outside room vs)) → RowsStand Byte spare (at-last (all_written s (u ∷ us) x)) (all_written n (v ∷ vs) y)
        by_test again true e h = again _ h (more-written v x y rows inside e (All-head Known v vs each e)) inside (All-tail Known v vs each)
        by_test again false e h = others vs _ _ h.1 (both-written u v h.0 x y rows) (grown u x inside) (All-tail Known v vs each)

    writes-stand : (us : List (Place × List E)) (vs : List (Place × List F)) (x : List (List E)) (y : List (List F)) → Both (WriteStands Byte spare) (writes_outside room us) (writes_outside room vs) → Written us vs x y
    writes-stand [] vs x y h rows inside each = rest-written vs x y h rows inside each
    writes-stand (u ∷ us) vs x y h rows inside each = by_test (λ vs x y. writes-stand us vs x y) (is_under room u) refl h
      where
        by_test : ((vs : List (Place × List F)) (x : List (List E)) (y : List (List F)) → Both (WriteStands Byte spare) (writes_outside room us) (writes_outside room vs) → Written us vs x y) → (t : Bool) → is_under room u ≡ t
            → Both (WriteStands Byte spare) (cond (not t) (u ∷ writes_outside room us) (writes_outside room us)) (writes_outside room vs) → RowsStand Byte spare (at-last (all_written s (u ∷ us) x)) (all_written n vs y)
        by_test others true e h = others vs _ y h (subst (λ z. RowsStand Byte spare z y) (sym (own-written u x inside e)) rows) (grown u x inside) each
        by_test others false e h = next-written u us others vs x y h rows inside each

  -- ---- the memory of an answer

  pub answered-memory-stands : (x : List (List E)) (y : List (List F)) → RowsStand Byte spare x y → (r : Reply V E) (q : Reply U F) → ReplyStands R Byte spare None r q → RowsStand Byte spare (memory_after_reply s r x) (memory_after_reply n q y)
  answered-memory-stands x y rows r q k =
      append-stands Byte spare _ _ _ _
      (all_written-stands r.writes q.writes
      (subst (λ vs. Both (WriteStands Byte spare) r.writes vs) (outside-none q.writes) (subst (λ us. Both (WriteStands Byte spare) us (writes_outside None q.writes)) (outside-none r.writes) k.writes))
      x y rows)
      (fresh-stands r.fresh q.fresh k.fresh)

  -- a place in the stack, and any other
  frame-in : s.forgets ≡ true → (t : Bool) (x : List (List E)) (y : List (List F)) → RowsStand Byte spare x y → (r : Reply V E) (q : Reply U F) (p : Place) → Misses spare p 1
      → ReplyStands R Byte spare (cond t (Some (p.region, min (p.offset + 1) (length (slice_index_or x p.region [])))) None) r q
      → RowsStand Byte spare (cond t (forgotten (p.offset + 1) p.region (memory_after_reply s r x)) (memory_after_reply s r x)) (memory_after_reply n q y)
  frame-in e false x y rows r q p miss k = answered-memory-stands x y rows r q k
  frame-in e true x y rows r q p miss k =
      let size = min (p.offset + 1) (length (slice_index_or x p.region [])) in
      let written = writes-stand e p size (omega arith) miss r.writes q.writes x y k.writes (blanked-stands e (p.offset + 1) p.region x y rows) (omega arith) k.under in
      record {
        bytes = subst (Both (Both Byte) (forgotten (p.offset + 1) p.region (memory_after_reply s r x))) (sym (append-without spare (all_written n q.writes y) (fresh_row n q.fresh) written.kept))
            (append-both e (p.offset + 1) p.region (all_written s r.writes x) (fresh_row s r.fresh) (rows_without spare (all_written n q.writes y)) (fresh_row n q.fresh) written.bytes (fresh-stands r.fresh q.fresh k.fresh));
        kept = kept-append spare (all_written n q.writes y) (fresh_row n q.fresh) written.kept;
      }

  frame-by : (t : Bool) → s.forgets ≡ t → (x : List (List E)) (y : List (List F)) → RowsStand Byte spare x y → (r : Reply V E) (q : Reply U F) (p : Result Place Cause) → ((u : Place) → p ≡ Ok u → Misses spare u 1)
      → ReplyStands R Byte spare (cond t (room_up_to s x p) None) r q
      → RowsStand Byte spare (cond t (row_forgotten s (memory_after_reply s r x) p) (memory_after_reply s r x)) (memory_after_reply n q y)
  frame-by false e x y rows r q p miss k = answered-memory-stands x y rows r q k
  frame-by true e x y rows r q (Err c) miss k = answered-memory-stands x y rows r q k
  frame-by true e x y rows r q (Ok p) miss k = frame-in e (nat_eq p.region s.stack) x y rows r q p (miss p refl) k

  pub frame-stands : PlacesMiss spare s → (a : List V) (b : List U) (x : List (List E)) (y : List (List F)) → RowsStand Byte spare x y → (r : Reply V E) (q : Reply U F) → ReplyStands R Byte spare (frame_room s a x) r q
      → RowsStand Byte spare (frame_forgotten s a (memory_after_reply s r x)) (frame_forgotten n b (memory_after_reply n q y))
  frame-stands miss a b x y rows r q k =
      subst (λ t. RowsStand Byte spare (frame_forgotten s a (memory_after_reply s r x)) (cond t (row_forgotten n (memory_after_reply n q y) (from_stack n b 0)) (memory_after_reply n q y))) (sym laws.keeps)
      (frame-by s.forgets refl x y rows r q (from_stack s a 0) (miss (s.sum (Some (register s a Rsp)) None (negsuc 0)) 1 Read) k)
