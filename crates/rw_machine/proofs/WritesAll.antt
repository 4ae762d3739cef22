-- Writes of an answer, one after another.
use Rattle.std.proofs.Common.{◌≡◌, ◌≤◌, ◌<◌, ℕ, suc, take, ◌+◌, List, [], ◌∷◌, ◌++◌, length, map, drop, set, get_or, Option, Some, None, refl, sym, ◌∙◌, ap, subst, arith}
use Rattle.std.proofs.lemmas.List.{get_or-map, length-map, drop_more, at_drop_all, set-append_left, get_or_append_left}
use Rattle.rw_base.specs.Width.{byte_count}
use Rattle.rw_domain.specs.declared.place.Place.{Place}
use Rattle.rw_domain.specs.Eight.{eight_of}
use Rattle.rw_domain.specs.Operators.{Operators}
use Rattle.rw_machine.specs.declared.answers.Store.{Store}
use Rattle.rw_machine.specs.Replying.{HaveRoom, stored_one, stored_rows, IsStorable, AreStorable, IsReached, forgotten_to}
use Rattle.rw_machine.specs.Running.{written_at, row_written, undefined_byte}
use Rattle.rw_machine.specs.Step.{all_written}
use Rattle.rw_machine.specs.Views.{HasRange}
use Rattle.rw_machine.proofs.After.{low-count}
use Rattle.rw_machine.proofs.RowLemmas.{range-along, range-grows, lengths-written}

pub room-at : {X C : Type 0} (f : X → Place × List C) (rows : List (List C)) (ws : List X) (i : ℕ) (w : X) → HaveRoom rows (map f ws) → i < length ws → w ≡ get_or ws i w → HasRange rows (f w).0 (length (f w).1)
room-at f rows ws i w h lt at =
    subst (λ x. HasRange rows x.0 (length x.1)) (get_or-map f ws i w (f w) lt ∙ ap f (sym at)) (h i (f w) (subst (λ n. i < n) (sym (length-map ws f)) lt))

pub writes-more : {V C X : Type 0} (ops : Operators V C) (f : X → Place × List C) (ws : List X) (i : ℕ) (w : X) (rows rows' : List (List C)) (bytes : List C) → i < length ws → w ≡ get_or ws i w → bytes ≡ (f w).1 → rows' ≡ written_at rows (f w).0 bytes
    → all_written ops (map f (drop (i + 1) ws)) rows' ≡ all_written ops (map f (drop i ws)) rows
writes-more ops f ws i w rows rows' bytes lt at eb e =
    sym (ap (λ l. all_written ops (map f l) rows) (drop_more ws i w lt)
    ∙ ap (λ x. all_written ops (map f (drop (i + 1) ws)) (written_at rows (f x).0 (f x).1)) (sym at)
    ∙ ap (all_written ops (map f (drop (i + 1) ws))) (sym (e ∙ ap (written_at rows (f w).0) eb)))

pub writes-done : {V C X : Type 0} (ops : Operators V C) (f : X → Place × List C) (ws : List X) (i : ℕ) (rows : List (List C)) → length ws ≤ i → rows ≡ all_written ops (map f (drop i ws)) rows
writes-done ops f ws i rows le = sym (at_drop_all (λ l. all_written ops (map f l) rows) ws i le)

-- a write leaves rows behind it as they are
written-before : {C : Type 0} (rows more : List (List C)) (p : Place) (bytes : List C) (n : ℕ) → HasRange rows p n → written_at (rows ++ more) p bytes ≡ written_at rows p bytes ++ more
written-before rows more p bytes n h =
    ap (λ row. set (rows ++ more) p.region (row_written row p.offset bytes)) (get_or_append_left rows more [] p.region h.region)
    ∙ set-append_left rows more p.region (row_written (get_or rows p.region []) p.offset bytes) h.region

one-lengths : {C : Type 0} (rows : List (List C)) (s : Store C) → IsStorable rows s → map length (stored_one s rows) ≡ map length rows
one-lengths rows s h =
    lengths-written rows s.place (take (byte_count s.width) (eight_of s.bytes)) (subst (λ n. HasRange rows s.place n) (sym (low-count s.width s.bytes)) h)

-- rows of the same lengths have room for the same words
storable-along : {C : Type 0} (rows rows' : List (List C)) (stores : List (Store C)) → map length rows' ≡ map length rows → AreStorable rows stores → AreStorable rows' stores
storable-along rows rows' [] e h = tt
storable-along rows rows' (s ∷ stores) e h = (range-along rows rows' s.place (byte_count s.width) e h.0, storable-along rows rows' stores e h.1)

-- after one word there is room for the others
pub storable-after : {C : Type 0} (rows : List (List C)) (s : Store C) (stores : List (Store C)) → IsStorable rows s → AreStorable rows stores → AreStorable (stored_one s rows) stores
storable-after rows s stores h k = storable-along rows (stored_one s rows) stores (one-lengths rows s h) k

pub stored-lengths : {C : Type 0} (rows : List (List C)) (stores : List (Store C)) → AreStorable rows stores → map length (stored_rows stores rows) ≡ map length rows
stored-lengths rows [] h = refl
stored-lengths rows (s ∷ stores) h = stored-lengths (stored_one s rows) stores (storable-after rows s stores h.0 h.1) ∙ one-lengths rows s h.0

pub stored-before : {C : Type 0} (rows more : List (List C)) (stores : List (Store C)) → AreStorable rows stores → stored_rows stores (rows ++ more) ≡ stored_rows stores rows ++ more
stored-before rows more [] h = refl
stored-before rows more (s ∷ stores) h =
    ap (stored_rows stores) (written-before rows more s.place (take (byte_count s.width) (eight_of s.bytes)) (byte_count s.width) h.0)
    ∙ stored-before (stored_one s rows) more stores (storable-after rows s stores h.0 h.1)

pub room-along : {C : Type 0} (rows rows' : List (List C)) (ws : List (Place × List C)) → map length rows' ≡ map length rows → HaveRoom rows ws → HaveRoom rows' ws
room-along rows rows' ws e h k d lt = range-along rows rows' (get_or ws k d).0 (length (get_or ws k d).1) e (h k d lt)

pub room-grows : {C : Type 0} (rows more : List (List C)) (ws : List (Place × List C)) → HaveRoom rows ws → HaveRoom (rows ++ more) ws
room-grows rows more ws h k d lt = range-grows rows more (get_or ws k d).0 (length (get_or ws k d).1) (h k d lt)

pub storable-grows : {C : Type 0} (rows more : List (List C)) (stores : List (Store C)) → AreStorable rows stores → AreStorable (rows ++ more) stores
storable-grows rows more [] h = tt
storable-grows rows more (s ∷ stores) h = (range-grows rows more s.place (byte_count s.width) h.0, storable-grows rows more stores h.1)

pub reached-along : {C : Type 0} (rows rows' : List (List C)) (place : Option Place) → map length rows' ≡ map length rows → IsReached rows place → IsReached rows' place
reached-along rows rows' None e h = tt
reached-along rows rows' (Some p) e h = range-along rows rows' p 1 e h

pub reached-grows : {C : Type 0} (rows more : List (List C)) (place : Option Place) → IsReached rows place → IsReached (rows ++ more) place
reached-grows rows more None h = tt
reached-grows rows more (Some p) h = range-grows rows more p 1 h

all-before : {V C : Type 0} (ops : Operators V C) (ws : List (Place × List C)) (rows more : List (List C)) → HaveRoom rows ws → all_written ops ws (rows ++ more) ≡ all_written ops ws rows ++ more
all-before ops [] rows more h = refl
all-before ops (w ∷ ws) rows more h =
    let first = h 0 w (omega arith) in
    ap (all_written ops ws) (written-before rows more w.0 w.1 (length w.1) first)
    ∙ all-before ops ws (written_at rows w.0 w.1) more
    (λ k d lt. range-along rows (written_at rows w.0 w.1) (get_or ws k d).0 (length (get_or ws k d).1) (lengths-written rows w.0 w.1 first) (h (suc k) d (omega (arith, lt))))

-- an answer's writes leave rows behind as they are
pub answered-before : {V C : Type 0} (ops : Operators V C) (store : List (Store C)) (ws : List (Place × List C)) (rows more : List (List C)) → AreStorable rows store → HaveRoom rows ws
    → all_written ops ws (stored_rows store (rows ++ more)) ≡ all_written ops ws (stored_rows store rows) ++ more
answered-before ops store ws rows more h room =
    ap (all_written ops ws) (stored-before rows more store h)
    ∙ all-before ops ws (stored_rows store rows) more (room-along rows (stored_rows store rows) ws (stored-lengths rows store h) room)

-- memory after an answer, step by step
pub committed : {V C : Type 0} (ops : Operators V C) (store : List (Store C)) (ws ws' : List (Place × List C)) (rows more rows1 rows2 rows3 rows4 : List (List C)) (frame : Option Place) (u : C)
    → u ≡ undefined_byte ops → ws' ≡ ws → rows1 ≡ rows ++ more → rows2 ≡ stored_rows store rows1 → rows3 ≡ all_written ops ws' rows2 → rows4 ≡ forgotten_to u frame rows3
    → AreStorable rows store → HaveRoom rows ws
    → rows4 ≡ forgotten_to (undefined_byte ops) frame (all_written ops ws (stored_rows store rows) ++ more)
committed ops store ws ws' rows more rows1 rows2 rows3 rows4 frame u eu ew e1 e2 e3 e4 h room =
    e4
    ∙ ap (forgotten_to u frame) (e3 ∙ ap (λ ws. all_written ops ws rows2) ew ∙ ap (all_written ops ws) (e2 ∙ ap (stored_rows store) e1) ∙ answered-before ops store ws rows more h room)
    ∙ ap (λ b. forgotten_to b frame (all_written ops ws (stored_rows store rows) ++ more)) eu
