-- Rows of memory stand beside a spare region, also after reads and writes that miss it.
use Rattle.std.proofs.Common.{◌≡◌, ◌≢◌, ℕ, zero, suc, take, drop, take-append-drop, add-zero, length, List, [], ◌∷◌, ◌++◌, Some, None, Result, Ok, Err, refl, sym, ap, subst, ◌∙◌, ⊎_elim, ◌≤◌, arith}
use Rattle.std.specs.Prelude.{slice_get, slice_index_or, slice_set}
use Rattle.std.proofs.lemmas.Bool.{cases_eq}
use Rattle.std.proofs.lemmas.List.{get_or-set_other, set_comm, set-append_left, set-get_or}
use Rattle.std.proofs.lemmas.Option.{slice_get_within}
use Rattle.rw_base.proofs.Lists.{slice_get-append_left}
use Rattle.rw_domain.specs.declared.cause.Cause.{Cause}
use Rattle.rw_domain.specs.declared.place.Place.{Place}
use Rattle.rw_domain.specs.Stands.{Both, ResultStands}
use Rattle.rw_machine.specs.Running.{range_at, row_written, written_at}
use Rattle.rw_machine.specs.Stands.{Spare, rows_without, Keeps, RowsStand, Misses}
use Rattle.rw_machine.proofs.Lists.{range_both, written_both, join_both}

-- ---- rows at a number

get-set-other : {A : Type 0} (l : List A) (i j : ℕ) (a : A) → i ≢ j → slice_get (slice_set l i a) j ≡ slice_get l j
get-set-other [] i j a h = refl
get-set-other (x ∷ l) zero zero a h = absurd (h refl)
get-set-other (x ∷ l) zero (suc j) a h = refl
get-set-other (x ∷ l) (suc i) zero a h = refl
get-set-other (x ∷ l) (suc i) (suc j) a h = get-set-other l i j a (λ e. h (ap suc e))

-- nothing is written
nothing-written : {C : Type 0} (row : List C) (o : ℕ) → row_written row o [] ≡ row
nothing-written row o = ap (λ m. take o row ++ drop m row) (add-zero o) ∙ take-append-drop o row

no-bytes : {C : Type 0} (bytes : List C) → length bytes ≡ 0 → bytes ≡ []
no-bytes [] e = refl
no-bytes (b ∷ bytes) e = cc

unwritten : {C : Type 0} (rows : List (List C)) (p : Place) (bytes : List C) → length bytes ≡ 0 → written_at rows p bytes ≡ rows
unwritten rows p bytes e =
    ap (λ bs. written_at rows p bs) (no-bytes bytes e) ∙ ap (slice_set rows p.region) (nothing-written (slice_index_or rows p.region []) p.offset) ∙ set-get_or rows p.region []

-- ---- reads and writes that miss the spare region

pub misses-less : {F : Type 0} (spare : Spare F) (p : Place) (len k : ℕ) → k ≤ len → Misses spare p len → Misses spare p k
misses-less None p len k le miss = tt
misses-less (Some s) p len k le miss = λ e. (let none = miss e in omega (arith, none, le))

pub range-without : {F : Type 0} (spare : Spare F) (rows : List (List F)) (p : Place) (len : ℕ) → Misses spare p len → range_at (rows_without spare rows) p len ≡ range_at rows p len
range-without None rows p len miss = refl
range-without (Some s) rows p len miss = ⊎_elim there apart (cases_eq p.region s.0)
  where
    there : p.region ≡ s.0 → range_at (slice_set rows s.0 []) p len ≡ range_at rows p len
    there e = rw (miss e) refl

    apart : p.region ≢ s.0 → range_at (slice_set rows s.0 []) p len ≡ range_at rows p len
    apart n = ap (λ row. take len (drop p.offset row)) (get_or-set_other rows s.0 p.region [] [] n)

pub written-without : {F : Type 0} (spare : Spare F) (rows : List (List F)) (p : Place) (bytes : List F) → Misses spare p (length bytes) → rows_without spare (written_at rows p bytes) ≡ written_at (rows_without spare rows) p bytes
written-without None rows p bytes miss = refl
written-without (Some s) rows p bytes miss = ⊎_elim there apart (cases_eq p.region s.0)
  where
    there : p.region ≡ s.0 → slice_set (written_at rows p bytes) s.0 [] ≡ written_at (slice_set rows s.0 []) p bytes
    there e = ap (λ r. slice_set r s.0 []) (unwritten rows p bytes (miss e)) ∙ sym (unwritten (slice_set rows s.0 []) p bytes (miss e))

    apart : p.region ≢ s.0 → slice_set (written_at rows p bytes) s.0 [] ≡ written_at (slice_set rows s.0 []) p bytes
    apart n =
        set_comm rows p.region s.0 (row_written (slice_index_or rows p.region []) p.offset bytes) [] n
        ∙ ap (λ row. slice_set (slice_set rows s.0 []) p.region (row_written row p.offset bytes)) (sym (get_or-set_other rows s.0 p.region [] [] n))

pub kept-written : {F : Type 0} (spare : Spare F) (rows : List (List F)) (p : Place) (bytes : List F) → Misses spare p (length bytes) → Keeps spare rows → Keeps spare (written_at rows p bytes)
kept-written None rows p bytes miss h = tt
kept-written (Some s) rows p bytes miss h = ⊎_elim there apart (cases_eq p.region s.0)
  where
    there : p.region ≡ s.0 → slice_get (written_at rows p bytes) s.0 ≡ Some s.1
    there e = ap (λ r. slice_get r s.0) (unwritten rows p bytes (miss e)) ∙ h

    apart : p.region ≢ s.0 → slice_get (written_at rows p bytes) s.0 ≡ Some s.1
    apart n = get-set-other rows p.region s.0 (row_written (slice_index_or rows p.region []) p.offset bytes) n ∙ h

-- more rows behind
pub append-without : {F : Type 0} (spare : Spare F) (rows more : List (List F)) → Keeps spare rows → rows_without spare (rows ++ more) ≡ rows_without spare rows ++ more
append-without None rows more h = refl
append-without (Some s) rows more h = set-append_left rows more s.0 [] (slice_get_within rows s.0 s.1 h)

pub kept-append : {F : Type 0} (spare : Spare F) (rows more : List (List F)) → Keeps spare rows → Keeps spare (rows ++ more)
kept-append None rows more h = tt
kept-append (Some s) rows more h = slice_get-append_left rows more s.0 s.1 h

module _ {E F : Type 0} (Byte : E → F → Type 0) (spare : Spare F) where
  pub range-stands : (x : List (List E)) (y : List (List F)) → RowsStand Byte spare x y → (p : Place) (len : ℕ) → Misses spare p len → Both Byte (range_at x p len) (range_at y p len)
  range-stands x y h p len miss = subst (Both Byte (range_at x p len)) (range-without spare y p len miss) (range_both Byte x (rows_without spare y) h.bytes p len)

  pub written-stands : (x : List (List E)) (y : List (List F)) → RowsStand Byte spare x y → (p : Place) (us : List E) (vs : List F) → Both Byte us vs → Misses spare p (length vs)
      → RowsStand Byte spare (written_at x p us) (written_at y p vs)
  written-stands x y h p us vs each miss = record {
    bytes = subst (Both (Both Byte) (written_at x p us)) (sym (written-without spare y p vs miss)) (written_both Byte x (rows_without spare y) h.bytes p us vs each);
    kept = kept-written spare y p vs miss h.kept;
  }

  pub append-stands : (x us : List (List E)) (y vs : List (List F)) → RowsStand Byte spare x y → Both (Both Byte) us vs → RowsStand Byte spare (x ++ us) (y ++ vs)
  append-stands x us y vs h more = record {
    bytes = subst (Both (Both Byte) (x ++ us)) (sym (append-without spare y vs h.kept)) (join_both (Both Byte) x (rows_without spare y) us vs h.bytes more);
    kept = kept-append spare y vs h.kept;
  }

-- ---- places

-- equal places whose ranges miss the spare region
abbrev pub Reached : {F : Type 0} → Spare F → ℕ → Place → Place → Type 0
Reached spare len p q = (p ≡ q) × Misses spare p len

pub places-reached : {F : Type 0} (spare : Spare F) (len : ℕ) (a b : Result Place Cause) → ResultStands (λ p q. p ≡ q) a b → ((p : Place) → a ≡ Ok p → Misses spare p len) → ResultStands (Reached spare len) a b
places-reached spare len (Err c) b h miss = tt
places-reached spare len (Ok p) (Err c) h miss = absurd h
places-reached spare len (Ok p) (Ok q) h miss = (h, miss p refl)
