-- Eight bytes that are written at one place and read at another, and sixteen registers one by one.
use Rattle.std.proofs.Common.{◌≡◌, ◌≢◌, ℕ, zero, suc, ◌+◌, ◌≤◌, List, [], ◌∷◌, ◌++◌, length, take, drop, refl, ap, ◌∙◌, arith}
use Rattle.std.specs.Prelude.{slice_index_or}
use Rattle.std.proofs.lemmas.List.{get_or-set_same, get_or-set_other}
use Rattle.rw_words.specs.Words.{eight_bytes}
use Rattle.rw_domain.specs.declared.place.Place.{Place}
use Rattle.rw_machine.specs.Running.{range_at, row_written, written_at}
use Rattle.rw_machine.specs.Views.{HasRange}

drop-front : {A : Type 0} (n : ℕ) (row rest : List A) → n ≤ length row → drop n (take n row ++ rest) ≡ rest
drop-front zero row rest h = refl
drop-front (suc n) [] rest h = absurd (omega (arith, h))
drop-front (suc n) (x ∷ row) rest h = drop-front n row rest (omega (arith, h))

pub range-other : {A : Type 0} (memory : List (List A)) (p q : Place) (bytes : List A) (n : ℕ) → q.region ≢ p.region → range_at (written_at memory p bytes) q n ≡ range_at memory q n
range-other memory p q bytes n h = ap (λ row. take n (drop q.offset row)) (get_or-set_other memory p.region q.region (row_written (slice_index_or memory p.region []) p.offset bytes) [] h)

pub range-same : (memory : List (List ℕ)) (p : Place) (n : ℕ) → HasRange memory p 8 → range_at (written_at memory p (eight_bytes n)) p 8 ≡ eight_bytes n
range-same memory p n has =
    let within = has.region in
    let long = has.bytes in
    let row : List ℕ = slice_index_or memory p.region [] in
    ap (λ r. take 8 (drop p.offset r)) (get_or-set_same memory p.region (row_written (slice_index_or memory p.region []) p.offset (eight_bytes n)) [] within)
    ∙ ap (take 8) (drop-front p.offset (slice_index_or memory p.region []) (eight_bytes n ++ drop (p.offset + length (eight_bytes n)) (slice_index_or memory p.region [])) (omega (arith, long)))

-- ---- sixteen words

pub record Sixteen {A : Type 0} (xs : List A) : Type 0 where
  pub r0 : A
  pub r1 : A
  pub r2 : A
  pub r3 : A
  pub r4 : A
  pub rest : List A
  pub is : xs ≡ r0 ∷ r1 ∷ r2 ∷ r3 ∷ r4 ∷ rest

pub sixteen : {A : Type 0} (xs : List A) → length xs ≡ 16 → Sixteen xs
sixteen [] h = absurd (omega (arith, h))
sixteen (a ∷ []) h = absurd (omega (arith, h))
sixteen (a ∷ b ∷ []) h = absurd (omega (arith, h))
sixteen (a ∷ b ∷ c ∷ []) h = absurd (omega (arith, h))
sixteen (a ∷ b ∷ c ∷ d ∷ []) h = absurd (omega (arith, h))
sixteen (a ∷ b ∷ c ∷ d ∷ e ∷ xs) h = record { r0 = a; r1 = b; r2 = c; r3 = d; r4 = e; rest = xs; is = refl }
