-- A row of counters, eight bytes each.
use Rattle.std.proofs.Common.{◌≡◌, ℕ, zero, suc, ◌+◌, ◌*◌, ◌<◌, ◌%◌, ◌^◌, List, [], ◌∷◌, ◌++◌, length, take, drop, slice_get, Some, refl, ap, ◌∙◌, arith}
use Rattle.std.specs.Prelude.{slice_index, slice_index_or, slice_set}
use Rattle.rw_words.specs.Words.{eight_bytes, number_of_bytes}
use Rattle.rw_machine.specs.Running.{range_at, row_written, written_at}
use Rattle.rw_machine.specs.Views.{HasRange}
use Rattle.rw_probe.specs.Counting.{next_number}
use Rattle.rw_probe.specs.Forgetting.{counter_bytes, counter_place, incremented}
use Rattle.rw_probe.proofs.Joined.{rejoined-is}

pub length-counters : (counts : List ℕ) → length (counter_bytes counts) ≡ 8 * length counts
length-counters [] = refl
length-counters (n ∷ counts) = let rest = length-counters counts in let size : length (counter_bytes (n ∷ counts)) ≡ 8 + length (counter_bytes counts) = omega arith in omega (arith, rest, size)

-- eight bytes further
eight-more : (k : ℕ) → 8 * suc k ≡ suc (suc (suc (suc (suc (suc (suc (suc (8 * k))))))))
eight-more k = omega arith

pub counter-range : (counts : List ℕ) (k : ℕ) → k < length counts → take 8 (drop (8 * k) (counter_bytes counts)) ≡ eight_bytes (slice_index counts k)
counter-range [] k h = absurd (omega (arith, h))
counter-range (n ∷ counts) zero h = refl
counter-range (n ∷ counts) (suc k) h = ap (λ o. take 8 (drop o (counter_bytes (n ∷ counts)))) (eight-more k) ∙ counter-range counts k (omega (arith, h))

-- a row with bytes written behind eight others
written-eight : (n : ℕ) (row bytes : List ℕ) (o : ℕ) → row_written (eight_bytes n ++ row) (suc (suc (suc (suc (suc (suc (suc (suc o)))))))) bytes ≡ eight_bytes n ++ row_written row o bytes
written-eight n row bytes o =
    let e : suc (suc (suc (suc (suc (suc (suc (suc o))))))) + length bytes ≡ suc (suc (suc (suc (suc (suc (suc (suc (o + length bytes)))))))) = omega arith in
    ap (λ m. eight_bytes n ++ (take o row ++ (bytes ++ drop m (eight_bytes n ++ row)))) e

pub counter-written : (counts : List ℕ) (k v : ℕ) → k < length counts → row_written (counter_bytes counts) (8 * k) (eight_bytes v) ≡ counter_bytes (slice_set counts k v)
counter-written [] k v h = absurd (omega (arith, h))
counter-written (n ∷ counts) zero v h = refl
counter-written (n ∷ counts) (suc k) v h =
    ap (λ o. row_written (counter_bytes (n ∷ counts)) o (eight_bytes v)) (eight-more k) ∙ written-eight n (counter_bytes counts) (eight_bytes v) (8 * k) ∙ ap (λ row. eight_bytes n ++ row) (counter-written counts k v (omega (arith, h)))

-- ---- in memory

row-here : {A : Type 0} (rows : List A) (i : ℕ) (row d : A) → slice_get rows i ≡ Some row → slice_index_or rows i d ≡ row
row-here [] i row d h = absurd (cc)
row-here (x ∷ rows) zero row d h = let same : x ≡ row = cc in same
row-here (x ∷ rows) (suc i) row d h = row-here rows i row d h

row-within : {A : Type 0} (rows : List A) (i : ℕ) (row : A) → slice_get rows i ≡ Some row → i < length rows
row-within [] i row h = absurd (cc)
row-within (x ∷ rows) zero row h = omega arith
row-within (x ∷ rows) (suc i) row h = let rest = row-within rows i row h in omega (arith, rest)

row-set : {A : Type 0} (rows : List A) (i : ℕ) (row : A) → i < length rows → slice_get (slice_set rows i row) i ≡ Some row
row-set [] i row h = absurd (omega (arith, h))
row-set (x ∷ rows) zero row h = refl
row-set (x ∷ rows) (suc i) row h = row-set rows i row (omega (arith, h))

module _ (rows : List (List ℕ)) (region k : ℕ) (counts : List ℕ) (kept : slice_get rows region ≡ Some (counter_bytes counts)) (low : k < length counts) where
  pub counter-there : HasRange rows (counter_place region k) 8
  counter-there =
      let size = length-counters counts in
      let row = ap length (row-here rows region (counter_bytes counts) [] kept) in
      record { region = row-within rows region (counter_bytes counts) kept; bytes = omega (arith, size, row, low) }

  pub counter-number : next_number rows (counter_place region k) ≡ (slice_index counts k + 1) % 2 ^ 64
  counter-number =
      let here : range_at rows (counter_place region k) 8 ≡ eight_bytes (slice_index counts k) = ap (λ row. take 8 (drop (8 * k) row)) (row-here rows region (counter_bytes counts) [] kept) ∙ counter-range counts k low in
      let number : number_of_bytes (range_at rows (counter_place region k) 8) ≡ slice_index counts k % 2 ^ 64 = ap number_of_bytes here ∙ rejoined-is (slice_index counts k) in
      ap (λ n. (n + 1) % 2 ^ 64) number ∙ low-more (slice_index counts k)
    where
      low-more : (n : ℕ) → (n % 2 ^ 64 + 1) % 2 ^ 64 ≡ (n + 1) % 2 ^ 64
      low-more n = omega arith

  pub counter-kept : slice_get (written_at rows (counter_place region k) (eight_bytes (next_number rows (counter_place region k)))) region ≡ Some (counter_bytes (incremented k counts))
  counter-kept =
      row-set rows region (row_written (slice_index_or rows region []) (8 * k) (eight_bytes (next_number rows (counter_place region k)))) (row-within rows region (counter_bytes counts) kept)
      ∙ ap Some (ap (λ row. row_written row (8 * k) (eight_bytes (next_number rows (counter_place region k)))) (row-here rows region (counter_bytes counts) [] kept) ∙ ap (λ n. row_written (counter_bytes counts) (8 * k) (eight_bytes n)) counter-number
      ∙ counter-written counts k ((slice_index counts k + 1) % 2 ^ 64) low)
