-- Numbers, their low parts, unknown words and joined cells stand for numbers.
use Rattle.std.proofs.Common.{◌≡◌, ℕ, zero, suc, ◌+◌, ◌*◌, ◌/◌, ◌%◌, ◌^◌, ◌<◌, List, [], ◌∷◌, Option, Some, None, refl, sym, ap, subst, ◌∙◌, replicate, take, arith}
use Rattle.std.proofs.Math.Nat.{div-div-eq-div-mul, div-one, pow-suc, one-le-pow, mod-lt, mod-eq_of_lt, mod-one, zero-mod}
use Rattle.std.proofs.Math.Arith.{mod-mul}
use Rattle.std.proofs.lemmas.Nat.{mod-mul-add, div-mul-add}
use Rattle.rw_base.specs.declared.width.Width.{Width}
use Rattle.rw_base.specs.declared.width.Width.TheVariants.{B, W, L, Q}
use Rattle.rw_base.specs.Width.{byte_count}
use Rattle.rw_words.specs.declared.atom.Cell.{Cell}
use Rattle.rw_words.specs.declared.atom.Cell.TheVariants.{Num, Undef}
use Rattle.rw_words.specs.Addresses.{Addresses, byte_of, CellStands, CellsStand}
use Rattle.rw_words.specs.Words.{number_cells, undefined_cells, number_in, number_of_bytes}
use Rattle.rw_words.proofs.WordLemmas.{number-only}
use Rattle.rw_domain.specs.Stands.{Both, KnownStands}
use Rattle.rw_domain.specs.Numbers.{modulus, low, join_of}
use Rattle.rw_domain.specs.RegionsLaidOut.{ByteStands}
use Rattle.rw_domain.specs.Symbols.{word_number}

pos : (k : ℕ) → 0 < 256 ^ k
pos k = let h = one-le-pow k 256 (omega arith) in omega arith

-- the lowest byte of a number's low bytes, and the rest
low_first : (k n : ℕ) → n % 256 ^ suc k % 256 ≡ n % 256
low_first k n =
    let b : n % 256 < 256 = mod-lt n {m = 256} (omega arith) in
    ap (λ m. n % m % 256) (pow-suc 256 k) ∙ ap (λ x. x % 256) (mod-mul n {m = 256 ^ k} {c = 256} (pos k) (omega arith)) ∙ mod-mul-add (n / 256 % 256 ^ k) 256 (n % 256) b

low_rest : (k n : ℕ) → n % 256 ^ suc k / 256 ≡ n / 256 % 256 ^ k
low_rest k n =
    let b : n % 256 < 256 = mod-lt n {m = 256} (omega arith) in
    ap (λ m. n % m / 256) (pow-suc 256 k) ∙ ap (λ x. x / 256) (mod-mul n {m = 256 ^ k} {c = 256} (pos k) (omega arith)) ∙ div-mul-add (n / 256 % 256 ^ k) 256 (n % 256) b

module _ (l : Addresses) where
  take-stands : (k : ℕ) (a : List Cell) (n : ℕ) → CellsStand l a n → CellsStand l (take k a) (n % 256 ^ k)
  take-stands zero a n h = mod-one n
  take-stands (suc k) [] n h = ap (λ x. x % 256 ^ suc k) h ∙ zero-mod (256 ^ suc k)
  take-stands (suc k) (c ∷ cs) n h =
      (subst (CellStands l c) (sym (low_first k n)) h.0, subst (CellsStand l (take k cs)) (sym (low_rest k n)) (take-stands k cs (n / 256) h.1))

  undefined-stands : (k n : ℕ) → CellsStand l (replicate k Undef) (n % 256 ^ k)
  undefined-stands zero n = mod-one n
  undefined-stands (suc k) n = (tt, subst (CellsStand l (replicate k Undef)) (sym (low_rest k n)) (undefined-stands k (n / 256)))

  -- the bytes of a number, one by one
  bytes : ℕ → ℕ → List Cell
  bytes zero n = []
  bytes (suc k) n = Num (n % 256) ∷ bytes k (n / 256)

  bytes-stand : (k n : ℕ) → CellsStand l (bytes k n) (n % 256 ^ k)
  unfolding bytes
  bytes-stand zero n = mod-one n
  bytes-stand (suc k) n = (low_first k n, subst (CellsStand l (bytes k (n / 256))) (sym (low_rest k n)) (bytes-stand k (n / 256)))

power : (w : Width) → 256 ^ byte_count w ≡ modulus w
power B = refl
power W = refl
power L = refl
power Q = refl

-- byte i of a number by steps of one byte
byte_zero : (n : ℕ) → byte_of n 0 ≡ n % 256
byte_zero n = ap (λ z. z % 256) (div-one n)

byte_more : (n i m : ℕ) → m ≡ n / 256 ^ i → byte_of n i ≡ m % 256
byte_more n i m e = ap (λ z. z % 256) (sym e)

step2 : (n : ℕ) → n / 256 / 256 ≡ n / 256 ^ 2
step2 n = div-div-eq-div-mul n 256 256

step3 : (n : ℕ) → n / 256 / 256 / 256 ≡ n / 256 ^ 3
step3 n = ap (λ x. x / 256) (step2 n) ∙ div-div-eq-div-mul n (256 ^ 2) 256

step4 : (n : ℕ) → n / 256 / 256 / 256 / 256 ≡ n / 256 ^ 4
step4 n = ap (λ x. x / 256) (step3 n) ∙ div-div-eq-div-mul n (256 ^ 3) 256

step5 : (n : ℕ) → n / 256 / 256 / 256 / 256 / 256 ≡ n / 256 ^ 5
step5 n = ap (λ x. x / 256) (step4 n) ∙ div-div-eq-div-mul n (256 ^ 4) 256

step6 : (n : ℕ) → n / 256 / 256 / 256 / 256 / 256 / 256 ≡ n / 256 ^ 6
step6 n = ap (λ x. x / 256) (step5 n) ∙ div-div-eq-div-mul n (256 ^ 5) 256

step7 : (n : ℕ) → n / 256 / 256 / 256 / 256 / 256 / 256 / 256 ≡ n / 256 ^ 7
step7 n = ap (λ x. x / 256) (step6 n) ∙ div-div-eq-div-mul n (256 ^ 6) 256

cells-bytes : (l : Addresses) (w : Width) (n : ℕ) → number_cells w n ≡ bytes l (byte_count w) n
unfolding bytes
cells-bytes l B n = ap (λ a. Num a ∷ []) (byte_zero n)
cells-bytes l W n = ap (λ a. Num a ∷ Num (n / 256 % 256) ∷ []) (byte_zero n)
cells-bytes l L n =
    ap (λ a. Num a ∷ Num (n / 256 % 256) ∷ Num (byte_of n 2) ∷ Num (byte_of n 3) ∷ []) (byte_zero n)
    ∙ ap (λ a. Num (n % 256) ∷ Num (n / 256 % 256) ∷ Num a ∷ Num (byte_of n 3) ∷ []) (byte_more n 2 _ (step2 n))
    ∙ ap (λ a. Num (n % 256) ∷ Num (n / 256 % 256) ∷ Num (n / 256 / 256 % 256) ∷ Num a ∷ []) (byte_more n 3 _ (step3 n))
cells-bytes l Q n =
    let e0 = byte_zero n in
    let e2 = byte_more n 2 _ (step2 n) in
    let e3 = byte_more n 3 _ (step3 n) in
    let e4 = byte_more n 4 _ (step4 n) in
    let e5 = byte_more n 5 _ (step5 n) in
    let e6 = byte_more n 6 _ (step6 n) in
    let e7 = byte_more n 7 _ (step7 n) in
    rw (e0, e2, e3, e4, e5, e6, e7) refl

module _ (l : Addresses) where
  pub num-stands : (w : Width) (n : ℕ) → CellsStand l (number_cells w n) (low w n)
  num-stands w n = subst (λ cs. CellsStand l cs (low w n)) (sym (cells-bytes l w n)) (subst (λ m. CellsStand l (bytes l (byte_count w) n) (n % m)) (power w) (bytes-stand l (byte_count w) n))

  pub fitting-stands : (w : Width) (n : ℕ) → n < modulus w → CellsStand l (number_cells w n) n
  fitting-stands w n h = subst (CellsStand l (number_cells w n)) (mod-eq_of_lt h) (num-stands w n)

  pub low-stands : (w : Width) (a : List Cell) (n : ℕ) → CellsStand l a n → CellsStand l (take (byte_count w) a) (low w n)
  low-stands w a n h = subst (λ m. CellsStand l (take (byte_count w) a) (n % m)) (power w) (take-stands l (byte_count w) a n h)

  pub any-stands : (w : Width) (n : ℕ) → n < modulus w → CellsStand l (undefined_cells w) n
  any-stands w n h = subst (CellsStand l (undefined_cells w)) (mod-eq_of_lt h) (subst (λ m. CellsStand l (replicate (byte_count w) Undef) (n % m)) (power w) (undefined-stands l (byte_count w) n))

  known-number : (cells : List Cell) (n : ℕ) → CellsStand l cells n → (o : Option ℕ) → number_in cells ≡ o → KnownStands o (Some n)
  known-number cells n h None e = tt
  known-number cells n h (Some v) e = ap (λ x. Some x) (number-only l cells v n e h)

  pub number-stands : (w : Width) (a : List Cell) (n : ℕ) → CellsStand l a n → KnownStands (word_number w a) (Some (low w n))
  number-stands w a n h = known-number (take (byte_count w) a) (low w n) (low-stands w a n h) (word_number w a) refl

  row-stands : (k : ℕ) (xs : List Cell) (ys : List ℕ) → Both (ByteStands l) xs ys → CellsStand l (take k xs) (number_of_bytes (take k ys))
  row-stands zero xs ys h = refl
  row-stands (suc k) [] [] h = refl
  row-stands (suc k) [] (y ∷ ys) h = absurd h
  row-stands (suc k) (x ∷ xs) [] h = absurd h
  row-stands (suc k) (x ∷ xs) (y ∷ ys) h =
      let n = number_of_bytes (take k ys) in
      let small : y < 256 = h.0.1 in
      let first : (y + 256 * n) % 256 ≡ y = omega arith in
      let rest : (y + 256 * n) / 256 ≡ n = omega arith in
      (subst (CellStands l x) (sym first) h.0.0, subst (CellsStand l (take k xs)) (sym rest) (row-stands k xs ys h.1))

  pub join-stands : (w : Width) (xs : List Cell) (ys : List ℕ) → Both (ByteStands l) xs ys → CellsStand l (take (byte_count w) xs) (join_of w ys)
  join-stands w xs ys h = row-stands (byte_count w) xs ys h
