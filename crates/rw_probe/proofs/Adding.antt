-- Numbers that are added to a list where they pass a test.
use Rattle.std.proofs.Common.{◌≡◌, ℕ, zero, suc, ◌+◌, ◌<◌, ◌≤◌, Bool, true, false, List, [], ◌∷◌, ◌++◌, length, take, get_or, refl, sym, ap, ◌∙◌, arith}
use Rattle.std.specs.Prelude.{◌==◌, ◌||◌}
use Rattle.std.specs.List.{list_any, range_with_len}
use Rattle.std.proofs.lemmas.List.Folds.{list_any-append, list_any_more}
use Rattle.rw_funcs.specs.Points.{is_one_of}
use Rattle.rw_funcs.proofs.FunctionsOf.{take-whole}
use Rattle.rw_probe.specs.Collecting.{AddsWhere}

pub or-or : (a b c : Bool) → ((a || b) || c) ≡ (a || (b || c))
or-or true b c = refl
or-or false b c = refl

pub or-false : (a : Bool) → (a || false) ≡ a
or-false true = refl
or-false false = refl

pub or-swap : (a b : Bool) → (a || b) ≡ (b || a)
or-swap true true = refl
or-swap true false = refl
or-swap false true = refl
or-swap false false = refl

-- two pairs, the other way
pub or-pairs : (a b c d : Bool) → ((a || b) || (c || d)) ≡ ((a || c) || (b || d))
or-pairs true b c d = refl
or-pairs false true true d = refl
or-pairs false true false d = refl
or-pairs false false c d = refl

-- nothing more, one more, and the numbers of two tests
pub adds-none : (old new : List ℕ) (test : ℕ → Bool) → new ≡ old → ((c : ℕ) → test c ≡ false) → AddsWhere test old new
adds-none old new test e off = λ c. ap (λ xs. is_one_of xs c) e ∙ sym (or-false (is_one_of old c)) ∙ ap (λ b. is_one_of old c || b) (sym (off c))

pub adds-one : (old new : List ℕ) (n : ℕ) (test : ℕ → Bool) → new ≡ old ++ n ∷ [] → ((c : ℕ) → test c ≡ (n == c)) → AddsWhere test old new
adds-one old new n test e here =
    λ c. ap (λ xs. is_one_of xs c) e ∙ list_any-append (λ m. m == c) old (n ∷ []) ∙ ap (λ b. is_one_of old c || b) (or-false (n == c) ∙ sym (here c))

pub adds-both : (old mid new : List ℕ) (a b : ℕ → Bool) → AddsWhere a old mid → AddsWhere b mid new → AddsWhere (λ c. a c || b c) old new
adds-both old mid new a b first then = λ c. then c ∙ ap (λ t. t || b c) (first c) ∙ or-or (is_one_of old c) (a c) (b c)

pub adds-same : (old new : List ℕ) (a b : ℕ → Bool) → ((c : ℕ) → a c ≡ b c) → AddsWhere a old new → AddsWhere b old new
adds-same old new a b same h = λ c. h c ∙ ap (λ t. is_one_of old c || t) (same c)

-- those of the items of a list, one by one
pub adds-more : {A : Type 0} (test : ℕ → A → Bool) (xs : List A) (i : ℕ) (d : A) (old mid new : List ℕ) → i < length xs
    → AddsWhere (λ c. list_any (test c) (take i xs)) old mid → AddsWhere (λ c. test c (get_or xs i d)) mid new → AddsWhere (λ c. list_any (test c) (take (i + 1) xs)) old new
adds-more test xs i d old mid new within first then =
    adds-same old new (λ c. list_any (test c) (take i xs) || test c (get_or xs i d)) (λ c. list_any (test c) (take (i + 1) xs)) (λ c. sym (list_any_more (test c) xs i d within))
    (adds-both old mid new (λ c. list_any (test c) (take i xs)) (λ c. test c (get_or xs i d)) first then)

pub adds-all : {A : Type 0} (test : ℕ → A → Bool) (xs : List A) (i : ℕ) (old new : List ℕ) → length xs ≤ i → AddsWhere (λ c. list_any (test c) (take i xs)) old new → AddsWhere (λ c. list_any (test c) xs) old new
adds-all test xs i old new past h = adds-same old new (λ c. list_any (test c) (take i xs)) (λ c. list_any (test c) xs) (λ c. ap (list_any (test c)) (take-whole i xs past)) h

-- those of numbers from 0 on
range-more : (p : ℕ → Bool) (a k : ℕ) → list_any p (range_with_len a (suc k)) ≡ (list_any p (range_with_len a k) || p (a + k))
range-more p a zero = or-false (p a) ∙ ap p (let e : a ≡ a + 0 = omega arith in e)
range-more p a (suc k) =
    let e : a + 1 + k ≡ a + suc k = omega arith in
    ap (λ b. p a || b) (range-more p (a + 1) k ∙ ap (λ n. list_any p (range_with_len (a + 1) k) || p n) e) ∙ sym (or-or (p a) (list_any p (range_with_len (a + 1) k)) (p (a + suc k)))

pub adds-next : (test : ℕ → ℕ → Bool) (k : ℕ) (old mid new : List ℕ) → AddsWhere (λ c. list_any (test c) (range_with_len 0 k)) old mid → AddsWhere (λ c. test c k) mid new → AddsWhere (λ c. list_any (test c) (range_with_len 0 (k + 1))) old new
adds-next test k old mid new first then =
    let zero_k : 0 + k ≡ k = omega arith in
    let next : suc k ≡ k + 1 = omega arith in
    adds-same old new (λ c. list_any (test c) (range_with_len 0 k) || test c k) (λ c. list_any (test c) (range_with_len 0 (k + 1)))
    (λ c. ap (λ n. list_any (test c) (range_with_len 0 k) || test c n) (sym zero_k) ∙ sym (range-more (test c) 0 k) ∙ ap (λ n. list_any (test c) (range_with_len 0 n)) next)
    (adds-both old mid new (λ c. list_any (test c) (range_with_len 0 k)) (λ c. test c k) first then)
