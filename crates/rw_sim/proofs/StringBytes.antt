-- The bytes of a string, one more at a time.
use Rattle.std.proofs.Common.{◌≡◌, ◌<◌, ◌≤◌, ℕ, pos, suc, zero, ◌-◌, List, [], ◌∷◌, ◌++◌, Some, None, Result, Ok, Err, refl, sym, ◌∙◌, ap, arith, false, ◌==◌, if◌then◌else◌, append_assoc, ◌+◌, length, replicate, length-append}
use Rattle.std.proofs.lemmas.Bool.{ne_eqb}
use Rattle.std.proofs.lemmas.List.{length-replicate}
use Rattle.rw_domain.specs.declared.cause.Cause.{Cause}
use Rattle.rw_domain.specs.declared.cause.Cause.TheVariants.{AddressOutside}
use Rattle.rw_domain.specs.Operators.{Operators}
use Rattle.rw_machine.specs.Events.{if_ok}
use Rattle.rw_sim.specs.Builtins.{byte_at_address, string_within, string_at, longest}

pub is_other : (b : ℕ) → (b ≡ 0 → ⊥) → (b == 0) ≡ false
is_other b h = ne_eqb b 0 h

abbrev pub joined : List ℕ → Result (List ℕ) Cause → Result (List ℕ) Cause
joined front r = if_ok (λ bs. Ok (front ++ bs)) r

joined-cons : (front : List ℕ) (b : ℕ) (r : Result (List ℕ) Cause) → joined front (if_ok (λ bs. Ok (b ∷ bs)) r) ≡ joined (front ++ b ∷ []) r
joined-cons front b (Ok bs) = ap Ok (sym (append_assoc front (b ∷ []) bs))
joined-cons front b (Err c) = refl

joined-nothing : (r : Result (List ℕ) Cause) → r ≡ joined [] r
joined-nothing (Ok bs) = refl
joined-nothing (Err c) = refl

module _ {V C : Type 0} (ops : Operators V C) (memory : List (List C)) where
  pub string-begins : (start : V) → string_at ops memory start ≡ joined [] (string_within ops memory longest start)
  unfolding string_at
  string-begins start = joined-nothing (string_within ops memory longest start)

  pub string-is : (start : V) → string_at ops memory start ≡ string_within ops memory longest start
  unfolding string_at
  string-is start = refl

  pub string-fails : (front : List ℕ) (n : ℕ) (at : V) (c : Cause) → 0 < n → byte_at_address ops memory at ≡ Err c → joined front (string_within ops memory n at) ≡ Err c
  unfolding string_within
  string-fails front zero at c lt e = absurd (omega (arith, lt))
  string-fails front (suc n) at c lt e = ap (λ r. joined front (if_ok (λ b. if b == 0 then Ok [] else if_ok (λ bs. Ok (b ∷ bs)) (string_within ops memory n (ops.sum (Some at) None (pos 1)))) r)) e

  pub string-ends : (front : List ℕ) (n : ℕ) (at : V) → 0 < n → byte_at_address ops memory at ≡ Ok 0 → joined front (string_within ops memory n at) ≡ Ok front
  unfolding string_within
  string-ends front zero at lt e = absurd (omega (arith, lt))
  string-ends front (suc n) at lt e = ap (λ r. joined front (if_ok (λ b. if b == 0 then Ok [] else if_ok (λ bs. Ok (b ∷ bs)) (string_within ops memory n (ops.sum (Some at) None (pos 1)))) r)) e ∙ ap Ok (append-nothing front)
    where
      append-nothing : (xs : List ℕ) → xs ++ [] ≡ xs
      append-nothing [] = refl
      append-nothing (x ∷ xs) = ap (λ ys. x ∷ ys) (append-nothing xs)

  pub string-goes_on : (front : List ℕ) (n : ℕ) (at : V) (b : ℕ) → 0 < n → byte_at_address ops memory at ≡ Ok b → (b == 0) ≡ false
      → joined front (string_within ops memory n at) ≡ joined (front ++ b ∷ []) (string_within ops memory (n - 1) (ops.sum (Some at) None (pos 1)))
  unfolding string_within
  string-goes_on front zero at b lt e other = absurd (omega (arith, lt))
  string-goes_on front (suc n) at b lt e other =
      ap (λ r. joined front (if_ok (λ b. if b == 0 then Ok [] else if_ok (λ bs. Ok (b ∷ bs)) (string_within ops memory n (ops.sum (Some at) None (pos 1)))) r)) e
      ∙ ap (λ t. joined front (if t then Ok [] else if_ok (λ bs. Ok (b ∷ bs)) (string_within ops memory n (ops.sum (Some at) None (pos 1))))) other
      ∙ joined-cons front b (string_within ops memory n (ops.sum (Some at) None (pos 1)))
      ∙ ap (λ m. joined (front ++ b ∷ []) (string_within ops memory m (ops.sum (Some at) None (pos 1)))) (let e : n ≡ suc n - 1 = omega arith in e)

  pub string-is_long : (front : List ℕ) (n : ℕ) (at : V) → n ≤ 0 → joined front (string_within ops memory n at) ≡ Err AddressOutside
  unfolding string_within
  string-is_long front zero at le = refl
  string-is_long front (suc n) at le = absurd (omega (arith, le))

  -- so many bytes and those of a string
  abbrev pub counted : ℕ → Result (List ℕ) Cause → Result ℕ Cause
  counted n r = if_ok (λ bs. Ok (n + length bs)) r

  counted-joined : (front : List ℕ) (r : Result (List ℕ) Cause) → counted (length front) r ≡ if_ok (λ bs. Ok (length bs)) (joined front r)
  counted-joined front (Ok bs) = ap Ok (sym (length-append front bs))
  counted-joined front (Err c) = refl

  zeros-joined : (n : ℕ) (r : Result (List ℕ) Cause) → counted n r ≡ if_ok (λ bs. Ok (length bs)) (joined (replicate n 0) r)
  zeros-joined n r = ap (λ k. counted k r) (sym (length-replicate n 0)) ∙ counted-joined (replicate n 0) r

  pub count-begins : (r : Result (List ℕ) Cause) → if_ok (λ bs. Ok (length bs)) r ≡ counted 0 r
  count-begins (Ok bs) = let e : length bs ≡ 0 + length bs = omega arith in ap Ok e
  count-begins (Err c) = refl

  pub count-fails : (k n : ℕ) (at : V) (c : Cause) → 0 < n → byte_at_address ops memory at ≡ Err c → counted k (string_within ops memory n at) ≡ Err c
  count-fails k n at c lt e =
      zeros-joined k (string_within ops memory n at) ∙ ap (λ r. if_ok (λ bs. Ok (length bs)) r) (string-fails (replicate k 0) n at c lt e)

  pub count-ends : (k n : ℕ) (at : V) → 0 < n → byte_at_address ops memory at ≡ Ok 0 → counted k (string_within ops memory n at) ≡ Ok k
  count-ends k n at lt e =
      zeros-joined k (string_within ops memory n at) ∙ ap (λ r. if_ok (λ bs. Ok (length bs)) r) (string-ends (replicate k 0) n at lt e) ∙ ap Ok (length-replicate k 0)

  pub count-goes_on : (k n : ℕ) (at : V) (b : ℕ) → 0 < n → byte_at_address ops memory at ≡ Ok b → (b == 0) ≡ false
      → counted k (string_within ops memory n at) ≡ counted (k + 1) (string_within ops memory (n - 1) (ops.sum (Some at) None (pos 1)))
  count-goes_on k n at b lt e other =
      zeros-joined k (string_within ops memory n at)
      ∙ ap (λ r. if_ok (λ bs. Ok (length bs)) r) (string-goes_on (replicate k 0) n at b lt e other)
      ∙ sym (counted-joined (replicate k 0 ++ b ∷ []) (string_within ops memory (n - 1) (ops.sum (Some at) None (pos 1))))
      ∙ ap (λ m. counted m (string_within ops memory (n - 1) (ops.sum (Some at) None (pos 1)))) (length-append (replicate k 0) (b ∷ []) ∙ ap (λ m. m + 1) (length-replicate k 0))

  pub count-is_long : (k n : ℕ) (at : V) → n ≤ 0 → counted k (string_within ops memory n at) ≡ Err AddressOutside
  count-is_long k n at le =
      zeros-joined k (string_within ops memory n at) ∙ ap (λ r. if_ok (λ bs. Ok (length bs)) r) (string-is_long (replicate k 0) n at le)
