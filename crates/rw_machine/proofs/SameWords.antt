-- Words that are the same in two lists of registers.
use Rattle.std.proofs.Common.{◌≡◌, ℕ, zero, suc, List, [], ◌∷◌, length, Some, refl, sym, ap, subst, ◌∙◌, arith, inl, inr, ⊎_elim}
use Rattle.std.specs.Prelude.{◌⊎◌, slice_get, slice_set, slice_index_or}
use Rattle.std.specs.Option.{unwrap_or}
use Rattle.std.specs.List.{Contains}
use Rattle.std.proofs.lemmas.Option.{unwrap_or-slice_get}
use Rattle.std.proofs.lemmas.List.{length-set}
use Rattle.x86_insn.specs.declared.kinds.Reg.{Reg}
use Rattle.x86_insn.specs.WellFormed.{code_of}
use Rattle.rw_machine.specs.Agree.{SameWord}
use Rattle.rw_machine.proofs.SameFlags.{each-at}

-- an element of two lists after a write of each at one place
get-set : {V : Type 0} (xs ys : List V) (i j : ℕ) (u v : V) → length xs ≡ length ys → (j ≡ i → u ≡ v) → (slice_get xs j ≡ slice_get ys j) ⊎ (j ≡ i)
    → slice_get (slice_set xs i u) j ≡ slice_get (slice_set ys i v) j
get-set [] [] i j u v n e h = refl
get-set [] (y ∷ ys) i j u v n e h = absurd (omega (arith, n))
get-set (x ∷ xs) [] i j u v n e h = absurd (omega (arith, n))
get-set (x ∷ xs) (y ∷ ys) zero zero u v n e h = ap Some (e refl)
get-set (x ∷ xs) (y ∷ ys) zero (suc j) u v n e h = ⊎_elim (λ p. p) (λ q. absurd (omega (arith, q))) h
get-set (x ∷ xs) (y ∷ ys) (suc i) zero u v n e h = ⊎_elim (λ p. p) (λ q. absurd (omega (arith, q))) h
get-set (x ∷ xs) (y ∷ ys) (suc i) (suc j) u v n e h =
    get-set xs ys i j u v (omega (arith, n)) (λ q. e (omega (arith, q))) (⊎_elim (λ p. inl p) (λ q. inr (omega (arith, q))) h)

module _ {V : Type 0} (a b : List V) where
  pub same-or : (k : ℕ) (d : V) → slice_get a k ≡ slice_get b k → slice_index_or a k d ≡ slice_index_or b k d
  same-or k d e = sym (unwrap_or-slice_get a k d) ∙ ap (λ o. unwrap_or o d) e ∙ unwrap_or-slice_get b k d

  pub same-count : (k : ℕ) (u v : V) → length a ≡ length b → length (slice_set a k u) ≡ length (slice_set b k v)
  same-count k u v n = length-set a k u ∙ n ∙ sym (length-set b k v)

  -- another register is as before, and the one that is written is the same where what is written is
  pub same-after : (k r : Reg) (u v : V) → length a ≡ length b → (SameWord k a b → u ≡ v) → SameWord r a b → SameWord r (slice_set a (code_of k) u) (slice_set b (code_of k) v)
  same-after k r u v n e h = get-set a b (code_of k) (code_of r) u v n (λ q. e (subst (λ c. slice_get a c ≡ slice_get b c) q h)) (inl h)

  pub same-written : (k r : Reg) (u v : V) → length a ≡ length b → u ≡ v → r ≡ k → SameWord r (slice_set a (code_of k) u) (slice_set b (code_of k) v)
  same-written k r u v n e q = get-set a b (code_of k) (code_of r) u v n (λ _. e) (inr (ap code_of q))

pub only : {X : Type 0} (k r : X) → Contains (k ∷ []) r → r ≡ k
only k r c = each-at (λ x. x ≡ k) (k ∷ []) r (refl, tt) c

pub here : {X : Type 0} (k : X) → Contains (k ∷ []) k
here k = (zero, omega arith, refl)

pub nowhere : {X : Type 0} {P : Type 0} (x : X) → Contains [] x → P
nowhere x (k, lt, e) = absurd (omega (arith, lt))
