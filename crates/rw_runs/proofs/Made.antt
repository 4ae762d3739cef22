-- Steps that were made, taken together and one by one.
use Rattle.std.proofs.Common.{◌≡◌, ℕ, zero, suc, ◌+◌, Option, Some, None, refl, sym, ap, ◌∙◌, arith}
use Rattle.std.specs.Prelude.{option_and_then}
use Rattle.rw_machine.specs.Program.{Program, Domains}
use Rattle.rw_runs.specs.Runs.{Run, advance, made}

and_some : {T : Type 0} (o : Option T) → option_and_then (λ x. Some x) o ≡ o
and_some None = refl
and_some (Some v) = refl

and_and : {A B C : Type 0} (f : A → Option B) (g : B → Option C) (o : Option A) → option_and_then g (option_and_then f o) ≡ option_and_then (λ x. option_and_then g (f x)) o
and_and f g None = refl
and_and f g (Some v) = refl

before_some : {A B : Type 0} (f : A → Option B) (o : Option A) (b : B) → option_and_then f o ≡ Some b → (a : A) × (o ≡ Some a) × (f a ≡ Some b)
before_some f None b e = cc
before_some f (Some a) b e = (a, refl, e)

module _ {D V C P R : Type 0} (dom : Domains D V C) (prog : Program P R V) where
  -- a steps and then b more
  pub made-more : (a b : ℕ) (run : Run D V C P) → made dom prog (a + b) run ≡ option_and_then (made dom prog b) (made dom prog a run)
  made-more a zero run =
      let e : a + zero ≡ a = omega arith in ap (λ n. made dom prog n run) e ∙ sym (and_some (made dom prog a run))
  made-more a (suc b) run =
      let e : a + suc b ≡ suc (a + b) = omega arith in
      ap (λ n. made dom prog n run) e ∙ ap (λ o. option_and_then (advance dom prog) o) (made-more a b run) ∙ and_and (made dom prog b) (advance dom prog) (made dom prog a run)

  -- the run before the last step
  pub made-before : (n : ℕ) (run last : Run D V C P) → made dom prog (suc n) run ≡ Some last → (r : Run D V C P) × (made dom prog n run ≡ Some r) × (advance dom prog r ≡ Some last)
  made-before n run last e = before_some (advance dom prog) (made dom prog n run) last e

  -- and one step more
  pub made-next : (n : ℕ) (run r next : Run D V C P) → made dom prog n run ≡ Some r → advance dom prog r ≡ Some next → made dom prog (suc n) run ≡ Some next
  made-next n run r next e f = ap (λ o. option_and_then (advance dom prog) o) e ∙ f
