-- How often leaders were entered, after one step more.
use Rattle.std.proofs.Common.{◌≡◌, ◌≢◌, ℕ, zero, suc, ◌+◌, ◌%◌, ◌^◌, ◌<◌, ◌≤◌, List, [], ◌∷◌, length, map, replicate, slice_get, Option, Some, None, Bool, true, false, refl, sym, ap, ◌∙◌, arith, inl, inr}
use Rattle.std.specs.Prelude.{if◌then◌else◌}
use Rattle.std.proofs.Math.Nat.{mod-eq_of_lt}
use Rattle.std.proofs.lemmas.Bool.{cases_Bool}
use Rattle.rw_words.specs.declared.atom.Cell.{Cell}
use Rattle.rw_machine.specs.Domains.{symbols}
use Rattle.rw_machine.specs.Program.{Program}
use Rattle.rw_funcs.specs.Points.{Point}
use Rattle.rw_runs.specs.Runs.{entered, made, visit}
use Rattle.rw_runs.specs.Correspond.{WordsRun}
use Rattle.rw_probe.specs.declared.form.Probe.{Probe}
use Rattle.rw_probe.specs.Forgetting.{incremented}
use Rattle.rw_probe.specs.ProbedPrograms.{AreProbed, TestsPoint}

-- ---- counts that grow at one place at most

-- numbers of 64 bits
abbrev pub counted_by : (ℕ → ℕ) → List ℕ → List ℕ
counted_by count leaders = map (λ a. count a % 2 ^ 64) leaders

pub counts-stay : (f g : ℕ → ℕ) (leaders : List ℕ) → ((k a : ℕ) → slice_get leaders k ≡ Some a → g a ≡ f a) → counted_by g leaders ≡ counted_by f leaders
counts-stay f g [] h = refl
counts-stay f g (a ∷ leaders) h = (λ i. h 0 a refl i % 2 ^ 64 ∷ counts-stay f g leaders (λ k b e. h (suc k) b e) i)

low-more : (n : ℕ) → (n + 1) % 2 ^ 64 ≡ (n % 2 ^ 64 + 1) % 2 ^ 64
low-more n = omega arith

pub counts-grow : (f g : ℕ → ℕ) (leaders : List ℕ) (k : ℕ) → k < length leaders → ((j a : ℕ) → slice_get leaders j ≡ Some a → j ≢ k → g a ≡ f a) → ((a : ℕ) → slice_get leaders k ≡ Some a → g a ≡ f a + 1)
    → counted_by g leaders ≡ incremented k (counted_by f leaders)
counts-grow f g [] k low others here = absurd (omega (arith, low))
counts-grow f g (a ∷ leaders) zero low others here =
    ap (λ n. n ∷ counted_by g leaders) (ap (λ n. n % 2 ^ 64) (here a refl) ∙ low-more (f a))
    ∙ ap (λ ns. (f a % 2 ^ 64 + 1) % 2 ^ 64 ∷ ns) (counts-stay f g leaders (λ j b e. others (suc j) b e (λ same. omega (arith, same))))
counts-grow f g (a ∷ leaders) (suc k) low others here =
    ap (λ n. n ∷ counted_by g leaders) (ap (λ n. n % 2 ^ 64) (others 0 a refl (λ same. omega (arith, same))))
    ∙ ap (λ ns. f a % 2 ^ 64 ∷ ns) (counts-grow f g leaders k (omega (arith, low)) (λ j b e other. others (suc j) b e (λ same. other (omega (arith, same)))) (λ b e. here b e))

-- numbers below 2 ^ 64 are themselves, and none counts at first
pub counts-are : (f : ℕ → ℕ) (leaders : List ℕ) → ((a : ℕ) → f a < 2 ^ 64) → counted_by f leaders ≡ map f leaders
counts-are f [] h = refl
counts-are f (a ∷ leaders) h = ap (λ n. n ∷ counted_by f leaders) (mod-eq_of_lt (h a)) ∙ ap (λ ns. f a ∷ ns) (counts-are f leaders h)

pub counts-begin : (f : ℕ → ℕ) (leaders : List ℕ) → ((a : ℕ) → f a ≡ 0) → counted_by f leaders ≡ replicate (length leaders) 0
counts-begin f [] h = refl
counts-begin f (a ∷ leaders) h = ap (λ n. n % 2 ^ 64 ∷ counted_by f leaders) (h a) ∙ ap (λ ns. 0 ∷ ns) (counts-begin f leaders h)

pub length-counted : (f : ℕ → ℕ) (leaders : List ℕ) → length (counted_by f leaders) ≡ length leaders
length-counted f [] = refl
length-counted f (a ∷ leaders) = ap suc (length-counted f leaders)

within : {A : Type 0} (xs : List A) (k : ℕ) (x : A) → slice_get xs k ≡ Some x → k < length xs
within [] k x e = cc
within (y ∷ xs) zero x e = omega arith
within (y ∷ xs) (suc k) x e = let rest = within xs k x e in omega (arith, rest)

same-number : (k j : ℕ) (p q : Probe) → ◌≡◌ {A = Option (ℕ × Probe)} (Some (k, p)) (Some (j, q)) → j ≡ k
same-number k j p q f = let same : ◌≡◌ {A = ℕ × Probe} (k, p) (j, q) = cc in sym (ap (λ (x : ℕ × Probe). x.0) same)

one-address : (a b : ℕ) → ◌≡◌ {A = Option ℕ} (Some a) (Some b) → a ≡ b
one-address a b f = cc

-- ---- entries

module _ {P A : Type 0} (c : Program P A (List Cell)) (is_there : ℕ → P → Bool) (first : WordsRun P) where
  abbrev pub entered_after : ℕ → ℕ → ℕ
  entered_after n a = entered symbols c (is_there a) n first

  pub entered-below : (n a : ℕ) → entered symbols c (is_there a) n first ≤ n
  entered-below zero a = omega arith
  entered-below (suc n) a =
      let rest = entered-below n a in
      let one = by (made symbols c n first) in
      omega (arith, rest, one)
    where
      by_test : (t : Bool) → (if t then 1 else 0) ≤ 1
      by_test true = omega arith
      by_test false = omega arith

      by : (o : Option (WordsRun P)) → visit symbols c (is_there a) o ≤ 1
      by None = omega arith
      by (Some run) = by_test (is_there a run.machine.point)

  module _ (around : ℕ → List Point) (at : ℕ → P) (leaders : List ℕ) (probe_at : P → Option (ℕ × Probe)) (probed : AreProbed around at leaders probe_at) (tests : TestsPoint at is_there) (n : ℕ) (run : WordsRun P) (is : made symbols c n first ≡ Some run) where
    grows : (a : ℕ) (t : Bool) → is_there a run.machine.point ≡ t → entered symbols c (is_there a) (suc n) first ≡ entered symbols c (is_there a) n first + (if t then 1 else 0)
    grows a t e = ap (λ o. entered symbols c (is_there a) n first + visit symbols c (is_there a) o) is ∙ ap (λ t. entered symbols c (is_there a) n first + (if t then 1 else 0)) e

    same-count : (a : ℕ) → is_there a run.machine.point ≡ false → entered symbols c (is_there a) (suc n) first ≡ entered symbols c (is_there a) n first
    same-count a e = let more = grows a false e in omega (arith, more)

    -- where there is no probe no leader is entered
    pub none-entered : probe_at run.machine.point ≡ None → counted_by (entered_after (suc n)) leaders ≡ counted_by (entered_after n) leaders
    none-entered none = counts-stay (entered_after n) (entered_after (suc n)) leaders (λ k a e. same-count a (other k a e))
      where
        other : (k a : ℕ) → slice_get leaders k ≡ Some a → is_there a run.machine.point ≡ false
        other k a e =
            elim (cases_Bool (is_there a run.machine.point)) as (λ _. is_there a run.machine.point ≡ false) [
              | inl yes_ ↦ let there = probed.numbered k a e in absurd (let never : None ≡ Some (k, there.0) = sym none ∙ ap probe_at ((tests a run.machine.point).0 yes_) ∙ there.1 in cc)
              | inr no_ ↦ no_
            ]

    -- where there is one, that leader alone is
    pub one-entered : (k : ℕ) (probe : Probe) → probe_at run.machine.point ≡ Some (k, probe) → (k < length leaders) × (counted_by (entered_after (suc n)) leaders ≡ incremented k (counted_by (entered_after n) leaders))
    one-entered k probe e =
        let of = probed.probes run.machine.point k probe e in
        let low = within leaders k of.0 of.2 in
        (low, counts-grow (entered_after n) (entered_after (suc n)) leaders k low (λ j a is_a different. same-count a (other j a is_a different)) (λ a is_a. here a is_a))
      where
        other : (j a : ℕ) → slice_get leaders j ≡ Some a → j ≢ k → is_there a run.machine.point ≡ false
        other j a is_a different =
            elim (cases_Bool (is_there a run.machine.point)) as (λ _. is_there a run.machine.point ≡ false) [
              | inl yes_ ↦ let there = probed.numbered j a is_a in absurd (different (same-number k j probe there.0 (sym e ∙ ap probe_at ((tests a run.machine.point).0 yes_) ∙ there.1)))
              | inr no_ ↦ no_
            ]

        here : (a : ℕ) → slice_get leaders k ≡ Some a → entered symbols c (is_there a) (suc n) first ≡ entered symbols c (is_there a) n first + 1
        here a is_a =
            let of = probed.probes run.machine.point k probe e in
            grows a true ((tests a run.machine.point).1 (of.1 ∙ ap at (one-address of.0 a (sym of.2 ∙ is_a))))
