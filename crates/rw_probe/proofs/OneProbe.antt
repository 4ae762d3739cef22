-- At each point there is one probe at most, and what it changes isn't live.
use Rattle.std.proofs.Common.{◌≡◌, ℕ, zero, suc, ◌<◌, List, [], ◌∷◌, All, length, take, get_or, refl, sym, ap, subst, ◌∙◌, arith, inl, inr}
use Rattle.std.specs.List.{Any}
use Rattle.std.proofs.lemmas.List.Elements.{All-head, All-tail}
use Rattle.x86_insn.specs.declared.kinds.Reg.{Reg}
use Rattle.rw_funcs.specs.Points.{Point}
use Rattle.rw_live.specs.Liveness.{IsLive, IsFlagLive}
use Rattle.rw_probe.specs.declared.form.Probe.{Probe}
use Rattle.rw_probe.specs.declared.form.Probe.TheVariants.{Inc, Dead, Spill}
use Rattle.rw_probe.specs.Probes.{counting_flags, counting_registers, IsFirstDead, IsProbe}

none-and-some : {A : Type 0} (P : A → Type 0) (xs : List A) → All (λ x. ¬ P x) xs → Any P xs → ⊥
none-and-some P xs none some = none some.0 some.1 some.2 (subst P (sym some.3) some.4)

module _ (points : List Point) (c : ℕ) where
  one-first : (qs : List Reg) (r s : Reg) → IsFirstDead points c qs r → IsFirstDead points c qs s → r ≡ s
  one-first [] r s a b = absurd a
  one-first (q ∷ qs) r s (inl a) (inl b) = a.0 ∙ sym b.0
  one-first (q ∷ qs) r s (inl a) (inr b) = absurd (a.1 b.0)
  one-first (q ∷ qs) r s (inr a) (inl b) = absurd (b.1 a.0)
  one-first (q ∷ qs) r s (inr a) (inr b) = one-first qs r s a.1 b.1

  pub first-at : (qs : List Reg) (i : ℕ) (d : Reg) → i < length qs → All (IsLive points c) (take i qs) → ¬ IsLive points c (get_or qs i d) → IsFirstDead points c qs (get_or qs i d)
  first-at [] i d h all dead = absurd (omega (arith, h))
  first-at (q ∷ qs) zero d h all dead = inl (refl, dead)
  first-at (q ∷ qs) (suc i) d h all dead = inr (All-head (IsLive points c) q (take i qs) all, first-at qs i d (omega (arith, h)) (All-tail (IsLive points c) q (take i qs) all) dead)

  pub first-is-dead : (qs : List Reg) (r : Reg) → IsFirstDead points c qs r → ¬ IsLive points c r
  first-is-dead [] r a = absurd a
  first-is-dead (q ∷ qs) r (inl a) = subst (λ s. ¬ IsLive points c s) (sym a.0) a.1
  first-is-dead (q ∷ qs) r (inr a) = first-is-dead qs r a.1

  none-first : (qs : List Reg) (r : Reg) → IsFirstDead points c qs r → All (IsLive points c) qs → ⊥
  none-first [] r a all = a
  none-first (q ∷ qs) r (inl a) all = a.1 (All-head (IsLive points c) q qs all)
  none-first (q ∷ qs) r (inr a) all = none-first qs r a.1 (All-tail (IsLive points c) q qs all)

  pub same-probe : (p q : Probe) → IsProbe points c p → IsProbe points c q → p ≡ q
  same-probe Inc Inc a b = refl
  same-probe Inc (Dead r) a b = absurd (none-and-some (IsFlagLive points c) counting_flags a b.0)
  same-probe Inc Spill a b = absurd (none-and-some (IsFlagLive points c) counting_flags a b.0)
  same-probe (Dead r) Inc a b = absurd (none-and-some (IsFlagLive points c) counting_flags b a.0)
  same-probe (Dead r) (Dead s) a b = ap Dead (one-first counting_registers r s a.1 b.1)
  same-probe (Dead r) Spill a b = absurd (none-first counting_registers r a.1 b.1)
  same-probe Spill Inc a b = absurd (none-and-some (IsFlagLive points c) counting_flags b a.0)
  same-probe Spill (Dead s) a b = absurd (none-first counting_registers s b.1 a.1)
  same-probe Spill Spill a b = refl
