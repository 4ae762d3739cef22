-- Behind endbr64 the same is live as at it.
use Rattle.std.proofs.Common.{◌≡◌, ℕ, ◌+◌, List, [], ◌∷◌, get_or, true, Option, Some, None, refl, sym, is_some, ap, subst, ◌∙◌, inl, inr, arith}
use Rattle.std.specs.Prelude.{IsSomeAnd}
use Rattle.std.specs.List.{Any, Contains}
use Rattle.x86_insn.specs.declared.kinds.Reg.{Reg}
use Rattle.x86_insn.specs.declared.kinds.Plain.TheVariants.{Endbr64}
use Rattle.x86_insn.specs.declared.instruction.Insn.TheVariants.{Plain}
use Rattle.x86_meaning.specs.declared.sets.Flag.{Flag}
use Rattle.x86_meaning.specs.Registers.{reads_of, writes_whole_of}
use Rattle.x86_meaning.specs.Flags.{flags_read_of, flags_written_of}
use Rattle.rw_funcs.specs.Points.{Point, is_point, point_at}
use Rattle.rw_live.specs.Liveness.{IsLive, IsFlagLive, IsPath, LeadsTo, ReadsRegister, ReadsFlag, goes_on, reads_all, reads_all_flags, target_of}
use Rattle.rw_live.proofs.Within.{point-is-some}
use Rattle.rw_probe.specs.declared.form.Probe.{Probe}
use Rattle.rw_probe.specs.declared.form.Probe.TheVariants.{Inc, Dead, Spill}
use Rattle.rw_probe.specs.Probes.{IsProbe, IsFirstDead, counting_flags, counting_registers}

-- a path begins at a point
begins : (points : List Point) (Reads Writes : Point → Type 0) (c : ℕ) (ds : List ℕ) → IsPath points Reads Writes c ds → is_point points c ≡ true
begins points Reads Writes c [] h = point-is-some points c ∙ some (point_at points c) h
  where
    some : (o : Option Point) → IsSomeAnd o Reads → is_some o ≡ true
    some None h = absurd h
    some (Some p) h = refl
begins points Reads Writes c (d ∷ ds) h = point-is-some points c ∙ some (point_at points c) h.0
  where
    some : (o : Option Point) → IsSomeAnd o (λ q. ¬ Writes q × LeadsTo points q d) → is_some o ≡ true
    some None h = absurd h
    some (Some p) h = refl

-- Let a point neither read nor write, and let it lead to the next alone.
module _ (points : List Point) (c : ℕ) (p : Point) (Reads Writes : Point → Type 0) (there : point_at points c ≡ Some p)
    (reads_not : ¬ Reads p) (writes_not : ¬ Writes p) (leads : (d : ℕ) → LeadsTo points p d → d ≡ p.place + p.len) (goes : is_point points (p.place + p.len) ≡ true → LeadsTo points p (p.place + p.len)) where
  behind : (ds : List ℕ) → IsPath points Reads Writes c ds → (es : List ℕ) × IsPath points Reads Writes (p.place + p.len) es
  behind [] h = absurd (reads_not (subst (λ o. IsSomeAnd o Reads) there h))
  behind (d ∷ ds) h =
      let step : ¬ Writes p × LeadsTo points p d = subst (λ o. IsSomeAnd o (λ q. ¬ Writes q × LeadsTo points q d)) there h.0 in
      (ds, subst (λ a. IsPath points Reads Writes a ds) (leads d step.1) h.1)

  ahead : (ds : List ℕ) → IsPath points Reads Writes (p.place + p.len) ds → (es : List ℕ) × IsPath points Reads Writes c es
  ahead ds h =
      let is = begins points Reads Writes (p.place + p.len) ds h in
      ((p.place + p.len) ∷ ds, (subst (λ o. IsSomeAnd o (λ q. ¬ Writes q × LeadsTo points q (p.place + p.len))) (sym there) (writes_not, goes is), h))

module _ (points : List Point) (c : ℕ) (p : Point) (there : point_at points c ≡ Some p) (e : p.insn ≡ Plain Endbr64) where
  leads : (d : ℕ) → LeadsTo points p d → d ≡ p.place + p.len
  leads d (is, (inl goes)) = goes.1
  leads d (is, (inr jumps)) = let none : ◌≡◌ {A = Option ℕ} None (Some d) = sym (ap target_of e) ∙ jumps in absurd (cc)

  goes : is_point points (p.place + p.len) ≡ true → LeadsTo points p (p.place + p.len)
  goes is = (is, inl (ap goes_on e, refl))

  none-in : {A : Type 0} (x : A) → ¬ Contains [] x
  none-in x h = let low = h.1 in absurd (omega (arith, low))

  reads-not : (r : Reg) → ¬ ReadsRegister points r p
  reads-not r (inl all) = let never = sym (ap (reads_all points) e) ∙ all in absurd (cc)
  reads-not r (inr one) = none-in r (subst (λ i. Contains (reads_of i) r) e one)

  reads-no-flag : (x : Flag) → ¬ ReadsFlag points x p
  reads-no-flag x (inl all) = let never = sym (ap (reads_all_flags points) e) ∙ all in absurd (cc)
  reads-no-flag x (inr one) = none-in x (subst (λ i. Contains (flags_read_of i) x) e one)

  writes-not : (r : Reg) → ¬ Contains (writes_whole_of p.insn) r
  writes-not r one = none-in r (subst (λ i. Contains (writes_whole_of i) r) e one)

  writes-no-flag : (x : Flag) → ¬ Contains (flags_written_of p.insn) x
  writes-no-flag x one = none-in x (subst (λ i. Contains (flags_written_of i) x) e one)

  live-behind : (r : Reg) → IsLive points c r → IsLive points (p.place + p.len) r
  live-behind r h = behind points c p (ReadsRegister points r) (λ q. Contains (writes_whole_of q.insn) r) there (reads-not r) (writes-not r) leads goes h.0 h.1

  live-ahead : (r : Reg) → IsLive points (p.place + p.len) r → IsLive points c r
  live-ahead r h = ahead points c p (ReadsRegister points r) (λ q. Contains (writes_whole_of q.insn) r) there (reads-not r) (writes-not r) leads goes h.0 h.1

  flag-behind : (x : Flag) → IsFlagLive points c x → IsFlagLive points (p.place + p.len) x
  flag-behind x h = behind points c p (ReadsFlag points x) (λ q. Contains (flags_written_of q.insn) x) there (reads-no-flag x) (writes-no-flag x) leads goes h.0 h.1

  flag-ahead : (x : Flag) → IsFlagLive points (p.place + p.len) x → IsFlagLive points c x
  flag-ahead x h = ahead points c p (ReadsFlag points x) (λ q. Contains (flags_written_of q.insn) x) there (reads-no-flag x) (writes-no-flag x) leads goes h.0 h.1

  first-behind : (qs : List Reg) (r : Reg) → IsFirstDead points c qs r → IsFirstDead points (p.place + p.len) qs r
  first-behind [] r a = a
  first-behind (q ∷ qs) r (inl a) = inl (a.0, λ live. a.1 (live-ahead q live))
  first-behind (q ∷ qs) r (inr a) = inr (live-behind q a.0, first-behind qs r a.1)

  some-behind : Any (IsFlagLive points c) counting_flags → Any (IsFlagLive points (p.place + p.len)) counting_flags
  some-behind a = (a.0, a.1, a.2, a.3, flag-behind a.1 a.4)

  pub probe-behind : (probe : Probe) → IsProbe points c probe → IsProbe points (p.place + p.len) probe
  probe-behind Inc a = λ k d low. (λ live. a k d low (flag-ahead (get_or counting_flags k d) live))
  probe-behind (Dead r) a = (some-behind a.0, first-behind counting_registers r a.1)
  probe-behind Spill a = (some-behind a.0, λ k d low. live-behind (get_or counting_registers k d) (a.1 k d low))
