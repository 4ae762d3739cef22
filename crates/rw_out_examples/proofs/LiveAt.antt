-- What isn't live at a point, by going along its paths.
use Rattle.std.proofs.Common.{◌≡◌, ◌⊎◌, inl, inr, ℕ, zero, suc, ◌+◌, ◌<◌, List, [], ◌∷◌, length, All, Some, None, true, false, sym, ap, subst, ◌∙◌, arith}
use Rattle.std.specs.Prelude.{Contains, IsSomeAnd, slice_index_or}
use Rattle.std.proofs.lemmas.List.Elements.{Contains-get_or}
use Rattle.x86_insn.specs.declared.kinds.Reg.{Reg}
use Rattle.x86_meaning.specs.declared.sets.Flag.{Flag}
use Rattle.x86_meaning.specs.Flags.{flags_read_of, flags_written_of}
use Rattle.x86_meaning.specs.Sets.{all_flags}
use Rattle.rw_funcs.specs.Points.{Point, point_at}
use Rattle.rw_live.specs.Liveness.{IsFlagLive, IsPath, LeadsTo, ReadsFlag, goes_on, reads_all_flags, target_of}
use Rattle.rw_probe.specs.Probes.{counting_flags}

-- ---- where nothing is live

module _ (points : List Point) (Reads Writes : Point → Type 0) where
  abbrev Lives : ℕ → Type 0
  Lives c = (ds : List ℕ) × IsPath points Reads Writes c ds

  -- where it is written and not read
  pub stops : (c : ℕ) (p : Point) → point_at points c ≡ Some p → ¬ Reads p → Writes p → ¬ Lives c
  stops c p at quiet writes lives = by lives.0 lives.1
    where
      by : (ds : List ℕ) → IsPath points Reads Writes c ds → ⊥
      by [] h = quiet (subst (λ o. IsSomeAnd o Reads) at h)
      by (d ∷ ds) h = (subst (λ o. IsSomeAnd o (λ q. ¬ Writes q × LeadsTo points q d)) at h.0).0 writes

  -- where it isn't read, and isn't live at any next point
  pub passes : (c : ℕ) (p : Point) → point_at points c ≡ Some p → ¬ Reads p → ((d : ℕ) → LeadsTo points p d → ¬ Lives d) → ¬ Lives c
  passes c p at quiet next lives = by lives.0 lives.1
    where
      by : (ds : List ℕ) → IsPath points Reads Writes c ds → ⊥
      by [] h = quiet (subst (λ o. IsSomeAnd o Reads) at h)
      by (d ∷ ds) h = next d (subst (λ o. IsSomeAnd o (λ q. ¬ Writes q × LeadsTo points q d)) at h.0).1 (ds, h.1)

module _ (points : List Point) where
  leads-on : (p : Point) (d : ℕ) → target_of p.insn ≡ None → LeadsTo points p d → (goes_on p.insn ≡ true) × (p.place + p.len ≡ d)
  leads-on p d none h = by h.1
    where
      by : ((goes_on p.insn ≡ true) × (d ≡ p.place + p.len)) ⊎ (target_of p.insn ≡ Some d) → (goes_on p.insn ≡ true) × (p.place + p.len ≡ d)
      by (inl g) = (g.0, sym g.1)
      by (inr e) = absurd (let f : None ≡ Some d = sym none ∙ e in cc)

  no-flag : (x : Flag) (p : Point) → reads_all_flags points p.insn ≡ false → flags_read_of p.insn ≡ [] → ¬ ReadsFlag points x p
  no-flag x p e none (inl h) = absurd (let f : false ≡ true = sym e ∙ h in cc)
  no-flag x p e none (inr at) = let low = at.1 in let size = ap length none in omega (arith, low, size)

  -- none of the flags that a probe changes is live
  abbrev pub NoneCounting : ℕ → Type 0
  NoneCounting c = All (λ x. ¬ IsFlagLive points c x) counting_flags

  pub counting-written : (c : ℕ) (p : Point) → point_at points c ≡ Some p → reads_all_flags points p.insn ≡ false → flags_read_of p.insn ≡ [] → All (λ x. Contains (flags_written_of p.insn) x) counting_flags → NoneCounting c
  counting-written c p at e none written i x low =
      let flag = slice_index_or counting_flags i x in
      stops points (ReadsFlag points flag) (λ q. Contains (flags_written_of q.insn) flag) c p at (no-flag flag p e none) (written i x low)

  pub counting-later : (c : ℕ) (p : Point) → point_at points c ≡ Some p → reads_all_flags points p.insn ≡ false → flags_read_of p.insn ≡ [] → target_of p.insn ≡ None → NoneCounting (p.place + p.len) → NoneCounting c
  counting-later c p at e none only later i x low =
      let flag = slice_index_or counting_flags i x in
      passes points (ReadsFlag points flag) (λ q. Contains (flags_written_of q.insn) flag) c p at (no-flag flag p e none)
      (λ d leads lives. later i x low (subst (λ a. IsFlagLive points a (slice_index_or counting_flags i x)) (sym (leads-on p d only leads).1) lives))

  pub counting-ends : (c : ℕ) (p : Point) → point_at points c ≡ Some p → reads_all_flags points p.insn ≡ false → flags_read_of p.insn ≡ [] → target_of p.insn ≡ None → goes_on p.insn ≡ false → NoneCounting c
  counting-ends c p at e none only stop i x low =
      let flag = slice_index_or counting_flags i x in
      passes points (ReadsFlag points flag) (λ q. Contains (flags_written_of q.insn) flag) c p at (no-flag flag p e none)
      (λ d leads lives. absurd (let f : false ≡ true = sym stop ∙ (leads-on p d only leads).0 in cc))

-- ---- the flags that are written: all, or all but CF

pub all-written : All (λ x. Contains all_flags x) counting_flags
all-written i x low = let at = Contains-get_or counting_flags i x low in (suc at.0, (let within = at.1 in omega (arith, within)), at.2)

pub most-written : All (λ x. Contains counting_flags x) counting_flags
most-written i x low = Contains-get_or counting_flags i x low

-- ---- lists of one element, and of none

pub other-register : (q r : Reg) → (q ≡ r → ⊥) → ¬ Contains (q ∷ []) r
other-register q r apart at = by at.0 at.1 at.2
  where
    by : (k : ℕ) → k < 1 → slice_index_or (q ∷ []) k r ≡ r → ⊥
    by zero low e = apart e
    by (suc k) low e = omega (arith, low)

pub no-element : (x : Flag) → ¬ Contains [] x
no-element x at = let low = at.1 in omega (arith, low)
