-- What a probe changes isn't live, so a machine without it agrees with what it agreed with.
use Rattle.std.proofs.Common.{◌≡◌, ℕ, List, [], ◌∷◌, Bool, true, not, nat_eq, refl, ap, subst, ◌∙◌, inl, inr, lit<}
use Rattle.std.specs.List.{list_all}
use Rattle.rw_words.proofs.WordLemmas.{and-first, and-second}
use Rattle.std.proofs.lemmas.Bool.{cases_Bool, eqb-true}
use Rattle.x86_insn.specs.declared.kinds.Reg.{Reg}
use Rattle.x86_insn.specs.declared.kinds.Reg.TheVariants.{Rsp}
use Rattle.x86_insn.specs.WellFormed.{code_of}
use Rattle.x86_meaning.specs.declared.sets.Flag.{Flag}
use Rattle.x86_meaning.specs.declared.sets.Flag.TheVariants.{Cf, Zf, Sf, Of, Pf}
use Rattle.rw_words.specs.declared.atom.Cell.{Cell}
use Rattle.rw_domain.specs.Placed.{Placed}
use Rattle.rw_funcs.specs.Points.{Point}
use Rattle.rw_machine.specs.Step.{Machine}
use Rattle.rw_live.specs.Liveness.{IsLive, IsFlagLive}
use Rattle.rw_live.specs.LiveSteps.{AgreeOnLive}
use Rattle.rw_live.proofs.WeakenedAgrees.{weakened-agrees}
use Rattle.rw_tables.proofs.Registers.{same-register}
use Rattle.rw_probe.specs.declared.form.Probe.{Probe}
use Rattle.rw_probe.specs.declared.form.Probe.TheVariants.{Inc, Dead, Spill}
use Rattle.rw_probe.specs.Probes.{IsProbe, counting_registers, IsFirstDead}
use Rattle.rw_probe.specs.Forgetting.{keeps, keeps_flag, forgotten}
use Rattle.rw_probe.proofs.OneProbe.{first-is-dead}

-- what all of some registers pass, the first dead one passes
first-passes : (points : List Point) (c : ℕ) (test : Reg → Bool) (qs : List Reg) (r : Reg) → list_all test qs ≡ true → IsFirstDead points c qs r → test r ≡ true
first-passes points c test [] r all a = absurd a
first-passes points c test (q ∷ qs) r all (inl a) = ap test a.0 ∙ and-first (test q) (list_all test qs) all
first-passes points c test (q ∷ qs) r all (inr a) = first-passes points c test qs r (and-second (test q) (list_all test qs) all) a.1

-- %rsp is none of the registers that a probe may go through
never-stack : (points : List Point) (c : ℕ) (r : Reg) → IsFirstDead points c counting_registers r → not (nat_eq (code_of Rsp) (code_of r)) ≡ true
never-stack points c r a = first-passes points c (λ q. not (nat_eq (code_of Rsp) (code_of q))) counting_registers r refl a

pub keeps-stack : (points : List Point) (c : ℕ) (probe : Probe) → IsProbe points c probe → keeps probe Rsp ≡ true
keeps-stack points c Inc a = refl
keeps-stack points c (Dead r) a = never-stack points c r a.1
keeps-stack points c Spill a = refl

other-code : (points : List Point) (c : ℕ) (r q : Reg) → IsLive points c q → ¬ IsLive points c r → not (nat_eq (code_of q) (code_of r)) ≡ true
other-code points c r q live dead =
    elim (cases_Bool (nat_eq (code_of q) (code_of r))) as (λ _. not (nat_eq (code_of q) (code_of r)) ≡ true) [
      | inl yes_ ↦ absurd (dead (subst (IsLive points c) (same-register q r (eqb-true _ _ yes_)) live))
      | inr no_ ↦ ap not no_
    ]

keeps-live : (points : List Point) (c : ℕ) (probe : Probe) → IsProbe points c probe → (q : Reg) → IsLive points c q → keeps probe q ≡ true
keeps-live points c Inc a q live = refl
keeps-live points c (Dead r) a q live = other-code points c r q live (first-is-dead points c counting_registers r a.1)
keeps-live points c Spill a q live = refl

keeps-live-flag : (points : List Point) (c : ℕ) (probe : Probe) → IsProbe points c probe → (x : Flag) → IsFlagLive points c x → keeps_flag probe x ≡ true
keeps-live-flag points c Inc a Cf live = refl
keeps-live-flag points c Inc a Zf live = absurd (a 0 Zf (lit< tt) live)
keeps-live-flag points c Inc a Sf live = absurd (a 1 Zf (lit< tt) live)
keeps-live-flag points c Inc a Of live = absurd (a 2 Zf (lit< tt) live)
keeps-live-flag points c Inc a Pf live = absurd (a 3 Zf (lit< tt) live)
keeps-live-flag points c (Dead r) a x live = refl
keeps-live-flag points c Spill a x live = refl

pub still-agrees : {P : Type 0} (points : List Point) (c : ℕ) (probe : Probe) (m o : Machine Placed (List Cell) Cell P) → IsProbe points c probe → AgreeOnLive points c m o → AgreeOnLive points c m (forgotten probe o)
still-agrees points c probe m o a h =
    let w = weakened-agrees (keeps probe) (keeps_flag probe) o (keeps-stack points c probe a) in
    record {
      count = h.count ∙ w.count;
      stack = h.stack ∙ w.stack;
      registers = λ r live. h.registers r live ∙ w.registers r (keeps-live points c probe a r live);
      flags = λ x live. h.flags x live ∙ w.flags x (keeps-live-flag points c probe a x live);
      memory = h.memory ∙ w.memory;
      placed = h.placed ∙ w.placed;
      point = h.point ∙ w.point;
    }
