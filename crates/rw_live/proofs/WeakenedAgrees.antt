-- A machine agrees with a weakened one on what is kept.
use Rattle.std.proofs.Common.{◌≡◌, ℕ, zero, suc, List, [], ◌∷◌, length, Some, Bool, true, refl, sym, ap, ◌∙◌, if◌then◌else◌}
use Rattle.std.specs.Prelude.{slice_get}
use Rattle.x86_insn.specs.declared.kinds.Reg.{Reg}
use Rattle.x86_insn.specs.declared.kinds.Reg.TheVariants.{Rax, Rcx, Rdx, Rbx, Rsp, Rbp, Rsi, Rdi, R8, R9, R10, R11, R12, R13, R14, R15}
use Rattle.x86_insn.specs.Codes.{registers}
use Rattle.x86_insn.specs.WellFormed.{code_of}
use Rattle.x86_meaning.specs.declared.sets.Flag.{Flag}
use Rattle.x86_meaning.specs.declared.sets.Flag.TheVariants.{Cf, Zf, Sf, Of, Pf}
use Rattle.rw_words.specs.declared.atom.Cell.{Cell}
use Rattle.rw_domain.specs.declared.flags.Tri.{Tri}
use Rattle.rw_domain.specs.declared.flags.Flags.{Flags}
use Rattle.rw_machine.specs.Step.{Machine}
use Rattle.rw_machine.specs.Agree.{flag_of, Agree}
use Rattle.rw_live.specs.Weakened.{unknown_word, kept_words, kept_flag, kept_flags, weakened_machine}

its-place : (r : Reg) → slice_get registers (code_of r) ≡ Some r
its-place Rax = refl
its-place Rcx = refl
its-place Rdx = refl
its-place Rbx = refl
its-place Rsp = refl
its-place Rbp = refl
its-place Rsi = refl
its-place Rdi = refl
its-place R8 = refl
its-place R9 = refl
its-place R10 = refl
its-place R11 = refl
its-place R12 = refl
its-place R13 = refl
its-place R14 = refl
its-place R15 = refl

module _ (keeps : Reg → Bool) where
  kept-count : (rs : List Reg) (words : List (List Cell)) → length words ≡ length (kept_words keeps rs words)
  kept-count [] words = refl
  kept-count (r ∷ rs) [] = refl
  kept-count (r ∷ rs) (word ∷ words) = ap suc (kept-count rs words)

  kept-word : (rs : List Reg) (words : List (List Cell)) (i : ℕ) (r : Reg) → slice_get rs i ≡ Some r → keeps r ≡ true → slice_get words i ≡ slice_get (kept_words keeps rs words) i
  kept-word [] words i r e k = refl
  kept-word (s ∷ rs) [] i r e k = refl
  kept-word (s ∷ rs) (word ∷ words) zero r e k =
      let same : s ≡ r = cc in
      let keep : keeps s ≡ true = ap keeps same ∙ k in
      ap Some (sym (ap (λ t. if t then word else unknown_word word) keep))
  kept-word (s ∷ rs) (word ∷ words) (suc i) r e k = kept-word rs words i r e k

kept-tri : (keeps : Bool) (t : Tri) → keeps ≡ true → t ≡ kept_flag keeps t
kept-tri keeps t e = sym (ap (λ b. kept_flag b t) e)

kept-flag : (keeps : Flag → Bool) (f : Flags) (x : Flag) → keeps x ≡ true → flag_of x f ≡ flag_of x (kept_flags keeps f)
kept-flag keeps f Cf e = kept-tri (keeps Cf) f.cf e
kept-flag keeps f Zf e = kept-tri (keeps Zf) f.zf e
kept-flag keeps f Sf e = kept-tri (keeps Sf) f.sf e
kept-flag keeps f Of e = kept-tri (keeps Of) f.of e
kept-flag keeps f Pf e = kept-tri (keeps Pf) f.pf e

pub weakened-agrees : {D C P : Type 0} (keeps : Reg → Bool) (keeps_flag : Flag → Bool) (m : Machine D (List Cell) C P) → keeps Rsp ≡ true
    → Agree (λ r. keeps r ≡ true) (λ x. keeps_flag x ≡ true) m (weakened_machine keeps keeps_flag m)
weakened-agrees keeps keeps_flag m e = record {
  count = kept-count keeps registers m.registers;
  stack = kept-word keeps registers m.registers (code_of Rsp) Rsp refl e;
  registers = λ r k. kept-word keeps registers m.registers (code_of r) r (its-place r) k;
  flags = λ x k. kept-flag keeps_flag m.flags x k;
  memory = refl;
  placed = refl;
  point = refl;
}
