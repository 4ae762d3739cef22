-- A machine stands on what it has in common with one that stands for all.
use Rattle.std.proofs.Common.{◌≡◌, ℕ, zero, suc, List, [], ◌∷◌, length, slice_get, Some, Bool, sym, ap, subst, ◌∙◌, refl}
use Rattle.x86_insn.specs.declared.kinds.Reg.{Reg}
use Rattle.x86_insn.specs.declared.kinds.Reg.TheVariants.{Rsp}
use Rattle.x86_insn.specs.WellFormed.{code_of}
use Rattle.x86_meaning.specs.declared.sets.Flag.{Flag}
use Rattle.x86_meaning.specs.declared.sets.Flag.TheVariants.{Cf, Zf, Sf, Of, Pf}
use Rattle.rw_words.specs.declared.atom.Atom.{Atom}
use Rattle.rw_words.specs.declared.atom.Cell.{Cell}
use Rattle.rw_words.specs.Addresses.{Addresses}
use Rattle.rw_domain.specs.declared.flags.Flags.{Flags}
use Rattle.rw_domain.specs.Placed.{Placed}
use Rattle.rw_domain.specs.RegionsLaidOut.{RegionsAreLaidOut}
use Rattle.rw_domain.specs.LaidOut.{KnownByteStands, WordStands}
use Rattle.rw_domain.specs.Stands.{Both, FlagStands, FlagsStand, OptionStands}
use Rattle.rw_machine.specs.Agree.{Agree, flag_of}
use Rattle.rw_machine.specs.Correspond.{RegionsCorrespond}
use Rattle.rw_machine.specs.Stands.{MachineStands, RowsStand}
use Rattle.rw_machine.specs.Step.{Machine}
use Rattle.rw_probe.specs.ProbedRuns.{StandsOn}

same-length : {A B : Type 0} (R : A → B → Type 0) (xs : List A) (ys : List B) → Both R xs ys → length xs ≡ length ys
same-length R [] [] h = refl
same-length R [] (y ∷ ys) h = absurd h
same-length R (x ∷ xs) [] h = absurd h
same-length R (x ∷ xs) (y ∷ ys) h = ap suc (same-length R xs ys h.1)

place-stands : {A B : Type 0} (R : A → B → Type 0) (xs : List A) (ys : List B) (k : ℕ) → Both R xs ys → OptionStands R (slice_get xs k) (slice_get ys k)
place-stands R [] [] k h = tt
place-stands R [] (y ∷ ys) k h = absurd h
place-stands R (x ∷ xs) [] k h = absurd h
place-stands R (x ∷ xs) (y ∷ ys) zero h = h.0
place-stands R (x ∷ xs) (y ∷ ys) (suc k) h = place-stands R xs ys k h.1

flag-stands : (x : Flag) (f g : Flags) → FlagsStand f g → FlagStands (flag_of x f) (flag_of x g)
flag-stands Cf f g h = h.cf
flag-stands Zf f g h = h.zf
flag-stands Sf f g h = h.sf
flag-stands Of f g h = h.of
flag-stands Pf f g h = h.pf

pub stands-on : {P O : Type 0} (l : Addresses) (known : Atom → Bool) (region : ℕ) (kept : List ℕ) (Near : P → O → Type 0) (on : Reg → Type 0) (and_on : Flag → Type 0) (s t : Machine Placed (List Cell) Cell P) (o : Machine Placed ℕ ℕ O)
    → Agree on and_on s t → MachineStands (WordStands l known) (KnownByteStands l known) (Some (region, kept)) (RegionsCorrespond l known (Some (region, kept))) Near t o
    → StandsOn (WordStands l known) (KnownByteStands l known) (Some (region, kept)) (RegionsAreLaidOut l) on and_on s o
stands-on l known region kept Near on and_on s t o agree stands =
    let word = λ (r : Reg). place-stands (WordStands l known) t.registers o.registers (code_of r) stands.registers in
    record {
      count = agree.count ∙ same-length (WordStands l known) t.registers o.registers stands.registers;
      stack = subst (λ w. OptionStands (WordStands l known) w (slice_get o.registers (code_of Rsp))) (sym agree.stack) (word Rsp);
      registers = λ r live. subst (λ w. OptionStands (WordStands l known) w (slice_get o.registers (code_of r))) (sym (agree.registers r live)) (word r);
      flags = λ x live. subst (λ f. FlagStands f (flag_of x o.flags)) (sym (agree.flags x live)) (flag-stands x t.flags o.flags stands.flags);
      memory = subst (λ rows. RowsStand (KnownByteStands l known) (Some (region, kept)) rows o.memory) (sym agree.memory) stands.memory;
      placed = subst (λ d. RegionsAreLaidOut l d o.placed) (sym agree.placed) stands.placed.0.laid;
    }
