-- What the law of steps asks of two instructions, and what it doesn't: as a printed program with probes and data needs it.
use Rattle.std.proofs.Common.{◌≡◌, ℕ, List, [], ◌∷◌, Some, Bool, true, false, refl}
use Rattle.std.specs.List.{list_any}
use Rattle.rw_base.specs.declared.width.Width.TheVariants.{Q}
use Rattle.x86_insn.specs.declared.kinds.Reg.{Reg}
use Rattle.x86_insn.specs.declared.kinds.Plain.TheVariants.{Endbr64}
use Rattle.x86_insn.specs.declared.operands.Mem.TheVariants.{Rel}
use Rattle.x86_insn.specs.declared.instruction.Insn.TheVariants.{Call, Jmp, Lea, Plain}
use Rattle.rw_domain.specs.Stands.{Both}
use Rattle.rw_domain.proofs.LaidOutExample.{counters, words, printed, at_printed, is_known, printed_lies}
use Rattle.x86_meaning.specs.Meaning.{micro_of}
use Rattle.rw_machine.specs.Operations.{takes_reference}
use Rattle.rw_machine.specs.Program.{Program}
use Rattle.rw_machine.specs.Stands.{InsnStands, RowsStand}
use Rattle.rw_machine.specs.Correspond.{RegionsCorrespond}

module _ {V W A B P O : Type 0} (R : V → W → Type 0) (Near' : P → O → Type 0) (s : Program P A V) (n : Program O B W) (p : P) (q : O) (next : Near' (s.next p) (n.next q)) where
  -- endbr64 asks for no word: a probe may stand between it and the next label
  pub endbr64_asks_nothing : InsnStands R Near' s n p q (Plain Endbr64) (Plain Endbr64)
  endbr64_asks_nothing = record { micro = refl; reference = λ direct taken. tt; next = next; address = λ taken. cc }

  -- an address asks for its reference as an address alone, and a jump for it as a target alone: where a section ends, the
  -- two may differ
  pub lea_asks_for_an_address : (to : Reg) (a : A) (b : B) → R (s.resolve a false) (n.resolve b false) → InsnStands R Near' s n p q (Lea Q to (Rel a)) (Lea Q to (Rel b))
  lea_asks_for_an_address to a b h = record { micro = refl; reference = as_address; next = next; address = λ taken. cc }
    where
      as_address : (direct : Bool) → list_any (takes_reference direct) (micro_of (Lea Q to (Rel a))) ≡ true → R (s.resolve a direct) (n.resolve b direct)
      as_address false taken = h
      as_address true taken = cc

  pub jump_asks_for_a_target : (a : A) (b : B) → R (s.resolve a true) (n.resolve b true) → InsnStands R Near' s n p q (Jmp a) (Jmp b)
  jump_asks_for_a_target a b h = record { micro = refl; reference = as_target; next = next; address = λ taken. cc }
    where
      as_target : (direct : Bool) → list_any (takes_reference direct) (micro_of (Jmp a)) ≡ true → R (s.resolve a direct) (n.resolve b direct)
      as_target true taken = h
      as_target false taken = cc

  -- a call stores the word of the next point
  pub call_asks_for_both : (a : A) (b : B) → R (s.resolve a true) (n.resolve b true) → R (s.address_of (s.next p)) (n.address_of (n.next q)) → InsnStands R Near' s n p q (Call a) (Call b)
  call_asks_for_both a b h k = record { micro = refl; reference = as_target; next = next; address = λ taken. k }
    where
      as_target : (direct : Bool) → list_any (takes_reference direct) (micro_of (Call a)) ≡ true → R (s.resolve a direct) (n.resolve b direct)
      as_target true taken = h
      as_target false taken = cc

-- counters, of which the machine over words has none, beside rows that stand
pub counters_are_spare : {E F : Type 0} (Byte : E → F → Type 0) (x : List (List E)) (y : List (List F)) (counters : List F) → Both (Both Byte) x y → RowsStand Byte (Some (0, counters)) ([] ∷ x) (counters ∷ y)
counters_are_spare Byte x y counters h = record { bytes = (tt, h); kept = refl }

-- so do the regions of a file with a copied symbol and those of its printed program, which has four counters
pub counters_beside_a_copy : (bytes : List ℕ) → RegionsCorrespond at_printed is_known (Some (2, bytes)) words printed
counters_beside_a_copy bytes = (printed_lies, (counters, refl, refl))
