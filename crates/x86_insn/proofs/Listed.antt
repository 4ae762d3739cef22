-- The references of an instruction are the one that it has.
use Rattle.std.proofs.Common.{◌≡◌, ◌≤◌, List, [], ◌∷◌, ◌++◌, length, Option, Some, None, refl, sym, ap, ◌∙◌, arith, true}
use Rattle.x86_insn.specs.declared.operands.Mem.TheVariants.{At, Rel, Canary}
use Rattle.x86_insn.specs.declared.operands.Operand.{Operand}
use Rattle.x86_insn.specs.declared.operands.Operand.TheVariants as operand
use Rattle.x86_insn.specs.declared.instruction.Insn.{Insn}
use Rattle.x86_insn.specs.declared.instruction.Insn.TheVariants as insn
use Rattle.x86_insn.specs.References.{or_else, operand_reference, reference_of, operand_references, references_of}
use Rattle.x86_insn.specs.WellFormed.{is_instruction}
use Rattle.x86_insn.proofs.OneReference.{one_reference}

module _ {R : Type 0} where
  abbrev front : List R → Option R
  front [] = None
  front (r ∷ rs) = Some r

  abbrev pub to_list : Option R → List R
  to_list None = []
  to_list (Some r) = r ∷ []

  one-front : (o : Operand R) → operand_reference o ≡ front (operand_references o)
  one-front (operand.Reg r) = refl
  one-front (operand.Byte r) = refl
  one-front (operand.Mem (At base index disp)) = refl
  one-front (operand.Mem (Rel r)) = refl
  one-front (operand.Mem Canary) = refl
  one-front (operand.Imm v) = refl

  pair-front : (a b : Operand R) → or_else (operand_reference a) (operand_reference b) ≡ front (operand_references a ++ operand_references b)
  pair-front (operand.Reg r) b = one-front b
  pair-front (operand.Byte r) b = one-front b
  pair-front (operand.Mem (At base index disp)) b = one-front b
  pair-front (operand.Mem (Rel r)) b = refl
  pair-front (operand.Mem Canary) b = one-front b
  pair-front (operand.Imm v) b = one-front b

  front-reference : (i : Insn R) → reference_of i ≡ front (references_of i)
  front-reference (insn.Alu op w to from) = pair-front to from
  front-reference (insn.Test w e by) = pair-front e by
  front-reference (insn.Xchg w e g) = pair-front e g
  front-reference (insn.Mov w to from) = pair-front to from
  front-reference (insn.MovZx from_w w to from) = one-front from
  front-reference (insn.MovSx from_w w to from) = one-front from
  front-reference (insn.Lea w to at) = one-front (operand.Mem at)
  front-reference (insn.Push from) = one-front from
  front-reference (insn.Pop to) = one-front to
  front-reference (insn.Imul2 w to from) = one-front from
  front-reference (insn.Imul3 w to from by) = one-front from
  front-reference (insn.One op w at) = one-front at
  front-reference (insn.Shift op w at count) = one-front at
  front-reference (insn.Cmov cond w to from) = one-front from
  front-reference (insn.Setcc cond to) = one-front to
  front-reference (insn.Bit op w at index) = pair-front at index
  front-reference (insn.Scan op w to from) = one-front from
  front-reference (insn.JmpTo to notrack) = one-front to
  front-reference (insn.CallTo to notrack) = one-front to
  front-reference _ = refl

  few-list : (rs : List R) → length rs ≤ 1 → rs ≡ to_list (front rs)
  few-list [] h = refl
  few-list (r ∷ []) h = refl
  few-list (r ∷ s ∷ rs) h = absurd (omega (arith, h))

  pub listed-references : (i : Insn R) → is_instruction i ≡ true → references_of i ≡ to_list (reference_of i)
  listed-references i h = few-list (references_of i) (one_reference i h) ∙ ap to_list (sym (front-reference i))
