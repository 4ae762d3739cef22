-- A well formed instruction has at most one reference.
use Rattle.std.proofs.Common.{◌≡◌, ◌≤◌, [], ◌++◌, length, arith, lit≤, Bool, true, false, ◌&&◌, ◌||◌, refl, length-append}
use Rattle.rw_base.specs.declared.width.Width.{Width}
use Rattle.rw_base.specs.declared.width.Width.TheVariants.{B}
use Rattle.x86_insn.specs.declared.operands.Mem.{Mem}
use Rattle.x86_insn.specs.declared.operands.Mem.TheVariants.{Rel}
use Rattle.x86_insn.specs.declared.operands.Operand.{Operand}
use Rattle.x86_insn.specs.declared.operands.Operand.TheVariants as operand
use Rattle.x86_insn.specs.declared.instruction.Insn.{Insn}
use Rattle.x86_insn.specs.declared.instruction.Insn.TheVariants as insn
use Rattle.x86_insn.specs.References.{mem_references, operand_references, references_of}
use Rattle.x86_insn.specs.WellFormed.{is_address, is_register, is_place, is_instruction, are_operands, go_together, is_wide, is_bit_index}

at_most_one : {R : Type 0} (m : Mem R) → length (mem_references m) ≤ 1
at_most_one (Rel r) = lit≤ tt
at_most_one _ = lit≤ tt

one_operand : {R : Type 0} (o : Operand R) → length (operand_references o) ≤ 1
one_operand (operand.Mem m) = at_most_one m
one_operand _ = lit≤ tt

memory_is_no_register : {R : Type 0} (w : Width) (m : Mem R) → is_register w (operand.Mem m) ≡ false
memory_is_no_register B m = refl
memory_is_no_register _ m = refl

-- of two operands one isn't memory
two_operands : {R : Type 0} (w : Width) (a b : Operand R) → ((m n : Mem R) → a ≡ operand.Mem m → b ≡ operand.Mem n → ⊥) → length (operand_references a ++ operand_references b) ≤ 1
two_operands w (operand.Mem m) (operand.Mem n) h = absurd (h m n refl refl)
two_operands w (operand.Mem m) (operand.Reg r) h = rw (length-append (mem_references m) []) (omega (arith, at_most_one m))
two_operands w (operand.Mem m) (operand.Byte r) h = rw (length-append (mem_references m) []) (omega (arith, at_most_one m))
two_operands w (operand.Mem m) (operand.Imm v) h = rw (length-append (mem_references m) []) (omega (arith, at_most_one m))
two_operands w (operand.Reg r) b h = one_operand b
two_operands w (operand.Byte r) b h = one_operand b
two_operands w (operand.Imm v) b h = one_operand b

no_two : (x y z : Bool) → (((x && false) || (false && y) || (x && false)) && z) ≡ true → ⊥
no_two true y z h = cc
no_two false y z h = cc

no_two_after : (x z : Bool) → ((x && false) && z) ≡ true → ⊥
no_two_after true z h = cc
no_two_after false z h = cc

no_last : (x : Bool) → (x && false) ≡ true → ⊥
no_last true h = cc
no_last false h = cc

alu_in_memory : {R : Type 0} (w : Width) (m n : Mem R) → are_operands w (operand.Mem m) (operand.Mem n) ≡ true → ⊥
alu_in_memory B m n h = no_two (is_address m) (is_address n) (go_together (operand.Mem m) (operand.Mem n)) h
alu_in_memory _ m n h = no_two (is_address m) (is_address n) (go_together (operand.Mem m) (operand.Mem n)) h

test_in_memory : {R : Type 0} (w : Width) (m n : Mem R) → is_instruction (insn.Test w (operand.Mem m) (operand.Mem n)) ≡ true → ⊥
test_in_memory B m n h = no_two_after (is_address m) (go_together (operand.Mem m) (operand.Mem n)) h
test_in_memory _ m n h = no_two_after (is_address m) (go_together (operand.Mem m) (operand.Mem n)) h

xchg_in_memory : {R : Type 0} (w : Width) (m n : Mem R) → is_instruction (insn.Xchg w (operand.Mem m) (operand.Mem n)) ≡ true → ⊥
xchg_in_memory B m n h = no_two_after (is_address m) (go_together (operand.Mem m) (operand.Mem n)) h
xchg_in_memory _ m n h = no_two_after (is_address m) (go_together (operand.Mem m) (operand.Mem n)) h

bit_in_memory : {R : Type 0} (w : Width) (m n : Mem R) → (is_wide w && is_place w (operand.Mem m) && is_bit_index w (operand.Mem m) (operand.Mem n)) ≡ true → ⊥
bit_in_memory B m n h = cc
bit_in_memory _ m n h = no_last (is_address m) h

pub one_reference : {R : Type 0} (i : Insn R) → is_instruction i ≡ true → length (references_of i) ≤ 1
one_reference (insn.Alu op w to from) h = two_operands w to from (λ m n p q. alu_in_memory w m n (rw (p, q) at h))
one_reference (insn.Test w e by) h = two_operands w e by (λ m n p q. test_in_memory w m n (rw (p, q) at h))
one_reference (insn.Xchg w e g) h = two_operands w e g (λ m n p q. xchg_in_memory w m n (rw (p, q) at h))
one_reference (insn.Mov w to from) h = two_operands w to from (λ m n p q. alu_in_memory w m n (rw (p, q) at h))
one_reference (insn.Bit op w at index) h = two_operands w at index (λ m n p q. bit_in_memory w m n (rw (p, q) at h))
one_reference (insn.Lea w to at) h = at_most_one at
one_reference (insn.Jcc c to) h = lit≤ tt
one_reference (insn.MovSx a b to from) h = one_operand from
one_reference (insn.MovZx a b to from) h = one_operand from
one_reference (insn.Push from) h = one_operand from
one_reference (insn.Pop to) h = one_operand to
one_reference (insn.Imul2 w to from) h = one_operand from
one_reference (insn.Imul3 w to from by) h = one_operand from
one_reference (insn.One op w at) h = one_operand at
one_reference (insn.Shift op w at c) h = one_operand at
one_reference (insn.Cmov c w to from) h = one_operand from
one_reference (insn.Setcc c to) h = one_operand to
one_reference (insn.Scan op w to from) h = one_operand from
one_reference (insn.JmpTo to k) h = one_operand to
one_reference (insn.CallTo to k) h = one_operand to
one_reference _ h = lit≤ tt
