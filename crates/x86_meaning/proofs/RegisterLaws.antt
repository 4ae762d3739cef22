-- The registers of each row are those of its small operations.
use Rattle.std.proofs.Common.{◌≡◌, ℕ, List, [], ◌∷◌, ◌++◌, Some, None, Option, Bool, true, false, refl, sym, ap, ◌∙◌, append_assoc}
use Rattle.std.specs.Prelude.{if◌then◌else◌, nat_eq}
use Rattle.rw_base.specs.declared.width.Width.{Width}
use Rattle.rw_base.specs.declared.width.Width.TheVariants.{B, W, L, Q}
use Rattle.x86_insn.specs.declared.kinds.Reg.{Reg}
use Rattle.x86_insn.specs.declared.kinds.Reg.TheVariants.{Rax, Rsp}
use Rattle.x86_insn.specs.declared.kinds.Count.{Count}
use Rattle.x86_insn.specs.declared.kinds.Convert.{Convert}
use Rattle.x86_insn.specs.declared.kinds.Plain.{Plain}
use Rattle.x86_insn.specs.declared.kinds.Reg8.TheVariants.{Low, High}
use Rattle.x86_insn.specs.declared.kinds.Count.TheVariants as count
use Rattle.x86_insn.specs.declared.kinds.AluOp.{AluOp}
use Rattle.x86_insn.specs.declared.kinds.AluOp.TheVariants as alu
use Rattle.x86_insn.specs.declared.kinds.OneOp.{OneOp}
use Rattle.x86_insn.specs.declared.kinds.OneOp.TheVariants as one
use Rattle.x86_insn.specs.declared.kinds.BitOp.{BitOp}
use Rattle.x86_insn.specs.declared.kinds.BitOp.TheVariants.{Bt}
use Rattle.x86_insn.specs.declared.kinds.Convert.TheVariants.{Cbtw}
use Rattle.x86_insn.specs.declared.kinds.Plain.TheVariants as plain
use Rattle.x86_insn.specs.declared.operands.Mem.{Mem}
use Rattle.x86_insn.specs.declared.operands.Mem.TheVariants.{At, Rel, Canary}
use Rattle.x86_insn.specs.declared.operands.Operand.{Operand}
use Rattle.x86_insn.specs.declared.operands.Operand.TheVariants as operand
use Rattle.x86_insn.specs.declared.instruction.Insn.{Insn}
use Rattle.x86_insn.specs.declared.instruction.Insn.TheVariants as insn
use Rattle.x86_meaning.specs.declared.operations.Temp.{Temp}
use Rattle.x86_meaning.specs.declared.operations.Micro.{Micro}
use Rattle.x86_meaning.specs.Meaning.{micro_of, value_of, address_of, place_of, write_of, alu_of, same_of, alu_or_same, with_itself, are_same, one_of, multiply_of, divide_of, count_of, bit_write, convert_of, plain_of, temp, t0, t1, t2}
use Rattle.x86_meaning.specs.Registers.{source, place, address_registers, reads_of, reads_with_itself, reads_one, reads_count, half_register, destination, touches_of, touches_alu, touches_one, touches_bit, touches_convert, whole, whole_reg, whole_alu, whole_one, whole_halves, whole_convert, whole_bit, writes_whole_of}
use Rattle.x86_meaning.specs.Effects.{fetched, changed, filled_part, put_whole, gathered}

pub gathered-append : (f : Micro → List Reg) (xs ys : List Micro) → gathered f (xs ++ ys) ≡ gathered f xs ++ gathered f ys
gathered-append f [] ys = refl
gathered-append f (x ∷ xs) ys = ap (λ v. f x ++ v) (gathered-append f xs ys) ∙ sym (append_assoc (f x) (gathered f xs) (gathered f ys))

append-none : (xs : List Reg) → xs ++ [] ≡ xs
append-none [] = refl
append-none (x ∷ xs) = ap (λ v. x ∷ v) (append-none xs)

-- ---- read

fetched-address : {R : Type 0} (m : Mem R) → gathered fetched (address_of m) ≡ address_registers m
fetched-address (At None None d) = refl
fetched-address (At None (Some i) d) = refl
fetched-address (At (Some b) None d) = refl
fetched-address (At (Some b) (Some i) d) = refl
fetched-address (Rel r) = refl
fetched-address Canary = refl

fetched-value : {R : Type 0} (t : Temp) (w : Width) (o : Operand R) → gathered fetched (value_of t w o) ≡ source o
fetched-value t w (operand.Reg r) = refl
fetched-value t w (operand.Byte (Low r)) = refl
fetched-value t w (operand.Byte (High r)) = refl
fetched-value t w (operand.Mem m) = simp (gathered-append, fetched-address, append-none)
fetched-value t w (operand.Imm v) = refl

fetched-place : {R : Type 0} (o : Operand R) → gathered fetched (place_of o) ≡ place o
fetched-place (operand.Mem m) = fetched-address m
fetched-place _ = refl

fetched-write : {R : Type 0} (w : Width) (o : Operand R) (t : Temp) → gathered fetched (write_of w o t) ≡ []
fetched-write w (operand.Reg r) t = refl
fetched-write w _ t = refl

fetched-alu : {R : Type 0} (op : AluOp) (w : Width) (to from : Operand R) → gathered fetched (alu_of op w to from) ≡ source from ++ source to
fetched-alu alu.Cmp w to from = simp (gathered-append, fetched-value, append-none)
fetched-alu _ w to from = simp (gathered-append, fetched-value, fetched-write, append-none)

fetched-if : {R : Type 0} (borrow same : Bool) (op : AluOp) (w : Width) (to from : Operand R) → gathered fetched (if same then same_of borrow w to else alu_of op w to from) ≡ (if same then [] else (source from ++ source to))
fetched-if borrow true op w to from = fetched-write w to t2
fetched-if borrow false op w to from = fetched-alu op w to from

fetched-alu_or_same : {R : Type 0} (o : Option Bool) (op : AluOp) (w : Width) (to from : Operand R) → gathered fetched (alu_or_same o op w to from) ≡ reads_with_itself o to from
fetched-alu_or_same None op w to from = fetched-alu op w to from
fetched-alu_or_same (Some borrow) op w to from = fetched-if borrow (are_same to from) op w to from

fetched-divide : {R : Type 0} (signed : Bool) (w : Width) (at : Operand R) → gathered fetched (divide_of signed w at) ≡ source at ++ half_register w ∷ Rax ∷ []
fetched-divide signed B at = simp (gathered-append, fetched-value, append-none)
fetched-divide signed _ at = simp (gathered-append, fetched-value, append-none)

fetched-one : {R : Type 0} (op : OneOp) (w : Width) (at : Operand R) → gathered fetched (one_of op w at) ≡ reads_one op w at
fetched-one one.Mul w at = simp (gathered-append, fetched-value, append-none)
fetched-one one.Imul w at = simp (gathered-append, fetched-value, append-none)
fetched-one one.Div w at = fetched-divide false w at
fetched-one one.Idiv w at = fetched-divide true w at
fetched-one _ w at = simp (gathered-append, fetched-value, fetched-write, append-none)

fetched-count : (count : Count) → fetched (count_of count) ≡ reads_count count
fetched-count count.Cl = refl
fetched-count (count.Imm c) = refl

fetched-bit : {R : Type 0} (op : BitOp) (w : Width) (at : Operand R) → gathered fetched (bit_write op w at) ≡ []
fetched-bit Bt w at = refl
fetched-bit _ w at = fetched-write w at t2

fetched-convert : (kind : Convert) → gathered fetched (convert_of kind) ≡ Rax ∷ []
fetched-convert Cbtw = refl
fetched-convert _ = refl

fetched-plain : (kind : Plain) → gathered fetched (plain_of kind) ≡ []
fetched-plain plain.Nop = refl
fetched-plain _ = refl

-- what an instruction reads is what its small operations get
pub fetched-micro : {R : Type 0} (i : Insn R) → gathered fetched (micro_of i) ≡ reads_of i
fetched-micro (insn.Alu op w to from) = fetched-alu_or_same (with_itself op) op w to from
fetched-micro (insn.One op w at) = fetched-one op w at
fetched-micro (insn.Convert kind) = fetched-convert kind
fetched-micro (insn.Plain kind) = fetched-plain kind
fetched-micro (insn.Pop to) = simp (gathered-append, fetched-place, fetched-write) (ap (λ v. Rsp ∷ v) (append-none (place to)))
fetched-micro _ = simp (gathered-append, fetched-value, fetched-place, fetched-address, fetched-write, fetched-count, fetched-bit, append-none)

-- ---- touched

changed-address : {R : Type 0} (m : Mem R) → gathered changed (address_of m) ≡ []
changed-address (At None None d) = refl
changed-address (At None (Some i) d) = refl
changed-address (At (Some b) None d) = refl
changed-address (At (Some b) (Some i) d) = refl
changed-address (Rel r) = refl
changed-address Canary = refl

changed-value : {R : Type 0} (t : Temp) (w : Width) (o : Operand R) → gathered changed (value_of t w o) ≡ []
changed-value t w (operand.Mem m) = simp (gathered-append, changed-address)
changed-value t w _ = refl

changed-place : {R : Type 0} (o : Operand R) → gathered changed (place_of o) ≡ []
changed-place (operand.Mem m) = changed-address m
changed-place _ = refl

changed-write : {R : Type 0} (w : Width) (o : Operand R) (t : Temp) → gathered changed (write_of w o t) ≡ destination o
changed-write w (operand.Byte (Low r)) t = refl
changed-write w (operand.Byte (High r)) t = refl
changed-write w _ t = refl

changed-count : (count : Count) → changed (count_of count) ≡ []
changed-count count.Cl = refl
changed-count (count.Imm c) = refl

changed-alu : {R : Type 0} (op : AluOp) (w : Width) (to from : Operand R) → gathered changed (alu_of op w to from) ≡ touches_alu op to
changed-alu alu.Cmp w to from = simp (gathered-append, changed-value)
changed-alu _ w to from = simp (gathered-append, changed-value, changed-write)

changed-if : {R : Type 0} (borrow same : Bool) (op : AluOp) (w : Width) (to from : Operand R) → touches_alu op to ≡ destination to → gathered changed (if same then same_of borrow w to else alu_of op w to from) ≡ touches_alu op to
changed-if borrow true op w to from e = changed-write w to t2 ∙ sym e
changed-if borrow false op w to from e = changed-alu op w to from

changed-alu_or_same : {R : Type 0} (op : AluOp) (w : Width) (to from : Operand R) → gathered changed (alu_or_same (with_itself op) op w to from) ≡ touches_alu op to
changed-alu_or_same alu.Xor w to from = changed-if false (are_same to from) alu.Xor w to from refl
changed-alu_or_same alu.Sub w to from = changed-if false (are_same to from) alu.Sub w to from refl
changed-alu_or_same alu.Sbb w to from = changed-if true (are_same to from) alu.Sbb w to from refl
changed-alu_or_same alu.Cmp w to from = changed-alu alu.Cmp w to from
changed-alu_or_same alu.Add w to from = changed-alu alu.Add w to from
changed-alu_or_same alu.Or w to from = changed-alu alu.Or w to from
changed-alu_or_same alu.Adc w to from = changed-alu alu.Adc w to from
changed-alu_or_same alu.And w to from = changed-alu alu.And w to from

changed-multiply : {R : Type 0} (signed : Bool) (w : Width) (at : Operand R) → gathered changed (multiply_of signed w at) ≡ Rax ∷ half_register w ∷ []
changed-multiply signed B at = simp (gathered-append, changed-value)
changed-multiply signed _ at = simp (gathered-append, changed-value)

changed-divide : {R : Type 0} (signed : Bool) (w : Width) (at : Operand R) → gathered changed (divide_of signed w at) ≡ Rax ∷ half_register w ∷ []
changed-divide signed B at = simp (gathered-append, changed-value)
changed-divide signed _ at = simp (gathered-append, changed-value)

changed-one : {R : Type 0} (op : OneOp) (w : Width) (at : Operand R) → gathered changed (one_of op w at) ≡ touches_one op w at
changed-one one.Mul w at = changed-multiply false w at
changed-one one.Imul w at = changed-multiply true w at
changed-one one.Div w at = changed-divide false w at
changed-one one.Idiv w at = changed-divide true w at
changed-one _ w at = simp (gathered-append, changed-value, changed-write)

changed-bit : {R : Type 0} (op : BitOp) (w : Width) (at : Operand R) → gathered changed (bit_write op w at) ≡ touches_bit op at
changed-bit Bt w at = refl
changed-bit _ w at = changed-write w at t2

changed-convert : (kind : Convert) → gathered changed (convert_of kind) ≡ touches_convert kind
changed-convert Cbtw = refl
changed-convert _ = refl

changed-plain : (kind : Plain) → gathered changed (plain_of kind) ≡ []
changed-plain plain.Nop = refl
changed-plain _ = refl

-- what an instruction touches is what its small operations put
pub changed-micro : {R : Type 0} (i : Insn R) → gathered changed (micro_of i) ≡ touches_of i
changed-micro (insn.Alu op w to from) = changed-alu_or_same op w to from
changed-micro (insn.One op w at) = changed-one op w at
changed-micro (insn.Convert kind) = changed-convert kind
changed-micro (insn.Plain kind) = changed-plain kind
changed-micro _ = simp (gathered-append, changed-value, changed-place, changed-address, changed-write, changed-count, changed-bit, append-none)

-- ---- written whole

whole-address : {R : Type 0} (m : Mem R) → gathered put_whole (address_of m) ≡ []
whole-address (At None None d) = refl
whole-address (At None (Some i) d) = refl
whole-address (At (Some b) None d) = refl
whole-address (At (Some b) (Some i) d) = refl
whole-address (Rel r) = refl
whole-address Canary = refl

whole-value : {R : Type 0} (t : Temp) (w : Width) (o : Operand R) → gathered put_whole (value_of t w o) ≡ []
whole-value t w (operand.Mem m) = simp (gathered-append, whole-address)
whole-value t w _ = refl

whole-place : {R : Type 0} (o : Operand R) → gathered put_whole (place_of o) ≡ []
whole-place (operand.Mem m) = whole-address m
whole-place _ = refl

filled-low : (w : Width) (r : Reg) → filled_part w (Low r) ≡ whole_reg w r
filled-low B r = refl
filled-low _ r = refl

filled-write : {R : Type 0} (w : Width) (o : Operand R) (n : ℕ) → nat_eq n 7 ≡ false → gathered put_whole (write_of w o (temp n)) ≡ whole w o
filled-write B (operand.Reg r) n e = rw e
filled-write B (operand.Byte r) n e = rw e
filled-write B _ n e = refl
filled-write W (operand.Reg r) n e = rw e
filled-write W (operand.Byte r) n e = rw e
filled-write W _ n e = refl
filled-write L (operand.Reg r) n e = rw e
filled-write L (operand.Byte r) n e = rw e (append-none _)
filled-write L _ n e = refl
filled-write Q (operand.Reg r) n e = rw e
filled-write Q (operand.Byte r) n e = rw e (append-none _)
filled-write Q _ n e = refl

whole-write0 : {R : Type 0} (w : Width) (o : Operand R) → gathered put_whole (write_of w o t0) ≡ whole w o
whole-write0 w o = filled-write w o 0 refl

whole-write1 : {R : Type 0} (w : Width) (o : Operand R) → gathered put_whole (write_of w o t1) ≡ whole w o
whole-write1 w o = filled-write w o 1 refl

whole-write2 : {R : Type 0} (w : Width) (o : Operand R) → gathered put_whole (write_of w o t2) ≡ whole w o
whole-write2 w o = filled-write w o 2 refl

whole-byte : {R : Type 0} (o : Operand R) → gathered put_whole (write_of B o t2) ≡ []
whole-byte o = whole-write2 B o

whole-count : (count : Count) → put_whole (count_of count) ≡ []
whole-count count.Cl = refl
whole-count (count.Imm c) = refl

whole-alu_of : {R : Type 0} (op : AluOp) (w : Width) (to from : Operand R) → gathered put_whole (alu_of op w to from) ≡ whole_alu op w to
whole-alu_of alu.Cmp w to from = simp (gathered-append, whole-value)
whole-alu_of _ w to from = simp (gathered-append, whole-value, whole-write2)

whole-if : {R : Type 0} (borrow same : Bool) (op : AluOp) (w : Width) (to from : Operand R) → whole_alu op w to ≡ whole w to → gathered put_whole (if same then same_of borrow w to else alu_of op w to from) ≡ whole_alu op w to
whole-if borrow true op w to from e = whole-write2 w to ∙ sym e
whole-if borrow false op w to from e = whole-alu_of op w to from

whole-alu_or_same : {R : Type 0} (op : AluOp) (w : Width) (to from : Operand R) → gathered put_whole (alu_or_same (with_itself op) op w to from) ≡ whole_alu op w to
whole-alu_or_same alu.Xor w to from = whole-if false (are_same to from) alu.Xor w to from refl
whole-alu_or_same alu.Sub w to from = whole-if false (are_same to from) alu.Sub w to from refl
whole-alu_or_same alu.Sbb w to from = whole-if true (are_same to from) alu.Sbb w to from refl
whole-alu_or_same alu.Cmp w to from = whole-alu_of alu.Cmp w to from
whole-alu_or_same alu.Add w to from = whole-alu_of alu.Add w to from
whole-alu_or_same alu.Or w to from = whole-alu_of alu.Or w to from
whole-alu_or_same alu.Adc w to from = whole-alu_of alu.Adc w to from
whole-alu_or_same alu.And w to from = whole-alu_of alu.And w to from

whole-multiply : {R : Type 0} (signed : Bool) (w : Width) (at : Operand R) → gathered put_whole (multiply_of signed w at) ≡ whole_halves w
whole-multiply signed B at = simp (gathered-append, whole-value)
whole-multiply signed _ at = simp (gathered-append, whole-value)

whole-divide : {R : Type 0} (signed : Bool) (w : Width) (at : Operand R) → gathered put_whole (divide_of signed w at) ≡ whole_halves w
whole-divide signed B at = simp (gathered-append, whole-value)
whole-divide signed _ at = simp (gathered-append, whole-value)

whole-one_of : {R : Type 0} (op : OneOp) (w : Width) (at : Operand R) → gathered put_whole (one_of op w at) ≡ whole_one op w at
whole-one_of one.Mul w at = whole-multiply false w at
whole-one_of one.Imul w at = whole-multiply true w at
whole-one_of one.Div w at = whole-divide false w at
whole-one_of one.Idiv w at = whole-divide true w at
whole-one_of _ w at = simp (gathered-append, whole-value, whole-write1)

whole-bit_write : {R : Type 0} (op : BitOp) (w : Width) (at : Operand R) → gathered put_whole (bit_write op w at) ≡ whole_bit op w at
whole-bit_write Bt w at = refl
whole-bit_write _ w at = whole-write2 w at

whole-convert_of : (kind : Convert) → gathered put_whole (convert_of kind) ≡ whole_convert kind
whole-convert_of Cbtw = refl
whole-convert_of _ = refl

whole-plain : (kind : Plain) → gathered put_whole (plain_of kind) ≡ []
whole-plain plain.Nop = refl
whole-plain _ = refl

-- what an instruction writes whole is what its small operations fill
pub whole-micro : {R : Type 0} (i : Insn R) → gathered put_whole (micro_of i) ≡ writes_whole_of i
whole-micro (insn.Alu op w to from) = whole-alu_or_same op w to from
whole-micro (insn.One op w at) = whole-one_of op w at
whole-micro (insn.Convert kind) = whole-convert_of kind
whole-micro (insn.Plain kind) = whole-plain kind
whole-micro _ = simp (gathered-append, whole-value, whole-place, whole-address, whole-write0, whole-write1, whole-write2, whole-byte, whole-count, whole-bit_write, filled-low, append-none)
