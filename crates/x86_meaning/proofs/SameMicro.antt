-- An instruction does the same small operations whatever its reference is.
use Rattle.std.proofs.Common.{◌≡◌, [], ◌∷◌, ◌++◌, Option, Some, None, Bool, true, false, cond, refl, ap, ◌∙◌}
use Rattle.rw_base.specs.declared.width.Width.{Width}
use Rattle.rw_base.specs.declared.width.Width.TheVariants.{B, Q}
use Rattle.x86_insn.specs.declared.kinds.Reg.TheVariants.{Rax}
use Rattle.x86_insn.specs.declared.kinds.Reg8.TheVariants.{Low}
use Rattle.x86_insn.specs.declared.kinds.AluOp.{AluOp}
use Rattle.x86_insn.specs.declared.kinds.AluOp.TheVariants as alu
use Rattle.x86_insn.specs.declared.kinds.OneOp.{OneOp}
use Rattle.x86_insn.specs.declared.kinds.OneOp.TheVariants as one
use Rattle.x86_insn.specs.declared.kinds.BitOp.{BitOp}
use Rattle.x86_insn.specs.declared.kinds.BitOp.TheVariants.{Bt, Bts, Btr, Btc}
use Rattle.x86_insn.specs.declared.operands.Mem.{Mem}
use Rattle.x86_insn.specs.declared.operands.Mem.TheVariants.{At, Rel, Canary}
use Rattle.x86_insn.specs.declared.operands.Operand.{Operand}
use Rattle.x86_insn.specs.declared.operands.Operand.TheVariants as operand
use Rattle.x86_insn.specs.declared.instruction.Insn.{Insn}
use Rattle.x86_insn.specs.declared.instruction.Insn.TheVariants as insn
use Rattle.x86_insn.specs.References.{map_mem, map_operand, map_references}
use Rattle.x86_meaning.specs.declared.operations.Temp.{Temp}
use Rattle.x86_meaning.specs.declared.operations.Micro.TheVariants.{Get, Put, Num, Load, Alu, One, Shift, Mul, Div, Extend, Bit, Scan, Choose, Go, Same}
use Rattle.x86_meaning.specs.Meaning.{t0, t1, t2, t3, t4, address_of, number_of, value_of, place_of, write_of, are_same, with_itself, writes_result, alu_of, alu_or_same, bit_write, push_of, pop_of, call_of, high_half, count_of, micro_of}

two : {A B T : Type 0} (f : A → B → T) {a c : A} {b d : B} → a ≡ c → b ≡ d → f a b ≡ f c d
two f {a} {c} {b} {d} h k = ap (λ x. f x b) h ∙ ap (λ y. f c y) k

three : {A B C T : Type 0} (f : A → B → C → T) {a u : A} {b v : B} {c w : C} → a ≡ u → b ≡ v → c ≡ w → f a b c ≡ f u v w
three f {a} {u} {b} {v} {c} {w} h k m = ap (λ x. f x b c) h ∙ (ap (λ y. f u y c) k ∙ ap (λ z. f u v z) m)

module _ {R S : Type 0} (f : R → S) where
  address : (m : Mem R) → address_of (map_mem f m) ≡ address_of m
  address (At base index disp) = refl
  address (Rel r) = refl
  address Canary = refl

  value : (t : Temp) (w : Width) (o : Operand R) → value_of t w (map_operand f o) ≡ value_of t w o
  value t w (operand.Reg r) = refl
  value t w (operand.Byte r) = refl
  value t w (operand.Mem m) = ap (λ a. a ++ Load t w t4 ∷ []) (address m)
  value t w (operand.Imm v) = refl

  place : (o : Operand R) → place_of (map_operand f o) ≡ place_of o
  place (operand.Reg r) = refl
  place (operand.Byte r) = refl
  place (operand.Mem m) = address m
  place (operand.Imm v) = refl

  write : (w : Width) (o : Operand R) (t : Temp) → write_of w (map_operand f o) t ≡ write_of w o t
  write w (operand.Reg r) t = refl
  write w (operand.Byte r) t = refl
  write w (operand.Mem m) t = refl
  write w (operand.Imm v) t = refl

  same : (a b : Operand R) → are_same (map_operand f a) (map_operand f b) ≡ are_same a b
  same (operand.Reg a) (operand.Reg b) = refl
  same (operand.Byte a) (operand.Byte b) = refl
  same (operand.Reg a) (operand.Byte b) = refl
  same (operand.Reg a) (operand.Mem b) = refl
  same (operand.Reg a) (operand.Imm b) = refl
  same (operand.Byte a) (operand.Reg b) = refl
  same (operand.Byte a) (operand.Mem b) = refl
  same (operand.Byte a) (operand.Imm b) = refl
  same (operand.Mem a) b = refl
  same (operand.Imm a) b = refl

  alu_same : (op : AluOp) (w : Width) (to from : Operand R) → alu_of op w (map_operand f to) (map_operand f from) ≡ alu_of op w to from
  alu_same op w to from =
      three (λ a b c. a ++ b ++ Alu op w t2 t0 t1 ∷ [] ++ cond (writes_result op) c []) (value t1 w from) (value t0 w to) (write w to t2)

  alu_or : (o : Option Bool) (op : AluOp) (w : Width) (to from : Operand R) → alu_or_same o op w (map_operand f to) (map_operand f from) ≡ alu_or_same o op w to from
  alu_or None op w to from = alu_same op w to from
  alu_or (Some borrow) op w to from =
      three (λ t a b. cond t a b) (same to from) (ap (λ c. Same borrow w t2 ∷ c) (write w to t2)) (alu_same op w to from)

  bit_same : (op : BitOp) (w : Width) (at : Operand R) → bit_write op w (map_operand f at) ≡ bit_write op w at
  bit_same Bt w at = refl
  bit_same Bts w at = write w at t2
  bit_same Btr w at = write w at t2
  bit_same Btc w at = write w at t2

  multiply : (signed : Bool) (w : Width) (at : Operand R) → value_of t0 w (map_operand f at) ++ Get t1 w (Low Rax) ∷ Mul signed w t2 t3 t1 t0 ∷ Put w (Low Rax) t2 ∷ Put w (high_half w) t3 ∷ [] ≡ value_of t0 w at ++ Get t1 w (Low Rax) ∷ Mul signed w t2 t3 t1 t0 ∷ Put w (Low Rax) t2 ∷ Put w (high_half w) t3 ∷ []
  multiply signed w at = ap (λ a. a ++ Get t1 w (Low Rax) ∷ Mul signed w t2 t3 t1 t0 ∷ Put w (Low Rax) t2 ∷ Put w (high_half w) t3 ∷ []) (value t0 w at)

  divide : (signed : Bool) (w : Width) (at : Operand R) → value_of t0 w (map_operand f at) ++ Get t1 w (high_half w) ∷ Get t2 w (Low Rax) ∷ Div signed w t2 t3 t1 t2 t0 ∷ Put w (Low Rax) t2 ∷ Put w (high_half w) t3 ∷ [] ≡ value_of t0 w at ++ Get t1 w (high_half w) ∷ Get t2 w (Low Rax) ∷ Div signed w t2 t3 t1 t2 t0 ∷ Put w (Low Rax) t2 ∷ Put w (high_half w) t3 ∷ []
  divide signed w at = ap (λ a. a ++ Get t1 w (high_half w) ∷ Get t2 w (Low Rax) ∷ Div signed w t2 t3 t1 t2 t0 ∷ Put w (Low Rax) t2 ∷ Put w (high_half w) t3 ∷ []) (value t0 w at)

  change : (op : OneOp) (w : Width) (at : Operand R) → value_of t0 w (map_operand f at) ++ One op w t1 t0 ∷ [] ++ write_of w (map_operand f at) t1 ≡ value_of t0 w at ++ One op w t1 t0 ∷ [] ++ write_of w at t1
  change op w at = two (λ a b. a ++ One op w t1 t0 ∷ [] ++ b) (value t0 w at) (write w at t1)

  one_same : (op : OneOp) (w : Width) (at : Operand R) → micro_of (insn.One op w (map_operand f at)) ≡ micro_of (insn.One op w at)
  one_same one.Mul w at = multiply false w at
  one_same one.Imul w at = multiply true w at
  one_same one.Div w at = divide false w at
  one_same one.Idiv w at = divide true w at
  one_same one.Inc w at = change one.Inc w at
  one_same one.Dec w at = change one.Dec w at
  one_same one.Not w at = change one.Not w at
  one_same one.Neg w at = change one.Neg w at

  pub same_micro : (i : Insn R) → micro_of (map_references f i) ≡ micro_of i
  same_micro (insn.Alu op w to from) = alu_or (with_itself op) op w to from
  same_micro (insn.Test w e by) = two (λ a b. a ++ b ++ Alu alu.And w t2 t0 t1 ∷ []) (value t0 w e) (value t1 w by)
  same_micro (insn.Xchg w e g) = two (λ a b. a ++ b) (three (λ a b c. a ++ b ++ c) (value t0 w e) (value t1 w g) (write w e t1)) (write w g t0)
  same_micro (insn.Mov w to from) = three (λ a b c. a ++ b ++ c) (value t0 w from) (place to) (write w to t0)
  same_micro (insn.MovAbs to v) = refl
  same_micro (insn.MovZx from_w w to from) = ap (λ a. a ++ Extend false from_w w t1 t0 ∷ Put w (Low to) t1 ∷ []) (value t0 from_w from)
  same_micro (insn.MovSx from_w w to from) = ap (λ a. a ++ Extend true from_w w t1 t0 ∷ Put w (Low to) t1 ∷ []) (value t0 from_w from)
  same_micro (insn.Lea w to at) = ap (λ a. a ++ Put w (Low to) t4 ∷ []) (address at)
  same_micro (insn.Push from) = ap (λ a. a ++ push_of t0) (value t0 Q from)
  same_micro (insn.Pop to) = two (λ a b. pop_of t0 ++ a ++ b) (place to) (write Q to t0)
  same_micro (insn.Imul2 w to from) = ap (λ a. a ++ Get t1 w (Low to) ∷ Mul true w t2 t3 t1 t0 ∷ Put w (Low to) t2 ∷ []) (value t0 w from)
  same_micro (insn.Imul3 w to from by) = ap (λ a. a ++ Num t1 w (number_of w by) ∷ Mul true w t2 t3 t0 t1 ∷ Put w (Low to) t2 ∷ []) (value t0 w from)
  same_micro (insn.One op w at) = one_same op w at
  same_micro (insn.Shift op w at count) = two (λ a b. a ++ count_of count ∷ Shift op w t2 t0 t1 true ∷ [] ++ b) (value t0 w at) (write w at t2)
  same_micro (insn.Convert kind) = refl
  same_micro (insn.Movs w rep) = refl
  same_micro (insn.Stos w rep) = refl
  same_micro (insn.Cmov c w to from) = ap (λ a. a ++ Get t1 w (Low to) ∷ Choose c t2 t0 t1 ∷ Put w (Low to) t2 ∷ []) (value t0 w from)
  same_micro (insn.Setcc c to) = two (λ a b. Num t0 B 1 ∷ Num t1 B 0 ∷ Choose c t2 t0 t1 ∷ [] ++ a ++ b) (place to) (write B to t2)
  same_micro (insn.Bit op w at index) = three (λ a b c. a ++ b ++ Bit op w t2 t0 t1 ∷ [] ++ c) (value t0 w at) (value t1 w index) (bit_same op w at)
  same_micro (insn.Scan op w to from) = ap (λ a. a ++ Scan op w t1 t0 ∷ Put w (Low to) t1 ∷ []) (value t0 w from)
  same_micro (insn.Bswap w r) = refl
  same_micro (insn.Jcc c to) = refl
  same_micro (insn.Jmp to) = refl
  same_micro (insn.Call to) = refl
  same_micro (insn.JmpTo to notrack) = ap (λ a. a ++ Go None t0 ∷ []) (value t0 Q to)
  same_micro (insn.CallTo to notrack) = ap (λ a. a ++ call_of) (value t0 Q to)
  same_micro insn.Ret = refl
  same_micro insn.Leave = refl
  same_micro insn.Syscall = refl
  same_micro (insn.Plain kind) = refl
