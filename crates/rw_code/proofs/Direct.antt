-- The list of an instruction takes its reference as a direct target where it is a jump or call that names its target, and
-- else as an address.
use Rattle.std.proofs.Common.{◌≡◌, List, [], ◌∷◌, ◌++◌, Option, Some, None, Bool, true, false, refl, sym, ap, ◌∙◌, if◌then◌else◌}
use Rattle.std.specs.Prelude.{◌||◌}
use Rattle.std.specs.List.{list_any}
use Rattle.std.proofs.lemmas.List.Folds.{list_any-append}
use Rattle.rw_base.specs.declared.width.Width.{Width}
use Rattle.rw_base.specs.declared.width.Width.TheVariants.{B, Q}
use Rattle.x86_insn.specs.declared.kinds.AluOp.{AluOp}
use Rattle.x86_insn.specs.declared.kinds.OneOp.{OneOp}
use Rattle.x86_insn.specs.declared.kinds.OneOp.TheVariants as one
use Rattle.x86_insn.specs.declared.kinds.BitOp.{BitOp}
use Rattle.x86_insn.specs.declared.kinds.BitOp.TheVariants as bit
use Rattle.x86_insn.specs.declared.kinds.Count.{Count}
use Rattle.x86_insn.specs.declared.kinds.Count.TheVariants as count
use Rattle.x86_insn.specs.declared.kinds.Convert.{Convert}
use Rattle.x86_insn.specs.declared.kinds.Convert.TheVariants.{Cbtw, Cwtl, Cltq, Cwtd, Cltd, Cqto}
use Rattle.x86_insn.specs.declared.kinds.Plain.{Plain}
use Rattle.x86_insn.specs.declared.kinds.Plain.TheVariants as plain
use Rattle.x86_insn.specs.declared.kinds.ShiftOp.{ShiftOp}
use Rattle.x86_insn.specs.declared.operands.Mem.{Mem}
use Rattle.x86_insn.specs.declared.operands.Mem.TheVariants.{At, Rel, Canary}
use Rattle.x86_insn.specs.declared.operands.Operand.{Operand}
use Rattle.x86_insn.specs.declared.operands.Operand.TheVariants as operand
use Rattle.x86_insn.specs.declared.instruction.Insn.{Insn}
use Rattle.x86_insn.specs.declared.instruction.Insn.TheVariants as insn
use Rattle.x86_meaning.specs.declared.operations.Temp.{Temp}
use Rattle.x86_meaning.specs.declared.operations.Micro.{Micro}
use Rattle.x86_meaning.specs.declared.operations.Micro.TheVariants.{Num, Same, Choose}
use Rattle.x86_meaning.specs.Meaning.{micro_of, pop_of, address_of, value_of, place_of, write_of, are_same, with_itself, writes_result, alu_of, alu_or_same, one_of, bit_write, shift_of, convert_of, number_move_of, plain_of, swap_of, t0, t1, t2}
use Rattle.rw_machine.specs.Operations.{takes_reference}
use Rattle.rw_refs.specs.CodeReferences.{is_direct}

-- no operation takes a direct target
record IsIndirect (ms : List Micro) : Type 0 where
  pub none : list_any (takes_reference true) ms ≡ false

both : {xs ys : List Micro} → IsIndirect xs → IsIndirect ys → IsIndirect (xs ++ ys)
both {xs} {ys} p q = record { none = list_any-append (takes_reference true) xs ys ∙ ap (λ t. t || list_any (takes_reference true) ys) p.none ∙ q.none }

if-either : {xs ys : List Micro} (t : Bool) → IsIndirect xs → IsIndirect ys → IsIndirect (if t then xs else ys)
if-either true p q = p
if-either false p q = q

address-indirect : {R : Type 0} (m : Mem R) → IsIndirect (address_of m)
address-indirect (At None None disp) = record { none = refl }
address-indirect (At (Some base) None disp) = record { none = refl }
address-indirect (At None (Some (index, scale)) disp) = record { none = refl }
address-indirect (At (Some base) (Some (index, scale)) disp) = record { none = refl }
address-indirect (Rel r) = record { none = refl }
address-indirect Canary = record { none = refl }

value-indirect : {R : Type 0} (t : Temp) (w : Width) (o : Operand R) → IsIndirect (value_of t w o)
value-indirect t w (operand.Reg r) = record { none = refl }
value-indirect t w (operand.Byte r) = record { none = refl }
value-indirect t w (operand.Mem m) = both (address-indirect m) (record { none = refl })
value-indirect t w (operand.Imm v) = record { none = refl }

place-indirect : {R : Type 0} (o : Operand R) → IsIndirect (place_of o)
place-indirect (operand.Reg r) = record { none = refl }
place-indirect (operand.Byte r) = record { none = refl }
place-indirect (operand.Mem m) = address-indirect m
place-indirect (operand.Imm v) = record { none = refl }

write-indirect : {R : Type 0} (w : Width) (o : Operand R) (t : Temp) → IsIndirect (write_of w o t)
write-indirect w (operand.Reg r) t = record { none = refl }
write-indirect w (operand.Byte r) t = record { none = refl }
write-indirect w (operand.Mem m) t = record { none = refl }
write-indirect w (operand.Imm v) t = record { none = refl }

alu-indirect : {R : Type 0} (op : AluOp) (w : Width) (to from : Operand R) → IsIndirect (alu_of op w to from)
alu-indirect op w to from =
    both (both (both (value-indirect t1 w from) (value-indirect t0 w to)) (record { none = refl })) (if-either (writes_result op) (write-indirect w to t2) (record { none = refl }))

alu-or-same-indirect : {R : Type 0} (same : Option Bool) (op : AluOp) (w : Width) (to from : Operand R) → IsIndirect (alu_or_same same op w to from)
alu-or-same-indirect None op w to from = alu-indirect op w to from
alu-or-same-indirect (Some borrow) op w to from = if-either (are_same to from) (both {xs = Same borrow w t2 ∷ []} (record { none = refl }) (write-indirect w to t2)) (alu-indirect op w to from)

one-indirect : {R : Type 0} (op : OneOp) (w : Width) (at : Operand R) → IsIndirect (one_of op w at)
one-indirect one.Mul w at = both (value-indirect t0 w at) (record { none = refl })
one-indirect one.Imul w at = both (value-indirect t0 w at) (record { none = refl })
one-indirect one.Div w at = both (value-indirect t0 w at) (record { none = refl })
one-indirect one.Idiv w at = both (value-indirect t0 w at) (record { none = refl })
one-indirect one.Inc w at = both (both (value-indirect t0 w at) (record { none = refl })) (write-indirect w at t1)
one-indirect one.Dec w at = both (both (value-indirect t0 w at) (record { none = refl })) (write-indirect w at t1)
one-indirect one.Not w at = both (both (value-indirect t0 w at) (record { none = refl })) (write-indirect w at t1)
one-indirect one.Neg w at = both (both (value-indirect t0 w at) (record { none = refl })) (write-indirect w at t1)

shift-indirect : {R : Type 0} (op : ShiftOp) (w : Width) (at : Operand R) (n : Count) → IsIndirect (shift_of op w at n)
shift-indirect op w at count.Cl = both (both (value-indirect t0 w at) (record { none = refl })) (write-indirect w at t2)
shift-indirect op w at (count.Imm c) = both (both (value-indirect t0 w at) (record { none = refl })) (write-indirect w at t2)

bit-indirect : {R : Type 0} (op : BitOp) (w : Width) (at : Operand R) → IsIndirect (bit_write op w at)
bit-indirect bit.Bt w at = record { none = refl }
bit-indirect bit.Bts w at = write-indirect w at t2
bit-indirect bit.Btr w at = write-indirect w at t2
bit-indirect bit.Btc w at = write-indirect w at t2

convert-indirect : (kind : Convert) → IsIndirect (convert_of kind)
convert-indirect Cbtw = record { none = refl }
convert-indirect Cwtl = record { none = refl }
convert-indirect Cltq = record { none = refl }
convert-indirect Cwtd = record { none = refl }
convert-indirect Cltd = record { none = refl }
convert-indirect Cqto = record { none = refl }

plain-indirect : (kind : Plain) → IsIndirect (plain_of kind)
plain-indirect plain.Ud2 = record { none = refl }
plain-indirect plain.Int3 = record { none = refl }
plain-indirect plain.Hlt = record { none = refl }
plain-indirect plain.Nop = record { none = refl }
plain-indirect plain.Pause = record { none = refl }
plain-indirect plain.Endbr64 = record { none = refl }

as-address : (ms : List Micro) → IsIndirect ms → (direct : Bool) → list_any (takes_reference direct) ms ≡ true → direct ≡ false
as-address ms h true e = absurd (let none = sym h.none ∙ e in cc)
as-address ms h false e = refl

pub taken-as : {R : Type 0} (i : Insn R) (direct : Bool) → list_any (takes_reference direct) (micro_of i) ≡ true → direct ≡ is_direct i
taken-as (insn.Alu op w to from) direct e = as-address _ (alu-or-same-indirect (with_itself op) op w to from) direct e
taken-as (insn.Test w x by) direct e = as-address _ (both (both (value-indirect t0 w x) (value-indirect t1 w by)) (record { none = refl })) direct e
taken-as (insn.Xchg w x g) direct e = as-address _ (both (both (both (value-indirect t0 w x) (value-indirect t1 w g)) (write-indirect w x t1)) (write-indirect w g t0)) direct e
taken-as (insn.Mov w to from) direct e = as-address _ (both (both (value-indirect t0 w from) (place-indirect to)) (write-indirect w to t0)) direct e
taken-as (insn.MovAbs to v) direct e = as-address (number_move_of to v) (record { none = refl }) direct e
taken-as (insn.MovZx from_w w to from) direct e = as-address _ (both (value-indirect t0 from_w from) (record { none = refl })) direct e
taken-as (insn.MovSx from_w w to from) direct e = as-address _ (both (value-indirect t0 from_w from) (record { none = refl })) direct e
taken-as (insn.Lea w to at) direct e = as-address _ (both (address-indirect at) (record { none = refl })) direct e
taken-as (insn.Push from) direct e = as-address _ (both (value-indirect t0 Q from) (record { none = refl })) direct e
taken-as (insn.Pop to) direct e = as-address _ (both (both {xs = pop_of t0} (record { none = refl }) (place-indirect to)) (write-indirect Q to t0)) direct e
taken-as (insn.Imul2 w to from) direct e = as-address _ (both (value-indirect t0 w from) (record { none = refl })) direct e
taken-as (insn.Imul3 w to from by) direct e = as-address _ (both (value-indirect t0 w from) (record { none = refl })) direct e
taken-as (insn.One op w at) direct e = as-address _ (one-indirect op w at) direct e
taken-as (insn.Shift op w at n) direct e = as-address _ (shift-indirect op w at n) direct e
taken-as (insn.Convert kind) direct e = as-address _ (convert-indirect kind) direct e
taken-as (insn.Movs w rep) true e = absurd cc
taken-as (insn.Movs w rep) false e = absurd cc
taken-as (insn.Stos w rep) true e = absurd cc
taken-as (insn.Stos w rep) false e = absurd cc
taken-as (insn.Cmov cond w to from) direct e = as-address _ (both (value-indirect t0 w from) (record { none = refl })) direct e
taken-as (insn.Setcc cond to) direct e = as-address _ (both (both {xs = Num t0 B 1 ∷ Num t1 B 0 ∷ Choose cond t2 t0 t1 ∷ []} (record { none = refl }) (place-indirect to)) (write-indirect B to t2)) direct e
taken-as (insn.Bit op w at index) direct e = as-address _ (both (both (both (value-indirect t0 w at) (value-indirect t1 w index)) (record { none = refl })) (bit-indirect op w at)) direct e
taken-as (insn.Scan op w to from) direct e = as-address _ (both (value-indirect t0 w from) (record { none = refl })) direct e
taken-as (insn.Bswap w r) direct e = as-address (swap_of w r) (record { none = refl }) direct e
taken-as (insn.Jcc cond to) true e = refl
taken-as (insn.Jcc cond to) false e = absurd cc
taken-as (insn.Jmp to) true e = refl
taken-as (insn.Jmp to) false e = absurd cc
taken-as (insn.Call to) true e = refl
taken-as (insn.Call to) false e = absurd cc
taken-as (insn.JmpTo to notrack) direct e = as-address _ (both (value-indirect t0 Q to) (record { none = refl })) direct e
taken-as (insn.CallTo to notrack) direct e = as-address _ (both (value-indirect t0 Q to) (record { none = refl })) direct e
taken-as insn.Ret true e = absurd cc
taken-as insn.Ret false e = absurd cc
taken-as insn.Leave true e = absurd cc
taken-as insn.Leave false e = absurd cc
taken-as insn.Syscall true e = absurd cc
taken-as insn.Syscall false e = absurd cc
taken-as (insn.Plain kind) direct e = as-address _ (plain-indirect kind) direct e
