-- The shape of the list of an instruction: where its shift that sets flags, its string step, its jump, its direct target, its trap
-- or its system call stands. All its other operations are plain.
use Rattle.std.proofs.Common.{◌≡◌, List, [], ◌∷◌, ◌++◌, Option, Some, None, Bool, true, false, not, ◌||◌, refl, ◌∙◌, if◌then◌else◌}
use Rattle.std.specs.List.{list_all, list_any}
use Rattle.std.proofs.lemmas.Bool.{and_parts, or_from}
use Rattle.std.proofs.lemmas.List.Folds.{list_any-append}
use Rattle.rw_base.proofs.Lists.{list_all-append_true}
use Rattle.rw_base.specs.declared.width.Width.{Width}
use Rattle.rw_base.specs.declared.width.Width.TheVariants.{B, Q}
use Rattle.x86_insn.specs.declared.kinds.AluOp.{AluOp}
use Rattle.x86_insn.specs.declared.kinds.OneOp.{OneOp}
use Rattle.x86_insn.specs.declared.kinds.OneOp.TheVariants as one
use Rattle.x86_insn.specs.declared.kinds.ShiftOp.{ShiftOp}
use Rattle.x86_insn.specs.declared.kinds.BitOp.{BitOp}
use Rattle.x86_insn.specs.declared.kinds.BitOp.TheVariants as bit
use Rattle.x86_insn.specs.declared.kinds.Cond.{Cond}
use Rattle.x86_insn.specs.declared.kinds.Count.{Count}
use Rattle.x86_insn.specs.declared.kinds.Count.TheVariants as count
use Rattle.x86_insn.specs.declared.kinds.Convert.{Convert}
use Rattle.x86_insn.specs.declared.kinds.Convert.TheVariants.{Cbtw, Cwtl, Cltq, Cwtd, Cltd, Cqto}
use Rattle.x86_insn.specs.declared.kinds.Plain.{Plain}
use Rattle.x86_insn.specs.declared.kinds.Plain.TheVariants as plain
use Rattle.x86_insn.specs.declared.operands.Mem.{Mem}
use Rattle.x86_insn.specs.declared.operands.Mem.TheVariants.{At, Rel, Canary}
use Rattle.x86_insn.specs.declared.operands.Operand.{Operand}
use Rattle.x86_insn.specs.declared.operands.Operand.TheVariants as operand
use Rattle.x86_insn.specs.declared.instruction.Insn.{Insn}
use Rattle.x86_insn.specs.declared.instruction.Insn.TheVariants as insn
use Rattle.x86_meaning.specs.declared.operations.Temp.{Temp}
use Rattle.x86_meaning.specs.declared.operations.Micro.{Micro}
use Rattle.x86_meaning.specs.declared.operations.Micro.TheVariants.{Num, Ref, Shift, Same, Choose, Go, Elements, Trap, System}
use Rattle.x86_meaning.specs.Meaning.{micro_of, pop_of, address_of, value_of, place_of, write_of, are_same, with_itself, writes_result, alu_of, alu_or_same, one_of, bit_write, count_of, shift_of, convert_of, jump_of, plain_of, t0, t1, t2}

-- ---- plain operations

abbrev pub is_plain : Micro → Bool
is_plain (Ref _ direct) = not direct
is_plain (Shift _ _ _ _ _ flags) = not flags
is_plain (Go _ _) = false
is_plain (Elements _ _ _) = false
is_plain (Trap _) = false
is_plain System = false
is_plain _ = true

pub record ArePlain (ms : List Micro) : Type 0 where
  pub all : list_all is_plain ms ≡ true

-- what fails for two lists fails for both in a row
pub none-joined : (test : Micro → Bool) (xs ys : List Micro) → list_any test xs ≡ false → list_any test ys ≡ false → list_any test (xs ++ ys) ≡ false
none-joined test xs ys h k = list_any-append test xs ys ∙ or_from (list_any test xs) (list_any test ys) h k

-- a test that fails for each plain operation fails for all of a plain list
pub none-plain : (test : Micro → Bool) → ((m : Micro) → is_plain m ≡ true → test m ≡ false) → (ms : List Micro) → ArePlain ms → list_any test ms ≡ false
none-plain test each [] h = refl
none-plain test each (m ∷ ms) h =
    let parts = and_parts (is_plain m) (list_all is_plain ms) h.all in
    or_from (test m) (list_any test ms) (each m parts.0) (none-plain test each ms (record { all = parts.1 }))

both : {xs ys : List Micro} → ArePlain xs → ArePlain ys → ArePlain (xs ++ ys)
both {xs} {ys} p q = record { all = list_all-append_true is_plain xs ys p.all q.all }

if-either : {xs ys : List Micro} (t : Bool) → ArePlain xs → ArePlain ys → ArePlain (if t then xs else ys)
if-either true p q = p
if-either false p q = q

-- ---- parts that the rows share

address-plain : {R : Type 0} (m : Mem R) → ArePlain (address_of m)
address-plain (At None None disp) = record { all = refl }
address-plain (At (Some base) None disp) = record { all = refl }
address-plain (At None (Some (index, scale)) disp) = record { all = refl }
address-plain (At (Some base) (Some (index, scale)) disp) = record { all = refl }
address-plain (Rel r) = record { all = refl }
address-plain Canary = record { all = refl }

value-plain : {R : Type 0} (t : Temp) (w : Width) (o : Operand R) → ArePlain (value_of t w o)
value-plain t w (operand.Reg r) = record { all = refl }
value-plain t w (operand.Byte r) = record { all = refl }
value-plain t w (operand.Mem m) = both (address-plain m) (record { all = refl })
value-plain t w (operand.Imm v) = record { all = refl }

place-plain : {R : Type 0} (o : Operand R) → ArePlain (place_of o)
place-plain (operand.Reg r) = record { all = refl }
place-plain (operand.Byte r) = record { all = refl }
place-plain (operand.Mem m) = address-plain m
place-plain (operand.Imm v) = record { all = refl }

write-plain : {R : Type 0} (w : Width) (o : Operand R) (t : Temp) → ArePlain (write_of w o t)
write-plain w (operand.Reg r) t = record { all = refl }
write-plain w (operand.Byte r) t = record { all = refl }
write-plain w (operand.Mem m) t = record { all = refl }
write-plain w (operand.Imm v) t = record { all = refl }

alu-plain : {R : Type 0} (op : AluOp) (w : Width) (to from : Operand R) → ArePlain (alu_of op w to from)
alu-plain op w to from =
    both (both (both (value-plain t1 w from) (value-plain t0 w to)) (record { all = refl })) (if-either (writes_result op) (write-plain w to t2) (record { all = refl }))

alu-or-same-plain : {R : Type 0} (same : Option Bool) (op : AluOp) (w : Width) (to from : Operand R) → ArePlain (alu_or_same same op w to from)
alu-or-same-plain None op w to from = alu-plain op w to from
alu-or-same-plain (Some borrow) op w to from = if-either (are_same to from) (both {xs = Same borrow w t2 ∷ []} (record { all = refl }) (write-plain w to t2)) (alu-plain op w to from)

one-plain : {R : Type 0} (op : OneOp) (w : Width) (at : Operand R) → ArePlain (one_of op w at)
one-plain one.Mul w at = both (value-plain t0 w at) (record { all = refl })
one-plain one.Imul w at = both (value-plain t0 w at) (record { all = refl })
one-plain one.Div w at = both (value-plain t0 w at) (record { all = refl })
one-plain one.Idiv w at = both (value-plain t0 w at) (record { all = refl })
one-plain one.Inc w at = both (both (value-plain t0 w at) (record { all = refl })) (write-plain w at t1)
one-plain one.Dec w at = both (both (value-plain t0 w at) (record { all = refl })) (write-plain w at t1)
one-plain one.Not w at = both (both (value-plain t0 w at) (record { all = refl })) (write-plain w at t1)
one-plain one.Neg w at = both (both (value-plain t0 w at) (record { all = refl })) (write-plain w at t1)

bit-plain : {R : Type 0} (op : BitOp) (w : Width) (at : Operand R) → ArePlain (bit_write op w at)
bit-plain bit.Bt w at = record { all = refl }
bit-plain bit.Bts w at = write-plain w at t2
bit-plain bit.Btr w at = write-plain w at t2
bit-plain bit.Btc w at = write-plain w at t2

convert-plain : (kind : Convert) → ArePlain (convert_of kind)
convert-plain Cbtw = record { all = refl }
convert-plain Cwtl = record { all = refl }
convert-plain Cltq = record { all = refl }
convert-plain Cwtd = record { all = refl }
convert-plain Cltd = record { all = refl }
convert-plain Cqto = record { all = refl }

-- ---- instructions

-- a direct jump, with its condition and its target
abbrev pub jump_with : {R : Type 0} → Option Cond → R → Insn R
jump_with None to = insn.Jmp to
jump_with (Some cond) to = insn.Jcc cond to

pub jump-list : {R : Type 0} (cond : Option Cond) (to : R) → micro_of (jump_with cond to) ≡ jump_of cond
jump-list None to = refl
jump-list (Some cond) to = refl

-- the plain instructions that end a run
abbrev pub IsEnd : Plain → Type 0
IsEnd plain.Ud2 = Unit {0}
IsEnd plain.Int3 = Unit {0}
IsEnd plain.Hlt = Unit {0}
IsEnd _ = ⊥

-- a test that fails for each plain operation and for each shift fails for the list of a shift
pub none-shift : (test : Micro → Bool) → ((m : Micro) → is_plain m ≡ true → test m ≡ false) → ((op : ShiftOp) (w : Width) → test (Shift op w t2 t0 t1 true) ≡ false)
    → {R : Type 0} (op : ShiftOp) (w : Width) (at : Operand R) (n : Count) → list_any test (shift_of op w at n) ≡ false
none-shift test each shift op w at n =
    none-joined test (value_of t0 w at ++ count_of n ∷ Shift op w t2 t0 t1 true ∷ []) (write_of w at t2)
    (none-joined test (value_of t0 w at) (count_of n ∷ Shift op w t2 t0 t1 true ∷ []) (none-plain test each _ (value-plain t0 w at))
    (or_from (test (count_of n)) (test (Shift op w t2 t0 t1 true) || false) (each (count_of n) (count-plain n)) (or_from (test (Shift op w t2 t0 t1 true)) false (shift op w) refl)))
    (none-plain test each _ (write-plain w at t2))
  where
    count-plain : (n : Count) → is_plain (count_of n) ≡ true
    count-plain count.Cl = refl
    count-plain (count.Imm c) = refl

-- what is to be shown of each shape
pub record OfEachShape {R : Type 0} (P : Insn R → Type 0) : Type 0 where
  pub all_plain : (i : Insn R) → ArePlain (micro_of i) → P i
  pub shift : (op : ShiftOp) (w : Width) (at : Operand R) (n : Count) → ArePlain (value_of t0 w at) → ArePlain (write_of w at t2) → P (insn.Shift op w at n)
  pub strings : (i : Insn R) (moves : Bool) (w : Width) (rep : Bool) → micro_of i ≡ Elements moves w rep ∷ [] → P i
  pub jump : (cond : Option Cond) (to : R) → P (jump_with cond to)
  pub call : (to : R) → P (insn.Call to)
  pub jump_to : (to : Operand R) (notrack : Bool) → ArePlain (value_of t0 Q to) → P (insn.JmpTo to notrack)
  pub call_to : (to : Operand R) (notrack : Bool) → ArePlain (value_of t0 Q to) → P (insn.CallTo to notrack)
  pub return : P insn.Ret
  pub system : P insn.Syscall
  pub trap : (kind : Plain) → IsEnd kind → plain_of kind ≡ Trap kind ∷ [] → P (insn.Plain kind)

-- it holds of each instruction then
pub by-shape : {R : Type 0} (P : Insn R → Type 0) → OfEachShape P → (i : Insn R) → P i
by-shape P s (insn.Alu op w to from) = s.all_plain _ (alu-or-same-plain (with_itself op) op w to from)
by-shape P s (insn.Test w e by) = s.all_plain _ (both (both (value-plain t0 w e) (value-plain t1 w by)) (record { all = refl }))
by-shape P s (insn.Xchg w e g) = s.all_plain _ (both (both (both (value-plain t0 w e) (value-plain t1 w g)) (write-plain w e t1)) (write-plain w g t0))
by-shape P s (insn.Mov w to from) = s.all_plain _ (both (both (value-plain t0 w from) (place-plain to)) (write-plain w to t0))
by-shape P s (insn.MovAbs to v) = s.all_plain _ (record { all = refl })
by-shape P s (insn.MovZx from_w w to from) = s.all_plain _ (both (value-plain t0 from_w from) (record { all = refl }))
by-shape P s (insn.MovSx from_w w to from) = s.all_plain _ (both (value-plain t0 from_w from) (record { all = refl }))
by-shape P s (insn.Lea w to at) = s.all_plain _ (both (address-plain at) (record { all = refl }))
by-shape P s (insn.Push from) = s.all_plain _ (both (value-plain t0 Q from) (record { all = refl }))
by-shape P s (insn.Pop to) = s.all_plain _ (both (both {xs = pop_of t0} (record { all = refl }) (place-plain to)) (write-plain Q to t0))
by-shape P s (insn.Imul2 w to from) = s.all_plain _ (both (value-plain t0 w from) (record { all = refl }))
by-shape P s (insn.Imul3 w to from by) = s.all_plain _ (both (value-plain t0 w from) (record { all = refl }))
by-shape P s (insn.One op w at) = s.all_plain _ (one-plain op w at)
by-shape P s (insn.Shift op w at n) = s.shift op w at n (value-plain t0 w at) (write-plain w at t2)
by-shape P s (insn.Convert kind) = s.all_plain _ (convert-plain kind)
by-shape P s (insn.Movs w rep) = s.strings _ true w rep refl
by-shape P s (insn.Stos w rep) = s.strings _ false w rep refl
by-shape P s (insn.Cmov cond w to from) = s.all_plain _ (both (value-plain t0 w from) (record { all = refl }))
by-shape P s (insn.Setcc cond to) = s.all_plain _ (both (both {xs = Num t0 B 1 ∷ Num t1 B 0 ∷ Choose cond t2 t0 t1 ∷ []} (record { all = refl }) (place-plain to)) (write-plain B to t2))
by-shape P s (insn.Bit op w at index) = s.all_plain _ (both (both (both (value-plain t0 w at) (value-plain t1 w index)) (record { all = refl })) (bit-plain op w at))
by-shape P s (insn.Scan op w to from) = s.all_plain _ (both (value-plain t0 w from) (record { all = refl }))
by-shape P s (insn.Bswap w r) = s.all_plain _ (record { all = refl })
by-shape P s (insn.Jcc cond to) = s.jump (Some cond) to
by-shape P s (insn.Jmp to) = s.jump None to
by-shape P s (insn.Call to) = s.call to
by-shape P s (insn.JmpTo to notrack) = s.jump_to to notrack (value-plain t0 Q to)
by-shape P s (insn.CallTo to notrack) = s.call_to to notrack (value-plain t0 Q to)
by-shape P s insn.Ret = s.return
by-shape P s insn.Leave = s.all_plain _ (record { all = refl })
by-shape P s insn.Syscall = s.system
by-shape P s (insn.Plain plain.Ud2) = s.trap plain.Ud2 tt refl
by-shape P s (insn.Plain plain.Int3) = s.trap plain.Int3 tt refl
by-shape P s (insn.Plain plain.Hlt) = s.trap plain.Hlt tt refl
by-shape P s (insn.Plain plain.Nop) = s.all_plain _ (record { all = refl })
by-shape P s (insn.Plain plain.Pause) = s.all_plain _ (record { all = refl })
by-shape P s (insn.Plain plain.Endbr64) = s.all_plain _ (record { all = refl })
