-- The flags of each row are those of its small operations.
use Rattle.std.proofs.Common.{◌≡◌, ℕ, List, [], ◌∷◌, ◌++◌, Some, None, Option, Bool, true, false, refl, sym, ap, ◌∙◌, append_assoc}
use Rattle.std.specs.Prelude.{if◌then◌else◌}
use Rattle.x86_insn.specs.declared.kinds.ShiftOp.{ShiftOp}
use Rattle.rw_base.specs.declared.width.Width.{Width}
use Rattle.x86_insn.specs.declared.kinds.Count.{Count}
use Rattle.x86_insn.specs.declared.kinds.Convert.{Convert}
use Rattle.x86_insn.specs.declared.kinds.Plain.{Plain}
use Rattle.x86_insn.specs.declared.kinds.Count.TheVariants as count
use Rattle.x86_insn.specs.declared.kinds.AluOp.{AluOp}
use Rattle.x86_insn.specs.declared.kinds.AluOp.TheVariants as alu
use Rattle.x86_insn.specs.declared.kinds.OneOp.{OneOp}
use Rattle.x86_insn.specs.declared.kinds.OneOp.TheVariants as one
use Rattle.x86_insn.specs.declared.kinds.BitOp.{BitOp}
use Rattle.x86_insn.specs.declared.kinds.BitOp.TheVariants.{Bt}
use Rattle.x86_insn.specs.declared.kinds.Convert.TheVariants.{Cbtw}
use Rattle.x86_insn.specs.declared.kinds.Plain.TheVariants as plain
use Rattle.x86_insn.specs.declared.operands.Mem.{Mem}
use Rattle.x86_insn.specs.declared.operands.Mem.TheVariants.{At, Rel, Canary}
use Rattle.x86_insn.specs.declared.operands.Operand.{Operand}
use Rattle.x86_insn.specs.declared.operands.Operand.TheVariants as operand
use Rattle.x86_insn.specs.declared.instruction.Insn.{Insn}
use Rattle.x86_insn.specs.declared.instruction.Insn.TheVariants as insn
use Rattle.x86_meaning.specs.declared.operations.Temp.{Temp}
use Rattle.x86_meaning.specs.declared.operations.Micro.{Micro}
use Rattle.x86_meaning.specs.Meaning.{micro_of, value_of, address_of, place_of, write_of, alu_of, same_of, alu_or_same, with_itself, are_same, one_of, shift_of, bit_write, convert_of, plain_of, t2}
use Rattle.x86_meaning.specs.declared.sets.Flag.{Flag}
use Rattle.x86_meaning.specs.Sets.{all_flags}
use Rattle.x86_meaning.specs.Flags.{borrowed, kept_by_count, written_with_itself, written_one, written_by_count, flags_read_of, flags_written_of}
use Rattle.x86_meaning.specs.Effects.{needed, needed_by_borrow, settled, settled_by_borrow, made_number, flags_by}

-- the number that the list's last operation made
abbrev after : Option ℕ → List Micro → Option ℕ
after n [] = n
after n (m ∷ ms) = after (made_number m) ms

flags_by-append : (f : Option ℕ → Micro → List Flag) (n : Option ℕ) (xs ys : List Micro) → flags_by f n (xs ++ ys) ≡ flags_by f n xs ++ flags_by f (after n xs) ys
flags_by-append f n [] ys = refl
flags_by-append f n (x ∷ xs) ys = ap (λ v. f n x ++ v) (flags_by-append f (made_number x) xs ys) ∙ sym (append_assoc (f n x) (flags_by f (made_number x) xs) (flags_by f (after (made_number x) xs) ys))

append-none : (xs : List Flag) → xs ++ [] ≡ xs
append-none [] = refl
append-none (x ∷ xs) = ap (λ v. x ∷ v) (append-none xs)

-- ---- read

needed-address : {R : Type 0} (n : Option ℕ) (m : Mem R) → flags_by needed n (address_of m) ≡ []
needed-address n (At None None d) = refl
needed-address n (At None (Some i) d) = refl
needed-address n (At (Some b) None d) = refl
needed-address n (At (Some b) (Some i) d) = refl
needed-address n (Rel r) = refl
needed-address n Canary = refl

needed-value : {R : Type 0} (n : Option ℕ) (t : Temp) (w : Width) (o : Operand R) → flags_by needed n (value_of t w o) ≡ []
needed-value n t w (operand.Mem m) = simp (flags_by-append, needed-address)
needed-value n t w _ = refl

needed-place : {R : Type 0} (n : Option ℕ) (o : Operand R) → flags_by needed n (place_of o) ≡ []
needed-place n (operand.Mem m) = needed-address n m
needed-place n _ = refl

needed-write : {R : Type 0} (n : Option ℕ) (w : Width) (o : Operand R) (t : Temp) → flags_by needed n (write_of w o t) ≡ []
needed-write n w (operand.Reg r) t = refl
needed-write n w _ t = refl

needed-bit_write : {R : Type 0} (n : Option ℕ) (op : BitOp) (w : Width) (at : Operand R) → flags_by needed n (bit_write op w at) ≡ []
needed-bit_write n Bt w at = refl
needed-bit_write n _ w at = needed-write n w at t2

needed-alu : {R : Type 0} (n : Option ℕ) (op : AluOp) (w : Width) (to from : Operand R) → flags_by needed n (alu_of op w to from) ≡ borrowed op
needed-alu n alu.Cmp w to from = simp (flags_by-append, needed-value)
needed-alu n _ w to from = simp (flags_by-append, needed-value, needed-write)

needed-same : {R : Type 0} (n : Option ℕ) (borrow : Bool) (w : Width) (to : Operand R) → flags_by needed n (same_of borrow w to) ≡ needed_by_borrow borrow
needed-same n true w to = ap (λ v. needed_by_borrow true ++ v) (needed-write None w to t2)
needed-same n false w to = needed-write None w to t2

needed-if : {R : Type 0} (borrow same : Bool) (n : Option ℕ) (op : AluOp) (w : Width) (to from : Operand R) → needed_by_borrow borrow ≡ borrowed op → flags_by needed n (if same then same_of borrow w to else alu_of op w to from) ≡ borrowed op
needed-if borrow true n op w to from e = needed-same n borrow w to ∙ e
needed-if borrow false n op w to from e = needed-alu n op w to from

needed-alu_or_same : {R : Type 0} (n : Option ℕ) (op : AluOp) (w : Width) (to from : Operand R) → flags_by needed n (alu_or_same (with_itself op) op w to from) ≡ borrowed op
needed-alu_or_same n alu.Xor w to from = needed-if false (are_same to from) n alu.Xor w to from refl
needed-alu_or_same n alu.Sub w to from = needed-if false (are_same to from) n alu.Sub w to from refl
needed-alu_or_same n alu.Sbb w to from = needed-if true (are_same to from) n alu.Sbb w to from refl
needed-alu_or_same n alu.Cmp w to from = needed-alu n alu.Cmp w to from
needed-alu_or_same n alu.Add w to from = needed-alu n alu.Add w to from
needed-alu_or_same n alu.Or w to from = needed-alu n alu.Or w to from
needed-alu_or_same n alu.Adc w to from = needed-alu n alu.Adc w to from
needed-alu_or_same n alu.And w to from = needed-alu n alu.And w to from

needed-one : {R : Type 0} (n : Option ℕ) (op : OneOp) (w : Width) (at : Operand R) → flags_by needed n (one_of op w at) ≡ []
needed-one n one.Mul w at = simp (flags_by-append, needed-value)
needed-one n _ w at = simp (flags_by-append, needed-value, needed-write)

needed-shift : {R : Type 0} (n : Option ℕ) (op : ShiftOp) (w : Width) (at : Operand R) (count : Count) → flags_by needed n (shift_of op w at count) ≡ kept_by_count count
needed-shift n op w at count.Cl = simp (flags_by-append, needed-value, needed-write)
needed-shift n op w at (count.Imm c) = simp (flags_by-append, needed-value, needed-write)

needed-convert : (n : Option ℕ) (kind : Convert) → flags_by needed n (convert_of kind) ≡ []
needed-convert n Cbtw = refl
needed-convert n _ = refl

needed-plain : (n : Option ℕ) (kind : Plain) → flags_by needed n (plain_of kind) ≡ []
needed-plain n plain.Nop = refl
needed-plain n _ = refl

-- the flags that an instruction reads are those that its small operations need
pub needed-micro : {R : Type 0} (n : Option ℕ) (i : Insn R) → flags_by needed n (micro_of i) ≡ flags_read_of i
needed-micro n (insn.Alu op w to from) = needed-alu_or_same n op w to from
needed-micro n (insn.One op w at) = needed-one n op w at
needed-micro n (insn.Shift op w at count) = needed-shift n op w at count
needed-micro n (insn.Convert kind) = needed-convert n kind
needed-micro n (insn.Plain kind) = needed-plain n kind
needed-micro n _ = simp (flags_by-append, needed-value, needed-place, needed-address, needed-write, needed-bit_write, append-none)

-- ---- written

settled-address : {R : Type 0} (n : Option ℕ) (m : Mem R) → flags_by settled n (address_of m) ≡ []
settled-address n (At None None d) = refl
settled-address n (At None (Some i) d) = refl
settled-address n (At (Some b) None d) = refl
settled-address n (At (Some b) (Some i) d) = refl
settled-address n (Rel r) = refl
settled-address n Canary = refl

settled-value : {R : Type 0} (n : Option ℕ) (t : Temp) (w : Width) (o : Operand R) → flags_by settled n (value_of t w o) ≡ []
settled-value n t w (operand.Mem m) = simp (flags_by-append, settled-address)
settled-value n t w _ = refl

settled-place : {R : Type 0} (n : Option ℕ) (o : Operand R) → flags_by settled n (place_of o) ≡ []
settled-place n (operand.Mem m) = settled-address n m
settled-place n _ = refl

settled-write : {R : Type 0} (n : Option ℕ) (w : Width) (o : Operand R) (t : Temp) → flags_by settled n (write_of w o t) ≡ []
settled-write n w (operand.Reg r) t = refl
settled-write n w _ t = refl

settled-bit_write : {R : Type 0} (n : Option ℕ) (op : BitOp) (w : Width) (at : Operand R) → flags_by settled n (bit_write op w at) ≡ []
settled-bit_write n Bt w at = refl
settled-bit_write n _ w at = settled-write n w at t2

settled-alu : {R : Type 0} (n : Option ℕ) (op : AluOp) (w : Width) (to from : Operand R) → flags_by settled n (alu_of op w to from) ≡ all_flags
settled-alu n alu.Cmp w to from = simp (flags_by-append, settled-value)
settled-alu n _ w to from = simp (flags_by-append, settled-value, settled-write)

settled-same : {R : Type 0} (n : Option ℕ) (borrow : Bool) (w : Width) (to : Operand R) → flags_by settled n (same_of borrow w to) ≡ settled_by_borrow borrow
settled-same n true w to = ap (λ v. settled_by_borrow true ++ v) (settled-write None w to t2)
settled-same n false w to = ap (λ v. settled_by_borrow false ++ v) (settled-write None w to t2)

settled-if : {R : Type 0} (borrow same : Bool) (n : Option ℕ) (op : AluOp) (w : Width) (to from : Operand R) → flags_by settled n (if same then same_of borrow w to else alu_of op w to from) ≡ written_with_itself (Some borrow) same
settled-if true true n op w to from = settled-same n true w to
settled-if false true n op w to from = settled-same n false w to
settled-if true false n op w to from = settled-alu n op w to from
settled-if false false n op w to from = settled-alu n op w to from

settled-alu_or_same : {R : Type 0} (n : Option ℕ) (op : AluOp) (w : Width) (to from : Operand R) → flags_by settled n (alu_or_same (with_itself op) op w to from) ≡ written_with_itself (with_itself op) (are_same to from)
settled-alu_or_same n alu.Xor w to from = settled-if false (are_same to from) n alu.Xor w to from
settled-alu_or_same n alu.Sub w to from = settled-if false (are_same to from) n alu.Sub w to from
settled-alu_or_same n alu.Sbb w to from = settled-if true (are_same to from) n alu.Sbb w to from
settled-alu_or_same n alu.Cmp w to from = settled-alu n alu.Cmp w to from
settled-alu_or_same n alu.Add w to from = settled-alu n alu.Add w to from
settled-alu_or_same n alu.Or w to from = settled-alu n alu.Or w to from
settled-alu_or_same n alu.Adc w to from = settled-alu n alu.Adc w to from
settled-alu_or_same n alu.And w to from = settled-alu n alu.And w to from

settled-one : {R : Type 0} (n : Option ℕ) (op : OneOp) (w : Width) (at : Operand R) → flags_by settled n (one_of op w at) ≡ written_one op
settled-one n one.Mul w at = simp (flags_by-append, settled-value)
settled-one n _ w at = simp (flags_by-append, settled-value, settled-write)

settled-shift : {R : Type 0} (n : Option ℕ) (op : ShiftOp) (w : Width) (at : Operand R) (count : Count) → flags_by settled n (shift_of op w at count) ≡ written_by_count op count
settled-shift n op w at count.Cl = simp (flags_by-append, settled-value, settled-write)
settled-shift n op w at (count.Imm c) = simp (flags_by-append, settled-value, settled-write, append-none)

settled-convert : (n : Option ℕ) (kind : Convert) → flags_by settled n (convert_of kind) ≡ []
settled-convert n Cbtw = refl
settled-convert n _ = refl

settled-plain : (n : Option ℕ) (kind : Plain) → flags_by settled n (plain_of kind) ≡ []
settled-plain n plain.Nop = refl
settled-plain n _ = refl

-- the flags that an instruction writes are those that its small operations settle
pub settled-micro : {R : Type 0} (n : Option ℕ) (i : Insn R) → flags_by settled n (micro_of i) ≡ flags_written_of i
settled-micro n (insn.Alu op w to from) = settled-alu_or_same n op w to from
settled-micro n (insn.One op w at) = settled-one n op w at
settled-micro n (insn.Shift op w at count) = settled-shift n op w at count
settled-micro n (insn.Convert kind) = settled-convert n kind
settled-micro n (insn.Plain kind) = settled-plain n kind
settled-micro n _ = simp (flags_by-append, settled-value, settled-place, settled-address, settled-write, settled-bit_write, append-none)
