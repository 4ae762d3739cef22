-- What one small operation reads and writes, what a list of them does, and what an instruction does by its row.
use Rattle.std.specs.Prelude.{Option, Some, None, ℕ, nat_eq, Bool, true, false, List, [], ◌∷◌, ◌++◌, bit_or, if◌then◌else◌}
use Rattle.rw_base.specs.declared.width.Width.{Width}
use Rattle.rw_base.specs.declared.width.Width.TheVariants.{L, Q}
use Rattle.x86_insn.specs.declared.kinds.Reg.{Reg}
use Rattle.x86_insn.specs.declared.kinds.Reg.TheVariants.{Rax, Rcx, Rdx, Rsi, Rdi, R8, R9, R10, R11}
use Rattle.x86_insn.specs.declared.kinds.Reg8.{Reg8}
use Rattle.x86_insn.specs.declared.kinds.Cond.{Cond}
use Rattle.x86_insn.specs.declared.kinds.ShiftOp.{ShiftOp}
use Rattle.x86_insn.specs.declared.instruction.Insn.{Insn}
use Rattle.x86_meaning.specs.Sets.{set_of, flag_set, all_flags}
use Rattle.x86_meaning.specs.Registers.{byte_register, when_rep, reads_of, touches_of, writes_whole_of}
use Rattle.x86_meaning.specs.Flags.{condition_flags, borrowed, all_but_carry, written_one, written_above_zero, written_bit, flags_read_of, flags_written_of}
use Rattle.x86_meaning.specs.declared.sets.Flag.{Flag}
use Rattle.x86_meaning.specs.declared.sets.Flag.TheVariants.{Cf}
use Rattle.x86_meaning.specs.declared.effect_sets.Effects.{Effects}
use Rattle.x86_meaning.specs.declared.operations.Temp.{Temp}
use Rattle.x86_meaning.specs.declared.operations.Micro.{Micro}
use Rattle.x86_meaning.specs.declared.operations.Micro.TheVariants.{Get, Put, Num, Alu, One, Shift, Mul, Div, Bit, Scan, Same, Choose, Go, Elements, System}

-- ---- Registers of a small operation

-- those that it gets
abbrev pub fetched : Micro → List Reg
fetched (Get _ _ from) = byte_register from
fetched (Elements true _ rep) = Rdi ∷ Rsi ∷ when_rep rep
fetched (Elements false _ rep) = Rdi ∷ Rax ∷ when_rep rep
fetched System = Rax ∷ Rdi ∷ Rsi ∷ Rdx ∷ R10 ∷ R8 ∷ R9 ∷ []
fetched _ = []

-- those of which it puts a part
abbrev pub changed : Micro → List Reg
changed (Put _ to _) = byte_register to
changed (Elements true _ rep) = Rdi ∷ Rsi ∷ when_rep rep
changed (Elements false _ rep) = Rdi ∷ when_rep rep
changed System = Rax ∷ Rcx ∷ R11 ∷ []
changed _ = []

-- those of which it puts every bit
abbrev pub filled_part : Width → Reg8 → List Reg
filled_part L to = byte_register to
filled_part Q to = byte_register to
filled_part _ to = []

abbrev pub filled : Micro → List Reg
filled (Put w to _) = filled_part w to
filled (Elements _ _ rep) = when_rep rep
filled System = Rax ∷ Rcx ∷ R11 ∷ []
filled _ = []

-- the temporary of what the stack's instructions imply
abbrev pub is_implied : Temp → Bool
is_implied t = nat_eq t.0 7

-- those of which it puts every bit, but for %rsp and %rbp where no operand names them
abbrev pub put_whole : Micro → List Reg
put_whole (Put w to from) = if is_implied from then [] else filled_part w to
put_whole m = filled m

abbrev pub gathered : (Micro → List Reg) → List Micro → List Reg
gathered f [] = []
gathered f (m ∷ ms) = f m ++ gathered f ms

-- ---- Flags of a small operation, where the one before it made the number n, if it made one: it is the count of a shift

abbrev pub made_number : Micro → Option ℕ
made_number (Num _ _ v) = Some v
made_number _ = None

abbrev pub needed_by_shift : Bool → Option ℕ → List Flag
needed_by_shift true None = all_flags
needed_by_shift _ _ = []

abbrev pub needed_to_go : Option Cond → List Flag
needed_to_go None = []
needed_to_go (Some cond) = condition_flags cond

abbrev pub needed_by_borrow : Bool → List Flag
needed_by_borrow true = Cf ∷ []
needed_by_borrow false = []

-- those that it needs
abbrev pub needed : Option ℕ → Micro → List Flag
needed n (Alu op _ _ _ _) = borrowed op
needed n (Shift _ _ _ _ _ flags) = needed_by_shift flags n
needed n (Same borrow _ _) = needed_by_borrow borrow
needed n (Choose cond _ _ _) = condition_flags cond
needed n (Go cond _) = needed_to_go cond
needed n _ = []

abbrev pub settled_by_shift : ShiftOp → Bool → Option ℕ → List Flag
settled_by_shift op true (Some n) = written_above_zero op n
settled_by_shift op _ _ = []

abbrev pub settled_by_borrow : Bool → List Flag
settled_by_borrow true = all_but_carry
settled_by_borrow false = all_flags

-- those that it sets or leaves undefined, whatever they were
abbrev pub settled : Option ℕ → Micro → List Flag
settled n (Alu _ _ _ _ _) = all_flags
settled n (One op _ _ _) = written_one op
settled n (Shift op _ _ _ _ flags) = settled_by_shift op flags n
settled n (Mul _ _ _ _ _ _) = all_flags
settled n (Div _ _ _ _ _ _ _) = all_flags
settled n (Bit _ _ _ _ _) = written_bit
settled n (Scan _ _ _ _) = all_flags
settled n (Same borrow _ _) = settled_by_borrow borrow
settled n _ = []

abbrev pub flags_by : (Option ℕ → Micro → List Flag) → Option ℕ → List Micro → List Flag
flags_by f n [] = []
flags_by f n (m ∷ ms) = f n m ++ flags_by f (made_number m) ms

-- ---- All five sets together

abbrev pub no_effects : Effects
no_effects = record { reads = record { 0 = 0 }; writes_whole = record { 0 = 0 }; touches = record { 0 = 0 }; flags_read = record { 0 = 0 }; flags_written = record { 0 = 0 } }

abbrev pub effects_at : Option ℕ → Micro → Effects
effects_at n m = record { reads = record { 0 = set_of (fetched m) }; writes_whole = record { 0 = set_of (put_whole m) }; touches = record { 0 = set_of (changed m) }; flags_read = record { 0 = flag_set (needed n m) }; flags_written = record { 0 = flag_set (settled n m) } }

abbrev pub joined : Effects → Effects → Effects
joined a b = record { reads = record { 0 = bit_or a.reads.0 b.reads.0 }; writes_whole = record { 0 = bit_or a.writes_whole.0 b.writes_whole.0 }; touches = record { 0 = bit_or a.touches.0 b.touches.0 }; flags_read = record { 0 = bit_or a.flags_read.0 b.flags_read.0 }; flags_written = record { 0 = bit_or a.flags_written.0 b.flags_written.0 } }

abbrev pub effects_from : Option ℕ → List Micro → Effects
effects_from n [] = no_effects
effects_from n (m ∷ ms) = joined (effects_at n m) (effects_from (made_number m) ms)

-- those of an instruction, by its row
abbrev pub effects_of : {R : Type 0} → Insn R → Effects
effects_of i = record { reads = record { 0 = set_of (reads_of i) }; writes_whole = record { 0 = set_of (writes_whole_of i) }; touches = record { 0 = set_of (touches_of i) }; flags_read = record { 0 = flag_set (flags_read_of i) }; flags_written = record { 0 = flag_set (flags_written_of i) } }
