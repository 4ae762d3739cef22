-- What an instruction has done so far, and what each small operation does to it.
use Rattle.std.specs.Prelude.{ℕ, pos, zero, suc, ◌+◌, ◌-◌, ◌^◌, List, [], ◌∷◌, ◌++◌, length, take, drop, replicate, Option, Some, None, option_map, Result, Ok, Err, Bool, true, false, nat_le, if◌then◌else◌, slice_index_or, slice_set}
use Rattle.rw_base.specs.declared.width.Width.{Width}
use Rattle.rw_base.specs.declared.width.Width.TheVariants.{B, W, L, Q}
use Rattle.rw_base.specs.Width.{byte_count}
use Rattle.x86_insn.specs.declared.kinds.Reg.{Reg}
use Rattle.x86_insn.specs.declared.kinds.Reg8.{Reg8}
use Rattle.x86_insn.specs.declared.kinds.Reg8.TheVariants.{Low, High}
use Rattle.x86_insn.specs.declared.kinds.Plain.{Plain}
use Rattle.x86_insn.specs.declared.kinds.Plain.TheVariants as plain
use Rattle.x86_insn.specs.WellFormed.{code_of}
use Rattle.x86_meaning.specs.declared.operations.Temp.{Temp}
use Rattle.x86_meaning.specs.declared.operations.Micro.{Micro}
use Rattle.x86_insn.specs.declared.kinds.Reg.TheVariants.{Rax, Rcx, Rsi, Rdi}
use Rattle.x86_meaning.specs.declared.operations.Micro.TheVariants.{Get, Put, Num, Ref, Next, Sum, Load, Store, Alu, One, Shift, Mul, Div, Extend, Swap, Bit, Scan, Elements, Same, Choose, Go, System}
use Rattle.x86_meaning.specs.declared.operations.Micro.TheVariants as micro
use Rattle.rw_domain.specs.declared.cause.Cause.{Cause}
use Rattle.rw_domain.specs.declared.cause.Cause.TheVariants.{AddressUnknown, AddressOutside, NotWritable, TargetUnknown, TargetNoPoint, FlagUnknown, ByteUnknown, NumberUnknown, StackLow, Import}
use Rattle.rw_domain.specs.declared.flags.Tri.{Tri}
use Rattle.rw_domain.specs.declared.flags.Tri.TheVariants.{Yes, No, Unknown}
use Rattle.rw_domain.specs.declared.flags.Flags.{Flags}
use Rattle.rw_domain.specs.declared.place.Access.TheVariants.{Read, Write}
use Rattle.rw_domain.specs.declared.place.Place.{Place}
use Rattle.rw_domain.specs.Operators.{Operators}
pub use Rattle.rw_machine.specs.declared.running.Ask.{Ask}
pub use Rattle.rw_machine.specs.declared.running.Ask.TheVariants.{Serve, Halt}
pub use Rattle.rw_machine.specs.declared.running.StringStep.{StringStep}
pub use Rattle.rw_machine.specs.declared.running.Due.{Due}
use Rattle.rw_machine.specs.declared.running.Due.TheVariants as store
pub use Rattle.rw_machine.specs.declared.running.Here.{Here}
use Rattle.rw_machine.specs.declared.ending.Trap.TheVariants as trap
use Rattle.rw_machine.specs.Conditions.{holds}

-- What is due is written when the instruction is done, in its order: an instruction loads before it stores, and stores
-- twice at most.
abbrev pub due_after : {V : Type 0} → List (Due V) → Due V → List (Due V)
due_after dues d = take 2 (dues ++ d ∷ [])

-- An instruction never stops in the middle: it goes on with an undefined word, and the cause is kept.
pub record Running (V : Type 0) : Type 0 where
  pub temps : List V
  pub registers : List V
  pub flags : Flags
  pub due : List (Due V)
  pub goal : Option V
  pub ask : Option Ask
  pub cause : Option Cause

-- The order in which causes count: an unknown flag, an address, an unknown number, an unknown byte, the target, the stack.
abbrev pub rank : Cause → ℕ
rank FlagUnknown = 0
rank AddressUnknown = 1
rank AddressOutside = 1
rank NotWritable = 1
rank NumberUnknown = 2
rank ByteUnknown = 3
rank TargetUnknown = 4
rank TargetNoPoint = 4
rank StackLow = 5
rank (Import _) = 5

-- of two causes the first of that order, and of equal ones the earlier
abbrev pub first_cause : Option Cause → Cause → Option Cause
first_cause None c = Some c
first_cause (Some d) c = if nat_le (rank d) (rank c) then Some d else Some c

-- the bytes of a range of memory, and memory with bytes written at a place
abbrev pub range_at : {C : Type 0} → List (List C) → Place → ℕ → List C
range_at memory p len = take len (drop p.offset (slice_index_or memory p.region []))

abbrev pub row_written : {C : Type 0} → List C → ℕ → List C → List C
row_written row offset bytes = take offset row ++ (bytes ++ drop (offset + length bytes) row)

abbrev pub written_at : {C : Type 0} → List (List C) → Place → List C → List (List C)
written_at memory p bytes = slice_set memory p.region (row_written (slice_index_or memory p.region []) p.offset bytes)

abbrev pub set_temp : {V : Type 0} → Running V → Temp → V → Running V
set_temp r t v = record r { temps = slice_set r.temps t.0 v }

abbrev pub set_temps : {V : Type 0} → Running V → Temp → V → Temp → V → Flags → Running V
set_temps r t v u w flags = record r { temps = slice_set (slice_set r.temps t.0 v) u.0 w; flags = flags }

-- a result with its flags
abbrev pub flagged_run : {V : Type 0} → Running V → Temp → V × Flags → Running V
flagged_run r t p = record r { temps = slice_set r.temps t.0 p.0; flags = p.1 }

abbrev pub stops : {V : Type 0} → Running V → Cause → Running V
stops r c = record r { cause = first_cause r.cause c }

abbrev pub trap_of : Plain → Option Ask
trap_of plain.Ud2 = Some (Halt trap.Ud2)
trap_of plain.Int3 = Some (Halt trap.Int3)
trap_of plain.Hlt = Some (Halt trap.Hlt)
trap_of plain.Nop = None
trap_of plain.Pause = None
trap_of plain.Endbr64 = None

abbrev pub unknown_flags : Flags
unknown_flags = record { cf = Unknown; zf = Unknown; sf = Unknown; of = Unknown; pf = Unknown }

-- the flags of a number 0, and those of a register less itself and the borrow
abbrev pub zero_flags : Flags
zero_flags = record { cf = No; zf = Yes; sf = No; of = No; pf = Yes }

abbrev pub borrow_flags : Flags
borrow_flags = record { cf = Yes; zf = No; sf = Yes; of = No; pf = Yes }

abbrev pub full_register : Reg8 → Reg
full_register (Low k) = k
full_register (High k) = k

module _ {V C : Type 0} (ops : Operators V C) where
  abbrev pub temp : Running V → Temp → V
  temp r t = slice_index_or r.temps t.0 (ops.undef Q)

  abbrev pub register : List V → Reg → V
  register registers k = slice_index_or registers (code_of k) (ops.undef Q)

  -- n bytes of a word from byte k on
  abbrev pub bytes_from : ℕ → ℕ → V → List C
  bytes_from zero k v = []
  bytes_from (suc n) k v = ops.split v k ∷ bytes_from n (k + 1) v

  abbrev pub zero_byte : C
  zero_byte = ops.split (ops.num B 0) 0

  abbrev pub undefined_byte : C
  undefined_byte = ops.split (ops.undef B) 0

  -- a part of a register: its low bytes, or its second byte
  abbrev pub part : Width → Reg8 → V → V
  part w (Low _) v = ops.join w (bytes_from (byte_count w) 0 v)
  part w (High _) v = ops.join w (bytes_from (byte_count w) 1 v)

  -- a register after a write of a part: 32 bits clear the upper half, 8 and 16 bits keep the rest
  abbrev pub put_low : Width → V → V → V
  put_low B old v = ops.join Q (bytes_from 1 0 v ++ bytes_from 7 1 old)
  put_low W old v = ops.join Q (bytes_from 2 0 v ++ bytes_from 6 2 old)
  put_low L old v = ops.join Q (bytes_from 4 0 v ++ replicate 4 zero_byte)
  put_low Q old v = ops.join Q (bytes_from 8 0 v)

  abbrev pub put_part : Width → Reg8 → V → V → V
  put_part w (Low _) old v = put_low w old v
  put_part w (High _) old v = ops.join Q (bytes_from 1 0 old ++ (bytes_from 1 0 v ++ bytes_from 6 2 old))

  -- a load, a store, a result with flags, a jump and a choice, by what the operators answer
  abbrev pub loaded_run : List (List C) → Running V → Temp → Width → Result Place Cause → Running V
  loaded_run memory r to w (Ok p) = set_temp r to (ops.join w (range_at memory p (byte_count w)))
  loaded_run memory r to w (Err c) = stops (set_temp r to (ops.undef w)) c

  abbrev pub stored_run : Running V → Width → V → Result Place Cause → Running V
  stored_run r w v (Ok p) = record r { due = due_after r.due (store.Word p w v) }
  stored_run r w v (Err c) = stops r c

  abbrev pub computed_run : Running V → Temp → Width → Result (V × Flags) Cause → Running V
  computed_run r to w (Ok p) = record r { temps = slice_set r.temps to.0 p.0; flags = p.1 }
  computed_run r to w (Err c) = stops (set_temp r to (ops.undef w)) c

  abbrev pub goal_run : Running V → V → Option Bool → Running V
  goal_run r v (Some true) = record r { goal = Some v }
  goal_run r v (Some false) = r
  goal_run r v None = stops r FlagUnknown

  abbrev pub chosen_run : Running V → Temp → V → V → Option Bool → Running V
  chosen_run r to a b (Some true) = set_temp r to a
  chosen_run r to a b (Some false) = set_temp r to b
  chosen_run r to a b None = stops (set_temp r to (ops.undef Q)) FlagUnknown

  -- a register with itself: 0, and for sbb 0 or all ones by the carry flag alone
  abbrev pub borrowed_run : Running V → Temp → Width → Tri → Running V
  borrowed_run r to w Yes = record r { temps = slice_set r.temps to.0 (ops.num w (2 ^ 64 - 1)); flags = borrow_flags }
  borrowed_run r to w No = record r { temps = slice_set r.temps to.0 (ops.num w 0); flags = zero_flags }
  borrowed_run r to w Unknown = stops (set_temp r to (ops.undef w)) FlagUnknown

  abbrev pub with_itself : Bool → Running V → Temp → Width → Running V
  with_itself false r to w = record r { temps = slice_set r.temps to.0 (ops.num w 0); flags = zero_flags }
  with_itself true r to w = borrowed_run r to w r.flags.cf

  -- a shift that keeps the flags, or sets them
  abbrev pub shifted_run : Running V → Temp → Width → Bool → Result (V × Flags) Cause → Running V
  shifted_run r to w true answer = computed_run r to w answer
  shifted_run r to w false (Ok p) = set_temp r to p.0
  shifted_run r to w false (Err c) = stops (set_temp r to (ops.undef w)) c

  -- a division leaves every flag undefined; where it traps, nothing else that the instruction does counts
  abbrev pub divided_run : Running V → Temp → Temp → Width → Result (Option (V × V)) Cause → Running V
  divided_run r quotient rest w (Ok (Some p)) = set_temps r quotient p.0 rest p.1 unknown_flags
  divided_run r quotient rest w (Ok None) = record r { ask = Some (Halt trap.Divide) }
  divided_run r quotient rest w (Err c) = stops (set_temps r quotient (ops.undef w) rest (ops.undef w) unknown_flags) c

  -- ---- string steps (Intel SDM, volume 1, 7.3.9), upwards

  -- an address one element on
  abbrev pub next_address : StringStep V → V → V
  next_address step at = ops.sum (Some at) None (pos (byte_count step.width))

  abbrev pub from_and_to : Result Place Cause → Result Place Cause → Result (Place × Place) Cause
  from_and_to (Err c) to = Err c
  from_and_to (Ok p) (Err c) = Err c
  from_and_to (Ok p) (Ok q) = Ok (p, q)

  abbrev pub target_place : StringStep V → V → Result Place Cause
  target_place step target = ops.place target (byte_count step.width) Write

  -- the places of an element: its read comes before its write, and a step that doesn't move reads nothing
  abbrev pub element_places : StringStep V → V → V → Result (Place × Place) Cause
  element_places step source target =
      from_and_to (if step.moves then ops.place source (byte_count step.width) Read else target_place step target) (target_place step target)

  abbrev pub then_others : {T : Type 0} → Result (Place × Place) Cause → Result T Cause → Result T Cause
  then_others (Err c) others = Err c
  then_others (Ok p) others = others

  -- the addresses behind so many elements, where each element's accesses are permitted, the first in order first
  abbrev pub elements_permitted : StringStep V → ℕ → V → V → Result (V × V) Cause
  elements_permitted step zero source target = Ok (source, target)
  elements_permitted step (suc n) source target =
      then_others (element_places step source target) (elements_permitted step n (next_address step source) (next_address step target))

  abbrev pub element_bytes : StringStep V → List (List C) → Place → List C
  element_bytes step memory from =
      if step.moves then range_at memory from (byte_count step.width) else bytes_from (byte_count step.width) 0 step.word

  abbrev pub element_written : StringStep V → List (List C) → Result (Place × Place) Cause → List (List C)
  element_written step memory (Err c) = memory
  element_written step memory (Ok p) = written_at memory p.1 (element_bytes step memory p.0)

  -- memory after so many elements, each of which sees what those before it wrote
  abbrev pub elements_written : StringStep V → ℕ → List (List C) → V → V → List (List C)
  elements_written step zero memory source target = memory
  elements_written step (suc n) memory source target =
      elements_written step n (element_written step memory (element_places step source target)) (next_address step source) (next_address step target)

  -- %rdi is moved on, %rsi too where bytes are moved, and a repeated step leaves %rcx 0
  abbrev pub pointers_left : Bool → List V → V × V → List V
  pointers_left true registers p = slice_set (slice_set registers (code_of Rsi) p.0) (code_of Rdi) p.1
  pointers_left false registers p = slice_set registers (code_of Rdi) p.1

  abbrev pub count_left : Bool → List V → List V
  count_left true registers = slice_set registers (code_of Rcx) (ops.num Q 0)
  count_left false registers = registers

  -- how many elements there are; a repeated step needs the number
  abbrev pub element_count : Bool → List V → Option ℕ
  element_count true registers = ops.number Q (register registers Rcx)
  element_count false registers = Some 1

  abbrev pub elements_done : Running V → StringStep V → Bool → ℕ → Result (V × V) Cause → Running V
  elements_done r step rep n (Err c) = stops r c
  elements_done r step rep n (Ok p) =
      record r {
        registers = count_left rep (pointers_left step.moves r.registers p);
        due = due_after r.due (store.Elements step n (register r.registers Rsi) (register r.registers Rdi));
      }

  -- the count comes before the addresses
  abbrev pub elements_of : Running V → StringStep V → Bool → Option ℕ → Running V
  elements_of r step rep None = stops r NumberUnknown
  elements_of r step rep (Some n) = elements_done r step rep n (elements_permitted step n (register r.registers Rsi) (register r.registers Rdi))

module _ {V C : Type 0} (ops : Operators V C) (memory : List (List C)) (here : Here V) where
  -- the run after a small operation; loads read the memory from before the instruction
  abbrev pub after : Micro → Running V → Running V
  after (Get to w from) r = set_temp r to (part ops w from (register ops r.registers (full_register from)))
  after (Put w to from) r =
      record r { registers = slice_set r.registers (code_of (full_register to)) (put_part ops w to (register ops r.registers (full_register to)) (temp ops r from)) }
  after (Num to w v) r = set_temp r to (ops.num w v)
  after (Ref to direct) r = set_temp r to (if direct then here.direct else here.indirect)
  after (micro.Canary to) r = set_temp r to ops.canary
  after (Next to) r = set_temp r to here.next
  after (Sum to base index disp) r =
      set_temp r to (ops.sum (option_map (temp ops r) base) (option_map (λ p. (temp ops r p.0, p.1)) index) disp)
  after (Load to w at) r = loaded_run ops memory r to w (ops.place (temp ops r at) (byte_count w) Read)
  after (Store w at from) r = stored_run ops r w (temp ops r from) (ops.place (temp ops r at) (byte_count w) Write)
  after (Alu op w to a b) r = computed_run ops r to w (ops.alu op w (temp ops r a) (temp ops r b) r.flags)
  after (One op w to a) r = flagged_run r to (ops.one op w (temp ops r a) r.flags)
  after (Shift op w to a count sets) r = shifted_run ops r to w sets (ops.shift op w (temp ops r a) (temp ops r count) r.flags)
  after (Mul is_signed w low high a b) r =
      set_temps r low (ops.mul is_signed w (temp ops r a) (temp ops r b)).0 high (ops.mul is_signed w (temp ops r a) (temp ops r b)).1 (ops.mul is_signed w (temp ops r a) (temp ops r b)).2
  after (Div is_signed w quotient rest high low by) r =
      divided_run ops r quotient rest w (ops.div is_signed w (temp ops r high) (temp ops r low) (temp ops r by))
  after (Extend is_signed from w to a) r = set_temp r to (ops.extend is_signed from (temp ops r a) w)
  after (Swap w to a) r = set_temp r to (ops.swap w (temp ops r a))
  after (Bit op w to a index) r = flagged_run r to (ops.bit op w (temp ops r a) (temp ops r index) r.flags)
  after (Scan op w to a) r = flagged_run r to (ops.scan op w (temp ops r a))
  after (Elements moves w rep) r =
      elements_of ops r (record { moves = moves; width = w; word = register ops r.registers Rax }) rep (element_count ops rep r.registers)
  after (Same borrow w to) r = with_itself ops borrow r to w
  after (Choose cond to a b) r = chosen_run ops r to (temp ops r a) (temp ops r b) (holds cond r.flags)
  after (Go None to) r = record r { goal = Some (temp ops r to) }
  after (Go (Some cond) to) r = goal_run ops r (temp ops r to) (holds cond r.flags)
  after (micro.Trap kind) r = record r { ask = trap_of kind }
  after System r = record r { ask = Some Serve }

  -- the run after small operations, in their order
  abbrev pub after_all : List Micro → Running V → Running V
  after_all [] r = r
  after_all (m ∷ ms) r = after_all ms (after m r)
