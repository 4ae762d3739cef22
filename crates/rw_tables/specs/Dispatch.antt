-- Dispatches: jumps through a table of distances, told by the instructions before them in their function, such as cmp, ja, lea,
-- movslq, add, jmp.
use Rattle.std.specs.Prelude.{◌≡◌, ◌<◌, ◌≤◌, Contains, ℕ, ℤ, pos, ◌+◌, List, [], ◌∷◌, filter, Bool, true, false, ◌==◌, nat_le, nat_lt, is_some, Option, Some, None, option_map, option_and_then, if◌then◌else◌}
use Rattle.std.specs.List.{list_any}
use Rattle.std.specs.Option.{option_or}
use Rattle.rw_base.specs.declared.width.Width.{Width}
use Rattle.rw_base.specs.declared.width.Width.TheVariants.{Q}
use Rattle.x86_insn.specs.declared.kinds.Reg.{Reg}
use Rattle.x86_insn.specs.declared.kinds.AluOp.{AluOp}
use Rattle.x86_insn.specs.declared.kinds.AluOp.TheVariants.{Add, Sub, Cmp}
use Rattle.x86_insn.specs.declared.kinds.Cond.{Cond}
use Rattle.x86_insn.specs.declared.kinds.Cond.TheVariants.{A}
use Rattle.x86_insn.specs.declared.kinds.Plain.{Plain}
use Rattle.x86_insn.specs.declared.kinds.Plain.TheVariants.{Ud2, Int3, Hlt}
use Rattle.x86_insn.specs.declared.operands.Mem.{Mem}
use Rattle.x86_insn.specs.declared.operands.Mem.TheVariants.{Rel}
use Rattle.x86_insn.specs.declared.operands.Operand.{Operand}
use Rattle.x86_insn.specs.declared.operands.Operand.TheVariants as operand
use Rattle.x86_insn.specs.declared.instruction.Insn.{Insn}
use Rattle.x86_insn.specs.declared.instruction.Insn.TheVariants as insn
use Rattle.x86_insn.specs.WellFormed.{code_of}
use Rattle.x86_meaning.specs.Registers.{touches_of}
use Rattle.rw_funcs.specs.Points.{Point}
use Rattle.rw_tables.specs.declared.table.Table.{Table}

-- ---- the nearest point

-- the last of some points that passes a test; points ascend, so it is the one with the greatest address
abbrev pub nearest : (Point → Bool) → List Point → Option Point
nearest test [] = None
nearest test (p ∷ ps) = option_or (nearest test ps) (if test p then Some p else None)

-- the points below an address, and those above it
abbrev pub below : ℕ → List Point → List Point
below a ps = filter (λ p. nat_lt p.place a) ps

abbrev pub above : ℕ → List Point → List Point
above a ps = filter (λ p. nat_lt a p.place) ps

-- ---- what instructions are to a dispatch

abbrev pub is_register : Reg → Reg → Bool
is_register r q = code_of q == code_of r

-- it may write some part of the register
abbrev pub writes : Reg → Insn ℕ → Bool
writes r i = list_any (is_register r) (touches_of i)

-- nothing behind it runs directly after it: ud2, int3, hlt
abbrev pub is_trap : Plain → Bool
is_trap Ud2 = true
is_trap Int3 = true
is_trap Hlt = true
is_trap _ = false

-- a jump of any kind, a return or a trap
abbrev pub ends_run : Insn ℕ → Bool
ends_run (insn.Jcc _ _) = true
ends_run (insn.Jmp _) = true
ends_run (insn.JmpTo _ _) = true
ends_run insn.Ret = true
ends_run (insn.Plain kind) = is_trap kind
ends_run _ = false

-- the register that a 64-bit add adds to, and the one that it adds
abbrev pub sum_by : AluOp → Width → Operand ℕ → Option Reg
sum_by Add Q (operand.Reg r) = Some r
sum_by _ _ _ = None

abbrev pub sum_register : Insn ℕ → Option Reg
sum_register (insn.Alu op w to _) = sum_by op w to
sum_register _ = None

abbrev pub register_of : Operand ℕ → Option Reg
register_of (operand.Reg r) = Some r
register_of _ = None

abbrev pub source_of : Insn ℕ → Option Reg
source_of (insn.Alu _ _ _ from) = register_of from
source_of _ = None

-- the register that a 64-bit lea relative to %rip writes, and the address that it writes there
abbrev pub naming_at : Width → Reg → Mem ℕ → Option (Reg × ℕ)
naming_at Q to (Rel a) = Some (to, a)
naming_at _ _ _ = None

abbrev pub naming_of : Insn ℕ → Option (Reg × ℕ)
naming_of (insn.Lea w to at) = naming_at w to at
naming_of _ = None

-- ja: a jump where the first of two unsigned numbers is above the second
abbrev pub is_above : Cond → Bool
is_above A = true
is_above _ = false

abbrev pub jumps_above : Insn ℕ → Bool
jumps_above (insn.Jcc cond _) = is_above cond
jumps_above _ = false

-- the number from 0 to 65,535 that a cmp or sub takes away
abbrev pub as_bound : ℤ → Option ℕ
as_bound (pos n) = if nat_le n 65535 then Some n else None
as_bound _ = None

abbrev pub bound_in : Operand ℕ → Option ℕ
bound_in (operand.Imm v) = as_bound v
bound_in _ = None

abbrev pub bound_by : AluOp → Operand ℕ → Option ℕ
bound_by Cmp from = bound_in from
bound_by Sub from = bound_in from
bound_by _ _ = None

abbrev pub bound_of : Insn ℕ → Option ℕ
bound_of (insn.Alu op _ _ from) = bound_by op from
bound_of _ = None

-- ---- the points below a jump

-- its run: those behind the nearest that ends one
abbrev pub behind : Option Point → List Point → List Point
behind None ps = ps
behind (Some e) ps = above e.place ps

abbrev pub run_of : List Point → List Point
run_of ps = behind (nearest (λ p. ends_run p.insn) ps) ps

-- the nearest of the run that writes the register, where that is a 64-bit add into it
abbrev pub adds : Point → Bool
adds p = is_some (sum_register p.insn)

abbrev pub passing : (Point → Bool) → Point → Option Point
passing test p = if test p then Some p else None

abbrev pub sum_in : Reg → List Point → Option Point
sum_in r ps = option_and_then (passing adds) (nearest (λ p. writes r p.insn) (run_of ps))

-- the address in a register, where the nearest that writes it is a 64-bit lea relative to %rip
abbrev pub named_by : Insn ℕ → Option ℕ
named_by i = option_map (λ n. n.1) (naming_of i)

abbrev pub named_in : List Point → Reg → Option ℕ
named_in ps r = option_and_then (λ p. named_by p.insn) (nearest (λ p. writes r p.insn) ps)

-- the base of the table of an add into a register: the address in the register that it adds, or else the one in its own
abbrev pub base_by : (Reg → Option ℕ) → Reg → Insn ℕ → Option ℕ
base_by named r i = option_and_then (λ s. option_or (named s) (named r)) (source_of i)

-- the bound of the nearest cmp or sub with one
abbrev pub has_bound : Point → Bool
has_bound p = is_some (bound_of p.insn)

abbrev pub bound_before : List Point → Option ℕ
bound_before ps = option_and_then (λ p. bound_of p.insn) (nearest has_bound ps)

-- the bound before the nearest ja
abbrev pub limit_in : List Point → Option ℕ
limit_in ps = option_and_then (λ j. bound_before (below j.place ps)) (nearest (λ p. jumps_above p.insn) ps)

-- a word for each number up to the bound
abbrev pub table_of : Option ℕ → Option ℕ → Option Table
table_of (Some base) (Some limit) = Some (record { base = base; count = limit + 1 })
table_of _ _ = None

-- the table of a jump through a register behind the add that wrote it last, which has to stand directly before the jump
abbrev pub table_at : ℕ → Reg → List Point → Point → Option Table
table_at a r ps sum =
    if sum.place + sum.len == a then table_of (base_by (named_in (below sum.place ps)) r sum.insn) (limit_in ps) else None

-- the point is one of some that passes a test, and none above it does
pub record IsNearest (test : Point → Bool) (ps : List Point) (p : Point) : Type 0 where
  pub one_of : Contains ps p
  pub passes : test p ≡ true
  pub greatest : (q : Point) → Contains ps q → test q ≡ true → q.place ≤ p.place

-- the one is below the other
abbrev pub IsBelow : Point → Point → Type 0
IsBelow p q = p.place < q.place
