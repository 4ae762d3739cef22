-- What is kept of the points of a function up to some place: enough to tell whether a jump that follows is a dispatch.
use Rattle.std.specs.Prelude.{◌≡◌, ℕ, List, Bool, true, false, ◌==◌, is_some, Option, Some, None, option_map, option_and_then, slice_index_or, if◌then◌else◌}
use Rattle.std.specs.Int.{bit_at}
use Rattle.std.specs.Option.{option_or}
use Rattle.x86_insn.specs.declared.kinds.Reg.{Reg}
use Rattle.x86_insn.specs.declared.instruction.Insn.{Insn}
use Rattle.x86_insn.specs.WellFormed.{code_of}
use Rattle.rw_funcs.specs.Points.{Point}
use Rattle.rw_tables.specs.declared.jump.Jump.{Jump}
use Rattle.rw_tables.specs.declared.seen.Addresses.{Addresses}
use Rattle.rw_tables.specs.declared.seen.Seen.{Seen}
use Rattle.rw_tables.specs.Dispatch.{nearest, below, is_register, ends_run, writes, sum_register, named_by, jumps_above, bound_of, sum_in, named_in, base_by, bound_before, limit_in, table_of}
use Rattle.rw_tables.specs.Jumps.{jump_register, jump_to}

-- the register is one of a set
abbrev pub has : ℕ → Reg → Bool
has set r = bit_at set (code_of r) == 1

-- the address in a register
abbrev pub address_in : Addresses → Reg → Option ℕ
address_in s r = if has s.held.0 r then Some (slice_index_or s.values (code_of r) 0) else None

-- the register of a 64-bit add and the base of its table, where there is one
abbrev pub sum_into : (Reg → Option ℕ) → Insn ℕ → Reg → Option (Reg × ℕ)
sum_into named i r = option_map (λ base. (r, base)) (base_by named r i)

abbrev pub sum_over : (Reg → Option ℕ) → Insn ℕ → Option (Reg × ℕ)
sum_over named i = option_and_then (sum_into named i) (sum_register i)

-- the same of the last of some points
abbrev pub last_sum : List Point → Option (Reg × ℕ)
last_sum ps = option_and_then (λ p. sum_over (named_in (below p.place ps)) p.insn) (nearest (λ p. true) ps)

-- what is kept of these points
pub record IsSeen (ps : List Point) (s : Seen) : Type 0 where
  pub sums : (r : Reg) → has s.sums.0 r ≡ is_some (sum_in r ps)
  pub named : (r : Reg) → address_in s.named r ≡ named_in ps r
  pub last : s.last ≡ last_sum ps
  pub bound : s.bound ≡ bound_before ps
  pub limit : s.limit ≡ limit_in ps

-- the addresses behind an instruction, and whether an add wrote a register last
abbrev pub address_behind : (Reg → Option ℕ) → Insn ℕ → Reg → Option ℕ
address_behind named i r = if writes r i then named_by i else named r

abbrev pub sum_behind : (Reg → Bool) → Insn ℕ → Reg → Bool
sum_behind sums i r = if ends_run i then false else if writes r i then is_some (sum_register i) else sums r

-- what is kept of one more point
pub record IsNoted (old : Seen) (i : Insn ℕ) (new : Seen) : Type 0 where
  pub sums : (r : Reg) → has new.sums.0 r ≡ sum_behind (has old.sums.0) i r
  pub named : (r : Reg) → address_in new.named r ≡ address_behind (address_in old.named) i r
  pub last : new.last ≡ sum_over (address_in old.named) i
  pub bound : new.bound ≡ option_or (bound_of i) old.bound
  pub limit : new.limit ≡ (if jumps_above i then old.bound else old.limit)

-- the base, where the register is this one
abbrev pub base_for : Reg → Option (Reg × ℕ) → Option ℕ
base_for r last = option_and_then (λ s. if is_register r s.0 then Some s.1 else None) last

-- the jump that follows
abbrev pub seen_jump : Seen → ℕ → Reg → Option Jump
seen_jump s a r = if has s.sums.0 r then Some (jump_to a (table_of (base_for r s.last) s.limit)) else None

abbrev pub jump_seen : Seen → ℕ → Insn ℕ → Option Jump
jump_seen s a i = option_and_then (seen_jump s a) (jump_register i)
