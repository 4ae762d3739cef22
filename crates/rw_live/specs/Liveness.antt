-- Which registers and flags are live at the points of a function, by paths inside the function.
use Rattle.std.specs.Prelude.{◌≡◌, ◌⊎◌, ℕ, ◌+◌, List, [], ◌∷◌, Option, Some, None, IsSomeAnd, Bool, true, false, not, ◌||◌}
use Rattle.std.specs.List.{Contains}
use Rattle.std.specs.Option.{option_map_or}
use Rattle.x86_insn.specs.declared.kinds.Reg.{Reg}
use Rattle.x86_insn.specs.declared.kinds.Plain.TheVariants as plain
use Rattle.x86_insn.specs.declared.instruction.Insn.{Insn}
use Rattle.x86_insn.specs.declared.instruction.Insn.TheVariants as insn
use Rattle.x86_meaning.specs.declared.sets.Flag.{Flag}
use Rattle.x86_meaning.specs.Registers.{reads_of, writes_whole_of}
use Rattle.x86_meaning.specs.Flags.{flags_read_of, flags_written_of}
use Rattle.rw_machine.specs.Step.{loses_flags}
use Rattle.rw_funcs.specs.Points.{Point, is_point, point_at}

-- ---- where an instruction leads; calls, returns and indirect jumps are those that lose flags

abbrev pub is_system : {R : Type 0} → Insn R → Bool
is_system insn.Syscall = true
is_system _ = false

abbrev pub is_trap : {R : Type 0} → Insn R → Bool
is_trap (insn.Plain plain.Ud2) = true
is_trap (insn.Plain plain.Int3) = true
is_trap (insn.Plain plain.Hlt) = true
is_trap _ = false

abbrev pub is_jump : {R : Type 0} → Insn R → Bool
is_jump (insn.Jmp to) = true
is_jump _ = false

-- the target of a direct jump
abbrev pub target_of : {R : Type 0} → Insn R → Option R
target_of (insn.Jcc cond to) = Some to
target_of (insn.Jmp to) = Some to
target_of _ = None

-- a path goes on with the instruction behind it
abbrev pub goes_on : {R : Type 0} → Insn R → Bool
goes_on i = not (loses_flags i || (is_system i || (is_trap i || is_jump i)))

-- ---- the points of one function

module _ (points : List Point) where
  abbrev pub jumps_out : Insn ℕ → Bool
  jumps_out i = option_map_or (λ to. not (is_point points to)) (target_of i) false

  -- Whoever goes on behind a call, a return, a system call, an indirect jump or a jump out of the function may read every
  -- register, and behind a system call or a jump out every flag.
  abbrev pub reads_all : Insn ℕ → Bool
  reads_all i = loses_flags i || (is_system i || jumps_out i)

  abbrev pub reads_all_flags : Insn ℕ → Bool
  reads_all_flags i = is_system i || jumps_out i

  -- a point of the function may come after another: the one behind it, or its target
  abbrev pub LeadsTo : Point → ℕ → Type 0
  LeadsTo p d = (is_point points d ≡ true) × (((goes_on p.insn ≡ true) × (d ≡ p.place + p.len)) ⊎ (target_of p.insn ≡ Some d))

  -- From c the points ds come one after another; the last one reads, and none before it writes.
  abbrev pub IsPath : (Point → Type 0) → (Point → Type 0) → ℕ → List ℕ → Type 0
  IsPath Reads Writes c [] = IsSomeAnd (point_at points c) (λ p. Reads p)
  IsPath Reads Writes c (d ∷ ds) = IsSomeAnd (point_at points c) (λ p. ¬ Writes p × LeadsTo p d) × IsPath Reads Writes d ds

  abbrev pub ReadsRegister : Reg → Point → Type 0
  ReadsRegister r p = (reads_all p.insn ≡ true) ⊎ Contains (reads_of p.insn) r

  abbrev pub ReadsFlag : Flag → Point → Type 0
  ReadsFlag x p = (reads_all_flags p.insn ≡ true) ⊎ Contains (flags_read_of p.insn) x

  -- some path from c reads the register before it writes it whole
  abbrev pub IsLive : ℕ → Reg → Type 0
  IsLive c r = (ds : List ℕ) × IsPath (ReadsRegister r) (λ p. Contains (writes_whole_of p.insn) r) c ds

  abbrev pub IsFlagLive : ℕ → Flag → Type 0
  IsFlagLive c x = (ds : List ℕ) × IsPath (ReadsFlag x) (λ p. Contains (flags_written_of p.insn) x) c ds
