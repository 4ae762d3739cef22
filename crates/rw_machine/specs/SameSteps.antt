-- When two steps of one program come to the same.
use Rattle.std.specs.Prelude.{◌≡◌, List, [], ◌∷◌, ◌++◌, Option, Some, None, Result, Ok, Err, Bool, ◌&&◌, if◌then◌else◌}
use Rattle.std.specs.List.{Contains}
use Rattle.x86_insn.specs.declared.kinds.Reg.{Reg}
use Rattle.x86_insn.specs.declared.kinds.Reg.TheVariants.{Rax, Rcx, Rdx, Rsi, Rdi, R8, R9}
use Rattle.x86_insn.specs.declared.instruction.Insn.{Insn}
use Rattle.x86_meaning.specs.declared.sets.Flag.{Flag}
use Rattle.x86_meaning.specs.Sets.{all_flags}
use Rattle.x86_meaning.specs.Registers.{reads_of, writes_whole_of}
use Rattle.x86_meaning.specs.Flags.{flags_read_of, flags_written_of}
use Rattle.rw_domain.specs.declared.cause.Cause.{Cause}
use Rattle.rw_machine.specs.declared.goal.Goal.{Goal}
use Rattle.rw_machine.specs.declared.goal.Goal.TheVariants.{At, Import, Finish}
use Rattle.rw_machine.specs.Program.{Program, Domains}
use Rattle.rw_machine.specs.Step.{Machine, Outcome, Moved, Asks, Ended, Stopped, loses_flags, run_of, goal_of}
use Rattle.rw_machine.specs.Agree.{Agree, AgreeStill}

-- the registers that are read to go to a goal: the arguments of an imported function, and the result of a run that ends
abbrev pub read_to_go : {P : Type 0} → Result (Goal P) Cause → List Reg
read_to_go (Ok (At p)) = []
read_to_go (Ok (Import symbol)) = Rdi ∷ Rsi ∷ Rdx ∷ Rcx ∷ R8 ∷ R9 ∷ []
read_to_go (Ok Finish) = Rax ∷ []
read_to_go (Err c) = []

module _ {D V C P R : Type 0} (dom : Domains D V C) (prog : Program P R V) (m : Machine D V C P) where
  -- the goal of an instruction, by its list of small operations
  abbrev pub goal_from : Insn R → Result (Goal P) Cause
  goal_from i = goal_of dom (dom.over m.placed) prog m.point (run_of dom (dom.over m.placed) prog m i).goal

  abbrev pub insn_reads : Option (Insn R) → List Reg
  insn_reads None = []
  insn_reads (Some i) = reads_of i ++ read_to_go (goal_from i)

  -- the registers that a step reads, besides %rsp
  abbrev pub step_reads : List Reg
  step_reads = insn_reads (prog.insn m.point)

abbrev pub insn_writes : {R : Type 0} → Option (Insn R) → List Reg
insn_writes None = []
insn_writes (Some i) = writes_whole_of i

abbrev pub insn_reads_flags : {R : Type 0} → Option (Insn R) → List Flag
insn_reads_flags None = []
insn_reads_flags (Some i) = flags_read_of i

-- calls, returns and indirect jumps leave no flag as it was where flags are forgotten
abbrev pub flags_after : {R : Type 0} → Bool → Insn R → List Flag
flags_after forgets i = if forgets && loses_flags i then all_flags else flags_written_of i

abbrev pub insn_sets_flags : {R : Type 0} → Bool → Option (Insn R) → List Flag
insn_sets_flags forgets None = []
insn_sets_flags forgets (Some i) = flags_after forgets i

-- Two steps come to the same: both go on, both ask the same, both end with one end, or both stop for one cause. Next ties
-- the machines that go on, and Last those that have ended.
abbrev pub SameOutcome : {D V C P : Type 0} → (Machine D V C P → Machine D V C P → Type 0) → (Machine D V C P → Machine D V C P → Type 0) → Outcome D V C P → Outcome D V C P → Type 0
SameOutcome Next Last (Moved m) (Moved o) = Next m o
SameOutcome Next Last (Asks e) (Asks f) = e ≡ f
SameOutcome Next Last (Ended m y) (Ended o z) = (y ≡ z) × Last m o
SameOutcome Next Last (Stopped c) (Stopped d) = c ≡ d
SameOutcome Next Last _ _ = ⊥

module _ {D V C P R : Type 0} (dom : Domains D V C) (prog : Program P R V) (m o : Machine D V C P) where
  -- two machines agree on what the next step reads
  abbrev pub AgreeOnReads : Type 0
  AgreeOnReads = Agree (λ r. Contains (step_reads dom prog m) r) (λ x. Contains (insn_reads_flags (prog.insn m.point)) x) m o

  -- Their steps come to the same. Machines that go on agree on all on which these two agree, and on the registers and flags
  -- that the instruction writes whole or that are forgotten. Machines that have ended agree on all on which these two agree.
  abbrev pub StepsAgree : Outcome D V C P → Outcome D V C P → Type 0
  StepsAgree a b = SameOutcome (AgreeStill m o (insn_writes (prog.insn m.point)) (insn_sets_flags (dom.over m.placed).forgets (prog.insn m.point))) (AgreeStill m o [] []) a b
