-- Two machines over words that agree on what is live have the same room for an answer.
use Rattle.std.proofs.Common.{◌≡◌, ℕ, List, [], length, Option, Some, None, Result, Ok, Err, true, refl, sym, ap, subst, ◌∙◌, inr, ⊎_elim}
use Rattle.std.specs.Prelude.{pos, negsuc, IsSomeAnd, if◌then◌else◌}
use Rattle.std.specs.List.{Contains}
use Rattle.rw_base.specs.declared.width.Width.TheVariants.{Q}
use Rattle.x86_insn.specs.declared.kinds.Reg.{Reg}
use Rattle.x86_insn.specs.declared.kinds.Reg.TheVariants.{Rsp}
use Rattle.x86_insn.specs.declared.instruction.Insn.{Insn}
use Rattle.x86_insn.specs.WellFormed.{code_of, is_instruction}
use Rattle.x86_meaning.specs.declared.sets.Flag.{Flag}
use Rattle.x86_meaning.specs.Meaning.{micro_of}
use Rattle.x86_meaning.specs.Registers.{reads_of}
use Rattle.x86_meaning.specs.Flags.{flags_read_of}
use Rattle.x86_meaning.specs.Typing.{no_widths}
use Rattle.x86_meaning.proofs.FlagLaws.{needed-micro}
use Rattle.x86_meaning.proofs.RegisterLaws.{fetched-micro}
use Rattle.x86_meaning.proofs.Typed.{micro-typed}
use Rattle.rw_words.specs.declared.atom.Cell.{Cell}
use Rattle.rw_domain.specs.declared.cause.Cause.{Cause}
use Rattle.rw_domain.specs.declared.flags.Flags.{Flags}
use Rattle.rw_machine.specs.declared.ending.End.{End}
use Rattle.rw_machine.specs.declared.goal.Goal.{Goal}
use Rattle.rw_machine.specs.declared.goal.Goal.TheVariants.{At, Import, Finish}
use Rattle.rw_domain.specs.Operators.{Operators}
use Rattle.rw_domain.specs.Placed.{Placed}
use Rattle.rw_domain.specs.declared.place.Access.TheVariants.{Read}
use Rattle.rw_funcs.specs.Points.{Point, point_at}
use Rattle.rw_machine.specs.Domains.{symbols}
use Rattle.rw_machine.specs.Program.{Program, Domains, GivesInstructions}
use Rattle.rw_machine.specs.Running.{register}
use Rattle.rw_machine.specs.Step.{Machine, due_written, first_running, here_at, run_of, goal_of, raised_registers}
use Rattle.rw_machine.specs.Stands.{registers_at_end, frame_room, room_up_to, room_at_goal, room_of_ask, room_of_insn, reply_room}
use Rattle.rw_machine.specs.Agree.{SameFlag, SameWord}
use Rattle.rw_machine.proofs.FlagUse.{UsesFlags, symbols-use}
use Rattle.rw_machine.proofs.Follows.{micro-follows}
use Rattle.rw_machine.proofs.RunsAgree.{RunsAgree, after_all-alike, dues-written}
use Rattle.rw_machine.proofs.SameWords.{nowhere, same-after, same-or}
use Rattle.rw_live.specs.Liveness.{IsLive, IsFlagLive, ReadsRegister, ReadsFlag}
use Rattle.rw_live.specs.LiveSteps.{AgreeOnLive, HasPoints}

module _ {D V C P R : Type 0} (dom : Domains D V C) (ops : Operators V C) (prog : Program P R V) (uses : UsesFlags ops) (m : Machine D V C P) (a : List V) (f : Flags) (count : length m.registers ≡ length a) (stack : SameWord Rsp m.registers a) where
  abbrev n : Machine D V C P
  n = record m { registers = a; flags = f }

  abbrev on : Reg → Type 0
  on r = SameWord r m.registers a

  abbrev and_on : Flag → Type 0
  and_on x = SameFlag x m.flags f

  begun : RunsAgree ops on and_on [] [] (first_running ops m.registers m.flags) (first_running ops a f)
  begun = record {
    temps = refl;
    eight = refl;
    count = count;
    registers = λ r k. k;
    put = λ go r c. nowhere r c;
    flags = λ x k. k;
    set = λ go x c. nowhere x c;
    due = tt;
    goal = refl;
    ask = refl;
    cause = refl;
    quiet = refl;
  }

  -- the room depends on %rsp and the lengths of rows alone
  pointer : (x y : List V) → length x ≡ length y → SameWord Rsp x y → (z : Option End) → register ops (registers_at_end ops x z) Rsp ≡ register ops (registers_at_end ops y z) Rsp
  pointer x y size e (Some z) = same-or x y (code_of Rsp) (ops.undef Q) e
  pointer x y size e None =
      same-or (raised_registers ops x) (raised_registers ops y) (code_of Rsp) (ops.undef Q)
      (same-after x y Rsp Rsp _ _ size (λ same. ap (λ w. ops.sum (Some w) None (pos 8)) (same-or x y (code_of Rsp) (ops.undef Q) same)) e)

  frame : (x y : List V) (memory : List (List C)) → length x ≡ length y → SameWord Rsp x y → (z : Option End) → frame_room ops (registers_at_end ops x z) memory ≡ frame_room ops (registers_at_end ops y z) memory
  frame x y memory size e z = ap (λ w. if ops.forgets then room_up_to ops memory (ops.place (ops.sum (Some w) None (negsuc 0)) 1 Read) else None) (pointer x y size e z)

  module _ (i : Insn R) (formed : is_instruction i ≡ true) (reads : (r : Reg) → Contains (reads_of i) r → SameWord r m.registers a) (needs : (x : Flag) → Contains (flags_read_of i) x → SameFlag x m.flags f) (z : Option End) where
    module _ (ws : List Reg) (xs : List Flag) (h : RunsAgree ops on and_on ws xs (run_of dom ops prog m i) (run_of dom ops prog n i)) where
      at-goal : (g : Result (Goal P) Cause) → room_at_goal dom ops prog m z i (run_of dom ops prog m i) g ≡ room_at_goal dom ops prog n z i (run_of dom ops prog n i) g
      at-goal (Ok (Import k)) =
          ap (λ memory. frame_room ops (registers_at_end ops (run_of dom ops prog m i).registers z) memory) (dues-written ops (run_of dom ops prog m i).due (run_of dom ops prog n i).due h.due m.memory)
          ∙ frame (run_of dom ops prog m i).registers (run_of dom ops prog n i).registers (due_written ops m.memory (run_of dom ops prog n i).due) h.count (h.registers Rsp stack) z
      at-goal (Ok (At p)) = refl
      at-goal (Ok Finish) = refl
      at-goal (Err c) = refl

      at-ask : (k : _) → room_of_ask dom ops prog m z i (run_of dom ops prog m i) k ≡ room_of_ask dom ops prog n z i (run_of dom ops prog n i) k
      at-ask None = at-goal _ ∙ ap (λ g. room_at_goal dom ops prog n z i (run_of dom ops prog n i) (goal_of dom ops prog m.point g)) h.goal
      at-ask (Some k) = refl

      at-run : room_of_insn dom ops prog m z (Some i) ≡ room_of_insn dom ops prog n z (Some i)
      at-run = at-ask (run_of dom ops prog m i).ask ∙ ap (λ k. room_of_ask dom ops prog n z i (run_of dom ops prog n i) k) h.ask

    at-insn : room_of_insn dom ops prog m z (Some i) ≡ room_of_insn dom ops prog n z (Some i)
    at-insn =
        ⊎_elim
        (λ follows.
        at-run _ _
        (after_all-alike ops uses on and_on m.memory (here_at dom ops prog m.point i) (micro_of i) None no_widths [] [] _ _ begun
        (λ k c. reads k (subst (λ rs. Contains rs k) (fetched-micro i) c)) (λ x c. needs x (subst (λ xs. Contains xs x) (needed-micro None i) c)) (micro-typed no_widths i formed) follows tt))
        (λ is. subst (λ j. room_of_insn dom ops prog m z (Some j) ≡ room_of_insn dom ops prog n z (Some j)) (sym is) refl) (micro-follows i formed)

module _ {P : Type 0} (points : List Point) (at : ℕ → P) (prog : Program P ℕ (List Cell)) (formed : GivesInstructions prog) (has : HasPoints points at prog) (s t : Machine Placed (List Cell) Cell P) (c : ℕ) (p : Point)
    (there : s.point ≡ at c) (is : point_at points c ≡ Some p) (h : AgreeOnLive points c s t) (z : Option End) where
  abbrev other : Machine Placed (List Cell) Cell P
  other = record s { registers = t.registers; flags = t.flags }

  same-machine : other ≡ t
  same-machine = λ k. record { registers = t.registers; flags = t.flags; memory = h.memory k; placed = h.placed k; point = h.point k }

  insn-there : prog.insn s.point ≡ Some p.insn
  insn-there = ap prog.insn there ∙ has.insn c p is

  live-read : (r : Reg) → Contains (reads_of p.insn) r → IsLive points c r
  live-read r k = ([], subst (λ o. IsSomeAnd o (λ q. ReadsRegister points r q)) (sym is) (inr k))

  flag-read : (x : Flag) → Contains (flags_read_of p.insn) x → IsFlagLive points c x
  flag-read x k = ([], subst (λ o. IsSomeAnd o (λ q. ReadsFlag points x q)) (sym is) (inr k))

  at-point : room_of_insn symbols (symbols.over s.placed) prog s z (prog.insn s.point) ≡ room_of_insn symbols (symbols.over s.placed) prog other z (prog.insn s.point)
  at-point =
      subst (λ i. room_of_insn symbols (symbols.over s.placed) prog s z i ≡ room_of_insn symbols (symbols.over s.placed) prog other z i) (sym insn-there)
      (at-insn symbols (symbols.over s.placed) prog (symbols-use s.placed) s t.registers t.flags h.count h.stack p.insn (formed s.point p.insn insn-there) (λ r k. h.registers r (live-read r k)) (λ x k. h.flags x (flag-read x k)) z)

  pub same-room : reply_room symbols prog s z ≡ reply_room symbols prog t z
  same-room = at-point ∙ ap (λ x. reply_room symbols prog x z) same-machine
