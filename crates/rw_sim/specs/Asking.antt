-- The built-in answer to what a machine asks.
use Rattle.std.specs.Prelude.{ℕ, ◌+◌, List, map, drop, sum, negsuc, Option, Some, None, Result, Ok, Err}
use Rattle.rw_base.specs.declared.width.Width.TheVariants.{Q}
use Rattle.x86_insn.specs.declared.instruction.Insn.{Insn}
use Rattle.x86_insn.specs.declared.instruction.Insn.TheVariants as insn
use Rattle.x86_insn.specs.declared.kinds.Reg.TheVariants.{Rsp}
use Rattle.rw_domain.specs.declared.cause.Cause.{Cause}
use Rattle.rw_domain.specs.declared.place.Access.TheVariants.{Write}
use Rattle.rw_domain.specs.declared.place.Place.{Place}
use Rattle.rw_domain.specs.Operators.{Operators}
use Rattle.rw_domain.specs.Placed.{Placed}
use Rattle.rw_machine.specs.Events.{Call, System, Import, Event}
use Rattle.rw_machine.specs.Program.{Program, Domains}
use Rattle.rw_machine.specs.Running.{register, bytes_from}
use Rattle.rw_machine.specs.Step.{Machine}
use Rattle.rw_sim.specs.Answers.{Answer}
use Rattle.rw_sim.specs.Builtins.{call_memory, system_answer, import_answer}

-- the sizes of the regions that came during the run: those behind that with the canary
abbrev pub fresh_sizes : Placed → List ℕ
fresh_sizes placed = map (λ region. region.size) (drop (placed.canary + 1) placed.regions)

module _ {V C P R : Type 0} (dom : Domains Placed V C) (prog : Program P R V) (m : Machine Placed V C P) where
  -- the place of eight bytes below the word of %rsp
  abbrev pub pushed_place : Operators V C → Result Place Cause
  pushed_place ops = ops.place (ops.sum (Some (ops.join Q (bytes_from ops 8 0 (register ops m.registers Rsp)))) None (negsuc 7)) 8 Write

  -- the word of the next point at a place
  abbrev pub pushed_word : Result Place Cause → Option (Place × V)
  pushed_word (Ok place) = Some (place, prog.address_of (prog.next m.point))
  pushed_word (Err c) = None

  -- A call pushes the address of the next instruction (Intel SDM, volume 2, CALL), to which the function returns; a jump
  -- pushes nothing.
  abbrev pub stored_by : Option (Insn R) → Option (Place × V)
  stored_by (Some (insn.Call to)) = pushed_word (pushed_place (dom.over m.placed))
  stored_by (Some (insn.CallTo to notrack)) = pushed_word (pushed_place (dom.over m.placed))
  stored_by _ = None

  -- memory as a function finds it that the instruction enters
  abbrev pub found_memory : List (List C)
  found_memory = call_memory (dom.over m.placed) m.memory (stored_by (prog.insn m.point))

  -- imported symbols have names
  module _ (name : ℕ → List ℕ) where
    abbrev pub answer_of_call : Call → List V → Result (Answer V C) Cause
    answer_of_call (System number) words = system_answer (dom.over m.placed) m.memory words number
    answer_of_call (Import symbol) words =
        import_answer (dom.over m.placed) found_memory words (sum (fresh_sizes m.placed)) symbol (name symbol)

    abbrev pub answer_to : Event V → Result (Answer V C) Cause
    answer_to event = answer_of_call event.call event.words
