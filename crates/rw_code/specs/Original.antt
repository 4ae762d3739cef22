-- The program that the bytes of a file are where they are placed.
use Rattle.std.specs.Prelude.{ℕ, ◌+◌, ◌-◌, ◌%◌, ◌^◌, List, Bool, drop, find, Option, Some, None, option_map, option_and_then, Result, Ok, Err, if◌then◌else◌, ◌==◌, ◌&&◌, nat_le, not}
use Rattle.x86_insn.specs.declared.instruction.Insn.{Insn}
use Rattle.x86_decode.specs.Reading.{decode_of}
use Rattle.rw_words.specs.declared.atom.Atom.{Atom}
use Rattle.rw_words.specs.declared.atom.Atom.TheVariants as atom
use Rattle.rw_domain.specs.declared.cause.Cause.{Cause}
use Rattle.rw_domain.specs.declared.cause.Cause.TheVariants.{TargetNoPoint}
use Rattle.rw_elf.specs.declared.section.Section.{Section}
use Rattle.rw_elf.specs.Places.{section_bytes, section_around}
use Rattle.rw_elf.specs.Tables.{is_code}
use Rattle.rw_machine.specs.declared.goal.Goal.{Goal}
use Rattle.rw_machine.specs.declared.goal.Goal.TheVariants as goal
use Rattle.rw_machine.specs.Program.{Program}
use Rattle.rw_code.specs.Imports.{imports_of, is_copied}
use Rattle.rw_code.specs.File.{refers}
use Rattle.rw_code.specs.Placing.{Placing, import_address}

-- ---- instructions

-- what the bytes of a code section spell at an address of the file: one instruction at most, from there to the section's end
abbrev pub spelled_in : List ℕ → ℕ → Section → Option (Insn ℕ × ℕ)
spelled_in file a s = if is_code file s then decode_of a (drop (a - s.addr) (section_bytes file s)) else None

abbrev pub spelled_at : List ℕ → ℕ → Option (Insn ℕ × ℕ)
spelled_at file a = option_and_then (spelled_in file a) (section_around file a)

-- and at an address where the file is placed at a base
abbrev pub placed_at : (ℕ → Option (Insn ℕ × ℕ)) → ℕ → ℕ → Option (Insn ℕ × ℕ)
placed_at spelled base q = if nat_le base q then spelled (q - base) else None

abbrev pub address_after : ℕ → Option (Insn ℕ × ℕ) → ℕ
address_after q None = q
address_after q (Some d) = q + d.1

-- ---- references and targets

-- the address of what an address of the file stands for: that of an imported symbol where it is one, else its own
abbrev pub placed_atom : ℕ → (ℕ → ℕ) → ℕ → Atom → ℕ
placed_atom base import r (atom.Import i) = import i
placed_atom base import r _ = base + r

abbrev pub placed_reference : ℕ → (ℕ → ℕ) → ℕ → Option Atom → ℕ
placed_reference base import r None = base + r
placed_reference base import r (Some a) = placed_atom base import r a

-- the first imported symbol with a name that isn't copied whose address this is
abbrev pub import_from : (ℕ → Bool) → (ℕ → ℕ) → List ℕ → ℕ → Option ℕ
import_from copied import imports q = find (λ i. not (copied i) && import i == q) imports

-- a target is the address of an instruction, that of an imported symbol, or that of the end of the run
abbrev pub other_goal : ℕ → ℕ → Option ℕ → Result (Goal ℕ) Cause
other_goal finish q (Some i) = Ok (goal.Import i)
other_goal finish q None = if q == finish then Ok goal.Finish else Err TargetNoPoint

abbrev pub number_goal : ℕ → ℕ → Option ℕ → Option (Insn ℕ × ℕ) → Result (Goal ℕ) Cause
number_goal finish q import (Some d) = Ok (goal.At q)
number_goal finish q import None = other_goal finish q import

-- ---- the program

-- Points are addresses. References are addresses of the file.
abbrev pub original_of : (ℕ → Option (Insn ℕ × ℕ)) → (ℕ → Bool → Option Atom) → (ℕ → ℕ) → (ℕ → Option ℕ) → ℕ → ℕ → Program ℕ ℕ ℕ
original_of spelled stands import named base finish = record {
  insn = λ q. option_map (λ d. d.0) (placed_at spelled base q);
  next = λ q. address_after q (placed_at spelled base q);
  resolve = λ r direct. placed_reference base import r (stands r direct) % 2 ^ 64;
  target = λ q. number_goal finish q (named q) (placed_at spelled base q);
  address_of = λ q. q % 2 ^ 64;
}

abbrev pub original : List ℕ → Placing → Program ℕ ℕ ℕ
original file placing =
    original_of (spelled_at file) (refers file) (import_address file placing) (import_from (is_copied file) (import_address file placing) (imports_of file)) placing.base placing.finish
