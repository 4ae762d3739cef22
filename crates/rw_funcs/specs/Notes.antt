-- Notes: what is kept of the instructions of a file, for each byte of code.
use Rattle.std.specs.Prelude.{◌≡◌, ℕ, ◌+◌, ◌≤◌, List, length, drop, map, Bool, true, false, is_some}
use Rattle.std.specs.List.{range_with_len}
use Rattle.std.specs.Option.{option_map_or}
use Rattle.x86_insn.specs.declared.instruction.Insn.{Insn}
use Rattle.x86_insn.specs.declared.instruction.Insn.TheVariants.{Jcc, Jmp, JmpTo, Call, CallTo, Ret}
use Rattle.x86_insn.specs.References.{reference_of}
use Rattle.rw_funcs.specs.declared.insn_facts.InsnFacts.{InsnFacts}
use Rattle.rw_funcs.specs.Points.{Point, point_at, points}

-- a jump of any kind, a call of any kind, or a return
abbrev pub ends_block : {R : Type 0} → Insn R → Bool
ends_block (Jcc cond to) = true
ends_block (Jmp to) = true
ends_block (JmpTo to notrack) = true
ends_block (Call to) = true
ends_block (CallTo to notrack) = true
ends_block Ret = true
ends_block _ = false

-- the facts of an instruction: it refers where it has a direct target, or an operand relative to %rip
abbrev pub facts_of : Insn ℕ → InsnFacts
facts_of i = record { refers = is_some (reference_of i); ends_block = ends_block i }

-- the facts of a byte at which no instruction starts
abbrev pub no_facts : InsnFacts
no_facts = record { refers = false; ends_block = false }

-- what is noted of the point at an address, or a given value where there is none
abbrev pub noted_or : {A : Type 0} → (Point → A) → A → List Point → ℕ → A
noted_or note none ps a = option_map_or note (point_at ps a) none

-- the length of the point at an address, or a number where there is none
abbrev pub length_or : ℕ → List Point → ℕ → ℕ
length_or n ps a = noted_or (λ p. p.len) n ps a

-- what is noted of so many bytes from an address on
unfoldable pub notes_from : {A : Type 0} → (Point → A) → A → List Point → ℕ → ℕ → List A
notes_from note none ps start n = map (λ k. noted_or note none ps (start + k)) (range_with_len 0 n)

-- for each byte the length of the point at its address, else 0; and the facts of its instruction
abbrev pub marks_from : List Point → ℕ → ℕ → List ℕ
marks_from ps start n = notes_from (λ p. p.len) 0 ps start n

abbrev pub facts_from : List Point → ℕ → ℕ → List InsnFacts
facts_from ps start n = notes_from (λ p. facts_of p.insn) no_facts ps start n

-- The points of some code that lie at a place in it or behind are those that the rest of the code spells: none begins before the
-- place and ends behind it.
abbrev pub SplitsPointsAt : List ℕ → ℕ → ℕ → Type 0
SplitsPointsAt code start at = (a : ℕ) → start + at ≤ a → point_at (points (length code) start code) a ≡ point_at (points (length (drop at code)) (start + at) (drop at code)) a
