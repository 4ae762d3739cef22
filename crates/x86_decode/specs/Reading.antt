-- The instruction at the front of some bytes and its length, read from left to right.
use Rattle.std.specs.Prelude.{ℕ, ◌+◌, ◌%◌, ◌^◌, List, length, take, drop, Option, Some, None, nat_lt, if◌then◌else◌}
use Rattle.x86_insn.specs.declared.instruction.Insn.{Insn}
use Rattle.x86_bytes.specs.declared.parts.Fields.{Fields}
use Rattle.x86_bytes.specs.declared.parts.Rm.{Rm}
use Rattle.x86_bytes.specs.declared.parts.Rm.TheVariants as rm
use Rattle.x86_bytes.specs.HeadReading.{head_of}
use Rattle.x86_bytes.specs.OperandReading.{modrm_at, located}
use Rattle.x86_decode.specs.declared.row.Row.{Row}
use Rattle.x86_decode.specs.Fits.{rex_of, row_of, opcode_row, has_modrm, width_of, imm_len}
use Rattle.x86_decode.specs.Value.{value}
use Rattle.x86_decode.specs.Spelling.{parts_of}

abbrev pub imm_at : ℕ → List ℕ → Fields → ℕ → Rm → ℕ → Row → ℕ → Option (Insn ℕ × ℕ)
imm_at address bytes f reg operand at row n =
    if nat_lt (length bytes) (at + n) then None
    else Some (value row.name row.form (parts_of f row reg operand (take n (drop at bytes)) ((address + (at + n)) % 2 ^ 64)), at + n)

abbrev pub after_row : ℕ → List ℕ → Fields → ℕ → Rm → ℕ → Option Row → Option (Insn ℕ × ℕ)
after_row address bytes f reg operand at None = None
after_row address bytes f reg operand at (Some row) = imm_at address bytes f reg operand at row (imm_len row.imm (width_of row.size f))

unfoldable pub row_at : ℕ → List ℕ → Fields → ℕ → Rm → ℕ → Option (Insn ℕ × ℕ)
row_at address bytes f reg operand at = after_row address bytes f reg operand at (row_of f reg operand)

abbrev pub after_operand : ℕ → List ℕ → Fields → Option (ℕ × Rm × ℕ) → Option (Insn ℕ × ℕ)
after_operand address bytes f None = None
after_operand address bytes f (Some p) = row_at address bytes f p.0 p.1 p.2

-- the operand of ModRM and the place after it, if the rows of the opcode have one
abbrev pub operand_at : List ℕ → Fields → Row → Option (ℕ × Rm × ℕ)
operand_at bytes f first =
    if has_modrm first.place then located f.at (modrm_at (rex_of f.rex) (drop f.at bytes))
    else Some (0, rm.Reg 0, f.at)

abbrev pub after_first : ℕ → List ℕ → Fields → Option Row → Option (Insn ℕ × ℕ)
after_first address bytes f None = None
after_first address bytes f (Some first) = after_operand address bytes f (operand_at bytes f first)

abbrev pub after_head : ℕ → List ℕ → Option Fields → Option (Insn ℕ × ℕ)
after_head address bytes None = None
after_head address bytes (Some f) = after_first address bytes f (opcode_row f.opcode)

unfoldable pub window_of : ℕ → List ℕ → Option (Insn ℕ × ℕ)
window_of address w = after_head address w (head_of w)

-- at most 15 bytes are looked at
abbrev pub decode_of : ℕ → List ℕ → Option (Insn ℕ × ℕ)
decode_of address bytes = window_of address (take 15 bytes)
