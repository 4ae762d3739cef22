-- Which bytes are an instruction at an address: at most 15, in the order of the Intel SDM, volume 2, figure 2-1.
use Rattle.std.specs.Prelude.{◌≡◌, ℕ, ◌+◌, ◌%◌, ◌^◌, ◌≤◌, Bool, true, false, List, [], ◌∷◌, ◌++◌, length, Contains}
use Rattle.x86_insn.specs.declared.instruction.Insn.{Insn}
use Rattle.x86_bytes.specs.declared.parts.Fields.{Fields}
use Rattle.x86_bytes.specs.declared.parts.Rm.{Rm}
use Rattle.x86_bytes.specs.declared.parts.Rm.TheVariants as rm
use Rattle.x86_bytes.specs.Head.{IsHead}
use Rattle.x86_bytes.specs.Operand.{IsOperand}
use Rattle.x86_decode.specs.declared.row.Row.{Row}
use Rattle.x86_decode.specs.declared.row.Parts.{Parts}
use Rattle.x86_decode.specs.Rows.{rows}
use Rattle.x86_decode.specs.Fits.{rex_of, fits, has_modrm, width_of, imm_len}
use Rattle.x86_decode.specs.Value.{signed, value}

-- the first byte of an immediate
abbrev pub first_byte : List ℕ → ℕ
first_byte [] = 0
first_byte (b ∷ rest) = b

abbrev pub parts_of : Fields → Row → ℕ → Rm → List ℕ → ℕ → Parts
parts_of f row reg operand imm next = record {
  fields = f;
  w = width_of row.size f;
  reg = reg;
  rm = operand;
  imm = signed imm;
  byte = first_byte imm;
  next = next;
}

-- Rows without a ModRM byte have no operand there: it is then register 0.
abbrev pub IsOptional : Bool → ℕ → ℕ → Rm → List ℕ → Type 0
IsOptional true rex reg operand text = IsOperand rex reg operand text
IsOptional false rex reg operand text = (text ≡ []) × (reg ≡ 0) × (operand ≡ rm.Reg 0)

-- the bytes are prefixes, REX and opcode, then an operand and an immediate as a row of the table asks for, and
-- the row gives this instruction for them
pub record Spells (insn : Insn ℕ) (address : ℕ) (bytes : List ℕ) : Type 0 where
  pub row : Row
  pub fields : Fields
  pub reg : ℕ
  pub operand : Rm
  pub head : List ℕ
  pub middle : List ℕ
  pub imm : List ℕ
  pub spelled : bytes ≡ head ++ (middle ++ imm)
  pub short : length bytes ≤ 15
  pub head_is : IsHead fields head
  pub operand_is : IsOptional (has_modrm row.place) (rex_of fields.rex) reg operand middle
  pub imm_is : length imm ≡ imm_len row.imm (width_of row.size fields)
  pub in_table : Contains rows row
  pub fitting : fits fields reg operand row ≡ true
  pub insn_is : insn ≡ value row.name row.form (parts_of fields row reg operand imm ((address + length bytes) % 2 ^ 64))
