-- Which prefixes, REX bits, opcodes and operands of ModRM a row allows, one line for each word of the table.
-- Prefixes: Intel SDM vol. 2, 2.1.1; REX: 2.2.1; the operand size by 0x66 and REX.W: vol. 1, table 3-4.
use Rattle.std.specs.Prelude.{ℕ, ◌/◌, ◌%◌, Bool, true, false, ◌&&◌, ◌||◌, not, Option, Some, None, is_none, nat_le, nat_lt, ◌==◌, find, if◌then◌else◌}
use Rattle.rw_base.specs.declared.width.Width.{Width}
use Rattle.rw_base.specs.declared.width.Width.TheVariants as w
use Rattle.x86_bytes.specs.declared.parts.Fields.{Fields}
use Rattle.x86_bytes.specs.declared.parts.Rm.{Rm}
use Rattle.x86_bytes.specs.declared.parts.Rm.TheVariants as rm
use Rattle.x86_decode.specs.declared.row.Row.{Row}
use Rattle.x86_decode.specs.declared.row.Opcodes.{Opcodes}
use Rattle.x86_decode.specs.declared.row.Opcodes.TheVariants as opcodes
use Rattle.x86_decode.specs.declared.row.Numbers.{Numbers}
use Rattle.x86_decode.specs.declared.row.Numbers.TheVariants as numbers
use Rattle.x86_decode.specs.declared.row.Place.{Place}
use Rattle.x86_decode.specs.declared.row.Place.TheVariants as place
use Rattle.x86_decode.specs.declared.row.Size.{Size}
use Rattle.x86_decode.specs.declared.row.Size.TheVariants as size
use Rattle.x86_decode.specs.declared.row.Marks.{Marks}
use Rattle.x86_decode.specs.declared.row.Marks.TheVariants as marks
use Rattle.x86_decode.specs.declared.row.Imm.{Imm}
use Rattle.x86_decode.specs.declared.row.Imm.TheVariants as imm
use Rattle.x86_decode.specs.Rows.{rows}

-- the bits of REX, 0100WRXB, and 0 where there is none
abbrev pub rex_of : Option ℕ → ℕ
rex_of None = 0
rex_of (Some r) = r

-- W is bit 3, B bit 0
abbrev pub rex_w : Fields → Bool
rex_w f = rex_of f.rex / 8 % 2 == 1

abbrev pub rex_b : Fields → Bool
rex_b f = rex_of f.rex % 2 == 1

abbrev pub is_in : Opcodes → ℕ → Bool
is_in (opcodes.Run first last) o = nat_le first o && nat_le o last
is_in (opcodes.EveryEighth c) o = nat_lt o 0x40 && (o % 8 == c)

-- /0 rol /1 ror /4 shl /5 shr /7 sar
abbrev pub is_number : Numbers → ℕ → Bool
is_number numbers.Any n = true
is_number (numbers.Run first last) n = nat_le first n && nat_le n last
is_number numbers.Shifts n = not (n == 2) && (not (n == 3) && not (n == 6))

-- the form of the stack protector's canary, %fs:40: no base, no index, displacement 40
abbrev pub is_canary : Rm → Bool
is_canary (rm.Reg r) = false
is_canary (rm.Mem m) = m.canary

abbrev pub is_memory : Rm → Bool
is_memory (rm.Reg r) = false
is_memory (rm.Mem m) = true

abbrev pub is_second : Rm → Bool
is_second (rm.Reg r) = r == 2
is_second (rm.Mem m) = false

-- Prefix 64 stands only where the operand has the canary's form.
abbrev pub is_place : Place → Rm → Bool → Bool
is_place place.NoModRm operand fs = not fs
is_place place.Any operand fs = not fs || is_canary operand
is_place place.Address operand fs = not fs && is_memory operand
is_place place.Register operand fs = not fs && not (is_memory operand)
is_place place.Fa operand fs = not fs && is_second operand
is_place place.Ignored operand fs = not fs

-- No row but the nops has 0x66 twice, or 0x66 and REX.W.
abbrev pub is_size : Size → Fields → Bool
is_size size.B f = f.count66 == 0
is_size size.V f = (f.count66 == 0) || ((f.count66 == 1) && not (rex_w f))
is_size size.Lq f = f.count66 == 0
is_size size.Wl f = nat_le f.count66 1 && not (rex_w f)
is_size size.MustW f = (f.count66 == 0) && rex_w f
is_size size.Q f = f.count66 == 0
is_size size.Bare f = (f.count66 == 0) && is_none f.rex
is_size size.Unsized f = true

-- 0xF3 is part of some rows, and others allow it
abbrev pub is_rep : Marks → Bool → Bool
is_rep marks.Rep f3 = true
is_rep marks.MustRep f3 = f3
is_rep _ f3 = not f3

-- 0x2E, 0x3E, 0xF2 and 0xF3: 0x2E is a hint that the long nops carry, 0x3E says notrack before an indirect branch
abbrev pub are_marks : Marks → Fields → Bool
are_marks marks.Unmarked f = not f.f2 && (not f.f3 && (not f.ds && (f.count2e == 0)))
are_marks marks.Rep f = not f.f2 && (not f.ds && (f.count2e == 0))
are_marks marks.MustRep f = not f.f2 && (f.f3 && (not f.ds && (f.count2e == 0)))
are_marks marks.Ds f = not f.f2 && (not f.f3 && (f.count2e == 0))
are_marks marks.RexB f = not f.f2 && (not f.f3 && (not f.ds && ((f.count2e == 0) && rex_b f)))
are_marks marks.NoRex f = not f.f2 && (not f.f3 && (not f.ds && ((f.count2e == 0) && is_none f.rex)))
are_marks marks.Branch f = not f.f2 && (not f.f3 && (not f.ds && nat_le f.count2e 1))

-- whether a row allows these fields, and this register and operand in the ModRM byte
abbrev pub fits : Fields → ℕ → Rm → Row → Bool
fits f reg operand r = is_in r.opcodes f.opcode && (is_number r.numbers (reg % 8) && (is_place r.place operand f.fs && (is_size r.size f && are_marks r.marks f)))

abbrev pub has_opcode : ℕ → Row → Bool
has_opcode o r = is_in r.opcodes o

-- the row of these parts, of which there is at most one
unfoldable pub row_of : Fields → ℕ → Rm → Option Row
row_of f reg operand = find (fits f reg operand) rows

-- the first row of an opcode, which says whether it has a ModRM byte
unfoldable pub opcode_row : ℕ → Option Row
opcode_row o = find (has_opcode o) rows

abbrev pub has_modrm : Place → Bool
has_modrm place.NoModRm = false
has_modrm _ = true

-- the width: Q with REX.W, W with 0x66, else L, in rows of several widths
abbrev pub width_of : Size → Fields → Width
width_of size.B f = w.B
width_of size.V f = if rex_w f then w.Q else if f.count66 == 1 then w.W else w.L
width_of size.Lq f = if rex_w f then w.Q else w.L
width_of size.Wl f = if f.count66 == 1 then w.W else w.L
width_of _ f = w.Q

-- the number of bytes of an immediate
abbrev pub imm_len : Imm → Width → ℕ
imm_len imm.Absent s = 0
imm_len imm.One s = 1
imm_len imm.Four s = 4
imm_len imm.Eight s = 8
imm_len imm.Sized w.B = 1
imm_len imm.Sized w.W = 2
imm_len imm.Sized w.L = 4
imm_len imm.Sized w.Q = 4
