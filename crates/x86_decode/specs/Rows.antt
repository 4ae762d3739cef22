-- The table of instructions, one line for each row, in order of opcodes: opcodes, numbers /0 to /7, operand of ModRM,
-- widths, prefixes, immediate, operands, kind. After the opcode maps of the Intel SDM, volume 2, appendix A (tables
-- A-2, A-3 and A-6) and the instructions' own pages in chapters 3 and 4. src/row.rt says what each word means, and
-- Fits and Value define it. A row that the maps have and this table hasn't is an instruction that isn't decoded.
use Rattle.std.specs.Prelude.{List, [], ◌∷◌}
use Rattle.rw_base.specs.declared.width.Width.TheVariants as w
use Rattle.x86_insn.specs.declared.kinds.BitOp.TheVariants as bit
use Rattle.x86_insn.specs.declared.kinds.ScanOp.TheVariants as scan
use Rattle.x86_insn.specs.declared.kinds.Plain.TheVariants as plain
use Rattle.x86_decode.specs.declared.row.Row.{Row}
use Rattle.x86_decode.specs.declared.row.Opcodes.{Opcodes}
use Rattle.x86_decode.specs.declared.row.Opcodes.TheVariants as opcodes
use Rattle.x86_decode.specs.declared.row.Numbers.{Numbers}
use Rattle.x86_decode.specs.declared.row.Numbers.TheVariants as numbers
use Rattle.x86_decode.specs.declared.row.Place.{Place}
use Rattle.x86_decode.specs.declared.row.Place.TheVariants as place
use Rattle.x86_decode.specs.declared.row.Size.{Size}
use Rattle.x86_decode.specs.declared.row.Size.TheVariants as size
use Rattle.x86_decode.specs.declared.row.Marks.{Marks}
use Rattle.x86_decode.specs.declared.row.Marks.TheVariants as marks
use Rattle.x86_decode.specs.declared.row.Imm.{Imm}
use Rattle.x86_decode.specs.declared.row.Imm.TheVariants as imm
use Rattle.x86_decode.specs.declared.row.Form.{Form}
use Rattle.x86_decode.specs.declared.row.Form.TheVariants as form
use Rattle.x86_decode.specs.declared.row.Name.{Name}
use Rattle.x86_decode.specs.declared.row.Name.TheVariants as name

abbrev pub row : Opcodes → Numbers → Place → Size → Marks → Imm → Form → Name → Row
row o n p s m i f x = record { opcodes = o; numbers = n; place = p; size = s; marks = m; imm = i; form = f; name = x }

-- Opcodes from 0x0F00 on are 0x0F and a second byte.
abbrev pub rows : List Row
rows =
    -- opcodes 0x00 to 0x3F: ADD, OR, ADC, SBB, AND, SUB, XOR, CMP
    row (opcodes.EveryEighth 0) numbers.Any place.Any size.B marks.Unmarked imm.Absent form.EG name.AluByOpcode ∷
    row (opcodes.EveryEighth 1) numbers.Any place.Any size.V marks.Unmarked imm.Absent form.EG name.AluByOpcode ∷
    row (opcodes.EveryEighth 2) numbers.Any place.Any size.B marks.Unmarked imm.Absent form.GE name.AluByOpcode ∷
    row (opcodes.EveryEighth 3) numbers.Any place.Any size.V marks.Unmarked imm.Absent form.GE name.AluByOpcode ∷
    row (opcodes.EveryEighth 4) numbers.Any place.NoModRm size.B marks.Unmarked imm.One form.AI name.AluByOpcode ∷
    row (opcodes.EveryEighth 5) numbers.Any place.NoModRm size.V marks.Unmarked imm.Sized form.AI name.AluByOpcode ∷
    -- opcodes 0x50 to 0x5F: PUSH and POP of a register
    row (opcodes.Run 0x50 0x57) numbers.Any place.NoModRm size.Q marks.Unmarked imm.Absent form.OA name.Push ∷
    row (opcodes.Run 0x58 0x5F) numbers.Any place.NoModRm size.Q marks.Unmarked imm.Absent form.OA name.Pop ∷
    -- opcode 0x63: MOVSXD
    row (opcodes.Run 0x63 0x63) numbers.Any place.Any size.MustW marks.Unmarked imm.Absent form.GE (name.MovSx w.L) ∷
    -- opcodes 0x68 to 0x6B: PUSH of an immediate, IMUL with an immediate
    row (opcodes.Run 0x68 0x68) numbers.Any place.NoModRm size.Bare marks.Unmarked imm.Four form.IA name.Push ∷
    row (opcodes.Run 0x69 0x69) numbers.Any place.Any size.V marks.Unmarked imm.Sized form.GE name.Imul3 ∷
    row (opcodes.Run 0x6A 0x6A) numbers.Any place.NoModRm size.Bare marks.Unmarked imm.One form.IA name.Push ∷
    row (opcodes.Run 0x6B 0x6B) numbers.Any place.Any size.V marks.Unmarked imm.One form.GE name.Imul3 ∷
    -- opcodes 0x70 to 0x7F: Jcc
    row (opcodes.Run 0x70 0x7F) numbers.Any place.NoModRm size.Bare marks.Unmarked imm.One form.IA name.Jcc ∷
    -- opcodes 0x80 to 0x83: ADD, OR, ADC, SBB, AND, SUB, XOR, CMP with an immediate
    row (opcodes.Run 0x80 0x80) numbers.Any place.Any size.B marks.Unmarked imm.One form.EI name.AluByNumber ∷
    row (opcodes.Run 0x81 0x81) numbers.Any place.Any size.V marks.Unmarked imm.Sized form.EI name.AluByNumber ∷
    row (opcodes.Run 0x83 0x83) numbers.Any place.Any size.V marks.Unmarked imm.One form.EI name.AluByNumber ∷
    -- opcodes 0x84 to 0x8F: TEST, XCHG, MOV, LEA, POP
    row (opcodes.Run 0x84 0x84) numbers.Any place.Any size.B marks.Unmarked imm.Absent form.EG name.Test ∷
    row (opcodes.Run 0x85 0x85) numbers.Any place.Any size.V marks.Unmarked imm.Absent form.EG name.Test ∷
    row (opcodes.Run 0x86 0x86) numbers.Any place.Any size.B marks.Unmarked imm.Absent form.EG name.Xchg ∷
    row (opcodes.Run 0x87 0x87) numbers.Any place.Any size.V marks.Unmarked imm.Absent form.EG name.Xchg ∷
    row (opcodes.Run 0x88 0x88) numbers.Any place.Any size.B marks.Unmarked imm.Absent form.EG name.Mov ∷
    row (opcodes.Run 0x89 0x89) numbers.Any place.Any size.V marks.Unmarked imm.Absent form.EG name.Mov ∷
    row (opcodes.Run 0x8A 0x8A) numbers.Any place.Any size.B marks.Unmarked imm.Absent form.GE name.Mov ∷
    row (opcodes.Run 0x8B 0x8B) numbers.Any place.Any size.V marks.Unmarked imm.Absent form.GE name.Mov ∷
    row (opcodes.Run 0x8D 0x8D) numbers.Any place.Address size.V marks.Unmarked imm.Absent form.GE name.Lea ∷
    row (opcodes.Run 0x8F 0x8F) (numbers.Run 0 0) place.Any size.Q marks.Unmarked imm.Absent form.EG name.Pop ∷
    -- opcodes 0x90 to 0x99: XCHG with rAX, NOP, PAUSE, CBW and CWDE and CDQE, CWD and CDQ and CQO
    row (opcodes.Run 0x90 0x90) numbers.Any place.NoModRm size.V marks.RexB imm.Absent form.OA name.Xchg ∷
    row (opcodes.Run 0x90 0x90) numbers.Any place.NoModRm size.Unsized marks.NoRex imm.Absent form.OA (name.Plain plain.Nop) ∷
    row (opcodes.Run 0x90 0x90) numbers.Any place.NoModRm size.Bare marks.MustRep imm.Absent form.OA (name.Plain plain.Pause) ∷
    row (opcodes.Run 0x91 0x97) numbers.Any place.NoModRm size.V marks.Unmarked imm.Absent form.OA name.Xchg ∷
    row (opcodes.Run 0x98 0x98) numbers.Any place.NoModRm size.V marks.Unmarked imm.Absent form.OA name.Widen ∷
    row (opcodes.Run 0x99 0x99) numbers.Any place.NoModRm size.V marks.Unmarked imm.Absent form.OA name.Spread ∷
    -- opcodes 0xA4 to 0xAB: MOVS, TEST with rAX, STOS
    row (opcodes.Run 0xA4 0xA4) numbers.Any place.NoModRm size.B marks.Rep imm.Absent form.OA name.Movs ∷
    row (opcodes.Run 0xA5 0xA5) numbers.Any place.NoModRm size.V marks.Rep imm.Absent form.OA name.Movs ∷
    row (opcodes.Run 0xA8 0xA8) numbers.Any place.NoModRm size.B marks.Unmarked imm.One form.AI name.Test ∷
    row (opcodes.Run 0xA9 0xA9) numbers.Any place.NoModRm size.V marks.Unmarked imm.Sized form.AI name.Test ∷
    row (opcodes.Run 0xAA 0xAA) numbers.Any place.NoModRm size.B marks.Rep imm.Absent form.OA name.Stos ∷
    row (opcodes.Run 0xAB 0xAB) numbers.Any place.NoModRm size.V marks.Rep imm.Absent form.OA name.Stos ∷
    -- opcodes 0xB0 to 0xBF: MOV of an immediate to a register
    row (opcodes.Run 0xB0 0xB7) numbers.Any place.NoModRm size.B marks.Unmarked imm.One form.OI name.Mov ∷
    row (opcodes.Run 0xB8 0xBF) numbers.Any place.NoModRm size.Wl marks.Unmarked imm.Sized form.OI name.Mov ∷
    row (opcodes.Run 0xB8 0xBF) numbers.Any place.NoModRm size.MustW marks.Unmarked imm.Eight form.OI name.MovAbs ∷
    -- opcodes 0xC0 to 0xD3: shifts and rotates, RET, MOV of an immediate, LEAVE, INT3
    row (opcodes.Run 0xC0 0xC0) numbers.Shifts place.Any size.B marks.Unmarked imm.One form.EG name.ShiftImm ∷
    row (opcodes.Run 0xC1 0xC1) numbers.Shifts place.Any size.V marks.Unmarked imm.One form.EG name.ShiftImm ∷
    row (opcodes.Run 0xC3 0xC3) numbers.Any place.NoModRm size.Bare marks.Rep imm.Absent form.OA name.Ret ∷
    row (opcodes.Run 0xC6 0xC6) (numbers.Run 0 0) place.Any size.B marks.Unmarked imm.One form.EI name.Mov ∷
    row (opcodes.Run 0xC7 0xC7) (numbers.Run 0 0) place.Any size.V marks.Unmarked imm.Sized form.EI name.Mov ∷
    row (opcodes.Run 0xC9 0xC9) numbers.Any place.NoModRm size.Bare marks.Unmarked imm.Absent form.OA name.Leave ∷
    row (opcodes.Run 0xCC 0xCC) numbers.Any place.NoModRm size.Bare marks.Unmarked imm.Absent form.OA (name.Plain plain.Int3) ∷
    row (opcodes.Run 0xD0 0xD0) numbers.Shifts place.Any size.B marks.Unmarked imm.Absent form.EG name.ShiftOne ∷
    row (opcodes.Run 0xD1 0xD1) numbers.Shifts place.Any size.V marks.Unmarked imm.Absent form.EG name.ShiftOne ∷
    row (opcodes.Run 0xD2 0xD2) numbers.Shifts place.Any size.B marks.Unmarked imm.Absent form.EG name.ShiftCl ∷
    row (opcodes.Run 0xD3 0xD3) numbers.Shifts place.Any size.V marks.Unmarked imm.Absent form.EG name.ShiftCl ∷
    -- opcodes 0xE8 to 0xEB: CALL, JMP
    row (opcodes.Run 0xE8 0xE8) numbers.Any place.NoModRm size.Bare marks.Unmarked imm.Four form.IA name.Call ∷
    row (opcodes.Run 0xE9 0xE9) numbers.Any place.NoModRm size.Bare marks.Unmarked imm.Four form.IA name.Jmp ∷
    row (opcodes.Run 0xEB 0xEB) numbers.Any place.NoModRm size.Bare marks.Unmarked imm.One form.IA name.Jmp ∷
    -- opcode 0xF4: HLT
    row (opcodes.Run 0xF4 0xF4) numbers.Any place.NoModRm size.Bare marks.Unmarked imm.Absent form.OA (name.Plain plain.Hlt) ∷
    -- opcodes 0xF6, 0xF7: TEST, NOT, NEG, MUL, IMUL, DIV, IDIV
    row (opcodes.Run 0xF6 0xF6) (numbers.Run 0 0) place.Any size.B marks.Unmarked imm.One form.EI name.Test ∷
    row (opcodes.Run 0xF6 0xF6) (numbers.Run 2 7) place.Any size.B marks.Unmarked imm.Absent form.EG name.One ∷
    row (opcodes.Run 0xF7 0xF7) (numbers.Run 0 0) place.Any size.V marks.Unmarked imm.Sized form.EI name.Test ∷
    row (opcodes.Run 0xF7 0xF7) (numbers.Run 2 7) place.Any size.V marks.Unmarked imm.Absent form.EG name.One ∷
    -- opcodes 0xFE, 0xFF: INC, DEC, CALL, JMP, PUSH
    row (opcodes.Run 0xFE 0xFE) (numbers.Run 0 1) place.Any size.B marks.Unmarked imm.Absent form.EG name.One ∷
    row (opcodes.Run 0xFF 0xFF) (numbers.Run 0 1) place.Any size.V marks.Unmarked imm.Absent form.EG name.One ∷
    row (opcodes.Run 0xFF 0xFF) (numbers.Run 2 2) place.Any size.Q marks.Ds imm.Absent form.EG name.CallTo ∷
    row (opcodes.Run 0xFF 0xFF) (numbers.Run 4 4) place.Any size.Q marks.Ds imm.Absent form.EG name.JmpTo ∷
    row (opcodes.Run 0xFF 0xFF) (numbers.Run 6 6) place.Any size.Q marks.Unmarked imm.Absent form.EG name.Push ∷
    -- opcodes 0x0F05 to 0x0F1F: SYSCALL, UD2, ENDBR64, NOP
    row (opcodes.Run 0x0F05 0x0F05) numbers.Any place.NoModRm size.Bare marks.Unmarked imm.Absent form.OA name.Syscall ∷
    row (opcodes.Run 0x0F0B 0x0F0B) numbers.Any place.NoModRm size.Bare marks.Unmarked imm.Absent form.OA (name.Plain plain.Ud2) ∷
    row (opcodes.Run 0x0F1E 0x0F1E) (numbers.Run 7 7) place.Fa size.Bare marks.MustRep imm.Absent form.EG (name.Plain plain.Endbr64) ∷
    row (opcodes.Run 0x0F1F 0x0F1F) (numbers.Run 0 0) place.Ignored size.Unsized marks.Branch imm.Absent form.EG (name.Plain plain.Nop) ∷
    -- opcodes 0x0F40 to 0x0F4F: CMOVcc
    row (opcodes.Run 0x0F40 0x0F4F) numbers.Any place.Any size.V marks.Unmarked imm.Absent form.GE name.Cmov ∷
    -- opcodes 0x0F80 to 0x0F9F: Jcc, SETcc
    row (opcodes.Run 0x0F80 0x0F8F) numbers.Any place.NoModRm size.Bare marks.Unmarked imm.Four form.IA name.Jcc ∷
    row (opcodes.Run 0x0F90 0x0F9F) (numbers.Run 0 0) place.Any size.B marks.Unmarked imm.Absent form.EG name.Setcc ∷
    -- opcodes 0x0FA3 to 0x0FBF: BT, BTS, BTR, BTC, IMUL, MOVZX, BSF, TZCNT, BSR, MOVSX
    row (opcodes.Run 0x0FA3 0x0FA3) numbers.Any place.Register size.V marks.Unmarked imm.Absent form.EG (name.Bit bit.Bt) ∷
    row (opcodes.Run 0x0FAB 0x0FAB) numbers.Any place.Register size.V marks.Unmarked imm.Absent form.EG (name.Bit bit.Bts) ∷
    row (opcodes.Run 0x0FAF 0x0FAF) numbers.Any place.Any size.V marks.Unmarked imm.Absent form.GE name.Imul2 ∷
    row (opcodes.Run 0x0FB3 0x0FB3) numbers.Any place.Register size.V marks.Unmarked imm.Absent form.EG (name.Bit bit.Btr) ∷
    row (opcodes.Run 0x0FB6 0x0FB6) numbers.Any place.Any size.V marks.Unmarked imm.Absent form.GE (name.MovZx w.B) ∷
    row (opcodes.Run 0x0FB7 0x0FB7) numbers.Any place.Any size.Lq marks.Unmarked imm.Absent form.GE (name.MovZx w.W) ∷
    row (opcodes.Run 0x0FBA 0x0FBA) (numbers.Run 4 7) place.Any size.V marks.Unmarked imm.One form.EI name.BitByNumber ∷
    row (opcodes.Run 0x0FBB 0x0FBB) numbers.Any place.Register size.V marks.Unmarked imm.Absent form.EG (name.Bit bit.Btc) ∷
    row (opcodes.Run 0x0FBC 0x0FBC) numbers.Any place.Any size.V marks.Unmarked imm.Absent form.GE (name.Scan scan.Bsf) ∷
    row (opcodes.Run 0x0FBC 0x0FBC) numbers.Any place.Any size.V marks.MustRep imm.Absent form.GE (name.Scan scan.Tzcnt) ∷
    row (opcodes.Run 0x0FBD 0x0FBD) numbers.Any place.Any size.V marks.Unmarked imm.Absent form.GE (name.Scan scan.Bsr) ∷
    row (opcodes.Run 0x0FBE 0x0FBE) numbers.Any place.Any size.V marks.Unmarked imm.Absent form.GE (name.MovSx w.B) ∷
    row (opcodes.Run 0x0FBF 0x0FBF) numbers.Any place.Any size.Lq marks.Unmarked imm.Absent form.GE (name.MovSx w.W) ∷
    -- opcodes 0x0FC8 to 0x0FCF: BSWAP
    row (opcodes.Run 0x0FC8 0x0FCF) numbers.Any place.NoModRm size.Lq marks.Unmarked imm.Absent form.OA name.Bswap ∷
    []
