-- The rows of the table that canonical spellings use, with the place of each.
use Rattle.std.proofs.Common.{refl, lit<}
use Rattle.std.specs.Prelude.{Contains}
use Rattle.rw_base.specs.declared.width.Width.TheVariants as w
use Rattle.x86_insn.specs.declared.kinds.BitOp.TheVariants as bit
use Rattle.x86_insn.specs.declared.kinds.ScanOp.TheVariants as scan
use Rattle.x86_insn.specs.declared.kinds.Plain.TheVariants as plain
use Rattle.x86_decode.specs.declared.row.Row.{Row}
use Rattle.x86_decode.specs.declared.row.Opcodes.TheVariants as opcodes
use Rattle.x86_decode.specs.declared.row.Numbers.TheVariants as numbers
use Rattle.x86_decode.specs.declared.row.Place.TheVariants as place
use Rattle.x86_decode.specs.declared.row.Size.TheVariants as size
use Rattle.x86_decode.specs.declared.row.Marks.TheVariants as marks
use Rattle.x86_decode.specs.declared.row.Imm.TheVariants as imm
use Rattle.x86_decode.specs.declared.row.Form.TheVariants as form
use Rattle.x86_decode.specs.declared.row.Name.TheVariants as name
use Rattle.x86_decode.specs.Rows.{row, rows}

abbrev pub row_alu_0 : Row
row_alu_0 = row (opcodes.EveryEighth 0) numbers.Any place.Any size.B marks.Unmarked imm.Absent form.EG name.AluByOpcode

pub has_alu_0 : Contains rows row_alu_0
has_alu_0 = (0, lit< tt, refl)

abbrev pub row_alu_1 : Row
row_alu_1 = row (opcodes.EveryEighth 1) numbers.Any place.Any size.V marks.Unmarked imm.Absent form.EG name.AluByOpcode

pub has_alu_1 : Contains rows row_alu_1
has_alu_1 = (1, lit< tt, refl)

abbrev pub row_alu_2 : Row
row_alu_2 = row (opcodes.EveryEighth 2) numbers.Any place.Any size.B marks.Unmarked imm.Absent form.GE name.AluByOpcode

pub has_alu_2 : Contains rows row_alu_2
has_alu_2 = (2, lit< tt, refl)

abbrev pub row_alu_3 : Row
row_alu_3 = row (opcodes.EveryEighth 3) numbers.Any place.Any size.V marks.Unmarked imm.Absent form.GE name.AluByOpcode

pub has_alu_3 : Contains rows row_alu_3
has_alu_3 = (3, lit< tt, refl)

abbrev pub row_80 : Row
row_80 = row (opcodes.Run 0x80 0x80) numbers.Any place.Any size.B marks.Unmarked imm.One form.EI name.AluByNumber

pub has_80 : Contains rows row_80
has_80 = (14, lit< tt, refl)

abbrev pub row_81 : Row
row_81 = row (opcodes.Run 0x81 0x81) numbers.Any place.Any size.V marks.Unmarked imm.Sized form.EI name.AluByNumber

pub has_81 : Contains rows row_81
has_81 = (15, lit< tt, refl)

abbrev pub row_83 : Row
row_83 = row (opcodes.Run 0x83 0x83) numbers.Any place.Any size.V marks.Unmarked imm.One form.EI name.AluByNumber

pub has_83 : Contains rows row_83
has_83 = (16, lit< tt, refl)

abbrev pub row_84 : Row
row_84 = row (opcodes.Run 0x84 0x84) numbers.Any place.Any size.B marks.Unmarked imm.Absent form.EG name.Test

pub has_84 : Contains rows row_84
has_84 = (17, lit< tt, refl)

abbrev pub row_85 : Row
row_85 = row (opcodes.Run 0x85 0x85) numbers.Any place.Any size.V marks.Unmarked imm.Absent form.EG name.Test

pub has_85 : Contains rows row_85
has_85 = (18, lit< tt, refl)

abbrev pub row_86 : Row
row_86 = row (opcodes.Run 0x86 0x86) numbers.Any place.Any size.B marks.Unmarked imm.Absent form.EG name.Xchg

pub has_86 : Contains rows row_86
has_86 = (19, lit< tt, refl)

abbrev pub row_87 : Row
row_87 = row (opcodes.Run 0x87 0x87) numbers.Any place.Any size.V marks.Unmarked imm.Absent form.EG name.Xchg

pub has_87 : Contains rows row_87
has_87 = (20, lit< tt, refl)

abbrev pub row_88 : Row
row_88 = row (opcodes.Run 0x88 0x88) numbers.Any place.Any size.B marks.Unmarked imm.Absent form.EG name.Mov

pub has_88 : Contains rows row_88
has_88 = (21, lit< tt, refl)

abbrev pub row_89 : Row
row_89 = row (opcodes.Run 0x89 0x89) numbers.Any place.Any size.V marks.Unmarked imm.Absent form.EG name.Mov

pub has_89 : Contains rows row_89
has_89 = (22, lit< tt, refl)

abbrev pub row_8A : Row
row_8A = row (opcodes.Run 0x8A 0x8A) numbers.Any place.Any size.B marks.Unmarked imm.Absent form.GE name.Mov

pub has_8A : Contains rows row_8A
has_8A = (23, lit< tt, refl)

abbrev pub row_8B : Row
row_8B = row (opcodes.Run 0x8B 0x8B) numbers.Any place.Any size.V marks.Unmarked imm.Absent form.GE name.Mov

pub has_8B : Contains rows row_8B
has_8B = (24, lit< tt, refl)

abbrev pub row_F6_0 : Row
row_F6_0 = row (opcodes.Run 0xF6 0xF6) (numbers.Run 0 0) place.Any size.B marks.Unmarked imm.One form.EI name.Test

pub has_F6_0 : Contains rows row_F6_0
has_F6_0 = (57, lit< tt, refl)

abbrev pub row_F7_0 : Row
row_F7_0 = row (opcodes.Run 0xF7 0xF7) (numbers.Run 0 0) place.Any size.V marks.Unmarked imm.Sized form.EI name.Test

pub has_F7_0 : Contains rows row_F7_0
has_F7_0 = (59, lit< tt, refl)

abbrev pub row_F6_2 : Row
row_F6_2 = row (opcodes.Run 0xF6 0xF6) (numbers.Run 2 7) place.Any size.B marks.Unmarked imm.Absent form.EG name.One

pub has_F6_2 : Contains rows row_F6_2
has_F6_2 = (58, lit< tt, refl)

abbrev pub row_F7_2 : Row
row_F7_2 = row (opcodes.Run 0xF7 0xF7) (numbers.Run 2 7) place.Any size.V marks.Unmarked imm.Absent form.EG name.One

pub has_F7_2 : Contains rows row_F7_2
has_F7_2 = (60, lit< tt, refl)

abbrev pub row_FE_0 : Row
row_FE_0 = row (opcodes.Run 0xFE 0xFE) (numbers.Run 0 1) place.Any size.B marks.Unmarked imm.Absent form.EG name.One

pub has_FE_0 : Contains rows row_FE_0
has_FE_0 = (61, lit< tt, refl)

abbrev pub row_FF_0 : Row
row_FF_0 = row (opcodes.Run 0xFF 0xFF) (numbers.Run 0 1) place.Any size.V marks.Unmarked imm.Absent form.EG name.One

pub has_FF_0 : Contains rows row_FF_0
has_FF_0 = (62, lit< tt, refl)

abbrev pub row_FF_2 : Row
row_FF_2 = row (opcodes.Run 0xFF 0xFF) (numbers.Run 2 2) place.Any size.Q marks.Ds imm.Absent form.EG name.CallTo

pub has_FF_2 : Contains rows row_FF_2
has_FF_2 = (63, lit< tt, refl)

abbrev pub row_FF_4 : Row
row_FF_4 = row (opcodes.Run 0xFF 0xFF) (numbers.Run 4 4) place.Any size.Q marks.Ds imm.Absent form.EG name.JmpTo

pub has_FF_4 : Contains rows row_FF_4
has_FF_4 = (64, lit< tt, refl)

abbrev pub row_FF_6 : Row
row_FF_6 = row (opcodes.Run 0xFF 0xFF) (numbers.Run 6 6) place.Any size.Q marks.Unmarked imm.Absent form.EG name.Push

pub has_FF_6 : Contains rows row_FF_6
has_FF_6 = (65, lit< tt, refl)

abbrev pub row_B0 : Row
row_B0 = row (opcodes.Run 0xB0 0xB7) numbers.Any place.NoModRm size.B marks.Unmarked imm.One form.OI name.Mov

pub has_B0 : Contains rows row_B0
has_B0 = (39, lit< tt, refl)

abbrev pub row_B8 : Row
row_B8 = row (opcodes.Run 0xB8 0xBF) numbers.Any place.NoModRm size.Wl marks.Unmarked imm.Sized form.OI name.Mov

pub has_B8 : Contains rows row_B8
has_B8 = (40, lit< tt, refl)

abbrev pub row_B8_W : Row
row_B8_W = row (opcodes.Run 0xB8 0xBF) numbers.Any place.NoModRm size.MustW marks.Unmarked imm.Eight form.OI name.MovAbs

pub has_B8_W : Contains rows row_B8_W
has_B8_W = (41, lit< tt, refl)

abbrev pub row_C6_0 : Row
row_C6_0 = row (opcodes.Run 0xC6 0xC6) (numbers.Run 0 0) place.Any size.B marks.Unmarked imm.One form.EI name.Mov

pub has_C6_0 : Contains rows row_C6_0
has_C6_0 = (45, lit< tt, refl)

abbrev pub row_C7_0 : Row
row_C7_0 = row (opcodes.Run 0xC7 0xC7) (numbers.Run 0 0) place.Any size.V marks.Unmarked imm.Sized form.EI name.Mov

pub has_C7_0 : Contains rows row_C7_0
has_C7_0 = (46, lit< tt, refl)

abbrev pub row_8D : Row
row_8D = row (opcodes.Run 0x8D 0x8D) numbers.Any place.Address size.V marks.Unmarked imm.Absent form.GE name.Lea

pub has_8D : Contains rows row_8D
has_8D = (25, lit< tt, refl)

abbrev pub row_63 : Row
row_63 = row (opcodes.Run 0x63 0x63) numbers.Any place.Any size.MustW marks.Unmarked imm.Absent form.GE (name.MovSx w.L)

pub has_63 : Contains rows row_63
has_63 = (8, lit< tt, refl)

abbrev pub row_0FB6 : Row
row_0FB6 = row (opcodes.Run 0x0FB6 0x0FB6) numbers.Any place.Any size.V marks.Unmarked imm.Absent form.GE (name.MovZx w.B)

pub has_0FB6 : Contains rows row_0FB6
has_0FB6 = (77, lit< tt, refl)

abbrev pub row_0FB7 : Row
row_0FB7 = row (opcodes.Run 0x0FB7 0x0FB7) numbers.Any place.Any size.Lq marks.Unmarked imm.Absent form.GE (name.MovZx w.W)

pub has_0FB7 : Contains rows row_0FB7
has_0FB7 = (78, lit< tt, refl)

abbrev pub row_0FBE : Row
row_0FBE = row (opcodes.Run 0x0FBE 0x0FBE) numbers.Any place.Any size.V marks.Unmarked imm.Absent form.GE (name.MovSx w.B)

pub has_0FBE : Contains rows row_0FBE
has_0FBE = (84, lit< tt, refl)

abbrev pub row_0FBF : Row
row_0FBF = row (opcodes.Run 0x0FBF 0x0FBF) numbers.Any place.Any size.Lq marks.Unmarked imm.Absent form.GE (name.MovSx w.W)

pub has_0FBF : Contains rows row_0FBF
has_0FBF = (85, lit< tt, refl)

abbrev pub row_50 : Row
row_50 = row (opcodes.Run 0x50 0x57) numbers.Any place.NoModRm size.Q marks.Unmarked imm.Absent form.OA name.Push

pub has_50 : Contains rows row_50
has_50 = (6, lit< tt, refl)

abbrev pub row_58 : Row
row_58 = row (opcodes.Run 0x58 0x5F) numbers.Any place.NoModRm size.Q marks.Unmarked imm.Absent form.OA name.Pop

pub has_58 : Contains rows row_58
has_58 = (7, lit< tt, refl)

abbrev pub row_68 : Row
row_68 = row (opcodes.Run 0x68 0x68) numbers.Any place.NoModRm size.Bare marks.Unmarked imm.Four form.IA name.Push

pub has_68 : Contains rows row_68
has_68 = (9, lit< tt, refl)

abbrev pub row_6A : Row
row_6A = row (opcodes.Run 0x6A 0x6A) numbers.Any place.NoModRm size.Bare marks.Unmarked imm.One form.IA name.Push

pub has_6A : Contains rows row_6A
has_6A = (11, lit< tt, refl)

abbrev pub row_8F_0 : Row
row_8F_0 = row (opcodes.Run 0x8F 0x8F) (numbers.Run 0 0) place.Any size.Q marks.Unmarked imm.Absent form.EG name.Pop

pub has_8F_0 : Contains rows row_8F_0
has_8F_0 = (26, lit< tt, refl)

abbrev pub row_69 : Row
row_69 = row (opcodes.Run 0x69 0x69) numbers.Any place.Any size.V marks.Unmarked imm.Sized form.GE name.Imul3

pub has_69 : Contains rows row_69
has_69 = (10, lit< tt, refl)

abbrev pub row_6B : Row
row_6B = row (opcodes.Run 0x6B 0x6B) numbers.Any place.Any size.V marks.Unmarked imm.One form.GE name.Imul3

pub has_6B : Contains rows row_6B
has_6B = (12, lit< tt, refl)

abbrev pub row_0FAF : Row
row_0FAF = row (opcodes.Run 0x0FAF 0x0FAF) numbers.Any place.Any size.V marks.Unmarked imm.Absent form.GE name.Imul2

pub has_0FAF : Contains rows row_0FAF
has_0FAF = (75, lit< tt, refl)

abbrev pub row_C0 : Row
row_C0 = row (opcodes.Run 0xC0 0xC0) numbers.Shifts place.Any size.B marks.Unmarked imm.One form.EG name.ShiftImm

pub has_C0 : Contains rows row_C0
has_C0 = (42, lit< tt, refl)

abbrev pub row_C1 : Row
row_C1 = row (opcodes.Run 0xC1 0xC1) numbers.Shifts place.Any size.V marks.Unmarked imm.One form.EG name.ShiftImm

pub has_C1 : Contains rows row_C1
has_C1 = (43, lit< tt, refl)

abbrev pub row_D2 : Row
row_D2 = row (opcodes.Run 0xD2 0xD2) numbers.Shifts place.Any size.B marks.Unmarked imm.Absent form.EG name.ShiftCl

pub has_D2 : Contains rows row_D2
has_D2 = (51, lit< tt, refl)

abbrev pub row_D3 : Row
row_D3 = row (opcodes.Run 0xD3 0xD3) numbers.Shifts place.Any size.V marks.Unmarked imm.Absent form.EG name.ShiftCl

pub has_D3 : Contains rows row_D3
has_D3 = (52, lit< tt, refl)

abbrev pub row_98 : Row
row_98 = row (opcodes.Run 0x98 0x98) numbers.Any place.NoModRm size.V marks.Unmarked imm.Absent form.OA name.Widen

pub has_98 : Contains rows row_98
has_98 = (31, lit< tt, refl)

abbrev pub row_99 : Row
row_99 = row (opcodes.Run 0x99 0x99) numbers.Any place.NoModRm size.V marks.Unmarked imm.Absent form.OA name.Spread

pub has_99 : Contains rows row_99
has_99 = (32, lit< tt, refl)

abbrev pub row_A4 : Row
row_A4 = row (opcodes.Run 0xA4 0xA4) numbers.Any place.NoModRm size.B marks.Rep imm.Absent form.OA name.Movs

pub has_A4 : Contains rows row_A4
has_A4 = (33, lit< tt, refl)

abbrev pub row_A5 : Row
row_A5 = row (opcodes.Run 0xA5 0xA5) numbers.Any place.NoModRm size.V marks.Rep imm.Absent form.OA name.Movs

pub has_A5 : Contains rows row_A5
has_A5 = (34, lit< tt, refl)

abbrev pub row_AA : Row
row_AA = row (opcodes.Run 0xAA 0xAA) numbers.Any place.NoModRm size.B marks.Rep imm.Absent form.OA name.Stos

pub has_AA : Contains rows row_AA
has_AA = (37, lit< tt, refl)

abbrev pub row_AB : Row
row_AB = row (opcodes.Run 0xAB 0xAB) numbers.Any place.NoModRm size.V marks.Rep imm.Absent form.OA name.Stos

pub has_AB : Contains rows row_AB
has_AB = (38, lit< tt, refl)

abbrev pub row_0F40 : Row
row_0F40 = row (opcodes.Run 0x0F40 0x0F4F) numbers.Any place.Any size.V marks.Unmarked imm.Absent form.GE name.Cmov

pub has_0F40 : Contains rows row_0F40
has_0F40 = (70, lit< tt, refl)

abbrev pub row_0F90_0 : Row
row_0F90_0 = row (opcodes.Run 0x0F90 0x0F9F) (numbers.Run 0 0) place.Any size.B marks.Unmarked imm.Absent form.EG name.Setcc

pub has_0F90_0 : Contains rows row_0F90_0
has_0F90_0 = (72, lit< tt, refl)

abbrev pub row_0FA3 : Row
row_0FA3 = row (opcodes.Run 0x0FA3 0x0FA3) numbers.Any place.Register size.V marks.Unmarked imm.Absent form.EG (name.Bit bit.Bt)

pub has_0FA3 : Contains rows row_0FA3
has_0FA3 = (73, lit< tt, refl)

abbrev pub row_0FAB : Row
row_0FAB = row (opcodes.Run 0x0FAB 0x0FAB) numbers.Any place.Register size.V marks.Unmarked imm.Absent form.EG (name.Bit bit.Bts)

pub has_0FAB : Contains rows row_0FAB
has_0FAB = (74, lit< tt, refl)

abbrev pub row_0FB3 : Row
row_0FB3 = row (opcodes.Run 0x0FB3 0x0FB3) numbers.Any place.Register size.V marks.Unmarked imm.Absent form.EG (name.Bit bit.Btr)

pub has_0FB3 : Contains rows row_0FB3
has_0FB3 = (76, lit< tt, refl)

abbrev pub row_0FBB : Row
row_0FBB = row (opcodes.Run 0x0FBB 0x0FBB) numbers.Any place.Register size.V marks.Unmarked imm.Absent form.EG (name.Bit bit.Btc)

pub has_0FBB : Contains rows row_0FBB
has_0FBB = (80, lit< tt, refl)

abbrev pub row_0FBA_4 : Row
row_0FBA_4 = row (opcodes.Run 0x0FBA 0x0FBA) (numbers.Run 4 7) place.Any size.V marks.Unmarked imm.One form.EI name.BitByNumber

pub has_0FBA_4 : Contains rows row_0FBA_4
has_0FBA_4 = (79, lit< tt, refl)

abbrev pub row_0FBC : Row
row_0FBC = row (opcodes.Run 0x0FBC 0x0FBC) numbers.Any place.Any size.V marks.Unmarked imm.Absent form.GE (name.Scan scan.Bsf)

pub has_0FBC : Contains rows row_0FBC
has_0FBC = (81, lit< tt, refl)

abbrev pub row_0FBC_F3 : Row
row_0FBC_F3 = row (opcodes.Run 0x0FBC 0x0FBC) numbers.Any place.Any size.V marks.MustRep imm.Absent form.GE (name.Scan scan.Tzcnt)

pub has_0FBC_F3 : Contains rows row_0FBC_F3
has_0FBC_F3 = (82, lit< tt, refl)

abbrev pub row_0FBD : Row
row_0FBD = row (opcodes.Run 0x0FBD 0x0FBD) numbers.Any place.Any size.V marks.Unmarked imm.Absent form.GE (name.Scan scan.Bsr)

pub has_0FBD : Contains rows row_0FBD
has_0FBD = (83, lit< tt, refl)

abbrev pub row_0FC8 : Row
row_0FC8 = row (opcodes.Run 0x0FC8 0x0FCF) numbers.Any place.NoModRm size.Lq marks.Unmarked imm.Absent form.OA name.Bswap

pub has_0FC8 : Contains rows row_0FC8
has_0FC8 = (86, lit< tt, refl)

abbrev pub row_0F80 : Row
row_0F80 = row (opcodes.Run 0x0F80 0x0F8F) numbers.Any place.NoModRm size.Bare marks.Unmarked imm.Four form.IA name.Jcc

pub has_0F80 : Contains rows row_0F80
has_0F80 = (71, lit< tt, refl)

abbrev pub row_E9 : Row
row_E9 = row (opcodes.Run 0xE9 0xE9) numbers.Any place.NoModRm size.Bare marks.Unmarked imm.Four form.IA name.Jmp

pub has_E9 : Contains rows row_E9
has_E9 = (54, lit< tt, refl)

abbrev pub row_E8 : Row
row_E8 = row (opcodes.Run 0xE8 0xE8) numbers.Any place.NoModRm size.Bare marks.Unmarked imm.Four form.IA name.Call

pub has_E8 : Contains rows row_E8
has_E8 = (53, lit< tt, refl)

abbrev pub row_C3 : Row
row_C3 = row (opcodes.Run 0xC3 0xC3) numbers.Any place.NoModRm size.Bare marks.Rep imm.Absent form.OA name.Ret

pub has_C3 : Contains rows row_C3
has_C3 = (44, lit< tt, refl)

abbrev pub row_C9 : Row
row_C9 = row (opcodes.Run 0xC9 0xC9) numbers.Any place.NoModRm size.Bare marks.Unmarked imm.Absent form.OA name.Leave

pub has_C9 : Contains rows row_C9
has_C9 = (47, lit< tt, refl)

abbrev pub row_0F05 : Row
row_0F05 = row (opcodes.Run 0x0F05 0x0F05) numbers.Any place.NoModRm size.Bare marks.Unmarked imm.Absent form.OA name.Syscall

pub has_0F05 : Contains rows row_0F05
has_0F05 = (66, lit< tt, refl)

abbrev pub row_90 : Row
row_90 = row (opcodes.Run 0x90 0x90) numbers.Any place.NoModRm size.Unsized marks.NoRex imm.Absent form.OA (name.Plain plain.Nop)

pub has_90 : Contains rows row_90
has_90 = (28, lit< tt, refl)

abbrev pub row_90_F3 : Row
row_90_F3 = row (opcodes.Run 0x90 0x90) numbers.Any place.NoModRm size.Bare marks.MustRep imm.Absent form.OA (name.Plain plain.Pause)

pub has_90_F3 : Contains rows row_90_F3
has_90_F3 = (29, lit< tt, refl)

abbrev pub row_0F1E_7 : Row
row_0F1E_7 = row (opcodes.Run 0x0F1E 0x0F1E) (numbers.Run 7 7) place.Fa size.Bare marks.MustRep imm.Absent form.EG (name.Plain plain.Endbr64)

pub has_0F1E_7 : Contains rows row_0F1E_7
has_0F1E_7 = (68, lit< tt, refl)

abbrev pub row_0F0B : Row
row_0F0B = row (opcodes.Run 0x0F0B 0x0F0B) numbers.Any place.NoModRm size.Bare marks.Unmarked imm.Absent form.OA (name.Plain plain.Ud2)

pub has_0F0B : Contains rows row_0F0B
has_0F0B = (67, lit< tt, refl)

abbrev pub row_CC : Row
row_CC = row (opcodes.Run 0xCC 0xCC) numbers.Any place.NoModRm size.Bare marks.Unmarked imm.Absent form.OA (name.Plain plain.Int3)

pub has_CC : Contains rows row_CC
has_CC = (48, lit< tt, refl)

abbrev pub row_F4 : Row
row_F4 = row (opcodes.Run 0xF4 0xF4) numbers.Any place.NoModRm size.Bare marks.Unmarked imm.Absent form.OA (name.Plain plain.Hlt)

pub has_F4 : Contains rows row_F4
has_F4 = (56, lit< tt, refl)
