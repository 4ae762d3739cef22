-- The words of the text, as the AT&T syntax of the GNU as manual has them: registers, conditions,
-- operators and the two parts of a mnemonic.
use Rattle.std.specs.Prelude.{ℕ, List, [], ◌++◌, codes, if◌then◌else◌}
use Rattle.rw_base.specs.declared.width.Width.{Width}
use Rattle.rw_base.specs.declared.width.Width.TheVariants as widths
use Rattle.x86_insn.specs.declared.kinds.Reg.{Reg}
use Rattle.x86_insn.specs.declared.kinds.Reg.TheVariants.{Rax, Rcx, Rdx, Rbx, Rsp, Rbp, Rsi, Rdi, R8, R9, R10, R11, R12, R13, R14, R15}
use Rattle.x86_insn.specs.declared.kinds.Reg8.{Reg8}
use Rattle.x86_insn.specs.declared.kinds.Reg8.TheVariants.{Low, High}
use Rattle.x86_insn.specs.declared.kinds.Cond.{Cond}
use Rattle.x86_insn.specs.declared.kinds.Cond.TheVariants as conds
use Rattle.x86_insn.specs.declared.kinds.AluOp.{AluOp}
use Rattle.x86_insn.specs.declared.kinds.AluOp.TheVariants.{Add, Or, Adc, Sbb, And, Sub, Xor, Cmp}
use Rattle.x86_insn.specs.declared.kinds.ShiftOp.{ShiftOp}
use Rattle.x86_insn.specs.declared.kinds.ShiftOp.TheVariants.{Rol, Ror, Shl, Shr, Sar}
use Rattle.x86_insn.specs.declared.kinds.OneOp.{OneOp}
use Rattle.x86_insn.specs.declared.kinds.OneOp.TheVariants as ones
use Rattle.x86_insn.specs.declared.kinds.BitOp.{BitOp}
use Rattle.x86_insn.specs.declared.kinds.BitOp.TheVariants as bits
use Rattle.x86_insn.specs.declared.kinds.ScanOp.{ScanOp}
use Rattle.x86_insn.specs.declared.kinds.ScanOp.TheVariants as scans
use Rattle.x86_insn.specs.declared.kinds.Convert.{Convert}
use Rattle.x86_insn.specs.declared.kinds.Convert.TheVariants as converts
use Rattle.x86_insn.specs.declared.kinds.Plain.{Plain}
use Rattle.x86_insn.specs.declared.kinds.Plain.TheVariants as plains
use Rattle.asm_print.specs.declared.spelling.Form.{Form}
use Rattle.asm_print.specs.declared.spelling.Form.TheVariants as forms

-- one of four, by the width
abbrev pub by_width : Width → List ℕ → List ℕ → List ℕ → List ℕ → List ℕ
by_width widths.B b w l q = b
by_width widths.W b w l q = w
by_width widths.L b w l q = l
by_width widths.Q b w l q = q

-- the low part of a register, of a width
abbrev pub low_name : Width → Reg → List ℕ
low_name w Rax = by_width w (codes "al") (codes "ax") (codes "eax") (codes "rax")
low_name w Rcx = by_width w (codes "cl") (codes "cx") (codes "ecx") (codes "rcx")
low_name w Rdx = by_width w (codes "dl") (codes "dx") (codes "edx") (codes "rdx")
low_name w Rbx = by_width w (codes "bl") (codes "bx") (codes "ebx") (codes "rbx")
low_name w Rsp = by_width w (codes "spl") (codes "sp") (codes "esp") (codes "rsp")
low_name w Rbp = by_width w (codes "bpl") (codes "bp") (codes "ebp") (codes "rbp")
low_name w Rsi = by_width w (codes "sil") (codes "si") (codes "esi") (codes "rsi")
low_name w Rdi = by_width w (codes "dil") (codes "di") (codes "edi") (codes "rdi")
low_name w R8 = by_width w (codes "r8b") (codes "r8w") (codes "r8d") (codes "r8")
low_name w R9 = by_width w (codes "r9b") (codes "r9w") (codes "r9d") (codes "r9")
low_name w R10 = by_width w (codes "r10b") (codes "r10w") (codes "r10d") (codes "r10")
low_name w R11 = by_width w (codes "r11b") (codes "r11w") (codes "r11d") (codes "r11")
low_name w R12 = by_width w (codes "r12b") (codes "r12w") (codes "r12d") (codes "r12")
low_name w R13 = by_width w (codes "r13b") (codes "r13w") (codes "r13d") (codes "r13")
low_name w R14 = by_width w (codes "r14b") (codes "r14w") (codes "r14d") (codes "r14")
low_name w R15 = by_width w (codes "r15b") (codes "r15w") (codes "r15d") (codes "r15")

abbrev pub high_name : Reg → List ℕ
high_name Rax = codes "ah"
high_name Rcx = codes "ch"
high_name Rdx = codes "dh"
high_name Rbx = codes "bh"
high_name _ = []

abbrev pub reg_name : Width → Reg8 → List ℕ
reg_name w (Low r) = low_name w r
reg_name w (High r) = high_name r

abbrev pub cond_name : Cond → List ℕ
cond_name conds.O = codes "o"
cond_name conds.No = codes "no"
cond_name conds.B = codes "b"
cond_name conds.Ae = codes "ae"
cond_name conds.E = codes "e"
cond_name conds.Ne = codes "ne"
cond_name conds.Be = codes "be"
cond_name conds.A = codes "a"
cond_name conds.S = codes "s"
cond_name conds.Ns = codes "ns"
cond_name conds.P = codes "p"
cond_name conds.Np = codes "np"
cond_name conds.L = codes "l"
cond_name conds.Ge = codes "ge"
cond_name conds.Le = codes "le"
cond_name conds.G = codes "g"

abbrev pub alu_name : AluOp → List ℕ
alu_name Add = codes "add"
alu_name Or = codes "or"
alu_name Adc = codes "adc"
alu_name Sbb = codes "sbb"
alu_name And = codes "and"
alu_name Sub = codes "sub"
alu_name Xor = codes "xor"
alu_name Cmp = codes "cmp"

abbrev pub shift_name : ShiftOp → List ℕ
shift_name Rol = codes "rol"
shift_name Ror = codes "ror"
shift_name Shl = codes "shl"
shift_name Shr = codes "shr"
shift_name Sar = codes "sar"

abbrev pub suffix : Width → List ℕ
suffix w = by_width w (codes "b") (codes "w") (codes "l") (codes "q")

abbrev pub one_name : OneOp → List ℕ
one_name ones.Inc = codes "inc"
one_name ones.Dec = codes "dec"
one_name ones.Not = codes "not"
one_name ones.Neg = codes "neg"
one_name ones.Mul = codes "mul"
one_name ones.Imul = codes "imul"
one_name ones.Div = codes "div"
one_name ones.Idiv = codes "idiv"

abbrev pub bit_name : BitOp → List ℕ
bit_name bits.Bt = codes "bt"
bit_name bits.Bts = codes "bts"
bit_name bits.Btr = codes "btr"
bit_name bits.Btc = codes "btc"

abbrev pub scan_name : ScanOp → List ℕ
scan_name scans.Bsf = codes "bsf"
scan_name scans.Bsr = codes "bsr"
scan_name scans.Tzcnt = codes "tzcnt"

abbrev pub convert_name : Convert → List ℕ
convert_name converts.Cbtw = codes "cbtw"
convert_name converts.Cwtl = codes "cwtl"
convert_name converts.Cltq = codes "cltq"
convert_name converts.Cwtd = codes "cwtd"
convert_name converts.Cltd = codes "cltd"
convert_name converts.Cqto = codes "cqto"

abbrev pub plain_name : Plain → List ℕ
plain_name plains.Nop = codes "nop"
plain_name plains.Pause = codes "pause"
plain_name plains.Endbr64 = codes "endbr64"
plain_name plains.Ud2 = codes "ud2"
plain_name plains.Int3 = codes "int3"
plain_name plains.Hlt = codes "hlt"

-- what stands before the suffix of the width or the condition
abbrev pub stem : Form → List ℕ
stem (forms.Alu op w) = alu_name op
stem (forms.Test w) = codes "test"
stem (forms.Xchg w) = codes "xchg"
stem (forms.Mov w) = codes "mov"
stem forms.MovAbs = codes "movabsq"
stem (forms.MovZx from_w w) = by_width from_w (codes "movzb") (codes "movzw") (codes "movzl") (codes "movzq")
stem (forms.MovSx from_w w) = by_width from_w (codes "movsb") (codes "movsw") (codes "movsl") (codes "movsq")
stem (forms.Lea w) = codes "lea"
stem forms.Push = codes "pushq"
stem forms.Pop = codes "popq"
stem (forms.Imul2 w) = codes "imul"
stem (forms.Imul3 w) = codes "imul"
stem (forms.One op w) = one_name op
stem (forms.Shift op w) = shift_name op
stem (forms.Convert c) = convert_name c
stem (forms.Movs w rep) = if rep then codes "rep movs" else codes "movs"
stem (forms.Stos w rep) = if rep then codes "rep stos" else codes "stos"
stem (forms.Cmov c) = codes "cmov"
stem (forms.Setcc c) = codes "set"
stem (forms.Bit op w) = bit_name op
stem (forms.Scan op w) = scan_name op
stem forms.Bswap = codes "bswap"
stem (forms.Jcc c) = codes "j"
stem forms.Jmp = codes "jmp"
stem forms.Call = codes "call"
stem (forms.JmpTo notrack) = if notrack then codes "notrack jmp" else codes "jmp"
stem (forms.CallTo notrack) = if notrack then codes "notrack call" else codes "call"
stem forms.Ret = codes "ret"
stem forms.Leave = codes "leave"
stem forms.Syscall = codes "syscall"
stem (forms.Plain c) = plain_name c

-- the suffix of the width, or the condition
abbrev pub ending : Form → List ℕ
ending (forms.Alu op w) = suffix w
ending (forms.Test w) = suffix w
ending (forms.Xchg w) = suffix w
ending (forms.Mov w) = suffix w
ending (forms.MovZx from_w w) = suffix w
ending (forms.MovSx from_w w) = suffix w
ending (forms.Lea w) = suffix w
ending (forms.Imul2 w) = suffix w
ending (forms.Imul3 w) = suffix w
ending (forms.One op w) = suffix w
ending (forms.Shift op w) = suffix w
ending (forms.Movs w rep) = suffix w
ending (forms.Stos w rep) = suffix w
ending (forms.Cmov c) = cond_name c
ending (forms.Setcc c) = cond_name c
ending (forms.Bit op w) = suffix w
ending (forms.Scan op w) = suffix w
ending (forms.Jcc c) = cond_name c
ending _ = []

abbrev pub mnemonic : Form → List ℕ
mnemonic form = stem form ++ ending form
