-- Registers and forms by their spelling: the tables are lists of values, and the words are those that are printed.
use Rattle.std.specs.Prelude.{ℕ, Bool, true, false, ◌&&◌, List, [], ◌∷◌, ◌++◌, map, flat_map, Option, find}
use Rattle.std.specs.Str.{bytes_eq}
use Rattle.rw_base.specs.declared.width.Width.{Width}
use Rattle.rw_base.specs.declared.width.Width.TheVariants.{B, W, L, Q}
use Rattle.x86_insn.specs.declared.kinds.Reg.TheVariants.{Rax, Rcx, Rdx, Rbx}
use Rattle.x86_insn.specs.declared.kinds.Reg8.{Reg8}
use Rattle.x86_insn.specs.declared.kinds.Reg8.TheVariants.{Low, High}
use Rattle.x86_insn.specs.declared.kinds.AluOp.{AluOp}
use Rattle.x86_insn.specs.declared.kinds.AluOp.TheVariants.{Add, Or, Adc, Sbb, And, Sub, Xor, Cmp}
use Rattle.x86_insn.specs.declared.kinds.ShiftOp.{ShiftOp}
use Rattle.x86_insn.specs.declared.kinds.ShiftOp.TheVariants.{Rol, Ror, Shl, Shr, Sar}
use Rattle.x86_insn.specs.declared.kinds.OneOp.{OneOp}
use Rattle.x86_insn.specs.declared.kinds.OneOp.TheVariants.{Inc, Dec, Not, Neg, Mul, Imul, Div, Idiv}
use Rattle.x86_insn.specs.declared.kinds.BitOp.{BitOp}
use Rattle.x86_insn.specs.declared.kinds.BitOp.TheVariants.{Bt, Bts, Btr, Btc}
use Rattle.x86_insn.specs.declared.kinds.ScanOp.{ScanOp}
use Rattle.x86_insn.specs.declared.kinds.ScanOp.TheVariants.{Bsf, Bsr, Tzcnt}
use Rattle.x86_insn.specs.declared.kinds.Convert.{Convert}
use Rattle.x86_insn.specs.declared.kinds.Convert.TheVariants.{Cbtw, Cwtl, Cltq, Cwtd, Cltd, Cqto}
use Rattle.x86_insn.specs.declared.kinds.Plain.{Plain}
use Rattle.x86_insn.specs.declared.kinds.Plain.TheVariants.{Nop, Pause, Endbr64, Ud2, Int3, Hlt}
use Rattle.x86_insn.specs.Codes.{registers, conditions}
use Rattle.asm_print.specs.declared.spelling.Form.{Form}
use Rattle.asm_print.specs.declared.spelling.Form.TheVariants as forms
use Rattle.asm_print.specs.declared.spelling.Args.{Args}
use Rattle.asm_print.specs.declared.spelling.Args.TheVariants.{Zero, One, Star, Two, Three}
use Rattle.asm_print.specs.Words.{reg_name, mnemonic}

abbrev pub widths : List Width
widths = B ∷ W ∷ L ∷ Q ∷ []

-- each register at each width, and the second bytes of the first four
abbrev pub named_registers : List (Width × Reg8)
named_registers = flat_map (λ r. map (λ w. (w, Low r)) widths) registers ++ map (λ r. (B, High r)) (Rax ∷ Rcx ∷ Rdx ∷ Rbx ∷ [])

-- the register of a name, with the width that the name shows
unfoldable pub reg_named : List ℕ → Option (Width × Reg8)
reg_named text = find (λ x. bytes_eq text (reg_name x.0 x.1)) named_registers

-- how many arguments there are, and whether a star stands before the one
pub data Kind : Type 0 where
  no_argument : Kind
  one_argument : Kind
  starred : Kind
  two_arguments : Kind
  three_arguments : Kind

abbrev pub is_kind : Kind → Kind → Bool
is_kind no_argument no_argument = true
is_kind one_argument one_argument = true
is_kind starred starred = true
is_kind two_arguments two_arguments = true
is_kind three_arguments three_arguments = true
is_kind _ _ = false

abbrev pub kind_of : {R : Type 0} → Args R → Kind
kind_of Zero = no_argument
kind_of (One a) = one_argument
kind_of (Star a) = starred
kind_of (Two a b) = two_arguments
kind_of (Three a b c) = three_arguments

-- the kind of arguments that a form has
abbrev pub form_kind : Form → Kind
form_kind forms.Push = one_argument
form_kind forms.Pop = one_argument
form_kind (forms.Imul3 w) = three_arguments
form_kind (forms.One op w) = one_argument
form_kind (forms.Convert c) = no_argument
form_kind (forms.Movs w rep) = no_argument
form_kind (forms.Stos w rep) = no_argument
form_kind (forms.Setcc c) = one_argument
form_kind forms.Bswap = one_argument
form_kind (forms.Jcc c) = one_argument
form_kind forms.Jmp = one_argument
form_kind forms.Call = one_argument
form_kind (forms.JmpTo notrack) = starred
form_kind (forms.CallTo notrack) = starred
form_kind forms.Ret = no_argument
form_kind forms.Leave = no_argument
form_kind forms.Syscall = no_argument
form_kind (forms.Plain c) = no_argument
form_kind _ = two_arguments

abbrev pub alu_ops : List AluOp
alu_ops = Add ∷ Or ∷ Adc ∷ Sbb ∷ And ∷ Sub ∷ Xor ∷ Cmp ∷ []

abbrev pub one_ops : List OneOp
one_ops = Inc ∷ Dec ∷ Not ∷ Neg ∷ Mul ∷ Imul ∷ Div ∷ Idiv ∷ []

abbrev pub shift_ops : List ShiftOp
shift_ops = Rol ∷ Ror ∷ Shl ∷ Shr ∷ Sar ∷ []

abbrev pub bit_ops : List BitOp
bit_ops = Bt ∷ Bts ∷ Btr ∷ Btc ∷ []

abbrev pub scan_ops : List ScanOp
scan_ops = Bsf ∷ Bsr ∷ Tzcnt ∷ []

abbrev pub converts : List Convert
converts = Cbtw ∷ Cwtl ∷ Cltq ∷ Cwtd ∷ Cltd ∷ Cqto ∷ []

abbrev pub plains : List Plain
plains = Nop ∷ Pause ∷ Endbr64 ∷ Ud2 ∷ Int3 ∷ Hlt ∷ []

-- a form for each width, and for each operation and width
abbrev pub at_widths : (Width → Form) → List Form
at_widths form = map form widths

abbrev pub of_ops : {A : Type 0} → (A → Width → Form) → List A → List Form
of_ops form ops = flat_map (λ op. at_widths (form op)) ops

-- all forms
abbrev pub all_forms : List Form
all_forms =
    flat_map (λ part. part)
    (of_ops forms.Alu alu_ops
    ∷ at_widths forms.Test
    ∷ at_widths forms.Xchg
    ∷ at_widths forms.Mov
    ∷ (forms.MovAbs ∷ [])
    ∷ of_ops forms.MovZx widths
    ∷ of_ops forms.MovSx widths
    ∷ at_widths forms.Lea
    ∷ (forms.Push ∷ forms.Pop ∷ [])
    ∷ at_widths forms.Imul2
    ∷ at_widths forms.Imul3
    ∷ of_ops forms.One one_ops
    ∷ of_ops forms.Shift shift_ops
    ∷ map forms.Convert converts
    ∷ at_widths (λ w. forms.Movs w false)
    ∷ at_widths (λ w. forms.Movs w true)
    ∷ at_widths (λ w. forms.Stos w false)
    ∷ at_widths (λ w. forms.Stos w true)
    ∷ map forms.Cmov conditions
    ∷ map forms.Setcc conditions
    ∷ of_ops forms.Bit bit_ops
    ∷ of_ops forms.Scan scan_ops
    ∷ map forms.Jcc conditions
    ∷ (forms.Bswap ∷ forms.Jmp ∷ forms.Call ∷ forms.JmpTo false ∷ forms.JmpTo true ∷ forms.CallTo false ∷ forms.CallTo true ∷ [])
    ∷ (forms.Ret ∷ forms.Leave ∷ forms.Syscall ∷ [])
    ∷ map forms.Plain plains
    ∷ [])

-- the form of a mnemonic, for arguments of a kind
unfoldable pub form_named : List ℕ → Kind → Option Form
form_named text kind = find (λ form. bytes_eq text (mnemonic form) && is_kind kind (form_kind form)) all_forms
