-- What is named is found by its name, entry by entry: so no two registers have one name, and no two forms with the same kind of
-- arguments one mnemonic.
use Rattle.std.proofs.Common.{◌≡◌, Bool, true, false, Some, List, [], ◌∷◌, ◌++◌, ℕ, refl, ◌&&◌, not, eqb}
use Rattle.std.specs.List.{list_all}
use Rattle.std.specs.Str.{bytes_eq}
use Rattle.std.specs.Prelude.{slice_index, codes}
use Rattle.rw_base.specs.declared.width.Width.{Width}
use Rattle.rw_base.specs.declared.width.Width.TheVariants.{B, W, L, Q}
use Rattle.x86_insn.specs.declared.kinds.Reg.{Reg}
use Rattle.x86_insn.specs.declared.kinds.Reg.TheVariants.{Rax, Rcx, Rdx, Rbx, Rsp, Rbp, Rsi, Rdi, R8, R9, R10, R11, R12, R13, R14, R15}
use Rattle.x86_insn.specs.declared.kinds.Reg8.{Reg8}
use Rattle.x86_insn.specs.declared.kinds.Reg8.TheVariants.{Low, High}
use Rattle.x86_insn.specs.declared.kinds.Cond.TheVariants as conds
use Rattle.x86_insn.specs.declared.kinds.AluOp.TheVariants as alus
use Rattle.x86_insn.specs.declared.kinds.ShiftOp.TheVariants as shifts
use Rattle.x86_insn.specs.declared.kinds.OneOp.TheVariants as ones
use Rattle.x86_insn.specs.declared.kinds.BitOp.TheVariants as bits
use Rattle.x86_insn.specs.declared.kinds.ScanOp.TheVariants as scans
use Rattle.x86_insn.specs.declared.kinds.Convert.TheVariants as converts
use Rattle.x86_insn.specs.declared.kinds.Plain.TheVariants as plains
use Rattle.asm_print.specs.declared.spelling.Form.{Form}
use Rattle.asm_print.specs.declared.spelling.Form.TheVariants as forms
use Rattle.asm_print.specs.Words.{low_name, high_name, reg_name, mnemonic}
use Rattle.asm_print.specs.Pieces.{pieces}
use Rattle.asm_print.specs.Forms.{named_registers, reg_named, form_kind, form_named, all_forms}
use Rattle.asm_print.specs.Reading.{is_prefix_word}
use Rattle.asm_print.proofs.Bytes.{is_word_byte}

pub low-named : (w : Width) (r : Reg) → reg_named (low_name w r) ≡ Some (w, Low r)
unfolding reg_named
low-named B Rax = refl
low-named B Rcx = refl
low-named B Rdx = refl
low-named B Rbx = refl
low-named B Rsp = refl
low-named B Rbp = refl
low-named B Rsi = refl
low-named B Rdi = refl
low-named B R8 = refl
low-named B R9 = refl
low-named B R10 = refl
low-named B R11 = refl
low-named B R12 = refl
low-named B R13 = refl
low-named B R14 = refl
low-named B R15 = refl
low-named W Rax = refl
low-named W Rcx = refl
low-named W Rdx = refl
low-named W Rbx = refl
low-named W Rsp = refl
low-named W Rbp = refl
low-named W Rsi = refl
low-named W Rdi = refl
low-named W R8 = refl
low-named W R9 = refl
low-named W R10 = refl
low-named W R11 = refl
low-named W R12 = refl
low-named W R13 = refl
low-named W R14 = refl
low-named W R15 = refl
low-named L Rax = refl
low-named L Rcx = refl
low-named L Rdx = refl
low-named L Rbx = refl
low-named L Rsp = refl
low-named L Rbp = refl
low-named L Rsi = refl
low-named L Rdi = refl
low-named L R8 = refl
low-named L R9 = refl
low-named L R10 = refl
low-named L R11 = refl
low-named L R12 = refl
low-named L R13 = refl
low-named L R14 = refl
low-named L R15 = refl
low-named Q Rax = refl
low-named Q Rcx = refl
low-named Q Rdx = refl
low-named Q Rbx = refl
low-named Q Rsp = refl
low-named Q Rbp = refl
low-named Q Rsi = refl
low-named Q Rdi = refl
low-named Q R8 = refl
low-named Q R9 = refl
low-named Q R10 = refl
low-named Q R11 = refl
low-named Q R12 = refl
low-named Q R13 = refl
low-named Q R14 = refl
low-named Q R15 = refl

pub high-named : (r : Reg) → bytes_eq (high_name r) [] ≡ false → reg_named (high_name r) ≡ Some (B, High r)
unfolding reg_named
high-named Rax h = refl
high-named Rcx h = refl
high-named Rdx h = refl
high-named Rbx h = refl
high-named Rsp h = absurd cc
high-named Rbp h = absurd cc
high-named Rsi h = absurd cc
high-named Rdi h = absurd cc
high-named R8 h = absurd cc
high-named R9 h = absurd cc
high-named R10 h = absurd cc
high-named R11 h = absurd cc
high-named R12 h = absurd cc
high-named R13 h = absurd cc
high-named R14 h = absurd cc
high-named R15 h = absurd cc

-- a register's name has letters and digits alone, and isn't what stands for the canary
unfoldable pub is_word_register : Width × Reg8 → Bool
is_word_register x = list_all is_word_byte (reg_name x.0 x.1) && not (bytes_eq (reg_name x.0 x.1) (codes "fs:40"))

pub all-word : list_all is_word_register named_registers ≡ true
unfolding is_word_register is_word_byte
all-word = refl

pub form-found : (f : Form) → form_named (mnemonic f) (form_kind f) ≡ Some f
unfolding form_named
form-found (forms.Alu alus.Add B) = refl
form-found (forms.Alu alus.Add W) = refl
form-found (forms.Alu alus.Add L) = refl
form-found (forms.Alu alus.Add Q) = refl
form-found (forms.Alu alus.Or B) = refl
form-found (forms.Alu alus.Or W) = refl
form-found (forms.Alu alus.Or L) = refl
form-found (forms.Alu alus.Or Q) = refl
form-found (forms.Alu alus.Adc B) = refl
form-found (forms.Alu alus.Adc W) = refl
form-found (forms.Alu alus.Adc L) = refl
form-found (forms.Alu alus.Adc Q) = refl
form-found (forms.Alu alus.Sbb B) = refl
form-found (forms.Alu alus.Sbb W) = refl
form-found (forms.Alu alus.Sbb L) = refl
form-found (forms.Alu alus.Sbb Q) = refl
form-found (forms.Alu alus.And B) = refl
form-found (forms.Alu alus.And W) = refl
form-found (forms.Alu alus.And L) = refl
form-found (forms.Alu alus.And Q) = refl
form-found (forms.Alu alus.Sub B) = refl
form-found (forms.Alu alus.Sub W) = refl
form-found (forms.Alu alus.Sub L) = refl
form-found (forms.Alu alus.Sub Q) = refl
form-found (forms.Alu alus.Xor B) = refl
form-found (forms.Alu alus.Xor W) = refl
form-found (forms.Alu alus.Xor L) = refl
form-found (forms.Alu alus.Xor Q) = refl
form-found (forms.Alu alus.Cmp B) = refl
form-found (forms.Alu alus.Cmp W) = refl
form-found (forms.Alu alus.Cmp L) = refl
form-found (forms.Alu alus.Cmp Q) = refl
form-found (forms.Test B) = refl
form-found (forms.Test W) = refl
form-found (forms.Test L) = refl
form-found (forms.Test Q) = refl
form-found (forms.Xchg B) = refl
form-found (forms.Xchg W) = refl
form-found (forms.Xchg L) = refl
form-found (forms.Xchg Q) = refl
form-found (forms.Mov B) = refl
form-found (forms.Mov W) = refl
form-found (forms.Mov L) = refl
form-found (forms.Mov Q) = refl
form-found forms.MovAbs = refl
form-found (forms.MovZx B B) = refl
form-found (forms.MovZx B W) = refl
form-found (forms.MovZx B L) = refl
form-found (forms.MovZx B Q) = refl
form-found (forms.MovZx W B) = refl
form-found (forms.MovZx W W) = refl
form-found (forms.MovZx W L) = refl
form-found (forms.MovZx W Q) = refl
form-found (forms.MovZx L B) = refl
form-found (forms.MovZx L W) = refl
form-found (forms.MovZx L L) = refl
form-found (forms.MovZx L Q) = refl
form-found (forms.MovZx Q B) = refl
form-found (forms.MovZx Q W) = refl
form-found (forms.MovZx Q L) = refl
form-found (forms.MovZx Q Q) = refl
form-found (forms.MovSx B B) = refl
form-found (forms.MovSx B W) = refl
form-found (forms.MovSx B L) = refl
form-found (forms.MovSx B Q) = refl
form-found (forms.MovSx W B) = refl
form-found (forms.MovSx W W) = refl
form-found (forms.MovSx W L) = refl
form-found (forms.MovSx W Q) = refl
form-found (forms.MovSx L B) = refl
form-found (forms.MovSx L W) = refl
form-found (forms.MovSx L L) = refl
form-found (forms.MovSx L Q) = refl
form-found (forms.MovSx Q B) = refl
form-found (forms.MovSx Q W) = refl
form-found (forms.MovSx Q L) = refl
form-found (forms.MovSx Q Q) = refl
form-found (forms.Lea B) = refl
form-found (forms.Lea W) = refl
form-found (forms.Lea L) = refl
form-found (forms.Lea Q) = refl
form-found forms.Push = refl
form-found forms.Pop = refl
form-found (forms.Imul2 B) = refl
form-found (forms.Imul2 W) = refl
form-found (forms.Imul2 L) = refl
form-found (forms.Imul2 Q) = refl
form-found (forms.Imul3 B) = refl
form-found (forms.Imul3 W) = refl
form-found (forms.Imul3 L) = refl
form-found (forms.Imul3 Q) = refl
form-found (forms.One ones.Inc B) = refl
form-found (forms.One ones.Inc W) = refl
form-found (forms.One ones.Inc L) = refl
form-found (forms.One ones.Inc Q) = refl
form-found (forms.One ones.Dec B) = refl
form-found (forms.One ones.Dec W) = refl
form-found (forms.One ones.Dec L) = refl
form-found (forms.One ones.Dec Q) = refl
form-found (forms.One ones.Not B) = refl
form-found (forms.One ones.Not W) = refl
form-found (forms.One ones.Not L) = refl
form-found (forms.One ones.Not Q) = refl
form-found (forms.One ones.Neg B) = refl
form-found (forms.One ones.Neg W) = refl
form-found (forms.One ones.Neg L) = refl
form-found (forms.One ones.Neg Q) = refl
form-found (forms.One ones.Mul B) = refl
form-found (forms.One ones.Mul W) = refl
form-found (forms.One ones.Mul L) = refl
form-found (forms.One ones.Mul Q) = refl
form-found (forms.One ones.Imul B) = refl
form-found (forms.One ones.Imul W) = refl
form-found (forms.One ones.Imul L) = refl
form-found (forms.One ones.Imul Q) = refl
form-found (forms.One ones.Div B) = refl
form-found (forms.One ones.Div W) = refl
form-found (forms.One ones.Div L) = refl
form-found (forms.One ones.Div Q) = refl
form-found (forms.One ones.Idiv B) = refl
form-found (forms.One ones.Idiv W) = refl
form-found (forms.One ones.Idiv L) = refl
form-found (forms.One ones.Idiv Q) = refl
form-found (forms.Shift shifts.Rol B) = refl
form-found (forms.Shift shifts.Rol W) = refl
form-found (forms.Shift shifts.Rol L) = refl
form-found (forms.Shift shifts.Rol Q) = refl
form-found (forms.Shift shifts.Ror B) = refl
form-found (forms.Shift shifts.Ror W) = refl
form-found (forms.Shift shifts.Ror L) = refl
form-found (forms.Shift shifts.Ror Q) = refl
form-found (forms.Shift shifts.Shl B) = refl
form-found (forms.Shift shifts.Shl W) = refl
form-found (forms.Shift shifts.Shl L) = refl
form-found (forms.Shift shifts.Shl Q) = refl
form-found (forms.Shift shifts.Shr B) = refl
form-found (forms.Shift shifts.Shr W) = refl
form-found (forms.Shift shifts.Shr L) = refl
form-found (forms.Shift shifts.Shr Q) = refl
form-found (forms.Shift shifts.Sar B) = refl
form-found (forms.Shift shifts.Sar W) = refl
form-found (forms.Shift shifts.Sar L) = refl
form-found (forms.Shift shifts.Sar Q) = refl
form-found (forms.Convert converts.Cbtw) = refl
form-found (forms.Convert converts.Cwtl) = refl
form-found (forms.Convert converts.Cltq) = refl
form-found (forms.Convert converts.Cwtd) = refl
form-found (forms.Convert converts.Cltd) = refl
form-found (forms.Convert converts.Cqto) = refl
form-found (forms.Movs B true) = refl
form-found (forms.Movs B false) = refl
form-found (forms.Movs W true) = refl
form-found (forms.Movs W false) = refl
form-found (forms.Movs L true) = refl
form-found (forms.Movs L false) = refl
form-found (forms.Movs Q true) = refl
form-found (forms.Movs Q false) = refl
form-found (forms.Stos B true) = refl
form-found (forms.Stos B false) = refl
form-found (forms.Stos W true) = refl
form-found (forms.Stos W false) = refl
form-found (forms.Stos L true) = refl
form-found (forms.Stos L false) = refl
form-found (forms.Stos Q true) = refl
form-found (forms.Stos Q false) = refl
form-found (forms.Cmov conds.O) = refl
form-found (forms.Cmov conds.No) = refl
form-found (forms.Cmov conds.B) = refl
form-found (forms.Cmov conds.Ae) = refl
form-found (forms.Cmov conds.E) = refl
form-found (forms.Cmov conds.Ne) = refl
form-found (forms.Cmov conds.Be) = refl
form-found (forms.Cmov conds.A) = refl
form-found (forms.Cmov conds.S) = refl
form-found (forms.Cmov conds.Ns) = refl
form-found (forms.Cmov conds.P) = refl
form-found (forms.Cmov conds.Np) = refl
form-found (forms.Cmov conds.L) = refl
form-found (forms.Cmov conds.Ge) = refl
form-found (forms.Cmov conds.Le) = refl
form-found (forms.Cmov conds.G) = refl
form-found (forms.Setcc conds.O) = refl
form-found (forms.Setcc conds.No) = refl
form-found (forms.Setcc conds.B) = refl
form-found (forms.Setcc conds.Ae) = refl
form-found (forms.Setcc conds.E) = refl
form-found (forms.Setcc conds.Ne) = refl
form-found (forms.Setcc conds.Be) = refl
form-found (forms.Setcc conds.A) = refl
form-found (forms.Setcc conds.S) = refl
form-found (forms.Setcc conds.Ns) = refl
form-found (forms.Setcc conds.P) = refl
form-found (forms.Setcc conds.Np) = refl
form-found (forms.Setcc conds.L) = refl
form-found (forms.Setcc conds.Ge) = refl
form-found (forms.Setcc conds.Le) = refl
form-found (forms.Setcc conds.G) = refl
form-found (forms.Bit bits.Bt B) = refl
form-found (forms.Bit bits.Bt W) = refl
form-found (forms.Bit bits.Bt L) = refl
form-found (forms.Bit bits.Bt Q) = refl
form-found (forms.Bit bits.Bts B) = refl
form-found (forms.Bit bits.Bts W) = refl
form-found (forms.Bit bits.Bts L) = refl
form-found (forms.Bit bits.Bts Q) = refl
form-found (forms.Bit bits.Btr B) = refl
form-found (forms.Bit bits.Btr W) = refl
form-found (forms.Bit bits.Btr L) = refl
form-found (forms.Bit bits.Btr Q) = refl
form-found (forms.Bit bits.Btc B) = refl
form-found (forms.Bit bits.Btc W) = refl
form-found (forms.Bit bits.Btc L) = refl
form-found (forms.Bit bits.Btc Q) = refl
form-found (forms.Scan scans.Bsf B) = refl
form-found (forms.Scan scans.Bsf W) = refl
form-found (forms.Scan scans.Bsf L) = refl
form-found (forms.Scan scans.Bsf Q) = refl
form-found (forms.Scan scans.Bsr B) = refl
form-found (forms.Scan scans.Bsr W) = refl
form-found (forms.Scan scans.Bsr L) = refl
form-found (forms.Scan scans.Bsr Q) = refl
form-found (forms.Scan scans.Tzcnt B) = refl
form-found (forms.Scan scans.Tzcnt W) = refl
form-found (forms.Scan scans.Tzcnt L) = refl
form-found (forms.Scan scans.Tzcnt Q) = refl
form-found forms.Bswap = refl
form-found (forms.Jcc conds.O) = refl
form-found (forms.Jcc conds.No) = refl
form-found (forms.Jcc conds.B) = refl
form-found (forms.Jcc conds.Ae) = refl
form-found (forms.Jcc conds.E) = refl
form-found (forms.Jcc conds.Ne) = refl
form-found (forms.Jcc conds.Be) = refl
form-found (forms.Jcc conds.A) = refl
form-found (forms.Jcc conds.S) = refl
form-found (forms.Jcc conds.Ns) = refl
form-found (forms.Jcc conds.P) = refl
form-found (forms.Jcc conds.Np) = refl
form-found (forms.Jcc conds.L) = refl
form-found (forms.Jcc conds.Ge) = refl
form-found (forms.Jcc conds.Le) = refl
form-found (forms.Jcc conds.G) = refl
form-found forms.Jmp = refl
form-found forms.Call = refl
form-found (forms.JmpTo true) = refl
form-found (forms.JmpTo false) = refl
form-found (forms.CallTo true) = refl
form-found (forms.CallTo false) = refl
form-found forms.Ret = refl
form-found forms.Leave = refl
form-found forms.Syscall = refl
form-found (forms.Plain plains.Nop) = refl
form-found (forms.Plain plains.Pause) = refl
form-found (forms.Plain plains.Endbr64) = refl
form-found (forms.Plain plains.Ud2) = refl
form-found (forms.Plain plains.Int3) = refl
form-found (forms.Plain plains.Hlt) = refl

-- a mnemonic is one word, or a prefix and one
unfoldable pub is_cut : List ℕ → List (List ℕ) → Bool
is_cut name (word ∷ []) = not (is_prefix_word word) && bytes_eq word name
is_cut name (prefix ∷ word ∷ []) = is_prefix_word prefix && bytes_eq (prefix ++ 32 ∷ word) name
is_cut name _ = false

unfoldable pub is_cut_form : Form → Bool
is_cut_form f = is_cut (mnemonic f) (pieces 32 (mnemonic f))

pub all-cut : list_all is_cut_form all_forms ≡ true
unfolding pieces is_cut_form is_cut
all-cut = refl

-- it begins with no dot, and has no line feed
unfoldable pub is_shown_form : Form → Bool
is_shown_form f = not (eqb (slice_index (mnemonic f) 0) 46) && list_all (λ b. not (eqb b 10)) (mnemonic f)

pub all-shown : list_all is_shown_form all_forms ≡ true
unfolding is_shown_form
all-shown = refl
