-- How long the parts of a line are: numbers of any size have at most 64 digits, so only names count.
use Rattle.std.proofs.Common.{◌≡◌, ℕ, zero, suc, ◌+◌, ◌*◌, ◌/◌, ◌%◌, ◌≤◌, Bool, true, false, cond, eqb, Option, Some, None, List, [], ◌∷◌, ◌++◌, length, arith, inl, inr, not, leb, ◌&&◌, ◌||◌}
use Rattle.std.specs.Prelude.{decimal, codes, ℤ, pos, negsuc}
use Rattle.std.specs.Fmt.{digits, digits_onto, digit_glyph, signed_decimal}
use Rattle.std.proofs.lemmas.List.{length-append}
use Rattle.rw_base.specs.declared.width.Width.{Width}
use Rattle.rw_base.specs.declared.width.Width.TheVariants as widths
use Rattle.rw_base.specs.Name.{is_good_name, is_graphic, is_import_name, is_name_byte, begins_a_name, is_own_name}
use Rattle.x86_insn.specs.declared.kinds.Reg.{Reg}
use Rattle.x86_insn.specs.declared.kinds.Reg.TheVariants.{Rax, Rcx, Rdx, Rbx, Rsp, Rbp, Rsi, Rdi, R8, R9, R10, R11, R12, R13, R14, R15}
use Rattle.x86_insn.specs.declared.kinds.Reg8.{Reg8}
use Rattle.x86_insn.specs.declared.kinds.Reg8.TheVariants.{Low, High}
use Rattle.x86_insn.specs.declared.operands.Mem.TheVariants.{At, Rel, Canary}
use Rattle.asm_items.specs.declared.item.Sym.TheVariants as syms
use Rattle.asm_print.specs.declared.spelling.Arg.{Arg}
use Rattle.asm_print.specs.declared.spelling.Arg.TheVariants as argument
use Rattle.asm_print.specs.declared.spelling.Args.{Args}
use Rattle.asm_print.specs.declared.spelling.Args.TheVariants.{Zero, One, Star, Two, Three}
use Rattle.asm_items.specs.declared.item.Label.{Label}
use Rattle.asm_items.specs.declared.item.Label.TheVariants as labels
use Rattle.asm_items.specs.declared.item.Item.{Item}
use Rattle.asm_items.specs.declared.item.Item.TheVariants as items
use Rattle.asm_items.specs.Formed.{is_word, is_byte, is_sym, is_item}
use Rattle.std.specs.List.{list_all}
use Rattle.std.specs.Str.{bytes_eq}
use Rattle.std.specs.Cmp.Lexicographic.{bytes_decides}
use Rattle.std.proofs.lemmas.Bool.{leb-true, and_parts, or_cases, false≢true}
use Rattle.x86_insn.specs.declared.kinds.Cond.{Cond}
use Rattle.x86_insn.specs.declared.kinds.Cond.TheVariants as conds
use Rattle.x86_insn.specs.declared.kinds.AluOp.{AluOp}
use Rattle.x86_insn.specs.declared.kinds.AluOp.TheVariants.{Add, Or, Adc, Sbb, And, Sub, Xor, Cmp}
use Rattle.x86_insn.specs.declared.kinds.ShiftOp.{ShiftOp}
use Rattle.x86_insn.specs.declared.kinds.ShiftOp.TheVariants.{Rol, Ror, Shl, Shr, Sar}
use Rattle.x86_insn.specs.declared.kinds.OneOp.{OneOp}
use Rattle.x86_insn.specs.declared.kinds.OneOp.TheVariants as ones
use Rattle.x86_insn.specs.declared.kinds.BitOp.{BitOp}
use Rattle.x86_insn.specs.declared.kinds.BitOp.TheVariants as bits
use Rattle.x86_insn.specs.declared.kinds.ScanOp.{ScanOp}
use Rattle.x86_insn.specs.declared.kinds.ScanOp.TheVariants as scans
use Rattle.x86_insn.specs.declared.kinds.Convert.{Convert}
use Rattle.x86_insn.specs.declared.kinds.Convert.TheVariants as converts
use Rattle.x86_insn.specs.declared.kinds.Plain.{Plain}
use Rattle.x86_insn.specs.declared.kinds.Plain.TheVariants as plains
use Rattle.x86_insn.specs.declared.instruction.Insn.{Insn}
use Rattle.asm_print.specs.declared.spelling.Form.{Form}
use Rattle.asm_print.specs.declared.spelling.Form.TheVariants as forms
use Rattle.x86_insn.specs.Fields.{fits_fields}
use Rattle.x86_insn.specs.References.{references_of}
use Rattle.x86_insn.specs.WellFormed.{is_instruction}
use Rattle.asm_print.specs.Spelling.{form_of, args_of}
use Rattle.asm_print.proofs.Symbols.{is_plain, is_spelled, HasOneSymbol, one-symbol, Syms}
use Rattle.asm_print.specs.Line.{hex}
use Rattle.asm_print.specs.Words.{by_width, low_name, high_name, reg_name, cond_name, alu_name, shift_name, one_name, bit_name, scan_name, convert_name, plain_name, suffix, stem, ending}
use Rattle.asm_print.specs.Text.{offset_text, sym_text, reg_text, quad_text, shown, label_text, section_text, more_numbers, numbers_text, body, line_text, disp_text, index_text, place_text, mem_text, arg_text, args_text, insn_text}

cond-le : (t : Bool) (a b : List ℕ) (m : ℕ) → length a ≤ m → length b ≤ m → length (cond t a b) ≤ m
cond-le true a b m h k = h
cond-le false a b m h k = k

onto-le : (k base n : ℕ) (upper : Bool) (acc : List ℕ) → length (digits_onto k base upper n acc) ≤ k + length acc
onto-le zero base n upper acc = omega arith
onto-le (suc k) base n upper acc =
    cond-le (eqb (n / base) 0) (digit_glyph upper (n % base) ∷ acc) (digits_onto k base upper (n / base) (digit_glyph upper (n % base) ∷ acc)) (suc k + length acc) (omega arith) (omega (arith, onto-le k base (n / base) upper (digit_glyph upper (n % base) ∷ acc)))

pub digits-le : (base n : ℕ) → length (digits base false n) ≤ 64
unfolding digits
digits-le base n = omega (arith, onto-le 64 base n false [])

signed-le : (z : ℤ) → length (signed_decimal z) ≤ 65
signed-le (pos n) = omega (arith, digits-le 10 n)
signed-le (negsuc n) = omega (arith, digits-le 10 (suc n))

offset-le : (o : ℕ) → length (offset_text o) ≤ 65
unfolding offset_text
offset-le o = cond-le (eqb o 0) [] (43 ∷ decimal o) 65 (omega arith) (omega (arith, digits-le 10 o))

good-le : (name : List ℕ) → is_good_name name ≡ true → length name ≤ 4096
unfolding is_good_name
good-le name h = leb-true (length name) 4096 (and_parts (leb 1 (length name)) (leb (length name) 4096) (and_parts (leb 1 (length name) && leb (length name) 4096) (list_all is_graphic name) h).0).1

import-le : (name : List ℕ) → is_import_name name ≡ true → length name ≤ 4096
unfolding is_import_name
import-le name h = good-le name (and_parts (is_good_name name) (list_all is_name_byte name) (and_parts (is_good_name name && list_all is_name_byte name) (begins_a_name name) (and_parts (is_good_name name && list_all is_name_byte name && begins_a_name name) (not (is_own_name name)) h).0).0).0

spelled-le : (name word : List ℕ) → length word ≤ 14 → bytes_eq name word ≡ true → length name ≤ 14
spelled-le name word k h = rw ((bytes_decides name word).0 h) k

own-le : (name : List ℕ) → is_own_name name ≡ true → length name ≤ 14
own-le name h =
    elim (or_cases (bytes_eq name (codes "main") || bytes_eq name (codes "_start")) (bytes_eq name (codes "__retro_counts")) h) [
      | inr x ↦ spelled-le name (codes "__retro_counts") (omega arith) x
      | inl y ↦ elim (or_cases (bytes_eq name (codes "main")) (bytes_eq name (codes "_start")) y) [
        | inl x ↦ spelled-le name (codes "main") (omega arith) x
        | inr x ↦ spelled-le name (codes "_start") (omega arith) x
      ]
    ]

sym-le : (s : Syms) → is_sym s ≡ true → length (sym_text s) ≤ 4236
unfolding sym_text
sym-le (syms.Code a) h = omega (arith, digits-le 16 a)
sym-le (syms.Section n o) h = omega (arith, digits-le 10 n, offset-le o, length-append (decimal n) (offset_text o))
sym-le (syms.Named name o) h = omega (arith, import-le name (and_parts (is_import_name name) (is_word o) h).0, offset-le o, length-append name (offset_text o))
sym-le (syms.Counter k) h = omega (arith, offset-le (8 * k))

by_width-le : (w : Width) (b x l q : List ℕ) → length b ≤ 4 → length x ≤ 4 → length l ≤ 4 → length q ≤ 4 → length (by_width w b x l q) ≤ 4
by_width-le widths.B b x l q h i j k = h
by_width-le widths.W b x l q h i j k = i
by_width-le widths.L b x l q h i j k = j
by_width-le widths.Q b x l q h i j k = k

low-le : (w : Width) (r : Reg) → length (low_name w r) ≤ 4
low-le w Rax = by_width-le w _ _ _ _ (omega arith) (omega arith) (omega arith) (omega arith)
low-le w Rcx = by_width-le w _ _ _ _ (omega arith) (omega arith) (omega arith) (omega arith)
low-le w Rdx = by_width-le w _ _ _ _ (omega arith) (omega arith) (omega arith) (omega arith)
low-le w Rbx = by_width-le w _ _ _ _ (omega arith) (omega arith) (omega arith) (omega arith)
low-le w Rsp = by_width-le w _ _ _ _ (omega arith) (omega arith) (omega arith) (omega arith)
low-le w Rbp = by_width-le w _ _ _ _ (omega arith) (omega arith) (omega arith) (omega arith)
low-le w Rsi = by_width-le w _ _ _ _ (omega arith) (omega arith) (omega arith) (omega arith)
low-le w Rdi = by_width-le w _ _ _ _ (omega arith) (omega arith) (omega arith) (omega arith)
low-le w R8 = by_width-le w _ _ _ _ (omega arith) (omega arith) (omega arith) (omega arith)
low-le w R9 = by_width-le w _ _ _ _ (omega arith) (omega arith) (omega arith) (omega arith)
low-le w R10 = by_width-le w _ _ _ _ (omega arith) (omega arith) (omega arith) (omega arith)
low-le w R11 = by_width-le w _ _ _ _ (omega arith) (omega arith) (omega arith) (omega arith)
low-le w R12 = by_width-le w _ _ _ _ (omega arith) (omega arith) (omega arith) (omega arith)
low-le w R13 = by_width-le w _ _ _ _ (omega arith) (omega arith) (omega arith) (omega arith)
low-le w R14 = by_width-le w _ _ _ _ (omega arith) (omega arith) (omega arith) (omega arith)
low-le w R15 = by_width-le w _ _ _ _ (omega arith) (omega arith) (omega arith) (omega arith)

high-le : (r : Reg) → length (high_name r) ≤ 4
high-le Rax = omega arith
high-le Rcx = omega arith
high-le Rdx = omega arith
high-le Rbx = omega arith
high-le _ = omega arith

name-le : (w : Width) (r : Reg8) → length (reg_name w r) ≤ 4
name-le w (Low r) = low-le w r
name-le w (High r) = high-le r

reg-le : (w : Width) (r : Reg8) → length (reg_text w r) ≤ 5
unfolding reg_text
reg-le w r = omega (arith, name-le w r)

shown-le : (z : ℤ) → length (shown z) ≤ 65
shown-le (pos n) = cond-le (eqb n 0) [] (decimal n) 65 (omega arith) (omega (arith, digits-le 10 n))
shown-le (negsuc n) = signed-le (negsuc n)

disp-le : (base : Option Reg) (z : ℤ) → length (disp_text base z) ≤ 65
unfolding disp_text
disp-le None z = signed-le z
disp-le (Some r) z = shown-le z

index-le : (i : Reg × ℕ) → length (index_text i) ≤ 71
unfolding index_text
index-le i = omega (arith, reg-le widths.Q (Low i.0), digits-le 10 i.1, length-append (quad_text i.0) (44 ∷ []), length-append (quad_text i.0 ++ 44 ∷ []) (decimal i.1))

place-le : (base : Option Reg) (index : Option (Reg × ℕ)) → length (place_text base index) ≤ 80
unfolding place_text
place-le None None = omega arith
place-le (Some r) None = omega (arith, reg-le widths.Q (Low r), length-append (quad_text r) (codes ")"))
place-le None (Some i) = omega (arith, index-le i, length-append (index_text i) (codes ")"))
place-le (Some r) (Some i) = omega (arith, reg-le widths.Q (Low r), index-le i, length-append (quad_text r) (index_text i), length-append (quad_text r ++ index_text i) (codes ")"))

plain-le : (a : Arg Syms) → is_plain a ≡ true → length (arg_text a) ≤ 150
unfolding arg_text mem_text
plain-le (argument.Reg w r) h = omega (arith, reg-le w r)
plain-le (argument.Imm n) h = omega (arith, signed-le n)
plain-le (argument.Mem (At b i d)) h = omega (arith, disp-le b d, place-le b i, length-append (disp_text b d) (place_text b i))
plain-le (argument.Mem Canary) h = omega arith
plain-le (argument.Mem (Rel s)) h = absurd (false≢true h)
plain-le (argument.To s) h = absurd (false≢true h)

arg-le : (a : Arg Syms) → is_spelled a ≡ true → length (arg_text a) ≤ 4242
unfolding arg_text mem_text
arg-le (argument.Reg w r) h = omega (arith, reg-le w r)
arg-le (argument.Imm n) h = omega (arith, signed-le n)
arg-le (argument.Mem (At b i d)) h = omega (arith, disp-le b d, place-le b i, length-append (disp_text b d) (place_text b i))
arg-le (argument.Mem Canary) h = omega arith
arg-le (argument.Mem (Rel s)) h = omega (arith, sym-le s h, length-append (sym_text s) (codes "(%rip)"))
arg-le (argument.To s) h = omega (arith, sym-le s h)

two-le : (a b : List ℕ) → length (codes " " ++ a ++ codes ", " ++ b) ≡ 3 + (length a + length b)
two-le a b = omega (arith, length-append a (codes ", "), length-append (a ++ codes ", ") b)

three-le : (a b c : List ℕ) → length (codes " " ++ a ++ codes ", " ++ b ++ codes ", " ++ c) ≡ 5 + (length a + length b + length c)
three-le a b c = omega (arith, length-append a (codes ", "), length-append (a ++ codes ", ") b, length-append (a ++ codes ", " ++ b) (codes ", "), length-append (a ++ codes ", " ++ b ++ codes ", ") c)

pub args-le : (xs : Args Syms) → HasOneSymbol xs → length (args_text xs) ≤ 4600
unfolding args_text
args-le Zero h = omega arith
args-le (One a) h = omega (arith, arg-le a h)
args-le (Star a) h = omega (arith, arg-le a h)
args-le (Two a b) (inl h) = omega (arith, plain-le a h.0, arg-le b h.1, two-le (arg_text a) (arg_text b))
args-le (Two a b) (inr h) = omega (arith, arg-le a h.0, plain-le b h.1, two-le (arg_text a) (arg_text b))
args-le (Three a b c) h = omega (arith, plain-le a h.0, arg-le b h.1, plain-le c h.2, three-le (arg_text a) (arg_text b) (arg_text c))

alu-le : (x : AluOp) → length (alu_name x) ≤ 3
alu-le Add = omega arith
alu-le Or = omega arith
alu-le Adc = omega arith
alu-le Sbb = omega arith
alu-le And = omega arith
alu-le Sub = omega arith
alu-le Xor = omega arith
alu-le Cmp = omega arith

shift-le : (x : ShiftOp) → length (shift_name x) ≤ 3
shift-le Rol = omega arith
shift-le Ror = omega arith
shift-le Shl = omega arith
shift-le Shr = omega arith
shift-le Sar = omega arith

one-le : (x : OneOp) → length (one_name x) ≤ 4
one-le ones.Inc = omega arith
one-le ones.Dec = omega arith
one-le ones.Not = omega arith
one-le ones.Neg = omega arith
one-le ones.Mul = omega arith
one-le ones.Imul = omega arith
one-le ones.Div = omega arith
one-le ones.Idiv = omega arith

bit-le : (x : BitOp) → length (bit_name x) ≤ 3
bit-le bits.Bt = omega arith
bit-le bits.Bts = omega arith
bit-le bits.Btr = omega arith
bit-le bits.Btc = omega arith

scan-le : (x : ScanOp) → length (scan_name x) ≤ 5
scan-le scans.Bsf = omega arith
scan-le scans.Bsr = omega arith
scan-le scans.Tzcnt = omega arith

convert-le : (x : Convert) → length (convert_name x) ≤ 4
convert-le converts.Cbtw = omega arith
convert-le converts.Cwtl = omega arith
convert-le converts.Cltq = omega arith
convert-le converts.Cwtd = omega arith
convert-le converts.Cltd = omega arith
convert-le converts.Cqto = omega arith

plain_word-le : (x : Plain) → length (plain_name x) ≤ 7
plain_word-le plains.Nop = omega arith
plain_word-le plains.Pause = omega arith
plain_word-le plains.Endbr64 = omega arith
plain_word-le plains.Ud2 = omega arith
plain_word-le plains.Int3 = omega arith
plain_word-le plains.Hlt = omega arith

cond_word-le : (x : Cond) → length (cond_name x) ≤ 2
cond_word-le conds.O = omega arith
cond_word-le conds.No = omega arith
cond_word-le conds.B = omega arith
cond_word-le conds.Ae = omega arith
cond_word-le conds.E = omega arith
cond_word-le conds.Ne = omega arith
cond_word-le conds.Be = omega arith
cond_word-le conds.A = omega arith
cond_word-le conds.S = omega arith
cond_word-le conds.Ns = omega arith
cond_word-le conds.P = omega arith
cond_word-le conds.Np = omega arith
cond_word-le conds.L = omega arith
cond_word-le conds.Ge = omega arith
cond_word-le conds.Le = omega arith
cond_word-le conds.G = omega arith

suffix-le : (w : Width) → length (suffix w) ≤ 1
suffix-le widths.B = omega arith
suffix-le widths.W = omega arith
suffix-le widths.L = omega arith
suffix-le widths.Q = omega arith

extension-le : (w : Width) (b x l q : List ℕ) → length b ≤ 5 → length x ≤ 5 → length l ≤ 5 → length q ≤ 5 → length (by_width w b x l q) ≤ 5
extension-le widths.B b x l q h i j k = h
extension-le widths.W b x l q h i j k = i
extension-le widths.L b x l q h i j k = j
extension-le widths.Q b x l q h i j k = k

stem-le : (f : Form) → length (stem f) ≤ 12
stem-le (forms.Alu op w) = omega (arith, alu-le op)
stem-le (forms.Test w) = omega arith
stem-le (forms.Xchg w) = omega arith
stem-le (forms.Mov w) = omega arith
stem-le forms.MovAbs = omega arith
stem-le (forms.MovZx v w) = omega (arith, extension-le v (codes "movzb") (codes "movzw") (codes "movzl") (codes "movzq") (omega arith) (omega arith) (omega arith) (omega arith))
stem-le (forms.MovSx v w) = omega (arith, extension-le v (codes "movsb") (codes "movsw") (codes "movsl") (codes "movsq") (omega arith) (omega arith) (omega arith) (omega arith))
stem-le (forms.Lea w) = omega arith
stem-le forms.Push = omega arith
stem-le forms.Pop = omega arith
stem-le (forms.Imul2 w) = omega arith
stem-le (forms.Imul3 w) = omega arith
stem-le (forms.One op w) = omega (arith, one-le op)
stem-le (forms.Shift op w) = omega (arith, shift-le op)
stem-le (forms.Convert k) = omega (arith, convert-le k)
stem-le (forms.Movs w rep) = omega (arith, cond-le rep (codes "rep movs") (codes "movs") 12 (omega arith) (omega arith))
stem-le (forms.Stos w rep) = omega (arith, cond-le rep (codes "rep stos") (codes "stos") 12 (omega arith) (omega arith))
stem-le (forms.Cmov c) = omega arith
stem-le (forms.Setcc c) = omega arith
stem-le (forms.Bit op w) = omega (arith, bit-le op)
stem-le (forms.Scan op w) = omega (arith, scan-le op)
stem-le forms.Bswap = omega arith
stem-le (forms.Jcc c) = omega arith
stem-le forms.Jmp = omega arith
stem-le forms.Call = omega arith
stem-le (forms.JmpTo t) = omega (arith, cond-le t (codes "notrack jmp") (codes "jmp") 12 (omega arith) (omega arith))
stem-le (forms.CallTo t) = omega (arith, cond-le t (codes "notrack call") (codes "call") 12 (omega arith) (omega arith))
stem-le forms.Ret = omega arith
stem-le forms.Leave = omega arith
stem-le forms.Syscall = omega arith
stem-le (forms.Plain k) = omega (arith, plain_word-le k)

ending-le : (f : Form) → length (ending f) ≤ 2
ending-le (forms.Alu op w) = omega (arith, suffix-le w)
ending-le (forms.Test w) = omega (arith, suffix-le w)
ending-le (forms.Xchg w) = omega (arith, suffix-le w)
ending-le (forms.Mov w) = omega (arith, suffix-le w)
ending-le forms.MovAbs = omega arith
ending-le (forms.MovZx v w) = omega (arith, suffix-le w)
ending-le (forms.MovSx v w) = omega (arith, suffix-le w)
ending-le (forms.Lea w) = omega (arith, suffix-le w)
ending-le forms.Push = omega arith
ending-le forms.Pop = omega arith
ending-le (forms.Imul2 w) = omega (arith, suffix-le w)
ending-le (forms.Imul3 w) = omega (arith, suffix-le w)
ending-le (forms.One op w) = omega (arith, suffix-le w)
ending-le (forms.Shift op w) = omega (arith, suffix-le w)
ending-le (forms.Convert k) = omega arith
ending-le (forms.Movs w rep) = omega (arith, suffix-le w)
ending-le (forms.Stos w rep) = omega (arith, suffix-le w)
ending-le (forms.Cmov c) = cond_word-le c
ending-le (forms.Setcc c) = cond_word-le c
ending-le (forms.Bit op w) = omega (arith, suffix-le w)
ending-le (forms.Scan op w) = omega (arith, suffix-le w)
ending-le forms.Bswap = omega arith
ending-le (forms.Jcc c) = cond_word-le c
ending-le forms.Jmp = omega arith
ending-le forms.Call = omega arith
ending-le (forms.JmpTo t) = omega arith
ending-le (forms.CallTo t) = omega arith
ending-le forms.Ret = omega arith
ending-le forms.Leave = omega arith
ending-le forms.Syscall = omega arith
ending-le (forms.Plain k) = omega arith

insn-le : (i : Insn Syms) → is_instruction i ≡ true → list_all is_sym (references_of i) ≡ true → length (insn_text i) ≤ 4620
unfolding insn_text
insn-le i h k = omega (
  arith,
  stem-le (form_of i),
  ending-le (form_of i),
  args-le (args_of i) (one-symbol i h k),
  length-append (stem (form_of i)) (ending (form_of i)),
  length-append (stem (form_of i) ++ ending (form_of i)) (args_text (args_of i)),
)

label-le : (l : Label) → length (label_text l) ≤ 70
unfolding label_text
label-le (labels.Code a) = omega (arith, digits-le 16 a)
label-le (labels.Past a) = omega (arith, digits-le 16 a)
label-le (labels.Section n) = omega (arith, digits-le 10 n)
label-le (labels.Table a) = omega (arith, digits-le 16 a)

more-le : (bs : List ℕ) → length (more_numbers bs) ≤ 66 * length bs
more-le [] = omega arith
more-le (b ∷ bs) = omega (arith, digits-le 10 b, more-le bs, length-append (decimal b) (more_numbers bs))

numbers-le : (bs : List ℕ) → length (numbers_text bs) ≤ 66 * length bs
unfolding numbers_text
numbers-le [] = omega arith
numbers-le (b ∷ bs) = omega (arith, digits-le 10 b, more-le bs, length-append (decimal b) (more_numbers bs))

section-le : (writable nobits : Bool) → length (section_text writable nobits) ≤ 20
unfolding section_text
section-le true true = omega arith
section-le true false = omega arith
section-le false true = omega arith
section-le false false = omega arith

body-le : (item : Item (List ℕ)) → is_item item ≡ true → length (body item) ≤ 4800
unfolding body
body-le (items.Copy name size) h = omega (arith, import-le name (and_parts (is_import_name name) (leb 1 size) (and_parts (is_import_name name && leb 1 size) (is_word size) h).0).0, digits-le 10 size, length-append name (codes " "), length-append (name ++ codes " ") (decimal size))
body-le (items.Comment name) h = omega (arith, good-le name h)
body-le (items.Weak name) h = omega (arith, import-le name h)
body-le (items.Globl name) h = omega (arith, own-le name h)
body-le items.TextHead h = omega arith
body-le (items.Align k) h = omega (arith, digits-le 10 k)
body-le (items.FuncKind name) h = omega (arith, own-le name h, length-append name (codes ", @function"))
body-le (items.Name name) h = omega (arith, own-le name h, length-append name (codes ":"))
body-le (items.Label l) h = omega (arith, label-le l, length-append (label_text l) (codes ":"))
body-le (items.Ins insn) h = let both = and_parts (is_instruction insn) (list_all is_sym (references_of insn)) (and_parts (is_instruction insn && list_all is_sym (references_of insn)) (fits_fields insn) h).0 in omega (arith, insn-le insn both.0 both.1)
body-le (items.SectionHead n writable nobits) h = omega (arith, digits-le 10 n, section-le writable nobits, length-append (decimal n) (section_text writable nobits))
body-le (items.Bytes bytes) h =
    let few = leb-true (length bytes.items) 16 (and_parts (leb 1 (length bytes.items)) (leb (length bytes.items) 16) (and_parts (leb 1 (length bytes.items) && leb (length bytes.items) 16) (list_all is_byte bytes.items) h).0).1 in
    omega (arith, few, numbers-le bytes.items)
body-le (items.Quad sym) h = omega (arith, sym-le sym h)
body-le (items.LongDiff c t) h = omega (arith, digits-le 16 c, digits-le 16 t, length-append (hex c) (codes "-.Lt"), length-append (hex c ++ codes "-.Lt") (hex t))
body-le (items.Zero n) h = omega (arith, digits-le 10 n)
body-le items.CountsHead h = omega arith
body-le items.Tail h = omega arith

pub line-le : (item : Item (List ℕ)) → is_item item ≡ true → length (line_text item) ≤ 8192
line-le item h = omega (arith, body-le item h, length-append (body item) (10 ∷ []))
