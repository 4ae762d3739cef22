-- The line of an item, in the syntax of the GNU as manual: its directives, and the AT&T syntax of
-- x86 instructions.
use Rattle.std.specs.Prelude.{ℕ, ◌*◌, ℤ, pos, negsuc, Bool, List, [], ◌∷◌, ◌++◌, codes, decimal, Option, Some, None, ◌==◌, if◌then◌else◌, flat_map}
use Rattle.std.specs.Fmt.{signed_decimal}
use Rattle.rw_base.specs.declared.width.Width.{Width}
use Rattle.rw_base.specs.declared.width.Width.TheVariants as widths
use Rattle.x86_insn.specs.declared.kinds.Reg.{Reg}
use Rattle.x86_insn.specs.declared.kinds.Reg8.{Reg8}
use Rattle.x86_insn.specs.declared.kinds.Reg8.TheVariants.{Low}
use Rattle.x86_insn.specs.declared.operands.Mem.{Mem}
use Rattle.x86_insn.specs.declared.operands.Mem.TheVariants.{At, Rel, Canary}
use Rattle.x86_insn.specs.declared.instruction.Insn.{Insn}
use Rattle.asm_items.specs.declared.item.Sym.{Sym}
use Rattle.asm_items.specs.declared.item.Sym.TheVariants as syms
use Rattle.asm_items.specs.declared.item.Label.{Label}
use Rattle.asm_items.specs.declared.item.Label.TheVariants as labels
use Rattle.asm_items.specs.declared.item.Item.{Item}
use Rattle.asm_items.specs.declared.item.Item.TheVariants as items
use Rattle.asm_print.specs.declared.spelling.Arg.{Arg}
use Rattle.asm_print.specs.declared.spelling.Arg.TheVariants as argument
use Rattle.asm_print.specs.declared.spelling.Args.{Args}
use Rattle.asm_print.specs.declared.spelling.Args.TheVariants.{Zero, One, Star, Two, Three}
use Rattle.asm_print.specs.Spelling.{form_of, args_of}
use Rattle.asm_print.specs.Line.{hex}
use Rattle.asm_print.specs.Words.{reg_name, stem, ending}

-- an offset above 0 follows as + and decimal
unfoldable pub offset_text : ℕ → List ℕ
offset_text o = if o == 0 then [] else codes "+" ++ decimal o

-- a symbol, with its offset where that is above 0; a counter has 8 bytes
unfoldable pub sym_text : Sym (List ℕ) → List ℕ
sym_text (syms.Code a) = codes ".L" ++ hex a
sym_text (syms.Section n o) = codes ".Ls" ++ decimal n ++ offset_text o
sym_text (syms.Named name o) = name ++ offset_text o
sym_text (syms.Counter k) = codes "__retro_counts" ++ offset_text (8 * k)

-- a register
unfoldable pub reg_text : Width → Reg8 → List ℕ
reg_text w r = codes "%" ++ reg_name w r

abbrev pub quad_text : Reg → List ℕ
quad_text r = reg_text widths.Q (Low r)

-- a displacement beside a base: nothing for 0
abbrev pub shown : ℤ → List ℕ
shown (pos n) = if n == 0 then [] else decimal n
shown (negsuc n) = signed_decimal (negsuc n)

-- what stands in front of the parentheses
unfoldable pub disp_text : Option Reg → ℤ → List ℕ
disp_text None disp = signed_decimal disp
disp_text (Some base) disp = shown disp

-- the index register and its scale
unfoldable pub index_text : Reg × ℕ → List ℕ
index_text index = codes "," ++ quad_text index.0 ++ codes "," ++ decimal index.1

-- the parentheses, left out where there is neither base nor index
unfoldable pub place_text : Option Reg → Option (Reg × ℕ) → List ℕ
place_text None None = []
place_text (Some base) None = codes "(" ++ quad_text base ++ codes ")"
place_text None (Some index) = codes "(" ++ index_text index ++ codes ")"
place_text (Some base) (Some index) = codes "(" ++ quad_text base ++ index_text index ++ codes ")"

-- memory: disp(base,index,scale), a symbol relative to %rip, or the word at 40 of the %fs segment
unfoldable pub mem_text : Mem (Sym (List ℕ)) → List ℕ
mem_text (At base index disp) = disp_text base disp ++ place_text base index
mem_text (Rel sym) = sym_text sym ++ codes "(%rip)"
mem_text Canary = codes "%fs:40"

unfoldable pub arg_text : Arg (Sym (List ℕ)) → List ℕ
arg_text (argument.Reg w r) = reg_text w r
arg_text (argument.Imm n) = codes "$" ++ signed_decimal n
arg_text (argument.Mem m) = mem_text m
arg_text (argument.To s) = sym_text s

unfoldable pub args_text : Args (Sym (List ℕ)) → List ℕ
args_text Zero = []
args_text (One a) = codes " " ++ arg_text a
args_text (Star a) = codes " *" ++ arg_text a
args_text (Two a b) = codes " " ++ arg_text a ++ codes ", " ++ arg_text b
args_text (Three a b c) = codes " " ++ arg_text a ++ codes ", " ++ arg_text b ++ codes ", " ++ arg_text c

-- mnemonic, space, arguments
unfoldable pub insn_text : Insn (Sym (List ℕ)) → List ℕ
insn_text insn = stem (form_of insn) ++ ending (form_of insn) ++ args_text (args_of insn)

-- a label; addresses are hexadecimal, numbers decimal
unfoldable pub label_text : Label → List ℕ
label_text (labels.Code a) = codes ".L" ++ hex a
label_text (labels.Past a) = codes ".Lp" ++ hex a
label_text (labels.Section n) = codes ".Ls" ++ decimal n
label_text (labels.Table a) = codes ".Lt" ++ hex a

-- numbers after the first
abbrev pub more_numbers : List ℕ → List ℕ
more_numbers [] = []
more_numbers (b ∷ bs) = codes ", " ++ decimal b ++ more_numbers bs

unfoldable pub numbers_text : List ℕ → List ℕ
numbers_text [] = []
numbers_text (b ∷ bs) = decimal b ++ more_numbers bs

abbrev pub newline : List ℕ
newline = 10 ∷ []

-- the flags and the type of a section
unfoldable pub section_text : Bool → Bool → List ℕ
section_text writable nobits = codes ",\"a" ++ (if writable then codes "w" else []) ++ codes "\",@" ++ (if nobits then codes "nobits" else codes "progbits")

-- the line of an item without its line feed
unfoldable pub body : Item (List ℕ) → List ℕ
body (items.Copy name size) = codes "# copy " ++ name ++ codes " " ++ decimal size
body (items.Comment name) = codes "# function " ++ name
body (items.Weak name) = codes "\t.weak " ++ name
body (items.Globl name) = codes "\t.globl " ++ name
body items.TextHead = codes "\t.text"
body (items.Align k) = codes "\t.p2align " ++ decimal k
body (items.FuncKind name) = codes "\t.type " ++ name ++ codes ", @function"
body (items.Name name) = name ++ codes ":"
body (items.Label l) = label_text l ++ codes ":"
body (items.Ins insn) = codes "\t" ++ insn_text insn
body (items.SectionHead n writable nobits) = codes "\t.section .retro.s" ++ decimal n ++ section_text writable nobits
body (items.Bytes bytes) = codes "\t.byte " ++ numbers_text bytes.items
body (items.Quad sym) = codes "\t.quad " ++ sym_text sym
body (items.LongDiff c t) = codes "\t.long .L" ++ hex c ++ codes "-.Lt" ++ hex t
body (items.Zero n) = codes "\t.zero " ++ decimal n
body items.CountsHead = codes "\t.section .retro.counts,\"aw\",@nobits"
body items.Tail = codes "\t.section .note.GNU-stack,\"\",@progbits"

-- the line of an item
abbrev pub line_text : Item (List ℕ) → List ℕ
line_text item = body item ++ newline

-- the text of a list of items
abbrev pub text_of : List (Item (List ℕ)) → List ℕ
text_of items = flat_map line_text items
