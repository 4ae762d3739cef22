-- Reading the arguments of an instruction.
use Rattle.std.specs.Prelude.{ℕ, ◌-◌, ◌/◌, ◌^◌, ℤ, pos, negsuc, Bool, ◌||◌, List, [], ◌∷◌, codes, take, length, slice_index, Option, Some, None, nat_lt, ◌==◌, if◌then◌else◌}
use Rattle.std.specs.Str.{bytes_eq}
use Rattle.rw_base.specs.declared.width.Width.{Width}
use Rattle.x86_insn.specs.declared.kinds.Reg.{Reg}
use Rattle.x86_insn.specs.declared.kinds.Reg8.{Reg8}
use Rattle.x86_insn.specs.declared.kinds.Reg8.TheVariants.{Low, High}
use Rattle.x86_insn.specs.declared.operands.Mem.{Mem}
use Rattle.x86_insn.specs.declared.operands.Mem.TheVariants.{At, Rel, Canary}
use Rattle.asm_items.specs.declared.item.Sym.{Sym}
use Rattle.asm_items.specs.declared.item.Sym.TheVariants as syms
use Rattle.rw_base.specs.Name.{is_digit}
use Rattle.asm_print.specs.declared.spelling.Arg.{Arg}
use Rattle.asm_print.specs.declared.spelling.Arg.TheVariants as argument
use Rattle.asm_print.specs.declared.spelling.Args.{Args}
use Rattle.asm_print.specs.declared.spelling.Args.TheVariants.{Zero, One, Star, Two, Three}
use Rattle.asm_print.specs.Pieces.{◌>>=◌, after_prefix, split, number_in, narrow, signed_in}
use Rattle.asm_print.specs.Forms.{reg_named}

-- a symbol whose names are bytes
abbrev pub Symbol : Type 0
Symbol = Sym (List ℕ)

-- a front, and the offset behind a plus
abbrev pub with_offset : List ℕ → Option (List ℕ × List ℕ) → Option (List ℕ × ℕ)
with_offset text None = Some (text, 0)
with_offset text (Some x) = do
  offset ← number_in 10 x.1
  Some (x.0, offset)

unfoldable pub offset_in : List ℕ → Option (List ℕ × ℕ)
offset_in text = with_offset text (split 43 text)

abbrev pub section_sym_in : List ℕ → Option Symbol
section_sym_in text = do
  x ← offset_in text
  n ← number_in 10 x.0 >>= narrow 32
  Some (syms.Section n x.1)

abbrev pub code_sym_in : List ℕ → Option Symbol
code_sym_in text = do
  a ← number_in 16 text
  Some (syms.Code a)

abbrev pub counter_at : ℕ → Option Symbol
counter_at offset = do
  k ← narrow 32 (offset / 8)
  Some (syms.Counter k)

-- a counter by its offset, and any other name
abbrev pub named_sym : List ℕ × ℕ → Option Symbol
named_sym x = if bytes_eq x.0 (codes "__retro_counts") then counter_at x.1 else Some (syms.Named x.0 x.1)

abbrev pub named_sym_in : List ℕ → Option Symbol
named_sym_in text = do
  x ← offset_in text
  named_sym x

abbrev pub sym_by : List ℕ → Option (List ℕ) → Option (List ℕ) → Option Symbol
sym_by text (Some n) a = section_sym_in n
sym_by text None (Some a) = code_sym_in a
sym_by text None None = named_sym_in text

unfoldable pub sym_in : List ℕ → Option Symbol
sym_in text = sym_by text (after_prefix (codes ".Ls") text) (after_prefix (codes ".L") text)

-- a displacement of 32 bits
abbrev pub half : ℤ → Option ℤ
half (pos n) = if nat_lt n (2 ^ 31) then Some (pos n) else None
half (negsuc n) = if nat_lt n (2 ^ 31) then Some (negsuc n) else None

unfoldable pub disp_in : List ℕ → Option ℤ
disp_in text = signed_in text >>= half

abbrev pub low_of : Width × Reg8 → Option Reg
low_of (w, Low r) = Some r
low_of (w, High r) = None

-- a register of an address, behind its percent sign
unfoldable pub quad_in : List ℕ → Option Reg
quad_in text = after_prefix (codes "%") text >>= reg_named >>= low_of

abbrev pub base_in : List ℕ → Option (Option Reg)
base_in [] = Some None
base_in (b ∷ bs) = do
  r ← quad_in (b ∷ bs)
  Some (Some r)

abbrev pub place_by : List ℕ → Option (List ℕ × List ℕ) → Option (Option Reg × Option (Reg × ℕ))
place_by text None = do
  r ← quad_in text
  Some (Some r, None)
place_by text (Some x) = do
  base ← base_in x.0
  y ← split 44 x.1
  r ← quad_in y.0
  scale ← number_in 10 y.1 >>= narrow 8
  Some (base, Some (r, scale))

-- what stands in the parentheses
unfoldable pub place_in : List ℕ → Option (Option Reg × Option (Reg × ℕ))
place_in text = place_by text (split 44 text)

-- memory by what stands before the first parenthesis and behind it
abbrev pub rel_in : List ℕ → Option (Mem Symbol)
rel_in front = do
  sym ← sym_in front
  Some (Rel sym)

abbrev pub at_in : List ℕ → List ℕ → Option (Mem Symbol)
at_in front back = do
  inner ← split 41 back
  place ← place_in inner.0
  disp ← disp_in front
  Some (At place.0 place.1 disp)

unfoldable pub mem_in : List ℕ → List ℕ → Option (Mem Symbol)
mem_in front back = if bytes_eq back (codes "%rip)") then rel_in front else at_in front back

-- a minus or a digit, with which an address begins that has neither base nor index
abbrev pub is_numeric : ℕ → Bool
is_numeric b = b == 45 || is_digit b

abbrev pub address_in : List ℕ → Option (Arg Symbol)
address_in text = do
  disp ← disp_in text
  Some (argument.Mem (At None None disp))

abbrev pub target_in : List ℕ → Option (Arg Symbol)
target_in text = do
  sym ← sym_in text
  Some (argument.To sym)

abbrev pub plain_in : List ℕ → Option (Arg Symbol)
plain_in text = if is_numeric (slice_index text 0) then address_in text else target_in text

abbrev pub place_arg_in : List ℕ → Option (List ℕ × List ℕ) → Option (Arg Symbol)
place_arg_in text None = plain_in text
place_arg_in text (Some x) = do
  mem ← mem_in x.0 x.1
  Some (argument.Mem mem)

-- behind a percent sign
abbrev pub reg_arg_in : List ℕ → Option (Arg Symbol)
reg_arg_in text = if bytes_eq text (codes "fs:40") then Some (argument.Mem Canary) else (do
  r ← reg_named text
  Some (argument.Reg r.0 r.1))

-- behind a dollar sign
abbrev pub imm_in : List ℕ → Option (Arg Symbol)
imm_in text = do
  n ← signed_in text
  Some (argument.Imm n)

abbrev pub arg_by : List ℕ → Option (List ℕ) → Option (List ℕ) → Option (Arg Symbol)
arg_by text (Some n) r = imm_in n
arg_by text None (Some r) = reg_arg_in r
arg_by text None None = place_arg_in text (split 40 text)

-- an argument: an immediate, a register, memory or a target
unfoldable pub arg_in : List ℕ → Option (Arg Symbol)
arg_in text = arg_by text (after_prefix (codes "$") text) (after_prefix (codes "%") text)

-- the text but for its last byte, which is a comma behind each argument but the last
unfoldable pub without_comma : List ℕ → List ℕ
without_comma text = take (length text - 1) text

abbrev pub one_by : List ℕ → Option (List ℕ) → Option (Args Symbol)
one_by text (Some rest) = do
  a ← arg_in rest
  Some (Star a)
one_by text None = do
  a ← arg_in text
  Some (One a)

abbrev pub two_in : List ℕ → List ℕ → Option (Args Symbol)
two_in first second = do
  a ← arg_in (without_comma first)
  b ← arg_in second
  Some (Two a b)

abbrev pub three_in : List ℕ → List ℕ → List ℕ → Option (Args Symbol)
three_in first second third = do
  a ← arg_in (without_comma first)
  b ← arg_in (without_comma second)
  c ← arg_in third
  Some (Three a b c)

-- the arguments by their words
abbrev pub args_in : List (List ℕ) → Option (Args Symbol)
args_in [] = Some Zero
args_in (a ∷ []) = one_by a (after_prefix (codes "*") a)
args_in (a ∷ b ∷ []) = two_in a b
args_in (a ∷ b ∷ c ∷ []) = three_in a b c
args_in _ = None
