-- An instruction has at most one symbol.
use Rattle.std.proofs.Common.{◌≡◌, ℕ, Bool, true, false, List, ◌++◌, refl, sym, ◌∙◌, inl, inr, ◌⊎◌, ◌&&◌, ◌||◌}
use Rattle.std.specs.List.{list_all}
use Rattle.std.proofs.lemmas.Bool.{and_parts, or_cases, false≢true}
use Rattle.std.proofs.lemmas.List.Folds.{list_all-append}
use Rattle.rw_base.specs.declared.width.Width.{Width}
use Rattle.rw_base.specs.declared.width.Width.TheVariants as widths
use Rattle.x86_insn.specs.declared.kinds.Count.{Count}
use Rattle.x86_insn.specs.declared.kinds.Count.TheVariants as counts
use Rattle.x86_insn.specs.declared.operands.Mem.TheVariants.{At, Rel, Canary}
use Rattle.x86_insn.specs.declared.operands.Operand.{Operand}
use Rattle.x86_insn.specs.declared.operands.Operand.TheVariants as operands
use Rattle.x86_insn.specs.declared.instruction.Insn.{Insn}
use Rattle.x86_insn.specs.declared.instruction.Insn.TheVariants as insns
use Rattle.x86_insn.specs.References.{operand_references, references_of}
use Rattle.x86_insn.specs.WellFormed.{is_instruction, is_place, is_register, is_immediate, is_bit_index, is_wide, are_operands, go_together}
use Rattle.asm_items.specs.declared.item.Sym.{Sym}
use Rattle.asm_items.specs.Formed.{is_sym}
use Rattle.asm_print.specs.declared.spelling.Arg.{Arg}
use Rattle.asm_print.specs.declared.spelling.Arg.TheVariants as argument
use Rattle.asm_print.specs.declared.spelling.Args.{Args}
use Rattle.asm_print.specs.declared.spelling.Args.TheVariants.{Zero, One, Star, Two, Three}
use Rattle.asm_print.specs.Spelling.{arg_at, count_as_arg, args_of}

abbrev pub Syms : Type 0
Syms = Sym (List ℕ)

-- an argument with no symbol
abbrev pub is_plain : Arg Syms → Bool
is_plain (argument.Mem (Rel s)) = false
is_plain (argument.To s) = false
is_plain _ = true

-- its symbol is one of a text
abbrev pub is_spelled : Arg Syms → Bool
is_spelled (argument.Mem (Rel s)) = is_sym s
is_spelled (argument.To s) = is_sym s
is_spelled _ = true

-- at most one argument has a symbol
abbrev pub HasOneSymbol : Args Syms → Type 0
HasOneSymbol Zero = Unit {0}
HasOneSymbol (One a) = is_spelled a ≡ true
HasOneSymbol (Star a) = is_spelled a ≡ true
HasOneSymbol (Two a b) = ((is_plain a ≡ true) × (is_spelled b ≡ true)) ⊎ ((is_spelled a ≡ true) × (is_plain b ≡ true))
HasOneSymbol (Three a b c) = (is_plain a ≡ true) × (is_spelled b ≡ true) × (is_plain c ≡ true)

abbrev AllSyms : List Syms → Type 0
AllSyms symbols = list_all is_sym symbols ≡ true

spelled-at : (w : Width) (o : Operand Syms) → AllSyms (operand_references o) → is_spelled (arg_at w o) ≡ true
spelled-at w (operands.Reg r) h = refl
spelled-at w (operands.Byte b) h = refl
spelled-at w (operands.Mem (At b i d)) h = refl
spelled-at w (operands.Mem (Rel s)) h = (and_parts (is_sym s) true h).0
spelled-at w (operands.Mem Canary) h = refl
spelled-at w (operands.Imm n) h = refl

plain-register : (w : Width) (o : Operand Syms) → is_register w o ≡ true → is_plain (arg_at w o) ≡ true
plain-register w (operands.Reg r) h = refl
plain-register w (operands.Byte b) h = refl
plain-register widths.B (operands.Mem m) h = absurd (false≢true h)
plain-register widths.W (operands.Mem m) h = absurd (false≢true h)
plain-register widths.L (operands.Mem m) h = absurd (false≢true h)
plain-register widths.Q (operands.Mem m) h = absurd (false≢true h)
plain-register w (operands.Imm n) h = refl

plain-immediate : (w : Width) (o : Operand Syms) → is_immediate w o ≡ true → is_plain (arg_at w o) ≡ true
plain-immediate w (operands.Reg r) h = refl
plain-immediate w (operands.Byte b) h = refl
plain-immediate w (operands.Mem m) h = absurd (false≢true h)
plain-immediate w (operands.Imm n) h = refl

plain-index : (w : Width) (at index : Operand Syms) → is_bit_index w at index ≡ true → is_plain (arg_at w index) ≡ true
plain-index w at (operands.Reg r) h = refl
plain-index w at (operands.Byte b) h = refl
plain-index widths.B at (operands.Mem m) h = absurd (false≢true ((and_parts (is_register widths.B at) false h).1))
plain-index widths.W at (operands.Mem m) h = absurd (false≢true ((and_parts (is_register widths.W at) false h).1))
plain-index widths.L at (operands.Mem m) h = absurd (false≢true ((and_parts (is_register widths.L at) false h).1))
plain-index widths.Q at (operands.Mem m) h = absurd (false≢true ((and_parts (is_register widths.Q at) false h).1))
plain-index w at (operands.Imm n) h = refl

plain-count : (count : Count) → is_plain (count_as_arg count) ≡ true
plain-count counts.Cl = refl
plain-count (counts.Imm n) = refl

-- of two operands whose symbols are symbols of a text, each is one with such a symbol
both-spelled : (a b : Operand Syms) → AllSyms (operand_references a ++ operand_references b) → AllSyms (operand_references a) × AllSyms (operand_references b)
both-spelled a b h = and_parts _ _ (sym (list_all-append is_sym (operand_references a) (operand_references b)) ∙ h)

two-operands : (w : Width) (to from : Operand Syms) → are_operands w to from ≡ true → AllSyms (operand_references to ++ operand_references from) → HasOneSymbol (Two (arg_at w from) (arg_at w to))
two-operands w to from h k =
    let spelled = both-spelled to from k in
    let a = is_place w to && is_register w from in
    let b = is_register w to && is_place w from in
    let c = is_place w to && is_immediate w from in
    elim (or_cases (a || b) c (and_parts (a || b || c) (go_together to from) h).0) [
      | inr z ↦ inl (plain-immediate w from (and_parts (is_place w to) (is_immediate w from) z).1, spelled-at w to spelled.0)
      | inl y ↦ elim (or_cases a b y) [
        | inl x ↦ inl (plain-register w from (and_parts (is_place w to) (is_register w from) x).1, spelled-at w to spelled.0)
        | inr x ↦ inr (spelled-at w from spelled.1, plain-register w to (and_parts (is_register w to) (is_place w from) x).0)
      ]
    ]

plain-test : (w : Width) (e by : Operand Syms) → is_instruction (insns.Test w e by) ≡ true → is_plain (arg_at w by) ≡ true
plain-test w e by h =
    elim (or_cases (is_register w by) (is_immediate w by) (and_parts (is_place w e) (is_register w by || is_immediate w by) (and_parts (is_place w e && (is_register w by || is_immediate w by)) (go_together e by) h).0).1) [
      | inl x ↦ plain-register w by x
      | inr x ↦ plain-immediate w by x
    ]

pub one-symbol : (i : Insn Syms) → is_instruction i ≡ true → AllSyms (references_of i) → HasOneSymbol (args_of i)
one-symbol (insns.Alu op w to from) h k = two-operands w to from h k
one-symbol (insns.Test w e by) h k = inl (plain-test w e by h, spelled-at w e (both-spelled e by k).0)
one-symbol (insns.Xchg w e g) h k = inl (plain-register w g (and_parts (is_place w e) (is_register w g) (and_parts (is_place w e && is_register w g) (go_together e g) h).0).1, spelled-at w e (both-spelled e g k).0)
one-symbol (insns.Mov w to from) h k = two-operands w to from h k
one-symbol (insns.MovAbs to v) h k = inl (refl, refl)
one-symbol (insns.MovZx from_w w to from) h k = inr (spelled-at from_w from k, refl)
one-symbol (insns.MovSx from_w w to from) h k = inr (spelled-at from_w from k, refl)
one-symbol (insns.Lea w to at) h k = inr (spelled-at w (operands.Mem at) k, refl)
one-symbol (insns.Push from) h k = spelled-at widths.Q from k
one-symbol (insns.Pop to) h k = spelled-at widths.Q to k
one-symbol (insns.Imul2 w to from) h k = inr (spelled-at w from k, refl)
one-symbol (insns.Imul3 w to from by) h k = (refl, spelled-at w from k, refl)
one-symbol (insns.One op w at) h k = spelled-at w at k
one-symbol (insns.Shift op w at count) h k = inl (plain-count count, spelled-at w at k)
one-symbol (insns.Convert kind) h k = tt
one-symbol (insns.Movs w rep) h k = tt
one-symbol (insns.Stos w rep) h k = tt
one-symbol (insns.Cmov cond w to from) h k = inr (spelled-at w from k, refl)
one-symbol (insns.Setcc cond to) h k = spelled-at widths.B to k
one-symbol (insns.Bit op w at index) h k = inl (plain-index w at index (and_parts (is_wide w && is_place w at) (is_bit_index w at index) h).1, spelled-at w at (both-spelled at index k).0)
one-symbol (insns.Scan op w to from) h k = inr (spelled-at w from k, refl)
one-symbol (insns.Bswap w r) h k = refl
one-symbol (insns.Jcc cond to) h k = (and_parts (is_sym to) true k).0
one-symbol (insns.Jmp to) h k = (and_parts (is_sym to) true k).0
one-symbol (insns.Call to) h k = (and_parts (is_sym to) true k).0
one-symbol (insns.JmpTo to notrack) h k = spelled-at widths.Q to k
one-symbol (insns.CallTo to notrack) h k = spelled-at widths.Q to k
one-symbol insns.Ret h k = tt
one-symbol insns.Leave h k = tt
one-symbol insns.Syscall h k = tt
one-symbol (insns.Plain kind) h k = tt
