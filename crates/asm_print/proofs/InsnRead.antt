-- An instruction that is printed is read again.
use Rattle.std.proofs.Common.{◌≡◌, ℕ, ◌^◌, ◌<◌, ◌≤◌, Bool, true, false, cond, eqb, ltb, not, ◌&&◌, ◌||◌, Option, Some, None, List, [], ◌∷◌, ◌++◌, refl, sym, ap, ◌∙◌, inl, inr, arith, append_assoc, append-nil}
use Rattle.std.specs.List.{list_all}
use Rattle.std.specs.Prelude.{codes, ℤ, pos, negsuc, slice_index, int_lt}
use Rattle.std.specs.Str.{bytes_eq}
use Rattle.std.specs.Cmp.Lexicographic.{bytes_decides}
use Rattle.std.proofs.lemmas.Bool.{and_parts, or_cases, not-true, ltb-true, false≢true}
use Rattle.std.proofs.lemmas.List.Folds.{list_all-append}
use Rattle.rw_base.specs.declared.width.Width.{Width}
use Rattle.rw_base.specs.declared.width.Width.TheVariants.{B, W, L, Q}
use Rattle.x86_insn.specs.declared.kinds.Reg8.TheVariants.{Low, High}
use Rattle.x86_insn.specs.declared.kinds.Count.{Count}
use Rattle.x86_insn.specs.declared.kinds.Count.TheVariants as counts
use Rattle.x86_insn.specs.declared.operands.Mem.{Mem}
use Rattle.x86_insn.specs.declared.operands.Mem.TheVariants.{At, Rel, Canary}
use Rattle.x86_insn.specs.declared.operands.Operand.{Operand}
use Rattle.x86_insn.specs.declared.operands.Operand.TheVariants as operands
use Rattle.x86_insn.specs.declared.instruction.Insn.{Insn}
use Rattle.x86_insn.specs.declared.instruction.Insn.TheVariants as insns
use Rattle.x86_insn.specs.Fields.{has_displacement, is_addressed, fits_fields}
use Rattle.x86_insn.specs.References.{mem_references, operand_references, references_of}
use Rattle.x86_insn.specs.WellFormed.{is_instruction, is_address, is_canary, is_place, is_register, is_immediate, is_bit_index, is_wide, is_count, fits_immediate, extends, widens, are_operands, go_together}
use Rattle.asm_items.specs.Formed.{is_sym}
use Rattle.asm_print.specs.declared.spelling.Form.{Form}
use Rattle.asm_print.specs.declared.spelling.Arg.{Arg}
use Rattle.asm_print.specs.declared.spelling.Arg.TheVariants as argument
use Rattle.asm_print.specs.declared.spelling.Args.{Args}
use Rattle.asm_print.specs.declared.spelling.Args.TheVariants.{Zero, One, Star, Two, Three}
use Rattle.asm_print.specs.Spelling.{arg_at, count_as_arg, form_of, args_of}
use Rattle.asm_print.specs.Words.{mnemonic}
use Rattle.asm_print.specs.Text.{arg_text, args_text, insn_text}
use Rattle.asm_print.specs.Pieces.{◌>>=◌, after_prefix, pieces}
use Rattle.asm_print.specs.Forms.{kind_of, form_kind, form_named, all_forms, is_kind}
use Rattle.asm_print.specs.Arguments.{Symbol, arg_in, without_comma, one_by, args_in}
use Rattle.asm_print.specs.Building.{operand_at, count_of_number, count_in, two_at, shifted_at, built}
use Rattle.asm_print.specs.Reading.{is_prefix_word, insn_named, insn_behind, insn_by, insn_in}
use Rattle.asm_print.proofs.Bytes.{is_word_byte, is_inner_byte, is_solid_byte}
use Rattle.asm_print.proofs.Separators.{all-append, all-wider, other, one-piece, first-piece, pieces-append, no-prefix, found-all}
use Rattle.asm_print.proofs.Tables.{form-found, is_cut, is_cut_form, all-cut, is_shown_form, all-shown}
use Rattle.asm_print.proofs.Numbers.{IsLong, narrow-again, long-from, long-from_half, half-immediate}
use Rattle.asm_print.proofs.ArgumentsRead.{IsRead, arg-again, solid-arg, comma-again}

-- ---- operands

-- the operand is that of its argument, which is read again
abbrev IsGood : Width → Operand Symbol → Type 0
IsGood w o = (operand_at w (arg_at w o) ≡ Some o) × IsRead (arg_at w o)

abbrev AllSyms : List Symbol → Type 0
AllSyms symbols = list_all is_sym symbols ≡ true

mem-read : (w : Width) (m : Mem Symbol) → is_address m ≡ true → has_displacement m ≡ true → AllSyms (mem_references m) → IsRead (argument.Mem m)
mem-read w (At base index disp) h k s = (h, half-immediate L disp k)
mem-read w (Rel r) h k s = (and_parts (is_sym r) true s).0
mem-read w Canary h k s = tt

register-good : (w : Width) (o : Operand Symbol) → is_register w o ≡ true → IsGood w o
register-good B (operands.Byte (Low r)) h = (refl, tt)
register-good B (operands.Byte (High r)) h = (refl, (refl, h))
register-good B (operands.Reg r) h = absurd (false≢true h)
register-good B (operands.Mem m) h = absurd (false≢true h)
register-good B (operands.Imm n) h = absurd (false≢true h)
register-good W (operands.Reg r) h = (refl, tt)
register-good W (operands.Byte b) h = absurd (false≢true h)
register-good W (operands.Mem m) h = absurd (false≢true h)
register-good W (operands.Imm n) h = absurd (false≢true h)
register-good L (operands.Reg r) h = (refl, tt)
register-good L (operands.Byte b) h = absurd (false≢true h)
register-good L (operands.Mem m) h = absurd (false≢true h)
register-good L (operands.Imm n) h = absurd (false≢true h)
register-good Q (operands.Reg r) h = (refl, tt)
register-good Q (operands.Byte b) h = absurd (false≢true h)
register-good Q (operands.Mem m) h = absurd (false≢true h)
register-good Q (operands.Imm n) h = absurd (false≢true h)

place-good : (w : Width) (o : Operand Symbol) → is_place w o ≡ true → is_addressed o ≡ true → AllSyms (operand_references o) → IsGood w o
place-good w (operands.Mem m) h k s = (refl, mem-read w m h k s)
place-good w (operands.Reg r) h k s = register-good w (operands.Reg r) h
place-good w (operands.Byte b) h k s = register-good w (operands.Byte b) h
place-good w (operands.Imm n) h k s = register-good w (operands.Imm n) h

immediate-good : (w : Width) (o : Operand Symbol) → is_immediate w o ≡ true → IsGood w o
immediate-good w (operands.Imm n) h = (refl, long-from_half n (half-immediate w n h))
immediate-good w (operands.Reg r) h = absurd (false≢true h)
immediate-good w (operands.Byte b) h = absurd (false≢true h)
immediate-good w (operands.Mem m) h = absurd (false≢true h)

-- a bit of an operand as a number
bit-long : (n : ℤ) (k : ℕ) → k ≤ 64 → (not (int_lt n (pos 0)) && int_lt n (pos k)) ≡ true → IsLong n
bit-long (pos n) k small h = let below = ltb-true n k (and_parts (not (int_lt (pos n) (pos 0))) (ltb n k) h).1 in omega (arith, below, small)
bit-long (negsuc n) k small h = absurd (false≢true h)

index-good : (w : Width) (at index : Operand Symbol) → is_bit_index w at index ≡ true → IsGood w index
index-good W at (operands.Imm n) h = (refl, bit-long n 16 (omega arith) h)
index-good L at (operands.Imm n) h = (refl, bit-long n 32 (omega arith) h)
index-good Q at (operands.Imm n) h = (refl, bit-long n 64 (omega arith) h)
index-good B at index h = register-good B index (and_parts (is_register B at) (is_register B index) h).1
index-good W at index h = register-good W index (and_parts (is_register W at) (is_register W index) h).1
index-good L at index h = register-good L index (and_parts (is_register L at) (is_register L index) h).1
index-good Q at index h = register-good Q index (and_parts (is_register Q at) (is_register Q index) h).1

count-read : (n : ℕ) → n < 2 ^ 8 → count_of_number (pos n) ≡ Some (counts.Imm n)
count-read n h = ap (λ r. r >>= λ k. Some (counts.Imm k)) (narrow-again 8 n h)

count-good : (w : Width) (count : Count) → is_count w count ≡ true → (count_in {R = Symbol} (count_as_arg count) ≡ Some count) × IsRead (count_as_arg count)
count-good w counts.Cl h = (refl, tt)
count-good B (counts.Imm n) h = let k = ltb-true n 32 h in (count-read n (omega (arith, k)), omega (arith, k))
count-good W (counts.Imm n) h = let k = ltb-true n 32 h in (count-read n (omega (arith, k)), omega (arith, k))
count-good L (counts.Imm n) h = let k = ltb-true n 32 h in (count-read n (omega (arith, k)), omega (arith, k))
count-good Q (counts.Imm n) h = let k = ltb-true n 64 h in (count-read n (omega (arith, k)), omega (arith, k))

-- ---- instructions

abbrev AllRead : Args Symbol → Type 0
AllRead Zero = Unit {0}
AllRead (One a) = IsRead a
AllRead (Star a) = IsRead a
AllRead (Two a b) = IsRead a × IsRead b
AllRead (Three a b c) = IsRead a × IsRead b × IsRead c

-- the instruction is built of its form and its arguments again
record IsGoodInsn (i : Insn Symbol) : Type 0 where
  again : built (form_of i) (args_of i) ≡ Some i
  kind : form_kind (form_of i) ≡ kind_of (args_of i)
  args : AllRead (args_of i)

abbrev pair : {A B : Type 0} → A → B → Option (A × B)
pair a b = Some (a, b)

one-built : (w : Width) (o : Operand Symbol) (f : Operand Symbol → Insn Symbol) → operand_at w (arg_at w o) ≡ Some o → (operand_at w (arg_at w o) >>= λ x. Some (f x)) ≡ Some (f o)
one-built w o f h = ap (λ r. r >>= λ x. Some (f x)) h

into-built : {B : Type 0} (w : Width) (o : Operand Symbol) (pair : Operand Symbol → B) (f : B → Insn Symbol) → operand_at w (arg_at w o) ≡ Some o → (operand_at w (arg_at w o) >>= (λ x. Some (pair x)) >>= λ y. Some (f y)) ≡ Some (f (pair o))
into-built w o pair f h = ap (λ r. r >>= (λ x. Some (pair x)) >>= λ y. Some (f y)) h

two-built : (w : Width) (to from : Operand Symbol) (f : Operand Symbol → Operand Symbol → Insn Symbol) → operand_at w (arg_at w to) ≡ Some to → operand_at w (arg_at w from) ≡ Some from → (two_at w (Two (arg_at w from) (arg_at w to)) >>= λ x. Some (f x.1 x.0)) ≡ Some (f to from)
two-built w to from f h k =
    ap (λ r. (r >>= λ x. operand_at w (arg_at w to) >>= λ y. pair x y) >>= λ z. Some (f z.1 z.0)) k
    ∙ ap (λ r. (r >>= λ y. pair from y) >>= λ z. Some (f z.1 z.0)) h

shift-built : (w : Width) (at : Operand Symbol) (count : Count) (f : Operand Symbol → Count → Insn Symbol) → operand_at w (arg_at w at) ≡ Some at → count_in {R = Symbol} (count_as_arg count) ≡ Some count → (shifted_at w (Two (count_as_arg count) (arg_at w at)) >>= λ x. Some (f x.1 x.0)) ≡ Some (f at count)
shift-built w at count f h k =
    ap (λ r. (r >>= λ n. operand_at w (arg_at w at) >>= λ y. pair n y) >>= λ z. Some (f z.1 z.0)) k
    ∙ ap (λ r. (r >>= λ y. pair count y) >>= λ z. Some (f z.1 z.0)) h

both-syms : (a b : Operand Symbol) → AllSyms (operand_references a ++ operand_references b) → AllSyms (operand_references a) × AllSyms (operand_references b)
both-syms a b h = and_parts _ _ (sym (list_all-append is_sym (operand_references a) (operand_references b)) ∙ h)

module _ (w : Width) (to from : Operand Symbol) (fits : (is_addressed to && is_addressed from) ≡ true) (syms : AllSyms (operand_references to ++ operand_references from)) where
  to-place : is_place w to ≡ true → IsGood w to
  to-place h = place-good w to h (and_parts (is_addressed to) (is_addressed from) fits).0 (both-syms to from syms).0

  from-place : is_place w from ≡ true → IsGood w from
  from-place h = place-good w from h (and_parts (is_addressed to) (is_addressed from) fits).1 (both-syms to from syms).1

  operands-good : are_operands w to from ≡ true → IsGood w to × IsGood w from
  operands-good h =
      let a = is_place w to && is_register w from in
      let b = is_register w to && is_place w from in
      let c = is_place w to && is_immediate w from in
      elim (or_cases (a || b) c (and_parts (a || b || c) (go_together to from) h).0) [
        | inr z ↦ let parts = and_parts (is_place w to) (is_immediate w from) z in (to-place parts.0, immediate-good w from parts.1)
        | inl y ↦ elim (or_cases a b y) [
          | inl x ↦ let parts = and_parts (is_place w to) (is_register w from) x in (to-place parts.0, register-good w from parts.1)
          | inr x ↦ let parts = and_parts (is_register w to) (is_place w from) x in (register-good w to parts.0, from-place parts.1)
        ]
      ]

  test-good : is_instruction (insns.Test w to from) ≡ true → IsGood w to × IsGood w from
  test-good h =
      let parts = and_parts (is_place w to) (is_register w from || is_immediate w from) (and_parts (is_place w to && (is_register w from || is_immediate w from)) (go_together to from) h).0 in
      elim (or_cases (is_register w from) (is_immediate w from) parts.1) [
        | inl x ↦ (to-place parts.0, register-good w from x)
        | inr x ↦ (to-place parts.0, immediate-good w from x)
      ]

  xchg-good : is_instruction (insns.Xchg w to from) ≡ true → IsGood w to × IsGood w from
  xchg-good h =
      let parts = and_parts (is_place w to) (is_register w from) (and_parts (is_place w to && is_register w from) (go_together to from) h).0 in
      (to-place parts.0, register-good w from parts.1)

  bit-good : (is_wide w && is_place w to && is_bit_index w to from) ≡ true → IsGood w to × IsGood w from
  bit-good h =
      let parts = and_parts (is_wide w && is_place w to) (is_bit_index w to from) h in
      (to-place (and_parts (is_wide w) (is_place w to) parts.0).1, index-good w to from parts.1)

extended-place : (from_w w : Width) (to : _) (from : Operand Symbol) → (extends from_w w && widens from_w w to from) ≡ true → is_place from_w from ≡ true
extended-place from_w w to from h = (and_parts (is_place from_w from) _ (and_parts (extends from_w w) (widens from_w w to from) h).1).0

signed-place : (from_w w : Width) (to : _) (from : Operand Symbol) → is_instruction (insns.MovSx from_w w to from) ≡ true → is_place from_w from ≡ true
signed-place B w to from h = extended-place B w to from h
signed-place W w to from h = extended-place W w to from h
signed-place Q w to from h = extended-place Q w to from h
signed-place L Q to from h = h
signed-place L B to from h = extended-place L B to from h
signed-place L W to from h = extended-place L W to from h
signed-place L L to from h = extended-place L L to from h

push-good : (from : Operand Symbol) → is_instruction (insns.Push from) ≡ true → is_addressed from ≡ true → AllSyms (operand_references from) → IsGood Q from
push-good from h k s =
    elim (or_cases (is_place Q from) (is_immediate Q from) h) [
      | inl x ↦ place-good Q from x k s
      | inr x ↦ immediate-good Q from x
    ]

good : (i : Insn Symbol) → is_instruction i ≡ true → AllSyms (references_of i) → fits_fields i ≡ true → IsGoodInsn i
good (insns.Alu op w to from) h s k = let g = operands-good w to from k s h in record { again = two-built w to from (λ t f. insns.Alu op w t f) g.0.0 g.1.0; kind = refl; args = (g.1.1, g.0.1) }
good (insns.Test w e by) h s k = let g = test-good w e by k s h in record { again = two-built w e by (λ t f. insns.Test w t f) g.0.0 g.1.0; kind = refl; args = (g.1.1, g.0.1) }
good (insns.Xchg w e o) h s k = let g = xchg-good w e o k s h in record { again = two-built w e o (λ t f. insns.Xchg w t f) g.0.0 g.1.0; kind = refl; args = (g.1.1, g.0.1) }
good (insns.Mov w to from) h s k = let g = operands-good w to from k s h in record { again = two-built w to from (λ t f. insns.Mov w t f) g.0.0 g.1.0; kind = refl; args = (g.1.1, g.0.1) }
good (insns.MovAbs to v) h s k = record { again = refl; kind = refl; args = (long-from v k, tt) }
good (insns.MovZx from_w w to from) h s k = let g = place-good from_w from (extended-place from_w w to from h) k s in record { again = into-built from_w from (λ f. (f, to)) (λ x. insns.MovZx from_w w x.1 x.0) g.0; kind = refl; args = (g.1, tt) }
good (insns.MovSx from_w w to from) h s k = let g = place-good from_w from (signed-place from_w w to from h) k s in record { again = into-built from_w from (λ f. (f, to)) (λ x. insns.MovSx from_w w x.1 x.0) g.0; kind = refl; args = (g.1, tt) }
good (insns.Lea w to at) h s k = let r = mem-read w at (and_parts (is_wide w) (is_address at) (and_parts (is_wide w && is_address at) (not (is_canary at)) h).0).1 k s in record { again = refl; kind = refl; args = (r, tt) }
good (insns.Push from) h s k = let g = push-good from h k s in record { again = one-built Q from (λ f. insns.Push f) g.0; kind = refl; args = g.1 }
good (insns.Pop to) h s k = let g = place-good Q to h k s in record { again = one-built Q to (λ f. insns.Pop f) g.0; kind = refl; args = g.1 }
good (insns.Imul2 w to from) h s k = let g = place-good w from (and_parts (is_wide w) (is_place w from) h).1 k s in record { again = into-built w from (λ f. (f, to)) (λ x. insns.Imul2 w x.1 x.0) g.0; kind = refl; args = (g.1, tt) }
good (insns.Imul3 w to from by) h s k =
    let parts = and_parts (is_wide w && is_place w from) (fits_immediate w by) h in
    let g = place-good w from (and_parts (is_wide w) (is_place w from) parts.0).1 k s in
    record { again = into-built w from (λ f. (by, f, to)) (λ x. insns.Imul3 w x.2 x.1 x.0) g.0; kind = refl; args = (long-from_half by (half-immediate w by parts.1), g.1, tt) }
good (insns.One op w at) h s k = let g = place-good w at h k s in record { again = one-built w at (λ t. insns.One op w t) g.0; kind = refl; args = g.1 }
good (insns.Shift op w at count) h s k =
    let parts = and_parts (is_place w at) (is_count w count) h in
    let g = place-good w at parts.0 k s in
    let c = count-good w count parts.1 in
    record { again = shift-built w at count (λ t n. insns.Shift op w t n) g.0 c.0; kind = refl; args = (c.1, g.1) }
good (insns.Convert c) h s k = record { again = refl; kind = refl; args = tt }
good (insns.Movs w rep) h s k = record { again = refl; kind = refl; args = tt }
good (insns.Stos w rep) h s k = record { again = refl; kind = refl; args = tt }
good (insns.Cmov cond w to from) h s k = let g = place-good w from (and_parts (is_wide w) (is_place w from) h).1 k s in record { again = into-built w from (λ f. (f, w, to)) (λ x. insns.Cmov cond x.1 x.2 x.0) g.0; kind = refl; args = (g.1, tt) }
good (insns.Setcc cond to) h s k = let g = place-good B to h k s in record { again = one-built B to (λ t. insns.Setcc cond t) g.0; kind = refl; args = g.1 }
good (insns.Bit op w at index) h s k = let g = bit-good w at index k s h in record { again = two-built w at index (λ t f. insns.Bit op w t f) g.0.0 g.1.0; kind = refl; args = (g.1.1, g.0.1) }
good (insns.Scan op w to from) h s k = let g = place-good w from (and_parts (is_wide w) (is_place w from) h).1 k s in record { again = into-built w from (λ f. (f, to)) (λ x. insns.Scan op w x.1 x.0) g.0; kind = refl; args = (g.1, tt) }
good (insns.Bswap w r) h s k = record { again = refl; kind = refl; args = tt }
good (insns.Jcc cond to) h s k = record { again = refl; kind = refl; args = (and_parts (is_sym to) true s).0 }
good (insns.Jmp to) h s k = record { again = refl; kind = refl; args = (and_parts (is_sym to) true s).0 }
good (insns.Call to) h s k = record { again = refl; kind = refl; args = (and_parts (is_sym to) true s).0 }
good (insns.JmpTo to notrack) h s k = let g = place-good Q to h k s in record { again = one-built Q to (λ t. insns.JmpTo t notrack) g.0; kind = refl; args = g.1 }
good (insns.CallTo to notrack) h s k = let g = place-good Q to h k s in record { again = one-built Q to (λ t. insns.CallTo t notrack) g.0; kind = refl; args = g.1 }
good insns.Ret h s k = record { again = refl; kind = refl; args = tt }
good insns.Leave h s k = record { again = refl; kind = refl; args = tt }
good insns.Syscall h s k = record { again = refl; kind = refl; args = tt }
good (insns.Plain c) h s k = record { again = refl; kind = refl; args = tt }

-- ---- the words of an instruction

no-space : is_solid_byte 32 ≡ false
unfolding is_solid_byte is_inner_byte is_word_byte
no-space = refl

no-star : is_solid_byte 42 ≡ false
unfolding is_solid_byte is_inner_byte is_word_byte
no-star = refl

-- the words of the arguments
abbrev words : Args Symbol → List (List ℕ)
words Zero = []
words (One a) = arg_text a ∷ []
words (Star a) = (42 ∷ arg_text a) ∷ []
words (Two a b) = (arg_text a ++ 44 ∷ []) ∷ arg_text b ∷ []
words (Three a b c) = (arg_text a ++ 44 ∷ []) ∷ (arg_text b ++ 44 ∷ []) ∷ arg_text c ∷ []

unstarred : (a : Arg Symbol) → IsRead a → after_prefix (codes "*") (arg_text a) ≡ None
unstarred a h = ap (after_prefix (codes "*")) (sym (append-nil (arg_text a))) ∙ no-prefix is_solid_byte 42 no-star (arg_text a) [] [] (solid-arg a h) refl

one-again : (a : Arg Symbol) → IsRead a → one_by (arg_text a) (after_prefix (codes "*") (arg_text a)) ≡ Some (One a)
one-again a h = ap (one_by (arg_text a)) (unstarred a h) ∙ ap (λ r. r >>= λ x. Some (One x)) (arg-again a h)

before-comma : (a : Arg Symbol) → IsRead a → arg_in (without_comma (arg_text a ++ 44 ∷ [])) ≡ Some a
before-comma a h = ap arg_in (comma-again (arg_text a)) ∙ arg-again a h

args-again : (args : Args Symbol) → AllRead args → args_in (words args) ≡ Some args
args-again Zero h = refl
args-again (One a) h = one-again a h
args-again (Star a) h = ap (λ r. r >>= λ x. Some (Star x)) (arg-again a h)
args-again (Two a b) h = ap (λ r. r >>= λ x. arg_in (arg_text b) >>= λ y. Some (Two x y)) (before-comma a h.0) ∙ ap (λ r. r >>= λ y. Some (Two a y)) (arg-again b h.1)
args-again (Three a b c) h =
    ap (λ r. r >>= λ x. arg_in (without_comma (arg_text b ++ 44 ∷ [])) >>= λ y. arg_in (arg_text c) >>= λ z. Some (Three x y z)) (before-comma a h.0)
    ∙ ap (λ r. r >>= λ y. arg_in (arg_text c) >>= λ z. Some (Three a y z)) (before-comma b h.1)
    ∙ ap (λ r. r >>= λ z. Some (Three a b z)) (arg-again c h.2)

solid-comma : list_all is_solid_byte (codes ",") ≡ true
unfolding is_solid_byte is_inner_byte is_word_byte
solid-comma = refl

abbrev is_spaceless : ℕ → Bool
is_spaceless b = not (eqb b 32)

spaceless : (b : ℕ) → is_solid_byte b ≡ true → is_spaceless b ≡ true
spaceless b h = ap not (other is_solid_byte 32 no-space b h)

starred-piece : (xs : List ℕ) → list_all is_solid_byte xs ≡ true → pieces 32 (42 ∷ xs) ≡ (42 ∷ xs) ∷ []
starred-piece xs h = one-piece is_spaceless 32 refl (42 ∷ xs) (all-wider is_solid_byte is_spaceless spaceless xs h)

with-comma : (a : Arg Symbol) → IsRead a → list_all is_solid_byte (arg_text a ++ 44 ∷ []) ≡ true
with-comma a h = all-append is_solid_byte (arg_text a) (44 ∷ []) (solid-arg a h) solid-comma

last-piece : (a : Arg Symbol) → IsRead a → pieces 32 (arg_text a) ≡ arg_text a ∷ []
last-piece a h = one-piece is_solid_byte 32 no-space (arg_text a) (solid-arg a h)

more-piece : (a : Arg Symbol) (text : List ℕ) → IsRead a → pieces 32 ((arg_text a ++ 44 ∷ []) ++ 32 ∷ text) ≡ (arg_text a ++ 44 ∷ []) ∷ pieces 32 text
more-piece a text h = first-piece is_solid_byte 32 no-space (arg_text a ++ 44 ∷ []) text (with-comma a h)

-- a comma and a space between two texts
seam : (xs ys : List ℕ) → (xs ++ codes ", ") ++ ys ≡ (xs ++ 44 ∷ []) ++ 32 ∷ ys
seam xs ys = append_assoc xs (codes ", ") ys ∙ sym (append_assoc xs (44 ∷ []) (32 ∷ ys))

seams : (xs ys zs : List ℕ) → (((xs ++ codes ", ") ++ ys) ++ codes ", ") ++ zs ≡ (xs ++ 44 ∷ []) ++ 32 ∷ ((ys ++ 44 ∷ []) ++ 32 ∷ zs)
seams xs ys zs =
    seam ((xs ++ codes ", ") ++ ys) zs
    ∙ ap (λ t. (t ++ 44 ∷ []) ++ 32 ∷ zs) (seam xs ys)
    ∙ ap (λ t. t ++ 32 ∷ zs) (append_assoc (xs ++ 44 ∷ []) (32 ∷ ys) (44 ∷ []))
    ∙ append_assoc (xs ++ 44 ∷ []) (32 ∷ (ys ++ 44 ∷ [])) (32 ∷ zs)

text-words : (name : List ℕ) (args : Args Symbol) → AllRead args → pieces 32 (name ++ args_text args) ≡ pieces 32 name ++ words args
unfolding args_text
text-words name Zero h = ap (pieces 32) (append-nil name) ∙ sym (append-nil (pieces 32 name))
text-words name (One a) h = pieces-append 32 name (arg_text a) ∙ ap (λ ps. pieces 32 name ++ ps) (last-piece a h)
text-words name (Star a) h = pieces-append 32 name (42 ∷ arg_text a) ∙ ap (λ ps. pieces 32 name ++ ps) (starred-piece (arg_text a) (solid-arg a h))
text-words name (Two a b) h =
    ap (λ t. pieces 32 (name ++ 32 ∷ t)) (seam (arg_text a) (arg_text b))
    ∙ pieces-append 32 name ((arg_text a ++ 44 ∷ []) ++ 32 ∷ arg_text b)
    ∙ ap (λ ps. pieces 32 name ++ ps) (more-piece a (arg_text b) h.0 ∙ ap (λ ps. (arg_text a ++ 44 ∷ []) ∷ ps) (last-piece b h.1))
text-words name (Three a b c) h =
    let rest = (arg_text b ++ 44 ∷ []) ++ 32 ∷ arg_text c in
    ap (λ t. pieces 32 (name ++ 32 ∷ t)) (seams (arg_text a) (arg_text b) (arg_text c))
    ∙ pieces-append 32 name ((arg_text a ++ 44 ∷ []) ++ 32 ∷ rest)
    ∙ ap (λ ps. pieces 32 name ++ ps) (more-piece a rest h.0 ∙ ap (λ ps. (arg_text a ++ 44 ∷ []) ∷ ps) (more-piece b (arg_text c) h.1 ∙ ap (λ ps. (arg_text b ++ 44 ∷ []) ∷ ps) (last-piece c h.2)))

-- ---- the mnemonic

cut-words : (name : List ℕ) (ws rest : List (List ℕ)) → is_cut name ws ≡ true → insn_by (ws ++ rest) ≡ insn_named name rest
unfolding is_cut
cut-words name [] rest h = absurd (false≢true h)
cut-words name (word ∷ []) rest h =
    let parts = and_parts (not (is_prefix_word word)) (bytes_eq word name) h in
    ap (λ t. cond t (insn_behind word rest) (insn_named word rest)) (not-true _ parts.0) ∙ ap (λ n. insn_named n rest) ((bytes_decides word name).0 parts.1)
cut-words name (prefix ∷ word ∷ []) rest h =
    let parts = and_parts (is_prefix_word prefix) (bytes_eq (prefix ++ 32 ∷ word) name) h in
    ap (λ t. cond t (insn_behind prefix (word ∷ rest)) (insn_named prefix (word ∷ rest))) parts.0 ∙ ap (λ n. insn_named n rest) ((bytes_decides (prefix ++ 32 ∷ word) name).0 parts.1)
cut-words name (a ∷ b ∷ c ∷ ws) rest h = absurd (false≢true h)

form-cut : (f : Form) → is_cut (mnemonic f) (pieces 32 (mnemonic f)) ≡ true
unfolding form_named is_cut_form
form-cut f = found-all (λ g. bytes_eq (mnemonic f) (mnemonic g) && is_kind (form_kind f) (form_kind g)) is_cut_form all_forms f all-cut (form-found f)

named-again : (i : Insn Symbol) → IsGoodInsn i → insn_named (mnemonic (form_of i)) (words (args_of i)) ≡ Some i
named-again i h =
    let f = form_of i in
    ap (λ r. r >>= λ args. form_named (mnemonic f) (kind_of args) >>= λ form. built form args) (args-again (args_of i) h.args)
    ∙ ap (λ k. form_named (mnemonic f) k >>= λ form. built form (args_of i)) (sym h.kind)
    ∙ ap (λ r. r >>= λ form. built form (args_of i)) (form-found f)
    ∙ h.again

pub insn-again : (i : Insn Symbol) → is_instruction i ≡ true → AllSyms (references_of i) → fits_fields i ≡ true → insn_in (insn_text i) ≡ Some i
unfolding insn_in insn_text
insn-again i h s k =
    let g = good i h s k in
    let name = mnemonic (form_of i) in
    ap insn_by (text-words name (args_of i) g.args) ∙ cut-words name (pieces 32 name) (words (args_of i)) (form-cut (form_of i)) ∙ named-again i g

-- ---- the bytes of an instruction

abbrev pub is_inline : ℕ → Bool
is_inline b = not (eqb b 10)

no-feed : is_solid_byte 10 ≡ false
unfolding is_solid_byte is_inner_byte is_word_byte
no-feed = refl

inline-arg : (a : Arg Symbol) → IsRead a → list_all is_inline (arg_text a) ≡ true
inline-arg a h = all-wider is_solid_byte is_inline (λ b k. ap not (other is_solid_byte 10 no-feed b k)) (arg_text a) (solid-arg a h)

inline-args : (args : Args Symbol) → AllRead args → list_all is_inline (args_text args) ≡ true
unfolding args_text
inline-args Zero h = refl
inline-args (One a) h = inline-arg a h
inline-args (Star a) h = inline-arg a h
inline-args (Two a b) h = all-append is_inline (codes " " ++ arg_text a ++ codes ", ") (arg_text b) (all-append is_inline (codes " " ++ arg_text a) (codes ", ") (inline-arg a h.0) refl) (inline-arg b h.1)
inline-args (Three a b c) h =
    all-append is_inline (codes " " ++ arg_text a ++ codes ", " ++ arg_text b ++ codes ", ") (arg_text c)
    (all-append is_inline (codes " " ++ arg_text a ++ codes ", " ++ arg_text b) (codes ", ")
    (all-append is_inline (codes " " ++ arg_text a ++ codes ", ") (arg_text b) (all-append is_inline (codes " " ++ arg_text a) (codes ", ") (inline-arg a h.0) refl) (inline-arg b h.1)) refl)
    (inline-arg c h.2)

form-shown : (f : Form) → (not (eqb (slice_index (mnemonic f) 0) 46) ≡ true) × (list_all is_inline (mnemonic f) ≡ true)
unfolding form_named is_shown_form
form-shown f = and_parts (not (eqb (slice_index (mnemonic f) 0) 46)) (list_all is_inline (mnemonic f)) (found-all (λ g. bytes_eq (mnemonic f) (mnemonic g) && is_kind (form_kind f) (form_kind g)) is_shown_form all_forms f all-shown (form-found f))

pub inline-insn : (i : Insn Symbol) → is_instruction i ≡ true → AllSyms (references_of i) → fits_fields i ≡ true → list_all is_inline (insn_text i) ≡ true
unfolding insn_text
inline-insn i h s k = all-append is_inline (mnemonic (form_of i)) (args_text (args_of i)) (form-shown (form_of i)).1 (inline-args (args_of i) (good i h s k).args)

undotted : (name tail : List ℕ) → not (eqb (slice_index name 0) 46) ≡ true → after_prefix (codes ".") tail ≡ None → after_prefix (codes ".") (name ++ tail) ≡ None
undotted [] tail h k = k
undotted (x ∷ xs) tail h k = ap (λ t. cond t (Some (xs ++ tail)) None) (not-true _ h)

undotted-args : (args : Args Symbol) → after_prefix (codes ".") (args_text args) ≡ None
unfolding args_text
undotted-args Zero = refl
undotted-args (One a) = refl
undotted-args (Star a) = refl
undotted-args (Two a b) = refl
undotted-args (Three a b c) = refl

-- an instruction begins with no dot, as directives do
pub undotted-insn : (i : Insn Symbol) → after_prefix (codes ".") (insn_text i) ≡ None
unfolding insn_text
undotted-insn i = undotted (mnemonic (form_of i)) (args_text (args_of i)) (form-shown (form_of i)).0 (undotted-args (args_of i))
