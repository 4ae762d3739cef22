-- An argument that is printed is read again.
use Rattle.std.proofs.Common.{◌≡◌, ℕ, ◌+◌, ◌-◌, ◌^◌, ◌<◌, ◌≤◌, true, false, cond, eqb, not, ◌||◌, Option, Some, None, List, [], ◌∷◌, ◌++◌, length, get_or, take, refl, sym, ap, subst, ◌∙◌, inl, inr, arith, append_assoc, append-nil}
use Rattle.std.specs.List.{list_all}
use Rattle.std.specs.Prelude.{decimal, codes, ℤ, nat_lt}
use Rattle.std.specs.Str.{bytes_eq}
use Rattle.std.specs.Fmt.{signed_decimal}
use Rattle.std.proofs.lemmas.Bool.{and_parts, or_from, not-true, or_cases, eqb-true, false≢true}
use Rattle.std.proofs.lemmas.List.{length-append}
use Rattle.std.proofs.Math.Seq.{take-append_seam}
use Rattle.rw_base.specs.declared.width.Width.{Width}
use Rattle.rw_base.specs.declared.width.Width.TheVariants.{B, Q}
use Rattle.x86_insn.specs.declared.kinds.Reg.{Reg}
use Rattle.x86_insn.specs.declared.kinds.Reg.TheVariants.{Rax, Rcx, Rdx, Rbx, Rsp, Rbp, Rsi, Rdi, R8, R9, R10, R11, R12, R13, R14, R15}
use Rattle.x86_insn.specs.declared.kinds.Reg8.{Reg8}
use Rattle.x86_insn.specs.declared.kinds.Reg8.TheVariants.{Low, High}
use Rattle.x86_insn.specs.declared.operands.Mem.TheVariants.{At, Rel, Canary}
use Rattle.x86_insn.specs.WellFormed.{code_of, is_scale, is_index}
use Rattle.asm_items.specs.declared.item.Sym.TheVariants as syms
use Rattle.asm_items.specs.Formed.{is_sym, is_word}
use Rattle.rw_base.specs.Name.{is_digit, is_name_byte, is_import_name}
use Rattle.asm_print.specs.declared.spelling.Arg.{Arg}
use Rattle.asm_print.specs.declared.spelling.Arg.TheVariants as argument
use Rattle.asm_print.specs.Words.{low_name, high_name, reg_name}
use Rattle.asm_print.specs.Text.{sym_text, offset_text, reg_text, quad_text, shown, disp_text, index_text, place_text, mem_text, arg_text}
use Rattle.asm_print.specs.Pieces.{◌>>=◌, after_prefix, split, number_in, narrow}
use Rattle.asm_print.specs.Forms.{named_registers, reg_named}
use Rattle.asm_print.specs.Arguments.{Symbol, disp_in, low_of, quad_in, base_in, place_by, place_in, rel_in, at_in, mem_in, is_numeric, address_in, target_in, place_arg_in, reg_arg_in, arg_by, arg_in, without_comma}
use Rattle.asm_print.proofs.Bytes.{is_word_byte, is_inner_byte, is_solid_byte, word-from_name, word-from_numeric, inner-from_word, solid-from_inner, solid-from_word}
use Rattle.asm_print.proofs.Separators.{all-append, all-wider, other, split-at, split-none, no-prefix, found-all}
use Rattle.asm_print.proofs.Tables.{low-named, high-named, is_word_register, all-word}
use Rattle.asm_print.proofs.Numbers.{IsLong, IsHalf, signed-again, numeric-signed, all-numeric, disp-again, shown-again, all-numeric_shown, long-from_half, narrow-decimal, name-decimal}
use Rattle.asm_print.proofs.SymbolsRead.{IsImport, import-from, beginning, sym-again, word-sym}

-- the arguments that are read again
abbrev pub IsRead : Arg Symbol → Type 0
IsRead (argument.Reg w (Low r)) = Unit {0}
IsRead (argument.Reg w (High r)) = (w ≡ B) × (nat_lt (code_of r) 4 ≡ true)
IsRead (argument.Imm n) = IsLong n
IsRead (argument.Mem (At base index disp)) = (is_index index ≡ true) × IsHalf disp
IsRead (argument.Mem (Rel s)) = is_sym s ≡ true
IsRead (argument.Mem Canary) = Unit {0}
IsRead (argument.To s) = is_sym s ≡ true

-- ---- registers

abbrev IsNamed : List ℕ → Type 0
IsNamed name = (list_all is_word_byte name ≡ true) × (bytes_eq name (codes "fs:40") ≡ false)

low-is_named : (w : Width) (r : Reg) → IsNamed (low_name w r)
unfolding reg_named is_word_register
low-is_named w r =
    let h = found-all (λ x. bytes_eq (low_name w r) (reg_name x.0 x.1)) is_word_register named_registers (w, Low r) all-word (low-named w r) in
    let both = and_parts (list_all is_word_byte (low_name w r)) (not (bytes_eq (low_name w r) (codes "fs:40"))) h in
    (both.0, not-true _ both.1)

-- the registers that have a second byte
high-name : (r : Reg) → nat_lt (code_of r) 4 ≡ true → (reg_named (high_name r) ≡ Some (B, High r)) × IsNamed (high_name r)
unfolding is_word_byte
high-name Rax h = (high-named Rax refl, (refl, refl))
high-name Rcx h = (high-named Rcx refl, (refl, refl))
high-name Rdx h = (high-named Rdx refl, (refl, refl))
high-name Rbx h = (high-named Rbx refl, (refl, refl))
high-name _ h = absurd (false≢true h)

reg-case : (name : List ℕ) (w : Width) (r : Reg8) → bytes_eq name (codes "fs:40") ≡ false → reg_named name ≡ Some (w, r) → reg_arg_in name ≡ Some (argument.Reg w r)
reg-case name w r h k = ap (λ t. cond t (Some (argument.Mem Canary)) (reg_named name >>= λ x. Some (argument.Reg x.0 x.1))) h ∙ ap (λ x. x >>= λ y. Some (argument.Reg y.0 y.1)) k

quad-again : (r : Reg) → quad_in (quad_text r) ≡ Some r
unfolding quad_in reg_text
quad-again r = ap (λ x. x >>= low_of) (low-named Q r)

word-percent : list_all is_word_byte (codes "%") ≡ true
unfolding is_word_byte
word-percent = refl

word-quad : (r : Reg) → list_all is_word_byte (quad_text r) ≡ true
unfolding reg_text
word-quad r = all-append is_word_byte (codes "%") (low_name Q r) word-percent (low-is_named Q r).0

-- no register is named rip
no-rip : (r : Reg) (tail : List ℕ) → bytes_eq (quad_text r ++ tail) (codes "%rip)") ≡ false
unfolding reg_text
no-rip Rax tail = refl
no-rip Rcx tail = refl
no-rip Rdx tail = refl
no-rip Rbx tail = refl
no-rip Rsp tail = refl
no-rip Rbp tail = refl
no-rip Rsi tail = refl
no-rip Rdi tail = refl
no-rip R8 tail = refl
no-rip R9 tail = refl
no-rip R10 tail = refl
no-rip R11 tail = refl
no-rip R12 tail = refl
no-rip R13 tail = refl
no-rip R14 tail = refl
no-rip R15 tail = refl

base-by : (text : List ℕ) (r : Reg) → 1 ≤ length text → quad_in text ≡ Some r → base_in text ≡ Some (Some r)
base-by [] r some h = absurd (omega (arith, some))
base-by (b ∷ bs) r some h = ap (λ x. x >>= λ y. Some (Some y)) h

base-again : (r : Reg) → base_in (quad_text r) ≡ Some (Some r)
unfolding reg_text
base-again r = base-by (quad_text r) r (omega arith) (quad-again r)

-- ---- what stands in parentheses

small-scale : (s : ℕ) → is_scale s ≡ true → s ≤ 8
small-scale s h =
    elim (or_cases (eqb s 1 || eqb s 2 || eqb s 4) (eqb s 8) h) [
      | inr e ↦ let k = eqb-true s 8 e in omega (arith, k)
      | inl a ↦ elim (or_cases (eqb s 1 || eqb s 2) (eqb s 4) a) [
        | inr e ↦ let k = eqb-true s 4 e in omega (arith, k)
        | inl b ↦ elim (or_cases (eqb s 1) (eqb s 2) b) [
          | inr e ↦ let k = eqb-true s 2 e in omega (arith, k)
          | inl e ↦ let k = eqb-true s 1 e in omega (arith, k)
        ]
      ]
    ]

no-comma : is_word_byte 44 ≡ false
unfolding is_word_byte
no-comma = refl

no-open : is_word_byte 40 ≡ false
unfolding is_word_byte
no-open = refl

no-close : is_inner_byte 41 ≡ false
unfolding is_inner_byte is_word_byte
no-close = refl

short : (s : ℕ) → is_scale s ≡ true → s < 2 ^ 64
short s h = let small = small-scale s h in omega (arith, small)

abbrev behind_comma : Reg → ℕ → List ℕ
behind_comma r s = (quad_text r ++ codes ",") ++ decimal s

split-index : (r : Reg) (s : ℕ) → split 44 (behind_comma r s) ≡ Some (quad_text r, decimal s)
split-index r s = ap (split 44) (append_assoc (quad_text r) (codes ",") (decimal s)) ∙ split-at is_word_byte 44 no-comma (quad_text r) (decimal s) (word-quad r)

indexed-by : (text front : List ℕ) (base : Option Reg) (r : Reg) (s : ℕ) → is_scale s ≡ true → base_in front ≡ Some base → place_by text (Some (front, behind_comma r s)) ≡ Some (base, Some (r, s))
indexed-by text front base r s scale h =
    ap (λ x. x >>= λ b. split 44 (behind_comma r s) >>= λ y. quad_in y.0 >>= λ i. number_in 10 y.1 >>= narrow 8 >>= λ n. Some (b, Some (i, n))) h
    ∙ ap (λ x. x >>= λ (y : List ℕ × List ℕ). quad_in y.0 >>= λ i. number_in 10 y.1 >>= narrow 8 >>= λ n. Some (base, Some (i, n))) (split-index r s)
    ∙ ap (λ x. x >>= λ i. number_in 10 (decimal s) >>= narrow 8 >>= λ n. Some (base, Some (i, n))) (quad-again r)
    ∙ ap (λ x. x >>= λ n. Some (base, Some (r, n))) (narrow-decimal 8 s (let small = small-scale s scale in omega (arith, small)) (short s scale))

place-base : (r : Reg) → place_in (quad_text r) ≡ Some (Some r, None)
unfolding place_in
place-base r = ap (place_by (quad_text r)) (split-none is_word_byte 44 no-comma (quad_text r) (word-quad r)) ∙ ap (λ x. x >>= λ y. Some (Some y, None)) (quad-again r)

place-index : (r : Reg) (s : ℕ) → is_scale s ≡ true → place_in (index_text (r, s)) ≡ Some (None, Some (r, s))
unfolding place_in index_text split
place-index r s scale = indexed-by (index_text (r, s)) [] None r s scale refl

place-both : (b r : Reg) (s : ℕ) → is_scale s ≡ true → place_in (quad_text b ++ index_text (r, s)) ≡ Some (Some b, Some (r, s))
unfolding place_in index_text
place-both b r s scale = ap (place_by (quad_text b ++ index_text (r, s))) (split-at is_word_byte 44 no-comma (quad_text b) (behind_comma r s) (word-quad b)) ∙ indexed-by (quad_text b ++ index_text (r, s)) (quad_text b) (Some b) r s scale (base-again b)

inner-word : (xs : List ℕ) → list_all is_word_byte xs ≡ true → list_all is_inner_byte xs ≡ true
inner-word xs h = all-wider is_word_byte is_inner_byte inner-from_word xs h

inner-comma : list_all is_inner_byte (codes ",") ≡ true
unfolding is_inner_byte is_word_byte
inner-comma = refl

word-scale : (s : ℕ) → is_scale s ≡ true → list_all is_word_byte (decimal s) ≡ true
word-scale s h = all-wider is_name_byte is_word_byte word-from_name (decimal s) (name-decimal s (short s h))

inner-index : (r : Reg) (s : ℕ) → is_scale s ≡ true → list_all is_inner_byte (index_text (r, s)) ≡ true
unfolding index_text
inner-index r s h =
    all-append is_inner_byte (codes "," ++ quad_text r ++ codes ",") (decimal s)
    (all-append is_inner_byte (codes "," ++ quad_text r) (codes ",") (all-append is_inner_byte (codes ",") (quad_text r) inner-comma (inner-word (quad_text r) (word-quad r))) inner-comma)
    (inner-word (decimal s) (word-scale s h))

-- ---- memory with parentheses

not-marked : (front tail : List ℕ) → list_all is_numeric front ≡ true → (after_prefix (codes "$") tail ≡ None) × (after_prefix (codes "%") tail ≡ None) → (after_prefix (codes "$") (front ++ tail) ≡ None) × (after_prefix (codes "%") (front ++ tail) ≡ None)
not-marked front tail h k = (no-prefix is_numeric 36 refl front tail [] h k.0, no-prefix is_numeric 37 refl front tail [] h k.1)

by-head : (text : List ℕ) → (after_prefix (codes "$") text ≡ None) × (after_prefix (codes "%") text ≡ None) → arg_in text ≡ place_arg_in text (split 40 text)
unfolding arg_in
by-head text h = ap (λ d. arg_by text d (after_prefix (codes "%") text)) h.0 ∙ ap (arg_by text None) h.1

word-numeric : (xs : List ℕ) → list_all is_numeric xs ≡ true → list_all is_word_byte xs ≡ true
word-numeric xs h = all-wider is_numeric is_word_byte word-from_numeric xs h

module _ (front inner : List ℕ) (base : Option Reg) (index : Option (Reg × ℕ)) (disp : ℤ) where
  at-by : bytes_eq (inner ++ 41 ∷ []) (codes "%rip)") ≡ false → list_all is_inner_byte inner ≡ true → place_in inner ≡ Some (base, index) → disp_in front ≡ Some disp → mem_in front (inner ++ 41 ∷ []) ≡ Some (At base index disp)
  unfolding mem_in
  at-by other closed place number =
      ap (λ t. cond t (rel_in front) (at_in front (inner ++ 41 ∷ []))) other
      ∙ ap (λ x. x >>= λ (y : List ℕ × List ℕ). place_in y.0 >>= λ p. disp_in front >>= λ d. Some (At p.0 p.1 d)) (split-at is_inner_byte 41 no-close inner [] closed)
      ∙ ap (λ x. x >>= λ (p : Option Reg × Option (Reg × ℕ)). disp_in front >>= λ d. Some (At p.0 p.1 d)) place
      ∙ ap (λ x. x >>= λ d. Some (At base index d)) number

  at-again : list_all is_numeric front ≡ true → bytes_eq (inner ++ 41 ∷ []) (codes "%rip)") ≡ false → list_all is_inner_byte inner ≡ true → place_in inner ≡ Some (base, index) → disp_in front ≡ Some disp → arg_in (front ++ 40 ∷ (inner ++ 41 ∷ [])) ≡ Some (argument.Mem (At base index disp))
  at-again numeric other closed place number =
      by-head (front ++ 40 ∷ (inner ++ 41 ∷ [])) (not-marked front (40 ∷ (inner ++ 41 ∷ [])) numeric (refl, refl))
      ∙ ap (place_arg_in (front ++ 40 ∷ (inner ++ 41 ∷ []))) (split-at is_word_byte 40 no-open front (inner ++ 41 ∷ []) (word-numeric front numeric))
      ∙ ap (λ x. x >>= λ m. Some (argument.Mem m)) (at-by other closed place number)

plain-again : (z : ℤ) → IsHalf z → arg_in (signed_decimal z) ≡ Some (argument.Mem (At None None z))
plain-again z h =
    let text = signed_decimal z in
    let long = long-from_half z h in
    let numeric = all-numeric z long in
    let marks = subst (λ t. (after_prefix (codes "$") t ≡ None) × (after_prefix (codes "%") t ≡ None)) (append-nil text) (not-marked text [] numeric (refl, refl)) in
    by-head text marks
    ∙ ap (place_arg_in text) (split-none is_word_byte 40 no-open text (word-numeric text numeric))
    ∙ ap (λ t. cond t (address_in text) (target_in text)) (numeric-signed z long)
    ∙ ap (λ r. r >>= λ d. Some (argument.Mem (At None None d))) (disp-again z h)

scaled : (i : Reg × ℕ) → is_index (Some i) ≡ true → is_scale i.1 ≡ true
scaled (Rsp, s) h = absurd (false≢true h)
scaled (_, s) h = h

index-no_rip : (i : Reg × ℕ) → bytes_eq (index_text i ++ 41 ∷ []) (codes "%rip)") ≡ false
unfolding index_text
index-no_rip i = refl

place-again : (base : Option Reg) (index : Option (Reg × ℕ)) (disp : ℤ) → is_index index ≡ true → IsHalf disp → arg_in (disp_text base disp ++ place_text base index) ≡ Some (argument.Mem (At base index disp))
unfolding disp_text place_text
place-again None None disp h k = ap arg_in (append-nil (signed_decimal disp)) ∙ plain-again disp k
place-again (Some b) None disp h k = at-again (shown disp) (quad_text b) (Some b) None disp (all-numeric_shown disp k) (no-rip b (41 ∷ [])) (inner-word (quad_text b) (word-quad b)) (place-base b) (shown-again disp k)
place-again None (Some i) disp h k = at-again (signed_decimal disp) (index_text i) None (Some i) disp (all-numeric disp (long-from_half disp k)) (index-no_rip i) (inner-index i.0 i.1 (scaled i h)) (place-index i.0 i.1 (scaled i h)) (disp-again disp k)
place-again (Some b) (Some i) disp h k =
    at-again (shown disp) (quad_text b ++ index_text i) (Some b) (Some i) disp (all-numeric_shown disp k)
    (ap (λ t. bytes_eq t (codes "%rip)")) (append_assoc (quad_text b) (index_text i) (41 ∷ [])) ∙ no-rip b (index_text i ++ 41 ∷ []))
    (all-append is_inner_byte (quad_text b) (index_text i) (inner-word (quad_text b) (word-quad b)) (inner-index i.0 i.1 (scaled i h)))
    (place-both b i.0 i.1 (scaled i h)) (shown-again disp k)

-- ---- symbols

-- neither a mark nor a number begins a symbol
record IsPlain (text : List ℕ) : Type 0 where
  dollar : after_prefix (codes "$") text ≡ None
  percent : after_prefix (codes "%") text ≡ None
  letter : is_numeric (get_or text 0 0) ≡ false

plain-byte : (x : ℕ) → is_name_byte x ≡ true → is_digit x ≡ false → is_numeric x ≡ false
plain-byte x h k = or_from (eqb x 45) (is_digit x) (other is_name_byte 45 refl x h) k

plain-name : (name tail : List ℕ) → IsImport name → IsPlain (name ++ tail)
plain-name [] tail h = absurd (let some = h.some in omega (arith, some))
plain-name (x ∷ xs) tail h =
    let b = beginning (x ∷ xs) h.begins in
    let first = (and_parts (is_name_byte x) (list_all is_name_byte xs) h.letters).0 in
    record {
      dollar = ap (λ t. cond t (Some (xs ++ tail)) None) b.dollar;
      percent = ap (λ t. cond t (Some (xs ++ tail)) None) (other is_name_byte 37 refl x first);
      letter = plain-byte x first b.digit;
    }

plain-sym : (s : Symbol) (tail : List ℕ) → is_sym s ≡ true → IsPlain (sym_text s ++ tail)
unfolding sym_text
plain-sym (syms.Code a) tail h = record { dollar = refl; percent = refl; letter = refl }
plain-sym (syms.Section n o) tail h = record { dollar = refl; percent = refl; letter = refl }
plain-sym (syms.Named name o) tail h = subst IsPlain (sym (append_assoc name (offset_text o) tail)) (plain-name name (offset_text o ++ tail) (import-from name (and_parts (is_import_name name) (is_word o) h).0))
plain-sym (syms.Counter k) tail h = record { dollar = refl; percent = refl; letter = refl }

rel-again : (s : Symbol) → is_sym s ≡ true → arg_in (sym_text s ++ codes "(%rip)") ≡ Some (argument.Mem (Rel s))
unfolding mem_in
rel-again s h =
    let text = sym_text s ++ codes "(%rip)" in
    let plain = plain-sym s (codes "(%rip)") h in
    by-head text (plain.dollar, plain.percent)
    ∙ ap (place_arg_in text) (split-at is_word_byte 40 no-open (sym_text s) (codes "%rip)") (word-sym s h))
    ∙ ap (λ r. r >>= (λ x. Some (Rel x)) >>= λ m. Some (argument.Mem m)) (sym-again s h)

target-again : (s : Symbol) → is_sym s ≡ true → arg_in (sym_text s) ≡ Some (argument.To s)
target-again s h =
    let text = sym_text s in
    let plain = subst IsPlain (append-nil text) (plain-sym s [] h) in
    by-head text (plain.dollar, plain.percent)
    ∙ ap (place_arg_in text) (split-none is_word_byte 40 no-open text (word-sym s h))
    ∙ ap (λ t. cond t (address_in text) (target_in text)) plain.letter
    ∙ ap (λ r. r >>= λ x. Some (argument.To x)) (sym-again s h)

-- ---- arguments

pub arg-again : (a : Arg Symbol) → IsRead a → arg_in (arg_text a) ≡ Some a
unfolding arg_in arg_text mem_text reg_text
arg-again (argument.Reg w (Low r)) h = reg-case (low_name w r) w (Low r) (low-is_named w r).1 (low-named w r)
arg-again (argument.Reg w (High r)) h =
    let name = high-name r h.1 in
    subst (λ v. arg_in (codes "%" ++ high_name r) ≡ Some (argument.Reg v (High r))) (sym h.0) (reg-case (high_name r) B (High r) name.1.1 name.0)
arg-again (argument.Imm n) h = ap (λ r. r >>= λ (k : ℤ). Some (argument.Imm k)) (signed-again n h)
arg-again (argument.Mem (At base index disp)) h = place-again base index disp h.0 h.1
arg-again (argument.Mem (Rel s)) h = rel-again s h
arg-again (argument.Mem Canary) h = refl
arg-again (argument.To s) h = target-again s h

-- ---- the bytes of an argument

solid-word : (xs : List ℕ) → list_all is_word_byte xs ≡ true → list_all is_solid_byte xs ≡ true
solid-word xs h = all-wider is_word_byte is_solid_byte solid-from_word xs h

solid-inner : (xs : List ℕ) → list_all is_inner_byte xs ≡ true → list_all is_solid_byte xs ≡ true
solid-inner xs h = all-wider is_inner_byte is_solid_byte solid-from_inner xs h

solid-parts : ((list_all is_solid_byte (codes "$") ≡ true) × (list_all is_solid_byte (codes "%") ≡ true)) × ((list_all is_solid_byte (codes "(") ≡ true) × (list_all is_solid_byte (codes ")") ≡ true)) × ((list_all is_solid_byte (codes "(%rip)") ≡ true) × (list_all is_solid_byte (codes "%fs:40") ≡ true))
unfolding is_solid_byte is_inner_byte is_word_byte
solid-parts = ((refl, refl), (refl, refl), (refl, refl))

solid-closed : (inner : List ℕ) → list_all is_inner_byte inner ≡ true → list_all is_solid_byte ((codes "(" ++ inner) ++ codes ")") ≡ true
solid-closed inner h = all-append is_solid_byte (codes "(" ++ inner) (codes ")") (all-append is_solid_byte (codes "(") inner solid-parts.1.0 (solid-inner inner h)) solid-parts.1.1

solid-place : (base : Option Reg) (index : Option (Reg × ℕ)) → is_index index ≡ true → list_all is_solid_byte (place_text base index) ≡ true
unfolding place_text
solid-place None None h = refl
solid-place (Some b) None h = solid-closed (quad_text b) (inner-word (quad_text b) (word-quad b))
solid-place None (Some i) h = solid-closed (index_text i) (inner-index i.0 i.1 (scaled i h))
solid-place (Some b) (Some i) h = solid-closed (quad_text b ++ index_text i) (all-append is_inner_byte (quad_text b) (index_text i) (inner-word (quad_text b) (word-quad b)) (inner-index i.0 i.1 (scaled i h)))

solid-numeric : (xs : List ℕ) → list_all is_numeric xs ≡ true → list_all is_solid_byte xs ≡ true
solid-numeric xs h = solid-word xs (word-numeric xs h)

solid-disp : (base : Option Reg) (disp : ℤ) → IsHalf disp → list_all is_solid_byte (disp_text base disp) ≡ true
unfolding disp_text
solid-disp None disp h = solid-numeric (signed_decimal disp) (all-numeric disp (long-from_half disp h))
solid-disp (Some b) disp h = solid-numeric (shown disp) (all-numeric_shown disp h)

solid-name : (name : List ℕ) → IsNamed name → list_all is_solid_byte (codes "%" ++ name) ≡ true
solid-name name h = all-append is_solid_byte (codes "%") name solid-parts.0.1 (solid-word name h.0)

pub solid-arg : (a : Arg Symbol) → IsRead a → list_all is_solid_byte (arg_text a) ≡ true
unfolding arg_text mem_text reg_text
solid-arg (argument.Reg w (Low r)) h = solid-name (low_name w r) (low-is_named w r)
solid-arg (argument.Reg w (High r)) h = solid-name (high_name r) (high-name r h.1).1
solid-arg (argument.Imm n) h = all-append is_solid_byte (codes "$") (signed_decimal n) solid-parts.0.0 (solid-numeric (signed_decimal n) (all-numeric n h))
solid-arg (argument.Mem (At base index disp)) h = all-append is_solid_byte (disp_text base disp) (place_text base index) (solid-disp base disp h.1) (solid-place base index h.0)
solid-arg (argument.Mem (Rel s)) h = all-append is_solid_byte (sym_text s) (codes "(%rip)") (solid-word (sym_text s) (word-sym s h)) solid-parts.2.0
solid-arg (argument.Mem Canary) h = solid-parts.2.1
solid-arg (argument.To s) h = solid-word (sym_text s) (word-sym s h)

-- an argument is what stands before its comma
pub comma-again : (xs : List ℕ) → without_comma (xs ++ 44 ∷ []) ≡ xs
unfolding without_comma
comma-again xs =
    let size : length (xs ++ 44 ∷ []) ≡ length xs + 1 = length-append xs (44 ∷ []) in
    let less : length (xs ++ 44 ∷ []) - 1 ≡ length xs = omega (arith, size) in
    ap (λ n. take n (xs ++ 44 ∷ [])) less ∙ take-append_seam xs (44 ∷ [])
