-- What is spelled has displacements of 32 bits, and references and numbers of 64.
use Rattle.std.proofs.Common.{◌≡◌, ℕ, ◌+◌, ◌%◌, ◌^◌, ◌<◌, ◌≤◌, Bool, true, false, cond, ◌&&◌, ◌||◌, inl, inr, List, [], ◌∷◌, ◌++◌, length, take, Option, Some, refl, sym, subst, arith}
use Rattle.std.specs.Prelude.{nat_lt, ◌==◌, ℤ, pos}
use Rattle.std.specs.List.{All, list_all}
use Rattle.std.specs.Int.{w16, w32, w64, from_le_bytes, cast_signed}
use Rattle.std.proofs.lemmas.Bool.{and_from, cases_Bool, lt-ltb, ltb-true, ltb-false}
use Rattle.std.proofs.lemmas.List.Elements.{All-take}
use Rattle.x86_insn.specs.declared.operands.Operand.{Operand}
use Rattle.x86_insn.specs.declared.operands.Operand.TheVariants as o
use Rattle.x86_insn.specs.declared.instruction.Insn.{Insn}
use Rattle.rw_base.specs.declared.width.Width.{Width}
use Rattle.rw_base.specs.declared.width.Width.TheVariants as w
use Rattle.rw_base.proofs.Lists.{list_all-append_true}
use Rattle.x86_insn.specs.References.{mem_references, operand_references, references_of}
use Rattle.x86_insn.specs.WellFormed.{fits_immediate}
use Rattle.x86_insn.specs.Fields.{has_displacement, is_addressed, fits_fields}
use Rattle.x86_bytes.specs.declared.parts.RawMem.{RawMem}
use Rattle.x86_bytes.specs.declared.parts.Rm.{Rm}
use Rattle.x86_bytes.specs.declared.parts.Rm.TheVariants as rm
use Rattle.x86_bytes.specs.Operand.{high_two, no_base, disp_len, disp_of, sib_bytes, rm_of}
use Rattle.x86_decode.specs.declared.row.Parts.{Parts}
use Rattle.x86_decode.specs.declared.row.Imm.TheVariants as imm
use Rattle.x86_decode.specs.declared.row.Form.{Form}
use Rattle.x86_decode.specs.declared.row.Form.TheVariants as form
use Rattle.x86_decode.specs.declared.row.Name.{Name}
use Rattle.x86_decode.specs.declared.row.Name.TheVariants as name
use Rattle.x86_decode.specs.Fits as fits
use Rattle.x86_decode.specs.Value.{bits, signed, at_distance, register_at, memory_at, e_at, e_of, place_at, g_of, a_of, operands_of, value}
use Rattle.x86_decode.specs.Spelling.{parts_of, IsOptional, Spells}
use Rattle.x86_decode.specs.Reading.{decode_of}
use Rattle.x86_decode.proofs.SpellingLaws.{decode_takes}
use Rattle.x86_decode.proofs.WellFormedLaws.{front_bytes, later_bytes}
use Rattle.x86_decode.proofs.OperandGood.{AreBytes, Within, in_range, wider, signed_byte, signed_word, signed_long, pushed_fits}

-- a number of 64 bits
abbrev pub is_quad_number : ℕ → Bool
is_quad_number n = nat_lt n (2 ^ 64)

-- ---- displacements and immediates

four_if : (a b : Bool) (n : ℕ) → 2 ≤ n → n ≡ cond a 1 (cond b 4 0) → n ≡ 4
four_if true b n h e = absurd (omega (arith, h, e))
four_if false true n h e = e
four_if false false n h e = absurd (omega (arith, h, e))

four_fits : (a b : ℕ) (rest : List ℕ) → length (a ∷ b ∷ rest) ≡ 4 → AreBytes (a ∷ b ∷ rest) → fits_immediate w.L (disp_of (a ∷ b ∷ rest)) ≡ true
unfolding signed
four_fits a b [] e h = absurd (omega arith)
four_fits a b (c ∷ []) e h = absurd (omega arith)
four_fits a b (c ∷ d ∷ []) e h = pushed_fits imm.Four w.Q (a ∷ b ∷ c ∷ d ∷ []) refl h refl
four_fits a b (c ∷ d ∷ x ∷ rest) e h = absurd (omega arith)

disp_fits : (m : ℕ) (sib : Option ℕ) (xs : List ℕ) → length xs ≡ disp_len m sib → AreBytes xs → fits_immediate w.L (disp_of xs) ≡ true
unfolding signed
disp_fits m sib [] e h = refl
disp_fits m sib (a ∷ []) e h = pushed_fits imm.One w.Q (a ∷ []) refl h refl
disp_fits m sib (a ∷ b ∷ rest) e h = four_fits a b rest (four_if (high_two m == 1) ((high_two m == 2) || no_base m sib) (length (a ∷ b ∷ rest)) (omega arith) e) h

signed_quad : (n : ℕ) → n < 18446744073709551616 → Within 9223372036854775807 9223372036854775808 (cast_signed w64 n)
signed_quad n h = elim (cases_Bool (nat_lt n 9223372036854775808)) [
  | inl t ↦ rw t (ltb-true n 9223372036854775808 t)
  | inr u ↦ let e : 9223372036854775808 ≤ n = ltb-false n 9223372036854775808 u in rw u (omega arith)
]

abbrev IsLong : ℤ → Type 0
IsLong v = Within 9223372036854775807 9223372036854775808 v

signed_is_long : (xs : List ℕ) → AreBytes xs → IsLong (signed xs)
unfolding signed
signed_is_long [] h = omega arith
signed_is_long (a ∷ []) h = wider 127 128 9223372036854775807 9223372036854775808 (signed (a ∷ [])) (omega arith) (omega arith) (signed_byte a (h 0 0 (omega arith)))
signed_is_long (a ∷ b ∷ []) h =
    let a_is : a < 256 = h 0 0 (omega arith) in
    let b_is : b < 256 = h 1 0 (omega arith) in
    wider 32767 32768 9223372036854775807 9223372036854775808 (signed (a ∷ b ∷ [])) (omega arith) (omega arith) (signed_word (from_le_bytes w16 (a ∷ b ∷ [])) (omega arith))
signed_is_long (a ∷ b ∷ c ∷ []) h = omega arith
signed_is_long (a ∷ b ∷ c ∷ d ∷ []) h =
    let a_is : a < 256 = h 0 0 (omega arith) in
    let b_is : b < 256 = h 1 0 (omega arith) in
    let c_is : c < 256 = h 2 0 (omega arith) in
    let d_is : d < 256 = h 3 0 (omega arith) in
    wider 2147483647 2147483648 9223372036854775807 9223372036854775808 (signed (a ∷ b ∷ c ∷ d ∷ [])) (omega arith) (omega arith) (signed_long (from_le_bytes w32 (a ∷ b ∷ c ∷ d ∷ [])) (omega arith))
signed_is_long (a ∷ b ∷ c ∷ d ∷ e ∷ []) h = omega arith
signed_is_long (a ∷ b ∷ c ∷ d ∷ e ∷ f ∷ []) h = omega arith
signed_is_long (a ∷ b ∷ c ∷ d ∷ e ∷ f ∷ g ∷ []) h = omega arith
signed_is_long (a ∷ b ∷ c ∷ d ∷ e ∷ f ∷ g ∷ i ∷ []) h =
    let a_is : a < 256 = h 0 0 (omega arith) in
    let b_is : b < 256 = h 1 0 (omega arith) in
    let c_is : c < 256 = h 2 0 (omega arith) in
    let d_is : d < 256 = h 3 0 (omega arith) in
    let e_is : e < 256 = h 4 0 (omega arith) in
    let f_is : f < 256 = h 5 0 (omega arith) in
    let g_is : g < 256 = h 6 0 (omega arith) in
    let i_is : i < 256 = h 7 0 (omega arith) in
    signed_quad (from_le_bytes w64 (a ∷ b ∷ c ∷ d ∷ e ∷ f ∷ g ∷ i ∷ [])) (omega arith)
signed_is_long (a ∷ b ∷ c ∷ d ∷ e ∷ f ∷ g ∷ i ∷ j ∷ rest) h = omega arith

-- ---- operands

distance_fits : (next : ℕ) (d : ℤ) → is_quad_number (at_distance next d) ≡ true
distance_fits next d = lt-ltb (at_distance next d) (2 ^ 64) (omega arith)

abbrev FitsRm : Rm → Type 0
FitsRm (rm.Reg c) = Unit {0}
FitsRm (rm.Mem raw) = fits_immediate w.L raw.disp ≡ true

memory_fits : (fs : Bool) (next : ℕ) (raw : RawMem) → fits_immediate w.L raw.disp ≡ true → has_displacement (memory_at fs next raw) ≡ true
memory_fits true next raw h = refl
memory_fits false next raw h = elim (cases_Bool raw.rip) [
  | inl t ↦ rw t refl
  | inr u ↦ rw u h
]

memory_words : (fs : Bool) (next : ℕ) (raw : RawMem) → list_all is_quad_number (mem_references (memory_at fs next raw)) ≡ true
memory_words true next raw = refl
memory_words false next raw = elim (cases_Bool raw.rip) [
  | inl t ↦ rw t (and_from _ true (distance_fits next raw.disp) refl)
  | inr u ↦ rw u refl
]

abbrev Fit : Operand ℕ → Type 0
Fit x = (is_addressed x ≡ true) × (list_all is_quad_number (operand_references x) ≡ true)

register_fits : (s : Width) (rex : Option ℕ) (c : ℕ) → Fit (register_at s rex c)
register_fits w.B rex c = (refl, refl)
register_fits w.W rex c = (refl, refl)
register_fits w.L rex c = (refl, refl)
register_fits w.Q rex c = (refl, refl)

a_fits : (s : Width) → Fit (a_of s)
a_fits w.B = (refl, refl)
a_fits w.W = (refl, refl)
a_fits w.L = (refl, refl)
a_fits w.Q = (refl, refl)

e_fits : (s : Width) (p : Parts) (x : Rm) → FitsRm x → Fit (e_at s p x)
e_fits s p (rm.Reg c) h = register_fits s p.fields.rex c
e_fits s p (rm.Mem raw) h = (memory_fits p.fields.fs p.next raw h, memory_words p.fields.fs p.next raw)

place_fits : (p : Parts) (x : Rm) → FitsRm x → (has_displacement (place_at p x) ≡ true) × (list_all is_quad_number (mem_references (place_at p x)) ≡ true)
place_fits p (rm.Reg c) h = (refl, refl)
place_fits p (rm.Mem raw) h = (memory_fits p.fields.fs p.next raw h, memory_words p.fields.fs p.next raw)

-- ---- one name after another

-- the displacements and the number of an instruction, and its references
abbrev pub FieldsFit : Insn ℕ → Type 0
FieldsFit i = (fits_fields i ≡ true) × (list_all is_quad_number (references_of i) ≡ true)

module _ (p : Parts) (rm_fits : FitsRm p.rm) (long : IsLong p.imm) where
  e_is : (s : Width) → Fit (e_of s p)
  e_is s = e_fits s p p.rm rm_fits

  pair_is : (f : Form) (s : Width) → Fit (operands_of f s p).0 × Fit (operands_of f s p).1
  pair_is form.EG s = (e_is s, register_fits s p.fields.rex p.reg)
  pair_is form.GE s = (register_fits s p.fields.rex p.reg, e_is s)
  pair_is form.AI s = (a_fits s, (refl, refl))
  pair_is form.EI s = (e_is s, (refl, refl))
  pair_is form.OI s = (register_fits s p.fields.rex _, (refl, refl))
  pair_is form.OA s = (register_fits s p.fields.rex _, a_fits s)
  pair_is form.IA s = ((refl, refl), a_fits s)

  two : (a b : Operand ℕ) → Fit a → Fit b → ((is_addressed a && is_addressed b) ≡ true) × (list_all is_quad_number (operand_references a ++ operand_references b) ≡ true)
  two a b h k = (and_from _ _ h.0 k.0, list_all-append_true is_quad_number (operand_references a) (operand_references b) h.1 k.1)

  pair : (f : Form) → let a = (operands_of f p.w p).0 in let b = (operands_of f p.w p).1 in ((is_addressed a && is_addressed b) ≡ true) × (list_all is_quad_number (operand_references a ++ operand_references b) ≡ true)
  pair f = let h = pair_is f p.w in two (operands_of f p.w p).0 (operands_of f p.w p).1 h.0 h.1

  target : list_all is_quad_number (at_distance p.next p.imm ∷ []) ≡ true
  target = and_from _ true (distance_fits p.next p.imm) refl

  value_fits : (n : Name) (f : Form) → FieldsFit (value n f p)
  unfolding value
  value_fits name.AluByOpcode f = pair f
  value_fits name.AluByNumber f = pair f
  value_fits name.Test f = pair f
  value_fits name.Xchg f = pair f
  value_fits name.Mov f = pair f
  value_fits name.MovAbs f = (in_range 9223372036854775807 9223372036854775808 p.imm long, refl)
  value_fits name.Lea f = place_fits p p.rm rm_fits
  value_fits (name.MovZx from) f = e_is from
  value_fits (name.MovSx from) f = e_is from
  value_fits name.Push f = (pair_is f p.w).0
  value_fits name.Pop f = (pair_is f p.w).0
  value_fits name.Imul2 f = e_is p.w
  value_fits name.Imul3 f = e_is p.w
  value_fits name.One f = e_is p.w
  value_fits name.ShiftImm f = e_is p.w
  value_fits name.ShiftOne f = e_is p.w
  value_fits name.ShiftCl f = e_is p.w
  value_fits name.Widen f = (refl, refl)
  value_fits name.Spread f = (refl, refl)
  value_fits name.Movs f = (refl, refl)
  value_fits name.Stos f = (refl, refl)
  value_fits name.Cmov f = e_is p.w
  value_fits name.Setcc f = e_is p.w
  value_fits (name.Bit op) f = two (e_of p.w p) (g_of p.w p) (e_is p.w) (register_fits p.w p.fields.rex p.reg)
  value_fits name.BitByNumber f = two (e_of p.w p) (o.Imm (pos (p.byte % bits p.w))) (e_is p.w) (refl, refl)
  value_fits (name.Scan op) f = e_is p.w
  value_fits name.Bswap f = (refl, refl)
  value_fits name.Jcc f = (refl, target)
  value_fits name.Jmp f = (refl, target)
  value_fits name.Call f = (refl, target)
  value_fits name.JmpTo f = e_is p.w
  value_fits name.CallTo f = e_is p.w
  value_fits name.Ret f = (refl, refl)
  value_fits name.Leave f = (refl, refl)
  value_fits name.Syscall f = (refl, refl)
  value_fits (name.Plain x) f = (refl, refl)

-- ---- the parts of bytes

rm_is : (rex m : ℕ) (sib : Option ℕ) (disp : List ℕ) → length disp ≡ disp_len m sib → AreBytes disp → FitsRm (rm_of rex m sib disp)
rm_is rex m sib disp e h = elim (cases_Bool (high_two m == 3)) [
  | inl t ↦ rw t tt
  | inr u ↦ rw u (disp_fits m sib disp e h)
]

operand_fits : (b : Bool) (rex reg : ℕ) (operand : Rm) (text : List ℕ) → AreBytes text → IsOptional b rex reg operand text → FitsRm operand
operand_fits true rex reg operand text bytes h =
    let rest : AreBytes (sib_bytes h.sib ++ h.disp) = later_bytes (h.m ∷ []) (sib_bytes h.sib ++ h.disp) (subst (λ (t : List ℕ). AreBytes t) h.spelled bytes) in
    subst (λ (x : Rm). FitsRm x) (sym h.operand_is) (rm_is rex h.m h.sib h.disp h.disp_is (later_bytes (sib_bytes h.sib) h.disp rest))
operand_fits false rex reg operand text bytes h = subst (λ (x : Rm). FitsRm x) (sym h.2) tt

spelled_fits : (i : Insn ℕ) (address : ℕ) (bytes : List ℕ) → All (λ b. b < 256) bytes → Spells i address bytes → FieldsFit i
spelled_fits i address bytes all h =
    let r = h.row in
    let p = parts_of h.fields r h.reg h.operand h.imm ((address + length bytes) % 2 ^ 64) in
    let parts = later_bytes h.head (h.middle ++ h.imm) (subst (λ (t : List ℕ). AreBytes t) h.spelled all) in
    let imm_bytes = later_bytes h.middle h.imm parts in
    let operand = operand_fits (fits.has_modrm r.place) _ h.reg h.operand h.middle (front_bytes h.middle h.imm parts) h.operand_is in
    subst (λ x. FieldsFit x) (sym h.insn_is) (value_fits p operand (signed_is_long h.imm imm_bytes) r.name r.form)

-- what is decoded
pub decode_fits : (address : ℕ) (bytes : List ℕ) (d : Insn ℕ × ℕ) → decode_of address bytes ≡ Some d → AreBytes bytes → FieldsFit d.0
decode_fits address bytes d e h = spelled_fits d.0 address (take d.1 bytes) (All-take (λ b. b < 256) d.1 bytes h) (decode_takes address bytes d.0 d.1 e).1
