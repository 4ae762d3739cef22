-- What bytes spell is a well formed instruction: each row's name goes with its form, size, place and immediate.
use Rattle.std.proofs.Common.{◌≡◌, ℕ, ◌+◌, ◌/◌, ◌%◌, ◌^◌, ◌<◌, ◌≤◌, Bool, true, false, ◌&&◌, ◌||◌, inl, inr, List, ◌∷◌, ◌++◌, length, take, Option, Some, None, refl, sym, ap, subst, ◌∙◌, arith}
use Rattle.std.specs.Prelude.{not, ◌==◌, int_lt, pos, IfSome, IsTrue}
use Rattle.std.specs.List.{All, list_all}
use Rattle.std.proofs.lemmas.Bool.{and_parts, and_from, or_left, or_right, cases_Bool, lt-ltb, le-ltb, not-true, agree_below_at}
use Rattle.std.proofs.Math.Seq.{take-append_seam}
use Rattle.std.proofs.lemmas.List.Elements.{All-take, All-drop}
use Rattle.x86_insn.specs.declared.kinds.Reg.{Reg}
use Rattle.x86_insn.specs.declared.kinds.Count.TheVariants as count
use Rattle.x86_insn.specs.declared.operands.Operand.{Operand}
use Rattle.x86_insn.specs.declared.operands.Operand.TheVariants as o
use Rattle.x86_insn.specs.declared.instruction.Insn.{Insn}
use Rattle.rw_base.specs.declared.width.Width.{Width}
use Rattle.rw_base.specs.declared.width.Width.TheVariants as w
use Rattle.x86_insn.specs.WellFormed.{is_extended, is_register, is_place, is_immediate, is_high, go_together, fits_immediate, are_operands, is_wide, is_long, is_quad, extends, widens, is_count, is_bit_index, is_scale, is_instruction}
use Rattle.x86_bytes.specs.declared.parts.Fields.{Fields}
use Rattle.x86_bytes.specs.declared.parts.Rm.{Rm}
use Rattle.x86_bytes.specs.Operand.{high_two, middle_three, low_three, rex_r, rex_x, rex_b, base_bits, no_base, base_of, index_of, rm_of, sib_bytes}
use Rattle.x86_decode.specs.declared.row.Row.{Row}
use Rattle.x86_decode.specs.declared.row.Parts.{Parts}
use Rattle.x86_decode.specs.declared.row.Place.{Place}
use Rattle.x86_decode.specs.declared.row.Place.TheVariants as place
use Rattle.x86_decode.specs.declared.row.Size.{Size}
use Rattle.x86_decode.specs.declared.row.Size.TheVariants as size
use Rattle.x86_decode.specs.declared.row.Imm.{Imm}
use Rattle.x86_decode.specs.declared.row.Form.{Form}
use Rattle.x86_decode.specs.declared.row.Form.TheVariants as form
use Rattle.x86_decode.specs.declared.row.Name.{Name}
use Rattle.x86_decode.specs.declared.row.Name.TheVariants as name
use Rattle.x86_decode.specs.Rows.{rows}
use Rattle.x86_decode.specs.Fits as fits
use Rattle.x86_decode.specs.Fits.{rex_of, rex_w, is_memory, width_of}
use Rattle.x86_decode.specs.Value.{bits, register_of, register_at, e_of, g_of, o_code, o_of, a_of, i_of, operands_of, count_of, value}
use Rattle.x86_decode.specs.Spelling.{parts_of, IsOptional, Spells}
use Rattle.x86_decode.specs.Reading.{decode_of}
use Rattle.x86_decode.proofs.SpellingLaws.{decode_takes}
use Rattle.x86_decode.proofs.TableLaws.{all_at, is_row}
use Rattle.x86_decode.proofs.OperandGood.{AreBytes, IsBase, IsIndexPart, short_fits, pushed_fits, IsCode, IsRm, goes, together, register_is, register_place, register_goes, a_is, a_place, a_goes, i_goes, e_place, e_goes, e_register, address_of_memory, no_canary_at, low_code, is_short, is_pushed}
use Rattle.x86_bytes.proofs.HeadLaws.{drop_seam}

-- ---- what a row's parts have in common

abbrev is_wide_size : Size → Bool
is_wide_size size.B = false
is_wide_size _ = true

abbrev is_quad_size : Size → Bool
is_quad_size size.Q = true
is_quad_size size.Bare = true
is_quad_size size.MustW = true
is_quad_size _ = false

-- the sizes of which Q needs a REX byte
abbrev is_rex_size : Size → Bool
is_rex_size size.V = true
is_rex_size size.Lq = true
is_rex_size _ = false

abbrev is_long_size : Size → Bool
is_long_size size.Lq = true
is_long_size _ = false

abbrev is_byte_size : Size → Bool
is_byte_size size.B = true
is_byte_size _ = false

abbrev is_quad_with_rex : Size → Bool
is_quad_with_rex size.MustW = true
is_quad_with_rex _ = false

-- two operands of one width
abbrev is_pair : Form → Imm → Bool
is_pair form.EG m = true
is_pair form.GE m = true
is_pair form.OA m = true
is_pair form.AI m = is_short m
is_pair form.EI m = is_short m
is_pair form.OI m = is_short m
is_pair form.IA m = false

abbrev is_tested : Form → Imm → Bool
is_tested form.EG m = true
is_tested form.AI m = is_short m
is_tested form.EI m = is_short m
is_tested _ m = false

abbrev is_exchanged : Form → Bool
is_exchanged form.EG = true
is_exchanged form.OA = true
is_exchanged _ = false

abbrev is_pushed_form : Form → Imm → Bool
is_pushed_form form.EG m = true
is_pushed_form form.OA m = true
is_pushed_form form.IA m = is_pushed m
is_pushed_form _ m = false

abbrev is_memory_place : Place → Bool
is_memory_place place.Address = true
is_memory_place _ = false

abbrev is_register_place : Place → Bool
is_register_place place.Register = true
is_register_place _ = false

-- whether a name goes with a form, a size, a place and an immediate
abbrev is_sane : Name → Form → Size → Place → Imm → Bool
is_sane name.AluByOpcode f s p m = is_pair f m
is_sane name.AluByNumber f s p m = is_pair f m
is_sane name.Mov f s p m = is_pair f m
is_sane name.Test f s p m = is_tested f m
is_sane name.Xchg f s p m = is_exchanged f
is_sane name.Lea f s p m = is_wide_size s && is_memory_place p
is_sane (name.MovZx w.B) f s p m = is_rex_size s
is_sane (name.MovZx w.W) f s p m = is_long_size s
is_sane (name.MovZx _) f s p m = false
is_sane (name.MovSx w.B) f s p m = is_rex_size s
is_sane (name.MovSx w.W) f s p m = is_long_size s
is_sane (name.MovSx w.L) f s p m = is_quad_with_rex s
is_sane (name.MovSx w.Q) f s p m = false
is_sane name.Push f s p m = is_quad_size s && is_pushed_form f m
is_sane name.Pop f s p m = is_quad_size s && is_exchanged f
is_sane name.Imul2 f s p m = is_wide_size s
is_sane name.Imul3 f s p m = is_wide_size s && is_short m
is_sane name.Cmov f s p m = is_wide_size s
is_sane name.Setcc f s p m = is_byte_size s
is_sane (name.Bit op) f s p m = is_wide_size s && is_register_place p
is_sane name.BitByNumber f s p m = is_wide_size s
is_sane (name.Scan op) f s p m = is_wide_size s
is_sane name.Bswap f s p m = is_long_size s
is_sane name.JmpTo f s p m = is_quad_size s
is_sane name.CallTo f s p m = is_quad_size s
is_sane _ f s p m = true

abbrev is_sane_row : Row → Bool
is_sane_row r = is_sane r.name r.form r.size r.place r.imm

pub rows_sane : list_all is_sane_row rows ≡ true
rows_sane = refl

-- ---- widths

wide_of : (s : Size) (f : Fields) → is_wide_size s ≡ true → is_wide (width_of s f) ≡ true
wide_of size.B f h = absurd cc
wide_of size.V f h = elim (cases_Bool (rex_w f)) [
  | inl t ↦ rw t refl
  | inr u ↦ elim (cases_Bool (f.count66 == 1)) [
    | inl t ↦ rw (u, t) refl
    | inr v ↦ rw (u, v) refl
  ]
]
wide_of size.Lq f h = elim (cases_Bool (rex_w f)) [
  | inl t ↦ rw t refl
  | inr u ↦ rw u refl
]
wide_of size.Wl f h = elim (cases_Bool (f.count66 == 1)) [
  | inl t ↦ rw t refl
  | inr u ↦ rw u refl
]
wide_of _ f h = refl

long_of : (s : Size) (f : Fields) → is_long_size s ≡ true → is_long (width_of s f) ≡ true
long_of size.Lq f h = elim (cases_Bool (rex_w f)) [
  | inl t ↦ rw t refl
  | inr u ↦ rw u refl
]
long_of _ f h = absurd cc

quad_of : (s : Size) (f : Fields) → is_quad_size s ≡ true → width_of s f ≡ w.Q
quad_of size.Q f h = refl
quad_of size.Bare f h = refl
quad_of size.MustW f h = refl
quad_of _ f h = absurd cc

quad_with_rex : (s : Size) (f : Fields) → is_quad_with_rex s ≡ true → width_of s f ≡ w.Q
quad_with_rex size.MustW f h = refl
quad_with_rex _ f h = absurd cc

byte_of_size : (s : Size) (f : Fields) → is_byte_size s ≡ true → width_of s f ≡ w.B
byte_of_size size.B f h = refl
byte_of_size _ f h = absurd cc

rex_size_is_wide : (s : Size) → is_rex_size s ≡ true → is_wide_size s ≡ true
rex_size_is_wide size.V h = refl
rex_size_is_wide size.Lq h = refl
rex_size_is_wide _ h = absurd cc

long_size_is_rex : (s : Size) → is_long_size s ≡ true → is_rex_size s ≡ true
long_size_is_rex size.Lq h = refl
long_size_is_rex _ h = absurd cc

-- without a REX byte such a size isn't Q
not_quad : (s : Size) (f : Fields) → is_rex_size s ≡ true → rex_w f ≡ false → is_quad (width_of s f) ≡ false
not_quad size.V f h u = elim (cases_Bool (f.count66 == 1)) [
  | inl t ↦ rw (u, t) refl
  | inr v ↦ rw (u, v) refl
]
not_quad size.Lq f h u = rw u refl
not_quad _ f h u = absurd cc

abbrev IsNarrow : Option ℕ → Width → Reg → Type 0
IsNarrow None s to = (is_quad s ≡ false) × (is_extended to ≡ false)
IsNarrow (Some r) s to = Unit {0}

narrow : (s : Size) (f : Fields) (reg : ℕ) (rex : Option ℕ) → f.rex ≡ rex → is_rex_size s ≡ true → IsCode rex reg → IsNarrow rex (width_of s f) (register_of reg)
narrow s f reg (Some r) e h c = tt
narrow s f reg None e h c = (not_quad s f h (ap (λ (x : Option ℕ). rex_of x / 8 % 2 == 1) e), low_code reg c)

and_no : (b : Bool) → not (b && false) ≡ true
and_no true = refl
and_no false = refl

widens_is : (from : Width) (rex : Option ℕ) (s : Width) (to : Reg) (x : Operand ℕ) → is_place from x ≡ true → goes rex x ≡ true → IsNarrow rex s to → widens from s to x ≡ true
widens_is from None s to x p g n = rw (p, n.0, n.1) (and_no (is_high x))
widens_is from (Some r) s to x p g n = rw (p, not-true (is_high x) g) refl

-- ---- pairs of operands

second : (a b c : Bool) → b ≡ true → (a || b || c) ≡ true
second true b c e = refl
second false true c e = refl
second false false c e = absurd cc

third : (a b c : Bool) → c ≡ true → (a || b || c) ≡ true
third true b c e = refl
third false true c e = refl
third false false true e = refl
third false false false e = absurd cc

place_and_register : (s : Width) (to from : Operand ℕ) → is_place s to ≡ true → is_register s from ≡ true → go_together to from ≡ true → are_operands s to from ≡ true
place_and_register s to from p r g = rw (p, r, g) refl

register_and_place : (s : Width) (to from : Operand ℕ) → is_register s to ≡ true → is_place s from ≡ true → go_together to from ≡ true → are_operands s to from ≡ true
register_and_place s to from r p g = and_from _ _ (second (is_place s to && is_register s from) (is_register s to && is_place s from) (is_place s to && is_immediate s from) (and_from _ _ r p)) g

place_and_immediate : (s : Width) (to from : Operand ℕ) → is_place s to ≡ true → is_immediate s from ≡ true → go_together to from ≡ true → are_operands s to from ≡ true
place_and_immediate s to from p i g = and_from _ _ (third (is_place s to && is_register s from) (is_register s to && is_place s from) (is_place s to && is_immediate s from) (and_from _ _ p i)) g

-- ---- counts and bits

count_is : (s : Width) (b : ℕ) → is_count s (count.Imm (count_of s b)) ≡ true
count_is w.B b = lt-ltb (b % 32) 32 (omega arith)
count_is w.W b = lt-ltb (b % 32) 32 (omega arith)
count_is w.L b = lt-ltb (b % 32) 32 (omega arith)
count_is w.Q b = lt-ltb (b % 64) 64 (omega arith)

one_is : (s : Width) → is_count s (count.Imm 1) ≡ true
one_is w.Q = refl
one_is _ = refl

bit_in : (n b : ℕ) → b < n → (not (int_lt (pos b) (pos 0)) && int_lt (pos b) (pos n)) ≡ true
bit_in n b h = let z : 0 ≤ b = omega arith in rw (le-ltb b 0 z, lt-ltb b n h) refl

bit_number : (s : Width) (at : Operand ℕ) (b : ℕ) → is_wide s ≡ true → is_bit_index s at (o.Imm (pos (b % bits s))) ≡ true
bit_number w.B at b h = absurd cc
bit_number w.W at b h = bit_in 16 (b % 16) (omega arith)
bit_number w.L at b h = bit_in 32 (b % 32) (omega arith)
bit_number w.Q at b h = bit_in 64 (b % 64) (omega arith)

bit_register : (s : Width) (at : Operand ℕ) (rex : Option ℕ) (c : ℕ) → is_wide s ≡ true → is_register s at ≡ true → is_bit_index s at (register_at s rex c) ≡ true
bit_register w.B at rex c h r = absurd cc
bit_register w.W at rex c h r = rw r refl
bit_register w.L at rex c h r = rw r refl
bit_register w.Q at rex c h r = rw r refl

-- ---- one name after another

record Facts (s : Size) (at : Place) (m : Imm) (p : Parts) : Type 0 where
  pub width : p.w ≡ width_of s p.fields
  pub operand : IsRm p.fields.rex p.rm
  pub reg : IsCode p.fields.rex p.reg
  pub code : IsCode p.fields.rex (o_code p)
  pub short : is_short m ≡ true → fits_immediate p.w p.imm ≡ true
  pub pushed : is_pushed m ≡ true → fits_immediate w.Q p.imm ≡ true
  pub place_is : fits.is_place at p.rm p.fields.fs ≡ true

module _ (s : Size) (at : Place) (m : Imm) (p : Parts) (h : Facts s at m p) where
  rex : Option ℕ
  rex = p.fields.rex

  e_is : (from : Width) → is_place from (e_of from p) ≡ true
  e_is from = e_place from p p.rm h.operand

  wide : is_wide_size s ≡ true → is_wide p.w ≡ true
  wide t = rw h.width (wide_of s p.fields t)

  quad : is_quad_size s ≡ true → p.w ≡ w.Q
  quad t = h.width ∙ quad_of s p.fields t

  pair : (f : Form) → is_pair f m ≡ true → are_operands p.w (operands_of f p.w p).0 (operands_of f p.w p).1 ≡ true
  pair form.EG t = place_and_register p.w (e_of p.w p) (g_of p.w p) (e_is p.w) (register_is p.w p.fields.rex p.reg) (together p.fields.rex (e_of p.w p) (g_of p.w p) (e_goes p.w p p.rm h.operand) (register_goes p.w p.fields.rex p.reg h.reg))
  pair form.GE t = register_and_place p.w (g_of p.w p) (e_of p.w p) (register_is p.w p.fields.rex p.reg) (e_is p.w) (together p.fields.rex (g_of p.w p) (e_of p.w p) (register_goes p.w p.fields.rex p.reg h.reg) (e_goes p.w p p.rm h.operand))
  pair form.OA t = place_and_register p.w (o_of p.w p) (a_of p.w) (register_place p.w p.fields.rex (o_code p)) (a_is p.w) (together p.fields.rex (o_of p.w p) (a_of p.w) (register_goes p.w p.fields.rex (o_code p) h.code) (a_goes p.w p.fields.rex))
  pair form.AI t = place_and_immediate p.w (a_of p.w) (i_of p) (a_place p.w) (h.short t) (together p.fields.rex (a_of p.w) (i_of p) (a_goes p.w p.fields.rex) (i_goes p.fields.rex p.imm))
  pair form.EI t = place_and_immediate p.w (e_of p.w p) (i_of p) (e_is p.w) (h.short t) (together p.fields.rex (e_of p.w p) (i_of p) (e_goes p.w p p.rm h.operand) (i_goes p.fields.rex p.imm))
  pair form.OI t = place_and_immediate p.w (o_of p.w p) (i_of p) (register_place p.w p.fields.rex (o_code p)) (h.short t) (together p.fields.rex (o_of p.w p) (i_of p) (register_goes p.w p.fields.rex (o_code p) h.code) (i_goes p.fields.rex p.imm))
  pair form.IA t = absurd cc

  tested : (f : Form) → is_tested f m ≡ true → is_instruction (value name.Test f p) ≡ true
  unfolding value
  tested form.EG t = and_from _ _ (and_from _ _ (e_is p.w) (or_left _ _ (register_is p.w p.fields.rex p.reg))) (together p.fields.rex (e_of p.w p) (g_of p.w p) (e_goes p.w p p.rm h.operand) (register_goes p.w p.fields.rex p.reg h.reg))
  tested form.AI t = and_from _ _ (and_from _ _ (a_place p.w) (or_right _ _ (h.short t))) (together p.fields.rex (a_of p.w) (i_of p) (a_goes p.w p.fields.rex) (i_goes p.fields.rex p.imm))
  tested form.EI t = and_from _ _ (and_from _ _ (e_is p.w) (or_right _ _ (h.short t))) (together p.fields.rex (e_of p.w p) (i_of p) (e_goes p.w p p.rm h.operand) (i_goes p.fields.rex p.imm))
  tested _ t = absurd cc

  exchanged : (f : Form) → is_exchanged f ≡ true → is_instruction (value name.Xchg f p) ≡ true
  unfolding value
  exchanged form.EG t = and_from _ _ (and_from _ _ (e_is p.w) (register_is p.w p.fields.rex p.reg)) (together p.fields.rex (e_of p.w p) (g_of p.w p) (e_goes p.w p p.rm h.operand) (register_goes p.w p.fields.rex p.reg h.reg))
  exchanged form.OA t = and_from _ _ (and_from _ _ (register_place p.w p.fields.rex (o_code p)) (a_is p.w)) (together p.fields.rex (o_of p.w p) (a_of p.w) (register_goes p.w p.fields.rex (o_code p) h.code) (a_goes p.w p.fields.rex))
  exchanged _ t = absurd cc

  pushed_form : (f : Form) → is_quad_size s ≡ true → is_pushed_form f m ≡ true → is_instruction (value name.Push f p) ≡ true
  unfolding value
  pushed_form form.EG q t = rw (quad q) (or_left _ _ (e_is w.Q))
  pushed_form form.OA q t = rw (quad q) refl
  pushed_form form.IA q t = h.pushed t
  pushed_form _ q t = absurd cc

  popped : (f : Form) → is_quad_size s ≡ true → is_exchanged f ≡ true → is_instruction (value name.Pop f p) ≡ true
  unfolding value
  popped form.EG q t = rw (quad q) (e_is w.Q)
  popped form.OA q t = rw (quad q) refl
  popped _ q t = absurd cc

  extended : (from : Width) → is_rex_size s ≡ true → extends from p.w ≡ true → (extends from p.w && widens from p.w (register_of p.reg) (e_of from p)) ≡ true
  extended from t x = and_from _ _ x (widens_is from p.fields.rex p.w (register_of p.reg) (e_of from p) (e_is from) (e_goes from p p.rm h.operand) (rw h.width (narrow s p.fields p.reg p.fields.rex refl t h.reg)))

  from_byte : is_rex_size s ≡ true → (extends w.B p.w && widens w.B p.w (register_of p.reg) (e_of w.B p)) ≡ true
  from_byte t = extended w.B t (wide (rex_size_is_wide s t))

  from_word : is_long_size s ≡ true → (extends w.W p.w && widens w.W p.w (register_of p.reg) (e_of w.W p)) ≡ true
  from_word t = extended w.W (long_size_is_rex s t) (rw h.width (long_of s p.fields t))

  wide_and_place : is_wide_size s ≡ true → (is_wide p.w && is_place p.w (e_of p.w p)) ≡ true
  wide_and_place t = and_from _ _ (wide t) (e_is p.w)

  memory_place : (a : Place) → is_memory_place a ≡ true → fits.is_place a p.rm p.fields.fs ≡ true → (not p.fields.fs && is_memory p.rm) ≡ true
  memory_place place.Address t e = e
  memory_place _ t e = absurd cc

  register_place_of : (a : Place) → is_register_place a ≡ true → fits.is_place a p.rm p.fields.fs ≡ true → (not p.fields.fs && not (is_memory p.rm)) ≡ true
  register_place_of place.Register t e = e
  register_place_of _ t e = absurd cc

  sound : (n : Name) (f : Form) → is_sane n f s at m ≡ true → is_instruction (value n f p) ≡ true
  unfolding value
  sound name.AluByOpcode f t = pair f t
  sound name.AluByNumber f t = pair f t
  sound name.Test f t = tested f t
  sound name.Xchg f t = exchanged f t
  sound name.Mov f t = pair f t
  sound name.MovAbs f t = refl
  sound name.Lea f t =
      let c = and_parts (is_wide_size s) (is_memory_place at) t in
      let there = memory_place at c.1 h.place_is in
      rw (wide c.0, address_of_memory p p.rm h.operand, no_canary_at p p.rm there) refl
  sound (name.MovZx w.B) f t = from_byte t
  sound (name.MovZx w.W) f t = from_word t
  sound (name.MovZx w.L) f t = absurd cc
  sound (name.MovZx w.Q) f t = absurd cc
  sound (name.MovSx w.B) f t = from_byte t
  sound (name.MovSx w.W) f t = from_word t
  sound (name.MovSx w.L) f t = rw (h.width ∙ quad_with_rex s p.fields t) (e_is w.L)
  sound (name.MovSx w.Q) f t = absurd cc
  sound name.Push f t = let c = and_parts (is_quad_size s) (is_pushed_form f m) t in pushed_form f c.0 c.1
  sound name.Pop f t = let c = and_parts (is_quad_size s) (is_exchanged f) t in popped f c.0 c.1
  sound name.Imul2 f t = wide_and_place t
  sound name.Imul3 f t = let c = and_parts (is_wide_size s) (is_short m) t in and_from _ _ (wide_and_place c.0) (h.short c.1)
  sound name.One f t = e_is p.w
  sound name.ShiftImm f t = and_from _ _ (e_is p.w) (count_is p.w p.byte)
  sound name.ShiftOne f t = and_from _ _ (e_is p.w) (one_is p.w)
  sound name.ShiftCl f t = rw (e_is p.w) refl
  sound name.Widen f t = refl
  sound name.Spread f t = refl
  sound name.Movs f t = refl
  sound name.Stos f t = refl
  sound name.Cmov f t = wide_and_place t
  sound name.Setcc f t = rw (h.width ∙ byte_of_size s p.fields t) (e_is w.B)
  sound (name.Bit op) f t =
      let c = and_parts (is_wide_size s) (is_register_place at) t in
      let there = register_place_of at c.1 h.place_is in
      and_from _ _ (wide_and_place c.0) (bit_register p.w (e_of p.w p) p.fields.rex p.reg (wide c.0) (e_register p.w p p.rm there))
  sound name.BitByNumber f t = and_from _ _ (wide_and_place t) (bit_number p.w (e_of p.w p) p.byte (wide t))
  sound (name.Scan op) f t = wide_and_place t
  sound name.Bswap f t = rw h.width (long_of s p.fields t)
  sound name.Jcc f t = refl
  sound name.Jmp f t = refl
  sound name.Call f t = refl
  sound name.JmpTo f t = rw (quad t) (e_is w.Q)
  sound name.CallTo f t = rw (quad t) (e_is w.Q)
  sound name.Ret f t = refl
  sound name.Leave f t = refl
  sound name.Syscall f t = refl
  sound (name.Plain x) f t = refl

-- ---- the parts of bytes

pub front_bytes : (xs ys : List ℕ) → AreBytes (xs ++ ys) → AreBytes xs
front_bytes xs ys h = subst (λ (t : List ℕ). AreBytes t) (take-append_seam xs ys) (All-take (λ b. b < 256) (length xs) (xs ++ ys) h)

pub later_bytes : (xs ys : List ℕ) → AreBytes (xs ++ ys) → AreBytes ys
later_bytes xs ys h = subst (λ (t : List ℕ). AreBytes t) (drop_seam xs ys) (All-drop (λ b. b < 256) (length xs) (xs ++ ys) h)

code_b : (rex : Option ℕ) (c : ℕ) → c < 8 → IsCode rex (c + rex_b (rex_of rex))
code_b None c h = omega arith
code_b (Some r) c h = tt

code_x : (rex : Option ℕ) (c : ℕ) → c < 8 → IsCode rex (c + rex_x (rex_of rex))
code_x None c h = omega arith
code_x (Some r) c h = tt

code_r : (rex : Option ℕ) (c : ℕ) → c < 8 → IsCode rex (c + rex_r (rex_of rex))
code_r None c h = omega arith
code_r (Some r) c h = tt

code_zero : (rex : Option ℕ) → IsCode rex 0
code_zero None = omega arith
code_zero (Some r) = tt

base_bits_low : (m : ℕ) (sib : Option ℕ) → base_bits m sib < 8
base_bits_low m None = omega arith
base_bits_low m (Some s) = omega arith

base_good : (rex : Option ℕ) (m : ℕ) (sib : Option ℕ) → IsBase rex (base_of (rex_of rex) m sib)
base_good rex m sib = elim (cases_Bool (no_base m sib)) [
  | inl t ↦ rw t tt
  | inr u ↦ rw u (code_b rex (base_bits m sib) (base_bits_low m sib))
]

abbrev IsSib : Option ℕ → Type 0
IsSib None = Unit {0}
IsSib (Some s) = s < 256

scale_good : (s : ℕ) → s < 256 → is_scale (2 ^ high_two s) ≡ true
scale_good s h = agree_below_at (λ k. is_scale (2 ^ k)) (λ k. true) 4 (s / 64) refl (omega arith)

index_part : (rex : Option ℕ) (sib : Option ℕ) → IsSib sib → IsIndexPart rex (index_of (rex_of rex) sib)
index_part rex None h = tt
index_part rex (Some s) h = elim (cases_Bool (middle_three s + rex_x (rex_of rex) == 4)) [
  | inl t ↦ rw t tt
  | inr u ↦ rw u (code_x rex (middle_three s) (omega arith), u, scale_good s h)
]

rm_good : (rex : Option ℕ) (m : ℕ) (sib : Option ℕ) (disp : List ℕ) → IsSib sib → IsRm rex (rm_of (rex_of rex) m sib disp)
rm_good rex m sib disp h = elim (cases_Bool (high_two m == 3)) [
  | inl t ↦ rw t (code_b rex (low_three m) (omega arith))
  | inr u ↦ rw u (base_good rex m sib, index_part rex sib h)
]

sib_byte : (sib : Option ℕ) (m : ℕ) (disp : List ℕ) → AreBytes (m ∷ (sib_bytes sib ++ disp)) → IsSib sib
sib_byte None m disp h = tt
sib_byte (Some s) m disp h = h 1 0 (omega arith)

operand_good : (b : Bool) (rex : Option ℕ) (reg : ℕ) (operand : Rm) (text : List ℕ) → AreBytes text → IsOptional b (rex_of rex) reg operand text → IsCode rex reg × IsRm rex operand
operand_good true rex reg operand text bytes h =
    let sib = sib_byte h.sib h.m h.disp (subst (λ (t : List ℕ). AreBytes t) h.spelled bytes) in (
      subst (λ (c : ℕ). IsCode rex c) (sym h.reg_is) (code_r rex (middle_three h.m) (omega arith)),
      subst (λ (x : Rm). IsRm rex x) (sym h.operand_is) (rm_good rex h.m h.sib h.disp sib),
    )
operand_good false rex reg operand text bytes h = (
  subst (λ (c : ℕ). IsCode rex c) (sym h.1) (code_zero rex),
  subst (λ (x : Rm). IsRm rex x) (sym h.2) (code_zero rex),
)

pub spelled_good : (i : Insn ℕ) (address : ℕ) (bytes : List ℕ) → All (λ b. b < 256) bytes → Spells i address bytes → is_instruction i ≡ true
spelled_good i address bytes all h =
    let r = h.row in
    let p = parts_of h.fields r h.reg h.operand h.imm ((address + length bytes) % 2 ^ 64) in
    let parts = later_bytes h.head (h.middle ++ h.imm) (subst (λ (t : List ℕ). AreBytes t) h.spelled all) in
    let imm_bytes = later_bytes h.middle h.imm parts in
    let operand = operand_good (fits.has_modrm r.place) h.fields.rex h.reg h.operand h.middle (front_bytes h.middle h.imm parts) h.operand_is in
    let number = (and_parts (fits.is_in r.opcodes h.fields.opcode) _ h.fitting).1 in
    let there = (and_parts (fits.is_number r.numbers (h.reg % 8)) _ number).1 in
    let facts : Facts r.size r.place r.imm p = record {
      width = refl;
      operand = operand.1;
      reg = operand.0;
      code = code_b h.fields.rex (h.fields.opcode % 8) (omega arith);
      short = λ t. short_fits r.imm p.w h.imm h.imm_is imm_bytes t;
      pushed = λ t. pushed_fits r.imm p.w h.imm h.imm_is imm_bytes t;
      place_is = (and_parts (fits.is_place r.place h.operand h.fields.fs) _ there).0;
    } in
    ap is_instruction h.insn_is ∙ sound r.size r.place r.imm p facts r.name r.form (all_at is_sane_row rows r rows_sane (is_row rows r h.in_table))

-- ---- the clause of `decode_one`

pub decode_good : (address : ℕ) (bytes : List ℕ) (r : Option (Insn ℕ × ℕ)) → r ≡ decode_of address bytes → AreBytes bytes → IfSome r (λ r. IsTrue (is_instruction r.0))
decode_good address bytes None e h = tt
decode_good address bytes (Some r) e h = spelled_good r.0 address (take r.1 bytes) (All-take (λ b. b < 256) r.1 bytes h) (decode_takes address bytes r.0 r.1 (sym e)).1
