-- Widths, and what is known of an operand and a register that stand together.
use Rattle.std.proofs.Common.{◌≡◌, ℕ, ◌/◌, ◌%◌, Bool, true, false, ◌&&◌, ◌||◌, Option, Some, None, refl, eqb}
use Rattle.std.specs.Prelude.{not, ℤ}
use Rattle.std.proofs.lemmas.Bool.{and_parts, not-true}
use Rattle.std.proofs.Math.Bool.{and-false}
use Rattle.rw_base.specs.declared.width.Width.{Width}
use Rattle.rw_base.specs.declared.width.Width.TheVariants as w
use Rattle.x86_insn.specs.declared.operands.Mem.{Mem}
use Rattle.x86_insn.specs.declared.operands.Mem.TheVariants as m
use Rattle.x86_insn.specs.declared.operands.Operand.{Operand}
use Rattle.x86_insn.specs.declared.operands.Operand.TheVariants as o
use Rattle.x86_insn.specs.WellFormed.{is_canary as is_the_canary, is_register, is_place, is_high, is_wide, is_long, is_quad, go_together}
use Rattle.x86_decode.specs.declared.row.Size.{Size}
use Rattle.x86_decode.specs.declared.row.Size.TheVariants as size
use Rattle.x86_decode.specs.Fits.{rex_of, is_size, width_of}
use Rattle.x86_decode.specs.Canonical.{is_word, mem_site}
use Rattle.x86_decode.proofs.CanonicalOperands.{rex}
use Rattle.x86_decode.proofs.CanonicalParts.{fields_for}

-- ---- an instruction with an operand of ModRM

-- a row of this size gives the width s where 0x66 and REX.W stand so
abbrev pub IsSized : Size → Width → Bool → Bool → Type 0
IsSized size s word quad = (fs f3 ds : Bool) (rex : Option ℕ) (o at : ℕ) → eqb (rex_of rex / 8 % 2) 1 ≡ quad → (is_size size (fields_for word fs f3 ds rex o at) ≡ true) × (width_of size (fields_for word fs f3 ds rex o at) ≡ s)

pub sized_b : IsSized size.B w.B false false
sized_b fs f3 ds r o at e = (refl, refl)

pub sized_q : IsSized size.Q w.Q false false
sized_q fs f3 ds r o at e = (refl, refl)

pub sized_must : IsSized size.MustW w.Q false true
sized_must fs f3 ds rex o at e = (rw e refl, refl)

pub sized_v : (s : Width) → is_wide s ≡ true → IsSized size.V s (is_word s) (is_quad s)
sized_v w.B h fs f3 ds rex o at e = absurd cc
sized_v w.W h fs f3 ds rex o at e = (rw e refl, rw e refl)
sized_v w.L h fs f3 ds rex o at e = (refl, rw e refl)
sized_v w.Q h fs f3 ds rex o at e = (refl, rw e refl)

pub sized_lq : (s : Width) → is_long s ≡ true → IsSized size.Lq s false (is_quad s)
sized_lq w.B h fs f3 ds rex o at e = absurd cc
sized_lq w.W h fs f3 ds rex o at e = absurd cc
sized_lq w.L h fs f3 ds rex o at e = (refl, rw e refl)
sized_lq w.Q h fs f3 ds rex o at e = (refl, rw e refl)

pub no_register : (s : Width) (a : Mem ℕ) → is_register s (o.Mem a) ≡ false
no_register w.B a = refl
no_register _ a = refl

pub no_immediate : (s : Width) (v : ℤ) → is_register {R = ℕ} s (o.Imm v) ≡ false
no_immediate w.B v = refl
no_immediate w.W v = refl
no_immediate w.L v = refl
no_immediate w.Q v = refl

-- a high byte has the width B
pub narrow_of : (s : Width) (e : Operand ℕ) → is_place s e ≡ true → (is_high e && is_quad s) ≡ false
narrow_of w.B e h = and-false (is_high e)
narrow_of _ (o.Reg r) h = refl
narrow_of _ (o.Byte r) h = absurd cc
narrow_of _ (o.Mem a) h = refl
narrow_of _ (o.Imm v) h = refl

pub register_place : (s : Width) (e : Operand ℕ) → is_register s e ≡ true → is_place s e ≡ true
register_place s (o.Reg r) h = h
register_place s (o.Byte r) h = h
register_place w.B (o.Mem a) h = absurd cc
register_place _ (o.Mem a) h = absurd cc
register_place s (o.Imm v) h = h

pub register_no_memory : (s : Width) (g : Operand ℕ) → is_register s g ≡ true → (a : Mem ℕ) → g ≡ o.Mem a → ⊥
register_no_memory s g h a e = let bad : is_register s (o.Mem a) ≡ true = rw e at h in absurd (let none = no_register s a in cc)

pub together : (a b c d : Bool) → (not (a && b) && not (c && d)) ≡ true → ((a && b) ≡ false) × ((c && d) ≡ false)
together a b c d h = let p = and_parts (not (a && b)) (not (c && d)) h in (not-true (a && b) p.0, not-true (c && d) p.1)

pub and_or : (a b c : Bool) → (a && (b || c)) ≡ false → ((a && b) ≡ false) × ((a && c) ≡ false)
and_or false b c h = (refl, refl)
and_or true true c h = absurd cc
and_or true false true h = absurd cc
and_or true false false h = (refl, refl)

pub mem_fs : (d : ℤ) (a : Mem ℕ) → is_the_canary a ≡ false → (mem_site d a).fs ≡ false
mem_fs d (m.At None None v) h = refl
mem_fs d (m.At None (Some p) v) h = refl
mem_fs d (m.At (Some b) None v) h = refl
mem_fs d (m.At (Some b) (Some p) v) h = refl
mem_fs d (m.Rel r) h = refl
mem_fs d m.Canary h = absurd cc

pub wide_low : (s : Width) (g : Operand ℕ) → is_wide s ≡ true → is_register s g ≡ true → is_high g ≡ false
wide_low w.B g wide_s h = absurd cc
wide_low _ (o.Reg r) wide_s h = refl
wide_low _ (o.Byte r) wide_s h = absurd cc
wide_low _ (o.Mem a) wide_s h = refl
wide_low _ (o.Imm v) wide_s h = refl

pub both_wide : (s : Width) (e g : Operand ℕ) → is_wide s ≡ true → is_register s e ≡ true → is_register s g ≡ true → go_together e g ≡ true
both_wide s e g wide_s he hg = rw (wide_low s e wide_s he, wide_low s g wide_s hg) refl
