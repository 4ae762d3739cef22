-- The operand of ModRM in canonical spellings: its bytes are read back as the operand.
use Rattle.std.proofs.Common.{◌≡◌, ℕ, zero, suc, ◌+◌, ◌*◌, ◌/◌, ◌%◌, ◌^◌, ◌<◌, ◌≤◌, Bool, true, false, cond, ◌&&◌, ◌||◌, inl, inr, List, [], ◌∷◌, ◌++◌, length, Option, Some, None, refl, sym, ap, subst, ◌∙◌, arith, eqb, lit<, lit≤}
use Rattle.std.specs.Prelude.{nat_le, nat_lt, is_none, is_some, not, ℤ, pos, negsuc, IfSome}
use Rattle.std.specs.Int.{bytes_low_first, w8, w16, w32, w64, cast_signed, cast_unsigned}
use Rattle.std.specs.Int.RustNames.{FitsSigned}
use Rattle.std.proofs.lemmas.Int.{ints, to_z-of_z}
use Rattle.std.proofs.lemmas.Nat.{from_le_bytes-to_le_bytes_4}
use Rattle.std.proofs.lemmas.Bool.{and_parts, cases_Bool, eqb-true, ltb-true, not-true, not-false}
use Rattle.std.proofs.lemmas.List.{length-append}
use Rattle.rw_base.specs.declared.width.Width.{Width}
use Rattle.rw_base.specs.declared.width.Width.TheVariants as w
use Rattle.x86_insn.specs.declared.kinds.Reg.{Reg}
use Rattle.x86_insn.specs.declared.kinds.Reg.TheVariants.{Rax, Rcx, Rdx, Rbx, Rsp, Rbp, Rsi, Rdi, R8, R9, R10, R11, R12, R13, R14, R15}
use Rattle.x86_insn.specs.declared.kinds.Reg8.TheVariants.{Low, High}
use Rattle.x86_insn.specs.declared.operands.Mem.{Mem}
use Rattle.x86_insn.specs.declared.operands.Mem.TheVariants as m
use Rattle.x86_insn.specs.declared.operands.Operand.{Operand}
use Rattle.x86_insn.specs.declared.operands.Operand.TheVariants as o
use Rattle.x86_insn.specs.WellFormed.{code_of, is_extended, is_scale, is_index, is_address, is_register, is_high, needs_rex, fits_immediate}
use Rattle.x86_insn.specs.References.{mem_reference}
use Rattle.x86_bytes.specs.declared.parts.Rm.{Rm}
use Rattle.x86_bytes.specs.declared.parts.Rm.TheVariants as rm
use Rattle.x86_bytes.specs.declared.parts.RawMem.{RawMem}
use Rattle.std.specs.List.{AllByRecursion}
use Rattle.std.proofs.Math.Bool.{and-false, or-false, or_comm}
use Rattle.x86_bytes.specs.Operand.{high_two, middle_three, low_three, rex_r, rex_x, rex_b, disp_of, index_of, memory_of, rm_of, sib_bytes, IsOperand}
use Rattle.x86_decode.specs.Fits.{rex_of, is_canary, is_memory, fits}
use Rattle.x86_decode.specs.Value.{register_of, byte_of, register_at, e_at, place_at, index_at, memory_at, at_distance}
use Rattle.x86_decode.specs.Canonical.{imm_bytes, is_zero, bit, rex_for, sib_byte, one_byte, two_bytes, four_bytes, eight_bytes, Site, site, three, scale_bits, mode_of, disp_bytes, address_site, mem_site, number_of, extended_of, asks_rex, site_of, modrm_byte, operand_bytes, rex_of_pair, MemInRange}
use Rattle.x86_decode.specs.declared.row.Parts.{Parts}

-- ---- bytes

abbrev pub AreBytes : List ℕ → Type 0
AreBytes xs = AllByRecursion (λ b. b < 256) xs

pub bytes_append : (xs ys : List ℕ) → AreBytes xs → AreBytes ys → AreBytes (xs ++ ys)
bytes_append [] ys p q = q
bytes_append (x ∷ xs) ys p q = (p.0, bytes_append xs ys p.1 q)

pub low_first_are : (i k n : ℕ) → AreBytes (bytes_low_first i k n)
low_first_are i zero n = tt
low_first_are zero (suc k) n = (omega arith, low_first_are 1 k n)
low_first_are (suc i) (suc k) n = (omega arith, low_first_are (suc (suc i)) k n)

pub one_are : (v : ℤ) → AreBytes (one_byte v)
one_are v = low_first_are 0 1 (cast_unsigned w8 v)

pub two_are : (v : ℤ) → AreBytes (two_bytes v)
two_are v = low_first_are 0 2 (cast_unsigned w16 v)

pub four_are : (v : ℤ) → AreBytes (four_bytes v)
four_are v = low_first_are 0 4 (cast_unsigned w32 v)

pub eight_are : (v : ℤ) → AreBytes (eight_bytes v)
eight_are v = low_first_are 0 8 (cast_unsigned w64 v)

pub imm_are : (s : Width) (v : ℤ) → AreBytes (imm_bytes s v)
imm_are w.B v = one_are v
imm_are w.W v = two_are v
imm_are w.L v = four_are v
imm_are w.Q v = four_are v

-- ---- the bits of a byte

pub sib_small : (s i b : ℕ) → s < 4 → i < 8 → b < 8 → sib_byte s i b < 256
sib_small s i b p q r = omega arith

pub high_is : (s i b : ℕ) → i < 8 → b < 8 → high_two (sib_byte s i b) ≡ s
high_is s i b p q = omega arith

pub middle_is : (s i b : ℕ) → i < 8 → b < 8 → middle_three (sib_byte s i b) ≡ i
middle_is s i b p q = omega arith

pub low_is : (s i b : ℕ) → i < 8 → b < 8 → low_three (sib_byte s i b) ≡ b
low_is s i b p q = omega arith

pub record RexBits (byte w r x b : Bool) : Type 0 where
  pub w_is : eqb (rex_of (rex_for byte w r x b) / 8 % 2) 1 ≡ w
  pub r_is : rex_r (rex_of (rex_for byte w r x b)) ≡ bit r * 8
  pub x_is : rex_x (rex_of (rex_for byte w r x b)) ≡ bit x * 8
  pub b_is : rex_b (rex_of (rex_for byte w r x b)) ≡ bit b * 8

pub rex_bits : (byte w r x b : Bool) → RexBits byte w r x b
rex_bits true true true true true = record { w_is = refl; r_is = refl; x_is = refl; b_is = refl }
rex_bits true true true true false = record { w_is = refl; r_is = refl; x_is = refl; b_is = refl }
rex_bits true true true false true = record { w_is = refl; r_is = refl; x_is = refl; b_is = refl }
rex_bits true true true false false = record { w_is = refl; r_is = refl; x_is = refl; b_is = refl }
rex_bits true true false true true = record { w_is = refl; r_is = refl; x_is = refl; b_is = refl }
rex_bits true true false true false = record { w_is = refl; r_is = refl; x_is = refl; b_is = refl }
rex_bits true true false false true = record { w_is = refl; r_is = refl; x_is = refl; b_is = refl }
rex_bits true true false false false = record { w_is = refl; r_is = refl; x_is = refl; b_is = refl }
rex_bits true false true true true = record { w_is = refl; r_is = refl; x_is = refl; b_is = refl }
rex_bits true false true true false = record { w_is = refl; r_is = refl; x_is = refl; b_is = refl }
rex_bits true false true false true = record { w_is = refl; r_is = refl; x_is = refl; b_is = refl }
rex_bits true false true false false = record { w_is = refl; r_is = refl; x_is = refl; b_is = refl }
rex_bits true false false true true = record { w_is = refl; r_is = refl; x_is = refl; b_is = refl }
rex_bits true false false true false = record { w_is = refl; r_is = refl; x_is = refl; b_is = refl }
rex_bits true false false false true = record { w_is = refl; r_is = refl; x_is = refl; b_is = refl }
rex_bits true false false false false = record { w_is = refl; r_is = refl; x_is = refl; b_is = refl }
rex_bits false true true true true = record { w_is = refl; r_is = refl; x_is = refl; b_is = refl }
rex_bits false true true true false = record { w_is = refl; r_is = refl; x_is = refl; b_is = refl }
rex_bits false true true false true = record { w_is = refl; r_is = refl; x_is = refl; b_is = refl }
rex_bits false true true false false = record { w_is = refl; r_is = refl; x_is = refl; b_is = refl }
rex_bits false true false true true = record { w_is = refl; r_is = refl; x_is = refl; b_is = refl }
rex_bits false true false true false = record { w_is = refl; r_is = refl; x_is = refl; b_is = refl }
rex_bits false true false false true = record { w_is = refl; r_is = refl; x_is = refl; b_is = refl }
rex_bits false true false false false = record { w_is = refl; r_is = refl; x_is = refl; b_is = refl }
rex_bits false false true true true = record { w_is = refl; r_is = refl; x_is = refl; b_is = refl }
rex_bits false false true true false = record { w_is = refl; r_is = refl; x_is = refl; b_is = refl }
rex_bits false false true false true = record { w_is = refl; r_is = refl; x_is = refl; b_is = refl }
rex_bits false false true false false = record { w_is = refl; r_is = refl; x_is = refl; b_is = refl }
rex_bits false false false true true = record { w_is = refl; r_is = refl; x_is = refl; b_is = refl }
rex_bits false false false true false = record { w_is = refl; r_is = refl; x_is = refl; b_is = refl }
rex_bits false false false false true = record { w_is = refl; r_is = refl; x_is = refl; b_is = refl }
rex_bits false false false false false = record { w_is = refl; r_is = refl; x_is = refl; b_is = refl }

-- ---- registers

pub three_small : (r : Reg) → three r < 8
three_small r = omega arith

pub register_back : (r : Reg) → register_of (three r + bit (is_extended r) * 8) ≡ r
register_back Rax = refl
register_back Rcx = refl
register_back Rdx = refl
register_back Rbx = refl
register_back Rsp = refl
register_back Rbp = refl
register_back Rsi = refl
register_back Rdi = refl
register_back R8 = refl
register_back R9 = refl
register_back R10 = refl
register_back R11 = refl
register_back R12 = refl
register_back R13 = refl
register_back R14 = refl
register_back R15 = refl

pub index_code : (r : Reg) (s : ℕ) → is_index (Some (r, s)) ≡ true → eqb (three r + bit (is_extended r) * 8) 4 ≡ false
index_code Rsp s h = absurd cc
index_code _ s h = refl

pub scale_small : (s : ℕ) → scale_bits s < 4
scale_small s = elim (cases_Bool (eqb s 1)) [
  | inl a ↦ rw a (omega arith)
  | inr a ↦ elim (cases_Bool (eqb s 2)) [
    | inl b ↦ rw (a, b) (omega arith)
    | inr b ↦ elim (cases_Bool (eqb s 4)) [
      | inl c ↦ rw (a, b, c) (omega arith)
      | inr c ↦ rw (a, b, c) (omega arith)
    ]
  ]
]

pub index_scale : (r : Reg) (s : ℕ) → is_index (Some (r, s)) ≡ true → is_scale s ≡ true
index_scale Rsp s h = absurd cc
index_scale _ s h = h

pub scale_power : (s : ℕ) → is_scale s ≡ true → 2 ^ scale_bits s ≡ s
scale_power s h = elim (cases_Bool (eqb s 1)) [
  | inl a ↦ rw (eqb-true s 1 a) refl
  | inr a ↦ elim (cases_Bool (eqb s 2)) [
    | inl b ↦ rw (eqb-true s 2 b) refl
    | inr b ↦ elim (cases_Bool (eqb s 4)) [
      | inl c ↦ rw (eqb-true s 4 c) refl
      | inr c ↦ rw (eqb-true s 8 (rw (a, b, c) at h)) refl
    ]
  ]
]

pub scale_back : (r : Reg) (s : ℕ) → is_index (Some (r, s)) ≡ true → 2 ^ scale_bits s ≡ s
scale_back r s h = scale_power s (index_scale r s h)

-- ---- numbers

pub disp_4 : (d : ℤ) → FitsSigned w32 d → disp_of (four_bytes d) ≡ d
disp_4 d f =
    let small : cast_unsigned w32 d < 2 ^ 32 = omega (arith, ints) in
    ap (cast_signed w32) (from_le_bytes-to_le_bytes_4 (cast_unsigned w32 d) small) ∙ to_z-of_z w32 d f

pub fits_8 : (d : ℤ) → fits_immediate w.B d ≡ true → FitsSigned w8 d
fits_8 (pos n) h = record { sfits = grind arith }
fits_8 (negsuc n) h = record { sfits = grind arith }

pub disp_1 : (d : ℤ) → fits_immediate w.B d ≡ true → disp_of (one_byte d) ≡ d
disp_1 d h = grind (arith, ints, to_z-of_z, fits_8)

-- ---- addresses

-- the index and the base that a SIB byte names
pub index_back : (rex s : ℕ) (r : Reg) (b : ℕ) → is_index (Some (r, s)) ≡ true → b < 8 → rex_x rex ≡ bit (is_extended r) * 8 → index_at (index_of rex (Some (sib_byte (scale_bits s) (three r) b))) ≡ Some (r, s)
index_back rex s r b h small x =
    rw (high_is (scale_bits s) (three r) b (three_small r) small, middle_is (scale_bits s) (three r) b (three_small r) small, x, index_code r s h, register_back r, scale_back r s h) refl

module _ (rex next n mode : ℕ) (d : ℤ) (disp : List ℕ) (n_small : n < 8) (is_memory : eqb mode 3 ≡ false) (disp_is : disp_of disp ≡ d) where
  -- a base alone, without a SIB byte
  pub base_only : (b : Reg) → (eqb mode 0 && eqb (three b) 5) ≡ false → rex_b rex ≡ bit (is_extended b) * 8 → memory_at false next (memory_of rex (sib_byte mode n (three b)) None disp) ≡ m.At (Some b) None d
  base_only b based e =
      rw (high_is mode n (three b) n_small (three_small b), low_is mode n (three b) n_small (three_small b), based, e, register_back b, disp_is) refl

  -- a base alone, with a SIB byte
  pub base_sib_only : (b : Reg) → three b ≡ 4 → rex_x rex ≡ 0 → rex_b rex ≡ bit (is_extended b) * 8 → memory_at false next (memory_of rex (sib_byte mode n 4) (Some 0x24) disp) ≡ m.At (Some b) None d
  base_sib_only b four x e =
      let back : register_of (4 + bit (is_extended b) * 8) ≡ b = rw (← four) (register_back b) in
      let none : (eqb mode 0 && false) ≡ false = elim (cases_Bool (eqb mode 0)) [ inl a ↦ rw a refl | inr a ↦ rw a refl ] in
      rw (high_is mode n 4 n_small (lit< tt), none, x, e, back, disp_is) refl

  pub base_and_index : (b r : Reg) (s : ℕ) → is_index (Some (r, s)) ≡ true → (eqb mode 0 && eqb (three b) 5) ≡ false → rex_x rex ≡ bit (is_extended r) * 8 → rex_b rex ≡ bit (is_extended b) * 8 → memory_at false next (memory_of rex (sib_byte mode n 4) (Some (sib_byte (scale_bits s) (three r) (three b))) disp) ≡ m.At (Some b) (Some (r, s)) d
  base_and_index b r s h based x e =
      rw (high_is mode n 4 n_small (lit< tt), low_is (scale_bits s) (three r) (three b) (three_small r) (three_small b), based, e, register_back b, index_back rex s r (three b) h (three_small b) x, disp_is) refl

module _ (rex next n : ℕ) (d : ℤ) (disp : List ℕ) (n_small : n < 8) (disp_is : disp_of disp ≡ d) where
  pub index_only : (r : Reg) (s : ℕ) → is_index (Some (r, s)) ≡ true → rex_x rex ≡ bit (is_extended r) * 8 → memory_at false next (memory_of rex (sib_byte 0 n 4) (Some (sib_byte (scale_bits s) (three r) 5)) disp) ≡ m.At None (Some (r, s)) d
  index_only r s h x =
      rw (high_is 0 n 4 n_small (lit< tt), low_is (scale_bits s) (three r) 5 (three_small r) (lit< tt), index_back rex s r 5 h (lit< tt) x, disp_is) refl

  pub no_registers : rex_x rex ≡ 0 → memory_at false next (memory_of rex (sib_byte 0 n 4) (Some 0x25) disp) ≡ m.At None None d
  no_registers x = rw (high_is 0 n 4 n_small (lit< tt), x, disp_is) refl

  pub relative : memory_at false next (memory_of rex (sib_byte 0 n 5) None disp) ≡ m.Rel (at_distance next d)
  relative = rw (high_is 0 n 5 n_small (lit< tt), low_is 0 n 5 n_small (lit< tt), disp_is) refl

-- ---- the bytes of an operand

abbrev pub base_low : ℕ → Option ℕ → ℕ
base_low low None = low
base_low low (Some s) = low_three s

abbrev pub disp_room : ℕ → ℕ → ℕ
disp_room mode base = cond (eqb mode 1) 1 (cond (eqb mode 2 || (eqb mode 0 && eqb base 5)) 4 0)

pub record IsSite (s : Site) : Type 0 where
  pub mode : s.mode < 4
  pub low : s.low < 8
  pub sib_are : AreBytes (sib_bytes s.sib)
  pub disp_are : AreBytes s.disp
  pub sib_is : (not (eqb s.mode 3) && eqb s.low 4) ≡ is_some s.sib
  pub disp_is : length s.disp ≡ disp_room s.mode (base_low s.low s.sib)

pub is_operand : (rex mode n low : ℕ) (sib : Option ℕ) (disp : List ℕ) (r : Bool) → n < 8 → low < 8 → (not (eqb mode 3) && eqb low 4) ≡ is_some sib → length disp ≡ disp_room mode (base_low low sib) → rex_r rex ≡ bit r * 8 → IsOperand rex (n + bit r * 8) (rm_of rex (sib_byte mode n low) sib disp) (sib_byte mode n low ∷ (sib_bytes sib ++ disp))
is_operand rex mode n low None disp r a b s l h = record {
  m = sib_byte mode n low;
  sib = None;
  disp = disp;
  spelled = refl;
  sib_is = rw (high_is mode n low a b, low_is mode n low a b) s;
  disp_is = rw (high_is mode n low a b, low_is mode n low a b) l;
  reg_is = rw (middle_is mode n low a b, h) refl;
  operand_is = refl;
}
is_operand rex mode n low (Some t) disp r a b s l h = record {
  m = sib_byte mode n low;
  sib = Some t;
  disp = disp;
  spelled = refl;
  sib_is = rw (high_is mode n low a b, low_is mode n low a b) s;
  disp_is = rw (high_is mode n low a b) l;
  reg_is = rw (middle_is mode n low a b, h) refl;
  operand_is = refl;
}

pub zero_is : (d : ℤ) → is_zero d ≡ true → pos 0 ≡ d
zero_is (pos n) h = ap pos (sym (eqb-true n 0 h))
zero_is (negsuc n) h = absurd cc

pub record IsMode (base : ℕ) (d : ℤ) (mode : ℕ) : Type 0 where
  pub small : mode < 4
  pub are : AreBytes (disp_bytes mode d)
  pub memory : eqb mode 3 ≡ false
  pub based : (eqb mode 0 && eqb base 5) ≡ false
  pub room : length (disp_bytes mode d) ≡ disp_room mode base
  pub disp_is : FitsSigned w32 d → disp_of (disp_bytes mode d) ≡ d

pub is_mode : (base : ℕ) (d : ℤ) → IsMode base d (mode_of base d)
is_mode base d = elim (cases_Bool (is_zero d && not (eqb base 5))) [
  | inl a ↦
      let parts = and_parts (is_zero d) (not (eqb base 5)) a in
      let none : eqb base 5 ≡ false = not-true (eqb base 5) parts.1 in
      rw a record { small = lit< tt; are = tt; memory = refl; based = none; room = rw none refl; disp_is = λ f. zero_is d parts.0 }
  | inr a ↦ elim (cases_Bool (fits_immediate w.B d)) [
    | inl b ↦ rw (a, b) record { small = lit< tt; are = one_are d; memory = refl; based = refl; room = refl; disp_is = λ f. disp_1 d b }
    | inr b ↦ rw (a, b) record { small = lit< tt; are = four_are d; memory = refl; based = refl; room = refl; disp_is = λ f. disp_4 d f }
  ]
]

-- ---- memory

pub record Means (rex next n : ℕ) (s : Site) (a : Mem ℕ) : Type 0 where
  pub is_site : IsSite s
  pub raw : RawMem
  pub is : rm_of rex (modrm_byte s n) s.sib s.disp ≡ rm.Mem raw
  pub means : memory_at s.fs next raw ≡ a
  pub allowed : (not s.fs || raw.canary) ≡ true

pub in_memory : (rex mode n low : ℕ) (sib : Option ℕ) (disp : List ℕ) → n < 8 → low < 8 → eqb mode 3 ≡ false → rm_of rex (sib_byte mode n low) sib disp ≡ rm.Mem (memory_of rex (sib_byte mode n low) sib disp)
in_memory rex mode n low sib disp a b h = rw (high_is mode n low a b, h) refl

pub no_bit : (rex : ℕ) → rex_x rex ≡ 0 → eqb (rex / 2 % 2) 0 ≡ true
no_bit rex h = let z : rex / 2 % 2 ≡ 0 = omega arith in rw z refl

pub base_means : (rex next n : ℕ) (b : Reg) (d : ℤ) → n < 8 → FitsSigned w32 d → rex_x rex ≡ 0 → rex_b rex ≡ bit (is_extended b) * 8 → Means rex next n (address_site (Some b) None d) (m.At (Some b) None d)
base_means rex next n b d small f x e =
    let mode = is_mode (three b) d in
    elim (cases_Bool (eqb (three b) 4)) [
      | inl t ↦
          let four : three b ≡ 4 = eqb-true (three b) 4 t in
          rw t record {
            is_site = record { mode = (is_mode (three b) d).small; sib_are = (lit< tt, tt); disp_are = (is_mode (three b) d).are; low = three_small b; sib_is = rw (mode.memory, t) refl; disp_is = mode.room ∙ rw four refl };
            raw = memory_of rex (sib_byte (mode_of (three b) d) n (three b)) (Some 0x24) (disp_bytes (mode_of (three b) d) d);
            is = in_memory rex (mode_of (three b) d) n (three b) (Some 0x24) (disp_bytes (mode_of (three b) d) d) small (three_small b) mode.memory;
            means = rw four (base_sib_only rex next n (mode_of 4 d) d (disp_bytes (mode_of 4 d) d) small (rw four at mode.memory) (rw four at (mode.disp_is f)) b four x e);
            allowed = refl;
          }
      | inr t ↦
          rw t record {
            is_site = record { mode = (is_mode (three b) d).small; sib_are = tt; disp_are = (is_mode (three b) d).are; low = three_small b; sib_is = rw (mode.memory, t) refl; disp_is = mode.room };
            raw = memory_of rex (sib_byte (mode_of (three b) d) n (three b)) None (disp_bytes (mode_of (three b) d) d);
            is = in_memory rex (mode_of (three b) d) n (three b) None (disp_bytes (mode_of (three b) d) d) small (three_small b) mode.memory;
            means = base_only rex next n (mode_of (three b) d) d (disp_bytes (mode_of (three b) d) d) small mode.memory (mode.disp_is f) b mode.based e;
            allowed = refl;
          }
    ]

pub address_means : (rex next n : ℕ) (base : Option Reg) (index : Option (Reg × ℕ)) (d : ℤ) → n < 8 → is_index index ≡ true → FitsSigned w32 d → rex_x rex ≡ bit (address_site base index d).x * 8 → rex_b rex ≡ bit (address_site base index d).b * 8 → Means rex next n (address_site base index d) (m.At base index d)
address_means rex next n None None d small h f x e = record {
  is_site = record { mode = lit< tt; sib_are = (lit< tt, tt); disp_are = four_are d; low = lit< tt; sib_is = refl; disp_is = refl };
  raw = memory_of rex (sib_byte 0 n 4) (Some 0x25) (four_bytes d);
  is = in_memory rex 0 n 4 (Some 0x25) (four_bytes d) small (lit< tt) refl;
  means = no_registers rex next n d (four_bytes d) small (disp_4 d f) x;
  allowed = refl;
}
address_means rex next n None (Some (r, s)) d small h f x e = record {
  is_site = record { mode = lit< tt; sib_are = (sib_small (scale_bits s) (three r) 5 (scale_small s) (three_small r) (lit< tt), tt); disp_are = four_are d; low = lit< tt; sib_is = refl; disp_is = rw (low_is (scale_bits s) (three r) 5 (three_small r) (lit< tt)) refl };
  raw = memory_of rex (sib_byte 0 n 4) (Some (sib_byte (scale_bits s) (three r) 5)) (four_bytes d);
  is = in_memory rex 0 n 4 (Some (sib_byte (scale_bits s) (three r) 5)) (four_bytes d) small (lit< tt) refl;
  means = index_only rex next n d (four_bytes d) small (disp_4 d f) r s h x;
  allowed = refl;
}
address_means rex next n (Some b) None d small h f x e = base_means rex next n b d small f x e
address_means rex next n (Some b) (Some (r, s)) d small h f x e =
    let mode = is_mode (three b) d in
    let disp = disp_bytes (mode_of (three b) d) d in
    let sib = sib_byte (scale_bits s) (three r) (three b) in
    record {
      is_site = record { mode = mode.small; sib_are = (sib_small (scale_bits s) (three r) (three b) (scale_small s) (three_small r) (three_small b), tt); disp_are = mode.are; low = lit< tt; sib_is = rw mode.memory refl; disp_is = rw (low_is (scale_bits s) (three r) (three b) (three_small r) (three_small b)) mode.room };
      raw = memory_of rex (sib_byte (mode_of (three b) d) n 4) (Some sib) disp;
      is = in_memory rex (mode_of (three b) d) n 4 (Some sib) disp small (lit< tt) mode.memory;
      means = base_and_index rex next n (mode_of (three b) d) d disp small mode.memory (mode.disp_is f) b r s h mode.based x e;
      allowed = refl;
    }

pub mem_means : (rex next n : ℕ) (d : ℤ) (a : Mem ℕ) → n < 8 → is_address a ≡ true → MemInRange a → FitsSigned w32 d → IfSome (mem_reference a) (λ r. r ≡ at_distance next d) → rex_x rex ≡ bit (mem_site d a).x * 8 → rex_b rex ≡ bit (mem_site d a).b * 8 → Means rex next n (mem_site d a) a
mem_means rex next n d (m.At base index v) small h fits f reach x e = address_means rex next n base index v small h fits x e
mem_means rex next n d (m.Rel r) small h fits f reach x e = record {
  is_site = record { mode = lit< tt; sib_are = tt; disp_are = four_are d; low = lit< tt; sib_is = refl; disp_is = refl };
  raw = memory_of rex (sib_byte 0 n 5) None (four_bytes d);
  is = in_memory rex 0 n 5 None (four_bytes d) small (lit< tt) refl;
  means = relative rex next n d (four_bytes d) small (disp_4 d f) ∙ ap m.Rel (sym reach);
  allowed = refl;
}
mem_means rex next n d m.Canary small h fits f reach x e = record {
  is_site = record { mode = lit< tt; sib_are = (lit< tt, tt); disp_are = four_are (pos 40); low = lit< tt; sib_is = refl; disp_is = refl };
  raw = memory_of rex (sib_byte 0 n 4) (Some 0x25) (four_bytes (pos 40));
  is = in_memory rex 0 n 4 (Some 0x25) (four_bytes (pos 40)) small (lit< tt) refl;
  means = refl;
  allowed = rw (high_is 0 n 4 small (lit< tt), no_bit rex x) refl;
}

-- ---- registers as operands

pub none_of : (byte w r x b : Bool) → is_none (rex_for byte w r x b) ≡ not (byte || (w || (r || (x || b))))
none_of byte w r x b = elim (cases_Bool (byte || (w || (r || (x || b))))) [ inl a ↦ rw a refl | inr a ↦ rw a refl ]

-- the register of a code, where the byte registers that ask for a REX byte have one, and those that bar it have none
pub low_back : (r : Reg) (rex : Option ℕ) → (nat_le 4 (code_of r) && is_none rex) ≡ false → byte_of rex (three r + bit (is_extended r) * 8) ≡ Low r
low_back Rax rex h = rw (and-false (is_none rex)) refl
low_back Rcx rex h = rw (and-false (is_none rex)) refl
low_back Rdx rex h = rw (and-false (is_none rex)) refl
low_back Rbx rex h = rw (and-false (is_none rex)) refl
low_back Rsp rex h = rw h refl
low_back Rbp rex h = rw h refl
low_back Rsi rex h = rw h refl
low_back Rdi rex h = rw h refl
low_back R8 rex h = rw (and-false (is_none rex)) refl
low_back R9 rex h = rw (and-false (is_none rex)) refl
low_back R10 rex h = rw (and-false (is_none rex)) refl
low_back R11 rex h = rw (and-false (is_none rex)) refl
low_back R12 rex h = rw (and-false (is_none rex)) refl
low_back R13 rex h = rw (and-false (is_none rex)) refl
low_back R14 rex h = rw (and-false (is_none rex)) refl
low_back R15 rex h = rw (and-false (is_none rex)) refl

pub high_back : (r : Reg) (rex : Option ℕ) → nat_lt (code_of r) 4 ≡ true → is_none rex ≡ true → byte_of rex (4 + code_of r + 0) ≡ High r
high_back Rax rex h e = rw e refl
high_back Rcx rex h e = rw e refl
high_back Rdx rex h e = rw e refl
high_back Rbx rex h e = rw e refl
high_back _ rex h e = absurd cc

pub register_is : (s : Width) (g : Operand ℕ) (rex : Option ℕ) → is_register s g ≡ true → (asks_rex g && is_none rex) ≡ false → (is_high g && not (is_none rex)) ≡ false → register_at s rex (number_of g + bit (extended_of g) * 8) ≡ g
register_is w.B (o.Byte (Low r)) rex h a b = ap o.Byte (low_back r rex a)
register_is w.B (o.Byte (High r)) rex h a b = ap o.Byte (high_back r rex h (not-false (is_none rex) b))
register_is w.B (o.Reg r) rex h a b = absurd cc
register_is w.B (o.Mem r) rex h a b = absurd cc
register_is w.B (o.Imm r) rex h a b = absurd cc
register_is w.W (o.Reg r) rex h a b = ap o.Reg (register_back r)
register_is w.L (o.Reg r) rex h a b = ap o.Reg (register_back r)
register_is w.Q (o.Reg r) rex h a b = ap o.Reg (register_back r)
register_is w.W (o.Byte r) rex h a b = absurd cc
register_is w.L (o.Byte r) rex h a b = absurd cc
register_is w.Q (o.Byte r) rex h a b = absurd cc
register_is w.W (o.Mem r) rex h a b = absurd cc
register_is w.L (o.Mem r) rex h a b = absurd cc
register_is w.Q (o.Mem r) rex h a b = absurd cc
register_is w.W (o.Imm r) rex h a b = absurd cc
register_is w.L (o.Imm r) rex h a b = absurd cc
register_is w.Q (o.Imm r) rex h a b = absurd cc

pub number_small : (s : Width) (g : Operand ℕ) → is_register s g ≡ true → number_of g < 8
number_small s (o.Reg r) h = three_small r
number_small s (o.Byte (Low r)) h = three_small r
number_small w.B (o.Byte (High r)) h = let small : code_of r < 4 = ltb-true (code_of r) 4 h in omega arith
number_small w.W (o.Byte (High r)) h = absurd cc
number_small w.L (o.Byte (High r)) h = absurd cc
number_small w.Q (o.Byte (High r)) h = absurd cc
number_small s (o.Mem r) h = lit< tt
number_small s (o.Imm r) h = lit< tt

-- ---- the operand and the register of one instruction

-- what asks for a REX byte
pub low_needs : (r : Reg) → nat_le 4 (code_of r) ≡ (nat_le 4 (code_of r) || is_extended r)
low_needs Rax = refl
low_needs Rcx = refl
low_needs Rdx = refl
low_needs Rbx = refl
low_needs Rsp = refl
low_needs Rbp = refl
low_needs Rsi = refl
low_needs Rdi = refl
low_needs R8 = refl
low_needs R9 = refl
low_needs R10 = refl
low_needs R11 = refl
low_needs R12 = refl
low_needs R13 = refl
low_needs R14 = refl
low_needs R15 = refl

pub register_needs : (g : Operand ℕ) → ((a : Mem ℕ) → g ≡ o.Mem a → ⊥) → needs_rex g ≡ (asks_rex g || extended_of g)
register_needs (o.Reg r) h = refl
register_needs (o.Byte (Low r)) h = low_needs r
register_needs (o.Byte (High r)) h = refl
register_needs (o.Mem a) h = absurd (h a refl)
register_needs (o.Imm v) h = refl

pub mem_needs : (d : ℤ) (a : Mem ℕ) → needs_rex (o.Mem a) ≡ ((mem_site d a).x || (mem_site d a).b)
mem_needs d (m.At None None v) = refl
mem_needs d (m.At None (Some (r, t)) v) = sym (or-false (is_extended r))
mem_needs d (m.At (Some b) None v) = or-false (is_extended b)
mem_needs d (m.At (Some b) (Some (r, t)) v) = or_comm (is_extended b) (is_extended r)
mem_needs d (m.Rel r) = refl
mem_needs d m.Canary = refl

pub site_needs : (d : ℤ) (e : Operand ℕ) → needs_rex e ≡ (asks_rex e || ((site_of d e).x || (site_of d e).b))
site_needs d (o.Reg r) = refl
site_needs d (o.Byte (Low r)) = low_needs r
site_needs d (o.Byte (High r)) = refl
site_needs d (o.Mem a) = mem_needs d a
site_needs d (o.Imm v) = refl

pub shuffle : (ae ag w r x b : Bool) → ((ae || ag) || (w || (r || (x || b)))) ≡ ((ae || (x || b)) || ((ag || r) || w))
shuffle true true true true true true = refl
shuffle true true true true true false = refl
shuffle true true true true false true = refl
shuffle true true true true false false = refl
shuffle true true true false true true = refl
shuffle true true true false true false = refl
shuffle true true true false false true = refl
shuffle true true true false false false = refl
shuffle true true false true true true = refl
shuffle true true false true true false = refl
shuffle true true false true false true = refl
shuffle true true false true false false = refl
shuffle true true false false true true = refl
shuffle true true false false true false = refl
shuffle true true false false false true = refl
shuffle true true false false false false = refl
shuffle true false true true true true = refl
shuffle true false true true true false = refl
shuffle true false true true false true = refl
shuffle true false true true false false = refl
shuffle true false true false true true = refl
shuffle true false true false true false = refl
shuffle true false true false false true = refl
shuffle true false true false false false = refl
shuffle true false false true true true = refl
shuffle true false false true true false = refl
shuffle true false false true false true = refl
shuffle true false false true false false = refl
shuffle true false false false true true = refl
shuffle true false false false true false = refl
shuffle true false false false false true = refl
shuffle true false false false false false = refl
shuffle false true true true true true = refl
shuffle false true true true true false = refl
shuffle false true true true false true = refl
shuffle false true true true false false = refl
shuffle false true true false true true = refl
shuffle false true true false true false = refl
shuffle false true true false false true = refl
shuffle false true true false false false = refl
shuffle false true false true true true = refl
shuffle false true false true true false = refl
shuffle false true false true false true = refl
shuffle false true false true false false = refl
shuffle false true false false true true = refl
shuffle false true false false true false = refl
shuffle false true false false false true = refl
shuffle false true false false false false = refl
shuffle false false true true true true = refl
shuffle false false true true true false = refl
shuffle false false true true false true = refl
shuffle false false true true false false = refl
shuffle false false true false true true = refl
shuffle false false true false true false = refl
shuffle false false true false false true = refl
shuffle false false true false false false = refl
shuffle false false false true true true = refl
shuffle false false false true true false = refl
shuffle false false false true false true = refl
shuffle false false false true false false = refl
shuffle false false false false true true = refl
shuffle false false false false true false = refl
shuffle false false false false false true = refl
shuffle false false false false false false = refl

pub pair_none : (d : ℤ) (w : Bool) (e g : Operand ℕ) → needs_rex g ≡ (asks_rex g || extended_of g) → is_none (rex_of_pair d w e g) ≡ not (needs_rex e || (needs_rex g || w))
pair_none d w e g h = rw (site_needs d e, h) (none_of (asks_rex e || asks_rex g) w (extended_of g) (site_of d e).x (site_of d e).b ∙ ap not (shuffle (asks_rex e) (asks_rex g) w (extended_of g) (site_of d e).x (site_of d e).b))

-- a high byte stands beside nothing that asks for a REX byte
pub high_law : (h n m w : Bool) → (h && n) ≡ false → (h && m) ≡ false → (h && w) ≡ false → (h && (n || (m || w))) ≡ false
high_law false n m w p q r = refl
high_law true true m w p q r = absurd cc
high_law true false true w p q r = absurd cc
high_law true false false true p q r = absurd cc
high_law true false false false p q r = refl

pub high_needs : (e : Operand ℕ) → (is_high e && needs_rex e) ≡ false
high_needs (o.Byte (High r)) = refl
high_needs (o.Byte (Low r)) = refl
high_needs (o.Reg r) = refl
high_needs (o.Mem a) = refl
high_needs (o.Imm v) = refl

pub asks_law : (a n m w : Bool) → (a && not n) ≡ false → (a && not (n || (m || w))) ≡ false
asks_law false n m w h = refl
asks_law true true m w h = refl
asks_law true false m w h = absurd cc

pub and_not : (b : Bool) → (b && not b) ≡ false
and_not true = refl
and_not false = refl

pub asks_needs : (e : Operand ℕ) → (asks_rex e && not (needs_rex e)) ≡ false
asks_needs (o.Byte (High r)) = refl
asks_needs (o.Byte (Low r)) = and_not (nat_le 4 (code_of r))
asks_needs (o.Reg r) = refl
asks_needs (o.Mem a) = refl
asks_needs (o.Imm v) = refl

pub asks_law_2 : (a n m w : Bool) → (a && not m) ≡ false → (a && not (n || (m || w))) ≡ false
asks_law_2 false n m w h = refl
asks_law_2 true true m w h = refl
asks_law_2 true false true w h = refl
asks_law_2 true false false w h = absurd cc

pub not_not : (b : Bool) → not (not b) ≡ b
not_not true = refl
not_not false = refl

-- an operand is named by its bytes, beside three bits and a bit of REX for the register
pub record Named (s : Width) (next : ℕ) (rex : Option ℕ) (site : Site) (n : ℕ) (r : Bool) (e : Operand ℕ) : Type 0 where
  pub rm : Rm
  pub spelled : IsOperand (rex_of rex) (n + bit r * 8) rm (operand_bytes site n)
  pub room : length (operand_bytes site n) ≤ 6
  pub are : AreBytes (operand_bytes site n)
  pub means : (p : Parts) → p.fields.rex ≡ rex → p.fields.fs ≡ site.fs → p.next ≡ next → e_at s p rm ≡ e
  pub address : (p : Parts) (a : Mem ℕ) → e ≡ o.Mem a → p.fields.fs ≡ site.fs → p.next ≡ next → (place_at p rm ≡ a) × (is_memory rm ≡ true)
  pub register : ((a : Mem ℕ) → e ≡ o.Mem a → ⊥) → (site.fs ≡ false) × (is_memory rm ≡ false)
  pub allowed : (not site.fs || is_canary rm) ≡ true

pub room_of : (mode base : ℕ) → disp_room mode base ≤ 4
room_of mode base = elim (cases_Bool (eqb mode 1)) [
  | inl a ↦ rw a (lit≤ tt)
  | inr a ↦ elim (cases_Bool (eqb mode 2 || (eqb mode 0 && eqb base 5))) [
    | inl b ↦ rw (a, b) (lit≤ tt)
    | inr b ↦ rw (a, b) (lit≤ tt)
  ]
]

pub sib_room : (sib : Option ℕ) → length (sib_bytes sib) ≤ 1
sib_room None = lit≤ tt
sib_room (Some b) = lit≤ tt

pub site_room : (s : Site) (n : ℕ) → IsSite s → length (operand_bytes s n) ≤ 6
site_room s n h =
    let disp : length s.disp ≤ 4 = rw h.disp_is (room_of s.mode (base_low s.low s.sib)) in
    omega (arith, sib_room s.sib, length-append (sib_bytes s.sib) s.disp)

pub register_rm : (rex n : ℕ) (low : ℕ) (b : Bool) → n < 8 → low < 8 → rex_b rex ≡ bit b * 8 → rm_of rex (sib_byte 3 n low) None [] ≡ rm.Reg (low + bit b * 8)
register_rm rex n low b p q h = rw (high_is 3 n low p q, low_is 3 n low p q, h) refl

pub register_site : (d : ℤ) (e : Operand ℕ) → ((a : Mem ℕ) → e ≡ o.Mem a → ⊥) → site_of d e ≡ site 3 (number_of e) None [] false (extended_of e) false
register_site d (o.Mem a) h = absurd (h a refl)
register_site d (o.Reg r) h = refl
register_site d (o.Byte r) h = refl
register_site d (o.Imm v) h = refl

module _ (next : ℕ) (d : ℤ) (s : Width) (e g : Operand ℕ) (n : ℕ) (w : Bool) (small : n < 8) (d_fits : FitsSigned w32 d) (plain : needs_rex g ≡ (asks_rex g || extended_of g)) (apart : (is_high e && needs_rex g) ≡ false) (narrow : (is_high e && w) ≡ false) where
  abbrev pub rex : Option ℕ
  rex = rex_of_pair d w e g

  pub bits : RexBits (asks_rex e || asks_rex g) w (extended_of g) (site_of d e).x (site_of d e).b
  bits = rex_bits (asks_rex e || asks_rex g) w (extended_of g) (site_of d e).x (site_of d e).b

  pub e_asks : (asks_rex e && is_none rex) ≡ false
  e_asks = rw (pair_none d w e g plain) (asks_law (asks_rex e) (needs_rex e) (needs_rex g) w (asks_needs e))

  pub e_high : (is_high e && not (is_none rex)) ≡ false
  e_high = rw (pair_none d w e g plain, not_not (needs_rex e || (needs_rex g || w))) (high_law (is_high e) (needs_rex e) (needs_rex g) w (high_needs e) apart narrow)

  pub register_named : ((a : Mem ℕ) → e ≡ o.Mem a → ⊥) → is_register s e ≡ true → Named s next rex (site_of d e) n (extended_of g) e
  register_named none h =
      let small_e = number_small s e h in
      let site_is = register_site d e none in
      let b_is : rex_b (rex_of rex) ≡ bit (extended_of e) * 8 = bits.b_is ∙ ap (λ (t : Site). bit t.b * 8) site_is in
      let spelled = is_operand (rex_of rex) 3 n (number_of e) None [] (extended_of g) small small_e refl refl bits.r_is in
      let named : Named s next rex (site 3 (number_of e) None [] false (extended_of e) false) n (extended_of g) e = record {
        rm = rm.Reg (number_of e + bit (extended_of e) * 8);
        spelled = subst (λ (x : Rm). IsOperand (rex_of rex) (n + bit (extended_of g) * 8) x (sib_byte 3 n (number_of e) ∷ [])) (register_rm (rex_of rex) n (number_of e) (extended_of e) small small_e b_is) spelled;
        room = lit≤ tt;
        are = (sib_small 3 n (number_of e) (lit< tt) small small_e, tt);
        means = λ p p_rex p_fs p_next. rw p_rex (register_is s e rex h e_asks e_high);
        address = λ p a is p_fs p_next. absurd (none a is);
        register = λ x. (refl, refl);
        allowed = refl;
      } in
      subst (λ (t : Site). Named s next rex t n (extended_of g) e) (sym site_is) named

pub mem_named : (next : ℕ) (d : ℤ) (s : Width) (a : Mem ℕ) (g : Operand ℕ) (n : ℕ) (w : Bool) → n < 8 → FitsSigned w32 d → is_address a ≡ true → MemInRange a → IfSome (mem_reference a) (λ r. r ≡ at_distance next d) → Named s next (rex_of_pair d w (o.Mem a) g) (mem_site d a) n (extended_of g) (o.Mem a)
mem_named next d s a g n w small d_fits h range reach =
    let bits = rex_bits (asks_rex g) w (extended_of g) (mem_site d a).x (mem_site d a).b in
    let rex = rex_of (rex_of_pair d w (o.Mem a) g) in
    let t = mem_site d a in
    let m_is = mem_means rex next n d a small h range d_fits reach bits.x_is bits.b_is in
    let spelled = is_operand rex t.mode n t.low t.sib t.disp (extended_of g) small m_is.is_site.low m_is.is_site.sib_is m_is.is_site.disp_is bits.r_is in
    record {
      rm = rm.Mem m_is.raw;
      spelled = subst (λ (x : Rm). IsOperand rex (n + bit (extended_of g) * 8) x (operand_bytes t n)) m_is.is spelled;
      room = site_room t n m_is.is_site;
      are = (sib_small t.mode n t.low m_is.is_site.mode small m_is.is_site.low, bytes_append (sib_bytes t.sib) t.disp m_is.is_site.sib_are m_is.is_site.disp_are);
      means = λ p p_rex p_fs p_next. rw (p_fs, p_next) (ap o.Mem m_is.means);
      address = λ p b is p_fs p_next. let same : a ≡ b = cc in (rw (p_fs, p_next) (m_is.means ∙ same), refl);
      register = λ none. absurd (none a refl);
      allowed = m_is.allowed;
    }
