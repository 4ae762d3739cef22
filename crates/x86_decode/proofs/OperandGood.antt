-- What the rows give for the parts of bytes is a well formed instruction.
use Rattle.std.proofs.Common.{◌≡◌, ℕ, ◌-◌, ◌<◌, ◌≤◌, Bool, true, false, ◌&&◌, inl, inr, List, [], ◌∷◌, length, Option, Some, None, refl, ap, ◌∙◌, arith}
use Rattle.std.specs.Prelude.{not, nat_le, nat_lt, ◌==◌, int_lt, ℤ, pos, negsuc}
use Rattle.std.specs.List.{All}
use Rattle.std.specs.Int.{w8, w16, w32, from_le_bytes, cast_signed}
use Rattle.std.proofs.lemmas.Bool.{and_parts, and_cases, cases_Bool, leb-true, leb-false, ltb-true, ltb-false, lt-ltb, le-ltb, not-true, agree_below_at}
use Rattle.std.proofs.lemmas.Option.{slice_get_past}
use Rattle.x86_insn.specs.declared.kinds.Reg.{Reg}
use Rattle.x86_insn.specs.declared.kinds.Reg.TheVariants.{Rax, Rsp}
use Rattle.x86_insn.specs.declared.operands.Operand.{Operand}
use Rattle.x86_insn.specs.declared.operands.Operand.TheVariants as o
use Rattle.rw_base.specs.declared.width.Width.{Width}
use Rattle.rw_base.specs.declared.width.Width.TheVariants as w
use Rattle.x86_insn.specs.Codes.{registers}
use Rattle.x86_insn.specs.WellFormed.{code_of, is_extended, is_index, is_scale, is_address, is_canary, is_register, is_place, is_high, needs_rex, base_needs_rex, index_needs_rex, go_together, fits_immediate}
use Rattle.x86_bytes.specs.declared.parts.RawMem.{RawMem}
use Rattle.x86_bytes.specs.declared.parts.Rm.{Rm}
use Rattle.x86_bytes.specs.declared.parts.Rm.TheVariants as rm
use Rattle.x86_decode.specs.declared.row.Parts.{Parts}
use Rattle.x86_decode.specs.declared.row.Imm.{Imm}
use Rattle.x86_decode.specs.declared.row.Imm.TheVariants as imm
use Rattle.x86_decode.specs.Fits.{is_memory, imm_len}
use Rattle.x86_decode.specs.Value.{signed, register_of, byte_of, register_at, base_at, index_at, memory_at, e_at, place_at, a_of}

-- ---- registers by their codes

pub low_code : (c : ℕ) → c < 8 → is_extended (register_of c) ≡ false
low_code c h = agree_below_at (λ k. is_extended (register_of k)) (λ k. false) 8 c refl h

first_code : (c : ℕ) → c < 4 → nat_lt (code_of (register_of c)) 4 ≡ true
first_code c h = agree_below_at (λ k. nat_lt (code_of (register_of k)) 4) (λ k. true) 4 c refl h

no_second_code : (c : ℕ) → c < 4 → nat_le 4 (code_of (register_of c)) ≡ false
no_second_code c h = agree_below_at (λ k. nat_le 4 (code_of (register_of k))) (λ k. false) 4 c refl h

abbrev is_rsp : Reg → Bool
is_rsp Rsp = true
is_rsp _ = false

past_codes : (c : ℕ) → 16 ≤ c → register_of c ≡ Rax
past_codes c h = rw (slice_get_past registers c h) refl

rsp_code : (c : ℕ) → c == 4 ≡ false → is_rsp (register_of c) ≡ false
rsp_code c h = elim (cases_Bool (nat_lt c 16)) [
  | inl t ↦ agree_below_at (λ k. is_rsp (register_of k)) (λ k. k == 4) 16 c refl (ltb-true c 16 t) ∙ h
  | inr u ↦ ap is_rsp (past_codes c (ltb-false c 16 u))
]

index_of_register : (r : Reg) (s : ℕ) → is_rsp r ≡ false → is_index (Some (r, s)) ≡ is_scale s
index_of_register Rsp s h = absurd cc
index_of_register _ s h = refl

-- ---- what a REX byte allows

-- without a REX byte a register has a code below 8
abbrev pub IsCode : Option ℕ → ℕ → Type 0
IsCode None c = c < 8
IsCode (Some r) c = Unit {0}

-- no operand that needs a REX byte stands without one, and none of AH, CH, DH and BH beside one
abbrev pub goes : Option ℕ → Operand ℕ → Bool
goes None x = not (needs_rex x)
goes (Some r) x = not (is_high x)

low_pair : (ha na hb nb : Bool) → na ≡ false → nb ≡ false → (not (ha && nb) && not (hb && na)) ≡ true
low_pair ha true hb nb p q = absurd cc
low_pair ha false hb true p q = absurd cc
low_pair true false true false p q = refl
low_pair true false false false p q = refl
low_pair false false true false p q = refl
low_pair false false false false p q = refl

no_high_pair : (ha na hb nb : Bool) → ha ≡ false → hb ≡ false → (not (ha && nb) && not (hb && na)) ≡ true
no_high_pair true na hb nb p q = absurd cc
no_high_pair false na true nb p q = absurd cc
no_high_pair false na false nb p q = refl

pub together : (rex : Option ℕ) (a b : Operand ℕ) → goes rex a ≡ true → goes rex b ≡ true → go_together a b ≡ true
together None a b p q = low_pair (is_high a) (needs_rex a) (is_high b) (needs_rex b) (not-true (needs_rex a) p) (not-true (needs_rex b) q)
together (Some r) a b p q = no_high_pair (is_high a) (needs_rex a) (is_high b) (needs_rex b) (not-true (is_high a) p) (not-true (is_high b) q)

-- ---- register operands

byte_is : (rex : Option ℕ) (c : ℕ) → is_register {R = ℕ} w.B (o.Byte (byte_of rex c)) ≡ true
byte_is (Some r) c = refl
byte_is None c = elim (cases_Bool (nat_le 4 c && nat_lt c 8)) [
  | inl t ↦
      let p = and_parts (nat_le 4 c) (nat_lt c 8) t in
      let from : 4 ≤ c = leb-true 4 c p.0 in
      let below : c < 8 = ltb-true c 8 p.1 in
      rw t (first_code (c - 4) (omega arith))
  | inr u ↦ rw u refl
]

byte_goes : (c : ℕ) → c < 8 → goes None (o.Byte (byte_of None c)) ≡ true
byte_goes c h = elim (cases_Bool (nat_le 4 c && nat_lt c 8)) [
  | inl t ↦ rw t refl
  | inr u ↦
      let low : c < 4 = elim (and_cases (nat_le 4 c) (nat_lt c 8) u) [
        | inl x ↦ leb-false 4 c x
        | inr x ↦ absurd (let y : 8 ≤ c = ltb-false c 8 x in omega arith)
      ] in
      rw (u, no_second_code c low) refl
]

pub register_is : (s : Width) (rex : Option ℕ) (c : ℕ) → is_register s (register_at s rex c) ≡ true
register_is w.B rex c = byte_is rex c
register_is _ rex c = refl

pub register_place : (s : Width) (rex : Option ℕ) (c : ℕ) → is_place s (register_at s rex c) ≡ true
register_place w.B rex c = byte_is rex c
register_place _ rex c = refl

pub register_goes : (s : Width) (rex : Option ℕ) (c : ℕ) → IsCode rex c → goes rex (register_at s rex c) ≡ true
register_goes w.B None c h = byte_goes c h
register_goes w.B (Some r) c h = refl
register_goes _ None c h = rw (low_code c h) refl
register_goes _ (Some r) c h = refl

pub a_is : (s : Width) → is_register s (a_of s) ≡ true
a_is w.B = refl
a_is _ = refl

pub a_place : (s : Width) → is_place s (a_of s) ≡ true
a_place w.B = refl
a_place _ = refl

pub a_goes : (s : Width) (rex : Option ℕ) → goes rex (a_of s) ≡ true
a_goes w.B None = refl
a_goes w.B (Some r) = refl
a_goes _ None = refl
a_goes _ (Some r) = refl

pub i_goes : (rex : Option ℕ) (v : ℤ) → goes rex (o.Imm v) ≡ true
i_goes None v = refl
i_goes (Some r) v = refl

-- ---- operands of a ModRM byte

abbrev pub IsBase : Option ℕ → Option ℕ → Type 0
IsBase rex None = Unit {0}
IsBase rex (Some c) = IsCode rex c

abbrev pub IsIndexPart : Option ℕ → Option (ℕ × ℕ) → Type 0
IsIndexPart rex None = Unit {0}
IsIndexPart rex (Some p) = IsCode rex p.0 × (p.0 == 4 ≡ false) × (is_scale p.1 ≡ true)

abbrev pub IsRm : Option ℕ → Rm → Type 0
IsRm rex (rm.Reg c) = IsCode rex c
IsRm rex (rm.Mem raw) = IsBase rex raw.base × IsIndexPart rex raw.index

index_good : (rex : Option ℕ) (x : Option (ℕ × ℕ)) → IsIndexPart rex x → is_index (index_at x) ≡ true
index_good rex None h = refl
index_good rex (Some p) h = index_of_register (register_of p.0) p.1 (rsp_code p.0 h.1) ∙ h.2

memory_good : (rex : Option ℕ) (fs : Bool) (next : ℕ) (raw : RawMem) → IsIndexPart rex raw.index → is_address (memory_at fs next raw) ≡ true
memory_good rex true next raw h = refl
memory_good rex false next raw h = elim (cases_Bool raw.rip) [
  | inl t ↦ rw t refl
  | inr u ↦ rw u (index_good rex raw.index h)
]

base_low : (x : Option ℕ) → IsBase None x → base_needs_rex (base_at x) ≡ false
base_low None h = refl
base_low (Some c) h = low_code c h

index_low : (x : Option (ℕ × ℕ)) → IsIndexPart None x → index_needs_rex (index_at x) ≡ false
index_low None h = refl
index_low (Some p) h = low_code p.0 h.0

memory_goes : (rex : Option ℕ) (fs : Bool) (next : ℕ) (raw : RawMem) → IsBase rex raw.base → IsIndexPart rex raw.index → goes rex (o.Mem (memory_at fs next raw)) ≡ true
memory_goes (Some r) fs next raw b h = refl
memory_goes None true next raw b h = refl
memory_goes None false next raw b h = elim (cases_Bool raw.rip) [
  | inl t ↦ rw t refl
  | inr u ↦ rw (u, base_low raw.base b, index_low raw.index h) refl
]

pub e_place : (s : Width) (p : Parts) (operand : Rm) → IsRm p.fields.rex operand → is_place s (e_at s p operand) ≡ true
e_place s p (rm.Reg c) h = register_place s p.fields.rex c
e_place s p (rm.Mem raw) h = memory_good p.fields.rex p.fields.fs p.next raw h.1

pub e_goes : (s : Width) (p : Parts) (operand : Rm) → IsRm p.fields.rex operand → goes p.fields.rex (e_at s p operand) ≡ true
e_goes s p (rm.Reg c) h = register_goes s p.fields.rex c h
e_goes s p (rm.Mem raw) h = memory_goes p.fields.rex p.fields.fs p.next raw h.0 h.1

pub e_register : (s : Width) (p : Parts) (operand : Rm) → (not p.fields.fs && not (is_memory operand)) ≡ true → is_register s (e_at s p operand) ≡ true
e_register s p (rm.Reg c) h = register_is s p.fields.rex c
e_register s p (rm.Mem raw) h = absurd (let x = (and_parts (not p.fields.fs) false h).1 in cc)

pub address_of_memory : (p : Parts) (operand : Rm) → IsRm p.fields.rex operand → is_address (place_at p operand) ≡ true
address_of_memory p (rm.Reg c) h = refl
address_of_memory p (rm.Mem raw) h = memory_good p.fields.rex p.fields.fs p.next raw h.1

no_canary : (fs : Bool) (next : ℕ) (raw : RawMem) → fs ≡ false → is_canary (memory_at fs next raw) ≡ false
no_canary true next raw h = absurd cc
no_canary false next raw h = elim (cases_Bool raw.rip) [
  | inl t ↦ rw t refl
  | inr u ↦ rw u refl
]

pub no_canary_at : (p : Parts) (operand : Rm) → (not p.fields.fs && is_memory operand) ≡ true → is_canary (place_at p operand) ≡ false
no_canary_at p (rm.Reg c) h = absurd (let x = (and_parts (not p.fields.fs) false h).1 in cc)
no_canary_at p (rm.Mem raw) h = no_canary p.fields.fs p.next raw (not-true p.fields.fs (and_parts (not p.fields.fs) true h).0)

-- ---- immediates

abbrev pub Within : ℕ → ℕ → ℤ → Type 0
Within lo hi (pos n) = n < hi
Within lo hi (negsuc n) = n ≤ lo

pub in_range : (lo hi : ℕ) (v : ℤ) → Within lo hi v → (not (int_lt v (negsuc lo)) && int_lt v (pos hi)) ≡ true
in_range lo hi (pos n) h = rw (lt-ltb n hi h) refl
in_range lo hi (negsuc n) h = rw (le-ltb lo n h) refl

pub wider : (lo hi lo2 hi2 : ℕ) (v : ℤ) → lo ≤ lo2 → hi ≤ hi2 → Within lo hi v → Within lo2 hi2 v
wider lo hi lo2 hi2 (pos n) p q h = omega arith
wider lo hi lo2 hi2 (negsuc n) p q h = omega arith

pub signed_byte : (n : ℕ) → n < 256 → Within 127 128 (cast_signed w8 n)
signed_byte n h = elim (cases_Bool (nat_lt n 128)) [
  | inl t ↦ rw t (ltb-true n 128 t)
  | inr u ↦ let e : 128 ≤ n = ltb-false n 128 u in rw u (omega arith)
]

pub signed_word : (n : ℕ) → n < 65536 → Within 32767 32768 (cast_signed w16 n)
signed_word n h = elim (cases_Bool (nat_lt n 32768)) [
  | inl t ↦ rw t (ltb-true n 32768 t)
  | inr u ↦ let e : 32768 ≤ n = ltb-false n 32768 u in rw u (omega arith)
]

pub signed_long : (n : ℕ) → n < 4294967296 → Within 2147483647 2147483648 (cast_signed w32 n)
signed_long n h = elim (cases_Bool (nat_lt n 2147483648)) [
  | inl t ↦ rw t (ltb-true n 2147483648 t)
  | inr u ↦ let e : 2147483648 ≤ n = ltb-false n 2147483648 u in rw u (omega arith)
]

abbrev pub AreBytes : List ℕ → Type 0
AreBytes xs = All (λ b. b < 256) xs

one_signed : (xs : List ℕ) → length xs ≡ 1 → AreBytes xs → Within 127 128 (signed xs)
unfolding signed
one_signed [] e h = absurd (omega arith)
one_signed (a ∷ []) e h = signed_byte a (h 0 0 (omega arith))
one_signed (a ∷ b ∷ xs) e h = absurd (omega arith)

two_signed : (xs : List ℕ) → length xs ≡ 2 → AreBytes xs → Within 32767 32768 (signed xs)
unfolding signed
two_signed [] e h = absurd (omega arith)
two_signed (a ∷ []) e h = absurd (omega arith)
two_signed (a ∷ b ∷ []) e h =
    let a_is : a < 256 = h 0 0 (omega arith) in
    let b_is : b < 256 = h 1 0 (omega arith) in
    signed_word (from_le_bytes w16 (a ∷ b ∷ [])) (omega arith)
two_signed (a ∷ b ∷ c ∷ xs) e h = absurd (omega arith)

four_signed : (xs : List ℕ) → length xs ≡ 4 → AreBytes xs → Within 2147483647 2147483648 (signed xs)
unfolding signed
four_signed [] e h = absurd (omega arith)
four_signed (a ∷ []) e h = absurd (omega arith)
four_signed (a ∷ b ∷ []) e h = absurd (omega arith)
four_signed (a ∷ b ∷ c ∷ []) e h = absurd (omega arith)
four_signed (a ∷ b ∷ c ∷ d ∷ []) e h =
    let a_is : a < 256 = h 0 0 (omega arith) in
    let b_is : b < 256 = h 1 0 (omega arith) in
    let c_is : c < 256 = h 2 0 (omega arith) in
    let d_is : d < 256 = h 3 0 (omega arith) in
    signed_long (from_le_bytes w32 (a ∷ b ∷ c ∷ d ∷ [])) (omega arith)
four_signed (a ∷ b ∷ c ∷ d ∷ x ∷ xs) e h = absurd (omega arith)

one_fits : (s : Width) (v : ℤ) → Within 127 128 v → fits_immediate s v ≡ true
one_fits w.B v h = in_range 127 128 v h
one_fits w.W v h = in_range 32767 32768 v (wider 127 128 32767 32768 v (omega arith) (omega arith) h)
one_fits _ v h = in_range 2147483647 2147483648 v (wider 127 128 2147483647 2147483648 v (omega arith) (omega arith) h)

abbrev pub is_short : Imm → Bool
is_short imm.One = true
is_short imm.Sized = true
is_short _ = false

-- an immediate of one byte, or of the width's size
pub short_fits : (m : Imm) (s : Width) (xs : List ℕ) → length xs ≡ imm_len m s → AreBytes xs → is_short m ≡ true → fits_immediate s (signed xs) ≡ true
short_fits imm.One s xs e h t = one_fits s (signed xs) (one_signed xs e h)
short_fits imm.Sized w.B xs e h t = in_range 127 128 (signed xs) (one_signed xs e h)
short_fits imm.Sized w.W xs e h t = in_range 32767 32768 (signed xs) (two_signed xs e h)
short_fits imm.Sized w.L xs e h t = in_range 2147483647 2147483648 (signed xs) (four_signed xs e h)
short_fits imm.Sized w.Q xs e h t = in_range 2147483647 2147483648 (signed xs) (four_signed xs e h)
short_fits imm.Absent s xs e h t = absurd cc
short_fits imm.Four s xs e h t = absurd cc
short_fits imm.Eight s xs e h t = absurd cc

abbrev pub is_pushed : Imm → Bool
is_pushed imm.One = true
is_pushed imm.Four = true
is_pushed _ = false

-- an immediate of one byte or four at width Q
pub pushed_fits : (m : Imm) (s : Width) (xs : List ℕ) → length xs ≡ imm_len m s → AreBytes xs → is_pushed m ≡ true → fits_immediate w.Q (signed xs) ≡ true
pushed_fits imm.One s xs e h t = one_fits w.Q (signed xs) (one_signed xs e h)
pushed_fits imm.Four s xs e h t = in_range 2147483647 2147483648 (signed xs) (four_signed xs e h)
pushed_fits imm.Absent s xs e h t = absurd cc
pushed_fits imm.Sized s xs e h t = absurd cc
pushed_fits imm.Eight s xs e h t = absurd cc
