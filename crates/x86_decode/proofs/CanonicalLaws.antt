-- Each well formed instruction has a spelling: the canonical one.
use Rattle.x86_insn.specs.declared.operands.Mem.TheVariants as m
use Rattle.x86_insn.specs.declared.kinds.AluOp.TheVariants as alu
use Rattle.x86_insn.specs.declared.kinds.Reg8.TheVariants.{Low, High}
use Rattle.x86_insn.specs.declared.kinds.Reg.TheVariants.{Rax, Rcx, Rdx, Rbx, Rsp, Rbp, Rsi, Rdi, R8, R9, R12, R13}
use Rattle.std.proofs.Common.{◌≡◌, ℕ, ◌+◌, ◌-◌, ◌*◌, ◌%◌, ◌^◌, ◌<◌, ◌≤◌, Bool, true, false, cond, ◌&&◌, ◌||◌, inl, inr, List, [], ◌∷◌, ◌++◌, length, Option, Some, None, refl, arith, lit<, lit≤}
use Rattle.std.specs.Prelude.{not, ℤ, pos, negsuc, IfSome}
use Rattle.std.specs.Int.{w32, w64}
use Rattle.std.specs.Int.RustNames.{FitsSigned}
use Rattle.std.proofs.lemmas.Bool.{and_parts, cases_Bool, not-true}
use Rattle.rw_base.specs.declared.width.Width.{Width}
use Rattle.rw_base.specs.declared.width.Width.TheVariants as w
use Rattle.x86_insn.specs.declared.kinds.AluOp.{AluOp}
use Rattle.x86_insn.specs.declared.kinds.OneOp.{OneOp}
use Rattle.x86_insn.specs.declared.kinds.OneOp.TheVariants as one
use Rattle.x86_insn.specs.declared.kinds.ShiftOp.{ShiftOp}
use Rattle.x86_insn.specs.declared.kinds.BitOp.{BitOp}
use Rattle.x86_insn.specs.declared.kinds.BitOp.TheVariants as bt
use Rattle.x86_insn.specs.declared.kinds.ScanOp.TheVariants as scan
use Rattle.x86_insn.specs.declared.kinds.Convert.TheVariants as convert
use Rattle.x86_insn.specs.declared.kinds.Plain.TheVariants as plain
use Rattle.x86_insn.specs.declared.kinds.Count.TheVariants as count
use Rattle.x86_insn.specs.declared.kinds.Cond.{Cond}
use Rattle.x86_insn.specs.declared.kinds.Reg.{Reg}
use Rattle.x86_insn.specs.declared.kinds.Reg8.{Reg8}
use Rattle.x86_insn.specs.declared.operands.Mem.{Mem}
use Rattle.x86_insn.specs.declared.operands.Operand.{Operand}
use Rattle.x86_insn.specs.declared.operands.Operand.TheVariants as o
use Rattle.x86_insn.specs.WellFormed.{is_canary as is_the_canary, is_instruction, are_operands, is_immediate, is_count, is_bit_index, is_extended, is_address, is_register, is_place, is_high, needs_rex, is_wide, is_long, is_quad, go_together, fits_immediate}
use Rattle.x86_insn.specs.References.{or_else, mem_reference, operand_reference, reference_of}
use Rattle.x86_bytes.specs.declared.parts.Rm.TheVariants as rm
use Rattle.std.specs.List.{All}
use Rattle.std.proofs.lemmas.List.Elements.{All-from_recursion}
use Rattle.std.specs.Prelude.{Contains}
use Rattle.std.proofs.Math.Bool.{and-false, or-false}
use Rattle.x86_insn.specs.declared.instruction.Insn.{Insn}
use Rattle.x86_insn.specs.declared.instruction.Insn.TheVariants as i
use Rattle.x86_bytes.specs.Head.{rex_bytes}
use Rattle.x86_decode.specs.declared.row.Row.{Row}
use Rattle.x86_decode.specs.declared.row.Numbers.TheVariants as numbers
use Rattle.x86_decode.specs.declared.row.Place.TheVariants as place
use Rattle.x86_decode.specs.Rows.{rows, row}
use Rattle.x86_decode.specs.Spelling.{first_byte, Spells}
use Rattle.x86_decode.specs.Fits.{has_modrm, is_in, is_number, is_place as fits_place, is_size, are_marks, width_of, imm_len}
use Rattle.x86_decode.specs.Value.{signed, value, register_at, e_at, at_distance}
use Rattle.x86_decode.proofs.CanonicalRows.{has_0F05, has_0F0B, has_0F1E_7, has_0F40, has_0F80, has_0F90_0, has_0FA3, has_0FAB, has_0FAF, has_0FB3, has_0FB6, has_0FB7, has_0FBA_4, has_0FBB, has_0FBC, has_0FBC_F3, has_0FBD, has_0FBE, has_0FBF, has_0FC8, has_50, has_58, has_63, has_68, has_69, has_6A, has_6B, has_80, has_81, has_83, has_84, has_85, has_86, has_87, has_88, has_89, has_8A, has_8B, has_8D, has_8F_0, has_90, has_90_F3, has_98, has_99, has_A4, has_A5, has_AA, has_AB, has_B0, has_B8, has_B8_W, has_C0, has_C1, has_C3, has_C6_0, has_C7_0, has_C9, has_CC, has_D2, has_D3, has_E8, has_E9, has_F4, has_F6_0, has_F6_2, has_F7_0, has_F7_2, has_FE_0, has_FF_0, has_FF_2, has_FF_4, has_FF_6, has_alu_0, has_alu_1, has_alu_2, has_alu_3, row_0F05, row_0F0B, row_0F1E_7, row_0F40, row_0F80, row_0F90_0, row_0FA3, row_0FAB, row_0FAF, row_0FB3, row_0FB6, row_0FB7, row_0FBA_4, row_0FBB, row_0FBC, row_0FBC_F3, row_0FBD, row_0FBE, row_0FBF, row_0FC8, row_50, row_58, row_63, row_68, row_69, row_6A, row_6B, row_80, row_81, row_83, row_84, row_85, row_86, row_87, row_88, row_89, row_8A, row_8B, row_8D, row_8F_0, row_90, row_90_F3, row_98, row_99, row_A4, row_A5, row_AA, row_AB, row_B0, row_B8, row_B8_W, row_C0, row_C1, row_C3, row_C6_0, row_C7_0, row_C9, row_CC, row_D2, row_D3, row_E8, row_E9, row_F4, row_F6_0, row_F6_2, row_F7_0, row_F7_2, row_FE_0, row_FF_0, row_FF_2, row_FF_4, row_FF_6, row_alu_0, row_alu_1, row_alu_2, row_alu_3}
use Rattle.x86_decode.specs.Canonical.{alu_bytes, mov_imm, mov_bytes, test_bytes, push_bytes, pop_bytes, bit_bytes, alu_code, one_code, one_opcode, shift_code, bit_code, condition_code, imm_bytes, alu_imm, with_register, with_number, with_opcode, bare, is_word, wide, bit, rex_for, one_byte, two_bytes, four_bytes, eight_bytes, three, mem_site, number_of, extended_of, asks_rex, site_of, operand_bytes, run_of, written, rex_of_pair, pair_bytes, MemInRange, OperandInRange, InRange, LiesAt, canonical}
use Rattle.x86_decode.specs.declared.row.Parts.{Parts}
use Rattle.x86_decode.proofs.CanonicalOperands.{AreBytes, one_are, two_are, four_are, eight_are, imm_are, rex_bits, three_small, register_back, register_is, number_small, register_needs, pair_none, high_law, high_needs, asks_needs, asks_law_2, not_not, Named, register_named, mem_named}
use Rattle.x86_decode.proofs.CanonicalParts.{fields_for, IsPlainOpcode, rex_begins, bit_room, rex_are, IsSpelled, parts, by_parts}
use Rattle.x86_decode.proofs.CanonicalNumbers.{alu_opcode_0, alu_opcode_1, alu_opcode_2, alu_opcode_3, alu_back, alu_small, signed_1, signed_4, signed_8, imm_back, one_back, one_small, shift_back, shift_small, shift_number, bit_back, bit_small, bit_number, is_cmov, is_setcc, is_jcc, condition_small, count_small, bit_index_small, count_back, bit_index_back, low_opcode_50, low_opcode_58, low_opcode_B0, low_opcode_B8, bswap_opcode, o_code_is, o_at}
use Rattle.x86_decode.proofs.CanonicalPairs.{IsSized, sized_b, sized_q, sized_must, sized_v, sized_lq, no_register, no_immediate, narrow_of, register_place, register_no_memory, together, and_or, mem_fs, both_wide}

-- ---- what the test of an instruction says of its operands

pub imm_bool : (p r i t : Bool) → (((p && false) || (r && false) || (p && i)) && t) ≡ true → (p ≡ true) × (i ≡ true)
imm_bool true true true true h = (refl, refl)
imm_bool true true true false h = absurd cc
imm_bool true true false true h = absurd cc
imm_bool true true false false h = absurd cc
imm_bool true false true true h = (refl, refl)
imm_bool true false true false h = absurd cc
imm_bool true false false true h = absurd cc
imm_bool true false false false h = absurd cc
imm_bool false true true true h = absurd cc
imm_bool false true true false h = absurd cc
imm_bool false true false true h = absurd cc
imm_bool false true false false h = absurd cc
imm_bool false false true true h = absurd cc
imm_bool false false true false h = absurd cc
imm_bool false false false true h = absurd cc
imm_bool false false false false h = absurd cc

pub ge_bool : (p r m t : Bool) → (((p && false) || (r && m) || (p && false)) && t) ≡ true → (r ≡ true) × (m ≡ true) × (t ≡ true)
ge_bool true true true true h = (refl, refl, refl)
ge_bool true true true false h = absurd cc
ge_bool true true false true h = absurd cc
ge_bool true true false false h = absurd cc
ge_bool true false true true h = absurd cc
ge_bool true false true false h = absurd cc
ge_bool true false false true h = absurd cc
ge_bool true false false false h = absurd cc
ge_bool false true true true h = (refl, refl, refl)
ge_bool false true true false h = absurd cc
ge_bool false true false true h = absurd cc
ge_bool false true false false h = absurd cc
ge_bool false false true true h = absurd cc
ge_bool false false true false h = absurd cc
ge_bool false false false true h = absurd cc
ge_bool false false false false h = absurd cc

pub eg_bool : (p g r t : Bool) → (r ≡ true → p ≡ true) → (((p && g) || (r && g) || (p && false)) && t) ≡ true → (p ≡ true) × (g ≡ true) × (t ≡ true)
eg_bool true true true true k h = (refl, refl, refl)
eg_bool true true true false k h = absurd cc
eg_bool true true false true k h = (refl, refl, refl)
eg_bool true true false false k h = absurd cc
eg_bool true false true true k h = absurd cc
eg_bool true false true false k h = absurd cc
eg_bool true false false true k h = absurd cc
eg_bool true false false false k h = absurd cc
eg_bool false true true true k h = absurd (let bad = k refl in cc)
eg_bool false true true false k h = absurd cc
eg_bool false true false true k h = absurd cc
eg_bool false true false false k h = absurd cc
eg_bool false false true true k h = absurd cc
eg_bool false false true false k h = absurd cc
eg_bool false false false true k h = absurd cc
eg_bool false false false false k h = absurd cc

pub and_swap : (a b : Bool) → (a && b) ≡ true → (b && a) ≡ true
and_swap true true h = refl
and_swap true false h = absurd cc
and_swap false b h = absurd cc

pub imm_ok : (s : Width) (to : Operand ℕ) (v : ℤ) → are_operands s to (o.Imm v) ≡ true → (is_place s to ≡ true) × (fits_immediate s v ≡ true)
imm_ok s to v h = imm_bool (is_place s to) (is_register s to) (fits_immediate s v) (go_together to (o.Imm v)) (rw (no_immediate s v) at h)

pub ge_ok : (s : Width) (to : Operand ℕ) (a : Mem ℕ) → are_operands s to (o.Mem a) ≡ true → (is_register s to ≡ true) × (is_address a ≡ true) × (go_together (o.Mem a) to ≡ true)
ge_ok s to a h =
    let b = ge_bool (is_place s to) (is_register s to) (is_address a) (go_together to (o.Mem a)) (rw (no_register s a) at h) in
    (b.0, b.1, and_swap (not (is_high to && needs_rex (o.Mem a))) (not (is_high (o.Mem a) && needs_rex to)) b.2)

-- beside a register
pub eg_ok : (s : Width) (to from : Operand ℕ) → is_place s from ≡ is_register s from → is_immediate s from ≡ false → are_operands s to from ≡ true → (is_place s to ≡ true) × (is_register s from ≡ true) × (go_together to from ≡ true)
eg_ok s to from same none h = eg_bool (is_place s to) (is_register s from) (is_register s to) (go_together to from) (register_place s to) (rw (same, none) at h)

pub or_false : (a b : Bool) → (a && (false || b)) ≡ true → (a ≡ true) × (b ≡ true)
or_false true true h = (refl, refl)
or_false true false h = absurd cc
or_false false b h = absurd cc

pub three_parts : (a b c : Bool) → (a && b && c) ≡ true → (a ≡ true) × (b ≡ true) × (c ≡ true)
three_parts a b c h = let x = and_parts (a && b) c h in let y = and_parts a b x.0 in (y.0, y.1, x.1)

pub test_bool : (p g i t : Bool) → (p && (g || i) && t) ≡ true → (p ≡ true) × ((g || i) ≡ true) × (t ≡ true)
test_bool p g i t h = three_parts p (g || i) t h

pub bit_ok : (s : Width) (at g : Operand ℕ) → ((v : ℤ) → g ≡ o.Imm v → ⊥) → (is_wide s && is_place s at && is_bit_index s at g) ≡ true → (is_wide s ≡ true) × (is_register s at ≡ true) × (is_register s g ≡ true)
bit_ok w.B at g k h = absurd cc
bit_ok s at (o.Reg r) k h = let a = and_parts (is_place s at) (is_register s at && is_register {R = ℕ} s (o.Reg r)) h in let b = and_parts (is_register s at) (is_register {R = ℕ} s (o.Reg r)) a.1 in (refl, b.0, b.1)
bit_ok s at (o.Byte r) k h = let a = and_parts (is_place s at) (is_register s at && is_register {R = ℕ} s (o.Byte r)) h in let b = and_parts (is_register s at) (is_register {R = ℕ} s (o.Byte r)) a.1 in (refl, b.0, b.1)
bit_ok s at (o.Mem m) k h = let a = and_parts (is_place s at) (is_register s at && is_register {R = ℕ} s (o.Mem m)) h in let b = and_parts (is_register s at) (is_register {R = ℕ} s (o.Mem m)) a.1 in (refl, b.0, b.1)
bit_ok s at (o.Imm v) k h = absurd (k v refl)

pub no_negative : (s : Width) (at : Operand ℕ) (n : ℕ) → is_wide s ≡ true → is_bit_index s at (o.Imm (negsuc n)) ≡ false
no_negative w.B at n h = absurd cc
no_negative w.W at n h = refl
no_negative w.L at n h = refl
no_negative w.Q at n h = refl

pub register_reference : (s : Width) (e : Operand ℕ) → is_register s e ≡ true → operand_reference e ≡ None
register_reference s (o.Reg r) h = refl
register_reference s (o.Byte r) h = refl
register_reference s (o.Mem a) h = absurd (register_no_memory s (o.Mem a) h a refl)
register_reference s (o.Imm v) h = refl

module _ (address next : ℕ) (d : ℤ) (d_fits : FitsSigned w32 d) where
  abbrev pub Reaches : Operand ℕ → Type 0
  Reaches e = IfSome (operand_reference e) (λ r. r ≡ at_distance next d)

  pub e_named : (s : Width) (e g : Operand ℕ) (n : ℕ) (quad : Bool) → n < 8 → needs_rex g ≡ (asks_rex g || extended_of g) → (is_high e && needs_rex g) ≡ false → (is_high e && quad) ≡ false → is_place s e ≡ true → OperandInRange e → Reaches e → Named s next (rex_of_pair d quad e g) (site_of d e) n (extended_of g) e
  e_named s (o.Mem a) g n quad small plain apart narrow h range reach = mem_named next d s a g n quad small d_fits h range reach
  e_named s (o.Reg r) g n quad small plain apart narrow h range reach = register_named next d s (o.Reg r) g n quad small d_fits plain apart narrow (λ a q. absurd cc) h
  e_named s (o.Byte r) g n quad small plain apart narrow h range reach = register_named next d s (o.Byte r) g n quad small d_fits plain apart narrow (λ a q. absurd cc) h
  e_named s (o.Imm v) g n quad small plain apart narrow h range reach = register_named next d s (o.Imm v) g n quad small d_fits plain apart narrow (λ a q. absurd cc) h

  -- a register beside an operand
  pub g_named : (s : Width) (e g : Operand ℕ) (quad : Bool) → is_register s g ≡ true → (is_high g && needs_rex e) ≡ false → (is_high g && quad) ≡ false → register_at s (rex_of_pair d quad e g) (number_of g + bit (extended_of g) * 8) ≡ g
  g_named s e g quad h apart narrow =
      let plain = register_needs g (register_no_memory s g h) in
      register_is s g (rex_of_pair d quad e g) h
      (rw (pair_none d quad e g plain) (asks_law_2 (asks_rex g) (needs_rex e) (needs_rex g) quad (asks_needs g)))
      (rw (pair_none d quad e g plain, not_not (needs_rex e || (needs_rex g || quad))) (high_law (is_high g) (needs_rex e) (needs_rex g) quad apart (high_needs g) narrow))

  pub pair_spells : (insn : Insn ℕ) (row : Row) → Contains rows row → has_modrm row.place ≡ true → (s : Width) (word f3 ds quad : Bool) → IsSized row.size s word quad → (se : Width) (e g : Operand ℕ) (n o : ℕ) (opcode imm : List ℕ) → IsPlainOpcode o opcode → (named : Named se next (rex_of_pair d quad e g) (site_of d e) n (extended_of g) e) → is_in row.opcodes o ≡ true → is_number row.numbers ((n + bit (extended_of g) * 8) % 8) ≡ true → fits_place row.place named.rm (site_of d e).fs ≡ true → ((at : ℕ) → are_marks row.marks (fields_for word (site_of d e).fs f3 ds (rex_of_pair d quad e g) o at) ≡ true) → (length imm ≡ imm_len row.imm s) × AreBytes imm → bit f3 + bit ds ≤ 1 → length opcode + length imm ≤ 5 → next ≡ (address + length (pair_bytes d word f3 ds quad e g n opcode imm)) % 2 ^ 64 → ((at : ℕ) → e_at se (parts (fields_for word (site_of d e).fs f3 ds (rex_of_pair d quad e g) o at) s (n + bit (extended_of g) * 8) named.rm imm next) named.rm ≡ e → value row.name row.form (parts (fields_for word (site_of d e).fs f3 ds (rex_of_pair d quad e g) o at) s (n + bit (extended_of g) * 8) named.rm imm next) ≡ insn) → IsSpelled insn address (pair_bytes d word f3 ds quad e g n opcode imm)
  pair_spells insn row in_table modrm s word f3 ds quad sized se e g n o opcode imm opc named is_in_row numbered placed marked imm_is marks_room room next_is value_is =
      let rex = rex_of_pair d quad e g in
      let fs = (site_of d e).fs in
      let at = length (run_of word fs f3 ds ++ (rex_bytes rex ++ opcode)) in
      let bits = rex_bits (asks_rex e || asks_rex g) quad (extended_of g) (site_of d e).x (site_of d e).b in
      let is = sized fs f3 ds rex o at bits.w_is in
      by_parts insn address next row in_table s word fs f3 ds rex o opcode (operand_bytes (site_of d e) n) imm (n + bit (extended_of g) * 8) named.rm record {
        is_opcode = opc.is_opcode;
        begins = rex_begins (asks_rex e || asks_rex g) quad (extended_of g) (site_of d e).x (site_of d e).b opcode opc.begins;
        operand_is = rw modrm named.spelled;
        width = is.1;
        rex_are = rex_are (asks_rex e || asks_rex g) quad (extended_of g) (site_of d e).x (site_of d e).b;
        opcode_are = opc.are;
        middle_are = named.are;
        imm_are = imm_is.1;
        imm_is = imm_is.0;
        short = omega (arith, bit_room word, marks_room, room, named.room);
        fitting = rw (is_in_row, numbered, placed, is.0, marked at) refl;
        next_is = next_is;
        insn_is = value_is at (named.means (parts (fields_for word fs f3 ds rex o at) s (n + bit (extended_of g) * 8) named.rm imm next) refl refl refl);
      }

  pub register_in_range : (s : Width) (e : Operand ℕ) → is_register s e ≡ true → OperandInRange e
  register_in_range s (o.Reg r) h = tt
  register_in_range s (o.Byte r) h = tt
  register_in_range s (o.Mem a) h = absurd (register_no_memory s (o.Mem a) h a refl)
  register_in_range s (o.Imm v) h = tt

  pub register_reaches : (s : Width) (e : Operand ℕ) → is_register s e ≡ true → Reaches e
  register_reaches s (o.Reg r) h = tt
  register_reaches s (o.Byte r) h = tt
  register_reaches s (o.Mem a) h = absurd (register_no_memory s (o.Mem a) h a refl)
  register_reaches s (o.Imm v) h = tt

  -- the same, where any operand may stand
  pub pair_any : (insn : Insn ℕ) (row : Row) → Contains rows row → row.place ≡ place.Any → (s : Width) (word f3 ds quad : Bool) → IsSized row.size s word quad → (se : Width) (e g : Operand ℕ) (n o : ℕ) (opcode imm : List ℕ) → IsPlainOpcode o opcode → (named : Named se next (rex_of_pair d quad e g) (site_of d e) n (extended_of g) e) → is_in row.opcodes o ≡ true → is_number row.numbers ((n + bit (extended_of g) * 8) % 8) ≡ true → ((at : ℕ) → are_marks row.marks (fields_for word (site_of d e).fs f3 ds (rex_of_pair d quad e g) o at) ≡ true) → (length imm ≡ imm_len row.imm s) × AreBytes imm → bit f3 + bit ds ≤ 1 → length opcode + length imm ≤ 5 → next ≡ (address + length (pair_bytes d word f3 ds quad e g n opcode imm)) % 2 ^ 64 → ((p : Parts) → p.w ≡ s → e_at se p p.rm ≡ e → p.fields.rex ≡ rex_of_pair d quad e g → p.reg ≡ n + bit (extended_of g) * 8 → p.fields.opcode ≡ o → p.imm ≡ signed imm → p.byte ≡ first_byte imm → p.fields.f3 ≡ f3 → p.fields.ds ≡ ds → value row.name row.form p ≡ insn) → IsSpelled insn address (pair_bytes d word f3 ds quad e g n opcode imm)
  pair_any insn row in_table any s word f3 ds quad sized se e g n o opcode imm opc named is_in_row numbered marked imm_is marks_room room next_is value_is =
      pair_spells insn row in_table (rw any refl) s word f3 ds quad sized se e g n o opcode imm opc named is_in_row numbered (rw any named.allowed) marked imm_is marks_room room next_is
      (λ at q. value_is (parts (fields_for word (site_of d e).fs f3 ds (rex_of_pair d quad e g) o at) s (n + bit (extended_of g) * 8) named.rm imm next) refl q refl refl refl refl refl refl refl)

  -- an operand and a register of one width
  pub eg_named : (s : Width) (e g : Operand ℕ) → is_place s e ≡ true → is_register s g ≡ true → go_together e g ≡ true → OperandInRange e → Reaches e → Named s next (rex_of_pair d (is_quad s) e g) (site_of d e) (number_of g) (extended_of g) e
  eg_named s e g he hg go range reach =
      let t = together (is_high e) (needs_rex g) (is_high g) (needs_rex e) go in
      e_named s e g (number_of g) (is_quad s) (number_small s g hg) (register_needs g (register_no_memory s g hg)) t.0 (narrow_of s e he) he range reach

  pub eg_register : (s : Width) (e g : Operand ℕ) → is_register s g ≡ true → go_together e g ≡ true → register_at s (rex_of_pair d (is_quad s) e g) (number_of g + bit (extended_of g) * 8) ≡ g
  eg_register s e g hg go =
      let t = together (is_high e) (needs_rex g) (is_high g) (needs_rex e) go in
      g_named s e g (is_quad s) hg t.1 (narrow_of s g (register_place s g hg))

  pub eg_at : (s : Width) (e g : Operand ℕ) → is_register s g ≡ true → go_together e g ≡ true → (p : Parts) → p.fields.rex ≡ rex_of_pair d (is_quad s) e g → p.reg ≡ number_of g + bit (extended_of g) * 8 → register_at s p.fields.rex p.reg ≡ g
  eg_at s e g hg go p px pr = rw (px, pr) (eg_register s e g hg go)

  -- an operand beside a number
  pub number_named : (s : Width) (e : Operand ℕ) (n : ℕ) (quad : Bool) → n < 8 → (is_high e && quad) ≡ false → is_place s e ≡ true → OperandInRange e → Reaches e → Named s next (rex_of_pair d quad e (o.Imm (pos 0))) (site_of d e) n false e
  number_named s e n quad small narrow h range reach = e_named s e (o.Imm (pos 0)) n quad small refl (and-false (is_high e)) narrow h range reach

  pub mov_eg : (s : Width) (e g : Operand ℕ) → is_place s e ≡ true → is_register s g ≡ true → go_together e g ≡ true → OperandInRange e → Reaches e → next ≡ (address + length (with_register d s e g ((0x88 + wide s) ∷ []))) % 2 ^ 64 → IsSpelled (i.Mov s e g) address (with_register d s e g ((0x88 + wide s) ∷ []))
  unfolding value
  mov_eg w.B e g he hg go range reach nx = pair_any (i.Mov w.B e g) row_88 has_88 refl w.B false false false false (sized_b) w.B e g (number_of g) 0x88 (0x88 ∷ []) [] (record { is_opcode = (refl, refl); begins = (refl, refl); are = (lit< tt, tt) }) (eg_named w.B e g he hg go range reach) refl (refl) (λ at. refl) (refl, tt) (lit≤ tt) (lit≤ tt) nx (λ p pw pe px pr po pi pb pf pd. rw (pw, pe, eg_at w.B e g hg go p px pr) refl)
  mov_eg s e g he hg go range reach nx = pair_any (i.Mov s e g) row_89 has_89 refl s (is_word s) false false (is_quad s) (sized_v s refl) s e g (number_of g) 0x89 (0x89 ∷ []) [] (record { is_opcode = (refl, refl); begins = (refl, refl); are = (lit< tt, tt) }) (eg_named s e g he hg go range reach) refl (refl) (λ at. refl) (refl, tt) (lit≤ tt) (lit≤ tt) nx (λ p pw pe px pr po pi pb pf pd. rw (pw, pe, eg_at s e g hg go p px pr) refl)

  pub mov_ge : (s : Width) (e g : Operand ℕ) → is_place s e ≡ true → is_register s g ≡ true → go_together e g ≡ true → OperandInRange e → Reaches e → next ≡ (address + length (with_register d s e g ((0x8A + wide s) ∷ []))) % 2 ^ 64 → IsSpelled (i.Mov s g e) address (with_register d s e g ((0x8A + wide s) ∷ []))
  unfolding value
  mov_ge w.B e g he hg go range reach nx = pair_any (i.Mov w.B g e) row_8A has_8A refl w.B false false false false (sized_b) w.B e g (number_of g) 0x8A (0x8A ∷ []) [] (record { is_opcode = (refl, refl); begins = (refl, refl); are = (lit< tt, tt) }) (eg_named w.B e g he hg go range reach) refl (refl) (λ at. refl) (refl, tt) (lit≤ tt) (lit≤ tt) nx (λ p pw pe px pr po pi pb pf pd. rw (pw, pe, eg_at w.B e g hg go p px pr) refl)
  mov_ge s e g he hg go range reach nx = pair_any (i.Mov s g e) row_8B has_8B refl s (is_word s) false false (is_quad s) (sized_v s refl) s e g (number_of g) 0x8B (0x8B ∷ []) [] (record { is_opcode = (refl, refl); begins = (refl, refl); are = (lit< tt, tt) }) (eg_named s e g he hg go range reach) refl (refl) (λ at. refl) (refl, tt) (lit≤ tt) (lit≤ tt) nx (λ p pw pe px pr po pi pb pf pd. rw (pw, pe, eg_at s e g hg go p px pr) refl)

  pub test_eg : (s : Width) (e g : Operand ℕ) → is_place s e ≡ true → is_register s g ≡ true → go_together e g ≡ true → OperandInRange e → Reaches e → next ≡ (address + length (with_register d s e g ((0x84 + wide s) ∷ []))) % 2 ^ 64 → IsSpelled (i.Test s e g) address (with_register d s e g ((0x84 + wide s) ∷ []))
  unfolding value
  test_eg w.B e g he hg go range reach nx = pair_any (i.Test w.B e g) row_84 has_84 refl w.B false false false false (sized_b) w.B e g (number_of g) 0x84 (0x84 ∷ []) [] (record { is_opcode = (refl, refl); begins = (refl, refl); are = (lit< tt, tt) }) (eg_named w.B e g he hg go range reach) refl (refl) (λ at. refl) (refl, tt) (lit≤ tt) (lit≤ tt) nx (λ p pw pe px pr po pi pb pf pd. rw (pw, pe, eg_at w.B e g hg go p px pr) refl)
  test_eg s e g he hg go range reach nx = pair_any (i.Test s e g) row_85 has_85 refl s (is_word s) false false (is_quad s) (sized_v s refl) s e g (number_of g) 0x85 (0x85 ∷ []) [] (record { is_opcode = (refl, refl); begins = (refl, refl); are = (lit< tt, tt) }) (eg_named s e g he hg go range reach) refl (refl) (λ at. refl) (refl, tt) (lit≤ tt) (lit≤ tt) nx (λ p pw pe px pr po pi pb pf pd. rw (pw, pe, eg_at s e g hg go p px pr) refl)

  pub xchg_eg : (s : Width) (e g : Operand ℕ) → is_place s e ≡ true → is_register s g ≡ true → go_together e g ≡ true → OperandInRange e → Reaches e → next ≡ (address + length (with_register d s e g ((0x86 + wide s) ∷ []))) % 2 ^ 64 → IsSpelled (i.Xchg s e g) address (with_register d s e g ((0x86 + wide s) ∷ []))
  unfolding value
  xchg_eg w.B e g he hg go range reach nx = pair_any (i.Xchg w.B e g) row_86 has_86 refl w.B false false false false (sized_b) w.B e g (number_of g) 0x86 (0x86 ∷ []) [] (record { is_opcode = (refl, refl); begins = (refl, refl); are = (lit< tt, tt) }) (eg_named w.B e g he hg go range reach) refl (refl) (λ at. refl) (refl, tt) (lit≤ tt) (lit≤ tt) nx (λ p pw pe px pr po pi pb pf pd. rw (pw, pe, eg_at w.B e g hg go p px pr) refl)
  xchg_eg s e g he hg go range reach nx = pair_any (i.Xchg s e g) row_87 has_87 refl s (is_word s) false false (is_quad s) (sized_v s refl) s e g (number_of g) 0x87 (0x87 ∷ []) [] (record { is_opcode = (refl, refl); begins = (refl, refl); are = (lit< tt, tt) }) (eg_named s e g he hg go range reach) refl (refl) (λ at. refl) (refl, tt) (lit≤ tt) (lit≤ tt) nx (λ p pw pe px pr po pi pb pf pd. rw (pw, pe, eg_at s e g hg go p px pr) refl)

  pub alu_eg : (op : AluOp) (s : Width) (e g : Operand ℕ) → is_place s e ≡ true → is_register s g ≡ true → go_together e g ≡ true → OperandInRange e → Reaches e → next ≡ (address + length (with_register d s e g ((alu_code op * 8 + wide s) ∷ []))) % 2 ^ 64 → IsSpelled (i.Alu op s e g) address (with_register d s e g ((alu_code op * 8 + wide s) ∷ []))
  unfolding value
  alu_eg op w.B e g he hg go range reach nx = pair_any (i.Alu op w.B e g) row_alu_0 has_alu_0 refl w.B false false false false (sized_b) w.B e g (number_of g) (alu_code op * 8 + 0) ((alu_code op * 8 + 0) ∷ []) [] ((alu_opcode_0 op).plain) (eg_named w.B e g he hg go range reach) (alu_opcode_0 op).in_row (refl) (λ at. refl) (refl, tt) (lit≤ tt) (lit≤ tt) nx (λ p pw pe px pr po pi pb pf pd. rw (po, pw, pe, eg_at w.B e g hg go p px pr, (alu_opcode_0 op).back) refl)
  alu_eg op s e g he hg go range reach nx = pair_any (i.Alu op s e g) row_alu_1 has_alu_1 refl s (is_word s) false false (is_quad s) (sized_v s refl) s e g (number_of g) (alu_code op * 8 + 1) ((alu_code op * 8 + 1) ∷ []) [] ((alu_opcode_1 op).plain) (eg_named s e g he hg go range reach) (alu_opcode_1 op).in_row (refl) (λ at. refl) (refl, tt) (lit≤ tt) (lit≤ tt) nx (λ p pw pe px pr po pi pb pf pd. rw (po, pw, pe, eg_at s e g hg go p px pr, (alu_opcode_1 op).back) refl)

  pub alu_ge : (op : AluOp) (s : Width) (e g : Operand ℕ) → is_place s e ≡ true → is_register s g ≡ true → go_together e g ≡ true → OperandInRange e → Reaches e → next ≡ (address + length (with_register d s e g ((alu_code op * 8 + (2 + wide s)) ∷ []))) % 2 ^ 64 → IsSpelled (i.Alu op s g e) address (with_register d s e g ((alu_code op * 8 + (2 + wide s)) ∷ []))
  unfolding value
  alu_ge op w.B e g he hg go range reach nx = pair_any (i.Alu op w.B g e) row_alu_2 has_alu_2 refl w.B false false false false (sized_b) w.B e g (number_of g) (alu_code op * 8 + 2) ((alu_code op * 8 + 2) ∷ []) [] ((alu_opcode_2 op).plain) (eg_named w.B e g he hg go range reach) (alu_opcode_2 op).in_row (refl) (λ at. refl) (refl, tt) (lit≤ tt) (lit≤ tt) nx (λ p pw pe px pr po pi pb pf pd. rw (po, pw, pe, eg_at w.B e g hg go p px pr, (alu_opcode_2 op).back) refl)
  alu_ge op s e g he hg go range reach nx = pair_any (i.Alu op s g e) row_alu_3 has_alu_3 refl s (is_word s) false false (is_quad s) (sized_v s refl) s e g (number_of g) (alu_code op * 8 + 3) ((alu_code op * 8 + 3) ∷ []) [] ((alu_opcode_3 op).plain) (eg_named s e g he hg go range reach) (alu_opcode_3 op).in_row (refl) (λ at. refl) (refl, tt) (lit≤ tt) (lit≤ tt) nx (λ p pw pe px pr po pi pb pf pd. rw (po, pw, pe, eg_at s e g hg go p px pr, (alu_opcode_3 op).back) refl)

  pub alu_80 : (op : AluOp) (e : Operand ℕ) (v : ℤ) → fits_immediate w.B v ≡ true → is_place w.B e ≡ true → OperandInRange e → Reaches e → next ≡ (address + length (with_number d w.B e (alu_code op) (0x80 ∷ []) (one_byte v))) % 2 ^ 64 → IsSpelled (i.Alu op w.B e (o.Imm v)) address (with_number d w.B e (alu_code op) (0x80 ∷ []) (one_byte v))
  unfolding value
  alu_80 op e v fit he range reach nx = pair_any (i.Alu op w.B e (o.Imm v)) row_80 has_80 refl w.B false false false false (sized_b) w.B e (o.Imm (pos 0)) (alu_code op) 0x80 (0x80 ∷ []) (one_byte v) (record { is_opcode = (refl, refl); begins = (refl, refl); are = (lit< tt, tt) }) (number_named w.B e (alu_code op) false (alu_small op) (narrow_of w.B e he) he range reach) refl (refl) (λ at. refl) (refl, one_are v) (lit≤ tt) (lit≤ tt) nx (λ p pw pe px pr po pi pb pf pd. rw (pw, pe, pr, pi, signed_1 v fit, alu_back op) refl)

  pub alu_83 : (op : AluOp) (s : Width) (e : Operand ℕ) (v : ℤ) → is_wide s ≡ true → fits_immediate w.B v ≡ true → is_place s e ≡ true → OperandInRange e → Reaches e → next ≡ (address + length (with_number d s e (alu_code op) (0x83 ∷ []) (one_byte v))) % 2 ^ 64 → IsSpelled (i.Alu op s e (o.Imm v)) address (with_number d s e (alu_code op) (0x83 ∷ []) (one_byte v))
  unfolding value
  alu_83 op s e v wide_s fit he range reach nx = pair_any (i.Alu op s e (o.Imm v)) row_83 has_83 refl s (is_word s) false false (is_quad s) (sized_v s wide_s) s e (o.Imm (pos 0)) (alu_code op) 0x83 (0x83 ∷ []) (one_byte v) (record { is_opcode = (refl, refl); begins = (refl, refl); are = (lit< tt, tt) }) (number_named s e (alu_code op) (is_quad s) (alu_small op) (narrow_of s e he) he range reach) refl (refl) (λ at. refl) (refl, one_are v) (lit≤ tt) (lit≤ tt) nx (λ p pw pe px pr po pi pb pf pd. rw (pw, pe, pr, pi, signed_1 v fit, alu_back op) refl)

  pub alu_81 : (op : AluOp) (s : Width) (e : Operand ℕ) (v : ℤ) → is_wide s ≡ true → fits_immediate s v ≡ true → is_place s e ≡ true → OperandInRange e → Reaches e → next ≡ (address + length (with_number d s e (alu_code op) (0x81 ∷ []) (imm_bytes s v))) % 2 ^ 64 → IsSpelled (i.Alu op s e (o.Imm v)) address (with_number d s e (alu_code op) (0x81 ∷ []) (imm_bytes s v))
  unfolding value
  alu_81 op w.B e v wide_s fit he range reach nx = absurd cc
  alu_81 op s e v wide_s fit he range reach nx = pair_any (i.Alu op s e (o.Imm v)) row_81 has_81 refl s (is_word s) false false (is_quad s) (sized_v s refl) s e (o.Imm (pos 0)) (alu_code op) 0x81 (0x81 ∷ []) (imm_bytes s v) (record { is_opcode = (refl, refl); begins = (refl, refl); are = (lit< tt, tt) }) (number_named s e (alu_code op) (is_quad s) (alu_small op) (narrow_of s e he) he range reach) refl (refl) (λ at. refl) (refl, imm_are s v) (lit≤ tt) (lit≤ tt) nx (λ p pw pe px pr po pi pb pf pd. rw (pw, pe, pr, pi, imm_back s v fit, alu_back op) refl)

  pub alu_imm_spells : (op : AluOp) (s : Width) (e : Operand ℕ) (v : ℤ) → fits_immediate s v ≡ true → is_place s e ≡ true → OperandInRange e → Reaches e → next ≡ (address + length (alu_imm d op s e v)) % 2 ^ 64 → IsSpelled (i.Alu op s e (o.Imm v)) address (alu_imm d op s e v)
  alu_imm_spells op w.B e v fit he range reach nx = alu_80 op e v fit he range reach nx
  alu_imm_spells op s e v fit he range reach nx = elim (cases_Bool (fits_immediate w.B v)) [
    | inl b ↦ rw b (alu_83 op s e v refl b he range reach (rw b at nx))
    | inr b ↦ rw b (alu_81 op s e v refl fit he range reach (rw b at nx))
  ]

  pub test_imm : (s : Width) (e : Operand ℕ) (v : ℤ) → fits_immediate s v ≡ true → is_place s e ≡ true → OperandInRange e → Reaches e → next ≡ (address + length (with_number d s e 0 ((0xF6 + wide s) ∷ []) (imm_bytes s v))) % 2 ^ 64 → IsSpelled (i.Test s e (o.Imm v)) address (with_number d s e 0 ((0xF6 + wide s) ∷ []) (imm_bytes s v))
  unfolding value
  test_imm w.B e v fit he range reach nx = pair_any (i.Test w.B e (o.Imm v)) row_F6_0 has_F6_0 refl w.B false false false false (sized_b) w.B e (o.Imm (pos 0)) 0 0xF6 (0xF6 ∷ []) (imm_bytes w.B v) (record { is_opcode = (refl, refl); begins = (refl, refl); are = (lit< tt, tt) }) (number_named w.B e 0 false (lit< tt) (narrow_of w.B e he) he range reach) refl (refl) (λ at. refl) (refl, imm_are w.B v) (lit≤ tt) (lit≤ tt) nx (λ p pw pe px pr po pi pb pf pd. rw (pw, pe, pi, imm_back w.B v fit) refl)
  test_imm s e v fit he range reach nx = pair_any (i.Test s e (o.Imm v)) row_F7_0 has_F7_0 refl s (is_word s) false false (is_quad s) (sized_v s refl) s e (o.Imm (pos 0)) 0 0xF7 (0xF7 ∷ []) (imm_bytes s v) (record { is_opcode = (refl, refl); begins = (refl, refl); are = (lit< tt, tt) }) (number_named s e 0 (is_quad s) (lit< tt) (narrow_of s e he) he range reach) refl (refl) (λ at. refl) (refl, imm_are s v) (lit≤ tt) (lit≤ tt) nx (λ p pw pe px pr po pi pb pf pd. rw (pw, pe, pi, imm_back s v fit) refl)

  pub mov_number : (s : Width) (e : Operand ℕ) (v : ℤ) → fits_immediate s v ≡ true → is_place s e ≡ true → OperandInRange e → Reaches e → next ≡ (address + length (with_number d s e 0 ((0xC6 + wide s) ∷ []) (imm_bytes s v))) % 2 ^ 64 → IsSpelled (i.Mov s e (o.Imm v)) address (with_number d s e 0 ((0xC6 + wide s) ∷ []) (imm_bytes s v))
  unfolding value
  mov_number w.B e v fit he range reach nx = pair_any (i.Mov w.B e (o.Imm v)) row_C6_0 has_C6_0 refl w.B false false false false (sized_b) w.B e (o.Imm (pos 0)) 0 0xC6 (0xC6 ∷ []) (imm_bytes w.B v) (record { is_opcode = (refl, refl); begins = (refl, refl); are = (lit< tt, tt) }) (number_named w.B e 0 false (lit< tt) (narrow_of w.B e he) he range reach) refl (refl) (λ at. refl) (refl, imm_are w.B v) (lit≤ tt) (lit≤ tt) nx (λ p pw pe px pr po pi pb pf pd. rw (pw, pe, pi, imm_back w.B v fit) refl)
  mov_number s e v fit he range reach nx = pair_any (i.Mov s e (o.Imm v)) row_C7_0 has_C7_0 refl s (is_word s) false false (is_quad s) (sized_v s refl) s e (o.Imm (pos 0)) 0 0xC7 (0xC7 ∷ []) (imm_bytes s v) (record { is_opcode = (refl, refl); begins = (refl, refl); are = (lit< tt, tt) }) (number_named s e 0 (is_quad s) (lit< tt) (narrow_of s e he) he range reach) refl (refl) (λ at. refl) (refl, imm_are s v) (lit≤ tt) (lit≤ tt) nx (λ p pw pe px pr po pi pb pf pd. rw (pw, pe, pi, imm_back s v fit) refl)

  pub one_step : (op : OneOp) (s : Width) (e : Operand ℕ) → is_number (numbers.Run 0 1) ((one_code op + 0) % 8) ≡ true → is_place s e ≡ true → OperandInRange e → Reaches e → next ≡ (address + length (with_number d s e (one_code op) ((0xFE + wide s) ∷ []) [])) % 2 ^ 64 → IsSpelled (i.One op s e) address (with_number d s e (one_code op) ((0xFE + wide s) ∷ []) [])
  unfolding value
  one_step op w.B e number he range reach nx = pair_any (i.One op w.B e) row_FE_0 has_FE_0 refl w.B false false false false (sized_b) w.B e (o.Imm (pos 0)) (one_code op) 0xFE (0xFE ∷ []) [] (record { is_opcode = (refl, refl); begins = (refl, refl); are = (lit< tt, tt) }) (number_named w.B e (one_code op) false (one_small op) (narrow_of w.B e he) he range reach) refl (number) (λ at. refl) (refl, tt) (lit≤ tt) (lit≤ tt) nx (λ p pw pe px pr po pi pb pf pd. rw (pw, pe, pr, one_back op) refl)
  one_step op s e number he range reach nx = pair_any (i.One op s e) row_FF_0 has_FF_0 refl s (is_word s) false false (is_quad s) (sized_v s refl) s e (o.Imm (pos 0)) (one_code op) 0xFF (0xFF ∷ []) [] (record { is_opcode = (refl, refl); begins = (refl, refl); are = (lit< tt, tt) }) (number_named s e (one_code op) (is_quad s) (one_small op) (narrow_of s e he) he range reach) refl (number) (λ at. refl) (refl, tt) (lit≤ tt) (lit≤ tt) nx (λ p pw pe px pr po pi pb pf pd. rw (pw, pe, pr, one_back op) refl)

  pub one_other : (op : OneOp) (s : Width) (e : Operand ℕ) → is_number (numbers.Run 2 7) ((one_code op + 0) % 8) ≡ true → is_place s e ≡ true → OperandInRange e → Reaches e → next ≡ (address + length (with_number d s e (one_code op) ((0xF6 + wide s) ∷ []) [])) % 2 ^ 64 → IsSpelled (i.One op s e) address (with_number d s e (one_code op) ((0xF6 + wide s) ∷ []) [])
  unfolding value
  one_other op w.B e number he range reach nx = pair_any (i.One op w.B e) row_F6_2 has_F6_2 refl w.B false false false false (sized_b) w.B e (o.Imm (pos 0)) (one_code op) 0xF6 (0xF6 ∷ []) [] (record { is_opcode = (refl, refl); begins = (refl, refl); are = (lit< tt, tt) }) (number_named w.B e (one_code op) false (one_small op) (narrow_of w.B e he) he range reach) refl (number) (λ at. refl) (refl, tt) (lit≤ tt) (lit≤ tt) nx (λ p pw pe px pr po pi pb pf pd. rw (pw, pe, pr, one_back op) refl)
  one_other op s e number he range reach nx = pair_any (i.One op s e) row_F7_2 has_F7_2 refl s (is_word s) false false (is_quad s) (sized_v s refl) s e (o.Imm (pos 0)) (one_code op) 0xF7 (0xF7 ∷ []) [] (record { is_opcode = (refl, refl); begins = (refl, refl); are = (lit< tt, tt) }) (number_named s e (one_code op) (is_quad s) (one_small op) (narrow_of s e he) he range reach) refl (number) (λ at. refl) (refl, tt) (lit≤ tt) (lit≤ tt) nx (λ p pw pe px pr po pi pb pf pd. rw (pw, pe, pr, one_back op) refl)

  pub one_spells : (op : OneOp) (s : Width) (e : Operand ℕ) → is_place s e ≡ true → OperandInRange e → Reaches e → next ≡ (address + length (with_number d s e (one_code op) ((one_opcode op + wide s) ∷ []) [])) % 2 ^ 64 → IsSpelled (i.One op s e) address (with_number d s e (one_code op) ((one_opcode op + wide s) ∷ []) [])
  one_spells one.Inc s e he range reach nx = one_step one.Inc s e refl he range reach nx
  one_spells one.Dec s e he range reach nx = one_step one.Dec s e refl he range reach nx
  one_spells one.Not s e he range reach nx = one_other one.Not s e refl he range reach nx
  one_spells one.Neg s e he range reach nx = one_other one.Neg s e refl he range reach nx
  one_spells one.Mul s e he range reach nx = one_other one.Mul s e refl he range reach nx
  one_spells one.Imul s e he range reach nx = one_other one.Imul s e refl he range reach nx
  one_spells one.Div s e he range reach nx = one_other one.Div s e refl he range reach nx
  one_spells one.Idiv s e he range reach nx = one_other one.Idiv s e refl he range reach nx

  pub shift_cl : (op : ShiftOp) (s : Width) (e : Operand ℕ) → is_place s e ≡ true → OperandInRange e → Reaches e → next ≡ (address + length (with_number d s e (shift_code op) ((0xD2 + wide s) ∷ []) [])) % 2 ^ 64 → IsSpelled (i.Shift op s e count.Cl) address (with_number d s e (shift_code op) ((0xD2 + wide s) ∷ []) [])
  unfolding value
  shift_cl op w.B e he range reach nx = pair_any (i.Shift op w.B e count.Cl) row_D2 has_D2 refl w.B false false false false (sized_b) w.B e (o.Imm (pos 0)) (shift_code op) 0xD2 (0xD2 ∷ []) [] (record { is_opcode = (refl, refl); begins = (refl, refl); are = (lit< tt, tt) }) (number_named w.B e (shift_code op) false (shift_small op) (narrow_of w.B e he) he range reach) refl (shift_number op) (λ at. refl) (refl, tt) (lit≤ tt) (lit≤ tt) nx (λ p pw pe px pr po pi pb pf pd. rw (pw, pe, pr, shift_back op) refl)
  shift_cl op s e he range reach nx = pair_any (i.Shift op s e count.Cl) row_D3 has_D3 refl s (is_word s) false false (is_quad s) (sized_v s refl) s e (o.Imm (pos 0)) (shift_code op) 0xD3 (0xD3 ∷ []) [] (record { is_opcode = (refl, refl); begins = (refl, refl); are = (lit< tt, tt) }) (number_named s e (shift_code op) (is_quad s) (shift_small op) (narrow_of s e he) he range reach) refl (shift_number op) (λ at. refl) (refl, tt) (lit≤ tt) (lit≤ tt) nx (λ p pw pe px pr po pi pb pf pd. rw (pw, pe, pr, shift_back op) refl)

  pub shift_imm : (op : ShiftOp) (s : Width) (e : Operand ℕ) (n : ℕ) → is_count s (count.Imm n) ≡ true → is_place s e ≡ true → OperandInRange e → Reaches e → next ≡ (address + length (with_number d s e (shift_code op) ((0xC0 + wide s) ∷ []) (n ∷ []))) % 2 ^ 64 → IsSpelled (i.Shift op s e (count.Imm n)) address (with_number d s e (shift_code op) ((0xC0 + wide s) ∷ []) (n ∷ []))
  unfolding value
  shift_imm op w.B e n few he range reach nx = pair_any (i.Shift op w.B e (count.Imm n)) row_C0 has_C0 refl w.B false false false false (sized_b) w.B e (o.Imm (pos 0)) (shift_code op) 0xC0 (0xC0 ∷ []) (n ∷ []) (record { is_opcode = (refl, refl); begins = (refl, refl); are = (lit< tt, tt) }) (number_named w.B e (shift_code op) false (shift_small op) (narrow_of w.B e he) he range reach) refl (shift_number op) (λ at. refl) (refl, (count_small w.B n few, tt)) (lit≤ tt) (lit≤ tt) nx (λ p pw pe px pr po pi pb pf pd. rw (pw, pe, pr, pb, shift_back op, count_back w.B n few) refl)
  shift_imm op s e n few he range reach nx = pair_any (i.Shift op s e (count.Imm n)) row_C1 has_C1 refl s (is_word s) false false (is_quad s) (sized_v s refl) s e (o.Imm (pos 0)) (shift_code op) 0xC1 (0xC1 ∷ []) (n ∷ []) (record { is_opcode = (refl, refl); begins = (refl, refl); are = (lit< tt, tt) }) (number_named s e (shift_code op) (is_quad s) (shift_small op) (narrow_of s e he) he range reach) refl (shift_number op) (λ at. refl) (refl, (count_small s n few, tt)) (lit≤ tt) (lit≤ tt) nx (λ p pw pe px pr po pi pb pf pd. rw (pw, pe, pr, pb, shift_back op, count_back s n few) refl)

  pub setcc_spells : (cond : Cond) (e : Operand ℕ) → is_place w.B e ≡ true → OperandInRange e → Reaches e → next ≡ (address + length (with_number d w.B e 0 (0x0F ∷ (0x90 + condition_code cond) ∷ []) [])) % 2 ^ 64 → IsSpelled (i.Setcc cond e) address (with_number d w.B e 0 (0x0F ∷ (0x90 + condition_code cond) ∷ []) [])
  unfolding value
  setcc_spells cond e he range reach nx = pair_any (i.Setcc cond e) row_0F90_0 has_0F90_0 refl w.B false false false false (sized_b) w.B e (o.Imm (pos 0)) 0 (0x0F00 + (0x90 + condition_code cond)) (0x0F ∷ (0x90 + condition_code cond) ∷ []) [] (record { is_opcode = (refl, refl); begins = (refl, refl); are = (lit< tt, (omega (arith, condition_small cond), tt)) }) (number_named w.B e 0 false (lit< tt) (narrow_of w.B e he) he range reach) (is_setcc cond).in_row (refl) (λ at. refl) (refl, tt) (lit≤ tt) (lit≤ tt) nx (λ p pw pe px pr po pi pb pf pd. rw (pw, pe, po, (is_setcc cond).back) refl)

  pub bit_imm : (op : BitOp) (s : Width) (e : Operand ℕ) (n : ℕ) → is_wide s ≡ true → is_bit_index s e (o.Imm (pos n)) ≡ true → is_place s e ≡ true → OperandInRange e → Reaches e → next ≡ (address + length (with_number d s e (bit_code op) (0x0F ∷ 0xBA ∷ []) (n ∷ []))) % 2 ^ 64 → IsSpelled (i.Bit op s e (o.Imm (pos n))) address (with_number d s e (bit_code op) (0x0F ∷ 0xBA ∷ []) (n ∷ []))
  unfolding value
  bit_imm op s e n wide_s few he range reach nx = pair_any (i.Bit op s e (o.Imm (pos n))) row_0FBA_4 has_0FBA_4 refl s (is_word s) false false (is_quad s) (sized_v s wide_s) s e (o.Imm (pos 0)) (bit_code op) 0x0FBA (0x0F ∷ 0xBA ∷ []) (n ∷ []) (record { is_opcode = (refl, refl); begins = (refl, refl); are = (lit< tt, (lit< tt, tt)) }) (number_named s e (bit_code op) (is_quad s) (bit_small op) (narrow_of s e he) he range reach) refl (bit_number op) (λ at. refl) (refl, (bit_index_small s e n wide_s few, tt)) (lit≤ tt) (lit≤ tt) nx (λ p pw pe px pr po pi pb pf pd. rw (pw, pe, pr, pb, bit_back op, bit_index_back s e n wide_s few) refl)

  pub push_place : (e : Operand ℕ) → is_place w.Q e ≡ true → OperandInRange e → Reaches e → next ≡ (address + length (pair_bytes d false false false false e (o.Imm (pos 0)) 6 (0xFF ∷ []) [])) % 2 ^ 64 → IsSpelled (i.Push e) address (pair_bytes d false false false false e (o.Imm (pos 0)) 6 (0xFF ∷ []) [])
  unfolding value
  push_place e he range reach nx = pair_any (i.Push e) row_FF_6 has_FF_6 refl w.Q false false false false (sized_q) w.Q e (o.Imm (pos 0)) 6 0xFF (0xFF ∷ []) [] (record { is_opcode = (refl, refl); begins = (refl, refl); are = (lit< tt, tt) }) (number_named w.Q e 6 false (lit< tt) (and-false (is_high e)) he range reach) refl (refl) (λ at. refl) (refl, tt) (lit≤ tt) (lit≤ tt) nx (λ p pw pe px pr po pi pb pf pd. rw (pw, pe) refl)

  pub pop_place : (e : Operand ℕ) → is_place w.Q e ≡ true → OperandInRange e → Reaches e → next ≡ (address + length (pair_bytes d false false false false e (o.Imm (pos 0)) 0 (0x8F ∷ []) [])) % 2 ^ 64 → IsSpelled (i.Pop e) address (pair_bytes d false false false false e (o.Imm (pos 0)) 0 (0x8F ∷ []) [])
  unfolding value
  pop_place e he range reach nx = pair_any (i.Pop e) row_8F_0 has_8F_0 refl w.Q false false false false (sized_q) w.Q e (o.Imm (pos 0)) 0 0x8F (0x8F ∷ []) [] (record { is_opcode = (refl, refl); begins = (refl, refl); are = (lit< tt, tt) }) (number_named w.Q e 0 false (lit< tt) (and-false (is_high e)) he range reach) refl (refl) (λ at. refl) (refl, tt) (lit≤ tt) (lit≤ tt) nx (λ p pw pe px pr po pi pb pf pd. rw (pw, pe) refl)

  pub jmp_to : (e : Operand ℕ) (notrack : Bool) → is_place w.Q e ≡ true → OperandInRange e → Reaches e → next ≡ (address + length (pair_bytes d false false notrack false e (o.Imm (pos 0)) 4 (0xFF ∷ []) [])) % 2 ^ 64 → IsSpelled (i.JmpTo e notrack) address (pair_bytes d false false notrack false e (o.Imm (pos 0)) 4 (0xFF ∷ []) [])
  unfolding value
  jmp_to e notrack he range reach nx = pair_any (i.JmpTo e notrack) row_FF_4 has_FF_4 refl w.Q false false notrack false (sized_q) w.Q e (o.Imm (pos 0)) 4 0xFF (0xFF ∷ []) [] (record { is_opcode = (refl, refl); begins = (refl, refl); are = (lit< tt, tt) }) (number_named w.Q e 4 false (lit< tt) (and-false (is_high e)) he range reach) refl (refl) (λ at. refl) (refl, tt) (omega (arith, bit_room notrack)) (lit≤ tt) nx (λ p pw pe px pr po pi pb pf pd. rw (pw, pe, pd) refl)

  pub call_to : (e : Operand ℕ) (notrack : Bool) → is_place w.Q e ≡ true → OperandInRange e → Reaches e → next ≡ (address + length (pair_bytes d false false notrack false e (o.Imm (pos 0)) 2 (0xFF ∷ []) [])) % 2 ^ 64 → IsSpelled (i.CallTo e notrack) address (pair_bytes d false false notrack false e (o.Imm (pos 0)) 2 (0xFF ∷ []) [])
  unfolding value
  call_to e notrack he range reach nx = pair_any (i.CallTo e notrack) row_FF_2 has_FF_2 refl w.Q false false notrack false (sized_q) w.Q e (o.Imm (pos 0)) 2 0xFF (0xFF ∷ []) [] (record { is_opcode = (refl, refl); begins = (refl, refl); are = (lit< tt, tt) }) (number_named w.Q e 2 false (lit< tt) (and-false (is_high e)) he range reach) refl (refl) (λ at. refl) (refl, tt) (omega (arith, bit_room notrack)) (lit≤ tt) nx (λ p pw pe px pr po pi pb pf pd. rw (pw, pe, pd) refl)

  -- an operand of a width of its own, and a register that is written
  pub to_named : (se s : Width) (e : Operand ℕ) (to : Reg) → is_place se e ≡ true → (is_high e && (is_quad s || is_extended to)) ≡ false → OperandInRange e → Reaches e → Named se next (rex_of_pair d (is_quad s) e (o.Reg to)) (site_of d e) (three to) (is_extended to) e
  to_named se s e to he apart range reach =
      let p = and_or (is_high e) (is_quad s) (is_extended to) apart in
      e_named se e (o.Reg to) (three to) (is_quad s) (three_small to) refl p.1 p.0 he range reach

  pub no_high : (s : Width) (e : Operand ℕ) (b : Bool) → is_wide s ≡ true → is_place s e ≡ true → (is_high e && b) ≡ false
  no_high w.B e b wide_s he = absurd cc
  no_high _ (o.Reg r) b wide_s he = refl
  no_high _ (o.Byte r) b wide_s he = absurd cc
  no_high _ (o.Mem a) b wide_s he = refl
  no_high _ (o.Imm v) b wide_s he = refl

  pub movzx_b : (s : Width) (to : Reg) (e : Operand ℕ) → is_wide s ≡ true → (is_high e && (is_quad s || is_extended to)) ≡ false → is_place w.B e ≡ true → OperandInRange e → Reaches e → next ≡ (address + length (with_register d s e (o.Reg to) (0x0F ∷ 0xB6 ∷ []))) % 2 ^ 64 → IsSpelled (i.MovZx w.B s to e) address (with_register d s e (o.Reg to) (0x0F ∷ 0xB6 ∷ []))
  unfolding value
  movzx_b s to e wide_s apart he range reach nx = pair_any (i.MovZx w.B s to e) row_0FB6 has_0FB6 refl s (is_word s) false false (is_quad s) (sized_v s wide_s) w.B e (o.Reg to) (three to) 0x0FB6 (0x0F ∷ 0xB6 ∷ []) [] (record { is_opcode = (refl, refl); begins = (refl, refl); are = (lit< tt, (lit< tt, tt)) }) (to_named w.B s e to he (apart) range reach) refl (refl) (λ at. refl) (refl, tt) (lit≤ tt) (lit≤ tt) nx (λ p pw pe px pr po pi pb pf pd. rw (pw, pe, pr, register_back to) refl)

  pub movzx_w : (s : Width) (to : Reg) (e : Operand ℕ) → is_long s ≡ true → is_place w.W e ≡ true → OperandInRange e → Reaches e → next ≡ (address + length (with_register d s e (o.Reg to) (0x0F ∷ 0xB7 ∷ []))) % 2 ^ 64 → IsSpelled (i.MovZx w.W s to e) address (with_register d s e (o.Reg to) (0x0F ∷ 0xB7 ∷ []))
  unfolding value
  movzx_w w.B to e long_s he range reach nx = absurd cc
  movzx_w w.W to e long_s he range reach nx = absurd cc
  movzx_w w.L to e long_s he range reach nx = pair_any (i.MovZx w.W w.L to e) row_0FB7 has_0FB7 refl w.L false false false (is_quad w.L) (sized_lq w.L refl) w.W e (o.Reg to) (three to) 0x0FB7 (0x0F ∷ 0xB7 ∷ []) [] (record { is_opcode = (refl, refl); begins = (refl, refl); are = (lit< tt, (lit< tt, tt)) }) (to_named w.W w.L e to he (no_high w.W e (is_quad w.L || is_extended to) refl he) range reach) refl (refl) (λ at. refl) (refl, tt) (lit≤ tt) (lit≤ tt) nx (λ p pw pe px pr po pi pb pf pd. rw (pw, pe, pr, register_back to) refl)
  movzx_w w.Q to e long_s he range reach nx = pair_any (i.MovZx w.W w.Q to e) row_0FB7 has_0FB7 refl w.Q false false false (is_quad w.Q) (sized_lq w.Q refl) w.W e (o.Reg to) (three to) 0x0FB7 (0x0F ∷ 0xB7 ∷ []) [] (record { is_opcode = (refl, refl); begins = (refl, refl); are = (lit< tt, (lit< tt, tt)) }) (to_named w.W w.Q e to he (no_high w.W e (is_quad w.Q || is_extended to) refl he) range reach) refl (refl) (λ at. refl) (refl, tt) (lit≤ tt) (lit≤ tt) nx (λ p pw pe px pr po pi pb pf pd. rw (pw, pe, pr, register_back to) refl)

  pub movsx_b : (s : Width) (to : Reg) (e : Operand ℕ) → is_wide s ≡ true → (is_high e && (is_quad s || is_extended to)) ≡ false → is_place w.B e ≡ true → OperandInRange e → Reaches e → next ≡ (address + length (with_register d s e (o.Reg to) (0x0F ∷ 0xBE ∷ []))) % 2 ^ 64 → IsSpelled (i.MovSx w.B s to e) address (with_register d s e (o.Reg to) (0x0F ∷ 0xBE ∷ []))
  unfolding value
  movsx_b s to e wide_s apart he range reach nx = pair_any (i.MovSx w.B s to e) row_0FBE has_0FBE refl s (is_word s) false false (is_quad s) (sized_v s wide_s) w.B e (o.Reg to) (three to) 0x0FBE (0x0F ∷ 0xBE ∷ []) [] (record { is_opcode = (refl, refl); begins = (refl, refl); are = (lit< tt, (lit< tt, tt)) }) (to_named w.B s e to he (apart) range reach) refl (refl) (λ at. refl) (refl, tt) (lit≤ tt) (lit≤ tt) nx (λ p pw pe px pr po pi pb pf pd. rw (pw, pe, pr, register_back to) refl)

  pub movsx_w : (s : Width) (to : Reg) (e : Operand ℕ) → is_long s ≡ true → is_place w.W e ≡ true → OperandInRange e → Reaches e → next ≡ (address + length (with_register d s e (o.Reg to) (0x0F ∷ 0xBF ∷ []))) % 2 ^ 64 → IsSpelled (i.MovSx w.W s to e) address (with_register d s e (o.Reg to) (0x0F ∷ 0xBF ∷ []))
  unfolding value
  movsx_w w.B to e long_s he range reach nx = absurd cc
  movsx_w w.W to e long_s he range reach nx = absurd cc
  movsx_w w.L to e long_s he range reach nx = pair_any (i.MovSx w.W w.L to e) row_0FBF has_0FBF refl w.L false false false (is_quad w.L) (sized_lq w.L refl) w.W e (o.Reg to) (three to) 0x0FBF (0x0F ∷ 0xBF ∷ []) [] (record { is_opcode = (refl, refl); begins = (refl, refl); are = (lit< tt, (lit< tt, tt)) }) (to_named w.W w.L e to he (no_high w.W e (is_quad w.L || is_extended to) refl he) range reach) refl (refl) (λ at. refl) (refl, tt) (lit≤ tt) (lit≤ tt) nx (λ p pw pe px pr po pi pb pf pd. rw (pw, pe, pr, register_back to) refl)
  movsx_w w.Q to e long_s he range reach nx = pair_any (i.MovSx w.W w.Q to e) row_0FBF has_0FBF refl w.Q false false false (is_quad w.Q) (sized_lq w.Q refl) w.W e (o.Reg to) (three to) 0x0FBF (0x0F ∷ 0xBF ∷ []) [] (record { is_opcode = (refl, refl); begins = (refl, refl); are = (lit< tt, (lit< tt, tt)) }) (to_named w.W w.Q e to he (no_high w.W e (is_quad w.Q || is_extended to) refl he) range reach) refl (refl) (λ at. refl) (refl, tt) (lit≤ tt) (lit≤ tt) nx (λ p pw pe px pr po pi pb pf pd. rw (pw, pe, pr, register_back to) refl)

  pub movsxd : (to : Reg) (e : Operand ℕ) → is_place w.L e ≡ true → OperandInRange e → Reaches e → next ≡ (address + length (with_register d w.Q e (o.Reg to) (0x63 ∷ []))) % 2 ^ 64 → IsSpelled (i.MovSx w.L w.Q to e) address (with_register d w.Q e (o.Reg to) (0x63 ∷ []))
  unfolding value
  movsxd to e he range reach nx = pair_any (i.MovSx w.L w.Q to e) row_63 has_63 refl w.Q false false false true (sized_must) w.L e (o.Reg to) (three to) 0x63 (0x63 ∷ []) [] (record { is_opcode = (refl, refl); begins = (refl, refl); are = (lit< tt, tt) }) (to_named w.L w.Q e to he (no_high w.L e (true || is_extended to) refl he) range reach) refl (refl) (λ at. refl) (refl, tt) (lit≤ tt) (lit≤ tt) nx (λ p pw pe px pr po pi pb pf pd. rw (pw, pe, pr, register_back to) refl)

  pub imul2 : (s : Width) (to : Reg) (e : Operand ℕ) → is_wide s ≡ true → is_place s e ≡ true → OperandInRange e → Reaches e → next ≡ (address + length (with_register d s e (o.Reg to) (0x0F ∷ 0xAF ∷ []))) % 2 ^ 64 → IsSpelled (i.Imul2 s to e) address (with_register d s e (o.Reg to) (0x0F ∷ 0xAF ∷ []))
  unfolding value
  imul2 s to e wide_s he range reach nx = pair_any (i.Imul2 s to e) row_0FAF has_0FAF refl s (is_word s) false false (is_quad s) (sized_v s wide_s) s e (o.Reg to) (three to) 0x0FAF (0x0F ∷ 0xAF ∷ []) [] (record { is_opcode = (refl, refl); begins = (refl, refl); are = (lit< tt, (lit< tt, tt)) }) (to_named s s e to he (no_high s e (is_quad s || is_extended to) wide_s he) range reach) refl (refl) (λ at. refl) (refl, tt) (lit≤ tt) (lit≤ tt) nx (λ p pw pe px pr po pi pb pf pd. rw (pw, pe, pr, register_back to) refl)

  pub cmov : (cond : Cond) (s : Width) (to : Reg) (e : Operand ℕ) → is_wide s ≡ true → is_place s e ≡ true → OperandInRange e → Reaches e → next ≡ (address + length (with_register d s e (o.Reg to) (0x0F ∷ (0x40 + condition_code cond) ∷ []))) % 2 ^ 64 → IsSpelled (i.Cmov cond s to e) address (with_register d s e (o.Reg to) (0x0F ∷ (0x40 + condition_code cond) ∷ []))
  unfolding value
  cmov cond s to e wide_s he range reach nx = pair_any (i.Cmov cond s to e) row_0F40 has_0F40 refl s (is_word s) false false (is_quad s) (sized_v s wide_s) s e (o.Reg to) (three to) (0x0F00 + (0x40 + condition_code cond)) (0x0F ∷ (0x40 + condition_code cond) ∷ []) [] (record { is_opcode = (refl, refl); begins = (refl, refl); are = (lit< tt, (omega (arith, condition_small cond), tt)) }) (to_named s s e to he (no_high s e (is_quad s || is_extended to) wide_s he) range reach) (is_cmov cond).in_row (refl) (λ at. refl) (refl, tt) (lit≤ tt) (lit≤ tt) nx (λ p pw pe px pr po pi pb pf pd. rw (pw, pe, pr, po, register_back to, (is_cmov cond).back) refl)

  pub scan_bsf : (s : Width) (to : Reg) (e : Operand ℕ) → is_wide s ≡ true → is_place s e ≡ true → OperandInRange e → Reaches e → next ≡ (address + length (with_register d s e (o.Reg to) (0x0F ∷ 0xBC ∷ []))) % 2 ^ 64 → IsSpelled (i.Scan scan.Bsf s to e) address (with_register d s e (o.Reg to) (0x0F ∷ 0xBC ∷ []))
  unfolding value
  scan_bsf s to e wide_s he range reach nx = pair_any (i.Scan scan.Bsf s to e) row_0FBC has_0FBC refl s (is_word s) false false (is_quad s) (sized_v s wide_s) s e (o.Reg to) (three to) 0x0FBC (0x0F ∷ 0xBC ∷ []) [] (record { is_opcode = (refl, refl); begins = (refl, refl); are = (lit< tt, (lit< tt, tt)) }) (to_named s s e to he (no_high s e (is_quad s || is_extended to) wide_s he) range reach) refl (refl) (λ at. refl) (refl, tt) (lit≤ tt) (lit≤ tt) nx (λ p pw pe px pr po pi pb pf pd. rw (pw, pe, pr, register_back to) refl)

  pub scan_bsr : (s : Width) (to : Reg) (e : Operand ℕ) → is_wide s ≡ true → is_place s e ≡ true → OperandInRange e → Reaches e → next ≡ (address + length (with_register d s e (o.Reg to) (0x0F ∷ 0xBD ∷ []))) % 2 ^ 64 → IsSpelled (i.Scan scan.Bsr s to e) address (with_register d s e (o.Reg to) (0x0F ∷ 0xBD ∷ []))
  unfolding value
  scan_bsr s to e wide_s he range reach nx = pair_any (i.Scan scan.Bsr s to e) row_0FBD has_0FBD refl s (is_word s) false false (is_quad s) (sized_v s wide_s) s e (o.Reg to) (three to) 0x0FBD (0x0F ∷ 0xBD ∷ []) [] (record { is_opcode = (refl, refl); begins = (refl, refl); are = (lit< tt, (lit< tt, tt)) }) (to_named s s e to he (no_high s e (is_quad s || is_extended to) wide_s he) range reach) refl (refl) (λ at. refl) (refl, tt) (lit≤ tt) (lit≤ tt) nx (λ p pw pe px pr po pi pb pf pd. rw (pw, pe, pr, register_back to) refl)

  pub scan_tzcnt : (s : Width) (to : Reg) (e : Operand ℕ) → is_wide s ≡ true → is_place s e ≡ true → OperandInRange e → Reaches e → next ≡ (address + length (pair_bytes d (is_word s) true false (is_quad s) e (o.Reg to) (three to) (0x0F ∷ 0xBC ∷ []) [])) % 2 ^ 64 → IsSpelled (i.Scan scan.Tzcnt s to e) address (pair_bytes d (is_word s) true false (is_quad s) e (o.Reg to) (three to) (0x0F ∷ 0xBC ∷ []) [])
  unfolding value
  scan_tzcnt s to e wide_s he range reach nx = pair_any (i.Scan scan.Tzcnt s to e) row_0FBC_F3 has_0FBC_F3 refl s (is_word s) true false (is_quad s) (sized_v s wide_s) s e (o.Reg to) (three to) 0x0FBC (0x0F ∷ 0xBC ∷ []) [] (record { is_opcode = (refl, refl); begins = (refl, refl); are = (lit< tt, (lit< tt, tt)) }) (to_named s s e to he (no_high s e (is_quad s || is_extended to) wide_s he) range reach) refl (refl) (λ at. refl) (refl, tt) (lit≤ tt) (lit≤ tt) nx (λ p pw pe px pr po pi pb pf pd. rw (pw, pe, pr, register_back to) refl)

  pub imul3_6B : (v : ℤ) (s : Width) (to : Reg) (e : Operand ℕ) → is_wide s ≡ true → fits_immediate w.B v ≡ true → is_place s e ≡ true → OperandInRange e → Reaches e → next ≡ (address + length (pair_bytes d (is_word s) false false (is_quad s) e (o.Reg to) (three to) (0x6B ∷ []) (one_byte v))) % 2 ^ 64 → IsSpelled (i.Imul3 s to e v) address (pair_bytes d (is_word s) false false (is_quad s) e (o.Reg to) (three to) (0x6B ∷ []) (one_byte v))
  unfolding value
  imul3_6B v s to e wide_s fit he range reach nx = pair_any (i.Imul3 s to e v) row_6B has_6B refl s (is_word s) false false (is_quad s) (sized_v s wide_s) s e (o.Reg to) (three to) 0x6B (0x6B ∷ []) (one_byte v) (record { is_opcode = (refl, refl); begins = (refl, refl); are = (lit< tt, tt) }) (to_named s s e to he (no_high s e (is_quad s || is_extended to) wide_s he) range reach) refl (refl) (λ at. refl) (refl, one_are v) (lit≤ tt) (lit≤ tt) nx (λ p pw pe px pr po pi pb pf pd. rw (pw, pe, pr, pi, register_back to, signed_1 v fit) refl)

  pub imul3_69 : (v : ℤ) (s : Width) (to : Reg) (e : Operand ℕ) → is_wide s ≡ true → fits_immediate s v ≡ true → is_place s e ≡ true → OperandInRange e → Reaches e → next ≡ (address + length (pair_bytes d (is_word s) false false (is_quad s) e (o.Reg to) (three to) (0x69 ∷ []) (imm_bytes s v))) % 2 ^ 64 → IsSpelled (i.Imul3 s to e v) address (pair_bytes d (is_word s) false false (is_quad s) e (o.Reg to) (three to) (0x69 ∷ []) (imm_bytes s v))
  unfolding value
  imul3_69 v w.B to e wide_s fit he range reach nx = absurd cc
  imul3_69 v s to e wide_s fit he range reach nx = pair_any (i.Imul3 s to e v) row_69 has_69 refl s (is_word s) false false (is_quad s) (sized_v s refl) s e (o.Reg to) (three to) 0x69 (0x69 ∷ []) (imm_bytes s v) (record { is_opcode = (refl, refl); begins = (refl, refl); are = (lit< tt, tt) }) (to_named s s e to he (no_high s e (is_quad s || is_extended to) refl he) range reach) refl (refl) (λ at. refl) (refl, imm_are s v) (lit≤ tt) (lit≤ tt) nx (λ p pw pe px pr po pi pb pf pd. rw (pw, pe, pr, pi, register_back to, imm_back s v fit) refl)

  pub lea : (s : Width) (to : Reg) (a : Mem ℕ) → is_wide s ≡ true → is_address a ≡ true → is_the_canary a ≡ false → MemInRange a → Reaches (o.Mem a) → next ≡ (address + length (with_register d s (o.Mem a) (o.Reg to) (0x8D ∷ []))) % 2 ^ 64 → IsSpelled (i.Lea s to a) address (with_register d s (o.Mem a) (o.Reg to) (0x8D ∷ []))
  unfolding value
  lea s to a wide_s he plain range reach nx =
      let named = mem_named next d s a (o.Reg to) (three to) (is_quad s) (three_small to) d_fits he range reach in
      let fs = mem_fs d a plain in
      let memory = (named.address (parts (fields_for (is_word s) (mem_site d a).fs false false (rex_of_pair d (is_quad s) (o.Mem a) (o.Reg to)) 0x8D 0) s 0 named.rm [] next) a refl refl refl).1 in
      pair_spells (i.Lea s to a) row_8D has_8D refl s (is_word s) false false (is_quad s) (sized_v s wide_s) s (o.Mem a) (o.Reg to) (three to) 0x8D (0x8D ∷ []) [] (record { is_opcode = (refl, refl); begins = (refl, refl); are = (lit< tt, tt) }) named refl refl (rw (fs, memory) refl) (λ at. refl) (refl, tt) (lit≤ tt) (lit≤ tt) nx
      (λ at q.
      let address_is = (named.address (parts (fields_for (is_word s) (mem_site d a).fs false false (rex_of_pair d (is_quad s) (o.Mem a) (o.Reg to)) 0x8D at) s (three to + bit (is_extended to) * 8) named.rm [] next) a refl refl refl).0 in
      rw (register_back to, address_is) refl)

  pub bit_register : (op : BitOp) (s : Width) (e g : Operand ℕ) → is_wide s ≡ true → is_register s e ≡ true → is_register s g ≡ true → next ≡ (address + length (with_register d s e g (0x0F ∷ (0x83 + bit_code op * 8) ∷ []))) % 2 ^ 64 → IsSpelled (i.Bit op s e g) address (with_register d s e g (0x0F ∷ (0x83 + bit_code op * 8) ∷ []))
  unfolding value
  bit_register bt.Bt s e g wide_s he hg nx =
      let named = eg_named s e g (register_place s e he) hg (both_wide s e g wide_s he hg) (register_in_range s e he) (register_reaches s e he) in
      let none = named.register (register_no_memory s e he) in
      pair_spells (i.Bit bt.Bt s e g) row_0FA3 has_0FA3 refl s (is_word s) false false (is_quad s) (sized_v s wide_s) s e g (number_of g) 0x0FA3 (0x0F ∷ 0xA3 ∷ []) [] (record { is_opcode = (refl, refl); begins = (refl, refl); are = (lit< tt, (lit< tt, tt)) }) named refl refl (rw (none.0, none.1) refl) (λ at. refl) (refl, tt) (lit≤ tt) (lit≤ tt) nx
      (λ at q. rw (q, eg_register s e g hg (both_wide s e g wide_s he hg)) refl)
  bit_register bt.Bts s e g wide_s he hg nx =
      let named = eg_named s e g (register_place s e he) hg (both_wide s e g wide_s he hg) (register_in_range s e he) (register_reaches s e he) in
      let none = named.register (register_no_memory s e he) in
      pair_spells (i.Bit bt.Bts s e g) row_0FAB has_0FAB refl s (is_word s) false false (is_quad s) (sized_v s wide_s) s e g (number_of g) 0x0FAB (0x0F ∷ 0xAB ∷ []) [] (record { is_opcode = (refl, refl); begins = (refl, refl); are = (lit< tt, (lit< tt, tt)) }) named refl refl (rw (none.0, none.1) refl) (λ at. refl) (refl, tt) (lit≤ tt) (lit≤ tt) nx
      (λ at q. rw (q, eg_register s e g hg (both_wide s e g wide_s he hg)) refl)
  bit_register bt.Btr s e g wide_s he hg nx =
      let named = eg_named s e g (register_place s e he) hg (both_wide s e g wide_s he hg) (register_in_range s e he) (register_reaches s e he) in
      let none = named.register (register_no_memory s e he) in
      pair_spells (i.Bit bt.Btr s e g) row_0FB3 has_0FB3 refl s (is_word s) false false (is_quad s) (sized_v s wide_s) s e g (number_of g) 0x0FB3 (0x0F ∷ 0xB3 ∷ []) [] (record { is_opcode = (refl, refl); begins = (refl, refl); are = (lit< tt, (lit< tt, tt)) }) named refl refl (rw (none.0, none.1) refl) (λ at. refl) (refl, tt) (lit≤ tt) (lit≤ tt) nx
      (λ at q. rw (q, eg_register s e g hg (both_wide s e g wide_s he hg)) refl)
  bit_register bt.Btc s e g wide_s he hg nx =
      let named = eg_named s e g (register_place s e he) hg (both_wide s e g wide_s he hg) (register_in_range s e he) (register_reaches s e he) in
      let none = named.register (register_no_memory s e he) in
      pair_spells (i.Bit bt.Btc s e g) row_0FBB has_0FBB refl s (is_word s) false false (is_quad s) (sized_v s wide_s) s e g (number_of g) 0x0FBB (0x0F ∷ 0xBB ∷ []) [] (record { is_opcode = (refl, refl); begins = (refl, refl); are = (lit< tt, (lit< tt, tt)) }) named refl refl (rw (none.0, none.1) refl) (λ at. refl) (refl, tt) (lit≤ tt) (lit≤ tt) nx
      (λ at q. rw (q, eg_register s e g hg (both_wide s e g wide_s he hg)) refl)

  -- an instruction without an operand of ModRM
  pub plain_spells : (insn : Insn ℕ) (row : Row) → Contains rows row → row.place ≡ place.NoModRm → row.numbers ≡ numbers.Any → (s : Width) (word f3 byte quad b : Bool) (o : ℕ) (opcode imm : List ℕ) → IsPlainOpcode o opcode → ((at : ℕ) → (is_size row.size (fields_for word false f3 false (rex_for byte quad false false b) o at) ≡ true) × (width_of row.size (fields_for word false f3 false (rex_for byte quad false false b) o at) ≡ s)) → is_in row.opcodes o ≡ true → ((at : ℕ) → are_marks row.marks (fields_for word false f3 false (rex_for byte quad false false b) o at) ≡ true) → (length imm ≡ imm_len row.imm s) × AreBytes imm → bit word + (bit f3 + (length opcode + length imm)) ≤ 9 → next ≡ (address + length (written word false f3 false (rex_for byte quad false false b) opcode [] imm)) % 2 ^ 64 → ((p : Parts) → p.w ≡ s → p.fields.rex ≡ rex_for byte quad false false b → p.fields.opcode ≡ o → p.imm ≡ signed imm → p.fields.f3 ≡ f3 → p.next ≡ next → value row.name row.form p ≡ insn) → IsSpelled insn address (written word false f3 false (rex_for byte quad false false b) opcode [] imm)
  plain_spells insn row in_table none any s word f3 byte quad b o opcode imm opc sized is_in_row marked imm_is short next_is value_is =
      let rex = rex_for byte quad false false b in
      let at = length (run_of word false f3 false ++ (rex_bytes rex ++ opcode)) in
      by_parts insn address next row in_table s word false f3 false rex o opcode [] imm 0 (rm.Reg 0) record {
        is_opcode = opc.is_opcode;
        begins = rex_begins byte quad false false b opcode opc.begins;
        operand_is = rw none (refl, refl, refl);
        width = (sized at).1;
        rex_are = rex_are byte quad false false b;
        opcode_are = opc.are;
        middle_are = tt;
        imm_are = imm_is.1;
        imm_is = imm_is.0;
        short = omega (arith, short, bit_room word);
        fitting = rw (is_in_row, any, none, (sized at).0, marked at) refl;
        next_is = next_is;
        insn_is = value_is (parts (fields_for word false f3 false rex o at) s 0 (rm.Reg 0) imm next) refl refl refl refl refl refl;
      }

  pub push_register : (r : Reg) → next ≡ (address + length (with_opcode false false (o.Reg r) ((0x50 + three r) ∷ []) [])) % 2 ^ 64 → IsSpelled (i.Push (o.Reg r)) address (with_opcode false false (o.Reg r) ((0x50 + three r) ∷ []) [])
  unfolding value
  push_register r nx = let opcode = low_opcode_50 (three r) (three_small r) in plain_spells (i.Push (o.Reg r)) row_50 has_50 refl refl w.Q false false false false (is_extended r) (0x50 + three r) ((0x50 + three r) ∷ []) [] (opcode.plain) (λ at. (refl, refl)) (opcode.in_row) (λ at. refl) (refl, tt) (lit≤ tt) nx (λ p pw px po pi pf pn. rw (pw, o_at w.Q (o.Reg r) false p (0x50 + three r) refl refl px po opcode.low) refl)

  pub pop_register : (r : Reg) → next ≡ (address + length (with_opcode false false (o.Reg r) ((0x58 + three r) ∷ []) [])) % 2 ^ 64 → IsSpelled (i.Pop (o.Reg r)) address (with_opcode false false (o.Reg r) ((0x58 + three r) ∷ []) [])
  unfolding value
  pop_register r nx = let opcode = low_opcode_58 (three r) (three_small r) in plain_spells (i.Pop (o.Reg r)) row_58 has_58 refl refl w.Q false false false false (is_extended r) (0x58 + three r) ((0x58 + three r) ∷ []) [] (opcode.plain) (λ at. (refl, refl)) (opcode.in_row) (λ at. refl) (refl, tt) (lit≤ tt) nx (λ p pw px po pi pf pn. rw (pw, o_at w.Q (o.Reg r) false p (0x58 + three r) refl refl px po opcode.low) refl)

  pub mov_B0 : (r : Reg8) (v : ℤ) → is_register {R = ℕ} w.B (o.Byte r) ≡ true → fits_immediate w.B v ≡ true → next ≡ (address + length (with_opcode false false (o.Byte r) ((0xB0 + number_of (o.Byte r)) ∷ []) (one_byte v))) % 2 ^ 64 → IsSpelled (i.Mov w.B (o.Byte r) (o.Imm v)) address (with_opcode false false (o.Byte r) ((0xB0 + number_of (o.Byte r)) ∷ []) (one_byte v))
  unfolding value
  mov_B0 r v h fit nx = let opcode = low_opcode_B0 (number_of (o.Byte r)) (number_small w.B (o.Byte r) h) in plain_spells (i.Mov w.B (o.Byte r) (o.Imm v)) row_B0 has_B0 refl refl w.B false false (asks_rex (o.Byte r)) false (extended_of (o.Byte r)) (0xB0 + number_of (o.Byte r)) ((0xB0 + number_of (o.Byte r)) ∷ []) (one_byte v) (opcode.plain) (λ at. (refl, refl)) (opcode.in_row) (λ at. refl) (refl, one_are v) (lit≤ tt) nx (λ p pw px po pi pf pn. rw (pw, pi, signed_1 v fit, o_at w.B (o.Byte r) false p (0xB0 + number_of (o.Byte r)) h (and-false (is_high {R = ℕ} (o.Byte r))) px po opcode.low) refl)

  pub mov_B8_w : (r : Reg) (v : ℤ) → fits_immediate w.W v ≡ true → next ≡ (address + length (with_opcode true false (o.Reg r) ((0xB8 + three r) ∷ []) (two_bytes v))) % 2 ^ 64 → IsSpelled (i.Mov w.W (o.Reg r) (o.Imm v)) address (with_opcode true false (o.Reg r) ((0xB8 + three r) ∷ []) (two_bytes v))
  unfolding value
  mov_B8_w r v fit nx = let opcode = low_opcode_B8 (three r) (three_small r) in plain_spells (i.Mov w.W (o.Reg r) (o.Imm v)) row_B8 has_B8 refl refl w.W true false false false (is_extended r) (0xB8 + three r) ((0xB8 + three r) ∷ []) (two_bytes v) (opcode.plain) (λ at. let bits = rex_bits false false false false (is_extended r) in (rw bits.w_is refl, refl)) (opcode.in_row) (λ at. refl) (refl, two_are v) (lit≤ tt) nx (λ p pw px po pi pf pn. rw (pw, pi, imm_back w.W v fit, o_at w.W (o.Reg r) false p (0xB8 + three r) refl refl px po opcode.low) refl)

  pub mov_B8_l : (r : Reg) (v : ℤ) → fits_immediate w.L v ≡ true → next ≡ (address + length (with_opcode false false (o.Reg r) ((0xB8 + three r) ∷ []) (four_bytes v))) % 2 ^ 64 → IsSpelled (i.Mov w.L (o.Reg r) (o.Imm v)) address (with_opcode false false (o.Reg r) ((0xB8 + three r) ∷ []) (four_bytes v))
  unfolding value
  mov_B8_l r v fit nx = let opcode = low_opcode_B8 (three r) (three_small r) in plain_spells (i.Mov w.L (o.Reg r) (o.Imm v)) row_B8 has_B8 refl refl w.L false false false false (is_extended r) (0xB8 + three r) ((0xB8 + three r) ∷ []) (four_bytes v) (opcode.plain) (λ at. let bits = rex_bits false false false false (is_extended r) in (rw bits.w_is refl, refl)) (opcode.in_row) (λ at. refl) (refl, four_are v) (lit≤ tt) nx (λ p pw px po pi pf pn. rw (pw, pi, imm_back w.L v fit, o_at w.L (o.Reg r) false p (0xB8 + three r) refl refl px po opcode.low) refl)

  pub mov_abs : (r : Reg) (v : ℤ) → FitsSigned w64 v → next ≡ (address + length (with_opcode false true (o.Reg r) ((0xB8 + three r) ∷ []) (eight_bytes v))) % 2 ^ 64 → IsSpelled (i.MovAbs r v) address (with_opcode false true (o.Reg r) ((0xB8 + three r) ∷ []) (eight_bytes v))
  unfolding value
  mov_abs r v fit nx = let opcode = low_opcode_B8 (three r) (three_small r) in plain_spells (i.MovAbs r v) row_B8_W has_B8_W refl refl w.Q false false false true (is_extended r) (0xB8 + three r) ((0xB8 + three r) ∷ []) (eight_bytes v) (opcode.plain) (λ at. (rw (rex_bits false true false false (is_extended r)).w_is refl, refl)) (opcode.in_row) (λ at. refl) (refl, eight_are v) (lit≤ tt) nx (λ p pw px po pi pf pn. rw (pi, signed_8 v fit, o_code_is p false true (is_extended r) (0xB8 + three r) (three r) px po opcode.low, register_back r) refl)

  pub bswap : (s : Width) (r : Reg) → is_long s ≡ true → next ≡ (address + length (with_opcode false (is_quad s) (o.Reg r) (0x0F ∷ (0xC8 + three r) ∷ []) [])) % 2 ^ 64 → IsSpelled (i.Bswap s r) address (with_opcode false (is_quad s) (o.Reg r) (0x0F ∷ (0xC8 + three r) ∷ []) [])
  unfolding value
  bswap w.B r long_s nx = absurd cc
  bswap w.W r long_s nx = absurd cc
  bswap w.L r long_s nx = let opcode = bswap_opcode (three r) (three_small r) in plain_spells (i.Bswap w.L r) row_0FC8 has_0FC8 refl refl w.L false false false false (is_extended r) (0x0F00 + (0xC8 + three r)) (0x0F ∷ (0xC8 + three r) ∷ []) [] (record { is_opcode = (refl, refl); begins = (refl, refl); are = (lit< tt, (omega (arith, three_small r), tt)) }) (λ at. sized_lq w.L refl false false false (rex_for false false false false (is_extended r)) (0x0F00 + (0xC8 + three r)) at (rex_bits false false false false (is_extended r)).w_is) (opcode.in_row) (λ at. refl) (refl, tt) (lit≤ tt) nx (λ p pw px po pi pf pn. rw (pw, o_code_is p false false (is_extended r) (0x0F00 + (0xC8 + three r)) (three r) px po opcode.low, register_back r) refl)
  bswap w.Q r long_s nx = let opcode = bswap_opcode (three r) (three_small r) in plain_spells (i.Bswap w.Q r) row_0FC8 has_0FC8 refl refl w.Q false false false true (is_extended r) (0x0F00 + (0xC8 + three r)) (0x0F ∷ (0xC8 + three r) ∷ []) [] (record { is_opcode = (refl, refl); begins = (refl, refl); are = (lit< tt, (omega (arith, three_small r), tt)) }) (λ at. sized_lq w.Q refl false false false (rex_for false true false false (is_extended r)) (0x0F00 + (0xC8 + three r)) at (rex_bits false true false false (is_extended r)).w_is) (opcode.in_row) (λ at. refl) (refl, tt) (lit≤ tt) nx (λ p pw px po pi pf pn. rw (pw, o_code_is p false true (is_extended r) (0x0F00 + (0xC8 + three r)) (three r) px po opcode.low, register_back r) refl)

  pub push_6A : (v : ℤ) → fits_immediate w.B v ≡ true → next ≡ (address + length (bare false false false (0x6A ∷ []) (one_byte v))) % 2 ^ 64 → IsSpelled (i.Push (o.Imm v)) address (bare false false false (0x6A ∷ []) (one_byte v))
  unfolding value
  push_6A v fit nx = plain_spells (i.Push (o.Imm v)) row_6A has_6A refl refl w.Q false false false false false 0x6A (0x6A ∷ []) (one_byte v) (record { is_opcode = (refl, refl); begins = (refl, refl); are = (lit< tt, tt) }) (λ at. (refl, refl)) (refl) (λ at. refl) (refl, one_are v) (lit≤ tt) nx (λ p pw px po pi pf pn. rw (pi, signed_1 v fit) refl)

  pub push_68 : (v : ℤ) → fits_immediate w.Q v ≡ true → next ≡ (address + length (bare false false false (0x68 ∷ []) (four_bytes v))) % 2 ^ 64 → IsSpelled (i.Push (o.Imm v)) address (bare false false false (0x68 ∷ []) (four_bytes v))
  unfolding value
  push_68 v fit nx = plain_spells (i.Push (o.Imm v)) row_68 has_68 refl refl w.Q false false false false false 0x68 (0x68 ∷ []) (four_bytes v) (record { is_opcode = (refl, refl); begins = (refl, refl); are = (lit< tt, tt) }) (λ at. (refl, refl)) (refl) (λ at. refl) (refl, four_are v) (lit≤ tt) nx (λ p pw px po pi pf pn. rw (pi, imm_back w.Q v fit) refl)

  pub convert_cbtw : next ≡ (address + length (bare true false false (0x98 ∷ []) [])) % 2 ^ 64 → IsSpelled (i.Convert convert.Cbtw) address (bare true false false (0x98 ∷ []) [])
  unfolding value
  convert_cbtw nx = plain_spells (i.Convert convert.Cbtw) row_98 has_98 refl refl w.W true false false false false 0x98 (0x98 ∷ []) [] (record { is_opcode = (refl, refl); begins = (refl, refl); are = (lit< tt, tt) }) (λ at. (refl, refl)) (refl) (λ at. refl) (refl, tt) (lit≤ tt) nx (λ p pw px po pi pf pn. rw pw refl)

  pub convert_cwtl : next ≡ (address + length (bare false false false (0x98 ∷ []) [])) % 2 ^ 64 → IsSpelled (i.Convert convert.Cwtl) address (bare false false false (0x98 ∷ []) [])
  unfolding value
  convert_cwtl nx = plain_spells (i.Convert convert.Cwtl) row_98 has_98 refl refl w.L false false false false false 0x98 (0x98 ∷ []) [] (record { is_opcode = (refl, refl); begins = (refl, refl); are = (lit< tt, tt) }) (λ at. (refl, refl)) (refl) (λ at. refl) (refl, tt) (lit≤ tt) nx (λ p pw px po pi pf pn. rw pw refl)

  pub convert_cltq : next ≡ (address + length (bare false false true (0x98 ∷ []) [])) % 2 ^ 64 → IsSpelled (i.Convert convert.Cltq) address (bare false false true (0x98 ∷ []) [])
  unfolding value
  convert_cltq nx = plain_spells (i.Convert convert.Cltq) row_98 has_98 refl refl w.Q false false false true false 0x98 (0x98 ∷ []) [] (record { is_opcode = (refl, refl); begins = (refl, refl); are = (lit< tt, tt) }) (λ at. (refl, refl)) (refl) (λ at. refl) (refl, tt) (lit≤ tt) nx (λ p pw px po pi pf pn. rw pw refl)

  pub convert_cwtd : next ≡ (address + length (bare true false false (0x99 ∷ []) [])) % 2 ^ 64 → IsSpelled (i.Convert convert.Cwtd) address (bare true false false (0x99 ∷ []) [])
  unfolding value
  convert_cwtd nx = plain_spells (i.Convert convert.Cwtd) row_99 has_99 refl refl w.W true false false false false 0x99 (0x99 ∷ []) [] (record { is_opcode = (refl, refl); begins = (refl, refl); are = (lit< tt, tt) }) (λ at. (refl, refl)) (refl) (λ at. refl) (refl, tt) (lit≤ tt) nx (λ p pw px po pi pf pn. rw pw refl)

  pub convert_cltd : next ≡ (address + length (bare false false false (0x99 ∷ []) [])) % 2 ^ 64 → IsSpelled (i.Convert convert.Cltd) address (bare false false false (0x99 ∷ []) [])
  unfolding value
  convert_cltd nx = plain_spells (i.Convert convert.Cltd) row_99 has_99 refl refl w.L false false false false false 0x99 (0x99 ∷ []) [] (record { is_opcode = (refl, refl); begins = (refl, refl); are = (lit< tt, tt) }) (λ at. (refl, refl)) (refl) (λ at. refl) (refl, tt) (lit≤ tt) nx (λ p pw px po pi pf pn. rw pw refl)

  pub convert_cqto : next ≡ (address + length (bare false false true (0x99 ∷ []) [])) % 2 ^ 64 → IsSpelled (i.Convert convert.Cqto) address (bare false false true (0x99 ∷ []) [])
  unfolding value
  convert_cqto nx = plain_spells (i.Convert convert.Cqto) row_99 has_99 refl refl w.Q false false false true false 0x99 (0x99 ∷ []) [] (record { is_opcode = (refl, refl); begins = (refl, refl); are = (lit< tt, tt) }) (λ at. (refl, refl)) (refl) (λ at. refl) (refl, tt) (lit≤ tt) nx (λ p pw px po pi pf pn. rw pw refl)

  pub movs : (s : Width) (rep : Bool) → next ≡ (address + length (bare (is_word s) rep (is_quad s) ((0xA4 + wide s) ∷ []) [])) % 2 ^ 64 → IsSpelled (i.Movs s rep) address (bare (is_word s) rep (is_quad s) ((0xA4 + wide s) ∷ []) [])
  unfolding value
  movs w.B rep nx = plain_spells (i.Movs w.B rep) row_A4 has_A4 refl refl w.B false rep false false false 0xA4 (0xA4 ∷ []) [] (record { is_opcode = (refl, refl); begins = (refl, refl); are = (lit< tt, tt) }) (λ at. (refl, refl)) (refl) (λ at. refl) (refl, tt) (omega (arith, bit_room rep)) nx (λ p pw px po pi pf pn. rw (pw, pf) refl)
  movs w.W rep nx = plain_spells (i.Movs w.W rep) row_A5 has_A5 refl refl w.W true rep false false false 0xA5 (0xA5 ∷ []) [] (record { is_opcode = (refl, refl); begins = (refl, refl); are = (lit< tt, tt) }) (λ at. (refl, refl)) (refl) (λ at. refl) (refl, tt) (omega (arith, bit_room rep)) nx (λ p pw px po pi pf pn. rw (pw, pf) refl)
  movs w.L rep nx = plain_spells (i.Movs w.L rep) row_A5 has_A5 refl refl w.L false rep false false false 0xA5 (0xA5 ∷ []) [] (record { is_opcode = (refl, refl); begins = (refl, refl); are = (lit< tt, tt) }) (λ at. (refl, refl)) (refl) (λ at. refl) (refl, tt) (omega (arith, bit_room rep)) nx (λ p pw px po pi pf pn. rw (pw, pf) refl)
  movs w.Q rep nx = plain_spells (i.Movs w.Q rep) row_A5 has_A5 refl refl w.Q false rep false true false 0xA5 (0xA5 ∷ []) [] (record { is_opcode = (refl, refl); begins = (refl, refl); are = (lit< tt, tt) }) (λ at. (refl, refl)) (refl) (λ at. refl) (refl, tt) (omega (arith, bit_room rep)) nx (λ p pw px po pi pf pn. rw (pw, pf) refl)

  pub stos : (s : Width) (rep : Bool) → next ≡ (address + length (bare (is_word s) rep (is_quad s) ((0xAA + wide s) ∷ []) [])) % 2 ^ 64 → IsSpelled (i.Stos s rep) address (bare (is_word s) rep (is_quad s) ((0xAA + wide s) ∷ []) [])
  unfolding value
  stos w.B rep nx = plain_spells (i.Stos w.B rep) row_AA has_AA refl refl w.B false rep false false false 0xAA (0xAA ∷ []) [] (record { is_opcode = (refl, refl); begins = (refl, refl); are = (lit< tt, tt) }) (λ at. (refl, refl)) (refl) (λ at. refl) (refl, tt) (omega (arith, bit_room rep)) nx (λ p pw px po pi pf pn. rw (pw, pf) refl)
  stos w.W rep nx = plain_spells (i.Stos w.W rep) row_AB has_AB refl refl w.W true rep false false false 0xAB (0xAB ∷ []) [] (record { is_opcode = (refl, refl); begins = (refl, refl); are = (lit< tt, tt) }) (λ at. (refl, refl)) (refl) (λ at. refl) (refl, tt) (omega (arith, bit_room rep)) nx (λ p pw px po pi pf pn. rw (pw, pf) refl)
  stos w.L rep nx = plain_spells (i.Stos w.L rep) row_AB has_AB refl refl w.L false rep false false false 0xAB (0xAB ∷ []) [] (record { is_opcode = (refl, refl); begins = (refl, refl); are = (lit< tt, tt) }) (λ at. (refl, refl)) (refl) (λ at. refl) (refl, tt) (omega (arith, bit_room rep)) nx (λ p pw px po pi pf pn. rw (pw, pf) refl)
  stos w.Q rep nx = plain_spells (i.Stos w.Q rep) row_AB has_AB refl refl w.Q false rep false true false 0xAB (0xAB ∷ []) [] (record { is_opcode = (refl, refl); begins = (refl, refl); are = (lit< tt, tt) }) (λ at. (refl, refl)) (refl) (λ at. refl) (refl, tt) (omega (arith, bit_room rep)) nx (λ p pw px po pi pf pn. rw (pw, pf) refl)

  pub jcc : (cond : Cond) (to : ℕ) → to ≡ at_distance next d → next ≡ (address + length (bare false false false (0x0F ∷ (0x80 + condition_code cond) ∷ []) (four_bytes d))) % 2 ^ 64 → IsSpelled (i.Jcc cond to) address (bare false false false (0x0F ∷ (0x80 + condition_code cond) ∷ []) (four_bytes d))
  unfolding value
  jcc cond to reach nx = plain_spells (i.Jcc cond to) row_0F80 has_0F80 refl refl w.Q false false false false false (0x0F00 + (0x80 + condition_code cond)) (0x0F ∷ (0x80 + condition_code cond) ∷ []) (four_bytes d) (record { is_opcode = (refl, refl); begins = (refl, refl); are = (lit< tt, (omega (arith, condition_small cond), tt)) }) (λ at. (refl, refl)) ((is_jcc cond).in_row) (λ at. refl) (refl, four_are d) (lit≤ tt) nx (λ p pw px po pi pf pn. rw (po, pn, pi, signed_4 d d_fits, (is_jcc cond).back, reach) refl)

  pub jmp : (to : ℕ) → to ≡ at_distance next d → next ≡ (address + length (bare false false false (0xE9 ∷ []) (four_bytes d))) % 2 ^ 64 → IsSpelled (i.Jmp to) address (bare false false false (0xE9 ∷ []) (four_bytes d))
  unfolding value
  jmp to reach nx = plain_spells (i.Jmp to) row_E9 has_E9 refl refl w.Q false false false false false 0xE9 (0xE9 ∷ []) (four_bytes d) (record { is_opcode = (refl, refl); begins = (refl, refl); are = (lit< tt, tt) }) (λ at. (refl, refl)) (refl) (λ at. refl) (refl, four_are d) (lit≤ tt) nx (λ p pw px po pi pf pn. rw (pn, pi, signed_4 d d_fits, reach) refl)

  pub call : (to : ℕ) → to ≡ at_distance next d → next ≡ (address + length (bare false false false (0xE8 ∷ []) (four_bytes d))) % 2 ^ 64 → IsSpelled (i.Call to) address (bare false false false (0xE8 ∷ []) (four_bytes d))
  unfolding value
  call to reach nx = plain_spells (i.Call to) row_E8 has_E8 refl refl w.Q false false false false false 0xE8 (0xE8 ∷ []) (four_bytes d) (record { is_opcode = (refl, refl); begins = (refl, refl); are = (lit< tt, tt) }) (λ at. (refl, refl)) (refl) (λ at. refl) (refl, four_are d) (lit≤ tt) nx (λ p pw px po pi pf pn. rw (pn, pi, signed_4 d d_fits, reach) refl)

  pub ret : next ≡ (address + length (bare false false false (0xC3 ∷ []) [])) % 2 ^ 64 → IsSpelled (i.Ret) address (bare false false false (0xC3 ∷ []) [])
  unfolding value
  ret nx = plain_spells (i.Ret) row_C3 has_C3 refl refl w.Q false false false false false 0xC3 (0xC3 ∷ []) [] (record { is_opcode = (refl, refl); begins = (refl, refl); are = (lit< tt, tt) }) (λ at. (refl, refl)) (refl) (λ at. refl) (refl, tt) (lit≤ tt) nx (λ p pw px po pi pf pn. refl)

  pub leave : next ≡ (address + length (bare false false false (0xC9 ∷ []) [])) % 2 ^ 64 → IsSpelled (i.Leave) address (bare false false false (0xC9 ∷ []) [])
  unfolding value
  leave nx = plain_spells (i.Leave) row_C9 has_C9 refl refl w.Q false false false false false 0xC9 (0xC9 ∷ []) [] (record { is_opcode = (refl, refl); begins = (refl, refl); are = (lit< tt, tt) }) (λ at. (refl, refl)) (refl) (λ at. refl) (refl, tt) (lit≤ tt) nx (λ p pw px po pi pf pn. refl)

  pub syscall : next ≡ (address + length (bare false false false (0x0F ∷ 0x05 ∷ []) [])) % 2 ^ 64 → IsSpelled (i.Syscall) address (bare false false false (0x0F ∷ 0x05 ∷ []) [])
  unfolding value
  syscall nx = plain_spells (i.Syscall) row_0F05 has_0F05 refl refl w.Q false false false false false 0x0F05 (0x0F ∷ 0x05 ∷ []) [] (record { is_opcode = (refl, refl); begins = (refl, refl); are = (lit< tt, (lit< tt, tt)) }) (λ at. (refl, refl)) (refl) (λ at. refl) (refl, tt) (lit≤ tt) nx (λ p pw px po pi pf pn. refl)

  pub nop : next ≡ (address + length (bare false false false (0x90 ∷ []) [])) % 2 ^ 64 → IsSpelled (i.Plain plain.Nop) address (bare false false false (0x90 ∷ []) [])
  unfolding value
  nop nx = plain_spells (i.Plain plain.Nop) row_90 has_90 refl refl w.Q false false false false false 0x90 (0x90 ∷ []) [] (record { is_opcode = (refl, refl); begins = (refl, refl); are = (lit< tt, tt) }) (λ at. (refl, refl)) (refl) (λ at. refl) (refl, tt) (lit≤ tt) nx (λ p pw px po pi pf pn. refl)

  pub pause : next ≡ (address + length (bare false true false (0x90 ∷ []) [])) % 2 ^ 64 → IsSpelled (i.Plain plain.Pause) address (bare false true false (0x90 ∷ []) [])
  unfolding value
  pause nx = plain_spells (i.Plain plain.Pause) row_90_F3 has_90_F3 refl refl w.Q false true false false false 0x90 (0x90 ∷ []) [] (record { is_opcode = (refl, refl); begins = (refl, refl); are = (lit< tt, tt) }) (λ at. (refl, refl)) (refl) (λ at. refl) (refl, tt) (lit≤ tt) nx (λ p pw px po pi pf pn. refl)

  pub ud2 : next ≡ (address + length (bare false false false (0x0F ∷ 0x0B ∷ []) [])) % 2 ^ 64 → IsSpelled (i.Plain plain.Ud2) address (bare false false false (0x0F ∷ 0x0B ∷ []) [])
  unfolding value
  ud2 nx = plain_spells (i.Plain plain.Ud2) row_0F0B has_0F0B refl refl w.Q false false false false false 0x0F0B (0x0F ∷ 0x0B ∷ []) [] (record { is_opcode = (refl, refl); begins = (refl, refl); are = (lit< tt, (lit< tt, tt)) }) (λ at. (refl, refl)) (refl) (λ at. refl) (refl, tt) (lit≤ tt) nx (λ p pw px po pi pf pn. refl)

  pub int3 : next ≡ (address + length (bare false false false (0xCC ∷ []) [])) % 2 ^ 64 → IsSpelled (i.Plain plain.Int3) address (bare false false false (0xCC ∷ []) [])
  unfolding value
  int3 nx = plain_spells (i.Plain plain.Int3) row_CC has_CC refl refl w.Q false false false false false 0xCC (0xCC ∷ []) [] (record { is_opcode = (refl, refl); begins = (refl, refl); are = (lit< tt, tt) }) (λ at. (refl, refl)) (refl) (λ at. refl) (refl, tt) (lit≤ tt) nx (λ p pw px po pi pf pn. refl)

  pub hlt : next ≡ (address + length (bare false false false (0xF4 ∷ []) [])) % 2 ^ 64 → IsSpelled (i.Plain plain.Hlt) address (bare false false false (0xF4 ∷ []) [])
  unfolding value
  hlt nx = plain_spells (i.Plain plain.Hlt) row_F4 has_F4 refl refl w.Q false false false false false 0xF4 (0xF4 ∷ []) [] (record { is_opcode = (refl, refl); begins = (refl, refl); are = (lit< tt, tt) }) (λ at. (refl, refl)) (refl) (λ at. refl) (refl, tt) (lit≤ tt) nx (λ p pw px po pi pf pn. refl)

  pub endbr64 : next ≡ (address + length (written false false true false None (0x0F ∷ 0x1E ∷ []) (0xFA ∷ []) [])) % 2 ^ 64 → IsSpelled (i.Plain plain.Endbr64) address (written false false true false None (0x0F ∷ 0x1E ∷ []) (0xFA ∷ []) [])
  unfolding value
  endbr64 nx = by_parts (i.Plain plain.Endbr64) address next row_0F1E_7 has_0F1E_7 w.Q false false true false None 0x0F1E (0x0F ∷ 0x1E ∷ []) (0xFA ∷ []) [] 7 (rm.Reg 2) record {
    is_opcode = (refl, refl);
    begins = (refl, refl);
    operand_is = record { m = 0xFA; sib = None; disp = []; spelled = refl; sib_is = refl; disp_is = refl; reg_is = refl; operand_is = refl };
    rex_are = tt;
    opcode_are = (lit< tt, (lit< tt, tt));
    middle_are = (lit< tt, tt);
    imm_are = tt;
    width = refl;
    imm_is = refl;
    short = lit≤ tt;
    fitting = refl;
    next_is = nx;
    insn_is = refl;
  }

  pub first_reaches : (a b : Option ℕ) → IfSome (or_else a b) (λ r. r ≡ at_distance next d) → IfSome a (λ r. r ≡ at_distance next d)
  first_reaches None b h = tt
  first_reaches (Some r) b h = h

  pub second_reaches : (a b : Option ℕ) → a ≡ None → IfSome (or_else a b) (λ r. r ≡ at_distance next d) → IfSome b (λ r. r ≡ at_distance next d)
  second_reaches a b e h = rw e at h

  abbrev pub ReachesAll : Insn ℕ → Type 0
  ReachesAll insn = IfSome (reference_of insn) (λ r. r ≡ at_distance next d)

  pub alu_spells : (op : AluOp) (s : Width) (to from : Operand ℕ) → are_operands s to from ≡ true → OperandInRange to × OperandInRange from → ReachesAll (i.Alu op s to from) → next ≡ (address + length (alu_bytes d op s to from)) % 2 ^ 64 → IsSpelled (i.Alu op s to from) address (alu_bytes d op s to from)
  alu_spells op s to (o.Imm v) h range reach nx = let k = imm_ok s to v h in alu_imm_spells op s to v k.1 k.0 range.0 (first_reaches (operand_reference to) None reach) nx
  alu_spells op s to (o.Mem a) h range reach nx = let k = ge_ok s to a h in alu_ge op s (o.Mem a) to k.1 k.0 k.2 range.1 (second_reaches (operand_reference to) (mem_reference a) (register_reference s to k.0) reach) nx
  alu_spells op s to (o.Reg r) h range reach nx = let k = eg_ok s to (o.Reg r) refl refl h in alu_eg op s to (o.Reg r) k.0 k.1 k.2 range.0 (first_reaches (operand_reference to) None reach) nx
  alu_spells op s to (o.Byte r) h range reach nx = let k = eg_ok s to (o.Byte r) refl refl h in alu_eg op s to (o.Byte r) k.0 k.1 k.2 range.0 (first_reaches (operand_reference to) None reach) nx

  pub mov_imm_spells : (s : Width) (to : Operand ℕ) (v : ℤ) → is_place s to ≡ true → fits_immediate s v ≡ true → OperandInRange to → Reaches to → next ≡ (address + length (mov_imm d s to v)) % 2 ^ 64 → IsSpelled (i.Mov s to (o.Imm v)) address (mov_imm d s to v)
  mov_imm_spells w.B (o.Byte r) v h fit range reach nx = mov_B0 r v h fit nx
  mov_imm_spells w.W (o.Reg r) v h fit range reach nx = mov_B8_w r v fit nx
  mov_imm_spells w.L (o.Reg r) v h fit range reach nx = mov_B8_l r v fit nx
  mov_imm_spells s to v h fit range reach nx = mov_number s to v fit h range reach nx

  pub mov_spells : (s : Width) (to from : Operand ℕ) → are_operands s to from ≡ true → OperandInRange to × OperandInRange from → ReachesAll (i.Mov s to from) → next ≡ (address + length (mov_bytes d s to from)) % 2 ^ 64 → IsSpelled (i.Mov s to from) address (mov_bytes d s to from)
  mov_spells s to (o.Imm v) h range reach nx = let k = imm_ok s to v h in mov_imm_spells s to v k.0 k.1 range.0 (first_reaches (operand_reference to) None reach) nx
  mov_spells s to (o.Mem a) h range reach nx = let k = ge_ok s to a h in mov_ge s (o.Mem a) to k.1 k.0 k.2 range.1 (second_reaches (operand_reference to) (mem_reference a) (register_reference s to k.0) reach) nx
  mov_spells s to (o.Reg r) h range reach nx = let k = eg_ok s to (o.Reg r) refl refl h in mov_eg s to (o.Reg r) k.0 k.1 k.2 range.0 (first_reaches (operand_reference to) None reach) nx
  mov_spells s to (o.Byte r) h range reach nx = let k = eg_ok s to (o.Byte r) refl refl h in mov_eg s to (o.Byte r) k.0 k.1 k.2 range.0 (first_reaches (operand_reference to) None reach) nx

  pub test_spells : (s : Width) (e by : Operand ℕ) → (is_place s e && (is_register s by || is_immediate s by) && go_together e by) ≡ true → OperandInRange e → ReachesAll (i.Test s e by) → next ≡ (address + length (test_bytes d s e by)) % 2 ^ 64 → IsSpelled (i.Test s e by) address (test_bytes d s e by)
  test_spells s e (o.Imm v) h range reach nx =
      let k = test_bool (is_place s e) (is_register s (o.Imm v)) (fits_immediate s v) (go_together e (o.Imm v)) h in
      test_imm s e v (rw (no_immediate s v) at k.1) k.0 range (first_reaches (operand_reference e) None reach) nx
  test_spells s e (o.Mem a) h range reach nx =
      let k = test_bool (is_place s e) (is_register s (o.Mem a)) false (go_together e (o.Mem a)) h in
      let bad : (false || false) ≡ true = rw (no_register s a) at k.1 in
      absurd cc
  test_spells s e (o.Reg r) h range reach nx =
      let k = test_bool (is_place s e) (is_register s (o.Reg r)) false (go_together e (o.Reg r)) h in
      test_eg s e (o.Reg r) k.0 (rw (or-false (is_register s (o.Reg r))) at k.1) k.2 range (first_reaches (operand_reference e) None reach) nx
  test_spells s e (o.Byte r) h range reach nx =
      let k = test_bool (is_place s e) (is_register s (o.Byte r)) false (go_together e (o.Byte r)) h in
      test_eg s e (o.Byte r) k.0 (rw (or-false (is_register s (o.Byte r))) at k.1) k.2 range (first_reaches (operand_reference e) None reach) nx

  pub bit_spells : (op : BitOp) (s : Width) (at index : Operand ℕ) → (is_wide s && is_place s at && is_bit_index s at index) ≡ true → OperandInRange at → ReachesAll (i.Bit op s at index) → next ≡ (address + length (bit_bytes d op s at index)) % 2 ^ 64 → IsSpelled (i.Bit op s at index) address (bit_bytes d op s at index)
  bit_spells op s at (o.Imm (pos n)) h range reach nx =
      let k = three_parts (is_wide s) (is_place s at) (is_bit_index s at (o.Imm (pos n))) h in
      bit_imm op s at n k.0 k.2 k.1 range (first_reaches (operand_reference at) None reach) nx
  bit_spells op s at (o.Imm (negsuc n)) h range reach nx =
      let k = three_parts (is_wide s) (is_place s at) (is_bit_index s at (o.Imm (negsuc n))) h in
      absurd (let none = no_negative s at n k.0 in cc)
  bit_spells op s at (o.Reg r) h range reach nx = let k = bit_ok s at (o.Reg r) (λ v e. absurd cc) h in bit_register op s at (o.Reg r) k.0 k.1 k.2 nx
  bit_spells op s at (o.Byte r) h range reach nx = let k = bit_ok s at (o.Byte r) (λ v e. absurd cc) h in bit_register op s at (o.Byte r) k.0 k.1 k.2 nx
  bit_spells op s at (o.Mem a) h range reach nx = let k = bit_ok s at (o.Mem a) (λ v e. absurd cc) h in absurd (register_no_memory s (o.Mem a) k.2 a refl)

  pub push_spells : (from : Operand ℕ) → (is_place w.Q from || is_immediate w.Q from) ≡ true → OperandInRange from → Reaches from → next ≡ (address + length (push_bytes d from)) % 2 ^ 64 → IsSpelled (i.Push from) address (push_bytes d from)
  push_spells (o.Reg r) h range reach nx = push_register r nx
  push_spells (o.Byte r) h range reach nx = absurd cc
  push_spells (o.Mem a) h range reach nx = push_place (o.Mem a) (rw (or-false (is_address a)) at h) range reach nx
  push_spells (o.Imm v) h range reach nx = elim (cases_Bool (fits_immediate w.B v)) [
    | inl b ↦ rw b (push_6A v b (rw b at nx))
    | inr b ↦ rw b (push_68 v h (rw b at nx))
  ]

  pub pop_spells : (to : Operand ℕ) → is_place w.Q to ≡ true → OperandInRange to → Reaches to → next ≡ (address + length (pop_bytes d to)) % 2 ^ 64 → IsSpelled (i.Pop to) address (pop_bytes d to)
  pop_spells (o.Reg r) h range reach nx = pop_register r nx
  pop_spells (o.Byte r) h range reach nx = absurd cc
  pop_spells (o.Mem a) h range reach nx = pop_place (o.Mem a) h range reach nx
  pop_spells (o.Imm v) h range reach nx = absurd cc

  -- the canonical spelling of an instruction spells it, where its reference lies at the distance
  pub canonical_is : (insn : Insn ℕ) → is_instruction insn ≡ true → InRange insn → ReachesAll insn → next ≡ (address + length (canonical d insn)) % 2 ^ 64 → IsSpelled insn address (canonical d insn)
  canonical_is (i.Alu op s to from) h range reach nx = alu_spells op s to from h range reach nx
  canonical_is (i.Test s e by) h range reach nx = test_spells s e by h range reach nx
  canonical_is (i.Xchg s e g) h range reach nx =
      let k = three_parts (is_place s e) (is_register s g) (go_together e g) h in
      xchg_eg s e g k.0 k.1 k.2 range (first_reaches (operand_reference e) (operand_reference g) reach) nx
  canonical_is (i.Mov s to from) h range reach nx = mov_spells s to from h range reach nx
  canonical_is (i.MovAbs to v) h range reach nx = mov_abs to v range nx
  canonical_is (i.MovZx w.B s to from) h range reach nx =
      let k = and_parts (is_wide s) (is_place w.B from && not (is_high from && (is_quad s || is_extended to))) h in
      let j = and_parts (is_place w.B from) (not (is_high from && (is_quad s || is_extended to))) k.1 in
      movzx_b s to from k.0 (not-true (is_high from && (is_quad s || is_extended to)) j.1) j.0 range reach nx
  canonical_is (i.MovZx w.W s to from) h range reach nx =
      let k = and_parts (is_long s) (is_place w.W from && not (is_high from && (is_quad s || is_extended to))) h in
      let j = and_parts (is_place w.W from) (not (is_high from && (is_quad s || is_extended to))) k.1 in
      movzx_w s to from k.0 j.0 range reach nx
  canonical_is (i.MovZx w.L s to from) h range reach nx = absurd cc
  canonical_is (i.MovZx w.Q s to from) h range reach nx = absurd cc
  canonical_is (i.MovSx w.B s to from) h range reach nx =
      let k = and_parts (is_wide s) (is_place w.B from && not (is_high from && (is_quad s || is_extended to))) h in
      let j = and_parts (is_place w.B from) (not (is_high from && (is_quad s || is_extended to))) k.1 in
      movsx_b s to from k.0 (not-true (is_high from && (is_quad s || is_extended to)) j.1) j.0 range reach nx
  canonical_is (i.MovSx w.W s to from) h range reach nx =
      let k = and_parts (is_long s) (is_place w.W from && not (is_high from && (is_quad s || is_extended to))) h in
      let j = and_parts (is_place w.W from) (not (is_high from && (is_quad s || is_extended to))) k.1 in
      movsx_w s to from k.0 j.0 range reach nx
  canonical_is (i.MovSx w.L w.Q to from) h range reach nx = movsxd to from h range reach nx
  canonical_is (i.MovSx w.L s to from) h range reach nx = absurd cc
  canonical_is (i.MovSx w.Q s to from) h range reach nx = absurd cc
  canonical_is (i.Lea s to at) h range reach nx =
      let k = three_parts (is_wide s) (is_address at) (not (is_the_canary at)) h in
      lea s to at k.0 k.1 (not-true (is_the_canary at) k.2) range reach nx
  canonical_is (i.Push from) h range reach nx = push_spells from h range reach nx
  canonical_is (i.Pop to) h range reach nx = pop_spells to h range reach nx
  canonical_is (i.Imul2 s to from) h range reach nx = let k = and_parts (is_wide s) (is_place s from) h in imul2 s to from k.0 k.1 range reach nx
  canonical_is (i.Imul3 s to from by) h range reach nx =
      let k = three_parts (is_wide s) (is_place s from) (fits_immediate s by) h in
      elim (cases_Bool (fits_immediate w.B by)) [
        | inl b ↦ rw b (imul3_6B by s to from k.0 b k.1 range reach (rw b at nx))
        | inr b ↦ rw b (imul3_69 by s to from k.0 k.2 k.1 range reach (rw b at nx))
      ]
  canonical_is (i.One op s at) h range reach nx = one_spells op s at h range reach nx
  canonical_is (i.Shift op s at count.Cl) h range reach nx = let k = and_parts (is_place s at) (is_count s count.Cl) h in shift_cl op s at k.0 range reach nx
  canonical_is (i.Shift op s at (count.Imm n)) h range reach nx = let k = and_parts (is_place s at) (is_count s (count.Imm n)) h in shift_imm op s at n k.1 k.0 range reach nx
  canonical_is (i.Convert convert.Cbtw) h range reach nx = convert_cbtw nx
  canonical_is (i.Convert convert.Cwtl) h range reach nx = convert_cwtl nx
  canonical_is (i.Convert convert.Cltq) h range reach nx = convert_cltq nx
  canonical_is (i.Convert convert.Cwtd) h range reach nx = convert_cwtd nx
  canonical_is (i.Convert convert.Cltd) h range reach nx = convert_cltd nx
  canonical_is (i.Convert convert.Cqto) h range reach nx = convert_cqto nx
  canonical_is (i.Movs s rep) h range reach nx = movs s rep nx
  canonical_is (i.Stos s rep) h range reach nx = stos s rep nx
  canonical_is (i.Cmov cond s to from) h range reach nx = let k = and_parts (is_wide s) (is_place s from) h in cmov cond s to from k.0 k.1 range reach nx
  canonical_is (i.Setcc cond to) h range reach nx = setcc_spells cond to h range reach nx
  canonical_is (i.Bit op s at index) h range reach nx = bit_spells op s at index h range reach nx
  canonical_is (i.Scan scan.Bsf s to from) h range reach nx = let k = and_parts (is_wide s) (is_place s from) h in scan_bsf s to from k.0 k.1 range reach nx
  canonical_is (i.Scan scan.Bsr s to from) h range reach nx = let k = and_parts (is_wide s) (is_place s from) h in scan_bsr s to from k.0 k.1 range reach nx
  canonical_is (i.Scan scan.Tzcnt s to from) h range reach nx = let k = and_parts (is_wide s) (is_place s from) h in scan_tzcnt s to from k.0 k.1 range reach nx
  canonical_is (i.Bswap s r) h range reach nx = bswap s r h nx
  canonical_is (i.Jcc cond to) h range reach nx = jcc cond to reach nx
  canonical_is (i.Jmp to) h range reach nx = jmp to reach nx
  canonical_is (i.Call to) h range reach nx = call to reach nx
  canonical_is (i.JmpTo to notrack) h range reach nx = jmp_to to notrack h range reach nx
  canonical_is (i.CallTo to notrack) h range reach nx = call_to to notrack h range reach nx
  canonical_is i.Ret h range reach nx = ret nx
  canonical_is i.Leave h range reach nx = leave nx
  canonical_is i.Syscall h range reach nx = syscall nx
  canonical_is (i.Plain plain.Nop) h range reach nx = nop nx
  canonical_is (i.Plain plain.Pause) h range reach nx = pause nx
  canonical_is (i.Plain plain.Endbr64) h range reach nx = endbr64 nx
  canonical_is (i.Plain plain.Ud2) h range reach nx = ud2 nx
  canonical_is (i.Plain plain.Int3) h range reach nx = int3 nx
  canonical_is (i.Plain plain.Hlt) h range reach nx = hlt nx

pub canonical_spells : (insn : Insn ℕ) (address : ℕ) (d : ℤ) → is_instruction insn ≡ true → InRange insn → FitsSigned w32 d → LiesAt ((address + length (canonical d insn)) % 2 ^ 64) d insn → Spells insn address (canonical d insn) × All (λ b. b < 256) (canonical d insn)
canonical_spells insn address d h range d_fits reach =
    let k = canonical_is address ((address + length (canonical d insn)) % 2 ^ 64) d d_fits insn h range reach refl in
    (k.spells, All-from_recursion (λ b. b < 256) (canonical d insn) k.are)

-- the address from which a distance of 0 reaches r
abbrev pub address_before : ℕ → ℕ → ℕ
address_before r n = (r + (2 ^ 64 - 1) * n) % 2 ^ 64

pub reaches_back : (r n : ℕ) → r < 2 ^ 64 → r ≡ at_distance ((address_before r n + n) % 2 ^ 64) (pos 0)
reaches_back r n small = omega arith

abbrev pub reference_at : Option ℕ → ℕ
reference_at None = 0
reference_at (Some r) = r

pub lies_back : (o : Option ℕ) (n : ℕ) → IfSome o (λ r. r < 2 ^ 64) → IfSome o (λ r. r ≡ at_distance ((address_before (reference_at o) n + n) % 2 ^ 64) (pos 0))
lies_back None n h = tt
lies_back (Some r) n h = reaches_back r n h

pub is_spelled : (insn : Insn ℕ) → is_instruction insn ≡ true → InRange insn → IfSome (reference_of insn) (λ r. r < 2 ^ 64) → (address : ℕ) × (address < 2 ^ 64) × (bytes : List ℕ) × All (λ b. b < 256) bytes × Spells insn address bytes
is_spelled insn h range reference =
    let bytes = canonical (pos 0) insn in
    let address = address_before (reference_at (reference_of insn)) (length bytes) in
    let k = canonical_spells insn address (pos 0) h range (record { sfits = lit< tt }) (lies_back (reference_of insn) (length bytes) reference) in
    (address, omega arith, bytes, k.1, k.0)

-- ---- worked spellings

push_of_a_register : canonical (pos 0) (i.Push (o.Reg Rbp)) ≡ 0x55 ∷ []
push_of_a_register = refl

mov_of_registers : canonical (pos 0) (i.Mov w.Q (o.Reg Rbp) (o.Reg Rsp)) ≡ 0x48 ∷ 0x89 ∷ 0xE5 ∷ []
mov_of_registers = refl

rsp_with_a_sib_byte : canonical (pos 0) (i.Mov w.Q (o.Reg Rax) (o.Mem (m.At (Some Rsp) None (pos 8)))) ≡ 0x48 ∷ 0x8B ∷ 0x44 ∷ 0x24 ∷ 0x08 ∷ []
rsp_with_a_sib_byte = refl

r13_with_a_displacement : canonical (pos 0) (i.Mov w.L (o.Mem (m.At (Some R13) None (pos 0))) (o.Reg R9)) ≡ 0x45 ∷ 0x89 ∷ 0x4D ∷ 0x00 ∷ []
r13_with_a_displacement = refl

quad_immediate : canonical (pos 0) (i.Mov w.Q (o.Reg Rax) (o.Imm (negsuc 0))) ≡ 0x48 ∷ 0xC7 ∷ 0xC0 ∷ 0xFF ∷ 0xFF ∷ 0xFF ∷ 0xFF ∷ []
quad_immediate = refl

high_byte_immediate : canonical (pos 0) (i.Mov w.B (o.Byte (High Rax)) (o.Imm (pos 5))) ≡ 0xB4 ∷ 0x05 ∷ []
high_byte_immediate = refl

sil_under_rex : canonical (pos 0) (i.Mov w.B (o.Byte (Low Rsi)) (o.Mem (m.At (Some Rbx) (Some (R12, 4)) (negsuc 199)))) ≡ 0x42 ∷ 0x8A ∷ 0xB4 ∷ 0xA3 ∷ 0x38 ∷ 0xFF ∷ 0xFF ∷ 0xFF ∷ []
sil_under_rex = refl

jump_with_notrack : canonical (pos 0) (i.JmpTo (o.Reg Rax) true) ≡ 0x3E ∷ 0xFF ∷ 0xE0 ∷ []
jump_with_notrack = refl

canary_load : canonical (pos 0) (i.Mov w.Q (o.Reg Rax) (o.Mem m.Canary)) ≡ 0x64 ∷ 0x48 ∷ 0x8B ∷ 0x04 ∷ 0x25 ∷ 0x28 ∷ 0x00 ∷ 0x00 ∷ 0x00 ∷ []
canary_load = refl

jump_backwards : canonical (negsuc 4) (i.Jmp 0x1000) ≡ 0xE9 ∷ 0xFB ∷ 0xFF ∷ 0xFF ∷ 0xFF ∷ []
jump_backwards = refl

relative_address : canonical (pos 16) (i.Lea w.Q Rdi (m.Rel 0x2010)) ≡ 0x48 ∷ 0x8D ∷ 0x3D ∷ 0x10 ∷ 0x00 ∷ 0x00 ∷ 0x00 ∷ []
relative_address = refl

index_without_base : canonical (pos 0) (i.Alu alu.Cmp w.W (o.Mem (m.At None (Some (Rcx, 8)) (pos 0x404000))) (o.Imm (pos 300))) ≡ 0x66 ∷ 0x81 ∷ 0x3C ∷ 0xCD ∷ 0x00 ∷ 0x40 ∷ 0x40 ∷ 0x00 ∷ 0x2C ∷ 0x01 ∷ []
index_without_base = refl

tzcnt_of_a_quad : canonical (pos 0) (i.Scan scan.Tzcnt w.Q R8 (o.Reg Rdx)) ≡ 0xF3 ∷ 0x4C ∷ 0x0F ∷ 0xBC ∷ 0xC2 ∷ []
tzcnt_of_a_quad = refl

bit_of_a_register : canonical (pos 0) (i.Bit bt.Bts w.L (o.Reg Rcx) (o.Reg Rdx)) ≡ 0x0F ∷ 0xAB ∷ 0xD1 ∷ []
bit_of_a_register = refl

rep_movs : canonical (pos 0) (i.Movs w.Q true) ≡ 0xF3 ∷ 0x48 ∷ 0xA5 ∷ []
rep_movs = refl

exchange_of_bytes : canonical (pos 0) (i.Xchg w.B (o.Byte (Low Rax)) (o.Byte (High Rbx))) ≡ 0x86 ∷ 0xF8 ∷ []
exchange_of_bytes = refl
