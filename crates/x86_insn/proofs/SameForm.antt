-- An instruction whose references are replaced is well formed where it was.
use Rattle.std.proofs.Common.{◌≡◌, ◌++◌, Bool, true, false, not, ◌&&◌, ◌||◌, List, refl, ap, ◌∙◌}
use Rattle.std.specs.List.{list_all}
use Rattle.rw_base.specs.declared.width.Width.{Width}
use Rattle.rw_base.specs.declared.width.Width.TheVariants.{B, W, L, Q}
use Rattle.x86_insn.specs.declared.kinds.Reg8.TheVariants.{Low, High}
use Rattle.x86_insn.specs.declared.kinds.Reg.{Reg}
use Rattle.x86_insn.specs.declared.operands.Mem.{Mem}
use Rattle.x86_insn.specs.declared.operands.Mem.TheVariants.{At, Rel, Canary}
use Rattle.x86_insn.specs.declared.operands.Operand.{Operand}
use Rattle.x86_insn.specs.declared.operands.Operand.TheVariants as operand
use Rattle.x86_insn.specs.declared.instruction.Insn.{Insn}
use Rattle.x86_insn.specs.declared.instruction.Insn.TheVariants as insn
use Rattle.x86_insn.specs.References.{map_mem, map_operand, map_references, mem_references, operand_references, references_of}
use Rattle.x86_insn.specs.WellFormed.{is_address, is_canary, is_register, is_place, is_immediate, is_high, needs_rex, go_together, are_operands, is_extended, is_wide, is_quad, extends, widens, is_count, is_bit_index, fits_immediate, is_instruction}
use Rattle.x86_insn.specs.Fields.{has_displacement, is_addressed, fits_fields}

module _ {R S : Type 0} (f : R → S) where
  abbrev to : Operand R → Operand S
  to x = map_operand f x

  address : (m : Mem R) → is_address (map_mem f m) ≡ is_address m
  address (At base index disp) = refl
  address (Rel r) = refl
  address Canary = refl

  canary : (m : Mem R) → is_canary (map_mem f m) ≡ is_canary m
  canary (At base index disp) = refl
  canary (Rel r) = refl
  canary Canary = refl

  displacement : (m : Mem R) → has_displacement (map_mem f m) ≡ has_displacement m
  displacement (At base index disp) = refl
  displacement (Rel r) = refl
  displacement Canary = refl

  register : (w : Width) (x : Operand R) → is_register w (to x) ≡ is_register w x
  register B (operand.Reg r) = refl
  register B (operand.Byte (Low r)) = refl
  register B (operand.Byte (High r)) = refl
  register B (operand.Mem m) = refl
  register B (operand.Imm v) = refl
  register W (operand.Reg r) = refl
  register W (operand.Byte r) = refl
  register W (operand.Mem m) = refl
  register W (operand.Imm v) = refl
  register L (operand.Reg r) = refl
  register L (operand.Byte r) = refl
  register L (operand.Mem m) = refl
  register L (operand.Imm v) = refl
  register Q (operand.Reg r) = refl
  register Q (operand.Byte r) = refl
  register Q (operand.Mem m) = refl
  register Q (operand.Imm v) = refl

  place : (w : Width) (x : Operand R) → is_place w (to x) ≡ is_place w x
  place B (operand.Mem m) = address m
  place B (operand.Reg r) = refl
  place B (operand.Byte (Low r)) = refl
  place B (operand.Byte (High r)) = refl
  place B (operand.Imm v) = refl
  place W (operand.Mem m) = address m
  place W (operand.Reg r) = refl
  place W (operand.Byte r) = refl
  place W (operand.Imm v) = refl
  place L (operand.Mem m) = address m
  place L (operand.Reg r) = refl
  place L (operand.Byte r) = refl
  place L (operand.Imm v) = refl
  place Q (operand.Mem m) = address m
  place Q (operand.Reg r) = refl
  place Q (operand.Byte r) = refl
  place Q (operand.Imm v) = refl

  immediate : (w : Width) (x : Operand R) → is_immediate w (to x) ≡ is_immediate w x
  immediate w (operand.Reg r) = refl
  immediate w (operand.Byte r) = refl
  immediate w (operand.Mem m) = refl
  immediate w (operand.Imm v) = refl

  high : (x : Operand R) → is_high (to x) ≡ is_high x
  high (operand.Reg r) = refl
  high (operand.Byte (Low r)) = refl
  high (operand.Byte (High r)) = refl
  high (operand.Mem m) = refl
  high (operand.Imm v) = refl

  rex : (x : Operand R) → needs_rex (to x) ≡ needs_rex x
  rex (operand.Reg r) = refl
  rex (operand.Byte (Low r)) = refl
  rex (operand.Byte (High r)) = refl
  rex (operand.Mem (At base index disp)) = refl
  rex (operand.Mem (Rel r)) = refl
  rex (operand.Mem Canary) = refl
  rex (operand.Imm v) = refl

  four : (h : Bool → Bool → Bool → Bool → Bool) {a b c d i j k l : Bool} → a ≡ i → b ≡ j → c ≡ k → d ≡ l → h a b c d ≡ h i j k l
  four h {a} {b} {c} {d} {i} {j} {k} {l} p q r s = ap (λ x. h x b c d) p ∙ ap (λ x. h i x c d) q ∙ ap (λ x. h i j x d) r ∙ ap (λ x. h i j k x) s

  two : (h : Bool → Bool → Bool) {a b i j : Bool} → a ≡ i → b ≡ j → h a b ≡ h i j
  two h {a} {b} {i} {j} p q = ap (λ x. h x b) p ∙ ap (λ x. h i x) q

  three : (h : Bool → Bool → Bool → Bool) {a b c i j k : Bool} → a ≡ i → b ≡ j → c ≡ k → h a b c ≡ h i j k
  three h {a} {b} {c} {i} {j} {k} p q r = ap (λ x. h x b c) p ∙ ap (λ x. h i x c) q ∙ ap (λ x. h i j x) r

  together : (x y : Operand R) → go_together (to x) (to y) ≡ go_together x y
  together x y = four (λ a b c d. not (a && b) && not (c && d)) (high x) (rex y) (high y) (rex x)

  operands : (w : Width) (x y : Operand R) → are_operands w (to x) (to y) ≡ are_operands w x y
  operands w x y =
      ap (λ t. t && go_together (to x) (to y)) (four (λ a b c d. (a && b) || (c && d) || (a && is_immediate w (to y))) (place w x) (register w y) (register w x) (place w y))
      ∙ two (λ i t. ((is_place w x && is_register w y) || (is_register w x && is_place w y) || (is_place w x && i)) && t) (immediate w y) (together x y)

  widening : (from_w w : Width) (r : Reg) (x : Operand R) → widens from_w w r (to x) ≡ widens from_w w r x
  widening from_w w r x = two (λ a b. a && not (b && (is_quad w || is_extended r))) (place from_w x) (high x)

  bit_index : (w : Width) (x y : Operand R) → is_bit_index w (to x) (to y) ≡ is_bit_index w x y
  bit_index B x (operand.Imm v) = ap (λ a. a && false) (register B x)
  bit_index W x (operand.Imm v) = refl
  bit_index L x (operand.Imm v) = refl
  bit_index Q x (operand.Imm v) = refl
  bit_index B x (operand.Reg r) = two (λ a b. a && b) (register B x) (register B (operand.Reg r))
  bit_index B x (operand.Byte r) = two (λ a b. a && b) (register B x) (register B (operand.Byte r))
  bit_index B x (operand.Mem m) = two (λ a b. a && b) (register B x) (register B (operand.Mem m))
  bit_index W x (operand.Reg r) = two (λ a b. a && b) (register W x) (register W (operand.Reg r))
  bit_index W x (operand.Byte r) = two (λ a b. a && b) (register W x) (register W (operand.Byte r))
  bit_index W x (operand.Mem m) = two (λ a b. a && b) (register W x) (register W (operand.Mem m))
  bit_index L x (operand.Reg r) = two (λ a b. a && b) (register L x) (register L (operand.Reg r))
  bit_index L x (operand.Byte r) = two (λ a b. a && b) (register L x) (register L (operand.Byte r))
  bit_index L x (operand.Mem m) = two (λ a b. a && b) (register L x) (register L (operand.Mem m))
  bit_index Q x (operand.Reg r) = two (λ a b. a && b) (register Q x) (register Q (operand.Reg r))
  bit_index Q x (operand.Byte r) = two (λ a b. a && b) (register Q x) (register Q (operand.Byte r))
  bit_index Q x (operand.Mem m) = two (λ a b. a && b) (register Q x) (register Q (operand.Mem m))

  extension : (from_w w : Width) (r : Reg) (x : Operand R) → (extends from_w w && widens from_w w r (to x)) ≡ (extends from_w w && widens from_w w r x)
  extension from_w w r x = ap (λ t. extends from_w w && t) (widening from_w w r x)

  pub same-form : (i : Insn R) → is_instruction (map_references f i) ≡ is_instruction i
  same-form (insn.Alu op w x y) = operands w x y
  same-form (insn.Test w x y) = four (λ a b c d. a && (b || c) && d) (place w x) (register w y) (immediate w y) (together x y)
  same-form (insn.Xchg w x y) = three (λ a b c. a && b && c) (place w x) (register w y) (together x y)
  same-form (insn.Mov w x y) = operands w x y
  same-form (insn.MovAbs r v) = refl
  same-form (insn.MovZx from_w w r x) = extension from_w w r x
  same-form (insn.MovSx B w r x) = extension B w r x
  same-form (insn.MovSx W w r x) = extension W w r x
  same-form (insn.MovSx L B r x) = extension L B r x
  same-form (insn.MovSx L W r x) = extension L W r x
  same-form (insn.MovSx L L r x) = extension L L r x
  same-form (insn.MovSx L Q r x) = place L x
  same-form (insn.MovSx Q w r x) = extension Q w r x
  same-form (insn.Lea w r m) = two (λ a b. is_wide w && a && not b) (address m) (canary m)
  same-form (insn.Push x) = two (λ a b. a || b) (place Q x) (immediate Q x)
  same-form (insn.Pop x) = place Q x
  same-form (insn.Imul2 w r x) = ap (λ a. is_wide w && a) (place w x)
  same-form (insn.Imul3 w r x v) = ap (λ a. is_wide w && a && fits_immediate w v) (place w x)
  same-form (insn.One op w x) = place w x
  same-form (insn.Shift op w x count) = ap (λ a. a && is_count w count) (place w x)
  same-form (insn.Convert kind) = refl
  same-form (insn.Movs w rep) = refl
  same-form (insn.Stos w rep) = refl
  same-form (insn.Cmov c w r x) = ap (λ a. is_wide w && a) (place w x)
  same-form (insn.Setcc c x) = place B x
  same-form (insn.Bit op w x y) = two (λ a b. is_wide w && a && b) (place w x) (bit_index w x y)
  same-form (insn.Scan op w r x) = ap (λ a. is_wide w && a) (place w x)
  same-form (insn.Bswap w r) = refl
  same-form (insn.Jcc c t) = refl
  same-form (insn.Jmp t) = refl
  same-form (insn.Call t) = refl
  same-form (insn.JmpTo x notrack) = place Q x
  same-form (insn.CallTo x notrack) = place Q x
  same-form insn.Ret = refl
  same-form insn.Leave = refl
  same-form insn.Syscall = refl
  same-form (insn.Plain kind) = refl

  addressed : (x : Operand R) → is_addressed (to x) ≡ is_addressed x
  addressed (operand.Reg r) = refl
  addressed (operand.Byte r) = refl
  addressed (operand.Mem m) = displacement m
  addressed (operand.Imm v) = refl

  both-addressed : (x y : Operand R) → (is_addressed (to x) && is_addressed (to y)) ≡ (is_addressed x && is_addressed y)
  both-addressed x y = two (λ a b. a && b) (addressed x) (addressed y)

  pub same-fields : (i : Insn R) → fits_fields (map_references f i) ≡ fits_fields i
  same-fields (insn.Alu op w x y) = both-addressed x y
  same-fields (insn.Test w x y) = both-addressed x y
  same-fields (insn.Xchg w x y) = both-addressed x y
  same-fields (insn.Mov w x y) = both-addressed x y
  same-fields (insn.MovAbs r v) = refl
  same-fields (insn.MovZx from_w w r x) = addressed x
  same-fields (insn.MovSx from_w w r x) = addressed x
  same-fields (insn.Lea w r m) = displacement m
  same-fields (insn.Push x) = addressed x
  same-fields (insn.Pop x) = addressed x
  same-fields (insn.Imul2 w r x) = addressed x
  same-fields (insn.Imul3 w r x v) = addressed x
  same-fields (insn.One op w x) = addressed x
  same-fields (insn.Shift op w x count) = addressed x
  same-fields (insn.Convert kind) = refl
  same-fields (insn.Movs w rep) = refl
  same-fields (insn.Stos w rep) = refl
  same-fields (insn.Cmov c w r x) = addressed x
  same-fields (insn.Setcc c x) = addressed x
  same-fields (insn.Bit op w x y) = both-addressed x y
  same-fields (insn.Scan op w r x) = addressed x
  same-fields (insn.Bswap w r) = refl
  same-fields (insn.Jcc c t) = refl
  same-fields (insn.Jmp t) = refl
  same-fields (insn.Call t) = refl
  same-fields (insn.JmpTo x notrack) = addressed x
  same-fields (insn.CallTo x notrack) = addressed x
  same-fields insn.Ret = refl
  same-fields insn.Leave = refl
  same-fields insn.Syscall = refl
  same-fields (insn.Plain kind) = refl

  -- a test of the references that are put in holds where one of the references that were there does
  module _ (p : R → Bool) (q : S → Bool) (agree : (r : R) → q (f r) ≡ p r) where
    abbrev all : {A : Type 0} → (A → Bool) → List A → Bool
    all t xs = list_all t xs

    mem : (m : Mem R) → all q (mem_references (map_mem f m)) ≡ all p (mem_references m)
    mem (At base index disp) = refl
    mem (Rel r) = ap (λ t. t && true) (agree r)
    mem Canary = refl

    one : (x : Operand R) → all q (operand_references (to x)) ≡ all p (operand_references x)
    one (operand.Reg r) = refl
    one (operand.Byte r) = refl
    one (operand.Mem m) = mem m
    one (operand.Imm v) = refl

    then : (m : Mem R) (y : Operand R) → all q (mem_references (map_mem f m) ++ operand_references (to y)) ≡ all p (mem_references m ++ operand_references y)
    then (At base index disp) y = one y
    then (Rel r) y = two (λ a b. a && b) (agree r) (one y)
    then Canary y = one y

    pair : (x y : Operand R) → all q (operand_references (to x) ++ operand_references (to y)) ≡ all p (operand_references x ++ operand_references y)
    pair (operand.Reg r) y = one y
    pair (operand.Byte r) y = one y
    pair (operand.Mem m) y = then m y
    pair (operand.Imm v) y = one y

    pub same-references : (i : Insn R) → list_all q (references_of (map_references f i)) ≡ list_all p (references_of i)
    same-references (insn.Alu op w x y) = pair x y
    same-references (insn.Test w x y) = pair x y
    same-references (insn.Xchg w x y) = pair x y
    same-references (insn.Mov w x y) = pair x y
    same-references (insn.MovAbs r v) = refl
    same-references (insn.MovZx from_w w r x) = one x
    same-references (insn.MovSx from_w w r x) = one x
    same-references (insn.Lea w r m) = mem m
    same-references (insn.Push x) = one x
    same-references (insn.Pop x) = one x
    same-references (insn.Imul2 w r x) = one x
    same-references (insn.Imul3 w r x v) = one x
    same-references (insn.One op w x) = one x
    same-references (insn.Shift op w x count) = one x
    same-references (insn.Convert kind) = refl
    same-references (insn.Movs w rep) = refl
    same-references (insn.Stos w rep) = refl
    same-references (insn.Cmov c w r x) = one x
    same-references (insn.Setcc c x) = one x
    same-references (insn.Bit op w x y) = pair x y
    same-references (insn.Scan op w r x) = one x
    same-references (insn.Bswap w r) = refl
    same-references (insn.Jcc c t) = ap (λ a. a && true) (agree t)
    same-references (insn.Jmp t) = ap (λ a. a && true) (agree t)
    same-references (insn.Call t) = ap (λ a. a && true) (agree t)
    same-references (insn.JmpTo x notrack) = one x
    same-references (insn.CallTo x notrack) = one x
    same-references insn.Ret = refl
    same-references insn.Leave = refl
    same-references insn.Syscall = refl
    same-references (insn.Plain kind) = refl
