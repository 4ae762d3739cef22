-- The micro list of each well formed instruction is typed.
use Rattle.std.proofs.Common.{append_assoc, ◌≡◌, ◌<◌, ◌^◌, ℕ, ℤ, Option, Some, None, List, [], ◌∷◌, ◌++◌, Bool, true, false, refl, sym, ap, subst, ◌∙◌, inl, inr, ⊎_elim, arith, lit<}
use Rattle.std.specs.Prelude.{not, ◌&&◌, ◌||◌, nat_lt, if◌then◌else◌}
use Rattle.std.proofs.lemmas.Bool.{and_parts, or_cases, ltb-true}
use Rattle.rw_base.specs.Width.{byte_count, bit_count}
use Rattle.rw_base.specs.declared.width.Width.{Width}
use Rattle.rw_base.specs.declared.width.Width.TheVariants.{B, W, L, Q}
use Rattle.x86_insn.specs.declared.kinds.Reg.{Reg}
use Rattle.x86_insn.specs.declared.kinds.Reg.TheVariants.{Rax, Rcx, Rsp}
use Rattle.x86_insn.specs.declared.kinds.Reg8.TheVariants.{Low, High}
use Rattle.x86_insn.specs.declared.kinds.Cond.{Cond}
use Rattle.x86_insn.specs.declared.kinds.Count.{Count}
use Rattle.x86_insn.specs.declared.kinds.Count.TheVariants as count
use Rattle.x86_insn.specs.declared.kinds.AluOp.{AluOp}
use Rattle.x86_insn.specs.declared.kinds.AluOp.TheVariants as alu
use Rattle.x86_insn.specs.declared.kinds.OneOp.{OneOp}
use Rattle.x86_insn.specs.declared.kinds.OneOp.TheVariants as one
use Rattle.x86_insn.specs.declared.kinds.ShiftOp.{ShiftOp}
use Rattle.x86_insn.specs.declared.kinds.BitOp.{BitOp}
use Rattle.x86_insn.specs.declared.kinds.BitOp.TheVariants.{Bt}
use Rattle.x86_insn.specs.declared.kinds.ScanOp.{ScanOp}
use Rattle.x86_insn.specs.declared.kinds.Convert.{Convert}
use Rattle.x86_insn.specs.declared.kinds.Convert.TheVariants.{Cbtw, Cwtl, Cltq, Cwtd, Cltd, Cqto}
use Rattle.x86_insn.specs.declared.kinds.Plain.{Plain}
use Rattle.x86_insn.specs.declared.kinds.Plain.TheVariants as plain
use Rattle.x86_insn.specs.declared.operands.Mem.{Mem}
use Rattle.x86_insn.specs.declared.operands.Mem.TheVariants.{At, Rel, Canary}
use Rattle.x86_insn.specs.declared.operands.Operand.{Operand}
use Rattle.x86_insn.specs.declared.operands.Operand.TheVariants as operand
use Rattle.x86_insn.specs.declared.instruction.Insn.{Insn}
use Rattle.x86_insn.specs.declared.instruction.Insn.TheVariants as insn
use Rattle.x86_insn.specs.WellFormed.{is_scale, is_index, is_address, is_canary, is_register, is_place, is_immediate, go_together, are_operands, is_wide, extends, widens, is_count, is_bit_index, fits_immediate, is_instruction}
use Rattle.x86_meaning.specs.declared.operations.Micro.{Micro}
use Rattle.x86_meaning.specs.declared.operations.Micro.TheVariants.{Get, Put, Num, Load, Alu, One, Shift, Mul, Div, Extend, Bit, Scan, Choose, Go}
use Rattle.x86_meaning.specs.Meaning.{micro_of, number_of, address_of, value_of, place_of, write_of, are_same, with_itself, writes_result, alu_of, same_of, alu_or_same, test_of, exchange_of, bit_write, bit_of, move_of, extend_of, lea_of, cmov_of, setcc_of, push_of, push_row, pop_row, call_of, jump_to_of, call_to_of, high_half, multiply_of, divide_of, change_of, one_of, imul2_of, imul3_of, shift_of, convert_of, scan_of, plain_of, temp, t0, t1, t2, t3, t4}
use Rattle.x86_meaning.specs.Typing.{Widths, with_width, IsPart, is_unary, widths_after, IsTyped}

-- ---- lists

abbrev after : Widths → List Micro → Widths
after g [] = g
after g (m ∷ ms) = after (widths_after g m) ms

then_typed : (g : Widths) (xs ys : List Micro) → IsTyped g xs → IsTyped (after g xs) ys → IsTyped g (xs ++ ys)
then_typed g [] ys h k = k
then_typed g (x ∷ xs) ys h k = (h.0, then_typed (widths_after g x) xs ys h.1 k)

after-append : (g : Widths) (xs ys : List Micro) → after g (xs ++ ys) ≡ after (after g xs) ys
after-append g [] ys = refl
after-append g (x ∷ xs) ys = after-append (widths_after g x) xs ys

regroup3 : (g : Widths) (xs ys zs : List Micro) → IsTyped g (xs ++ (ys ++ zs)) → IsTyped g ((xs ++ ys) ++ zs)
regroup3 g xs ys zs h = rw (append_assoc xs ys zs) h

regroup4 : (g : Widths) (ws xs ys zs : List Micro) → IsTyped g (ws ++ (xs ++ (ys ++ zs))) → IsTyped g (((ws ++ xs) ++ ys) ++ zs)
regroup4 g ws xs ys zs h = rw (append_assoc (ws ++ xs) ys zs, append_assoc ws xs (ys ++ zs)) h

if_typed : (g : Widths) (b : Bool) (xs ys : List Micro) → (b ≡ true → IsTyped g xs) → (b ≡ false → IsTyped g ys) → IsTyped g (if b then xs else ys)
if_typed g true xs ys f k = f refl
if_typed g false xs ys f k = k refl

number-lt : (w : Width) (v : ℤ) → number_of w v < 2 ^ bit_count w
number-lt B v = omega arith
number-lt W v = omega arith
number-lt L v = omega arith
number-lt Q v = omega arith

scale_of : (r : Reg) (s : ℕ) → is_index (Some (r, s)) ≡ true → is_scale s ≡ true
scale_of Rsp s h = cc
scale_of _ s h = h

-- AH for bytes, and else rdx, is a part of its width
half-part : (w : Width) → IsPart w (high_half w)
half-part B = tt
half-part _ = tt

narrower : (f w : Width) → extends f w ≡ true → nat_lt (byte_count f) (byte_count w) ≡ true
narrower B B h = cc
narrower B _ h = refl
narrower W B h = cc
narrower W W h = cc
narrower W _ h = refl
narrower L _ h = cc
narrower Q _ h = cc

count-lt : (w : Width) (c : ℕ) → is_count w (count.Imm c) ≡ true → c < 2 ^ bit_count B
count-lt Q c h = let b : c < 64 = ltb-true c 64 h in omega arith
count-lt B c h = let b : c < 32 = ltb-true c 32 h in omega arith
count-lt W c h = let b : c < 32 = ltb-true c 32 h in omega arith
count-lt L c h = let b : c < 32 = ltb-true c 32 h in omega arith

-- ---- operands

-- an operand of a width
abbrev Sound : {R : Type 0} → Width → Operand R → Type 0
Sound w (operand.Reg r) = Unit {0}
Sound w (operand.Byte r) = IsPart w r
Sound w (operand.Mem m) = is_address m ≡ true
Sound w (operand.Imm v) = Unit {0}

-- its address is known, where it has one
abbrev Placed : {R : Type 0} → Widths → Operand R → Type 0
Placed g (operand.Mem m) = g 4 ≡ Some Q
Placed g _ = Unit {0}

call-typed : (g : Widths) → g 0 ≡ Some Q → IsTyped g call_of
call-typed g h = (lit< tt, ((lit< tt, tt), ((lit< tt, refl, tt), ((refl, refl), ((inl refl, tt), (h, tt))))))

convert-typed : (g : Widths) (kind : Convert) → IsTyped g (convert_of kind)
convert-typed g Cbtw = ((lit< tt, tt), ((lit< tt, refl, refl), ((inl refl, tt), tt)))
convert-typed g Cwtl = ((lit< tt, tt), ((lit< tt, refl, refl), ((inl refl, tt), tt)))
convert-typed g Cltq = ((lit< tt, tt), ((lit< tt, refl, refl), ((inl refl, tt), tt)))
convert-typed g Cwtd = ((lit< tt, tt), ((lit< tt, lit< tt), ((lit< tt, refl, refl), ((inl refl, tt), tt))))
convert-typed g Cltd = ((lit< tt, tt), ((lit< tt, lit< tt), ((lit< tt, refl, refl), ((inl refl, tt), tt))))
convert-typed g Cqto = ((lit< tt, tt), ((lit< tt, lit< tt), ((lit< tt, refl, refl), ((inl refl, tt), tt))))

plain-typed : (g : Widths) (kind : Plain) → IsTyped g (plain_of kind)
plain-typed g plain.Ud2 = (tt, tt)
plain-typed g plain.Int3 = (tt, tt)
plain-typed g plain.Hlt = (tt, tt)
plain-typed g _ = tt

module _ {R : Type 0} where
  register-sound : (w : Width) (o : Operand R) → is_register w o ≡ true → Sound w o
  register-sound w (operand.Reg r) h = tt
  register-sound w (operand.Imm v) h = tt
  register-sound w (operand.Byte (Low r)) h = tt
  register-sound B (operand.Byte (High r)) h = tt
  register-sound W (operand.Byte (High r)) h = cc
  register-sound L (operand.Byte (High r)) h = cc
  register-sound Q (operand.Byte (High r)) h = cc
  register-sound B (operand.Mem m) h = cc
  register-sound W (operand.Mem m) h = cc
  register-sound L (operand.Mem m) h = cc
  register-sound Q (operand.Mem m) h = cc

  place-sound : (w : Width) (o : Operand R) → is_place w o ≡ true → Sound w o
  place-sound w (operand.Mem m) h = h
  place-sound w (operand.Reg r) h = register-sound w (operand.Reg r) h
  place-sound w (operand.Byte r) h = register-sound w (operand.Byte r) h
  place-sound w (operand.Imm v) h = tt

  immediate-sound : (w : Width) (o : Operand R) → is_immediate w o ≡ true → Sound w o
  immediate-sound w (operand.Imm v) h = tt
  immediate-sound w (operand.Reg r) h = tt
  immediate-sound w (operand.Mem m) h = cc
  immediate-sound w (operand.Byte (Low r)) h = tt
  immediate-sound B (operand.Byte (High r)) h = tt
  immediate-sound _ (operand.Byte (High r)) h = cc

  place_or_immediate-sound : (w : Width) (o : Operand R) → (is_place w o || is_immediate w o) ≡ true → Sound w o
  place_or_immediate-sound w o h = ⊎_elim (place-sound w o) (immediate-sound w o) (or_cases (is_place w o) (is_immediate w o) h)

  register_or_immediate-sound : (w : Width) (o : Operand R) → (is_register w o || is_immediate w o) ≡ true → Sound w o
  register_or_immediate-sound w o h = ⊎_elim (register-sound w o) (immediate-sound w o) (or_cases (is_register w o) (is_immediate w o) h)

  operands-sound : (w : Width) (to from : Operand R) → are_operands w to from ≡ true → Sound w to × Sound w from
  operands-sound w to from h =
      let a : Bool = is_place w to && is_register w from in
      let b : Bool = is_register w to && is_place w from in
      let c : Bool = is_place w to && is_immediate w from in
      ⊎_elim
      (λ y. ⊎_elim
      (λ x. let p = and_parts (is_place w to) (is_register w from) x in (place-sound w to p.0, register-sound w from p.1))
      (λ x. let p = and_parts (is_register w to) (is_place w from) x in (register-sound w to p.0, place-sound w from p.1))
      (or_cases a b y))
      (λ x. let p = and_parts (is_place w to) (is_immediate w from) x in (place-sound w to p.0, immediate-sound w from p.1))
      (or_cases (a || b) c (and_parts (a || b || c) (go_together to from) h).0)

  moved : (g h : Widths) (o : Operand R) → h 4 ≡ g 4 → Placed g o → Placed h o
  moved g h (operand.Mem m) e p = e ∙ p
  moved g h (operand.Reg r) e p = tt
  moved g h (operand.Byte r) e p = tt
  moved g h (operand.Imm v) e p = tt

  address-typed : (g : Widths) (m : Mem R) → is_address m ≡ true → IsTyped g (address_of m)
  address-typed g (At None None d) h = ((lit< tt, tt, tt), tt)
  address-typed g (At (Some b) None d) h = ((lit< tt, tt), ((lit< tt, refl, tt), tt))
  address-typed g (At None (Some (i, s)) d) h = ((lit< tt, tt), ((lit< tt, tt, (refl, scale_of i s h)), tt))
  address-typed g (At (Some b) (Some (i, s)) d) h = ((lit< tt, tt), ((lit< tt, tt), ((lit< tt, refl, (refl, scale_of i s h)), tt)))
  address-typed g (Rel r) h = (lit< tt, tt)
  address-typed g Canary h = (lit< tt, tt)

  address-4 : (g : Widths) (m : Mem R) → after g (address_of m) 4 ≡ Some Q
  address-4 g (At None None d) = refl
  address-4 g (At (Some b) None d) = refl
  address-4 g (At None (Some (i, s)) d) = refl
  address-4 g (At (Some b) (Some (i, s)) d) = refl
  address-4 g (Rel r) = refl
  address-4 g Canary = refl

  address-0 : (g : Widths) (m : Mem R) → after g (address_of m) 0 ≡ g 0
  address-0 g (At None None d) = refl
  address-0 g (At (Some b) None d) = refl
  address-0 g (At None (Some (i, s)) d) = refl
  address-0 g (At (Some b) (Some (i, s)) d) = refl
  address-0 g (Rel r) = refl
  address-0 g Canary = refl

  address-1 : (g : Widths) (m : Mem R) → after g (address_of m) 1 ≡ g 1
  address-1 g (At None None d) = refl
  address-1 g (At (Some b) None d) = refl
  address-1 g (At None (Some (i, s)) d) = refl
  address-1 g (At (Some b) (Some (i, s)) d) = refl
  address-1 g (Rel r) = refl
  address-1 g Canary = refl

  address-2 : (g : Widths) (m : Mem R) → after g (address_of m) 2 ≡ g 2
  address-2 g (At None None d) = refl
  address-2 g (At (Some b) None d) = refl
  address-2 g (At None (Some (i, s)) d) = refl
  address-2 g (At (Some b) (Some (i, s)) d) = refl
  address-2 g (Rel r) = refl
  address-2 g Canary = refl

  value-typed : (g : Widths) (n : ℕ) (w : Width) (o : Operand R) → n < 8 → Sound w o → IsTyped g (value_of (temp n) w o)
  value-typed g n w (operand.Reg r) lt h = ((lt, tt), tt)
  value-typed g n w (operand.Byte r) lt h = ((lt, h), tt)
  value-typed g n w (operand.Mem m) lt h = then_typed g (address_of m) (Load (temp n) w t4 ∷ []) (address-typed g m h) ((lt, address-4 g m), tt)
  value-typed g n w (operand.Imm v) lt h = ((lt, number-lt w v), tt)

  after-load : (g : Widths) (n k : ℕ) (w : Width) (m : Mem R) → after g (value_of (temp n) w (operand.Mem m)) k ≡ with_width (after g (address_of m)) (temp n) (Some w) k
  after-load g n k w m = ap (λ (h : Widths). h k) (after-append g (address_of m) (Load (temp n) w t4 ∷ []))

  value0-0 : (g : Widths) (w : Width) (o : Operand R) → after g (value_of t0 w o) 0 ≡ Some w
  value0-0 g w (operand.Mem m) = after-load g 0 0 w m
  value0-0 g w (operand.Reg r) = refl
  value0-0 g w (operand.Byte r) = refl
  value0-0 g w (operand.Imm v) = refl

  value0-1 : (g : Widths) (w : Width) (o : Operand R) → after g (value_of t0 w o) 1 ≡ g 1
  value0-1 g w (operand.Mem m) = after-load g 0 1 w m ∙ address-1 g m
  value0-1 g w (operand.Reg r) = refl
  value0-1 g w (operand.Byte r) = refl
  value0-1 g w (operand.Imm v) = refl

  value1-1 : (g : Widths) (w : Width) (o : Operand R) → after g (value_of t1 w o) 1 ≡ Some w
  value1-1 g w (operand.Mem m) = after-load g 1 1 w m
  value1-1 g w (operand.Reg r) = refl
  value1-1 g w (operand.Byte r) = refl
  value1-1 g w (operand.Imm v) = refl

  value1-0 : (g : Widths) (w : Width) (o : Operand R) → after g (value_of t1 w o) 0 ≡ g 0
  value1-0 g w (operand.Mem m) = after-load g 1 0 w m ∙ address-0 g m
  value1-0 g w (operand.Reg r) = refl
  value1-0 g w (operand.Byte r) = refl
  value1-0 g w (operand.Imm v) = refl

  value0-placed : (g : Widths) (w : Width) (o : Operand R) → Placed (after g (value_of t0 w o)) o
  value0-placed g w (operand.Mem m) = after-load g 0 4 w m ∙ address-4 g m
  value0-placed g w (operand.Reg r) = tt
  value0-placed g w (operand.Byte r) = tt
  value0-placed g w (operand.Imm v) = tt

  value1-placed : (g : Widths) (w : Width) (o : Operand R) → Placed (after g (value_of t1 w o)) o
  value1-placed g w (operand.Mem m) = after-load g 1 4 w m ∙ address-4 g m
  value1-placed g w (operand.Reg r) = tt
  value1-placed g w (operand.Byte r) = tt
  value1-placed g w (operand.Imm v) = tt

  value1-4 : (g : Widths) (w : Width) (o : Operand R) → g 4 ≡ Some Q → after g (value_of t1 w o) 4 ≡ Some Q
  value1-4 g w (operand.Mem m) h = after-load g 1 4 w m ∙ address-4 g m
  value1-4 g w (operand.Reg r) h = h
  value1-4 g w (operand.Byte r) h = h
  value1-4 g w (operand.Imm v) h = h

  placed-value1 : (g : Widths) (w : Width) (o p : Operand R) → Placed g p → Placed (after g (value_of t1 w o)) p
  placed-value1 g w o (operand.Mem m) h = value1-4 g w o h
  placed-value1 g w o (operand.Reg r) h = tt
  placed-value1 g w o (operand.Byte r) h = tt
  placed-value1 g w o (operand.Imm v) h = tt

  place-typed : (g : Widths) (w : Width) (o : Operand R) → Sound w o → IsTyped g (place_of o)
  place-typed g w (operand.Mem m) h = address-typed g m h
  place-typed g w (operand.Reg r) h = tt
  place-typed g w (operand.Byte r) h = tt
  place-typed g w (operand.Imm v) h = tt

  place-0 : (g : Widths) (o : Operand R) → after g (place_of o) 0 ≡ g 0
  place-0 g (operand.Mem m) = address-0 g m
  place-0 g _ = refl

  place-2 : (g : Widths) (o : Operand R) → after g (place_of o) 2 ≡ g 2
  place-2 g (operand.Mem m) = address-2 g m
  place-2 g _ = refl

  place-placed : (g : Widths) (o : Operand R) → Placed (after g (place_of o)) o
  place-placed g (operand.Mem m) = address-4 g m
  place-placed g (operand.Reg r) = tt
  place-placed g (operand.Byte r) = tt
  place-placed g (operand.Imm v) = tt

  write-typed : (g : Widths) (w : Width) (o : Operand R) (n : ℕ) → g n ≡ Some w → Placed g o → Sound w o → IsTyped g (write_of w o (temp n))
  write-typed g w (operand.Reg r) n h p s = ((inl h, tt), tt)
  write-typed g w (operand.Byte r) n h p s = ((inl h, s), tt)
  write-typed g w (operand.Mem m) n h p s = ((p, h), tt)
  write-typed g w (operand.Imm v) n h p s = tt

  after-write : (g : Widths) (w : Width) (o : Operand R) (n : ℕ) → after g (write_of w o (temp n)) ≡ g
  after-write g w (operand.Reg r) n = refl
  after-write g w _ n = refl

  -- a place, then a write to it
  placed-write : (g : Widths) (w : Width) (o : Operand R) (n : ℕ) → after g (place_of o) n ≡ Some w → Sound w o → IsTyped g (place_of o ++ write_of w o (temp n))
  placed-write g w o n h s = then_typed g (place_of o) (write_of w o (temp n)) (place-typed g w o s) (write-typed (after g (place_of o)) w o n h (place-placed g o) s)

  -- a value in t0, then the rest
  value_then : (g : Widths) (w : Width) (o : Operand R) (ys : List Micro) → Sound w o → IsTyped (after g (value_of t0 w o)) ys → IsTyped g (value_of t0 w o ++ ys)
  value_then g w o ys s k = then_typed g (value_of t0 w o) ys (value-typed g 0 w o (lit< tt) s) k

  -- ---- rows

  alu-typed : (g : Widths) (op : AluOp) (w : Width) (to from : Operand R) → Sound w to → Sound w from → IsTyped g (alu_of op w to from)
  alu-typed g op w to from s f =
      let g1 = after g (value_of t1 w from) in
      let g2 = after g1 (value_of t0 w to) in
      let g3 = with_width g2 t2 (Some w) in
      let last : List Micro = if writes_result op then write_of w to t2 else [] in
      regroup4 g (value_of t1 w from) (value_of t0 w to) (Alu op w t2 t0 t1 ∷ []) last (then_typed g (value_of t1 w from) (value_of t0 w to ++ Alu op w t2 t0 t1 ∷ last) (value-typed g 1 w from (lit< tt) f)
      (value_then g1 w to (Alu op w t2 t0 t1 ∷ last) s (
        (lit< tt, value0-0 g1 w to, value0-1 g1 w to ∙ value1-1 g w from),
        if_typed g3 (writes_result op) (write_of w to t2) [] (λ _. write-typed g3 w to 2 refl (moved g2 g3 to refl (value0-placed g1 w to)) s) (λ _. tt),
      )))

  same-placed : (g : Widths) (to from : Operand R) → are_same to from ≡ true → Placed g to
  same-placed g (operand.Mem m) from h = cc
  same-placed g (operand.Reg r) from h = tt
  same-placed g (operand.Byte r) from h = tt
  same-placed g (operand.Imm v) from h = tt

  same-typed : (g : Widths) (borrow : Bool) (w : Width) (to from : Operand R) → are_same to from ≡ true → Sound w to → IsTyped g (same_of borrow w to)
  same-typed g borrow w to from h s = (lit< tt, write-typed (with_width g t2 (Some w)) w to 2 refl (same-placed (with_width g t2 (Some w)) to from h) s)

  alu_or_same-typed : (g : Widths) (o : Option Bool) (op : AluOp) (w : Width) (to from : Operand R) → Sound w to → Sound w from → IsTyped g (alu_or_same o op w to from)
  alu_or_same-typed g None op w to from s f = alu-typed g op w to from s f
  alu_or_same-typed g (Some borrow) op w to from s f = if_typed g (are_same to from) (same_of borrow w to) (alu_of op w to from) (λ h. same-typed g borrow w to from h s) (λ _. alu-typed g op w to from s f)

  test-typed : (g : Widths) (w : Width) (e by : Operand R) → Sound w e → Sound w by → IsTyped g (test_of w e by)
  test-typed g w e by s f =
      let g1 = after g (value_of t0 w e) in
      regroup3 g (value_of t0 w e) (value_of t1 w by) (Alu alu.And w t2 t0 t1 ∷ []) (value_then g w e (value_of t1 w by ++ Alu alu.And w t2 t0 t1 ∷ []) s
      (then_typed g1 (value_of t1 w by) (Alu alu.And w t2 t0 t1 ∷ []) (value-typed g1 1 w by (lit< tt) f)
      ((lit< tt, value1-0 g1 w by ∙ value0-0 g w e, value1-1 g1 w by), tt)))

  exchange-typed : (g : Widths) (w : Width) (e o : Operand R) → Sound w e → Sound w o → IsTyped g (exchange_of w e o)
  exchange-typed g w e o s f =
      let g1 = after g (value_of t0 w e) in
      let g2 = after g1 (value_of t1 w o) in
      regroup4 g (value_of t0 w e) (value_of t1 w o) (write_of w e t1) (write_of w o t0) (value_then g w e (value_of t1 w o ++ (write_of w e t1 ++ write_of w o t0)) s
      (then_typed g1 (value_of t1 w o) (write_of w e t1 ++ write_of w o t0) (value-typed g1 1 w o (lit< tt) f)
      (then_typed g2 (write_of w e t1) (write_of w o t0) (write-typed g2 w e 1 (value1-1 g1 w o) (placed-value1 g1 w o e (value0-placed g w e)) s)
      (subst (λ (h : Widths). IsTyped h (write_of w o t0)) (sym (after-write g2 w e 1))
      (write-typed g2 w o 0 (value1-0 g1 w o ∙ value0-0 g w e) (value1-placed g1 w o) f)))))

  bit_write-typed : (g : Widths) (op : BitOp) (w : Width) (at : Operand R) → g 2 ≡ Some w → Placed g at → Sound w at → IsTyped g (bit_write op w at)
  bit_write-typed g Bt w at h p s = tt
  bit_write-typed g _ w at h p s = write-typed g w at 2 h p s

  bit-typed : (g : Widths) (op : BitOp) (w : Width) (at index : Operand R) → Sound w at → Sound w index → IsTyped g (bit_of op w at index)
  bit-typed g op w at index s f =
      let g1 = after g (value_of t0 w at) in
      let g2 = after g1 (value_of t1 w index) in
      let g3 = with_width g2 t2 (Some w) in
      regroup4 g (value_of t0 w at) (value_of t1 w index) (Bit op w t2 t0 t1 ∷ []) (bit_write op w at) (value_then g w at (value_of t1 w index ++ Bit op w t2 t0 t1 ∷ bit_write op w at) s
      (then_typed g1 (value_of t1 w index) (Bit op w t2 t0 t1 ∷ bit_write op w at) (value-typed g1 1 w index (lit< tt) f) (
        (lit< tt, value1-0 g1 w index ∙ value0-0 g w at, value1-1 g1 w index),
        bit_write-typed g3 op w at refl (moved g2 g3 at refl (placed-value1 g1 w index at (value0-placed g w at))) s,
      )))

  move-typed : (g : Widths) (w : Width) (to from : Operand R) → Sound w to → Sound w from → IsTyped g (move_of w to from)
  move-typed g w to from s f =
      let g1 = after g (value_of t0 w from) in
      regroup3 g (value_of t0 w from) (place_of to) (write_of w to t0) (value_then g w from (place_of to ++ write_of w to t0) f (placed-write g1 w to 0 (place-0 g1 to ∙ value0-0 g w from) s))

  extend-typed : (g : Widths) (signed : Bool) (f w : Width) (to : Reg) (from : Operand R) → nat_lt (byte_count f) (byte_count w) ≡ true → Sound f from → IsTyped g (extend_of signed f w to from)
  extend-typed g signed f w to from lt s = value_then g f from (Extend signed f w t1 t0 ∷ Put w (Low to) t1 ∷ []) s ((lit< tt, value0-0 g f from, lt), ((inl refl, tt), tt))

  lea-typed : (g : Widths) (w : Width) (to : Reg) (m : Mem R) → is_address m ≡ true → IsTyped g (lea_of w to m)
  lea-typed g w to m h = then_typed g (address_of m) (Put w (Low to) t4 ∷ []) (address-typed g m h) ((inr (address-4 g m), tt), tt)

  cmov-typed : (g : Widths) (cond : Cond) (w : Width) (to : Reg) (from : Operand R) → Sound w from → IsTyped g (cmov_of cond w to from)
  cmov-typed g cond w to from s = value_then g w from (Get t1 w (Low to) ∷ Choose cond t2 t0 t1 ∷ Put w (Low to) t2 ∷ []) s ((lit< tt, tt), ((lit< tt, (w, value0-0 g w from, refl)), ((inl (value0-0 g w from), tt), tt)))

  setcc-typed : (g : Widths) (cond : Cond) (to : Operand R) → Sound B to → IsTyped g (setcc_of cond to)
  setcc-typed g cond to s =
      let g3 = with_width (with_width (with_width g t0 (Some B)) t1 (Some B)) t2 (Some B) in
      ((lit< tt, lit< tt), ((lit< tt, lit< tt), ((lit< tt, (B, refl, refl)), placed-write g3 B to 2 (place-2 g3 to) s)))

  push-typed : (g : Widths) (from : Operand R) → Sound Q from → IsTyped g (push_row from)
  push-typed g from s = value_then g Q from (push_of t0) s ((lit< tt, tt), ((lit< tt, refl, tt), ((refl, value0-0 g Q from), ((inl refl, tt), tt))))

  pop-typed : (g : Widths) (to : Operand R) → Sound Q to → IsTyped g (pop_row to)
  pop-typed g to s =
      let g3 = with_width (with_width (with_width g t1 (Some Q)) t0 (Some Q)) (temp 7) (Some Q) in
      ((lit< tt, tt), ((lit< tt, refl), ((lit< tt, refl, tt), ((inl refl, tt), placed-write g3 Q to 0 (place-0 g3 to) s))))

  jump_to-typed : (g : Widths) (to : Operand R) → Sound Q to → IsTyped g (jump_to_of to)
  jump_to-typed g to s = value_then g Q to (Go None t0 ∷ []) s (value0-0 g Q to, tt)

  call_to-typed : (g : Widths) (to : Operand R) → Sound Q to → IsTyped g (call_to_of to)
  call_to-typed g to s = value_then g Q to call_of s (call-typed (after g (value_of t0 Q to)) (value0-0 g Q to))

  multiply-typed : (g : Widths) (signed : Bool) (w : Width) (at : Operand R) → Sound w at → IsTyped g (multiply_of signed w at)
  multiply-typed g signed w at s = value_then g w at (Get t1 w (Low Rax) ∷ Mul signed w t2 t3 t1 t0 ∷ Put w (Low Rax) t2 ∷ Put w (high_half w) t3 ∷ []) s ((lit< tt, tt), ((lit< tt, lit< tt, refl, value0-0 g w at), ((inl refl, tt), ((inl refl, half-part w), tt))))

  divide-typed : (g : Widths) (signed : Bool) (w : Width) (at : Operand R) → Sound w at → IsTyped g (divide_of signed w at)
  divide-typed g signed w at s = value_then g w at (Get t1 w (high_half w) ∷ Get t2 w (Low Rax) ∷ Div signed w t2 t3 t1 t2 t0 ∷ Put w (Low Rax) t2 ∷ Put w (high_half w) t3 ∷ []) s ((lit< tt, half-part w), ((lit< tt, tt), ((lit< tt, lit< tt, refl, refl, value0-0 g w at), ((inl refl, tt), ((inl refl, half-part w), tt)))))

  change-typed : (g : Widths) (op : OneOp) (w : Width) (at : Operand R) → is_unary op ≡ true → Sound w at → IsTyped g (change_of op w at)
  change-typed g op w at u s =
      let g1 = after g (value_of t0 w at) in
      let g2 = with_width g1 t1 (Some w) in
      regroup3 g (value_of t0 w at) (One op w t1 t0 ∷ []) (write_of w at t1) (value_then g w at (One op w t1 t0 ∷ write_of w at t1) s ((lit< tt, value0-0 g w at, u), write-typed g2 w at 1 refl (moved g1 g2 at refl (value0-placed g w at)) s))

  one-typed : (g : Widths) (op : OneOp) (w : Width) (at : Operand R) → Sound w at → IsTyped g (one_of op w at)
  one-typed g one.Mul w at s = multiply-typed g false w at s
  one-typed g one.Imul w at s = multiply-typed g true w at s
  one-typed g one.Div w at s = divide-typed g false w at s
  one-typed g one.Idiv w at s = divide-typed g true w at s
  one-typed g one.Inc w at s = change-typed g one.Inc w at refl s
  one-typed g one.Dec w at s = change-typed g one.Dec w at refl s
  one-typed g one.Not w at s = change-typed g one.Not w at refl s
  one-typed g one.Neg w at s = change-typed g one.Neg w at refl s

  imul2-typed : (g : Widths) (w : Width) (to : Reg) (from : Operand R) → Sound w from → IsTyped g (imul2_of w to from)
  imul2-typed g w to from s = value_then g w from (Get t1 w (Low to) ∷ Mul true w t2 t3 t1 t0 ∷ Put w (Low to) t2 ∷ []) s ((lit< tt, tt), ((lit< tt, lit< tt, refl, value0-0 g w from), ((inl refl, tt), tt)))

  imul3-typed : (g : Widths) (w : Width) (to : Reg) (from : Operand R) (by : ℤ) → Sound w from → IsTyped g (imul3_of w to from by)
  imul3-typed g w to from by s = value_then g w from (Num t1 w (number_of w by) ∷ Mul true w t2 t3 t0 t1 ∷ Put w (Low to) t2 ∷ []) s ((lit< tt, number-lt w by), ((lit< tt, lit< tt, value0-0 g w from, refl), ((inl refl, tt), tt)))

  shift-typed : (g : Widths) (op : ShiftOp) (w : Width) (at : Operand R) (count : Count) → Sound w at → is_count w count ≡ true → IsTyped g (shift_of op w at count)
  shift-typed g op w at count.Cl s h =
      let g1 = after g (value_of t0 w at) in
      let g3 = with_width (with_width g1 t1 (Some B)) t2 (Some w) in
      regroup3 g (value_of t0 w at) (Get t1 B (Low Rcx) ∷ Shift op w t2 t0 t1 true ∷ []) (write_of w at t2) (value_then g w at (Get t1 B (Low Rcx) ∷ Shift op w t2 t0 t1 true ∷ write_of w at t2) s
      ((lit< tt, tt), ((lit< tt, value0-0 g w at, refl), write-typed g3 w at 2 refl (moved g1 g3 at refl (value0-placed g w at)) s)))
  shift-typed g op w at (count.Imm c) s h =
      let g1 = after g (value_of t0 w at) in
      let g3 = with_width (with_width g1 t1 (Some B)) t2 (Some w) in
      regroup3 g (value_of t0 w at) (Num t1 B c ∷ Shift op w t2 t0 t1 true ∷ []) (write_of w at t2) (value_then g w at (Num t1 B c ∷ Shift op w t2 t0 t1 true ∷ write_of w at t2) s
      ((lit< tt, count-lt w c h), ((lit< tt, value0-0 g w at, refl), write-typed g3 w at 2 refl (moved g1 g3 at refl (value0-placed g w at)) s)))

  scan-typed : (g : Widths) (op : ScanOp) (w : Width) (to : Reg) (from : Operand R) → Sound w from → IsTyped g (scan_of op w to from)
  scan-typed g op w to from s = value_then g w from (Scan op w t1 t0 ∷ Put w (Low to) t1 ∷ []) s ((lit< tt, value0-0 g w from), ((inl refl, tt), tt))

  extend-parts : (f w : Width) (to : Reg) (from : Operand R) → (extends f w && widens f w to from) ≡ true → (nat_lt (byte_count f) (byte_count w) ≡ true) × Sound f from
  extend-parts f w to from h =
      let p = and_parts (extends f w) (widens f w to from) h in
      (narrower f w p.0, place-sound f from (and_parts (is_place f from) _ p.1).0)

  movsx-parts : (f w : Width) (to : Reg) (from : Operand R) → is_instruction (insn.MovSx f w to from) ≡ true → (nat_lt (byte_count f) (byte_count w) ≡ true) × Sound f from
  movsx-parts L Q to from h = (refl, place-sound L from h)
  movsx-parts f w to from h = extend-parts f w to from h

  index-sound : (w : Width) (at index : Operand R) → is_bit_index w at index ≡ true → Sound w index
  index-sound w at (operand.Imm v) h = tt
  index-sound w at (operand.Reg r) h = tt
  index-sound w at (operand.Byte (Low r)) h = tt
  index-sound B at (operand.Byte (High r)) h = tt
  index-sound W at (operand.Byte (High r)) h = register-sound W (operand.Byte (High r)) (and_parts (is_register W at) _ h).1
  index-sound L at (operand.Byte (High r)) h = register-sound L (operand.Byte (High r)) (and_parts (is_register L at) _ h).1
  index-sound Q at (operand.Byte (High r)) h = register-sound Q (operand.Byte (High r)) (and_parts (is_register Q at) _ h).1
  index-sound B at (operand.Mem m) h = register-sound B (operand.Mem m) (and_parts (is_register B at) _ h).1
  index-sound W at (operand.Mem m) h = register-sound W (operand.Mem m) (and_parts (is_register W at) _ h).1
  index-sound L at (operand.Mem m) h = register-sound L (operand.Mem m) (and_parts (is_register L at) _ h).1
  index-sound Q at (operand.Mem m) h = register-sound Q (operand.Mem m) (and_parts (is_register Q at) _ h).1

  -- the place that follows a wide width
  wide_place : (w : Width) (o : Operand R) → (is_wide w && is_place w o) ≡ true → Sound w o
  wide_place w o h = place-sound w o (and_parts (is_wide w) (is_place w o) h).1

  pub micro-typed : (g : Widths) (i : Insn R) → is_instruction i ≡ true → IsTyped g (micro_of i)
  micro-typed g (insn.Alu op w to from) h = let s = operands-sound w to from h in alu_or_same-typed g (with_itself op) op w to from s.0 s.1
  micro-typed g (insn.Test w e by) h =
      let p = and_parts (is_place w e) (is_register w by || is_immediate w by) (and_parts (is_place w e && (is_register w by || is_immediate w by)) (go_together e by) h).0 in
      test-typed g w e by (place-sound w e p.0) (register_or_immediate-sound w by p.1)
  micro-typed g (insn.Xchg w e o) h =
      let p = and_parts (is_place w e) (is_register w o) (and_parts (is_place w e && is_register w o) (go_together e o) h).0 in
      exchange-typed g w e o (place-sound w e p.0) (register-sound w o p.1)
  micro-typed g (insn.Mov w to from) h = let s = operands-sound w to from h in move-typed g w to from s.0 s.1
  micro-typed g (insn.MovAbs to v) h = ((lit< tt, number-lt Q v), ((inl refl, tt), tt))
  micro-typed g (insn.MovZx f w to from) h = let s = extend-parts f w to from h in extend-typed g false f w to from s.0 s.1
  micro-typed g (insn.MovSx f w to from) h = let s = movsx-parts f w to from h in extend-typed g true f w to from s.0 s.1
  micro-typed g (insn.Lea w to at) h =
      let p = and_parts (is_wide w && is_address at) (not (is_canary at)) h in
      lea-typed g w to at (and_parts (is_wide w) (is_address at) p.0).1
  micro-typed g (insn.Push from) h = push-typed g from (place_or_immediate-sound Q from h)
  micro-typed g (insn.Pop to) h = pop-typed g to (place-sound Q to h)
  micro-typed g (insn.Imul2 w to from) h = imul2-typed g w to from (wide_place w from h)
  micro-typed g (insn.Imul3 w to from by) h =
      let p = and_parts (is_wide w && is_place w from) (fits_immediate w by) h in
      imul3-typed g w to from by (wide_place w from p.0)
  micro-typed g (insn.One op w at) h = one-typed g op w at (place-sound w at h)
  micro-typed g (insn.Shift op w at count) h =
      let p = and_parts (is_place w at) (is_count w count) h in
      shift-typed g op w at count (place-sound w at p.0) p.1
  micro-typed g (insn.Convert kind) h = convert-typed g kind
  micro-typed g (insn.Movs w rep) h = (tt, tt)
  micro-typed g (insn.Stos w rep) h = (tt, tt)
  micro-typed g (insn.Cmov cond w to from) h = cmov-typed g cond w to from (wide_place w from h)
  micro-typed g (insn.Setcc cond to) h = setcc-typed g cond to (place-sound B to h)
  micro-typed g (insn.Bit op w at index) h =
      let p = and_parts (is_wide w && is_place w at) (is_bit_index w at index) h in
      bit-typed g op w at index (wide_place w at p.0) (index-sound w at index p.1)
  micro-typed g (insn.Scan op w to from) h = scan-typed g op w to from (wide_place w from h)
  micro-typed g (insn.Bswap w r) h = ((lit< tt, tt), ((lit< tt, refl, h), ((inl refl, tt), tt)))
  micro-typed g (insn.Jcc cond to) h = (lit< tt, (refl, tt))
  micro-typed g (insn.Jmp to) h = (lit< tt, (refl, tt))
  micro-typed g (insn.Call to) h = (lit< tt, call-typed (with_width g t0 (Some Q)) refl)
  micro-typed g (insn.JmpTo to notrack) h = jump_to-typed g to (place-sound Q to h)
  micro-typed g (insn.CallTo to notrack) h = call_to-typed g to (place-sound Q to h)
  micro-typed g insn.Ret h = ((lit< tt, tt), ((lit< tt, refl), ((lit< tt, refl, tt), ((inl refl, tt), (refl, tt)))))
  micro-typed g insn.Leave h = ((lit< tt, tt), ((lit< tt, refl), ((inl refl, tt), ((lit< tt, refl, tt), ((inl refl, tt), tt)))))
  micro-typed g insn.Syscall h = (tt, tt)
  micro-typed g (insn.Plain kind) h = plain-typed g kind
