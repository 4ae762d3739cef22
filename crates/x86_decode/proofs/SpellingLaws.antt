-- What is decoded is spelled, and what is spelled is decoded, whatever follows.
use Rattle.std.proofs.Common.{◌≡◌, ℕ, ◌+◌, ◌-◌, ◌%◌, ◌^◌, ◌≤◌, Bool, true, false, inl, inr, List, [], ◌∷◌, ◌++◌, length, take, drop, Option, Some, None, refl, sym, ap, subst, ◌∙◌, append_assoc, arith, ltb}
use Rattle.std.specs.Prelude.{IfSome, IfNone}
use Rattle.std.proofs.lemmas.Bool.{ltb-false, le-ltb, cases_Bool}
use Rattle.std.proofs.Math.Seq.{take-append_seam, take-add}
use Rattle.std.proofs.lemmas.List.{length-append, length-take, length-drop, take-append-drop, length-take-le, append-nil, take-take}
use Rattle.std.proofs.lemmas.Option.{same_Some}
use Rattle.x86_insn.specs.declared.instruction.Insn.{Insn}
use Rattle.x86_bytes.specs.declared.parts.Fields.{Fields}
use Rattle.x86_bytes.specs.declared.parts.Rm.{Rm}
use Rattle.x86_bytes.specs.declared.parts.Rm.TheVariants as rm
use Rattle.x86_bytes.specs.Head.{IsHead, IsOpcode, rex_bytes}
use Rattle.x86_bytes.specs.HeadReading.{head_of}
use Rattle.x86_bytes.specs.Operand.{IsLocated}
use Rattle.x86_bytes.specs.OperandReading.{modrm_at, located}
use Rattle.x86_bytes.proofs.HeadLaws.{head_again, head_takes, drop_seam, window_is}
use Rattle.x86_bytes.proofs.OperandLaws.{operand_again, modrm_found, unless}
use Rattle.x86_decode.specs.declared.row.Row.{Row}
use Rattle.x86_decode.specs.declared.row.Parts.{Parts}
use Rattle.x86_decode.specs.Fits.{rex_of, row_of, opcode_row, has_modrm, width_of, imm_len}
use Rattle.x86_decode.specs.Value.{value}
use Rattle.x86_decode.proofs.TableLaws.{row_of_is, row_of_takes, first_of}
use Rattle.x86_decode.specs.Spelling.{parts_of, IsOptional, Spells}
use Rattle.x86_decode.specs.Reading.{imm_at, after_row, row_at, after_operand, after_first, after_head, window_of, decode_of}

-- ---- what is spelled is read

-- the immediate behind the front of the bytes
imm_again : (address : ℕ) (front imm more : List ℕ) (f : Fields) (reg : ℕ) (operand : Rm) (row : Row) (n : ℕ) → length imm ≡ n → imm_at address (front ++ (imm ++ more)) f reg operand (length front) row n ≡ Some (value row.name row.form (parts_of f row reg operand imm ((address + (length front + n)) % 2 ^ 64)), length front + n)
imm_again address front imm more f reg operand row n e =
    let enough : length front + n ≤ length (front ++ (imm ++ more)) = omega (arith, length-append front (imm ++ more), length-append imm more) in
    let there : take n (drop (length front) (front ++ (imm ++ more))) ≡ imm = ap (take n) (drop_seam front (imm ++ more)) ∙ (ap (λ k. take k (imm ++ more)) (sym e) ∙ take-append_seam imm more) in
    rw (le-ltb (length (front ++ (imm ++ more))) (length front + n) enough, there) refl

row_again : (address : ℕ) (front imm more : List ℕ) (f : Fields) (reg : ℕ) (operand : Rm) (row : Row) → row_of f reg operand ≡ Some row → length imm ≡ imm_len row.imm (width_of row.size f) → row_at address (front ++ (imm ++ more)) f reg operand (length front) ≡ Some (value row.name row.form (parts_of f row reg operand imm ((address + (length front + length imm)) % 2 ^ 64)), length front + length imm)
unfolding row_at
row_again address front imm more f reg operand row found e =
    rw found (imm_again address front imm more f reg operand row (imm_len row.imm (width_of row.size f)) e ∙ ap (λ k. Some (value row.name row.form (parts_of f row reg operand imm ((address + (length front + k)) % 2 ^ 64)), length front + k)) (sym e))

-- from the place after the opcode on, of bytes that hold an operand and an immediate there
first_again : (address : ℕ) (head middle imm more : List ℕ) (f : Fields) (reg : ℕ) (operand : Rm) (first row : Row) (b : Bool) → has_modrm first.place ≡ b → IsOptional b (rex_of f.rex) reg operand middle → f.at ≡ length head → row_of f reg operand ≡ Some row → length imm ≡ imm_len row.imm (width_of row.size f) → after_first address (head ++ (middle ++ (imm ++ more))) f (Some first) ≡ Some (value row.name row.form (parts_of f row reg operand imm ((address + (length (head ++ middle) + length imm)) % 2 ^ 64)), length (head ++ middle) + length imm)
first_again address head middle imm more f reg operand first row true has h at found e =
    let there : drop f.at (head ++ (middle ++ (imm ++ more))) ≡ middle ++ (imm ++ more) = rw at (drop_seam head (middle ++ (imm ++ more))) in
    let read : modrm_at (rex_of f.rex) (drop f.at (head ++ (middle ++ (imm ++ more)))) ≡ Some (reg, operand, length middle) = ap (modrm_at (rex_of f.rex)) there ∙ operand_again (rex_of f.rex) reg operand middle (imm ++ more) h in
    let after : f.at + length middle ≡ length (head ++ middle) = ap (λ n. n + length middle) at ∙ sym (length-append head middle) in
    let regroup : head ++ (middle ++ (imm ++ more)) ≡ (head ++ middle) ++ (imm ++ more) = sym (append_assoc head middle (imm ++ more)) in
    rw has (ap (λ (o : Option (ℕ × Rm × ℕ)). after_operand address (head ++ (middle ++ (imm ++ more))) f (located f.at o)) read
    ∙ (ap (row_at address (head ++ (middle ++ (imm ++ more))) f reg operand) after
    ∙ (ap (λ (t : List ℕ). row_at address t f reg operand (length (head ++ middle))) regroup
    ∙ row_again address (head ++ middle) imm more f reg operand row found e)))
first_again address head middle imm more f reg operand first row false has h at found e =
    let bytes = head ++ (middle ++ (imm ++ more)) in
    let none : length middle ≡ 0 = ap length h.0 in
    let after : f.at ≡ length (head ++ middle) = omega (arith, length-append head middle) in
    let regroup : head ++ (middle ++ (imm ++ more)) ≡ (head ++ middle) ++ (imm ++ more) = sym (append_assoc head middle (imm ++ more)) in
    rw has (ap (λ (r : ℕ). row_at address bytes f r (rm.Reg 0) f.at) (sym h.1)
    ∙ (ap (λ (o : Rm). row_at address bytes f reg o f.at) (sym h.2)
    ∙ (ap (row_at address bytes f reg operand) after
    ∙ (ap (λ (t : List ℕ). row_at address t f reg operand (length (head ++ middle))) regroup
    ∙ row_again address (head ++ middle) imm more f reg operand row found e))))

pub decode_again : (i : Insn ℕ) (address : ℕ) (text rest : List ℕ) → Spells i address text → decode_of address (text ++ rest) ≡ Some (i, length text)
unfolding window_of
decode_again i address text rest h =
    let f = first_of h.fields h.reg h.operand h.row h.in_table h.fitting in
    let more = take (15 - length text) rest in
    let w_is : take 15 (text ++ rest) ≡ h.head ++ (h.middle ++ (h.imm ++ more)) = window_is text rest h.short ∙ (ap (λ (t : List ℕ). t ++ more) h.spelled ∙ (append_assoc h.head (h.middle ++ h.imm) more ∙ ap (λ (t : List ℕ). h.head ++ t) (append_assoc h.middle h.imm more))) in
    let head : head_of (h.head ++ (h.middle ++ (h.imm ++ more))) ≡ Some h.fields = head_again h.fields h.head (h.middle ++ (h.imm ++ more)) h.head_is in
    let at : h.fields.at ≡ length h.head = ap (λ (g : Fields). g.at) h.head_is.fields in
    let len : length text ≡ length (h.head ++ h.middle) + length h.imm = ap length (h.spelled ∙ sym (append_assoc h.head h.middle h.imm)) ∙ length-append (h.head ++ h.middle) h.imm in
    ap (window_of address) w_is
    ∙ (ap (after_head address (h.head ++ (h.middle ++ (h.imm ++ more)))) head
    ∙ (ap (after_first address (h.head ++ (h.middle ++ (h.imm ++ more))) h.fields) f.found
    ∙ (first_again address h.head h.middle h.imm more h.fields h.reg h.operand f.first h.row (has_modrm h.row.place) f.same h.operand_is at (row_of_is h.fields h.reg h.operand h.row h.in_table h.fitting) h.imm_is
    ∙ (ap (λ k. Some (value h.row.name h.row.form (parts_of h.fields h.row h.reg h.operand h.imm ((address + k) % 2 ^ 64)), k)) (sym len)
    ∙ ap (λ (j : Insn ℕ). Some (j, length text)) (sym h.insn_is)))))

-- ---- what is read is spelled

is_empty : (xs : List ℕ) → length xs ≡ 0 → xs ≡ []
is_empty [] e = refl
is_empty (x ∷ xs) e = absurd (omega arith)

no_rest : (n : ℕ) → n - n ≡ 0
no_rest n = omega arith

abbrev some_row : Row → Option Row
some_row r = Some r

abbrev pub some_insn : Insn ℕ → ℕ → Option (Insn ℕ × ℕ)
some_insn i n = Some (i, n)

-- the first b + k bytes are the first a, those up to b, and k more
three_parts : (w : List ℕ) (a b k : ℕ) → a ≤ b → take (b + k) w ≡ take a w ++ (take (b - a) (drop a w) ++ take k (drop b w))
three_parts w a b k le =
    let b_is : a + (b - a) ≡ b = omega arith in
    let front : take b w ≡ take a w ++ take (b - a) (drop a w) = ap (λ m. take m w) (sym b_is) ∙ take-add a (b - a) w in
    take-add b k w ∙ (ap (λ (t : List ℕ). t ++ take k (drop b w)) front ∙ append_assoc (take a w) (take (b - a) (drop a w)) (take k (drop b w)))

module _ (address : ℕ) (w : List ℕ) (i : Insn ℕ) (n : ℕ) (short : length w ≤ 15) where
  record Reads : Type 0 where
    within : n ≤ length w
    spelled : Spells i address (take n w)

  imm_takes : (f : Fields) (reg : ℕ) (operand : Rm) (at : ℕ) (first row : Row) → IsHead f (take f.at w) → f.at ≤ at → opcode_row f.opcode ≡ Some first → IsOptional (has_modrm first.place) (rex_of f.rex) reg operand (take (at - f.at) (drop f.at w)) → row_of f reg operand ≡ Some row → imm_at address w f reg operand at row (imm_len row.imm (width_of row.size f)) ≡ Some (i, n) → Reads
  imm_takes f reg operand at first row head le first_is operand_is row_is e =
      let k = imm_len row.imm (width_of row.size f) in
      let found = row_of_takes f reg operand row row_is in
      let g = first_of f reg operand row found.0 found.1 in
      let firsts : some_row first ≡ some_row g.first = sym first_is ∙ g.found in
      let first_same : first ≡ g.first = cc in
      let same_modrm : has_modrm first.place ≡ has_modrm row.place = ap (λ (r : Row). has_modrm r.place) first_same ∙ g.same in
      let u = unless (ltb (length w) (at + k)) (some_insn (value row.name row.form (parts_of f row reg operand (take k (drop at w)) ((address + (at + k)) % 2 ^ 64))) (at + k)) (i, n) e in
      let enough : at + k ≤ length w = ltb-false _ _ u.0 in
      let same = same_Some _ _ u.1 in
      let n_is : at + k ≡ n = ap (λ (p : Insn ℕ × ℕ). p.1) same in
      let i_is : value row.name row.form (parts_of f row reg operand (take k (drop at w)) ((address + (at + k)) % 2 ^ 64)) ≡ i = ap (λ (p : Insn ℕ × ℕ). p.0) same in
      let len : length (take n w) ≡ at + k = length-take-le n w (omega arith) ∙ sym n_is in
      record {
        within = omega arith;
        spelled = record {
          fields = f;
          reg = reg;
          operand = operand;
          head = take f.at w;
          middle = take (at - f.at) (drop f.at w);
          imm = take k (drop at w);
          row = row;
          spelled = ap (λ m. take m w) (sym n_is) ∙ three_parts w f.at at k le;
          short = omega (arith, length-take n w);
          head_is = head;
          operand_is = subst (λ (b : Bool). IsOptional b (rex_of f.rex) reg operand (take (at - f.at) (drop f.at w))) same_modrm operand_is;
          in_table = found.0;
          fitting = found.1;
          imm_is = length-take-le k (drop at w) (omega (arith, length-drop at w));
          insn_is = sym i_is ∙ ap (λ m. value row.name row.form (parts_of f row reg operand (take k (drop at w)) ((address + m) % 2 ^ 64))) (sym len);
        };
      }

  row_case : (f : Fields) (reg : ℕ) (operand : Rm) (at : ℕ) (first : Row) → IsHead f (take f.at w) → f.at ≤ at → opcode_row f.opcode ≡ Some first → IsOptional (has_modrm first.place) (rex_of f.rex) reg operand (take (at - f.at) (drop f.at w)) → (o : Option Row) → row_of f reg operand ≡ o → after_row address w f reg operand at o ≡ Some (i, n) → Reads
  row_case f reg operand at first head le first_is operand_is None q e = absurd cc
  row_case f reg operand at first head le first_is operand_is (Some row) q e = imm_takes f reg operand at first row head le first_is operand_is q e

  row_takes : (f : Fields) (reg : ℕ) (operand : Rm) (at : ℕ) (first : Row) → IsHead f (take f.at w) → f.at ≤ at → opcode_row f.opcode ≡ Some first → IsOptional (has_modrm first.place) (rex_of f.rex) reg operand (take (at - f.at) (drop f.at w)) → row_at address w f reg operand at ≡ Some (i, n) → Reads
  unfolding row_at
  row_takes f reg operand at first head le first_is operand_is e = row_case f reg operand at first head le first_is operand_is (row_of f reg operand) refl e

  operand_case : (f : Fields) (first : Row) → IsHead f (take f.at w) → opcode_row f.opcode ≡ Some first → has_modrm first.place ≡ true → (o : Option (ℕ × Rm × ℕ)) → modrm_at (rex_of f.rex) (drop f.at w) ≡ o → after_operand address w f (located f.at o) ≡ Some (i, n) → Reads
  operand_case f first head first_is has None q e = absurd cc
  operand_case f first head first_is has (Some p) q e =
      let l : IsLocated w f.at (rex_of f.rex) p.0 p.1 (f.at + p.2) = modrm_found w f.at (rex_of f.rex) (Some (p.0, p.1, f.at + p.2)) (sym (ap (located f.at) q)) in
      row_takes f p.0 p.1 (f.at + p.2) first head (omega arith) first_is (rw has l.spelled) e

  first_case : (f : Fields) → IsHead f (take f.at w) → (o : Option Row) → opcode_row f.opcode ≡ o → after_first address w f o ≡ Some (i, n) → Reads
  first_case f head None q e = absurd cc
  first_case f head (Some first) q e = elim (cases_Bool (has_modrm first.place)) [
    | inl t ↦ operand_case f first head q t (modrm_at (rex_of f.rex) (drop f.at w)) refl (rw t at e)
    | inr u ↦
        let none : take (f.at - f.at) (drop f.at w) ≡ [] = ap (λ m. take m (drop f.at w)) (no_rest f.at) in
        row_takes f 0 (rm.Reg 0) f.at first head (omega arith) q (rw u (none, refl, refl)) (rw u at e)
  ]

  head_case : (o : Option Fields) → head_of w ≡ o → after_head address w o ≡ Some (i, n) → Reads
  head_case None q e = absurd cc
  head_case (Some f) q e = first_case f (head_takes w f q).1 (opcode_row f.opcode) refl e

  window_takes : window_of address w ≡ Some (i, n) → Reads
  unfolding window_of
  window_takes e = head_case (head_of w) refl e

pub decode_takes : (address : ℕ) (bytes : List ℕ) (i : Insn ℕ) (n : ℕ) → decode_of address bytes ≡ Some (i, n) → (n ≤ length bytes) × Spells i address (take n bytes)
decode_takes address bytes i n e =
    let short : length (take 15 bytes) ≤ 15 = omega (arith, length-take 15 bytes) in
    let r = window_takes address (take 15 bytes) i n short e in
    let n_short : n ≤ 15 = omega (arith, r.within) in
    let same : take n (take 15 bytes) ≡ take n bytes = take-take n 15 bytes n_short in
    (omega (arith, r.within, length-take 15 bytes), subst (λ (t : List ℕ). Spells i address t) same r.spelled)

-- ---- the clauses of `decode_one`

pub decode_found : (address : ℕ) (bytes : List ℕ) (r : Option (Insn ℕ × ℕ)) → r ≡ decode_of address bytes → IfSome r (λ r. (r.1 ≤ length bytes) × Spells r.0 address (take r.1 bytes))
decode_found address bytes None e = tt
decode_found address bytes (Some r) e = decode_takes address bytes r.0 r.1 (sym e)

pub decode_only : (address : ℕ) (bytes : List ℕ) (i : Insn ℕ) (n : ℕ) → n ≤ length bytes → Spells i address (take n bytes) → decode_of address bytes ≡ Some (i, n)
decode_only address bytes i n within h =
    let len : length (take n bytes) ≡ n = omega (arith, length-take n bytes) in
    ap (decode_of address) (sym (take-append-drop n bytes)) ∙ (decode_again i address (take n bytes) (drop n bytes) h ∙ ap (λ k. Some (i, k)) len)

no_spelling : (address : ℕ) (bytes : List ℕ) → None ≡ decode_of address bytes → (i : Insn ℕ) (n : ℕ) → Spells i address (take n bytes) → ⊥
no_spelling address bytes e i n h =
    let again = decode_again i address (take n bytes) (drop n bytes) h in
    let some : decode_of address bytes ≡ Some (i, length (take n bytes)) = ap (decode_of address) (sym (take-append-drop n bytes)) ∙ again in
    let bad = e ∙ some in
    absurd cc

pub decode_none : (address : ℕ) (bytes : List ℕ) (r : Option (Insn ℕ × ℕ)) → r ≡ decode_of address bytes → IfNone r ((i : Insn ℕ) (n : ℕ) → Spells i address (take n bytes) → ⊥)
decode_none address bytes (Some r) e = tt
decode_none address bytes None e = no_spelling address bytes e

-- what fits a row's immediate, for the code
pub imm_is : (address : ℕ) (bytes : List ℕ) (f : Fields) (reg : ℕ) (operand : Rm) (at : ℕ) (row : Row) (n : ℕ) (x : Insn ℕ) (p : Parts) (slice : List ℕ) (next : ℕ) → at + n ≤ length bytes → x ≡ value row.name row.form p → p ≡ parts_of f row reg operand slice next → slice ≡ take n (drop at bytes) → next ≡ (address + (at + n)) % 2 ^ 64 → Some (x, at + n) ≡ imm_at address bytes f reg operand at row n
imm_is address bytes f reg operand at row n x p slice next enough x_is p_is slice_is next_is =
    rw (le-ltb (length bytes) (at + n) enough, x_is, p_is, slice_is, next_is) refl

-- ---- the laws of spellings

-- bytes with nothing after them are read whole
decode_whole : (i : Insn ℕ) (address : ℕ) (text : List ℕ) → Spells i address text → decode_of address text ≡ Some (i, length text)
decode_whole i address text h = ap (decode_of address) (sym (append-nil text)) ∙ decode_again i address text [] h

pub same_insn : (i j : Insn ℕ) (address : ℕ) (bytes : List ℕ) → Spells i address bytes → Spells j address bytes → i ≡ j
same_insn i j address bytes h k =
    let both : some_insn i (length bytes) ≡ some_insn j (length bytes) = sym (decode_whole i address bytes h) ∙ decode_whole j address bytes k in
    ap (λ (p : Insn ℕ × ℕ). p.0) (same_Some (i, length bytes) (j, length bytes) both)

pub no_more : (i j : Insn ℕ) (address : ℕ) (bytes more : List ℕ) → Spells i address bytes → Spells j address (bytes ++ more) → more ≡ []
no_more i j address bytes more h k =
    let both : some_insn i (length bytes) ≡ some_insn j (length (bytes ++ more)) = sym (decode_again i address bytes more h) ∙ decode_whole j address (bytes ++ more) k in
    let same : length bytes ≡ length (bytes ++ more) = ap (λ (p : Insn ℕ × ℕ). p.1) (same_Some (i, length bytes) (j, length (bytes ++ more)) both) in
    is_empty more (omega (arith, length-append bytes more))

-- ---- the front of some bytes

-- What the front of some bytes decodes to, all of them decode to.
pub decode_of-prefix : (address : ℕ) (bytes : List ℕ) (k : ℕ) (i : Insn ℕ) (n : ℕ) → decode_of address (take k bytes) ≡ Some (i, n) → decode_of address bytes ≡ Some (i, n)
decode_of-prefix address bytes k i n e =
    let r = decode_takes address (take k bytes) i n e in
    let front : n ≤ k = omega (arith, r.0, length-take k bytes) in
    let within : n ≤ length bytes = omega (arith, r.0, length-take k bytes) in
    decode_only address bytes i n within (subst (λ (t : List ℕ). Spells i address t) (take-take n k bytes front) r.1)

opcode_some : (o : ℕ) (opcode : List ℕ) → IsOpcode o opcode → 1 ≤ length opcode
opcode_some o [] h = absurd h
opcode_some o (b ∷ rest) _ = omega arith

head_some : (f : Fields) (text : List ℕ) → IsHead f text → 1 ≤ length text
head_some f text h =
    let some : 1 ≤ length h.opcode = opcode_some f.opcode h.opcode h.is_opcode in
    let len : length text ≡ length h.run + (length (rex_bytes h.rex) + length h.opcode) = ap length h.spelled ∙ (length-append h.run _ ∙ ap (λ n. length h.run + n) (length-append (rex_bytes h.rex) h.opcode)) in
    omega arith

-- A spelling has a byte, and 15 at most.
pub spelling_length : (i : Insn ℕ) (address : ℕ) (text : List ℕ) → Spells i address text → (1 ≤ length text) × (length text ≤ 15)
spelling_length i address text h =
    let some : 1 ≤ length h.head = head_some h.fields h.head h.head_is in
    let len : length text ≡ length h.head + length (h.middle ++ h.imm) = ap length h.spelled ∙ length-append h.head _ in
    (omega arith, h.short)

-- The length that is decoded is 1 to 15, and not more than there are bytes.
pub decode_of-length : (address : ℕ) (bytes : List ℕ) (i : Insn ℕ) (n : ℕ) → decode_of address bytes ≡ Some (i, n) → (1 ≤ n) × (n ≤ 15) × (n ≤ length bytes)
decode_of-length address bytes i n e =
    let r = decode_takes address bytes i n e in
    let s = spelling_length i address (take n bytes) r.1 in
    let len : length (take n bytes) ≡ n = length-take-le n bytes r.0 in
    (omega (arith, s.0, len), omega (arith, s.1, len), r.0)

pub decode_length : (address : ℕ) (bytes : List ℕ) (r : Option (Insn ℕ × ℕ)) → r ≡ decode_of address bytes → IfSome r (λ r. (1 ≤ r.1) × (r.1 ≤ 15))
decode_length address bytes None e = tt
decode_length address bytes (Some r) e = let d = decode_of-length address bytes r.0 r.1 (sym e) in (d.0, d.1)

-- The same of the first k bytes.
pub decode_of-prefix_length : (address : ℕ) (bytes : List ℕ) (k : ℕ) (i : Insn ℕ) (n : ℕ) → decode_of address (take k bytes) ≡ Some (i, n) → (1 ≤ n) × (n ≤ 15) × (n ≤ k)
decode_of-prefix_length address bytes k i n e =
    let d = decode_of-length address (take k bytes) i n e in
    (d.0, d.1, omega (arith, d.2, length-take k bytes))
