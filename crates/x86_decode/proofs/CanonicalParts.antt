-- A spelling given by its parts: prefixes, REX, opcode, the operand of ModRM and an immediate.
use Rattle.std.proofs.Common.{◌≡◌, ℕ, ◌+◌, ◌*◌, ◌%◌, ◌^◌, ◌≤◌, Bool, true, false, ◌||◌, inl, inr, List, ◌++◌, length, Option, Some, None, refl, sym, ap, ◌∙◌, arith, lit<, lit≤}
use Rattle.std.proofs.lemmas.Bool.{cases_Bool}
use Rattle.std.proofs.lemmas.List.{length-append}
use Rattle.rw_base.specs.declared.width.Width.{Width}
use Rattle.x86_bytes.specs.declared.parts.Rm.{Rm}
use Rattle.std.specs.List.{list_all}
use Rattle.std.specs.Prelude.{Contains}
use Rattle.x86_insn.specs.declared.instruction.Insn.{Insn}
use Rattle.x86_bytes.specs.declared.parts.Fields.{Fields}
use Rattle.x86_bytes.specs.Head.{is_prefix, is_rex, is_single, fields_of, rex_bytes, IsOpcode, Begins}
use Rattle.x86_decode.specs.declared.row.Row.{Row}
use Rattle.x86_decode.specs.Rows.{rows}
use Rattle.x86_decode.specs.Spelling.{first_byte, IsOptional, Spells}
use Rattle.x86_decode.specs.Fits.{rex_of, has_modrm, fits, width_of, imm_len}
use Rattle.x86_decode.specs.Value.{signed, value}
use Rattle.x86_decode.specs.Canonical.{bit, rex_for, run_of, written}
use Rattle.x86_decode.specs.declared.row.Parts.{Parts}
use Rattle.x86_decode.proofs.CanonicalOperands.{AreBytes, bytes_append, rex}

-- ---- prefixes, REX and opcode

-- the fields of prefixes that stand at most once
abbrev pub fields_for : Bool → Bool → Bool → Bool → Option ℕ → ℕ → ℕ → Fields
fields_for word fs f3 ds rex opcode at = record {
  count66 = bit word;
  count2e = 0;
  f2 = false;
  f3 = f3;
  ds = ds;
  fs = fs;
  rex = rex;
  opcode = opcode;
  at = at;
}

pub record IsRun (word fs f3 ds : Bool) : Type 0 where
  pub prefixes : list_all is_prefix (run_of word fs f3 ds) ≡ true
  pub single : is_single (run_of word fs f3 ds) ≡ true
  pub room : length (run_of word fs f3 ds) ≡ bit word + (bit fs + (bit f3 + bit ds))
  pub are : AreBytes (run_of word fs f3 ds)
  pub fields : (rex : Option ℕ) (opcode at : ℕ) → fields_for word fs f3 ds rex opcode at ≡ fields_of (run_of word fs f3 ds) rex opcode at

pub is_run : (word fs f3 ds : Bool) → IsRun word fs f3 ds
is_run true true true true = record { prefixes = refl; single = refl; room = refl; are = (lit< tt, (lit< tt, (lit< tt, (lit< tt, tt)))); fields = λ rex opcode at. refl }
is_run true true true false = record { prefixes = refl; single = refl; room = refl; are = (lit< tt, (lit< tt, (lit< tt, tt))); fields = λ rex opcode at. refl }
is_run true true false true = record { prefixes = refl; single = refl; room = refl; are = (lit< tt, (lit< tt, (lit< tt, tt))); fields = λ rex opcode at. refl }
is_run true true false false = record { prefixes = refl; single = refl; room = refl; are = (lit< tt, (lit< tt, tt)); fields = λ rex opcode at. refl }
is_run true false true true = record { prefixes = refl; single = refl; room = refl; are = (lit< tt, (lit< tt, (lit< tt, tt))); fields = λ rex opcode at. refl }
is_run true false true false = record { prefixes = refl; single = refl; room = refl; are = (lit< tt, (lit< tt, tt)); fields = λ rex opcode at. refl }
is_run true false false true = record { prefixes = refl; single = refl; room = refl; are = (lit< tt, (lit< tt, tt)); fields = λ rex opcode at. refl }
is_run true false false false = record { prefixes = refl; single = refl; room = refl; are = (lit< tt, tt); fields = λ rex opcode at. refl }
is_run false true true true = record { prefixes = refl; single = refl; room = refl; are = (lit< tt, (lit< tt, (lit< tt, tt))); fields = λ rex opcode at. refl }
is_run false true true false = record { prefixes = refl; single = refl; room = refl; are = (lit< tt, (lit< tt, tt)); fields = λ rex opcode at. refl }
is_run false true false true = record { prefixes = refl; single = refl; room = refl; are = (lit< tt, (lit< tt, tt)); fields = λ rex opcode at. refl }
is_run false true false false = record { prefixes = refl; single = refl; room = refl; are = (lit< tt, tt); fields = λ rex opcode at. refl }
is_run false false true true = record { prefixes = refl; single = refl; room = refl; are = (lit< tt, (lit< tt, tt)); fields = λ rex opcode at. refl }
is_run false false true false = record { prefixes = refl; single = refl; room = refl; are = (lit< tt, tt); fields = λ rex opcode at. refl }
is_run false false false true = record { prefixes = refl; single = refl; room = refl; are = (lit< tt, tt); fields = λ rex opcode at. refl }
is_run false false false false = record { prefixes = refl; single = refl; room = refl; are = tt; fields = λ rex opcode at. refl }

pub record IsPlainOpcode (o : ℕ) (opcode : List ℕ) : Type 0 where
  pub is_opcode : IsOpcode o opcode
  pub begins : Begins None opcode
  pub are : AreBytes opcode

pub some_rex : (w r x b : Bool) → is_rex (0x40 + (bit w * 8 + (bit r * 4 + (bit x * 2 + bit b)))) ≡ true
some_rex true true true true = refl
some_rex true true true false = refl
some_rex true true false true = refl
some_rex true true false false = refl
some_rex true false true true = refl
some_rex true false true false = refl
some_rex true false false true = refl
some_rex true false false false = refl
some_rex false true true true = refl
some_rex false true true false = refl
some_rex false true false true = refl
some_rex false true false false = refl
some_rex false false true true = refl
some_rex false false true false = refl
some_rex false false false true = refl
some_rex false false false false = refl

pub rex_begins : (byte w r x b : Bool) (opcode : List ℕ) → Begins None opcode → Begins (rex_for byte w r x b) opcode
rex_begins byte w r x b opcode h = elim (cases_Bool (byte || (w || (r || (x || b))))) [
  | inl a ↦ rw a (some_rex w r x b)
  | inr a ↦ rw a h
]

pub bit_room : (b : Bool) → bit b ≤ 1
bit_room true = lit≤ tt
bit_room false = lit≤ tt

pub rex_are : (byte w r x b : Bool) → AreBytes (rex_bytes (rex_for byte w r x b))
rex_are byte w r x b = elim (cases_Bool (byte || (w || (r || (x || b))))) [
  | inl a ↦ rw a (omega (arith, bit_room w, bit_room r, bit_room x, bit_room b), tt)
  | inr a ↦ rw a tt
]

pub rex_room : (rex : Option ℕ) → length (rex_bytes rex) ≤ 1
rex_room None = lit≤ tt
rex_room (Some r) = lit≤ tt

-- ---- an instruction by its parts

-- bytes that spell an instruction
pub record IsSpelled (insn : Insn ℕ) (address : ℕ) (bytes : List ℕ) : Type 0 where
  pub spells : Spells insn address bytes
  pub are : AreBytes bytes

abbrev pub parts : Fields → Width → ℕ → Rm → List ℕ → ℕ → Parts
parts f w reg operand imm next = record { fields = f; w = w; reg = reg; rm = operand; imm = signed imm; byte = first_byte imm; next = next }

module _ (insn : Insn ℕ) (address next : ℕ) (row : Row) (in_table : Contains rows row) (w : Width) (word fs f3 ds : Bool) (rex : Option ℕ) (o : ℕ) (opcode middle imm : List ℕ) (reg : ℕ) (operand : Rm) where
  abbrev pub fields : Fields
  fields = fields_for word fs f3 ds rex o (length (run_of word fs f3 ds ++ (rex_bytes rex ++ opcode)))

  abbrev pub bytes : List ℕ
  bytes = written word fs f3 ds rex opcode middle imm

  pub record Fitting : Type 0 where
    pub is_opcode : IsOpcode o opcode
    pub begins : Begins rex opcode
    pub rex_are : AreBytes (rex_bytes rex)
    pub opcode_are : AreBytes opcode
    pub middle_are : AreBytes middle
    pub imm_are : AreBytes imm
    pub operand_is : IsOptional (has_modrm row.place) (rex_of rex) reg operand middle
    pub width : width_of row.size fields ≡ w
    pub imm_is : length imm ≡ imm_len row.imm w
    pub short : bit word + (bit f3 + (bit ds + (length opcode + (length middle + length imm)))) ≤ 13
    pub fitting : fits fields reg operand row ≡ true
    pub next_is : next ≡ (address + length bytes) % 2 ^ 64
    pub insn_is : value row.name row.form (parts fields w reg operand imm next) ≡ insn

  pub spells_by_parts : Fitting → Spells insn address bytes
  spells_by_parts h =
      let run = is_run word fs f3 ds in
      let head_room : length (run_of word fs f3 ds ++ (rex_bytes rex ++ opcode)) ≡ bit word + (bit fs + (bit f3 + bit ds)) + (length (rex_bytes rex) + length opcode) = length-append (run_of word fs f3 ds) (rex_bytes rex ++ opcode) ∙ (ap (λ n. n + length (rex_bytes rex ++ opcode)) run.room ∙ ap (λ n. bit word + (bit fs + (bit f3 + bit ds)) + n) (length-append (rex_bytes rex) opcode)) in
      let room : length bytes ≡ length (run_of word fs f3 ds ++ (rex_bytes rex ++ opcode)) + (length middle + length imm) = length-append (run_of word fs f3 ds ++ (rex_bytes rex ++ opcode)) (middle ++ imm) ∙ ap (λ n. length (run_of word fs f3 ds ++ (rex_bytes rex ++ opcode)) + n) (length-append middle imm) in
      let short : length bytes ≤ 15 = omega (arith, bit_room fs, rex_room rex, h.short) in
      record {
        row = row;
        fields = fields;
        reg = reg;
        operand = operand;
        head = run_of word fs f3 ds ++ (rex_bytes rex ++ opcode);
        middle = middle;
        imm = imm;
        spelled = refl;
        short = short;
        head_is = record {
          run = run_of word fs f3 ds;
          rex = rex;
          opcode = opcode;
          spelled = refl;
          prefixes = run.prefixes;
          single = run.single;
          begins = h.begins;
          is_opcode = h.is_opcode;
          short = omega (arith, short, room);
          fields = run.fields rex o (length (run_of word fs f3 ds ++ (rex_bytes rex ++ opcode)));
        };
        operand_is = h.operand_is;
        imm_is = h.imm_is ∙ ap (imm_len row.imm) (sym h.width);
        in_table = in_table;
        fitting = h.fitting;
        insn_is = sym h.insn_is ∙ (ap (λ (v : Width). value row.name row.form (parts fields v reg operand imm next)) (sym h.width) ∙ ap (λ (a : ℕ). value row.name row.form (parts fields (width_of row.size fields) reg operand imm a)) h.next_is);
      }

  pub by_parts : Fitting → IsSpelled insn address bytes
  by_parts h = record { spells = spells_by_parts h; are = bytes_append (run_of word fs f3 ds ++ (rex_bytes rex ++ opcode)) (middle ++ imm) (bytes_append (run_of word fs f3 ds) (rex_bytes rex ++ opcode) (is_run word fs f3 ds).are (bytes_append (rex_bytes rex) opcode h.rex_are h.opcode_are)) (bytes_append middle imm h.middle_are h.imm_are) }
