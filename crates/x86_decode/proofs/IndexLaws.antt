-- What is looked for among all rows is found from the first row of the opcode on.
use Rattle.std.proofs.Common.{◌≡◌, ℕ, zero, suc, ◌+◌, ◌<◌, ◌≤◌, Bool, true, false, ◌&&◌, ◌||◌, ◌%◌, inl, inr, ◌⊎◌, List, [], ◌∷◌, length, get_or, drop, refl, ap, ◌∙◌, one-add, arith}
use Rattle.std.specs.Prelude.{not, nat_eq, nat_le, nat_lt, find, slice_get}
use Rattle.std.specs.List.{list_all, prefix_len}
use Rattle.std.proofs.lemmas.Bool.{and_parts, or_cases, leb-true, ltb-true, cases_Bool, both_ways}
use Rattle.std.proofs.lemmas.List.Sums.{prefix_len-le-length}
use Rattle.x86_bytes.specs.declared.parts.Fields.{Fields}
use Rattle.x86_bytes.specs.declared.parts.Rm.{Rm}
use Rattle.x86_decode.specs.declared.row.Row.{Row}
use Rattle.x86_decode.specs.declared.row.Opcodes.{Opcodes}
use Rattle.x86_decode.specs.declared.row.Opcodes.TheVariants as opcodes
use Rattle.x86_decode.specs.Rows.{rows}
use Rattle.x86_decode.specs.Fits.{is_in, is_number, is_place, is_size, are_marks, fits, has_opcode, row_of, opcode_row}
use Rattle.x86_decode.specs.Index.{rows_before, first_rows}

-- ---- the index

pub index_at : (o n k : ℕ) → k < n → get_or (first_rows o n) k 0 ≡ rows_before (o + k)
unfolding first_rows
index_at o zero k lt = absurd (omega arith)
index_at o (suc n) zero lt = ap rows_before (omega arith)
index_at o (suc n) (suc k) lt = index_at (o + 1) n k (omega arith) ∙ ap rows_before (omega arith)

pub one_byte_at : (o : ℕ) → o < 0x100 → get_or (first_rows 0 256) o 0 ≡ rows_before o
one_byte_at o lt = index_at 0 256 o lt ∙ ap rows_before (omega arith)

pub two_bytes_at : (o k : ℕ) → 0x0F00 + k ≡ o → k < 256 → get_or (first_rows 0x0F00 256) k 0 ≡ rows_before o
two_bytes_at o k e lt = index_at 0x0F00 256 k lt ∙ ap rows_before e

pub rows_before_le : (o : ℕ) → rows_before o ≤ length rows
unfolding rows_before
rows_before_le o = prefix_len-le-length (λ (r : Row). not (has_opcode o r)) rows

-- ---- opcodes of one byte, or of 0x0F and a second one

abbrev in_pages : Opcodes → Bool
in_pages (opcodes.Run a b) = nat_lt b 0x100 || (nat_le 0x0F00 a && nat_lt b 0x1000)
in_pages (opcodes.EveryEighth c) = true

rows_in_pages : list_all (λ (r : Row). in_pages r.opcodes) rows ≡ true
rows_in_pages = refl

is_outside : ℕ → Type 0
is_outside o = (0x100 ≤ o) × ((o < 0x0F00) ⊎ (0x1000 ≤ o))

run_outside : (a b o : ℕ) → 0x100 ≤ o → (o < 0x0F00) ⊎ (0x1000 ≤ o) → (nat_lt b 0x100 || (nat_le 0x0F00 a && nat_lt b 0x1000)) ≡ true → (nat_le a o && nat_le o b) ≡ true → ⊥
run_outside a b o low out e h =
    let p = and_parts (nat_le a o) (nat_le o b) h in
    let a_o : a ≤ o = leb-true a o p.0 in
    let o_b : o ≤ b = leb-true o b p.1 in
    elim (or_cases (nat_lt b 0x100) (nat_le 0x0F00 a && nat_lt b 0x1000) e) [
      | inl x ↦ absurd (let y : b < 0x100 = ltb-true b 0x100 x in omega arith)
      | inr x ↦
          let q = and_parts (nat_le 0x0F00 a) (nat_lt b 0x1000) x in
          let a_is : 0x0F00 ≤ a = leb-true 0x0F00 a q.0 in
          let b_is : b < 0x1000 = ltb-true b 0x1000 q.1 in
          elim out [
            | inl y ↦ absurd (omega arith)
            | inr y ↦ absurd (omega arith)
          ]
    ]

none_outside : (opcodes : Opcodes) (o : ℕ) → 0x100 ≤ o → (o < 0x0F00) ⊎ (0x1000 ≤ o) → in_pages opcodes ≡ true → is_in opcodes o ≡ true → ⊥
none_outside (opcodes.Run a b) o low out e h = run_outside a b o low out e h
none_outside (opcodes.EveryEighth c) o low out e h =
    let p = and_parts (nat_lt o 0x40) (nat_eq (o % 8) c) h in
    absurd (let y : o < 0x40 = ltb-true o 0x40 p.0 in omega arith)

all_before : (o : ℕ) (rs : List Row) → 0x100 ≤ o → (o < 0x0F00) ⊎ (0x1000 ≤ o) → list_all (λ (r : Row). in_pages r.opcodes) rs ≡ true → prefix_len (λ (r : Row). not (has_opcode o r)) rs ≡ length rs
all_before o [] low out h = refl
all_before o (r ∷ rs) low out h =
    let p = and_parts (in_pages r.opcodes) (list_all (λ (x : Row). in_pages x.opcodes) rs) h in
    elim (cases_Bool (has_opcode o r)) [
      | inl t ↦ absurd (none_outside r.opcodes o low out p.0 t)
      | inr u ↦ rw (u, one-add) (ap suc (all_before o rs low out p.1))
    ]

pub rows_before_outside : (o : ℕ) → 0x100 ≤ o → (o < 0x0F00) ⊎ (0x1000 ≤ o) → rows_before o ≡ length rows
unfolding rows_before
rows_before_outside o low out = all_before o rows low out rows_in_pages

-- ---- from the first row of an opcode on

-- rows before the first that passes q have none that passes p
find_after : (p q : Row → Bool) → ((r : Row) → p r ≡ true → q r ≡ true) → (rs : List Row) → find p (drop (prefix_len (λ (r : Row). not (q r)) rs) rs) ≡ find p rs
find_after p q law [] = refl
find_after p q law (r ∷ rs) = elim (cases_Bool (q r)) [
  | inl t ↦ rw t refl
  | inr u ↦ elim (cases_Bool (p r)) [
    | inl t ↦ absurd (both_ways (q r) u (law r t))
    | inr v ↦ rw (u, one-add, v) (find_after p q law rs)
  ]
]

pub find_from : (f : Fields) (reg : ℕ) (operand : Rm) → find (fits f reg operand) (drop (rows_before f.opcode) rows) ≡ row_of f reg operand
unfolding rows_before row_of
find_from f reg operand = find_after (fits f reg operand) (has_opcode f.opcode) (λ r h. (and_parts (is_in r.opcodes f.opcode) (is_number r.numbers (reg % 8) && (is_place r.place operand f.fs && (is_size r.size f && are_marks r.marks f))) h).0) rows

first_later : (q : Row → Bool) (r : Row) (rs : List Row) → q r ≡ false → slice_get (drop (prefix_len (λ (r : Row). not (q r)) rs) rs) 0 ≡ find q rs → slice_get (drop (prefix_len (λ (r : Row). not (q r)) (r ∷ rs)) (r ∷ rs)) 0 ≡ find q (r ∷ rs)
first_later q r rs u e = rw (u, one-add) e

first_after : (q : Row → Bool) (rs : List Row) → slice_get (drop (prefix_len (λ (r : Row). not (q r)) rs) rs) 0 ≡ find q rs
first_after q [] = refl
first_after q (r ∷ rs) = elim (cases_Bool (q r)) [
  | inl t ↦ rw t refl
  | inr u ↦ first_later q r rs u (first_after q rs)
]

pub first_from : (o : ℕ) → slice_get (drop (rows_before o) rows) 0 ≡ opcode_row o
unfolding rows_before opcode_row
first_from o = first_after (has_opcode o) rows
