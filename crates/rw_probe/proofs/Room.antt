-- The room that a spill needs, in a stack below whose red zone nothing is known.
use Rattle.std.proofs.Common.{◌≡◌, ◌≢◌, ℕ, zero, suc, negsuc, ◌+◌, ◌-◌, ◌%◌, ◌^◌, ◌<◌, ◌≤◌, true, false, not, nat_eq, List, [], ◌∷◌, ◌++◌, length, take, drop, replicate, map, slice_get, All, Option, Some, None, Ok, Err, refl, sym, ap, subst, ◌∙◌, ◌&&◌, if◌then◌else◌, arith}
use Rattle.std.proofs.lemmas.Bool.Decides.{nat_tests}
use Rattle.std.specs.Prelude.{nat_le, option_and_then, slice_index_or, slice_set}
use Rattle.std.specs.Option.{option_map, unwrap_or}
use Rattle.std.proofs.Math.Nat.{add-mod_right, mod-eq_of_lt}
use Rattle.std.proofs.lemmas.Bool.{eq-eqb, eqb-true, leb-true, le-leb}
use Rattle.std.proofs.lemmas.List.{get_or-set_same, length-take-le}
use Rattle.std.proofs.lemmas.List.Folds.{list_any_none}
use Rattle.x86_insn.specs.declared.kinds.Reg.TheVariants.{Rsp}
use Rattle.rw_words.specs.declared.atom.Atom.{Atom}
use Rattle.rw_words.specs.declared.atom.Atom.TheVariants.{Ptr, Code, Past, Import, End, Diff}
use Rattle.rw_words.specs.declared.atom.Cell.{Cell}
use Rattle.rw_words.specs.declared.atom.Cell.TheVariants.{Undef}
use Rattle.rw_words.specs.declared.kind.Kind.{Kind}
use Rattle.rw_words.specs.declared.kind.Kind.TheVariants.{Number, Whole, Mixed}
use Rattle.rw_words.specs.Kinds.{kind_from, kind_of}
use Rattle.rw_words.specs.Words.{atom_cells, number_in, whole_of}
use Rattle.rw_words.proofs.WordLemmas.{and-first, and-second, whole-parts}
use Rattle.rw_domain.specs.declared.cause.Cause.TheVariants.{NotWritable}
use Rattle.rw_domain.specs.declared.place.Access.TheVariants.{Read, Write}
use Rattle.rw_domain.specs.declared.place.Place.{Place}
use Rattle.rw_domain.specs.declared.place.Region.{Region}
use Rattle.rw_domain.specs.declared.place.Hole.{Hole}
use Rattle.rw_domain.specs.Placed.{Placed, stack_number}
use Rattle.rw_domain.specs.NumberPlaces.{accessed_place, pointed_place, touches, touches_hole}
use Rattle.rw_domain.specs.Symbols.{is_at_most_size, kind_fits, kind_place, kinds_sum, symbols_over, word_of, word_sum}
use Rattle.rw_machine.specs.Running.{range_at, register}
use Rattle.rw_machine.specs.Step.{Machine, fits_stack, row_forgotten, swept_machine}
use Rattle.rw_probe.specs.Forgetting.{HasFreeRoom, HasStack}

-- ---- the stack pointer

pointer-kind : (r o : ℕ) → kind_of (atom_cells (Ptr r o)) ≡ Whole (Ptr r o)
pointer-kind r o = let e : nat_eq r r ≡ true = eq-eqb r r refl in let f : nat_eq o o ≡ true = eq-eqb o o refl in rw e (rw f refl)

whole-from : (n : Option ℕ) (w : Option Atom) (a : Atom) → kind_from n w ≡ Whole a → w ≡ Some a
whole-from (Some n) w a h = absurd (cc)
whole-from None (Some b) a h = cc
whole-from None None a h = absurd (cc)

record Fits (regions : List Region) (canary : ℕ) (k : Kind) : Type 0 where
  pub number : ℕ
  pub offset : ℕ
  pub is : k ≡ Whole (Ptr number offset)
  pub before : number + 2 ≡ canary
  pub high : 256 ≤ offset
  pub below : is_at_most_size regions number offset ≡ true

fits-kind : (regions : List Region) (canary : ℕ) (k : Kind) → kind_fits regions canary k ≡ true → Fits regions canary k
fits-kind regions canary (Whole (Ptr r o)) h =
    let t = and-second (nat_eq (r + 2) canary) _ h in
    record {
      number = r;
      offset = o;
      is = refl;
      before = eqb-true (r + 2) canary (and-first (nat_eq (r + 2) canary) _ h);
      high = leb-true 256 o (and-first (nat_le 256 o) _ t);
      below = and-second (nat_le 256 o) _ t;
    }
fits-kind regions canary (Whole (Code c)) h = absurd (cc)
fits-kind regions canary (Whole (Past c)) h = absurd (cc)
fits-kind regions canary (Whole (Import i)) h = absurd (cc)
fits-kind regions canary (Whole End) h = absurd (cc)
fits-kind regions canary (Whole (Diff c r o)) h = absurd (cc)
fits-kind regions canary (Number n) h = absurd (cc)
fits-kind regions canary Mixed h = absurd (cc)

at-most : (regions : List Region) (number o : ℕ) (stack : Region) → slice_get regions number ≡ Some stack → is_at_most_size regions number o ≡ true → o ≤ stack.size
at-most regions number o stack got h =
    leb-true o stack.size (sym (ap (λ g. unwrap_or (option_map (λ size. nat_le o size) (option_map (λ region. region.size) g)) false) got) ∙ h)

-- ---- places below it

pub lowered : (r o d n : ℕ) → d ≤ o → o < 2 ^ 64 → n + d ≡ 2 ^ 64 → kind_of (word_of (kinds_sum (kind_of (atom_cells (Ptr r o))) (Number n))) ≡ Whole (Ptr r (o - d))
lowered r o d n low high sum =
    let same : o + n ≡ (o - d) + 2 ^ 64 = omega (arith, low, sum) in
    ap (λ k. kind_of (word_of (kinds_sum k (Number n)))) (pointer-kind r o)
    ∙ pointer-kind r ((o + n) % 2 ^ 64)
    ∙ ap (λ x. Whole (Ptr r x)) (ap (λ x. x % 2 ^ 64) same ∙ add-mod_right (o - d) (2 ^ 64) ∙ mod-eq_of_lt (omega (arith, high)))

other-hole : (number start end : ℕ) (hole : Hole) → hole.region ≢ number → touches number start end hole ≡ false
other-hole number start end hole h = grind (arith, nat_tests)

untouched : (number start end : ℕ) (holes : List Hole) → All (λ hole. hole.region ≢ number) holes → touches_hole holes number start end ≡ false
untouched number start end holes h = list_any_none (touches number start end) holes (λ k d within. other-hole number start end _ (h k d within))

pub is-pointed : (regions : List Region) (holes : List Hole) (number o len : ℕ) (stack : Region) → slice_get regions number ≡ Some stack → All (λ hole. hole.region ≢ number) holes → o + len ≤ stack.size
    → pointed_place regions holes number o len ≡ Some (record { region = number; offset = o })
is-pointed regions holes number o len stack got holes-are h =
    ap (option_and_then _) got
    ∙ ap (λ t. if t && not (touches_hole holes number o (o + len)) then Some (record { region = number; offset = o }) else None) (le-leb (o + len) stack.size h)
    ∙ ap (λ t. if not t then Some (record { region = number; offset = o }) else None) (untouched number o (o + len) holes holes-are)

-- ---- what is forgotten

filled : {A : Type 0} (x : A) (a : ℕ) (rest : List A) → take 8 (drop a (replicate (a + 8) x ++ rest)) ≡ replicate 8 x
filled x zero rest = refl
filled x (suc a) rest = let n : suc a + 8 ≡ suc (a + 8) = omega arith in ap (λ k. take 8 (drop (suc a) (replicate k x ++ rest))) n ∙ filled x a rest

unknown-cells : (word : List Cell) → map (λ _. Undef) word ≡ replicate (length word) Undef
unknown-cells [] = refl
unknown-cells (c ∷ word) = ap (λ cells. Undef ∷ cells) (unknown-cells word)

unknown-front : (row rest : List Cell) (a : ℕ) → a + 8 ≤ length row → take 8 (drop a (map (λ _. Undef) (take (a + 8) row) ++ rest)) ≡ replicate 8 Undef
unknown-front row rest a h =
    ap (λ cells. take 8 (drop a (cells ++ rest))) (unknown-cells (take (a + 8) row) ∙ ap (λ n. replicate n Undef) (length-take-le (a + 8) row h))
    ∙ filled Undef a rest

-- ---- together

module _ {P : Type 0} (m : Machine Placed (List Cell) Cell P) (number : ℕ) (stack : Region) (has : HasStack m number stack) (fit : fits_stack (symbols_over m.placed) m.registers ≡ true) where
  abbrev pointer : List Cell
  pointer = register (symbols_over m.placed) m.registers Rsp

  found : Fits m.placed.regions m.placed.canary (kind_of pointer)
  found = fits-kind m.placed.regions m.placed.canary (kind_of pointer) fit

  abbrev offset : ℕ
  offset = found.offset

  its-region : found.number ≡ number
  its-region = let a = found.before in let b = has.before in omega (arith, a, b)

  its-cells : pointer ≡ atom_cells (Ptr number offset)
  its-cells = whole-parts pointer (Ptr found.number offset) (whole-from (number_in pointer) (whole_of pointer) _ found.is) ∙ ap (λ r. atom_cells (Ptr r offset)) its-region

  its-end : offset ≤ stack.size
  its-end = at-most m.placed.regions number offset stack has.region (subst (λ r. is_at_most_size m.placed.regions r offset ≡ true) its-region found.below)

  abbrev saved : Place
  saved = record { region = number; offset = offset - 136 }

  abbrev last : Place
  last = record { region = number; offset = offset - 129 }

  is-below : (symbols_over m.placed).place (word_sum (Some pointer) None (negsuc 135)) 8 Write ≡ Ok saved
  is-below =
      let end = its-end in
      let high = found.high in
      let small = has.small in
      ap (λ cells. kind_place m.placed.regions m.placed.holes (kind_of (word_sum (Some cells) None (negsuc 135))) 8 Write) its-cells
      ∙ ap (λ k. kind_place m.placed.regions m.placed.holes k 8 Write) (lowered number offset 136 18446744073709551480 (omega (arith, high)) (omega (arith, end, small)) refl)
      ∙ ap (accessed_place m.placed.regions Write) (is-pointed m.placed.regions m.placed.holes number (offset - 136) 8 stack has.region has.whole (omega (arith, end, high)))
      ∙ ap (λ g. if unwrap_or (option_map (λ region. region.writable) g) false then Ok saved else Err NotWritable) has.region
      ∙ ap (λ t. if t then Ok saved else Err NotWritable) has.writable

  is-last : (symbols_over m.placed).place (word_sum (Some pointer) None (negsuc 128)) 1 Read ≡ Ok last
  is-last =
      let end = its-end in
      let high = found.high in
      let small = has.small in
      ap (λ cells. kind_place m.placed.regions m.placed.holes (kind_of (word_sum (Some cells) None (negsuc 128))) 1 Read) its-cells
      ∙ ap (λ k. kind_place m.placed.regions m.placed.holes k 1 Read) (lowered number offset 129 18446744073709551487 (omega (arith, high)) (omega (arith, end, small)) refl)
      ∙ ap (accessed_place m.placed.regions Read) (is-pointed m.placed.regions m.placed.holes number (offset - 129) 1 stack has.region has.whole (omega (arith, end, high)))

  abbrev row : List Cell
  row = slice_index_or m.memory number []

  is-stack : nat_eq number (stack_number m.placed) ≡ true
  is-stack = let b = has.before in eq-eqb number (stack_number m.placed) (omega (arith, b))

  is-unknown : range_at (swept_machine (symbols_over m.placed) m).memory saved 8 ≡ replicate 8 Undef
  is-unknown =
      let end = its-end in
      let high = found.high in
      let long = has.range.bytes in
      let eight : offset - 129 + 1 ≡ offset - 136 + 8 = omega (arith, high) in
      ap (λ place. range_at (row_forgotten (symbols_over m.placed) m.memory place) saved 8) is-last
      ∙ ap (λ t. range_at (if t then slice_set m.memory number (map (λ _. Undef) (take (offset - 129 + 1) row) ++ drop (offset - 129 + 1) row) else m.memory) saved 8) is-stack
      ∙ ap (λ cells. take 8 (drop (offset - 136) cells)) (get_or-set_same m.memory number _ [] has.range.region)
      ∙ ap (λ n. take 8 (drop (offset - 136) (map (λ _. Undef) (take n row) ++ drop n row))) eight
      ∙ unknown-front row (drop (offset - 136 + 8) row) (offset - 136) (omega (arith, long, end, high))

  pub has-room : (saved : Place) × HasFreeRoom (swept_machine (symbols_over m.placed) m) saved
  has-room = (saved, record { below = is-below; unknown = is-unknown })
