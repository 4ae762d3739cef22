-- What the checks of a program and its number of lines say of its sizes.
use Rattle.std.proofs.Common.{◌≡◌, ℕ, suc, ◌+◌, ◌^◌, ◌≤◌, Bool, true, false, List, [], ◌∷◌, length, map, take, take_all, refl, sym, subst, arith, inl, inr, sum_by, flat_map, nat_le, ◌&&◌}
use Rattle.std.proofs.lemmas.Bool.{and_parts, leb-true, leb-false}
use Rattle.std.proofs.lemmas.List.{length-append}
use Rattle.std.proofs.lemmas.List.Sums.{sum_by-cons}
use Rattle.x86_insn.specs.References.{references_of}
use Rattle.x86_insn.specs.Fields.{fits_fields}
use Rattle.std.specs.List.{list_all}
use Rattle.x86_insn.specs.WellFormed.{is_instruction}
use Rattle.x86_insn.proofs.OneReference.{one_reference}
use Rattle.asm_items.specs.declared.item.Sym.{Sym}
use Rattle.asm_items.specs.declared.item.Sym.TheVariants as syms
use Rattle.asm_items.specs.declared.item.Item.{Item}
use Rattle.asm_items.specs.declared.item.Item.TheVariants.{Copy, Ins, Quad}
use Rattle.asm_items.specs.Formed.{is_item, is_sym}
use Rattle.asm_items.specs.Lines.{Items, copies_of, counters_size, symbols_in, names_in, used_names}
use Rattle.rw_layout.specs.Checks.{PassesLimit, IsOversize, Nowhere, sections_size, copies_size}
use Rattle.rw_layout.specs.Rule.{copy_extent}
use Rattle.rw_layout.proofs.UnitSizes.{AreFormed}

-- ---- sizes of data

pub record AreWithinLimits (items : Items) : Type 0 where
  pub sections : sections_size items ≤ 2 ^ 30
  pub copies : copies_size items ≤ 2 ^ 30
  pub counters : counters_size items ≤ 2 ^ 27

not-over : (items : Items) → (IsOversize items → ⊥) → AreWithinLimits items
not-over items none = record {
  sections = first (nat_le (sections_size items) (2 ^ 30)) refl;
  copies = second (nat_le (copies_size items) (2 ^ 30)) refl;
  counters = third (nat_le (counters_size items) (2 ^ 27)) refl;
}
  where
    first : (t : Bool) → nat_le (sections_size items) (2 ^ 30) ≡ t → sections_size items ≤ 2 ^ 30
    first true e = leb-true (sections_size items) (2 ^ 30) e
    first false e = absurd (none (inl (leb-false (sections_size items) (2 ^ 30) e)))

    second : (t : Bool) → nat_le (copies_size items) (2 ^ 30) ≡ t → copies_size items ≤ 2 ^ 30
    second true e = leb-true (copies_size items) (2 ^ 30) e
    second false e = absurd (none (inr (inl (leb-false (copies_size items) (2 ^ 30) e))))

    third : (t : Bool) → nat_le (counters_size items) (2 ^ 27) ≡ t → counters_size items ≤ 2 ^ 27
    third true e = leb-true (counters_size items) (2 ^ 27) e
    third false e = absurd (none (inr (inr (leb-false (counters_size items) (2 ^ 27) e))))

pub within-limits : (items : Items) → Nowhere (PassesLimit items) → AreWithinLimits items
within-limits [] nowhere = record { sections = omega arith; copies = omega arith; counters = omega arith }
within-limits (item ∷ items) nowhere =
    let whole : take (suc (length items)) (item ∷ items) ≡ item ∷ items = take_all (suc (length items)) (item ∷ items) (omega arith) in
    not-over (item ∷ items) (λ over. nowhere (length items) (omega arith, subst IsOversize (sym whole) over))

-- ---- copies

-- a copy is a line
pub copies-few : (items : Items) → length (copies_of items) ≤ length items
copies-few [] = omega arith
copies-few (Copy name size ∷ items) = let rest = copies-few items in omega (arith, rest)
copies-few (item ∷ items) = let rest = copies-few items in omega (arith, rest)

pub copies-sum : (copies : List (List ℕ × ℕ)) → sum_by (λ a. a.size) (map copy_extent copies) ≡ sum_by (λ copy. copy.1) copies
copies-sum [] = refl
copies-sum (copy ∷ copies) =
    let left : sum_by (λ a. a.size) (map copy_extent (copy ∷ copies)) ≡ copy.1 + sum_by (λ a. a.size) (map copy_extent copies) = sum_by-cons (λ a. a.size) (copy_extent copy) (map copy_extent copies) in
    let right : sum_by (λ copy. copy.1) (copy ∷ copies) ≡ copy.1 + sum_by (λ copy. copy.1) copies = sum_by-cons (λ copy. copy.1) copy copies in
    let rest = copies-sum copies in
    omega (arith, left, right, rest)

-- ---- names

names-le : (symbols : List (Sym (List ℕ))) → length (flat_map names_in symbols) ≤ length symbols
names-le [] = omega arith
names-le (syms.Code a ∷ symbols) = let rest = names-le symbols in omega (arith, rest)
names-le (syms.Section n o ∷ symbols) = let rest = names-le symbols in omega (arith, rest)
names-le (syms.Named name o ∷ symbols) = let rest = names-le symbols in omega (arith, rest)
names-le (syms.Counter k ∷ symbols) = let rest = names-le symbols in omega (arith, rest)

symbols-le : (item : Item (List ℕ)) → is_item item ≡ true → length (symbols_in item) ≤ 1
symbols-le (Ins i) h =
    let parts = and_parts (is_instruction i && list_all is_sym (references_of i)) (fits_fields i) h in
    one_reference i (and_parts (is_instruction i) (list_all is_sym (references_of i)) parts.0).0
symbols-le (Quad symbol) h = omega arith
symbols-le _ h = omega arith

-- a line uses at most one name
pub names-few : (items : Items) → AreFormed items → length (used_names items) ≤ length items
names-few [] formed = omega arith
names-few (item ∷ items) formed =
    let names : List (List ℕ) = flat_map names_in (symbols_in item) in
    let sum : length (used_names (item ∷ items)) ≡ length names + length (used_names items) = length-append names (used_names items) in
    let few = names-le (symbols_in item) in
    let one = symbols-le item (formed 0 item refl) in
    let rest = names-few items (λ p x e. formed (suc p) x e) in
    omega (arith, sum, few, one, rest)
