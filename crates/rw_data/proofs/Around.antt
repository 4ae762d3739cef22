-- The slot and the table around an address.
use Rattle.std.proofs.Common.{◌≡◌, ℕ, ◌+◌, ◌<◌, ◌≤◌, Bool, true, false, List, get_or, Option, Some, None, Contains, refl, sym, ap, ◌∙◌, subst, arith, inl, inr}
use Rattle.std.specs.List.{AllPairs, find, position}
use Rattle.std.specs.List.Sorted.{IsNonDecreasingBy}
use Rattle.std.proofs.lemmas.Bool.{cases_lt}
use Rattle.std.proofs.lemmas.Bool.Decides.{nat_tests}
use Rattle.std.proofs.lemmas.List.Quantifiers.{position-Some}
use Rattle.std.proofs.lemmas.Option.{none-some}
use Rattle.rw_elf.proofs.Search.{find-at, find-none, position-at}
use Rattle.rw_reloc.specs.declared.slot.Slot.{Slot}
use Rattle.rw_reloc.specs.Slots.{EndsBefore, slot_around, takes}
use Rattle.rw_reloc.specs.Targets.{target_size}
use Rattle.rw_tables.specs.declared.table.Table.{Table}
use Rattle.rw_tables.specs.Tables.{EndsBefore as TableEndsBefore, end_of, tables_of}
use Rattle.rw_data.specs.FirstCells.{has_address, table_around}

-- ---- the first item that passes a test

pub find-from : {X : Type 0} (p : X → Bool) (xs : List X) (x : X) → find p xs ≡ Some x → Contains xs x × (p x ≡ true)
find-from {X = X} p xs x is = by_place (position p xs) refl
  where
    by_place : (o : Option ℕ) → position p xs ≡ o → Contains xs x × (p x ≡ true)
    by_place None none = absurd (none-some x (sym (find-none p xs none) ∙ is))
    by_place (Some n) found =
        let parts = position-Some p xs n x found in
        let some : Some (get_or xs n x) ≡ Some x = sym (find-at p xs n x found) ∙ is in
        let same : get_or xs n x ≡ x = cc in
        ((n, parts.0, same), subst (λ y. p y ≡ true) same parts.1)

-- of items that don't overlap the one that takes an address is the first that does
pub find-only : {X : Type 0} (start end : X → ℕ) (p : X → Bool) (a : ℕ) (xs : List X) (x : X) → AllPairs (λ y z. end y ≤ start z) xs → ((y : X) → p y ≡ true → a < end y) → ((y : X) → end y ≤ a → p y ≡ false) → Contains xs x → start x ≤ a → p x ≡ true → find p xs ≡ Some x
find-only start end p a xs x apart high past here low passes =
    let at : p (get_or xs here.0 x) ≡ true = ap p here.2 ∙ passes in
    find-at p xs here.0 x (position-at p xs here.0 x here.1 at (λ k before.
    let far = apart k here.0 x before here.1 in
    let begins : start (get_or xs here.0 x) ≡ start x = ap start here.2 in
    past (get_or xs k x) (omega (arith, far, begins, low))))
    ∙ ap Some here.2

-- ---- slots

pub takes-parts : (a : ℕ) (t : Slot) → takes a t ≡ true → (t.address ≤ a) × (a < t.address + target_size t.target)
takes-parts a t h = (low a t h, high a t h)
  where
    low : (b : ℕ) (u : Slot) → takes b u ≡ true → u.address ≤ b
    low b u g = grind (arith, nat_tests)

    high : (b : ℕ) (u : Slot) → takes b u ≡ true → b < u.address + target_size u.target
    high b u g = grind (arith, nat_tests)

takes-whole : (a : ℕ) (t : Slot) → t.address ≤ a → a < t.address + target_size t.target → takes a t ≡ true
takes-whole a t low high = grind (arith, nat_tests)

takes-past : (a : ℕ) (t : Slot) → t.address + target_size t.target ≤ a → takes a t ≡ false
takes-past a t past = grind (arith, nat_tests)

pub slot-around-from : (slots : List Slot) (a : ℕ) (t : Slot) → slot_around slots a ≡ Some t → Contains slots t × (t.address ≤ a) × (a < t.address + target_size t.target)
unfolding slot_around
slot-around-from slots a t is = let f = find-from (takes a) slots t is in let parts = takes-parts a t f.1 in (f.0, parts.0, parts.1)

pub slot-around-is : (slots : List Slot) (a : ℕ) (t : Slot) → AllPairs EndsBefore slots → Contains slots t → t.address ≤ a → a < t.address + target_size t.target → slot_around slots a ≡ Some t
unfolding slot_around
slot-around-is slots a t apart here low high =
    find-only (λ s. s.address) (λ s. s.address + target_size s.target) (takes a) a slots t (λ i j d before within. (apart i j d before within).1) (λ y h. (takes-parts a y h).1) (takes-past a) here low (takes-whole a t low high)

-- ---- tables

pub address-parts : (a : ℕ) (t : Table) → has_address a t ≡ true → (t.base ≤ a) × (a < end_of t)
address-parts a t h = (low a t h, high a t h)
  where
    low : (b : ℕ) (u : Table) → has_address b u ≡ true → u.base ≤ b
    low b u g = grind (arith, nat_tests)

    high : (b : ℕ) (u : Table) → has_address b u ≡ true → b < end_of u
    high b u g = grind (arith, nat_tests)

address-whole : (a : ℕ) (t : Table) → t.base ≤ a → a < end_of t → has_address a t ≡ true
address-whole a t low high = grind (arith, nat_tests)

address-past : (a : ℕ) (t : Table) → end_of t ≤ a → has_address a t ≡ false
address-past a t past = grind (arith, nat_tests)

pub table-around-from : (bytes : List ℕ) (a : ℕ) (t : Table) → table_around bytes a ≡ Some t → Contains (tables_of bytes) t × (t.base ≤ a) × (a < end_of t)
unfolding table_around
table-around-from bytes a t is = let f = find-from (has_address a) (tables_of bytes) t is in let parts = address-parts a t f.1 in (f.0, parts.0, parts.1)

pub table-around-is : (bytes : List ℕ) (a : ℕ) (t : Table) → AllPairs TableEndsBefore (tables_of bytes) → Contains (tables_of bytes) t → t.base ≤ a → a < end_of t → table_around bytes a ≡ Some t
unfolding table_around
table-around-is bytes a t apart here low high =
    find-only (λ u. u.base) (λ u. end_of u) (has_address a) a (tables_of bytes) t apart (λ y h. (address-parts a y h).1) (address-past a) here low (address-whole a t low high)

abbrev pub null_table : Table
null_table = record { base = 0; count = 0 }

pub tables-ascend : (tables : List Table) → AllPairs TableEndsBefore tables → IsNonDecreasingBy (λ t. t.base) tables
tables-ascend tables apart i j d low high =
    elim (cases_lt i j) [
      | inl earlier ↦ let before = apart i j d earlier high in omega (arith, before)
      | inr later ↦ let same : i ≡ j = omega arith in rw same (omega arith)
    ]
