-- Entries by offset, table and index: one order, and no two entries of a file tie.
use Rattle.std.proofs.Common.{◌≡◌, ℕ, ◌+◌, ◌≤◌, ◌/◌, suc, if◌then◌else◌, true, false, List, [], ◌∷◌, length, map, nat_lt, slice_get, Option, None, Some, ◌&&◌, IsTrue, All, Contains, refl, sym, ap, ◌∙◌, arith, inl, inr}
use Rattle.std.proofs.lemmas.Bool.{cases_Bool, false≢true}
use Rattle.std.proofs.lemmas.List.Elements.{All-nil, All-append, All-filter, All-contains}
use Rattle.std.specs.List.{range_with_len, flat_map}
use Rattle.std.proofs.lemmas.Bool.Decides.{nat_tests}
use Rattle.std.proofs.lemmas.Cmp.{nat_cmp_total, on_total, then_total}
use Rattle.std.proofs.lemmas.List.Sorted.{ranks_by}
use Rattle.std.specs.Cmp.{IsStrictWeakOrder}
use Rattle.std.specs.List.Sorted.{IsPermutation, IsSortedBy}
use Rattle.rw_base.proofs.Ordered.{ordered_from_sort}
use Rattle.rw_reloc.specs.declared.entry.Entry.{Entry}
use Rattle.std.specs.Option.{option_or, option_and_then}
use Rattle.std.proofs.lemmas.Option.{slice_get-get_or}
use Rattle.rw_base.specs.declared.fault.Fault.{Fault}
use Rattle.rw_base.specs.declared.fault.Fault.TheVariants.{UnknownReloc}
use Rattle.rw_base.proofs.First.{first_from-none, first_none, second_none}
use Rattle.rw_base.specs.Rules.{first, first_of, each_of, finding_at, when}
use Rattle.rw_elf.specs.Symbols.{is_of_kind}
use Rattle.rw_reloc.specs.Relocations.{size_fault, table_fault, table_faults, table_finding}
use Rattle.rw_elf.specs.declared.section.Section.{Section}
use Rattle.rw_elf.specs.Section.{section_at, sections}
use Rattle.rw_elf.specs.Sections.{is_allocated, is_placed, has_bytes}
use Rattle.rw_elf.specs.Tables.{elf_rules}
use Rattle.rw_elf.proofs.Clean.{clean_stored}
use Rattle.rw_elf.proofs.SectionFacts.{each_made, each_section}
use Rattle.rw_reloc.specs.Relr.{is_relr, number_faults, relative_at, relative_entries, relative_entry, relr_words}
use Rattle.rw_reloc.specs.Entries.{comes_before, by_offset, HaveTheirIndex, entry_at, entries_in, entries_of, has_effect, has_entries}

pub comes_before-is_order : IsStrictWeakOrder comes_before
comes_before-is_order =
    ranks_by (then_total (then_total (on_total (λ (e : Entry). e.offset) nat_cmp_total) (on_total (λ (e : Entry). e.table) nat_cmp_total)) (on_total (λ (e : Entry). e.index) nat_cmp_total)) (λ (e : Entry). e)

-- where neither comes before the other, they stand at the same index of the same table
tie_table : (a b : Entry) → comes_before a b ≡ false → comes_before b a ≡ false → a.table ≡ b.table
tie_table a b h k = grind (arith, nat_tests)

tie_index : (a b : Entry) → comes_before a b ≡ false → comes_before b a ≡ false → a.index ≡ b.index
tie_index a b h k = grind (arith, nat_tests)

pub by_offset-sort : (xs ys : List Entry) → HaveTheirIndex xs → IsPermutation xs ys → IsSortedBy comes_before ys → ys ≡ by_offset xs
by_offset-sort xs ys one moved up =
    ordered_from_sort comes_before comes_before-is_order xs ys (λ a b in_a in_b h k. one a b in_a in_b (tie_table a b h k) (tie_index a b h k)) moved up

-- an entry is the one at its index of its table
made_at : List ℕ → Section → ℕ → Entry
made_at bytes s k = if has_entries s then entry_at bytes s k else relative_at bytes s k

IsAtIndex : List ℕ → Entry → Type 0
IsAtIndex bytes e = e ≡ made_at bytes (section_at bytes e.table) e.index

entry_at_index : (bytes : List ℕ) (i k : ℕ) → has_entries (section_at bytes i) ≡ true → IsAtIndex bytes (entry_at bytes (section_at bytes i) k)
unfolding IsAtIndex made_at entry_at section_at
entry_at_index bytes i k has = rw has refl

relative_at_index : (bytes : List ℕ) (i k : ℕ) → has_entries (section_at bytes i) ≡ false → IsAtIndex bytes (relative_at bytes (section_at bytes i) k)
unfolding IsAtIndex made_at relative_entry section_at
relative_at_index bytes i k other = rw other refl

each_flat : {A B : Type 0} (P : B → Type 0) (f : A → List B) (xs : List A) → All (λ x. All P (f x)) xs → All P (flat_map f xs)
each_flat P f [] all = All-nil P
each_flat P f (x ∷ xs) all = All-append P (f x) (flat_map f xs) (all 0 x (omega arith)) (each_flat P f xs (λ k d within. all (suc k) d (omega arith)))

rela_at_index : (bytes : List ℕ) (i : ℕ) → has_entries (section_at bytes i) ≡ true → All (IsAtIndex bytes) (entries_in bytes (section_at bytes i))
unfolding entries_in
rela_at_index bytes i has =
    All-filter has_effect (IsAtIndex bytes) (map (entry_at bytes (section_at bytes i)) (range_with_len 0 ((section_at bytes i).size / 24)))
    (each_made (IsAtIndex bytes) (entry_at bytes (section_at bytes i)) ((section_at bytes i).size / 24) (λ k _. entry_at_index bytes i k has))

relr_at_index : (bytes : List ℕ) (i : ℕ) → has_entries (section_at bytes i) ≡ false → All (IsAtIndex bytes) (relative_entries bytes (section_at bytes i))
unfolding relative_entries
relr_at_index bytes i other =
    each_made (IsAtIndex bytes) (relative_at bytes (section_at bytes i)) (length (relr_words bytes (section_at bytes i))) (λ k _. relative_at_index bytes i k other)

section_at_index : (bytes : List ℕ) (i : ℕ) → All (IsAtIndex bytes) (entries_of bytes (section_at bytes i))
section_at_index bytes i =
    elim (cases_Bool (has_entries (section_at bytes i))) [
      | inl has ↦ rw has (rela_at_index bytes i has)
      | inr other ↦
          elim (cases_Bool (is_relr (section_at bytes i))) [
            | inl relr ↦ rw (other, relr) (relr_at_index bytes i other)
            | inr none ↦ rw (other, none) (All-nil (IsAtIndex bytes))
          ]
    ]

pub have_their_index : (bytes : List ℕ) → HaveTheirIndex (flat_map (entries_of bytes) (sections bytes))
unfolding IsAtIndex
have_their_index bytes a b in_a in_b same_table same_index =
    let all : All (IsAtIndex bytes) (flat_map (entries_of bytes) (sections bytes)) = each_flat (IsAtIndex bytes) (entries_of bytes) (sections bytes) (each_section (λ s. All (IsAtIndex bytes) (entries_of bytes s)) bytes (λ i _. section_at_index bytes i)) in
    All-contains (IsAtIndex bytes) _ a all in_a ∙ ap (λ t. made_at bytes (section_at bytes t) a.index) same_table ∙ ap (made_at bytes (section_at bytes b.table)) same_index ∙ sym (All-contains (IsAtIndex bytes) _ b all in_b)

has_bytes-from : (s : Section) → has_entries s ≡ true → (is_placed s ≡ true) × (has_bytes s ≡ true)
has_bytes-from s h = grind (arith, nat_tests)

relr_has_bytes : (s : Section) → is_relr s ≡ true → (is_placed s ≡ true) × (has_bytes s ≡ true)
relr_has_bytes s h = grind (arith, nat_tests)

pub relr_inside : (bytes : List ℕ) (s : Section) → first (elf_rules bytes) ≡ None → Contains (sections bytes) s → IsTrue (is_relr s) → s.offset + s.size ≤ length bytes
relr_inside bytes s clean here is =
    elim (cases_Bool (is_relr s)) [
      | inl has ↦ let parts = relr_has_bytes s has in clean_stored bytes s clean here parts.0 parts.1
      | inr other ↦ absurd (false≢true (rw other at is))
    ]

-- a table lies in the file
pub table_inside : (bytes : List ℕ) (s : Section) → first (elf_rules bytes) ≡ None → Contains (sections bytes) s → IsTrue (has_entries s) → s.offset + s.size ≤ length bytes
table_inside bytes s clean here is =
    elim (cases_Bool (has_entries s)) [
      | inl has ↦ let parts = has_bytes-from s has in clean_stored bytes s clean here parts.0 parts.1
      | inr other ↦ absurd (false≢true (rw other at is))
    ]

fourth_none : (a b c d : Option Fault) → option_or a (option_or b (option_or c (option_or d None))) ≡ None → d ≡ None
fourth_none a b c d h = first_none d None (second_none c _ (second_none b _ (second_none a _ h)))

numbers-fault : (bytes : List ℕ) (s : Section) → is_relr s ≡ true → table_fault bytes s ≡ None → first_of (number_faults bytes s) ≡ None
unfolding table_fault
numbers-fault bytes s relr none =
    let last : (if is_relr s then first_of (number_faults bytes s) else None) ≡ None = fourth_none
    (when (is_of_kind 9 s && nat_lt 0 s.size) (UnknownReloc s.addr 0))
    (if is_of_kind 4 s then size_fault bytes s 24 else None)
    (if is_of_kind 19 s then size_fault bytes s 8 else None)
    (if is_relr s then first_of (number_faults bytes s) else None) none in
    simp relr at last

allocated : (s : Section) → is_relr s ≡ true → is_allocated s ≡ true
allocated s h = grind (arith, nat_tests)

-- no number of a table is bad in a file without a fault in its tables
pub numbers_clean : (bytes : List ℕ) (s : Section) → first_of (table_faults bytes) ≡ None → Contains (sections bytes) s → IsTrue (is_relr s) → first_of (number_faults bytes s) ≡ None
unfolding table_faults
numbers_clean bytes s clean here is =
    elim (cases_Bool (is_relr s)) [
      | inl relr ↦
          let none = first_from-none (finding_at (each_of (sections bytes) (table_finding bytes))) 0 _ clean here.0 (omega arith) (let low = here.1 in omega (arith, low)) in
          let at : slice_get (sections bytes) here.0 ≡ Some s = slice_get-get_or (sections bytes) here.0 s here.1 ∙ ap (λ t. Some t) here.2 in
          let found : table_finding bytes here.0 s ≡ None = sym (ap (option_and_then (table_finding bytes here.0)) at) ∙ none in
          numbers-fault bytes s relr (simp (allocated s relr) at found)
      | inr other ↦ absurd (false≢true (rw other at is))
    ]
