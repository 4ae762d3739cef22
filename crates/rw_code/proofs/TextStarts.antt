-- What a machine holds that starts as a text says: the bytes of the lines of its sections, and counters that are 0.
use Rattle.std.proofs.Common.{◌≡◌, ℕ, zero, suc, ◌+◌, List, [], ◌∷◌, ◌++◌, length, map, replicate, Some, refl, ap, subst, ◌∙◌, arith, length-append}
use Rattle.std.specs.Prelude.{slice_get, option_map}
use Rattle.std.proofs.lemmas.Option.{slice_get-map}
use Rattle.std.proofs.lemmas.List.{length-map}
use Rattle.rw_base.proofs.Lists.{slice_get-append_left}
use Rattle.asm_items.specs.Lines.{Items, DataSection, sections_of, copies_of, counters_number, counters_size}
use Rattle.asm_items.specs.Layout.{Layout, section_bytes}
use Rattle.rw_words.specs.declared.atom.Cell.{Cell}
use Rattle.rw_words.specs.declared.atom.Cell.TheVariants.{Num, Undef}
use Rattle.rw_words.specs.Addresses.{Addresses}
use Rattle.rw_domain.specs.Placed.{Placed}
use Rattle.rw_domain.specs.Stands.{Both}
use Rattle.rw_domain.specs.RegionsLaidOut.{ByteStands}
use Rattle.rw_machine.specs.Step.{Machine}
use Rattle.rw_code.specs.Start.{Start, words_start}
use Rattle.rw_code.specs.Printed.{text_ground, PrintedBegins}

-- ---- numbers stand for themselves

numbers-are : (l : Addresses) (bytes row : List ℕ) → Both (ByteStands l) (map Num bytes) row → row ≡ bytes
numbers-are l [] [] h = refl
numbers-are l [] (c ∷ row) h = absurd h
numbers-are l (b ∷ bytes) [] h = absurd h
numbers-are l (b ∷ bytes) (c ∷ row) h = ap (λ x. x ∷ row) h.0.0 ∙ ap (λ xs. b ∷ xs) (numbers-are l bytes row h.1)

-- what stands for the row with a number
record RowAt {E F : Type 0} (R : E → F → Type 0) (k : ℕ) (x : List E) (rows : List (List F)) : Type 0 where
  row : List F
  is_there : slice_get rows k ≡ Some row
  stands : Both R x row

row-at : {E F : Type 0} (R : E → F → Type 0) (xs : List (List E)) (ys : List (List F)) (k : ℕ) (x : List E) → Both (Both R) xs ys → slice_get xs k ≡ Some x → RowAt R k x ys
row-at R [] ys k x h e = cc
row-at R (a ∷ xs) [] k x h e = absurd h
row-at R (a ∷ xs) (b ∷ ys) zero x h e = let same : a ≡ x = cc in record { row = b; is_there = refl; stands = subst (λ z. Both R z b) same h.0 }
row-at R (a ∷ xs) (b ∷ ys) (suc k) x h e = let rest = row-at R xs ys k x h.1 e in record { row = rest.row; is_there = rest.is_there; stands = rest.stands }

numbers-at : (l : Addresses) (xs : List (List Cell)) (ys : List (List ℕ)) (k : ℕ) (bytes : List ℕ) → Both (Both (ByteStands l)) xs ys → slice_get xs k ≡ Some (map Num bytes) → slice_get ys k ≡ Some bytes
numbers-at l xs ys k bytes h e =
    let found = row-at (ByteStands l) xs ys k (map Num bytes) h e in
    found.is_there ∙ ap (λ x. Some x) (numbers-are l bytes found.row found.stands)

get-behind : {A : Type 0} (xs ys : List A) (k : ℕ) (x : A) → slice_get ys k ≡ Some x → slice_get (xs ++ ys) (length xs + k) ≡ Some x
get-behind [] ys k x e = let here : length {A = ℕ} [] + k ≡ k = omega arith in ap (slice_get ys) here ∙ e
get-behind (z ∷ xs) ys k x e = let next : suc (length xs) + k ≡ suc (length xs + k) = omega arith in ap (slice_get (z ∷ (xs ++ ys))) next ∙ get-behind xs ys k x e

number-zeros : (n : ℕ) → replicate n (Num 0) ≡ map Num (replicate n 0)
number-zeros zero = refl
number-zeros (suc n) = ap (λ xs. Num 0 ∷ xs) (number-zeros n)

-- ---- a text

module _ (l : Addresses) (items : Items) (layout : Layout) (start : Start) (machine : Machine Placed ℕ ℕ ℕ) (begins : PrintedBegins l items layout start machine) where
  abbrev section_row : DataSection → List Cell
  section_row section = map Num (section_bytes items layout section)

  abbrev copy_rows : List (List Cell)
  copy_rows = map (λ copy. replicate copy.1 Undef) (copies_of items)

  abbrev rows : List (List Cell)
  rows = (words_start (text_ground items layout) start).memory

  -- a section holds the bytes of its lines
  pub section-holds : (k : ℕ) (s : DataSection) → slice_get (sections_of items) k ≡ Some s → slice_get machine.memory k ≡ Some (section_bytes items layout s)
  section-holds k s e =
      let cells : slice_get (map section_row (sections_of items)) k ≡ Some (section_row s) = slice_get-map section_row (sections_of items) k ∙ ap (option_map section_row) e in
      let contents : slice_get (map section_row (sections_of items) ++ copy_rows) k ≡ Some (section_row s) = slice_get-append_left (map section_row (sections_of items)) copy_rows k (section_row s) cells in
      numbers-at l rows machine.memory k (section_bytes items layout s) begins.memory (slice_get-append_left (map section_row (sections_of items) ++ copy_rows) _ k (section_row s) contents)

  -- the counters are 0
  pub counters-hold : slice_get machine.memory (counters_number items) ≡ Some (replicate (counters_size items) 0)
  counters-hold =
      let first = length-map (sections_of items) section_row in
      let second = length-map (copies_of items) (λ copy. replicate copy.1 Undef) in
      let both = length-append (map section_row (sections_of items)) copy_rows in
      let number : counters_number items ≡ length (map section_row (sections_of items) ++ copy_rows) + 0 = omega (arith, first, second, both) in
      let here : slice_get rows (counters_number items) ≡ Some (map Num (replicate (counters_size items) 0)) =
      ap (slice_get rows) number ∙ get-behind (map section_row (sections_of items) ++ copy_rows) _ 0 (map Num (replicate (counters_size items) 0)) (ap (λ x. Some x) (number-zeros (counters_size items))) in
      numbers-at l rows machine.memory (counters_number items) (replicate (counters_size items) 0) begins.memory here
