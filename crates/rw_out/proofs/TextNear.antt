-- The distances of a file's jump tables are in reach where its text is laid out.
use Rattle.std.proofs.Common.{◌≡◌, ◌⊎◌, ℕ, suc, ◌+◌, ◌-◌, ◌%◌, ◌^◌, ◌<◌, ◌≤◌, List, length, All, Some, true, sym, ap, subst, ◌∙◌, arith}
use Rattle.std.specs.Prelude.{Contains, flat_map, map}
use Rattle.std.specs.List.{range_with_len}
use Rattle.std.proofs.lemmas.List.Elements.{Contains-append_left, Contains-append_right}
use Rattle.std.proofs.lemmas.List.FromFn.{get_or-range_with_len, length-range_with_len}
use Rattle.std.proofs.lemmas.Option.{slice_get-get_or}
use Rattle.asm_items.specs.declared.item.Item.TheVariants.{LongDiff}
use Rattle.asm_items.specs.declared.item.Label.TheVariants as label
use Rattle.asm_items.specs.Layout.{Extent, Layout, IsLayout}
use Rattle.rw_words.specs.declared.atom.Atom.{Atom}
use Rattle.rw_words.specs.declared.atom.Atom.TheVariants.{Ptr, Diff}
use Rattle.rw_words.specs.Addresses.{address_of}
use Rattle.rw_elf.specs.Places.{Covers}
use Rattle.rw_elf.specs.Tables.{kept_sections}
use Rattle.rw_reloc.specs.Slots.{copies_of}
use Rattle.rw_funcs.specs.Functions.{kept_functions, section_or}
use Rattle.rw_data.specs.Regions.{start_contents}
use Rattle.rw_data.proofs.Clean.{IsClean}
use Rattle.rw_data.proofs.Good.{table-section}
use Rattle.rw_code.specs.Ground.{ground_of}
use Rattle.rw_code.specs.Known.{has_address}
use Rattle.rw_code.specs.File.{labels_of}
use Rattle.rw_out.specs.Items.{Probes, contents, copy_item, function_items, items_with, last_items, section_items, section_number, weak_items}
use Rattle.rw_out.specs.Simulates.{text_addresses}
use Rattle.rw_out.proofs.FileFits.{IsTableWord, distance-from}
use Rattle.rw_out.proofs.TextContents.{base-is, into-flat, table-labelled, word-line}
use Rattle.rw_out.proofs.TextLines.{items-parts}

-- a line of a section is one of the text
section-line : (file : List ℕ) (probes : Probes) (n code table : ℕ) → n < length (kept_sections file) → Contains (contents file (section_number file n)) (LongDiff code table) → Contains (items_with file probes) (LongDiff code table)
section-line file probes n code table within at =
    let size = length-range_with_len 0 (length (kept_sections file)) in
    let number : Contains (range_with_len 0 (length (kept_sections file))) n = (n, omega (arith, size, within), get_or-range_with_len 0 (length (kept_sections file)) n n within ∙ (let none : 0 + n ≡ n = omega arith in none)) in
    let small = at.1 in
    let inside : Contains (section_items file n) (LongDiff code table) = (suc (suc (suc at.0)), omega (arith, small), at.2) in
    let whole : Contains (flat_map (section_items file) (range_with_len 0 (length (kept_sections file)))) (LongDiff code table) = into-flat (section_items file) (range_with_len 0 (length (kept_sections file))) n (LongDiff code table) number inside in
    subst (λ xs. Contains xs (LongDiff code table)) (sym (items-parts file probes))
    (Contains-append_right (map (copy_item file) (copies_of file)) _ (LongDiff code table)
    (Contains-append_right (weak_items file probes) _ (LongDiff code table)
    (Contains-append_right (flat_map (function_items file probes) (kept_functions file)) _ (LongDiff code table)
    (Contains-append_left (flat_map (section_items file) (range_with_len 0 (length (kept_sections file)))) (last_items probes) (LongDiff code table) whole))))

module _ (file : List ℕ) (probes : Probes) (clean : IsClean file) (bytes : All (λ b. b < 256) file) (layout : Layout) (regions : List Extent) (names : List (List ℕ)) (is : IsLayout (items_with file probes) regions names layout) where
  abbrev IsNear : ℕ → Type 0
  IsNear d = (d < 2 ^ 31) ⊎ (2 ^ 64 - 2 ^ 31 ≤ d)

  abbrev IsNearAtom : Atom → Type 0
  IsNearAtom (Diff c r o) = (address_of (text_addresses file layout) (Diff c r o) < 2 ^ 31) ⊎ (2 ^ 64 - 2 ^ 31 ≤ address_of (text_addresses file layout) (Diff c r o))
  IsNearAtom _ = Unit {0}

  pointer-sum : (f : ℕ → ℕ) (r o q p : ℕ) → Some (Ptr r o) ≡ Some (Ptr q p) → f r + o ≡ f q + p
  pointer-sum f r o q p e = let same : Ptr r o ≡ Ptr q p = cc in let first : r ≡ q = cc in let second : o ≡ p = cc in ap (λ k. f k + o) first ∙ ap (λ k. f q + k) second

  word-near : (x : Atom) (w : IsTableWord file x) → IsNearAtom (Diff w.word.point w.word.region w.word.offset)
  word-near x w =
      let section = table-section file w.table clean w.listed in
      let n = section.1.0 in
      let within = section.1.1 in
      let same : section.0 ≡ section_number file section.1.0 = sym section.1.2 ∙ sym (ap section_or (slice_get-get_or (kept_sections file) section.1.0 section.0 section.1.1)) in
      let on : Covers w.table.base (section_number file section.1.0) = subst (Covers w.table.base) same section.2 in
      let line = section-line file probes section.1.0 w.word.point w.table.base within (word-line file probes clean bytes layout regions names is section.1.0 within w.table w.listed on w.number w.low w.word) in
      let reach = is.table_reach line.0 w.word.point w.table.base (slice_get-get_or (items_with file probes) line.0 (LongDiff w.word.point w.table.base) line.1 ∙ ap (λ i. Some i) line.2) in
      let at = table-labelled file probes clean bytes layout regions names is section.1.0 within w.table w.listed on in
      let place = sym (base-is file probes clean bytes layout regions names is section.1.0 within w.table w.listed on) ∙ w.word.base_is in
      let base : layout.label (label.Table w.table.base) ≡ layout.region w.word.region + w.word.offset = at ∙ pointer-sum layout.region section.1.0 (w.table.base - (section_number file section.1.0).addr) w.word.region w.word.offset place in
      subst (λ a. IsNear ((layout.label (label.Code w.word.point) % 2 ^ 64 + 2 ^ 64 - a % 2 ^ 64) % 2 ^ 64)) base reach

  pub text-near : (c r o : ℕ) → has_address (labels_of file (ground_of file (start_contents file))) (Diff c r o) ≡ true
      → (address_of (text_addresses file layout) (Diff c r o) < 2 ^ 31) ⊎ (2 ^ 64 - 2 ^ 31 ≤ address_of (text_addresses file layout) (Diff c r o))
  text-near c r o h = let w = distance-from file clean c r o h in subst IsNearAtom w.atom_is (word-near (Diff c r o) w)
