-- What an address of a file stands for has, at a layout of its text, the address of the symbol that the text shows for it.
use Rattle.std.proofs.Common.{◌≡◌, ℕ, ◌+◌, ◌-◌, ◌%◌, ◌^◌, ◌<◌, List, [], ◌∷◌, ◌++◌, length, map, Bool, true, false, cond, nat_lt, Option, Some, None, refl, sym, ap, subst, ◌∙◌, arith, length-append}
use Rattle.std.specs.Prelude.{slice_get, option_map}
use Rattle.std.specs.List.{range_with_len}
use Rattle.std.specs.Option.{option_map_or, is_some}
use Rattle.std.proofs.lemmas.Bool.{ltb-true, ltb-false}
use Rattle.std.proofs.lemmas.List.{length-map}
use Rattle.std.proofs.lemmas.List.FromFn.{get_or-range_with_len, length-range_with_len}
use Rattle.std.proofs.lemmas.Option.{slice_get-map, slice_get-get_or, slice_get_within}
use Rattle.asm_items.specs.declared.item.Item.TheVariants.{Align}
use Rattle.asm_items.specs.declared.item.Label.TheVariants as label
use Rattle.asm_items.specs.declared.item.Sym.TheVariants as syms
use Rattle.asm_items.specs.Lines.{sections_of, copies_of}
use Rattle.asm_items.specs.Layout.{Layout, Extent, IsLayout, symbol_at}
use Rattle.rw_words.specs.declared.atom.Atom.{Atom}
use Rattle.rw_words.specs.declared.atom.Atom.TheVariants as atom
use Rattle.rw_words.specs.Addresses.{address_of}
use Rattle.rw_domain.specs.LaidOut.{WordStands}
use Rattle.rw_domain.proofs.KnownWords.{atom-word}
use Rattle.rw_elf.specs.declared.symbol.Symbol.{Symbol}
use Rattle.rw_elf.specs.Symbols.{dynamic_symbols}
use Rattle.rw_elf.specs.Tables.{kept_sections}
use Rattle.rw_reloc.specs.declared.slot.Slot.{Slot}
use Rattle.rw_reloc.specs.Slots as slots
use Rattle.rw_funcs.specs.Functions.{name_of_symbol, symbol_or}
use Rattle.rw_code.specs.Ground.{Ground}
use Rattle.rw_code.specs.Imports.{import_name}
use Rattle.rw_code.specs.Known.{has_address}
use Rattle.rw_code.specs.File.{labels_of, refers, reference_word}
use Rattle.rw_code.proofs.References.{IsAtomOf, IsPlaceIn, found, atom-known}
use Rattle.rw_out.specs.Items.{Probes, dynamic_name, target_name, copy_name, atom_symbol, symbol_or_label, exponent, contents, section_number, items_with}
use Rattle.rw_out.specs.Simulates.{text_addresses}
use Rattle.rw_out.proofs.TextLines.{sections-are, copies-are, text_section, text_copy}

-- ---- names

-- the name of a dynamic symbol
pub names-agree : (file : List ℕ) (i : ℕ) → dynamic_name file i ≡ import_name file i
names-agree file i = by_symbol (slice_get (dynamic_symbols file) i)
  where
    by_symbol : (o : Option Symbol) → name_of_symbol file (symbol_or o) ≡ option_map_or (λ s. name_of_symbol file s) o []
    by_symbol None = refl
    by_symbol (Some s) = refl

module _ (file : List ℕ) (probes : Probes) (regions : List Extent) (names : List (List ℕ)) (layout : Layout) (is : IsLayout (items_with file probes) regions names layout) where
  abbrev kept : ℕ
  kept = length (kept_sections file)

  section-there : (k : ℕ) → k < length (kept_sections file) → slice_get (sections_of (items_with file probes)) k ≡ Some (text_section file k)
  section-there k low =
      let size = length-range_with_len 0 (length (kept_sections file)) in
      let numbers = range_with_len 0 (length (kept_sections file)) in
      let here : slice_get (range_with_len 0 (length (kept_sections file))) k ≡ Some k =
      slice_get-get_or numbers k k (omega (arith, low, size)) ∙ ap (λ n. Some n) (get_or-range_with_len 0 (length (kept_sections file)) k k low ∙ omega arith) in
      ap (λ xs. slice_get xs k) (sections-are file probes) ∙ slice_get-map (text_section file) numbers k ∙ ap (option_map (text_section file)) here

  -- the label of a section is at its base
  pub section-label : (k : ℕ) → k < length (kept_sections file) → layout.label (label.Section k) ≡ layout.region k
  section-label k low =
      let at = is.data_labels k (text_section file k) (Align (exponent (section_number file k).align) ∷ []) (contents file (section_number file k)) (label.Section k) (section-there k low) refl in
      at ∙ omega arith

  pub sections-count : length (sections_of (items_with file probes)) ≡ length (kept_sections file)
  sections-count =
      ap length (sections-are file probes) ∙ length-map (range_with_len 0 (length (kept_sections file))) (text_section file) ∙ length-range_with_len 0 (length (kept_sections file))

  -- a copied name is at the base of its copy
  pub copy-address : (k : ℕ) (c : Slot) → slice_get (slots.copies_of file) k ≡ Some c → layout.name (target_name file c.target) ≡ layout.region (length (kept_sections file) + k)
  copy-address k c e =
      let here : slice_get (copies_of (items_with file probes)) k ≡ Some (text_copy file c) =
      ap (λ xs. slice_get xs k) (copies-are file probes) ∙ slice_get-map (text_copy file) (slots.copies_of file) k ∙ ap (option_map (text_copy file)) e in
      is.copies k (text_copy file c) here ∙ ap (λ n. layout.region (n + k)) sections-count

  -- ---- atoms

  abbrev IsShown : Atom → Type 0
  IsShown x = address_of (text_addresses file layout) x ≡ symbol_at (items_with file probes) layout (atom_symbol file x)

  place-shown : (a k o : ℕ) → IsPlaceIn file a k o → IsShown (atom.Ptr k o)
  place-shown a k o h = by_test (nat_lt k (length (kept_sections file))) refl
    where
      within : k < length (map (λ s. s.addr) (kept_sections file) ++ map (λ s. s.address) (slots.copies_of file))
      within = slice_get_within (map (λ s. s.addr) (kept_sections file) ++ map (λ s. s.address) (slots.copies_of file)) k h.place h.is_there

      sizes : length (map (λ s. s.addr) (kept_sections file) ++ map (λ s. s.address) (slots.copies_of file)) ≡ length (kept_sections file) + length (slots.copies_of file)
      sizes =
          let both = length-append (map (λ s. s.addr) (kept_sections file)) (map (λ s. s.address) (slots.copies_of file)) in
          let first = length-map (kept_sections file) (λ s. s.addr) in
          let second = length-map (slots.copies_of file) (λ s. s.address) in omega (arith, both, first, second)

      by_copy : (j : ℕ) → j < length (slots.copies_of file) → k ≡ length (kept_sections file) + j → (c : Option Slot) → slice_get (slots.copies_of file) j ≡ c
          → (layout.region k + o) % 2 ^ 64 ≡ (layout.name (option_map_or (λ c. target_name file c.target) c []) + o) % 2 ^ 64
      by_copy j low same None e = absurd (none e low)
        where
          none : slice_get (slots.copies_of file) j ≡ None → j < length (slots.copies_of file) → ⊥
          none e low = let here = slice_get-get_or (slots.copies_of file) j slots.null_slot low in cc
      by_copy j low same (Some c) e = ap (λ n. (n + o) % 2 ^ 64) (ap layout.region same ∙ sym (copy-address j c e))

      by_test : (t : Bool) → nat_lt k (length (kept_sections file)) ≡ t → (layout.region k + o) % 2 ^ 64 ≡ symbol_at (items_with file probes) layout (cond t (syms.Section k o) (syms.Named (copy_name file (k - length (kept_sections file))) o))
      by_test true e = ap (λ n. (n + o) % 2 ^ 64) (sym (section-label k (ltb-true k (length (kept_sections file)) e)))
      by_test false e =
          let above = ltb-false k (length (kept_sections file)) e in
          let low = within in
          let size = sizes in
          by_copy (k - length (kept_sections file)) (omega (arith, above, low, size)) (omega (arith, above)) (slice_get (slots.copies_of file) (k - length (kept_sections file))) refl

  pub atom-shown : (a : ℕ) (x : Atom) → IsAtomOf file a x → IsShown x
  atom-shown a (atom.Ptr k o) h = place-shown a k o h
  atom-shown a (atom.Code c) h = refl
  atom-shown a (atom.Import i) h = ap (λ n. n % 2 ^ 64) (ap layout.name (sym (names-agree file i)) ∙ (let z : layout.name (dynamic_name file i) ≡ layout.name (dynamic_name file i) + 0 = omega arith in z))
  atom-shown a (atom.Past s) h = absurd h
  atom-shown a atom.End h = absurd h
  atom-shown a (atom.Diff c r o) h = absurd h

  -- the word of what an address stands for stands for the address of its symbol
  pub reference-shown : (file_ground : Ground) (a : ℕ) (direct : Bool) (o : Option Atom) → refers file a direct ≡ o → is_some o ≡ true
      → WordStands (text_addresses file layout) (has_address (labels_of file file_ground)) (reference_word o) (symbol_at (items_with file probes) layout (symbol_or_label file a o))
  reference-shown file_ground a direct None e h = cc
  reference-shown file_ground a direct (Some x) e h =
      let there = found file a direct x e in
      let known = has_address (labels_of file file_ground) in
      subst (λ n. WordStands (text_addresses file layout) known (reference_word (Some x)) n) (atom-shown a x there) (atom-word (text_addresses file layout) known x (atom-known file file_ground a x there))
