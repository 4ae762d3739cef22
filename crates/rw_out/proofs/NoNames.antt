-- In a file that imports and copies nothing no instruction uses a name.
use Rattle.std.proofs.Common.{◌≡◌, ◌<◌, ◌==◌, ℕ, ◌-◌, ◌+◌, ◌≤◌, Bool, true, false, not, cond, ◌&&◌, List, [], ◌∷◌, ◌++◌, filter, length, Option, Some, None, refl, sym, ap, subst, ◌∙◌, arith, length-append, nat_lt}
use Rattle.std.specs.Prelude.{flat_map, option_and_then, option_map, position, slice_get}
use Rattle.std.specs.List.{list_all}
use Rattle.std.specs.Option.{option_or}
use Rattle.std.proofs.lemmas.Bool.{and_parts, eqb-true, lt-ltb}
use Rattle.std.proofs.lemmas.Grind.{flat_map-append}
use Rattle.std.proofs.lemmas.List.Quantifiers.{position-Some}
use Rattle.x86_insn.specs.declared.instruction.Insn.{Insn}
use Rattle.x86_insn.specs.declared.instruction.Insn.TheVariants as insn
use Rattle.x86_insn.specs.declared.kinds.Plain.TheVariants.{Int3}
use Rattle.x86_insn.specs.References.{map_references, references_of}
use Rattle.x86_insn.proofs.SameForm.{same-references}
use Rattle.rw_words.specs.declared.atom.Atom.{Atom}
use Rattle.rw_words.specs.declared.atom.Atom.TheVariants as atom
use Rattle.asm_items.specs.declared.item.Item.{Item}
use Rattle.asm_items.specs.declared.item.Item.TheVariants as items
use Rattle.asm_items.specs.declared.item.Sym.{Sym}
use Rattle.asm_items.specs.declared.item.Sym.TheVariants as syms
use Rattle.asm_items.specs.Lines.{names_in, used_names}
use Rattle.rw_elf.specs.declared.section.Section.{Section}
use Rattle.rw_elf.specs.Places.{kept_around, kept_ending, section_around}
use Rattle.rw_elf.specs.Section.{null_section}
use Rattle.rw_elf.specs.Tables.{is_named, kept_sections}
use Rattle.rw_reloc.specs.declared.slot.Slot.{Slot}
use Rattle.rw_reloc.specs.declared.slot.Target.{Target}
use Rattle.rw_reloc.specs.declared.slot.Target.TheVariants as target
use Rattle.rw_reloc.specs.Slots.{copies_of, copy_around, slot_at, slots_of, starts_at as slot_starts, takes}
use Rattle.rw_funcs.specs.Points.{Point, file_points, is_point}
use Rattle.rw_refs.specs.CodeReferences.{is_direct}
use Rattle.rw_refs.specs.References.{copy_at, end_at, import_through, inside_at, offset_in, point_at, reference_at, start_at, starts_at, target_at}
use Rattle.rw_refs.specs.Stubs.{bytes_on, import_at, import_of, place_through, stub_at, stub_in, stub_sections}
use Rattle.rw_refs.proofs.Data.{around-place, ending-place}
use Rattle.rw_probe.specs.ProbedPrograms.{is_endbr64}
use Rattle.rw_out.specs.Items.{Probes, atom_symbol, closing, copy_name, function_number, insn_items, place_symbol, point_items, probe_items, symbol_named, symbol_or_label, with_symbols}
use Rattle.rw_out.specs.Naming.{imports_nothing, is_address}
use Rattle.rw_out.specs.Plan.{item_names}
use Rattle.rw_out.specs.Positions.{functions_on, points_on, points_past}
use Rattle.rw_out.specs.Uses.{names_used}
use Rattle.rw_out.proofs.ProbeNames.{no-item-names, none-used, of-insn}

-- ---- slots

none-with : (t : Bool) (s : Slot) (ss : List Slot) (x : Target) → s.target ≡ x → is_address x ≡ true → option_and_then (λ o. import_of o.kind o.target) (slice_get ss 0) ≡ None → option_and_then (λ o. import_of o.kind o.target) (slice_get (cond t (s ∷ ss) ss) 0) ≡ None
none-with true s ss (target.To b) e h rest = ap (import_of s.kind) e
none-with true s ss (target.Import n) e h rest = absurd (cc)
none-with true s ss (target.Copy n size) e h rest = absurd (cc)
none-with false s ss x e h rest = rest

none-there : (a : ℕ) (slots : List Slot) → list_all (λ s. is_address s.target) slots ≡ true → option_and_then (λ o. import_of o.kind o.target) (slice_get (filter (slot_starts a) slots) 0) ≡ None
none-there a [] h = refl
none-there a (s ∷ ss) h =
    let parts = and_parts (is_address s.target) (list_all (λ o. is_address o.target) ss) h in
    none-with (slot_starts a s) s (filter (slot_starts a) ss) s.target refl parts.0 (none-there a ss parts.1)

none-copied : (copies : List Slot) → (length copies == 0) ≡ true → copies ≡ []
none-copied [] h = refl
none-copied (c ∷ cs) h = let none = eqb-true (length (c ∷ cs)) 0 h in absurd (omega (arith, none))

-- ---- what an address stands for has no name

module _ (file : List ℕ) (h : imports_nothing file ≡ true) where
  no-copies : copies_of file ≡ []
  no-copies = none-copied (copies_of file) (and_parts (length (copies_of file) == 0) (list_all (λ s. is_address s.target) (slots_of file)) h).0

  no-import : (b : ℕ) → import_at file b ≡ None
  unfolding slot_at
  no-import b = none-there b (slots_of file) (and_parts (length (copies_of file) == 0) (list_all (λ s. is_address s.target) (slots_of file)) h).1

  no-stub : (a : ℕ) → stub_at file a ≡ None
  unfolding stub_at
  no-stub a = by_section (section_around file a)
    where
      by_place : (o : Option ℕ) → option_and_then (import_at file) o ≡ None
      by_place None = refl
      by_place (Some b) = no-import b

      by_name : (t : Bool) (o : Option ℕ) → cond t (option_and_then (import_at file) o) None ≡ None
      by_name true o = by_place o
      by_name false o = refl

      by_section : (o : Option Section) → option_and_then (stub_in file a) o ≡ None
      by_section None = refl
      by_section (Some s) = by_name (is_named file stub_sections s) (place_through a (bytes_on file a s))

  -- what it stands for, at an address
  abbrev IsBare : ℕ → Option Atom → Type 0
  IsBare a o = names_in (symbol_or_label file a o) ≡ []

  or-bare : (a : ℕ) (o p : Option Atom) → IsBare a o → IsBare a p → IsBare a (option_or o p)
  or-bare a None p f g = g
  or-bare a (Some x) p f g = f

  kept-bare : (a k o : ℕ) → k < length (kept_sections file) → IsBare a (Some (atom.Ptr k o))
  kept-bare a k o low = ap (λ t. names_in (cond t (syms.Section k o) (syms.Named (copy_name file (k - length (kept_sections file))) o))) (lt-ltb k (length (kept_sections file)) low)

  copy-bare : (a : ℕ) → IsBare a (copy_at file a)
  unfolding copy_around
  copy-bare a = ap (λ cs. names_in (symbol_or_label file a (option_map (λ k. atom.Ptr (length (kept_sections file) + k) (offset_in cs (λ (s : Slot). a - s.address) k)) (position (takes a) cs)))) no-copies

  start-bare : (a : ℕ) → IsBare a (start_at file a)
  start-bare a = by (position (starts_at a) (kept_sections file)) refl
    where
      by : (o : Option ℕ) → position (starts_at a) (kept_sections file) ≡ o → IsBare a (option_map (λ k. atom.Ptr k 0) o)
      by None e = refl
      by (Some k) e = kept-bare a k 0 (position-Some (starts_at a) (kept_sections file) k null_section e).0

  inside-bare : (a : ℕ) → IsBare a (inside_at file a)
  inside-bare a = by (kept_around file a) refl
    where
      by : (o : Option ℕ) → kept_around file a ≡ o → IsBare a (option_map (λ k. atom.Ptr k (offset_in (kept_sections file) (λ (s : Section). a - s.addr) k)) o)
      by None e = refl
      by (Some k) e = kept-bare a k (offset_in (kept_sections file) (λ (s : Section). a - s.addr) k) (around-place file a k e).within

  end-bare : (a : ℕ) → IsBare a (end_at file a)
  end-bare a = by (kept_ending file a) refl
    where
      by : (o : Option ℕ) → kept_ending file a ≡ o → IsBare a (option_map (λ k. atom.Ptr k (offset_in (kept_sections file) (λ (s : Section). s.size) k)) o)
      by None e = refl
      by (Some k) e = kept-bare a k (offset_in (kept_sections file) (λ (s : Section). s.size) k) (ending-place file a k e).within

  point-bare : (a : ℕ) (t : Bool) → IsBare a (cond t (Some (atom.Code a)) None)
  point-bare a true = refl
  point-bare a false = refl

  import-bare : (a : ℕ) → IsBare a (import_through file a)
  import-bare a = ap (λ o. names_in (symbol_or_label file a (option_map atom.Import o))) (no-stub a)

  target-bare : (a : ℕ) → IsBare a (target_at file a)
  unfolding target_at
  target-bare a = or-bare a (point_at file a) (option_or (import_through file a) None) (point-bare a (is_point (file_points file) a)) (or-bare a (import_through file a) None (import-bare a) refl)

  reference-bare : (a : ℕ) → IsBare a (reference_at file a)
  unfolding reference_at target_at
  reference-bare a =
      or-bare a (copy_at file a) (option_or (start_at file a) (option_or (inside_at file a) (option_or (end_at file a) (target_at file a)))) (copy-bare a)
      (or-bare a (start_at file a) (option_or (inside_at file a) (option_or (end_at file a) (target_at file a))) (start-bare a)
      (or-bare a (inside_at file a) (option_or (end_at file a) (target_at file a)) (inside-bare a)
      (or-bare a (end_at file a) (target_at file a) (end-bare a) (target-bare a))))

  symbol-bare : (direct : Bool) (a : ℕ) → names_in (symbol_named file direct a) ≡ []
  unfolding symbol_named
  symbol-bare true a = target-bare a
  symbol-bare false a = reference-bare a

  -- ---- nor has an instruction, or a point

  none-in : (ss : List (Sym (List ℕ))) → list_all (λ s. length (names_in s) == 0) ss ≡ true → flat_map names_in ss ≡ []
  none-in [] g = refl
  none-in (s ∷ ss) g =
      let parts = and_parts (length (names_in s) == 0) (list_all (λ x. length (names_in x) == 0) ss) g in
      ap (λ ns. ns ++ flat_map names_in ss) (empty (names_in s) parts.0) ∙ none-in ss parts.1
    where
      empty : (ns : List (List ℕ)) → (length ns == 0) ≡ true → ns ≡ []
      empty [] e = refl
      empty (n ∷ ns) e = let none = eqb-true (length (n ∷ ns)) 0 e in absurd (omega (arith, none))

  all-true : (rs : List ℕ) → list_all (λ r. true) rs ≡ true
  all-true [] = refl
  all-true (r ∷ rs) = all-true rs

  insn-bare : (i : Insn ℕ) → names_used (items.Ins (with_symbols file i)) ≡ []
  unfolding with_symbols
  insn-bare i =
      let f = symbol_named file (is_direct i) in
      none-in (references_of (map_references f i)) (same-references f (λ r. true) (λ s. length (names_in s) == 0) (λ r. ap (λ ns. length ns == 0) (symbol-bare (is_direct i) r)) i ∙ all-true (references_of i))

  point-names : (probes : Probes) (p : Point) → flat_map item_names (point_items file probes p) ≡ []
  point-names probes p = of-insn item_names no-item-names file probes probes (is_endbr64 p.insn) (items.Ins (with_symbols file p.insn)) (probes.at p.place) ∙ insn-bare p.insn

  point-used : (probes : Probes) (p : Point) → used_names (point_items file probes p) ≡ []
  point-used probes p = of-insn names_used none-used file probes probes (is_endbr64 p.insn) (items.Ins (with_symbols file p.insn)) (probes.at p.place) ∙ insn-bare p.insn

  points-names : (probes : Probes) (ps : List Point) → flat_map item_names (flat_map (point_items file probes) ps) ≡ []
  points-names probes [] = refl
  points-names probes (p ∷ ps) = flat_map-append item_names (point_items file probes p) (flat_map (point_items file probes) ps) ∙ (ap (λ ns. ns ++ flat_map item_names (flat_map (point_items file probes) ps)) (point-names probes p) ∙ points-names probes ps)

  points-used : (probes : Probes) (ps : List Point) → used_names (flat_map (point_items file probes) ps) ≡ []
  points-used probes [] = refl
  points-used probes (p ∷ ps) = flat_map-append names_used (point_items file probes p) (flat_map (point_items file probes) ps) ∙ (ap (λ ns. ns ++ used_names (flat_map (point_items file probes) ps)) (point-used probes p) ∙ points-used probes ps)

  -- so a function's points are gone past at once
  module _ (probes : Probes) (k a : ℕ) where
    abbrev points : List (Item (List ℕ))
    points = flat_map (point_items file probes) (points_past file (function_number file k) (a - (function_number file k).value))

    abbrev after : List (Item (List ℕ))
    after = functions_on file probes (k + 1)

    pub past-names : flat_map item_names (items.Ins (insn.Plain Int3) ∷ functions_on file probes (k + 1)) ≡ flat_map item_names (points_on file probes k a)
    past-names =
        sym (flat_map-append item_names (points ++ closing (function_number file k).value) after
        ∙ ap (λ ns. ns ++ flat_map item_names after) (flat_map-append item_names points (closing (function_number file k).value)
        ∙ ap (λ ns. ns ++ []) (points-names probes (points_past file (function_number file k) (a - (function_number file k).value)))))

    pub past-used : used_names (items.Ins (insn.Plain Int3) ∷ functions_on file probes (k + 1)) ≡ used_names (points_on file probes k a)
    past-used =
        sym (flat_map-append names_used (points ++ closing (function_number file k).value) after
        ∙ ap (λ ns. ns ++ used_names after) (flat_map-append names_used points (closing (function_number file k).value)
        ∙ ap (λ ns. ns ++ []) (points-used probes (points_past file (function_number file k) (a - (function_number file k).value)))))

    pub past-fewer : length (items.Ins (insn.Plain Int3) ∷ functions_on file probes (k + 1)) ≤ length (points_on file probes k a)
    past-fewer =
        let whole = length-append (points ++ closing (function_number file k).value) after in
        let front = length-append points (closing (function_number file k).value) in
        omega (arith, whole, front)
