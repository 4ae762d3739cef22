-- Where the numbers of the printed program of any file lead, and with that its whole program.
use Rattle.std.proofs.Common.{◌≡◌, ℕ, zero, suc, ◌+◌, ◌*◌, ◌<◌, ◌%◌, ◌^◌, arith, List, [], ◌∷◌, ◌++◌, length, get_or, append_assoc, filter, map, Bool, true, false, cond, ◌==◌, ◌||◌, Option, Some, None, refl, sym, ap, subst, ◌∙◌}
use Rattle.std.specs.Prelude.{Contains, flat_map, is_some, Result, Ok}
use Rattle.std.specs.List.{list_all, list_any, range_with_len}
use Rattle.std.specs.Str.{bytes_eq}
use Rattle.std.proofs.lemmas.Bool.{and_from, and_parts, eqb-true}
use Rattle.std.proofs.lemmas.List.{get_or_default}
use Rattle.std.proofs.lemmas.List.Elements.{Contains-append_right}
use Rattle.std.specs.Option.{option_map_or}
use Rattle.std.proofs.lemmas.List.Folds.{list_all-append, list_any_none}
use Rattle.x86_insn.specs.declared.instruction.Insn.{Insn}
use Rattle.asm_items.specs.declared.item.Item.{Item}
use Rattle.asm_items.specs.declared.item.Item.TheVariants.{Weak, Globl, Align, Name, Label, Ins, Zero, CountsHead, Tail}
use Rattle.asm_items.specs.declared.item.Label.TheVariants as label
use Rattle.asm_items.specs.declared.item.Sym.{Sym}
use Rattle.asm_items.specs.declared.item.Sym.TheVariants as syms
use Rattle.asm_items.specs.Lines.{Items, is_copied, used_names}
use Rattle.asm_items.specs.Layout.{Layout, IsOwnName}
use Rattle.rw_words.specs.declared.atom.Atom.TheVariants.{Code, Import, End}
use Rattle.rw_words.specs.declared.atom.Cell.{Cell}
use Rattle.rw_words.specs.Addresses.{address_of}
use Rattle.rw_domain.specs.declared.cause.Cause.{Cause}
use Rattle.rw_domain.specs.LaidOut.{WordStands}
use Rattle.rw_elf.specs.declared.symbol.Symbol.{Symbol}
use Rattle.rw_elf.proofs.Around.{filter_contains, filter_tests}
use Rattle.rw_elf.specs.Tables.{kept_sections}
use Rattle.rw_elf.proofs.Search.{position-never}
use Rattle.rw_reloc.specs.declared.slot.Slot.{Slot}
use Rattle.rw_reloc.specs.declared.slot.Target.{Target}
use Rattle.rw_reloc.specs.declared.slot.Target.TheVariants as target
use Rattle.rw_reloc.specs.Entries.{entries}
use Rattle.rw_reloc.specs.Targets.{is_undefined, symbol_of, target_of}
use Rattle.rw_reloc.specs.Slots as slots
use Rattle.rw_funcs.specs.Functions.{entry_of, kept_functions, name_of_symbol}
use Rattle.rw_funcs.specs.Points.{Point, is_one_of, is_point, points_of, file_points}
use Rattle.rw_machine.specs.declared.goal.Goal.{Goal}
use Rattle.rw_machine.specs.declared.goal.Goal.TheVariants as goal
use Rattle.rw_machine.specs.Program.{Program}
use Rattle.rw_machine.specs.Stands.{InsnFollows, ProgramsStand}
use Rattle.rw_code.specs.declared.point.FilePoint.{FilePoint}
use Rattle.rw_code.specs.declared.point.FilePoint.TheVariants.{At, Past}
use Rattle.rw_code.specs.Ground.{Ground}
use Rattle.rw_code.specs.Imports.{imports_of, import_name}
use Rattle.rw_code.specs.Imports as imports
use Rattle.rw_code.specs.Start.{Start}
use Rattle.rw_code.specs.Known.{has_address}
use Rattle.rw_code.specs.File.{labels_of, symbolic}
use Rattle.rw_code.specs.Printed.{printed, IsNamed}
use Rattle.rw_code.proofs.Functions.{contains_map}
use Rattle.rw_code.proofs.Targets.{Leads, word-leads}
use Rattle.rw_code.proofs.PrintedTargets.{are_single, label-leads, name-leads, finish-leads}
use Rattle.rw_data.proofs.Clean.{IsClean}
use Rattle.rw_probe.specs.declared.form.Probe.{Probe}
use Rattle.rw_probe.specs.declared.form.Probe.TheVariants.{Inc, Dead, Spill}
use Rattle.rw_probe.specs.Probes.{probe_insns}
use Rattle.rw_probe.specs.ProbedPrograms.{is_endbr64, ProbedProgramStands}
use Rattle.rw_out.specs.Items.{Probes, no_probes, with_symbols, probe_items, insn_items, target_name, point_items, start_name, opening, entry_items, closing, function_items, copy_item, counters_name, last_items, weakly_used, weak_items, section_number, section_items, items_of, items_with}
use Rattle.rw_out.specs.Simulates.{names_of, IsTextLayout, probe_at, text_addresses}
use Rattle.rw_out.proofs.TextLines.{contents-pass, section_lines, data_from, items-parts, copies-are, text_copy}
use Rattle.rw_out.proofs.FileSymbols.{names-agree}
use Rattle.rw_out.proofs.FilePlaces.{point-place, label-there}
use Rattle.rw_out.proofs.FilePrinted.{AtItem, printed-points}

-- ---- no label of code follows another label

abbrev is_no_code : Item (List ℕ) → Bool
is_no_code (Label (label.Code a)) = false
is_no_code _ = true

abbrev is_no_label : Item (List ℕ) → Bool
is_no_label (Label l) = false
is_no_label _ = true

none-single : (items : Items) → list_all is_no_code items ≡ true → are_single items ≡ true
none-single [] h = refl
none-single (Label (label.Code a) ∷ items) h = cc
none-single (Label l ∷ []) h = refl
none-single (Label l ∷ Label (label.Code a) ∷ items) h = absurd (clash (and_parts (is_no_code (Label l)) _ h).1)
  where
    clash : list_all is_no_code (Label (label.Code a) ∷ items) ≡ true → ⊥
    clash e = cc
none-single (Label l ∷ item ∷ items) h = none-single (item ∷ items) (and_parts (is_no_code (Label l)) (list_all is_no_code (item ∷ items)) h).1
none-single (item ∷ items) h = none-single items (and_parts (is_no_code item) (list_all is_no_code items) h).1

single-behind : (xs ys : Items) → list_all is_no_label xs ≡ true → are_single ys ≡ true → are_single (xs ++ ys) ≡ true
single-behind [] ys h rest = rest
single-behind (Label l ∷ xs) ys h rest = cc
single-behind (x ∷ xs) ys h rest = single-behind xs ys (and_parts (is_no_label x) (list_all is_no_label xs) h).1 rest

module _ (file : List ℕ) (probes : Probes) where
  copies-unlabelled : (copies : List Slot) → list_all is_no_label (map (copy_item file) copies) ≡ true
  copies-unlabelled [] = refl
  copies-unlabelled (c ∷ copies) = copies-unlabelled copies

  weak-unlabelled : (symbols : List Symbol) → list_all is_no_label (map (λ s. Weak (name_of_symbol file s)) symbols) ≡ true
  weak-unlabelled [] = refl
  weak-unlabelled (s ∷ symbols) = weak-unlabelled symbols

  counted-codeless : (n : ℕ) (t : Bool) → list_all is_no_code (cond t [] (CountsHead ∷ Globl counters_name ∷ Align 3 ∷ Name counters_name ∷ Zero (8 * n) ∷ []) ++ Tail ∷ []) ≡ true
  counted-codeless n true = refl
  counted-codeless n false = refl

  data-codeless : (ns : List ℕ) → list_all is_no_code (data_from file probes ns) ≡ true
  data-codeless [] = counted-codeless probes.counters (probes.counters == 0)
  data-codeless (n ∷ ns) =
      ap (list_all is_no_code) (append_assoc (section_items file n) (flat_map (section_items file) ns) (last_items probes))
      ∙ list_all-append is_no_code (section_lines file n) (data_from file probes ns)
      ∙ and_from _ _ (contents-pass file is_no_code (λ bytes. refl) (λ sym. refl) (λ c t. refl) (λ n. refl) (λ t. refl) (section_number file n)) (data-codeless ns)

  -- behind the label of a point stands an instruction
  point-single : (p : Point) (rest : Items) → are_single rest ≡ true → are_single (point_items file probes p ++ rest) ≡ true
  point-single p rest h = by (is_endbr64 p.insn) (probes.at p.place)
    where
      through : (is : List (Insn (Sym (List ℕ)))) (more : Items) → are_single more ≡ true → are_single (map Ins is ++ more) ≡ true
      through [] more g = g
      through (i ∷ is) more g = through is more g

      probe-single : (k : ℕ) (form : Probe) (more : Items) → are_single more ≡ true → are_single (Label (label.Code p.place) ∷ (map Ins (probe_insns (syms.Counter k) form) ++ more)) ≡ true
      probe-single k Inc more g = g
      probe-single k (Dead r) more g = g
      probe-single k Spill more g = g

      by : (t : Bool) (o : Option (ℕ × Probe)) → are_single (Label (label.Code p.place) ∷ insn_items t (Ins (with_symbols file p.insn)) (probe_items o) ++ rest) ≡ true
      by true None = h
      by true (Some counted) = through (probe_insns (syms.Counter counted.0) counted.1) rest h
      by false None = h
      by false (Some counted) =
          ap (λ xs. are_single (Label (label.Code p.place) ∷ xs)) (append_assoc (map Ins (probe_insns (syms.Counter counted.0) counted.1)) (Ins (with_symbols file p.insn) ∷ []) rest)
          ∙ probe-single counted.0 counted.1 (Ins (with_symbols file p.insn) ∷ rest) h

  points-single : (ps : List Point) (s : ℕ) (rest : Items) → are_single rest ≡ true → are_single ((flat_map (point_items file probes) ps ++ closing s) ++ rest) ≡ true
  points-single [] s rest h = h
  points-single (p ∷ ps) s rest h =
      ap (λ xs. are_single (xs ++ rest)) (append_assoc (point_items file probes p) (flat_map (point_items file probes) ps) (closing s))
      ∙ ap are_single (append_assoc (point_items file probes p) (flat_map (point_items file probes) ps ++ closing s) rest)
      ∙ point-single p ((flat_map (point_items file probes) ps ++ closing s) ++ rest) (points-single ps s rest h)

  opened-single : (t : Bool) (name : List ℕ) (ps : List Point) (s : ℕ) (rest : Items) → are_single rest ≡ true
      → are_single ((((opening name ++ cond t (entry_items (start_name file)) []) ++ flat_map (point_items file probes) ps) ++ closing s) ++ rest) ≡ true
  opened-single true name ps s rest h = points-single ps s rest h
  opened-single false name ps s rest h = points-single ps s rest h

  functions-single : (fs : List Symbol) (rest : Items) → are_single rest ≡ true → are_single (flat_map (function_items file probes) fs ++ rest) ≡ true
  functions-single [] rest h = h
  functions-single (f ∷ fs) rest h =
      ap are_single (append_assoc (function_items file probes f) (flat_map (function_items file probes) fs) rest)
      ∙ opened-single (f.value == entry_of file) (name_of_symbol file f) (points_of file f) f.value (flat_map (function_items file probes) fs ++ rest) (functions-single fs rest h)

  items-single : are_single (items_with file probes) ≡ true
  unfolding weak_items
  items-single =
      let behind = data_from file probes (range_with_len 0 (length (kept_sections file))) in
      let functions = flat_map (function_items file probes) (kept_functions file) in
      ap are_single (items-parts file probes)
      ∙ single-behind (map (copy_item file) (slots.copies_of file)) (weak_items file probes ++ (functions ++ behind)) (copies-unlabelled (slots.copies_of file))
      (single-behind (weak_items file probes) (functions ++ behind) (weak-unlabelled (weakly_used file probes))
      (functions-single (kept_functions file) behind (none-single behind (data-codeless (range_with_len 0 (length (kept_sections file)))))))

-- ---- copied names

-- an item of a list of images is one of an item
record IsImage {A B : Type 0} (g : A → B) (y : B) : Type 0 where
  item : A
  image : g item ≡ y

image-of : {A B : Type 0} (g : A → B) (xs : List A) (y : B) (k : ℕ) → k < length (map g xs) → get_or (map g xs) k y ≡ y → IsImage g y
image-of g [] y k low e = absurd (omega (arith, low))
image-of g (x ∷ xs) y zero low e = record { item = x; image = e }
image-of g (x ∷ xs) y (suc k) low e = image-of g xs y k (omega (arith, low)) e

-- where a symbol is copied, nothing is imported: by the kind of an entry, the number of its symbol, and its addend
abbrev target_by : ℕ → ℕ → ℕ → Symbol → Target
target_by kind number addend s =
    cond (kind == 5) (target.Copy number s.size) (cond (is_undefined s) (target.Import number) (cond (kind == 1) (target.To ((s.value + addend) % 2 ^ 64)) (target.To s.value)))

never-import : (kind number addend i : ℕ) (o : Option Symbol) → (kind == 5) ≡ true → option_map_or (target_by kind number addend) o (target.To addend) ≡ target.Import i → ⊥
never-import kind number addend i None copied is = cc
never-import kind number addend i (Some s) copied is = by_kind (kind == 5) copied is
  where
    by_kind : (t : Bool) → t ≡ true → cond {A = Target} t (target.Copy number s.size) (cond (is_undefined s) (target.Import number) (cond (kind == 1) (target.To ((s.value + addend) % 2 ^ 64)) (target.To s.value))) ≡ target.Import i → ⊥
    by_kind true h k = cc
    by_kind false h k = cc

-- a copy has one name
abbrev IsCopyOf : List ℕ → List ℕ → Slot → Type 0
IsCopyOf file name c = bytes_eq (target_name file c.target) name ≡ bytes_eq (imports.target_name file c.target) name

copy-name : (file name : List ℕ) (c : Slot) → Contains (slots.slots_of file) c → slots.is_copy_slot c ≡ true → IsCopyOf file name c
unfolding slots.slots_of slots.slot_of target_of
copy-name file name c at h =
    let from = image-of (slots.slot_of file) (entries file) c at.0 at.1 at.2 in
    let kind : (from.item.kind == 5) ≡ true = ap (λ (s : Slot). s.kind == 5) from.image ∙ h in
    by_target c.target (λ i e. never-import from.item.kind from.item.symbol from.item.addend i (symbol_of file from.item) kind (ap (λ (s : Slot). s.target) from.image ∙ e))
  where
    by_target : (t : Target) → ((i : ℕ) → t ≡ target.Import i → ⊥) → bytes_eq (target_name file t) name ≡ bytes_eq (imports.target_name file t) name
    by_target (target.Copy i n) never = ap (λ x. bytes_eq x name) (names-agree file i)
    by_target (target.To a) never = refl
    by_target (target.Import i) never = absurd (never i refl)

none-copied : (file : List ℕ) (probes : Probes) (name : List ℕ) → is_some (imports.copy_of file name) ≡ false → is_copied (items_with file probes) name ≡ false
unfolding slots.copies_of
none-copied file probes name h =
    ap (list_any (λ copy. bytes_eq copy.0 name)) (copies-are file probes)
    ∙ any_mapped (slots.copies_of file)
    ∙ list_any_none (λ c. bytes_eq (target_name file c.target) name) (slots.copies_of file) (λ k d low. unnamed k d low)
  where
    any_mapped : (copies : List Slot) → list_any (λ copy. bytes_eq copy.0 name) (map (text_copy file) copies) ≡ list_any (λ c. bytes_eq (target_name file c.target) name) copies
    any_mapped [] = refl
    any_mapped (c ∷ copies) = ap (λ t. bytes_eq (target_name file c.target) name || t) (any_mapped copies)

    nothing : (o : Option ℕ) → is_some o ≡ false → o ≡ None
    nothing None e = refl
    nothing (Some k) e = cc

    unnamed : (k : ℕ) (d : Slot) → k < length (slots.copies_of file) → bytes_eq (target_name file (get_or (slots.copies_of file) k d).target) name ≡ false
    unnamed k d low =
        let c = get_or (slots.copies_of file) k d in
        let here : Contains (filter slots.is_copy_slot (slots.slots_of file)) c = (k, low, get_or_default (slots.copies_of file) k c d low) in
        copy-name file name c (filter_contains slots.is_copy_slot (slots.slots_of file) c here) (filter_tests slots.is_copy_slot (slots.slots_of file) c here) ∙ position-never (λ s. bytes_eq (imports.target_name file s.target) name) (slots.copies_of file) k d (nothing (imports.copy_of file name) h) low

-- ---- targets

among_rest : (xs : List ℕ) (x i : ℕ) → Contains xs i → Contains (x ∷ xs) i
among_rest xs x i rest = let low = rest.1 in (suc rest.0, omega (arith, low), rest.2)

one_among : (xs : List ℕ) (i : ℕ) → is_one_of xs i ≡ true → Contains xs i
one_among [] i h = cc
one_among (x ∷ xs) i h = by_test (λ g. among_rest xs x i (one_among xs i g)) (x == i) refl h
  where
    by_test : (is_one_of xs i ≡ true → Contains (x ∷ xs) i) → (t : Bool) → (x == i) ≡ t → (t || is_one_of xs i) ≡ true → Contains (x ∷ xs) i
    by_test others true e g = (0, omega arith, eqb-true x i e)
    by_test others false e g = others g

module _ (file : List ℕ) (probes : Probes) (clean : IsClean file) (file_ground : Ground) (start : Start) (layout : Layout) (is : IsTextLayout file (items_with file probes) start layout) where
  abbrev Near : FilePoint → ℕ → Type 0
  Near p q = AtItem file probes (items_with file probes) p q

  abbrev leads_to : ℕ → Result (Goal ℕ) Cause
  leads_to n = (printed (items_with file probes) (names_of file (items_with file probes)) layout).target n

  abbrev LeadsTo : Result (Goal FilePoint) Cause → Result (Goal ℕ) Cause → Type 0
  LeadsTo a b = Leads (text_addresses file layout) file file_ground (IsNamed (import_name file) (names_of file (items_with file probes))) Near leads_to a b

  to_point : (c : ℕ) → is_point (file_points file) c ≡ true → LeadsTo (Ok (goal.At (At c))) (leads_to (address_of (text_addresses file layout) (Code c)))
  to_point c h =
      let found = point-place file probes clean c h in
      let at = label-there file probes (items_with file probes) c found.0 found.1 in
      subst (LeadsTo (Ok (goal.At (At c)))) (sym (label-leads (items_with file probes) _ _ layout is (items-single file probes) found.0 c at.insn at.rest at.lines)) found.1

  -- an imported symbol has its name among those with addresses
  own : (i : ℕ) → is_one_of (imports_of file) i ≡ true → imports.is_copied file i ≡ false → IsOwnName (items_with file probes) (names_of file (items_with file probes)) (import_name file i)
  own i h other = (
    Contains-append_right (used_names (items_with file probes)) (map (import_name file) (imports_of file)) (import_name file i) (contains_map (import_name file) (imports_of file) i (one_among (imports_of file) i h)),
    none-copied file probes (import_name file i) other,
  )

  to_import : (i : ℕ) → is_one_of (imports_of file) i ≡ true → imports.is_copied file i ≡ false → LeadsTo (Ok (goal.Import i)) (leads_to (address_of (text_addresses file layout) (Import i)))
  to_import i h other =
      let found = name-leads (items_with file probes) _ _ layout is (import_name file i) (own i h other) in
      subst (LeadsTo (Ok (goal.Import i))) (sym found.1) found.2

  to_end : LeadsTo (Ok goal.Finish) (leads_to (address_of (text_addresses file layout) End))
  to_end = subst (LeadsTo (Ok goal.Finish)) (sym (finish-leads (items_with file probes) _ _ layout is)) tt

  -- the program of the symbolic machine stands for the printed one with its probes, wherever that is laid out
  pub probed-stands : ProbedProgramStands (WordStands (text_addresses file layout) (has_address (labels_of file file_ground))) (IsNamed (import_name file) (names_of file (items_with file probes))) (AtItem file probes (items_with file probes)) (symbolic file)
      (printed (items_with file probes) (names_of file (items_with file probes)) layout) (λ k. syms.Counter k) (probe_at probes)
  probed-stands = record {
    points = printed-points file probes clean file_ground start layout is;
    target = word-leads (text_addresses file layout) file file_ground (IsNamed (import_name file) (names_of file (items_with file probes))) Near leads_to to_point to_import to_end;
  }

-- so without probes
module _ (file : List ℕ) (clean : IsClean file) (file_ground : Ground) (start : Start) (layout : Layout) (is : IsTextLayout file (items_of file) start layout) where
  abbrev Words : List Cell → ℕ → Type 0
  Words a n = WordStands (text_addresses file layout) (has_address (labels_of file file_ground)) a n

  abbrev Title : ℕ → ℕ → Type 0
  Title i j = IsNamed (import_name file) (names_of file (items_of file)) i j

  abbrev prog : Program ℕ (Sym (List ℕ)) ℕ
  prog = printed (items_of file) (names_of file (items_of file)) layout

  insns-stand : (p : FilePoint) (q : ℕ) → AtItem file no_probes (items_of file) p q → InsnFollows Words (AtItem file no_probes (items_of file)) (symbolic file) prog p q ((symbolic file).insn p) (prog.insn q)
  insns-stand (At a) q h = (probed-stands file no_probes clean file_ground start layout is).points (At a) q h
  insns-stand (Past s) q h = (probed-stands file no_probes clean file_ground start layout is).points (Past s) q h

  pub printed-stands : ProgramsStand Words Title (AtItem file no_probes (items_of file)) (AtItem file no_probes (items_of file)) (symbolic file) prog
  printed-stands = record { insn = insns-stand; target = (probed-stands file no_probes clean file_ground start layout is).target }
