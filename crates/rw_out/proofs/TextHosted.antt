-- A C library starts the text of a file where it starts the file.
use Rattle.std.proofs.Common.{◌≡◌, ℕ, zero, suc, ◌<◌, List, [], ◌∷◌, ◌++◌, length, get_or, map, append_assoc, Option, Some, None, Bool, true, false, cond, ◌==◌, refl, ap, ◌∙◌, arith}
use Rattle.std.specs.Prelude.{codes, flat_map}
use Rattle.std.specs.List.{list_all}
use Rattle.std.specs.Str.{bytes_eq}
use Rattle.std.proofs.lemmas.Bool.{and_from, and_parts, eqb-false}
use Rattle.std.proofs.lemmas.List.Folds.{list_all-append}
use Rattle.x86_insn.specs.declared.instruction.Insn.{Insn}
use Rattle.asm_items.specs.declared.item.Item.{Item}
use Rattle.asm_items.specs.declared.item.Item.TheVariants.{Name, Weak, Label, Ins}
use Rattle.asm_items.specs.declared.item.Label.TheVariants as label
use Rattle.asm_items.specs.declared.item.Sym.{Sym}
use Rattle.asm_items.specs.declared.item.Sym.TheVariants as sym
use Rattle.asm_items.specs.Lines.{Items}
use Rattle.rw_elf.specs.declared.symbol.Symbol.{Symbol}
use Rattle.rw_reloc.specs.declared.slot.Slot.{Slot}
use Rattle.rw_reloc.specs.Slots as slots
use Rattle.rw_funcs.specs.Functions.{entry_of, entry_function, is_hosted, kept_functions, name_of_symbol}
use Rattle.rw_funcs.specs.Points.{Point, points_of}
use Rattle.rw_funcs.proofs.Facts.{entered}
use Rattle.rw_probe.specs.declared.form.Probe.{Probe}
use Rattle.rw_probe.specs.Probes.{probe_insns}
use Rattle.rw_probe.specs.ProbedPrograms.{is_endbr64}
use Rattle.rw_code.specs.Printed.{is_hosted_text}
use Rattle.rw_data.proofs.Clean.{IsClean}
use Rattle.rw_out.specs.Items.{Probes, insn_items, probe_items, with_symbols, point_items, start_name, opening, entry_items, closing, function_items, copy_item, copy_items, weakly_used, weak_items, data_items, main_items, items_with}

-- ---- behind lines without names

abbrev is_no_name : Item (List ℕ) → Bool
is_no_name (Name name) = false
is_no_name _ = true

hosted-behind : (xs ys : Items) → list_all is_no_name xs ≡ true → is_hosted_text (xs ++ ys) ≡ is_hosted_text ys
hosted-behind [] ys h = refl
hosted-behind (Name name ∷ xs) ys h = cc
hosted-behind (x ∷ xs) ys h = hosted-behind xs ys (and_parts (is_no_name x) (list_all is_no_name xs) h).1

module _ (file : List ℕ) (probes : Probes) where
  insns-unnamed : (is : List (Insn (Sym (List ℕ)))) (rest : Items) → list_all is_no_name rest ≡ true → list_all is_no_name (map Ins is ++ rest) ≡ true
  insns-unnamed [] rest h = h
  insns-unnamed (i ∷ is) rest h = insns-unnamed is rest h

  point-unnamed : (p : Point) (rest : Items) → list_all is_no_name rest ≡ true → list_all is_no_name (point_items file probes p ++ rest) ≡ true
  point-unnamed p rest h = by (is_endbr64 p.insn) (probes.at p.place)
    where
      by : (t : Bool) (o : Option (ℕ × Probe)) → list_all is_no_name (Label (label.Code p.place) ∷ insn_items t (Ins (with_symbols file p.insn)) (probe_items o) ++ rest) ≡ true
      by true None = h
      by true (Some counted) = insns-unnamed (probe_insns (sym.Counter counted.0) counted.1) rest h
      by false None = h
      by false (Some counted) =
          ap (list_all is_no_name) (append_assoc (map Ins (probe_insns (sym.Counter counted.0) counted.1)) (Ins (with_symbols file p.insn) ∷ []) rest)
          ∙ insns-unnamed (probe_insns (sym.Counter counted.0) counted.1) (Ins (with_symbols file p.insn) ∷ rest) h

  points-unnamed : (ps : List Point) → list_all is_no_name (flat_map (point_items file probes) ps) ≡ true
  points-unnamed [] = refl
  points-unnamed (p ∷ ps) = point-unnamed p (flat_map (point_items file probes) ps) (points-unnamed ps)

  abbrev parts_of : Bool → Symbol → Items
  parts_of t f = ((opening (name_of_symbol file f) ++ cond t (entry_items (start_name file)) []) ++ flat_map (point_items file probes) (points_of file f)) ++ closing f.value

  function-unnamed : (f : Symbol) → list_all is_no_name (parts_of false f) ≡ true
  function-unnamed f =
      list_all-append is_no_name ((opening (name_of_symbol file f) ++ []) ++ flat_map (point_items file probes) (points_of file f)) (closing f.value)
      ∙ and_from _ _ (list_all-append is_no_name (opening (name_of_symbol file f) ++ []) (flat_map (point_items file probes) (points_of file f)) ∙ and_from _ _ refl (points-unnamed (points_of file f))) refl

  copies-unnamed : (copies : List Slot) → list_all is_no_name (map (copy_item file) copies) ≡ true
  copies-unnamed [] = refl
  copies-unnamed (c ∷ copies) = copies-unnamed copies

  weak-unnamed : (symbols : List Symbol) → list_all is_no_name (map (λ s. Weak (name_of_symbol file s)) symbols) ≡ true
  weak-unnamed [] = refl
  weak-unnamed (s ∷ symbols) = weak-unnamed symbols

  -- ---- the name of the function that is entered

  named_here : (g : Symbol) (rest : Items) → (g.value == entry_of file) ≡ true → is_hosted_text (function_items file probes g ++ rest) ≡ bytes_eq (start_name file) (codes "main")
  named_here g rest e = ap (λ t. is_hosted_text (parts_of t g ++ rest)) e

  named_later : (g : Symbol) (rest : Items) → (g.value == entry_of file) ≡ false → is_hosted_text (function_items file probes g ++ rest) ≡ is_hosted_text rest
  named_later g rest e = ap (λ t. is_hosted_text (parts_of t g ++ rest)) e ∙ hosted-behind (parts_of false g) rest (function-unnamed g)

  hosted-in : (fs : List Symbol) (tail : Items) (f : Symbol) (i : ℕ) → i < length fs → get_or fs i f ≡ f → f.value ≡ entry_of file → is_hosted_text (flat_map (function_items file probes) fs ++ tail) ≡ bytes_eq (start_name file) (codes "main")
  hosted-in [] tail f i h e entry = absurd (omega (arith, h))
  hosted-in (g ∷ gs) tail f i h e entry =
      ap is_hosted_text (append_assoc (function_items file probes g) (flat_map (function_items file probes) gs) tail)
      ∙ by_test (λ j low same. hosted-in gs tail f j low same entry) (g.value == entry_of file) refl
    where
      by_number : ((j : ℕ) → j < length gs → get_or gs j f ≡ f → is_hosted_text (flat_map (function_items file probes) gs ++ tail) ≡ bytes_eq (start_name file) (codes "main"))
          → (j : ℕ) → j < length (g ∷ gs) → get_or (g ∷ gs) j f ≡ f → (g.value == entry_of file) ≡ false → is_hosted_text (flat_map (function_items file probes) gs ++ tail) ≡ bytes_eq (start_name file) (codes "main")
      by_number others zero low same other = let entry_is : g.value ≡ entry_of file = ap (λ (z : Symbol). z.value) same ∙ entry in absurd (eqb-false g.value (entry_of file) other entry_is)
      by_number others (suc j) low same other = others j (omega (arith, low)) same

      by_test : ((j : ℕ) → j < length gs → get_or gs j f ≡ f → is_hosted_text (flat_map (function_items file probes) gs ++ tail) ≡ bytes_eq (start_name file) (codes "main"))
          → (t : Bool) → (g.value == entry_of file) ≡ t → is_hosted_text (function_items file probes g ++ (flat_map (function_items file probes) gs ++ tail)) ≡ bytes_eq (start_name file) (codes "main")
      by_test others true u = named_here g (flat_map (function_items file probes) gs ++ tail) u
      by_test others false u = named_later g (flat_map (function_items file probes) gs ++ tail) u ∙ by_number others i h e u

  -- ---- the whole

  name-tells : (t : Bool) → bytes_eq (cond t (codes "main") (codes "_start")) (codes "main") ≡ t
  name-tells true = refl
  name-tells false = refl

  front-unnamed : list_all is_no_name (copy_items file ++ weak_items file probes) ≡ true
  unfolding copy_items weak_items
  front-unnamed = list_all-append is_no_name (copy_items file) (weak_items file probes) ∙ and_from _ _ (copies-unnamed (slots.copies_of file)) (weak-unnamed (weakly_used file probes))

  pub hosted-is : IsClean file → is_hosted_text (items_with file probes) ≡ is_hosted file
  unfolding items_with main_items
  hosted-is clean =
      let entry = entered file clean.functions in
      let at = entry.0 in
      hosted-behind (copy_items file ++ weak_items file probes) (flat_map (function_items file probes) (kept_functions file) ++ data_items file probes) front-unnamed
      ∙ hosted-in (kept_functions file) (data_items file probes) (entry_function file) at.0 at.1 at.2 entry.1
      ∙ name-tells (is_hosted file)
