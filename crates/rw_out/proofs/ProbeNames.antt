-- The names of a text are those of the text without its probes, since these use none.
use Rattle.std.proofs.Common.{◌≡◌, Bool, true, false, ℕ, List, [], ◌∷◌, ◌++◌, length, Option, Some, None, refl, sym, ap, ◌∙◌, append-nil}
use Rattle.std.specs.Prelude.{flat_map}
use Rattle.std.specs.List.{range_with_len}
use Rattle.std.proofs.lemmas.Grind.{flat_map-append}
use Rattle.asm_items.specs.declared.item.Item.{Item}
use Rattle.asm_items.specs.declared.item.Item.TheVariants.{Ins, Label, Tail}
use Rattle.asm_items.specs.declared.item.Label.TheVariants as label
use Rattle.asm_items.specs.Lines.{used_names}
use Rattle.rw_elf.specs.declared.symbol.Symbol.{Symbol}
use Rattle.rw_elf.specs.Tables.{kept_sections}
use Rattle.rw_funcs.specs.Functions.{kept_functions, name_of_symbol}
use Rattle.rw_funcs.specs.Points.{Point, points_of}
use Rattle.rw_probe.specs.declared.form.Probe.{Probe}
use Rattle.rw_probe.specs.declared.form.Probe.TheVariants.{Inc, Dead, Spill}
use Rattle.rw_probe.specs.ProbedPrograms.{is_endbr64}
use Rattle.rw_out.specs.Items.{Probes, closing, counter_items, entry_items_at, data_items, function_items, insn_items, main_items, opening, point_items, probe_items, section_items, with_symbols}
use Rattle.rw_out.specs.Plan.{by_appearance, item_names, names_of}
use Rattle.rw_out.specs.Uses.{names_used}

abbrev Items : Type 0
Items = List (Item (List ℕ))

-- names of a kind that the instructions of probes have none of
module _ (names : Item (List ℕ) → List (List ℕ)) (none : (o : Option (ℕ × Probe)) → flat_map names (probe_items o) ≡ []) (file : List ℕ) (p q : Probes) where
  abbrev Same : Items → Items → Type 0
  Same a b = flat_map names a ≡ flat_map names b

  joined : (a b c d : Items) → Same a b → Same c d → Same (a ++ c) (b ++ d)
  joined a b c d front back =
      flat_map-append names a c ∙ (ap (λ ns. ns ++ flat_map names c) front ∙ ap (λ ns. flat_map names b ++ ns) back) ∙ sym (flat_map-append names b d)

  each : {A : Type 0} (f g : A → Items) → ((x : A) → Same (f x) (g x)) → (xs : List A) → Same (flat_map f xs) (flat_map g xs)
  each f g same [] = refl
  each f g same (x ∷ xs) = joined (f x) (g x) (flat_map f xs) (flat_map g xs) (same x) (each f g same xs)

  pub of-insn : (first : Bool) (line : Item (List ℕ)) (o : Option (ℕ × Probe)) → flat_map names (insn_items first line (probe_items o)) ≡ names line
  of-insn true line o = ap (λ ns. names line ++ ns) (none o) ∙ append-nil (names line)
  of-insn false line o = flat_map-append names (probe_items o) (line ∷ []) ∙ (ap (λ ns. ns ++ (names line ++ [])) (none o) ∙ append-nil (names line))

  of-point : (x : Point) → Same (point_items file p x) (point_items file q x)
  of-point x =
      let line = Ins (with_symbols file x.insn) in
      let first = is_endbr64 x.insn in
      ap (λ ns. names (Label (label.Code x.place)) ++ ns) (of-insn first line (p.at x.place) ∙ sym (of-insn first line (q.at x.place)))

  of-function : (f : Symbol) → Same (function_items file p f) (function_items file q f)
  of-function f =
      let front = opening (name_of_symbol file f) ++ entry_items_at file f.value in
      let ps = flat_map (point_items file p) (points_of file f) in
      let qs = flat_map (point_items file q) (points_of file f) in
      joined (front ++ ps) (front ++ qs) (closing f.value) (closing f.value) (joined front front ps qs refl (each (point_items file p) (point_items file q) of-point (points_of file f))) refl

  of-main : p.counters ≡ q.counters → Same (main_items file p) (main_items file q)
  unfolding main_items data_items
  of-main same =
      let sections = flat_map (section_items file) (range_with_len 0 (length (kept_sections file))) in
      joined (flat_map (function_items file p) (kept_functions file)) (flat_map (function_items file q) (kept_functions file)) (data_items file p) (data_items file q)
      (each (function_items file p) (function_items file q) of-function (kept_functions file))
      (ap (λ n. flat_map names (sections ++ (counter_items n ++ Tail ∷ []))) same)

pub no-item-names : (o : Option (ℕ × Probe)) → flat_map item_names (probe_items o) ≡ []
no-item-names None = refl
no-item-names (Some counted) = by_form counted.0 counted.1
  where
    by_form : (k : ℕ) (form : Probe) → flat_map item_names (probe_items (Some (k, form))) ≡ []
    by_form k Inc = refl
    by_form k (Dead r) = refl
    by_form k Spill = refl

pub none-used : (o : Option (ℕ × Probe)) → flat_map names_used (probe_items o) ≡ []
none-used None = refl
none-used (Some counted) = by_form counted.0 counted.1
  where
    by_form : (k : ℕ) (form : Probe) → flat_map names_used (probe_items (Some (k, form))) ≡ []
    by_form k Inc = refl
    by_form k (Dead r) = refl
    by_form k Spill = refl

module _ (file : List ℕ) (p q : Probes) (same : p.counters ≡ q.counters) where
  pub same-names : names_of (main_items file p) ≡ names_of (main_items file q)
  same-names = ap by_appearance (of-main item_names no-item-names file p q same)

  pub same-used : by_appearance (used_names (main_items file p)) ≡ by_appearance (used_names (main_items file q))
  same-used = ap by_appearance (of-main names_used none-used file p q same)
