-- The worked text of asm_items is a program, and what the rule gives for it a layout.
use Rattle.std.proofs.Common.{◌≡◌, ◌⊎◌, inl, inr, ℕ, zero, suc, ◌%◌, ◌^◌, ◌<◌, ◌≤◌, Bool, true, false, not, ◌&&◌, ◌||◌, ◌==◌, nat_le, List, [], ◌∷◌, get_or, take, drop, max, Option, Some, None, refl, sym, ap, subst, ◌∙◌, arith, slice_get, Contains}
use Rattle.std.specs.List.{list_all, list_any}
use Rattle.std.specs.Str.{bytes_eq}
use Rattle.std.proofs.lemmas.Bool.{and_parts, eqb-true, leb-true}
use Rattle.std.proofs.lemmas.List.{take-append-drop}
use Rattle.std.proofs.lemmas.List.Sums.{AllPass-from_list_all}
use Rattle.std.proofs.lemmas.Option.{slice_get-get_or}
use Rattle.std.proofs.lemmas.Slice.Eq.{bytes_eq-Decides}
use Rattle.asm_items.specs.declared.item.Sym.{Sym}
use Rattle.asm_items.specs.declared.item.Sym.TheVariants as syms
use Rattle.asm_items.specs.declared.item.Item.{Item}
use Rattle.asm_items.specs.declared.item.Item.TheVariants.{Copy, Label, LongDiff, Name, Tail}
use Rattle.asm_items.specs.declared.item.Label as label_type
use Rattle.asm_items.specs.declared.item.Label.TheVariants as label
use Rattle.asm_items.specs.Example.{example_items}
use Rattle.asm_items.specs.Formed.{is_item}
use Rattle.asm_items.specs.Layout.{IsLayout, Layout}
use Rattle.asm_items.specs.Lines.{Items, counters_size, is_copied, symbols_in, used_names}
use Rattle.asm_items.proofs.LaidByTests.{all_from, test-at}
use Rattle.rw_base.specs.Name.{is_good_name, is_import_name}
use Rattle.rw_layout.specs.Checks.{Definition, Defines, IsDefined, IsMisplaced, IsOversize, Nowhere, PassesLimit, UsesDefined, copies_size, definition_of, sections_size}
use Rattle.rw_layout.specs.ExampleRun.{example_run}
use Rattle.rw_layout.specs.Order.{IsOrdered, counts_name}
use Rattle.rw_layout.specs.Reach.{Distance, IsFar, distance_of, is_in_reach}
use Rattle.rw_layout.specs.Rule.{is_label_line, layout_of, same_label}
use Rattle.rw_layout.specs.RunRegions.{HasRoom, IsSmallProgram, fresh_sizes, run_extents}
use Rattle.rw_layout.specs.Uses.{is_counts_line}
use Rattle.rw_layout.specs.declared.laying.Order.{Order}
use Rattle.rw_layout.specs.declared.laying.Order.TheVariants.{Forward, Reverse}
use Rattle.rw_layout.proofs.NamePlaces.{first-of, is-label, same-own}
use Rattle.rw_layout.proofs.Parted.{taken-ordered}
use Rattle.rw_layout.proofs.RuleLaid.{rule-gives-layouts}
use Rattle.rw_layout.proofs.Used.{contains-at, counts-line}

-- ---- tests for the checks of a program

in-order : (items : Items) → IsOrdered items → Nowhere (IsMisplaced items)
in-order items is p (inl h) = h.1 (drop (suc p) items, subst IsOrdered (sym (take-append-drop (suc p) items)) is)
in-order items is p (inr h) = h.1 is

-- whether two lines define the same
abbrev same_definition : Item (List ℕ) → Item (List ℕ) → Bool
same_definition (Label l) (Label m) = same_label l m
same_definition (Copy name size) (Copy other more) = bytes_eq name other
same_definition _ _ = false

abbrev are_once : Items → Bool
are_once [] = true
are_once (item ∷ items) = not (list_any (same_definition item) items) && are_once items

label-same : (l : label_type.Label) (item : Item (List ℕ)) (d : Definition) → definition_of (Label l) ≡ Some d → definition_of item ≡ Some d → same_definition (Label l) item ≡ true
label-same l (Label m) d e f = let same : l ≡ m = cc in subst (λ z. same_label l z ≡ true) same (same-own l)
label-same l (Copy name size) d e f = cc
label-same l _ d e f = cc

copy-same : (name : List ℕ) (size : ℕ) (item : Item (List ℕ)) (d : Definition) → definition_of (Copy name size) ≡ Some d → definition_of item ≡ Some d → same_definition (Copy name size) item ≡ true
copy-same name size (Copy other more) d e f = let same : name ≡ other = cc in (bytes_eq-Decides name other).1 same
copy-same name size (Label l) d e f = cc
copy-same name size _ d e f = cc

define-same : (item other : Item (List ℕ)) (d : Definition) → definition_of item ≡ Some d → definition_of other ≡ Some d → same_definition item other ≡ true
define-same (Label l) other d e f = label-same l other d e f
define-same (Copy name size) other d e f = copy-same name size other d e f
define-same _ other d e f = cc

none-later : (test : Item (List ℕ) → Bool) (items : Items) (p : ℕ) (item : Item (List ℕ)) → slice_get items p ≡ Some item → test item ≡ true → list_any test items ≡ true
none-later test [] p item e h = cc
none-later test (x ∷ items) zero item e h = let same : x ≡ item = cc in ap (λ t. t || list_any test items) (ap test same ∙ h)
none-later test (x ∷ items) (suc p) item e h = right (test x) _ (none-later test items p item e h)
  where
    right : (a b : Bool) → b ≡ true → (a || b) ≡ true
    right true b e = refl
    right false b e = e

once : (items : Items) → are_once items ≡ true → (q p : ℕ) (d : Definition) → q < p → Defines items q d → Defines items p d → ⊥
once [] h q p d before one other = let none = one.1 in cc
once (x ∷ items) h q zero d before one other = absurd (omega (arith, before))
once (x ∷ items) h zero (suc p) d before one other =
    let first = (and_parts (not (list_any (same_definition x) items)) (are_once items) h).0 in
    let here = one.1 in
    let same : x ≡ one.0 = cc in
    let again = define-same x other.0 d (ap definition_of same ∙ one.2) other.2 in
    let found = none-later (same_definition x) items p other.0 other.1 again in
    let wrong : false ≡ true = sym (ap not found) ∙ first in cc
once (x ∷ items) h (suc q) (suc p) d before one other =
    once items (and_parts (not (list_any (same_definition x) items)) (are_once items) h).1 q p d (omega (arith, before)) (one.0, one.1, one.2) (other.0, other.1, other.2)

abbrev is_defined : Items → Sym (List ℕ) → Bool
is_defined items (syms.Code a) = list_any (is_label_line (label.Code a)) items
is_defined items (syms.Section n o) = list_any (is_label_line (label.Section n)) items
is_defined items (syms.Named name o) = is_copied items name || (o == 0)
is_defined items (syms.Counter k) = list_any is_counts_line items

label-there : (items : Items) (l : label_type.Label) → list_any (is_label_line l) items ≡ true → Contains items (Label l)
label-there items l h =
    let found = first-of (is_label_line l) items h in
    contains-at items _ (Label l) (found.1 ∙ ap Some (is-label l found.0 found.2))

is-defined : (items : Items) (symbol : Sym (List ℕ)) → is_defined items symbol ≡ true → IsDefined items symbol
is-defined items (syms.Code a) h = label-there items (label.Code a) h
is-defined items (syms.Section n o) h = label-there items (label.Section n) h
is-defined items (syms.Counter k) h = let found = first-of is_counts_line items h in contains-at items _ (Name counts_name) (found.1 ∙ ap Some (counts-line found.0 found.2))
is-defined items (syms.Named name o) h = by_copy (is_copied items name) refl h
  where
    by_copy : (t : Bool) → is_copied items name ≡ t → (t || (o == 0)) ≡ true → (is_copied items name ≡ true) ⊎ (o ≡ 0)
    by_copy true e h = inl e
    by_copy false e h = inr (eqb-true o 0 h)

abbrev uses_defined : Items → Item (List ℕ) → Bool
uses_defined items (LongDiff code table) = list_any (is_label_line (label.Code code)) items && list_any (is_label_line (label.Table table)) items
uses_defined items item = list_all (is_defined items) (symbols_in item)

uses-defined : (items : Items) (item : Item (List ℕ)) → uses_defined items item ≡ true → UsesDefined items item
uses-defined items (LongDiff code table) h =
    let both = and_parts (list_any (is_label_line (label.Code code)) items) (list_any (is_label_line (label.Table table)) items) h in
    (label-there items (label.Code code) both.0, label-there items (label.Table table) both.1)
uses-defined items item h = λ k d inside. is-defined items (get_or (symbols_in item) k d) (AllPass-from_list_all (is_defined items) (symbols_in item) h k d inside)

abbrev is_within : Items → Bool
is_within items = nat_le (sections_size items) (2 ^ 30) && (nat_le (copies_size items) (2 ^ 30) && nat_le (counters_size items) (2 ^ 27))

within : (items : Items) → is_within items ≡ true → IsOversize items → ⊥
within items h over =
    let first = and_parts (nat_le (sections_size items) (2 ^ 30)) _ h in
    let rest = and_parts (nat_le (copies_size items) (2 ^ 30)) _ first.1 in
    by_size (leb-true (sections_size items) (2 ^ 30) first.0) (leb-true (copies_size items) (2 ^ 30) rest.0) (leb-true (counters_size items) (2 ^ 27) rest.1) over
  where
    by_size : sections_size items ≤ 2 ^ 30 → copies_size items ≤ 2 ^ 30 → counters_size items ≤ 2 ^ 27 → IsOversize items → ⊥
    by_size a b c (inl h) = omega (arith, a, h)
    by_size a b c (inr (inl h)) = omega (arith, b, h)
    by_size a b c (inr (inr h)) = omega (arith, c, h)

fits : (items : Items) → all_from (λ p item. is_within (take (suc p) items)) 0 items ≡ true → Nowhere (PassesLimit items)
fits items h p passes =
    let here : slice_get items p ≡ Some (get_or items p Tail) = slice_get-get_or items p Tail passes.0 in
    within (take (suc p) items) (test-at (λ p item. is_within (take (suc p) items)) items h p (get_or items p Tail) here) passes.1

-- ---- no distance is out of reach

abbrev is_near : Option Distance → Bool
is_near None = true
is_near (Some d) = is_in_reach d.bytes

none-far : (items : Items) (layout : Layout) → all_from (λ q item. is_near (distance_of items layout q item)) 0 items ≡ true → Nowhere (IsFar items layout)
none-far items layout h q far =
    let d = far.0 in
    let has = far.1 in
    let test = test-at (λ q item. is_near (distance_of items layout q item)) items h q has.0 has.1 in
    let near : is_in_reach d.bytes ≡ true = ap is_near (sym has.2) ∙ test in
    let wrong : false ≡ true = sym (ap not near) ∙ far.2 in cc

-- ---- the worked text

pub example-program : IsSmallProgram example_items
unfolding is_import_name is_good_name
example-program = record {
  program = record {
    ordered = in-order example_items (taken-ordered example_items refl);
    once = λ p again. once example_items refl again.0 p again.1 again.2 again.3 again.4;
    defined = λ p uses. uses.2 (uses-defined example_items uses.0 (test-at (λ q item. uses_defined example_items item) example_items refl p uses.0 uses.1));
    fits = fits example_items refl;
  };
  formed = AllPass-from_list_all is_item example_items refl;
  lines = omega arith;
  units = omega arith;
}

pub example-room : HasRoom example_run
example-room = record {
  stack = omega arith;
  arguments = omega arith;
  fresh_aligned = λ r a e. eqb-true (16 % max 1 a.align) 0 (test-at (λ r a. 16 % max 1 a.align == 0) example_run.fresh refl r a e);
  fresh_size = omega arith;
}

example-near : (order : Order) → all_from (λ q item. is_near (distance_of example_items (layout_of example_items order 32 (fresh_sizes example_run)) q item)) 0 example_items ≡ true
example-near Forward = refl
example-near Reverse = refl

pub example-laid : (order : Order) → IsLayout example_items (run_extents example_items example_run) (used_names example_items) (layout_of example_items order 32 (fresh_sizes example_run))
example-laid order =
    rule-gives-layouts example_items order 32 example_run (used_names example_items) example-program (omega arith) example-room (λ name at. at)
    (none-far example_items (layout_of example_items order 32 (fresh_sizes example_run)) (example-near order))
