-- Where addresses lead in a printed program: that of a label to the label, that of a name to the symbol of that name, and that
-- of the end out of the run.
use Rattle.std.proofs.Common.{◌≡◌, ℕ, zero, suc, ◌+◌, ◌%◌, ◌^◌, ◌<◌, List, [], ◌∷◌, length, get_or, drop, Option, Some, None, Bool, true, false, not, ◌&&◌, ◌==◌, refl, sym, ap, subst, ◌∙◌, arith}
use Rattle.std.specs.Prelude.{Contains, slice_get, is_some, cond, Result, Ok, Err}
use Rattle.std.specs.Str.{bytes_eq}
use Rattle.std.proofs.Math.Nat.{mod-eq_of_lt}
use Rattle.std.proofs.lemmas.Bool.{eqb-true, eq-eqb, and_parts}
use Rattle.std.proofs.lemmas.List.{get_or_default}
use Rattle.std.proofs.lemmas.List.Quantifiers.{position-Some}
use Rattle.std.proofs.lemmas.Option.{slice_get-get_or}
use Rattle.std.proofs.lemmas.Slice.Eq.{bytes_eq-Decides}
use Rattle.x86_insn.specs.declared.instruction.Insn.{Insn}
use Rattle.asm_items.specs.declared.item.Item.{Item}
use Rattle.asm_items.specs.declared.item.Item.TheVariants.{Label, Ins}
use Rattle.asm_items.specs.declared.item.Label as label_type
use Rattle.asm_items.specs.declared.item.Label.TheVariants as label
use Rattle.asm_items.specs.declared.item.Sym.{Sym}
use Rattle.asm_items.specs.Lines.{Items, is_copied}
use Rattle.asm_items.specs.Layout.{Extent, Layout, IsLayout, IsOutside, IsOwnName, printed_insn, labels_before}
use Rattle.asm_items.proofs.Laid.{one-insn}
use Rattle.rw_domain.specs.declared.cause.Cause.{Cause}
use Rattle.rw_domain.specs.declared.cause.Cause.TheVariants.{TargetNoPoint}
use Rattle.rw_elf.proofs.Search.{position-none, position-never}
use Rattle.rw_funcs.proofs.Fuel.{drop_drop}
use Rattle.rw_machine.specs.declared.goal.Goal.{Goal}
use Rattle.rw_machine.specs.declared.goal.Goal.TheVariants as goal
use Rattle.rw_runs.proofs.Lists.{get-front}
use Rattle.rw_code.specs.Original.{other_goal}
use Rattle.rw_code.specs.Printed.{is_next_at, place_from, name_at, goal_at, printed}

-- ---- the place of an address

-- behind its labels stands the next instruction
insn_there : (items : Items) (i : Insn (Sym (List ℕ))) → printed_insn items ≡ Some i → slice_get items (labels_before items) ≡ Some (Ins i)
insn_there [] i e = cc
insn_there (Label l ∷ items) i e =
    let more : 1 + labels_before items ≡ suc (labels_before items) = omega arith in
    ap (slice_get (Label l ∷ items)) more ∙ insn_there items i e
insn_there (Ins j ∷ items) i e = let same : j ≡ i = cc in ap (λ x. Some (Ins x)) same
insn_there (_ ∷ items) i e = cc

label_below : (items : Items) (m : ℕ) → m < labels_before items → (l : label_type.Label) × (slice_get items m ≡ Some (Label l))
label_below [] m h = absurd (omega (arith, h))
label_below (Label l ∷ items) zero h = (l, refl)
label_below (Label l ∷ items) (suc m) h = label_below items m (omega (arith, h))
label_below (_ ∷ items) m h = absurd (omega (arith, h))

module _ (address : ℕ → ℕ) (n : ℕ) where
  -- no instruction of these items is at the address
  abbrev NoneAt : Items → ℕ → Type 0
  NoneAt items k = (j : ℕ) (i : Insn (Sym (List ℕ))) → slice_get items j ≡ Some (Ins i) → address (k + j) ≡ n → ⊥

  not_next : (items : Items) (k : ℕ) → ((i : Insn (Sym (List ℕ))) → printed_insn items ≡ Some i → address (k + labels_before items) ≡ n → ⊥) → is_next_at address n k items ≡ false
  not_next items k never = by_insn (printed_insn items) refl
    where
      by_test : (i : Insn (Sym (List ℕ))) → printed_insn items ≡ Some i → (t : Bool) → (address (k + labels_before items) == n) ≡ t → (address (k + labels_before items) == n) ≡ false
      by_test i e false u = u
      by_test i e true u = absurd (never i e (eqb-true (address (k + labels_before items)) n u))

      by_insn : (o : Option (Insn (Sym (List ℕ)))) → printed_insn items ≡ o → (is_some o && address (k + labels_before items) == n) ≡ false
      by_insn None e = refl
      by_insn (Some i) e = by_test i e (address (k + labels_before items) == n) refl

  skip : (item : Item (List ℕ)) (items : Items) (k : ℕ) (o : Option ℕ) → is_next_at address n k (item ∷ items) ≡ false → place_from address n (k + 1) items ≡ o → place_from address n k (item ∷ items) ≡ o
  skip item items k o other rest = ap (λ t. cond t (Some k) (place_from address n (k + 1) items)) other ∙ rest

  none-found : (items : Items) (k : ℕ) → NoneAt items k → place_from address n k items ≡ None
  none-found [] k h = refl
  none-found (item ∷ items) k h =
      skip item items k None
      (not_next (item ∷ items) k (λ i e f. h (labels_before (item ∷ items)) i (insn_there (item ∷ items) i e) f))
      (none-found items (k + 1) (λ j i e f. h (suc j) i e (let more : k + suc j ≡ k + 1 + j = omega arith in ap address more ∙ f)))

  -- the place of a label that no label precedes, where the instruction behind it alone is at the address
  label-found : (q : ℕ) (items : Items) (k : ℕ) (l : label_type.Label) (i : Insn (Sym (List ℕ))) (rest : Items) → drop q items ≡ Label l ∷ Ins i ∷ rest → address (k + (q + 1)) ≡ n
      → ((j : ℕ) (x : Insn (Sym (List ℕ))) → slice_get items j ≡ Some (Ins x) → address (k + j) ≡ n → j ≡ q + 1)
      → ((m : ℕ) (x : label_type.Label) → suc m ≡ q → slice_get items m ≡ Some (Label x) → ⊥)
      → place_from address n k items ≡ Some (k + q)
  label-found zero items k l i rest e there only before =
      let test : (address (k + 1) == n) ≡ true = eq-eqb (address (k + 1)) n there in
      subst (λ xs. place_from address n k xs ≡ Some (k + zero)) (sym e)
      (ap (λ t. cond t (Some k) (place_from address n (k + 1) (Ins i ∷ rest))) test ∙ ap (λ x. Some x) (let z : k ≡ k + zero = omega arith in z))
  label-found (suc q) [] k l i rest e there only before = cc
  label-found (suc q) (item ∷ items) k l i rest e there only before =
      let more : k + 1 + q ≡ k + suc q = omega arith in
      skip item items k (Some (k + suc q))
      (not_next (item ∷ items) k (λ x f g.
      let far : labels_before (item ∷ items) ≡ suc q + 1 = only (labels_before (item ∷ items)) x (insn_there (item ∷ items) x f) g in
      let label_there = label_below (item ∷ items) q (omega (arith, far)) in
      before q label_there.0 refl label_there.1))
      (label-found q items (k + 1) l i rest e (let z : k + 1 + (q + 1) ≡ k + (suc q + 1) = omega arith in ap address z ∙ there)
      (λ j x f g. let far : suc j ≡ suc q + 1 = only (suc j) x f (let z : k + suc j ≡ k + 1 + j = omega arith in ap address z ∙ g) in omega (arith, far))
      (λ m x f g. before (suc m) x (ap suc f) g)
      ∙ ap (λ x. Some x) more)

-- ---- no label of code follows another label

abbrev pub begins_with_code : Items → Bool
begins_with_code [] = false
begins_with_code (Label (label.Code a) ∷ items) = true
begins_with_code (_ ∷ items) = false

abbrev pub are_single : Items → Bool
are_single [] = true
are_single (Label l ∷ items) = not (begins_with_code items) && are_single items
are_single (_ ∷ items) = are_single items

code_begins : (items : Items) (c : ℕ) → slice_get items 0 ≡ Some (Label (label.Code c)) → begins_with_code items ≡ true
code_begins [] c e = cc
code_begins (Label (label.Code a) ∷ items) c e = refl
code_begins (_ ∷ items) c e = cc

no-pair : (items : Items) → are_single items ≡ true → (m : ℕ) (a : label_type.Label) (c : ℕ) → slice_get items m ≡ Some (Label a) → slice_get items (suc m) ≡ Some (Label (label.Code c)) → ⊥
no-pair [] h m a c e f = cc
no-pair (Label l ∷ items) h zero a c e f =
    let first : not (begins_with_code items) ≡ true = (and_parts (not (begins_with_code items)) (are_single items) h).0 in
    let begins : begins_with_code items ≡ true = code_begins items c f in
    let never : not true ≡ true = ap not (sym begins) ∙ first in cc
no-pair (Label l ∷ items) h (suc m) a c e f = no-pair items (and_parts (not (begins_with_code items)) (are_single items) h).1 m a c e f
no-pair (_ ∷ items) h zero a c e f = cc
no-pair (_ ∷ items) h (suc m) a c e f = no-pair items h m a c e f

-- ---- targets

module _ (items : Items) (regions : List Extent) (names : List (List ℕ)) (layout : Layout) (is : IsLayout items regions names layout) where
  abbrev Target : Type 0
  Target = Result (Goal ℕ) Cause

  abbrev target : ℕ → Target
  target n = (printed items names layout).target n

  -- the address of a label is that of the instruction behind it
  pub label-address : (q : ℕ) (l : label_type.Label) (i : Insn (Sym (List ℕ))) (rest : Items) → drop q items ≡ Label l ∷ Ins i ∷ rest → layout.label l ≡ layout.insn (q + 1)
  label-address q l i rest lines =
      is.labels q l i (get-front q items (Ins i ∷ rest) (Label l) lines) (ap printed_insn lines) ∙ ap layout.insn (ap (λ xs. q + labels_before xs) lines)

  pub insn-behind : (q : ℕ) (l : label_type.Label) (i : Insn (Sym (List ℕ))) (rest : Items) → drop q items ≡ Label l ∷ Ins i ∷ rest → slice_get items (q + 1) ≡ Some (Ins i)
  insn-behind q l i rest lines = get-front (q + 1) items rest (Ins i) (sym (drop_drop q 1 items) ∙ ap (λ xs. drop 1 xs) lines)

  -- the label of a point leads to its own place
  pub label-leads : are_single items ≡ true → (q c : ℕ) (i : Insn (Sym (List ℕ))) (rest : Items) → drop q items ≡ Label (label.Code c) ∷ Ins i ∷ rest → target (layout.label (label.Code c) % 2 ^ 64) ≡ Ok (goal.At q)
  label-leads single q c i rest lines =
      let insn_is = insn-behind q (label.Code c) i rest lines in
      let address = label-address q (label.Code c) i rest lines in
      let most = (is.insns_laid.bounds (q + 1) i insn_is).1 in
      let low : layout.label (label.Code c) % 2 ^ 64 ≡ layout.label (label.Code c) = mod-eq_of_lt (omega (arith, address, most)) in
      let label_is : slice_get items q ≡ Some (Label (label.Code c)) = get-front q items (Ins i ∷ rest) (Label (label.Code c)) lines in
      let place : place_from layout.insn (layout.label (label.Code c) % 2 ^ 64) 0 items ≡ Some (0 + q) =
      label-found layout.insn (layout.label (label.Code c) % 2 ^ 64) q items 0 (label.Code c) i rest lines
      ((let z : 0 + (q + 1) ≡ q + 1 = omega arith in ap layout.insn z) ∙ sym address ∙ sym low)
      (λ j x e f. one-insn items regions names layout is j (q + 1) x i e insn_is ((let z : j ≡ 0 + j = omega arith in ap layout.insn z) ∙ f ∙ low ∙ address))
      (λ m x e f. no-pair items single m x c f (ap (slice_get items) e ∙ label_is)) in
      let same : 0 + q ≡ q = omega arith in
      ap (λ o. goal_at layout.finish (layout.label (label.Code c) % 2 ^ 64) o (name_at items names layout (layout.label (label.Code c) % 2 ^ 64))) (place ∙ ap (λ x. Some x) same)

  -- no instruction is at an address outside
  nowhere : (address : ℕ) → IsOutside items regions layout address → place_from layout.insn address 0 items ≡ None
  nowhere address out =
      none-found layout.insn address items 0 (λ j i e f.
      let some = (is.insns_laid.sizes j i e).0 in
      out.off_insns j i e 0 0 (omega arith) (omega (arith, some)) ((let z : address + 0 ≡ address = omega arith in z) ∙ sym f ∙ (let z : layout.insn (0 + j) ≡ layout.insn j + 0 = plus_zero j in z)))
    where
      plus_zero : (j : ℕ) → layout.insn (0 + j) ≡ layout.insn j + 0
      plus_zero j = (let z : 0 + j ≡ j = omega arith in ap layout.insn z) ∙ (let y : layout.insn j ≡ layout.insn j + 0 = omega arith in y)

  abbrev is_named_at : ℕ → List ℕ → Bool
  is_named_at n name = not (is_copied items name) && layout.name name == n

  named-at : (n : ℕ) (name : List ℕ) → is_named_at n name ≡ true → (is_copied items name ≡ false) × (layout.name name ≡ n)
  named-at n name h = (not_true (is_copied items name) (and_parts (not (is_copied items name)) _ h).0, eqb-true (layout.name name) n (and_parts (not (is_copied items name)) _ h).1)
    where
      not_true : (b : Bool) → not b ≡ true → b ≡ false
      not_true true h = cc
      not_true false h = refl

  -- a name leads to the symbol of that name
  abbrev pub IsAtName : List ℕ → Target → Type 0
  IsAtName name o = (j : ℕ) × (o ≡ Ok (goal.Import j)) × (slice_get names j ≡ Some name)

  pub name-leads : (name : List ℕ) → IsOwnName items names name → IsAtName name (target (layout.name name % 2 ^ 64))
  name-leads name own =
      let out = is.names_outside name own in
      let low : layout.name name % 2 ^ 64 ≡ layout.name name = mod-eq_of_lt out.fits in
      subst (λ n. IsAtName name (target n)) (sym low) (subst (λ o. IsAtName name (goal_at layout.finish (layout.name name) o (name_at items names layout (layout.name name)))) (sym (nowhere (layout.name name) out)) (by_place (name_at items names layout (layout.name name)) refl))
    where
      here : is_named_at (layout.name name) name ≡ true
      here = ap (λ t. not t && (layout.name name == layout.name name)) own.1 ∙ eq-eqb (layout.name name) (layout.name name) refl

      by_same : (j : ℕ) (other : List ℕ) → slice_get names j ≡ Some other → Contains names other → is_named_at (layout.name name) other ≡ true → (t : Bool) → bytes_eq other name ≡ t → slice_get names j ≡ Some name
      by_same j other e at h true same = e ∙ ap (λ x. Some x) ((bytes_eq-Decides other name).0 same)
      by_same j other e at h false differ =
          let found = named-at (layout.name name) other h in
          absurd (is.names_apart other name (at, found.0) own (λ same. clash (sym ((bytes_eq-Decides other name).1 same) ∙ differ)) found.1)
        where
          clash : true ≡ false → ⊥
          clash e = cc

      by_place : (o : Option ℕ) → name_at items names layout (layout.name name) ≡ o → IsAtName name (other_goal layout.finish (layout.name name) o)
      by_place (Some j) e =
          let found = position-Some (is_named_at (layout.name name)) names j name e in
          let other = get_or names j name in
          let is : slice_get names j ≡ Some (get_or names j name) = slice_get-get_or names j name found.0 in
          (j, refl, by_same j (get_or names j name) is (j, found.0, get_or_default names j (get_or names j name) name found.0) found.1 (bytes_eq (get_or names j name) name) refl)
      by_place None e =
          let at = own.0 in
          let never = position-never (is_named_at (layout.name name)) names at.0 name e at.1 in
          let never_here : is_named_at (layout.name name) name ≡ false = ap (is_named_at (layout.name name)) (sym at.2) ∙ never in
          absurd (clash (sym here ∙ never_here))
        where
          clash : true ≡ false → ⊥
          clash e = cc

  -- the end leads out of the run
  pub finish-leads : target (layout.finish % 2 ^ 64) ≡ Ok goal.Finish
  finish-leads =
      let low : layout.finish % 2 ^ 64 ≡ layout.finish = mod-eq_of_lt is.finish_outside.fits in
      let none : name_at items names layout layout.finish ≡ None = position-none (is_named_at layout.finish) names unnamed in
      ap target low ∙ ap (λ o. goal_at layout.finish layout.finish o (name_at items names layout layout.finish)) (nowhere layout.finish is.finish_outside)
      ∙ ap (other_goal layout.finish layout.finish) none
      ∙ ap (λ t. cond t (Ok goal.Finish) (Err TargetNoPoint)) (eq-eqb layout.finish layout.finish refl)
    where
      unnamed : (k : ℕ) (d : List ℕ) → k < length names → is_named_at layout.finish (get_or names k d) ≡ false
      unnamed k d low = by_test (is_named_at layout.finish (get_or names k d)) refl
        where
          by_test : (t : Bool) → is_named_at layout.finish (get_or names k d) ≡ t → is_named_at layout.finish (get_or names k d) ≡ false
          by_test false e = e
          by_test true e =
              let found = named-at layout.finish (get_or names k d) e in
              absurd (is.finish_apart (get_or names k d) ((k, low, get_or_default names k (get_or names k d) d low), found.0) found.1)
