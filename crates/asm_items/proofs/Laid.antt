-- What has addresses of its own in a layout, and the layout of the example.
use Rattle.std.proofs.Common.{◌≡◌, ◌≢◌, ℕ, ◌+◌, ◌<◌, ◌≤◌, List, Some, Bool, true, false, nat_eq, refl, sym, ap, ◌∙◌, arith}
use Rattle.std.specs.Prelude.{slice_get}
use Rattle.std.proofs.lemmas.Bool.{eqb-true, eqb-false}
use Rattle.x86_insn.specs.declared.instruction.Insn.{Insn}
use Rattle.asm_items.specs.declared.item.Item.TheVariants.{Ins}
use Rattle.asm_items.specs.declared.item.Sym.{Sym}
use Rattle.asm_items.specs.Lines.{Items, copies_of, copies_number}
use Rattle.asm_items.specs.Layout.{Layout, Extent, IsLayout, IsOwnName}
use Rattle.asm_items.specs.Example.{example_items, example_regions, example_names, example_layout}
use Rattle.asm_items.proofs.LaidByTests.{laid-by-tests}

module _ (items : Items) (regions : List Extent) (names : List (List ℕ)) (layout : Layout) (is : IsLayout items regions names layout) where
  -- two instructions have two addresses
  pub one-insn : (q p : ℕ) (i j : Insn (Sym (List ℕ))) → slice_get items q ≡ Some (Ins i) → slice_get items p ≡ Some (Ins j) → layout.insn q ≡ layout.insn p → q ≡ p
  one-insn q p i j e f same = by_test (nat_eq q p) refl
    where
      by_test : (t : Bool) → nat_eq q p ≡ t → q ≡ p
      by_test true u = eqb-true q p u
      by_test false u =
          let some = (is.insns_laid.sizes q i e).0 in
          let more = (is.insns_laid.sizes p j f).0 in
          absurd (is.insns_laid.apart q p i j (eqb-false q p u) e f 0 0 (omega (arith, some)) (omega (arith, more)) (omega (arith, same)))

  pub no-byte : (name : List ℕ) → IsOwnName items names name → (r o : ℕ) (a : Extent) → slice_get regions r ≡ Some a → o < a.size → layout.name name ≢ layout.region r + o
  no-byte name own r o a e inside same = (is.names_outside name own).off_regions r a e 0 o (omega arith) inside (omega (arith, same))

  pub no-insn : (name : List ℕ) → IsOwnName items names name → (q : ℕ) (i : Insn (Sym (List ℕ))) → slice_get items q ≡ Some (Ins i) → layout.name name ≢ layout.insn q
  no-insn name own q i e same = let some = (is.insns_laid.sizes q i e).0 in (is.names_outside name own).off_insns q i e 0 0 (omega arith) (omega (arith, some)) (omega (arith, same))

  -- two copies have two names
  pub one-copy : (k m : ℕ) (one other : List ℕ × ℕ) (a b : Extent) → slice_get (copies_of items) k ≡ Some one → slice_get (copies_of items) m ≡ Some other
      → slice_get regions (copies_number items + k) ≡ Some a → slice_get regions (copies_number items + m) ≡ Some b → 1 ≤ a.size → 1 ≤ b.size → k ≢ m → one.0 ≢ other.0
  one-copy k m one other a b e f g h some more apart same =
      let bases : layout.region (copies_number items + k) ≡ layout.region (copies_number items + m) = sym (is.copies k one e) ∙ ap layout.name same ∙ is.copies m other f in
      let numbers : copies_number items + k ≢ copies_number items + m = λ z. apart (omega (arith, z)) in
      is.regions_laid.apart (copies_number items + k) (copies_number items + m) a b numbers g h 0 0 (omega (arith, some)) (omega (arith, more)) (omega (arith, bases))

pub example-laid : IsLayout example_items example_regions example_names example_layout
example-laid = laid-by-tests example_items example_regions example_names example_layout refl
