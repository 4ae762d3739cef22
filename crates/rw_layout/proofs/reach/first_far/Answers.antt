use Rattle.std.proofs.Common.{◌≡◌, ℕ, List, ◌+◌, ◌<◌, Bool, true, false, Some, None, refl, sym, ap, ◌∙◌, arith}
use Rattle.std.specs.Prelude.{slice_get, ◌==◌}
use Rattle.std.proofs.lemmas.Option.{slice_get_within}
use Rattle.asm_items.specs.declared.item.Item.{Item}
use Rattle.asm_items.specs.declared.item.NameId.{NameId}
use Rattle.asm_items.specs.declared.item.Sym.{Sym}
use Rattle.rw_layout.specs.Places.{Laid}
use Rattle.rw_layout.specs.Reach.{is_in_reach}
use Rattle.std.proofs.lemmas.Bool.{eqb-true}
use Rattle.std.proofs.lemmas.Bool.Decides.{nat_tests}
use Rattle.rw_layout.specs.Looked.{IsFarLine, distance_in}
use Rattle.rw_layout.proofs.DistanceFacts.{signed-again}
use Rattle.rw_layout.proofs.Lines.{read-at}
use Rattle.rw_layout.proofs.reach.first_far.Goals as goal
use Rattle.rw_layout.proofs.reach.first_far.Goals.{in-Some+else-not-is_in_reach, in_default}

pub returns-then-not-is_in_reach-clause-found : goal.returns-then-not-is_in_reach-clause-found
returns-then-not-is_in_reach-clause-found c =
    let i = c.loop-i.i in
    let item = c.index.result.now in
    let items = c.args.text.now.items.items in
    let far = sym c.is_in_reach.ensures ∙ c.if-not-is_in_reach.true in
    (i, c.in-Some.distance, record { item = item; here = read-at items i item (omega arith) c.index.ensures; has = sym c.distance_of.ensures ∙ c.in-Some.is; far = far }, signed-again c.in-Some.distance c.cast_signed.result far c.cast_signed.ensures, c.loop-i.invariant)

same-item : {A : Type 0} (items : List A) (i p : ℕ) (x y : A) → p ≡ i → slice_get items i ≡ Some x → slice_get items p ≡ Some y → x ≡ y
same-item items i p x y e f g = some_is x y (sym f ∙ ap (slice_get items) (sym e) ∙ g)
  where
    some_is : {A : Type 0} (a b : A) → Some a ≡ Some b → a ≡ b
    some_is a b e = cc

-- the line here has another distance, or none
module _ (laid : Laid) (counters : ℕ) (items : List (Item NameId)) (i : ℕ) (item : Item NameId) (here : slice_get items i ≡ Some item) (before : (p : ℕ) → p < i → IsFarLine laid counters items p → ⊥) where
  none-more : ((s : Sym NameId) (b : ℕ) → distance_in laid counters i item ≡ Some (s, b) → is_in_reach b ≡ false → ⊥) → (p : ℕ) → p < i + 1 → IsFarLine laid counters items p → ⊥
  none-more near p less (s, b, far) = by_place (p == i) refl
    where
      by_place : (t : Bool) → (p == i) ≡ t → ⊥
      by_place true e =
          let at : p ≡ i = eqb-true p i e in
          let same : item ≡ far.item = same-item items i p item far.item at here far.here in
          near s b (ap (distance_in laid counters i) same ∙ ap (λ n. distance_in laid counters n far.item) (sym at) ∙ far.has) far.far
      by_place false e = before p (grind (arith, nat_tests, e, less)) (s, b, far)

one-distance : (a b : Sym NameId × ℕ) → Some a ≡ Some b → a.1 ≡ b.1
one-distance a b e = cc

pub loop-i-preserved : goal.loop-i-preserved
loop-i-preserved c =
    let i = c.loop-i.i in
    let item = c.index.result.now in
    let items = c.args.text.now.items.items in
    let here = read-at items i item (omega arith) c.index.ensures in
    none-more c.args.layout.now c.args.counters items i item here c.loop-i.invariant (λ s b has far.
    elim c.match-distance_of.branch [
      | in-Some+else-not-is_in_reach w ↦
          let near = sym w.is_in_reach.ensures ∙ w.if-not-is_in_reach.false in
          let same : w.in-Some.distance ≡ b = one-distance (w.in-Some.symbol, w.in-Some.distance) (s, b) (sym w.in-Some.is ∙ c.distance_of.ensures ∙ has) in
          let yes : is_in_reach b ≡ true = ap is_in_reach (sym same) ∙ near in cc
      | in_default w ↦
          let none : c.distance_of.result ≡ None = cc in
          let clash : None ≡ Some (s, b) = sym none ∙ c.distance_of.ensures ∙ has in cc
    ])

pub returns-clause-none : goal.returns-clause-none
returns-clause-none c = λ _ p is_far. c.loop-i.invariant p (let within = slice_get_within c.args.text.now.items.items p is_far.2.item is_far.2.here in omega (arith, within, c.len-i-end.ensures, c.loop-i-test.false)) is_far
