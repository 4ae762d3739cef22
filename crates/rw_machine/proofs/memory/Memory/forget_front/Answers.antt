use Rattle.std.proofs.Common.{◌≡◌, ◌∙◌, ◌+◌, [], ap, List, length, map, set, get_or, subst, sym, take, replicate}
use Rattle.std.specs.Vec.{with_item, with_items}
use Rattle.rw_domain.specs.declared.place.Place.{Place}
use Rattle.std.proofs.lemmas.List.{with_items_is}
use Rattle.rw_machine.specs.Rows.{front_replaced, AreMarked}
use Rattle.rw_machine.specs.Views.{rows_of, HasRange}
use Rattle.rw_machine.proofs.Front.{marks-within, marks-first}
use Rattle.rw_machine.proofs.RowLemmas.{row-item, row-set, row-within, lengths-front}
use Rattle.rw_machine.proofs.memory.Memory.forget_front.Given as given
use Rattle.rw_machine.proofs.memory.Memory.forget_front.Goals as goal

-- the row that is forgotten, among the rows
row-found : {X C : Type 0} (f : X → List C) (rows : List X) (place : Place) (v : X) (row : List C) → HasRange (map f rows) place 1 → v ≡ get_or rows place.region v → row ≡ f v → row ≡ get_or (map f rows) place.region []
row-found f rows place v row h at e = e ∙ row-item f rows place.region v (row-within f rows place 1 h) at

replaced : (g : given.Over) (c : goal.After-first-self g) → map (λ row. row.items) (with_item c.args.self.now.rows c.args.up_to.region (with_items c.index_mut-row.result.now c.forget_row-known.new.row)).items
    ≡ set (rows_of c.args.self.now) c.args.up_to.region (front_replaced (get_or (rows_of c.args.self.now) c.args.up_to.region []) (c.args.up_to.offset + 1) c.args.self.now.undefined)
replaced g c =
    let e : length c.forget_row-known.new.row ≡ c.index_mut-row.result.now.len = c.forget_row-known.auto.row ∙ c.deref_mut.ensures.len in
    row-set (λ row. row.items) c.args.self.now.rows.items c.args.up_to.region c.index_mut-row.result.now (with_items c.index_mut-row.result.now c.forget_row-known.new.row)
    (λ row. front_replaced row (c.args.up_to.offset + 1) c.args.self.now.undefined)
    (row-within (λ row. row.items) c.args.self.now.rows.items c.args.up_to 1 c.requires) c.index_mut-row.ensures.value
    (with_items_is c.index_mut-row.result.now c.forget_row-known.new.row e ∙ c.forget_row-known.ensures.row ∙ ap (λ row. front_replaced row (c.args.up_to.offset + 1) c.args.self.now.undefined) c.deref_mut.ensures.value)

pub invariant_of-self : goal.invariant_of-self
invariant_of-self g c =
    let memory = c.args.self.now in
    let place = c.args.up_to in
    let row = front_replaced (get_or (rows_of memory) place.region []) (place.offset + 1) memory.undefined in
    let found : c.deref_mut.result.now ≡ get_or (rows_of memory) place.region [] = row-found (λ row. row.items) memory.rows.items place c.index_mut-row.result.now c.deref_mut.result.now c.requires c.index_mut-row.ensures.value c.deref_mut.ensures.value in
    let forgotten : c.forget_row-known.new.row ≡ row = c.forget_row-known.ensures.row ∙ ap (λ row. front_replaced row (place.offset + 1) memory.undefined) found in
    record {
      forgotten =
          rw c.first-self.ensures
          (marks-first memory.undefined (rows_of memory) _ place.region c.forget_row-known.result row c.requires.region (replaced g c)
          (subst (λ row. take c.forget_row-known.result row ≡ replicate c.forget_row-known.result memory.undefined) forgotten c.forget_row-known.ensures.known));
    }

pub forget_row-known-requires-clause-marked : goal.forget_row-known-requires-clause-marked
forget_row-known-requires-clause-marked g c =
    let memory = c.args.self.now in
    subst (λ row. AreMarked memory.undefined row c.within-marks.result)
    (sym (row-found (λ row. row.items) memory.rows.items c.args.up_to c.index_mut-row.result.now c.deref_mut.result.now c.requires c.index_mut-row.ensures.value c.deref_mut.ensures.value))
    (marks-within memory.undefined (rows_of memory) memory.marks c.within-marks.result c.args.up_to.region memory.forgotten c.within-marks.ensures)

pub returns-clause-rows : goal.returns-clause-rows
returns-clause-rows g c = replaced g c.before

pub returns-clause-lengths : goal.returns-clause-lengths
returns-clause-lengths g c =
    ap (map length) (returns-clause-rows g c) ∙ lengths-front (rows_of c.args.self.now) c.args.up_to.region (c.args.up_to.offset + 1) c.args.self.now.undefined
