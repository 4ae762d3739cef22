use Rattle.std.proofs.Common.{◌≡◌, ◌∙◌, ap, length, map}
use Rattle.std.specs.Vec.{with_item, with_items}
use Rattle.std.proofs.lemmas.List.{with_items_is}
use Rattle.rw_machine.specs.Running.{row_written, written_at}
use Rattle.rw_machine.specs.Views.{rows_of}
use Rattle.rw_machine.proofs.Front.{marks-written}
use Rattle.rw_machine.proofs.RowLemmas.{row-set, row-within, lengths-written}
use Rattle.rw_machine.proofs.memory.Memory.write.Given as given
use Rattle.rw_machine.proofs.memory.Memory.write.Goals as goal

written : (g : given.Over) (c : goal.After-without-self g) → map (λ row. row.items) (with_item c.args.self.now.rows c.args.at.region (with_items c.index_mut.result.now c.overwrite-end.new.row)).items ≡ written_at (rows_of c.args.self.now) c.args.at c.args.bytes.now
written g c =
    let e : length c.overwrite-end.new.row ≡ c.index_mut.result.now.len = c.overwrite-end.auto.row ∙ c.deref_mut.ensures.len in
    row-set (λ row. row.items) c.args.self.now.rows.items c.args.at.region c.index_mut.result.now (with_items c.index_mut.result.now c.overwrite-end.new.row)
    (λ row. row_written row c.args.at.offset c.args.bytes.now)
    (row-within (λ row. row.items) c.args.self.now.rows.items c.args.at (length c.args.bytes.now) c.requires) c.index_mut.ensures.value
    (with_items_is c.index_mut.result.now c.overwrite-end.new.row e ∙ c.overwrite-end.ensures.row ∙ ap (λ row. row_written row c.args.at.offset c.args.bytes.now) c.deref_mut.ensures.value)

pub invariant_of-self : goal.invariant_of-self
invariant_of-self g c = record {
  forgotten =
      marks-written c.args.self.now.undefined (rows_of c.args.self.now) _ c.args.at c.args.bytes.now c.overwrite-end.result c.args.self.now.marks c.without-self.result c.args.self.now.forgotten
      c.requires c.overwrite-end.ensures.end c.without-self.ensures (written g c);
}

pub returns-clause-rows : goal.returns-clause-rows
returns-clause-rows g c = written g c.before

pub returns-clause-lengths : goal.returns-clause-lengths
returns-clause-lengths g c =
    ap (map length) (returns-clause-rows g c) ∙ lengths-written (rows_of c.args.self.now) c.args.at c.args.bytes.now c.requires
