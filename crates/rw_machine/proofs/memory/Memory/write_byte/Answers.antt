use Rattle.std.proofs.Common.{◌≡◌, ◌∙◌, ◌+◌, ◌∷◌, refl, [], ap, length, map}
use Rattle.std.specs.Vec.{with_item}
use Rattle.rw_machine.specs.Running.{row_written, written_at}
use Rattle.rw_machine.specs.Views.{rows_of}
use Rattle.rw_machine.proofs.Front.{marks-written}
use Rattle.rw_machine.proofs.RowLemmas.{item-within, row-set, row-within, one-written, lengths-written}
use Rattle.rw_machine.proofs.memory.Memory.write_byte.Given as given
use Rattle.rw_machine.proofs.memory.Memory.write_byte.Goals as goal

written : (g : given.Over) (c : goal.After-without-self g) → map (λ row. row.items) (with_item c.args.self.now.rows c.args.at.region (with_item c.index_mut-row.result.now c.args.at.offset c.args.b)).items ≡ written_at (rows_of c.args.self.now) c.args.at (c.args.b ∷ [])
written g c =
    row-set (λ row. row.items) c.args.self.now.rows.items c.args.at.region c.index_mut-row.result.now (with_item c.index_mut-row.result.now c.args.at.offset c.args.b)
    (λ row. row_written row c.args.at.offset (c.args.b ∷ []))
    (row-within (λ row. row.items) c.args.self.now.rows.items c.args.at 1 c.requires) c.index_mut-row.ensures.value
    (one-written c.index_mut-row.result.now.items c.args.at.offset c.args.b
    (item-within (λ row. row.items) c.args.self.now.rows.items c.args.at c.index_mut-row.result.now c.index_mut-row.ensures.value c.requires))

pub invariant_of-self : goal.invariant_of-self
invariant_of-self g c = record {
  forgotten =
      marks-written c.args.self.now.undefined (rows_of c.args.self.now) _ c.args.at (c.args.b ∷ []) (c.args.at.offset + 1) c.args.self.now.marks c.without-self.result c.args.self.now.forgotten
      c.requires refl c.without-self.ensures (written g c);
}

pub returns-clause-rows : goal.returns-clause-rows
returns-clause-rows g c = written g c.before

pub returns-clause-lengths : goal.returns-clause-lengths
returns-clause-lengths g c =
    ap (map length) (returns-clause-rows g c) ∙ lengths-written (rows_of c.args.self.now) c.args.at (c.args.b ∷ []) c.requires
