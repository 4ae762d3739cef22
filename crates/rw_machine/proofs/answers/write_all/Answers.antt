use Rattle.std.proofs.Common.{◌∙◌, length, subst, sym}
use Rattle.rw_machine.specs.Views.{HasRange, rows_of}
use Rattle.rw_machine.proofs.RowLemmas.{range-along}
use Rattle.rw_machine.proofs.WritesAll.{room-at, writes-more, writes-done}
use Rattle.rw_machine.proofs.answers.write_all.Goals as goal

pub write-requires : goal.write-requires
write-requires g c =
    range-along (rows_of c.args.memory.now) (rows_of c.loop-w.memory) c.w-item.result.0 (length c.as_slice.result.now) c.loop-w.invariant.lengths
    (subst (λ bytes. HasRange (rows_of c.args.memory.now) c.w-item.result.0 (length bytes)) (sym c.as_slice.ensures.value)
    (room-at (λ w. (w.0, w.1.items)) (rows_of c.args.memory.now) c.args.writes.now c.loop-w.w-index c.w-item.result c.requires c.loop-w-test.true c.w-item.is))

pub loop-w-preserved : goal.loop-w-preserved
loop-w-preserved g c = record {
  rest = λ ops.
      writes-more ops (λ w. (w.0, w.1.items)) c.args.writes.now c.loop-w.w-index c.w-item.result (rows_of c.loop-w.memory) (rows_of c.write.new.self) c.as_slice.result.now
      c.loop-w-test.true c.w-item.is c.as_slice.ensures.value c.write.ensures.rows
      ∙ c.loop-w.invariant.rest ops;
  lengths = c.write.ensures.lengths ∙ c.loop-w.invariant.lengths;
  undefined = c.write.ensures.undefined ∙ c.loop-w.invariant.undefined;
}

pub returns-clause-rows : goal.returns-clause-rows
returns-clause-rows g c ops =
    writes-done ops (λ w. (w.0, w.1.items)) c.args.writes.now c.loop-w.w-index (rows_of c.loop-w.memory) c.loop-w-test.false ∙ c.loop-w.invariant.rest ops
