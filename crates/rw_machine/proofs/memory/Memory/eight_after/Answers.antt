use Rattle.std.proofs.Common.{[], get_or}
use Rattle.rw_machine.specs.Replying.{stored_rows, stores_of}
use Rattle.rw_machine.specs.Views.{rows_of}
use Rattle.rw_machine.proofs.After.{eight-range}
use Rattle.rw_machine.proofs.RowLemmas.{range-along}
use Rattle.rw_machine.proofs.WritesAll.{stored-lengths}
use Rattle.rw_machine.proofs.memory.Memory.eight_after.Goals as goal

pub returns : goal.returns
returns g c =
    let rows = rows_of c.args.self.now in
    let stores = stores_of c.args.stores.now in
    eight-range (get_or (stored_rows stores rows) c.args.place.region []) c.args.place.offset _
    (range-along rows (stored_rows stores rows) c.args.place 8 (stored-lengths rows stores c.requires.storable) c.requires.there).bytes
    c.byte_after.ensures c.byte_after-2.ensures c.byte_after-3.ensures c.byte_after-4.ensures c.byte_after-5.ensures c.byte_after-6.ensures c.byte_after-7.ensures c.byte_after-8.ensures
