use Rattle.std.proofs.Common.{subst}
use Rattle.rw_machine.specs.Due.{FitRows}
use Rattle.rw_machine.specs.Views.{rows_of, dues_of}
use Rattle.rw_machine.proofs.DueOf.{placed-along}
use Rattle.rw_machine.proofs.stores.write_all_due.Goals as goal

pub write_due-requires-in-Two-2-clause-placed : goal.write_due-requires-in-Two-2-clause-placed
write_due-requires-in-Two-2-clause-placed g c =
    let rows = rows_of c.args.memory.now in
    let placed = subst (λ dues. FitRows rows (dues_of dues)) c.in-Two.is c.requires.placed in
    placed-along rows (rows_of c.write_due-in-Two.new.memory) c.in-Two.second c.write_due-in-Two.ensures.lengths placed.1.0
