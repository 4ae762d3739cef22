use Rattle.rw_out.proofs.Formed.{is-rewritten}
use Rattle.rw_out.proofs.FileLaw.{simulates-file}
use Rattle.rw_out.proofs.laws.simulation.Goals as goal

pub returns : goal.returns
returns c = record { simulates = simulates-file; rewritten = is-rewritten }
