use Rattle.rw_code.proofs.Example.{is-start, is-placing, fits-file}
use Rattle.rw_code.proofs.ExampleRuns.{answers-lawful, original-exits}
use Rattle.rw_code.proofs.laws.example_exits.Goals as goal

pub returns : goal.returns
returns c = record { start = is-start; fits = fits-file; placing = is-placing; answers = answers-lawful; original = original-exits }
