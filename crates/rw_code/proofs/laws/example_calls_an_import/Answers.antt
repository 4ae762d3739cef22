use Rattle.rw_code.proofs.ImportExample.{first-copy, fits-file, is-placing}
use Rattle.rw_code.proofs.ImportRuns.{answers-lawful, original-calls}
use Rattle.rw_code.proofs.laws.example_calls_an_import.Goals as goal

pub returns : goal.returns
returns c = record { fits = fits-file; placing = is-placing; answers = answers-lawful; copies = first-copy; original = original-calls }
