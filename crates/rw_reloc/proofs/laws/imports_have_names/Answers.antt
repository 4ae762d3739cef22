use Rattle.rw_reloc.proofs.SlotFacts.{import_named, copy_named, copy_some, copy_kept}
use Rattle.rw_reloc.proofs.laws.imports_have_names.Goals as goal

pub returns : goal.returns
returns c = record { import = import_named; copy = copy_named; size = copy_some; kept = copy_kept }
