use Rattle.std.proofs.Common.{◌∙◌}
use Rattle.rw_reloc.proofs.KeptSections.{kept_numbered}
use Rattle.rw_reloc.proofs.kept.is_kept_at.Goals as goal

pub returns : goal.returns
returns c = c.is_some.ensures ∙ kept_numbered c.args.elf.now c.args.address c.kept_around.result c.file-file.ensures.clean c.kept_around.ensures
