use Rattle.std.proofs.Common.{sym, subst, ◌∙◌}
use Rattle.std.specs.List.{AllPairs}
use Rattle.rw_reloc.specs.Slots.{EndsBefore}
use Rattle.rw_reloc.proofs.Apart.{clean_entries, slots_apart}
use Rattle.rw_reloc.proofs.Search.{copies_apart}
use Rattle.rw_reloc.proofs.relocs.Relocs.copies.Goals as goal

pub returns-clause-apart : goal.returns-clause-apart
returns-clause-apart c =
    subst (AllPairs EndsBefore) (sym (c.deref.ensures.value ∙ c.self.invariant.copies)) (copies_apart c.self.inside.file.value (slots_apart c.self.inside.file.value (clean_entries c.self.inside.file.value c.self.invariant.clean)))
