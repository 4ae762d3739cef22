use Rattle.std.proofs.Common.{sym, subst, ◌∙◌}
use Rattle.std.specs.List.{AllPairs}
use Rattle.rw_reloc.specs.Slots.{EndsBefore}
use Rattle.rw_reloc.proofs.Apart.{clean_entries, slots_apart}
use Rattle.rw_reloc.proofs.Search.{copies_apart, slots_ascend, slots_follow}
use Rattle.rw_reloc.proofs.relocs.Relocs.copy_around.Goals as goal

pub number_around-requires-clause-ascending : goal.number_around-requires-clause-ascending
number_around-requires-clause-ascending c =
    slots_ascend c.deref.result.now
    (subst (AllPairs EndsBefore) (sym (c.deref.ensures.value ∙ c.self.invariant.copies)) (copies_apart c.self.inside.file.value (slots_apart c.self.inside.file.value (clean_entries c.self.inside.file.value c.self.invariant.clean))))

pub number_around-requires-clause-apart : goal.number_around-requires-clause-apart
number_around-requires-clause-apart c =
    slots_follow c.deref.result.now
    (subst (AllPairs EndsBefore) (sym (c.deref.ensures.value ∙ c.self.invariant.copies)) (copies_apart c.self.inside.file.value (slots_apart c.self.inside.file.value (clean_entries c.self.inside.file.value c.self.invariant.clean))))
