use Rattle.std.proofs.Common.{sym, subst, ◌∙◌}
use Rattle.std.specs.List.{AllPairs}
use Rattle.rw_reloc.specs.Slots.{EndsBefore}
use Rattle.rw_reloc.proofs.Apart.{clean_entries, slots_apart}
use Rattle.rw_reloc.proofs.relocs.Relocs.slot_around.Goals as goal

pub around-requires : goal.around-requires
around-requires c =
    subst (AllPairs EndsBefore) (sym (c.deref.ensures.value ∙ c.self.invariant.list)) (slots_apart c.self.inside.file.value (clean_entries c.self.inside.file.value c.self.invariant.clean))
