use Rattle.rw_elf.proofs.Apart.{placed_are_apart}
use Rattle.rw_elf.proofs.Around.{around_result}
use Rattle.rw_elf.proofs.SectionFacts.{around-name}
use Rattle.rw_elf.proofs.Stored.{around_stores}
use Rattle.rw_elf.proofs.elf.Elf.section_around.Goals as goal

pub around-requires : goal.around-requires
around-requires c =
    rw (c.deref.ensures.value, c.self.invariant.section_lists.placed_list) (placed_are_apart c.self.inside.bytes.items c.self.invariant.section_lists.apart)

pub returns-clause-section : goal.returns-clause-section
returns-clause-section c =
    rw (← c.self.view_is)
    (around_result c.self.inside.bytes.items c.args.address c.self.inside.placed.items c.around.result c.self.invariant.section_lists.placed_list (placed_are_apart c.self.inside.bytes.items c.self.invariant.section_lists.apart) (rw (← c.deref.ensures.value) c.around.ensures.some) (rw (← c.deref.ensures.value) c.around.ensures.none))

pub returns-clause-stored : goal.returns-clause-stored
returns-clause-stored c =
    rw (← c.self.view_is)
    (around_stores c.self.inside.bytes.items c.args.address c.self.inside.placed.items c.around.result c.self.invariant.section_lists.placed_list c.self.invariant.section_lists.own (rw (← c.deref.ensures.value) c.around.ensures.some))

pub returns-clause-name : goal.returns-clause-name
returns-clause-name c =
    rw (← c.self.view_is)
    (around-name c.self.inside.bytes.items c.args.address c.around.result c.self.invariant.section_lists.names (around_result c.self.inside.bytes.items c.args.address c.self.inside.placed.items c.around.result c.self.invariant.section_lists.placed_list (placed_are_apart c.self.inside.bytes.items c.self.invariant.section_lists.apart) (rw (← c.deref.ensures.value) c.around.ensures.some) (rw (← c.deref.ensures.value) c.around.ensures.none)))
