use Rattle.std.proofs.Common.{All, sym, subst, ◌∙◌}
use Rattle.rw_elf.specs.Tables.{IsNameIn}
use Rattle.rw_elf.specs.declared.section.Section.{Section}
use Rattle.rw_elf.proofs.SectionFacts.{kept_sections-names}
use Rattle.rw_elf.proofs.elf.Elf.kept.Goals as goal

pub returns-clause-names : goal.returns-clause-names
returns-clause-names c =
    subst (λ b. All (λ (s : Section). IsNameIn b s.name) c.deref.result.now) c.self.view_is
    (subst (All (λ (s : Section). IsNameIn c.self.inside.bytes.items s.name)) (sym (c.deref.ensures.value ∙ c.self.invariant.section_lists.kept_list)) (kept_sections-names c.self.inside.bytes.items c.self.invariant.section_lists.names))
