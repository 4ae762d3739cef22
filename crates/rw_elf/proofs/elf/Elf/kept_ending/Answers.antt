use Rattle.std.proofs.Common.{◌≡◌, ◌<◌, Some, All, sym, subst, ◌∙◌, arith}
use Rattle.std.specs.List.{position}
use Rattle.rw_elf.specs.Places.{AreApart, ends_at}
use Rattle.rw_elf.specs.declared.section.Section.{Section}
use Rattle.rw_elf.proofs.KeptPlaces.{kept_apart, kept_some, number_fits}
use Rattle.rw_elf.proofs.elf.Elf.kept_ending.Goals as goal

pub ending-requires-clause-apart : goal.ending-requires-clause-apart
ending-requires-clause-apart c = subst AreApart (sym (c.deref.ensures.value ∙ c.self.invariant.section_lists.kept_list)) (kept_apart c.self.inside.bytes.items c.self.invariant.clean)

pub ending-requires-clause-some : goal.ending-requires-clause-some
ending-requires-clause-some c = subst (All (λ (s : Section). 0 < s.size)) (sym (c.deref.ensures.value ∙ c.self.invariant.section_lists.kept_list)) (kept_some c.self.inside.bytes.items)

pub overflow_cast-result : goal.overflow_cast-result
overflow_cast-result c =
    let found : position (ends_at c.args.address) c.deref.result.now ≡ Some c.in_ok-number.number = sym c.ending.ensures ∙ c.in_ok-number.was in
    let low = number_fits c.self.inside.bytes.items (ends_at c.args.address) c.in_ok-number.number c.self.invariant.clean
    (subst (λ list. position (ends_at c.args.address) list ≡ Some c.in_ok-number.number) (c.deref.ensures.value ∙ c.self.invariant.section_lists.kept_list) found)
    in
    omega (arith, low)
