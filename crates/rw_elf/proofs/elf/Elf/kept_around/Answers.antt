use Rattle.std.proofs.Common.{◌≡◌, Some, sym, subst, ◌∙◌, arith}
use Rattle.std.specs.List.{AllPairs, position}
use Rattle.std.specs.List.Sorted.{IsNonDecreasingBy}
use Rattle.rw_elf.specs.Places.{EndsBefore, spans}
use Rattle.rw_elf.specs.declared.section.Section.{Section}
use Rattle.rw_elf.proofs.Clean.{kept_pairs}
use Rattle.rw_elf.proofs.KeptPlaces.{kept_ascend, number_fits}
use Rattle.rw_elf.proofs.elf.Elf.kept_around.Goals as goal

pub number_around-requires-clause-ascending : goal.number_around-requires-clause-ascending
number_around-requires-clause-ascending c =
    subst (IsNonDecreasingBy (λ (s : Section). s.addr)) (sym (c.deref.ensures.value ∙ c.self.invariant.section_lists.kept_list)) (kept_ascend c.self.inside.bytes.items c.self.invariant.clean)

pub number_around-requires-clause-apart : goal.number_around-requires-clause-apart
number_around-requires-clause-apart c =
    subst (AllPairs EndsBefore) (sym (c.deref.ensures.value ∙ c.self.invariant.section_lists.kept_list)) (kept_pairs c.self.inside.bytes.items c.self.invariant.clean)

pub overflow_cast-result : goal.overflow_cast-result
overflow_cast-result c =
    let found : position (spans c.args.address) c.deref.result.now ≡ Some c.in_ok-number.number = sym c.number_around.ensures ∙ c.in_ok-number.was in
    let low = number_fits c.self.inside.bytes.items (spans c.args.address) c.in_ok-number.number c.self.invariant.clean
    (subst (λ list. position (spans c.args.address) list ≡ Some c.in_ok-number.number) (c.deref.ensures.value ∙ c.self.invariant.section_lists.kept_list) found)
    in
    omega (arith, low)
