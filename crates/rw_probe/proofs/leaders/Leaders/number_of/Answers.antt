use Rattle.std.proofs.Common.{◌==◌, sym, ap, subst, ◌∙◌}
use Rattle.std.specs.Prelude.{position}
use Rattle.std.specs.List.Sorted.{IsStrictlyIncreasing}
use Rattle.rw_probe.proofs.Numbering.{number-found, number-none}
use Rattle.rw_probe.proofs.leaders.Leaders.number_of.Goals as goal

pub returns-in-Ok : goal.returns-in-Ok
returns-in-Ok c =
    let ascend = subst IsStrictlyIncreasing (sym c.deref.ensures.value) c.self.invariant.ascend in
    sym (number-found c.deref.result.now c.args.c c.in-Ok.number ascend c.in-Ok.ensures.position) ∙ ap (position (λ leader. leader == c.args.c)) (c.deref.ensures.value ∙ c.self.view_is)

pub returns-in-Err : goal.returns-in-Err
returns-in-Err c =
    let ascend = subst IsStrictlyIncreasing (sym c.deref.ensures.value) c.self.invariant.ascend in
    sym (number-none c.deref.result.now c.args.c c.in-Err.field-0 ascend c.in-Err.ensures.position) ∙ ap (position (λ leader. leader == c.args.c)) (c.deref.ensures.value ∙ c.self.view_is)
