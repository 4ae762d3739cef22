use Rattle.std.proofs.Common.{ap, ◌∙◌}
use Rattle.rw_layout.specs.States as states
use Rattle.rw_layout.specs.declared.order.State.TheVariants as is
use Rattle.rw_layout.proofs.order.after_last_label.Goals as goal

pub returns-in-Ins : goal.returns-in-Ins
returns-in-Ins c = λ names. rw c.in-Ins.is (c.next_if.ensures ∙ ap (λ t. states.next_if t (is.Between c.args.entered)) (c.is_int3.ensures names))
