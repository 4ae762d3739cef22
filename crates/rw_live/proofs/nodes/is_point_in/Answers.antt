use Rattle.std.proofs.Common.{sym, ◌∙◌}
use Rattle.rw_funcs.specs.Points.{file_points}
use Rattle.rw_live.proofs.Within.{is-inside, is-outside}
use Rattle.rw_live.proofs.nodes.is_point_in.Goals as goal

pub returns-then-in_span : goal.returns-then-in_span
returns-then-in_span c = c.is_point.ensures ∙ sym (is-inside c.args.span (file_points c.args.funcs.now) c.args.at (sym c.in_span.ensures ∙ c.if-in_span.true))

pub returns-else-in_span : goal.returns-else-in_span
returns-else-in_span c = sym (is-outside c.args.span (file_points c.args.funcs.now) c.args.at (sym c.in_span.ensures ∙ c.if-in_span.false))
