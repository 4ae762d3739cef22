use Rattle.std.proofs.Common.{sym, ◌∙◌}
use Rattle.rw_funcs.specs.Points.{file_points}
use Rattle.rw_live.proofs.Within.{insn-inside, insn-outside}
use Rattle.rw_live.proofs.nodes.insn_in.Goals as goal

pub returns-then-in_span : goal.returns-then-in_span
returns-then-in_span c = c.insn_at.ensures ∙ sym (insn-inside c.args.span (file_points c.args.funcs.now) c.args.at (sym c.in_span.ensures ∙ c.if-in_span.true))

pub returns-else-in_span : goal.returns-else-in_span
returns-else-in_span c = sym (insn-outside c.args.span (file_points c.args.funcs.now) c.args.at (sym c.in_span.ensures ∙ c.if-in_span.false))
