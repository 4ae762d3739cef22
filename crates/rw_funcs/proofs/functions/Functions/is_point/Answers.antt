use Rattle.std.proofs.Common.{◌==◌, not, sym, ap, ◌∙◌}
use Rattle.rw_funcs.specs.Points.{file_points}
use Rattle.rw_funcs.proofs.PointFacts.{is_point-length}
use Rattle.rw_funcs.proofs.functions.Functions.is_point.Goals as goal

pub returns : goal.returns
returns c = ap (λ n. not (n == 0)) c.length_at.ensures.length ∙ sym (is_point-length (file_points c.args.self.now) c.args.address c.length_at.ensures.lengths)
