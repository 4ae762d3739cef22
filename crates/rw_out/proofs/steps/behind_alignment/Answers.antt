use Rattle.std.proofs.Common.{sym, ap, subst}
use Rattle.rw_base.specs.declared.span.Span.{Span}
use Rattle.rw_data.proofs.Clean.{each_clean}
use Rattle.rw_out.specs.Positions.{IsPast}
use Rattle.rw_out.proofs.PointsPast.{past_begins}
use Rattle.rw_out.proofs.steps.behind_alignment.Goals as goal

pub returns-else-start-entry-clause-at : goal.returns-else-start-entry-clause-at
returns-else-start-entry-clause-at c =
    let file = c.args.picture.now in
    subst (λ a. IsPast file c.args.k a) (sym (ap (λ (s : Span). s.start) c.span_of-start.ensures)) (past_begins file (each_clean file c.elf-elf.ensures.clean) c.args.k c.requires)
