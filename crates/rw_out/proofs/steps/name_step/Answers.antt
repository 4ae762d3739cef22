use Rattle.std.proofs.Common.{◌∷◌, sym, ap, subst}
use Rattle.asm_items.specs.declared.item.Item.TheVariants as items
use Rattle.rw_base.specs.declared.span.Span.{Span}
use Rattle.rw_data.proofs.Clean.{each_clean}
use Rattle.rw_out.specs.Items.{start_name}
use Rattle.rw_out.specs.Positions.{IsPast, points_on}
use Rattle.rw_out.proofs.PointsPast.{past_begins}
use Rattle.rw_out.proofs.steps.name_step.Goals as goal

pub returns : goal.returns
returns c = λ probes.
    let file = c.args.picture.now in
    let start = sym (ap (λ (s : Span). s.start) c.span_of.ensures) in (
      ap (λ a. items.Name (start_name file) ∷ points_on file probes c.args.k a) start,
      subst (λ a. IsPast file c.args.k a) start (past_begins file (each_clean file c.elf-elf.ensures.clean) c.args.k c.requires),
      tt,
    )
