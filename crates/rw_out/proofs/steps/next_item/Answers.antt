use Rattle.std.proofs.Common.{sym, subst}
use Rattle.rw_out.specs.Kept.{probes_in}
use Rattle.rw_out.specs.Positions.{Goes, rest}
use Rattle.rw_out.specs.declared.position.Position.{Position}
use Rattle.rw_out.proofs.steps.next_item.Goals as goal

pub returns-in-Alignment : goal.returns-in-Alignment
returns-in-Alignment c =
    let probes = probes_in c.args.probes.now in
    subst (λ (p : Position). Goes c.args.picture.now probes (rest c.args.picture.now probes p) c.alignment_step.result) (sym c.in-Alignment.is) (c.alignment_step.ensures probes)

pub returns-in-SectionLabel : goal.returns-in-SectionLabel
returns-in-SectionLabel c =
    let probes = probes_in c.args.probes.now in
    subst (λ (p : Position). Goes c.args.picture.now probes (rest c.args.picture.now probes p) c.section_label_step.result) (sym c.in-SectionLabel.is) (c.section_label_step.ensures probes)

pub returns-in-Line : goal.returns-in-Line
returns-in-Line c =
    let probes = probes_in c.args.probes.now in
    subst (λ (p : Position). Goes c.args.picture.now probes (rest c.args.picture.now probes p) c.line_step.result) (sym c.in-Line.is) (c.line_step.ensures probes)

pub returns-in-Word : goal.returns-in-Word
returns-in-Word c =
    let probes = probes_in c.args.probes.now in
    subst (λ (p : Position). Goes c.args.picture.now probes (rest c.args.picture.now probes p) c.word_step.result) (sym c.in-Word.is) (c.word_step.ensures probes)
