use Rattle.std.proofs.Common.{[], sym, subst, arith}
use Rattle.std.specs.Prelude.{All}
use Rattle.std.proofs.lemmas.Grind.{common_steps}
use Rattle.std.proofs.lemmas.List.Elements.{All-push}
use Rattle.rw_funcs.specs.Found.{HasMarks}
use Rattle.rw_funcs.specs.Notes.{facts_of, no_facts}
use Rattle.rw_funcs.specs.Points.{Point}
use Rattle.rw_funcs.proofs.Parts.{no-notes}
use Rattle.rw_funcs.proofs.code.code_sections.Goals as goal

pub loop-section-preserved : goal.loop-section-preserved
loop-section-preserved c = record {
  list = grind (arith, common_steps);
  stored = grind (arith, common_steps);
  none = subst (All (HasMarks [])) (sym c.in_ok-push.ensures.items)
      (All-push (HasMarks []) c.loop-section.code.items _ c.loop-section.invariant.none
      (record {
        marks = no-notes (λ (p : Point). p.len) 0 _ c.in_ok-marks.marks.items (c.in_ok-marks.ensures.items_if_clones_equal (λ y e. e));
        facts = no-notes (λ (p : Point). facts_of p.insn) no_facts _ c.in_ok-facts.facts.items (c.in_ok-facts.ensures.items_if_clones_equal (λ y e. e));
      }));
}
