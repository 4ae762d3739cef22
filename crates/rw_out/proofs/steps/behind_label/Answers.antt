use Rattle.std.proofs.Common.{◌∷◌, ◌++◌, sym, ap, ◌∙◌}
use Rattle.asm_items.specs.declared.item.Item.TheVariants as items
use Rattle.asm_items.specs.declared.item.Label.TheVariants as label
use Rattle.rw_probe.specs.ProbedPrograms.{is_endbr64}
use Rattle.rw_out.specs.Items.{insn_items, probe_items, with_symbols}
use Rattle.rw_out.specs.Kept.{probes_in}
use Rattle.rw_out.specs.Positions.{points_on}
use Rattle.rw_out.proofs.Rests.{bare_insn, point_next}
use Rattle.rw_out.proofs.steps.behind_label.Goals as goal

pub returns-in-Some : goal.returns-in-Some
returns-in-Some c =
    let file = c.args.picture.now in
    let probes = probes_in c.args.probes.now in
    let k = c.args.k in
    let a = c.args.at in
    let i = c.insn_at-insn.result.0 in
    let next = c.insn_at-insn.result.1 in
    let line = items.Ins (with_symbols file i) in
    record {
      rest = ap (λ xs. items.Label (label.Code a) ∷ xs)
          (c.probed.ensures.rest file probes
          ∙ ap (λ probe. insn_items (is_endbr64 i) line probe ++ points_on file probes k next) (c.first.ensures.all ∙ ap probe_items (sym c.in-Some.is ∙ c.at_near.ensures)))
          ∙ sym (point_next file probes k a i next c.insn_at-insn.ensures.next);
      at = c.probed.ensures.at file c.insn_at-insn.ensures.at c.insn_at-insn.ensures.formed c.first.ensures.line;
    }

pub returns-in-None : goal.returns-in-None
returns-in-None c =
    let file = c.args.picture.now in
    let probes = probes_in c.args.probes.now in
    let k = c.args.k in
    let a = c.args.at in
    let i = c.insn_at-insn.result.0 in
    let next = c.insn_at-insn.result.1 in
    let line = items.Ins (with_symbols file i) in
    record {
      rest = ap (λ xs. items.Label (label.Code a) ∷ (xs ++ points_on file probes k next))
          (sym (bare_insn (is_endbr64 i) line) ∙ ap (λ probe. insn_items (is_endbr64 i) line (probe_items probe)) (sym c.in-None.is ∙ c.at_near.ensures))
          ∙ sym (point_next file probes k a i next c.insn_at-insn.ensures.next);
      at = (c.insn_at-insn.ensures.at, c.insn_at-insn.ensures.formed);
    }
