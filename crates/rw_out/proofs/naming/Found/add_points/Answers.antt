use Rattle.std.proofs.Common.{refl, sym, ap, ◌∙◌, arith}
use Rattle.std.specs.Prelude.{flat_map}
use Rattle.std.specs.List.{fold}
use Rattle.asm_items.specs.Lines.{used_names}
use Rattle.asm_items.specs.Names.{with_name}
use Rattle.rw_base.specs.declared.span.Span.{Span}
use Rattle.rw_out.specs.Items.{no_probes}
use Rattle.rw_out.specs.Plan.{item_names}
use Rattle.rw_out.specs.Positions.{points_on}
use Rattle.rw_out.proofs.PointNames.{fewer-behind, names-behind, used-behind}
use Rattle.rw_out.proofs.naming.Found.add_points.Goals as goal

pub loop-at-init : goal.loop-at-init
loop-at-init c = record {
  past = c.requires;
  all = λ probes. refl;
  used = λ probes. refl;
  fewer = λ probes. omega arith;
}

pub insn_at-insn-requires-clause-inside : goal.insn_at-insn-requires-clause-inside
insn_at-insn-requires-clause-inside c =
    let end = ap (λ (s : Span). s.end) c.span_of-end.ensures in
    let low = c.loop-at-test.true in
    omega (arith, end, low)

pub loop-at-preserved : goal.loop-at-preserved
loop-at-preserved c =
    let file = c.args.picture.now in
    let k = c.args.k in
    let i = c.insn_at-insn.result.0 in
    let next = c.insn_at-insn.result.1 in
    let there = c.insn_at-insn.ensures.next in
    record {
      past = c.insn_at-insn.ensures.at;
      all = λ probes.
          ap (λ ns. fold with_name ns (flat_map item_names (points_on file probes k next))) c.in_ok-add_insn.ensures.all
          ∙ (names-behind file probes k c.loop-at.at i next there c.loop-at.self.all ∙ c.loop-at.invariant.all probes);
      used = λ probes.
          ap (λ ns. fold with_name ns (used_names (points_on file probes k next))) c.in_ok-add_insn.ensures.used
          ∙ (used-behind file probes k c.loop-at.at i next there c.loop-at.self.used ∙ c.loop-at.invariant.used probes);
      fewer = λ probes.
          let one = fewer-behind file probes k c.loop-at.at i next there in
          let all = c.loop-at.invariant.fewer probes in
          omega (arith, one, all);
    }

pub loop-at-smaller : goal.loop-at-smaller
loop-at-smaller c = fewer-behind c.args.picture.now no_probes c.args.k c.loop-at.at c.insn_at-insn.result.0 c.insn_at-insn.result.1 c.insn_at-insn.ensures.next
