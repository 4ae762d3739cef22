use Rattle.std.proofs.Common.{ap, subst, sym, ◌∙◌}
use Rattle.asm_print.specs.Text.{text_of}
use Rattle.rw_out.specs.Items.{Probes, items_with}
use Rattle.rw_out.specs.Kept.{probes_in}
use Rattle.rw_out.specs.Plan.{names_of, plan_items, plan_probes}
use Rattle.rw_out.specs.Positions.{IsWeak}
use Rattle.rw_out.specs.Writing.{WritesOn}
use Rattle.rw_out.proofs.plan.Plan.write_items.Goals as goal

pub write_text-requires-clause-names : goal.write_text-requires-clause-names
write_text-requires-clause-names g c =
    c.self.invariant.names_are ∙ ap (λ (p : Probes). names_of (items_with c.self.inside.picture p)) (ap plan_probes c.self.view_is ∙ sym c.probes-probes.ensures)

pub write_text-requires-clause-weak : goal.write_text-requires-clause-weak
write_text-requires-clause-weak g c =
    subst (IsWeak c.self.inside.picture (probes_in c.probes-probes.result)) (sym c.deref.ensures.value)
    (subst (λ (p : Probes). IsWeak c.self.inside.picture p c.self.inside.weak.items) (ap plan_probes c.self.view_is ∙ sym c.probes-probes.ensures) c.self.invariant.weak_are)

pub returns-clause-bytes : goal.returns-clause-bytes
returns-clause-bytes g c =
    let items = ap (λ (p : Probes). items_with c.self.inside.picture p) (c.probes-probes.ensures ∙ sym (ap plan_probes c.self.view_is)) ∙ ap plan_items c.self.view_is in
    subst (λ xs. WritesOn (g.S.Sink.held c.args.sink.now) (g.S.Sink.held c.write_text.new.sink) 0 c.write_text.result (text_of xs)) items c.write_text.ensures.bytes
