use Rattle.std.proofs.Common.{get_or, subst, sym}
use Rattle.std.specs.Prelude.{slice_get}
use Rattle.rw_funcs.specs.declared.function.Function.{Function}
use Rattle.rw_live.specs.NodePaths.{ComputesLiveness}
use Rattle.rw_live.specs.Nodes.{points_in, nodes_in, AreOffsets}
use Rattle.rw_live.specs.Lives.{IsLiveOf}
use Rattle.rw_live.specs.Work.{IsGraph}
use Rattle.rw_live.proofs.LivesMade.{registers-are, flags-are, span-ordered, span-small, that-function}
use Rattle.rw_live.proofs.live.Live.of.Goals as goal

none : Function
none = record { span = record { start = 0; end = 0 }; name = record { at = 0; len = 0 } }

pub offsets-requires-clause-ordered : goal.offsets-requires-clause-ordered
offsets-requires-clause-ordered c = span-ordered c.args.funcs.now c.list.result.now c.args.f _ c.list.ensures.list c.requires

pub offsets-requires-clause-few : goal.offsets-requires-clause-few
offsets-requires-clause-few c = span-small c.args.funcs.now c.list.result.now c.args.f _ c.list.ensures.clean_file c.list.ensures.clean c.list.ensures.list c.requires

pub nodes_of-requires : goal.nodes_of-requires
nodes_of-requires c = record {
  ordered = span-ordered c.args.funcs.now c.list.result.now c.args.f _ c.list.ensures.list c.requires;
  few = span-small c.args.funcs.now c.list.result.now c.args.f _ c.list.ensures.clean_file c.list.ensures.clean c.list.ensures.list c.requires;
  offsets = subst (AreOffsets _ _ _) (sym c.deref.ensures.value) c.in_ok-offsets.ensures;
}

pub live_sets-requires : goal.live_sets-requires
live_sets-requires c = subst IsGraph (sym c.deref-2.ensures.value) c.in_ok-nodes.ensures.graph

pub returns : goal.returns
unfolding none
returns c = λ g there.
    let span = (get_or c.list.result.now c.args.f none).span in
    let computes : ComputesLiveness (nodes_in (points_in c.args.funcs.now span) span.start c.in_ok-offsets.offsets.items) c.in_ok-sets.sets.items =
    subst (λ o. ComputesLiveness (nodes_in (points_in c.args.funcs.now span) span.start o) c.in_ok-sets.sets.items) c.deref.ensures.value
    (subst (λ n. ComputesLiveness n c.in_ok-sets.sets.items) (λ i k. c.in_ok-nodes.ensures.exact k i)
    (subst (λ l. ComputesLiveness (slice_get l) c.in_ok-sets.sets.items) c.deref-2.ensures.value c.in_ok-sets.ensures)) in
    let low = span-ordered c.args.funcs.now c.list.result.now c.args.f none c.list.ensures.list c.requires in
    subst (λ (h : Function). IsLiveOf (points_in c.args.funcs.now h.span) (record { start = span.start; offsets = c.in_ok-offsets.offsets; sets = c.in_ok-sets.sets }))
    (that-function c.args.funcs.now c.list.result.now c.args.f none g c.list.ensures.list there)
    (record {
      ascend = c.in_ok-offsets.ensures.ascend;
      registers = registers-are c.args.funcs.now span c.in_ok-offsets.offsets.items c.in_ok-sets.sets.items low c.in_ok-offsets.ensures c.list.ensures.clean_file c.list.ensures.clean computes;
      flags = flags-are c.args.funcs.now span c.in_ok-offsets.offsets.items c.in_ok-sets.sets.items low c.in_ok-offsets.ensures c.list.ensures.clean_file c.list.ensures.clean computes;
    })
