use Rattle.std.proofs.Common.{◌≡◌, ◌<◌, ◌+◌, ℕ, Option, Some, None, Contains, sym, ap, ◌∙◌, arith, rules, subst}
use Rattle.std.specs.Prelude.{option_and_then, slice_get}
use Rattle.std.proofs.lemmas.Option.{slice_get_within, slice_get-get_or}
use Rattle.std.proofs.lemmas.List.Sorted.{Contains-permutation, IsNonDecreasingBy-from_sort_by_key}
use Rattle.rw_live.specs.declared.graph.Jump.{Jump}
use Rattle.rw_live.specs.declared.graph.Node.{Node}
use Rattle.rw_live.proofs.Pushing.{listed-one, listed-none}
use Rattle.rw_live.proofs.graph.jumps_of.Goals as goal
use Rattle.rw_live.proofs.graph.jumps_of.Goals.{in-Some+in_ok-push, in_default}

null_node : Node
null_node = record { reads = 0; writes = 0; next = None; jump = None }

pub loop-c-preserved : goal.loop-c-preserved
unfolding null_node
loop-c-preserved c =
    let jump_at : ℕ → Option ℕ = λ k. option_and_then (λ (n : Node). n.jump) (slice_get c.args.nodes.now k) in
    elim c.match-nodes-c.branch [
      | in-Some+in_ok-push w ↦
          subst (λ v. (k d : ℕ) → k < c.loop-c.c + 1 → jump_at k ≡ Some d → Contains v.items (record { from = k; to = d })) (sym w.jumps-is)
          (subst (λ v. (k d : ℕ) → k < c.loop-c.c + 1 → jump_at k ≡ Some d → Contains v (record { from = k; to = d })) (sym w.in_ok-push.ensures.items)
          (listed-one jump_at c.loop-c.jumps.items c.loop-c.c c.loop-c.invariant w.in-Some.to
          (ap (option_and_then (λ (n : Node). n.jump)) (slice_get-get_or c.args.nodes.now c.loop-c.c _ c.loop-c-test.true) ∙ w.in-Some.is)))
      | in_default w ↦
          subst (λ v. (k d : ℕ) → k < c.loop-c.c + 1 → jump_at k ≡ Some d → Contains v.items (record { from = k; to = d })) (sym w.jumps-is)
          (listed-none jump_at c.loop-c.jumps.items c.loop-c.c c.loop-c.invariant
          (ap (option_and_then (λ (n : Node). n.jump)) (slice_get-get_or c.args.nodes.now c.loop-c.c null_node c.loop-c-test.true) ∙ (search rules)))
    ]

pub returns : goal.returns
returns c = record {
  ascend = IsNonDecreasingBy-from_sort_by_key (λ (j : Jump). j.to) _ c.sort_unstable_by_key.ensures.sorted (λ a r q k. search rules);
  all_there = λ k d n at jump.
      let within = slice_get_within c.args.nodes.now k n at in
      Contains-permutation _ _ _ c.sort_unstable_by_key.ensures.permutation (c.loop-c.invariant k d (omega (arith, within)) (ap (option_and_then (λ (m : Node). m.jump)) at ∙ jump));
}
