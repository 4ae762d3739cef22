use Rattle.std.proofs.Common.{◌≡◌, ℕ, zero, suc, get_or, arith, rules, refl, sym, ap, subst, ◌∙◌}
use Rattle.std.specs.Prelude.{replicate, slice_get}
use Rattle.std.proofs.lemmas.Option.{slice_get_within}
use Rattle.rw_live.specs.Work.{AreJumps}
use Rattle.rw_live.proofs.NodeLaws.{exact_sets, IsSound-zeros}
use Rattle.rw_live.proofs.graph.live_sets.Goals as goal

zero-at : (n d : ℕ) → ◌≡◌ {A = ℕ} (get_or (replicate n 0) d 0) 0
zero-at zero d = refl
zero-at (suc n) zero = refl
zero-at (suc n) (suc d) = zero-at n d

pub nodes-init : goal.nodes-init
nodes-init c = (
  search rules,
  IsSound-zeros (slice_get c.args.nodes.now) c.in_ok-live.live.items (λ d. ap (λ v. get_or v d 0) (c.in_ok-live.ensures.items_if_clones_equal (λ y e. e)) ∙ zero-at _ d),
  (λ d low absent n at. let within = slice_get_within c.args.nodes.now d n at in absurd (omega (arith, within, low))),
  c.new-work.ensures.items,
)

pub settle-requires-clause-jumps : goal.settle-requires-clause-jumps
settle-requires-clause-jumps c = subst (AreJumps (slice_get c.args.nodes.now)) (sym c.deref.ensures.value) c.in_ok-jumps.ensures

pub returns : goal.returns
returns c = exact_sets (slice_get c.args.nodes.now) c.nodes.live.items c.nodes.invariant.1 (λ d. c.nodes.invariant.2 d (omega arith) refl)
