use Rattle.std.proofs.Common.{◌≡◌, ◌<◌, ◌≤◌, ◌*◌, ◌-◌, ◌++◌, ◌∷◌, [], length, sum, arith, rules, subst, sym, ◌∙◌, true, suc, ⊎_elim}
use Rattle.std.specs.Prelude.{slice_get}
use Rattle.rw_live.specs.Work.{Covers, IsClosedUnder, has_node}
use Rattle.rw_live.proofs.NodeLaws.{sum-le}
use Rattle.rw_live.proofs.WorkLaws.{Covers-grown, Covers-same}
use Rattle.rw_live.proofs.graph.settle.Goals as goal

pub work-preserved-in-Continue-1 : goal.work-preserved-in-Continue-1
work-preserved-in-Continue-1 c =
    let popped : c.work.work.items ≡ c.pop.new.self.items ++ c.in-Some.c ∷ [] = search rules in
    let covers : Covers (slice_get c.args.nodes.now) c.args.from c.work.live (c.pop.new.self.items ++ c.in-Some.c ∷ []) = subst (λ v. Covers (slice_get c.args.nodes.now) c.args.from c.work.live v) popped c.work.invariant.covers in
    record {
      same_length = c.relax.ensures.only.0 ∙ c.work.invariant.same_length;
      sound = c.relax.ensures.sound;
      covers = Covers-grown (slice_get c.args.nodes.now) c.args.from c.work.live c.relax.new.live c.pop.new.self.items c.push_leaders.new.work.items c.in-Some.c c.in_ok-push_leaders.ensures.kept
          (λ d n low at leads. ⊎_elim
          (λ next.
          let e : c.in-Some.c ≡ suc d = c.requires.graph.next d c.in-Some.c n at next in
          let back : c.in-Some.c - 1 ≡ d = omega (arith, e) in
          subst (λ v. has_node c.push_leaders.new.work.items v ≡ true) back (c.in_ok-push_leaders.ensures.before (omega (arith, e, low))))
          (λ jump. c.in_ok-push_leaders.ensures.added d low (c.requires.jumps.all_there d c.in-Some.c n at jump))
          leads)
          c.relax.ensures.only c.relax.ensures.closed covers;
    }

pub work-smaller-in-Continue-1 : goal.work-smaller-in-Continue-1
work-smaller-in-Continue-1 c =
    let most : sum c.work.live ≤ 4294967296 * length c.work.live = sum-le c.work.live c.work.invariant.sound.fits in
    let same : length c.relax.new.live ≡ length c.work.live = c.relax.ensures.only.0 in
    let grown : sum c.work.live < sum c.relax.new.live = c.relax.ensures.grown c.if-relax.true in
    let short : length c.push_leaders.new.work.items < 18446744073709551616 = omega arith in
    omega (arith, most, same, grown, short)

pub work-preserved : goal.work-preserved
work-preserved c =
    let same : c.relax.new.live ≡ c.work.live = c.relax.ensures.same c.if-relax.false in
    let popped : c.work.work.items ≡ c.pop.new.self.items ++ c.in-Some.c ∷ [] = search rules in
    let covers : Covers (slice_get c.args.nodes.now) c.args.from c.relax.new.live (c.pop.new.self.items ++ c.in-Some.c ∷ []) = subst (λ v. Covers (slice_get c.args.nodes.now) c.args.from v (c.pop.new.self.items ++ c.in-Some.c ∷ [])) (sym same) (subst (λ v. Covers (slice_get c.args.nodes.now) c.args.from c.work.live v) popped c.work.invariant.covers) in
    let closed : IsClosedUnder (slice_get c.args.nodes.now) c.relax.new.live c.relax.new.live c.in-Some.c = subst (λ v. IsClosedUnder (slice_get c.args.nodes.now) v c.relax.new.live c.in-Some.c) (sym same) c.relax.ensures.closed in
    record {
      same_length = c.relax.ensures.only.0 ∙ c.work.invariant.same_length;
      sound = c.relax.ensures.sound;
      covers = Covers-same (slice_get c.args.nodes.now) c.args.from c.relax.new.live c.pop.new.self.items c.in-Some.c closed covers;
    }
