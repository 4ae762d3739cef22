use Rattle.std.proofs.Common.{◌≡◌, [], ◌∷◌, ◌++◌, rules, arith}
use Rattle.std.proofs.lemmas.Bool.Decides.{nat_tests}
use Rattle.rw_base.proofs.PassingPlaces.{places-other, places-push}
use Rattle.rw_base.proofs.places.passing_places.Goals as goal
use Rattle.rw_base.proofs.places.passing_places.Goals.{then-passes+in_ok-push, else-passes}

pub loop-place-preserved : goal.loop-place-preserved
loop-place-preserved g c =
    elim c.if-passes.branch [
      | then-passes+in_ok-push w ↦
          let pushed = places-push g.T.ByteTest.test c.loop-place.place c.args.bytes.now c.loop-place.list.items c.loop-place.invariant (grind (arith, nat_tests)) in
          let same : c.if-passes.list.items ≡ c.loop-place.list.items ++ c.loop-place.place ∷ [] = search rules in
          rw same pushed
      | else-passes w ↦
          let kept = places-other g.T.ByteTest.test c.loop-place.place c.args.bytes.now c.loop-place.list.items c.loop-place.invariant (grind (arith, nat_tests)) in
          let same : c.if-passes.list.items ≡ c.loop-place.list.items = search rules in
          rw same kept
    ]
