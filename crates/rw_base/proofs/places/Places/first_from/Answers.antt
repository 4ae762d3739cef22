use Rattle.std.proofs.Common.{arith, sym}
use Rattle.std.proofs.lemmas.Grind.{common_steps}
use Rattle.rw_base.specs.Places.{ArePlaces}
use Rattle.rw_base.proofs.PassingPlaces.{first_place-some, first_place-none}
use Rattle.rw_base.proofs.places.Places.first_from.Goals as goal

pub returns-in_err-get-clause-first : goal.returns-in_err-get-clause-first
returns-in_err-get-clause-first g c =
    let are : ArePlaces g.T.ByteTest.test c.args.self.now c.deref.result.now = rw (c.deref.ensures.value, ← c.self.view_is) c.self.invariant in
    rw c.from_residual.ensures (sym (first_place-none g.T.ByteTest.test c.args.self.now c.deref.result.now c.args.at c.args.end c.count_before-next.result are (record { before = c.count_before-next.ensures.before; after = c.count_before-next.ensures.after }) c.requires (λ inside. grind (arith, common_steps))))

pub returns-then-place-end-clause-first : goal.returns-then-place-end-clause-first
returns-then-place-end-clause-first g c =
    let are : ArePlaces g.T.ByteTest.test c.args.self.now c.deref.result.now = rw (c.deref.ensures.value, ← c.self.view_is) c.self.invariant in
    let is = first_place-some g.T.ByteTest.test c.args.self.now c.deref.result.now c.args.at c.args.end c.count_before-next.result are (record { before = c.count_before-next.ensures.before; after = c.count_before-next.ensures.after }) c.requires (grind (arith, common_steps)) (grind (arith, common_steps)) in
    grind (arith, common_steps)

pub returns-else-place-end-clause-first : goal.returns-else-place-end-clause-first
returns-else-place-end-clause-first g c =
    let are : ArePlaces g.T.ByteTest.test c.args.self.now c.deref.result.now = rw (c.deref.ensures.value, ← c.self.view_is) c.self.invariant in
    sym (first_place-none g.T.ByteTest.test c.args.self.now c.deref.result.now c.args.at c.args.end c.count_before-next.result are (record { before = c.count_before-next.ensures.before; after = c.count_before-next.ensures.after }) c.requires (λ inside. grind (arith, common_steps)))
