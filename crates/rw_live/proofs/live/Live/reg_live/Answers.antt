use Rattle.std.proofs.Common.{◌≡◌, ◌<◌, true, subst, sym}
use Rattle.std.specs.Prelude.{◌↔◌}
use Rattle.std.specs.List.{AllPairs}
use Rattle.rw_live.specs.Lives.{HasAt}
use Rattle.rw_live.proofs.live.Live.reg_live.Goals as goal

pub returns : goal.returns
returns c = λ points is.
    let has = c.has_at.ensures (subst (AllPairs (λ x y. x < y)) (sym c.deref.ensures.value) is.ascend) in
    let live = c.args.self.now in
    let offsets = subst (λ o. c.has_at.result ≡ true ↔ HasAt o c.deref-2.result.now live.start c.args.c c.code.result) c.deref.ensures.value has in
    let sets = subst (λ s. c.has_at.result ≡ true ↔ HasAt live.offsets.items s live.start c.args.c c.code.result) c.deref-2.ensures.value offsets in
    let element = subst (λ b. c.has_at.result ≡ true ↔ HasAt live.offsets.items live.sets.items live.start c.args.c b) c.code.ensures sets in
    let of = is.registers c.args.c c.args.r in
    (λ k. of.0 (element.0 k), λ k. element.1 (of.1 k))
