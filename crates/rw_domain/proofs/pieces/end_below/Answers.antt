use Rattle.std.proofs.Common.{◌≡◌, get_or, ap, ◌∙◌, arith, inl, inr}
use Rattle.std.specs.Prelude.{slice_index}
use Rattle.std.proofs.lemmas.Bool.{cases_lt}
use Rattle.std.proofs.lemmas.Option.{slice_get_within, get_or_from_slice_get}
use Rattle.rw_domain.proofs.PlaceLemmas.{null_region}
use Rattle.rw_domain.proofs.pieces.end_below.Goals as goal

pub loop-number-preserved : goal.loop-number-preserved
loop-number-preserved c = λ r region low at.
    elim (cases_lt r c.loop-number.number) [
      | inl before ↦ c.loop-number.invariant r region before at
      | inr up ↦
          let same : c.loop-number.number ≡ r = omega (arith, low, up) in
          let is : get_or c.args.regions.now c.loop-number.number null_region ≡ region = ap (λ i. get_or c.args.regions.now i null_region) same ∙ get_or_from_slice_get c.args.regions.now r region null_region at in
          let size = ap (λ a. a.size) is in
          let base = ap (slice_index c.args.bases.now) same in
          let below = c.if-bases-number.false in
          omega (arith, size, base, below)
    ]

pub returns : goal.returns
returns c = λ _ r region at. c.loop-number.invariant r region (let z = slice_get_within c.args.regions.now r region at in omega (arith, z)) at
