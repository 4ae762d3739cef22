use Rattle.std.proofs.Common.{length, refl, sym, ◌∙◌, arith}
use Rattle.std.proofs.lemmas.Option.{slice_get_read}
use Rattle.rw_live.proofs.Offsets.{number-low, number-at, not-falling, search-past, search-other}
use Rattle.rw_live.proofs.nodes.place_of.Goals as goal

pub returns-then-at-start : goal.returns-then-at-start
returns-then-at-start c = λ ascend. sym (number-low c.args.start c.args.offsets.now c.args.at (omega arith))

pub returns-in_err-get : goal.returns-in_err-get
returns-in_err-get c = λ ascend.
    let counts = c.count_below-next.ensures.counts (not-falling c.args.start c.args.offsets.now ascend) in
    c.from_residual.ensures ∙ sym (search-past c.args.start c.args.offsets.now ascend c.args.at c.count_below-next.result (omega arith) counts c.in_err-get.ensures.lookup.3)

pub returns-then-found-at : goal.returns-then-found-at
returns-then-found-at c = λ ascend.
    let found = c.in_ok-get.field-0.now in
    let here = slice_get_read c.args.offsets.now (length c.args.offsets.now) c.count_below-next.result found refl c.in_ok-get.ensures.lookup.3.0 c.in_ok-get.ensures.lookup.1 in
    sym (number-at c.args.start c.args.offsets.now ascend c.args.at c.count_below-next.result found here (omega arith))

pub returns-else-found-at : goal.returns-else-found-at
returns-else-found-at c = λ ascend.
    let found = c.in_ok-get.field-0.now in
    let counts = c.count_below-next.ensures.counts (not-falling c.args.start c.args.offsets.now ascend) in
    let here = slice_get_read c.args.offsets.now (length c.args.offsets.now) c.count_below-next.result found refl c.in_ok-get.ensures.lookup.3.0 c.in_ok-get.ensures.lookup.1 in
    sym (search-other c.args.start c.args.offsets.now ascend c.args.at c.count_below-next.result (omega arith) counts found here (λ e. c.if-found-at.false (c.from-found.ensures ∙ e)))
