use Rattle.std.proofs.Common.{◌-◌, true, false, get_or, sym, ap, ◌∙◌, arith}
use Rattle.std.proofs.lemmas.Option.{slice_get-get_or}
use Rattle.std.proofs.lemmas.Bool.{ltb-true, ltb-false}
use Rattle.rw_elf.proofs.Search.{search-none, search-last, search-past}
use Rattle.rw_elf.proofs.ranges.number_around.Goals as goal

pub returns-then-next-eq0 : goal.returns-then-next-eq0
returns-then-next-eq0 g c =
    sym (search-none g.T.Ranged.start_of g.T.Ranged.end_of c.args.items.now c.requires.apart c.args.address c.count_up_to-next.result c.count_up_to-next.ensures (omega arith))

pub passes-requires : goal.passes-requires
passes-requires g c =
    let bound = c.count_up_to-next.ensures.within in
    let low = c.count_up_to-next.ensures.below (c.count_up_to-next.result - 1) (get_or c.args.items.now (c.count_up_to-next.result - 1) c.index-items-next.result) (omega arith) (slice_get-get_or c.args.items.now (c.count_up_to-next.result - 1) c.index-items-next.result (omega arith)) in
    let same = ap g.T.Ranged.start_of c.index-items-next.is in
    omega (arith, low, same)

pub returns-then-passes : goal.returns-then-passes
returns-then-passes g c =
    let same = ap g.T.Ranged.end_of c.index-items-next.is in
    let above = ltb-true c.args.address (g.T.Ranged.end_of c.index-items-next.result) (sym c.passes.ensures ∙ c.if-passes.true) in
    sym (search-last g.T.Ranged.start_of g.T.Ranged.end_of c.args.items.now c.requires.apart c.args.address c.count_up_to-next.result c.count_up_to-next.ensures c.index-items-next.result (omega arith) (omega (arith, same, above)))

pub returns-else-passes : goal.returns-else-passes
returns-else-passes g c =
    let same = ap g.T.Ranged.end_of c.index-items-next.is in
    let past = ltb-false c.args.address (g.T.Ranged.end_of c.index-items-next.result) (sym c.passes.ensures ∙ c.if-passes.false) in
    sym (search-past g.T.Ranged.start_of g.T.Ranged.end_of c.args.items.now c.requires.apart c.args.address c.count_up_to-next.result c.count_up_to-next.ensures c.index-items-next.result (omega arith) (omega (arith, same, past)))
