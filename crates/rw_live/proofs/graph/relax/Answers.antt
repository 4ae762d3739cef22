use Rattle.std.proofs.Common.{◌<◌, length, refl, arith}
use Rattle.std.specs.Prelude.{slice_get}
use Rattle.std.proofs.lemmas.Option.{slice_get_read}
use Rattle.rw_live.proofs.NodeLaws.{IsSound-set, sum-set_more, closed_here}
use Rattle.rw_live.proofs.WorkLaws.{IsClosedUnder-set}
use Rattle.rw_live.proofs.graph.relax.Goals as goal

pub returns-then-more-set-clause-closed : goal.returns-then-more-set-clause-closed
returns-then-more-set-clause-closed c =
    let here = slice_get_read c.args.nodes.now (length c.args.nodes.now) c.args.c c.in-Some.node.now refl c.in-Some.ensures.lookup.3.0 c.in-Some.ensures.lookup.1 in
    closed_here (slice_get c.args.nodes.now) c.args.live.now c.args.c c.live_before.result c.in-Some.node.now here c.live_before.ensures c.if-more-set.true

pub returns-clause-sound : goal.returns-clause-sound
returns-clause-sound c =
    let within = c.in-Some.ensures.lookup.3.0 in
    let here = slice_get_read c.args.nodes.now (length c.args.nodes.now) c.args.c c.in-Some.node.now refl within c.in-Some.ensures.lookup.1 in
    let in_live : c.args.c < length c.args.live.now = omega (arith, c.requires.same_length, within) in
    IsSound-set (slice_get c.args.nodes.now) c.args.live.now c.args.c c.live_before.result c.in-Some.node.now c.requires.sound in_live here c.live_before.type_inv c.live_before.ensures

pub returns-clause-grown : goal.returns-clause-grown
returns-clause-grown c = λ _.
    let within = c.in-Some.ensures.lookup.3.0 in
    let in_live : c.args.c < length c.args.live.now = omega (arith, c.requires.same_length, within) in
    sum-set_more c.args.live.now c.args.c c.live_before.result in_live c.if-more-set.false

pub returns-clause-closed : goal.returns-clause-closed
returns-clause-closed c =
    let within = c.in-Some.ensures.lookup.3.0 in
    let here = slice_get_read c.args.nodes.now (length c.args.nodes.now) c.args.c c.in-Some.node.now refl within c.in-Some.ensures.lookup.1 in
    let in_live : c.args.c < length c.args.live.now = omega (arith, c.requires.same_length, within) in
    IsClosedUnder-set (slice_get c.args.nodes.now) c.args.live.now c.args.c c.live_before.result c.in-Some.node.now in_live here c.live_before.ensures
