use Rattle.std.proofs.Common.{◌+◌, sym, ◌∙◌, subst, arith}
use Rattle.std.specs.Prelude.{IsSome, ◌-◌}
use Rattle.rw_live.specs.Nodes.{nodes_of, points_in}
use Rattle.rw_live.proofs.NodeList.{Lists, lists-more, lists-all, lists-graph, a-node}
use Rattle.rw_live.proofs.nodes.nodes_of.Goals as goal

pub unwrap-requires : goal.unwrap-requires
unwrap-requires c =
    let body = c.args.body.now in
    subst IsSome (sym c.node_at.ensures) (a-node (points_in body.funcs.now body.span) body.span.start (body.span.end - body.span.start) body.offsets.now c.requires.offsets c.loop-c.c c.loop-c-test.true)

pub loop-c-preserved : goal.loop-c-preserved
loop-c-preserved c =
    subst (Lists (nodes_of c.args.body.now) (c.loop-c.c + 1)) (sym c.in_ok-push.ensures.items)
    (lists-more (nodes_of c.args.body.now) c.loop-c.c c.loop-c.nodes.items c.loop-c.invariant c.unwrap.result (sym c.node_at.ensures ∙ c.unwrap.ensures))

pub returns-clause-graph : goal.returns-clause-graph
returns-clause-graph c =
    let body = c.args.body.now in
    lists-graph (points_in body.funcs.now body.span) body.span.start (body.span.end - body.span.start) body.offsets.now c.requires.offsets c.loop-c.c (omega arith) c.loop-c.nodes.items c.loop-c.invariant c.requires.few

pub returns-clause-exact : goal.returns-clause-exact
returns-clause-exact c =
    let body = c.args.body.now in
    lists-all (points_in body.funcs.now body.span) body.span.start (body.span.end - body.span.start) body.offsets.now c.requires.offsets c.loop-c.c (omega arith) c.loop-c.nodes.items c.loop-c.invariant
