use Rattle.rw_live.specs.Nodes.{nodes_of}
use Rattle.rw_live.proofs.NodeList.{Lists}
use Rattle.rw_live.proofs.nodes.nodes_of.Given as goal

abbrev pub invariant-loop-c : goal.invariant-loop-c
invariant-loop-c l = Lists (nodes_of l.body) l.c l.nodes.items
