use Rattle.std.proofs.Common.{◌≡◌, ℕ, List, ◌++◌, drop}
use Rattle.std.specs.Io.KnownBytes.{Appends}
use Rattle.rw_probe.specs.Leaders.{leaders_of}
use Rattle.retro.specs.Blocks.{lines_from}
use Rattle.retro.proofs.blocks.write_leaders.Given as goal

abbrev pub invariant-loop-number : goal.invariant-loop-number
invariant-loop-number g l = record {
  same : g.O.Sink.faults l.out ≡ g.O.Sink.faults l.initial.out;
  front : List ℕ;
  written : Appends (g.O.Sink.held l.initial.out) (g.O.Sink.held l.out) front;
  whole : front ++ lines_from l.plan.file l.number (drop l.number (leaders_of l.plan.file l.plan.mode)) (drop l.number l.plan.forms) ≡ lines_from l.plan.file 0 (leaders_of l.plan.file l.plan.mode) l.plan.forms;
}
