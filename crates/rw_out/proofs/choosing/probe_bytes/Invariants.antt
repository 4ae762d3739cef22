use Rattle.std.proofs.Common.{take}
use Rattle.rw_out.specs.Choosing.{AreBytesOf, IsLiveIn}
use Rattle.rw_out.proofs.choosing.probe_bytes.Given as goal

abbrev pub invariant-loop-leader : goal.invariant-loop-leader
invariant-loop-leader l = record {
  kept : IsLiveIn l.functions l.kept;
  bytes : AreBytesOf l.functions (take l.leader-index l.leaders) l.bytes.items;
}
