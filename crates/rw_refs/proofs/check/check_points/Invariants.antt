use Rattle.std.proofs.Common.{◌≡◌, ◌-◌, ◌≤◌, length}
use Rattle.rw_refs.proofs.Walk.{first_in}
use Rattle.rw_refs.proofs.check.check_points.Given as goal

abbrev pub invariant-loop-insn : goal.invariant-loop-insn
invariant-loop-insn l = record {
  within : l.at ≤ length l.code;
  same : first_in l.elf l.code l.start l.at ≡ first_in l.elf l.code l.start 0;
}

abbrev pub decreases-loop-insn : goal.decreases-loop-insn
decreases-loop-insn l = length l.code - l.at
