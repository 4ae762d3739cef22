use Rattle.std.proofs.Common.{◌≡◌, ◌+◌, ◌-◌, ◌≤◌, ℕ, length}
use Rattle.std.specs.Prelude.{◌||◌}
use Rattle.rw_funcs.specs.Points.{is_one_of}
use Rattle.rw_funcs.proofs.Fuel.{points_in}
use Rattle.rw_probe.specs.Collecting.{begins_by}
use Rattle.rw_probe.proofs.blocks.push_points.Given as goal

-- what is added, and what is still to be added, is all
abbrev pub invariant-loop-insn : goal.invariant-loop-insn
invariant-loop-insn l = record {
  within : l.at ≤ length l.code;
  same : (c : ℕ) → (is_one_of l.list.items c || begins_by l.elf (l.start + length l.code) (points_in l.code l.start l.at) c)
      ≡ (is_one_of l.initial.list.items c || begins_by l.elf (l.start + length l.code) (points_in l.code l.start 0) c);
}

abbrev pub decreases-loop-insn : goal.decreases-loop-insn
decreases-loop-insn l = length l.code - l.at
