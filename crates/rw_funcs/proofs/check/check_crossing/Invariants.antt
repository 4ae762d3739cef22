use Rattle.rw_base.proofs.First.{CleanAmong}
use Rattle.rw_funcs.specs.Functions.{crosses}
use Rattle.rw_funcs.proofs.check.check_crossing.Given as goal

abbrev pub invariant-loop-place : goal.invariant-loop-place
invariant-loop-place l = CleanAmong l.list (crosses l.elf l.list) l.place
