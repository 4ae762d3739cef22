use Rattle.std.proofs.Common.{◌≡◌, ◌++◌, replicate}
use Rattle.rw_make.proofs.bytes.put_padded.Given as goal

abbrev pub invariant-loop-zero : goal.invariant-loop-zero
invariant-loop-zero l = l.out.items ≡ l.initial.out.items ++ replicate l._zero 0
