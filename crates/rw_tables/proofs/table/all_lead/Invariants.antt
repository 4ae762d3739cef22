use Rattle.std.proofs.Common.{◌≡◌, ℕ, ◌+◌, ◌*◌, ◌<◌, true}
use Rattle.rw_tables.specs.Tables.{leads}
use Rattle.rw_tables.proofs.table.all_lead.Given as goal

abbrev pub invariant-loop-k : goal.invariant-loop-k
invariant-loop-k l = (j : ℕ) → j < l.k → leads l.elf l.table.base (l.table.base + 4 * j) ≡ true
