use Rattle.std.proofs.Common.{◌≡◌, ◌≤◌, ◌^◌, All, take}
use Rattle.rw_base.proofs.First.{CleanAmong}
use Rattle.rw_tables.specs.Tables.{end_of, jump_fault, tables_in}
use Rattle.rw_tables.specs.Known.{AreLed, Knows}
use Rattle.rw_tables.proofs.check.checked_tables.Given as goal

abbrev pub invariant-loop-jump : goal.invariant-loop-jump
invariant-loop-jump l = record {
  clean : CleanAmong l.jumps (jump_fault l.elf l.jumps) l.jump-index;
  known : Knows l.tables.items l.known;
  led : AreLed l.elf l.known;
  tables : l.tables.items ≡ tables_in (take l.jump-index l.jumps);
  low : All (λ t. end_of t ≤ 2 ^ 47) l.tables.items;
}
