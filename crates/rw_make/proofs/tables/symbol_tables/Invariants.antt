use Rattle.std.proofs.Common.{◌≡◌, ◌++◌, drop, length, map}
use Rattle.std.specs.List.{flat_map}
use Rattle.rw_make.specs.Bytes.{zero_ended}
use Rattle.rw_make.specs.Tables.{symbol_entries, symbol_names, symbol_table}
use Rattle.rw_make.proofs.tables.symbol_tables.Given as goal

abbrev pub invariant-loop-symbol : goal.invariant-loop-symbol
invariant-loop-symbol l = record {
  entries : l.entries.items ++ symbol_entries (length l.names.items) (drop l.symbol-index l.symbols) ≡ symbol_table l.symbols;
  names : l.names.items ++ flat_map zero_ended (map (λ s. s.name.items) (drop l.symbol-index l.symbols)) ≡ symbol_names l.symbols;
}
