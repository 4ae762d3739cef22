use Rattle.rw_tables.specs.Entries.{AddsWords}
use Rattle.rw_tables.proofs.KnownFacts.{made}
use Rattle.rw_tables.proofs.entries.add_words.Given as goal

abbrev pub invariant-loop-k : goal.invariant-loop-k
invariant-loop-k l = AddsWords l.elf (made l.table.base l.k) l.initial.entries l.entries
