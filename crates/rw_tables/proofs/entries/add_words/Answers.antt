use Rattle.std.proofs.Common.{subst, arith}
use Rattle.rw_tables.specs.Entries.{AddsWords, entry_in}
use Rattle.rw_tables.proofs.EntryFacts.{no-word, words-more}
use Rattle.rw_tables.proofs.KnownFacts.{made}
use Rattle.rw_tables.proofs.entries.add_words.Goals as goal

pub loop-k-init : goal.loop-k-init
loop-k-init c = λ q. no-word c.args.elf.now c.args.table.now.base q (entry_in c.args.entries.now q)

pub loop-k-preserved : goal.loop-k-preserved
loop-k-preserved c = words-more c.args.elf.now c.args.table.now.base c.loop-k.k c.args.entries.now c.loop-k.entries c.add_word.new.entries c.loop-k.invariant c.in_ok-add_word.ensures

pub returns : goal.returns
returns c = subst (λ n. AddsWords c.args.elf.now (made c.args.table.now.base n) c.args.entries.now c.loop-k.entries) (omega arith) c.loop-k.invariant
