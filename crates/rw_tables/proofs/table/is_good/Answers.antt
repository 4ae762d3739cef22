use Rattle.std.proofs.Common.{◌≡◌, true, rules, arith, refl}
use Rattle.rw_tables.specs.Tables.{is_constant}
use Rattle.rw_tables.specs.Known.{count_of}
use Rattle.rw_tables.proofs.KnownMore.{led-first}
use Rattle.rw_tables.proofs.TableFacts.{constant-ends}
use Rattle.rw_tables.proofs.table.is_good.Goals as goal

pub all_lead-requires-clause-fits : goal.all_lead-requires-clause-fits
all_lead-requires-clause-fits c =
    let constant : is_constant c.args.elf.now c.args.table.now ≡ true = search rules in
    constant-ends c.args.elf.now c.args.table.now c.file-file.ensures.clean constant

pub all_lead-requires-clause-first : goal.all_lead-requires-clause-first
all_lead-requires-clause-first c = λ k low.
    let first = c.first_unknown.ensures in
    led-first c.args.elf.now c.args.known.now c.args.table.now.base c.requires.led (count_of c.args.known.now c.args.table.now.base) refl k (omega (arith, first, low))
