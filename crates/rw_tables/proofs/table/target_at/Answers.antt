use Rattle.std.proofs.Common.{◌≡◌, Some, rules}
use Rattle.rw_elf.specs.Places.{bytes_at}
use Rattle.rw_tables.proofs.TableFacts.{word-length}
use Rattle.rw_tables.proofs.table.target_at.Goals as goal

pub word_target-requires : goal.word_target-requires
word_target-requires c =
    let found : bytes_at c.args.elf.now c.args.address 4 ≡ Some c.in_ok-word.word.now = search rules in
    word-length c.args.elf.now c.args.address c.in_ok-word.word.now c.file-file.ensures.clean found
