use Rattle.rw_reloc.proofs.Numbers.{address-names, base-told, bitmap-names}
use Rattle.rw_reloc.proofs.laws.compact_tables_name_words.Goals as goal

pub returns : goal.returns
returns c = record { address = address-names; bitmap = bitmap-names; base = base-told }
