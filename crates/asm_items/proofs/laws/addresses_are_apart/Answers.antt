use Rattle.asm_items.proofs.Laid.{one-insn, no-byte, no-insn, one-copy}
use Rattle.asm_items.proofs.laws.addresses_are_apart.Goals as goal

pub returns-clause-insns : goal.returns-clause-insns
returns-clause-insns c = one-insn

pub returns-clause-names : goal.returns-clause-names
returns-clause-names c = no-byte

pub returns-clause-outside : goal.returns-clause-outside
returns-clause-outside c = no-insn

pub returns-clause-copies : goal.returns-clause-copies
returns-clause-copies c = one-copy
