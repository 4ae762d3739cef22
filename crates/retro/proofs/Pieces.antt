-- What is put on a line, piece by piece.
use Rattle.std.proofs.Common.{append_assoc}
use Rattle.asm_print.proofs.Cut.{cut-cut, cut-none}

pub ruleset pieces = (cut-cut, cut-none, append_assoc)
