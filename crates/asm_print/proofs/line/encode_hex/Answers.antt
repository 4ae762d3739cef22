use Rattle.std.proofs.Common.{arith}
use Rattle.asm_print.proofs.Hex.{hex_none}
use Rattle.asm_print.proofs.line.encode_hex.Goals as goal

pub loop-i-init : goal.loop-i-init
loop-i-init c = (omega arith, c.told-out, hex_none _ _ c.told-out)
