use Rattle.std.proofs.Common.{arith}
use Rattle.asm_read.proofs.Separated.{product_fits}
use Rattle.asm_read.proofs.pieces.number.Goals as goal

pub overflow_mul-next : goal.overflow_mul-next
overflow_mul-next c = omega (arith, product_fits c.from.result c.from-in-loop-byte.result (omega arith) (omega arith))

pub overflow_add-next : goal.overflow_add-next
overflow_add-next c = omega (arith, product_fits c.from.result c.from-in-loop-byte.result (omega arith) (omega arith))
