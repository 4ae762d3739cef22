use Rattle.std.proofs.Common.{arith}
use Rattle.std.proofs.lemmas.Grind.{common_steps}
use Rattle.rw_words.proofs.Bounds.{seven_bytes}
use Rattle.rw_words.proofs.word.+number_from.Goals as goal

pub overflow_mul-result : goal.overflow_mul-result
overflow_mul-result t c =
    let room = seven_bytes _ _ c.in_ok-higher-in-Num.ensures.bound (grind (arith, common_steps)) in omega arith

pub overflow_add-result : goal.overflow_add-result
overflow_add-result t c =
    let room = seven_bytes _ _ c.in_ok-higher-in-Num.ensures.bound (grind (arith, common_steps)) in omega arith
