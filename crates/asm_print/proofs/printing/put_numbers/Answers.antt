use Rattle.std.proofs.Common.{◌≡◌, ◌-◌, ◌≤◌, arith, length, drop, take}
use Rattle.std.proofs.lemmas.List.{take_all, length-drop}
use Rattle.asm_print.proofs.Cut.{cut-then, numbers_text-first}
use Rattle.asm_print.proofs.printing.put_numbers.Goals as goal

pub returns-then-bytes-gt0 : goal.returns-then-bytes-gt0
returns-then-bytes-gt0 c =
    let bytes = c.args.bytes.now in
    let long : 1 ≤ length bytes = omega arith in
    let rest : take (length bytes - 1) (drop 1 bytes) ≡ drop 1 bytes = take_all _ _ (omega (arith, length-drop 1 bytes)) in
    rw (numbers_text-first bytes long) (cut-then _ _ _ _ _ (rw c.from.ensures at c.put_decimal.ensures) (rw rest at c.put_more_numbers.ensures))
