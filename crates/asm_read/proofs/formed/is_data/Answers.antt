use Rattle.std.proofs.Common.{rules, ◌≡◌, true, arith}
use Rattle.std.specs.List.{list_all}
use Rattle.asm_items.specs.Formed.{is_byte}
use Rattle.asm_read.proofs.FormedInsn.{all-bytes}
use Rattle.asm_read.proofs.formed.is_data.Goals as goal

pub returns-then-bytes-ge1 : goal.returns-then-bytes-ge1
returns-then-bytes-ge1 c =
    let bytes : list_all is_byte c.args.bytes.now ≡ true = all-bytes c.args.bytes.now (λ i. omega (arith, c.type_inv.bytes i)) in
    search (rules, bytes)
