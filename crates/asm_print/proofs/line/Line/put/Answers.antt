use Rattle.std.proofs.Common.{◌≡◌, ◌+◌, ◌∙◌, arith, length}
use Rattle.std.proofs.lemmas.List.{length-take}
use Rattle.asm_print.proofs.Cut.{cut-room, on_ok}
use Rattle.asm_print.proofs.line.Line.put.Goals as goal

pub returns : goal.returns
returns c =
    let text = c.args.text.now in
    let old = c.args.self.now.bytes.items in
    let n = c.min-room.result in
    let room : c.remaining_capacity.result + length old ≡ 8192 = c.remaining_capacity.ensures in
    let ok = on_ok _ c.try_extend_from_slice-fits.result c.try_extend_from_slice-fits.ensures.ok (c.try_extend_from_slice-fits.ensures.variant.1 (omega (arith, length-take n text))) in
    ok ∙ cut-room old text n 8192 (omega arith) (omega arith) (omega arith)
