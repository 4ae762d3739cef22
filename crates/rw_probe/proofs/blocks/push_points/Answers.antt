use Rattle.std.proofs.Common.{◌≡◌, ◌+◌, length, drop, Some, None, sym, ap, ◌∙◌, arith}
use Rattle.std.proofs.lemmas.List.{take_rest}
use Rattle.x86_decode.specs.Reading.{decode_of}
use Rattle.std.specs.Prelude.{◌||◌}
use Rattle.rw_funcs.specs.Points.{is_one_of}
use Rattle.rw_funcs.proofs.Fuel.{next_fits, points_in}
use Rattle.rw_probe.specs.Collecting.{begins_by}
use Rattle.rw_probe.proofs.Walking.{walk-more, walk-end}
use Rattle.rw_probe.proofs.blocks.push_points.Goals as goal

pub loop-insn-preserved : goal.loop-insn-preserved
loop-insn-preserved c =
    let at = c.loop-insn.at in
    let code = c.args.code.now in
    let start = c.args.start in
    let n = c.in-Some.len in
    let found : decode_of (start + at) (drop at code) ≡ Some (c.in-Some.insn, c.in-Some.len) = ap (λ bs. decode_of (start + at) bs) (sym (take_rest code at)) ∙ sym c.decode_one.ensures.exact ∙ c.in-Some.is in
    let fits = next_fits code start at (c.in-Some.insn, c.in-Some.len) found in
    let short = fits.1 in
    let same = c.from-at.ensures in
    record {
      within = omega (arith, short, same);
      same = λ a.
          ap (λ m. is_one_of c.push_below.new.list.items a || begins_by c.args.elf.now (start + length code) (points_in code start (at + m)) a) same
          ∙ walk-more c.args.elf.now code start (start + length code) at n c.in-Some.insn c.loop-insn.list.items c.push_code.new.list.items c.push_below.new.list.items c.named_by.result c.ends_block.result (start + (at + c.from-at.result)) found
          c.in_ok-push_code.ensures c.named_by.ensures c.in_ok-push_below.ensures c.ends_block.ensures (omega (arith, same)) a
          ∙ c.loop-insn.invariant.same a;
    }

pub returns : goal.returns
returns c =
    let at = c.loop-insn.at in
    let code = c.args.code.now in
    let start = c.args.start in
    let none : decode_of (start + at) (drop at code) ≡ None = ap (λ bs. decode_of (start + at) bs) (sym (take_rest code at)) ∙ sym c.decode_one.ensures.exact ∙ c.in_default.is in
    walk-end c.args.elf.now code start (start + length code) at c.args.list.now.items c.loop-insn.list.items none c.loop-insn.invariant.same
