use Rattle.std.proofs.Common.{◌≡◌, ◌+◌, length, drop, Some, None, sym, ap, ◌∙◌, arith}
use Rattle.std.proofs.lemmas.List.{take_rest}
use Rattle.std.proofs.lemmas.Result.{err_from_is_err_and}
use Rattle.std.specs.Option.{option_or}
use Rattle.rw_base.specs.Rules.{first_of}
use Rattle.x86_decode.specs.Reading.{decode_of}
use Rattle.rw_funcs.specs.Points.{points}
use Rattle.rw_funcs.proofs.Fuel.{next_fits, points_at_start}
use Rattle.rw_refs.specs.CodeReferences.{faults_in}
use Rattle.rw_refs.proofs.Walk.{first_in, first-after, first-at_end}
use Rattle.rw_refs.proofs.check.check_points.Goals as goal

pub returns-in_err-check_point : goal.returns-in_err-check_point
returns-in_err-check_point c =
    let at = c.loop-insn.at in
    let code = c.args.code.now in
    let start = c.args.start in
    let bytes = c.args.elf.now in
    let fault = c.in_err-check_point.field-0.0 in
    let found : decode_of (start + at) (drop at code) ≡ Some (c.in-Some.insn, c.in-Some.len) = ap (λ bs. decode_of (start + at) bs) (sym (take_rest code at)) ∙ sym c.decode_one.ensures.exact ∙ c.in-Some.is in
    let whole : Some fault ≡ first_of (faults_in bytes (points (length code) start code)) =
    sym (first-after bytes code start at (c.in-Some.insn, c.in-Some.len) found ∙ ap (λ o. option_or o (first_in bytes code start (at + c.in-Some.len))) (sym c.in_err-check_point.ensures))
    ∙ c.loop-insn.invariant.same ∙ ap (λ ps. first_of (faults_in bytes ps)) (points_at_start code start) in
    let p = err_from_is_err_and c.from_residual.result c.from_residual.ensures.1 in
    rw (p.1, p.2) whole

pub loop-insn-preserved : goal.loop-insn-preserved
loop-insn-preserved c =
    let at = c.loop-insn.at in
    let code = c.args.code.now in
    let start = c.args.start in
    let bytes = c.args.elf.now in
    let found : decode_of (start + at) (drop at code) ≡ Some (c.in-Some.insn, c.in-Some.len) = ap (λ bs. decode_of (start + at) bs) (sym (take_rest code at)) ∙ sym c.decode_one.ensures.exact ∙ c.in-Some.is in
    let fits = next_fits code start at (c.in-Some.insn, c.in-Some.len) found in
    let short = fits.1 in
    let same = c.from-at.ensures in
    record {
      within = omega (arith, short, same);
      same = ap (λ n. first_in bytes code start (at + n)) same
          ∙ sym (first-after bytes code start at (c.in-Some.insn, c.in-Some.len) found ∙ ap (λ o. option_or o (first_in bytes code start (at + c.in-Some.len))) (sym c.in_ok-check_point.ensures))
          ∙ c.loop-insn.invariant.same;
    }

pub returns : goal.returns
returns c =
    let at = c.loop-insn.at in
    let code = c.args.code.now in
    let start = c.args.start in
    let bytes = c.args.elf.now in
    let none : decode_of (start + at) (drop at code) ≡ None = ap (λ bs. decode_of (start + at) bs) (sym (take_rest code at)) ∙ sym c.decode_one.ensures.exact ∙ c.in_default.is in
    sym (first-at_end bytes code start at none) ∙ c.loop-insn.invariant.same ∙ ap (λ ps. first_of (faults_in bytes ps)) (points_at_start code start)
