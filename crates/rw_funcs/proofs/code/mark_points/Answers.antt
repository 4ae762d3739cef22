use Rattle.std.proofs.Common.{◌≡◌, ◌+◌, ◌<◌, ◌≤◌, length, drop, Some, None, sym, ap, subst, ◌∙◌, arith, length-drop, get_or}
use Rattle.std.proofs.Math.ListN.{set}
use Rattle.std.specs.Prelude.{option_map}
use Rattle.std.proofs.lemmas.List.{take_rest}
use Rattle.rw_base.specs.declared.fault.Fault.TheVariants.{BadInstruction}
use Rattle.x86_decode.specs.Reading.{decode_of}
use Rattle.rw_funcs.specs.Notes.{facts_of, length_or, no_facts, noted_or}
use Rattle.rw_funcs.specs.Points.{first_bad}
use Rattle.rw_funcs.proofs.Fuel.{front_fits, bad_stop, bad_in, bad_after, points_in}
use Rattle.rw_funcs.proofs.Marked.{AreNotedUpTo, one_more_noted, all_noted}
use Rattle.rw_funcs.proofs.code.mark_points.Goals as goal

pub returns-in_default : goal.returns-in_default
returns-in_default c =
    let at = c.loop-at.at in
    let code = c.args.code.now in
    let below = c.loop-at-test.true in
    let size = length-drop at code in
    let some : 0 < length (drop at code) = omega (arith, size, below) in
    let none : decode_of (c.args.start + at) (drop at code) ≡ None = ap (λ bs. decode_of (c.args.start + at) bs) (sym (take_rest code at)) ∙ sym c.decode_one.ensures.exact ∙ c.in_default.is in
    record { fault = ap (λ o. option_map (λ a. BadInstruction a) o) (sym (bad_stop (c.args.start + at) (drop at code) some none) ∙ c.loop-at.invariant.bad); marked = tt; noted = tt }

pub loop-at-smaller : goal.loop-at-smaller
loop-at-smaller c =
    let at = c.loop-at.at in
    let code = c.args.code.now in
    let below = c.loop-at-test.true in
    let found : decode_of (c.args.start + at) (drop at code) ≡ Some (c.in-Some.insn, c.in-Some.len) = ap (λ bs. decode_of (c.args.start + at) bs) (sym (take_rest code at)) ∙ sym c.decode_one.ensures.exact ∙ c.in-Some.is in
    let fits = front_fits (c.args.start + at) (drop at code) (c.in-Some.insn, c.in-Some.len) found in
    let some : 0 < c.in-Some.len = fits.0 in
    let same = c.from-at.ensures in
    omega (arith, below, some, same)

pub loop-at-preserved : goal.loop-at-preserved
loop-at-preserved c =
    let at = c.loop-at.at in
    let code = c.args.code.now in
    let start = c.args.start in
    let below = c.loop-at-test.true in
    let found : decode_of (c.args.start + at) (drop at code) ≡ Some (c.in-Some.insn, c.in-Some.len) = ap (λ bs. decode_of (c.args.start + at) bs) (sym (take_rest code at)) ∙ sym c.decode_one.ensures.exact ∙ c.in-Some.is in
    let fits = front_fits (c.args.start + at) (drop at code) (c.in-Some.insn, c.in-Some.len) found in
    let size = length-drop at code in
    let some : 0 < c.in-Some.len = fits.0 in
    let short : c.in-Some.len ≤ length (drop at code) = fits.1 in
    let same = c.from-at.ensures in
    record {
      within = omega (arith, size, short, below, same);
      bad = ap (λ n. bad_in code c.args.start (at + n)) same ∙ sym (bad_after code c.args.start at (c.in-Some.insn, c.in-Some.len) below found) ∙ c.loop-at.invariant.bad;
      noted = subst (λ n. AreNotedUpTo (λ p. p.len) 0 (λ k. length_or (get_or c.args.marks.now k 0) (points_in code start 0) (start + k)) (set c.loop-at.marks at c.in-Some.len) code start (at + n)) (sym same)
          (one_more_noted (λ p. p.len) 0 (λ k. length_or (get_or c.args.marks.now k 0) (points_in code start 0) (start + k)) c.loop-at.marks code start at (c.in-Some.insn, c.in-Some.len) (c.loop-at.auto.marks ∙ c.requires.size) some found c.loop-at.invariant.noted);
      facts = subst (λ n. AreNotedUpTo (λ p. facts_of p.insn) no_facts (λ k. noted_or (λ p. facts_of p.insn) (get_or c.args.facts.now k no_facts) (points_in code start 0) (start + k)) (set c.loop-at.facts at c.facts_of.result) code start (at + n)) (sym same)
          (subst (λ f. AreNotedUpTo (λ p. facts_of p.insn) no_facts (λ k. noted_or (λ p. facts_of p.insn) (get_or c.args.facts.now k no_facts) (points_in code start 0) (start + k)) (set c.loop-at.facts at f) code start (at + c.in-Some.len)) (sym c.facts_of.ensures) (one_more_noted (λ p. facts_of p.insn) no_facts (λ k. noted_or (λ p. facts_of p.insn) (get_or c.args.facts.now k no_facts) (points_in code start 0) (start + k)) c.loop-at.facts code start at (c.in-Some.insn, c.in-Some.len) (c.loop-at.auto.facts ∙ c.requires.facts_size) some found c.loop-at.invariant.facts));
    }

pub returns : goal.returns
returns c =
    let at = c.loop-at.at in
    let code = c.args.code.now in
    let start = c.args.start in
    let past = c.loop-at-test.false in
    let size = length-drop at code in
    let none : length (drop at code) ≡ 0 = omega (arith, size, past) in
    record {
      fault = ap (λ o. option_map (λ a. BadInstruction a) o) (sym (ap (λ n. first_bad n (start + at) (drop at code)) none) ∙ c.loop-at.invariant.bad);
      marked = all_noted (λ p. p.len) 0 c.args.marks.now c.loop-at.marks code start at (c.loop-at.auto.marks ∙ c.requires.size) past c.loop-at.invariant.noted;
      noted = all_noted (λ p. facts_of p.insn) no_facts c.args.facts.now c.loop-at.facts code start at (c.loop-at.auto.facts ∙ c.requires.facts_size) past c.loop-at.invariant.facts;
    }
