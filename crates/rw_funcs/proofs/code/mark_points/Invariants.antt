use Rattle.std.proofs.Common.{◌≡◌, ◌+◌, ◌-◌, ◌≤◌, length, get_or}
use Rattle.rw_funcs.specs.Notes.{facts_of, length_or, no_facts, noted_or}
use Rattle.rw_funcs.specs.Points.{first_bad}
use Rattle.rw_funcs.proofs.Fuel.{bad_in, points_in}
use Rattle.rw_funcs.proofs.Marked.{AreNotedUpTo}
use Rattle.rw_funcs.proofs.code.mark_points.Given as goal

abbrev pub invariant-loop-at : goal.invariant-loop-at
invariant-loop-at l = record {
  within : l.at ≤ length l.code;
  bad : bad_in l.code l.start l.at ≡ first_bad (length l.code) l.start l.code;
  noted : AreNotedUpTo (λ p. p.len) 0 (λ k. length_or (get_or l.initial.marks k 0) (points_in l.code l.start 0) (l.start + k)) l.marks l.code l.start l.at;
  facts : AreNotedUpTo (λ p. facts_of p.insn) no_facts (λ k. noted_or (λ p. facts_of p.insn) (get_or l.initial.facts k no_facts) (points_in l.code l.start 0) (l.start + k)) l.facts l.code l.start l.at;
}

abbrev pub decreases-loop-at : goal.decreases-loop-at
decreases-loop-at l = length l.code - l.at
