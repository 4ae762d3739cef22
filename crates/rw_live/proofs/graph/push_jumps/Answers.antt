use Rattle.std.proofs.Common.{◌+◌, sym, subst, arith, rules}
use Rattle.std.proofs.lemmas.Option.{slice_get-get_or, get_or_from_slice_get}
use Rattle.rw_live.specs.declared.graph.Jump.{Jump}
use Rattle.rw_live.proofs.Pushing.{Pushed, pushed-one, pushed-none, pushed-all}
use Rattle.rw_live.proofs.graph.push_jumps.Goals as goal
use Rattle.rw_live.proofs.graph.push_jumps.Goals.{then-from-jumps+in_ok-push, else-from-jumps}

null_jump : Jump
null_jump = record { from = 0; to = 0 }

pub jumps-preserved : goal.jumps-preserved
unfolding null_jump
jumps-preserved c =
    let here = slice_get-get_or c.args.jumps.now c.jumps.at null_jump (omega arith) in
    elim c.if-from-jumps.branch [
      | then-from-jumps+in_ok-push w ↦
          subst (λ v. Pushed c.args.jumps.now c.args.from c.args.to (c.jumps.at + 1) c.args.work.now.items v.items) (sym w.work-is)
          (subst (λ v. Pushed c.args.jumps.now c.args.from c.args.to (c.jumps.at + 1) c.args.work.now.items v) (sym w.in_ok-push.ensures.items)
          (pushed-one c.args.jumps.now c.args.from c.args.to c.jumps.at c.args.work.now.items c.jumps.work.items c.jumps.invariant _ (slice_get-get_or c.args.jumps.now c.jumps.at _ (omega arith))))
      | else-from-jumps w ↦
          subst (λ v. Pushed c.args.jumps.now c.args.from c.args.to (c.jumps.at + 1) c.args.work.now.items v.items) (sym w.work-is)
          (pushed-none c.args.jumps.now c.args.from c.args.to c.jumps.at c.args.work.now.items c.jumps.work.items c.jumps.invariant _ (slice_get-get_or c.args.jumps.now c.jumps.at null_jump (omega arith)) (omega arith))
    ]

pub returns-else-jumps-at-clause-added : goal.returns-else-jumps-at-clause-added
returns-else-jumps-at-clause-added c =
    pushed-all c.args.jumps.now c.args.from c.args.to c.jumps.at c.args.work.now.items c.jumps.work.items c.jumps.invariant c.requires
    (λ within i e. let is = get_or_from_slice_get c.args.jumps.now c.jumps.at i (record { from = 0; to = 0 }) e in search rules)

pub returns-after-jumps-clause-added : goal.returns-after-jumps-clause-added
returns-after-jumps-clause-added c =
    pushed-all c.args.jumps.now c.args.from c.args.to c.jumps.at c.args.work.now.items c.jumps.work.items c.jumps.invariant c.requires (λ within. absurd (omega arith))
