use Rattle.std.proofs.Common.{◌≡◌, ◌≤◌, ◌+◌, List, ℕ, ◌++◌, length, get_or, drop, sym, ap, subst, ◌∙◌}
use Rattle.std.specs.Io.KnownBytes.{Appends}
use Rattle.std.proofs.KnownBytes.{Appends-trans}
use Rattle.rw_probe.specs.declared.form.Probe.TheVariants.{Inc}
use Rattle.rw_probe.specs.Leaders.{leaders_of}
use Rattle.retro.specs.Blocks.{function_name, leader_line, lines_from}
use Rattle.retro.proofs.Leaders.{name-le, no-gap, more-lines, this-line, with-line, written-part}
use Rattle.retro.proofs.blocks.write_leaders.Goals as goal
use Rattle.retro.proofs.blocks.write_leaders.Goals.{in-Some+in-Ok, in_default}

pub write_leader-requires : goal.write_leader-requires
write_leader-requires g c =
    let a = get_or c.list-address-items.result.now c.loop-number.number 0 in
    subst (λ (n : List ℕ). length n ≤ 4096) (sym c.function_name-name.ensures.name) (name-le c.picture-picture.result.now a c.function_name-name.ensures.clean)

pub returns-in-Err-clause-lines : goal.returns-in-Err-clause-lines
returns-in-Err-clause-lines g c =
    let plan = c.args.plan.now in
    let k = c.loop-number.number in
    let xs = c.list-address-items.result.now in
    let leaders = leaders_of plan.file plan.mode in
    let name = c.function_name-name.result.now in
    let line = leader_line k (get_or xs k 0) name c.in-Some.probe in
    let rest = lines_from plan.file (k + 1) (drop (k + 1) leaders) (drop (k + 1) plan.forms) in
    let before = c.loop-number.invariant in
    let same : xs ≡ leaders = c.list-address-items.ensures.list ∙ c.leaders.ensures.list in
    let named : name ≡ function_name plan.file (get_or xs k 0) = c.function_name-name.ensures.name ∙ ap (λ f. function_name f (get_or xs k 0)) c.picture-picture.ensures in
    let this = this-line plan xs k name c.in-Some.probe same c.list-address-items.ensures.ascend c.leaders.ensures.probes c.loop-number-test.true named c.in-Some.ensures.probe in
    written-part (g.O.Sink.held c.args.out.now) (g.O.Sink.held c.loop-number.out) (g.O.Sink.held c.write_leader.new.out) before.front line rest (lines_from plan.file 0 leaders plan.forms) c.in-Err.field-0.done
    before.written c.in-Err.ensures.bytes (with-line before.front line rest _ _ this before.whole)

pub returns-in-Err-clause-probes : goal.returns-in-Err-clause-probes
returns-in-Err-clause-probes g c = c.leaders.ensures.probes

pub returns-clause-probes : goal.returns-clause-probes
returns-clause-probes g c = c.leaders.ensures.probes

pub loop-number-preserved : goal.loop-number-preserved
loop-number-preserved g c =
    elim c.match-probe_at.branch [
      | in-Some+in-Ok w ↦
          let plan = c.args.plan.now in
          let k = c.loop-number.number in
          let xs = c.list-address-items.result.now in
          let leaders = leaders_of plan.file plan.mode in
          let name = w.function_name-name.result.now in
          let line = leader_line k (get_or xs k 0) name w.in-Some.probe in
          let rest = lines_from plan.file (k + 1) (drop (k + 1) leaders) (drop (k + 1) plan.forms) in
          let before = c.loop-number.invariant in
          let same : xs ≡ leaders = c.list-address-items.ensures.list ∙ c.leaders.ensures.list in
          let named : name ≡ function_name plan.file (get_or xs k 0) = w.function_name-name.ensures.name ∙ ap (λ f. function_name f (get_or xs k 0)) c.picture-picture.ensures in
          let this = this-line plan xs k name w.in-Some.probe same c.list-address-items.ensures.ascend c.leaders.ensures.probes c.loop-number-test.true named w.in-Some.ensures.probe in
          let held = Appends-trans (g.O.Sink.held c.args.out.now) (g.O.Sink.held c.loop-number.out) (g.O.Sink.held w.write_leader.new.out) before.front line before.written w.in-Ok.ensures.bytes in
          record {
            same = ap g.O.Sink.faults w.out-is ∙ w.in-Ok.ensures.cause ∙ before.same;
            front = before.front ++ line;
            written = subst (λ o. Appends (g.O.Sink.held c.args.out.now) (g.O.Sink.held o) (before.front ++ line)) (sym w.out-is) held;
            whole = more-lines before.front line rest _ _ this before.whole;
          }
      | in_default w ↦
          let plan = c.args.plan.now in
          let k = c.loop-number.number in
          let xs = c.list-address-items.result.now in
          let same : xs ≡ leaders_of plan.file plan.mode = c.list-address-items.ensures.list ∙ c.leaders.ensures.list in
          absurd (w.in_default.not-Some (get_or plan.forms k Inc) (c.probe_at.ensures.probe ∙ no-gap plan xs k same c.list-address-items.ensures.ascend c.leaders.ensures.probes c.loop-number-test.true))
    ]
