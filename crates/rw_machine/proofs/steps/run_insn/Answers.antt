use Rattle.std.proofs.Common.{sym, ap, ◌∙◌, subst}
use Rattle.x86_meaning.specs.Meaning.{micro_of}
use Rattle.rw_machine.specs.Due.{FitRows, AreWords}
use Rattle.rw_machine.specs.State.{domain_over}
use Rattle.rw_machine.specs.Step as Steps
use Rattle.rw_machine.specs.Views.{registers_of, rows_of, running_of}
use Rattle.rw_machine.proofs.OnlyStrings.{word-due}
use Rattle.rw_machine.proofs.DueOf.{run-along, all-placed}
use Rattle.rw_machine.proofs.steps.run_insn.Goals as goal

pub returns-clause-run : goal.returns-clause-run
returns-clause-run g c =
    let ops = g.D.Domain.over (g.D.Domain.placed c.args.state.now.domain) in
    let rows = rows_of c.args.state.now.memory in
    run-along ops rows c.here_at.result _ c.as_slice-2.result.now (micro_of c.args.insn.now) (running_of c.args.run.now)
    (Steps.first_running ops (registers_of c.args.state.now.registers) c.args.state.now.flags) (running_of c.run_all.new.run)
    c.here_at.ensures (c.as_slice-2.ensures.value ∙ c.micro-list.ensures.items) c.requires c.run_all.ensures

pub returns-clause-placed : goal.returns-clause-placed
returns-clause-placed g c =
    let ops = g.D.Domain.over (g.D.Domain.placed c.args.state.now.domain) in
    let rows = rows_of c.args.state.now.memory in
    subst (λ r. FitRows rows r.due) (sym (returns-clause-run g c))
    (all-placed ops rows (g.D.Domain.placed c.args.state.now.domain).regions (g.met.D.Domain.places_inside c.args.state.now.domain) (g.met.D.Domain.regions_placed c.args.state.now.domain)
    c.args.state.now.laid_out (Steps.here_at (domain_over g.D.Domain.over) ops (g.C.Code.program c.args.code.now) c.args.state.now.point c.args.insn.now) (micro_of c.args.insn.now)
    (Steps.first_running ops (registers_of c.args.state.now.registers) c.args.state.now.flags) tt)

pub returns-clause-words : goal.returns-clause-words
returns-clause-words g c w led =
    let ops = g.D.Domain.over (g.D.Domain.placed c.args.state.now.domain) in
    let rows = rows_of c.args.state.now.memory in
    subst (λ r. AreWords r.due) (sym (returns-clause-run g c))
    (word-due ops rows (Steps.here_at (domain_over g.D.Domain.over) ops (g.C.Code.program c.args.code.now) c.args.state.now.point c.args.insn.now) c.args.insn.now
    (registers_of c.args.state.now.registers) c.args.state.now.flags w (ap (λ r. r.goal) (sym (returns-clause-run g c)) ∙ led))
