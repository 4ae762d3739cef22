use Rattle.std.proofs.Common.{◌∙◌, sym, ap, subst}
use Rattle.rw_machine.specs.State.{domain_over, machine_of, event_of, six_of}
use Rattle.rw_sim.specs.Answers.{Meets, answer_value}
use Rattle.rw_sim.specs.Builtins.{call_memory, import_answer}
use Rattle.rw_sim.proofs.Answering.{import-meets}
use Rattle.rw_sim.proofs.asking.answer_to.Goals as goal

pub returns-in-Import : goal.returns-in-Import
returns-in-Import g c =
    import-meets (domain_over g.D.Domain.over) (g.C.Code.program c.args.code.now) (machine_of c.args.state.now) answer_value (g.C.Named.names c.args.code.now) c.import.result
    c.new-asked.result.stored (six_of c.new-asked.result.words) c.args.fresh c.in-Import.symbol c.name.result.now
    (event_of (g.D.Domain.over (machine_of c.args.state.now).placed) (machine_of c.args.state.now).memory c.args.event.now)
    (ap (λ e. (event_of (g.D.Domain.over (machine_of c.args.state.now).placed) (machine_of c.args.state.now).memory e).call) c.in-Import.is)
    (ap (λ e. (event_of (g.D.Domain.over (machine_of c.args.state.now).placed) (machine_of c.args.state.now).memory e).words) c.in-Import.is ∙ ap six_of (sym c.new-asked.ensures.words))
    (c.new-asked.ensures.stored ∙ c.stored.ensures.value) c.requires c.name.ensures
    (subst (λ s. Meets answer_value (import_answer (g.D.Domain.over (machine_of s).placed) (call_memory (g.D.Domain.over (machine_of s).placed) (machine_of s).memory c.new-asked.result.stored) (six_of c.new-asked.result.words) c.args.fresh c.in-Import.symbol c.name.result.now) c.import.result)
    c.new-asked.ensures.state c.import.ensures)
