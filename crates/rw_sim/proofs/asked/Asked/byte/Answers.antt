use Rattle.std.proofs.Common.{◌≡◌, ◌∙◌, sym, ap, Some}
use Rattle.rw_machine.specs.Running.{bytes_from}
use Rattle.rw_machine.specs.Replying.{stored_index}
use Rattle.rw_machine.specs.Rows.{byte_at}
use Rattle.rw_machine.specs.State.{machine_of}
use Rattle.rw_sim.specs.Asked.{operators_of}
use Rattle.rw_sim.specs.Builtins.{call_memory}
use Rattle.rw_sim.proofs.Stored.{byte-beside, byte-stored, byte-of_low, index-below}
use Rattle.rw_sim.proofs.asked.Asked.byte.Goals as goal

pub returns-in-None-stored_index-clause-value : goal.returns-in-None-stored_index-clause-value
returns-in-None-stored_index-clause-value g c =
    c.byte-before.ensures.value
    ∙ sym (byte-beside (machine_of c.args.self.now.state.now).memory c.in-Some.place (bytes_from (operators_of c.args.self.now) 8 0 c.in-Some.word) c.args.at (c.args.self.now.room (c.in-Some.place, c.in-Some.word) c.in-Some.is) (sym c.in-None-stored_index.is ∙ c.stored_index.ensures))
    ∙ ap (λ o. byte_at (call_memory (operators_of c.args.self.now) (machine_of c.args.self.now.state.now).memory o) c.args.at) (sym c.in-Some.is)

pub returns-in-Some-stored_index-clause-value : goal.returns-in-Some-stored_index-clause-value
returns-in-Some-stored_index-clause-value g c =
    let there : Some c.in-Some-stored_index.i ≡ stored_index c.in-Some.place 8 c.args.at.region c.args.at.offset = sym c.in-Some-stored_index.is ∙ c.stored_index.ensures in
    ap Some (c.split.ensures ∙ ap (λ d. (g.D.Domain.over (g.D.Domain.placed d)).split c.in-Some.word c.in-Some-stored_index.i) c.domain.ensures)
    ∙ sym (byte-of_low (operators_of c.args.self.now) 8 c.in-Some-stored_index.i c.in-Some.word (index-below c.in-Some.place 8 c.args.at.region c.args.at.offset c.in-Some-stored_index.i there))
    ∙ sym (byte-stored (machine_of c.args.self.now.state.now).memory c.in-Some.place (bytes_from (operators_of c.args.self.now) 8 0 c.in-Some.word) c.args.at c.in-Some-stored_index.i (c.args.self.now.room (c.in-Some.place, c.in-Some.word) c.in-Some.is) there)
    ∙ ap (λ o. byte_at (call_memory (operators_of c.args.self.now) (machine_of c.args.self.now.state.now).memory o) c.args.at) (sym c.in-Some.is)
