use Rattle.std.proofs.Common.{◌∙◌, ◌≡◌, ◌++◌, ap, sym, subst}
use Rattle.std.specs.Option.{option_copied}
use Rattle.rw_machine.specs.Replying.{AreStorable, HaveRoom, IsReached, stores_of, forgotten_to}
use Rattle.rw_machine.specs.Plans.{closed_machine, changed_machine, given_reply, fresh_in, writes_in, FitChanges}
use Rattle.rw_machine.specs.Running.{undefined_byte}
use Rattle.rw_machine.specs.Step as Steps
use Rattle.rw_machine.specs.State.{domain_over, machine_of}
use Rattle.rw_machine.specs.Views.{registers_of, rows_of, running_of, dues_of}
use Rattle.rw_machine.proofs.Plans.{room-given}
use Rattle.rw_machine.proofs.Settles.{same-machine}
use Rattle.rw_machine.proofs.WritesAll.{room-along, room-grows, storable-grows, reached-along, reached-grows, committed}
use Rattle.rw_machine.proofs.carry.carry_out.Goals as goal

pub close-requires : goal.close-requires
close-requires g c =
    reached-along (rows_of c.args.state.now.memory) (rows_of c.write_all_due.new.memory) c.args.closing.now.sweep c.write_all_due.ensures.lengths c.requires.sweep

pub store_all-requires : goal.store_all-requires
store_all-requires g c =
    let placed = g.D.Domain.placed c.args.state.now.domain in
    let rows = rows_of c.args.state.now.memory in
    let more = Steps.fresh_row (g.D.Domain.over placed) c.fresh_of.result in
    let grown : rows_of c.add_fresh.new.state.memory ≡ rows ++ more = ap (λ m. m.memory) c.in_ok-add_fresh-in-Follow.ensures.ok in
    let fits = subst (FitChanges rows (dues_of c.args.run.now.due)) c.in-Follow.is c.requires.changes in
    subst (λ rows. AreStorable rows (stores_of c.stores_of-stores.result)) (sym grown)
    (storable-grows rows more (stores_of c.stores_of-stores.result) (c.stores_of-stores.ensures.storable rows fits.0))

pub write_all-requires : goal.write_all-requires
write_all-requires g c =
    let placed = g.D.Domain.placed c.args.state.now.domain in
    let rows = rows_of c.args.state.now.memory in
    let reply = given_reply (option_copied c.args.reply) in
    let more = Steps.fresh_row (g.D.Domain.over placed) c.fresh_of.result in
    let one = rows_of c.add_fresh.new.state.memory in
    let grown : one ≡ rows ++ more = ap (λ m. m.memory) c.in_ok-add_fresh-in-Follow.ensures.ok in
    subst (HaveRoom (rows_of c.store_all.new.self)) (sym c.writes_of.ensures)
    (room-along one (rows_of c.store_all.new.self) (writes_in reply) c.store_all.ensures.lengths
    (subst (λ rows. HaveRoom rows (writes_in reply)) (sym grown) (room-grows rows more (writes_in reply) (room-given placed.regions rows reply c.requires.fit))))

pub forget-requires : goal.forget-requires
forget-requires g c =
    let rows = rows_of c.args.state.now.memory in
    let more = Steps.fresh_row (g.D.Domain.over (g.D.Domain.placed c.args.state.now.domain)) c.fresh_of.result in
    let one = rows_of c.add_fresh.new.state.memory in
    let grown : one ≡ rows ++ more = ap (λ m. m.memory) c.in_ok-add_fresh-in-Follow.ensures.ok in
    let frame = c.in-Follow.frame in
    let fits = subst (FitChanges rows (dues_of c.args.run.now.due)) c.in-Follow.is c.requires.changes in
    reached-along one (rows_of c.write_all.new.memory) frame (c.write_all.ensures.lengths ∙ c.store_all.ensures.lengths)
    (subst (λ rows. IsReached rows frame) (sym grown) (reached-grows rows more frame fits.2))

pub close-requires-in-Follow : goal.close-requires-in-Follow
close-requires-in-Follow g c =
    let rows = rows_of c.args.state.now.memory in
    let more = Steps.fresh_row (g.D.Domain.over (g.D.Domain.placed c.args.state.now.domain)) c.fresh_of.result in
    let one = rows_of c.add_fresh.new.state.memory in
    let grown : one ≡ rows ++ more = ap (λ m. m.memory) c.in_ok-add_fresh-in-Follow.ensures.ok in
    let sweep = c.args.closing.now.sweep in
    reached-along one (rows_of c.forget.new.self) sweep (c.forget.ensures.lengths ∙ c.write_all.ensures.lengths ∙ c.store_all.ensures.lengths)
    (subst (λ rows. IsReached rows sweep) (sym grown) (reached-grows rows more sweep c.requires.sweep))

pub returns-in_ok-add_fresh-in-Follow-clause-machine : goal.returns-in_ok-add_fresh-in-Follow-clause-machine
returns-in_ok-add_fresh-in-Follow-clause-machine g c =
    let dom = domain_over g.D.Domain.over in
    let placed = g.D.Domain.placed c.args.state.now.domain in
    let ops = g.D.Domain.over placed in
    let rows = rows_of c.args.state.now.memory in
    let run = c.args.run.now in
    let closing = c.args.closing.now in
    let frame = c.in-Follow.frame in
    let reply = given_reply (option_copied c.args.reply) in
    let more = Steps.fresh_row ops (fresh_in reply) in
    let new = c.add_fresh.new.state in
    let stores = stores_of c.stores_of-stores.result in
    let fits = subst (FitChanges rows (dues_of run.due)) c.in-Follow.is c.requires.changes in
    let byte : c.write_all.new.memory.undefined ≡ undefined_byte ops =
    c.write_all.ensures.undefined ∙ c.store_all.ensures.undefined ∙ new.undefined ∙ g.met.D.Domain.one_undefined (g.D.Domain.placed new.domain) placed in
    let m = record (machine_of new) { registers = registers_of run.registers; flags = run.flags; point = closing.point } in
    c.close-in-Follow.ensures.machine
    ∙ ap (λ b. record m { memory = forgotten_to b closing.sweep (rows_of c.forget.new.self) }) (c.forget.ensures.undefined ∙ byte)
    ∙ ap (closed_machine ops closing)
    (same-machine ops m (rows_of c.forget.new.self) _ (g.D.Domain.placed new.domain) (Steps.placed_with dom placed (fresh_in reply))
    (committed ops stores (writes_in reply) _ rows more
    (rows_of new.memory) (rows_of c.store_all.new.self) (rows_of c.write_all.new.memory) (rows_of c.forget.new.self)
    frame c.write_all.new.memory.undefined byte c.writes_of.ensures
    (ap (λ m. m.memory) c.in_ok-add_fresh-in-Follow.ensures.ok ∙ ap (λ f. rows ++ Steps.fresh_row ops f) c.fresh_of.ensures)
    c.store_all.ensures.rows (c.write_all.ensures.rows ops) c.forget.ensures.rows
    (c.stores_of-stores.ensures.storable rows fits.0) (room-given placed.regions rows reply c.requires.fit)
    ∙ ap (λ written. forgotten_to (undefined_byte ops) frame (Steps.all_written ops (writes_in reply) written ++ more)) (c.stores_of-stores.ensures.rows rows))
    (ap (λ m. m.placed) c.in_ok-add_fresh-in-Follow.ensures.ok ∙ ap (Steps.placed_with dom placed) c.fresh_of.ensures))
    ∙ ap (λ changes. closed_machine ops closing (changed_machine dom ops reply (running_of run) changes closing.point (machine_of c.args.state.now))) (sym c.in-Follow.is)
