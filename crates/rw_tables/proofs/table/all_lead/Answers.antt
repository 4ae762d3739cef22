use Rattle.std.proofs.Common.{◌≡◌, ◌+◌, ◌*◌, false, rules, sym, ◌∙◌, arith}
use Rattle.rw_tables.specs.Tables.{leads}
use Rattle.rw_tables.proofs.TableFacts.{each-leads, one-leads_not}
use Rattle.rw_tables.proofs.table.all_lead.Goals as goal

pub returns-then-not-leads : goal.returns-then-not-leads
returns-then-not-leads c =
    let none : c.leads.result ≡ false = search rules in
    sym (one-leads_not (λ k. leads c.args.elf.now c.args.table.now.base (c.args.table.now.base + 4 * k)) c.args.table.now.count c.loop-k.k (omega arith) (sym c.leads.ensures ∙ none))

pub returns : goal.returns
returns c = sym (each-leads (λ k. leads c.args.elf.now c.args.table.now.base (c.args.table.now.base + 4 * k)) c.args.table.now.count (λ j low. c.loop-k.invariant j (omega arith)))
