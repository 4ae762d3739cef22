use Rattle.std.proofs.Common.{◌<◌, length, rules, sym, ◌∙◌}
use Rattle.x86_insn.specs.WellFormed.{code_of}
use Rattle.rw_tables.proofs.Touched.{names-some, names-none}
use Rattle.rw_tables.proofs.seen.Addresses.note.Goals as goal

pub returns-in-Some : goal.returns-in-Some
returns-in-Some c = λ r.
    let index = c.from.ensures ∙ c.code.ensures in
    let fits : code_of c.in-Some.r < length c.args.self.now.values = search rules in
    rw index (names-some c.args.insn.now c.args.self.now.held.0 c.unwritten-self.result.0 c.with-self.result.0 c.args.self.now.values c.in-Some.r r c.in-Some.address (sym c.naming_of.ensures ∙ c.in-Some.is) (c.unwritten-self.ensures r) c.with-self.ensures fits)

pub returns-in_default : goal.returns-in_default
returns-in_default c = λ r.
    names-none c.args.insn.now c.args.self.now.held.0 c.unwritten-self.result.0 c.args.self.now.values r (search rules) (c.unwritten-self.ensures r)
