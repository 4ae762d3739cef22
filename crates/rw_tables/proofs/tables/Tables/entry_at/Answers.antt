use Rattle.std.proofs.Common.{ap, ◌∙◌}
use Rattle.rw_tables.specs.Tables.{entry_among, entry_at}
use Rattle.rw_tables.proofs.tables.Tables.entry_at.Goals as goal

pub returns : goal.returns
unfolding entry_at
returns c =
    c.copied.ensures ∙ c.get.ensures.value ∙ c.self.invariant.words c.args.address ∙ ap (λ ts. entry_among c.self.inside.file.value ts c.args.address) c.self.invariant.list
    ∙ ap (λ b. entry_at b c.args.address) c.self.view_is
