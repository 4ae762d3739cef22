use Rattle.std.proofs.Common.{◌∙◌, ap, filter}
use Rattle.rw_elf.specs.Symbols.{is_of_kind, of_kind}
use Rattle.rw_elf.proofs.SectionFacts.{indices_within}
use Rattle.rw_elf.proofs.symbols.sections_of_kind.Goals as goal

pub returns-clause-found : goal.returns-clause-found
unfolding of_kind
returns-clause-found c = c.in_ok-found.ensures ∙ ap (filter (is_of_kind c.args.kind)) c.requires

pub returns-clause-indices : goal.returns-clause-indices
returns-clause-indices c = rw (c.in_ok-found.ensures, c.requires) (indices_within c.args.bytes.now (is_of_kind c.args.kind))
