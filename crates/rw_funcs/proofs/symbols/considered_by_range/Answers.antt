use Rattle.std.proofs.Common.{All, sym, subst}
use Rattle.std.proofs.lemmas.List.Sorted.{All-permutation}
use Rattle.rw_base.proofs.Ordered.{permutation-ordered}
use Rattle.rw_elf.specs.declared.symbol.Symbol.{Symbol}
use Rattle.rw_elf.specs.Tables.{IsNameIn}
use Rattle.rw_funcs.specs.Functions.{by_range, comes_before}
use Rattle.rw_funcs.proofs.symbols.considered_by_range.Goals as goal

pub returns-clause-names : goal.returns-clause-names
returns-clause-names c =
    subst (All (λ (f : Symbol). IsNameIn c.args.elf.now f.name)) (sym c.in_ok-sort_by_range.ensures)
    (All-permutation (λ (f : Symbol). IsNameIn c.args.elf.now f.name) c.in_ok-list.list.items (by_range c.in_ok-list.list.items) (permutation-ordered comes_before c.in_ok-list.list.items) c.in_ok-list.ensures.names)
