use Rattle.std.proofs.Common.{All, filter, not, ◌&&◌, sym, ap, subst, ◌∙◌}
use Rattle.std.specs.List.{list_any}
use Rattle.std.specs.List.Sorted.{IsSortedBy}
use Rattle.std.proofs.lemmas.List.Elements.{All-filter}
use Rattle.std.proofs.lemmas.List.Filters.{All-dedup}
use Rattle.rw_elf.specs.declared.symbol.Symbol.{Symbol}
use Rattle.rw_elf.specs.Tables.{IsNameIn}
use Rattle.rw_funcs.specs.Functions.{comes_before, is_startup, same_range}
use Rattle.rw_funcs.proofs.Ranges.{startup_sorted}
use Rattle.rw_funcs.proofs.kept.kept_functions.Goals as goal

pub leave_out-requires : goal.leave_out-requires
leave_out-requires c =
    subst (IsSortedBy comes_before) (sym (c.deref-3.ensures.value ∙ c.in_ok-startup.ensures ∙ ap (filter (is_startup c.args.elf.now)) (c.deref-2.ensures.value ∙ c.in_ok-list.ensures.list))) (startup_sorted c.args.elf.now)

pub returns-clause-names : goal.returns-clause-names
returns-clause-names c =
    subst (All (λ (f : Symbol). IsNameIn c.args.elf.now f.name)) (sym c.leave_out.ensures)
    (All-filter (λ (f : Symbol). not (c.is_hosted-hosted.result && list_any (same_range f) c.deref-3.result.now)) (λ (f : Symbol). IsNameIn c.args.elf.now f.name) c.keep_first_of_range.new.list.items
    (subst (All (λ (f : Symbol). IsNameIn c.args.elf.now f.name)) (sym c.keep_first_of_range.ensures)
    (All-dedup same_range (λ (f : Symbol). IsNameIn c.args.elf.now f.name) c.in_ok-list.list.items c.in_ok-list.ensures.names)))
