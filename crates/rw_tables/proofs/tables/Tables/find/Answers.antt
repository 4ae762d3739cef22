use Rattle.std.proofs.Common.{◌≤◌, ◌^◌, All, sym, ap, subst, ◌∙◌}
use Rattle.std.specs.List.{AllPairs, dedup}
use Rattle.std.proofs.lemmas.List.Filters.{All-dedup}
use Rattle.std.proofs.lemmas.List.Sorted.{All-permutation}
use Rattle.rw_base.proofs.Ordered.{permutation-ordered}
use Rattle.rw_base.specs.Order.{ordered}
use Rattle.rw_tables.specs.Jumps.{jumps_of}
use Rattle.rw_tables.specs.Entries.{AreEntriesOf, AreTablesOf}
use Rattle.rw_tables.specs.Tables.{EndsBefore, comes_before, end_of, same_base, tables_in, tables_of}
use Rattle.rw_tables.proofs.ByBase.{tables-apart}
use Rattle.rw_tables.proofs.tables.Tables.find.Goals as goal

pub entries_of-requires : goal.entries_of-requires
entries_of-requires c =
    let list = c.deref-2.ensures.value ∙ c.keep_first_of_base.ensures ∙ ap (dedup same_base) c.in_ok-sort_by_base.ensures in
    subst (All (λ t. end_of t ≤ 2 ^ 47)) (sym list)
    (All-dedup same_base (λ t. end_of t ≤ 2 ^ 47) (ordered comes_before c.in_ok-list.list.items)
    (All-permutation (λ t. end_of t ≤ 2 ^ 47) c.in_ok-list.list.items (ordered comes_before c.in_ok-list.list.items) (permutation-ordered comes_before c.in_ok-list.list.items) c.in_ok-list.ensures.low))

pub invariant_of-result : goal.invariant_of-result
unfolding tables_of
invariant_of-result c =
    let found = c.in_ok-list.ensures.tables ∙ ap tables_in (c.deref.ensures.value ∙ c.in_ok-jumps.ensures ∙ ap jumps_of c.requires.functions) in
    let list = c.keep_first_of_base.ensures ∙ ap (dedup same_base) (c.in_ok-sort_by_base.ensures ∙ ap (ordered comes_before) found) in
    subst (λ b. AreTablesOf b c.keep_first_of_base.new.list.items c.in_ok-entries.entries) (sym c.of.ensures)
    (record { clean = c.in_ok-list.ensures.judged; list = list; apart = subst (AllPairs EndsBefore) (sym (c.keep_first_of_base.ensures ∙ ap (dedup same_base) c.in_ok-sort_by_base.ensures)) (tables-apart c.in_ok-list.list.items c.in_ok-list.ensures.apart); words = subst (λ ts. AreEntriesOf c.args.elf.now ts c.in_ok-entries.entries) c.deref-2.ensures.value c.in_ok-entries.ensures })
