use Rattle.std.proofs.Common.{get_or, sym, ap, subst, ◌∙◌, arith}
use Rattle.std.specs.List.{Contains, list_any}
use Rattle.std.proofs.lemmas.List.Elements.{Contains-get_or}
use Rattle.rw_base.specs.Rules.{first}
use Rattle.rw_funcs.specs.Points.{is_one_of}
use Rattle.rw_tables.specs.Tables.{table_rules, tables_of}
use Rattle.rw_probe.specs.Leaders.{is_in, is_in_table}
use Rattle.rw_probe.proofs.Adding.{or-false, adds-same, adds-more, adds-all}
use Rattle.rw_probe.proofs.WordFacts.{no_table, table-ends}
use Rattle.rw_probe.proofs.blocks.push_tables.Goals as goal

pub loop-table-init : goal.loop-table-init
loop-table-init c = λ a. sym (or-false (is_one_of c.args.list.now.items a))

pub push_words-requires : goal.push_words-requires
push_words-requires c =
    let tables = c.list-table-items.result.now in
    let clean_file = c.file-file.ensures.clean in
    table-ends c.args.elf.now (get_or c.list-table-items.result.now c.loop-table.table-index no_table) c.file-file.ensures.clean (sym (ap (λ b. first (table_rules b)) c.requires) ∙ c.list-table-items.ensures.clean)
    (subst (λ list. Contains list (get_or c.list-table-items.result.now c.loop-table.table-index no_table)) (c.list-table-items.ensures.list ∙ ap tables_of c.requires) (Contains-get_or c.list-table-items.result.now c.loop-table.table-index no_table (omega arith)))

pub loop-table-preserved : goal.loop-table-preserved
loop-table-preserved c =
    adds-more (λ a t. is_in c.args.tables.now a t) c.list-table-items.result.now c.loop-table.table-index no_table c.args.list.now.items c.loop-table.list.items c.push_words.new.list.items (omega arith) c.loop-table.invariant c.in_ok-push_words.ensures

pub returns : goal.returns
returns c =
    adds-same c.args.list.now.items c.loop-table.list.items (λ a. list_any (is_in c.args.tables.now a) c.list-table-items.result.now) (is_in_table c.args.elf.now)
    (λ a. ap (list_any (is_in c.args.tables.now a)) c.list-table-items.ensures.list ∙ ap (λ b. is_in_table b a) c.requires)
    (adds-all (λ a t. is_in c.args.tables.now a t) c.list-table-items.result.now c.loop-table.table-index c.args.list.now.items c.loop-table.list.items (omega arith) c.loop-table.invariant)
