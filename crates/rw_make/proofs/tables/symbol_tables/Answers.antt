use Rattle.std.proofs.Common.{arith, rules, ◌∙◌}
use Rattle.rw_make.proofs.Symbols.{entries_none, entries_more, entries_all, names_none, names_more}
use Rattle.rw_make.proofs.tables.symbol_tables.Goals as goal

pub loop-symbol-init : goal.loop-symbol-init
loop-symbol-init c = record {
  entries = entries_none _ _ _ (search rules) (search rules);
  names = names_none _ _ (search rules);
}

pub loop-symbol-preserved : goal.loop-symbol-preserved
loop-symbol-preserved c =
    let i = c.loop-symbol.symbol-index in
    record {
      entries = entries_more c.loop-symbol.entries.items c.put_symbol.new.out.items c.loop-symbol.names.items c.put_name.new.out.items c.args.symbols.now i c.symbol-item.result (omega arith) c.symbol-item.is (search rules) (search rules) ∙ c.loop-symbol.invariant.entries;
      names = names_more c.loop-symbol.names.items c.put_name.new.out.items c.args.symbols.now i c.symbol-item.result (omega arith) c.symbol-item.is (search rules) ∙ c.loop-symbol.invariant.names;
    }

pub returns-clause-entries : goal.returns-clause-entries
returns-clause-entries c = entries_all _ _ _ c.loop-symbol.symbol-index (omega arith) c.loop-symbol.invariant.entries
