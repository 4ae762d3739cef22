use Rattle.std.proofs.Common.{All, map, sym, ap, subst, ◌∙◌}
use Rattle.std.proofs.lemmas.List.Elements.{All-map}
use Rattle.rw_elf.specs.Tables.{IsNameIn}
use Rattle.rw_funcs.specs.declared.function.Function.{Function}
use Rattle.rw_funcs.specs.Found.{AreFunctionsOf}
use Rattle.rw_funcs.specs.Functions.{function_at}
use Rattle.rw_funcs.proofs.FunctionsOf.{found-none, all-end}
use Rattle.rw_funcs.proofs.functions.Functions.find.Goals as goal

pub marked_code-requires-clause-functions : goal.marked_code-requires-clause-functions
marked_code-requires-clause-functions c = c.in_ok-kept.ensures.judged

pub functions_of-requires : goal.functions_of-requires
functions_of-requires c = all-end c.args.elf.now c.deref-2.result.now (c.deref-2.ensures.value ∙ c.in_ok-kept.ensures.list) c.file-file.ensures.clean c.in_ok-kept.ensures.judged

pub returns-clause-judged : goal.returns-clause-judged
returns-clause-judged c = found-none c.args.elf.now c.in_ok-kept.ensures.judged c.in_ok-code.ensures.judged

pub invariant_of-result : goal.invariant_of-result
invariant_of-result c =
    let symbols = c.deref-2.ensures.value ∙ c.in_ok-kept.ensures.list in
    subst (λ b. AreFunctionsOf b c.in_ok-code.code.items c.in_ok-list.list.items c.in_ok-kept.kept.hosted c.in_ok-kept.kept.entry) (sym c.of.ensures)
    (record {
      clean_file = c.file-file.ensures.clean;
      clean = found-none c.args.elf.now c.in_ok-kept.ensures.judged c.in_ok-code.ensures.judged;
      sections = c.in_ok-code.ensures.sections;
      marked = c.in_ok-code.ensures.marked;
      functions = c.in_ok-list.ensures ∙ ap (map function_at) symbols;
      names = subst (All (λ (f : Function). IsNameIn c.args.elf.now f.name)) (sym (c.in_ok-list.ensures ∙ ap (map function_at) c.deref-2.ensures.value))
          (All-map (λ (f : Function). IsNameIn c.args.elf.now f.name) function_at c.in_ok-kept.kept.list.items c.in_ok-kept.ensures.names);
      started = c.in_ok-kept.ensures.hosted;
      entered = c.in_ok-kept.ensures.entry;
    })
