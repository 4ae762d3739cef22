use Rattle.std.proofs.Common.{◌≡◌, ◌≤◌, ◌^◌, ◌++◌, [], Some, None, All, get_or, sym, ap, subst, ◌∙◌, arith}
use Rattle.std.specs.List.{cons_option}
use Rattle.std.proofs.lemmas.Result.{err_from_is_err_and}
use Rattle.rw_base.proofs.First.{each-none, each-some, each-more}
use Rattle.rw_tables.specs.Tables.{end_of, jump_fault, table_fault}
use Rattle.rw_tables.specs.Known.{Knows}
use Rattle.rw_tables.proofs.KnownMore.{step}
use Rattle.rw_tables.proofs.TableFacts.{first-tables, low-more, null_jump, tables-more}
use Rattle.rw_tables.proofs.check.checked_tables.Goals as goal

pub returns-in_err-check_table-clause-judged : goal.returns-in_err-check_table-clause-judged
returns-in_err-check_table-clause-judged c =
    let jumps = c.args.jumps.now in
    let k = c.loop-jump.jump-index in
    let fault = c.in_err-check_table.field-0.0 in
    let found : jump_fault c.args.elf.now jumps k (get_or jumps k null_jump) ≡ Some fault =
    ap (λ ts. table_fault c.args.elf.now ts (get_or jumps k null_jump).place (get_or jumps k null_jump).table) (sym c.loop-jump.invariant.tables) ∙ sym (c.in_err-check_table.ensures c.loop-jump.tables.items c.loop-jump.invariant.known) in
    let whole = each-some jumps (jump_fault c.args.elf.now jumps) k null_jump fault (omega arith) c.loop-jump.invariant.clean found ∙ first-tables c.args.elf.now jumps c.requires.jumps in
    let p = err_from_is_err_and c.from_residual.result c.from_residual.ensures.1 in
    rw (p.1, p.2) (sym whole)

pub check_table-requires-clause-led : goal.check_table-requires-clause-led
check_table-requires-clause-led c = c.loop-jump.invariant.led

pub loop-jump-preserved : goal.loop-jump-preserved
loop-jump-preserved c =
    let jumps = c.args.jumps.now in
    let k = c.loop-jump.jump-index in
    let fine = sym (c.in_ok-check_table.ensures c.loop-jump.tables.items c.loop-jump.invariant.known) in
    let none : jump_fault c.args.elf.now jumps k (get_or jumps k null_jump) ≡ None =
    ap (λ ts. table_fault c.args.elf.now ts (get_or jumps k null_jump).place (get_or jumps k null_jump).table) (sym c.loop-jump.invariant.tables) ∙ fine in
    let more = step c.args.elf.now c.loop-jump.tables.items c.loop-jump.known c.push_some.new.known (get_or jumps k null_jump).place (get_or jumps k null_jump).table fine c.loop-jump.invariant.known c.loop-jump.invariant.led c.in_ok-push_some.ensures.known in
    record {
      known = subst (λ ts. Knows ts c.push_some.new.known) (sym c.in_ok-push_some.ensures.tables) more.0;
      led = more.1;
      clean = each-more jumps (jump_fault c.args.elf.now jumps) k null_jump (omega arith) c.loop-jump.invariant.clean none;
      low = subst (All (λ t. end_of t ≤ 2 ^ 47)) (sym c.in_ok-push_some.ensures.tables) (low-more c.args.elf.now c.loop-jump.tables.items (get_or jumps k null_jump).place (get_or jumps k null_jump).table c.file-file.ensures.clean c.loop-jump.invariant.low fine);
      tables = c.in_ok-push_some.ensures.tables ∙ ap (λ ts. ts ++ cons_option (get_or jumps k null_jump).table []) c.loop-jump.invariant.tables ∙ sym (tables-more jumps k null_jump (omega arith));
    }

pub returns-clause-judged : goal.returns-clause-judged
returns-clause-judged c =
    sym (first-tables c.args.elf.now c.args.jumps.now c.requires.jumps) ∙ sym (each-none c.args.jumps.now (jump_fault c.args.elf.now c.args.jumps.now) c.loop-jump.jump-index (omega arith) c.loop-jump.invariant.clean)
