use Rattle.std.proofs.Common.{◌+◌, ◌<◌, ◌≤◌, get_or, length, sym, ap, subst, ◌∙◌, arith}
use Rattle.std.specs.Prelude.{◌||◌}
use Rattle.std.specs.List.{list_any}
use Rattle.rw_elf.specs.Symbols.{null_symbol}
use Rattle.rw_elf.specs.Tables.{elf_rules}
use Rattle.rw_base.specs.Rules.{first}
use Rattle.rw_funcs.specs.Found.{found_rules}
use Rattle.rw_funcs.specs.Functions.{end_of, kept_functions}
use Rattle.rw_funcs.specs.Points.{is_one_of, points, points_of}
use Rattle.rw_funcs.proofs.FunctionsOf.{no_function, nth-index, nth-count, nth-points-in, nth-ends-in, clean-functions}
use Rattle.rw_probe.specs.Collecting.{begins_by}
use Rattle.rw_probe.specs.Leaders.{is_behind, is_named}
use Rattle.rw_probe.proofs.Adding.{or-false, adds-same, adds-more, adds-all}
use Rattle.rw_probe.proofs.Behind.{begins-all}
use Rattle.rw_probe.proofs.Starting.{code-end}
use Rattle.rw_probe.proofs.blocks.push_functions.Goals as goal

pub loop-function-init : goal.loop-function-init
loop-function-init c = λ a. sym (or-false (is_one_of c.args.list.now.items a))

pub push_points-requires-clause-fits : goal.push_points-requires-clause-fits
push_points-requires-clause-fits c =
    nth-ends-in c.args.functions.now c.list-function-items.result.now c.list-function-items.ensures.list c.list-function-items.ensures.clean_file (clean-functions c.args.functions.now c.list-function-items.ensures.clean) c.loop-function.function-index no_function c.code_of-code.result.now (omega arith) c.code_of-code.ensures

pub loop-function-preserved : goal.loop-function-preserved
loop-function-preserved c =
    let i = c.loop-function.function-index in
    let bytes = c.args.functions.now in
    let elf = c.args.elf.now in
    let list = c.list-function-items.result.now in
    let code = c.code_of-code.result.now in
    let is = c.list-function-items.ensures.list in
    let start = (get_or c.list-function-items.result.now c.loop-function.function-index no_function).span.start in
    let same = c.requires.functions in
    let low = nth-index c.args.functions.now c.list-function-items.result.now c.list-function-items.ensures.list c.loop-function.function-index (omega arith) in
    let end = code-end c.args.functions.now c.list-function-items.result.now c.list-function-items.ensures.list c.list-function-items.ensures.clean_file c.list-function-items.ensures.clean c.loop-function.function-index c.code_of-code.result.now (omega arith) c.code_of-code.ensures in
    let its_points = nth-points-in c.args.functions.now c.list-function-items.result.now c.list-function-items.ensures.list c.loop-function.function-index no_function c.code_of-code.result.now (omega arith) c.code_of-code.ensures in
    adds-more (λ a f. begins_by c.args.elf.now (end_of f) (points_of c.args.elf.now f) a) (kept_functions c.args.elf.now) c.loop-function.function-index null_symbol c.args.list.now.items c.loop-function.list.items c.push_points.new.list.items (subst (λ b. i < length (kept_functions b)) same low) c.loop-function.invariant
    (adds-same c.loop-function.list.items c.push_points.new.list.items (begins_by c.args.elf.now (start + length code) (points (length code) start code)) (λ a. begins_by c.args.elf.now (end_of (get_or (kept_functions c.args.elf.now) i null_symbol)) (points_of c.args.elf.now (get_or (kept_functions c.args.elf.now) i null_symbol)) a)
    (λ a.
    ap (λ e. begins_by c.args.elf.now e (points (length code) start code) a) (end ∙ ap (λ b. end_of (get_or (kept_functions b) i null_symbol)) same)
    ∙ ap (λ ps. begins_by c.args.elf.now (end_of (get_or (kept_functions c.args.elf.now) i null_symbol)) ps a) (its_points ∙ ap (λ b. points_of b (get_or (kept_functions b) i null_symbol)) same))
    c.in_ok-push_points.ensures)

pub returns : goal.returns
returns c =
    let size = nth-count c.args.functions.now c.list-function-items.result.now c.list-function-items.ensures.list in
    let test = c.loop-function-test.false in
    let past = subst (λ b. length (kept_functions b) ≤ c.loop-function.function-index) c.requires.functions (omega (arith, size, test)) in
    adds-same c.args.list.now.items c.loop-function.list.items (λ a. list_any (λ f. begins_by c.args.elf.now (end_of f) (points_of c.args.elf.now f) a) (kept_functions c.args.elf.now)) (λ a. is_named c.args.elf.now a || is_behind c.args.elf.now a)
    (λ a. begins-all c.args.elf.now a (sym (ap (λ b. first (elf_rules b)) c.requires.functions) ∙ c.list-function-items.ensures.clean_file) (sym (ap (λ b. first (found_rules b)) c.requires.functions) ∙ c.list-function-items.ensures.clean))
    (adds-all (λ a f. begins_by c.args.elf.now (end_of f) (points_of c.args.elf.now f) a) (kept_functions c.args.elf.now) c.loop-function.function-index c.args.list.now.items c.loop-function.list.items past c.loop-function.invariant)
