use Rattle.std.proofs.Common.{◌+◌, length, get_or, sym, ap, ◌∙◌, arith}
use Rattle.std.specs.Option.{option_or}
use Rattle.std.proofs.lemmas.Result.{err_from_is_err_and}
use Rattle.rw_base.specs.Rules.{first, first_of}
use Rattle.rw_elf.specs.Symbols.{null_symbol}
use Rattle.rw_funcs.specs.Functions.{kept_functions}
use Rattle.rw_funcs.specs.Points.{points}
use Rattle.rw_funcs.proofs.FunctionsOf.{no_function, nth-index, nth-count, nth-points-in, nth-ends-in, clean-functions}
use Rattle.rw_refs.specs.CodeReferences.{code_rules, faults_in}
use Rattle.rw_refs.proofs.Walk.{first_from_function, function-after, functions-end, all-functions}
use Rattle.rw_refs.proofs.check.check_code.Goals as goal

pub loop-function-init : goal.loop-function-init
loop-function-init c = all-functions c.args.functions.now

pub check_points-requires-clause-fits : goal.check_points-requires-clause-fits
check_points-requires-clause-fits c =
    nth-ends-in c.args.functions.now c.list-function-items.result.now c.list-function-items.ensures.list c.list-function-items.ensures.clean_file (clean-functions c.args.functions.now c.list-function-items.ensures.clean) c.loop-function.function-index no_function c.code_of-code.result.now (omega arith) c.code_of-code.ensures

pub loop-function-preserved : goal.loop-function-preserved
loop-function-preserved c =
    let i = c.loop-function.function-index in
    let bytes = c.args.functions.now in
    let code = c.code_of-code.result.now in
    let below = nth-index c.args.functions.now c.list-function-items.result.now c.list-function-items.ensures.list i (omega arith) in
    let good = c.in_ok-check_points.ensures ∙ ap (λ b. first_of (faults_in b (points (length code) (get_or c.list-function-items.result.now i no_function).span.start code))) (sym c.requires.functions) ∙ ap (λ ps. first_of (faults_in bytes ps)) (nth-points-in bytes c.list-function-items.result.now c.list-function-items.ensures.list i no_function c.code_of-code.result.now (omega arith) c.code_of-code.ensures) in
    sym (function-after bytes (kept_functions bytes) i null_symbol below ∙ ap (λ o. option_or o (first_from_function bytes (kept_functions bytes) (i + 1))) (sym good)) ∙ c.loop-function.invariant

pub returns-in_err-check_points : goal.returns-in_err-check_points
returns-in_err-check_points c =
    let i = c.loop-function.function-index in
    let bytes = c.args.functions.now in
    let code = c.code_of-code.result.now in
    let below = nth-index c.args.functions.now c.list-function-items.result.now c.list-function-items.ensures.list i (omega arith) in
    let bad = c.in_err-check_points.ensures ∙ ap (λ b. first_of (faults_in b (points (length code) (get_or c.list-function-items.result.now i no_function).span.start code))) (sym c.requires.functions) ∙ ap (λ ps. first_of (faults_in bytes ps)) (nth-points-in bytes c.list-function-items.result.now c.list-function-items.ensures.list i no_function c.code_of-code.result.now (omega arith) c.code_of-code.ensures) in
    let p = err_from_is_err_and c.from_residual.result c.from_residual.ensures.1 in
    rw (p.1, p.2)
    (sym (function-after bytes (kept_functions bytes) i null_symbol below ∙ ap (λ o. option_or o (first_from_function bytes (kept_functions bytes) (i + 1))) (sym bad)) ∙ c.loop-function.invariant ∙ ap (λ b. first (code_rules b)) c.requires.functions)

pub returns : goal.returns
returns c =
    let size = nth-count c.args.functions.now c.list-function-items.result.now c.list-function-items.ensures.list in
    sym (functions-end c.args.functions.now (kept_functions c.args.functions.now) c.loop-function.function-index (omega (arith, size))) ∙ c.loop-function.invariant ∙ ap (λ b. first (code_rules b)) c.requires.functions
