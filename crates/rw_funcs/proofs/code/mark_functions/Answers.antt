use Rattle.std.proofs.Common.{sym, ap, subst, ◌∙◌, arith}
use Rattle.std.specs.Prelude.{All}
use Rattle.std.specs.List.{flat_map}
use Rattle.std.proofs.lemmas.Result.{err_from_is_err_and}
use Rattle.rw_base.proofs.First.{each-none, each-some, each-more}
use Rattle.rw_elf.specs.Symbols.{null_symbol}
use Rattle.rw_funcs.specs.Found.{HasMarks}
use Rattle.rw_funcs.specs.Points.{points_of}
use Rattle.rw_funcs.proofs.FunctionsOf.{next-function, point_finding, first-point_rules, take-whole, points-of-list}
use Rattle.rw_funcs.proofs.code.mark_functions.Goals as goal

pub mark_function-requires : goal.mark_function-requires
mark_function-requires c =
    let next = next-function c.args.elf.now c.args.list.now c.requires.list c.requires.clean c.requires.functions c.loop-function.function-index null_symbol (omega arith) in
    (c.loop-function.invariant.sections, (subst (λ b. All (HasMarks b) c.loop-function.code) (sym next.same) c.loop-function.invariant.marked, (next.behind, (c.requires.clean, (c.requires.functions, next.kept)))))

pub returns-in_err-mark_function-clause-fault : goal.returns-in_err-mark_function-clause-fault
returns-in_err-mark_function-clause-fault c =
    let p = err_from_is_err_and c.from_residual.result c.from_residual.ensures.1 in
    rw (p.1, p.2)
    (each-some c.args.list.now (point_finding c.args.elf.now) c.loop-function.function-index null_symbol _ (omega arith) c.loop-function.invariant.clean (sym c.in_err-mark_function.ensures.fault)
    ∙ first-point_rules c.args.elf.now c.args.list.now c.requires.list)

pub loop-function-preserved : goal.loop-function-preserved
loop-function-preserved c =
    let next = next-function c.args.elf.now c.args.list.now c.requires.list c.requires.clean c.requires.functions c.loop-function.function-index null_symbol (omega arith) in
    record {
      sections = c.mark_function.ensures.sections;
      marked = subst (λ ps. All (HasMarks ps) c.mark_function.new.code) next.more c.in_ok-mark_function.ensures.marked;
      clean = each-more c.args.list.now (point_finding c.args.elf.now) c.loop-function.function-index null_symbol (omega arith) c.loop-function.invariant.clean (sym c.in_ok-mark_function.ensures.fault);
    }

pub returns-clause-fault : goal.returns-clause-fault
returns-clause-fault c =
    each-none c.args.list.now (point_finding c.args.elf.now) c.loop-function.function-index (omega arith) c.loop-function.invariant.clean
    ∙ first-point_rules c.args.elf.now c.args.list.now c.requires.list

pub returns-clause-marked : goal.returns-clause-marked
returns-clause-marked c =
    subst (λ ps. All (HasMarks ps) c.loop-function.code)
    (ap (flat_map (points_of c.args.elf.now)) (take-whole c.loop-function.function-index c.args.list.now (omega arith)) ∙ points-of-list c.args.elf.now c.args.list.now c.requires.list)
    c.loop-function.invariant.marked
