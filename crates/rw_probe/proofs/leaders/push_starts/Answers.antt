use Rattle.std.proofs.Common.{get_or, sym, ap, ◌∙◌, ◌==◌, refl, arith}
use Rattle.std.specs.List.{list_any}
use Rattle.rw_funcs.specs.Functions.{kept_functions}
use Rattle.rw_funcs.specs.Points.{is_one_of}
use Rattle.rw_funcs.proofs.FunctionsOf.{no_function}
use Rattle.rw_probe.specs.Leaders.{is_start}
use Rattle.rw_probe.proofs.Adding.{or-false, adds-one, adds-same, adds-more, adds-all}
use Rattle.rw_probe.proofs.Starting.{starts-are}
use Rattle.rw_probe.proofs.leaders.push_starts.Goals as goal

pub loop-function-init : goal.loop-function-init
loop-function-init c = λ a. sym (or-false (is_one_of c.args.list.now.items a))

pub loop-function-preserved : goal.loop-function-preserved
loop-function-preserved c =
    let list = c.list-function-items.result.now in
    adds-more (λ a f. f.span.start == a) c.list-function-items.result.now c.loop-function.function-index no_function c.args.list.now.items c.loop-function.list.items c.push.new.self.items (omega arith) c.loop-function.invariant
    (adds-one c.loop-function.list.items c.push.new.self.items (get_or c.list-function-items.result.now c.loop-function.function-index no_function).span.start (λ a. (get_or c.list-function-items.result.now c.loop-function.function-index no_function).span.start == a) c.in_ok-push.ensures.items (λ a. refl))

pub returns : goal.returns
returns c =
    adds-same c.args.list.now.items c.loop-function.list.items (λ a. list_any (λ f. f.span.start == a) c.list-function-items.result.now) (is_start c.args.functions.now)
    (λ a. ap (list_any (λ f. f.span.start == a)) c.list-function-items.ensures.list ∙ starts-are a (kept_functions c.args.functions.now))
    (adds-all (λ a f. f.span.start == a) c.list-function-items.result.now c.loop-function.function-index c.args.list.now.items c.loop-function.list.items (omega arith) c.loop-function.invariant)
