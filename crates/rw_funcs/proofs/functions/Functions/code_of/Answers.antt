use Rattle.std.proofs.Common.{◌-◌, drop, take, ap, ◌∙◌}
use Rattle.rw_funcs.proofs.FunctionsOf.{address-inside, code-at, never-outside, span-ascends}
use Rattle.rw_funcs.proofs.functions.Functions.code_of.Goals as goal

pub overflow_sub-function : goal.overflow_sub-function
overflow_sub-function c = (address-inside c.args.function.now.span.start c.in-Some.part.now c.in-Some.ensures.some.has).0

pub overflow_sub-function-in-Some : goal.overflow_sub-function-in-Some
overflow_sub-function-in-Some c = span-ascends c.args.self.now c.args.function.now c.requires

pub returns-in-Some : goal.returns-in-Some
returns-in-Some c =
    code-at c.args.self.now c.in-Some.ensures.clean_file c.in-Some.ensures.clean c.args.function.now c.in-Some.part.now c.in-Some.ensures.some c.front.result.now
    (c.front.ensures ∙ ap (take (c.args.function.now.span.end - c.args.function.now.span.start)) (c.rest.ensures ∙ ap (drop (c.args.function.now.span.start - c.in-Some.part.now.section.addr)) c.deref.ensures.value))

pub returns-in-None : goal.returns-in-None
returns-in-None c = absurd (never-outside c.args.self.now c.in-None.ensures.clean c.args.function.now c.requires c.in-None.ensures.outside)
