use Rattle.std.proofs.Common.{◌≡◌, get_or, Some, None, sym, ap, ◌∙◌}
use Rattle.std.specs.Prelude.{position}
use Rattle.rw_funcs.specs.declared.function.Function.{Function}
use Rattle.rw_funcs.specs.Functions.{function_of, functions_of, has_address}
use Rattle.rw_code.specs.declared.point.FilePoint.TheVariants.{Past}
use Rattle.rw_code.proofs.CodeWords.{at-end, before-end, behind-in, behind-none}
use Rattle.rw_code.proofs.file_words.FileWords.behind.Goals as goal

pub returns-then-end-span : goal.returns-then-end-span
returns-then-end-span c =
    let functions = functions_of c.args.self.now.elf.now in
    let none : Function = record { span = record { start = 0; end = 0 }; name = record { at = 0; len = 0 } } in
    let list : c.list.result.now ≡ functions = c.list.ensures.list ∙ ap functions_of c.args.self.now.same_funcs in
    let item = ap (λ fs. get_or fs c.in-Some.number none) list in
    let found : position (has_address c.args.address) functions ≡ Some c.in-Some.number =
    sym (ap (λ file. function_of file c.args.address) c.args.self.now.same_funcs) ∙ sym c.function_of.ensures ∙ c.in-Some.is in
    ap (λ f. Past f.span.start) item
    ∙ sym (behind-in functions c.args.address c.args.end c.in-Some.number none found ∙ at-end c.args.end (get_or functions c.in-Some.number none) (c.if-end-span.true ∙ ap (λ f. f.span.end) item))

pub returns-else-end-span : goal.returns-else-end-span
returns-else-end-span c =
    let functions = functions_of c.args.self.now.elf.now in
    let none : Function = record { span = record { start = 0; end = 0 }; name = record { at = 0; len = 0 } } in
    let list : c.list.result.now ≡ functions = c.list.ensures.list ∙ ap functions_of c.args.self.now.same_funcs in
    let item = ap (λ fs. get_or fs c.in-Some.number none) list in
    let found : position (has_address c.args.address) functions ≡ Some c.in-Some.number =
    sym (ap (λ file. function_of file c.args.address) c.args.self.now.same_funcs) ∙ sym c.function_of.ensures ∙ c.in-Some.is in
    sym
    (behind-in functions c.args.address c.args.end c.in-Some.number none found
    ∙ before-end c.args.end (get_or functions c.in-Some.number none) (λ e. c.if-end-span.false (e ∙ sym (ap (λ f. f.span.end) item))))

pub returns-in-None : goal.returns-in-None
returns-in-None c =
    let functions = functions_of c.args.self.now.elf.now in
    let found : position (has_address c.args.address) functions ≡ None =
    sym (ap (λ file. function_of file c.args.address) c.args.self.now.same_funcs) ∙ sym c.function_of.ensures ∙ c.in-None.is in
    sym (behind-none functions c.args.address c.args.end found)
