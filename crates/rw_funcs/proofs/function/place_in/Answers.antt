use Rattle.std.proofs.Common.{◌≡◌, Some, sym, ◌∙◌, arith}
use Rattle.std.specs.List.{position}
use Rattle.std.proofs.lemmas.List.Quantifiers.{position-Some}
use Rattle.rw_funcs.specs.Functions.{has_address}
use Rattle.rw_funcs.specs.declared.function.Function.{Function}
use Rattle.rw_elf.proofs.Search.{ascending}
use Rattle.rw_funcs.proofs.function.place_in.Goals as goal

abbrev no_function : Function
no_function = record { span = record { start = 0; end = 0 }; name = record { at = 0; len = 0 } }

pub number_around-requires-clause-ascending : goal.number_around-requires-clause-ascending
number_around-requires-clause-ascending c = ascending (λ (f : Function). f.span.start) (λ (f : Function). f.span.end) c.args.list.now c.requires.apart c.requires.some

pub overflow_cast-result : goal.overflow_cast-result
overflow_cast-result c =
    let found : position (has_address c.args.address) c.args.list.now ≡ Some c.in_ok-number.number = sym c.number_around.ensures ∙ c.in_ok-number.was in
    let low = (position-Some (has_address c.args.address) c.args.list.now c.in_ok-number.number no_function found).0 in
    let few = c.requires.few in
    omega (arith, low, few)
