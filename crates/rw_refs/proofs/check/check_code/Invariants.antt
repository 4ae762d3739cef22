use Rattle.std.proofs.Common.{◌≡◌}
use Rattle.rw_base.specs.Rules.{first}
use Rattle.rw_funcs.specs.Functions.{kept_functions}
use Rattle.rw_refs.specs.CodeReferences.{code_rules}
use Rattle.rw_refs.proofs.Walk.{first_from_function}
use Rattle.rw_refs.proofs.check.check_code.Given as goal

abbrev pub invariant-loop-function : goal.invariant-loop-function
invariant-loop-function l = first_from_function l.functions (kept_functions l.functions) l.function-index ≡ first (code_rules l.functions)
