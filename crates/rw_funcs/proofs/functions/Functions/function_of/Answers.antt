use Rattle.std.proofs.Common.{◌∙◌}
use Rattle.rw_funcs.proofs.Count.{list-apart, list-some, list-few}
use Rattle.rw_funcs.proofs.FunctionsOf.{clean-functions}
use Rattle.rw_funcs.proofs.functions.Functions.function_of.Goals as goal

pub place_in-requires-clause-apart : goal.place_in-requires-clause-apart
place_in-requires-clause-apart c = list-apart c.self.inside.file.value c.deref.result.now (c.deref.ensures.value ∙ c.self.invariant.functions) (clean-functions c.self.inside.file.value c.self.invariant.clean)

pub place_in-requires-clause-some : goal.place_in-requires-clause-some
place_in-requires-clause-some c = list-some c.self.inside.file.value c.deref.result.now (c.deref.ensures.value ∙ c.self.invariant.functions) (clean-functions c.self.inside.file.value c.self.invariant.clean)

pub place_in-requires-clause-few : goal.place_in-requires-clause-few
place_in-requires-clause-few c = list-few c.self.inside.file.value c.deref.result.now (c.deref.ensures.value ∙ c.self.invariant.functions) c.self.invariant.clean_file
