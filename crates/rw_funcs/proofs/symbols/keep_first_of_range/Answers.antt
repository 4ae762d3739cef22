use Rattle.std.proofs.Common.{rules}
use Rattle.std.proofs.lemmas.Fn.{dedup_same}
use Rattle.rw_funcs.specs.Functions.{same_range}
use Rattle.rw_funcs.proofs.symbols.keep_first_of_range.Goals as goal

pub returns : goal.returns
returns c = dedup_same _ same_range _ (λ x y b f' x' y' k. search rules) _ _ c.dedup_by_key.ensures.filtered
