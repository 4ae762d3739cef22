use Rattle.rw_funcs.proofs.Facts.{code_length}
use Rattle.rw_funcs.proofs.Filled.{filled, filled-one}
use Rattle.rw_funcs.proofs.FunctionsOf.{clean-functions}
use Rattle.rw_funcs.proofs.laws.points_fill_functions.Goals as goal

pub returns : goal.returns
returns c = record {
  size = λ bytes f clean found here. code_length bytes f clean (clean-functions bytes found) here;
  filled = filled;
  one = filled-one;
}
