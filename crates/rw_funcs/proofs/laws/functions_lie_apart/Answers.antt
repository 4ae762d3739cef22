use Rattle.rw_funcs.proofs.Count.{clean-apart, clean-code, clean-inside, clean-some}
use Rattle.rw_funcs.proofs.Facts.{entered}
use Rattle.rw_funcs.proofs.FunctionsOf.{clean-functions}
use Rattle.rw_funcs.proofs.laws.functions_lie_apart.Goals as goal

pub returns : goal.returns
returns c =
    record {
      apart = clean-apart;
      some = clean-some;
      code = clean-code;
      inside = clean-inside;
      entered = λ bytes clean. (entered bytes (clean-functions bytes clean)).0;
      entry = λ bytes clean. (entered bytes (clean-functions bytes clean)).1;
    }
