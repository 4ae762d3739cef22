use Rattle.std.proofs.Common.{refl}
use Rattle.rw_code.proofs.laws.first_words_stand.Goals as goal

pub returns : goal.returns
returns c = record {
  hosted = record { count = refl; words = refl; environment = refl; stack = refl; returns = refl; arguments = refl };
  own = record { stack = refl; words = refl; arguments = refl };
}
