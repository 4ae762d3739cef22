use Rattle.x86_decode.proofs.SpellingLaws.{decode_only}
use Rattle.x86_decode.proofs.laws.spelled_is_decoded.Goals as goal

pub returns : goal.returns
returns c = λ i n address bytes. decode_only address bytes i n
