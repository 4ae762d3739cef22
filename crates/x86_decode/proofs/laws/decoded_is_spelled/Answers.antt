use Rattle.x86_decode.proofs.SpellingLaws.{decode_takes}
use Rattle.x86_decode.proofs.laws.decoded_is_spelled.Goals as goal

pub returns : goal.returns
returns c = λ i n address bytes. decode_takes address bytes i n
