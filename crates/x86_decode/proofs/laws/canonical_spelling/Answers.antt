use Rattle.x86_decode.proofs.CanonicalLaws.{canonical_spells}
use Rattle.x86_decode.proofs.laws.canonical_spelling.Goals as goal

pub returns : goal.returns
returns c = canonical_spells
