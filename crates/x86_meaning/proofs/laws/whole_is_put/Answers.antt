use Rattle.x86_meaning.proofs.MemberLaws.{whole_is_put as law}
use Rattle.x86_meaning.proofs.laws.whole_is_put.Goals as goal

pub returns : goal.returns
returns g c = law c.args.insn.now
