use Rattle.x86_meaning.proofs.MemberLaws.{touches_are_puts as law}
use Rattle.x86_meaning.proofs.laws.touches_are_puts.Goals as goal

pub returns : goal.returns
returns g c = law c.args.insn.now
