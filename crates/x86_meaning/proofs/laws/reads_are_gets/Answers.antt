use Rattle.x86_meaning.proofs.MemberLaws.{reads_are_gets as law}
use Rattle.x86_meaning.proofs.laws.reads_are_gets.Goals as goal

pub returns : goal.returns
returns g c = law c.args.insn.now
