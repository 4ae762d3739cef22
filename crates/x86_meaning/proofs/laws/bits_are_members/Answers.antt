use Rattle.x86_meaning.proofs.MemberLaws.{register_members, flag_members}
use Rattle.x86_meaning.proofs.laws.bits_are_members.Goals as goal

pub returns : goal.returns
returns c = record { registers = register_members; flags = flag_members }
