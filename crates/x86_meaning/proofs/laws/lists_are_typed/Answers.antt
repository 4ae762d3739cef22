use Rattle.x86_meaning.specs.Typing.{no_widths}
use Rattle.x86_meaning.proofs.Typed.{micro-typed}
use Rattle.x86_meaning.proofs.laws.lists_are_typed.Goals as goal

pub returns : goal.returns
returns g c = micro-typed no_widths c.args.insn.now c.requires
