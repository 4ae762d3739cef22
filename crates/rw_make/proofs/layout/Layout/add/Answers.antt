use Rattle.std.proofs.Common.{rules}
use Rattle.rw_make.specs.Layout.{piece_of}
use Rattle.rw_make.proofs.Holding.{holds_more}
use Rattle.rw_make.proofs.layout.Layout.add.Goals as goal

pub returns : goal.returns
unfolding piece_of
returns c pieces holds = holds_more pieces (piece_of c.args.section.now) c.args.self.now _ holds (search rules) (search rules) (search rules)
