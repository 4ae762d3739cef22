use Rattle.std.proofs.Common.{◌≡◌, ◌∙◌, ap, subst, List, ℕ, ◌++◌}
use Rattle.rw_io.specs.WriteAll.{WritesAll}
use Rattle.asm_print.specs.Line.{cut}
use Rattle.asm_print.proofs.Cut.{cut-short}
use Rattle.retro.specs.Blocks.{leader_line}
use Rattle.retro.proofs.Leaders.{leader-le}
use Rattle.retro.proofs.blocks.write_leader.Goals as goal

pub returns-clause-bytes : goal.returns-clause-bytes
returns-clause-bytes g c =
    let text = leader_line c.args.number c.args.address c.args.name.now c.args.probe in
    let whole = c.put_leader.ensures ∙ ap (λ (x : List ℕ). cut (x ++ text)) c.new-line.ensures in
    let same : c.deref.result.now ≡ text = c.deref.ensures.0 ∙ whole ∙ cut-short text (leader-le c.args.number c.args.address c.args.name.now c.args.probe c.requires) in
    subst (λ x. WritesAll (g.O.Sink.held c.args.out.now) (g.O.Sink.held c.write_all.new.sink) c.write_all.result x) same c.write_all.ensures.bytes
