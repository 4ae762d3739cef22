use Rattle.std.proofs.Common.{◌≡◌, ◌*◌, ◌≤◌, map, take}
use Rattle.std.specs.Prelude.{Ok}
use Rattle.asm_print.specs.Text.{text_of}
use Rattle.rw_out.specs.Items.{copy_item}
use Rattle.rw_out.specs.Writing.{WritesOn}
use Rattle.rw_out.proofs.text.write_copies.Given as goal

abbrev pub invariant-loop-copy : goal.invariant-loop-copy
invariant-loop-copy g l = record {
  few : l.written ≤ 8192 * l.copy-index;
  same : g.S.Sink.faults l.sink ≡ g.S.Sink.faults l.initial.sink;
  text : WritesOn (g.S.Sink.held l.initial.sink) (g.S.Sink.held l.sink) 0 (Ok l.written) (text_of (map (copy_item l.picture) (take l.copy-index l.copy-items)));
}
