use Rattle.std.proofs.Common.{◌≡◌, ℕ, ◌+◌, ◌*◌, ◌≤◌, ◌++◌, List, length}
use Rattle.std.specs.Prelude.{Ok}
use Rattle.asm_items.specs.declared.item.Item.{Item}
use Rattle.asm_print.specs.Text.{text_of}
use Rattle.rw_out.specs.Items.{main_items}
use Rattle.rw_out.specs.Positions.{IsAt, rest}
use Rattle.rw_out.specs.Writing.{WritesOn}
use Rattle.rw_out.specs.Kept.{probes_in}
use Rattle.rw_out.proofs.text.write_main.Given as goal

abbrev pub invariant-loop-shown : goal.invariant-loop-shown
invariant-loop-shown g l = record {
  at : IsAt l.picture l.position;
  same : g.S.Sink.faults l.sink ≡ g.S.Sink.faults l.initial.sink;
  so_far : (before : List (Item (List ℕ)))
      × (main_items l.picture (probes_in l.probes) ≡ before ++ rest l.picture (probes_in l.probes) l.position)
      × (l.written ≤ l.done + 8192 * length before)
      × WritesOn (g.S.Sink.held l.initial.sink) (g.S.Sink.held l.sink) l.done (Ok l.written) (text_of before);
}

abbrev pub decreases-loop-shown : goal.decreases-loop-shown
decreases-loop-shown g l = length (rest l.picture (probes_in l.probes) l.position)
