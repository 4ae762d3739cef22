use Rattle.std.proofs.Common.{◌≡◌, ◌+◌, ◌*◌, ◌≤◌, map, take}
use Rattle.std.specs.Prelude.{Ok}
use Rattle.asm_items.specs.declared.item.Item.TheVariants.{Weak}
use Rattle.asm_print.specs.Text.{text_of}
use Rattle.rw_elf.specs.Name.{name_bytes}
use Rattle.rw_out.specs.Writing.{WritesOn}
use Rattle.rw_out.proofs.text.write_weak.Given as goal

abbrev pub invariant-loop-name : goal.invariant-loop-name
invariant-loop-name g l = record {
  few : l.written ≤ l.done + 8192 * l.name-index;
  same : g.S.Sink.faults l.sink ≡ g.S.Sink.faults l.initial.sink;
  text : WritesOn (g.S.Sink.held l.initial.sink) (g.S.Sink.held l.sink) l.done (Ok l.written) (text_of (map (λ n. Weak (name_bytes l.picture n)) (take l.name-index l.weak)));
}
