use Rattle.std.proofs.Common.{◌≡◌, ◌+◌, ◌*◌, ◌≤◌, length, take}
use Rattle.asm_items.specs.Lines.{copies_of}
use Rattle.rw_layout.specs.Program.{seen, shown}
use Rattle.rw_layout.specs.NameTable.{IsTable, named_at, own_among}
use Rattle.rw_layout.proofs.names.name_addresses.Given as goal

abbrev pub invariant-loop-i : goal.invariant-loop-i
invariant-loop-i l = record {
  next : l.next ≡ l.first + 16 * length (own_among (shown (seen l.text)) (take l.i (shown (seen l.text))));
  few : length (own_among (shown (seen l.text)) (take l.i (shown (seen l.text)))) ≤ l.i;
  table : IsTable l.text.names l.list.items (named_at l.bases l.first (copies_of (shown (seen l.text))) (own_among (shown (seen l.text)) (take l.i (shown (seen l.text)))));
}
