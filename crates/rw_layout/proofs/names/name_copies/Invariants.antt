use Rattle.std.proofs.Common.{◌≡◌, length, take}
use Rattle.asm_items.specs.Lines.{copies_of}
use Rattle.rw_layout.specs.Program.{seen, shown}
use Rattle.rw_layout.specs.NameTable.{IsTable, copied_at}
use Rattle.rw_layout.proofs.names.name_copies.Given as goal

abbrev pub invariant-loop-i : goal.invariant-loop-i
invariant-loop-i l = record {
  copies : l.copies ≡ length (copies_of (take l.i (shown (seen l.text))));
  table : IsTable l.text.names l.list.items (copied_at l.bases (copies_of (take l.i (shown (seen l.text)))));
}
