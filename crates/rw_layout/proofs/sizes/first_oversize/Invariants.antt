use Rattle.std.proofs.Common.{ℕ, List, map}
use Rattle.asm_items.specs.Named.{named}
use Rattle.rw_layout.proofs.SizeFacts.{Summed}
use Rattle.rw_layout.specs.Sizes.{AreWithin}
use Rattle.rw_layout.proofs.sizes.first_oversize.Given as goal

abbrev pub invariant-loop-i : goal.invariant-loop-i
invariant-loop-i l = record { within : AreWithin l.sizes; summed : (names : List (List ℕ)) → Summed (map (named names) l.items) l.i l.sizes }
