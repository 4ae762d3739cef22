use Rattle.std.proofs.Common.{◌≡◌, ℕ, ◌<◌, get_or, None}
use Rattle.rw_reloc.specs.Slots.{null_slot}
use Rattle.rw_data.specs.Pieces.{quad_of}
use Rattle.rw_data.proofs.picture.Picture.quad_from.Given as goal

-- none of the slots up to here holds an address
abbrev pub invariant-loop-slot : goal.invariant-loop-slot
invariant-loop-slot l = (k : ℕ) → k < l.slot-index → quad_of l.self (get_or l.slot-items k null_slot) ≡ None
