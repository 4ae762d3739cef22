-- What a domain computes: one record of operators over its words W and its bytes B.
-- Each operator takes words of any width and looks at their low bytes, so that it is total.
use Rattle.std.specs.Prelude.{◌≡◌, ◌≤◌, ℕ, ◌+◌, ℤ, Bool, List, slice_get, Option, Some, Result, Ok}
use Rattle.rw_base.specs.declared.width.Width.{Width}
use Rattle.x86_insn.specs.declared.kinds.AluOp.{AluOp}
use Rattle.x86_insn.specs.declared.kinds.OneOp.{OneOp}
use Rattle.x86_insn.specs.declared.kinds.ShiftOp.{ShiftOp}
use Rattle.x86_insn.specs.declared.kinds.BitOp.{BitOp}
use Rattle.x86_insn.specs.declared.kinds.ScanOp.{ScanOp}
use Rattle.rw_domain.specs.declared.cause.Cause.{Cause}
use Rattle.rw_domain.specs.declared.flags.Flags.{Flags}
use Rattle.rw_domain.specs.declared.place.Access.{Access}
use Rattle.rw_domain.specs.declared.place.Place.{Place}
use Rattle.rw_domain.specs.declared.place.Region.{Region}

pub record Operators (W B : Type 0) : Type 0 where
  -- a number of a width; an undefined word; the number that a word is
  pub num : Width → ℕ → W
  pub undef : Width → W
  pub number : Width → W → Option ℕ
  -- byte i of a word, the lowest first; the word of so many bytes
  pub split : W → ℕ → B
  pub join : Width → List B → W
  -- results and flags; the last argument is the flags before
  pub alu : AluOp → Width → W → W → Flags → Result (W × Flags) Cause
  pub one : OneOp → Width → W → Flags → W × Flags
  pub shift : ShiftOp → Width → W → W → Flags → Result (W × Flags) Cause
  -- the low word and the high word
  pub mul : Bool → Width → W → W → W × W × Flags
  -- high, low, divisor: quotient and rest, or the trap of a division
  pub div : Bool → Width → W → W → W → Result (Option (W × W)) Cause
  -- signed or not, from a width, to a width
  pub extend : Bool → Width → W → Width → W
  pub swap : Width → W → W
  pub bit : BitOp → Width → W → W → Flags → W × Flags
  pub scan : ScanOp → Width → W → W × Flags
  -- base, index with its scale, displacement
  pub sum : Option W → Option (W × ℕ) → ℤ → W
  pub canary : W
  pub place : W → ℕ → Access → Result Place Cause
  -- the number of the region with the stack
  pub stack : ℕ
  pub stack_fits : W → Bool
  pub regions : List Region
  -- flags and stack cells are forgotten where the rules of the symbolic machine say so
  pub forgets : Bool

-- so many bytes from a place on are inside its region
abbrev pub IsInside : List Region → Place → ℕ → Type 0
IsInside regions place len =
    (region : Region) × (slice_get regions place.region ≡ Some region) × (place.offset + len ≤ region.size)

-- the places that the operators give are inside their regions
abbrev pub PlacesInside : {W B : Type 0} → Operators W B → Type 0
PlacesInside {W} ops = (a : W) (len : ℕ) (access : Access) (place : Place) → ops.place a len access ≡ Ok place → IsInside ops.regions place len
