-- What the reply of a built-in answer keeps to, over any domain. `IsLawful` of `rw_code` asks the same over words, and besides
-- that each atom of the result and of the bytes that are written has an address. Nothing is said of a fresh region's base.
use Rattle.std.specs.Prelude.{◌≡◌, ◌≤◌, ◌+◌, ℕ, List, length, All, slice_get, true, Some}
use Rattle.rw_domain.specs.declared.place.Place.{Place}
use Rattle.rw_domain.specs.declared.place.Region.{Region}
use Rattle.rw_domain.specs.NumberPlaces.{is_inside}
use Rattle.rw_domain.specs.Operators.{Operators}
use Rattle.rw_domain.specs.Placed.{Placed}
use Rattle.rw_machine.specs.Events.{Reply}
use Rattle.rw_machine.specs.Program.{IsWide}
use Rattle.rw_code.specs.Replies.{IsFresh, IsEnd}
use Rattle.rw_sim.specs.declared.callee.Callee.{Callee}
use Rattle.rw_sim.specs.Answers.{Answer, Takes}
use Rattle.rw_sim.specs.Replies.{lost_words}

-- so many bytes from a place on are inside a writable region, and in none of its holes
pub record IsWritable (placed : Placed) (at : Place) (len : ℕ) : Type 0 where
  pub region : Region
  pub is_there : slice_get placed.regions at.region ≡ Some region
  pub writable : region.writable ≡ true
  pub inside : is_inside placed.holes region at.region at.offset (at.offset + len) ≡ true

-- A reply to a call: its result has width Q, nothing is known of the registers that the call loses, its writes are permitted,
-- and its region can be added.
pub record IsLawful {V C : Type 0} (ops : Operators V C) (placed : Placed) (callee : Callee) (reply : Reply V C) : Type 0 where
  pub result : IsWide ops reply.result
  pub scratch : reply.scratch ≡ lost_words ops callee
  pub writes : All (λ w. IsWritable placed w.0 (length w.1)) reply.writes
  pub fresh : IsFresh (length placed.regions) reply.fresh
  pub ending : IsEnd reply.ending

-- no more bytes are taken for an answer than it asks for
abbrev pub IsTakenFor : {V C : Type 0} → Answer V C → List ℕ → Type 0
IsTakenFor (Takes limit to) taken = length taken ≤ limit
IsTakenFor _ taken = Unit {0}
