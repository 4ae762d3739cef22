-- When a machine over words corresponds to one over numbers: words at some addresses, atoms that are known, and imported
-- symbols and points by tests. In a spare region the second may have bytes of its own.
use Rattle.std.specs.Prelude.{◌≡◌, ℕ, List, Bool, true, Some, None, slice_get}
use Rattle.rw_words.specs.declared.atom.Atom.{Atom}
use Rattle.rw_words.specs.declared.atom.Cell.{Cell}
use Rattle.rw_words.specs.Addresses.{Addresses}
use Rattle.rw_domain.specs.declared.place.Region.{Region}
use Rattle.rw_domain.specs.Placed.{Placed}
use Rattle.rw_domain.specs.LaidOut.{DomainsAreLaidOut, WordStands, KnownByteStands}
use Rattle.rw_machine.specs.Program.{Program}
use Rattle.rw_machine.specs.Events.{Reply}
use Rattle.rw_machine.specs.Step.{Machine, Outcome, placed_with}
use Rattle.rw_machine.specs.Stands.{Spare, MachineStands, OutcomeStands, ProgramsStand, ReplyStands, reply_room}
use Rattle.rw_machine.specs.Domains.{symbols, numbers}

-- over words the spare region has no bytes
abbrev pub IsEmptyOverWords : {F : Type 0} → Spare F → Placed → Type 0
IsEmptyOverWords None words = Unit {0}
IsEmptyOverWords (Some spare) words = (region : Region) × (slice_get words.regions spare.0 ≡ Some region) × (region.size ≡ 0)

module _ (l : Addresses) (known : Atom → Bool) where
  module _ (spare : Spare ℕ) where
    -- regions lie at the addresses
    abbrev pub RegionsCorrespond : Placed → Placed → Type 0
    RegionsCorrespond words others = DomainsAreLaidOut l known words others × IsEmptyOverWords spare words

    -- registers, flags, memory, regions and points; all atoms of the first are known
    abbrev pub MachinesCorrespond : {P O : Type 0} → (P → O → Bool) → Machine Placed (List Cell) Cell P → Machine Placed ℕ ℕ O → Type 0
    MachinesCorrespond near m o = MachineStands (WordStands l known) (KnownByteStands l known) spare RegionsCorrespond (λ p q. near p q ≡ true) m o

    -- answers to two machines, which leave regions that lie at the addresses
    abbrev pub RepliesCorrespond : {P O A : Type 0} → Program P A (List Cell) → Machine Placed (List Cell) Cell P → Machine Placed ℕ ℕ O → Reply (List Cell) Cell → Reply ℕ ℕ → Type 0
    RepliesCorrespond c m o r q =
        ReplyStands (WordStands l known) (KnownByteStands l known) spare (reply_room symbols c m r.ending) r q
        × DomainsAreLaidOut l known (placed_with symbols m.placed r.fresh) (placed_with numbers o.placed q.fresh)

  module _ (named : ℕ → ℕ → Bool) where
    -- point by point and reference by reference: from points that are near, instructions and targets lead to points that
    -- are near'
    abbrev pub ProgramsCorrespond : {P O A B : Type 0} → (near near' : P → O → Bool) → Program P A (List Cell) → Program O B ℕ → Type 0
    ProgramsCorrespond near near' c d =
        ProgramsStand (WordStands l known) (λ i j. named i j ≡ true) (λ p q. near p q ≡ true) (λ p q. near' p q ≡ true) c d

    -- where the first doesn't stop
    abbrev pub OutcomesCorrespond : {P O : Type 0} → Spare ℕ → (P → O → Bool) → Outcome Placed (List Cell) Cell P → Outcome Placed ℕ ℕ O → Type 0
    OutcomesCorrespond spare near a b =
        OutcomeStands (WordStands l known) (KnownByteStands l known) spare (λ i j. named i j ≡ true) (RegionsCorrespond spare) (λ p q. near p q ≡ true) a b
