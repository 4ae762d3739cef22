-- The law of steps over words and numbers.
use Rattle.std.proofs.Common.{◌≡◌, ℕ, List, [], ◌∷◌, Option, Some, None, Bool, true, sym, subst, ◌∙◌, arith}
use Rattle.std.specs.Prelude.{slice_get}
use Rattle.rw_base.proofs.Lists.{slice_get-append_left}
use Rattle.rw_words.specs.declared.atom.Atom.{Atom}
use Rattle.rw_words.specs.declared.atom.Cell.{Cell}
use Rattle.rw_words.specs.Addresses.{Addresses}
use Rattle.rw_domain.specs.declared.place.Region.{Region}
use Rattle.rw_domain.specs.Inside.{symbols-inside}
use Rattle.rw_domain.specs.Placed.{Placed}
use Rattle.rw_domain.specs.LaidOut.{WordStands, KnownByteStands}
use Rattle.rw_domain.specs.Symbols.{symbols_over}
use Rattle.rw_domain.proofs.AllStand.{all-stand, others-stand}
use Rattle.rw_machine.specs.Program.{Program}
use Rattle.rw_machine.specs.Events.{Reply}
use Rattle.rw_machine.specs.Step.{Machine, placed_with, step_of, reply_of}
use Rattle.rw_machine.specs.Stands.{Spare, PlacesMiss, DomainsStand}
use Rattle.rw_machine.specs.Domains.{symbols, numbers}
use Rattle.rw_machine.specs.Correspond.{IsEmptyOverWords, RegionsCorrespond, ProgramsCorrespond, MachinesCorrespond, OutcomesCorrespond, RepliesCorrespond}
use Rattle.rw_machine.proofs.StepCorresponds.{step-stands, reply-stands}

-- a region without bytes holds no place of some bytes
pub places-miss : (spare : Spare ℕ) (words : Placed) → IsEmptyOverWords spare words → PlacesMiss spare (symbols_over words)
places-miss None words h a len access place ok = tt
places-miss (Some spare) words h a len access place ok =
    λ there.
    let inside = symbols-inside words a len access place ok in
    let same : Some inside.0 ≡ Some h.0 = sym inside.1 ∙ subst (λ r. slice_get words.regions r ≡ Some h.0) (sym there) h.1 in
    let size : inside.0.size ≡ h.0.size = cc in
    let within = inside.2 in
    let none = h.2 in
    omega (arith, size, within, none)

-- it stays so with a fresh region
empty-stays : (spare : Spare ℕ) (words : Placed) (fresh : Option (Region × ℕ)) → IsEmptyOverWords spare words → IsEmptyOverWords spare (placed_with symbols words fresh)
empty-stays None words None h = tt
empty-stays None words (Some f) h = tt
empty-stays (Some spare) words None h = h
empty-stays (Some spare) words (Some f) h = (h.0, slice_get-append_left words.regions (f.0 ∷ []) spare.0 h.0 h.1, h.2)

module _ (l : Addresses) (known : Atom → Bool) (spare : Spare ℕ) where
  pub domains-stand : DomainsStand (WordStands l known) (KnownByteStands l known) spare (RegionsCorrespond l known spare) symbols numbers
  domains-stand d t laid = (all-stand l known d t laid.0, others-stand l known d t laid.0, places-miss spare d laid.1)

  module _ {P O A B : Type 0} (named : ℕ → ℕ → Bool) (near near' : P → O → Bool) (c : Program P A (List Cell)) (d : Program O B ℕ) (m : Machine Placed (List Cell) Cell P) (o : Machine Placed ℕ ℕ O) where
    pub steps-correspond : ProgramsCorrespond l known named near near' c d → MachinesCorrespond l known spare near m o → OutcomesCorrespond l known named spare near' (step_of symbols c m) (step_of numbers d o)
    steps-correspond programs h =
        step-stands (WordStands l known) (KnownByteStands l known) spare (λ i j. named i j ≡ true) (RegionsCorrespond l known spare) (λ p q. near p q ≡ true) (λ p q. near' p q ≡ true) symbols numbers domains-stand c d programs m o h

    pub replies-correspond : (r : Reply (List Cell) Cell) (q : Reply ℕ ℕ) → ProgramsCorrespond l known named near near' c d → MachinesCorrespond l known spare near m o → RepliesCorrespond l known spare c m o r q
        → OutcomesCorrespond l known named spare near' (reply_of symbols c m r) (reply_of numbers d o q)
    replies-correspond r q programs h k =
        reply-stands (WordStands l known) (KnownByteStands l known) spare (λ i j. named i j ≡ true) (RegionsCorrespond l known spare) (λ p q. near p q ≡ true) (λ p q. near' p q ≡ true) symbols numbers domains-stand c d programs m o h r q k.0
        (k.1, empty-stays spare m.placed r.fresh h.placed.1)
