-- When a run over words corresponds to one over numbers, and answers to it: words at some addresses, atoms that are known,
-- and imported symbols and points by tests.
use Rattle.std.specs.Prelude.{◌≡◌, ℕ, List, Bool, true}
use Rattle.rw_words.specs.declared.atom.Atom.{Atom}
use Rattle.rw_words.specs.declared.atom.Cell.{Cell}
use Rattle.rw_words.specs.Addresses.{Addresses}
use Rattle.rw_domain.specs.Placed.{Placed}
use Rattle.rw_domain.specs.LaidOut.{WordStands, KnownByteStands}
use Rattle.rw_machine.specs.Program.{Program}
use Rattle.rw_machine.specs.Events.{Reply}
use Rattle.rw_machine.specs.Step.{Machine}
use Rattle.rw_machine.specs.Stands.{Spare}
use Rattle.rw_machine.specs.Domains.{symbols, numbers}
use Rattle.rw_machine.specs.Correspond.{RegionsCorrespond}
use Rattle.rw_runs.specs.Runs.{Run}
use Rattle.rw_runs.specs.RunStands.{RepliesStand, RunStands}

abbrev pub WordsRun : Type 0 → Type 0
WordsRun P = Run Placed (List Cell) Cell P

abbrev pub NumbersRun : Type 0 → Type 0
NumbersRun O = Run Placed ℕ ℕ O

module _ (l : Addresses) (known : Atom → Bool) (spare : Spare ℕ) where
  abbrev pub AllRepliesCorrespond : {P A : Type 0} → Program P A (List Cell) → Machine Placed (List Cell) Cell P → List (Reply (List Cell) Cell) → Placed → List (Reply ℕ ℕ) → Type 0
  AllRepliesCorrespond c m answers placed replies =
      RepliesStand (WordStands l known) (KnownByteStands l known) spare (RegionsCorrespond l known spare) symbols numbers c m answers placed replies

  abbrev pub RunsCorrespond : {P O : Type 0} → (ℕ → ℕ → Bool) → (P → O → Bool) → WordsRun P → NumbersRun O → Type 0
  RunsCorrespond named near run other =
      RunStands (WordStands l known) (KnownByteStands l known) spare (λ i j. named i j ≡ true) (RegionsCorrespond l known spare) (λ p q. near p q ≡ true) run other
