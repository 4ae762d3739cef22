-- Where what is due is written.
use Rattle.std.specs.Prelude.{List, [], ◌∷◌, Bool, true, false}
use Rattle.rw_base.specs.Width.{byte_count}
use Rattle.x86_meaning.specs.declared.operations.Micro.{Micro}
use Rattle.x86_meaning.specs.declared.operations.Micro.TheVariants as micro
use Rattle.rw_machine.specs.declared.running.Due.TheVariants.{Word, Elements}
use Rattle.rw_machine.specs.Running.{Due}
use Rattle.rw_machine.specs.Views.{HasRange}

-- a word that is due fits the row of its place
abbrev pub FitsRows : {V C : Type 0} → List (List C) → Due V → Type 0
FitsRows rows (Word place width word) = HasRange rows place (byte_count width)
FitsRows rows (Elements step count source target) = Unit {0}

abbrev pub FitRows : {V C : Type 0} → List (List C) → List (Due V) → Type 0
FitRows rows [] = Unit {0}
FitRows rows (d ∷ dues) = FitsRows rows d × FitRows rows dues

-- no string step is due
abbrev pub IsWord : {V : Type 0} → Due V → Type 0
IsWord (Word place width word) = Unit {0}
IsWord (Elements step count source target) = ⊥

abbrev pub AreWords : {V : Type 0} → List (Due V) → Type 0
AreWords [] = Unit {0}
AreWords (d ∷ dues) = IsWord d × AreWords dues

-- a string step
abbrev pub is_elements : Micro → Bool
is_elements (micro.Elements moves w rep) = true
is_elements _ = false
