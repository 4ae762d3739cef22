-- What contracts see of a call that asks: what its domain computes with, memory as the call finds it, its words, and the
-- regions.
use Rattle.std.specs.Prelude.{ℕ, List, Option, Some, None}
use Rattle.rw_domain.specs.declared.domain.Domain.{Ghosts}
use Rattle.rw_domain.specs.declared.place.Place.{Place}
use Rattle.rw_domain.specs.declared.place.Region.{Region}
use Rattle.rw_domain.specs.Operators.{Operators, IsInside}
use Rattle.rw_machine.specs.State.{machine_of, six_of}
use Rattle.rw_sim.specs.declared.asked.Asked.{Asked}
use Rattle.rw_sim.specs.Builtins.{call_memory}

abbrev pub regions_of : {D P V C : Type 0} {g : Ghosts D V C} → Asked D P V C g → List Region
regions_of a = (machine_of a.state.now).placed.regions

abbrev pub operators_of : {D P V C : Type 0} {g : Ghosts D V C} → Asked D P V C g → Operators V C
operators_of {g = g} a = g.over (machine_of a.state.now).placed

abbrev pub memory_of : {D P V C : Type 0} {g : Ghosts D V C} → Asked D P V C g → List (List C)
memory_of a = call_memory (operators_of a) (machine_of a.state.now).memory a.stored

abbrev pub words_of : {D P V C : Type 0} {g : Ghosts D V C} → Asked D P V C g → List V
words_of a = six_of a.words

-- a range that has a place is inside a region
abbrev pub IsPlaced : List Region → Option Place → ℕ → Type 0
IsPlaced regions None len = Unit {0}
IsPlaced regions (Some p) len = IsInside regions p len
