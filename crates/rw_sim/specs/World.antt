-- A simulation and its surroundings between two steps.
use Rattle.std.specs.Prelude.{◌≡◌, ◌≤◌, ℕ, List, length, take, Option}
use Rattle.std.specs.Io.KnownBytes.{Appends, Consumes, Keeps}
use Rattle.rw_domain.specs.declared.domain.Domain.{Ghosts}
use Rattle.rw_domain.specs.Placed.{Placed}
use Rattle.rw_io.specs.Outside.{Rose}
use Rattle.rw_machine.specs.State.{machine_of}
use Rattle.rw_machine.specs.Step.{Machine}
use Rattle.rw_sim.specs.declared.simulation.Simulation.{Simulation}

-- what a source or a sink holds, where it tells that, and how many of its calls failed
pub record Outside : Type 0 where
  pub bytes : Option (List ℕ)
  pub faults : ℕ

-- The machine, the lengths of the pieces that were read of the input so far, the input, and what takes the bytes for
-- descriptors 1 and 2.
pub record World (V C P : Type 0) : Type 0 where
  pub machine : Machine Placed V C P
  pub reads : List ℕ
  pub input : Outside
  pub out : Outside
  pub err : Outside

-- a source or a sink as it is
abbrev pub outside : {S : Type 0} → (S → Option (List ℕ)) → (S → ℕ) → S → Outside
outside bytes faults s = record { bytes = bytes s; faults = faults s }

-- the world of a simulation
abbrev pub world_of : {D P V C : Type 0} {g : Ghosts D V C} → Simulation D P V C g → Outside → Outside → Outside → World V C P
world_of simulation input out err =
    record { machine = machine_of simulation.state; reads = simulation.reads.items; input = input; out = out; err = err }

-- ---- what happens to a source or a sink

-- nothing
pub record Rests (old new : Outside) : Type 0 where
  pub bytes : Keeps old.bytes new.bytes
  pub faults : new.faults ≡ old.faults

-- a call failed, and nothing else happened
pub record Fails (old new : Outside) : Type 0 where
  pub bytes : Keeps old.bytes new.bytes
  pub faults : (old.faults ≤ new.faults) × Rose old.faults new.faults

-- these bytes were taken of a source
pub record IsRead (old new : Outside) (taken : List ℕ) : Type 0 where
  pub bytes : Consumes old.bytes new.bytes taken
  pub faults : new.faults ≡ old.faults

-- these bytes were added to a sink
pub record IsWritten (old new : Outside) (added : List ℕ) : Type 0 where
  pub bytes : Appends old.bytes new.bytes added
  pub faults : new.faults ≡ old.faults

-- only so many of these bytes were added to a sink, and then a call failed
pub record IsCutOff (old new : Outside) (due : List ℕ) (done : ℕ) : Type 0 where
  pub part : done ≤ length due
  pub bytes : Appends old.bytes new.bytes (take done due)
  pub faults : (old.faults ≤ new.faults) × Rose old.faults new.faults
