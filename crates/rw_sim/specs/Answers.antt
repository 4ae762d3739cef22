-- What a built-in answer comes to, as data.
use Rattle.std.specs.Prelude.{◌≡◌, ℕ, List, [], ◌∷◌, Option, Some, None, Result, Ok, Err, Vec}
use Rattle.std.specs.declared.alloc.Global.{Global}
use Rattle.rw_domain.specs.declared.cause.Cause.{Cause}
use Rattle.rw_domain.specs.declared.place.Place.{Place}
use Rattle.rw_domain.specs.declared.place.Region.{Region}
use Rattle.rw_machine.specs.declared.ending.End.{End}
use Rattle.rw_sim.specs.declared.answer.Answer.{Answer as AnswerCode}
use Rattle.rw_sim.specs.declared.answer.Answer.TheVariants as code
use Rattle.rw_sim.specs.declared.answer.Refused.{Refused}
use Rattle.rw_sim.specs.declared.answer.Refused.TheVariants.{Stops, Memory}

pub data Answer (V C : Type 0) : Type 0 where
  -- the run ends
  Ends : (ending : End) → Answer V C
  -- a result, and bytes that are written to memory
  Gives : (result : V) (writes : List (Place × List C)) → Answer V C
  -- a fresh region; the result is the address of its first byte
  Allots : (region : Region) → Answer V C
  -- bytes for descriptor 1 or 2, and a result
  Sends : (descriptor : ℕ) (bytes : List ℕ) (result : V) → Answer V C
  -- One read of at most so many bytes from the source. They go to the place, and the result is how many there were. There is
  -- a place exactly where the limit isn't 0.
  Takes : (limit : ℕ) (to : Option Place) → Answer V C

-- a write, or none
abbrev pub writes_of : {C : Type 0} → Option Place → List C → List (Place × List C)
writes_of None bytes = []
writes_of (Some p) bytes = (p, bytes) ∷ []

-- ---- what contracts see of an answer

abbrev pub written_by : {C : Type 0} → Option (Place × Vec C Global) → List (Place × List C)
written_by None = []
written_by (Some w) = (w.0, w.1.items) ∷ []

abbrev pub answer_value : {V C : Type 0} → AnswerCode V C → Answer V C
answer_value (code.Ends ending) = Ends ending
answer_value (code.Gives result write) = Gives result (written_by write)
answer_value (code.Allots region) = Allots region
answer_value (code.Sends descriptor bytes result) = Sends descriptor bytes.items result
answer_value (code.Takes limit to) = Takes limit to

-- an answer that takes no memory
abbrev pub answered : {V C : Type 0} → Result (AnswerCode V C) Cause → Result (Answer V C) Cause
answered (Ok a) = Ok (answer_value a)
answered (Err c) = Err c

-- What is computed is this, seen by a view, and a stop is this cause. Want of memory is free.
abbrev pub Meets : {T U : Type 0} → (T → U) → Result U Cause → Result T Refused → Type 0
Meets view expected (Ok t) = expected ≡ Ok (view t)
Meets view expected (Err (Stops c)) = expected ≡ Err c
Meets view expected (Err Memory) = Unit {0}
