-- What is sent breaks off where a sink fails.
use Rattle.std.proofs.Common.{◌≡◌, ◌≤◌, ℕ, List, length, take, Option, Some, Result, Ok, Err, refl, sym, subst, ap, inl, inr}
use Rattle.std.specs.Io.KnownBytes.{Appends}
use Rattle.std.specs.Result.{IsErrAnd}
use Rattle.std.proofs.KnownBytes.{Keeps-refl}
use Rattle.rw_io.specs.Outside.{Rose}
use Rattle.rw_sim.specs.declared.advance.StepError.{StepError}
use Rattle.rw_sim.specs.declared.advance.StepError.TheVariants.{WriteFault}
use Rattle.rw_sim.specs.declared.pieces.Sent.{Sent}
use Rattle.rw_sim.specs.Pieces.{SendsOut, sent_value}
use Rattle.rw_sim.specs.World.{Outside, Rests, IsCutOff}

pub rests-same : (o : Outside) → Rests o o
rests-same o = record { bytes = Keeps-refl o.bytes; faults = refl }

cut-off : (old new : Outside) (due bytes : List ℕ) (done : ℕ) → bytes ≡ due → done ≤ length bytes → Appends old.bytes new.bytes (take done bytes) → (old.faults ≤ new.faults) × Rose old.faults new.faults → IsCutOff old new due done
cut-off old new due bytes done same part added rose =
    subst (λ bs. IsCutOff old new bs done) same (record { part = part; bytes = added; faults = rose })

pub breaks-out : (o : Option Sent) (sent : Sent) (bytes : List ℕ) (old new err : Outside) (done : ℕ) (r : Result Unit StepError) → o ≡ Some sent → sent.descriptor ≡ 1 → bytes ≡ sent.bytes.items
    → done ≤ length bytes → Appends old.bytes new.bytes (take done bytes) → (old.faults ≤ new.faults) × Rose old.faults new.faults → IsErrAnd r (λ e. e ≡ WriteFault) → SendsOut (sent_value o) old new err err r
breaks-out o sent bytes old new err done (Ok v) is one same part added rose fault = absurd fault
breaks-out o sent bytes old new err done (Err e) is one same part added rose fault =
    subst (λ x. SendsOut (sent_value o) old new err err (Err x)) (sym fault)
    (record {
      descriptor = sent.descriptor;
      bytes = sent.bytes.items;
      sends = ap sent_value is;
      done = done;
      sinks = inl (one, cut-off old new sent.bytes.items bytes done same part added rose, rests-same err);
    })

pub breaks-err : (o : Option Sent) (sent : Sent) (bytes : List ℕ) (old new out : Outside) (done : ℕ) (r : Result Unit StepError) → o ≡ Some sent → sent.descriptor ≡ 2 → bytes ≡ sent.bytes.items
    → done ≤ length bytes → Appends old.bytes new.bytes (take done bytes) → (old.faults ≤ new.faults) × Rose old.faults new.faults → IsErrAnd r (λ e. e ≡ WriteFault) → SendsOut (sent_value o) out out old new r
breaks-err o sent bytes old new out done (Ok v) is two same part added rose fault = absurd fault
breaks-err o sent bytes old new out done (Err e) is two same part added rose fault =
    subst (λ x. SendsOut (sent_value o) out out old new (Err x)) (sym fault)
    (record {
      descriptor = sent.descriptor;
      bytes = sent.bytes.items;
      sends = ap sent_value is;
      done = done;
      sinks = inr (two, cut-off old new sent.bytes.items bytes done same part added rose, rests-same out);
    })
