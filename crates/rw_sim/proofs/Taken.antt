-- What the steps of a run took of the input, joined.
use Rattle.std.proofs.Common.{refl, ◌≡◌, ◌∙◌, sym, ap, subst, ℕ, zero, suc, List, [], ◌∷◌, ◌++◌, length, map, append_assoc, append-nil, Option, Some, None}
use Rattle.std.specs.List.{concat}
use Rattle.std.proofs.KnownBytes.{Consumes-nil, Consumes-trans, Consumes-kept}
use Rattle.std.specs.Io.KnownBytes.{Consumes}
use Rattle.rw_domain.specs.Placed.{Placed}
use Rattle.rw_machine.specs.Program.{Program, Domains}
use Rattle.rw_sim.specs.declared.advance.Advance.{Advance}
use Rattle.rw_sim.specs.declared.advance.Advance.TheVariants as advance
use Rattle.rw_sim.specs.declared.runs.RunEnd.{RunEnd}
use Rattle.rw_sim.specs.declared.runs.RunEnd.TheVariants as end
use Rattle.rw_sim.specs.AnsweredStep.{StepsTo, Starves, LosesInput, LosesOutput, bytes_of, length_of}
use Rattle.rw_sim.specs.Exchanges.{Takes}
use Rattle.rw_sim.specs.Trace.{Leads, Then, ThenCounts, RunsTo}
use Rattle.rw_sim.specs.World.{World}

lengths-append : (a b : List (List ℕ)) → map length (a ++ b) ≡ map length a ++ map length b
lengths-append [] b = refl
lengths-append (x ∷ a) b = ap (λ l. length x ∷ l) (lengths-append a b)

concat-append : (a b : List (List ℕ)) → concat (a ++ b) ≡ concat a ++ concat b
concat-append [] b = refl
concat-append (x ∷ a) b = ap (λ l. x ++ l) (concat-append a b) ∙ sym (append_assoc x (concat a) (concat b))

-- a piece, or none, as a list
abbrev pub list_of : Option (List ℕ) → List (List ℕ)
list_of None = []
list_of (Some piece) = piece ∷ []

lengths-of : (piece : Option (List ℕ)) → map length (list_of piece) ≡ length_of piece
lengths-of None = refl
lengths-of (Some piece) = refl

concat-of : (piece : Option (List ℕ)) → concat (list_of piece) ≡ bytes_of piece
concat-of None = refl
concat-of (Some piece) = append-nil piece

module _ {V C P : Type 0} where
  abbrev pub TakesSome : World V C P → World V C P → Type 0
  TakesSome w v = (pieces : List (List ℕ)) × Takes w v pieces

  takes-none : (w : World V C P) → TakesSome w w
  takes-none w = ([], record { lengths = sym (append-nil w.reads); taken = Consumes-nil w.input.bytes })

  takes-more : (w u v : World V C P) → TakesSome w u → TakesSome u v → TakesSome w v
  takes-more w u v a b = (
    a.0 ++ b.0,
    record {
      lengths = b.1.lengths ∙ ap (λ l. l ++ map length b.0) a.1.lengths ∙ append_assoc w.reads (map length a.0) (map length b.0) ∙ ap (λ l. w.reads ++ l) (sym (lengths-append a.0 b.0));
      taken = subst (Consumes w.input.bytes v.input.bytes) (sym (concat-append a.0 b.0)) (Consumes-trans w.input.bytes u.input.bytes v.input.bytes (concat a.0) (concat b.0) a.1.taken b.1.taken);
    },
  )

  takes-piece : (u v : World V C P) (piece : Option (List ℕ)) → v.reads ≡ u.reads ++ length_of piece → Consumes u.input.bytes v.input.bytes (bytes_of piece) → TakesSome u v
  takes-piece u v piece reads taken = (
    list_of piece,
    record {
      lengths = reads ∙ ap (λ l. u.reads ++ l) (sym (lengths-of piece));
      taken = subst (Consumes u.input.bytes v.input.bytes) (sym (concat-of piece)) taken;
    },
  )

module _ {V C P R : Type 0} (dom : Domains Placed V C) (prog : Program P R V) (name : ℕ → List ℕ) (first_byte : Placed → ℕ → V × ℕ) where
  taken-stepped : (u v : World V C P) (advance : Advance) → StepsTo dom prog name first_byte u v advance → TakesSome u v
  taken-stepped u v advance s = takes-piece u v s.piece s.makes.reads s.makes.input.bytes

  taken-starved : (u v : World V C P) → Starves dom prog name first_byte u v → TakesSome u v
  taken-starved u v s = takes-piece u v s.piece s.reads s.input.bytes

  taken-cut : (u v : World V C P) → LosesOutput dom prog name first_byte u v → TakesSome u v
  taken-cut u v s = takes-piece u v s.piece s.makes.reads s.makes.input.bytes

  taken-none : (u v : World V C P) → LosesInput dom prog name first_byte u v → TakesSome u v
  taken-none u v s = (
    [],
    record {
      lengths = s.reads ∙ sym (append-nil u.reads);
      taken = Consumes-kept u.input.bytes u.input.bytes v.input.bytes [] (Consumes-nil u.input.bytes) s.input.bytes;
    },
  )

  taken-leading : (n : ℕ) (w v : World V C P) → Leads dom prog name first_byte n w v → TakesSome w v
  taken-leading zero w v is = subst (TakesSome w) (sym is) (takes-none w)
  taken-leading (suc n) w v path = takes-more w path.0 v (taken-leading n w path.0 path.1) (taken-stepped path.0 v advance.Moved path.2)

  taken-then : (n : ℕ) (Last : World V C P → World V C P → Type 0) (w v : World V C P) → ((u : World V C P) → Last u v → TakesSome u v) → Then dom prog name first_byte n Last w v → TakesSome w v
  taken-then n Last w v one path = takes-more w path.0 v (taken-leading n w path.0 path.1) (one path.0 path.2)

  taken-counted : (n : ℕ) (Last : World V C P → World V C P → Type 0) (w v : World V C P) → ((u : World V C P) → Last u v → TakesSome u v) → ThenCounts dom prog name first_byte n Last w v → TakesSome w v
  taken-counted zero Last w v one path = absurd path
  taken-counted (suc n) Last w v one path = taken-then n Last w v one path

  -- whatever the end of a run is
  pub taken-in-run : (fuel steps : ℕ) (w v : World V C P) (ending : RunEnd) → RunsTo dom prog name first_byte fuel w v steps ending → TakesSome w v
  taken-in-run fuel steps w v (end.Ended e) run = taken-counted steps (λ u t. StepsTo dom prog name first_byte u t (advance.Ended e)) w v (λ u. taken-stepped u v (advance.Ended e)) run.1
  taken-in-run fuel steps w v (end.Stopped cause) run = taken-then steps (λ u t. StepsTo dom prog name first_byte u t (advance.Stopped cause)) w v (λ u. taken-stepped u v (advance.Stopped cause)) run.1
  taken-in-run fuel steps w v end.Fuel run = taken-leading steps w v run.1
  taken-in-run fuel steps w v end.ReadFault run = taken-then steps (LosesInput dom prog name first_byte) w v (λ u. taken-none u v) run.1
  taken-in-run fuel steps w v end.WriteFault run = taken-counted steps (LosesOutput dom prog name first_byte) w v (λ u. taken-cut u v) run.1
  taken-in-run fuel steps w v end.Memory run = taken-then steps (Starves dom prog name first_byte) w v (λ u. taken-starved u v) run.1
