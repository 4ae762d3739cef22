-- What a step of a simulation comes to, by what its parts came to.
use Rattle.std.proofs.Common.{◌≡◌, ℕ, List, [], Bool, true, false, Option, Some, None, Result, Ok, Err, refl, sym, subst, ap, ◌∙◌, inl, inr, append-nil}
use Rattle.std.specs.Prelude.{if◌then◌else◌, IsSome}
use Rattle.std.specs.Option.{option_map_or}
use Rattle.std.specs.Result.{IsErrAnd}
use Rattle.std.proofs.KnownBytes.{Appends-nil, Consumes-nil, Consumes-kept, Appends-kept}
use Rattle.rw_domain.specs.Placed.{Placed}
use Rattle.rw_machine.specs.Events.{Event}
use Rattle.rw_machine.specs.Program.{Program, Domains}
use Rattle.rw_machine.specs.Step.{Machine, Outcome, Asks, step_of, reply_of}
use Rattle.rw_sim.specs.declared.advance.Advance.{Advance}
use Rattle.rw_sim.specs.declared.advance.StepError.{StepError}
use Rattle.rw_sim.specs.declared.advance.StepError.TheVariants.{ReadFault, WriteFault, Memory}
use Rattle.rw_sim.specs.Answers.{Answer}
use Rattle.rw_sim.specs.Asking.{answer_to}
use Rattle.rw_sim.specs.AnsweredStep.{BreaksOff, Comes, LosesOutput, Makes, StaysAt, Starves, StepsTo, answer_if, answer_in, answered_outcome, answered_step, bytes_of, callee_of, limit_at, limit_of, next_first_byte, outcome_of_advance, sends_at, sent_by, sent_to, stops, with_answer, IsPiece, IsLast}
use Rattle.rw_sim.specs.Pieces.{ReadsAsAsked, ReadsFor, SendsOut}
use Rattle.rw_sim.specs.Replies.{reply_of_answer}
use Rattle.rw_sim.specs.World.{Outside, World, Rests, IsRead, IsWritten}

-- ---- where nothing happens to a source or a sink

pub rests-read : (old new : Outside) → Rests old new → IsRead old new []
rests-read old new h = record { bytes = Consumes-kept old.bytes old.bytes new.bytes [] (Consumes-nil old.bytes) h.bytes; faults = h.faults }

pub rests-written : (old new : Outside) → Rests old new → IsWritten old new []
rests-written old new h = record { bytes = Appends-kept old.bytes old.bytes new.bytes [] (Appends-nil old.bytes) h.bytes; faults = h.faults }

-- a world by its parts
abbrev pub world : {V C P : Type 0} → Machine Placed V C P → List ℕ → Outside → Outside → Outside → World V C P
world machine reads input out err = record { machine = machine; reads = reads; input = input; out = out; err = err }

-- the lengths are those of another list that is the same
pub read-as : (limit : Option ℕ) (before behind other : List ℕ) (old new : Outside) (taken : Option (List ℕ)) → other ≡ behind → ReadsAsAsked limit before behind old new taken → ReadsAsAsked limit before other old new taken
read-as limit before behind other old new taken e h = record { piece = h.piece; last = h.last; reads = e ∙ h.reads; input = h.input }

either : {X : Type 0} (t : Bool) (x : X) → (if t then x else x) ≡ x
either true x = refl
either false x = refl

last-none : (limit : Option ℕ) (left : Option (List ℕ)) → IsLast limit None left
last-none None left = tt
last-none (Some limit) left = tt

module _ {V C P R : Type 0} (dom : Domains Placed V C) (prog : Program P R V) (name : ℕ → List ℕ) (first : Placed → ℕ → V × ℕ) (w : World V C P) where
  abbrev Limit : Option ℕ
  Limit = limit_at dom prog name first w.machine

  abbrev Sends : Advance → Option (ℕ × List ℕ)
  Sends a = sends_at dom prog name first w.machine a

  -- ---- a step without an answer

  module _ (x : Outcome Placed V C P) (is : step_of dom prog w.machine ≡ x) (none : answer_in dom prog name first w.machine x ≡ None) where
    limit-none : Limit ≡ None
    unfolding limit_at
    limit-none = ap (λ y. option_map_or limit_of (answer_in dom prog name first w.machine y) None) is ∙ ap (λ o. option_map_or limit_of o None) none

    sends-none : (a : Advance) → Sends a ≡ None
    unfolding sends_at
    sends-none a = ap (λ y. if stops a then None else option_map_or sent_by (answer_in dom prog name first w.machine y) None) is ∙ ap (λ o. if stops a then None else option_map_or sent_by o None) none ∙ either (stops a) None

    answered-is : answered_step dom prog name first w.machine [] ≡ answered_outcome dom prog name first w.machine [] x
    unfolding answered_step
    answered-is = ap (λ y. answered_outcome dom prog name first w.machine [] y) is

    -- nothing is read and nothing written
    pub steps-alone : (v : World V C P) (a : Advance) → outcome_of_advance a v.machine ≡ answered_outcome dom prog name first w.machine [] x → StaysAt a w.machine v.machine
        → v.reads ≡ w.reads → Rests w.input v.input → Rests w.out v.out → Rests w.err v.err → StepsTo dom prog name first w v a
    steps-alone v a comes stays reads input out err =
        record {
          piece = None;
          makes = record {
            piece = subst (λ l. IsPiece l None) (sym limit-none) tt;
            last = subst (λ l. IsLast l None v.input.bytes) (sym limit-none) tt;
            comes = comes ∙ sym answered-is;
            stays = stays;
            reads = reads ∙ sym (append-nil w.reads);
            input = rests-read w.input v.input input;
          };
          out = subst (λ s. IsWritten w.out v.out (sent_to 1 s)) (sym (sends-none a)) (rests-written w.out v.out out);
          err = subst (λ s. IsWritten w.err v.err (sent_to 2 s)) (sym (sends-none a)) (rests-written w.err v.err err);
        }

  -- ---- there is no memory, and nothing was read

  pub starves-unread : (v : World V C P) → v.machine ≡ w.machine → v.reads ≡ w.reads → Rests w.input v.input → Rests w.out v.out → Rests w.err v.err → Starves dom prog name first w v
  starves-unread v machine reads input out err =
      record { piece = None; asked = inl refl; last = last-none Limit v.input.bytes; machine = machine; reads = reads ∙ sym (append-nil w.reads); input = rests-read w.input v.input input; out = out; err = err }

  pub starved : (v : World V C P) (r : Result Advance StepError) → IsErrAnd r (λ e. e ≡ Memory) → Starves dom prog name first w v → Comes dom prog name first w v r
  starved v (Ok a) fault h = absurd fault
  starved v (Err e) fault h = subst (λ x. Comes dom prog name first w v (Err x)) (sym fault) h

  -- ---- a step with an answer

  module _ (event : Event V) (answer : Answer V C) (asks : step_of dom prog w.machine ≡ Asks event) (answers : answer_to dom prog w.machine name event ≡ Ok answer) where
    limit-is : Limit ≡ limit_of answer
    unfolding limit_at
    limit-is =
        ap (λ y. option_map_or limit_of (answer_in dom prog name first w.machine y) None) asks
        ∙ ap (λ r. option_map_or limit_of (answer_if dom prog name first w.machine r) None) answers

    sends-is : (a : Advance) → stops a ≡ false → Sends a ≡ sent_by answer
    unfolding sends_at
    sends-is a goes =
        ap (λ t. if t then None else option_map_or sent_by (answer_in dom prog name first w.machine (step_of dom prog w.machine)) None) goes
        ∙ ap (λ y. option_map_or sent_by (answer_in dom prog name first w.machine y) None) asks
        ∙ ap (λ r. option_map_or sent_by (answer_if dom prog name first w.machine r) None) answers

    sends-stopped : (a : Advance) → stops a ≡ true → Sends a ≡ None
    unfolding sends_at
    sends-stopped a stopped = ap (λ t. if t then None else option_map_or sent_by (answer_in dom prog name first w.machine (step_of dom prog w.machine)) None) stopped

    step-is : (taken : List ℕ) → answered_step dom prog name first w.machine taken
        ≡ reply_of dom prog w.machine (reply_of_answer (dom.over w.machine.placed) (callee_of event.call) (next_first_byte dom prog name first w.machine) taken answer)
    unfolding answered_step
    step-is taken =
        ap (λ y. answered_outcome dom prog name first w.machine taken y) asks
        ∙ ap (λ r. with_answer dom prog name first w.machine taken event.call r) answers

    module _ (v : World V C P) where
      pub starves-read : (piece : Option (List ℕ)) → v.machine ≡ w.machine → ReadsAsAsked (limit_of answer) w.reads v.reads w.input v.input piece → Rests w.out v.out → Rests w.err v.err → Starves dom prog name first w v
      starves-read piece machine read out err =
          record { piece = piece; asked = inr (subst (λ l. IsPiece l piece) (sym limit-is) read.piece); last = subst (λ l. IsLast l piece v.input.bytes) (sym limit-is) read.last; machine = machine; reads = read.reads; input = read.input; out = out; err = err }

      pub unread : (e : StepError) (r : Result Advance StepError) → ReadsFor (limit_of answer) w.reads v.reads w.input v.input (Err e) → IsErrAnd r (λ x. x ≡ e)
          → v.machine ≡ w.machine → Rests w.out v.out → Rests w.err v.err → Comes dom prog name first w v r
      unread e (Ok a) read fault machine out err = absurd fault
      unread ReadFault (Err x) read fault machine out err =
          subst (λ y. Comes dom prog name first w v (Err y)) (sym fault) (record { asked = subst (λ l. IsSome l) (sym limit-is) read.0; machine = machine; reads = read.1; input = read.2; out = out; err = err })
      unread WriteFault (Err x) read fault machine out err = absurd read
      unread Memory (Err x) read fault machine out err =
          subst (λ y. Comes dom prog name first w v (Err y)) (sym fault) (starves-unread v machine read.0 read.1 out err)

      module _ (piece : Option (List ℕ)) (a : Advance) (read : ReadsAsAsked (limit_of answer) w.reads v.reads w.input v.input piece)
          (came : outcome_of_advance a v.machine ≡ reply_of dom prog w.machine (reply_of_answer (dom.over w.machine.placed) (callee_of event.call) (next_first_byte dom prog name first w.machine) (bytes_of piece) answer))
          (stays : StaysAt a w.machine v.machine) where
        made : Makes dom prog name first w v a piece
        made = record {
          piece = subst (λ l. IsPiece l piece) (sym limit-is) read.piece;
          last = subst (λ l. IsLast l piece v.input.bytes) (sym limit-is) read.last;
          comes = came ∙ sym (step-is (bytes_of piece));
          stays = stays;
          reads = read.reads;
          input = read.input;
        }

        pub stopped-there : stops a ≡ true → Rests w.out v.out → Rests w.err v.err → StepsTo dom prog name first w v a
        stopped-there stopped out err = record {
          piece = piece;
          makes = made;
          out = subst (λ s. IsWritten w.out v.out (sent_to 1 s)) (sym (sends-stopped a stopped)) (rests-written w.out v.out out);
          err = subst (λ s. IsWritten w.err v.err (sent_to 2 s)) (sym (sends-stopped a stopped)) (rests-written w.err v.err err);
        }

        pub written : stops a ≡ false → IsWritten w.out v.out (sent_to 1 (sent_by answer)) × IsWritten w.err v.err (sent_to 2 (sent_by answer)) → StepsTo dom prog name first w v a
        written goes both = record {
          piece = piece;
          makes = made;
          out = subst (λ s. IsWritten w.out v.out (sent_to 1 s)) (sym (sends-is a goes)) both.0;
          err = subst (λ s. IsWritten w.err v.err (sent_to 2 s)) (sym (sends-is a goes)) both.1;
        }

        broken : stops a ≡ false → BreaksOff (sent_by answer) w.out v.out w.err v.err → LosesOutput dom prog name first w v
        broken goes h = record { advance = a; piece = piece; makes = made; broken = subst (λ s. BreaksOff s w.out v.out w.err v.err) (sym (sends-is a goes)) h }

        pub unwritten : (e : StepError) (r : Result Advance StepError) → stops a ≡ false → SendsOut (sent_by answer) w.out v.out w.err v.err (Err e) → IsErrAnd r (λ x. x ≡ e) → Comes dom prog name first w v r
        unwritten e (Ok b) goes sent fault = absurd fault
        unwritten WriteFault (Err x) goes sent fault = subst (λ y. Comes dom prog name first w v (Err y)) (sym fault) (broken goes sent)
        unwritten ReadFault (Err x) goes sent fault = absurd sent
        unwritten Memory (Err x) goes sent fault = absurd sent
