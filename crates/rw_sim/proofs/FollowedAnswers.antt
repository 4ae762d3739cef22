-- What the built-in answer to an event keeps to, and its reply.
use Rattle.std.proofs.Common.{◌≡◌, ◌≤◌, ◌+◌, ℕ, List, length, Option, Some, None, Result, Ok, subst, arith}
use Rattle.std.specs.Prelude.{IfOk, IfSome, sum}
use Rattle.std.proofs.lemmas.List.{length-map}
use Rattle.std.proofs.lemmas.List.Elements.{All-nil}
use Rattle.rw_base.specs.declared.width.Width.TheVariants.{B}
use Rattle.rw_domain.specs.declared.cause.Cause.{Cause}
use Rattle.rw_domain.specs.declared.place.Access.TheVariants.{Write}
use Rattle.rw_domain.specs.declared.place.Place.{Place}
use Rattle.rw_domain.specs.declared.place.Region.{Region}
use Rattle.rw_domain.specs.Operators.{Operators, IsInside, PlacesInside}
use Rattle.rw_domain.specs.Placed.{Placed}
use Rattle.rw_machine.specs.Events.{Call, System, Import, Event}
use Rattle.rw_machine.specs.Program.{Program, Domains}
use Rattle.rw_machine.specs.Replying.{AreInside}
use Rattle.rw_machine.specs.Step.{Machine}
use Rattle.rw_sim.specs.declared.callee.Callee.{Callee}
use Rattle.rw_sim.specs.AnsweredStep.{IsPiece, bytes_of, limit_of}
use Rattle.rw_sim.specs.Answers.{Answer, Ends, Gives, Allots, Sends, Takes}
use Rattle.rw_sim.specs.Asking.{answer_of_call, answer_to, fresh_sizes, found_memory}
use Rattle.rw_sim.specs.Builtins.{fresh_limit}
use Rattle.rw_sim.specs.Pieces.{IsShort}
use Rattle.rw_sim.specs.Replies.{number_bytes, reply_of_answer}
use Rattle.rw_sim.proofs.GoodAnswers.{AreKept, IsGood, writes-good, system-good, import-good}

-- of words nothing is asked here
abbrev pub Any : {V : Type 0} → V → Type 0
Any v = Unit {0}

-- an answer whose ranges are inside regions
abbrev pub IsPlacedAnswer : {V C : Type 0} → List Region → ℕ → Answer V C → Type 0
IsPlacedAnswer regions fresh answer = IsGood fresh (λ p len. IsInside regions p len) (λ v. Any v) answer

inside-less : (regions : List Region) (place : Place) (few len : ℕ) → few ≤ len → IsInside regions place len → IsInside regions place few
inside-less regions place few len le h = let low = h.2 in (h.0, h.1, omega (arith, le, low))

module _ {V C : Type 0} (ops : Operators V C) (regions : List Region) (same : ops.regions ≡ regions) (inside : PlacesInside ops) where
  kept-inside : AreKept ops (λ p len. IsInside regions p len) (λ v. Any v)
  kept-inside = record {
    permitted = λ a len place is. subst (λ rs. IsInside rs place len) same (inside a len Write place is);
    less = inside-less regions;
    numbers = λ n. tt;
  }

  -- the writes of a reply are inside regions
  pub reply-inside : (call : Callee) (first : V × ℕ) (fresh : ℕ) (taken : List ℕ) (answer : Answer V C) → IsPlacedAnswer regions fresh answer → IfSome (limit_of answer) (λ limit. length taken ≤ limit)
      → AreInside regions (reply_of_answer ops call first taken answer).writes
  reply-inside call first fresh taken (Ends ending) good fits = All-nil (λ w. IsInside regions w.0 (length w.1))
  reply-inside call first fresh taken (Gives result writes) good fits = good.1
  reply-inside call first fresh taken (Allots region) good fits = All-nil (λ w. IsInside regions w.0 (length w.1))
  reply-inside call first fresh taken (Sends descriptor bytes result) good fits = All-nil (λ w. IsInside regions w.0 (length w.1))
  reply-inside call first fresh taken (Takes limit to) good fits =
      writes-good ops (λ p len. IsInside regions p len) (λ v. Any v) kept-inside fresh to limit (number_bytes ops taken)
      (let e = length-map taken (λ n. ops.split (ops.num B n) 0) in omega (arith, e, fits)) good.0

-- its region has a byte at least, and is within the limit with those that came before
pub reply-fresh : {V C : Type 0} (ops : Operators V C) (regions : List Region) (call : Callee) (first : V × ℕ) (fresh : ℕ) (taken : List ℕ) (answer : Answer V C) → IsPlacedAnswer regions fresh answer
    → IfSome (reply_of_answer ops call first taken answer).fresh (λ f. (1 ≤ f.0.size) × (fresh + f.0.size ≤ fresh_limit))
reply-fresh ops regions call first fresh taken (Ends ending) good = tt
reply-fresh ops regions call first fresh taken (Gives result writes) good = tt
reply-fresh ops regions call first fresh taken (Allots region) good = (good.0, good.2)
reply-fresh ops regions call first fresh taken (Sends descriptor bytes result) good = tt
reply-fresh ops regions call first fresh taken (Takes limit to) good = tt

-- a piece for it has a length of 32 bits
pub piece-short : {V C : Type 0} (regions : List Region) (fresh : ℕ) (answer : Answer V C) → IsPlacedAnswer regions fresh answer → IsShort (limit_of answer)
piece-short regions fresh (Ends ending) good = tt
piece-short regions fresh (Gives result writes) good = tt
piece-short regions fresh (Allots region) good = tt
piece-short regions fresh (Sends descriptor bytes result) good = tt
piece-short regions fresh (Takes limit to) good = good.1

pub piece-fits : (limit : Option ℕ) (piece : Option (List ℕ)) → IsPiece limit piece → IfSome limit (λ n. length (bytes_of piece) ≤ n)
piece-fits None None h = tt
piece-fits None (Some piece) h = absurd h
piece-fits (Some limit) None h = absurd h
piece-fits (Some limit) (Some piece) h = h

module _ {V C P R : Type 0} (dom : Domains Placed V C) (prog : Program P R V) (m : Machine Placed V C P) (name : ℕ → List ℕ)
    (same : (dom.over m.placed).regions ≡ m.placed.regions) (inside : PlacesInside (dom.over m.placed)) where
  abbrev Good : Answer V C → Type 0
  Good answer = IsPlacedAnswer m.placed.regions (sum (fresh_sizes m.placed)) answer

  call-placed : (call : Call) (words : List V) → IfOk (answer_of_call dom prog m name call words) Good
  call-placed (System number) words =
      system-good (dom.over m.placed) (λ p len. IsInside m.placed.regions p len) (λ v. Any v) (kept-inside (dom.over m.placed) m.placed.regions same inside)
      (sum (fresh_sizes m.placed)) m.memory words tt number
  call-placed (Import symbol) words =
      import-good (dom.over m.placed) (λ p len. IsInside m.placed.regions p len) (λ v. Any v) (kept-inside (dom.over m.placed) m.placed.regions same inside)
      (sum (fresh_sizes m.placed)) (found_memory dom prog m) words tt symbol (name symbol)

  pub answer-placed : (event : Event V) (answer : Answer V C) → answer_to dom prog m name event ≡ Ok answer → Good answer
  answer-placed event answer is = let Q : Result (Answer V C) Cause → Type 0 = λ r. IfOk r Good in subst Q is (call-placed event.call event.words)
