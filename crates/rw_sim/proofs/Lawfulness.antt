-- The replies of built-in answers are lawful.
use Rattle.std.proofs.Common.{◌≡◌, ◌<◌, ◌+◌, ◌-◌, ◌/◌, ◌%◌, ◌*◌, ◌^◌, ℕ, zero, suc, refl, sym, subst, ◌∙◌, ap, arith, lit<, List, [], ◌∷◌, length, Result, Ok, add-zero, add-one}
use Rattle.std.proofs.Math.Nat.{mod-add-div, div-eq_of_lt, div-one, div-div-eq-div-mul, pow-suc}
use Rattle.std.proofs.lemmas.Nat.{mod_below}
use Rattle.std.specs.Prelude.{All, IfOk}
use Rattle.std.proofs.lemmas.List.{length-map}
use Rattle.std.proofs.lemmas.List.Elements.{All-nil, All-head}
use Rattle.rw_base.specs.declared.width.Width.TheVariants.{B, Q}
use Rattle.rw_words.specs.Words.{number_of_bytes}
use Rattle.rw_domain.specs.declared.cause.Cause.{Cause}
use Rattle.rw_domain.specs.declared.place.Place.{Place}
use Rattle.rw_domain.specs.NumberPlaces.{numbers_over}
use Rattle.rw_domain.specs.Operators.{Operators}
use Rattle.rw_domain.specs.Placed.{Placed}
use Rattle.rw_domain.specs.Symbols.{symbols_over}
use Rattle.rw_machine.specs.Program.{IsWide}
use Rattle.rw_machine.specs.Running.{bytes_from}
use Rattle.rw_sim.specs.declared.callee.Callee.{Callee}
use Rattle.rw_sim.specs.Answers.{Answer, Ends, Gives, Allots, Sends, Takes}
use Rattle.rw_sim.specs.Builtins.{parameter, system_answer, import_answer}
use Rattle.rw_sim.specs.Lawful.{IsWritable, IsLawful, IsTakenFor}
use Rattle.rw_sim.specs.Replies.{number_bytes, reply_of_answer}
use Rattle.rw_sim.proofs.Permitted.{numbers-permitted, words-permitted, writable-less}
use Rattle.rw_sim.proofs.GoodAnswers.{AreKept, IsGood, writes-good, system-good, import-good}

-- ---- words of width Q

-- the bytes of a number make it up
from-bytes : (placed : Placed) (k i n : ℕ) → n / 256 ^ (i + k) ≡ 0 → number_of_bytes (bytes_from (numbers_over placed) k i n) ≡ n / 256 ^ i
from-bytes placed zero i n e = sym e ∙ ap (λ j. n / 256 ^ j) (add-zero i)
from-bytes placed (suc k) i n e =
    let on : i + 1 + k ≡ i + suc k = omega arith in
    ap (λ z. n / 256 ^ i % 256 + 256 * z)
    (from-bytes placed k (i + 1) n (ap (λ j. n / 256 ^ j) on ∙ e) ∙ sym (div-div-eq-div-mul n (256 ^ i) 256 ∙ ap (λ z. n / z) (sym (pow-suc 256 i) ∙ ap (λ j. 256 ^ j) (sym (add-one i)))))
    ∙ mod-add-div (n / 256 ^ i) 256

pub small-wide : (placed : Placed) (n : ℕ) → n < 2 ^ 64 → IsWide (numbers_over placed) n
small-wide placed n lt = from-bytes placed 8 0 n (div-eq_of_lt lt) ∙ div-one n

number-wide : (placed : Placed) (n : ℕ) → IsWide (numbers_over placed) ((numbers_over placed).num Q n)
number-wide placed n = small-wide placed (n % 2 ^ 64) (mod_below n (2 ^ 64) (lit< tt))

first-wide : {V C : Type 0} (ops : Operators V C) → IsWide ops (ops.undef Q) → (words : List V) → All (IsWide ops) words → IsWide ops (parameter ops words 0)
first-wide ops undefined [] all = undefined
first-wide ops undefined (w ∷ words) all = All-head (IsWide ops) w words all

-- ---- replies of answers that are good

module _ {V C : Type 0} (ops : Operators V C) (placed : Placed) (call : Callee) (first : V × ℕ)
    (kept : AreKept ops (IsWritable placed) (IsWide ops)) (undefined : IsWide ops (ops.undef Q)) (wide : IsWide ops first.0)
    (room : length placed.regions + 1 < 2 ^ 32 - 1) where
  abbrev Good : ℕ → Answer V C → Type 0
  Good fresh answer = IsGood fresh (IsWritable placed) (IsWide ops) answer

  no-writes : All (λ (w : Place × List C). IsWritable placed w.0 (length w.1)) []
  no-writes = All-nil (λ w. IsWritable placed w.0 (length w.1))

  reply-lawful : (fresh : ℕ) (taken : List ℕ) (answer : Answer V C) → IsTakenFor answer taken → Good fresh answer → IsLawful ops placed call (reply_of_answer ops call first taken answer)
  reply-lawful fresh taken (Ends ending) fits good = record { result = undefined; scratch = refl; writes = no-writes; fresh = tt; ending = good }
  reply-lawful fresh taken (Gives result writes) fits good = record { result = good.0; scratch = refl; writes = good.1; fresh = tt; ending = tt }
  reply-lawful fresh taken (Allots region) fits good = record { result = wide; scratch = refl; writes = no-writes; fresh = (good.0, good.1, room); ending = tt }
  reply-lawful fresh taken (Sends descriptor bytes result) fits good = record { result = good; scratch = refl; writes = no-writes; fresh = tt; ending = tt }
  reply-lawful fresh taken (Takes limit to) fits good =
      record {
        result = kept.numbers (length taken);
        scratch = refl;
        writes = writes-good ops (IsWritable placed) (IsWide ops) kept fresh to limit (number_bytes ops taken) (let e = length-map taken (λ n. ops.split (ops.num B n) 0) in omega (arith, e, fits)) good.0;
        fresh = tt;
        ending = tt;
      }

  pub system-lawful : (memory : List (List C)) (words : List V) (number : ℕ) (taken : List ℕ) (answer : Answer V C) → All (IsWide ops) words → IsTakenFor answer taken
      → system_answer ops memory words number ≡ Ok answer → IsLawful ops placed call (reply_of_answer ops call first taken answer)
  system-lawful memory words number taken answer all fits is =
      reply-lawful 0 taken answer fits
      (let P : Result (Answer V C) Cause → Type 0 = λ r. IfOk r (Good 0) in
      subst P is (system-good ops (IsWritable placed) (IsWide ops) kept 0 memory words (first-wide ops undefined words all) number))

  pub import-lawful : (memory : List (List C)) (words : List V) (fresh symbol : ℕ) (name taken : List ℕ) (answer : Answer V C) → All (IsWide ops) words → IsTakenFor answer taken
      → import_answer ops memory words fresh symbol name ≡ Ok answer → IsLawful ops placed call (reply_of_answer ops call first taken answer)
  import-lawful memory words fresh symbol name taken answer all fits is =
      reply-lawful fresh taken answer fits
      (let P : Result (Answer V C) Cause → Type 0 = λ r. IfOk r (Good fresh) in
      subst P is (import-good ops (IsWritable placed) (IsWide ops) kept fresh memory words (first-wide ops undefined words all) symbol name))

pub kept-by-words : (placed : Placed) → AreKept (symbols_over placed) (IsWritable placed) (IsWide (symbols_over placed))
kept-by-words placed = record { permitted = words-permitted placed; less = writable-less placed; numbers = λ n. refl }

pub kept-by-numbers : (placed : Placed) → AreKept (numbers_over placed) (IsWritable placed) (IsWide (numbers_over placed))
kept-by-numbers placed = record { permitted = numbers-permitted placed; less = writable-less placed; numbers = number-wide placed }
