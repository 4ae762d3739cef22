-- Runs of the symbolic machine from a start: what is tested of each of their first steps, and that none comes behind the end.
use Rattle.std.proofs.Common.{◌≡◌, ℕ, zero, suc, ◌+◌, ◌<◌, List, [], ◌∷◌, get_or, Option, Some, None, Bool, true, subst, ap, ◌∙◌, arith}
use Rattle.std.specs.Prelude.{option_map, option_and_then, replicate}
use Rattle.std.specs.List.{list_all, range_with_len}
use Rattle.std.proofs.lemmas.List.FromFn.{get_or-range_with_len, length-range_with_len}
use Rattle.std.proofs.lemmas.List.Sums.{AllPass-from_list_all}
use Rattle.rw_words.specs.declared.atom.Cell.{Cell}
use Rattle.rw_machine.specs.declared.ending.End.{End}
use Rattle.rw_machine.specs.Program.{Program}
use Rattle.rw_machine.specs.Domains.{symbols}
use Rattle.rw_runs.specs.Runs.{advance, made, one_more}
use Rattle.rw_code.specs.declared.point.FilePoint.{FilePoint}
use Rattle.rw_code.specs.Mirrors.{SymbolicRun}

-- a test of the first n steps is one of each
pub each-below : (n : ℕ) (test : ℕ → Bool) → list_all test (range_with_len 0 n) ≡ true → (k : ℕ) → k < n → test k ≡ true
each-below n test h k low =
    let size = length-range_with_len 0 n in
    let at : get_or (range_with_len 0 n) k 0 ≡ k = get_or-range_with_len 0 n k 0 low ∙ omega arith in
    let all = AllPass-from_list_all test (range_with_len 0 n) h k 0 (omega (arith, low, size)) in
    subst (λ z. test z ≡ true) at all

module _ (prog : Program FilePoint ℕ (List Cell)) (begin : SymbolicRun) (n : ℕ) (end : End) where
  stopped : (o : Option SymbolicRun) → option_map {U = Option End} (λ run. run.ending) o ≡ Some (Some end) → option_and_then (advance symbols prog) o ≡ None
  stopped None e = cc
  stopped (Some run) e =
      let is : run.ending ≡ Some end = cc in
      ap (λ z. one_more symbols prog run z) is

  -- where it has ended after n steps, it makes no more
  pub none-after : option_map {U = Option End} (λ run. run.ending) (made symbols prog n begin) ≡ Some (Some end) → (j : ℕ) → made symbols prog (suc (n + j)) begin ≡ None
  none-after h zero = let same : suc (n + 0) ≡ suc n = omega arith in ap (λ k. made symbols prog k begin) same ∙ stopped (made symbols prog n begin) h
  none-after h (suc j) =
      let same : suc (n + suc j) ≡ suc (suc (n + j)) = omega arith in
      ap (λ k. made symbols prog k begin) same ∙ ap (λ o. option_and_then (advance symbols prog) o) (none-after h j)

-- a part of what is known of a run
pub part-of : {A B C : Type 0} (f : A → B) (g : B → C) (run : Option A) (x : B) → option_map f run ≡ Some x → option_map (λ a. g (f a)) run ≡ Some (g x)
part-of f g None x e = cc
part-of f g (Some run) x e = let same : f run ≡ x = cc in ap (λ z. Some (g z)) same

-- what is seen of a run, step by step, each from the one before it
abbrev pub seen : {B : Type 0} → Program FilePoint ℕ (List Cell) → (Option SymbolicRun → B) → ℕ → Option SymbolicRun → List B
seen prog f zero run = []
seen prog f (suc n) run = f run ∷ seen prog f n (option_and_then (advance symbols prog) run)

-- where it is the same each time, it is this after each of the first steps
pub seen-at : {B : Type 0} (prog : Program FilePoint ℕ (List Cell)) (f : Option SymbolicRun → B) (x : B) (begin : SymbolicRun) (n j k : ℕ) → seen prog f n (made symbols prog j begin) ≡ replicate n x → k < n → f (made symbols prog (j + k) begin) ≡ x
seen-at prog f x begin zero j k h low = absurd (omega (arith, low))
seen-at prog f x begin (suc n) j zero h low =
    let first : f (made symbols prog j begin) ≡ x = cc in
    let same : j ≡ j + 0 = omega arith in
    subst (λ i. f (made symbols prog i begin) ≡ x) same first
seen-at prog f x begin (suc n) j (suc k) h low =
    let rest : seen prog f n (made symbols prog (suc j) begin) ≡ replicate n x = cc in
    let same : suc j + k ≡ j + suc k = omega arith in
    subst (λ i. f (made symbols prog i begin) ≡ x) same (seen-at prog f x begin n (suc j) k rest (omega (arith, low)))
