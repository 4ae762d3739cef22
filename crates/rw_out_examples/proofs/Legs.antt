-- A run of a symbolic machine in legs: what is seen of it, step by step.
use Rattle.std.proofs.Common.{◌≡◌, ℕ, zero, suc, ◌+◌, List, [], ◌∷◌, ◌++◌, map, Option, Some, None, Bool, not, ◌&&◌, refl, sym, ap, ◌∙◌, arith}
use Rattle.std.specs.Prelude.{option_and_then, option_map, if◌then◌else◌}
use Rattle.std.specs.List.{list_all, range_with_len, sum_by}
use Rattle.std.specs.Option.{option_map_or}
use Rattle.std.proofs.lemmas.List.FromFn.{sum_by-map-range_with_len_more}
use Rattle.rw_words.specs.declared.atom.Cell.{Cell}
use Rattle.rw_machine.specs.Program.{Program}
use Rattle.rw_machine.specs.Step.{step_of}
use Rattle.rw_machine.specs.Domains.{symbols}
use Rattle.rw_machine.proofs.StepCorresponds.{asks}
use Rattle.rw_runs.specs.Runs.{advance, cost_of, entered, made, total, visit}
use Rattle.rw_probe.specs.Probes.{step_count}
use Rattle.rw_probe.specs.ProbedRuns.{entries, probe_cost}
use Rattle.rw_code.specs.declared.point.FilePoint.{FilePoint}
use Rattle.rw_code.specs.Mirrors.{SymbolicRun}
use Rattle.rw_out.specs.Items.{Probes}
use Rattle.rw_out.specs.Simulates.{is_there, probe_at}
use Rattle.rw_out_examples.proofs.Made.{seen as stepwise}

-- whether a step asks nothing, and its point, if it is made
abbrev pub Seen : Type 0
Seen = Option (Bool × FilePoint)

module _ (prog : Program FilePoint ℕ (List Cell)) where
  abbrev pub seen_in : Option SymbolicRun → Seen
  seen_in run = option_map {U = Bool × FilePoint} (λ run. (not (asks (step_of symbols prog run.machine)), run.machine.point)) run

  -- of a run and of the next ones
  abbrev pub seen_from : ℕ → Option SymbolicRun → List Seen
  seen_from n run = stepwise prog seen_in n run

  abbrev pub after : ℕ → Option SymbolicRun → Option SymbolicRun
  after zero run = run
  after (suc n) run = after n (option_and_then (advance symbols prog) run)

  -- so many steps from one run to another, and what is seen on the way
  pub record Leg (n : ℕ) (r : SymbolicRun) (seen : List Seen) (q : SymbolicRun) : Type 0 where
    pub is_seen : seen_from n (Some r) ≡ seen
    pub there : after n (Some r) ≡ Some q

  seen-joined : (n m : ℕ) (run : Option SymbolicRun) → seen_from (n + m) run ≡ seen_from n run ++ seen_from m (after n run)
  seen-joined zero m run = let e : 0 + m ≡ m = omega arith in ap (λ k. seen_from k run) e
  seen-joined (suc n) m run =
      let e : suc n + m ≡ suc (n + m) = omega arith in
      ap (λ k. seen_from k run) e ∙ ap (λ rest. seen_in run ∷ rest) (seen-joined n m (option_and_then (advance symbols prog) run))

  after-joined : (n m : ℕ) (run : Option SymbolicRun) → after (n + m) run ≡ after m (after n run)
  after-joined zero m run = let e : 0 + m ≡ m = omega arith in ap (λ k. after k run) e
  after-joined (suc n) m run = let e : suc n + m ≡ suc (n + m) = omega arith in ap (λ k. after k run) e ∙ after-joined n m (option_and_then (advance symbols prog) run)

  pub together : (n m : ℕ) (r q p : SymbolicRun) (xs ys : List Seen) → Leg n r xs q → Leg m q ys p → Leg (n + m) r (xs ++ ys) p
  together n m r q p xs ys first second = record {
    is_seen = seen-joined n m (Some r) ∙ ap (λ zs. zs ++ seen_from m (after n (Some r))) first.is_seen ∙ ap (λ run. xs ++ seen_from m run) first.there ∙ ap (λ zs. xs ++ zs) second.is_seen;
    there = after-joined n m (Some r) ∙ ap (after m) first.there ∙ second.there;
  }

  -- ---- what it says of the run

  after-made : (n k : ℕ) (r : SymbolicRun) → after n (made symbols prog k r) ≡ made symbols prog (k + n) r
  after-made zero k r = let e : k ≡ k + 0 = omega arith in ap (λ j. made symbols prog j r) e
  after-made (suc n) k r = after-made n (suc k) r ∙ (let e : suc k + n ≡ k + suc n = omega arith in ap (λ j. made symbols prog j r) e)

  seen-made : (n k : ℕ) (r : SymbolicRun) → seen_from n (made symbols prog k r) ≡ map (λ j. seen_in (made symbols prog j r)) (range_with_len k n)
  seen-made zero k r = refl
  seen-made (suc n) k r =
      ap (λ rest. seen_in (made symbols prog k r) ∷ rest)
      (seen-made n (suc k) r ∙ (let e : suc k ≡ k + 1 = omega arith in ap (λ j. map (λ i. seen_in (made symbols prog i r)) (range_with_len j n)) e))

  module _ (n : ℕ) (r : SymbolicRun) (seen : List Seen) (q : SymbolicRun) (leg : Leg n r seen q) where
    pub made-there : made symbols prog n r ≡ Some q
    made-there = sym (after-made n 0 r ∙ (let e : 0 + n ≡ n = omega arith in ap (λ j. made symbols prog j r) e)) ∙ leg.there

    all-seen : map (λ j. seen_in (made symbols prog j r)) (range_with_len 0 n) ≡ seen
    all-seen = sym (seen-made n 0 r) ∙ leg.is_seen

    -- a test of what is seen
    pub tested : (test : Option SymbolicRun → Bool) (of : Seen → Bool) → ((run : Option SymbolicRun) → test run ≡ of (seen_in run)) → list_all (λ k. test (made symbols prog k r)) (range_with_len 0 n) ≡ list_all of seen
    tested test of same = by (range_with_len 0 n) ∙ ap (list_all of) all-seen
      where
        by : (ks : List ℕ) → list_all (λ k. test (made symbols prog k r)) ks ≡ list_all of (map (λ j. seen_in (made symbols prog j r)) ks)
        by [] = refl
        by (k ∷ ks) = ap (λ b. b && list_all (λ k. test (made symbols prog k r)) ks) (same (made symbols prog k r)) ∙ ap (λ b. of (seen_in (made symbols prog k r)) && b) (by ks)

    -- a number that each step adds to
    pub summed : (f : ℕ → ℕ) (of : Seen → ℕ) → f 0 ≡ 0 → ((k : ℕ) → f (suc k) ≡ f k + of (seen_in (made symbols prog k r))) → f n ≡ sum_by of seen
    summed f of none more = by n ∙ ap (sum_by of) all-seen
      where
        by : (k : ℕ) → f k ≡ sum_by of (map (λ j. seen_in (made symbols prog j r)) (range_with_len 0 k))
        by zero = none
        by (suc k) =
            let next : suc k ≡ k + 1 = omega arith in
            let here : 0 + k ≡ k = omega arith in
            more k ∙ ap (λ s. s + of (seen_in (made symbols prog k r))) (by k) ∙ sym (sum_by-map-range_with_len_more of (λ j. seen_in (made symbols prog j r)) 0 k k here)
            ∙ ap (λ j. sum_by of (map (λ i. seen_in (made symbols prog i r)) (range_with_len 0 j))) (sym next)

    -- how often it comes to a point in one step more
    abbrev pub visits : ℕ → Seen → ℕ
    visits a seen = option_map_or (λ s. if is_there a s.1 then 1 else 0) seen 0

    entered-seen : (a : ℕ) (run : Option SymbolicRun) → visit symbols prog (is_there a) run ≡ visits a (seen_in run)
    entered-seen a None = refl
    entered-seen a (Some run) = refl

    entered-is : (a : ℕ) → entered symbols prog (is_there a) (suc n) r ≡ sum_by (visits a) seen + visits a (seen_in (Some q))
    entered-is a =
        ap (λ k. k + visit symbols prog (is_there a) (made symbols prog n r))
        (summed (λ k. entered symbols prog (is_there a) k r) (visits a) refl (λ k. ap (λ m. entered symbols prog (is_there a) k r + m) (entered-seen a (made symbols prog k r))))
        ∙ ap (λ k. sum_by (visits a) seen + k) (entered-seen a (made symbols prog n r) ∙ ap (λ run. visits a (seen_in run)) made-there)

    pub entries-are : (leaders : List ℕ) → entries is_there leaders prog (suc n) r ≡ map (λ a. sum_by (visits a) seen + visits a (seen_in (Some q))) leaders
    entries-are [] = refl
    entries-are (a ∷ leaders) =
        ap (λ k. k ∷ entries is_there leaders prog (suc n) r) (entered-is a) ∙ ap (λ ks. (sum_by (visits a) seen + visits a (seen_in (Some q))) ∷ ks) (entries-are leaders)

    -- and how many steps of probes that makes besides its own
    abbrev pub costs : Probes → Seen → ℕ
    costs probes seen = option_map_or (λ s. suc (option_map_or (λ f. step_count f.1) (probe_at probes s.1) 0)) seen 0

    cost-seen : (probes : Probes) (run : Option SymbolicRun) → cost_of symbols prog (probe_cost (probe_at probes)) run ≡ costs probes (seen_in run)
    cost-seen probes None = refl
    cost-seen probes (Some run) = refl

    pub total-is : (probes : Probes) → total symbols prog (probe_cost (probe_at probes)) (suc n) r ≡ sum_by (costs probes) seen + costs probes (seen_in (Some q))
    total-is probes =
        ap (λ k. k + cost_of symbols prog (probe_cost (probe_at probes)) (made symbols prog n r))
        (summed (λ k. total symbols prog (probe_cost (probe_at probes)) k r) (costs probes) refl (λ k. ap (λ m. total symbols prog (probe_cost (probe_at probes)) k r + m) (cost-seen probes (made symbols prog k r))))
        ∙ ap (λ k. sum_by (costs probes) seen + k) (cost-seen probes (made symbols prog n r) ∙ ap (λ run. costs probes (seen_in run)) made-there)
