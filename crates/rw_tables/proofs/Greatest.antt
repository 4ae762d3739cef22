-- The last point that passes a test has the greatest address, where points ascend.
use Rattle.std.proofs.Common.{◌≡◌, ℕ, zero, suc, ◌<◌, ◌≤◌, Bool, true, false, cond, List, [], ◌∷◌, length, get_or, Option, Some, None, Contains, refl, ap, subst, ◌∙◌, arith}
use Rattle.std.specs.List.{AllPairs}
use Rattle.std.specs.Option.{option_or}
use Rattle.rw_funcs.specs.Points.{Point}
use Rattle.rw_tables.specs.Dispatch.{nearest, passing, IsNearest, IsBelow}
use Rattle.rw_tables.proofs.SeenFacts.{passed-test}

pub none-passes : (test : Point → Bool) (ps : List Point) → nearest test ps ≡ None → (k : ℕ) (d : Point) → k < length ps → test (get_or ps k d) ≡ true → ⊥
none-passes test [] h k d within pass = omega (arith, within)
none-passes test (x ∷ xs) h k d within pass = by_option (nearest test xs) refl (none-passes test xs) h k within pass
  where
    not-passing : (t : Bool) → cond t (Some x) None ≡ None → t ≡ true → ⊥
    not-passing true g e = absurd (cc)
    not-passing false g e = absurd (cc)

    by_option : (o : Option Point) → nearest test xs ≡ o → (nearest test xs ≡ None → (j : ℕ) (e : Point) → j < length xs → test (get_or xs j e) ≡ true → ⊥) → option_or o (passing test x) ≡ None → (j : ℕ) → j < length (x ∷ xs) → test (get_or (x ∷ xs) j d) ≡ true → ⊥
    by_option (Some r) is rest g j low e = absurd (cc)
    by_option None is rest g zero low e = not-passing (test x) g e
    by_option None is rest g (suc j) low e = rest is j d (omega arith) e

tail-ascends : (x : Point) (xs : List Point) → AllPairs IsBelow (x ∷ xs) → AllPairs IsBelow xs
tail-ascends x xs up i j d earlier within = up (suc i) (suc j) d (omega (arith, earlier)) (omega (arith, within))

head-below : (x : Point) (xs : List Point) (q : Point) → AllPairs IsBelow (x ∷ xs) → Contains xs q → x.place < q.place
head-below x xs q up here =
    let within = here.1 in
    subst (λ (r : Point). x.place < r.place) here.2 (up 0 (suc here.0) q (omega arith) (omega (arith, within)))

pub greatest : (test : Point → Bool) (ps : List Point) (p : Point) → AllPairs IsBelow ps → nearest test ps ≡ Some p → IsNearest test ps p
greatest test [] p up h = absurd (cc)
greatest test (x ∷ xs) p up h = by_option (nearest test xs) refl (λ q e. greatest test xs q (tail-ascends x xs up) e) h
  where
    later : IsNearest test xs p → IsNearest test (x ∷ xs) p
    later is =
        let at = is.one_of in
        let low = at.1 in
        let above = head-below x xs p up is.one_of in
        record {
          one_of = (suc at.0, omega (arith, low), at.2);
          passes = is.passes;
          greatest = λ q here pass. by_place q here.0 here.1 here.2 pass is above;
        }
      where
        by_place : (q : Point) (k : ℕ) → k < length (x ∷ xs) → get_or (x ∷ xs) k q ≡ q → test q ≡ true → IsNearest test xs p → x.place < p.place → q.place ≤ p.place
        by_place q zero within e pass is above = let same = ap (λ (r : Point). r.place) e in omega (arith, same, above)
        by_place q (suc k) within e pass is above = is.greatest q (k, omega (arith, within), e) pass

    here : test x ≡ true → nearest test xs ≡ None → IsNearest test (x ∷ xs) x
    here pass none = record {
      one_of = (0, omega arith, refl);
      passes = pass;
      greatest = λ q at pass_q. by_place q at.0 at.1 at.2 pass_q none;
    }
      where
        by_place : (q : Point) (k : ℕ) → k < length (x ∷ xs) → get_or (x ∷ xs) k q ≡ q → test q ≡ true → nearest test xs ≡ None → q.place ≤ x.place
        by_place q zero within e pass none = let same = ap (λ (r : Point). r.place) e in omega (arith, same)
        by_place q (suc k) within e pass none = absurd (none-passes test xs none k q (omega (arith, within)) (ap test e ∙ pass))

    by_option : (o : Option Point) → nearest test xs ≡ o → ((q : Point) → nearest test xs ≡ Some q → IsNearest test xs q) → option_or o (passing test x) ≡ Some p → IsNearest test (x ∷ xs) p
    by_option (Some r) is rest g = later (rest p (is ∙ g))
    by_option None is rest g =
        let same = passed-test x p (test x) g in
        subst (IsNearest test (x ∷ xs)) same.0 (here same.1 is)
