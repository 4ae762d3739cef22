-- Lists of numbers that rise strictly: two of them with the same elements are equal.
use Rattle.std.proofs.Common.{◌≡◌, ℕ, ◌+◌, ◌<◌, ◌≤◌, Bool, true, false, cond, List, [], ◌∷◌, refl, sym, ap, ◌∙◌, arith, inl, inr}
use Rattle.std.proofs.lemmas.Bool.{cases_eq, cases_lt}
use Rattle.std.specs.Prelude.{◌||◌, filter}
use Rattle.rw_funcs.specs.Points.{is_one_of}
use Rattle.rw_tables.proofs.KnownFacts.{same-on, same-off}

-- from a first bound on, each above the one before it
abbrev pub Rising : ℕ → List ℕ → Type 0
Rising lo [] = Unit {0}
Rising lo (x ∷ xs) = (lo ≤ x) × Rising (x + 1) xs

pub rising-from : (lo hi : ℕ) (xs : List ℕ) → lo ≤ hi → Rising hi xs → Rising lo xs
rising-from lo hi [] h r = tt
rising-from lo hi (x ∷ xs) h r = (let b = r.0 in omega (arith, b, h), r.1)

rising-if : (t : Bool) (lo x : ℕ) (xs : List ℕ) → lo ≤ x → Rising (x + 1) xs → Rising lo (cond t (x ∷ xs) xs)
rising-if true lo x xs h r = (h, r)
rising-if false lo x xs h r = rising-from lo (x + 1) xs (omega (arith, h)) r

pub rising-filter : (p : ℕ → Bool) (lo : ℕ) (xs : List ℕ) → Rising lo xs → Rising lo (filter p xs)
rising-filter p lo [] r = tt
rising-filter p lo (x ∷ xs) r = rising-if (p x) lo x (filter p xs) r.0 (rising-filter p (x + 1) xs r.1)

-- nothing below the bound is an element
pub not-below : (lo c : ℕ) (xs : List ℕ) → Rising lo xs → c < lo → is_one_of xs c ≡ false
not-below lo c [] r h = refl
not-below lo c (x ∷ xs) r h =
    let b = r.0 in
    ap (λ t. t || is_one_of xs c) (same-off x c (λ e. omega (arith, b, h, e))) ∙ not-below (x + 1) c xs r.1 (omega (arith, b, h))

first-is : (x : ℕ) (xs : List ℕ) → is_one_of (x ∷ xs) x ≡ true
first-is x xs = ap (λ t. t || is_one_of xs x) (same-on x x refl)

-- the others, of two lists with one first element
others : (x c : ℕ) (xs ys : List ℕ) → Rising (x + 1) xs → Rising (x + 1) ys → is_one_of (x ∷ xs) c ≡ is_one_of (x ∷ ys) c → is_one_of xs c ≡ is_one_of ys c
others x c xs ys r s e =
    elim (cases_eq x c) [
      | inl same ↦ not-below (x + 1) c xs r (omega (arith, same)) ∙ sym (not-below (x + 1) c ys s (omega (arith, same)))
      | inr other ↦
          let off = same-off x c other in
          sym (ap (λ t. t || is_one_of xs c) off) ∙ e ∙ ap (λ t. t || is_one_of ys c) off
    ]

pub same-elements : (lo : ℕ) (xs ys : List ℕ) → Rising lo xs → Rising lo ys → ((c : ℕ) → is_one_of xs c ≡ is_one_of ys c) → xs ≡ ys
same-elements lo [] [] r s e = refl
same-elements lo [] (y ∷ ys) r s e = let never = e y ∙ first-is y ys in absurd (cc)
same-elements lo (x ∷ xs) [] r s e = let never = sym (first-is x xs) ∙ e x in absurd (cc)
same-elements lo (x ∷ xs) (y ∷ ys) r s e =
    elim (cases_eq x y) [
      | inl same ↦
          let here : (c : ℕ) → is_one_of (x ∷ xs) c ≡ is_one_of (x ∷ ys) c = λ c. e c ∙ ap (λ z. is_one_of (z ∷ ys) c) (sym same) in
          let rise : Rising (x + 1) ys = rising-from (x + 1) (y + 1) ys (omega (arith, same)) s.1 in
          ap (λ zs. x ∷ zs) (same-elements (x + 1) xs ys r.1 rise (λ c. others x c xs ys r.1 rise (here c))) ∙ ap (λ z. z ∷ ys) same
      | inr other ↦
          elim (cases_lt x y) [
            | inl low ↦ let never = sym (first-is x xs) ∙ e x ∙ ap (λ t. t || is_one_of ys x) (same-off y x (λ f. omega (arith, low, f))) ∙ not-below (y + 1) x ys s.1 (omega (arith, low)) in absurd (cc)
            | inr high ↦ let never = sym (first-is y ys) ∙ sym (e y) ∙ ap (λ t. t || is_one_of xs y) (same-off x y other) ∙ not-below (x + 1) y xs r.1 (omega (arith, high, other)) in absurd (cc)
          ]
    ]
