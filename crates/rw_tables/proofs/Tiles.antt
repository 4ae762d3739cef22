-- Points that lie directly one behind another.
use Rattle.std.proofs.Common.{◌≡◌, ℕ, ◌+◌, ◌<◌, ◌≤◌, Bool, true, false, cond, List, [], ◌∷◌, ◌++◌, nat_lt, Option, Some, None, refl, sym, ap, subst, ◌∙◌, arith}
use Rattle.std.proofs.lemmas.Bool.Decides.{nat_tests}
use Rattle.std.specs.Option.{option_or}
use Rattle.rw_funcs.specs.Points.{Point}
use Rattle.rw_tables.specs.Dispatch.{nearest, passing, below, above}

-- from the address a on, each directly behind the one before it, up to the address e
abbrev pub Tiles : ℕ → List Point → ℕ → Type 0
Tiles a [] e = a ≡ e
Tiles a (p ∷ ps) e = (p.place ≡ a) × (0 < p.len) × Tiles (a + p.len) ps e

pub tiles-end : (a : ℕ) (ps : List Point) (e : ℕ) → Tiles a ps e → a ≤ e
tiles-end a [] e t = omega (arith, t)
tiles-end a (p ∷ ps) e t = let rest = tiles-end (a + p.len) ps e t.2 in omega (arith, rest)

pub tiles-last : (a : ℕ) (ps : List Point) (p : Point) → Tiles a ps p.place → 0 < p.len → Tiles a (ps ++ p ∷ []) (p.place + p.len)
tiles-last a [] p t some = (sym t, some, ap (λ n. n + p.len) t)
tiles-last a (q ∷ ps) p t some = (t.0, t.1, tiles-last (a + q.len) ps p t.2 some)

-- the points below the end are all, and those above it none
below-true : (q : Point) (ps : List Point) (c : ℕ) → q.place < c → below c (q ∷ ps) ≡ q ∷ below c ps
below-true q ps c h = let test : nat_lt q.place c ≡ true = grind (arith, nat_tests) in ap (λ t. cond t (q ∷ below c ps) (below c ps)) test

below-false : (q : Point) (ps : List Point) (c : ℕ) → c ≤ q.place → below c (q ∷ ps) ≡ below c ps
below-false q ps c h = let test : nat_lt q.place c ≡ false = grind (arith, nat_tests) in ap (λ t. cond t (q ∷ below c ps) (below c ps)) test

above-false : (q : Point) (ps : List Point) (c : ℕ) → q.place ≤ c → above c (q ∷ ps) ≡ above c ps
above-false q ps c h = let test : nat_lt c q.place ≡ false = grind (arith, nat_tests) in ap (λ t. cond t (q ∷ above c ps) (above c ps)) test

pub above-true : (q : Point) (ps : List Point) (c : ℕ) → c < q.place → above c (q ∷ ps) ≡ q ∷ above c ps
above-true q ps c h = let test : nat_lt c q.place ≡ true = grind (arith, nat_tests) in ap (λ t. cond t (q ∷ above c ps) (above c ps)) test

pub below-all : (a : ℕ) (ps : List Point) (e c : ℕ) → Tiles a ps e → e ≤ c → below c ps ≡ ps
below-all a [] e c t high = refl
below-all a (q ∷ ps) e c t high =
    let rest = tiles-end (a + q.len) ps e t.2 in
    below-true q ps c (omega (arith, rest, t.0, t.1)) ∙ ap (λ l. q ∷ l) (below-all (a + q.len) ps e c t.2 high)

pub above-none : (a : ℕ) (ps : List Point) (e c : ℕ) → Tiles a ps e → e ≤ c → above c ps ≡ []
above-none a [] e c t high = refl
above-none a (q ∷ ps) e c t high =
    let rest = tiles-end (a + q.len) ps e t.2 in
    above-false q ps c (omega (arith, rest, t.0, t.1)) ∙ above-none (a + q.len) ps e c t.2 high

-- the points below a place where they go on
pub below-none : (a : ℕ) (ps : List Point) (e c : ℕ) → Tiles a ps e → c ≤ a → below c ps ≡ []
below-none a [] e c t low = refl
below-none a (q ∷ ps) e c t low = below-false q ps c (omega (arith, t.0)) ∙ below-none (a + q.len) ps e c t.2 (omega arith)

pub below-split : (a : ℕ) (xs ys : List Point) (c e : ℕ) → Tiles a xs c → Tiles c ys e → below c (xs ++ ys) ≡ xs
below-split a [] ys c e t s = below-none c ys e c s (omega arith)
below-split a (q ∷ xs) ys c e t s =
    let rest = tiles-end (a + q.len) xs c t.2 in
    below-true q (xs ++ ys) c (omega (arith, rest, t.0, t.1)) ∙ ap (λ l. q ∷ l) (below-split (a + q.len) xs ys c e t.2 s)

-- a point that is found lies among them
pub record IsAmong (a e : ℕ) (p : Point) : Type 0 where
  pub low : a ≤ p.place
  pub some : 0 < p.len
  pub high : p.place + p.len ≤ e

passed : (test : Point → Bool) (q p : Point) (t : Bool) → cond t (Some q) None ≡ Some p → q ≡ p
passed test q p true h = cc
passed test q p false h = absurd (cc)

pub nearest-among : (test : Point → Bool) (a : ℕ) (ps : List Point) (e : ℕ) → Tiles a ps e → (p : Point) → nearest test ps ≡ Some p → IsAmong a e p
nearest-among test a [] e t p h = absurd (cc)
nearest-among test a (q ∷ ps) e t p h = by_option (nearest test ps) (nearest-among test (a + q.len) ps e t.2 p) h
  where
    by_option : (o : Option Point) → (o ≡ Some p → IsAmong (a + q.len) e p) → option_or o (passing test q) ≡ Some p → IsAmong a e p
    by_option (Some r) rest g =
        let is = rest (ap Some (cc)) in
        let low = is.low in
        record { low = omega (arith, low); some = is.some; high = is.high }
    by_option None rest g =
        let same : q ≡ p = passed test q p (test q) g in
        let end = tiles-end (a + q.len) ps e t.2 in
        let here : IsAmong a e q = record { low = omega (arith, t.0); some = t.1; high = omega (arith, end, t.0) } in
        subst (IsAmong a e) same here
