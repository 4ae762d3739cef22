-- The nearest point, and what is kept, of points and one more.
use Rattle.std.proofs.Common.{◌≡◌, Bool, true, false, ◌&&◌, cond, List, [], ◌∷◌, ◌++◌, filter, Option, Some, None, refl, sym, ap, ◌∙◌}
use Rattle.std.specs.Option.{option_or}
use Rattle.rw_funcs.specs.Points.{Point}
use Rattle.rw_tables.specs.Dispatch.{nearest, passing}

pub or-none : {A : Type 0} (o : Option A) → option_or o None ≡ o
or-none None = refl
or-none (Some x) = refl

pub or-or : {A : Type 0} (a b c : Option A) → option_or (option_or a b) c ≡ option_or a (option_or b c)
or-or None b c = refl
or-or (Some x) b c = refl

pub nearest-append : (test : Point → Bool) (xs ys : List Point) → nearest test (xs ++ ys) ≡ option_or (nearest test ys) (nearest test xs)
nearest-append test [] ys = sym (or-none (nearest test ys))
nearest-append test (x ∷ xs) ys = ap (λ o. option_or o (passing test x)) (nearest-append test xs ys) ∙ or-or (nearest test ys) (nearest test xs) (passing test x)

by-test : (p : Point) (o : Option Point) (t : Bool) → option_or (cond t (Some p) None) o ≡ cond t (Some p) o
by-test p o true = refl
by-test p o false = refl

pub nearest-last : (test : Point → Bool) (xs : List Point) (p : Point) → nearest test (xs ++ p ∷ []) ≡ cond (test p) (Some p) (nearest test xs)
nearest-last test xs p = nearest-append test xs (p ∷ []) ∙ by-test p (nearest test xs) (test p)

pub nearest-filter : (q test : Point → Bool) (ps : List Point) → nearest test (filter q ps) ≡ nearest (λ p. q p && test p) ps
nearest-filter q test [] = refl
nearest-filter q test (p ∷ ps) = by_kept (q p) (nearest-filter q test ps)
  where
    by_kept : (t : Bool) → nearest test (filter q ps) ≡ nearest (λ p. q p && test p) ps → nearest test (cond t (p ∷ filter q ps) (filter q ps)) ≡ option_or (nearest (λ p. q p && test p) ps) (cond (t && test p) (Some p) None)
    by_kept true same = ap (λ o. option_or o (passing test p)) same
    by_kept false same = same ∙ sym (or-none (nearest (λ p. q p && test p) ps))
