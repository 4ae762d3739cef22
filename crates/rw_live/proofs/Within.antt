-- The points of a file in a range.
use Rattle.std.proofs.Common.{◌≡◌, ℕ, ◌<◌, ◌≤◌, List, [], ◌∷◌, Option, Some, None, Bool, true, false, refl, sym, ap, ◌∙◌, arith, if◌then◌else◌}
use Rattle.std.specs.Prelude.{◌==◌, ◌&&◌, ◌||◌, nat_le, nat_lt}
use Rattle.std.specs.Option.{option_map, is_some}
use Rattle.std.proofs.lemmas.Bool.{eqb-true, leb-true, ltb-true, ltb-false}
use Rattle.std.proofs.lemmas.Option.{some_pair_parts}
use Rattle.rw_base.specs.declared.span.Span.{Span}
use Rattle.x86_insn.specs.declared.instruction.Insn.{Insn}
use Rattle.rw_funcs.specs.Points.{Point, is_point, point_at, insn_at}
use Rattle.rw_funcs.proofs.PointFacts.{point_at-found}
use Rattle.rw_live.specs.Nodes.{in_span, points_within}

abbrev insn_of : Option Point → Option (Insn ℕ × ℕ)
insn_of o = option_map (λ p. (p.insn, p.len)) o

and-parts : (a b : Bool) → a && b ≡ true → (a ≡ true) × (b ≡ true)
and-parts true b e = (refl, e)
and-parts false b e = cc

module _ (span : Span) where
  pub point-within : (ps : List Point) (a : ℕ) → point_at (points_within span ps) a ≡ (if in_span span a then point_at ps a else None)
  point-within [] a = by (in_span span a)
    where
      by : (t : Bool) → ◌≡◌ {A = Option Point} None (if t then None else None)
      by true = refl
      by false = refl
  point-within (p ∷ ps) a = by (p.place == a) refl (in_span span p.place) refl (point-within ps a)
    where
      at_end : (t : Bool) → t ≡ false → (if t then Some p else None) ≡ None
      at_end true e = cc
      at_end false e = refl

      by : (same : Bool) → (p.place == a) ≡ same → (t : Bool) → in_span span p.place ≡ t → point_at (points_within span ps) a ≡ (if in_span span a then point_at ps a else None)
          → point_at (if t then p ∷ points_within span ps else points_within span ps) a ≡ (if in_span span a then (if p.place == a then Some p else point_at ps a) else None)
      by true e true f rest =
          let place : p.place ≡ a = eqb-true p.place a e in
          let here : in_span span a ≡ true = sym (ap (in_span span) place) ∙ f in
          rw (e, here) refl
      by true e false f rest =
          let place : p.place ≡ a = eqb-true p.place a e in
          let here : in_span span a ≡ false = sym (ap (in_span span) place) ∙ f in
          rest ∙ rw here refl
      by false e true f rest = rw e rest
      by false e false f rest = rw e rest

  chosen : {X : Type 0} (t u : Bool) (x y : X) → t ≡ u → (if t then x else y) ≡ (if u then x else y)
  chosen t u x y e = ap (λ b. if b then x else y) e

  pub insn-inside : (ps : List Point) (a : ℕ) → in_span span a ≡ true → insn_at (points_within span ps) a ≡ insn_at ps a
  insn-inside ps a e = ap insn_of (point-within ps a ∙ chosen (in_span span a) true (point_at ps a) None e)

  pub insn-outside : (ps : List Point) (a : ℕ) → in_span span a ≡ false → insn_at (points_within span ps) a ≡ None
  insn-outside ps a e = ap insn_of (point-within ps a ∙ chosen (in_span span a) false (point_at ps a) None e)

pub point-is-some : (ps : List Point) (a : ℕ) → is_point ps a ≡ is_some (point_at ps a)
point-is-some [] a = refl
point-is-some (p ∷ ps) a = by (p.place == a) (point-is-some ps a)
  where
    by : (t : Bool) → is_point ps a ≡ is_some (point_at ps a) → t || is_point ps a ≡ is_some (if t then Some p else point_at ps a)
    by true h = refl
    by false h = h

module _ (span : Span) (ps : List Point) (a : ℕ) where
  is-within : is_point (points_within span ps) a ≡ (in_span span a && is_point ps a)
  is-within = point-is-some (points_within span ps) a ∙ ap is_some (point-within span ps a) ∙ by (in_span span a)
    where
      by : (t : Bool) → is_some (if t then point_at ps a else None) ≡ t && is_point ps a
      by true = sym (point-is-some ps a)
      by false = refl

  pub is-inside : in_span span a ≡ true → is_point (points_within span ps) a ≡ is_point ps a
  is-inside e = is-within ∙ ap (λ t. t && is_point ps a) e

  pub is-outside : in_span span a ≡ false → is_point (points_within span ps) a ≡ false
  is-outside e = is-within ∙ ap (λ t. t && is_point ps a) e

  -- a point of the range lies in it
  pub point-inside : is_point (points_within span ps) a ≡ true → (span.start ≤ a) × (a < span.end)
  point-inside e = by (in_span span a) refl (sym is-within ∙ e)
    where
      by : (t : Bool) → in_span span a ≡ t → t && is_point ps a ≡ true → (span.start ≤ a) × (a < span.end)
      by true f g = let p = and-parts (nat_le span.start a) (nat_lt a span.end) f in (leb-true span.start a p.0, ltb-true a span.end p.1)
      by false f g = cc

  -- and none is at or behind its end
  pub none-beyond : nat_lt a span.end ≡ false → is_point (points_within span ps) a ≡ false
  none-beyond e = by (is_point (points_within span ps) a) refl
    where
      by : (t : Bool) → is_point (points_within span ps) a ≡ t → t ≡ false
      by true f = let lt = (point-inside f).1 in let le = ltb-false a span.end e in absurd (omega (arith, lt, le))
      by false f = refl

-- the instruction at an address is that of the point there
pub insn-point : (ps : List Point) (a : ℕ) (i : Insn ℕ) (n : ℕ) → insn_at ps a ≡ Some (i, n) → point_at ps a ≡ Some (record { place = a; insn = i; len = n })
insn-point ps a i n e = by (point_at ps a) refl e
  where
    by : (o : Option Point) → point_at ps a ≡ o → insn_of o ≡ Some (i, n) → point_at ps a ≡ Some (record { place = a; insn = i; len = n })
    by None f g = cc
    by (Some p) f g =
        let place : p.place ≡ a = (point_at-found ps a p f).1 in
        let parts = some_pair_parts p.insn i p.len n g in
        f ∙ (λ k. Some (record { place = place k; insn = parts.0 k; len = parts.1 k }))
