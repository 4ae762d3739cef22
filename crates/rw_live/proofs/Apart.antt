-- The points of the functions of a file: no two share a byte, and each function is small.
use Rattle.std.proofs.Common.{◌≡◌, ℕ, ◌+◌, ◌-◌, ◌<◌, ◌≤◌, Bool, true, false, if◌then◌else◌, nat_lt, List, [], ◌++◌, length, take, drop, get_or, Some, None, Contains, sym, ap, subst, ◌∙◌, arith, ◌⊎◌, inl, inr, length-take, length-drop, cond}
use Rattle.std.specs.List.{AllPairs}
use Rattle.std.proofs.lemmas.Bool.{cases_order}
use Rattle.std.proofs.lemmas.Bool.Decides.{nat_tests}
use Rattle.std.proofs.lemmas.List.{get_or_default}
use Rattle.rw_base.specs.declared.span.Span.{Span}
use Rattle.rw_base.specs.declared.fault.Fault.{Fault}
use Rattle.rw_base.specs.declared.fault.Fault.TheVariants.{TooLarge}
use Rattle.rw_base.specs.Rules.{Rule, first, when}
use Rattle.rw_base.proofs.First.{first_append}
use Rattle.rw_elf.specs.declared.symbol.Symbol.{Symbol}
use Rattle.rw_elf.specs.declared.section.Section.{Section}
use Rattle.rw_elf.specs.Places.{section_bytes}
use Rattle.rw_elf.specs.Sections.{has_bytes}
use Rattle.rw_elf.specs.Header.{header_rules}
use Rattle.rw_elf.specs.Symbols.{symbol_rules}
use Rattle.rw_elf.specs.Tables.{elf_rules}
use Rattle.rw_elf.proofs.Limits.{clean_size}
use Rattle.rw_funcs.specs.Found.{found_rules}
use Rattle.rw_funcs.specs.Functions.{kept_functions, code_of_symbol, end_of, its_section}
use Rattle.rw_funcs.specs.Points.{Point, point_at, points, points_of, file_points}
use Rattle.rw_funcs.proofs.Facts.{functions_apart, code_length}
use Rattle.rw_funcs.proofs.FunctionsOf.{clean-functions}
use Rattle.rw_funcs.proofs.PointFacts.{IsPointOf, points-ascend, points_of-are, point_at-found, Contains-flat_map}
use Rattle.std.proofs.lemmas.List.Elements.{All-contains}
use Rattle.rw_live.specs.Nodes.{in_span, points_in}
use Rattle.rw_live.proofs.Within.{point-within}
use Rattle.rw_live.proofs.NodesMade.{AreApart}

-- a point of a range is one of the file
pub in-file : (bytes : List ℕ) (span : Span) (c : ℕ) (p : Point) → point_at (points_in bytes span) c ≡ Some p → point_at (file_points bytes) c ≡ Some p
in-file bytes span c p e = by (in_span span c) (sym (point-within span (file_points bytes) c) ∙ e)
  where
    by : (t : Bool) → (if t then point_at (file_points bytes) c else None) ≡ Some p → point_at (file_points bytes) c ≡ Some p
    by true g = g
    by false g = cc

-- ---- the point at an address, with its function

record Found (bytes : List ℕ) (c : ℕ) (p : Point) : Type 0 where
  pub of : Symbol
  pub kept : Contains (kept_functions bytes) of
  pub one : Contains (points_of bytes of) p
  pub is : IsPointOf bytes of p
  pub place : p.place ≡ c

at-index : {X : Type 0} (xs : List X) (x d : X) (h : Contains xs x) → get_or xs h.0 d ≡ x
at-index xs x d h = get_or_default xs h.0 d x h.1 ∙ h.2

-- of two items of a list that are apart, the one is before the other, or they are one
one-before : {X : Type 0} (start end : X → ℕ) (xs : List X) → AllPairs (λ x y. end x ≤ start y) xs → (x y : X) → Contains xs x → Contains xs y → (end x ≤ start y) ⊎ ((end y ≤ start x) ⊎ (x ≡ y))
one-before start end xs apart x y here there =
    let x_at = at-index xs x x here in
    let y_at = at-index xs y x there in
    let xs_at : start (get_or xs here.0 x) ≡ start x = ap start x_at in
    let xe_at : end (get_or xs here.0 x) ≡ end x = ap end x_at in
    let ys_at : start (get_or xs there.0 x) ≡ start y = ap start y_at in
    let ye_at : end (get_or xs there.0 x) ≡ end y = ap end y_at in
    elim (cases_order here.0 there.0) [
      | inl same ↦ inr (inr (sym x_at ∙ ap (λ k. get_or xs k x) same ∙ y_at))
      | inr o ↦ elim o [
        | inl before ↦ (let far = apart here.0 there.0 x before there.1 in inl (omega (arith, far, xe_at, ys_at)))
        | inr after ↦ (let far = apart there.0 here.0 x after here.1 in inr (inl (omega (arith, far, ye_at, xs_at))))
      ]
    ]

-- two points of one function
of-one : (bytes : List ℕ) (f : Symbol) (p q : Point) → Contains (points_of bytes f) p → Contains (points_of bytes f) q → (p.place + p.len ≤ q.place) ⊎ ((q.place + q.len ≤ p.place) ⊎ (p ≡ q))
unfolding points_of
of-one bytes f p q here there = one-before (λ (r : Point). r.place) (λ (r : Point). r.place + r.len) (points (length (code_of_symbol bytes f)) f.value (code_of_symbol bytes f)) (points-ascend (length (code_of_symbol bytes f)) f.value (code_of_symbol bytes f)) p q here there

module _ (bytes : List ℕ) (clean : first (elf_rules bytes) ≡ None) (rules : first (found_rules bytes) ≡ None) where
  found-point : (c : ℕ) (p : Point) → point_at (file_points bytes) c ≡ Some p → Found bytes c p
  unfolding file_points
  found-point c p e =
      let at = point_at-found (file_points bytes) c p e in
      let of = Contains-flat_map (points_of bytes) (kept_functions bytes) p at.0 in
      record { of = of.0; kept = of.1; one = of.2; is = All-contains (IsPointOf bytes of.0) (points_of bytes of.0) p (points_of-are bytes of.0 clean (clean-functions bytes rules) of.1) of.2; place = at.1 }

  pub range-some : (span : Span) (c : ℕ) (p : Point) → point_at (points_in bytes span) c ≡ Some p → 0 < p.len
  range-some span c p e = (found-point c p (in-file bytes span c p e)).is.some

  -- of two points the lower one ends at or below the other
  file-apart : (c d : ℕ) (p q : Point) → Found bytes c p → Found bytes d q → c < d → c + p.len ≤ d
  file-apart c d p q here there below =
      let at_p = here.place in
      let at_q = there.place in
      let high_p = here.is.high in
      let low_p = here.is.low in
      let high_q = there.is.high in
      let low_q = there.is.low in
      let some = there.is.some in
      elim (one-before (λ (f : Symbol). f.value) end_of (kept_functions bytes) (functions_apart bytes (clean-functions bytes rules)) here.of there.of here.kept there.kept) [
        | inl before ↦ omega (arith, at_p, at_q, high_p, low_q, before)
        | inr rest ↦ elim rest [
          | inl after ↦ absurd (omega (arith, at_p, at_q, high_q, low_p, after, below, some))
          | inr same ↦ elim (of-one bytes here.of p q here.one (subst (λ f. Contains (points_of bytes f) q) (sym same) there.one)) [
            | inl before ↦ omega (arith, at_p, at_q, before)
            | inr others ↦ elim others [
              | inl after ↦ absurd (omega (arith, at_p, at_q, after, below, some))
              | inr e ↦ (let place : p.place ≡ q.place = ap (λ r. r.place) e in absurd (omega (arith, at_p, at_q, place, below)))
            ]
          ]
        ]
      ]

  pub range-apart : (span : Span) → AreApart (points_in bytes span)
  range-apart span c d p q here there below = file-apart c d p q (found-point c p (in-file bytes span c p here)) (found-point d q (in-file bytes span d q there)) below

  -- ---- each function is small, since the file is

  section-small : (s : Section) → length (section_bytes bytes s) ≤ length bytes
  section-small s = by (has_bytes s)
    where
      by : (t : Bool) → length (cond t (take (s.offset + s.size - s.offset) (drop s.offset bytes)) []) ≤ length bytes
      by true = let front = length-take (s.offset + s.size - s.offset) (drop s.offset bytes) in let rest = length-drop s.offset bytes in omega (arith, front, rest)
      by false = omega arith

  pub function-small : (f : Symbol) → Contains (kept_functions bytes) f → end_of f - f.value ≤ 16777216
  unfolding code_of_symbol
  function-small f here =
      let whole = code_length bytes f clean (clean-functions bytes rules) here in
      let front = length-take f.size (drop (f.value - (its_section bytes f).addr) (section_bytes bytes (its_section bytes f))) in
      let rest = length-drop (f.value - (its_section bytes f).addr) (section_bytes bytes (its_section bytes f)) in
      let section = section-small (its_section bytes f) in
      let file = (clean_size bytes clean) in
      omega (arith, whole, front, rest, section, file)
