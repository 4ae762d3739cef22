-- What holds of the points of code, and of those of a file.
use Rattle.std.proofs.Common.{◌≡◌, inl, inr, ℕ, zero, suc, ◌+◌, ◌-◌, ◌<◌, ◌≤◌, Bool, true, false, not, ◌||◌, ◌==◌, cond, List, [], ◌∷◌, ◌++◌, length, drop, get_or, Option, Some, None, Contains, All, refl, sym, ap, ◌∙◌, arith, length-drop}
use Rattle.std.specs.List.{AllPairs, flat_map}
use Rattle.std.specs.Option.{option_map_or}
use Rattle.std.proofs.lemmas.Bool.{eqb-true}
use Rattle.std.proofs.lemmas.Bool.Decides.{nat_tests}
use Rattle.std.proofs.lemmas.List.Elements.{All-nil, All-cons, All-head, All-tail, All-append, All-weaker, All-contains, Contains-append_cases}
use Rattle.std.proofs.lemmas.List.Kept.{AllPairs-cons}
use Rattle.x86_insn.specs.declared.instruction.Insn.{Insn}
use Rattle.x86_decode.specs.Reading.{decode_of}
use Rattle.rw_base.specs.Rules.{first}
use Rattle.rw_elf.specs.declared.symbol.Symbol.{Symbol}
use Rattle.rw_elf.specs.Tables.{elf_rules}
use Rattle.rw_funcs.specs.Notes.{length_or}
use Rattle.rw_funcs.specs.Functions.{kept_functions, function_rules, end_of, code_of_symbol}
use Rattle.rw_funcs.specs.Points.{Point, points, points_from, point_at, is_point, points_of, file_points}
use Rattle.rw_funcs.proofs.Facts.{code_length}
use Rattle.rw_funcs.proofs.Fuel.{front_fits, drop_drop}

-- ---- the points of bytes at an address

-- where a point of bytes at an address is, and what they spell there
pub record IsPointIn (a : ℕ) (bytes : List ℕ) (p : Point) : Type 0 where
  pub low : a ≤ p.place
  pub some : 0 < p.len
  pub high : p.place + p.len ≤ a + length bytes
  pub spelled : decode_of p.place (drop (p.place - a) bytes) ≡ Some (p.insn, p.len)

later : (a n : ℕ) (bytes : List ℕ) (p : Point) → n ≤ length bytes → IsPointIn (a + n) (drop n bytes) p → IsPointIn a bytes p
later a n bytes p fits is =
    let low = is.low in
    let high = is.high in
    let size = length-drop n bytes in
    let place : n + (p.place - (a + n)) ≡ p.place - a = omega (arith, low) in
    record {
      low = omega (arith, low);
      some = is.some;
      high = omega (arith, high, size, fits);
      spelled = ap (decode_of p.place) (ap (λ k. drop k bytes) (sym place) ∙ sym (drop_drop n (p.place - (a + n)) bytes)) ∙ is.spelled;
    }

points-are_from : (k a : ℕ) (bytes : List ℕ) → ((c : ℕ) (rest : List ℕ) → All (IsPointIn c rest) (points k c rest)) → (o : Option (Insn ℕ × ℕ)) → decode_of a bytes ≡ o → All (IsPointIn a bytes) (points_from k a bytes o (points k))
points-are_from k a bytes ih None e = All-nil (IsPointIn a bytes)
points-are_from k a bytes ih (Some d) e =
    let fits = front_fits a bytes d e in
    let some = fits.0 in
    let short = fits.1 in
    let none : a - a ≡ 0 = omega arith in
    let here : IsPointIn a bytes (record { place = a; insn = d.0; len = d.1 }) =
    record { low = omega arith; some = some; high = omega (arith, short); spelled = ap (λ j. decode_of a (drop j bytes)) none ∙ e } in
    All-cons (IsPointIn a bytes) (record { place = a; insn = d.0; len = d.1 }) (points k (a + d.1) (drop d.1 bytes)) here
    (All-weaker (IsPointIn (a + d.1) (drop d.1 bytes)) (IsPointIn a bytes) (λ p is. later a d.1 bytes p short is) (points k (a + d.1) (drop d.1 bytes)) (ih (a + d.1) (drop d.1 bytes)))

pub points-are : (k a : ℕ) (bytes : List ℕ) → All (IsPointIn a bytes) (points k a bytes)
points-are zero a bytes = All-nil (IsPointIn a bytes)
points-are (suc k) a bytes = points-are_from k a bytes (λ c rest. points-are k c rest) (decode_of a bytes) refl

-- the one ends at or below where the other begins
abbrev pub PointsFollow : Point → Point → Type 0
PointsFollow p q = p.place + p.len ≤ q.place

ascend_from : (k a : ℕ) (bytes : List ℕ) → ((c : ℕ) (rest : List ℕ) → AllPairs PointsFollow (points k c rest)) → (o : Option (Insn ℕ × ℕ)) → AllPairs PointsFollow (points_from k a bytes o (points k))
ascend_from k a bytes ih None = λ i j d earlier within. absurd (omega arith)
ascend_from k a bytes ih (Some d) =
    AllPairs-cons PointsFollow (record { place = a; insn = d.0; len = d.1 }) (points k (a + d.1) (drop d.1 bytes))
    (All-weaker (IsPointIn (a + d.1) (drop d.1 bytes)) (λ q. a + d.1 ≤ q.place) (λ q is. is.low) (points k (a + d.1) (drop d.1 bytes)) (points-are k (a + d.1) (drop d.1 bytes)))
    (ih (a + d.1) (drop d.1 bytes))

pub points-ascend : (k a : ℕ) (bytes : List ℕ) → AllPairs PointsFollow (points k a bytes)
points-ascend zero a bytes = λ i j d earlier within. absurd (omega arith)
points-ascend (suc k) a bytes = ascend_from k a bytes (λ c rest. points-ascend k c rest) (decode_of a bytes)

-- ---- the points of a function

pub record IsPointOf (bytes : List ℕ) (f : Symbol) (p : Point) : Type 0 where
  pub low : f.value ≤ p.place
  pub some : 0 < p.len
  pub high : p.place + p.len ≤ end_of f
  pub spelled : decode_of p.place (drop (p.place - f.value) (code_of_symbol bytes f)) ≡ Some (p.insn, p.len)

pub points_of-are : (bytes : List ℕ) (f : Symbol) → first (elf_rules bytes) ≡ None → first (function_rules bytes) ≡ None → Contains (kept_functions bytes) f → All (IsPointOf bytes f) (points_of bytes f)
unfolding points_of
points_of-are bytes f clean rules here =
    let size = code_length bytes f clean rules here in
    All-weaker (IsPointIn f.value (code_of_symbol bytes f)) (IsPointOf bytes f)
    (λ p is. let high = is.high in record { low = is.low; some = is.some; high = omega (arith, high, size); spelled = is.spelled })
    (points (length (code_of_symbol bytes f)) f.value (code_of_symbol bytes f)) (points-are (length (code_of_symbol bytes f)) f.value (code_of_symbol bytes f))

-- ---- the points of several functions

pub Contains-flat_map : {A B : Type 0} (g : A → List B) (xs : List A) (y : B) → Contains (flat_map g xs) y → (x : A) × (Contains xs x) × (Contains (g x) y)
Contains-flat_map g [] y h = let low = h.1 in absurd (omega (arith, low))
Contains-flat_map g (x ∷ xs) y h =
    elim (Contains-append_cases (g x) (flat_map g xs) y h) [
      | inl here ↦ (x, (0, (omega arith), refl), here)
      | inr there ↦
          let found = Contains-flat_map g xs y there in
          let at = found.1 in
          (found.0, (suc at.0, (let low = at.1 in omega (arith, low)), at.2), found.2)
    ]

pub point_at-found : (ps : List Point) (a : ℕ) (p : Point) → point_at ps a ≡ Some p → Contains ps p × (p.place ≡ a)
point_at-found [] a p h = absurd (cc)
point_at-found (q ∷ ps) a p h = by_test (point_at-found ps a p) (q.place == a) refl h
  where
    by_test : (point_at ps a ≡ Some p → Contains ps p × (p.place ≡ a)) → (t : Bool) → (q.place == a) ≡ t → cond t (Some q) (point_at ps a) ≡ Some p → Contains (q ∷ ps) p × (p.place ≡ a)
    by_test rest true e g = let same : q ≡ p = cc in ((0, (omega arith), same), ap (λ r. r.place) (sym same) ∙ eqb-true q.place a e)
    by_test rest false e g = let found = rest g in let at = found.0 in ((suc at.0, (let low = at.1 in omega (arith, low)), at.2), found.1)

-- the function that a point belongs to
pub point-function : (bytes : List ℕ) (a : ℕ) (p : Point) → first (elf_rules bytes) ≡ None → first (function_rules bytes) ≡ None → point_at (file_points bytes) a ≡ Some p → (f : Symbol) × (Contains (kept_functions bytes) f) × (IsPointOf bytes f p) × (p.place ≡ a)
unfolding file_points
point-function bytes a p clean rules h =
    let found = point_at-found (flat_map (points_of bytes) (kept_functions bytes)) a p h in
    let of = Contains-flat_map (points_of bytes) (kept_functions bytes) p found.0 in
    (of.0, of.1, All-contains (IsPointOf bytes of.0) (points_of bytes of.0) p (points_of-are bytes of.0 clean rules of.1) of.2, found.1)

-- a point of some that all have a length is where the length isn't 0
pub is_point-length : (ps : List Point) (a : ℕ) → All (λ p. 0 < p.len) ps → is_point ps a ≡ not (length_or 0 ps a == 0)
is_point-length [] a some = refl
is_point-length (q ∷ ps) a some = by_test (All-head (λ p. 0 < p.len) q ps some) (is_point-length ps a (All-tail (λ p. 0 < p.len) q ps some)) (q.place == a)
  where
    by_test : 0 < q.len → is_point ps a ≡ not (length_or 0 ps a == 0) → (t : Bool) → (t || is_point ps a) ≡ not (option_map_or (λ p. p.len) (cond t (Some q) (point_at ps a)) 0 == 0)
    by_test low rest true = grind (arith, nat_tests)
    by_test low rest false = rest

pub file_points-some : (bytes : List ℕ) → first (elf_rules bytes) ≡ None → first (function_rules bytes) ≡ None → All (λ p. 0 < p.len) (file_points bytes)
unfolding file_points
file_points-some bytes clean rules k d within =
    let of = Contains-flat_map (points_of bytes) (kept_functions bytes) (get_or (flat_map (points_of bytes) (kept_functions bytes)) k d) (Rattle.std.proofs.lemmas.List.Elements.Contains-get_or (flat_map (points_of bytes) (kept_functions bytes)) k d within) in
    (All-contains (IsPointOf bytes of.0) (points_of bytes of.0) _ (points_of-are bytes of.0 clean rules of.1) of.2).some

-- the point at an address of two lists one after the other
pub point_at-append : (ps qs : List Point) (a : ℕ) → point_at ps a ≡ None → point_at (ps ++ qs) a ≡ point_at qs a
point_at-append [] qs a h = refl
point_at-append (p ∷ ps) qs a h = by_test (point_at-append ps qs a) (p.place == a) h
  where
    by_test : (point_at ps a ≡ None → point_at (ps ++ qs) a ≡ point_at qs a) → (t : Bool) → cond t (Some p) (point_at ps a) ≡ None → cond t (Some p) (point_at (ps ++ qs) a) ≡ point_at qs a
    by_test rest true g = absurd (cc)
    by_test rest false g = rest g

pub point_at-before : (ps qs : List Point) (a : ℕ) → point_at qs a ≡ None → point_at (ps ++ qs) a ≡ point_at ps a
point_at-before [] qs a h = h
point_at-before (p ∷ ps) qs a h = ap (λ o. cond (p.place == a) (Some p) o) (point_at-before ps qs a h)

-- none is at an address that no point has
pub point_at-none : (ps : List Point) (a : ℕ) → ((p : Point) → Contains ps p → p.place ≡ a → ⊥) → point_at ps a ≡ None
point_at-none ps a h = by_option (point_at ps a) refl
  where
    by_option : (o : Option Point) → point_at ps a ≡ o → o ≡ None
    by_option None e = refl
    by_option (Some p) e = let found = point_at-found ps a p e in absurd (h p found.0 found.1)
