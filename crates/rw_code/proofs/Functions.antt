-- The functions of a file that has no fault in the phases up to instructions, and which of them has a point.
use Rattle.std.proofs.Common.{◌≡◌, ℕ, zero, suc, ◌+◌, ◌<◌, ◌≤◌, List, [], ◌∷◌, ◌++◌, length, map, drop, get_or, Option, Some, None, Bool, true, false, cond, ◌==◌, ◌||◌, ◌&&◌, nat_le, nat_lt, refl, sym, ap, subst, ◌∙◌, arith, length-drop}
use Rattle.std.specs.Prelude.{flat_map}
use Rattle.std.specs.List.{AllPairs, Contains, find}
use Rattle.std.specs.Option.{option_or, option_map_or}
use Rattle.std.proofs.lemmas.Bool.{eqb-true, eq-eqb, le-leb, lt-ltb, ltb-true, and_parts}
use Rattle.x86_decode.specs.Reading.{decode_of}
use Rattle.rw_elf.specs.declared.symbol.Symbol.{Symbol}
use Rattle.rw_elf.specs.Section.{sections}
use Rattle.rw_elf.specs.Tables.{is_code}
use Rattle.rw_funcs.specs.declared.function.Function.{Function}
use Rattle.rw_funcs.specs.Found.{FollowsOn}
use Rattle.rw_funcs.specs.Functions.{kept_functions, functions_of, function_at, its_section, code_of_symbol, end_of, has_address}
use Rattle.rw_funcs.specs.Points.{Point, is_point, point_at, points_of, file_points, first_bad}
use Rattle.rw_funcs.proofs.Fuel.{front_fits}
use Rattle.rw_code.specs.File.{behind, point_after, end_from}
use Rattle.rw_code.proofs.PointsHere.{PointHere, points_of-here}

-- a function lies in a code section, and instructions fill it
pub record IsFunction (file : List ℕ) (f : Symbol) : Type 0 where
  pub one_of : Contains (sections file) (its_section file f)
  pub code : is_code file (its_section file f) ≡ true
  pub starts : (its_section file f).addr ≤ f.value
  pub ends : end_of f ≤ (its_section file f).addr + (its_section file f).size
  pub some : 0 < f.size
  pub size : length (code_of_symbol file f) ≡ f.size
  pub good : first_bad (length (code_of_symbol file f)) f.value (code_of_symbol file f) ≡ None

-- each of the functions is such, and they lie one behind the other
pub record AreFunctions (file : List ℕ) : Type 0 where
  pub each : (f : Symbol) → Contains (kept_functions file) f → IsFunction file f
  pub apart : AllPairs FollowsOn (functions_of file)

-- ---- lists

module _ {A B : Type 0} (g : A → B) where
  map-at : (xs : List A) (i : ℕ) (x : A) (y : B) → i < length xs → get_or xs i x ≡ x → (i < length (map g xs)) × (get_or (map g xs) i y ≡ g x)
  map-at [] i x y h e = absurd (omega (arith, h))
  map-at (z ∷ zs) zero x y h e = (omega arith, ap g e)
  map-at (z ∷ zs) (suc i) x y h e = let later = map-at zs i x y (omega (arith, h)) e in let low = later.0 in (omega (arith, low), later.1)

  pub contains_map : (xs : List A) (x : A) → Contains xs x → Contains (map g xs) (g x)
  contains_map xs x h = let at = map-at xs h.0 x (g x) h.1 h.2 in (h.0, at.0, at.1)

-- the first function that passes a test, where none before it does
found-first : (p : Function → Bool) (fs : List Function) (f : Function) (i : ℕ) → p f ≡ true → ((g : Function) → Contains fs g → p g ≡ true → FollowsOn g f → ⊥) → AllPairs FollowsOn fs → i < length fs → get_or fs i f ≡ f → find p fs ≡ Some f
found-first p [] f i here alone apart h e = absurd (omega (arith, h))
found-first p (g ∷ gs) f zero here alone apart h e = ap (λ t. cond t (Some g) (find p gs)) (ap p e ∙ here) ∙ ap (λ z. Some z) e
found-first p (g ∷ gs) f (suc i) here alone apart h e =
    by_test
    (found-first p gs f i here (λ z c passes. alone z (suc c.0, (let low = c.1 in omega (arith, low)), c.2) passes)
    (λ j k d low within. apart (suc j) (suc k) d (omega (arith, low)) (omega (arith, within))) (omega (arith, h)) e) (p g) refl
  where
    by_test : find p gs ≡ Some f → (t : Bool) → p g ≡ t → cond t (Some g) (find p gs) ≡ Some f
    by_test rest false other = rest
    by_test rest true passes = absurd (alone g (0, omega arith, refl) passes (subst (λ z. FollowsOn g z) e (apart 0 (suc i) f (omega arith) h)))

module _ (fs : List Function) (apart : AllPairs FollowsOn fs) (some : (g : Function) → Contains fs g → g.span.start < g.span.end) (f : Function) (one_of : Contains fs f) where
  -- an address of a function
  pub found-address : (a : ℕ) → f.span.start ≤ a → a < f.span.end → find (has_address a) fs ≡ Some f
  found-address a low high = found-first (has_address a) fs f one_of.0 here alone apart one_of.1 one_of.2
    where
      both_true : (s t : Bool) → s ≡ true → t ≡ true → (s && t) ≡ true
      both_true true t h k = k
      both_true false t h k = h

      here : has_address a f ≡ true
      here = both_true (nat_le f.span.start a) (nat_lt a f.span.end) (le-leb f.span.start a low) (lt-ltb a f.span.end high)

      alone : (g : Function) → Contains fs g → has_address a g ≡ true → FollowsOn g f → ⊥
      alone g c passes before =
          let below : a < g.span.end = ltb-true a g.span.end (and_parts (nat_le g.span.start a) (nat_lt a g.span.end) passes).1 in
          omega (arith, below, before, low)

  -- its end by its start
  pub end_from-is : end_from fs f.span.start ≡ f.span.end
  end_from-is =
      ap (λ o. option_map_or (λ g. g.span.end) o 0)
      (found-first (λ g. g.span.start == f.span.start) fs f one_of.0 (eq-eqb f.span.start f.span.start refl) alone apart one_of.1 one_of.2)
    where
      alone : (g : Function) → Contains fs g → (g.span.start == f.span.start) ≡ true → FollowsOn g f → ⊥
      alone g c passes before =
          let same : g.span.start ≡ f.span.start = eqb-true g.span.start f.span.start passes in
          let more = some g c in
          omega (arith, same, more, before)

-- ---- the points of several functions

point_at-append : (xs ys : List Point) (a : ℕ) → point_at (xs ++ ys) a ≡ option_or (point_at xs a) (point_at ys a)
point_at-append [] ys a = refl
point_at-append (x ∷ xs) ys a = by_test (x.place == a) (point_at-append xs ys a)
  where
    by_test : (t : Bool) → point_at (xs ++ ys) a ≡ option_or (point_at xs a) (point_at ys a) → cond t (Some x) (point_at (xs ++ ys) a) ≡ option_or (cond t (Some x) (point_at xs a)) (point_at ys a)
    by_test true rest = refl
    by_test false rest = rest

is_point-append : (xs ys : List Point) (a : ℕ) → is_point (xs ++ ys) a ≡ (is_point xs a || is_point ys a)
is_point-append [] ys a = refl
is_point-append (x ∷ xs) ys a = by_test (x.place == a) (is_point-append xs ys a)
  where
    by_test : (t : Bool) → is_point (xs ++ ys) a ≡ (is_point xs a || is_point ys a) → (t || is_point (xs ++ ys) a) ≡ ((t || is_point xs a) || is_point ys a)
    by_test true rest = refl
    by_test false rest = rest

-- the point at an address of one of several functions
pub record PointIn (file : List ℕ) (fs : List Symbol) (a : ℕ) (p : Point) : Type 0 where
  pub function : Symbol
  pub one_of : Contains fs function
  pub found : point_at (points_of file function) a ≡ Some p

module _ (file : List ℕ) where
  point-in : (fs : List Symbol) (a : ℕ) (p : Point) → point_at (flat_map (points_of file) fs) a ≡ Some p → PointIn file fs a p
  point-in [] a p h = cc
  point-in (f ∷ fs) a p h =
      by_found (λ g. point-in fs a p g) (point_at (points_of file f) a) refl (sym (point_at-append (points_of file f) (flat_map (points_of file) fs) a) ∙ h)
    where
      by_found : (point_at (flat_map (points_of file) fs) a ≡ Some p → PointIn file fs a p) → (o : Option Point) → point_at (points_of file f) a ≡ o → option_or o (point_at (flat_map (points_of file) fs) a) ≡ Some p → PointIn file (f ∷ fs) a p
      by_found others None e g =
          let rest = others g in
          let at = rest.one_of in
          let low = at.1 in
          record { function = rest.function; one_of = (suc at.0, omega (arith, low), at.2); found = rest.found }
      by_found others (Some q) e g = record { function = f; one_of = (0, omega arith, refl); found = e ∙ g }

  has-in : (fs : List Symbol) (f : Symbol) (i : ℕ) (a : ℕ) → i < length fs → get_or fs i f ≡ f → is_point (points_of file f) a ≡ true → is_point (flat_map (points_of file) fs) a ≡ true
  has-in [] f i a h e has = absurd (omega (arith, h))
  has-in (g ∷ gs) f zero a h e has =
      is_point-append (points_of file g) (flat_map (points_of file) gs) a
      ∙ ap (λ t. t || is_point (flat_map (points_of file) gs) a) (ap (λ z. is_point (points_of file z) a) e ∙ has)
  has-in (g ∷ gs) f (suc i) a h e has =
      is_point-append (points_of file g) (flat_map (points_of file) gs) a
      ∙ ap (λ t. is_point (points_of file g) a || t) (has-in gs f i a (omega (arith, h)) e has)
      ∙ or_true (is_point (points_of file g) a)
    where
      or_true : (t : Bool) → (t || true) ≡ true
      or_true true = refl
      or_true false = refl

  -- a point of a function is one of the file
  pub has-file : (f : Symbol) → Contains (kept_functions file) f → (a : ℕ) → is_point (points_of file f) a ≡ true → is_point (file_points file) a ≡ true
  unfolding file_points
  has-file f at a has = has-in (kept_functions file) f at.0 a at.1 at.2 has

  file-point : (a : ℕ) (p : Point) → point_at (file_points file) a ≡ Some p → PointIn file (kept_functions file) a p
  unfolding file_points
  file-point a p h = point-in (kept_functions file) a p h

-- ---- a point in its function

-- A point of the file: its function, how far it lies from the function's start, what the function's code has there, and what
-- comes behind it.
pub record InFunction (file : List ℕ) (a : ℕ) (p : Point) : Type 0 where
  pub function : Symbol
  pub one_of : Contains (kept_functions file) function
  pub found : point_at (points_of file function) a ≡ Some p
  pub offset : ℕ
  pub place : a ≡ function.value + offset
  pub decoded : decode_of a (drop offset (code_of_symbol file function)) ≡ Some (p.insn, p.len)
  pub some : 0 < p.len
  pub most : offset + p.len ≤ function.size
  pub after : point_after (functions_of file) a (Some p) ≡ behind (a + p.len) (Some (function_at function))

module _ (file : List ℕ) (functions : AreFunctions file) where
  pub contains-function : (f : Symbol) → Contains (kept_functions file) f → Contains (functions_of file) (function_at f)
  contains-function f at = contains_map function_at (kept_functions file) f at

  span-some : (fs : List Symbol) → ((f : Symbol) → Contains fs f → 0 < f.size) → (g : Function) (i : ℕ) → i < length (map function_at fs) → get_or (map function_at fs) i g ≡ g → g.span.start < g.span.end
  span-some [] some g i h e = absurd (omega (arith, h))
  span-some (f ∷ fs) some g zero h e =
      let here = some f (0, omega arith, refl) in
      let more : f.value < end_of f = omega (arith, here) in
      subst (λ z. z.span.start < z.span.end) e more
  span-some (f ∷ fs) some g (suc i) h e =
      span-some fs (λ z at. some z (suc at.0, (let low = at.1 in omega (arith, low)), at.2)) g i (omega (arith, h)) e

  spans : (g : Function) → Contains (functions_of file) g → g.span.start < g.span.end
  spans g at = span-some (kept_functions file) (λ f c. (functions.each f c).some) g at.0 at.1 at.2

  -- the function by an address of it, and its end by its start
  pub function-around : (f : Symbol) → Contains (kept_functions file) f → (a : ℕ) → f.value ≤ a → a < end_of f → find (has_address a) (functions_of file) ≡ Some (function_at f)
  function-around f at a low high = found-address (functions_of file) functions.apart spans (function_at f) (contains-function f at) a low high

  pub function-end : (f : Symbol) → Contains (kept_functions file) f → end_from (functions_of file) f.value ≡ end_of f
  function-end f at = end_from-is (functions_of file) functions.apart spans (function_at f) (contains-function f at)

  pub in-function : (a : ℕ) (p : Point) → point_at (file_points file) a ≡ Some p → InFunction file a p
  in-function a p h =
      let point = file-point file a p h in
      let f = point.function in
      let code = code_of_symbol file f in
      let here : PointHere f.value code a (Some p) = subst (PointHere f.value code a) point.found (points_of-here file f a) in
      let at = here.1 in
      let fits = front_fits a (drop here.0 code) (p.insn, p.len) here.2 in
      let some : 0 < p.len = fits.0 in
      let within : p.len ≤ length (drop here.0 code) = fits.1 in
      let left = length-drop here.0 code in
      let size = (functions.each f point.one_of).size in
      let most : here.0 + p.len ≤ f.size = omega (arith, some, within, left, size) in
      record {
        function = f;
        one_of = point.one_of;
        found = point.found;
        offset = here.0;
        place = at;
        decoded = here.2;
        some = some;
        most = most;
        after = ap (behind (a + p.len)) (function-around f point.one_of a (omega (arith, at)) (omega (arith, at, most, some)));
      }
