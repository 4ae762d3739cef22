-- The functions of a file, and its probes at the leaders of a mode.
use Rattle.std.proofs.Common.{◌≡◌, ◌≢◌, ℕ, zero, suc, ◌+◌, ◌<◌, ◌≤◌, List, [], ◌∷◌, length, map, get_or, All, Option, Some, None, Bool, true, false, ◌==◌, ◌&&◌, nat_le, nat_lt, refl, sym, ap, subst, ◌∙◌, arith}
use Rattle.std.specs.Prelude.{filter, if◌then◌else◌, find, position, option_and_then, option_map, slice_get}
use Rattle.std.specs.List.{Contains}
use Rattle.std.specs.Option.{is_some, option_map_or, option_or}
use Rattle.std.proofs.lemmas.Bool.{and_parts, eqb-true, eq-eqb, leb-true, ltb-true}
use Rattle.std.proofs.lemmas.List.Kept.{AllPairs-from_increasing}
use Rattle.std.proofs.lemmas.List.Quantifiers.{position-Some}
use Rattle.std.proofs.lemmas.Option.{slice_get-get_or, slice_get_within, get_or_from_slice_get, some_pair_parts}
use Rattle.rw_base.specs.declared.span.Span.{Span}
use Rattle.rw_base.specs.Rules.{first}
use Rattle.rw_base.proofs.First.{first_append}
use Rattle.x86_insn.specs.declared.instruction.Insn.{Insn}
use Rattle.rw_elf.specs.declared.symbol.Symbol.{Symbol}
use Rattle.rw_elf.proofs.Search.{position-at}
use Rattle.rw_funcs.specs.declared.function.Function.{Function}
use Rattle.rw_funcs.specs.Found.{found_rules}
use Rattle.rw_funcs.specs.Functions.{end_of, function_at, function_rules, functions_of, has_address, kept_functions}
use Rattle.rw_funcs.specs.Points.{Point, file_points, is_point, places_of, point_at, point_rules}
use Rattle.rw_live.specs.LiveSteps.{HasPoints}
use Rattle.rw_live.specs.Nodes.{in_span, points_in}
use Rattle.rw_live.proofs.Within.{point-is-some, point-within}
use Rattle.rw_code.specs.declared.point.FilePoint.{FilePoint}
use Rattle.rw_code.specs.declared.point.FilePoint.TheVariants.{At, Past}
use Rattle.rw_code.specs.File.{behind, insn_of, point_after, symbolic}
use Rattle.rw_code.proofs.Functions.{InFunction, function-around, in-function}
use Rattle.rw_code.proofs.HasPoints.{symbolic-gives, symbolic-has}
use Rattle.rw_code.proofs.Points.{found-at}
use Rattle.rw_data.proofs.Clean.{IsClean}
use Rattle.rw_probe.specs.declared.form.Probe.{Probe}
use Rattle.rw_probe.specs.declared.leaders.Mode.{Mode}
use Rattle.rw_probe.specs.declared.leaders.Mode.TheVariants.{Nothing}
use Rattle.rw_probe.specs.Leaders.{is_leader, leaders_of}
use Rattle.rw_probe.specs.Probes.{IsProbe}
use Rattle.rw_probe.specs.ProbedPrograms.{AreProbed, HasFunctions, TestsPoint}
use Rattle.rw_probe.proofs.LeaderFacts.{leaders-rise, rising-increases}
use Rattle.rw_out.specs.Items.{no_probes}
use Rattle.rw_out.specs.Probed.{AreProbes, counted, points_around, probes_of}
use Rattle.rw_out.specs.Simulates.{is_there, probe_at}
use Rattle.rw_out.proofs.FilePlaces.{its_functions}

pub found-clean : (file : List ℕ) → IsClean file → first (found_rules file) ≡ None
found-clean file clean = first_append (function_rules file) (point_rules file) ∙ ap (λ o. option_or o (first (point_rules file))) clean.functions ∙ clean.points

true_false : true ≡ false → ⊥
true_false e = cc

-- ---- functions

-- an item of a list of images is one of an item of the list
of-map : {A B : Type 0} (g : A → B) (xs : List A) (y : B) (k : ℕ) → k < length (map g xs) → get_or (map g xs) k y ≡ y → (x : A) × Contains xs x × (g x ≡ y)
of-map g [] y k low e = absurd (omega (arith, low))
of-map g (x ∷ xs) y zero low e = (x, (0, omega arith, refl), e)
of-map g (x ∷ xs) y (suc k) low e = let found = of-map g xs y k (omega (arith, low)) e in let at = found.1 in let within = at.1 in (found.0, (suc at.0, omega (arith, within), at.2), found.2)

-- a function that is found is one of the list, and passes
found-function : (p : Function → Bool) (fs : List Function) (f : Function) → find p fs ≡ Some f → Contains fs f × (p f ≡ true)
found-function p [] f e = cc
found-function p (g ∷ gs) f e = by (λ k. found-function p gs f k) (p g) refl e
  where
    by : (find p gs ≡ Some f → Contains gs f × (p f ≡ true)) → (t : Bool) → p g ≡ t → (if t then Some g else find p gs) ≡ Some f → Contains (g ∷ gs) f × (p f ≡ true)
    by others true h k = let same : g ≡ f = cc in ((0, omega arith, same), subst (λ z. p z ≡ true) same h)
    by others false h k = let later = others k in let at = later.0 in let within = at.1 in ((suc at.0, omega (arith, within), at.2), later.1)

-- a point in a range is a point of the file there
in-range : (file : List ℕ) (span : Span) (b : ℕ) → is_point (points_in file span) b ≡ true → (in_span span b ≡ true) × (is_point (file_points file) b ≡ true)
in-range file span b h = by (in_span span b) (ap is_some (sym (point-within span (file_points file) b)) ∙ sym (point-is-some (points_in file span) b) ∙ h)
  where
    by : (t : Bool) → is_some (if t then point_at (file_points file) b else None) ≡ true → (t ≡ true) × (is_point (file_points file) b ≡ true)
    by true g = (refl, point-is-some (file_points file) b ∙ g)
    by false g = cc

into-range : (file : List ℕ) (span : Span) (b : ℕ) → in_span span b ≡ true → is_point (file_points file) b ≡ true → is_point (points_in file span) b ≡ true
into-range file span b inside h =
    point-is-some (points_in file span) b ∙ ap is_some (point-within span (file_points file) b ∙ ap (λ t. if t then point_at (file_points file) b else None) inside) ∙ sym (point-is-some (file_points file) b) ∙ h

in-span : (s e b : ℕ) → s ≤ b → b < e → (nat_le s b && nat_lt b e) ≡ true
in-span s e b low high = grind (arith, Rattle.std.proofs.lemmas.Bool.Decides.nat_tests)

module _ (file : List ℕ) (bytes : All (λ b. b < 256) file) (clean : IsClean file) where
  -- around an address of a function are its points
  around-is : (f : Symbol) → Contains (kept_functions file) f → (a : ℕ) → f.value ≤ a → a < end_of f → points_around file a ≡ points_in file (function_at f).span
  around-is f at a low high = ap (λ o. option_map_or (λ f. points_in file f.span) o []) (function-around file (its_functions file clean) f at a low high)

  -- a point of the file is one of those around it
  record IsAround (a : ℕ) : Type 0 where
    point : Point
    found : point_at (file_points file) a ≡ Some point
    inside : InFunction file a point
    low : inside.function.value ≤ a
    high : a < end_of inside.function
    are : points_around file a ≡ points_in file (function_at inside.function).span

  is-around : (a : ℕ) → is_point (file_points file) a ≡ true → IsAround a
  is-around a h =
      let found = found-at (file_points file) a h in
      let inside = in-function file (its_functions file clean) a found.0 found.1 in
      let place = inside.place in
      let some = inside.some in
      let most = inside.most in
      let low : inside.function.value ≤ a = omega (arith, place) in
      let high : a < end_of inside.function = omega (arith, place, some, most) in
      record { point = found.0; found = found.1; inside = inside; low = low; high = high; are = around-is inside.function inside.one_of a low high }

  around-there : (a : ℕ) → is_point (file_points file) a ≡ true → is_point (points_around file a) a ≡ true
  around-there a h =
      let is = is-around a h in
      subst (λ ps. is_point ps a ≡ true) (sym is.are) (into-range file (function_at is.inside.function).span a (in-span is.inside.function.value (end_of is.inside.function) a is.low is.high) h)

  -- what is around an address of which b is a point
  of-around : (a b : ℕ) → is_point (points_around file a) b ≡ true → (is_point (file_points file) b ≡ true) × (points_around file b ≡ points_around file a)
  of-around a b h = by (find (has_address a) (functions_of file)) refl h
    where
      by : (o : Option Function) → find (has_address a) (functions_of file) ≡ o → is_point (option_map_or (λ f. points_in file f.span) o []) b ≡ true → (is_point (file_points file) b ≡ true) × (points_around file b ≡ points_around file a)
      by None e g = cc
      by (Some f) e g =
          let at = (found-function (has_address a) (functions_of file) f e).0 in
          let of = of-map function_at (kept_functions file) f at.0 at.1 at.2 in
          let there = in-range file f.span b g in
          let inside : in_span (function_at of.0).span b ≡ true = ap (λ z. in_span z.span b) of.2 ∙ there.0 in
          let parts = and_parts (nat_le of.0.value b) (nat_lt b (end_of of.0)) inside in
          let here = around-is of.0 of.1 b (leb-true of.0.value b parts.0) (ltb-true b (end_of of.0) parts.1) in
          (there.1, here ∙ ap (λ z. points_in file z.span) of.2 ∙ ap (λ o. option_map_or (λ f. points_in file f.span) o []) (sym e))

  no-points : HasPoints [] At (symbolic file)
  no-points = record { insn = λ c p e. cc; next = λ c d p e next. cc; target = λ to e. cc; apart = λ c d e. cc }

  points-around : (a : ℕ) → HasPoints (points_around file a) At (symbolic file)
  points-around a = by (find (has_address a) (functions_of file))
    where
      by : (o : Option Function) → HasPoints (option_map_or (λ f. points_in file f.span) o []) At (symbolic file)
      by None = no-points
      by (Some f) = symbolic-has file f.span

  insn-point : (p : FilePoint) (i : Insn ℕ) → (symbolic file).insn p ≡ Some i → (a : ℕ) × (p ≡ At a) × (is_point (points_around file a) a ≡ true)
  insn-point (Past s) i e = cc
  insn-point (At a) i e = by (point_at (file_points file) a) refl e
    where
      by : (o : Option Point) → point_at (file_points file) a ≡ o → insn_of o ≡ Some i → (b : ℕ) × (At a ≡ At b) × (is_point (points_around file b) b ≡ true)
      by None f g = cc
      by (Some p) f g = (a, refl, around-there a (point-is-some (file_points file) a ∙ ap is_some f))

  same-place : (c d : ℕ) → ◌≡◌ {A = FilePoint} (At c) (At d) → c ≡ d
  same-place c d e = cc

  next-around : (a b : ℕ) → is_point (points_around file a) a ≡ true → (symbolic file).next (At a) ≡ At b → points_around file b ≡ points_around file a
  next-around a b h e = by_test (a + is.point.len == end_of is.inside.function) refl goes
    where
      is : IsAround a
      is = is-around a (of-around a a h).0

      goes : behind (a + is.point.len) (Some (function_at is.inside.function)) ≡ At b
      goes = sym is.inside.after ∙ sym (ap (point_after (functions_of file) a) is.found) ∙ e

      by_test : (t : Bool) → (a + is.point.len == end_of is.inside.function) ≡ t → (if t then Past is.inside.function.value else At (a + is.point.len)) ≡ At b → points_around file b ≡ points_around file a
      by_test true other g = cc
      by_test false other g =
          let place : a + is.point.len ≡ b = same-place (a + is.point.len) b g in
          let there = is.inside.place in
          let some = is.inside.some in
          let most = is.inside.most in
          let not_last : a + is.point.len ≢ end_of is.inside.function = λ same. true_false (sym (eq-eqb (a + is.point.len) (end_of is.inside.function) same) ∙ other) in
          around-is is.inside.function is.inside.one_of b (omega (arith, there, place)) (omega (arith, there, place, most, not_last)) ∙ sym is.are

  pub has-functions : HasFunctions (points_around file) At (symbolic file)
  has-functions = record {
    formed = symbolic-gives file bytes clean.elf (found-clean file clean);
    points = points-around;
    each = insn-point;
    same = λ a b h. (of-around a b h).1;
    next = λ a b here there e. next-around a b here e;
  }

-- ---- probes

module _ (file : List ℕ) (clean : IsClean file) (mode : Mode) (forms : List Probe) (are : AreProbes file mode forms) where
  abbrev leaders : List ℕ
  leaders = leaders_of file mode

  probed-at : (a k : ℕ) (probe : Probe) → (probes_of file mode forms).at a ≡ Some (k, probe) → (slice_get (leaders_of file mode) k ≡ Some a) × IsProbe (points_around file a) a probe
  probed-at a k probe e = by_place (position (λ leader. leader == a) (leaders_of file mode)) refl e
    where
      by_form : (j : ℕ) → position (λ leader. leader == a) (leaders_of file mode) ≡ Some j → (o : Option Probe) → slice_get forms j ≡ o → option_map {U = ℕ × Probe} (λ form. (j, form)) o ≡ Some (k, probe) → (slice_get (leaders_of file mode) k ≡ Some a) × IsProbe (points_around file a) a probe
      by_form j at None there g = cc
      by_form j at (Some form) there g =
          let same = some_pair_parts j k form probe g in
          let found = position-Some (λ leader. leader == a) (leaders_of file mode) j a at in
          let here : slice_get (leaders_of file mode) j ≡ Some a = slice_get-get_or (leaders_of file mode) j a found.0 ∙ ap (λ x. Some x) (eqb-true (get_or (leaders_of file mode) j a) a found.1) in
          (subst (λ i. slice_get (leaders_of file mode) i ≡ Some a) same.0 here, subst (IsProbe (points_around file a) a) same.1 (are.each j a form here there))

      by_place : (o : Option ℕ) → position (λ leader. leader == a) (leaders_of file mode) ≡ o → option_and_then (counted forms) o ≡ Some (k, probe) → (slice_get (leaders_of file mode) k ≡ Some a) × IsProbe (points_around file a) a probe
      by_place None at g = cc
      by_place (Some j) at g = by_form j at (slice_get forms j) refl g

  -- a leader is found at its number
  number-of : (k a : ℕ) → slice_get (leaders_of file mode) k ≡ Some a → position (λ leader. leader == a) (leaders_of file mode) ≡ Some k
  number-of k a e =
      let rise = rising-increases 0 (leaders_of file mode) (leaders-rise file mode clean.elf (found-clean file clean)) in
      let low = slice_get_within (leaders_of file mode) k a e in
      let here : get_or (leaders_of file mode) k 0 ≡ a = get_or_from_slice_get (leaders_of file mode) k a 0 e in
      position-at (λ leader. leader == a) (leaders_of file mode) k 0 low (eq-eqb (get_or (leaders_of file mode) k 0) a here)
      (λ j before. unequal (get_or (leaders_of file mode) j 0) a (λ same. let less = AllPairs-from_increasing (leaders_of file mode) rise j k 0 before low in omega (arith, less, same, here)))
    where
      unequal : (x y : ℕ) → x ≢ y → (x == y) ≡ false
      unequal x y other = by (x == y) refl
        where
          by : (t : Bool) → (x == y) ≡ t → (x == y) ≡ false
          by true e = absurd (other (eqb-true x y e))
          by false e = e

  form-at : (k a : ℕ) → slice_get (leaders_of file mode) k ≡ Some a → (form : Probe) × (slice_get forms k ≡ Some form)
  form-at k a e = by (slice_get forms k) refl
    where
      by : (o : Option Probe) → slice_get forms k ≡ o → (form : Probe) × (slice_get forms k ≡ Some form)
      by (Some form) there = (form, there)
      by None there =
          let low = slice_get_within (leaders_of file mode) k a e in
          let count = are.count in
          absurd (none there (omega (arith, low, count)))
        where
          none : slice_get forms k ≡ None → k < length forms → ⊥
          none h within = let here = slice_get-get_or forms k Rattle.rw_probe.specs.declared.form.Probe.TheVariants.Inc within in cc

  numbered-at : (k a : ℕ) → slice_get (leaders_of file mode) k ≡ Some a → (probe : Probe) × ((probes_of file mode forms).at a ≡ Some (k, probe))
  numbered-at k a e =
      let form = form-at k a e in
      (form.0, ap (option_and_then (counted forms)) (number-of k a e) ∙ ap (option_map {U = ℕ × Probe} (λ form. (k, form))) form.1)

  pub are-probed : AreProbed (points_around file) At (leaders_of file mode) (probe_at (probes_of file mode forms))
  are-probed = record { probes = probed-point; numbered = numbered-at }
    where
      probed-point : (p : FilePoint) (k : ℕ) (probe : Probe) → probe_at (probes_of file mode forms) p ≡ Some (k, probe) → (a : ℕ) × (p ≡ At a) × (slice_get (leaders_of file mode) k ≡ Some a) × IsProbe (points_around file a) a probe
      probed-point (Past s) k probe e = cc
      probed-point (At a) k probe e = let found = probed-at a k probe e in (a, refl, found.0, found.1)

pub tests-point : TestsPoint At is_there
tests-point a (At b) = (λ h. ap (λ c. At c) (eqb-true b a h), λ e. eq-eqb b a (place b a e))
  where
    place : (c d : ℕ) → ◌≡◌ {A = FilePoint} (At c) (At d) → c ≡ d
    place c d e = cc
tests-point a (Past s) = (λ h. cc, λ e. cc)

-- ---- in mode Nothing there are no leaders, so no probes

no-leaders : (file : List ℕ) (places : List ℕ) → filter (is_leader file Nothing) places ≡ []
no-leaders file [] = refl
no-leaders file (a ∷ places) = no-leaders file places

nothing-leads : (file : List ℕ) → leaders_of file Nothing ≡ []
unfolding leaders_of
nothing-leads file = no-leaders file (places_of (file_points file))

pub probes-none : (file : List ℕ) (forms : List Probe) → probes_of file Nothing forms ≡ no_probes
probes-none file forms = ap (λ leaders. record { counters = length leaders; at = λ a. option_and_then (counted forms) (position (λ leader. leader == a) leaders) }) (nothing-leads file)
