-- The probes at the leaders of a file, one after another.
use Rattle.std.proofs.Common.{◌≡◌, ◌⊎◌, inl, inr, ℕ, zero, suc, ◌+◌, ◌<◌, List, [], ◌∷◌, ◌++◌, length, map, get_or, take, Option, Some, None, true, refl, sym, ap, subst, ◌∙◌, arith, length-append}
use Rattle.std.specs.Prelude.{filter, find, slice_get}
use Rattle.std.specs.Option.{IsSome, option_map_or}
use Rattle.std.proofs.Math.Seq.{take-suc}
use Rattle.std.proofs.lemmas.List.{length-map, map-append}
use Rattle.std.proofs.lemmas.List.Quantifiers.{position-Some}
use Rattle.rw_base.specs.Rules.{first}
use Rattle.rw_elf.specs.Tables.{elf_rules}
use Rattle.rw_elf.proofs.Search.{find-at, find-none}
use Rattle.rw_funcs.specs.declared.function.Function.{Function}
use Rattle.rw_funcs.specs.Found.{found_rules}
use Rattle.rw_funcs.specs.Functions.{function_of, functions_of, has_address}
use Rattle.rw_funcs.specs.Points.{file_points, is_point, places_of}
use Rattle.std.proofs.lemmas.List.Elements.{Contains-get_or}
use Rattle.rw_elf.proofs.Around.{filter_contains}
use Rattle.rw_code.proofs.KnownWords.{one-known}
use Rattle.rw_probe.specs.declared.leaders.Mode.{Mode}
use Rattle.rw_probe.specs.Leaders.{is_leader, leaders_of}
use Rattle.rw_funcs.proofs.FunctionsOf.{clean-functions, clean-points}
use Rattle.rw_code.proofs.Clean.{are-functions}
use Rattle.rw_code.proofs.Functions.{AreFunctions, InFunction, function-around, in-function}
use Rattle.rw_code.proofs.Points.{found-at}
use Rattle.rw_funcs.specs.Functions.{function_at}
use Rattle.rw_live.specs.Lives.{IsLiveOf}
use Rattle.rw_live.specs.Nodes.{points_in}
use Rattle.rw_probe.specs.declared.form.Probe.{Probe}
use Rattle.rw_probe.specs.Probes.{IsProbe}
use Rattle.rw_out.specs.Kept.{forms_of, probe_byte, probe_of_byte}
use Rattle.rw_out.specs.Choosing.{AreBytesOf, IsLiveIn}
use Rattle.rw_out.specs.declared.choosing.OfFunction.{OfFunction}
use Rattle.rw_out.specs.Probed.{points_around}

-- ---- the function of a leader

no_function : Function
no_function = record { span = record { start = 0; end = 0 }; name = record { at = 0; len = 0 } }

is-there : {A : Type 0} (xs : List A) (n : ℕ) (d : A) → n < length xs → slice_get xs n ≡ Some (get_or xs n d)
is-there [] n d h = absurd (omega (arith, h))
is-there (x ∷ xs) zero d h = refl
is-there (x ∷ xs) (suc n) d h = is-there xs n d (omega (arith, h))

module _ (file : List ℕ) (clean : first (elf_rules file) ≡ None) (found : first (found_rules file) ≡ None) (a : ℕ) (point : is_point (file_points file) a ≡ true) where
  functions : AreFunctions file
  functions = are-functions file clean (clean-functions file found) (clean-points file found)

  in-one : (f : Function) × (find (has_address a) (functions_of file) ≡ Some f)
  in-one =
      let at = found-at (file_points file) a point in
      let is : InFunction file a at.0 = in-function file functions a at.0 at.1 in
      let place = is.place in
      let some = is.some in
      let most = is.most in
      (function_at is.function, function-around file functions is.function is.one_of a (omega (arith, place)) (omega (arith, place, most, some)))

  pub has-function : (o : Option ℕ) → function_of file a ≡ o → (n : ℕ) × (o ≡ Some n)
  has-function None e = let none = find-none (has_address a) (functions_of file) e in let one = in-one.1 in absurd (cc)
  has-function (Some n) e = (n, refl)

-- what is live there is live in the points around it
pub live-around : (file : List ℕ) (a n : ℕ) (kept : OfFunction) → function_of file a ≡ Some n → kept.number ≡ n → IsLiveIn file (Some kept) → IsLiveOf (points_around file a) kept.live
live-around file a n kept is same live =
    let f = get_or (functions_of file) n no_function in
    let within = (position-Some (has_address a) (functions_of file) n no_function is).0 in
    let around : find (has_address a) (functions_of file) ≡ Some f = find-at (has_address a) (functions_of file) n no_function is in
    subst (λ o. IsLiveOf (option_map_or (λ (g : Function). points_in file g.span) o []) kept.live) (sym around)
    (live f (ap (slice_get (functions_of file)) same ∙ is-there (functions_of file) n no_function within))

pub number-within : (file : List ℕ) (a n : ℕ) → function_of file a ≡ Some n → n < length (functions_of file)
number-within file a n is = (position-Some (has_address a) (functions_of file) n no_function is).0

-- ---- one more probe

last-of : {A : Type 0} (xs : List A) (y z : A) (k : ℕ) → slice_get (xs ++ y ∷ []) k ≡ Some z → (slice_get xs k ≡ Some z) ⊎ ((k ≡ length xs) × (y ≡ z))
last-of [] y z zero e = inr (refl, cc)
last-of [] y z (suc k) e = absurd (cc)
last-of (x ∷ xs) y z zero e = inl e
last-of (x ∷ xs) y z (suc k) e = by (last-of xs y z k e)
  where
    by : (slice_get xs k ≡ Some z) ⊎ ((k ≡ length xs) × (y ≡ z)) → (slice_get (x ∷ xs) (suc k) ≡ Some z) ⊎ ((suc k ≡ suc (length xs)) × (y ≡ z))
    by (inl h) = inl h
    by (inr h) = inr (ap suc h.0, h.1)

inside : {A : Type 0} (xs : List A) (k : ℕ) (z : A) → slice_get xs k ≡ Some z → k < length xs
inside [] k z e = absurd (cc)
inside (x ∷ xs) zero z e = omega arith
inside (x ∷ xs) (suc k) z e = let low = inside xs k z e in omega (arith, low)

module _ (file leaders bytes : List ℕ) (are : AreBytesOf file leaders bytes) (a b : ℕ) (probe : IsProbe (points_around file a) a (probe_of_byte b)) (kept : b ≡ probe_byte (probe_of_byte b)) where
  each-more : (k c : ℕ) (form : Probe) → (slice_get leaders k ≡ Some c) ⊎ ((k ≡ length leaders) × (a ≡ c)) → (slice_get (forms_of bytes) k ≡ Some form) ⊎ ((k ≡ length (forms_of bytes)) × (probe_of_byte b ≡ form)) → IsProbe (points_around file c) c form
  each-more k c form (inl h) (inl g) = are.each k c form h g
  each-more k c form (inl h) (inr g) =
      let low = inside leaders k c h in
      let count = are.count in
      let size = length-map bytes probe_of_byte in
      let same = g.0 in
      absurd (omega (arith, low, count, size, same))
  each-more k c form (inr h) (inl g) =
      let low = inside (forms_of bytes) k form g in
      let count = are.count in
      let size = length-map bytes probe_of_byte in
      let same = h.0 in
      absurd (omega (arith, low, count, size, same))
  each-more k c form (inr h) (inr g) = subst (λ x. IsProbe (points_around file x) x form) h.1 (subst (λ p. IsProbe (points_around file a) a p) g.1 probe)

  pub bytes-more : AreBytesOf file (leaders ++ a ∷ []) (bytes ++ b ∷ [])
  bytes-more =
      let forms = map-append probe_of_byte bytes (b ∷ []) in
      let first = length-append leaders (a ∷ []) in
      let second = length-append bytes (b ∷ []) in
      let count = are.count in
      record {
        count = omega (arith, first, second, count);
        each = λ k c form h g. each-more k c form (last-of leaders a c k h) (last-of (forms_of bytes) (probe_of_byte b) form k (subst (λ fs. slice_get fs k ≡ Some form) forms g));
        kept = ap (λ xs. xs ++ b ∷ []) are.kept ∙ (ap (λ x. map probe_byte (forms_of bytes) ++ x ∷ []) kept ∙ sym (ap (map probe_byte) forms ∙ map-append probe_byte (forms_of bytes) (probe_of_byte b ∷ [])));
      }

pub no-bytes : (file : List ℕ) → AreBytesOf file [] []
no-bytes file = record { count = refl; each = λ k a form h g. absurd (cc); kept = refl }

-- ---- a leader is a point

pub leader-point : (file : List ℕ) (mode : Mode) (k d : ℕ) → k < length (leaders_of file mode) → is_point (file_points file) (get_or (leaders_of file mode) k d) ≡ true
unfolding leaders_of
leader-point file mode k d low =
    let leaders = filter (is_leader file mode) (places_of (file_points file)) in
    one-known (places_of (file_points file)) (get_or leaders k d)
    (filter_contains (is_leader file mode) (places_of (file_points file)) (get_or leaders k d) (Contains-get_or leaders k d low))

-- the leader with a number has a function
pub leader-function : (file : List ℕ) (mode : Mode) (leaders : List ℕ) → leaders ≡ leaders_of file mode → first (elf_rules file) ≡ None → first (found_rules file) ≡ None → (k d : ℕ) → k < length leaders
    → (o : Option ℕ) → o ≡ function_of file (get_or leaders k d) → IsSome o
leader-function file mode leaders is clean found k d low o e =
    let size = ap length is in
    let point : is_point (file_points file) (get_or leaders k d) ≡ true = subst (λ xs. is_point (file_points file) (get_or xs k d) ≡ true) (sym is) (leader-point file mode k d (omega (arith, low, size))) in
    let number = has-function file clean found (get_or leaders k d) point o (sym e) in
    subst IsSome (sym number.1) refl

-- the byte of the probe at one leader more
pub leader-more : (file leaders bytes more : List ℕ) (k d n b : ℕ) (kept : OfFunction) (form : Probe) → k < length leaders → AreBytesOf file (take k leaders) bytes → function_of file (get_or leaders k d) ≡ Some n → kept.number ≡ n → IsLiveIn file (Some kept)
    → (IsLiveOf (points_around file (get_or leaders k d)) kept.live → IsProbe (points_around file (get_or leaders k d)) (get_or leaders k d) form) → b ≡ probe_byte form → probe_of_byte b ≡ form → more ≡ bytes ++ b ∷ [] → AreBytesOf file (take (k + 1) leaders) more
leader-more file leaders bytes more k d n b kept form low are is number live probe byte back grown =
    let a = get_or leaders k d in
    let here : IsProbe (points_around file a) a form = probe (live-around file a n kept is number live) in
    let all = bytes-more file (take k leaders) bytes are a b (subst (IsProbe (points_around file a) a) (sym back) here) (byte ∙ ap probe_byte (sym back)) in
    let next : k + 1 ≡ suc k = omega arith in
    subst (AreBytesOf file (take (k + 1) leaders)) (sym grown) (subst (λ xs. AreBytesOf file xs (bytes ++ b ∷ [])) (sym (ap (λ m. take m leaders) next ∙ take-suc leaders k d low)) all)
