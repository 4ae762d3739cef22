-- The points of a file: where they lie, that behind each comes a point or the end, and that the reference of each is one.
use Rattle.std.proofs.Common.{◌≡◌, ◌⊎◌, inl, inr, ℕ, zero, suc, ◌+◌, ◌-◌, ◌<◌, ◌≤◌, List, [], ◌∷◌, length, drop, Option, Some, None, Bool, true, false, cond, ◌==◌, ◌||◌, refl, sym, ap, subst, ◌∙◌, arith, length-drop}
use Rattle.std.specs.List.{Contains}
use Rattle.std.specs.Option.{option_or}
use Rattle.std.specs.Prelude.{if◌then◌else◌, option_and_then, slice_get}
use Rattle.std.proofs.lemmas.Bool.{eqb-true, eq-eqb, cases_lt}
use Rattle.rw_base.specs.declared.fault.Fault.{Fault}
use Rattle.std.proofs.lemmas.Option.{slice_get-get_or}
use Rattle.rw_base.specs.Rules.{first_of, each_of}
use Rattle.rw_base.proofs.First.{first_from-none}
use Rattle.x86_insn.specs.declared.instruction.Insn.{Insn}
use Rattle.x86_decode.specs.Reading.{decode_of}
use Rattle.rw_elf.specs.declared.symbol.Symbol.{Symbol}
use Rattle.rw_funcs.specs.Functions.{kept_functions, functions_of, function_at, code_of_symbol, end_of}
use Rattle.rw_funcs.specs.Points.{Point, is_point, point_at, points_from, points, points_of, bad_from, first_bad, file_points}
use Rattle.rw_funcs.proofs.Fuel.{front_fits}
use Rattle.rw_words.specs.declared.atom.Atom.{Atom}
use Rattle.rw_words.specs.declared.atom.Atom.TheVariants.{Code}
use Rattle.rw_words.specs.declared.atom.Atom.TheVariants as atom
use Rattle.rw_code.specs.declared.point.FilePoint.{FilePoint}
use Rattle.rw_code.specs.declared.point.FilePoint.TheVariants.{At, Past}
use Rattle.rw_code.specs.Ground.{Ground}
use Rattle.rw_code.specs.Known.{has_address}
use Rattle.rw_code.specs.File.{starts_of, labels_of, point_after}
use Rattle.rw_code.proofs.Functions.{AreFunctions, InFunction, contains_map, contains-function, has-file, in-function}
use Rattle.rw_code.proofs.KnownWords.{one-known}

-- ---- what the rules leave

pub or-none : (a b : Option Fault) → option_or a b ≡ None → (a ≡ None) × (b ≡ None)
or-none None b h = (refl, h)
or-none (Some x) b h = cc

-- a rule on the items of a list that finds nothing finds nothing at an item
pub clean-item : {A : Type 0} (xs : List A) (finding : ℕ → A → Option Fault) (x : A) → first_of (each_of xs finding) ≡ None → (at : Contains xs x) → finding at.0 x ≡ None
clean-item xs finding x none at =
    let within = at.1 in
    let here : slice_get xs at.0 ≡ Some x = slice_get-get_or xs at.0 x at.1 ∙ ap (λ y. Some y) at.2 in
    ap (option_and_then (finding at.0)) (sym here) ∙ first_from-none (λ k. option_and_then (finding k) (slice_get xs k)) 0 (length xs) none at.0 (omega arith) (omega (arith, within))

-- ---- addresses of points

abbrev pub Has : List Point → ℕ → Type 0
Has ps a = is_point ps a ≡ true

-- an address is that of a point where the point is found there
pub found-at : (ps : List Point) (a : ℕ) → Has ps a → (p : Point) × (point_at ps a ≡ Some p)
found-at [] a h = cc
found-at (p ∷ ps) a h = by_test (λ g. found-at ps a g) (p.place == a) h
  where
    by_test : (Has ps a → (q : Point) × (point_at ps a ≡ Some q)) → (t : Bool) → (t || is_point ps a) ≡ true → (q : Point) × (cond t (Some p) (point_at ps a) ≡ Some q)
    by_test rest true g = (p, refl)
    by_test rest false g = rest g

has-first : (p : Point) (ps : List Point) (a : ℕ) → p.place ≡ a → Has (p ∷ ps) a
has-first p ps a e = ap (λ t. t || is_point ps a) (eq-eqb p.place a e)

or-true : (b : Bool) → (b || true) ≡ true
or-true true = refl
or-true false = refl

has-later : (p : Point) (ps : List Point) (a : ℕ) → Has ps a → Has (p ∷ ps) a
has-later p ps a h = ap (λ t. (p.place == a) || t) h ∙ or-true (p.place == a)

-- where no place is bad, bytes begin with a point
begins : (k a : ℕ) (bytes : List ℕ) → 0 < length bytes → length bytes ≤ k → first_bad k a bytes ≡ None → Has (points k a bytes) a
begins zero a bytes some enough good = absurd (omega (arith, some, enough))
begins (suc k) a bytes some enough good = by_front (decode_of a bytes) bytes some good
  where
    by_front : (o : Option (Insn ℕ × ℕ)) (bs : List ℕ) → 0 < length bs → bad_from (first_bad k) a bs o ≡ None → Has (points_from k a bs o (points k)) a
    by_front o [] some good = absurd (omega (arith, some))
    by_front None (b ∷ bs) some good = cc
    by_front (Some d) (b ∷ bs) some good = has-first (record { place = a; insn = d.0; len = d.1 }) (points k (a + d.1) (drop d.1 (b ∷ bs))) a refl

good-rest : (k a : ℕ) (bytes : List ℕ) (d : Insn ℕ × ℕ) → 0 < length bytes → decode_of a bytes ≡ Some d → first_bad (suc k) a bytes ≡ None → first_bad k (a + d.1) (drop d.1 bytes) ≡ None
good-rest k a [] d some e good = absurd (omega (arith, some))
good-rest k a (b ∷ bs) d some e good = subst (λ o. bad_from (first_bad k) a (b ∷ bs) o ≡ None) e good

-- behind a point comes a point, or the end of the bytes
abbrev IsFollowed : List Point → ℕ → ℕ → Type 0
IsFollowed ps finish b = (b ≡ finish) ⊎ Has ps b

later : (p : Point) (ps : List Point) (finish b : ℕ) → IsFollowed ps finish b → IsFollowed (p ∷ ps) finish b
later p ps finish b (inl e) = inl e
later p ps finish b (inr h) = inr (has-later p ps b h)

next-here : (k a : ℕ) (bytes : List ℕ) (n : ℕ) → 0 < n → n ≤ length bytes → length bytes ≤ suc k → first_bad k (a + n) (drop n bytes) ≡ None → IsFollowed (points k (a + n) (drop n bytes)) (a + length bytes) (a + n)
next-here k a bytes n some most enough rest = by_case (cases_lt n (length bytes))
  where
    size : length (drop n bytes) ≡ length bytes - n
    size = length-drop n bytes

    by_case : (n < length bytes) ⊎ (length bytes ≤ n) → IsFollowed (points k (a + n) (drop n bytes)) (a + length bytes) (a + n)
    by_case (inl more) = inr (begins k (a + n) (drop n bytes) (let z = size in omega (arith, z, more)) (let z = size in omega (arith, z, some, enough)) rest)
    by_case (inr all) = inl (omega (arith, most, all))

same-point : (p q : Point) → ◌≡◌ {A = Option Point} (Some p) (Some q) → p ≡ q
same-point p q e = cc

-- the first point of bytes, whose other points begin behind it
module _ (k a : ℕ) (bytes : List ℕ) (d : Insn ℕ × ℕ) (e : decode_of a bytes ≡ Some d) (enough : length bytes ≤ suc k) (good : first_bad (suc k) a bytes ≡ None) where
  rest-good : first_bad k (a + d.1) (drop d.1 bytes) ≡ None
  rest-good = let fits = front_fits a bytes d e in let some = fits.0 in let most = fits.1 in good-rest k a bytes d (omega (arith, some, most)) e good

  rest-ends : a + d.1 + length (drop d.1 bytes) ≡ a + length bytes
  rest-ends = let size = length-drop d.1 bytes in let fits = front_fits a bytes d e in let most = fits.1 in omega (arith, size, most)

  rest-enough : length (drop d.1 bytes) ≤ k
  rest-enough = let size = length-drop d.1 bytes in let fits = front_fits a bytes d e in let some = fits.0 in omega (arith, size, some, enough)

  first-followed : IsFollowed (points_from k a bytes (Some d) (points k)) (a + length bytes) (a + d.1)
  first-followed = let fits = front_fits a bytes d e in later (record { place = a; insn = d.0; len = d.1 }) (points k (a + d.1) (drop d.1 bytes)) (a + length bytes) (a + d.1) (next-here k a bytes d.1 fits.0 fits.1 enough rest-good)

  -- what comes behind each of them
  points-followed : (b : ℕ) (p : Point) → (point_at (points k (a + d.1) (drop d.1 bytes)) b ≡ Some p → IsFollowed (points k (a + d.1) (drop d.1 bytes)) (a + d.1 + length (drop d.1 bytes)) (b + p.len))
      → (t : Bool) → (a == b) ≡ t → ◌≡◌ {A = Option Point} (cond t (Some (record { place = a; insn = d.0; len = d.1 })) (point_at (points k (a + d.1) (drop d.1 bytes)) b)) (Some p)
      → IsFollowed (points_from k a bytes (Some d) (points k)) (a + length bytes) (b + p.len)
  points-followed b p others true f found =
      let same : record { place = a; insn = d.0; len = d.1 } ≡ p = same-point (record { place = a; insn = d.0; len = d.1 }) p found in
      let place : a ≡ b = eqb-true a b f in
      subst (λ z. IsFollowed (points_from k a bytes (Some d) (points k)) (a + length bytes) (z + p.len)) place
      (subst (λ z. IsFollowed (points_from k a bytes (Some d) (points k)) (a + length bytes) (a + z.len)) same first-followed)
  points-followed b p others false f found =
      later (record { place = a; insn = d.0; len = d.1 }) (points k (a + d.1) (drop d.1 bytes)) (a + length bytes) (b + p.len)
      (subst (λ z. IsFollowed (points k (a + d.1) (drop d.1 bytes)) z (b + p.len)) rest-ends (others found))

followed-by : (k a : ℕ) (bytes : List ℕ) (b : ℕ) (p : Point) → ((c : ℕ) (rest : List ℕ) → length rest ≤ k → first_bad k c rest ≡ None → point_at (points k c rest) b ≡ Some p → IsFollowed (points k c rest) (c + length rest) (b + p.len))
    → length bytes ≤ suc k → first_bad (suc k) a bytes ≡ None → (o : Option (Insn ℕ × ℕ)) → decode_of a bytes ≡ o → point_at (points_from k a bytes o (points k)) b ≡ Some p → IsFollowed (points_from k a bytes o (points k)) (a + length bytes) (b + p.len)
followed-by k a bytes b p others enough good None e found = cc
followed-by k a bytes b p others enough good (Some d) e found =
    points-followed k a bytes d e enough good b p (others (a + d.1) (drop d.1 bytes) (rest-enough k a bytes d e enough good) (rest-good k a bytes d e enough good)) (a == b) refl found

followed : (k a : ℕ) (bytes : List ℕ) (b : ℕ) (p : Point) → length bytes ≤ k → first_bad k a bytes ≡ None → point_at (points k a bytes) b ≡ Some p → IsFollowed (points k a bytes) (a + length bytes) (b + p.len)
followed zero a bytes b p enough good found = cc
followed (suc k) a bytes b p enough good found = followed-by k a bytes b p (λ c rest u v w. followed k c rest b p u v w) enough good (decode_of a bytes) refl found

-- ---- the words of points

-- the atom of a point
abbrev pub atom_of : FilePoint → Atom
atom_of (At a) = Code a
atom_of (Past start) = atom.Past start

-- it has an address
abbrev pub IsKnown : List ℕ → Ground → FilePoint → Type 0
IsKnown file file_ground p = has_address (labels_of file file_ground) (atom_of p) ≡ true

pub past-known : (file : List ℕ) (file_ground : Ground) → AreFunctions file → (f : Symbol) → Contains (kept_functions file) f → IsKnown file file_ground (Past f.value)
past-known file file_ground functions f at =
    one-known (starts_of (functions_of file)) f.value (contains_map (λ g. g.span.start) (functions_of file) (function_at f) (contains-function file functions f at))

-- behind a point of a function comes one of it, or its end
followed-of : (file : List ℕ) → AreFunctions file → (f : Symbol) → Contains (kept_functions file) f → (a : ℕ) (p : Point) → point_at (points_of file f) a ≡ Some p → IsFollowed (points_of file f) (end_of f) (a + p.len)
unfolding points_of
followed-of file functions f at a p found =
    let is = functions.each f at in
    let code = code_of_symbol file f in
    subst (λ n. IsFollowed (points_of file f) (f.value + n) (a + p.len)) is.size (followed (length code) f.value code a p (omega arith) is.good found)

-- behind a point comes one that has an address
pub next-known : (file : List ℕ) (file_ground : Ground) → AreFunctions file → (a : ℕ) (p : Point) → point_at (file_points file) a ≡ Some p → IsKnown file file_ground (point_after (functions_of file) a (Some p))
next-known file file_ground functions a p found = subst (IsKnown file file_ground) (sym is.after) (by_test (a + p.len == end_of f) refl)
  where
    is : InFunction file a p
    is = in-function file functions a p found

    f : Symbol
    f = is.function

    not_last : (a + p.len == end_of f) ≡ false → IsFollowed (points_of file f) (end_of f) (a + p.len) → Has (file_points file) (a + p.len)
    not_last e (inl last) = let t : (a + p.len == end_of f) ≡ true = eq-eqb (a + p.len) (end_of f) last in cc
    not_last e (inr h) = has-file file f is.one_of (a + p.len) h

    by_test : (t : Bool) → (a + p.len == end_of f) ≡ t → IsKnown file file_ground (if t then Past f.value else At (a + p.len))
    by_test true e = past-known file file_ground functions f is.one_of
    by_test false e = not_last e (followed-of file functions f is.one_of a p is.found)

-- a point of the file, which lies in one of its functions
pub point-inside : (file : List ℕ) → AreFunctions file → (c : ℕ) → is_point (file_points file) c ≡ true → (p : Point) × (point_at (file_points file) c ≡ Some p) × InFunction file c p
point-inside file functions c h =
    let found = found-at (file_points file) c h in
    (found.0, found.1, in-function file functions c found.0 found.1)
