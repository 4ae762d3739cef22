-- The points of bytes, one instruction after another; enough turns are as good as more.
use Rattle.std.proofs.Common.{◌≡◌, ℕ, zero, suc, ◌+◌, ◌<◌, ◌≤◌, List, [], ◌∷◌, length, drop, Option, Some, None, refl, sym, ap, ◌∙◌, arith, length-drop}
use Rattle.x86_insn.specs.declared.instruction.Insn.{Insn}
use Rattle.x86_decode.specs.Reading.{decode_of}
use Rattle.x86_decode.proofs.SpellingLaws.{decode_of-length}
use Rattle.rw_funcs.specs.Points.{Point, points, points_from, first_bad, bad_from}

pub front_fits : (a : ℕ) (bytes : List ℕ) (d : Insn ℕ × ℕ) → decode_of a bytes ≡ Some d → (0 < d.1) × (d.1 ≤ length bytes)
front_fits a bytes d h =
    let l = decode_of-length a bytes d.0 d.1 h in
    (omega (arith, l.0), l.2)

pub rest_fits : (a : ℕ) (bytes : List ℕ) (d : Insn ℕ × ℕ) (k : ℕ) → decode_of a bytes ≡ Some d → length bytes ≤ suc k → length (drop d.1 bytes) ≤ k
rest_fits a bytes d k e h =
    let fits = front_fits a bytes d e in
    let size = length-drop d.1 bytes in
    let some = fits.0 in
    omega (arith, size, some, h)

pub no_front : (a : ℕ) (o : Option (Insn ℕ × ℕ)) → decode_of a [] ≡ o → o ≡ None
no_front a None e = refl
no_front a (Some d) e = let fits = front_fits a [] d e in let some = fits.0 in let few = fits.1 in absurd (omega (arith, some, few))

pub no_points : (k a : ℕ) → points k a [] ≡ []
no_points zero a = refl
no_points (suc k) a = ap (λ o. points_from k a [] o (points k)) (no_front a (decode_of a []) refl)

empty_points : (k j a : ℕ) (bytes : List ℕ) → length bytes ≤ 0 → points k a bytes ≡ points j a bytes
empty_points k j a [] h = no_points k a ∙ sym (no_points j a)
empty_points k j a (b ∷ bs) h = absurd (omega (arith, h))

same_some : (k j a : ℕ) (bytes : List ℕ) (o : Option (Insn ℕ × ℕ)) → decode_of a bytes ≡ o → ((c : ℕ) (rest : List ℕ) → length rest ≤ k → length rest ≤ j → points k c rest ≡ points j c rest) → length bytes ≤ suc k → length bytes ≤ suc j → points_from k a bytes o (points k) ≡ points_from j a bytes o (points j)
same_some k j a bytes None e ih h g = refl
same_some k j a bytes (Some d) e ih h g = ap (λ ps. record { place = a; insn = d.0; len = d.1 } ∷ ps) (ih (a + d.1) (drop d.1 bytes) (rest_fits a bytes d k e h) (rest_fits a bytes d j e g))

pub same_points : (k j a : ℕ) (bytes : List ℕ) → length bytes ≤ k → length bytes ≤ j → points k a bytes ≡ points j a bytes
same_points zero j a bytes h g = empty_points zero j a bytes h
same_points (suc k) zero a bytes h g = empty_points (suc k) zero a bytes g
same_points (suc k) (suc j) a bytes h g = same_some k j a bytes (decode_of a bytes) refl (λ c rest u v. same_points k j c rest u v) h g

no_bad : (k a : ℕ) → first_bad k a [] ≡ None
no_bad zero a = refl
no_bad (suc k) a = refl

empty_bad : (k j a : ℕ) (bytes : List ℕ) → length bytes ≤ 0 → first_bad k a bytes ≡ first_bad j a bytes
empty_bad k j a [] h = no_bad k a ∙ sym (no_bad j a)
empty_bad k j a (b ∷ bs) h = absurd (omega (arith, h))

same_from : (f g : ℕ → List ℕ → Option ℕ) (a : ℕ) (bytes : List ℕ) (o : Option (Insn ℕ × ℕ)) → ((d : Insn ℕ × ℕ) → o ≡ Some d → f (a + d.1) (drop d.1 bytes) ≡ g (a + d.1) (drop d.1 bytes)) → bad_from f a bytes o ≡ bad_from g a bytes o
same_from f g a [] o h = refl
same_from f g a (b ∷ bs) None h = refl
same_from f g a (b ∷ bs) (Some d) h = h d refl

pub same_bad : (k j a : ℕ) (bytes : List ℕ) → length bytes ≤ k → length bytes ≤ j → first_bad k a bytes ≡ first_bad j a bytes
same_bad zero j a bytes h g = empty_bad zero j a bytes h
same_bad (suc k) zero a bytes h g = empty_bad (suc k) zero a bytes g
same_bad (suc k) (suc j) a bytes h g =
    same_from (first_bad k) (first_bad j) a bytes (decode_of a bytes) (λ d e. same_bad k j (a + d.1) (drop d.1 bytes) (rest_fits a bytes d k e h) (rest_fits a bytes d j e g))

-- the first instruction, and the others
pub points_step : (a : ℕ) (bytes : List ℕ) (d : Insn ℕ × ℕ) → 0 < length bytes → decode_of a bytes ≡ Some d → points (length bytes) a bytes ≡ record { place = a; insn = d.0; len = d.1 } ∷ points (length (drop d.1 bytes)) (a + d.1) (drop d.1 bytes)
points_step a [] d some e = absurd (omega (arith, some))
points_step a (b ∷ bs) d some e =
    ap (λ o. points_from (length bs) a (b ∷ bs) o (points (length bs))) e
    ∙ ap (λ ps. record { place = a; insn = d.0; len = d.1 } ∷ ps) (same_points (length bs) (length (drop d.1 (b ∷ bs))) (a + d.1) (drop d.1 (b ∷ bs)) (rest_fits a (b ∷ bs) d (length bs) e (omega arith)) (omega arith))

pub bad_step : (a : ℕ) (bytes : List ℕ) (d : Insn ℕ × ℕ) → 0 < length bytes → decode_of a bytes ≡ Some d → first_bad (length bytes) a bytes ≡ first_bad (length (drop d.1 bytes)) (a + d.1) (drop d.1 bytes)
bad_step a [] d some e = absurd (omega (arith, some))
bad_step a (b ∷ bs) d some e =
    ap (λ o. bad_from (first_bad (length bs)) a (b ∷ bs) o) e
    ∙ same_bad (length bs) (length (drop d.1 (b ∷ bs))) (a + d.1) (drop d.1 (b ∷ bs)) (rest_fits a (b ∷ bs) d (length bs) e (omega arith)) (omega arith)

pub bad_stop : (a : ℕ) (bytes : List ℕ) → 0 < length bytes → decode_of a bytes ≡ None → first_bad (length bytes) a bytes ≡ Some a
bad_stop a [] some e = absurd (omega (arith, some))
bad_stop a (b ∷ bs) some e = ap (λ o. bad_from (first_bad (length bs)) a (b ∷ bs) o) e

-- the same at a place in the bytes
drop_nil : {A : Type 0} (n : ℕ) → ◌≡◌ {A = List A} (drop n []) []
drop_nil zero = refl
drop_nil (suc n) = refl

-- where bytes spell nothing, there are no points
pub points_stop : (k a : ℕ) (bytes : List ℕ) → decode_of a bytes ≡ None → points k a bytes ≡ []
points_stop zero a bytes e = refl
points_stop (suc k) a bytes e = ap (λ o. points_from k a bytes o (points k)) e

pub drop_drop : {A : Type 0} (n m : ℕ) (xs : List A) → drop m (drop n xs) ≡ drop (n + m) xs
drop_drop zero m xs = let e : zero + m ≡ m = omega arith in ap (λ k. drop k xs) (sym e)
drop_drop {A} (suc n) m [] = drop_nil {A = A} m ∙ sym (drop_nil {A = A} (suc n + m))
drop_drop (suc n) m (x ∷ xs) = let e : suc n + m ≡ suc (n + m) = omega arith in drop_drop n m xs ∙ ap (λ k. drop k (x ∷ xs)) (sym e)

abbrev pub bad_in : List ℕ → ℕ → ℕ → Option ℕ
bad_in code start at = first_bad (length (drop at code)) (start + at) (drop at code)

pub bad_after : (code : List ℕ) (start at : ℕ) (d : Insn ℕ × ℕ) → at < length code → decode_of (start + at) (drop at code) ≡ Some d → bad_in code start at ≡ bad_in code start (at + d.1)
bad_after code start at d below e =
    let size = length-drop at code in
    let some : 0 < length (drop at code) = omega (arith, size, below) in
    let place : start + at + d.1 ≡ start + (at + d.1) = omega arith in
    bad_step (start + at) (drop at code) d some e
    ∙ ap (λ bs. first_bad (length bs) (start + at + d.1) bs) (drop_drop at d.1 code)
    ∙ ap (λ a. first_bad (length (drop (at + d.1) code)) a (drop (at + d.1) code)) place

-- the points of code from a place on: the next one, and the others
abbrev pub points_in : List ℕ → ℕ → ℕ → List Point
points_in code start at = points (length (drop at code)) (start + at) (drop at code)

pub points_next : (code : List ℕ) (start at : ℕ) (d : Insn ℕ × ℕ) → decode_of (start + at) (drop at code) ≡ Some d
    → points_in code start at ≡ record { place = start + at; insn = d.0; len = d.1 } ∷ points_in code start (at + d.1)
points_next code start at d e =
    let fits = front_fits (start + at) (drop at code) d e in
    let some : 0 < length (drop at code) = let a = fits.0 in let b = fits.1 in omega (arith, a, b) in
    let place : start + at + d.1 ≡ start + (at + d.1) = omega arith in
    let rest : points (length (drop d.1 (drop at code))) (start + at + d.1) (drop d.1 (drop at code)) ≡ points_in code start (at + d.1) =
    ap (λ bs. points (length bs) (start + at + d.1) bs) (drop_drop at d.1 code) ∙ ap (λ a. points (length (drop (at + d.1) code)) a (drop (at + d.1) code)) place in
    points_step (start + at) (drop at code) d some e ∙ ap (λ ps. record { place = start + at; insn = d.0; len = d.1 } ∷ ps) rest

pub points_at_start : (code : List ℕ) (start : ℕ) → points_in code start 0 ≡ points (length code) start code
points_at_start code start = let e : start + 0 ≡ start = omega arith in ap (λ a. points (length code) a code) e

-- the next point begins inside the code and doesn't go past it
pub next_fits : (code : List ℕ) (start at : ℕ) (d : Insn ℕ × ℕ) → decode_of (start + at) (drop at code) ≡ Some d → (0 < d.1) × (at + d.1 ≤ length code)
next_fits code start at d e =
    let fits = front_fits (start + at) (drop at code) d e in
    let size = length-drop at code in
    let some = fits.0 in
    let short = fits.1 in
    (some, omega (arith, size, some, short))
