-- A walk through the points of a function.
use Rattle.std.proofs.Common.{◌≡◌, ℕ, zero, suc, ◌+◌, ◌-◌, ◌^◌, ◌<◌, ◌≤◌, List, [], ◌∷◌, drop, length, map, get_or, Option, Some, None, refl, sym, ap, ◌∙◌, arith, length-drop}
use Rattle.std.specs.Prelude.{slice_get}
use Rattle.std.specs.List.{Contains}
use Rattle.x86_insn.specs.declared.instruction.Insn.{Insn}
use Rattle.x86_decode.specs.Reading.{decode_of}
use Rattle.rw_elf.specs.declared.symbol.Symbol.{Symbol}
use Rattle.rw_funcs.specs.declared.function.Function.{Function}
use Rattle.rw_funcs.specs.Functions.{code_of_symbol, end_of, function_at, functions_of, kept_functions, symbol_or}
use Rattle.rw_funcs.specs.Points.{first_bad, points, points_of}
use Rattle.rw_funcs.proofs.Facts.{code_ends}
use Rattle.rw_funcs.proofs.Fuel.{bad_after, bad_stop, next_fits, points_at_start, points_in, points_next}
use Rattle.rw_code.proofs.Functions.{IsFunction}
use Rattle.rw_code.proofs.Clean.{are-functions}
use Rattle.rw_data.proofs.Clean.{IsClean}
use Rattle.rw_out.specs.Items.{function_number}
use Rattle.rw_out.specs.Positions.{IsPast, IsPointOf, points_past}

-- ---- the function with a number

number_in : (fs : List Symbol) (k : ℕ) → k < length fs → Contains fs (symbol_or (slice_get fs k))
number_in [] k h = absurd (omega (arith, h))
number_in (f ∷ fs) zero h = (0, omega arith, refl)
number_in (f ∷ fs) (suc k) h = let found = number_in fs k (omega (arith, h)) in let low = found.1 in (suc found.0, omega (arith, low), found.2)

pub numbered : (file : List ℕ) (k : ℕ) → k < length (kept_functions file) → Contains (kept_functions file) (function_number file k)
numbered file k h = number_in (kept_functions file) k h

pub number_is : (fs : List Symbol) (k : ℕ) (d : Symbol) → k < length fs → get_or fs k d ≡ symbol_or (slice_get fs k)
number_is [] k d h = absurd (omega (arith, h))
number_is (f ∷ fs) zero d h = refl
number_is (f ∷ fs) (suc k) d h = number_is fs k d (omega (arith, h))

span_in : (fs : List Symbol) (k : ℕ) (d : Function) → k < length fs → get_or (map function_at fs) k d ≡ function_at (symbol_or (slice_get fs k))
span_in [] k d h = absurd (omega (arith, h))
span_in (f ∷ fs) zero d h = refl
span_in (f ∷ fs) (suc k) d h = span_in fs k d (omega (arith, h))

pub listed-function : (file : List ℕ) (k : ℕ) (list : List Function) (d : Function) → list ≡ functions_of file → k < length (kept_functions file) → get_or list k d ≡ function_at (function_number file k)
listed-function file k list d same h = ap (λ xs. get_or xs k d) same ∙ span_in (kept_functions file) k d h

drop_all : {A : Type 0} (xs : List A) → drop (length xs) xs ≡ []
drop_all [] = refl
drop_all (x ∷ xs) = drop_all xs

-- ---- its points

module _ (file : List ℕ) (clean : IsClean file) (k : ℕ) (number : k < length (kept_functions file)) where
  abbrev f : Symbol
  f = function_number file k

  abbrev code : List ℕ
  code = code_of_symbol file f

  is : IsFunction file f
  is = (are-functions file clean.elf clean.functions clean.points).each f (numbered file k number)

  pub sized : length (code_of_symbol file (function_number file k)) ≡ (function_number file k).size
  sized = is.size

  pub low : end_of (function_number file k) ≤ 2 ^ 47
  low = code_ends file f clean.elf clean.functions (numbered file k number)

  pub past_begins : IsPast file k (function_number file k).value
  past_begins =
      let here : f.value + 0 ≡ f.value = omega arith in
      record { number = number; offset = 0; place = omega arith; within = omega arith; good = ap (λ a. first_bad (length code) a code) here ∙ is.good }

  pub points_begin : points_of file (function_number file k) ≡ points_past file (function_number file k) ((function_number file k).value - (function_number file k).value)
  unfolding points_of
  points_begin =
      let none : f.value - f.value ≡ 0 = omega arith in
      sym (points_at_start code f.value) ∙ ap (λ m. points_in code f.value m) (sym none)

  -- before the end there is one
  module _ (a : ℕ) (w : IsPast file k a) where
    spelled : (o : Option (Insn ℕ × ℕ)) → w.offset < f.size → decode_of (f.value + w.offset) (drop w.offset code) ≡ o → (d : Insn ℕ × ℕ) × (decode_of (f.value + w.offset) (drop w.offset code) ≡ Some d)
    spelled None before e =
        let size = length-drop w.offset code in
        let whole = is.size in
        let some : 0 < length (drop w.offset code) = omega (arith, size, whole, before) in
        let bad : None ≡ Some (f.value + w.offset) = sym w.good ∙ bad_stop (f.value + w.offset) (drop w.offset code) some e in
        absurd (cc)
    spelled (Some d) before e = (d, e)

    offset_is : a - f.value ≡ w.offset
    offset_is = let place = w.place in omega (arith, place)

    pub point_there : a < end_of (function_number file k) → (d : Insn ℕ × ℕ) × (decode_of a (drop (a - (function_number file k).value) (code_of_symbol file (function_number file k))) ≡ Some d)
    point_there before =
        let place = w.place in
        let found = spelled (decode_of (f.value + w.offset) (drop w.offset code)) (omega (arith, place, before)) refl in
        (found.0, ap (λ m. decode_of a (drop m code)) offset_is ∙ (ap (λ b. decode_of b (drop w.offset code)) w.place ∙ found.1))

    -- and past it the walk goes on
    module _ (d : Insn ℕ × ℕ) (e : decode_of a (drop (a - (function_number file k).value) (code_of_symbol file (function_number file k))) ≡ Some d) where
      there : decode_of (f.value + w.offset) (drop w.offset code) ≡ Some d
      there = ap (λ b. decode_of b (drop w.offset code)) (sym w.place) ∙ (ap (λ m. decode_of a (drop m code)) (sym offset_is) ∙ e)

      fits : (0 < d.1) × (w.offset + d.1 ≤ length code)
      fits = next_fits code f.value w.offset d there

      pub past_next : IsPast file k (a + d.1)
      past_next =
          let some = fits.0 in
          let most = fits.1 in
          let place = w.place in
          let whole = is.size in
          record {
            number = number;
            offset = w.offset + d.1;
            place = omega (arith, place);
            within = omega (arith, most, whole);
            good = sym (bad_after code f.value w.offset d (omega (arith, some, most)) there) ∙ w.good;
          }

      pub length_some : 0 < d.1
      length_some = fits.0

      pub next_low : a + d.1 ≤ 2 ^ 47
      next_low = let most = fits.1 in let place = w.place in let whole = is.size in let end = low in omega (arith, most, place, whole, end)

      pub points_go_on : points_past file (function_number file k) (a - (function_number file k).value) ≡ record { place = a; insn = d.0; len = d.1 } ∷ points_past file (function_number file k) (a + d.1 - (function_number file k).value)
      points_go_on =
          let place = w.place in
          let next : w.offset + d.1 ≡ a + d.1 - f.value = omega (arith, place) in
          ap (λ m. points_in code f.value m) offset_is
          ∙ (points_next code f.value w.offset d there
          ∙ (ap (λ b. record { place = b; insn = d.0; len = d.1 } ∷ points_in code f.value (w.offset + d.1)) (sym w.place)
          ∙ ap (λ m. record { place = a; insn = d.0; len = d.1 } ∷ points_in code f.value m) next))

      pub point_of : IsPointOf file k a d.0 (a + d.1)
      point_of = let len : d.1 ≡ a + d.1 - a = omega arith in points_go_on ∙ ap (λ n. record { place = a; insn = d.0; len = n } ∷ points_past file (function_number file k) (a + d.1 - (function_number file k).value)) len

    -- at the end there is none
    pub points_stop_there : end_of (function_number file k) ≤ a → points_past file (function_number file k) (a - (function_number file k).value) ≡ []
    points_stop_there behind =
        let place = w.place in
        let within = w.within in
        let whole = is.size in
        let all : w.offset ≡ length code = omega (arith, place, within, whole, behind) in
        ap (λ m. points_in code f.value m) (offset_is ∙ all) ∙ ap (λ bs. points (length bs) (f.value + length code) bs) (drop_all code)
