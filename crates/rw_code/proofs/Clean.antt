-- A file that has no fault up to its instructions has functions that lie one behind the other, each filled by instructions.
use Rattle.std.proofs.lemmas.List.{get_or-map, length-map}
use Rattle.std.proofs.Common.{◌≡◌, ℕ, zero, suc, ◌<◌, List, [], ◌∷◌, length, map, get_or, Option, Some, None, refl, sym, subst, ◌∙◌, arith}
use Rattle.std.specs.Prelude.{option_map}
use Rattle.std.specs.List.{AllPairs, Contains}
use Rattle.rw_base.specs.declared.fault.Fault.TheVariants.{BadInstruction}
use Rattle.rw_base.specs.Rules.{first}
use Rattle.rw_base.proofs.First.{first_append}
use Rattle.rw_elf.specs.declared.symbol.Symbol.{Symbol}
use Rattle.rw_elf.specs.Tables.{elf_rules}
use Rattle.rw_funcs.specs.Found.{FollowsOn, found_rules}
use Rattle.rw_funcs.specs.Functions.{kept_functions, function_at, function_rules, code_of_symbol}
use Rattle.rw_funcs.specs.Points.{first_bad, bad_address, point_rules}
use Rattle.rw_funcs.proofs.Facts.{placed_function, functions_apart, code_length}
use Rattle.rw_code.proofs.Functions.{AreFunctions}
use Rattle.rw_code.proofs.Points.{or-none, clean-item}

module _ {A B : Type 0} (g : A → B) where
  pairs-map : (R : B → B → Type 0) (xs : List A) → AllPairs (λ x y. R (g x) (g y)) xs → (i j : ℕ) (d : B) → i < j → j < length (map g xs) → R (get_or (map g xs) i d) (get_or (map g xs) j d)
  pairs-map R [] h i j d low within = absurd (omega (arith, within))
  pairs-map R (x ∷ xs) h i zero d low within = absurd (omega (arith, low))
  pairs-map R (x ∷ xs) h zero (suc j) d low within =
      let size = length-map xs g in
      let inside : j < length xs = omega (arith, within, size) in
      subst (R (g x)) (sym (get_or-map g xs j x d inside)) (h 0 (suc j) x (omega arith) (omega (arith, inside)))
  pairs-map R (x ∷ xs) h (suc i) (suc j) d low within =
      pairs-map R xs (λ k l e below inside. h (suc k) (suc l) e (omega (arith, below)) (omega (arith, inside))) i j d (omega (arith, low)) (omega (arith, within))

no-bad : (o : Option ℕ) → option_map BadInstruction o ≡ None → o ≡ None
no-bad None h = refl
no-bad (Some a) h = cc

-- instructions fill each function
filled : (file : List ℕ) → first (point_rules file) ≡ None → (f : Symbol) → Contains (kept_functions file) f → first_bad (length (code_of_symbol file f)) f.value (code_of_symbol file f) ≡ None
unfolding point_rules bad_address
filled file points f at =
    no-bad (bad_address file f) (clean-item (kept_functions file) (λ k g. option_map BadInstruction (bad_address file g)) f (or-none _ None points).0 at)

pub are-functions : (file : List ℕ) → first (elf_rules file) ≡ None → first (function_rules file) ≡ None → first (point_rules file) ≡ None → AreFunctions file
are-functions file clean rules points = record {
  each = λ f at. (let placed = placed_function file f rules at in record {
    one_of = placed.one_of;
    code = placed.code;
    starts = placed.starts;
    ends = placed.ends;
    some = placed.some;
    size = code_length file f clean rules at;
    good = filled file points f at;
  });
  apart = pairs-map function_at FollowsOn (kept_functions file) (functions_apart file rules);
}

-- the rules of the phases up to instructions, by phase
pub found-clean : (file : List ℕ) → first (found_rules file) ≡ None → (first (function_rules file) ≡ None) × (first (point_rules file) ≡ None)
found-clean file h = or-none (first (function_rules file)) (first (point_rules file)) (sym (first_append (function_rules file) (point_rules file)) ∙ h)
