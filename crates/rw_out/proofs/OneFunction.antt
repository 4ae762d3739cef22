-- An address belongs to one function, so what a function's code has at a point is what the file has there.
use Rattle.std.proofs.Common.{◌≡◌, ◌⊎◌, inl, inr, ℕ, ◌+◌, ◌<◌, ◌≤◌, List, drop, get_or, Some, None, Bool, true, false, nat_eq, refl, sym, ap, subst, ◌∙◌, arith}
use Rattle.std.specs.Prelude.{option_map}
use Rattle.std.specs.List.{Contains}
use Rattle.std.proofs.lemmas.Bool.{eqb-true, eqb-false, cases_lt}
use Rattle.std.proofs.lemmas.List.{get_or_default}
use Rattle.x86_insn.specs.declared.instruction.Insn.{Insn}
use Rattle.x86_decode.specs.Reading.{decode_of}
use Rattle.rw_elf.specs.declared.symbol.Symbol.{Symbol}
use Rattle.rw_funcs.specs.Functions.{function_rules, kept_functions, code_of_symbol, end_of}
use Rattle.rw_funcs.specs.Points.{Point, point_at, insn_at, points_of, file_points}
use Rattle.rw_funcs.proofs.Facts.{functions_apart}
use Rattle.rw_base.specs.Rules.{first}
use Rattle.rw_code.proofs.Functions.{AreFunctions, InFunction, in-function, has-file}
use Rattle.rw_code.proofs.Points.{Has, found-at}

-- of two functions the one with the lower number ends at or below where the other begins
earlier : (file : List ℕ) → first (function_rules file) ≡ None → (f g : Symbol) (at : Contains (kept_functions file) f) (bt : Contains (kept_functions file) g) → at.0 < bt.0 → end_of f ≤ g.value
earlier file clean f g at bt less =
    let apart = functions_apart file clean at.0 bt.0 f less bt.1 in
    let other : get_or (kept_functions file) bt.0 f ≡ g = get_or_default (kept_functions file) bt.0 f g bt.1 ∙ bt.2 in
    subst (λ z. end_of f ≤ z.value) other (subst (λ z. end_of z ≤ (get_or (kept_functions file) bt.0 f).value) at.2 apart)

-- the functions that an address belongs to are one
pub same-function : (file : List ℕ) → first (function_rules file) ≡ None → (f g : Symbol) → Contains (kept_functions file) f → Contains (kept_functions file) g → (a : ℕ) → f.value ≤ a → a < end_of f → g.value ≤ a → a < end_of g → f ≡ g
same-function file clean f g at bt a low high least most = by_test (nat_eq at.0 bt.0) refl
  where
    clash : (at.0 < bt.0) ⊎ (bt.0 ≤ at.0) → (nat_eq at.0 bt.0 ≡ false) → ⊥
    clash (inl less) e = let apart = earlier file clean f g at bt less in omega (arith, apart, high, least)
    clash (inr more) e =
        let other = eqb-false at.0 bt.0 e in
        let apart = earlier file clean g f bt at (omega (arith, more, other)) in omega (arith, apart, most, low)

    by_test : (t : Bool) → nat_eq at.0 bt.0 ≡ t → f ≡ g
    by_test true e =
        let same : at.0 ≡ bt.0 = eqb-true at.0 bt.0 e in
        sym at.2 ∙ (get_or_default (kept_functions file) at.0 f g at.1 ∙ ap (λ i. get_or (kept_functions file) i g) same) ∙ bt.2
    by_test false e = absurd (clash (cases_lt at.0 bt.0) e)

-- the point of an address in a function is what the function's code has there
pub point-spelled : (file : List ℕ) → AreFunctions file → first (function_rules file) ≡ None → (f : Symbol) → Contains (kept_functions file) f → (m a : ℕ) → a ≡ f.value + m → m < f.size → (p : Point) → point_at (file_points file) a ≡ Some p → decode_of a (drop m (code_of_symbol file f)) ≡ Some (p.insn, p.len)
point-spelled file functions clean f at m a place inside p found =
    let is : InFunction file a p = in-function file functions a p found in
    let there = is.place in
    let some = is.some in
    let most = is.most in
    let same : is.function ≡ f = same-function file clean is.function f is.one_of at a (omega (arith, there)) (omega (arith, there, some, most)) (omega (arith, place)) (omega (arith, place, inside)) in
    let where_is : a ≡ f.value + is.offset = subst (λ g. a ≡ g.value + is.offset) same is.place in
    let offset : is.offset ≡ m = omega (arith, where_is, place) in
    subst (λ k. decode_of a (drop k (code_of_symbol file f)) ≡ Some (p.insn, p.len)) offset (subst (λ g. decode_of a (drop is.offset (code_of_symbol file g)) ≡ Some (p.insn, p.len)) same is.decoded)

-- so at each of its points
pub insn-spelled : (file : List ℕ) → AreFunctions file → first (function_rules file) ≡ None → (f : Symbol) → Contains (kept_functions file) f → (m a : ℕ) → a ≡ f.value + m → m < f.size → Has (points_of file f) a → insn_at (file_points file) a ≡ decode_of a (drop m (code_of_symbol file f))
insn-spelled file functions clean f at m a place inside has =
    let found = found-at (file_points file) a (has-file file f at a has) in
    ap (option_map {U = Insn ℕ × ℕ} (λ p. (p.insn, p.len))) found.1 ∙ sym (point-spelled file functions clean f at m a place inside found.0 found.1)
