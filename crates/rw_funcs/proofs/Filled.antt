-- The points of a function are the one list of spellings that fills it.
use Rattle.std.proofs.Common.{◌≡◌, ℕ, zero, suc, ◌+◌, ◌≤◌, List, [], ◌∷◌, length, drop, Option, Some, None, Contains, refl, sym, ap, subst, ◌∙◌, arith}
use Rattle.std.specs.Prelude.{option_map}
use Rattle.x86_insn.specs.declared.instruction.Insn.{Insn}
use Rattle.x86_decode.specs.Reading.{decode_of}
use Rattle.x86_decode.proofs.SpellingLaws.{decode_takes, decode_only}
use Rattle.rw_base.specs.declared.fault.Fault.TheVariants.{BadInstruction}
use Rattle.rw_base.specs.Rules.{first}
use Rattle.rw_base.proofs.First.{first_none, each-none_at}
use Rattle.rw_base.proofs.Options.{option_map-none}
use Rattle.rw_elf.specs.declared.symbol.Symbol.{Symbol}
use Rattle.rw_funcs.specs.Filled.{Fills}
use Rattle.rw_funcs.specs.Found.{found_rules}
use Rattle.rw_funcs.specs.Functions.{code_of_symbol, kept_functions}
use Rattle.rw_funcs.specs.Points.{Point, points, points_from, points_of, first_bad, bad_from, bad_address, point_rules}
use Rattle.rw_funcs.proofs.FunctionsOf.{clean-points}
use Rattle.rw_funcs.proofs.Fuel.{front_fits, no_points, rest_fits}

-- ---- bytes that spell instructions to their end

fills : (k a : ℕ) (bytes : List ℕ) → length bytes ≤ k → first_bad k a bytes ≡ None → Fills (points k a bytes) a bytes
fills zero a [] few good = refl
fills zero a (b ∷ bs) few good = absurd (omega (arith, few))
fills (suc k) a [] few good = subst (λ ps. Fills ps a []) (sym (no_points (suc k) a)) refl
fills (suc k) a (b ∷ bs) few good = by_option (λ c rest short fine. fills k c rest short fine) (decode_of a (b ∷ bs)) refl good
  where
    by_option : ((c : ℕ) (rest : List ℕ) → length rest ≤ k → first_bad k c rest ≡ None → Fills (points k c rest) c rest) → (o : Option (Insn ℕ × ℕ)) → decode_of a (b ∷ bs) ≡ o
        → bad_from (first_bad k) a (b ∷ bs) o ≡ None → Fills (points_from k a (b ∷ bs) o (points k)) a (b ∷ bs)
    by_option others None e h = absurd (cc)
    by_option others (Some d) e h =
        let takes = decode_takes a (b ∷ bs) d.0 d.1 e in
        (refl, takes.0, takes.1, others (a + d.1) (drop d.1 (b ∷ bs)) (rest_fits a (b ∷ bs) d k e few) h)

-- and there is no other such list
fills-one : (ps : List Point) (k a : ℕ) (bytes : List ℕ) → length bytes ≤ k → Fills ps a bytes → ps ≡ points k a bytes
fills-one [] k a bytes few none = sym (ap (points k a) none ∙ no_points k a)
fills-one (p ∷ ps) zero a bytes few h =
    let fits = front_fits a bytes (p.insn, p.len) (decode_only a bytes p.insn p.len h.1 h.2) in
    let some = fits.0 in
    let short = fits.1 in
    absurd (omega (arith, some, short, few))
fills-one (p ∷ ps) (suc k) a bytes few h =
    let found = decode_only a bytes p.insn p.len h.1 h.2 in
    let rest = fills-one ps k (a + p.len) (drop p.len bytes) (rest_fits a bytes (p.insn, p.len) k found few) h.3 in
    let head : p ≡ record { place = a; insn = p.insn; len = p.len } = ap (λ b. record { place = b; insn = p.insn; len = p.len }) h.0 in
    ap (λ q. q ∷ ps) head ∙ ap (λ qs. record { place = a; insn = p.insn; len = p.len } ∷ qs) rest
    ∙ ap (λ o. points_from k a bytes o (points k)) (sym found)

-- ---- functions

good-function : (bytes : List ℕ) (f : Symbol) → first (point_rules bytes) ≡ None → Contains (kept_functions bytes) f → bad_address bytes f ≡ None
unfolding point_rules
good-function bytes f good here =
    option_map-none BadInstruction (bad_address bytes f) (each-none_at (kept_functions bytes) (λ k g. option_map BadInstruction (bad_address bytes g)) f (first_none _ None good) here)

pub filled : (bytes : List ℕ) (f : Symbol) → first (found_rules bytes) ≡ None → Contains (kept_functions bytes) f → Fills (points_of bytes f) f.value (code_of_symbol bytes f)
unfolding points_of bad_address
filled bytes f clean here =
    fills (length (code_of_symbol bytes f)) f.value (code_of_symbol bytes f) (omega arith) (good-function bytes f (clean-points bytes clean) here)

pub filled-one : (bytes : List ℕ) (f : Symbol) (ps : List Point) → Fills ps f.value (code_of_symbol bytes f) → ps ≡ points_of bytes f
unfolding points_of
filled-one bytes f ps h = fills-one ps (length (code_of_symbol bytes f)) f.value (code_of_symbol bytes f) (omega arith) h
