-- Where the regions lie that come during a run.
use Rattle.std.proofs.Common.{◌≡◌, ◌≤◌, ◌<◌, ◌+◌, ◌-◌, ◌%◌, ◌*◌, ℕ, refl, arith, lit<, List, [], ◌∷◌, ◌++◌}
use Rattle.std.proofs.lemmas.Nat.{mod_below}
use Rattle.std.specs.Prelude.{All, sum}
use Rattle.std.proofs.lemmas.List.Sums.{sum_by-cons, sum_by_push}
use Rattle.std.proofs.lemmas.List.Elements.{All-head, All-tail}
use Rattle.rw_sim.specs.Fresh.{first_fresh_base, base_behind, base_from, fresh_base}

-- behind a region there are 16 bytes at least, and 31 at most, up to the next multiple of 16
pub behind-low : (base size : ℕ) → base + size + 16 ≤ base_behind base size
behind-low base size = omega arith

pub behind-high : (base size : ℕ) → base_behind base size ≤ base + size + 31
behind-high base size = let lt : (16 - (base + size + 16) % 16) % 16 < 16 = mod_below (16 - (base + size + 16) % 16) 16 (lit< tt) in omega (arith, lt)

pub behind-aligned : (base size : ℕ) → base_behind base size % 16 ≡ 0
behind-aligned base size = omega arith

from-low : (base : ℕ) (sizes : List ℕ) → base ≤ base_from base sizes
from-low base [] = omega arith
from-low base (size ∷ sizes) = let low = behind-low base size in let more = from-low (base_behind base size) sizes in omega (arith, low, more)

from-aligned : (base : ℕ) (sizes : List ℕ) → base % 16 ≡ 0 → base_from base sizes % 16 ≡ 0
from-aligned base [] e = e
from-aligned base (size ∷ sizes) e = from-aligned (base_behind base size) sizes (behind-aligned base size)

from-high : (base : ℕ) (sizes : List ℕ) → All (λ size. 1 ≤ size) sizes → base_from base sizes ≤ base + 32 * sum sizes
from-high base [] all = omega arith
from-high base (size ∷ sizes) all =
    let some : 1 ≤ size = All-head (λ size. 1 ≤ size) size sizes all in
    let high : base_behind base size ≤ base + size + 31 = behind-high base size in
    let more : base_from base (size ∷ sizes) ≤ base_behind base size + 32 * sum sizes = from-high (base_behind base size) sizes (All-tail (λ size. 1 ≤ size) size sizes all) in
    let total : sum (size ∷ sizes) ≡ size + sum sizes = sum_by-cons (λ n. n) size sizes in
    omega (arith, some, high, more, total)

pub sum-one : (sizes : List ℕ) (size : ℕ) → sum (sizes ++ size ∷ []) ≡ sum sizes + size
sum-one sizes size = sum_by_push (λ n. n) sizes size

pub from-append : (base : ℕ) (before behind : List ℕ) → base_from base (before ++ behind) ≡ base_from (base_from base before) behind
from-append base [] behind = refl
from-append base (size ∷ before) behind = from-append (base_behind base size) before behind

pub fresh-from : (sizes : List ℕ) → first_fresh_base ≤ fresh_base sizes
fresh-from sizes = from-low first_fresh_base sizes

pub fresh-aligned : (sizes : List ℕ) → fresh_base sizes % 16 ≡ 0
fresh-aligned sizes = from-aligned first_fresh_base sizes refl

pub fresh-up_to : (sizes : List ℕ) → All (λ size. 1 ≤ size) sizes → fresh_base sizes ≤ first_fresh_base + 32 * sum sizes
fresh-up_to sizes all = from-high first_fresh_base sizes all

pub fresh-apart : (before : List ℕ) (size : ℕ) (behind : List ℕ) → fresh_base before + size + 16 ≤ fresh_base (before ++ size ∷ behind)
fresh-apart before size behind =
    let is = from-append first_fresh_base before (size ∷ behind) in
    let low = behind-low (fresh_base before) size in
    let more = from-low (base_behind (fresh_base before) size) behind in
    omega (arith, is, low, more)
