-- Numbers of at most seven bytes.
use Rattle.std.proofs.Common.{ℕ, ◌+◌, ◌*◌, ◌^◌, ◌<◌, ◌≤◌, arith, lit<}
use Rattle.std.proofs.Math.Nat.{pow-le-pow_right}

-- one byte more than k fits eight
pub seven_bytes : (n k : ℕ) → n < 256 ^ k → k + 1 ≤ 8 → 256 * n + 255 < 2 ^ 64
seven_bytes n k below h =
    let short : k ≤ 7 = omega arith in
    let top : 256 ^ k ≤ 256 ^ 7 = pow-le-pow_right (lit< tt) short in
    omega arith
