-- The steps with a cost at some points: one for each, and the cost as often as they were entered.
use Rattle.std.proofs.Common.{◌≡◌, ℕ, zero, suc, ◌+◌, ◌*◌, Some, Bool, true, false, cond, sym, ap, ◌∙◌, arith}
use Rattle.rw_machine.specs.Program.{Program, Domains}
use Rattle.rw_runs.specs.Runs.{Run, made, cost_of, total, visit, entered, cost_at}
use Rattle.rw_runs.proofs.Made.{made-before}

once : (n k e : ℕ) (t : Bool) → n + k * e + suc (cond t k 0) ≡ suc n + k * (e + cond t 1 0)
once n k e true = grind arith
once n k e false = grind arith

module _ {D V C P R : Type 0} (dom : Domains D V C) (prog : Program P R V) (is_there : P → Bool) (k : ℕ) (run : Run D V C P) where
  pub total-counts : (n : ℕ) (last : Run D V C P) → made dom prog n run ≡ Some last → total dom prog (cost_at is_there k) n run ≡ n + k * entered dom prog is_there n run
  total-counts zero last e = let z : 0 + k * 0 ≡ 0 = grind arith in sym z
  total-counts (suc n) last e =
      let before = made-before dom prog n run last e in
      let t = is_there before.0.machine.point in
      ap (λ x. x + cost_of dom prog (cost_at is_there k) (made dom prog n run)) (total-counts n before.0 before.1)
      ∙ ap (λ o. n + k * entered dom prog is_there n run + cost_of dom prog (cost_at is_there k) o) before.1
      ∙ once n k (entered dom prog is_there n run) t
      ∙ ap (λ o. suc n + k * (entered dom prog is_there n run + visit dom prog is_there o)) (sym before.1)
