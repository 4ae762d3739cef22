-- A second machine that makes several steps for each of the first, as a printed program with probes does.
use Rattle.std.proofs.Common.{◌≡◌, ℕ, zero, suc, Option, Some, None, refl, sym, subst}
use Rattle.std.specs.Prelude.{option_and_then}
use Rattle.rw_machine.specs.Program.{Program, Domains}
use Rattle.rw_runs.specs.Runs.{Run, advance, made, cost_of, total}
use Rattle.rw_runs.specs.RunStands.{RunFollows}
use Rattle.rw_runs.proofs.Made.{made-more}

module _ {D T V U E F A G P O : Type 0} (S : Domains D V E) (N : Domains T U F) (c : Program P A V) (d : Program O G U) (X : Run D V E P → Run T U F O → Type 0) (cost : Run D V E P → ℕ)
    (one : (r : Run D V E P) (q : Run T U F O) → X r q → RunFollows X (advance S c r) (made N d (suc (cost r)) q)) where
  one_block : (a : Option (Run D V E P)) (b : Option (Run T U F O)) → RunFollows X a b → RunFollows X (option_and_then (advance S c) a) (option_and_then (made N d (cost_of S c cost a)) b)
  one_block None b h = tt
  one_block (Some r) None h = absurd h
  one_block (Some r) (Some q) h = one r q h

  pub made-blocks : (n : ℕ) (r : Run D V E P) (q : Run T U F O) → X r q → RunFollows X (made S c n r) (made N d (total S c cost n r) q)
  made-blocks zero r q h = h
  made-blocks (suc n) r q h =
      subst (λ o. RunFollows X (option_and_then (advance S c) (made S c n r)) o) (sym (made-more N d (total S c cost n r) (cost_of S c cost (made S c n r)) q))
      (one_block (made S c n r) (made N d (total S c cost n r) q) (made-blocks n r q h))

-- a run that was made is followed by one for which it stands
pub from-follows : {S T : Type 0} (X : S → T → Type 0) (a : Option S) (b : Option T) (s : S) → RunFollows X a b → a ≡ Some s → (t : T) × (b ≡ Some t) × X s t
from-follows X None b s h e = cc
from-follows X (Some r) None s h e = absurd h
from-follows X (Some r) (Some t) s h e = (t, refl, (let same : r ≡ s = cc in subst (λ v. X v t) same h))
