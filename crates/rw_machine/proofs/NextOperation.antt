-- Lists of small operations.
use Rattle.std.proofs.Common.{ℕ, List, length, ◌≡◌, ◌<◌, ◌+◌, ◌∙◌, ap, sym, drop, drop-cons, add-one}
use Rattle.std.proofs.Math.ListN.{get_or}
use Rattle.x86_meaning.specs.declared.operations.Micro.{Micro}
use Rattle.rw_domain.specs.Operators.{Operators}
use Rattle.rw_machine.specs.Running.{Running, Here, after, after_all}

pub after_next : {V C : Type 0} (ops : Operators V C) (rows : List (List C)) (here : Here V) (list : List Micro) (i : ℕ) (d : Micro) (r all : Running V) → i < length list
    → after_all ops rows here (drop i list) r ≡ all → after_all ops rows here (drop (i + 1) list) (after ops rows here (get_or list i d) r) ≡ all
after_next ops rows here list i d r all below e =
    rw add-one (sym (ap (λ l. after_all ops rows here l r) (drop-cons list i d below)) ∙ e)
