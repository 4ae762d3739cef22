use Rattle.std.proofs.Common.{◌≡◌, ℕ, List, [], subst}
use Rattle.std.specs.Prelude.{IfOk, Ok, Result}
use Rattle.asm_items.specs.Layout as place
use Rattle.rw_layout.specs.Places.{IsLaidBy, Laid}
use Rattle.rw_layout.specs.Program.{Numbered, shown}
use Rattle.rw_layout.specs.Rule.{layout_of}
use Rattle.rw_layout.specs.declared.laying.Order.{Order}
use Rattle.rw_layout.specs.declared.laying.Order.TheVariants.{Forward, Reverse}
use Rattle.rw_layout_tests.proofs.lines.wrong_place.Goals as goal

-- what was laid out has a layout
some-layout : {E : Type 0} (program : Numbered) (order : Order) (gap : ℕ) (outcome : Result Laid E) (laid : Laid) → outcome ≡ Ok laid
    → IfOk outcome (λ l. (sizes : List ℕ) → IsLaidBy (shown program) program.names (layout_of (shown program) order gap sizes) l)
    → (at : place.Layout) × IsLaidBy (shown program) program.names at laid
some-layout program order gap outcome laid is by =
    let each : (sizes : List ℕ) → IsLaidBy (shown program) program.names (layout_of (shown program) order gap sizes) laid =
    subst (λ o. IfOk o (λ l. (sizes : List ℕ) → IsLaidBy (shown program) program.names (layout_of (shown program) order gap sizes) l)) is by in
    (layout_of (shown program) order gap [], each [])

pub wrong_line-requires-clause-forward : goal.wrong_line-requires-clause-forward
wrong_line-requires-clause-forward g c = some-layout c.in_ok-program.program Forward 0 c.in_ok-forward.field-0 c.in-Ok.forward c.in-Ok.is c.in_ok-forward.ensures

pub wrong_line-requires-clause-reverse : goal.wrong_line-requires-clause-reverse
wrong_line-requires-clause-reverse g c = some-layout c.in_ok-program.program Reverse 4096 c.in_ok-reverse.field-0 c.in-Ok-2.reverse c.in-Ok-2.is c.in_ok-reverse.ensures

pub wrong_base-requires-clause-forward : goal.wrong_base-requires-clause-forward
wrong_base-requires-clause-forward g c = some-layout c.in_ok-program.program Forward 0 c.in_ok-forward.field-0 c.in-Ok.forward c.in-Ok.is c.in_ok-forward.ensures

pub wrong_base-requires-clause-reverse : goal.wrong_base-requires-clause-reverse
wrong_base-requires-clause-reverse g c = some-layout c.in_ok-program.program Reverse 4096 c.in_ok-reverse.field-0 c.in-Ok-2.reverse c.in-Ok-2.is c.in_ok-reverse.ensures
