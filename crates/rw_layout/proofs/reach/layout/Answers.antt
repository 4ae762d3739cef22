use Rattle.std.proofs.Common.{◌≡◌, ℕ, ◌-◌, [], ap, subst, arith}
use Rattle.std.specs.Int.{w64, cast_signed as to_z, cast_unsigned as of_z}
use Rattle.asm_items.specs.Lines.{counters_number}
use Rattle.rw_layout.specs.Looked.{IsFarLine, IsFirstFar}
use Rattle.rw_layout.specs.Places.{IsLaidBy}
use Rattle.rw_layout.specs.Program.{shown}
use Rattle.rw_layout.specs.Rule.{layout_of}
use Rattle.rw_layout.proofs.DistanceFacts.{far-again, far-first, none-far}
use Rattle.rw_layout.proofs.reach.layout.Goals as goal

pub overflow_sub-counters : goal.overflow_sub-counters
overflow_sub-counters c = let count = (c.in-Ok.ensures []).count in omega (arith, count, c.regions-counters.ensures)

pub returns-in-Some-clause-refused : goal.returns-in-Some-clause-refused
returns-in-Some-clause-refused c = λ sizes.
    let text = c.args.program.now in
    let by = subst (λ g. IsLaidBy (shown c.args.program.now) c.args.program.now.names (layout_of (shown c.args.program.now) c.args.order g sizes) c.in-Ok.layout) c.from.ensures (c.in-Ok.ensures sizes) in
    let counters : c.regions-counters.result - 1 ≡ counters_number (shown text) = omega (arith, by.count, c.regions-counters.ensures) in
    let first = far-again c.in-Ok.layout (c.regions-counters.result - 1) c.text.result.now.items.items c.in-Some.symbol c.in-Some.distance c.in-Some.ensures.found in
    let lines = ap (λ t. t.items) c.text.ensures.text in
    far-first text c.text.ensures.formed c.text.ensures.program c.args.order c.args.gap sizes c.in-Ok.layout by c.in-Some.symbol (to_z w64 (of_z w64 c.in-Some.distance))
    (subst (λ n. IsFirstFar c.in-Ok.layout n text.items c.in-Some.symbol (to_z w64 (of_z w64 c.in-Some.distance))) counters
    (subst (λ xs. IsFirstFar c.in-Ok.layout (c.regions-counters.result - 1) xs c.in-Some.symbol (to_z w64 (of_z w64 c.in-Some.distance))) lines first))

pub returns-in-None-clause-laid : goal.returns-in-None-clause-laid
returns-in-None-clause-laid c = λ sizes. subst (λ g. IsLaidBy (shown c.args.program.now) c.args.program.now.names (layout_of (shown c.args.program.now) c.args.order g sizes) c.in-Ok.layout) c.from.ensures (c.in-Ok.ensures sizes)

pub returns-in-None-clause-reach : goal.returns-in-None-clause-reach
returns-in-None-clause-reach c = λ sizes.
    let text = c.args.program.now in
    let by = subst (λ g. IsLaidBy (shown c.args.program.now) c.args.program.now.names (layout_of (shown c.args.program.now) c.args.order g sizes) c.in-Ok.layout) c.from.ensures (c.in-Ok.ensures sizes) in
    let counters : c.regions-counters.result - 1 ≡ counters_number (shown text) = omega (arith, by.count, c.regions-counters.ensures) in
    let none = c.first_far.ensures.none c.in-None.is in
    let lines = ap (λ t. t.items) c.text.ensures.text in
    none-far text c.text.ensures.formed c.text.ensures.program c.args.order c.args.gap sizes c.in-Ok.layout by
    (subst (λ n. (p : ℕ) → IsFarLine c.in-Ok.layout n text.items p → ⊥) counters (subst (λ xs. (p : ℕ) → IsFarLine c.in-Ok.layout (c.regions-counters.result - 1) xs p → ⊥) lines none))
