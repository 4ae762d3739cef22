use Rattle.std.proofs.Common.{◌+◌, ◌++◌, [], sym, ap, subst, ◌∙◌, arith}
use Rattle.std.specs.List.{cons_option}
use Rattle.rw_tables.specs.Seen.{jump_seen}
use Rattle.rw_tables.proofs.Walk.{IsAt, nth-below, nth-start, nth-end, nth-fits, walk-start, walk-next, walk-there, walk-more, walk-end}
use Rattle.rw_tables.proofs.jump.add_jumps.Goals as goal

pub loop-at-init : goal.loop-at-init
loop-at-init c =
    let bytes = c.args.functions.now in
    subst (λ a. IsAt bytes c.args.number c.args.jumps.now.items a c.nothing-seen.result c.args.jumps.now.items) (sym (nth-start bytes c.list.result.now c.args.number c.list.ensures.list c.requires))
    (walk-start bytes c.args.number c.args.jumps.now.items c.nothing-seen.result c.list.ensures.clean_file c.list.ensures.clean (nth-below bytes c.args.number c.requires) c.nothing-seen.ensures)

pub unreachable-requires : goal.unreachable-requires
unreachable-requires c =
    let end = nth-end c.args.functions.now c.list.result.now c.args.number c.list.ensures.list c.requires in
    let low = c.loop-at-test.true in
    walk-there c.args.functions.now c.args.number c.args.jumps.now.items c.loop-at.at c.loop-at.seen c.loop-at.jumps.items c.list.ensures.clean_file c.list.ensures.clean (nth-below c.args.functions.now c.args.number c.requires)
    c.loop-at.invariant (omega (arith, end, low)) (sym c.insn_at.ensures ∙ c.in_default.is)

pub overflow_add-at : goal.overflow_add-at
overflow_add-at c =
    let end = nth-end c.args.functions.now c.list.result.now c.args.number c.list.ensures.list c.requires in
    let low = c.loop-at-test.true in
    let next = walk-next c.args.functions.now c.args.number c.args.jumps.now.items c.loop-at.at c.loop-at.seen c.loop-at.jumps.items c.list.ensures.clean_file c.list.ensures.clean (nth-below c.args.functions.now c.args.number c.requires)
    c.loop-at.invariant (omega (arith, end, low)) c.in-Some.insn c.in-Some.len (sym c.insn_at.ensures ∙ c.in-Some.is) in
    let fits = nth-fits c.args.functions.now c.args.number c.list.ensures.clean_file c.list.ensures.clean c.requires in
    let high = next.1 in
    let same = c.from-at.ensures in
    omega (arith, fits, high, same)

pub loop-at-smaller : goal.loop-at-smaller
loop-at-smaller c =
    let end = nth-end c.args.functions.now c.list.result.now c.args.number c.list.ensures.list c.requires in
    let low = c.loop-at-test.true in
    let next = walk-next c.args.functions.now c.args.number c.args.jumps.now.items c.loop-at.at c.loop-at.seen c.loop-at.jumps.items c.list.ensures.clean_file c.list.ensures.clean (nth-below c.args.functions.now c.args.number c.requires)
    c.loop-at.invariant (omega (arith, end, low)) c.in-Some.insn c.in-Some.len (sym c.insn_at.ensures ∙ c.in-Some.is) in
    let some = next.0 in
    let same = c.from-at.ensures in
    omega (arith, some, low, same)

pub loop-at-preserved : goal.loop-at-preserved
loop-at-preserved c =
    let end = nth-end c.args.functions.now c.list.result.now c.args.number c.list.ensures.list c.requires in
    let low = c.loop-at-test.true in
    let more = walk-more c.args.functions.now c.args.number c.args.jumps.now.items c.loop-at.at c.loop-at.seen c.note.new.self c.loop-at.jumps.items c.list.ensures.clean_file c.list.ensures.clean (nth-below c.args.functions.now c.args.number c.requires)
    c.loop-at.invariant (omega (arith, end, low)) c.in-Some.insn c.in-Some.len (sym c.insn_at.ensures ∙ c.in-Some.is) c.note.ensures in
    subst (λ js. IsAt c.args.functions.now c.args.number c.args.jumps.now.items (c.loop-at.at + c.from-at.result) c.note.new.self js) (sym (c.in_ok-push_some.ensures ∙ ap (λ o. c.loop-at.jumps.items ++ cons_option o []) c.jump.ensures))
    (subst (λ n. IsAt c.args.functions.now c.args.number c.args.jumps.now.items (c.loop-at.at + n) c.note.new.self (c.loop-at.jumps.items ++ cons_option (jump_seen c.loop-at.seen c.loop-at.at c.in-Some.insn) [])) (sym c.from-at.ensures) more)

pub returns : goal.returns
returns c =
    let end = nth-end c.args.functions.now c.list.result.now c.args.number c.list.ensures.list c.requires in
    let high = c.loop-at-test.false in
    walk-end c.args.functions.now c.args.number c.args.jumps.now.items c.loop-at.at c.loop-at.seen c.loop-at.jumps.items c.loop-at.invariant (omega (arith, end, high))
