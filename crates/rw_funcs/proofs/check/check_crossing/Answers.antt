use Rattle.std.proofs.Common.{arith, get_or}
use Rattle.std.proofs.lemmas.Grind.{common_steps}
use Rattle.std.proofs.lemmas.Option.{slice_get-get_or}
use Rattle.rw_base.specs.declared.fault.Fault.TheVariants.{Crosses}
use Rattle.rw_base.proofs.First.{each-none, each-some, each-more}
use Rattle.rw_elf.specs.Symbols.{null_symbol}
use Rattle.rw_funcs.specs.Functions.{crosses}
use Rattle.rw_funcs.proofs.check.check_crossing.Goals as goal
use Rattle.rw_funcs.proofs.check.check_crossing.Goals.{else-place-gt0-via-then-place-gt0+else-from-end_of, else-place-gt0-via-else-place-gt0}

pub returns-then-not-is_inside_its_section : goal.returns-then-not-is_inside_its_section
returns-then-not-is_inside_its_section c =
    each-some c.args.list.now (crosses c.args.elf.now c.args.list.now) c.loop-place.place null_symbol (Crosses (get_or c.args.list.now c.loop-place.place null_symbol).value) (omega arith) c.loop-place.invariant (grind (arith, common_steps))

pub returns-then-from-end_of : goal.returns-then-from-end_of
returns-then-from-end_of c =
    each-some c.args.list.now (crosses c.args.elf.now c.args.list.now) c.loop-place.place null_symbol (Crosses (get_or c.args.list.now c.loop-place.place null_symbol).value) (omega arith) c.loop-place.invariant (grind (arith, common_steps, slice_get-get_or))

pub loop-place-preserved : goal.loop-place-preserved
loop-place-preserved c =
    each-more c.args.list.now (crosses c.args.elf.now c.args.list.now) c.loop-place.place null_symbol (omega arith) c.loop-place.invariant
    (elim c.else-place-gt0.branch [ else-place-gt0-via-then-place-gt0+else-from-end_of w ↦ grind (arith, common_steps, slice_get-get_or) | else-place-gt0-via-else-place-gt0 w ↦ grind (arith, common_steps, slice_get-get_or) ])

pub returns : goal.returns
returns c = each-none c.args.list.now (crosses c.args.elf.now c.args.list.now) c.loop-place.place (omega arith) c.loop-place.invariant
