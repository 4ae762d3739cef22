use Rattle.std.proofs.Common.{arith, get_or}
use Rattle.std.proofs.lemmas.Grind.{common_steps}
use Rattle.std.proofs.lemmas.Option.{slice_get-get_or}
use Rattle.std.proofs.lemmas.Result.{err_from_is_err_and}
use Rattle.rw_base.specs.declared.fault.Fault.TheVariants.{BadRelocPlace}
use Rattle.rw_base.proofs.First.{each-none, each-some, each-more}
use Rattle.rw_reloc.specs.Entries.{null_entry}
use Rattle.rw_reloc.specs.Relocations.{entry_finding, entry_faults}
use Rattle.rw_reloc.proofs.check.check_entries.Goals as goal
use Rattle.rw_reloc.proofs.check.check_entries.Goals.{else-place-gt0-via-then-place-gt0+else-reaches, else-place-gt0-via-else-place-gt0}

pub returns-in_err-check_entry : goal.returns-in_err-check_entry
unfolding entry_faults
returns-in_err-check_entry c =
    let p = err_from_is_err_and c.from_residual.result c.from_residual.ensures.1 in
    rw (p.1, p.2, ← c.requires.list)
    (each-some c.args.list.now (entry_finding c.args.elf.now c.args.list.now) c.loop-place.place null_entry _ (omega arith) c.loop-place.invariant (grind (arith, common_steps)))

pub returns-then-reaches : goal.returns-then-reaches
unfolding entry_faults
returns-then-reaches c =
    rw (← c.requires.list)
    (each-some c.args.list.now (entry_finding c.args.elf.now c.args.list.now) c.loop-place.place null_entry (BadRelocPlace (get_or c.args.list.now c.loop-place.place null_entry).offset) (omega arith) c.loop-place.invariant (grind (arith, common_steps, slice_get-get_or)))

pub loop-place-preserved : goal.loop-place-preserved
loop-place-preserved c =
    each-more c.args.list.now (entry_finding c.args.elf.now c.args.list.now) c.loop-place.place null_entry (omega arith) c.loop-place.invariant
    (elim c.else-place-gt0.branch [ else-place-gt0-via-then-place-gt0+else-reaches w ↦ grind (arith, common_steps, slice_get-get_or) | else-place-gt0-via-else-place-gt0 w ↦ grind (arith, common_steps, slice_get-get_or) ])

pub returns : goal.returns
unfolding entry_faults
returns c =
    rw (← c.requires.list)
    (each-none c.args.list.now (entry_finding c.args.elf.now c.args.list.now) c.loop-place.place (omega arith) c.loop-place.invariant)
