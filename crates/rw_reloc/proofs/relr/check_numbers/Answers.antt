use Rattle.std.proofs.Common.{◌+◌, ◌*◌, ◌∙◌, sym, arith, true, false}
use Rattle.rw_base.specs.declared.fault.Fault.TheVariants.{BadHeader}
use Rattle.rw_base.proofs.First.{each-more, each-none, each-some}
use Rattle.rw_reloc.specs.Relr.{number_faults, number_finding, relr_numbers}
use Rattle.rw_reloc.proofs.Numbers.{address_below, base_at-start, base_next, base_room, finding_here, number_count, number_read}
use Rattle.rw_reloc.proofs.relr.check_numbers.Goals as goal

pub loop-index-init : goal.loop-index-init
loop-index-init c = record { base = sym (base_at-start (relr_numbers c.args.bytes.now c.args.table.now)); clean = λ k low. absurd (omega (arith, low)) }

pub is_bad-requires : goal.is_bad-requires
is_bad-requires c =
    let count = number_count c.args.bytes.now c.args.table.now in
    base_room c.args.table.now (relr_numbers c.args.bytes.now c.args.table.now) c.loop-index.index c.loop-index.base (omega (arith, count)) (omega arith) c.loop-index.invariant.clean c.loop-index.invariant.base

pub returns-then-is_bad : goal.returns-then-is_bad
unfolding number_faults
returns-then-is_bad c =
    let count = number_count c.args.bytes.now c.args.table.now in
    each-some (relr_numbers c.args.bytes.now c.args.table.now) (number_finding c.args.table.now (relr_numbers c.args.bytes.now c.args.table.now)) c.loop-index.index 0 (BadHeader (c.args.table.now.offset + 8 * c.loop-index.index)) (omega (arith, count)) c.loop-index.invariant.clean
    (finding_here c.args.table.now (relr_numbers c.args.bytes.now c.args.table.now) c.loop-index.index c.loop-index.base c.u64_at-number.result true c.loop-index.invariant.base (number_read c.args.bytes.now c.args.table.now c.loop-index.index (omega arith) ∙ sym c.u64_at-number.ensures) (sym c.if-is_bad.true ∙ c.is_bad.ensures))

pub base_behind-base-requires-clause-base : goal.base_behind-base-requires-clause-base
base_behind-base-requires-clause-base c =
    let count = number_count c.args.bytes.now c.args.table.now in
    base_room c.args.table.now (relr_numbers c.args.bytes.now c.args.table.now) c.loop-index.index c.loop-index.base (omega (arith, count)) (omega arith) c.loop-index.invariant.clean c.loop-index.invariant.base

pub base_behind-base-requires-clause-number : goal.base_behind-base-requires-clause-number
base_behind-base-requires-clause-number c = address_below c.loop-index.index c.loop-index.base c.u64_at-number.result (sym c.if-is_bad.false ∙ c.is_bad.ensures)

pub loop-index-preserved : goal.loop-index-preserved
loop-index-preserved c =
    let count = number_count c.args.bytes.now c.args.table.now in
    let here = number_read c.args.bytes.now c.args.table.now c.loop-index.index (omega arith) ∙ sym c.u64_at-number.ensures in
    record {
      base = c.base_behind-base.ensures ∙ base_next (relr_numbers c.args.bytes.now c.args.table.now) c.loop-index.index c.loop-index.base c.u64_at-number.result (omega (arith, count)) c.loop-index.invariant.base here;
      clean = each-more (relr_numbers c.args.bytes.now c.args.table.now) (number_finding c.args.table.now (relr_numbers c.args.bytes.now c.args.table.now)) c.loop-index.index 0 (omega (arith, count)) c.loop-index.invariant.clean
          (finding_here c.args.table.now (relr_numbers c.args.bytes.now c.args.table.now) c.loop-index.index c.loop-index.base c.u64_at-number.result false c.loop-index.invariant.base here (sym c.if-is_bad.false ∙ c.is_bad.ensures));
    }

pub returns : goal.returns
unfolding number_faults
returns c =
    let count = number_count c.args.bytes.now c.args.table.now in
    each-none (relr_numbers c.args.bytes.now c.args.table.now) (number_finding c.args.table.now (relr_numbers c.args.bytes.now c.args.table.now)) c.loop-index.index (omega (arith, count)) c.loop-index.invariant.clean
