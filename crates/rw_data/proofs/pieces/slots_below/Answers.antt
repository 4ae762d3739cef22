use Rattle.std.proofs.Common.{ltb, rules, arith}
use Rattle.std.proofs.lemmas.Bool.Decides.{nat_tests}
use Rattle.std.proofs.lemmas.Option.{slice_get_within, get_or_from_slice_get}
use Rattle.std.proofs.lemmas.List.Sorted.{IsPartitionPoint-from_clause, IsPartitionedBy-ltb}
use Rattle.rw_reloc.specs.declared.slot.Slot.{Slot}
use Rattle.rw_reloc.proofs.Search.{slots_ascend}
use Rattle.rw_data.proofs.pieces.slots_below.Goals as goal

pub returns : goal.returns
returns c =
    let point = IsPartitionPoint-from_clause (λ (t : Slot). ltb t.address c.args.address) _ _ c.partition_point.ensures.partitioned (IsPartitionedBy-ltb (λ (t : Slot). t.address) _ c.args.address (slots_ascend c.args.slots.now c.requires)) (λ a r q k. search rules) in
    record {
      within = c.partition_point.ensures.bound;
      before = λ k t low at. let within = slice_get_within c.args.slots.now k t at in let one = point.0 k t (omega arith) low in let is = get_or_from_slice_get c.args.slots.now k t t at in grind (arith, nat_tests);
      after = λ k t high at. let one = point.1 k t high (slice_get_within c.args.slots.now k t at) in let is = get_or_from_slice_get c.args.slots.now k t t at in grind (arith, nat_tests);
    }
