use Rattle.std.proofs.Common.{ltb, rules, arith}
use Rattle.std.proofs.lemmas.Bool.Decides.{nat_tests}
use Rattle.std.proofs.lemmas.Option.{slice_get_within, get_or_from_slice_get}
use Rattle.std.proofs.lemmas.List.Sorted.{IsPartitionPoint-from_clause, IsPartitionedBy-ltb}
use Rattle.rw_reloc.specs.declared.slot.Slot.{Slot}
use Rattle.rw_reloc.proofs.relocs.count_before.Goals as goal

pub returns : goal.returns
returns c =
    let point = IsPartitionPoint-from_clause (λ (s : Slot). ltb s.address c.args.address) _ _ c.partition_point.ensures.partitioned (IsPartitionedBy-ltb (λ (s : Slot). s.address) _ c.args.address c.requires) (λ a r q k. search rules) in
    record {
      before = λ k s low at. let within = slice_get_within c.args.list.now k s at in let one = point.0 k s (omega arith) low in let is = get_or_from_slice_get c.args.list.now k s s at in grind (arith, nat_tests);
      after = λ k s high at. let one = point.1 k s high (slice_get_within c.args.list.now k s at) in let is = get_or_from_slice_get c.args.list.now k s s at in grind (arith, nat_tests);
    }
