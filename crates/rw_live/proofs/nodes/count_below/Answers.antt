use Rattle.std.proofs.Common.{ltb, rules, arith, ℕ}
use Rattle.std.proofs.lemmas.Bool.Decides.{nat_tests}
use Rattle.std.proofs.lemmas.Option.{slice_get_within, get_or_from_slice_get}
use Rattle.std.proofs.lemmas.List.Sorted.{IsPartitionPoint-from_clause, IsPartitionedBy-ltb}
use Rattle.rw_live.proofs.nodes.count_below.Goals as goal

pub returns-clause-counts : goal.returns-clause-counts
returns-clause-counts c = λ ascend.
    let point = IsPartitionPoint-from_clause (λ (o : ℕ). ltb o c.args.offset) _ _ c.partition_point.ensures.partitioned (IsPartitionedBy-ltb (λ (o : ℕ). o) _ c.args.offset ascend) (λ a r q k. search rules) in
    record {
      below = λ k o low at. let within = slice_get_within c.args.offsets.now k o at in let one = point.0 k o (omega arith) low in let is = get_or_from_slice_get c.args.offsets.now k o o at in grind (arith, nat_tests);
      above = λ k o high at. let one = point.1 k o high (slice_get_within c.args.offsets.now k o at) in let is = get_or_from_slice_get c.args.offsets.now k o o at in grind (arith, nat_tests);
    }
