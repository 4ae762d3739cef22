use Rattle.std.proofs.Common.{ltb, rules, arith}
use Rattle.std.proofs.lemmas.Bool.Decides.{nat_tests}
use Rattle.std.proofs.lemmas.List.Sorted.{IsPartitionPoint-from_clause, IsPartitionedBy-ltb}
use Rattle.rw_base.proofs.places.count_before.Goals as goal

pub returns : goal.returns
returns c =
    let point = IsPartitionPoint-from_clause (λ place. ltb place c.args.at) _ _ c.partition_point.ensures.partitioned (IsPartitionedBy-ltb (λ x. x) _ c.args.at c.requires) (λ a r q k. search rules) in
    record {
      before = λ k low. let one = point.0 k 0 (omega arith) low in grind (arith, nat_tests);
      after = λ k low high. let one = point.1 k 0 low high in grind (arith, nat_tests);
    }
