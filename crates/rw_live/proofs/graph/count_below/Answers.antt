use Rattle.std.proofs.Common.{ltb, rules, arith}
use Rattle.std.proofs.lemmas.Bool.Decides.{nat_tests}
use Rattle.std.proofs.lemmas.Option.{slice_get_within, get_or_from_slice_get}
use Rattle.std.proofs.lemmas.List.Sorted.{IsPartitionPoint-from_clause, IsPartitionedBy-ltb}
use Rattle.rw_live.specs.declared.graph.Jump.{Jump}
use Rattle.rw_live.proofs.graph.count_below.Goals as goal

pub returns : goal.returns
returns c =
    let point = IsPartitionPoint-from_clause (λ (j : Jump). ltb j.to c.args.to) _ _ c.partition_point.ensures.partitioned (IsPartitionedBy-ltb (λ (j : Jump). j.to) _ c.args.to c.requires) (λ a r q k. search rules) in
    record {
      within = c.partition_point.ensures.bound;
      below = λ k j low at. let within = slice_get_within c.args.jumps.now k j at in let one = point.0 k j (omega arith) low in let is = get_or_from_slice_get c.args.jumps.now k j j at in grind (arith, nat_tests);
      above = λ k j high at. let one = point.1 k j high (slice_get_within c.args.jumps.now k j at) in let is = get_or_from_slice_get c.args.jumps.now k j j at in grind (arith, nat_tests);
    }
