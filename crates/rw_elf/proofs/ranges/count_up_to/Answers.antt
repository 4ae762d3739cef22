use Rattle.std.proofs.Common.{leb, rules, arith}
use Rattle.std.proofs.lemmas.Bool.Decides.{nat_tests}
use Rattle.std.proofs.lemmas.Option.{slice_get_within, get_or_from_slice_get}
use Rattle.std.proofs.lemmas.List.Sorted.{IsPartitionPoint-from_clause, IsPartitionedBy-leb}
use Rattle.rw_elf.proofs.ranges.count_up_to.Goals as goal

pub returns : goal.returns
returns g c =
    let point = IsPartitionPoint-from_clause (λ s. leb (g.T.Ranged.start_of s) c.args.address) _ _ c.partition_point.ensures.partitioned (IsPartitionedBy-leb g.T.Ranged.start_of _ c.args.address c.requires) (λ a r q k. search rules) in
    record {
      within = c.partition_point.ensures.bound;
      below = λ k s low at. let one = point.0 k s (omega arith) low in let is = get_or_from_slice_get c.args.items.now k s s at in grind (arith, nat_tests);
      above = λ k s high at. let one = point.1 k s high (slice_get_within c.args.items.now k s at) in let is = get_or_from_slice_get c.args.items.now k s s at in grind (arith, nat_tests);
    }
