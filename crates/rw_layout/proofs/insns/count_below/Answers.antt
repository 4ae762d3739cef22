use Rattle.std.proofs.Common.{ℕ, ltb, slice_index, rules, arith}
use Rattle.std.proofs.lemmas.Bool.Decides.{nat_tests}
use Rattle.std.proofs.lemmas.List.Sorted.{IsPartitionPoint-from_clause, IsPartitionedBy-ltb}
use Rattle.rw_layout.proofs.insns.count_below.Goals as goal

pub returns : goal.returns
returns c =
    let point = IsPartitionPoint-from_clause (λ (q : ℕ). ltb (slice_index c.args.addresses.now q) c.args.address) _ _ c.partition_point.ensures.partitioned (IsPartitionedBy-ltb (λ (q : ℕ). slice_index c.args.addresses.now q) _ c.args.address c.requires) (λ a r q k. search rules) in
    record {
      within = c.partition_point.ensures.bound;
      below = λ k low. let one = point.0 k 0 (omega (arith, c.partition_point.ensures.bound, low)) low in grind (arith, nat_tests);
      above = λ k high within. let one = point.1 k 0 high within in grind (arith, nat_tests);
    }
