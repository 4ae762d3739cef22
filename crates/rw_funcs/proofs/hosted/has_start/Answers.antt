use Rattle.std.proofs.Common.{◌≡◌, false, nat_lt, length, ltb, rules, ◌∙◌, arith}
use Rattle.std.proofs.lemmas.Bool.Decides.{nat_tests}
use Rattle.std.proofs.lemmas.List.Sorted.{IsPartitionPoint-from_clause, IsPartitionedBy-ltb}
use Rattle.rw_elf.specs.declared.symbol.Symbol.{Symbol}
use Rattle.rw_elf.specs.Symbols.{null_symbol}
use Rattle.rw_funcs.proofs.Ranges.{SplitsAt, start-found, start-past}
use Rattle.rw_funcs.proofs.hosted.has_start.Goals as goal

pub returns-then-next-list : goal.returns-then-next-list
returns-then-next-list c =
    let point = IsPartitionPoint-from_clause (λ (s : Symbol). ltb s.value c.args.address) _ _ c.partition_point-next.ensures.partitioned (IsPartitionedBy-ltb (λ (s : Symbol). s.value) _ c.args.address c.requires) (λ a r q k. search rules) in
    let at : SplitsAt c.args.list.now c.args.address c.partition_point-next.result = record {
      below = λ k d low within. let one = point.0 k d (omega arith) low in grind (arith, nat_tests);
      above = λ k d high within. let one = point.1 k d high within in grind (arith, nat_tests);
    } in
    c.starts_at.ensures ∙ start-found c.args.list.now c.args.address c.partition_point-next.result null_symbol c.requires at (omega arith)

pub returns-else-next-list : goal.returns-else-next-list
returns-else-next-list c =
    let point = IsPartitionPoint-from_clause (λ (s : Symbol). ltb s.value c.args.address) _ _ c.partition_point-next.ensures.partitioned (IsPartitionedBy-ltb (λ (s : Symbol). s.value) _ c.args.address c.requires) (λ a r q k. search rules) in
    let at : SplitsAt c.args.list.now c.args.address c.partition_point-next.result = record {
      below = λ k d low within. let one = point.0 k d (omega arith) low in grind (arith, nat_tests);
      above = λ k d high within. let one = point.1 k d high within in grind (arith, nat_tests);
    } in
    let past = c.if-next-list.false in
    let none : nat_lt c.partition_point-next.result (length c.args.list.now) ≡ false = grind (arith, nat_tests) in
    none ∙ start-past c.args.list.now c.args.address c.partition_point-next.result at (omega arith)
