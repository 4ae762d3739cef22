use Rattle.std.proofs.Common.{◌≡◌, false, nat_lt, length, rules, ◌∙◌, arith}
use Rattle.std.proofs.lemmas.Bool.Decides.{nat_tests}
use Rattle.std.proofs.lemmas.List.Sorted.{IsPartitionPoint-from_clause}
use Rattle.rw_elf.specs.declared.symbol.Symbol.{Symbol}
use Rattle.rw_elf.specs.Symbols.{null_symbol}
use Rattle.rw_funcs.specs.Functions.{comes_before}
use Rattle.rw_funcs.proofs.Ranges.{SplitsBefore, range-found, range-past, splits}
use Rattle.rw_funcs.proofs.hosted.has_range.Goals as goal

pub returns-then-next-list : goal.returns-then-next-list
returns-then-next-list c =
    let point = IsPartitionPoint-from_clause (λ (s : Symbol). comes_before s c.args.function.now) _ _ c.partition_point-next.ensures.partitioned (splits _ c.args.function.now c.requires) (λ a r q k. search rules) in
    let at : SplitsBefore c.args.list.now c.args.function.now c.partition_point-next.result = record {
      below = λ k d low within. point.0 k d (omega arith) low;
      above = λ k d high within. point.1 k d high within;
    } in
    c.same_range.ensures ∙ range-found c.args.list.now c.args.function.now c.partition_point-next.result null_symbol c.requires at (omega arith)

pub returns-else-next-list : goal.returns-else-next-list
returns-else-next-list c =
    let point = IsPartitionPoint-from_clause (λ (s : Symbol). comes_before s c.args.function.now) _ _ c.partition_point-next.ensures.partitioned (splits _ c.args.function.now c.requires) (λ a r q k. search rules) in
    let at : SplitsBefore c.args.list.now c.args.function.now c.partition_point-next.result = record {
      below = λ k d low within. point.0 k d (omega arith) low;
      above = λ k d high within. point.1 k d high within;
    } in
    let past = c.if-next-list.false in
    let none : nat_lt c.partition_point-next.result (length c.args.list.now) ≡ false = grind (arith, nat_tests) in
    none ∙ range-past c.args.list.now c.args.function.now c.partition_point-next.result at (omega arith)
