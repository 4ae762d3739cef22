use Rattle.std.proofs.Common.{rules}
use Rattle.std.proofs.lemmas.List.Sorted.{answers_always}
use Rattle.rw_elf.specs.declared.symbol.Symbol.{Symbol}
use Rattle.rw_funcs.specs.Functions.{end_of}
use Rattle.rw_funcs.proofs.Order.{comes_before-sort}
use Rattle.rw_funcs.proofs.symbols.sort_by_range.Goals as goal

pub returns : goal.returns
returns c =
    comes_before-sort _ _ c.in_ok-sort_by_key.ensures.permutation
    (c.in_ok-sort_by_key.ensures.sorted (λ (f : Symbol). (f.value, end_of f)) (answers_always _ _ _ (λ f a r g h. search rules)))
    (c.in_ok-sort_by_key.ensures.stable (λ (f : Symbol). (f.value, end_of f)) (answers_always _ _ _ (λ f a r g h. search rules)))
