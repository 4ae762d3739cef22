use Rattle.std.proofs.Common.{rules}
use Rattle.std.proofs.lemmas.List.Sorted.{answers_always}
use Rattle.rw_reloc.specs.declared.entry.Entry.{Entry}
use Rattle.rw_reloc.proofs.ByOffset.{by_offset-sort}
use Rattle.rw_reloc.proofs.entries.sort_by_offset.Goals as goal

pub returns : goal.returns
returns c =
    by_offset-sort _ _ c.requires c.in_ok-sort_by_key.ensures.permutation
    (c.in_ok-sort_by_key.ensures.sorted (λ (e : Entry). (e.offset, e.table, e.index)) (answers_always _ _ _ (λ f a r g h. search rules)))
