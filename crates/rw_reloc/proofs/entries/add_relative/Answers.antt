use Rattle.std.proofs.Common.{◌≡◌, ◌++◌, [], ◌∷◌, arith, sym, ap, ◌∙◌, append_assoc, map, get_or}
use Rattle.std.proofs.lemmas.List.FromFn.{map-range_with_len_more}
use Rattle.std.specs.List.{range_with_len}
use Rattle.rw_reloc.specs.Relr.{relative_at, relative_entry}
use Rattle.rw_reloc.proofs.entries.add_relative.Goals as goal

pub loop-index-preserved : goal.loop-index-preserved
loop-index-preserved c =
    let made : c.relative_entry.result ≡ relative_at c.args.elf.now c.args.table.now c.loop-index.index =
    c.relative_entry.ensures ∙ ap (λ ws. relative_entry c.args.elf.now c.args.table.now (get_or ws c.loop-index.index 0) c.loop-index.index) c.requires in
    c.in_ok-push.ensures.items
    ∙ ap (λ xs. xs ++ c.relative_entry.result ∷ []) c.loop-index.invariant
    ∙ ap (λ e. (c.args.list.now.items ++ map (relative_at c.args.elf.now c.args.table.now) (range_with_len 0 c.loop-index.index)) ++ e ∷ []) made
    ∙ append_assoc c.args.list.now.items (map (relative_at c.args.elf.now c.args.table.now) (range_with_len 0 c.loop-index.index)) (relative_at c.args.elf.now c.args.table.now c.loop-index.index ∷ [])
    ∙ ap (λ xs. c.args.list.now.items ++ xs) (sym (map-range_with_len_more (relative_at c.args.elf.now c.args.table.now) 0 c.loop-index.index c.loop-index.index (omega arith)))
