use Rattle.std.proofs.Common.{List, ℕ, map, ap, ◌∙◌, arith}
use Rattle.std.specs.Prelude.{flat_map}
use Rattle.std.specs.List.{fold}
use Rattle.asm_items.specs.Names.{with_name}
use Rattle.asm_items.specs.declared.item.Item.{Item}
use Rattle.asm_items.specs.declared.item.Item.TheVariants.{Weak}
use Rattle.rw_elf.specs.declared.section.NameAt.{NameAt}
use Rattle.rw_elf.specs.declared.symbol.Symbol.{Symbol}
use Rattle.rw_elf.specs.Name.{name_bytes}
use Rattle.rw_out.specs.Items.{weak_items, weakly_used}
use Rattle.rw_out.specs.Plan.{item_names}
use Rattle.rw_out.proofs.Appearance.{names-whole}
use Rattle.rw_out.proofs.Rests.{twice_mapped}
use Rattle.rw_out.proofs.naming.add_weak.Goals as goal

pub returns : goal.returns
unfolding weak_items
returns c = λ probes is.
    let file = c.args.picture.now in
    let shown : NameAt → Item (List ℕ) = λ n. Weak (name_bytes file n) in
    let listed = ap (map shown) is ∙ twice_mapped shown (λ (s : Symbol). s.name) (weakly_used file probes) in
    c.loop-name.invariant
    ∙ (names-whole shown c.args.weak.now c.loop-name.name-index c.args.names.now (omega arith) ∙ ap (λ items. fold with_name c.args.names.now (flat_map item_names items)) listed)
