use Rattle.std.proofs.Common.{◌≡◌, Some, sym, ap, subst, ◌∙◌}
use Rattle.std.specs.Prelude.{option_map, IfSome}
use Rattle.std.specs.List.{AllByRecursion}
use Rattle.x86_insn.specs.References.{map_references, shape_of}
use Rattle.asm_items.specs.declared.item.Item.TheVariants.{Ins}
use Rattle.asm_items.specs.Named.{map_sym, name_of}
use Rattle.rw_elf.specs.Name.{name_bytes}
use Rattle.rw_out.specs.Plan.{has}
use Rattle.rw_out.proofs.Referring.{symbol-names, with-named, without-named}
use Rattle.rw_out.proofs.numbers.numbered_insn.Goals as goal

pub numbered_symbol-requires : goal.numbered_symbol-requires
numbered_symbol-requires c =
    let file = c.args.picture.now in
    subst (AllByRecursion (has c.args.names.now)) (symbol-names file c.args.insn.now (map_sym (name_bytes file) c.in-Some.symbol) c.requires.formed (ap (option_map (map_sym (name_bytes file))) (sym c.in-Some.is) ∙ c.insn_symbol.ensures)) c.requires.known

pub returns-in-Some : goal.returns-in-Some
returns-in-Some c =
    let file = c.args.picture.now in
    let g = map_sym (name_of c.args.names.now) in
    ap (λ i. Ins i) (ap (map_references g) c.with_ref.ensures.exact
    ∙ with-named file c.args.insn.now g c.numbered_symbol.result c.requires.formed (ap (λ s. Some s) c.numbered_symbol.ensures ∙ (ap (option_map (map_sym (name_bytes file))) (sym c.in-Some.is) ∙ c.insn_symbol.ensures)))

pub returns-in-None : goal.returns-in-None
returns-in-None c =
    let file = c.args.picture.now in
    let g = map_sym (name_of c.args.names.now) in
    let shape = subst (λ o. IfSome o (λ j. shape_of j ≡ shape_of c.args.insn.now)) c.unwrap.ensures c.without_ref.ensures.shape in
    ap (λ i. Ins i) (without-named file c.args.insn.now g c.unwrap.result (ap (option_map (map_sym (name_bytes file))) (sym c.in-None.is) ∙ c.insn_symbol.ensures) shape)
