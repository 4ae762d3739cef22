use Rattle.std.proofs.Common.{Some, ap, ◌∙◌}
use Rattle.asm_items.specs.declared.item.Item.TheVariants.{Quad}
use Rattle.rw_layout_tests.proofs.LookUps.{line-at, label-there, insn-there, copy-there, word-there}
use Rattle.rw_layout_tests.proofs.looked.address_of.Goals as goal

pub address-requires : goal.address-requires
address-requires c =
    let here = line-at c.text.result.now c.args.program.now c.text.ensures.text c.args.line c.requires.within c.index.result.now c.index.ensures in
    label-there c.args.program.now c.text.ensures.formed c.requires.laid.0 c.args.layout.now c.requires.laid.1 c.args.line c.in-Label.label (here ∙ ap Some c.in-Label.is)

pub ins_address-requires : goal.ins_address-requires
ins_address-requires c =
    let here = line-at c.text.result.now c.args.program.now c.text.ensures.text c.args.line c.requires.within c.index.result.now c.index.ensures in
    insn-there c.args.program.now c.text.ensures.formed c.requires.laid.0 c.args.layout.now c.requires.laid.1 c.args.line c.in-Ins.field-0 (here ∙ ap Some c.in-Ins.is)

pub name_address-requires : goal.name_address-requires
name_address-requires c =
    let here = line-at c.text.result.now c.args.program.now c.text.ensures.text c.args.line c.requires.within c.index.result.now c.index.ensures in
    copy-there c.args.program.now c.text.ensures.formed c.requires.laid.0 c.args.layout.now c.requires.laid.1 c.args.line c.in-Copy.id c.in-Copy.field-1 (here ∙ ap Some c.in-Copy.is)

pub name_address_of-requires : goal.name_address_of-requires
name_address_of-requires c = λ id o is.
    let here = line-at c.text.result.now c.args.program.now c.text.ensures.text c.args.line c.requires.within c.index.result.now c.index.ensures in
    word-there c.args.program.now c.text.ensures.formed c.requires.laid.0 c.args.layout.now c.requires.laid.1 c.args.line id o (here ∙ ap Some (c.in-Quad.is ∙ ap Quad is))
