use Rattle.std.proofs.Common.{◌≡◌, true, sym, ◌∙◌}
use Rattle.x86_insn.specs.WellFormed.{is_instruction}
use Rattle.asm_items.specs.Named.{map_sym}
use Rattle.asm_read.proofs.FormedInsn.{formed-some, formed-none}
use Rattle.asm_read.proofs.formed.is_instruction.Goals as goal

pub returns-in-Some : goal.returns-in-Some
returns-in-Some c =
    let i = c.args.insn in
    let whole : is_instruction i ≡ true = sym c.well_formed-2.ensures ∙ c.if-not-well_formed.false in
    c.is_symbol.ensures ∙ sym (formed-some (map_sym (λ name. name.now)) i c.in-Some.symbol whole (sym c.in-Some.is ∙ c.reference.ensures) (sym c.has_widths.ensures ∙ c.if-not-has_widths.false))

pub returns-in-None : goal.returns-in-None
returns-in-None c =
    let i = c.args.insn in
    let whole : is_instruction i ≡ true = sym c.well_formed-2.ensures ∙ c.if-not-well_formed.false in
    sym (formed-none (map_sym (λ name. name.now)) i whole (sym c.in-None.is ∙ c.reference.ensures) (sym c.has_widths.ensures ∙ c.if-not-has_widths.false))
