use Rattle.std.proofs.Common.{None, sym, ap, ◌∙◌}
use Rattle.std.specs.Prelude.{option_map}
use Rattle.asm_items.specs.Named.{map_sym}
use Rattle.rw_elf.specs.Name.{name_bytes}
use Rattle.rw_out.specs.Plan.{listed}
use Rattle.rw_out.proofs.Referring.{insn-names, symbol-names}
use Rattle.rw_out.proofs.naming.insn_name.Goals as goal

pub returns-in_err-insn_symbol : goal.returns-in_err-insn_symbol
returns-in_err-insn_symbol c =
    let file = c.args.picture.now in
    insn-names file c.args.insn.now None c.requires (ap (option_map (map_sym (name_bytes file))) (sym c.in_err-insn_symbol.was) ∙ c.insn_symbol.ensures)
    ∙ ap (λ o. listed (option_map (name_bytes file) o)) (sym c.from_residual.ensures)

pub returns : goal.returns
returns c =
    let file = c.args.picture.now in
    symbol-names file c.args.insn.now (map_sym (name_bytes file) c.in_ok-insn_symbol.field-0) c.requires (ap (option_map (map_sym (name_bytes file))) (sym c.in_ok-insn_symbol.was) ∙ c.insn_symbol.ensures)
    ∙ c.symbol_name.ensures file
