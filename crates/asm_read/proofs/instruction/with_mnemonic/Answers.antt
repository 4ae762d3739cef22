use Rattle.std.specs.Prelude.{option_map}
use Rattle.asm_items.specs.Named.{map_sym}
use Rattle.asm_read.specs.Words.{pieces_left}
use Rattle.asm_read.proofs.Built.{named-found}
use Rattle.asm_read.proofs.instruction.with_mnemonic.Goals as goal

pub returns : goal.returns
returns c =
    named-found (map_sym (λ name. name.now)) c.args.name.now (pieces_left 32 (option_map (λ text. text.now) c.args.words)) c.in_ok-args.args c.in_ok-form.form c.built.result
    c.in_ok-args.ensures c.in_ok-form.ensures c.built.ensures
