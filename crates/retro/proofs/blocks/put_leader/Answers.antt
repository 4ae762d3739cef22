use Rattle.std.proofs.Common.{ap, ◌∙◌, ◌++◌}
use Rattle.std.specs.Prelude.{codes, decimal}
use Rattle.asm_print.specs.Line.{cut, hex}
use Rattle.asm_print.proofs.Cut.{cut-then}
use Rattle.retro.specs.Blocks.{leader_line, probe_word}
use Rattle.retro.proofs.blocks.put_leader.Goals as goal

pub returns : goal.returns
unfolding leader_line
returns c =
    let old = c.args.line.now.bytes.items in
    let tab = codes "\t" in
    let a = decimal c.args.number in
    let b = hex c.args.address in
    let name = c.args.name.now in
    let word = probe_word c.args.probe in
    let l1 = c.put_decimal.new.self.bytes.items in
    let l2 = c.put_str.new.self.bytes.items in
    let l3 = c.put_hex.new.self.bytes.items in
    let l4 = c.put_str-2.new.self.bytes.items in
    let l5 = c.put.new.self.bytes.items in
    let l6 = c.put_str-3.new.self.bytes.items in
    let l7 = c.put_str-4.new.self.bytes.items in
    let l8 = c.put_str-5.new.self.bytes.items in
    let two = cut-then old a tab l1 l2 c.put_decimal.ensures c.put_str.ensures in
    let three = cut-then old (a ++ tab) b l2 l3 two c.put_hex.ensures in
    let four = cut-then old (a ++ tab ++ b) tab l3 l4 three c.put_str-2.ensures in
    let five = cut-then old (a ++ tab ++ b ++ tab) name l4 l5 four c.put.ensures in
    let six = cut-then old (a ++ tab ++ b ++ tab ++ name) tab l5 l6 five c.put_str-3.ensures in
    let seven = cut-then old (a ++ tab ++ b ++ tab ++ name ++ tab) word l6 l7 six (c.put_str-4.ensures ∙ ap (λ w. cut (l6 ++ w)) c.word_of.ensures) in
    cut-then old (a ++ tab ++ b ++ tab ++ name ++ tab ++ word) (codes "\n") l7 l8 seven c.put_str-5.ensures
