use Rattle.std.proofs.Common.{◌≡◌, true, subst, sym, ap, ◌∙◌}
use Rattle.std.specs.Option.{IfSome}
use Rattle.x86_insn.specs.References.{shape_of}
use Rattle.x86_insn.specs.WellFormed.{is_instruction}
use Rattle.x86_insn.proofs.Referring.{twice}
use Rattle.asm_items.specs.declared.item.Item.TheVariants.{Ins}
use Rattle.asm_items.specs.declared.item.Sym.TheVariants as syms
use Rattle.asm_items.specs.Named.{map_sym}
use Rattle.asm_read.specs.Numbered.{number_of, with_shown}
use Rattle.asm_read.proofs.Numbers.{put-reference, without-reference, no-name, its-name, whole-from}
use Rattle.asm_read.proofs.numbering.numbered_insn.Goals as goal

pub returns-in_ok-symbol-in-Some-clause-insn : goal.returns-in_ok-symbol-in-Some-clause-insn
returns-in_ok-symbol-in-Some-clause-insn c =
    let i = c.args.insn.now in
    let whole : is_instruction i ≡ true = whole-from (map_sym (λ name. name.now)) i c.requires.formed in
    let put =
    put-reference (map_sym (number_of c.numbered_symbol.new.names)) (map_sym (λ name. name.now)) i whole c.in-Some.symbol c.in_ok-symbol-in-Some.symbol (sym c.reference.ensures ∙ c.in-Some.is) c.in_ok-symbol-in-Some.ensures.symbol in
    ap (λ x. Ins x) (c.with_ref.ensures.exact ∙ put)

pub returns-in_ok-symbol-in-Some-clause-names : goal.returns-in_ok-symbol-in-Some-clause-names
returns-in_ok-symbol-in-Some-clause-names c =
    c.in_ok-symbol-in-Some.ensures.names ∙ ap (with_shown c.args.names.now) (sym (its-name (map_sym (λ name. name.now)) c.args.insn.now c.in-Some.symbol (sym c.reference.ensures ∙ c.in-Some.is)))

pub returns-in-None-clause-insn : goal.returns-in-None-clause-insn
returns-in-None-clause-insn c =
    let i = c.args.insn.now in
    let f = map_sym (number_of c.args.names.now) in
    let shape = subst (λ o. IfSome o (λ j. shape_of j ≡ shape_of i)) c.unwrap.ensures c.without_ref.ensures.shape in
    ap (λ x. Ins x)
    (without-reference (syms.Code 0) (λ r. f (map_sym (λ name. name.now) r)) i c.unwrap.result (sym c.reference.ensures ∙ c.in-None.is) shape ∙ sym (twice f (map_sym (λ name. name.now)) i))

pub returns-in-None-clause-names : goal.returns-in-None-clause-names
returns-in-None-clause-names c = ap (with_shown c.args.names.now) (sym (no-name (map_sym (λ name. name.now)) c.args.insn.now (sym c.reference.ensures ∙ c.in-None.is)))
