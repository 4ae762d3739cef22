use Rattle.std.proofs.Common.{◌≡◌, ◌+◌, true, false, ℕ, List, length, sym, subst, ◌∙◌, arith, rules}
use Rattle.std.specs.Prelude.{slice_index}
use Rattle.std.proofs.lemmas.List.Sorted.{IsNonDecreasingBy-from_sort_by_key}
use Rattle.asm_items.specs.declared.item.Item.{Item}
use Rattle.asm_items.specs.Named.{named}
use Rattle.asm_items.specs.Lines.{Items}
use Rattle.rw_layout.specs.Places.{AreInsns, is_insn}
use Rattle.rw_layout.specs.Program.{seen, shown}
use Rattle.rw_layout.proofs.Lines.{shown-at, read-at}
use Rattle.rw_layout.proofs.InsnLines.{moved-insns, no-insns, one-insn, other-line}
use Rattle.rw_layout.proofs.insns.insns_by_address.Goals as goal
use Rattle.rw_layout.proofs.insns.insns_by_address.Goals.{then-is_insn+in_ok-push, else-is_insn}

pub loop-i-init : goal.loop-i-init
loop-i-init c = subst (λ xs. AreInsns xs (shown (seen c.args.text.now)) 0) (sym c.in_ok-lines.ensures.items) (no-insns (shown (seen c.args.text.now)))

pub loop-i-preserved : goal.loop-i-preserved
loop-i-preserved c =
    let names = c.args.text.now.names in
    let items : Items = shown (seen c.args.text.now) in
    let i = c.loop-i.i in
    let line : Item (List ℕ) = named names c.index-item.result.now in
    let here = shown-at names c.args.text.now.items.items i c.index-item.result.now (read-at c.args.text.now.items.items i c.index-item.result.now (omega arith) c.index-item.ensures) in
    elim c.if-is_insn.branch [
      | then-is_insn+in_ok-push w ↦
          let is : is_insn line ≡ true = sym (c.is_insn.ensures names) ∙ w.if-is_insn.true in
          subst (λ v. AreInsns v.items items (i + 1)) (sym w.lines-is)
          (subst (λ xs. AreInsns xs items (i + 1)) (sym w.in_ok-push.ensures.items) (one-insn c.loop-i.lines.items items i c.loop-i.invariant line here is))
      | else-is_insn w ↦
          let other : is_insn line ≡ false = sym (c.is_insn.ensures names) ∙ w.if-is_insn.false in
          subst (λ v. AreInsns v.items items (i + 1)) (sym w.lines-is) (other-line c.loop-i.lines.items items i c.loop-i.invariant line here other)
    ]

pub returns : goal.returns
returns c = record {
  ascend = IsNonDecreasingBy-from_sort_by_key (λ (q : ℕ). slice_index c.args.addresses.now q) _ c.sort_unstable_by_key.ensures.sorted (λ a r q k. search rules);
  insns = moved-insns _ _ (shown (seen c.args.text.now)) (length c.args.text.now.items.items) c.sort_unstable_by_key.ensures.permutation (subst (AreInsns c.loop-i.lines.items (shown (seen c.args.text.now))) (omega arith) c.loop-i.invariant);
}
