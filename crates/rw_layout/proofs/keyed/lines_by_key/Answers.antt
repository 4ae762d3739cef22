use Rattle.std.proofs.Common.{◌≡◌, ◌+◌, ℕ, refl, ap, sym, ◌∙◌, subst, arith, rules, Some, length}
use Rattle.std.specs.Prelude.{slice_get, option_and_then}
use Rattle.std.proofs.lemmas.List.Sorted.{answers_always}
use Rattle.std.proofs.lemmas.Option.{slice_get_read}
use Rattle.rw_layout.specs.Keys.{AreLines, Key, KeyAt, key_of}
use Rattle.rw_layout.proofs.KeyedLines.{are-keyed, moved-lines, no-lines, one-line, other-line}
use Rattle.rw_layout.proofs.keyed.lines_by_key.Goals as goal
use Rattle.rw_layout.proofs.keyed.lines_by_key.Goals.{in-Some+in_ok-push, in_default}

pub loop-i-init : goal.loop-i-init
loop-i-init c = subst (λ xs. AreLines xs c.args.items.now 0) (sym c.in_ok-lines.ensures.items) (no-lines c.args.items.now)

pub loop-i-preserved : goal.loop-i-preserved
loop-i-preserved c =
    let items = c.args.items.now in
    let i = c.loop-i.i in
    let item : slice_get items i ≡ Some c.index-items-i.result = slice_get_read items (length items) i c.index-items-i.result refl (omega arith) c.index-items-i.is in
    elim c.match-key_of.branch [
      | in-Some+in_ok-push w ↦
          let here : KeyAt items i w.in-Some.key = ap (option_and_then key_of) item ∙ sym c.key_of.ensures ∙ w.in-Some.is in
          subst (λ v. AreLines v.items items (i + 1)) (sym w.lines-is)
          (subst (λ xs. AreLines xs items (i + 1)) (sym w.in_ok-push.ensures.items) (one-line c.loop-i.lines.items items i c.loop-i.invariant w.in-Some.key here))
      | in_default w ↦
          subst (λ v. AreLines v.items items (i + 1)) (sym w.lines-is)
          (other-line c.loop-i.lines.items items i c.loop-i.invariant (ap (option_and_then key_of) item ∙ sym c.key_of.ensures ∙ cc))
    ]

pub returns-clause-ascend : goal.returns-clause-ascend
returns-clause-ascend c = c.sort_unstable_by_key.ensures.sorted (λ (line : Key × ℕ). line.0) (answers_always _ _ _ (λ f a r g h. search rules))

pub returns-clause-keyed : goal.returns-clause-keyed
returns-clause-keyed c =
    let items = c.args.items.now in
    are-keyed _ items (length items)
    (moved-lines _ _ items (length items) c.sort_unstable_by_key.ensures.permutation (subst (AreLines c.loop-i.lines.items items) (omega arith) c.loop-i.invariant)) c.requires.once
