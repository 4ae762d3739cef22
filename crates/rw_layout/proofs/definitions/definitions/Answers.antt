use Rattle.std.proofs.Common.{◌≡◌, ◌+◌, refl, ap, sym, ◌∙◌, subst, arith, Some, length}
use Rattle.std.specs.Prelude.{slice_get, option_and_then}
use Rattle.std.proofs.lemmas.Option.{slice_get_read}
use Rattle.rw_layout.specs.Keys.{Adds, AreKeyed, KeyAt, key_of}
use Rattle.rw_layout.proofs.KeyFacts.{keyed-none, keyed-twice, keyed-more}
use Rattle.rw_layout.proofs.definitions.definitions.Goals as goal
use Rattle.rw_layout.proofs.definitions.definitions.Goals.{in-Some+in_ok-add+else-not-branch, in_default}

pub returns-then-not-branch-clause-twice : goal.returns-then-not-branch-clause-twice
returns-then-not-branch-clause-twice c =
    let items = c.args.items.now in
    let i = c.loop-i.i in
    let item : slice_get items i ≡ Some c.index-items-i.result = slice_get_read items (length items) i c.index-items-i.result refl (omega arith) c.index-items-i.is in
    let here : KeyAt items i c.in-Some.key = ap (option_and_then key_of) item ∙ sym c.key_of.ensures ∙ c.in-Some.is in
    keyed-twice c.loop-i.defined.entries items i c.loop-i.invariant c.add.new.defined.entries c.in-Some.key i
    (subst (λ t. Adds c.loop-i.defined.entries c.add.new.defined.entries c.in-Some.key i t) c.if-not-branch.true c.in_ok-add.ensures) here

pub loop-i-preserved : goal.loop-i-preserved
loop-i-preserved c =
    let items = c.args.items.now in
    let i = c.loop-i.i in
    let item : slice_get items i ≡ Some c.index-items-i.result = slice_get_read items (length items) i c.index-items-i.result refl (omega arith) c.index-items-i.is in
    elim c.match-key_of.branch [
      | in-Some+in_ok-add+else-not-branch w ↦
          let here : KeyAt items i w.in-Some.key = ap (option_and_then key_of) item ∙ sym c.key_of.ensures ∙ w.in-Some.is in
          subst (λ d. AreKeyed d items (i + 1)) (ap (λ d. d.entries) (sym w.defined-is))
          (keyed-more c.loop-i.defined.entries items i c.loop-i.invariant w.add.new.defined.entries w.in-Some.key i refl
          (subst (λ t. Adds c.loop-i.defined.entries w.add.new.defined.entries w.in-Some.key i t) (cc) w.in_ok-add.ensures) here)
      | in_default w ↦
          subst (λ d. AreKeyed d items (i + 1)) (ap (λ d. d.entries) (sym w.defined-is))
          (keyed-none c.loop-i.defined.entries items i c.loop-i.invariant (ap (option_and_then key_of) item ∙ sym c.key_of.ensures ∙ cc))
    ]

pub returns-clause-known : goal.returns-clause-known
returns-clause-known c = subst (AreKeyed c.loop-i.defined.entries c.args.items.now) (omega arith) c.loop-i.invariant
