use Rattle.std.proofs.Common.{◌≡◌, ◌+◌, ◌++◌, Some, length, take, true, refl, sym, ap, subst, ◌∙◌, arith, append-nil}
use Rattle.std.specs.Prelude.{slice_index}
use Rattle.std.proofs.lemmas.List.{length-map, length-take-le}
use Rattle.asm_items.specs.Formed.{is_item}
use Rattle.asm_items.specs.Named.{named}
use Rattle.asm_items.specs.Lines.{copies_of}
use Rattle.rw_layout.specs.Program.{seen, shown}
use Rattle.rw_layout.specs.NameTable.{IsTable, copied_at}
use Rattle.rw_layout.proofs.Lines.{shown-at, read-at, item-formed}
use Rattle.rw_layout.proofs.UseFacts.{copies-more, copy-within, copies-fewer, copied-line, no-copy, copied-table, copies-few}
use Rattle.rw_layout.proofs.names.name_copies.Goals as goal
use Rattle.rw_layout.proofs.names.name_copies.Goals.{in-Some, in_default}

pub bounds-bases-copies : goal.bounds-bases-copies
bounds-bases-copies c =
    let text = c.args.text.now in
    let i = c.loop-i.i in
    let item = c.index.result.now in
    let read = read-at text.items.items i item (omega arith) c.index.ensures in
    let copy = copied-line item c.in-Some.id (sym c.name_copied.ensures ∙ c.in-Some.is) in
    let fewer = copies-fewer text.names text.items.items i c.in-Some.id copy.0 (read ∙ ap Some copy.1) in
    omega (arith, fewer, c.loop-i.invariant.copies, c.requires.bases)

pub give-requires : goal.give-requires
give-requires c =
    let text = c.args.text.now in
    let i = c.loop-i.i in
    let item = c.index.result.now in
    let read = read-at text.items.items i item (omega arith) c.index.ensures in
    let copy = copied-line item c.in-Some.id (sym c.name_copied.ensures ∙ c.in-Some.is) in
    let good = item-formed (shown (seen text)) i (named text.names item) c.requires.formed.formed (shown-at text.names text.items.items i item read) in
    let within = copy-within text.names text.items.items i c.in-Some.id copy.0 (read ∙ ap Some copy.1) (subst (λ x. is_item (named text.names x) ≡ true) copy.1 good) in
    omega (arith, within, c.loop-i.invariant.table.count)

pub loop-i-preserved : goal.loop-i-preserved
loop-i-preserved c =
    let text = c.args.text.now in
    let i = c.loop-i.i in
    let item = c.index.result.now in
    let bases = c.args.bases.now in
    let read = read-at text.items.items i item (omega arith) c.index.ensures in
    let good = item-formed (shown (seen text)) i (named text.names item) c.requires.formed.formed (shown-at text.names text.items.items i item read) in
    let inv = c.loop-i.invariant in
    elim c.match-name_copied.branch [
      | in-Some w ↦
          let copied = sym c.name_copied.ensures ∙ w.in-Some.is in
          let both = copied-table text.names c.are_distinct.ensures text.items.items i item read good c.loop-i.list.items w.give.new.list.items w.give.result bases w.in-Some.id (slice_index bases c.loop-i.copies) c.loop-i.copies
          copied inv.table inv.copies refl w.give.ensures.given w.give.ensures.kept in
          record { copies = w.copies-is ∙ sym both.1; table = subst (λ l. IsTable text.names l.items (copied_at bases (copies_of (take (i + 1) (shown (seen text)))))) (sym w.list-is) both.0 }
      | in_default w ↦
          let none = sym c.name_copied.ensures ∙ cc in
          let same : copies_of (take (i + 1) (shown (seen text))) ≡ copies_of (take i (shown (seen text))) =
          copies-more text.names text.items.items i item read ∙ ap (λ cs. copies_of (take i (shown (seen text))) ++ cs) (no-copy text.names item none) ∙ append-nil (copies_of (take i (shown (seen text)))) in
          record {
            copies = w.copies-is ∙ inv.copies ∙ sym (ap length same);
            table = subst (λ l. IsTable text.names l.items (copied_at bases (copies_of (take (i + 1) (shown (seen text)))))) (sym w.list-is) (subst (λ cs. IsTable text.names c.loop-i.list.items (copied_at bases cs)) (sym same) inv.table);
          }
    ]

pub offset_bounds-bases-copies : goal.offset_bounds-bases-copies
offset_bounds-bases-copies c =
    let text = c.args.text.now in
    let few = copies-few (take c.loop-i.i (shown (seen text))) in
    let short = length-take-le c.loop-i.i (shown (seen text)) in
    let all = length-map text.items.items (named text.names) in
    omega (arith, few, short, all, c.loop-i.invariant.copies, c.requires.formed.few)

pub overflow_add-copies : goal.overflow_add-copies
overflow_add-copies c =
    let text = c.args.text.now in
    let few = copies-few (take c.loop-i.i (shown (seen text))) in
    let short = length-take-le c.loop-i.i (shown (seen text)) in
    let all = length-map text.items.items (named text.names) in
    omega (arith, few, short, all, c.loop-i.invariant.copies, c.requires.formed.few)
