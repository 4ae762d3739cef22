use Rattle.std.proofs.Common.{◌+◌, ◌++◌, List, drop, get_or, length, map, take, sym, ap, subst, ◌∙◌, arith}
use Rattle.std.specs.Prelude.{Ok, Err}
use Rattle.std.proofs.lemmas.List.{take_all}
use Rattle.std.proofs.lemmas.Result.{err_from_is_err_and}
use Rattle.asm_items.specs.Formed.{is_item}
use Rattle.asm_print.specs.Text.{line_text, text_of}
use Rattle.rw_reloc.specs.declared.slot.Slot.{Slot}
use Rattle.rw_reloc.specs.Slots.{copies_of, null_slot}
use Rattle.rw_refs.proofs.Few.{few-regions}
use Rattle.rw_data.proofs.Clean.{each_clean}
use Rattle.rw_out.specs.Items.{copy_item, copy_items, items_with, main_items, weak_items}
use Rattle.rw_out.specs.Writing.{WritesOn}
use Rattle.rw_out.proofs.Among.{copies-around, in-copies, item-in, line-stop, line-then, mapped-more, names-in}
use Rattle.rw_out.proofs.WholeData.{copies-fine}
use Rattle.rw_out.proofs.text.write_copies.Goals as goal

pub copy_item-item-requires : goal.copy_item-item-requires
copy_item-item-requires g c =
    let file = c.args.picture.now in
    let probes = c.requires.names.0 in
    let cs = c.copies-copy-items.result.now in
    let i = c.loop-copy.copy-index in
    let f = copy_item file in
    let all = copies-around file cs i null_slot (c.copies-copy-items.ensures.list ∙ ap copies_of c.relocs.ensures.file) c.loop-copy-test.true in
    (names-in c.args.names.now (items_with file probes) (map f (take i cs)) (map f (drop (i + 1) cs) ++ weak_items file probes ++ main_items file probes) (f (get_or cs i null_slot)) c.requires.names.1 (in-copies file probes (map f (take i cs)) (map f (drop (i + 1) cs)) (f (get_or cs i null_slot)) all)).0

pub write_item-requires-clause-formed : goal.write_item-requires-clause-formed
write_item-requires-clause-formed g c =
    let file = c.args.picture.now in
    let cs = c.copies-copy-items.result.now in
    let i = c.loop-copy.copy-index in
    let f = copy_item file in
    let all = copies-around file cs i null_slot (c.copies-copy-items.ensures.list ∙ ap copies_of c.relocs.ensures.file) c.loop-copy-test.true in
    ap is_item c.copy_item-item.ensures ∙ item-in (copy_items file) (map f (take i cs)) (map f (drop (i + 1) cs)) (f (get_or cs i null_slot)) all (copies-fine file (each_clean file c.elf-elf.ensures.clean) c.requires.bytes).0

pub write_item-requires-clause-room : goal.write_item-requires-clause-room
write_item-requires-clause-room g c =
    let file = c.args.picture.now in
    let clean = each_clean file c.elf-elf.ensures.clean in
    let many = few-regions file clean.elf clean.relocations in
    let same = ap length (c.copies-copy-items.ensures.list ∙ ap copies_of c.relocs.ensures.file) in
    let few = c.loop-copy.invariant.few in
    let low = c.loop-copy-test.true in
    omega (arith, many, same, few, low)

pub returns-in_err-written-clause-bytes : goal.returns-in_err-written-clause-bytes
returns-in_err-written-clause-bytes g c =
    let file = c.args.picture.now in
    let cs = c.copies-copy-items.result.now in
    let i = c.loop-copy.copy-index in
    let f = copy_item file in
    let all = copies-around file cs i null_slot (c.copies-copy-items.ensures.list ∙ ap copies_of c.relocs.ensures.file) c.loop-copy-test.true in
    let old = g.S.Sink.held c.args.sink.now in
    let mid = g.S.Sink.held c.loop-copy.sink in
    let new = g.S.Sink.held c.write_item.new.sink in
    let part = subst (λ y. WritesOn mid new c.loop-copy.written (Err c.in_err-written.field-0.0) (line_text y)) c.copy_item-item.ensures c.in_err-written.ensures.bytes in
    let p = err_from_is_err_and c.from_residual.result c.from_residual.ensures.1 in
    rw (p.1, p.2)
    (line-stop old new 0 c.in_err-written.field-0.0 (copy_items file) (map f (take i cs)) (map f (drop (i + 1) cs)) (f (get_or cs i null_slot)) all (line-then old mid new 0 c.loop-copy.written (Err c.in_err-written.field-0.0) (map f (take i cs)) (f (get_or cs i null_slot)) c.loop-copy.invariant.text part))

pub loop-copy-preserved : goal.loop-copy-preserved
loop-copy-preserved g c =
    let file = c.args.picture.now in
    let cs = c.copies-copy-items.result.now in
    let i = c.loop-copy.copy-index in
    let f = copy_item file in
    let old = g.S.Sink.held c.args.sink.now in
    let mid = g.S.Sink.held c.loop-copy.sink in
    let new = g.S.Sink.held c.write_item.new.sink in
    let part = subst (λ y. WritesOn mid new c.loop-copy.written (Ok c.in_ok-written.written) (line_text y)) c.copy_item-item.ensures c.in_ok-written.ensures.bytes in
    let few = c.loop-copy.invariant.few in
    let more = c.in_ok-written.ensures.few in
    record {
      few = omega (arith, few, more);
      same = c.in_ok-written.ensures.cause ∙ c.loop-copy.invariant.same;
      text = subst (λ xs. WritesOn old new 0 (Ok c.in_ok-written.written) (text_of xs)) (sym (mapped-more f cs i null_slot c.loop-copy-test.true))
          (line-then old mid new 0 c.loop-copy.written (Ok c.in_ok-written.written) (map f (take i cs)) (f (get_or cs i null_slot)) c.loop-copy.invariant.text part);
    }

pub returns-clause-bytes : goal.returns-clause-bytes
unfolding copy_items
returns-clause-bytes g c =
    let file = c.args.picture.now in
    let cs = c.copies-copy-items.result.now in
    let past = c.loop-copy-test.false in
    let whole = take_all c.loop-copy.copy-index cs past ∙ (c.copies-copy-items.ensures.list ∙ ap copies_of c.relocs.ensures.file) in
    subst (λ (ys : List Slot). WritesOn (g.S.Sink.held c.args.sink.now) (g.S.Sink.held c.loop-copy.sink) 0 (Ok c.loop-copy.written) (text_of (map (copy_item file) ys))) whole c.loop-copy.invariant.text

pub returns-clause-few : goal.returns-clause-few
returns-clause-few g c =
    let file = c.args.picture.now in
    let clean = each_clean file c.elf-elf.ensures.clean in
    let many = few-regions file clean.elf clean.relocations in
    let same = ap length (c.copies-copy-items.ensures.list ∙ ap copies_of c.relocs.ensures.file) in
    let few = c.loop-copy.invariant.few in
    let end = c.loop-copy.auto.copy-index-end in
    omega (arith, many, same, few, end)
