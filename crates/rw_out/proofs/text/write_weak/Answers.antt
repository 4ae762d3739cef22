use Rattle.std.proofs.Common.{◌+◌, ◌++◌, drop, get_or, length, map, take, sym, ap, subst, ◌∙◌, arith}
use Rattle.std.specs.Prelude.{Ok, Err}
use Rattle.std.proofs.lemmas.List.{length-map, take_all}
use Rattle.std.proofs.lemmas.Result.{err_from_is_err_and}
use Rattle.asm_items.specs.Formed.{is_item}
use Rattle.asm_print.specs.Text.{line_text, text_of}
use Rattle.rw_data.proofs.Clean.{each_clean}
use Rattle.rw_out.specs.Items.{copy_items, items_with, main_items, weak_items}
use Rattle.rw_out.specs.Positions.{no_place}
use Rattle.rw_out.specs.Writing.{WritesOn}
use Rattle.rw_out.proofs.Among.{weak-around, weak_line, weak-listed, in-weak, item-in, line-stop, line-then, mapped-more, names-in}
use Rattle.rw_out.proofs.WholeData.{weak-fine}
use Rattle.rw_out.specs.Kept.{probes_in}
use Rattle.rw_out.proofs.text.write_weak.Goals as goal

pub weak_item-item-requires : goal.weak_item-item-requires
weak_item-item-requires g c =
    let file = c.args.picture.now in
    let probes = probes_in c.args.probes.now in
    let cs = c.args.weak.now in
    let i = c.loop-name.name-index in
    let f = weak_line file in
    let all = weak-around file probes cs i no_place c.requires.weak c.loop-name-test.true in
    (names-in c.args.names.now (items_with file probes) (copy_items file ++ map f (take i cs)) (map f (drop (i + 1) cs) ++ main_items file probes) (f (get_or cs i no_place)) c.requires.names (in-weak file probes (map f (take i cs)) (map f (drop (i + 1) cs)) (f (get_or cs i no_place)) all)).0

pub write_item-requires-clause-formed : goal.write_item-requires-clause-formed
write_item-requires-clause-formed g c =
    let file = c.args.picture.now in
    let probes = probes_in c.args.probes.now in
    let cs = c.args.weak.now in
    let i = c.loop-name.name-index in
    let f = weak_line file in
    let all = weak-around file probes cs i no_place c.requires.weak c.loop-name-test.true in
    ap is_item c.weak_item-item.ensures ∙ item-in (weak_items file probes) (map f (take i cs)) (map f (drop (i + 1) cs)) (f (get_or cs i no_place)) all (weak-fine file (each_clean file c.elf-elf.ensures.clean) c.requires.bytes probes c.count-count.ensures.few).0

pub write_item-requires-clause-room : goal.write_item-requires-clause-room
write_item-requires-clause-room g c =
    let file = c.args.picture.now in
    let probes = probes_in c.args.probes.now in
    let clean = each_clean file c.elf-elf.ensures.clean in
    let many = (weak-fine file clean c.requires.bytes probes c.count-count.ensures.few).1 in
    let same = ap length (weak-listed file probes c.args.weak.now c.requires.weak) in
    let size = length-map c.args.weak.now (weak_line file) in
    let done = c.requires.few in
    let few = c.loop-name.invariant.few in
    let low = c.loop-name-test.true in
    omega (arith, many, same, size, done, few, low)

pub returns-in_err-written-clause-bytes : goal.returns-in_err-written-clause-bytes
returns-in_err-written-clause-bytes g c =
    let file = c.args.picture.now in
    let probes = probes_in c.args.probes.now in
    let cs = c.args.weak.now in
    let i = c.loop-name.name-index in
    let f = weak_line file in
    let all = weak-around file probes cs i no_place c.requires.weak c.loop-name-test.true in
    let old = g.S.Sink.held c.args.sink.now in
    let mid = g.S.Sink.held c.loop-name.sink in
    let new = g.S.Sink.held c.write_item.new.sink in
    let part = subst (λ y. WritesOn mid new c.loop-name.written (Err c.in_err-written.field-0.0) (line_text y)) c.weak_item-item.ensures c.in_err-written.ensures.bytes in
    let p = err_from_is_err_and c.from_residual.result c.from_residual.ensures.1 in
    rw (p.1, p.2)
    (line-stop old new c.args.done c.in_err-written.field-0.0 (weak_items file probes) (map f (take i cs)) (map f (drop (i + 1) cs)) (f (get_or cs i no_place)) all (line-then old mid new c.args.done c.loop-name.written (Err c.in_err-written.field-0.0) (map f (take i cs)) (f (get_or cs i no_place)) c.loop-name.invariant.text part))

pub loop-name-preserved : goal.loop-name-preserved
loop-name-preserved g c =
    let file = c.args.picture.now in
    let probes = probes_in c.args.probes.now in
    let cs = c.args.weak.now in
    let i = c.loop-name.name-index in
    let f = weak_line file in
    let old = g.S.Sink.held c.args.sink.now in
    let mid = g.S.Sink.held c.loop-name.sink in
    let new = g.S.Sink.held c.write_item.new.sink in
    let part = subst (λ y. WritesOn mid new c.loop-name.written (Ok c.in_ok-written.written) (line_text y)) c.weak_item-item.ensures c.in_ok-written.ensures.bytes in
    let few = c.loop-name.invariant.few in
    let more = c.in_ok-written.ensures.few in
    record {
      few = omega (arith, few, more);
      same = c.in_ok-written.ensures.cause ∙ c.loop-name.invariant.same;
      text = subst (λ xs. WritesOn old new c.args.done (Ok c.in_ok-written.written) (text_of xs)) (sym (mapped-more f cs i no_place c.loop-name-test.true))
          (line-then old mid new c.args.done c.loop-name.written (Ok c.in_ok-written.written) (map f (take i cs)) (f (get_or cs i no_place)) c.loop-name.invariant.text part);
    }

pub returns-clause-bytes : goal.returns-clause-bytes
returns-clause-bytes g c =
    let file = c.args.picture.now in
    let probes = probes_in c.args.probes.now in
    let cs = c.args.weak.now in
    let past = c.loop-name-test.false in
    let whole = ap (map (weak_line file)) (take_all c.loop-name.name-index cs past) ∙ weak-listed file probes cs c.requires.weak in
    subst (λ xs. WritesOn (g.S.Sink.held c.args.sink.now) (g.S.Sink.held c.loop-name.sink) c.args.done (Ok c.loop-name.written) (text_of xs)) whole c.loop-name.invariant.text

pub returns-clause-few : goal.returns-clause-few
returns-clause-few g c =
    let file = c.args.picture.now in
    let probes = probes_in c.args.probes.now in
    let clean = each_clean file c.elf-elf.ensures.clean in
    let many = (weak-fine file clean c.requires.bytes probes c.count-count.ensures.few).1 in
    let same = ap length (weak-listed file probes c.args.weak.now c.requires.weak) in
    let size = length-map c.args.weak.now (weak_line file) in
    let done = c.requires.few in
    let few = c.loop-name.invariant.few in
    let end = c.loop-name.auto.name-index-end in
    omega (arith, many, same, size, done, few, end)
