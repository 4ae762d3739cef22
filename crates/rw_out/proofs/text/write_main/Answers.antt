use Rattle.std.proofs.Common.{◌≡◌, [], ◌∷◌, ◌++◌, refl, sym, ap, subst, ◌∙◌, append_assoc, arith, length-append}
use Rattle.std.specs.Prelude.{Ok, Err}
use Rattle.std.proofs.lemmas.Result.{err_from_is_err_and}
use Rattle.asm_items.specs.Formed.{is_item}
use Rattle.asm_print.specs.Text.{line_text}
use Rattle.rw_data.proofs.Clean.{each_clean}
use Rattle.rw_out.specs.Items.{items_with, main_items}
use Rattle.rw_out.specs.Positions.{rest, shown}
use Rattle.rw_out.specs.Writing.{WritesOn}
use Rattle.rw_out.proofs.Among.{in-main, item-in, line-stop, line-then, names-in, shorter}
use Rattle.rw_out.proofs.Pieces.{writes_nothing}
use Rattle.rw_out.proofs.Rests.{main_begins}
use Rattle.rw_out.proofs.WholeData.{main-fine}
use Rattle.rw_out.specs.Kept.{probes_in}
use Rattle.rw_out.proofs.text.write_main.Goals as goal

pub loop-shown-init : goal.loop-shown-init
loop-shown-init g c = record {
  at = omega arith;
  same = refl;
  so_far = ([], main_begins c.args.picture.now (probes_in c.args.probes.now), omega arith, writes_nothing (g.S.Sink.held c.args.sink.now) c.args.done);
}

pub numbered-item-requires-clause-known : goal.numbered-item-requires-clause-known
numbered-item-requires-clause-known g c =
    let file = c.args.picture.now in
    let probes = probes_in c.args.probes.now in
    let before = c.loop-shown.invariant.so_far.0 in
    let x = shown file c.in-Some.shown in
    let after = rest file probes c.in-Some.next in
    let all : main_items file probes ≡ before ++ x ∷ after = c.loop-shown.invariant.so_far.1 ∙ ap (λ xs. before ++ xs) c.in-Some.ensures.0 in
    names-in c.args.names.now (items_with file probes) _ after x c.requires.names (in-main file probes before after x all)

pub write_item-requires-clause-formed : goal.write_item-requires-clause-formed
write_item-requires-clause-formed g c =
    let file = c.args.picture.now in
    let probes = probes_in c.args.probes.now in
    let before = c.loop-shown.invariant.so_far.0 in
    let x = shown file c.in-Some.shown in
    let after = rest file probes c.in-Some.next in
    let all : main_items file probes ≡ before ++ x ∷ after = c.loop-shown.invariant.so_far.1 ∙ ap (λ xs. before ++ xs) c.in-Some.ensures.0 in
    ap is_item c.numbered-item.ensures ∙ item-in (main_items file probes) before after x all (main-fine file (each_clean file c.elf-elf.ensures.clean) c.requires.bytes probes c.count-count.ensures.few).0

pub write_item-requires-clause-room : goal.write_item-requires-clause-room
write_item-requires-clause-room g c =
    let file = c.args.picture.now in
    let probes = probes_in c.args.probes.now in
    let before = c.loop-shown.invariant.so_far.0 in
    let x = shown file c.in-Some.shown in
    let after = rest file probes c.in-Some.next in
    let all : main_items file probes ≡ before ++ x ∷ after = c.loop-shown.invariant.so_far.1 ∙ ap (λ xs. before ++ xs) c.in-Some.ensures.0 in
    let few = c.loop-shown.invariant.so_far.2 in
    let most = (main-fine file (each_clean file c.elf-elf.ensures.clean) c.requires.bytes probes c.count-count.ensures.few).1 in
    let one = shorter (main_items file probes) before after x all in
    let done = c.requires.few in
    omega (arith, few, most, one, done)

pub returns-in_err-written-clause-bytes : goal.returns-in_err-written-clause-bytes
returns-in_err-written-clause-bytes g c =
    let file = c.args.picture.now in
    let probes = probes_in c.args.probes.now in
    let before = c.loop-shown.invariant.so_far.0 in
    let x = shown file c.in-Some.shown in
    let after = rest file probes c.in-Some.next in
    let all : main_items file probes ≡ before ++ x ∷ after = c.loop-shown.invariant.so_far.1 ∙ ap (λ xs. before ++ xs) c.in-Some.ensures.0 in
    let old = g.S.Sink.held c.args.sink.now in
    let mid = g.S.Sink.held c.loop-shown.sink in
    let new = g.S.Sink.held c.write_item.new.sink in
    let part = subst (λ y. WritesOn mid new c.loop-shown.written (Err c.in_err-written.field-0.0) (line_text y)) c.numbered-item.ensures c.in_err-written.ensures.bytes in
    let p = err_from_is_err_and c.from_residual.result c.from_residual.ensures.1 in
    rw (p.1, p.2)
    (line-stop old new c.args.done c.in_err-written.field-0.0 (main_items file probes) before after x all (line-then old mid new c.args.done c.loop-shown.written (Err c.in_err-written.field-0.0) before x c.loop-shown.invariant.so_far.3 part))

pub loop-shown-preserved : goal.loop-shown-preserved
loop-shown-preserved g c =
    let file = c.args.picture.now in
    let probes = probes_in c.args.probes.now in
    let before = c.loop-shown.invariant.so_far.0 in
    let x = shown file c.in-Some.shown in
    let after = rest file probes c.in-Some.next in
    let all : main_items file probes ≡ before ++ x ∷ after = c.loop-shown.invariant.so_far.1 ∙ ap (λ xs. before ++ xs) c.in-Some.ensures.0 in
    let old = g.S.Sink.held c.args.sink.now in
    let mid = g.S.Sink.held c.loop-shown.sink in
    let new = g.S.Sink.held c.write_item.new.sink in
    let part = subst (λ y. WritesOn mid new c.loop-shown.written (Ok c.in_ok-written.written) (line_text y)) c.numbered-item.ensures c.in_ok-written.ensures.bytes in
    let few = c.loop-shown.invariant.so_far.2 in
    let more = c.in_ok-written.ensures.few in
    let size = length-append before (x ∷ []) in
    record {
      at = c.in-Some.ensures.1;
      same = c.in_ok-written.ensures.cause ∙ c.loop-shown.invariant.same;
      so_far = (
        before ++ x ∷ [],
        all ∙ sym (append_assoc before (x ∷ []) after),
        omega (arith, few, more, size),
        line-then old mid new c.args.done c.loop-shown.written (Ok c.in_ok-written.written) before x c.loop-shown.invariant.so_far.3 part,
      );
    }
