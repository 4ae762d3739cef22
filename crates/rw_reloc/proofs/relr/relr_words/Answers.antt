use Rattle.std.proofs.Common.{◌≡◌, ◌∙◌, ◌<◌, ◌^◌, sym, subst, true, arith}
use Rattle.std.proofs.lemmas.Grind.{common_steps}
use Rattle.rw_reloc.specs.Relr.{is_address, relr_numbers, relr_words, words_at}
use Rattle.rw_reloc.proofs.Numbers.{all-clean, base_at-start, base_next, base_room, flat-more, named_here, number_count, number_low, number_read}
use Rattle.rw_reloc.proofs.relr.relr_words.Goals as goal

pub loop-index-init : goal.loop-index-init
loop-index-init c = record { base = sym (base_at-start (relr_numbers c.args.bytes.now c.args.table.now)); words = grind (arith, common_steps) }

pub add_words-requires : goal.add_words-requires
add_words-requires c =
    let count = number_count c.args.bytes.now c.args.table.now in
    base_room c.args.table.now (relr_numbers c.args.bytes.now c.args.table.now) c.loop-index.index c.loop-index.base (omega (arith, count)) (omega arith)
    (all-clean c.args.bytes.now c.args.table.now c.loop-index.index c.requires.clean (omega (arith, count))) c.loop-index.invariant.base

pub base_behind-base-requires-clause-base : goal.base_behind-base-requires-clause-base
base_behind-base-requires-clause-base c =
    let count = number_count c.args.bytes.now c.args.table.now in
    base_room c.args.table.now (relr_numbers c.args.bytes.now c.args.table.now) c.loop-index.index c.loop-index.base (omega (arith, count)) (omega arith)
    (all-clean c.args.bytes.now c.args.table.now c.loop-index.index c.requires.clean (omega (arith, count))) c.loop-index.invariant.base

pub base_behind-base-requires-clause-number : goal.base_behind-base-requires-clause-number
base_behind-base-requires-clause-number c =
    let count = number_count c.args.bytes.now c.args.table.now in
    let here = number_read c.args.bytes.now c.args.table.now c.loop-index.index (omega arith) ∙ sym c.u64_at-number.ensures in
    subst (λ n. is_address n ≡ true → n < 2 ^ 47) here (number_low c.args.bytes.now c.args.table.now c.loop-index.index c.requires.clean (omega (arith, count)))

pub loop-index-preserved : goal.loop-index-preserved
loop-index-preserved c =
    let count = number_count c.args.bytes.now c.args.table.now in
    let here = number_read c.args.bytes.now c.args.table.now c.loop-index.index (omega arith) ∙ sym c.u64_at-number.ensures in
    record {
      base = c.base_behind-base.ensures ∙ base_next (relr_numbers c.args.bytes.now c.args.table.now) c.loop-index.index c.loop-index.base c.u64_at-number.result (omega (arith, count)) c.loop-index.invariant.base here;
      words = flat-more (words_at (relr_numbers c.args.bytes.now c.args.table.now)) c.loop-index.index c.loop-index.words.items _ _ c.loop-index.invariant.words
          (named_here (relr_numbers c.args.bytes.now c.args.table.now) c.loop-index.index c.loop-index.base c.u64_at-number.result c.loop-index.invariant.base here) c.in_ok-add_words.ensures;
    }

pub returns : goal.returns
unfolding relr_words
returns c =
    let count = number_count c.args.bytes.now c.args.table.now in
    grind (arith, common_steps)
