use Rattle.std.proofs.Common.{◌≡◌, ◌∙◌, true, false, sym, ap, arith}
use Rattle.std.proofs.lemmas.Bool.Decides.{nat_tests}
use Rattle.std.specs.List.{list_any}
use Rattle.rw_reloc.specs.Relr.{has_word, is_address, is_too_high, word_at}
use Rattle.rw_reloc.proofs.Numbers.{named-bitmap, none-among, some-among}
use Rattle.rw_reloc.proofs.relr.names_too_high.Goals as goal

pub returns-then-base-place-ge-TOO_HIGH : goal.returns-then-base-place-ge-TOO_HIGH
returns-then-base-place-ge-TOO_HIGH c =
    let odd : is_address c.args.number ≡ false = sym c.is_address.ensures ∙ c.if-is_address.false in
    let has : has_word c.args.number c.loop-place.place ≡ true = sym c.has_word.ensures ∙ c.if-has_word.true in
    let high : is_too_high (word_at c.args.base c.loop-place.place) ≡ true = let above = c.if-base-place-ge-TOO_HIGH.true in grind (arith, nat_tests) in
    sym (ap (list_any is_too_high) (named-bitmap c.args.base c.args.number odd) ∙ some-among is_too_high 63 c.args.base c.args.number c.loop-place.place (omega arith) has high)

pub returns : goal.returns
returns c =
    let odd : is_address c.args.number ≡ false = sym c.is_address.ensures ∙ c.if-is_address.false in
    sym (ap (list_any is_too_high) (named-bitmap c.args.base c.args.number odd) ∙ none-among is_too_high 63 c.args.base c.args.number (λ k low. c.loop-place.invariant k (omega (arith, low))))
