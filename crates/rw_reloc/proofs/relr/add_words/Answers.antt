use Rattle.std.proofs.Common.{◌≡◌, ◌∙◌, ◌+◌, ◌++◌, [], ◌∷◌, ℕ, List, sym, ap, append_assoc, if◌then◌else◌}
use Rattle.std.proofs.lemmas.List.{append-nil}
use Rattle.rw_reloc.specs.Relr.{has_word, word_at, words_among}
use Rattle.rw_reloc.proofs.Numbers.{among-more, among-none}
use Rattle.rw_reloc.proofs.relr.add_words.Goals as goal

pub loop-place-init : goal.loop-place-init
loop-place-init c = sym (ap (λ ws. c.args.words.now.items ++ ws) (among-none c.args.base c.args.number) ∙ append-nil c.args.words.now.items)

step : (old list new : List ℕ) (k base n : ℕ) → list ≡ old ++ words_among k base n → new ≡ list ++ (if has_word n k then word_at base k ∷ [] else []) → new ≡ old ++ words_among (k + 1) base n
step old list new k base n so_far more =
    more
    ∙ ap (λ ws. ws ++ (if has_word n k then word_at base k ∷ [] else [])) so_far
    ∙ append_assoc old (words_among k base n) (if has_word n k then word_at base k ∷ [] else [])
    ∙ ap (λ ws. old ++ ws) (sym (among-more k base n))

pub loop-place-preserved : goal.loop-place-preserved
loop-place-preserved c = step c.args.words.now.items c.loop-place.words.items c.add_word.new.words.items c.loop-place.place c.args.base c.args.number c.loop-place.invariant c.in_ok-add_word.ensures
