-- Words of a text.
use Rattle.std.proofs.Common.{◌≡◌, ℕ, ◌+◌, ◌≤◌, Option, Some, None, List, ◌∷◌, ◌++◌, length, take, drop, refl, sym, ap, ◌∙◌, arith, append_assoc}
use Rattle.std.proofs.lemmas.List.{length-append, length-take, take-append-drop, take_at}
use Rattle.asm_print.specs.Pieces.{pieces, split}
use Rattle.asm_print.specs.Arguments.{args_in}
use Rattle.asm_read.proofs.Separated.{pieces_by, pieces-split}

-- more words than an instruction has arguments
too-many-by : (a b c text : List ℕ) (s : Option (List ℕ × List ℕ)) → args_in (a ∷ b ∷ c ∷ pieces_by 32 text s) ≡ None
too-many-by a b c text None = refl
too-many-by a b c text (Some x) = refl

pub too-many : (a b c text : List ℕ) → args_in (a ∷ b ∷ c ∷ pieces 32 text) ≡ None
too-many a b c text = ap (λ ps. args_in (a ∷ b ∷ c ∷ ps)) (pieces-split 32 text) ∙ too-many-by a b c text (split 32 text)

-- ---- a prefix and the word behind it

module _ (text word behind second : List ℕ) (parts : text ≡ word ++ 32 ∷ behind) (front : take (length second) behind ≡ second) where
  short : length second ≤ length behind
  short = omega (arith, length-take (length second) behind, ap length front)

  pub within : length word + 1 + length second ≤ length text
  within = omega (arith, ap length parts, length-append word (32 ∷ behind), short)

  behind-is : behind ≡ second ++ drop (length second) behind
  behind-is = sym (take-append-drop (length second) behind) ∙ ap (λ t. t ++ drop (length second) behind) front

  seam : text ≡ (word ++ 32 ∷ second) ++ drop (length second) behind
  seam = parts ∙ ap (λ t. word ++ 32 ∷ t) behind-is ∙ sym (append_assoc word (32 ∷ second) (drop (length second) behind))

  pub prefixed : take (length word + 1 + length second) text ≡ word ++ 32 ∷ second
  prefixed = ap (take (length word + 1 + length second)) seam ∙ take_at (word ++ 32 ∷ second) (drop (length second) behind) (length word + 1 + length second) (omega (arith, length-append word (32 ∷ second)))

pub ruleset words = (too-many, within, prefixed)
