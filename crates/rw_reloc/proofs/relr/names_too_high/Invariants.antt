use Rattle.std.proofs.Common.{◌≡◌, ℕ, ◌<◌, ◌&&◌, false}
use Rattle.rw_reloc.specs.Relr.{has_word, is_too_high, word_at}
use Rattle.rw_reloc.proofs.relr.names_too_high.Given as goal

abbrev pub invariant-loop-place : goal.invariant-loop-place
invariant-loop-place l = (k : ℕ) → k < l.place → (has_word l.number k && is_too_high (word_at l.base k)) ≡ false
