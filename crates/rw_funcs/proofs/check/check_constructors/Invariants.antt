use Rattle.std.proofs.Common.{◌≡◌}
use Rattle.rw_base.specs.Rules.{first_of}
use Rattle.rw_funcs.specs.Functions.{constructors, words_of}
use Rattle.rw_funcs.proofs.Each.{first_ahead}
use Rattle.rw_funcs.proofs.Words.{bad_word}
use Rattle.rw_funcs.proofs.check.check_constructors.Given as goal

abbrev pub invariant-loop-section : goal.invariant-loop-section
invariant-loop-section l = first_ahead (bad_word l.elf) words_of l.section-items l.section-index ≡ first_of (constructors l.elf)
