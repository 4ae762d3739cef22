use Rattle.std.proofs.Common.{refl, lit<}
use Rattle.rw_domain.specs.NumberPlaces.{numbers_over}
use Rattle.rw_domain.specs.Symbols.{symbols_over}
use Rattle.rw_sim.specs.declared.callee.Callee.TheVariants as callee
use Rattle.rw_sim.specs.FirstBytes.{first_byte_of_words, first_byte_of_numbers}
use Rattle.rw_sim.proofs.Lawfulness.{system-lawful, import-lawful, kept-by-words, kept-by-numbers, small-wide}
use Rattle.rw_sim.proofs.laws.replies_are_lawful.Goals as goal

pub returns-clause-words_system : goal.returns-clause-words_system
returns-clause-words_system c placed memory words call base taken answer all room fits is =
    system-lawful (symbols_over placed) placed callee.System (first_byte_of_words placed base) (kept-by-words placed) refl refl room memory words call taken answer all fits is

pub returns-clause-words_import : goal.returns-clause-words_import
returns-clause-words_import c placed memory words fresh symbol name base taken answer all room fits is =
    import-lawful (symbols_over placed) placed callee.Import (first_byte_of_words placed base) (kept-by-words placed) refl refl room memory words fresh symbol name taken answer all fits is

pub returns-clause-numbers_system : goal.returns-clause-numbers_system
returns-clause-numbers_system c placed memory words call base taken answer all room fits small is =
    system-lawful (numbers_over placed) placed callee.System (first_byte_of_numbers placed base) (kept-by-numbers placed) (small-wide placed 0 (lit< tt)) (small-wide placed base small) room memory words call taken answer all fits is

pub returns-clause-numbers_import : goal.returns-clause-numbers_import
returns-clause-numbers_import c placed memory words fresh symbol name base taken answer all room fits small is =
    import-lawful (numbers_over placed) placed callee.Import (first_byte_of_numbers placed base) (kept-by-numbers placed) (small-wide placed 0 (lit< tt)) (small-wide placed base small) room memory words fresh symbol name taken answer all fits is
