-- The command that the code takes from the words, as one of the definitions.
use Rattle.retro.specs.declared.words.Command.TheVariants as code
use Rattle.retro.specs.declared.words.Command as declared
use Rattle.retro.specs.Words.{Command, Rewrite, Blocks}

abbrev pub asked : declared.Command → Command
asked (code.Rewrite mode name) = Rewrite mode name.now
asked (code.Blocks name) = Blocks name.now
