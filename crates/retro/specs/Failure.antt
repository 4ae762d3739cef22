-- What a failure of a command says.
use Rattle.std.specs.Prelude.{ℕ, List, codes}
use Rattle.std.specs.declared.io.ErrorKind.{ErrorKind}
use Rattle.std.specs.declared.io.ErrorKind.TheVariants as kinds
use Rattle.retro.specs.declared.failure.Failure.{Failure}
use Rattle.retro.specs.declared.failure.Failure.TheVariants as failure
use Rattle.retro.specs.FaultText.{fault_text}

abbrev pub status : Failure → ℕ
status (failure.Fault f) = 1
status failure.Words = 2
status failure.Read = 3
status failure.Memory = 5

-- why the words of the command line can't be taken, by the kind of the error
abbrev pub words_failure : ErrorKind → Failure
words_failure kinds.OutOfMemory = failure.Memory
words_failure _ = failure.Words

abbrev pub failure_text : Failure → List ℕ
failure_text (failure.Fault f) = fault_text f
failure_text failure.Words = codes "words not understood"
failure_text failure.Read = codes "read fault"
failure_text failure.Memory = codes "out of memory"
