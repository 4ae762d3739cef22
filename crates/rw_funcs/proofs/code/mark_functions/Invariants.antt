use Rattle.std.proofs.Common.{take}
use Rattle.std.specs.Prelude.{All, option_map}
use Rattle.std.specs.List.{flat_map}
use Rattle.rw_base.specs.declared.fault.Fault.TheVariants.{BadInstruction}
use Rattle.rw_base.proofs.First.{CleanAmong}
use Rattle.rw_elf.specs.declared.symbol.Symbol.{Symbol}
use Rattle.rw_funcs.specs.Found.{HasMarks, HasSectionsOf}
use Rattle.rw_funcs.specs.Points.{points_of, bad_address}
use Rattle.rw_funcs.proofs.FunctionsOf.{points_before}
use Rattle.rw_funcs.proofs.code.mark_functions.Given as goal

abbrev pub ghost-mark_function : goal.ghost-mark_function
ghost-mark_function a = points_before a.elf.now a.function.now.value

abbrev pub invariant-loop-function : goal.invariant-loop-function
invariant-loop-function l = record {
  sections : HasSectionsOf l.elf l.code;
  marked : All (HasMarks (flat_map (points_of l.elf) (take l.function-index l.list))) l.code;
  clean : CleanAmong l.list (λ k (f : Symbol). option_map BadInstruction (bad_address l.elf f)) l.function-index;
}
