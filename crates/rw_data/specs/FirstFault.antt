-- The first fault of a file: phase by phase, and in each the least place of the first rule that finds any.
use Rattle.std.specs.Prelude.{ℕ, List, ◌++◌, Option}
use Rattle.rw_base.specs.declared.fault.Fault.{Fault}
use Rattle.rw_base.specs.Rules.{Rule, first}
use Rattle.rw_elf.specs.Tables.{elf_rules}
use Rattle.rw_reloc.specs.Relocations.{relocation_rules}
use Rattle.rw_funcs.specs.Functions.{function_rules}
use Rattle.rw_funcs.specs.Points.{point_rules}
use Rattle.rw_tables.specs.Tables.{table_rules}
use Rattle.rw_refs.specs.CodeReferences.{code_rules}
use Rattle.rw_refs.specs.DataTargets.{slot_rules}

-- size, header, sections and symbols; relocations; functions; instructions; jump tables; code references; data targets
abbrev pub file_rules : List ℕ → List Rule
file_rules file =
    elf_rules file ++ relocation_rules file ++ function_rules file ++ point_rules file ++ table_rules file ++ code_rules file ++ slot_rules file

abbrev pub first_fault : List ℕ → Option Fault
first_fault file = first (file_rules file)
