-- The jumps of a file that may go through a table: indirect jumps on a register that a 64-bit add wrote last.
use Rattle.std.specs.Prelude.{ℕ, List, flat_map, Option, None, option_map, option_and_then}
use Rattle.std.specs.List.{filter_map}
use Rattle.x86_insn.specs.declared.kinds.Reg.{Reg}
use Rattle.x86_insn.specs.declared.instruction.Insn.{Insn}
use Rattle.x86_insn.specs.declared.instruction.Insn.TheVariants.{JmpTo}
use Rattle.rw_funcs.specs.Functions.{kept_functions}
use Rattle.rw_funcs.specs.Points.{Point, points_of}
use Rattle.rw_tables.specs.declared.jump.Jump.{Jump}
use Rattle.rw_tables.specs.declared.table.Table.{Table}
use Rattle.rw_tables.specs.Dispatch.{below, register_of, sum_in, table_at}

-- the register that an indirect jump goes through
abbrev pub jump_register : Insn ℕ → Option Reg
jump_register (JmpTo to _) = register_of to
jump_register _ = None

abbrev pub jump_to : ℕ → Option Table → Jump
jump_to a table = record { place = a; table = table }

-- the jump through a register at an address, behind these points
abbrev pub jump_through : ℕ → List Point → Reg → Option Jump
jump_through a ps r = option_map (λ sum. jump_to a (table_at a r ps sum)) (sum_in r ps)

abbrev pub jump_behind : List Point → ℕ → Insn ℕ → Option Jump
jump_behind ps a i = option_and_then (jump_through a ps) (jump_register i)

-- the same of a point among those of its function
abbrev pub jump_at : List Point → Point → Option Jump
jump_at ps p = jump_behind (below p.place ps) p.place p.insn

abbrev pub jumps_in : List Point → List Jump
jumps_in ps = filter_map (jump_at ps) ps

-- the jumps of a file, by address
unfoldable pub jumps_of : List ℕ → List Jump
jumps_of bytes = flat_map (λ f. jumps_in (points_of bytes f)) (kept_functions bytes)
