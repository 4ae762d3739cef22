-- The symbolic machine of the file with data asks for exit with the byte that its code loads, and so by the theorem do the original
-- and the printed program.
use Rattle.std.proofs.Common.{◌≡◌, ℕ, List, [], ◌∷◌, map, false, refl, sym, ap, subst, ◌∙◌}
use Rattle.rw_words.specs.declared.atom.Cell.{Cell}
use Rattle.rw_words.specs.declared.atom.Cell.TheVariants.{Num}
use Rattle.rw_domain.specs.Placed.{Placed}
use Rattle.rw_funcs.specs.Functions.{function_at, functions_of}
use Rattle.rw_machine.specs.Program.{Program}
use Rattle.rw_machine.specs.Step.{Machine}
use Rattle.rw_code.specs.declared.point.FilePoint.{FilePoint}
use Rattle.rw_code.specs.Ground.{Ground}
use Rattle.rw_code.specs.Imports.{is_copied}
use Rattle.rw_code.specs.Start.{words_start}
use Rattle.rw_code.specs.File.{refers, symbolic_of, symbolic}
use Rattle.rw_code.specs.Example.{exit_start}
use Rattle.rw_elf.specs.Number.{number}
use Rattle.rw_elf.specs.Section.{section_at}
use Rattle.rw_elf.specs.Places.{kept_around}
use Rattle.rw_elf.specs.Sections.{placed_sections}
use Rattle.rw_elf.specs.Symbols.{of_kind, link_of, symbol_at, symbols_of}
use Rattle.rw_elf.specs.Tables.{kept_sections}
use Rattle.rw_base.specs.Rules.{first_from}
use Rattle.rw_base.specs.Order.{ordered}
use Rattle.rw_reloc.specs.Entries.{entries, entries_in, entry_at}
use Rattle.rw_reloc.specs.Slots.{copies_of, copy_around, slot_of, slots_of}
use Rattle.rw_refs.specs.References.{reference_at}
use Rattle.rw_code.proofs.KnownTables as known
use Rattle.rw_data.specs.Regions.{start_contents}
use Rattle.rw_out_examples.specs.DataExample.{data_bytes, data_file, data_ground}
use Rattle.rw_out_examples.proofs.DataFile.{data_symbol, data_points, functions-are, points-are, entry-is, not-hosted, data_tables}
use Rattle.rw_out_examples.proofs.DataExample.{contents-are}
use Rattle.rw_out_examples.proofs.OneExit.{ExitsAfter, exits-by-steps}

abbrev prog : Program FilePoint ℕ (List Cell)
prog = symbolic_of data_points (function_at data_symbol ∷ []) (refers data_file) (is_copied data_file)

program-is : symbolic data_file ≡ prog
program-is =
    ap (λ ps. symbolic_of ps (functions_of data_file) (refers data_file) (is_copied data_file)) points-are
    ∙ ap (λ fs. symbolic_of data_points (map function_at fs) (refers data_file) (is_copied data_file)) functions-are

abbrev plain_ground : Ground
plain_ground = known.known_ground data_file data_tables (map Num data_bytes ∷ []) false 0x1139

ground-is : data_ground ≡ plain_ground
ground-is = known.ground-is data_file data_tables (start_contents data_file) (map Num data_bytes ∷ []) false 0x1139 contents-are not-hosted entry-is

abbrev first_machine : Machine Placed (List Cell) Cell FilePoint
first_machine = words_start plain_ground exit_start

machine-is : words_start data_ground exit_start ≡ first_machine
machine-is = ap (λ g. words_start g exit_start) ground-is

exits : ExitsAfter prog first_machine 3 7
unfolding reference_at kept_around copy_around copies_of slots_of slot_of entries entries_in entry_at kept_sections placed_sections symbols_of of_kind link_of symbol_at section_at number first_from ordered
exits = exits-by-steps prog first_machine 3 7 refl refl refl

pub file-exits : ExitsAfter (symbolic data_file) (words_start data_ground exit_start) 3 7
file-exits = subst (λ p. ExitsAfter p (words_start data_ground exit_start) 3 7) (sym program-is) (subst (λ m. ExitsAfter prog m 3 7) (sym machine-is) exits)
