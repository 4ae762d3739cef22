-- The symbolic machine of the file with a jump table: with index 1 it goes through the second word and exits with 11 after eleven steps;
-- with index 3, past the bound, it exits with 3 after five.
use Rattle.std.proofs.Common.{◌≡◌, ℕ, List, [], ◌∷◌, map, false, refl, sym, ap, subst, ◌∙◌}
use Rattle.rw_words.specs.declared.atom.Cell.{Cell}
use Rattle.rw_domain.specs.Placed.{Placed}
use Rattle.rw_funcs.specs.Functions.{function_at, functions_of}
use Rattle.rw_funcs.specs.Points.{file_points}
use Rattle.rw_machine.specs.Program.{Program}
use Rattle.rw_machine.specs.Step.{Machine}
use Rattle.rw_code.specs.declared.point.FilePoint.{FilePoint}
use Rattle.rw_code.specs.Ground.{Ground, kept_region}
use Rattle.rw_code.specs.Imports.{is_copied}
use Rattle.rw_code.specs.Start.{words_start}
use Rattle.rw_code.specs.File.{refers, symbolic_of, symbolic}
use Rattle.rw_code.specs.Example.{exit_start}
use Rattle.rw_elf.specs.Number.{number}
use Rattle.rw_elf.specs.Section.{section_at}
use Rattle.rw_elf.specs.Places.{kept_around}
use Rattle.rw_elf.specs.Sections.{placed_sections}
use Rattle.rw_elf.specs.Symbols.{of_kind, link_of, symbol_at, symbols_of}
use Rattle.rw_elf.specs.Tables.{kept_sections}
use Rattle.rw_base.specs.Rules.{first_from}
use Rattle.rw_base.specs.Order.{ordered}
use Rattle.rw_reloc.specs.Entries.{entries, entries_in, entry_at}
use Rattle.rw_reloc.specs.Slots.{copies_of, copy_around, slot_of, slots_of}
use Rattle.x86_decode.specs.Fits.{row_of, opcode_row}
use Rattle.x86_decode.specs.Reading.{row_at, window_of}
use Rattle.x86_decode.specs.Value.{signed, value}
use Rattle.x86_bytes.specs.HeadReading.{front_of, head_of}
use Rattle.rw_funcs.specs.Functions.{kept_functions, ranges, function_symbols, is_function, is_hosted, startup_functions, code_of_symbol}
use Rattle.rw_funcs.specs.Points.{points_of}
use Rattle.rw_refs.specs.References.{reference_at, target_at}
use Rattle.rw_code.proofs.KnownTables as known
use Rattle.rw_data.specs.Regions.{start_contents}
use Rattle.rw_out_examples.specs.JumpExample.{jump_file, jump_file_of, jump_ground, jump_ground_of}
use Rattle.rw_out_examples.proofs.JumpFile.{rodata, jump_symbol, jump_points, functions-are, points-are, entry-is, not-hosted, jump_tables}
use Rattle.rw_out_examples.proofs.JumpText.{jump_cells, contents-are}
use Rattle.rw_out_examples.proofs.OneExit.{ExitsAfter, exits-by-steps}

abbrev prog : ℕ → Program FilePoint ℕ (List Cell)
prog k = symbolic_of (jump_points k) (function_at jump_symbol ∷ []) (refers (jump_file_of k)) (is_copied (jump_file_of k))

program-is : (k : ℕ) → symbolic (jump_file_of k) ≡ prog k
program-is k =
    ap (λ ps. symbolic_of ps (functions_of (jump_file_of k)) (refers (jump_file_of k)) (is_copied (jump_file_of k))) (points-are k)
    ∙ ap (λ fs. symbolic_of (jump_points k) (map function_at fs) (refers (jump_file_of k)) (is_copied (jump_file_of k))) (functions-are k)

abbrev plain_ground : Ground
plain_ground = record { regions = kept_region rodata ∷ []; places = 0x2000 ∷ []; contents = jump_cells ∷ []; holes = []; counters = 0; hosted = false; entry = 0x1000 }

ground-is : (k : ℕ) → jump_ground_of k ≡ plain_ground
ground-is k = known.ground-is (jump_file_of k) (jump_tables k) (start_contents (jump_file_of k)) (jump_cells ∷ []) false 0x1000 (contents-are k) (not-hosted k) (entry-is k)

abbrev first_machine : Machine Placed (List Cell) Cell FilePoint
first_machine = words_start plain_ground exit_start

machine-is : (k : ℕ) → words_start (jump_ground_of k) exit_start ≡ first_machine
machine-is k = ap (λ g. words_start g exit_start) (ground-is k)

-- Of the program it is enough to show this.
file-exits-of : (k n v : ℕ) → ExitsAfter (prog k) first_machine n v → ExitsAfter (symbolic (jump_file_of k)) (words_start (jump_ground_of k) exit_start) n v
file-exits-of k n v exits =
    subst (λ p. ExitsAfter p (words_start (jump_ground_of k) exit_start) n v) (sym (program-is k)) (subst (λ m. ExitsAfter (prog k) m n v) (sym (machine-is k)) exits)

exits : ExitsAfter (prog 1) first_machine 10 11
unfolding target_at file_points points_of code_of_symbol kept_functions ranges function_symbols is_function is_hosted startup_functions window_of row_at row_of opcode_row value signed front_of head_of reference_at kept_around copy_around copies_of slots_of slot_of entries entries_in entry_at kept_sections placed_sections symbols_of of_kind link_of symbol_at section_at number first_from ordered
exits = exits-by-steps (prog 1) first_machine 10 11 refl refl refl

pub file-exits : ExitsAfter (symbolic jump_file) (words_start jump_ground exit_start) 10 11
file-exits = file-exits-of 1 10 11 exits

exits-past : ExitsAfter (prog 3) first_machine 4 3
unfolding target_at file_points points_of code_of_symbol kept_functions ranges function_symbols is_function is_hosted startup_functions window_of row_at row_of opcode_row value signed front_of head_of reference_at kept_around copy_around copies_of slots_of slot_of entries entries_in entry_at kept_sections placed_sections symbols_of of_kind link_of symbol_at section_at number first_from ordered
exits-past = exits-by-steps (prog 3) first_machine 4 3 refl refl refl

pub file-exits-past : ExitsAfter (symbolic (jump_file_of 3)) (words_start (jump_ground_of 3) exit_start) 4 3
file-exits-past = file-exits-of 3 4 3 exits-past
