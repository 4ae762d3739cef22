-- What the example file has, by computing, and that no rule on these parts finds a fault.
use Rattle.std.proofs.Common.{◌≡◌, false, [], ◌∷◌, None, refl, ap, ◌∙◌}
use Rattle.rw_base.specs.Rules.{first_from, first}
use Rattle.rw_base.specs.Order.{ordered}
use Rattle.x86_decode.specs.Fits.{row_of, opcode_row}
use Rattle.x86_decode.specs.Reading.{row_at, window_of}
use Rattle.x86_decode.specs.Value.{signed, value}
use Rattle.x86_bytes.specs.HeadReading.{front_of, head_of}
use Rattle.rw_elf.specs.Number.{number}
use Rattle.rw_elf.specs.Section.{section_at}
use Rattle.rw_elf.specs.Sections.{placed_sections}
use Rattle.rw_base.specs.Name.{is_good_name}
use Rattle.rw_elf.specs.Header as header
use Rattle.rw_elf.specs.Sections as areas
use Rattle.rw_elf.specs.Symbols as names
use Rattle.rw_elf.specs.Tables as tables
use Rattle.rw_elf.specs.Tables.{elf_rules, kept_sections, code_sections}
use Rattle.rw_funcs.specs.Functions as found
use Rattle.rw_elf.specs.Symbols.{of_kind, link_of, symbol_at, symbols_of, symbols}
use Rattle.rw_elf.specs.declared.symbol.Symbol.{Symbol}
use Rattle.rw_funcs.specs.Functions.{kept_functions, ranges, function_symbols, is_function, is_hosted, startup_functions, main_start, entry_of, code_of_symbol, function_rules}
use Rattle.rw_funcs.specs.Points.{points_of, file_points, point_rules, bad_address}
use Rattle.rw_code.proofs.Rows.{exit_points}
use Rattle.rw_refs.specs.CodeReferences.{code_rules, faults_in}
use Rattle.rw_code.specs.Example.{exit_file, exit_ground}

abbrev pub exit_symbol : Symbol
exit_symbol = record { name = record { at = 0x81; len = 6 }; bind = 1; sort = 2; section = 1; value = 0x1000; size = 9 }

pub functions-are : kept_functions exit_file ≡ exit_symbol ∷ []
unfolding kept_functions ranges function_symbols is_function is_hosted startup_functions symbols_of of_kind link_of symbol_at section_at number first_from ordered
functions-are = refl

pub entry-is : entry_of exit_file ≡ 0x1000
unfolding entry_of main_start ranges function_symbols is_function is_hosted startup_functions symbols_of of_kind link_of symbol_at section_at number first_from
entry-is = refl

pub points-are : file_points exit_file ≡ exit_points
unfolding file_points ordered points_of code_of_symbol kept_functions ranges function_symbols is_function is_hosted startup_functions symbols_of of_kind link_of symbol_at section_at number first_from window_of row_at row_of opcode_row value signed front_of head_of
points-are = refl

-- ---- it has no fault

pub elf-clean : first (elf_rules exit_file) ≡ None
unfolding tables.size_rules header.header_rules tables.table_rules tables.section_rules tables.own_fault areas.section_fault lib.Count.ones lib.Count.ones_in tables.no_overlap placed_sections tables.kept_size kept_sections tables.code_size code_sections names.symbol_rules names.table_fault names.symbol_faults is_good_name symbols_of of_kind link_of symbol_at section_at number first_from ordered
elf-clean = refl

pub functions-clean : first (function_rules exit_file) ≡ None
unfolding function_rules found.crossing_functions found.missing_entry found.constructors found.array_words entry_of placed_sections kept_functions ranges function_symbols is_function is_hosted startup_functions symbols_of of_kind link_of symbol_at section_at number first_from ordered
functions-clean = refl

pub points-clean : first (point_rules exit_file) ≡ None
unfolding point_rules bad_address code_of_symbol kept_functions ranges function_symbols is_function is_hosted startup_functions symbols_of of_kind link_of symbol_at section_at number first_from ordered window_of row_at row_of opcode_row value signed front_of head_of
points-clean = refl

pub references-clean : first (code_rules exit_file) ≡ None
unfolding code_rules first_from
references-clean = ap (λ ps. first (faults_in exit_file ps ∷ [])) points-are ∙ refl

-- ---- what a start needs of it

pub not-hosted : is_hosted exit_file ≡ false
unfolding is_hosted function_symbols is_function symbols_of of_kind link_of symbol_at section_at number first_from
not-hosted = refl

pub ground-is : exit_ground ≡ record { regions = []; places = []; contents = []; holes = []; counters = 0; hosted = false; entry = 0x1000 }
ground-is =
    ap (λ t. record { regions = []; places = []; contents = []; holes = []; counters = 0; hosted = t; entry = entry_of exit_file }) not-hosted
    ∙ ap (λ a. record { regions = []; places = []; contents = []; holes = []; counters = 0; hosted = false; entry = a }) entry-is
