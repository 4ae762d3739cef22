-- The place for the text of the example file is a layout.
use Rattle.std.proofs.Common.{◌≡◌, [], refl}
use Rattle.rw_base.specs.Rules.{first_from}
use Rattle.rw_elf.specs.Number.{number}
use Rattle.rw_elf.specs.Section.{section_at}
use Rattle.rw_elf.specs.Symbols.{of_kind, link_of, symbol_at, symbols_of}
use Rattle.rw_code.specs.Example.{exit_file, exit_start}
use Rattle.rw_out.specs.Items.{items_of, with_symbols, symbol_named}
use Rattle.rw_out.specs.Simulates.{names_of, IsTextLayout}
use Rattle.rw_out_examples.specs.Example.{exit_layout}
use Rattle.rw_out_examples.proofs.LaidText.{text-by-tests}
use Rattle.rw_out_examples.proofs.Example.{exit_items, items-are}

-- the text uses no names, and the file imports none
names-are : names_of exit_file exit_items ≡ []
unfolding with_symbols symbol_named symbols_of of_kind link_of symbol_at section_at number first_from
names-are = refl

pub is-layout : IsTextLayout exit_file (items_of exit_file) exit_start exit_layout
unfolding with_symbols symbol_named
is-layout = text-by-tests exit_file (items_of exit_file) exit_items [] exit_start exit_layout items-are names-are refl
