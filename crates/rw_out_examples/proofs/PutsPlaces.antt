-- The place for the file that calls an imported function is a placing, and the place for its text is a layout.
use Rattle.std.proofs.Common.{◌≡◌, ℕ, List, [], ◌∷◌, refl}
use Rattle.std.specs.Prelude.{codes}
use Rattle.rw_base.specs.Rules.{first_from}
use Rattle.rw_elf.specs.Number.{number}
use Rattle.rw_elf.specs.Section.{section_at}
use Rattle.rw_elf.specs.Symbols.{of_kind, link_of, symbol_at, symbols_of}
use Rattle.rw_code.specs.Placing.{IsPlacing}
use Rattle.rw_code.specs.Example.{exit_start}
use Rattle.rw_code.proofs.PlacedByTests.{placed-by-tests}
use Rattle.rw_data.specs.Regions.{start_contents}
use Rattle.rw_out.specs.Items.{items_of}
use Rattle.rw_out.specs.Simulates.{names_of, IsTextLayout}
use Rattle.rw_out_examples.specs.PutsExample.{puts_file, puts_ground, puts_layout, puts_placing}
use Rattle.rw_out_examples.proofs.PutsFile.{puts_tables}
use Rattle.rw_out_examples.proofs.PutsItems.{puts_items, items-are}
use Rattle.rw_out_examples.proofs.LaidText.{text-by-tests}

pub is-placing : IsPlacing puts_file puts_ground exit_start puts_placing
is-placing = placed-by-tests puts_file puts_tables (start_contents puts_file) exit_start puts_placing refl

-- the name that the text uses twice, and the imported ones
abbrev text_names : List (List ℕ)
text_names = codes "puts" ∷ codes "puts" ∷ codes "puts" ∷ codes "__libc_start_main" ∷ []

names-are : names_of puts_file puts_items ≡ text_names
unfolding symbols_of of_kind link_of symbol_at section_at number first_from
names-are = refl

pub is-layout : IsTextLayout puts_file (items_of puts_file) exit_start puts_layout
is-layout = text-by-tests puts_file (items_of puts_file) puts_items text_names exit_start puts_layout items-are names-are refl
