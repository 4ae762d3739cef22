-- The place for the file into which a symbol is copied is a placing, and the place for its text is a layout.
use Rattle.std.proofs.Common.{◌≡◌, [], ◌∷◌, refl}
use Rattle.std.specs.Prelude.{codes}
use Rattle.rw_base.specs.Rules.{first_from}
use Rattle.rw_elf.specs.Number.{number}
use Rattle.rw_elf.specs.Section.{section_at}
use Rattle.rw_elf.specs.Symbols.{of_kind, link_of, symbol_at, symbols_of}
use Rattle.rw_code.specs.Placing.{IsPlacing}
use Rattle.rw_code.specs.Example.{exit_start}
use Rattle.rw_code.proofs.PlacedByTests.{placed-by-tests}
use Rattle.rw_data.specs.Regions.{start_contents}
use Rattle.rw_out.specs.Items.{items_of}
use Rattle.rw_out.specs.Simulates.{names_of, IsTextLayout}
use Rattle.rw_out_examples.specs.CopyExample.{copy_file, copy_ground, copy_layout, copy_placing}
use Rattle.rw_out_examples.proofs.CopyFile.{copy_tables}
use Rattle.rw_out_examples.proofs.CopyItems.{copy_file_items, items-are}
use Rattle.rw_out_examples.proofs.LaidText.{text-by-tests}

pub is-placing : IsPlacing copy_file copy_ground exit_start copy_placing
is-placing = placed-by-tests copy_file copy_tables (start_contents copy_file) exit_start copy_placing refl

-- the text uses the name of the copy alone, and the file imports none
names-are : names_of copy_file copy_file_items ≡ codes "stdout" ∷ []
unfolding symbols_of of_kind link_of symbol_at section_at number first_from
names-are = refl

pub is-layout : IsTextLayout copy_file (items_of copy_file) exit_start copy_layout
is-layout = text-by-tests copy_file (items_of copy_file) copy_file_items (codes "stdout" ∷ []) exit_start copy_layout items-are names-are refl
