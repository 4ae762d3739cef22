-- The place for the hosted file into which a symbol is copied is a placing, and the place for its text is a layout.
use Rattle.std.proofs.Common.{◌≡◌, ℕ, List, [], ◌∷◌, refl}
use Rattle.std.specs.Prelude.{codes}
use Rattle.rw_base.specs.Rules.{first_from}
use Rattle.rw_elf.specs.Number.{number}
use Rattle.rw_elf.specs.Section.{section_at}
use Rattle.rw_elf.specs.Symbols.{of_kind, link_of, symbol_at, symbols_of}
use Rattle.rw_code.specs.Placing.{IsPlacing}
use Rattle.rw_code.specs.Example.{exit_start}
use Rattle.rw_code.proofs.PlacedByTests.{placed-by-tests}
use Rattle.rw_data.specs.Regions.{start_contents}
use Rattle.rw_out.specs.Items.{items_of}
use Rattle.rw_out.specs.Simulates.{names_of, IsTextLayout}
use Rattle.rw_out_examples.specs.CopyHostedExample.{hosted_file, hosted_ground, hosted_layout, hosted_placing}
use Rattle.rw_out_examples.proofs.CopyHostedFile.{hosted_tables}
use Rattle.rw_out_examples.proofs.CopyHostedItems.{hosted_items, items-are}
use Rattle.rw_out_examples.proofs.LaidText.{text-by-tests}

pub is-placing : IsPlacing hosted_file hosted_ground exit_start hosted_placing
is-placing = placed-by-tests hosted_file hosted_tables (start_contents hosted_file) exit_start hosted_placing refl

-- the names that the text uses, and the imported ones
abbrev text_names : List (List ℕ)
text_names =
    codes "stdout" ∷ codes "puts" ∷ codes "putchar" ∷ codes "puts" ∷ codes "putchar" ∷ codes "puts" ∷ codes "putchar" ∷ codes "__libc_start_main" ∷ []

names-are : names_of hosted_file hosted_items ≡ text_names
unfolding symbols_of of_kind link_of symbol_at section_at number first_from
names-are = refl

pub is-layout : IsTextLayout hosted_file (items_of hosted_file) exit_start hosted_layout
is-layout = text-by-tests hosted_file (items_of hosted_file) hosted_items text_names exit_start hosted_layout items-are names-are refl
