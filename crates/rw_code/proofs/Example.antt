-- The place for the example file is a placing, its start is a start, what that takes of it fits, and its answer is lawful.
use Rattle.std.proofs.Common.{◌≡◌, ℕ, ◌<◌, List, [], ◌∷◌, ◌++◌, map, Bool, true, nat_lt, All, refl, sym, ap, subst, ◌∙◌, lit<}
use Rattle.std.specs.List.{list_all}
use Rattle.std.specs.List.{filter_map}
use Rattle.std.specs.Option.{option_and_then}
use Rattle.std.proofs.lemmas.Bool.{ltb-true, and_parts}
use Rattle.std.proofs.lemmas.List.Elements.{All-nil, All-cons}
use Rattle.rw_base.specs.Order.{ordered}
use Rattle.rw_base.specs.Rules.{first_from}
use Rattle.rw_domain.specs.Placed.{Placed}
use Rattle.rw_domain.specs.LaidOut.{KnownCells}
use Rattle.rw_elf.specs.declared.section.Section.{Section}
use Rattle.rw_elf.specs.Number.{number}
use Rattle.rw_elf.specs.Section.{sections, section_at}
use Rattle.rw_elf.specs.Sections.{placed_sections}
use Rattle.rw_elf.specs.Tables.{kept_sections}
use Rattle.rw_elf.specs.Symbols.{dynamic_symbols, of_kind, symbols_of}
use Rattle.rw_reloc.specs.Entries.{entries}
use Rattle.rw_reloc.specs.declared.slot.Slot.{Slot}
use Rattle.rw_reloc.specs.Slots.{copies_of, slots_of}
use Rattle.rw_funcs.specs.Functions.{entry_of, is_hosted}
use Rattle.rw_elf.specs.Places.{kept_around}
use Rattle.rw_machine.specs.Events.{System}
use Rattle.rw_code.specs.Ground.{Ground, code_ground, copied_region, ground_of, hole_in, kept_region}
use Rattle.rw_code.specs.Known.{Labels, has_address}
use Rattle.rw_code.specs.Replies.{IsWrite, IsLawful}
use Rattle.rw_code.specs.Start.{IsStart}
use Rattle.rw_code.specs.File.{labels_of}
use Rattle.rw_code.specs.Fits.{FitsFile}
use Rattle.rw_code.specs.Placing.{IsPlacing}
use Rattle.rw_code.proofs.KnownTables.{KnownTables}
use Rattle.rw_code.proofs.PlacedByTests.{placed-by-tests}
use Rattle.rw_code.specs.Example.{exit_file, exit_ground, exit_start, exit_placing, exits}

abbrev exit_sections : List Section
exit_sections =
    record { index = 0; name = record { at = 136; len = 0 }; kind = 0; flags = 0; addr = 0; offset = 0; size = 0; link = 0; align = 0 }
    ∷ record { index = 1; name = record { at = 137; len = 5 }; kind = 1; flags = 6; addr = 0x1000; offset = 0x40; size = 9; link = 0; align = 16 }
    ∷ record { index = 2; name = record { at = 143; len = 7 }; kind = 2; flags = 0; addr = 0; offset = 0x50; size = 48; link = 3; align = 8 }
    ∷ record { index = 3; name = record { at = 151; len = 7 }; kind = 3; flags = 0; addr = 0; offset = 0x80; size = 8; link = 0; align = 8 }
    ∷ record { index = 4; name = record { at = 159; len = 9 }; kind = 3; flags = 0; addr = 0; offset = 0x88; size = 33; link = 0; align = 8 } ∷ []

sections-are : sections exit_file ≡ exit_sections
unfolding section_at number first_from
sections-are = refl

none-kept : kept_sections exit_file ≡ []
unfolding kept_sections placed_sections section_at number first_from ordered
none-kept = refl

none-dynamic : dynamic_symbols exit_file ≡ []
unfolding symbols_of of_kind section_at number first_from
none-dynamic = refl

none-copied : copies_of exit_file ≡ []
unfolding copies_of slots_of entries section_at number first_from ordered
none-copied = refl

-- ---- its start

pub tested-all : {A : Type 0} (test : A → Bool) (P : A → Type 0) → ((a : A) → test a ≡ true → P a) → (xs : List A) → list_all test xs ≡ true → All P xs
tested-all test P f [] h = All-nil P
tested-all test P f (x ∷ xs) h = let parts = and_parts (test x) (list_all test xs) h in All-cons P x xs (f x parts.0) (tested-all test P f xs parts.1)

pub is-start : IsStart exit_start
is-start = record {
  bytes = All-nil _;
  short = lit< tt;
  canary = refl;
  canary_bytes = tested-all (λ b. nat_lt b 256) (λ b. b < 256) (λ b h. ltb-true b 256 h) exit_start.canary refl;
  pages = refl;
  least = lit< tt;
  most = lit< tt;
}

-- ---- what the start needs of the file

-- where there are no kept sections and no copies
no_data : (file : List ℕ) (kept : List Section) (copies : List Slot) → Ground
no_data file kept copies = record {
  regions = map kept_region kept ++ map copied_region copies;
  places = map (λ s. s.addr) kept ++ map (λ s. s.address) copies;
  contents = [];
  holes = filter_map (λ c. option_and_then (hole_in file c) (kept_around file c.address)) copies;
  counters = 0;
  hosted = is_hosted file;
  entry = entry_of file;
}

pub code-grounds : (file : List ℕ) → kept_sections file ≡ [] → copies_of file ≡ [] → code_ground file ≡ ground_of file []
unfolding no_data
code-grounds file kept copies = sym (ap (λ k. no_data file k (copies_of file)) kept ∙ ap (no_data file []) copies)

pub fits-file : FitsFile exit_file exit_ground
fits-file = record {
  is_ground = code-grounds exit_file none-kept none-copied;
  sizes = refl;
  atoms = All-nil (KnownCells (has_address (labels_of exit_file exit_ground)));
  met = λ c r o h. cc;
  short = λ c r o h. cc;
}

-- ---- where it lies

abbrev exit_tables : KnownTables exit_file
exit_tables = record { all = exit_sections; kept = []; copies = []; symbols = []; sections_are = sections-are; kept_are = none-kept; copies_are = none-copied; symbols_are = none-dynamic }

pub is-placing : IsPlacing exit_file exit_ground exit_start exit_placing
is-placing = subst (λ g. IsPlacing exit_file g exit_start exit_placing) (sym fits-file.is_ground) (placed-by-tests exit_file exit_tables [] exit_start exit_placing refl)

-- ---- the answer

pub exit-lawful : (labels : Labels) (placed : Placed) → IsLawful labels placed (System 60) exits
exit-lawful labels placed = record {
  wide = refl;
  cells = (tt, (tt, (tt, (tt, (tt, (tt, (tt, (tt, tt))))))));
  scratch = refl;
  writes = All-nil (IsWrite labels placed);
  fresh = tt;
  ending = lit< tt;
}
