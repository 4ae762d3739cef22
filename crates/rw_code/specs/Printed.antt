-- The program that the lines of a text are where it is laid out, and how it starts. What is said here names no file: a text alone
-- says what its program is.
use Rattle.std.specs.Prelude.{◌≡◌, ℕ, ◌+◌, ◌%◌, ◌^◌, Bool, true, false, not, ◌&&◌, List, [], ◌∷◌, ◌++◌, codes, drop, map, position, replicate, slice_get, is_some, Option, Some, None, Result, Ok, if◌then◌else◌, ◌==◌}
use Rattle.std.specs.Str.{bytes_eq}
use Rattle.asm_items.specs.declared.item.Item.TheVariants.{Label, Name}
use Rattle.asm_items.specs.declared.item.Label.TheVariants as label
use Rattle.asm_items.specs.declared.item.Sym.{Sym}
use Rattle.asm_items.specs.Lines.{Items, DataSection, sections_of, size_of, align_of, copies_of, is_copied, counters_size}
use Rattle.asm_items.specs.Layout.{Extent, Layout, symbol_at, section_bytes, printed_insn, labels_before, next_place}
use Rattle.rw_words.specs.declared.atom.Cell.TheVariants.{Num, Undef}
use Rattle.rw_words.specs.Addresses.{Addresses}
use Rattle.rw_domain.specs.declared.cause.Cause.{Cause}
use Rattle.rw_domain.specs.declared.place.Region.{Region}
use Rattle.rw_domain.specs.Placed.{Placed}
use Rattle.rw_machine.specs.declared.goal.Goal.{Goal}
use Rattle.rw_machine.specs.declared.goal.Goal.TheVariants as goal
use Rattle.rw_machine.specs.Program.{Program}
use Rattle.rw_machine.specs.Step.{Machine}
use Rattle.rw_code.specs.declared.point.FilePoint.{FilePoint}
use Rattle.rw_code.specs.declared.point.FilePoint.TheVariants.{At, Past}
use Rattle.rw_code.specs.Ground.{Ground}
use Rattle.rw_code.specs.Start.{Start, regions_of, numbers_placed}
use Rattle.rw_code.specs.Original.{other_goal}
use Rattle.rw_code.specs.Mirrors.{Begins}

-- ---- the program

-- the first instruction, behind its labels, has an address; the items are counted from k on
abbrev pub is_next_at : (ℕ → ℕ) → ℕ → ℕ → Items → Bool
is_next_at address n k items = is_some (printed_insn items) && address (k + labels_before items) == n

-- The first place from which the next instruction is the one at an address, counted from k on: that of its first label, or its own
-- where it has none.
abbrev pub place_from : (ℕ → ℕ) → ℕ → ℕ → Items → Option ℕ
place_from address n k [] = None
place_from address n k (item ∷ items) = if is_next_at address n k (item ∷ items) then Some k else place_from address n (k + 1) items

-- The number of the first of these names that has an address. A copied name is none of them: where it lies there is its copy.
abbrev pub name_at : Items → List (List ℕ) → Layout → ℕ → Option ℕ
name_at items names layout n = position (λ name. not (is_copied items name) && layout.name name == n) names

-- a target is the address of an instruction, that of a name, which is an imported symbol with the name's number, or that of the end
abbrev pub goal_at : ℕ → ℕ → Option ℕ → Option ℕ → Result (Goal ℕ) Cause
goal_at finish n (Some q) name = Ok (goal.At q)
goal_at finish n None name = other_goal finish n name

-- The printed program at a layout that has addresses for these names. Its points are places of items: the machine skips labels
-- to the next instruction.
abbrev pub printed : Items → List (List ℕ) → Layout → Program ℕ (Sym (List ℕ)) ℕ
printed items names layout = record {
  insn = λ q. printed_insn (drop q items);
  next = λ q. next_place items q + 1;
  resolve = λ r direct. symbol_at items layout r;
  target = λ n. goal_at layout.finish n (place_from layout.insn n 0 items) (name_at items names layout n);
  address_of = λ q. layout.insn (next_place items q) % 2 ^ 64;
}

-- ---- its start

-- the place behind the first name that is defined, where the program starts
abbrev pub start_of : Items → ℕ
start_of [] = 0
start_of (Name _ ∷ items) = 1
start_of (_ ∷ items) = 1 + start_of items

-- a C library starts the program where that name is main
abbrev pub is_hosted_text : Items → Bool
is_hosted_text [] = false
is_hosted_text (Name name ∷ items) = bytes_eq name (codes "main")
is_hosted_text (_ ∷ items) = is_hosted_text items

abbrev pub section_region : DataSection → Region
section_region section = record { size = size_of section.lines; align = align_of section.lines; writable = section.writable; zero = false }

-- a copy by its name and size
abbrev pub copy_region : List ℕ × ℕ → Region
copy_region copy = record { size = copy.1; align = 16; writable = true; zero = false }

-- What the lines say of the start: each section has its size, its alignment and whether it may be written, and holds the
-- bytes of its lines at the layout; of copies nothing is known; there are so many bytes of counters, which are 0; and
-- whether a C library starts the program. The text has no addresses of a file.
abbrev pub text_ground : Items → Layout → Ground
text_ground items layout = record {
  regions = map section_region (sections_of items) ++ map copy_region (copies_of items);
  places = [];
  contents = map (λ section. map Num (section_bytes items layout section)) (sections_of items) ++ map (λ copy. replicate copy.1 Undef) (copies_of items);
  holes = [];
  counters = counters_size items;
  hosted = is_hosted_text items;
  entry = start_of items;
}

-- the sizes and alignments of the regions of a run, before any answer brings more
abbrev pub extent_of : Region → Extent
extent_of region = record { size = region.size; align = region.align }

abbrev pub text_extents : Items → Layout → Start → List Extent
text_extents items layout start = map extent_of (regions_of (text_ground items layout) start)

-- A machine starts as the text says: its sections hold exactly the bytes of their lines, the counters are 0, and it is at the
-- label of the function that is entered. Registers, flags, stack, arguments and canary are ones for which those of the start
-- stand, and what that leaves open may be anything.
abbrev pub PrintedBegins : Addresses → Items → Layout → Start → Machine Placed ℕ ℕ ℕ → Type 0
PrintedBegins l items layout start machine =
    Begins l (text_ground items layout) start (numbers_placed (text_ground items layout) start layout.region) (start_of items) machine

-- ---- addresses and names

-- where atoms lie at a layout, when imported symbols have these names by their numbers
abbrev pub layout_addresses : (ℕ → List ℕ) → Layout → Addresses
layout_addresses title layout = record {
  region = layout.region;
  code = λ a. layout.label (label.Code a);
  past = λ s. layout.label (label.Past s);
  import = λ i. layout.name (title i);
  finish = layout.finish;
}

-- two numbers of imported symbols are of one name, where the second is a place in a list of names
abbrev pub IsNamed : (ℕ → List ℕ) → List (List ℕ) → ℕ → ℕ → Type 0
IsNamed title names i j = slice_get names j ≡ Some (title i)

-- the printed program is at the label of a point
abbrev pub IsLabelOf : Items → FilePoint → ℕ → Type 0
IsLabelOf items (At a) q = slice_get items q ≡ Some (Label (label.Code a))
IsLabelOf items (Past start) q = slice_get items q ≡ Some (Label (label.Past start))
