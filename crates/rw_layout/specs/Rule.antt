-- The rule by which a program is laid out in memory. Every instruction takes eight bytes.
use Rattle.std.specs.Prelude.{ℕ, ◌+◌, ◌-◌, ◌*◌, ◌^◌, max, Bool, true, false, not, if◌then◌else◌, ◌==◌, List, [], ◌∷◌, ◌++◌, count_by, drop, filter, map, reverse, slice_index, slice_index_or, take, take_while}
use Rattle.std.specs.Int.{next_multiple_of}
use Rattle.std.specs.List.{position_or_len, sum_by}
use Rattle.std.specs.Str.{bytes_eq}
use Rattle.asm_items.specs.declared.item.Item.{Item}
use Rattle.asm_items.specs.declared.item.Item.TheVariants.{TextHead, Label, Ins, SectionHead, CountsHead}
use Rattle.asm_items.specs.declared.item.Label as label_type
use Rattle.asm_items.specs.declared.item.Label.TheVariants as label
use Rattle.asm_items.specs.Lines.{Items, align_of, begins_section, copies_number, copies_of, is_copied, line_size, lines_from, used_names}
use Rattle.asm_items.specs.Layout.{Extent, Layout}
use Rattle.rw_layout.specs.declared.laying.Order.{Order}
use Rattle.rw_layout.specs.declared.laying.Order.TheVariants.{Forward, Reverse}

-- ---- placing one after another

-- where a cursor is behind what was placed at it: at the next multiple of its alignment, and then its size and the gap
abbrev pub behind : (gap cursor : ℕ) → Extent → ℕ
behind gap cursor placed = next_multiple_of cursor placed.align + placed.size + gap

-- the base of each, placed one after another from a cursor on, and where the cursor is in the end
abbrev pub bases_from : (gap cursor : ℕ) → List Extent → List ℕ
bases_from gap cursor [] = []
bases_from gap cursor (placed ∷ others) = next_multiple_of cursor placed.align ∷ bases_from gap (behind gap cursor placed) others

abbrev pub behind_all : (gap cursor : ℕ) → List Extent → ℕ
behind_all gap cursor [] = cursor
behind_all gap cursor (placed ∷ others) = behind_all gap (behind gap cursor placed) others

-- ---- units

-- the bytes that a line takes
abbrev pub placed_size : Item (List ℕ) → ℕ
placed_size (Ins i) = 8
placed_size item = line_size item

abbrev pub placed_size_of : Items → ℕ
placed_size_of lines = sum_by placed_size lines

abbrev pub function_unit : Items → Extent
function_unit lines = record { size = placed_size_of lines; align = 16 }

abbrev pub data_unit : Items → Extent
data_unit lines = record { size = placed_size_of lines; align = max 16 (align_of lines) }

-- the units of a text in its order: the functions, the sections and the counters, each with its lines behind the one that
-- begins it
abbrev pub units_of : Items → List Extent
units_of [] = []
units_of (TextHead ∷ items) = function_unit (lines_from items) ∷ units_of items
units_of (SectionHead n writable nobits ∷ items) = data_unit (lines_from items) ∷ units_of items
units_of (CountsHead ∷ items) = data_unit (lines_from items) ∷ units_of items
units_of (_ ∷ items) = units_of items

abbrev pub first_address : ℕ
first_address = 65536

-- a list in the order of its placing, or back from there
abbrev pub in_order : {A : Type 0} → Order → List A → List A
in_order Forward list = list
in_order Reverse list = reverse list

-- the base of each unit, in the order of the text
abbrev pub unit_bases : Items → Order → ℕ → List ℕ
unit_bases items order gap = in_order order (bases_from gap first_address (in_order order (units_of items)))

abbrev pub behind_units : Items → Order → ℕ → ℕ
behind_units items order gap = behind_all gap first_address (in_order order (units_of items))

-- ---- lines

-- the lines before a place that stand in the same unit, the last first
abbrev pub unit_before : Items → ℕ → Items
unit_before items q = take_while (λ item. not (begins_section item)) (reverse (take q items))

-- how many units begin before a place: a line behind the one that begins its unit stands in the last of them
abbrev pub units_begun : Items → ℕ → ℕ
units_begun items q = count_by begins_section (take q items)

-- a line lies behind the lines of its unit that come before it
abbrev pub line_address : Items → Order → ℕ → ℕ → ℕ
line_address items order gap q = slice_index (unit_bases items order gap) (units_begun items q - 1) + placed_size_of (unit_before items q)

-- ---- labels

abbrev pub same_label : label_type.Label → label_type.Label → Bool
same_label (label.Code a) (label.Code b) = a == b
same_label (label.Past a) (label.Past b) = a == b
same_label (label.Section n) (label.Section m) = n == m
same_label (label.Table a) (label.Table b) = a == b
same_label _ _ = false

abbrev pub is_label_line : label_type.Label → Item (List ℕ) → Bool
is_label_line l (Label m) = same_label l m
is_label_line l _ = false

-- the place of the line that defines a label
abbrev pub label_line : Items → label_type.Label → ℕ
label_line items l = position_or_len (is_label_line l) items

-- ---- copies

abbrev pub copy_extent : List ℕ × ℕ → Extent
copy_extent copy = record { size = copy.1; align = 16 }

abbrev pub copy_bases : Items → Order → ℕ → List ℕ
copy_bases items order gap = bases_from 0 (behind_units items order gap) (map copy_extent (copies_of items))

abbrev pub behind_copies : Items → Order → ℕ → ℕ
behind_copies items order gap = behind_all 0 (behind_units items order gap) (map copy_extent (copies_of items))

-- ---- names

-- each name of a list once, where it comes first
abbrev pub each_once : List (List ℕ) → List (List ℕ)
each_once [] = []
each_once (name ∷ names) = name ∷ filter (λ other. not (bytes_eq other name)) (each_once names)

-- the names without a copy that a line uses, in the order of their first use
abbrev pub own_names : Items → List (List ℕ)
own_names items = each_once (filter (λ name. not (is_copied items name)) (used_names items))

-- the address of the first of them; the others are 16 bytes apart
abbrev pub first_name_address : Items → Order → ℕ → ℕ
first_name_address items order gap = next_multiple_of (behind_copies items order gap) 16

abbrev pub name_address : Items → Order → ℕ → List ℕ → ℕ
name_address items order gap name =
    if is_copied items name
    then slice_index (copy_bases items order gap) (position_or_len (λ copy. bytes_eq copy.0 name) (copies_of items))
    else first_name_address items order gap + 16 * position_or_len (λ other. bytes_eq other name) (own_names items)

-- ---- regions

abbrev pub is_text_head : Item (List ℕ) → Bool
is_text_head TextHead = true
is_text_head _ = false

abbrev pub functions_number : Items → ℕ
functions_number items = count_by is_text_head items

abbrev pub section_bases : Items → Order → ℕ → List ℕ
section_bases items order gap = take (copies_number items) (drop (functions_number items) (unit_bases items order gap))

-- the unit behind the sections, if there are counters; the empty region of a text without them is at the first address
abbrev pub counters_base : Items → Order → ℕ → ℕ
counters_base items order gap = slice_index_or (unit_bases items order gap) (functions_number items + copies_number items) first_address

-- the regions of a text: its sections, copies and counters
abbrev pub region_bases : Items → Order → ℕ → List ℕ
region_bases items order gap = section_bases items order gap ++ copy_bases items order gap ++ counters_base items order gap ∷ []

-- Places that are the same for each text: where a return from the program goes, the canary, the stack and the arguments.
abbrev pub finish_address : ℕ
finish_address = 61440

abbrev pub canary_base : ℕ
canary_base = 57344

abbrev pub stack_base : ℕ
stack_base = 2 ^ 45

abbrev pub arguments_base : ℕ
arguments_base = 2 ^ 45 + 2 ^ 24

-- Regions that come during a run, by their sizes: each is at a multiple of 16, with 16 bytes or more before the next.
abbrev pub first_fresh_base : ℕ
first_fresh_base = 2 ^ 46

abbrev pub fresh_extent : ℕ → Extent
fresh_extent size = record { size = size; align = 16 }

abbrev pub fresh_bases : List ℕ → List ℕ
fresh_bases sizes = bases_from 16 first_fresh_base (map fresh_extent sizes)

-- the bases in a run, in which regions of these sizes come
abbrev pub run_bases : Items → Order → ℕ → List ℕ → List ℕ
run_bases items order gap sizes = region_bases items order gap ++ stack_base ∷ arguments_base ∷ canary_base ∷ fresh_bases sizes

-- ---- the whole

-- the layout by the rule, for a run in which regions of these sizes come
abbrev pub layout_of : Items → Order → ℕ → List ℕ → Layout
layout_of items order gap sizes = record {
  insn = λ q. line_address items order gap q;
  size = λ q. 8;
  label = λ l. line_address items order gap (label_line items l);
  region = λ r. slice_index (run_bases items order gap sizes) r;
  name = λ name. name_address items order gap name;
  finish = finish_address;
}
