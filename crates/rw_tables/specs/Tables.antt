-- The jump tables of a file, their words, and the rule on them.
use Rattle.std.specs.Prelude.{ℕ, ◌+◌, ◌-◌, ◌*◌, ◌%◌, ◌^◌, ◌≤◌, List, [], ◌∷◌, take, Bool, false, not, ◌&&◌, ◌==◌, nat_le, nat_lt, Option, Some, None, option_map, slice_get, if◌then◌else◌}
use Rattle.std.specs.List.{dedup, filter_map, list_all, list_any, range_with_len}
use Rattle.std.specs.Option.{option_map_or}
use Rattle.std.specs.Ordering.{is_lt, nat_cmp, ordering_then}
use Rattle.byteorder.specs.Endian.{little_number}
use Rattle.rw_base.specs.declared.fault.Fault.{Fault}
use Rattle.rw_base.specs.declared.fault.Fault.TheVariants.{UnknownTable, BadTable}
use Rattle.rw_base.specs.Order.{ordered}
use Rattle.rw_base.specs.Rules.{Rule, each_of, when}
use Rattle.rw_base.specs.Width.{sign_extended}
use Rattle.rw_elf.specs.declared.section.Section.{Section}
use Rattle.rw_elf.specs.Places.{bytes_at}
use Rattle.rw_elf.specs.Sections.{is_writable}
use Rattle.rw_elf.specs.Tables.{kept_sections}
use Rattle.rw_funcs.specs.Points.{is_point, file_points}
use Rattle.rw_tables.specs.declared.jump.Jump.{Jump}
use Rattle.rw_tables.specs.declared.table.Table.{Table}
use Rattle.rw_tables.specs.Jumps.{jumps_of}

-- ---- words

-- where a word of 4 bytes leads that is a signed distance from the base
abbrev pub word_target : ℕ → List ℕ → ℕ
word_target base word = (base + sign_extended 32 (little_number 4 word)) % 2 ^ 64

-- the same of the word at an address, where the file has its bytes
abbrev pub target_at : List ℕ → ℕ → ℕ → Option ℕ
target_at bytes base a = option_map (word_target base) (bytes_at bytes a 4)

-- it leads to a point
abbrev pub leads : List ℕ → ℕ → ℕ → Bool
leads bytes base a = option_map_or (is_point (file_points bytes)) (target_at bytes base a) false

-- ---- what a table has to be

-- the address behind it
abbrev pub end_of : Table → ℕ
end_of t = t.base + 4 * t.count

-- the section isn't written, and has the whole table
abbrev pub holds : Table → Section → Bool
holds t s = not (is_writable s) && (nat_le s.addr t.base && (nat_lt t.base (s.addr + s.size) && nat_le (end_of t) (s.addr + s.size)))

abbrev pub is_constant : List ℕ → Table → Bool
is_constant bytes t = list_any (holds t) (kept_sections bytes)

-- tables with different bases share a byte
abbrev pub overlaps : Table → Table → Bool
overlaps t u = not (t.base == u.base) && (nat_lt u.base (end_of t) && nat_lt t.base (end_of u))

-- each of its words leads to a point
abbrev pub all_lead : List ℕ → Table → Bool
all_lead bytes t = list_all (λ k. leads bytes t.base (t.base + 4 * k)) (range_with_len 0 t.count)

-- the table lies in constant data, each of its words leads to a point, and it overlaps no earlier one
abbrev pub is_good : List ℕ → List Table → Table → Bool
is_good bytes earlier t = is_constant bytes t && (all_lead bytes t && not (list_any (overlaps t) earlier))

-- ---- the rule of the phase tables

abbrev pub tables_in : List Jump → List Table
tables_in jumps = filter_map (λ j. j.table) jumps

abbrev pub table_fault : List ℕ → List Table → ℕ → Option Table → Option Fault
table_fault bytes earlier a None = Some (UnknownTable a)
table_fault bytes earlier a (Some t) = when (not (is_good bytes earlier t)) (BadTable a)

-- each jump goes through a table, which is good beside those of lower jumps
abbrev pub jump_fault : List ℕ → List Jump → ℕ → Jump → Option Fault
jump_fault bytes jumps k j = table_fault bytes (tables_in (take k jumps)) j.place j.table

unfoldable pub table_rules : List ℕ → List Rule
table_rules bytes = each_of (jumps_of bytes) (jump_fault bytes (jumps_of bytes)) ∷ []

-- ---- the tables of a file

-- how many words a table has less than the largest table
abbrev pub lacking : Table → ℕ
lacking t = 65536 - t.count

-- by base, and of one base the one with the most words first
abbrev pub comes_before : Table → Table → Bool
comes_before t u = is_lt (ordering_then (nat_cmp t.base u.base) (nat_cmp (lacking t) (lacking u)))

abbrev pub same_base : Table → Table → Bool
same_base t u = t.base == u.base

-- the one ends at or below where the other begins
abbrev pub EndsBefore : Table → Table → Type 0
EndsBefore t u = end_of t ≤ u.base

unfoldable pub tables_of : List ℕ → List Table
tables_of bytes = dedup same_base (ordered comes_before (tables_in (jumps_of bytes)))

-- ---- words by address

-- the table has a word that starts at an address
abbrev pub has_word : ℕ → Table → Bool
has_word a t = list_any (λ k. t.base + 4 * k == a) (range_with_len 0 t.count)

-- the point to which this word leads, and the base of its table
abbrev pub entry_of : ℕ → ℕ → ℕ × ℕ
entry_of base target = (target, base)

abbrev pub word_at : List ℕ → ℕ → Table → Option (ℕ × ℕ)
word_at bytes a t = if has_word a t then option_map (entry_of t.base) (target_at bytes t.base a) else None

-- the same of the first of some tables that has a word there
abbrev pub entry_among : List ℕ → List Table → ℕ → Option (ℕ × ℕ)
entry_among bytes tables a = slice_get (filter_map (word_at bytes a) tables) 0

-- the same of the tables of a file, of which one at most has a word there
unfoldable pub entry_at : List ℕ → ℕ → Option (ℕ × ℕ)
entry_at bytes a = entry_among bytes (tables_of bytes) a
