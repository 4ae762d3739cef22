-- Tables of relative relocations in compact form (gABI, "Relocation", SHT_RELR): a list of numbers of 8 bytes, each of which
-- names words of 8 bytes. An even number is the address of a word. An odd number is a bitmap of the 63 words from a base on,
-- the lowest of which bit 1 stands for; the base lies behind the last address, and behind the 63 words of each bitmap since.
use Rattle.std.specs.Prelude.{ℕ, ◌+◌, ◌*◌, ◌/◌, ◌%◌, ◌^◌, List, [], ◌∷◌, length, map, filter, take, get_or, Bool, not, ◌&&◌, ◌||◌, ◌==◌, nat_le, Option, if◌then◌else◌}
use Rattle.std.specs.Int.{bit_at}
use Rattle.std.specs.List.{fold, flat_map, list_any, range_with_len}
use Rattle.std.specs.Option.{option_map_or}
use Rattle.rw_base.specs.declared.fault.Fault.{Fault}
use Rattle.rw_base.specs.declared.fault.Fault.TheVariants.{BadHeader}
use Rattle.rw_base.specs.Rules.{Rule, each_of, when}
use Rattle.rw_elf.specs.declared.section.Section.{Section}
use Rattle.rw_elf.specs.Number.{number}
use Rattle.rw_elf.specs.Places.{bytes_at}
use Rattle.rw_elf.specs.Sections.{is_placed}
use Rattle.rw_reloc.specs.declared.entry.Entry.{Entry}

-- it is such a table, and is loaded: SHT_RELR is 19
abbrev pub is_relr : Section → Bool
is_relr s = is_placed s && s.kind == 19

-- its numbers
unfoldable pub relr_number : List ℕ → Section → ℕ → ℕ
relr_number bytes table k = number bytes (table.offset + 8 * k) 8

abbrev pub relr_numbers : List ℕ → Section → List ℕ
relr_numbers bytes table = map (relr_number bytes table) (range_with_len 0 (table.size / 8))

abbrev pub is_address : ℕ → Bool
is_address n = n % 2 == 0

-- a bitmap has the word with a number, from 0 to 62
abbrev pub has_word : ℕ → ℕ → Bool
has_word bitmap i = bit_at bitmap (i + 1) == 1

abbrev pub word_at : ℕ → ℕ → ℕ
word_at base i = base + 8 * i

-- the words that a bitmap has among the first of those from the base on
unfoldable pub words_among : ℕ → ℕ → ℕ → List ℕ
words_among count base bitmap = map (word_at base) (filter (has_word bitmap) (range_with_len 0 count))

-- the words that a number names, where the base is this
unfoldable pub words_named : ℕ → ℕ → List ℕ
words_named base n = if is_address n then n ∷ [] else words_among 63 base n

-- the base behind a number
abbrev pub base_behind : ℕ → ℕ → ℕ
base_behind base n = if is_address n then n + 8 else base + 504

-- the base at a place of a list of numbers
unfoldable pub base_at : List ℕ → ℕ → ℕ
base_at numbers k = fold base_behind 0 (take k numbers)

abbrev pub words_at : List ℕ → ℕ → List ℕ
words_at numbers k = words_named (base_at numbers k) (get_or numbers k 0)

-- the words that a table names, in the order of naming
unfoldable pub relr_words : List ℕ → Section → List ℕ
relr_words bytes table = flat_map (words_at (relr_numbers bytes table)) (range_with_len 0 (length (relr_numbers bytes table)))

-- ---- what they stand for

-- the number of the 8 bytes in place at an address, or 0 where the file has no such bytes
unfoldable pub number_in_place : List ℕ → ℕ → ℕ
number_in_place bytes a = option_map_or (λ word. number word 0 8) (bytes_at bytes a 8) 0

-- a word as an entry: R_X86_64_RELATIVE is 8, and the addend is what stands there
unfoldable pub relative_entry : List ℕ → Section → ℕ → ℕ → Entry
relative_entry bytes table a k = record {
  offset = a;
  kind = 8;
  symbol = 0;
  addend = number_in_place bytes a;
  table = table.index;
  index = k;
}

abbrev pub relative_at : List ℕ → Section → ℕ → Entry
relative_at bytes table k = relative_entry bytes table (get_or (relr_words bytes table) k 0) k

unfoldable pub relative_entries : List ℕ → Section → List Entry
relative_entries bytes table = map (relative_at bytes table) (range_with_len 0 (length (relr_words bytes table)))

-- ---- the rule on their numbers

-- no address of a file is as high
abbrev pub is_too_high : ℕ → Bool
is_too_high a = nat_le (2 ^ 47) a

-- a bitmap stands first, or a word lies too high
abbrev pub is_bad_number : ℕ → ℕ → ℕ → Bool
is_bad_number k base n = (k == 0 && not (is_address n)) || list_any is_too_high (words_named base n)

abbrev pub number_finding : Section → List ℕ → ℕ → ℕ → Option Fault
number_finding table numbers k n = when (is_bad_number k (base_at numbers k) n) (BadHeader (table.offset + 8 * k))

unfoldable pub number_faults : List ℕ → Section → Rule
number_faults bytes table = each_of (relr_numbers bytes table) (number_finding table (relr_numbers bytes table))
