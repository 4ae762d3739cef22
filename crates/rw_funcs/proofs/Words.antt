-- The words of arrays of functions' addresses.
use Rattle.std.proofs.Common.{◌≡◌, ℕ, ◌+◌, ◌*◌, ◌/◌, ◌<◌, ◌≤◌, ◌^◌, true, false, cond, List, [], length, map, get_or, Option, None, Contains, ap, ◌∙◌, arith}
use Rattle.std.specs.List.{flat_map, range_with_len}
use Rattle.std.proofs.lemmas.List.FromFn.{length-map-range_with_len, get_or-map-range_with_len}
use Rattle.rw_base.specs.declared.fault.Fault.{Fault}
use Rattle.rw_base.specs.Rules.{first, first_of, each_of}
use Rattle.rw_elf.specs.declared.section.Section.{Section}
use Rattle.rw_elf.specs.Sections.{placed_sections}
use Rattle.rw_elf.specs.Tables.{elf_rules}
use Rattle.rw_elf.proofs.Around.{placed_from}
use Rattle.rw_funcs.specs.Functions.{array_words, constructors, is_array, word_fault, words_of}
use Rattle.rw_funcs.proofs.Each.{first_ahead}
use Rattle.rw_funcs.proofs.Facts.{placed_ends}

pub no-words : (s : Section) → is_array s ≡ false → words_of s ≡ []
no-words s test = ap (λ t. cond t (map (λ k. s.addr + 8 * k) (range_with_len 0 (s.size / 8))) []) test

pub words-of-array : (s : Section) → is_array s ≡ true → words_of s ≡ map (λ k. s.addr + 8 * k) (range_with_len 0 (s.size / 8))
words-of-array s test = ap (λ t. cond t (map (λ k. s.addr + 8 * k) (range_with_len 0 (s.size / 8))) []) test

pub count-words : (s : Section) → is_array s ≡ true → length (words_of s) ≡ s.size / 8
count-words s test = ap length (words-of-array s test) ∙ length-map-range_with_len (λ k. s.addr + 8 * k) 0 (s.size / 8)

pub nth-word : (s : Section) → is_array s ≡ true → (k : ℕ) → k < s.size / 8 → get_or (words_of s) k 0 ≡ s.addr + 8 * k
nth-word s test k low = ap (λ l. get_or l k 0) (words-of-array s test) ∙ get_or-map-range_with_len (λ j. s.addr + 8 * j) 0 (s.size / 8) k k 0 low (omega arith)

-- what is found at a word
abbrev pub bad_word : List ℕ → ℕ → Option Fault
bad_word bytes a = word_fault bytes 0 a

pub all-words : (bytes : List ℕ) (placed : List Section) → placed ≡ placed_sections bytes → first_ahead (bad_word bytes) words_of placed 0 ≡ first_of (constructors bytes)
unfolding constructors array_words
all-words bytes placed is = ap (λ l. first_of (each_of (flat_map words_of l) (word_fault bytes))) is

pub placed-low : (bytes : List ℕ) (s : Section) → first (elf_rules bytes) ≡ None → Contains (placed_sections bytes) s → s.addr + s.size ≤ 2 ^ 47
placed-low bytes s clean here = let from = placed_from bytes s here in placed_ends bytes s clean from.0 from.1
