-- The names of functions and of imported symbols.
use Rattle.std.specs.Prelude.{ℕ, List, length, slice_index_or, codes, Bool, not, ◌&&◌, ◌||◌, ◌==◌, nat_le}
use Rattle.std.specs.List.{list_all}
use Rattle.std.specs.Str.{bytes_eq}

-- a character of ASCII that is printed, without the blank
abbrev pub is_graphic : ℕ → Bool
is_graphic b = nat_le 0x21 b && nat_le b 0x7e

-- the names that functions of a file may have: 1 to 4,096 bytes, all graphic
unfoldable pub is_good_name : List ℕ → Bool
is_good_name name = nat_le 1 (length name) && nat_le (length name) 4096 && list_all is_graphic name

abbrev pub is_digit : ℕ → Bool
is_digit b = nat_le 48 b && nat_le b 57

abbrev pub is_letter : ℕ → Bool
is_letter b = nat_le 65 b && nat_le b 90 || nat_le 97 b && nat_le b 122

-- a letter, a digit, or one of $ . _
abbrev pub is_name_byte : ℕ → Bool
is_name_byte b = is_letter b || is_digit b || b == 36 || b == 46 || b == 95

-- a digit, $ or .L begins no name: these begin numbers, immediates and labels of a text
abbrev pub begins_a_name : List ℕ → Bool
begins_a_name name =
    let first = slice_index_or name 0 0 in
    not (is_digit first || first == 36 || first == 46 && slice_index_or name 1 0 == 76)

-- the names that a text gives itself
abbrev pub is_own_name : List ℕ → Bool
is_own_name name = bytes_eq name (codes "main") || bytes_eq name (codes "_start") || bytes_eq name (codes "__retro_counts")

-- the names that imported symbols may have
unfoldable pub is_import_name : List ℕ → Bool
is_import_name name = is_good_name name && list_all is_name_byte name && begins_a_name name && not (is_own_name name)
