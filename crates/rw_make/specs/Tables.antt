-- The bytes of symbol tables and relocation tables.
use Rattle.std.specs.Prelude.{ℕ, ◌+◌, ◌*◌, ◌%◌, ◌^◌, List, [], ◌∷◌, ◌++◌, length, map, replicate}
use Rattle.std.specs.List.{flat_map}
use Rattle.rw_make.specs.Bytes.{half, word, xword, string_table}
use Rattle.rw_make.specs.declared.parts.PartSymbol.{PartSymbol}
use Rattle.rw_make.specs.declared.parts.PartRela.{PartRela}

-- an entry of a symbol table (gABI, "Symbol Table"): st_name, st_info, st_other, st_shndx, st_value, st_size
unfoldable pub symbol_entry : ℕ → PartSymbol → List ℕ
symbol_entry name s = word name ++ (s.bind % 16 * 16 + s.sort % 16) ∷ 0 ∷ [] ++ half s.section ++ xword s.value ++ xword s.size

-- the entries of symbols, the first of which has its name at this place of the string table
unfoldable pub symbol_entries : ℕ → List PartSymbol → List ℕ
symbol_entries name [] = []
symbol_entries name (s ∷ others) = symbol_entry name s ++ symbol_entries (name + length s.name.items + 1) others

-- a symbol table: symbol 0, all whose fields are 0, and then the symbols
unfoldable pub symbol_table : List PartSymbol → List ℕ
symbol_table symbols = replicate 24 0 ++ symbol_entries 1 symbols

-- the names of symbols
abbrev pub symbol_names : List PartSymbol → List ℕ
symbol_names symbols = string_table (map (λ s. s.name.items) symbols)

-- an entry of a relocation table (gABI, "Relocation"): r_offset, r_info, r_addend
unfoldable pub rela_entry : PartRela → List ℕ
rela_entry r = xword r.offset ++ xword (r.sym * 2 ^ 32 + r.kind) ++ xword r.addend

unfoldable pub rela_table : List PartRela → List ℕ
rela_table relas = flat_map rela_entry relas
