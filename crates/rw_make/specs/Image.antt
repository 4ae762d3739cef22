-- The bytes of a file that is made of parts: the file header, the contents of the sections, the section headers.
use Rattle.std.specs.Prelude.{ℕ, ◌+◌, ◌==◌, ◌&&◌, List, [], ◌∷◌, ◌++◌, length, map, replicate, codes, if◌then◌else◌}
use Rattle.std.specs.List.{flat_map}
use Rattle.rw_make.specs.Bytes.{half, word, xword, next_place, padded, string_table}
use Rattle.rw_make.specs.Tables.{symbol_table, symbol_names, rela_table}
use Rattle.rw_make.specs.declared.parts.PartSection.{PartSection}
use Rattle.rw_make.specs.declared.parts.Parts.{Parts}

-- a section as it is to stand in the file: its name, its bytes, and the fields of its header that don't depend on
-- its place
pub record Piece : Type 0 where
  pub name : List ℕ
  pub kind : ℕ
  pub flags : ℕ
  pub addr : ℕ
  pub contents : List ℕ
  pub size : ℕ
  pub link : ℕ
  pub align : ℕ
  pub entry_size : ℕ

-- a given section: one of type NOBITS, which is 8, has a size and no bytes; one of type RELR, which is 19, has entries of 8
-- bytes
unfoldable pub given : PartSection → Piece
given s = record {
  name = s.name.items;
  kind = s.kind;
  flags = s.flags;
  addr = s.addr;
  contents = if s.kind == 8 then [] else s.bytes.items;
  size = if s.kind == 8 then s.size else length s.bytes.items;
  link = 0;
  align = 16;
  entry_size = if s.kind == 19 then 8 else 0;
}

-- a section that is made, of these bytes: its name, type, flags, address, contents, link and size of an entry
unfoldable pub made : List ℕ → ℕ → ℕ → ℕ → List ℕ → ℕ → ℕ → Piece
made name kind flags addr contents link entry_size = record {
  name = name;
  kind = kind;
  flags = flags;
  addr = addr;
  contents = contents;
  size = length contents;
  link = link;
  align = 8;
  entry_size = entry_size;
}

-- the sections for dynamic linking, of which `first` is the index of the first: types DYNSYM 11, STRTAB 3 and
-- RELA 4, flag ALLOC 2, the addresses from 0x10000000 on, each at the next multiple of 8
unfoldable pub dynamic_pieces : ℕ → Parts → List Piece
dynamic_pieces first parts =
    let symbols = symbol_table parts.dynamic.items in
    let names = symbol_names parts.dynamic.items in
    let relas = rela_table parts.relas.items in
    let names_addr = next_place (0x1000_0000 + length symbols) in
    let relas_addr = next_place (names_addr + length names) in
    made (codes ".dynsym") 11 2 0x1000_0000 symbols (first + 1) 24
    ∷ made (codes ".dynstr") 3 2 names_addr names 0 0
    ∷ made (codes ".rela.dyn") 4 2 relas_addr relas first 24 ∷ []

-- the symbol table, of which `first` is the index, and its names: types SYMTAB 2 and STRTAB 3
unfoldable pub symbol_pieces : ℕ → Parts → List Piece
symbol_pieces first parts =
    made (codes ".symtab") 2 0 0 (symbol_table parts.symbols.items) (first + 1) 24
    ∷ made (codes ".strtab") 3 0 0 (symbol_names parts.symbols.items) 0 0 ∷ []

-- the tables that are made, of which `first` is the index of the first: those for dynamic linking only where there
-- is anything to link
unfoldable pub tables : ℕ → Parts → List Piece
tables first parts =
    if length parts.dynamic.items == 0 && length parts.relas.items == 0 then symbol_pieces first parts
    else dynamic_pieces first parts ++ symbol_pieces (first + 3) parts

-- the names of sections, and that of their own table, which stands behind them
unfoldable pub names_piece : List Piece → Piece
names_piece others =
    made (codes ".shstrtab") 3 0 0 (string_table (map (λ p. p.name) others ++ codes ".shstrtab" ∷ [])) 0 0

-- all sections but the first, which is null, in the order of their indices: the given ones, the tables, the names
unfoldable pub pieces : Parts → List Piece
pieces parts =
    let named = map given parts.sections.items ++ tables (length parts.sections.items + 1) parts in
    named ++ names_piece named ∷ []

-- the contents of the sections, each up to a multiple of 8, where the next one begins
unfoldable pub contents_of : List Piece → List ℕ
contents_of pieces = flat_map (λ p. padded p.contents) pieces

-- a section header (gABI, "Section Header"): sh_name, sh_type, sh_flags, sh_addr, sh_offset, sh_size, sh_link,
-- sh_info, sh_addralign, sh_entsize
unfoldable pub section_header : ℕ → ℕ → Piece → List ℕ
section_header name offset p =
    word name ++ word p.kind ++ xword p.flags ++ xword p.addr ++ xword offset ++ xword p.size
    ++ word p.link ++ word 0 ++ xword p.align ++ xword p.entry_size

-- the headers of sections, the first of which has its name at this place of the string table, and its contents at
-- this offset in the file
unfoldable pub section_headers : ℕ → ℕ → List Piece → List ℕ
section_headers name offset [] = []
section_headers name offset (p ∷ others) =
    section_header name offset p
    ++ section_headers (name + length p.name + 1) (offset + length (padded p.contents)) others

-- all section headers: the null one, and then those of the sections, whose names begin at place 1 of their table,
-- and whose contents begin at 64, behind the file header
unfoldable pub header_table : List Piece → List ℕ
header_table pieces = replicate 64 0 ++ section_headers 1 64 pieces

-- the identification (gABI, "ELF Identification"): magic, class 2, order 1, version 1, and nine zeros
unfoldable pub identification : List ℕ
identification = 0x7f ∷ 0x45 ∷ 0x4c ∷ 0x46 ∷ 2 ∷ 1 ∷ 1 ∷ replicate 9 0

-- the file header (gABI, "ELF Header"): e_ident, e_type 3, e_machine 62, e_version 1, e_entry, e_phoff 0, e_shoff,
-- e_flags 0, e_ehsize 64, e_phentsize 0, e_phnum 0, e_shentsize 64, e_shnum, e_shstrndx
unfoldable pub file_header : ℕ → ℕ → ℕ → ℕ → List ℕ
file_header entry headers_at header_count names_index =
    identification ++ half 3 ++ half 62 ++ word 1 ++ xword entry ++ xword 0 ++ xword headers_at ++ word 0
    ++ half 64 ++ half 0 ++ half 0 ++ half 64 ++ half header_count ++ half names_index

-- the file: its header, the contents, and behind them the section headers
unfoldable pub file_of_pieces : ℕ → List Piece → List ℕ
file_of_pieces entry pieces =
    file_header entry (64 + length (contents_of pieces)) (length pieces + 1) (length pieces)
    ++ contents_of pieces
    ++ header_table pieces

abbrev pub file_of : Parts → List ℕ
file_of parts = file_of_pieces parts.entry (pieces parts)
