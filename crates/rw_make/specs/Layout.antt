-- A file in the making.
use Rattle.std.specs.Prelude.{◌≡◌, List, map}
use Rattle.rw_make.specs.Bytes.{string_table}
use Rattle.rw_make.specs.Image.{Piece, contents_of, header_table}
use Rattle.rw_make.specs.declared.layout.Section.{Section}
use Rattle.rw_make.specs.declared.layout.Layout.{Layout}

-- a section to add, as a piece of the file
unfoldable pub piece_of : Section → Piece
piece_of s = record {
  name = s.name.now;
  kind = s.kind;
  flags = s.flags;
  addr = s.addr;
  contents = s.contents.now;
  size = s.size;
  link = s.link;
  align = s.align;
  entry_size = s.entry_size;
}

-- these pieces have been added: their contents, headers and names
pub record Holds (pieces : List Piece) (layout : Layout) : Type 0 where
  pub contents : layout.contents.items ≡ contents_of pieces
  pub headers : layout.headers.items ≡ header_table pieces
  pub names : layout.names.items ≡ string_table (map (λ p. p.name) pieces)
