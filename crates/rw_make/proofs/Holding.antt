-- One section more.
use Rattle.std.proofs.Common.{◌≡◌, ℕ, ◌+◌, ◌*◌, List, [], ◌∷◌, ◌++◌, length, map, refl, sym, ap, ◌∙◌, arith, append_assoc, append-nil, length-append, replicate, add-zero, codes}
use Rattle.std.proofs.lemmas.List.Concat.{flat_map-append}
use Rattle.std.proofs.lemmas.List.{map-append, length-map}
use Rattle.std.specs.List.{flat_map}
use Rattle.rw_make.specs.declared.layout.Layout.{Layout}
use Rattle.rw_make.specs.Bytes.{word, xword, padded, zero_ended, string_table}
use Rattle.rw_make.specs.declared.parts.Parts.{Parts}
use Rattle.rw_make.specs.Image.{Piece, given, made, pieces, tables, names_piece, dynamic_pieces, symbol_pieces, contents_of, section_header, section_headers, header_table}
use Rattle.rw_make.specs.Layout.{Holds}

abbrev pub names_of : List Piece → List ℕ
names_of pieces = flat_map zero_ended (map (λ p. p.name) pieces)

contents_more : (pieces : List Piece) (p : Piece) → contents_of (pieces ++ p ∷ []) ≡ contents_of pieces ++ padded p.contents
unfolding contents_of
contents_more pieces p = flat_map-append (λ q. padded q.contents) pieces (p ∷ []) ∙ ap (λ xs. flat_map (λ q. padded q.contents) pieces ++ xs) (append-nil (padded p.contents))

names_more : (pieces : List Piece) (p : Piece) → string_table (map (λ q. q.name) (pieces ++ p ∷ [])) ≡ string_table (map (λ q. q.name) pieces) ++ zero_ended p.name
unfolding string_table
names_more pieces p =
    ap (λ names. 0 ∷ flat_map zero_ended names) (map-append (λ q. q.name) pieces (p ∷ []))
    ∙ ap (λ xs. 0 ∷ xs) (flat_map-append zero_ended (map (λ q. q.name) pieces) (p.name ∷ []) ∙ ap (λ xs. names_of pieces ++ xs) (append-nil (zero_ended p.name)))

pub headers_split : (name offset : ℕ) (front back : List Piece)
    → section_headers name offset (front ++ back) ≡ section_headers name offset front ++ section_headers (name + length (names_of front)) (offset + length (contents_of front)) back
unfolding section_headers contents_of
headers_split name offset [] back = rw (add-zero name, add-zero offset) refl
headers_split name offset (q ∷ front) back =
    let name' = name + length q.name + 1 in
    let offset' = offset + length (padded q.contents) in
    let header = section_header name offset q in
    let named : name' + length (names_of front) ≡ name + length (zero_ended q.name ++ names_of front) =
    omega (arith, length-append (zero_ended q.name) (names_of front), length-append q.name (0 ∷ [])) in
    let placed : offset' + length (contents_of front) ≡ offset + length (padded q.contents ++ contents_of front) =
    omega (arith, length-append (padded q.contents) (contents_of front)) in
    ap (λ xs. header ++ xs) (headers_split name' offset' front back)
    ∙ sym (append_assoc header (section_headers name' offset' front) _)
    ∙ ap (λ n. (header ++ section_headers name' offset' front) ++ section_headers n (offset' + length (contents_of front)) back) named
    ∙ ap (λ o. (header ++ section_headers name' offset' front) ++ section_headers (name + length (zero_ended q.name ++ names_of front)) o back) placed

headers_more : (name offset : ℕ) (pieces : List Piece) (p : Piece)
    → section_headers name offset (pieces ++ p ∷ []) ≡ section_headers name offset pieces ++ section_header (name + length (names_of pieces)) (offset + length (contents_of pieces)) p
unfolding section_headers
headers_more name offset pieces p =
    headers_split name offset pieces (p ∷ [])
    ∙ ap (λ xs. section_headers name offset pieces ++ xs) (append-nil (section_header (name + length (names_of pieces)) (offset + length (contents_of pieces)) p))

pub holds_none : (layout : Layout) → layout.contents.items ≡ [] → layout.headers.items ≡ replicate 64 0 → layout.names.items ≡ 0 ∷ [] → Holds [] layout
unfolding contents_of header_table section_headers string_table
holds_none layout c h n = record { contents = c; headers = h ∙ sym (append-nil (replicate 64 0)); names = n }

pub holds_more : (pieces : List Piece) (p : Piece) (old new : Layout) → Holds pieces old
    → new.contents.items ≡ old.contents.items ++ padded p.contents
    → new.headers.items ≡ old.headers.items ++ section_header (length old.names.items) (64 + length old.contents.items) p
    → new.names.items ≡ old.names.items ++ zero_ended p.name
    → Holds (pieces ++ p ∷ []) new
unfolding header_table string_table
holds_more pieces p old new holds c h n =
    let named : length old.names.items ≡ 1 + length (names_of pieces) = ap length holds.names ∙ omega arith in
    record {
      contents = c ∙ ap (λ xs. xs ++ padded p.contents) holds.contents ∙ sym (contents_more pieces p);
      headers = rw (h, holds.headers, named, holds.contents) (append_assoc (replicate 64 0) (section_headers 1 64 pieces) _ ∙ ap (λ xs. replicate 64 0 ++ xs) (sym (headers_more 1 64 pieces p)));
      names = n ∙ ap (λ xs. xs ++ zero_ended p.name) holds.names ∙ sym (names_more pieces p);
    }

length-section_header : (name offset : ℕ) (p : Piece) → length (section_header name offset p) ≡ 64
unfolding section_header word xword
length-section_header name offset p = refl

pub length-section_headers : (name offset : ℕ) (pieces : List Piece) → length (section_headers name offset pieces) ≡ 64 * length pieces
unfolding section_headers
length-section_headers name offset [] = refl
length-section_headers name offset (p ∷ others) =
    length-append (section_header name offset p) (section_headers (name + length p.name + 1) (offset + length (padded p.contents)) others)
    ∙ omega (arith, length-section_header name offset p, length-section_headers (name + length p.name + 1) (offset + length (padded p.contents)) others)

pub header_count : (pieces : List Piece) (layout : Layout) → Holds pieces layout → length layout.headers.items ≡ 64 * (length pieces + 1)
unfolding header_table
header_count pieces layout holds =
    ap length holds.headers ∙ length-append (replicate 64 0) (section_headers 1 64 pieces) ∙ omega (arith, length-section_headers 1 64 pieces)

-- the names of sections with that of their own table, as it is made
pub names_piece_is : (pieces : List Piece) (layout : Layout) (names : List ℕ) → Holds pieces layout → names ≡ layout.names.items ++ zero_ended (codes ".shstrtab")
    → made (codes ".shstrtab") 3 0 0 names 0 0 ≡ names_piece pieces
unfolding names_piece string_table
names_piece_is pieces layout names holds is =
    let own = codes ".shstrtab" in
    let others = map (λ p. p.name) pieces in
    let joined : flat_map zero_ended (others ++ own ∷ []) ≡ flat_map zero_ended others ++ zero_ended own =
    flat_map-append zero_ended others (own ∷ []) ∙ ap (λ xs. flat_map zero_ended others ++ xs) (append-nil (zero_ended own)) in
    ap (λ table. made own 3 0 0 table 0 0) (is ∙ ap (λ xs. xs ++ zero_ended own) holds.names ∙ ap (λ xs. 0 ∷ xs) (sym joined))

-- the symbol table behind the sections for dynamic linking
pub linked_more : (pieces : List Piece) (parts : Parts) (layout : Layout) → Holds ((pieces ++ dynamic_pieces (length pieces + 1) parts) ++ symbol_pieces (length (pieces ++ dynamic_pieces (length pieces + 1) parts) + 1) parts) layout
    → Holds (pieces ++ (dynamic_pieces (length pieces + 1) parts ++ symbol_pieces (length pieces + 1 + 3) parts)) layout
unfolding dynamic_pieces
linked_more pieces parts layout holds =
    let dynamic = dynamic_pieces (length pieces + 1) parts in
    let counted : length (pieces ++ dynamic) + 1 ≡ length pieces + 1 + 3 = omega (arith, length-append pieces dynamic) in
    rw (← counted, ← append_assoc pieces dynamic (symbol_pieces (length (pieces ++ dynamic) + 1) parts)) holds

-- all sections of the parts, as they are added
pub whole : (parts : Parts) (layout : Layout) → let named = map given parts.sections.items ++ tables (length (map given parts.sections.items) + 1) parts in Holds (named ++ names_piece named ∷ []) layout → Holds (pieces parts) layout
unfolding pieces
whole parts layout holds = rw (← length-map parts.sections.items given) holds
