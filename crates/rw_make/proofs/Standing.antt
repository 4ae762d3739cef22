-- Where the sections stand.
use Rattle.std.proofs.Common.{◌≡◌, ℕ, ◌+◌, ◌-◌, ◌*◌, List, ◌∷◌, ◌++◌, length, map, take, replicate, refl, sym, ap, ◌∙◌, subst, arith, append_assoc, length-append}
use Rattle.std.proofs.Math.Seq.{take-append_seam, drop-append_seam}
use Rattle.std.proofs.lemmas.List.{map-append}
use Rattle.std.proofs.lemmas.List.Concat.{flat_map-append}
use Rattle.std.specs.List.{flat_map}
use Rattle.rw_make.specs.Bytes.{half, word, xword, padded, zero_ended, string_table, next_place}
use Rattle.rw_make.specs.Image.{Piece, contents_of, section_header, section_headers, header_table, identification, file_header, file_of_pieces}
use Rattle.rw_make.specs.Places.{StandsAt, offset_behind, name_behind}
use Rattle.rw_make.proofs.Holding.{names_of, headers_split, length-section_headers}

stands : (before bytes after : List ℕ) (place : ℕ) → length before ≡ place → StandsAt (before ++ (bytes ++ after)) place bytes
stands before bytes after place at =
    subst (λ n. StandsAt (before ++ (bytes ++ after)) n bytes) at
    (ap (take (length bytes)) (drop-append_seam before (bytes ++ after)) ∙ take-append_seam bytes after)

length-file_header : (entry headers_at count index : ℕ) → length (file_header entry headers_at count index) ≡ 64
unfolding file_header identification half word xword
length-file_header entry headers_at count index = refl

regrouped : (a b c d e f : List ℕ) → (a ++ (b ++ ((c ++ d) ++ e))) ++ f ≡ (a ++ b) ++ (c ++ (d ++ (e ++ f)))
regrouped a b c d e f = simp append_assoc refl

contents_split : (front back : List Piece) (p : Piece) → contents_of (front ++ p ∷ back) ≡ contents_of front ++ (padded p.contents ++ contents_of back)
unfolding contents_of
contents_split front back p = flat_map-append (λ q. padded q.contents) front (p ∷ back)

pub contents_stand : (entry : ℕ) (front back : List Piece) (p : Piece) → StandsAt (file_of_pieces entry (front ++ p ∷ back)) (offset_behind front) p.contents
unfolding file_of_pieces padded
contents_stand entry front back p =
    let all = front ++ p ∷ back in
    let head = file_header entry (64 + length (contents_of all)) (length all + 1) (length all) in
    let zeros = replicate (next_place (length p.contents) - length p.contents) 0 in
    let rest = zeros ++ (contents_of back ++ header_table all) in
    let split : (head ++ contents_of all) ++ header_table all ≡ (head ++ contents_of front) ++ (p.contents ++ rest) =
    ap (λ xs. (head ++ xs) ++ header_table all) (contents_split front back p) ∙ regrouped head (contents_of front) p.contents zeros (contents_of back) (header_table all) in
    let placed : length (head ++ contents_of front) ≡ offset_behind front =
    length-append head (contents_of front) ∙ ap (λ n. n + length (contents_of front)) (length-file_header entry _ _ _) in
    subst (λ file. StandsAt file (offset_behind front) p.contents) (sym split) (stands (head ++ contents_of front) p.contents rest (offset_behind front) placed)

pub name_stands : (front back : List Piece) (p : Piece) → StandsAt (string_table (map (λ q. q.name) (front ++ p ∷ back))) (name_behind front) (zero_ended p.name)
unfolding string_table
name_stands front back p =
    let split : string_table (map (λ q. q.name) (front ++ p ∷ back)) ≡ (0 ∷ names_of front) ++ (zero_ended p.name ++ names_of back) =
    ap (λ names. 0 ∷ flat_map zero_ended names) (map-append (λ q. q.name) front (p ∷ back))
    ∙ ap (λ xs. 0 ∷ xs) (flat_map-append zero_ended (map (λ q. q.name) front) (p.name ∷ map (λ q. q.name) back)) in
    subst (λ table. StandsAt table (name_behind front) (zero_ended p.name)) (sym split) (stands (0 ∷ names_of front) (zero_ended p.name) (names_of back) (name_behind front) refl)

header_table_split : (front back : List Piece) (p : Piece) → (rest : List ℕ) × (header_table (front ++ p ∷ back) ≡ (replicate 64 0 ++ section_headers 1 64 front) ++ (section_header (name_behind front) (offset_behind front) p ++ rest))
unfolding header_table section_headers string_table
header_table_split front back p =
    let name = 1 + length (names_of front) in
    let rest = section_headers (name + length p.name + 1) (offset_behind front + length (padded p.contents)) back in
    let named : name ≡ name_behind front = omega arith in
    (rest, ap (λ xs. replicate 64 0 ++ xs) (headers_split 1 64 front (p ∷ back)) ∙ sym (append_assoc (replicate 64 0) (section_headers 1 64 front) _) ∙ ap (λ n. (replicate 64 0 ++ section_headers 1 64 front) ++ (section_header n (offset_behind front) p ++ rest)) named)

pub header_stands : (entry : ℕ) (front back : List Piece) (p : Piece) → StandsAt (file_of_pieces entry (front ++ p ∷ back))
    (offset_behind (front ++ p ∷ back) + 64 * (length front + 1)) (section_header (name_behind front) (offset_behind front) p)
unfolding file_of_pieces
header_stands entry front back p =
    let all = front ++ p ∷ back in
    let head = file_header entry (64 + length (contents_of all)) (length all + 1) (length all) in
    let header = section_header (name_behind front) (offset_behind front) p in
    let before = (head ++ contents_of all) ++ (replicate 64 0 ++ section_headers 1 64 front) in
    let table = header_table_split front back p in
    let split : (head ++ contents_of all) ++ header_table all ≡ before ++ (header ++ table.0) =
    ap (λ xs. (head ++ contents_of all) ++ xs) table.1 ∙ sym (append_assoc (head ++ contents_of all) (replicate 64 0 ++ section_headers 1 64 front) (header ++ table.0)) in
    let placed : length before ≡ offset_behind all + 64 * (length front + 1) =
    omega (arith, length-append (head ++ contents_of all) (replicate 64 0 ++ section_headers 1 64 front), length-append head (contents_of all), length-append (replicate 64 0) (section_headers 1 64 front), length-file_header entry (64 + length (contents_of all)) (length all + 1) (length all), length-section_headers 1 64 front) in
    subst (λ file. StandsAt file (offset_behind all + 64 * (length front + 1)) header) (sym split) (stands before header table.0 _ placed)
