-- An item that is printed is read again, and its line has one line feed, at its end.
use Rattle.std.proofs.Common.{◌≡◌, ℕ, ◌^◌, ◌<◌, ◌≤◌, Bool, true, false, cond, not, ◌&&◌, ◌||◌, Some, None, List, [], ◌∷◌, ◌++◌, length, drop, refl, sym, ap, subst, ◌∙◌, inl, inr, arith, append_assoc, append-nil}
use Rattle.std.specs.List.{list_all}
use Rattle.std.specs.Prelude.{decimal, codes, option_map, unwrap_or, nat_le}
use Rattle.std.specs.Str.{bytes_eq}
use Rattle.std.specs.Cmp.Lexicographic.{bytes_decides}
use Rattle.std.proofs.lemmas.Bool.{and_parts, or_cases, leb-true, ltb-true}
use Rattle.rw_base.specs.Name.{is_good_name, is_graphic, is_import_name, is_name_byte, is_own_name}
use Rattle.x86_insn.specs.Fields.{fits_fields}
use Rattle.x86_insn.specs.References.{references_of}
use Rattle.x86_insn.specs.WellFormed.{is_instruction}
use Rattle.asm_items.specs.declared.item.Label.{Label}
use Rattle.asm_items.specs.declared.item.Label.TheVariants as labels
use Rattle.asm_items.specs.declared.item.Item.{Item}
use Rattle.asm_items.specs.declared.item.Item.TheVariants as items
use Rattle.asm_items.specs.Formed.{is_word, is_byte, is_sym, is_label, is_item}
use Rattle.asm_print.specs.Line.{hex}
use Rattle.asm_print.specs.Text.{sym_text, insn_text, label_text, more_numbers, numbers_text, section_text, body}
use Rattle.asm_print.specs.Pieces.{◌>>=◌, after_prefix, split, pieces, put_first, number_in, narrow}
use Rattle.asm_print.specs.Reading.{comment_in, without_space, numbers_in, with_room, section_kind_in, section_by, section_in, directive_in, defined_by, defined, defined_in, item_by, item_in}
use Rattle.asm_print.proofs.Bytes.{is_word_byte}
use Rattle.asm_print.proofs.Separators.{all-append, all-wider, other, split-at, one-piece, first-piece, no-prefix}
use Rattle.asm_print.proofs.Numbers.{number-decimal, narrow-decimal, number-hex, name-decimal, name-hex, hex-letter}
use Rattle.asm_print.proofs.SymbolsRead.{import-from, sym-again, word-sym}
use Rattle.asm_print.proofs.InsnRead.{insn-again, is_inline, inline-insn, undotted-insn}

-- ---- the names that the text gives itself

module _ (P : List ℕ → Type 0) (main : P (codes "main")) (start : P (codes "_start")) (counts : P (codes "__retro_counts")) where
  spelled : (name word : List ℕ) → bytes_eq name word ≡ true → P word → P name
  spelled name word h p = subst P (sym ((bytes_decides name word).0 h)) p

  own-name : (name : List ℕ) → is_own_name name ≡ true → P name
  own-name name h =
      elim (or_cases (bytes_eq name (codes "main") || bytes_eq name (codes "_start")) (bytes_eq name (codes "__retro_counts")) h) [
        | inr x ↦ spelled name (codes "__retro_counts") x counts
        | inl y ↦ elim (or_cases (bytes_eq name (codes "main")) (bytes_eq name (codes "_start")) y) [
          | inl x ↦ spelled name (codes "main") x main
          | inr x ↦ spelled name (codes "_start") x start
        ]
      ]

kind-again : (name : List ℕ) → is_own_name name ≡ true → item_in (body (items.FuncKind name)) ≡ Some (items.FuncKind name)
unfolding item_in body directive_in split
kind-again name h = own-name (λ n. item_in (body (items.FuncKind n)) ≡ Some (items.FuncKind n)) refl refl refl name h

name-again : (name : List ℕ) → is_own_name name ≡ true → item_in (body (items.Name name)) ≡ Some (items.Name name)
unfolding item_in body defined_in defined split
name-again name h = own-name (λ n. item_in (body (items.Name n)) ≡ Some (items.Name n)) refl refl refl name h

-- ---- comments

copy-again : (name : List ℕ) (size : ℕ) → list_all is_name_byte name ≡ true → size < 2 ^ 64 → item_in (body (items.Copy name size)) ≡ Some (items.Copy name size)
unfolding item_in body comment_in
copy-again name size h small =
    ap (λ t. split 32 t >>= λ x. number_in 10 x.1 >>= λ n. Some (items.Copy x.0 n)) (append_assoc name (codes " ") (decimal size))
    ∙ ap (λ r. r >>= λ (x : List ℕ × List ℕ). number_in 10 x.1 >>= λ n. Some (items.Copy x.0 n)) (split-at is_name_byte 32 refl name (decimal size) h)
    ∙ ap (λ r. r >>= λ n. Some (items.Copy name n)) (number-decimal size small)

-- ---- labels

label-name : (l : Label) → is_label l ≡ true → list_all is_name_byte (label_text l) ≡ true
unfolding label_text
label-name (labels.Code a) h = all-append is_name_byte (codes ".L") (hex a) refl (name-hex a (ltb-true a (2 ^ 64) h))
label-name (labels.Past a) h = all-append is_name_byte (codes ".Lp") (hex a) refl (name-hex a (ltb-true a (2 ^ 64) h))
label-name (labels.Section n) h = let small = ltb-true n (2 ^ 32) h in all-append is_name_byte (codes ".Ls") (decimal n) refl (name-decimal n (omega (arith, small)))
label-name (labels.Table a) h = all-append is_name_byte (codes ".Lt") (hex a) refl (name-hex a (ltb-true a (2 ^ 64) h))

defined-again : (l : Label) → is_label l ≡ true → defined (label_text l) ≡ Some (items.Label l)
unfolding defined label_text
defined-again (labels.Code a) h =
    let small = ltb-true a (2 ^ 64) h in
    let text = codes ".L" ++ hex a in
    ap (λ p. defined_by text p (after_prefix (codes ".Ls") text) (after_prefix (codes ".Lt") text) (Some (hex a))) (hex-letter a 112 small (omega arith) (omega arith))
    ∙ ap (λ s. defined_by text None s (after_prefix (codes ".Lt") text) (Some (hex a))) (hex-letter a 115 small (omega arith) (omega arith))
    ∙ ap (λ t. defined_by text None None t (Some (hex a))) (hex-letter a 116 small (omega arith) (omega arith))
    ∙ ap (option_map (λ n. items.Label (labels.Code n))) (number-hex a small)
defined-again (labels.Past a) h = ap (option_map (λ n. items.Label (labels.Past n))) (number-hex a (ltb-true a (2 ^ 64) h))
defined-again (labels.Section n) h = let small = ltb-true n (2 ^ 32) h in ap (option_map (λ k. items.Label (labels.Section k))) (narrow-decimal 32 n small (omega (arith, small)))
defined-again (labels.Table a) h = ap (option_map (λ n. items.Label (labels.Table n))) (number-hex a (ltb-true a (2 ^ 64) h))

-- a label begins as no comment and no directive does
label-first : (l : Label) → item_in (body (items.Label l)) ≡ defined_in (label_text l ++ codes ":")
unfolding item_in body label_text
label-first (labels.Code a) = refl
label-first (labels.Past a) = refl
label-first (labels.Section n) = refl
label-first (labels.Table a) = refl

label-again : (l : Label) → is_label l ≡ true → item_in (body (items.Label l)) ≡ Some (items.Label l)
unfolding defined_in
label-again l h =
    label-first l ∙ ap (λ r. r >>= λ (x : List ℕ × List ℕ). defined x.0) (split-at is_name_byte 58 refl (label_text l) [] (label-name l h)) ∙ defined-again l h

-- ---- sections and data

section-kind : (writable nobits : Bool) → section_kind_in (section_text writable nobits) ≡ Some (writable, nobits)
unfolding section_kind_in section_text
section-kind true true = refl
section-kind true false = refl
section-kind false true = refl
section-kind false false = refl

section-comma : (writable nobits : Bool) → section_text writable nobits ≡ 44 ∷ drop 1 (section_text writable nobits)
unfolding section_text
section-comma writable nobits = refl

section-behind : (text : List ℕ) (n : ℕ) (writable nobits : Bool) → n < 2 ^ 32 → section_by text (Some (decimal n ++ section_text writable nobits)) ≡ Some (items.SectionHead n writable nobits)
section-behind text n writable nobits small =
    let kind = section_text writable nobits in
    let rest = drop 1 kind in
    let wide : n < 2 ^ 64 = omega (arith, small) in
    ap (λ t. split 44 (decimal n ++ t) >>= λ x. number_in 10 x.0 >>= narrow 32 >>= λ k. section_kind_in (44 ∷ x.1) >>= λ y. Some (items.SectionHead k y.0 y.1)) (section-comma writable nobits)
    ∙ ap (λ r. r >>= λ (x : List ℕ × List ℕ). number_in 10 x.0 >>= narrow 32 >>= λ k. section_kind_in (44 ∷ x.1) >>= λ y. Some (items.SectionHead k y.0 y.1)) (split-at is_name_byte 44 refl (decimal n) rest (name-decimal n wide))
    ∙ ap (λ r. r >>= λ k. section_kind_in (44 ∷ rest) >>= λ y. Some (items.SectionHead k y.0 y.1)) (narrow-decimal 32 n small wide)
    ∙ ap (λ r. r >>= λ (y : Bool × Bool). Some (items.SectionHead n y.0 y.1)) (ap section_kind_in (sym (section-comma writable nobits)) ∙ section-kind writable nobits)

section-again : (n : ℕ) (writable nobits : Bool) → n < 2 ^ 32 → item_in (body (items.SectionHead n writable nobits)) ≡ Some (items.SectionHead n writable nobits)
unfolding item_in body directive_in split section_in
section-again n writable nobits small = section-behind (codes ".retro.s" ++ decimal n ++ section_text writable nobits) n writable nobits small

-- the pieces of the numbers behind the first
abbrev spaced : List ℕ → List (List ℕ)
spaced [] = []
spaced (b ∷ bs) = (32 ∷ decimal b) ∷ spaced bs

small-byte : (b : ℕ) → is_byte b ≡ true → b < 2 ^ 64
small-byte b h = let k = ltb-true b 256 h in omega (arith, k)

narrow-byte : (b : ℕ) → is_byte b ≡ true → (number_in 10 (decimal b) >>= narrow 8) ≡ Some b
narrow-byte b h = let k = ltb-true b 256 h in narrow-decimal 8 b (omega (arith, k)) (omega (arith, k))

number-pieces : (b : ℕ) (bs : List ℕ) → is_byte b ≡ true → list_all is_byte bs ≡ true → pieces 44 (decimal b ++ more_numbers bs) ≡ decimal b ∷ spaced bs
unfolding pieces
number-pieces b [] h k = ap (pieces 44) (append-nil (decimal b)) ∙ one-piece is_name_byte 44 refl (decimal b) (name-decimal b (small-byte b h))
number-pieces b (c ∷ cs) h k =
    let parts = and_parts (is_byte c) (list_all is_byte cs) k in
    first-piece is_name_byte 44 refl (decimal b) (32 ∷ (decimal c ++ more_numbers cs)) (name-decimal b (small-byte b h))
    ∙ ap (λ ps. decimal b ∷ put_first 32 ps) (number-pieces c cs parts.0 parts.1)

spaced-again : (bs : List ℕ) → list_all is_byte bs ≡ true → numbers_in (spaced bs) ≡ Some bs
spaced-again [] h = refl
spaced-again (b ∷ bs) h =
    let parts = and_parts (is_byte b) (list_all is_byte bs) h in
    ap (λ r. r >>= λ n. numbers_in (spaced bs) >>= λ ns. Some (n ∷ ns)) (narrow-byte b parts.0) ∙ ap (λ r. r >>= λ ns. Some (b ∷ ns)) (spaced-again bs parts.1)

-- a number does not begin with a space
no-gap : (b : ℕ) → b < 2 ^ 64 → without_space (decimal b) ≡ decimal b
no-gap b h = ap (λ o. unwrap_or o (decimal b)) (ap (after_prefix (codes " ")) (sym (append-nil (decimal b))) ∙ no-prefix is_name_byte 32 refl (decimal b) [] [] (name-decimal b h) refl)

numbers-again : (bs : List ℕ) → 1 ≤ length bs → list_all is_byte bs ≡ true → numbers_in (pieces 44 (numbers_text bs)) ≡ Some bs
unfolding numbers_text
numbers-again [] some h = absurd (omega (arith, some))
numbers-again (b ∷ bs) some h =
    let parts = and_parts (is_byte b) (list_all is_byte bs) h in
    let small = small-byte b parts.0 in
    ap numbers_in (number-pieces b bs parts.0 parts.1)
    ∙ ap (λ r. r >>= λ n. numbers_in (spaced bs) >>= λ ns. Some (n ∷ ns)) (ap (λ t. number_in 10 t >>= narrow 8) (no-gap b small) ∙ narrow-byte b parts.0)
    ∙ ap (λ r. r >>= λ ns. Some (b ∷ ns)) (spaced-again bs parts.1)

long-again : (c t : ℕ) → c < 2 ^ 64 → t < 2 ^ 64 → item_in (body (items.LongDiff c t)) ≡ Some (items.LongDiff c t)
unfolding item_in body directive_in split
long-again c t h k =
    let behind = λ (x : List ℕ × List ℕ). after_prefix (codes ".Lt") x.1 >>= λ table. number_in 16 x.0 >>= λ m. number_in 16 table >>= λ n. Some (items.LongDiff m n) in
    ap (λ text. split 45 text >>= behind) (append_assoc (hex c) (codes "-.Lt") (hex t))
    ∙ ap (λ r. r >>= behind) (split-at is_name_byte 45 refl (hex c) (codes ".Lt" ++ hex t) (name-hex c h))
    ∙ ap (λ r. r >>= λ m. number_in 16 (hex t) >>= λ n. Some (items.LongDiff m n)) (number-hex c h)
    ∙ ap (λ r. r >>= λ n. Some (items.LongDiff c n)) (number-hex t k)

-- ---- items

pub item-again : (item : Item (List ℕ)) → is_item item ≡ true → item_in (body item) ≡ Some item
unfolding item_in body comment_in directive_in split section_in
item-again (items.Copy name size) h =
    let parts = and_parts (is_import_name name && nat_le 1 size) (is_word size) h in
    copy-again name size (import-from name (and_parts (is_import_name name) (nat_le 1 size) parts.0).0).letters (ltb-true size (2 ^ 64) parts.1)
item-again (items.Comment name) h = refl
item-again (items.Weak name) h = refl
item-again (items.Globl name) h = refl
item-again items.TextHead h = refl
item-again (items.Align k) h = let small = leb-true k 16 h in ap (λ r. r >>= λ n. Some (items.Align n)) (narrow-decimal 8 k (omega (arith, small)) (omega (arith, small)))
item-again (items.FuncKind name) h = kind-again name h
item-again (items.Name name) h = name-again name h
item-again (items.Label l) h = label-again l h
item-again (items.Ins i) h =
    let parts = and_parts (is_instruction i && list_all is_sym (references_of i)) (fits_fields i) h in
    let both = and_parts (is_instruction i) (list_all is_sym (references_of i)) parts.0 in
    ap (λ d. item_by (codes "\t" ++ insn_text i) None d (Some (insn_text i))) (undotted-insn i) ∙ ap (option_map items.Ins) (insn-again i both.0 both.1 parts.1)
item-again (items.SectionHead n writable nobits) h = section-again n writable nobits (ltb-true n (2 ^ 32) h)
item-again (items.Bytes bytes) h =
    let parts = and_parts (nat_le 1 (length bytes.items) && nat_le (length bytes.items) 16) (list_all is_byte bytes.items) h in
    let sizes = and_parts (nat_le 1 (length bytes.items)) (nat_le (length bytes.items) 16) parts.0 in
    ap (λ r. r >>= with_room >>= λ ns. Some (items.Bytes (record { items = ns }))) (numbers-again bytes.items (leb-true 1 (length bytes.items) sizes.0) parts.1)
    ∙ ap (λ t. cond t (Some bytes.items) None >>= λ ns. Some (items.Bytes (record { items = ns }))) sizes.1
item-again (items.Quad s) h = ap (λ r. r >>= λ x. Some (items.Quad x)) (sym-again s h)
item-again (items.LongDiff c t) h = let parts = and_parts (is_word c) (is_word t) h in long-again c t (ltb-true c (2 ^ 64) parts.0) (ltb-true t (2 ^ 64) parts.1)
item-again (items.Zero n) h = ap (λ r. r >>= λ k. Some (items.Zero k)) (number-decimal n (ltb-true n (2 ^ 64) (and_parts (nat_le 1 n) (is_word n) h).1))
item-again items.CountsHead h = refl
item-again items.Tail h = refl

-- ---- no line feed

inline-name : (xs : List ℕ) → list_all is_name_byte xs ≡ true → list_all is_inline xs ≡ true
inline-name xs h = all-wider is_name_byte is_inline (λ b k. ap not (other is_name_byte 10 refl b k)) xs h

inline-import : (name : List ℕ) → is_import_name name ≡ true → list_all is_inline name ≡ true
inline-import name h = inline-name name (import-from name h).letters

inline-good : (name : List ℕ) → is_good_name name ≡ true → list_all is_inline name ≡ true
unfolding is_good_name
inline-good name h = all-wider is_graphic is_inline (λ b k. ap not (other is_graphic 10 refl b k)) name (and_parts (nat_le 1 (length name) && nat_le (length name) 4096) (list_all is_graphic name) h).1

inline-own : (name : List ℕ) → is_own_name name ≡ true → list_all is_inline name ≡ true
inline-own name h = own-name (λ n. list_all is_inline n ≡ true) refl refl refl name h

inline-decimal : (n : ℕ) → n < 2 ^ 64 → list_all is_inline (decimal n) ≡ true
inline-decimal n h = inline-name (decimal n) (name-decimal n h)

inline-hex : (n : ℕ) → n < 2 ^ 64 → list_all is_inline (hex n) ≡ true
inline-hex n h = inline-name (hex n) (name-hex n h)

-- two and three parts
two : (xs ys : List ℕ) → list_all is_inline xs ≡ true → list_all is_inline ys ≡ true → list_all is_inline (xs ++ ys) ≡ true
two xs ys h k = all-append is_inline xs ys h k

no-feed : is_word_byte 10 ≡ false
unfolding is_word_byte
no-feed = refl

inline-word : (b : ℕ) → is_word_byte b ≡ true → is_inline b ≡ true
inline-word b h = ap not (other is_word_byte 10 no-feed b h)

inline-more : (bs : List ℕ) → list_all is_byte bs ≡ true → list_all is_inline (more_numbers bs) ≡ true
inline-more [] h = refl
inline-more (b ∷ bs) h =
    let parts = and_parts (is_byte b) (list_all is_byte bs) h in
    two (codes ", " ++ decimal b) (more_numbers bs) (two (codes ", ") (decimal b) refl (inline-decimal b (small-byte b parts.0))) (inline-more bs parts.1)

inline-numbers : (bs : List ℕ) → list_all is_byte bs ≡ true → list_all is_inline (numbers_text bs) ≡ true
unfolding numbers_text
inline-numbers [] h = refl
inline-numbers (b ∷ bs) h =
    let parts = and_parts (is_byte b) (list_all is_byte bs) h in
    two (decimal b) (more_numbers bs) (inline-decimal b (small-byte b parts.0)) (inline-more bs parts.1)

inline-section : (writable nobits : Bool) → list_all is_inline (section_text writable nobits) ≡ true
unfolding section_text
inline-section true true = refl
inline-section true false = refl
inline-section false true = refl
inline-section false false = refl

-- no line has a line feed but at its end
pub inline-item : (item : Item (List ℕ)) → is_item item ≡ true → list_all is_inline (body item) ≡ true
unfolding body
inline-item (items.Copy name size) h =
    let parts = and_parts (is_import_name name && nat_le 1 size) (is_word size) h in
    let name-parts = and_parts (is_import_name name) (nat_le 1 size) parts.0 in
    two (codes "# copy " ++ name ++ codes " ") (decimal size) (two (codes "# copy " ++ name) (codes " ") (inline-import name name-parts.0) refl) (inline-decimal size (ltb-true size (2 ^ 64) parts.1))
inline-item (items.Comment name) h = inline-good name h
inline-item (items.Weak name) h = inline-import name h
inline-item (items.Globl name) h = inline-own name h
inline-item items.TextHead h = refl
inline-item (items.Align k) h = let small = leb-true k 16 h in inline-decimal k (omega (arith, small))
inline-item (items.FuncKind name) h = two (codes "\t.type " ++ name) (codes ", @function") (inline-own name h) refl
inline-item (items.Name name) h = two name (codes ":") (inline-own name h) refl
inline-item (items.Label l) h = two (label_text l) (codes ":") (inline-name (label_text l) (label-name l h)) refl
inline-item (items.Ins i) h =
    let parts = and_parts (is_instruction i && list_all is_sym (references_of i)) (fits_fields i) h in
    let both = and_parts (is_instruction i) (list_all is_sym (references_of i)) parts.0 in
    inline-insn i both.0 both.1 parts.1
inline-item (items.SectionHead n writable nobits) h =
    let small = ltb-true n (2 ^ 32) h in
    two (codes "\t.section .retro.s" ++ decimal n) (section_text writable nobits) (inline-decimal n (omega (arith, small))) (inline-section writable nobits)
inline-item (items.Bytes bytes) h = inline-numbers bytes.items (and_parts (nat_le 1 (length bytes.items) && nat_le (length bytes.items) 16) (list_all is_byte bytes.items) h).1
inline-item (items.Quad s) h = all-wider is_word_byte is_inline inline-word (sym_text s) (word-sym s h)
inline-item (items.LongDiff c t) h =
    let parts = and_parts (is_word c) (is_word t) h in
    two (codes "\t.long .L" ++ hex c ++ codes "-.Lt") (hex t) (two (codes "\t.long .L" ++ hex c) (codes "-.Lt") (inline-hex c (ltb-true c (2 ^ 64) parts.0)) refl) (inline-hex t (ltb-true t (2 ^ 64) parts.1))
inline-item (items.Zero n) h = inline-decimal n (ltb-true n (2 ^ 64) (and_parts (nat_le 1 n) (is_word n) h).1)
inline-item items.CountsHead h = refl
inline-item items.Tail h = refl
