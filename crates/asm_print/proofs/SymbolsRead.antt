-- A symbol that is printed is read again.
use Rattle.std.proofs.Common.{◌≡◌, ℕ, ◌*◌, ◌/◌, ◌^◌, ◌<◌, ◌≤◌, Bool, true, false, cond, eqb, not, ◌&&◌, ◌||◌, Option, Some, None, List, [], ◌∷◌, ◌++◌, length, get_or, refl, sym, ap, ◌∙◌, arith, append-nil}
use Rattle.std.specs.List.{list_all}
use Rattle.std.specs.Prelude.{decimal, codes, nat_le}
use Rattle.std.specs.Str.{bytes_eq}
use Rattle.std.proofs.lemmas.Bool.{and_parts, or_parts, not-true, eqb-true, leb-true, ltb-true}
use Rattle.rw_base.specs.Name.{is_good_name, is_graphic, is_import_name, is_name_byte, is_digit, begins_a_name, is_own_name}
use Rattle.asm_items.specs.declared.item.Sym.TheVariants as syms
use Rattle.asm_items.specs.Formed.{is_word, is_half, is_sym}
use Rattle.asm_print.specs.Line.{hex}
use Rattle.asm_print.specs.Text.{sym_text, offset_text}
use Rattle.asm_print.specs.Pieces.{◌>>=◌, after_prefix, split, number_in, narrow}
use Rattle.asm_print.specs.Arguments.{Symbol, with_offset, offset_in, counter_at, named_sym, named_sym_in, section_sym_in, sym_by, sym_in}
use Rattle.asm_print.proofs.Bytes.{is_word_byte, word-from_name}
use Rattle.asm_print.proofs.Separators.{all-append, all-wider, split-at, split-none}
use Rattle.asm_print.proofs.Numbers.{number-decimal, narrow-again, narrow-decimal, number-hex, name-decimal, name-hex, hex-letter}

-- ---- names

pub record IsImport (name : List ℕ) : Type 0 where
  pub letters : list_all is_name_byte name ≡ true
  pub some : 1 ≤ length name
  pub begins : begins_a_name name ≡ true
  pub other : is_own_name name ≡ false

pub import-from : (name : List ℕ) → is_import_name name ≡ true → IsImport name
unfolding is_import_name is_good_name
import-from name h =
    let a = and_parts (is_good_name name && list_all is_name_byte name && begins_a_name name) (not (is_own_name name)) h in
    let b = and_parts (is_good_name name && list_all is_name_byte name) (begins_a_name name) a.0 in
    let c = and_parts (is_good_name name) (list_all is_name_byte name) b.0 in
    let d = and_parts (nat_le 1 (length name) && nat_le (length name) 4096) (list_all is_graphic name) c.0 in
    let e = and_parts (nat_le 1 (length name)) (nat_le (length name) 4096) d.0 in
    record { letters = c.1; some = leb-true 1 (length name) e.0; begins = b.1; other = not-true _ a.1 }

-- how a name begins
pub record Beginning (name : List ℕ) : Type 0 where
  pub digit : is_digit (get_or name 0 0) ≡ false
  pub dollar : eqb (get_or name 0 0) 36 ≡ false
  pub local : (eqb (get_or name 0 0) 46 && eqb (get_or name 1 0) 76) ≡ false

pub beginning : (name : List ℕ) → begins_a_name name ≡ true → Beginning name
beginning name h =
    let x = get_or name 0 0 in
    let a = or_parts (is_digit x || eqb x 36) (eqb x 46 && eqb (get_or name 1 0) 76) (not-true _ h) in
    let b = or_parts (is_digit x) (eqb x 36) a.0 in
    record { digit = b.0; dollar = b.1; local = a.1 }

two-tests : {A : Type 0} (t u : Bool) (r : Option A) → (t && u) ≡ false → cond t (cond u r None) None ≡ None
two-tests true u r e = ap (λ v. cond v r None) e
two-tests false u r e = refl

one-test : {A : Type 0} (t : Bool) → ◌≡◌ {A = Option A} (cond t None None) None
one-test true = refl
one-test false = refl

-- a name is no label's, whatever follows it, if that doesn't begin with L
pub not-local : (name tail p : List ℕ) → 1 ≤ length name → Beginning name → after_prefix (76 ∷ p) tail ≡ None → after_prefix (46 ∷ 76 ∷ p) (name ++ tail) ≡ None
not-local [] tail p some b t = absurd (omega (arith, some))
not-local (x ∷ []) tail p some b t = ap (λ r. cond (eqb x 46) r None) t ∙ one-test (eqb x 46)
not-local (x ∷ y ∷ zs) tail p some b t = two-tests (eqb x 46) (eqb y 76) (after_prefix p (zs ++ tail)) b.local

-- ---- offsets

offset-by : (o : ℕ) (t : Bool) → eqb o 0 ≡ t → offset_text o ≡ cond t [] (codes "+" ++ decimal o)
unfolding offset_text
offset-by o t e = ap (λ u. cond u [] (codes "+" ++ decimal o)) e

offset-case : (front : List ℕ) (o : ℕ) (t : Bool) → eqb o 0 ≡ t → list_all is_name_byte front ≡ true → o < 2 ^ 64 → with_offset (front ++ cond t [] (codes "+" ++ decimal o)) (split 43 (front ++ cond t [] (codes "+" ++ decimal o))) ≡ Some (front, o)
offset-case front o true e h small =
    ap (λ s. with_offset (front ++ []) s) (ap (split 43) (append-nil front) ∙ split-none is_name_byte 43 refl front h) ∙ ap (λ t. Some (t, 0)) (append-nil front) ∙ ap (λ k. Some (front, k)) (sym (eqb-true o 0 e))
offset-case front o false e h small =
    ap (with_offset (front ++ 43 ∷ decimal o)) (split-at is_name_byte 43 refl front (decimal o) h) ∙ ap (λ r. r >>= λ n. Some (front, n)) (number-decimal o small)

offset-again : (front : List ℕ) (o : ℕ) → list_all is_name_byte front ≡ true → o < 2 ^ 64 → offset_in (front ++ offset_text o) ≡ Some (front, o)
unfolding offset_in
offset-again front o h small = ap (λ t. with_offset (front ++ t) (split 43 (front ++ t))) (offset-by o (eqb o 0) refl) ∙ offset-case front o (eqb o 0) refl h small

tail-case : (o : ℕ) (t : Bool) (p : List ℕ) → after_prefix (76 ∷ p) (cond t [] (codes "+" ++ decimal o)) ≡ None
tail-case o true p = refl
tail-case o false p = refl

tail-no : (o : ℕ) (p : List ℕ) → after_prefix (76 ∷ p) (offset_text o) ≡ None
tail-no o p = ap (after_prefix (76 ∷ p)) (offset-by o (eqb o 0) refl) ∙ tail-case o (eqb o 0) p

-- ---- symbols

named-again : (name : List ℕ) (o : ℕ) → IsImport name → o < 2 ^ 64 → named_sym_in (name ++ offset_text o) ≡ Some (syms.Named name o)
named-again name o h small =
    let counts = or_parts (bytes_eq name (codes "main") || bytes_eq name (codes "_start")) (bytes_eq name (codes "__retro_counts")) h.other in
    ap (λ r. r >>= named_sym) (offset-again name o h.letters small) ∙ ap (λ t. cond t (counter_at o) (Some (syms.Named name o))) counts.1

eighth : (k : ℕ) → 8 * k / 8 ≡ k
eighth k = omega arith

counter-again : (k : ℕ) → k < 2 ^ 32 → named_sym_in (codes "__retro_counts" ++ offset_text (8 * k)) ≡ Some (syms.Counter k)
counter-again k h =
    ap (λ r. r >>= named_sym) (offset-again (codes "__retro_counts") (8 * k) refl (omega (arith, h)))
    ∙ ap (λ j. narrow 32 j >>= λ i. Some (syms.Counter i)) (eighth k)
    ∙ ap (λ r. r >>= λ i. Some (syms.Counter i)) (narrow-again 32 k h)

section-again : (n o : ℕ) → n < 2 ^ 32 → o < 2 ^ 64 → section_sym_in (decimal n ++ offset_text o) ≡ Some (syms.Section n o)
section-again n o h k =
    ap (λ r. r >>= λ (x : List ℕ × ℕ). number_in 10 x.0 >>= narrow 32 >>= λ m. Some (syms.Section m x.1)) (offset-again (decimal n) o (name-decimal n (omega (arith, h))) k)
    ∙ ap (λ r. r >>= λ m. Some (syms.Section m o)) (narrow-decimal 32 n h (omega (arith, h)))

pub sym-again : (s : Symbol) → is_sym s ≡ true → sym_in (sym_text s) ≡ Some s
unfolding sym_in sym_text
sym-again (syms.Code a) h =
    let small = ltb-true a (2 ^ 64) h in
    ap (λ r. sym_by (codes ".L" ++ hex a) r (Some (hex a))) (hex-letter a 115 small (omega arith) (omega arith)) ∙ ap (λ r. r >>= λ (k : ℕ). Some (syms.Code k)) (number-hex a small)
sym-again (syms.Section n o) h =
    let parts = and_parts (is_half n) (is_word o) h in
    section-again n o (ltb-true n (2 ^ 32) parts.0) (ltb-true o (2 ^ 64) parts.1)
sym-again (syms.Named name o) h =
    let parts = and_parts (is_import_name name) (is_word o) h in
    let import = import-from name parts.0 in
    let begins = beginning name import.begins in
    ap (λ r. sym_by (name ++ offset_text o) r (after_prefix (codes ".L") (name ++ offset_text o))) (not-local name (offset_text o) (115 ∷ []) import.some begins (tail-no o (115 ∷ [])))
    ∙ ap (λ r. sym_by (name ++ offset_text o) None r) (not-local name (offset_text o) [] import.some begins (tail-no o []))
    ∙ named-again name o import (ltb-true o (2 ^ 64) parts.1)
sym-again (syms.Counter k) h = counter-again k (ltb-true k (2 ^ 32) h)

-- ---- the bytes of a symbol

word-name : (name : List ℕ) → list_all is_name_byte name ≡ true → list_all is_word_byte name ≡ true
word-name name h = all-wider is_name_byte is_word_byte word-from_name name h

word-plus : list_all is_word_byte (codes "+") ≡ true
unfolding is_word_byte
word-plus = refl

word-case : (o : ℕ) (t : Bool) → o < 2 ^ 64 → list_all is_word_byte (cond t [] (codes "+" ++ decimal o)) ≡ true
word-case o true h = refl
word-case o false h = all-append is_word_byte (codes "+") (decimal o) word-plus (word-name (decimal o) (name-decimal o h))

word-offset : (o : ℕ) → o < 2 ^ 64 → list_all is_word_byte (offset_text o) ≡ true
word-offset o h = ap (list_all is_word_byte) (offset-by o (eqb o 0) refl) ∙ word-case o (eqb o 0) h

word-local : (list_all is_word_byte (codes ".L") ≡ true) × (list_all is_word_byte (codes ".Ls") ≡ true) × (list_all is_word_byte (codes "__retro_counts") ≡ true)
unfolding is_word_byte
word-local = (refl, refl, refl)

pub word-sym : (s : Symbol) → is_sym s ≡ true → list_all is_word_byte (sym_text s) ≡ true
unfolding sym_text
word-sym (syms.Code a) h = all-append is_word_byte (codes ".L") (hex a) word-local.0 (word-name (hex a) (name-hex a (ltb-true a (2 ^ 64) h)))
word-sym (syms.Section n o) h =
    let parts = and_parts (is_half n) (is_word o) h in
    let small = ltb-true n (2 ^ 32) parts.0 in
    all-append is_word_byte (codes ".Ls" ++ decimal n) (offset_text o) (all-append is_word_byte (codes ".Ls") (decimal n) word-local.1 (word-name (decimal n) (name-decimal n (omega (arith, small))))) (word-offset o (ltb-true o (2 ^ 64) parts.1))
word-sym (syms.Named name o) h =
    let parts = and_parts (is_import_name name) (is_word o) h in
    all-append is_word_byte name (offset_text o) (word-name name (import-from name parts.0).letters) (word-offset o (ltb-true o (2 ^ 64) parts.1))
word-sym (syms.Counter k) h =
    let small = ltb-true k (2 ^ 32) h in
    all-append is_word_byte (codes "__retro_counts") (offset_text (8 * k)) word-local.2 (word-offset (8 * k) (omega (arith, small)))
