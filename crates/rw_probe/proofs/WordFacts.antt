-- The tables of a file without a fault: where they end, and where their words lead.
use Rattle.std.proofs.Common.{◌≡◌, ℕ, zero, suc, ◌+◌, ◌*◌, ◌<◌, ◌≤◌, ◌^◌, ◌==◌, Bool, true, false, List, [], ◌∷◌, length, take, get_or, not, slice_get, Option, Some, None, refl, sym, ap, ◌∙◌, arith}
use Rattle.std.specs.Prelude.{option_and_then, option_map, if◌then◌else◌}
use Rattle.std.specs.List.{Contains, filter_map, range_with_len, cons_option}
use Rattle.std.specs.Option.{option_map_or}
use Rattle.std.proofs.lemmas.Bool.{eqb-true}
use Rattle.std.proofs.lemmas.List.Elements.{Contains-get_or}
use Rattle.std.proofs.lemmas.List.Folds.{Any-from_list_any}
use Rattle.std.proofs.lemmas.List.FromFn.{length-range_with_len, get_or-range_with_len}
use Rattle.std.proofs.lemmas.List.Kept.{Contains-from_dedup}
use Rattle.std.proofs.lemmas.List.Sorted.{Contains-permutation, IsPermutation-sym}
use Rattle.std.proofs.lemmas.Option.{slice_get-get_or}
use Rattle.rw_base.specs.declared.fault.Fault.{Fault}
use Rattle.rw_base.specs.Order.{ordered}
use Rattle.rw_base.specs.Rules.{each_of, finding_at, first, when}
use Rattle.rw_base.proofs.First.{first_from-none}
use Rattle.rw_base.proofs.Ordered.{permutation-ordered}
use Rattle.rw_elf.specs.Tables.{elf_rules}
use Rattle.rw_funcs.specs.Points.{file_points, is_point}
use Rattle.rw_tables.specs.declared.table.Table.{Table}
use Rattle.rw_tables.specs.Jumps.{jump_to, jumps_of}
use Rattle.rw_tables.specs.Tables.{comes_before, end_of, entry_at, entry_of, has_word, is_good, jump_fault, leads, same_base, table_fault, table_rules, tables_in, tables_of, target_at, word_at}
use Rattle.rw_tables.proofs.KnownMore.{all-each}
use Rattle.rw_tables.proofs.TableFacts.{constant-ends, first-tables}
use Rattle.rw_words.proofs.WordLemmas.{and-first, and-second}

abbrev pub no_table : Table
no_table = record { base = 0; count = 0 }

-- what is in a list of some results comes from an item
FromItem : {A T : Type 0} → (A → Option T) → List A → T → A → Type 0
FromItem f xs t d = (k : ℕ) × (k < length xs) × (f (get_or xs k d) ≡ Some t)

later-item : {A T : Type 0} (f : A → Option T) (x : A) (xs : List A) (t : T) (d : A) → FromItem f xs t d → FromItem f (x ∷ xs) t d
unfolding FromItem
later-item f x xs t d r = (suc r.0, (let low = r.1 in omega (arith, low)), r.2)

first-or-later : {A T : Type 0} (f : A → Option T) (x : A) (xs : List A) (t : T) (d : A) (o : Option T) → f x ≡ o → Contains (cons_option o (filter_map f xs)) t → (Contains (filter_map f xs) t → FromItem f xs t d) → FromItem f (x ∷ xs) t d
unfolding FromItem
first-or-later f x xs t d None e here later = later-item f x xs t d (later here)
first-or-later f x xs t d (Some y) e (zero, low, same) later = (0, (let n : 0 < length (x ∷ xs) = omega arith in n), e ∙ ap Some same)
first-or-later f x xs t d (Some y) e (suc k, low, same) later = later-item f x xs t d (later (k, omega (arith, low), same))

from-some : {A T : Type 0} (f : A → Option T) (xs : List A) (t : T) (d : A) → Contains (filter_map f xs) t → FromItem f xs t d
from-some f [] t d here = let low = here.1 in absurd (omega (arith, low))
from-some f (x ∷ xs) t d here = first-or-later f x xs t d (f x) refl here (λ h. from-some f xs t d h)

-- each table is good beside earlier ones
none-when : (t : Bool) (f : Fault) → when t f ≡ None → t ≡ false
none-when true f h = absurd (cc)
none-when false f h = refl

not-false : (t : Bool) → not t ≡ false → t ≡ true
not-false true h = refl
not-false false h = absurd (cc)

listed : (bytes : List ℕ) (t : Table) → Contains (tables_of bytes) t → Contains (tables_in (jumps_of bytes)) t
unfolding tables_of
listed bytes t here =
    Contains-permutation (ordered comes_before (tables_in (jumps_of bytes))) (tables_in (jumps_of bytes)) t (IsPermutation-sym _ _ (permutation-ordered comes_before (tables_in (jumps_of bytes))))
    (Contains-from_dedup same_base (ordered comes_before (tables_in (jumps_of bytes))) t here)

good-table : (bytes : List ℕ) (t : Table) → first (table_rules bytes) ≡ None → Contains (tables_of bytes) t → (earlier : List Table) × (is_good bytes earlier t ≡ true)
unfolding FromItem
good-table bytes t clean here =
    let from = from-some (λ j. j.table) (jumps_of bytes) t (jump_to 0 None) (listed bytes t here) in
    let k = from.0 in
    let within = from.1 in
    let finding = jump_fault bytes (jumps_of bytes) in
    let rule = first-tables bytes (jumps_of bytes) refl ∙ clean in
    let none = first_from-none (finding_at (each_of (jumps_of bytes) (jump_fault bytes (jumps_of bytes)))) 0 (length (jumps_of bytes)) rule from.0 (omega arith) (omega (arith, within)) in
    let fault = sym (ap (option_and_then (jump_fault bytes (jumps_of bytes) from.0)) (slice_get-get_or (jumps_of bytes) from.0 (jump_to 0 None) within)) ∙ none in
    let judged : table_fault bytes (tables_in (take from.0 (jumps_of bytes))) (get_or (jumps_of bytes) from.0 (jump_to 0 None)).place (Some t) ≡ None =
    ap (table_fault bytes (tables_in (take from.0 (jumps_of bytes))) (get_or (jumps_of bytes) from.0 (jump_to 0 None)).place) (sym from.2) ∙ fault in
    (tables_in (take from.0 (jumps_of bytes)), not-false _ (none-when _ _ judged))

pub table-ends : (bytes : List ℕ) (t : Table) → first (elf_rules bytes) ≡ None → first (table_rules bytes) ≡ None → Contains (tables_of bytes) t → end_of t ≤ 2 ^ 47
table-ends bytes t file clean here =
    let good = good-table bytes t clean here in
    constant-ends bytes t file (and-first _ _ good.1)

-- ---- where words lead

word-leads : (bytes : List ℕ) (t : Table) (k : ℕ) → first (table_rules bytes) ≡ None → Contains (tables_of bytes) t → k < t.count → leads bytes t.base (t.base + 4 * k) ≡ true
word-leads bytes t k clean here low =
    let good = good-table bytes t clean here in
    all-each (λ j. leads bytes t.base (t.base + 4 * j)) t.count (and-first _ _ (and-second _ _ good.1)) k low

led-to-point : (bytes : List ℕ) (b : ℕ) (o : Option ℕ) (e : ℕ × ℕ) → option_map (entry_of b) o ≡ Some e → option_map_or (is_point (file_points bytes)) o false ≡ true → is_point (file_points bytes) e.0 ≡ true
led-to-point bytes b None e same h = absurd (cc)
led-to-point bytes b (Some n) e same h = let target : n ≡ e.0 = cc in ap (is_point (file_points bytes)) (sym target) ∙ h

word-to-point : (bytes : List ℕ) (a : ℕ) (t : Table) (e : ℕ × ℕ) → first (table_rules bytes) ≡ None → Contains (tables_of bytes) t → word_at bytes a t ≡ Some e → is_point (file_points bytes) e.0 ≡ true
word-to-point bytes a t e clean here word = by_test (has_word a t) refl word
  where
    by_test : (b : Bool) → has_word a t ≡ b → (if b then option_map (entry_of t.base) (target_at bytes t.base a) else None) ≡ Some e → is_point (file_points bytes) e.0 ≡ true
    by_test false has w = absurd (cc)
    by_test true has w =
        let found = Any-from_list_any (λ k. t.base + 4 * k == a) (range_with_len 0 t.count) has in
        let size = length-range_with_len 0 t.count in
        let within = found.2 in
        let number = sym found.3 ∙ get_or-range_with_len 0 t.count found.0 found.1 (omega (arith, size, within)) in
        let low : found.1 < t.count = omega (arith, size, within, number) in
        let place : t.base + 4 * found.1 ≡ a = eqb-true _ _ found.4 in
        led-to-point bytes t.base (target_at bytes t.base a) e w (sym (ap (leads bytes t.base) place) ∙ word-leads bytes t found.1 clean here low)

first-in : {A : Type 0} (xs : List A) (x : A) → slice_get xs 0 ≡ Some x → Contains xs x
first-in [] x h = absurd (cc)
first-in (y ∷ ys) x h = let same : y ≡ x = cc in (0, (let n : 0 < length (y ∷ ys) = omega arith in n), same)

pub entry-to-point : (bytes : List ℕ) (a : ℕ) (e : ℕ × ℕ) → first (table_rules bytes) ≡ None → entry_at bytes a ≡ Some e → is_point (file_points bytes) e.0 ≡ true
unfolding FromItem entry_at
entry-to-point bytes a e clean h =
    let from = from-some (word_at bytes a) (tables_of bytes) e no_table (first-in (filter_map (word_at bytes a) (tables_of bytes)) e h) in
    word-to-point bytes a (get_or (tables_of bytes) from.0 no_table) e clean (Contains-get_or (tables_of bytes) from.0 no_table from.1) from.2
