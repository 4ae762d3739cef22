-- The map of the words of tables, word by word and table by table.
use Rattle.std.proofs.Common.{◌≡◌, ℕ, zero, suc, ◌+◌, ◌*◌, ◌<◌, ◌==◌, Bool, true, false, ◌||◌, cond, List, [], ◌∷◌, ◌++◌, length, take, get_or, slice_get, Option, Some, None, refl, sym, ap, ◌∙◌, arith}
use Rattle.std.specs.Prelude.{option_map}
use Rattle.std.specs.List.{cons_option, filter_map, list_any, range_with_len}
use Rattle.std.specs.Option.{option_or}
use Rattle.std.specs.BTreeMap.{BTreeMap}
use Rattle.std.proofs.lemmas.Bool.Decides.{nat_tests}
use Rattle.std.proofs.lemmas.List.{take_more}
use Rattle.std.proofs.lemmas.List.Elements.{filter_map-append}
use Rattle.rw_tables.specs.declared.table.Table.{Table}
use Rattle.rw_tables.specs.Entries.{AddsEntry, AddsWords, AreEntriesOf, entry_in}
use Rattle.rw_tables.specs.Tables.{entry_of, has_word, target_at, word_at}
use Rattle.rw_tables.proofs.KnownFacts.{made}
use Rattle.rw_tables.proofs.Nearest.{or-none, or-or}

-- ---- options

or-same : {A : Type 0} (o : Option A) → option_or o o ≡ o
or-same None = refl
or-same (Some x) = refl

-- ---- a word more

any-more : (p : ℕ → Bool) (a n : ℕ) → list_any p (range_with_len a (suc n)) ≡ (list_any p (range_with_len a n) || p (a + n))
any-more p a zero = either-end (p a) ∙ ap p (omega arith)
  where
    either-end : (t : Bool) → (t || false) ≡ t
    either-end true = refl
    either-end false = refl
any-more p a (suc n) =
    ap (λ t. p a || t) (any-more p (a + 1) n ∙ ap (λ k. list_any p (range_with_len (a + 1) n) || p k) (omega arith)) ∙ either-both (p a) (list_any p (range_with_len (a + 1) n)) (p (a + suc n))
  where
    either-both : (t u v : Bool) → (t || (u || v)) ≡ ((t || u) || v)
    either-both true u v = refl
    either-both false u v = refl

same-from : (a b : ℕ) → (a == b) ≡ true → a ≡ b
same-from a b h = grind (arith, nat_tests)

pub no-word : (bytes : List ℕ) (b q : ℕ) (o : Option (ℕ × ℕ)) → o ≡ option_or o (word_at bytes q (made b 0))
no-word bytes b q o = sym (or-none o)

word-more : (bytes : List ℕ) (b k q : ℕ) → word_at bytes q (made b (k + 1)) ≡ option_or (word_at bytes q (made b k)) (cond (b + 4 * k == q) (option_map (entry_of b) (target_at bytes b (b + 4 * k))) None)
word-more bytes b k q =
    let next : k + 1 ≡ suc k = omega arith in
    let last : 0 + k ≡ k = omega arith in
    let starts : ℕ → Bool = λ j. b + 4 * j == q in
    ap (λ t. cond t (led q) None) (ap (λ n. list_any starts (range_with_len 0 n)) next ∙ any-more starts 0 k ∙ ap (λ n. list_any starts (range_with_len 0 k) || starts n) last) ∙ by_tests (has_word q (made b k)) (b + 4 * k == q) refl
  where
    led : ℕ → Option (ℕ × ℕ)
    led a = option_map (entry_of b) (target_at bytes b a)

    by_tests : (t u : Bool) → (b + 4 * k == q) ≡ u → cond (t || u) (led q) None ≡ option_or (cond t (led q) None) (cond u (led (b + 4 * k)) None)
    by_tests true true is = sym (or-same (led q)) ∙ ap (λ a. option_or (led q) (led a)) (sym (same-from (b + 4 * k) q is))
    by_tests true false is = sym (or-none (led q))
    by_tests false true is = ap led (sym (same-from (b + 4 * k) q is))
    by_tests false false is = refl

pub words-more : (bytes : List ℕ) (b k : ℕ) (first old new : BTreeMap ℕ (ℕ × ℕ)) → AddsWords bytes (made b k) first old → AddsEntry old new (b + 4 * k) (option_map (entry_of b) (target_at bytes b (b + 4 * k))) → AddsWords bytes (made b (k + 1)) first new
words-more bytes b k first old new before adds = λ q.
    let here : Option (ℕ × ℕ) = cond (b + 4 * k == q) (option_map (entry_of b) (target_at bytes b (b + 4 * k))) None in
    adds q ∙ ap (λ o. option_or o here) (before q) ∙ or-or (entry_in first q) (word_at bytes q (made b k)) here ∙ ap (option_or (entry_in first q)) (sym (word-more bytes b k q))

-- ---- a table more

first-more : {A : Type 0} (xs : List A) (o : Option A) → slice_get (xs ++ cons_option o []) 0 ≡ option_or (slice_get xs 0) o
first-more [] None = refl
first-more [] (Some x) = refl
first-more (x ∷ xs) o = refl

pub entries-more : (bytes : List ℕ) (tables : List Table) (k : ℕ) (d : Table) (old new : BTreeMap ℕ (ℕ × ℕ)) → k < length tables → AreEntriesOf bytes (take k tables) old → AddsWords bytes (get_or tables k d) old new → AreEntriesOf bytes (take (k + 1) tables) new
entries-more bytes tables k d old new within before adds = λ q.
    let next = word_at bytes q (get_or tables k d) in
    adds q ∙ ap (λ o. option_or o next) (before q) ∙ sym (first-more (filter_map (word_at bytes q) (take k tables)) next)
    ∙ ap (λ xs. slice_get xs 0) (sym (ap (filter_map (word_at bytes q)) (take_more tables k d within) ∙ filter_map-append (word_at bytes q) (take k tables) (get_or tables k d ∷ [])))
