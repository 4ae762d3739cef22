-- The cells of argument words, word by word.
use Rattle.std.proofs.Common.{◌≡◌, ◌≤◌, ◌<◌, ℕ, suc, zero, ◌+◌, ◌*◌, ◌-◌, List, [], ◌∷◌, ◌++◌, length, map, take, drop, slice_get, get_or, sum_by, Some, refl, sym, ◌∙◌, ap, subst, arith, length-append, drop-cons, append_assoc}
use Rattle.std.proofs.lemmas.List.{length-map}
use Rattle.std.proofs.lemmas.List.Sums.{sum_by-cons}
use Rattle.std.specs.Prelude.{String, string_bytes, option_map}
use Rattle.std.specs.declared.alloc.Global.{Global}
use Rattle.std.proofs.Math.ListN.{drop_of_length-le}
use Rattle.std.proofs.lemmas.Option.{slice_get-get_or, slice_get-map}
use Rattle.std.proofs.lemmas.Option.{slice_get_within, get_or_from_slice_get}
use Rattle.rw_words.specs.declared.atom.Atom.TheVariants.{Ptr}
use Rattle.rw_words.specs.declared.atom.Cell.{Cell}
use Rattle.rw_words.specs.declared.atom.Cell.TheVariants.{Num}
use Rattle.rw_words.specs.Words.{atom_cells}
use Rattle.rw_code.specs.Start.{all_words, pointers, text_cells, word_count}
use Rattle.rw_sim.specs.Start.{start_of, start_with}

-- the items from a place on begin with the one there
pub rest-cons : {X : Type 0} (xs : List X) (i : ℕ) (x : X) → slice_get xs i ≡ Some x → drop i xs ≡ x ∷ drop (i + 1) xs
rest-cons xs i x got =
    let low : i < length xs = slice_get_within xs i x got in
    let next : suc i ≡ i + 1 = omega arith in
    drop-cons xs i x low ∙ ap (λ y. y ∷ drop (suc i) xs) (get_or_from_slice_get xs i x x got) ∙ ap (λ n. x ∷ drop n xs) next

pub rest-none : {X : Type 0} (xs : List X) (i : ℕ) → length xs ≤ i → drop i xs ≡ []
rest-none xs i le = drop_of_length-le xs le

abbrev pub size_of : List ℕ → ℕ
size_of word = length word + 1

-- ---- sizes

pub size-more : (words : List (List ℕ)) (i : ℕ) (word : List ℕ) → slice_get words i ≡ Some word → sum_by size_of (drop i words) ≡ length word + 1 + sum_by size_of (drop (i + 1) words)
size-more words i word got = ap (sum_by size_of) (rest-cons words i word got) ∙ sum_by-cons size_of word (drop (i + 1) words)

pub size-none : (words : List (List ℕ)) (i : ℕ) → length words ≤ i → sum_by size_of (drop i words) ≡ 0
size-none words i le = ap (sum_by size_of) (rest-none words i le)

-- there are no more words than they take bytes
pub count-le : (words : List (List ℕ)) → length words ≤ sum_by size_of words
count-le [] = omega arith
count-le (word ∷ words) = let rest = count-le words in let more = sum_by-cons size_of word words in omega (arith, rest, more)

-- ---- pointers

pub pointers-more : (region at i : ℕ) (words : List (List ℕ)) (word : List ℕ) (before : List Cell) → slice_get words i ≡ Some word
    → (before ++ atom_cells (Ptr region at)) ++ pointers region (at + (length word + 1)) (drop (i + 1) words) ≡ before ++ pointers region at (drop i words)
pointers-more region at i words word before got =
    let next : at + (length word + 1) ≡ at + length word + 1 = omega arith in
    append_assoc before (atom_cells (Ptr region at)) (pointers region (at + (length word + 1)) (drop (i + 1) words))
    ∙ ap (λ n. before ++ (atom_cells (Ptr region at) ++ pointers region n (drop (i + 1) words))) next
    ∙ ap (λ ws. before ++ pointers region at ws) (sym (rest-cons words i word got))

pub pointers-none : (region at i : ℕ) (words : List (List ℕ)) (before : List Cell) → length words ≤ i → before ≡ before ++ pointers region at (drop i words)
pointers-none region at i words before le = sym (ap (λ ws. before ++ pointers region at ws) (rest-none words i le) ∙ append-none before)
  where
    append-none : {X : Type 0} (xs : List X) → xs ++ [] ≡ xs
    append-none [] = refl
    append-none (x ∷ xs) = ap (λ ys. x ∷ ys) (append-none xs)

pub pointers-length : (region at : ℕ) (words : List (List ℕ)) → length (pointers region at words) ≡ 8 * length words
pointers-length region at [] = refl
pointers-length region at (word ∷ words) = let rest = pointers-length region (at + length word + 1) words in omega (arith, rest)

-- ---- texts

pub texts-more : (i : ℕ) (words : List (List ℕ)) (word : List ℕ) (before : List Cell) → slice_get words i ≡ Some word
    → ((before ++ map Num word) ++ Num 0 ∷ []) ++ text_cells (drop (i + 1) words) ≡ before ++ text_cells (drop i words)
texts-more i words word before got =
    append_assoc (before ++ map Num word) (Num 0 ∷ []) (text_cells (drop (i + 1) words))
    ∙ append_assoc before (map Num word) (Num 0 ∷ text_cells (drop (i + 1) words))
    ∙ ap (λ ws. before ++ text_cells ws) (sym (rest-cons words i word got))

pub texts-none : (i : ℕ) (words : List (List ℕ)) (before : List Cell) → length words ≤ i → before ≡ before ++ text_cells (drop i words)
texts-none i words before le = sym (ap (λ ws. before ++ text_cells ws) (rest-none words i le) ∙ append-none before)
  where
    append-none : {X : Type 0} (xs : List X) → xs ++ [] ≡ xs
    append-none [] = refl
    append-none (x ∷ xs) = ap (λ ys. x ∷ ys) (append-none xs)

pub texts-length : (words : List (List ℕ)) → length (text_cells words) ≡ sum_by size_of words
texts-length [] = refl
texts-length (word ∷ words) =
    let rest = texts-length words in
    let more = sum_by-cons size_of word words in
    let all = length-append (map Num word) (Num 0 ∷ text_cells words) in
    let text = length-map word Num in
    omega (arith, rest, more, all, text)

-- ---- the words of a call

-- there is one word more than arguments
pub counted : (args : List (String Global)) → word_count (start_with args) ≡ length args + 1
unfolding start_of
counted args = let same = length-map args string_bytes in omega (arith, same)

-- a word behind the program's name is an argument
pub argument-word : (args : List (String Global)) (number : ℕ) (s : String Global) → 0 < number → number - 1 < length args → s ≡ get_or args (number - 1) s → slice_get (all_words (start_with args)) number ≡ Some (string_bytes s)
unfolding start_of
argument-word args zero s some low is = absurd (omega arith)
argument-word args (suc k) s some low is =
    let at : suc k - 1 ≡ k = omega arith in
    slice_get-map string_bytes args k
    ∙ ap (option_map string_bytes) (slice_get-get_or args k s (omega (arith, low)) ∙ ap Some (ap (λ n. get_or args n s) (sym at) ∙ sym is))
