-- Names by first appearance.
use Rattle.std.proofs.Common.{◌≡◌, ℕ, suc, ◌+◌, ◌<◌, ◌≤◌, Bool, true, false, cond, ◌&&◌, ◌||◌, List, [], ◌∷◌, ◌++◌, length, filter, map, take, get_or, Some, None, refl, sym, ap, subst, ◌∙◌, append_assoc, append-nil, arith}
use Rattle.std.specs.Prelude.{flat_map, position}
use Rattle.std.specs.List.{AllByRecursion, fold, list_any, position_or_len}
use Rattle.std.specs.Str.{bytes_eq}
use Rattle.std.specs.Cmp.Lexicographic.{bytes_decides}
use Rattle.std.proofs.lemmas.List.Folds.{list_any-append}
use Rattle.std.proofs.Math.Seq.{take-suc}
use Rattle.std.proofs.lemmas.Bool.{ltb-true}
use Rattle.std.proofs.lemmas.Grind.{flat_map-append}
use Rattle.std.proofs.lemmas.List.{map-append, take_all}
use Rattle.std.proofs.lemmas.List.Sums.{fold-append, passes_at_first}
use Rattle.asm_items.specs.declared.item.Item.{Item}
use Rattle.asm_items.proofs.Numbers.{absent, any-place, present}
use Rattle.asm_items.specs.Names.{with_name}
use Rattle.rw_out.specs.Plan.{by_appearance, has, item_names, names_of}
use Rattle.asm_items.specs.Lines.{used_names}
use Rattle.rw_elf.specs.declared.section.NameAt.{NameAt}
use Rattle.rw_elf.specs.declared.symbol.Symbol.{Symbol}
use Rattle.rw_elf.specs.Symbols.{dynamic_symbols}
use Rattle.rw_reloc.specs.Targets.{is_undefined}
use Rattle.rw_funcs.specs.Functions.{name_of_symbol}
use Rattle.rw_out.specs.Items.{Probes, is_weak, is_weakly_used, main_items, weakly_used}
use Rattle.rw_out.specs.Positions.{AreWeakAmong, IsWeak, is_weak_among}
use Rattle.rw_out.specs.Uses.{names_used}

or-false : (b : Bool) → (b || false) ≡ b
or-false true = refl
or-false false = refl

or-true : (b : Bool) → (b || true) ≡ true
or-true true = refl
or-true false = refl

or-assoc : (a b c : Bool) → ((a || b) || c) ≡ (a || (b || c))
or-assoc true b c = refl
or-assoc false b c = refl

module _ (n : List ℕ) where
  abbrev among : List (List ℕ) → Bool
  among = list_any (bytes_eq n)

  by-equal : (names : List (List ℕ)) (m : List ℕ) (t : Bool) → bytes_eq n m ≡ t → list_any (bytes_eq m) names ≡ true → among names ≡ (among names || t)
  by-equal names m true e h =
      let same : n ≡ m = (bytes_decides n m).0 e in
      let there : among names ≡ true = subst (λ x. list_any (bytes_eq x) names ≡ true) (sym same) h in
      there ∙ sym (or-true (among names))
  by-equal names m false e h = sym (or-false (among names))

  by-found : (names : List (List ℕ)) (m : List ℕ) (t : Bool) → list_any (bytes_eq m) names ≡ t → among (cond t names (names ++ m ∷ [])) ≡ (among names || bytes_eq n m)
  by-found names m true h = by-equal names m (bytes_eq n m) refl h
  by-found names m false h = list_any-append (bytes_eq n) names (m ∷ []) ∙ ap (λ t. among names || t) (or-false (bytes_eq n m))

  pub any-with : (names : List (List ℕ)) (m : List ℕ) → among (with_name names m) ≡ (among names || bytes_eq n m)
  any-with names m = by-found names m (list_any (bytes_eq m) names) refl

  pub any-fold : (names xs : List (List ℕ)) → among (fold with_name names xs) ≡ (among names || among xs)
  any-fold names [] = sym (or-false (among names))
  any-fold names (x ∷ xs) = any-fold (with_name names x) xs ∙ ap (λ t. t || among xs) (any-with names x) ∙ or-assoc (among names) (bytes_eq n x) (among xs)

  pub any-appears : (xs : List (List ℕ)) → among (by_appearance xs) ≡ among xs
  any-appears xs = any-fold [] xs

-- ---- to put names in again

by-seen : (acc seen : List (List ℕ)) (b : List ℕ) (t : Bool) → list_any (bytes_eq b) seen ≡ t → with_name (fold with_name acc seen) b ≡ fold with_name acc (cond t seen (seen ++ b ∷ []))
by-seen acc seen b true h =
    let there : list_any (bytes_eq b) (fold with_name acc seen) ≡ true = any-fold b acc seen ∙ ap (λ t. list_any (bytes_eq b) acc || t) h ∙ or-true (list_any (bytes_eq b) acc) in
    ap (λ t. cond t (fold with_name acc seen) (fold with_name acc seen ++ b ∷ [])) there
by-seen acc seen b false h = sym (fold-append with_name acc seen (b ∷ []))

one-again : (acc seen : List (List ℕ)) (b : List ℕ) → with_name (fold with_name acc seen) b ≡ fold with_name acc (with_name seen b)
one-again acc seen b = by-seen acc seen b (list_any (bytes_eq b) seen) refl

pub again : (acc seen bs : List (List ℕ)) → fold with_name (fold with_name acc seen) bs ≡ fold with_name acc (fold with_name seen bs)
again acc seen [] = refl
again acc seen (b ∷ bs) = ap (λ names. fold with_name names bs) (one-again acc seen b) ∙ again acc (with_name seen b) bs

-- ---- names that are among others

self-equal : (n : List ℕ) → bytes_eq n n ≡ true
self-equal n = (bytes_decides n n).1 refl

-- each of these is among them, behind some and before others
pub all-among : (names front xs back : List (List ℕ)) → names ≡ by_appearance (front ++ (xs ++ back)) → AllByRecursion (has names) xs
all-among names front [] back e = tt
all-among names front (x ∷ xs) back e =
    let here : list_any (bytes_eq x) names ≡ true =
    ap (list_any (bytes_eq x)) e ∙ (any-appears x (front ++ (x ∷ xs ++ back)) ∙ (list_any-append (bytes_eq x) front (x ∷ xs ++ back)
    ∙ (ap (λ t. list_any (bytes_eq x) front || (t || list_any (bytes_eq x) (xs ++ back))) (self-equal x) ∙ or-true (list_any (bytes_eq x) front)))) in
    (here, all-among names (front ++ x ∷ []) xs back (e ∙ ap by_appearance (sym (append_assoc front (x ∷ []) (xs ++ back)))))

-- ---- the number of a name

pub found-name : (names : List (List ℕ)) (name : List ℕ) (i : ℕ) → position (bytes_eq name) names ≡ Some i → get_or names i [] ≡ name
found-name names name i h =
    let there = present (bytes_eq name) names i h in
    let inside : position_or_len (bytes_eq name) names < length names = ltb-true (position_or_len (bytes_eq name) names) (length names) (sym (any-place (bytes_eq name) names) ∙ there.0) in
    ap (λ k. get_or names k []) (sym there.1) ∙ sym ((bytes_decides name (get_or names (position_or_len (bytes_eq name) names) [])).0 (passes_at_first (bytes_eq name) names [] inside))

pub not-found : (names : List (List ℕ)) (name : List ℕ) → position (bytes_eq name) names ≡ None → list_any (bytes_eq name) names ≡ false
not-found names name h = absent (bytes_eq name) names h

-- ---- the names of the items of a list, one item after another

pub names-more : {A : Type 0} (f : A → Item (List ℕ)) (g : A → List ℕ) (xs : List A) (i : ℕ) (d : A) (start : List (List ℕ)) → ((x : A) → item_names (f x) ≡ g x ∷ []) → i < length xs
    → with_name (fold with_name start (flat_map item_names (map f (take i xs)))) (g (get_or xs i d)) ≡ fold with_name start (flat_map item_names (map f (take (i + 1) xs)))
names-more f g xs i d start same low =
    let next : suc i ≡ i + 1 = omega arith in
    let x = get_or xs i d in
    let cut : take (i + 1) xs ≡ take i xs ++ x ∷ [] = ap (λ k. take k xs) (sym next) ∙ take-suc xs i d low in
    let last : flat_map item_names (f x ∷ []) ≡ g x ∷ [] = ap (λ ns. ns ++ []) (same x) in
    let whole : flat_map item_names (map f (take (i + 1) xs)) ≡ flat_map item_names (map f (take i xs)) ++ g x ∷ [] =
    ap (λ ys. flat_map item_names (map f ys)) cut ∙ (ap (flat_map item_names) (map-append f (take i xs) (x ∷ [])) ∙ (flat_map-append item_names (map f (take i xs)) (f x ∷ []) ∙ ap (λ ns. flat_map item_names (map f (take i xs)) ++ ns) last)) in
    sym (ap (fold with_name start) whole ∙ fold-append with_name start (flat_map item_names (map f (take i xs))) (g x ∷ []))

pub names-whole : {A : Type 0} (f : A → Item (List ℕ)) (xs : List A) (i : ℕ) (start : List (List ℕ)) → length xs ≤ i → fold with_name start (flat_map item_names (map f (take i xs))) ≡ fold with_name start (flat_map item_names (map f xs))
names-whole f xs i start past = ap (λ ys. fold with_name start (flat_map item_names (map f ys))) (take_all i xs past)

-- names of a list, one after another
pub list-more : (xs : List (List ℕ)) (i : ℕ) (start : List (List ℕ)) → i < length xs → with_name (fold with_name start (take i xs)) (get_or xs i []) ≡ fold with_name start (take (i + 1) xs)
list-more xs i start low =
    let next : suc i ≡ i + 1 = omega arith in
    sym (ap (λ k. fold with_name start (take k xs)) (sym next) ∙ (ap (fold with_name start) (take-suc xs i [] low) ∙ fold-append with_name start (take i xs) (get_or xs i [] ∷ [])))

-- the names of all items, from those of its parts
pub names-joined : (a b d : List (Item (List ℕ))) → fold with_name (fold with_name (fold with_name [] (flat_map item_names a)) (flat_map item_names b)) (names_of d) ≡ names_of (a ++ b ++ d)
names-joined a b d =
    let before = fold with_name (fold with_name [] (flat_map item_names a)) (flat_map item_names b) in
    sym (again before [] (flat_map item_names d))
    ∙ sym (ap by_appearance (flat_map-append item_names (a ++ b) d ∙ ap (λ ns. ns ++ flat_map item_names d) (flat_map-append item_names a b))
    ∙ (fold-append with_name [] (flat_map item_names a ++ flat_map item_names b) (flat_map item_names d) ∙ ap (λ ns. fold with_name ns (flat_map item_names d)) (fold-append with_name [] (flat_map item_names a) (flat_map item_names b))))

-- one more item
pub item-more : (items : List (Item (List ℕ))) (item : Item (List ℕ)) → fold with_name (names_of items) (item_names item) ≡ names_of (items ++ item ∷ [])
item-more items item =
    sym (ap by_appearance (flat_map-append item_names items (item ∷ []) ∙ ap (λ ns. flat_map item_names items ++ ns) (append-nil (item_names item))) ∙ fold-append with_name [] (flat_map item_names items) (item_names item))

pub used-more : (items : List (Item (List ℕ))) (item : Item (List ℕ)) → fold with_name (by_appearance (used_names items)) (names_used item) ≡ by_appearance (used_names (items ++ item ∷ []))
used-more items item =
    sym (ap by_appearance (flat_map-append names_used items (item ∷ []) ∙ ap (λ ns. used_names items ++ ns) (append-nil (names_used item))) ∙ fold-append with_name [] (used_names items) (names_used item))

-- ---- weak symbols that are used

filter-same : {A : Type 0} (p q : A → Bool) → ((x : A) → p x ≡ q x) → (xs : List A) → filter p xs ≡ filter q xs
filter-same p q same [] = refl
filter-same p q same (x ∷ xs) = ap (λ t. cond t (x ∷ filter p xs) (filter p xs)) (same x) ∙ ap (λ ys. cond (q x) (x ∷ ys) ys) (filter-same p q same xs)

pub weak-used : (file : List ℕ) (probes : Probes) (used : List (List ℕ)) (weak : List NameAt) → used ≡ by_appearance (used_names (main_items file probes)) → AreWeakAmong file used weak → IsWeak file probes weak
unfolding weakly_used
weak-used file probes used weak is are =
    are
    ∙ ap (map (λ (s : Symbol). s.name))
    (filter-same (is_weak_among file used) (is_weakly_used file probes)
    (λ s. ap (λ t. is_undefined s && is_weak s && t) (ap (list_any (bytes_eq (name_of_symbol file s))) is ∙ any-appears (name_of_symbol file s) (used_names (main_items file probes)))) (dynamic_symbols file))
