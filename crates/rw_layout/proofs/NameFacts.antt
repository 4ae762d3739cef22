-- Tables of addresses by the numbers of names.
use Rattle.std.proofs.Common.{◌≡◌, ◌≢◌, ℕ, zero, suc, ◌+◌, ◌*◌, ◌<◌, Bool, true, false, cond, ◌||◌, List, [], ◌∷◌, ◌++◌, Option, Some, None, length, refl, sym, ap, subst, ◌∙◌, arith, append-nil, replicate}
use Rattle.std.specs.Prelude.{not, slice_get, slice_set, slice_index_or, slice_index, filter, flat_map, if◌then◌else◌, ◌==◌}
use Rattle.std.specs.List.{list_any, position_or_len}
use Rattle.std.specs.Str.{bytes_eq}
use Rattle.std.proofs.lemmas.Bool.{eqb-true}
use Rattle.std.proofs.lemmas.Bool.Decides.{nat_tests}
use Rattle.std.proofs.lemmas.List.{length-replicate}
use Rattle.std.proofs.lemmas.List.Concat.{flat_map-append}
use Rattle.std.proofs.lemmas.List.Elements.{filter-append}
use Rattle.std.proofs.lemmas.Slice.Eq.{bytes_eq-Decides}
use Rattle.asm_items.specs.declared.item.Item.TheVariants.{Copy}
use Rattle.asm_items.specs.Lines.{Items, copies_of, is_copied, names_in, symbols_in, used_names}
use Rattle.rw_layout.specs.Rule.{each_once}
use Rattle.rw_layout.specs.NameTable.{listed_at, copied_at, named_at, own_among, copy_name, own_name, IsTable, or_else}

-- ---- equal names

same-name : (a b : List ℕ) → bytes_eq a b ≡ true → a ≡ b
same-name a b e = (bytes_eq-Decides a b).0 e

own-equal : (a : List ℕ) → bytes_eq a a ≡ true
own-equal a = (bytes_eq-Decides a a).1 refl

other-way : (a b : List ℕ) (t : Bool) → bytes_eq a b ≡ t → bytes_eq b a ≡ t
other-way a b true e = ap (λ x. bytes_eq b x) (same-name a b e) ∙ own-equal b
other-way a b false e = by_test (bytes_eq b a) refl
  where
    by_test : (t : Bool) → bytes_eq b a ≡ t → bytes_eq b a ≡ false
    by_test true f = let yes = ap (λ x. bytes_eq a x) (same-name b a f) ∙ own-equal a in cc
    by_test false f = f

-- ---- one more at the end of a list

module _ {A : Type 0} (p : A → Bool) where
  pub any-push : (xs : List A) (x : A) → list_any p (xs ++ x ∷ []) ≡ (list_any p xs || p x)
  any-push [] x = or_false (p x)
    where
      or_false : (t : Bool) → (t || false) ≡ t
      or_false true = refl
      or_false false = refl
  any-push (y ∷ ys) x = ap (λ t. p y || t) (any-push ys x) ∙ assoc (p y) (list_any p ys) (p x)
    where
      assoc : (a b c : Bool) → (a || (b || c)) ≡ ((a || b) || c)
      assoc true b c = refl
      assoc false b c = refl

  place-cons : (y : A) (ys : List A) (t : Bool) → p y ≡ t → position_or_len p (y ∷ ys) ≡ cond (not t) (1 + position_or_len p ys) 0
  place-cons y ys t e = ap (λ t. cond (not t) (1 + position_or_len p ys) 0) e

  place-there : (xs : List A) (x : A) → list_any p xs ≡ true → position_or_len p (xs ++ x ∷ []) ≡ position_or_len p xs
  place-there [] x h = cc
  place-there (y ∷ ys) x h = by_test (p y) refl (place-there ys x)
    where
      by_test : (t : Bool) → p y ≡ t → (list_any p ys ≡ true → position_or_len p (ys ++ x ∷ []) ≡ position_or_len p ys) → position_or_len p ((y ∷ ys) ++ x ∷ []) ≡ position_or_len p (y ∷ ys)
      by_test true e ih = place-cons y (ys ++ x ∷ []) true e ∙ sym (place-cons y ys true e)
      by_test false e ih = place-cons y (ys ++ x ∷ []) false e ∙ ap (λ n. 1 + n) (ih (sym (ap (λ t. t || list_any p ys) e) ∙ h)) ∙ sym (place-cons y ys false e)

  place-last : (xs : List A) (x : A) → list_any p xs ≡ false → p x ≡ true → position_or_len p (xs ++ x ∷ []) ≡ length xs
  place-last [] x h e = place-cons x [] true e
  place-last (y ∷ ys) x h e = by_test (p y) refl (place-last ys x)
    where
      by_test : (t : Bool) → p y ≡ t → (list_any p ys ≡ false → p x ≡ true → position_or_len p (ys ++ x ∷ []) ≡ length ys) → position_or_len p ((y ∷ ys) ++ x ∷ []) ≡ length (y ∷ ys)
      by_test true f ih = let yes = ap (λ t. t || list_any p ys) f in cc
      by_test false f ih =
          let rest = ih (sym (ap (λ t. t || list_any p ys) f) ∙ h) e in
          let first = place-cons y (ys ++ x ∷ []) false f in omega (arith, first, rest)

-- ---- listed addresses

module _ {A : Type 0} (name_in : A → List ℕ) (address : ℕ → ℕ) where
  pub listed-yes : (list : List A) (name : List ℕ) → list_any (λ a. bytes_eq (name_in a) name) list ≡ true → listed_at name_in address list name ≡ Some (address (position_or_len (λ a. bytes_eq (name_in a) name) list))
  listed-yes list name e = ap (λ t. if t then Some (address (position_or_len (λ a. bytes_eq (name_in a) name) list)) else None) e

  pub listed-no : (list : List A) (name : List ℕ) → list_any (λ a. bytes_eq (name_in a) name) list ≡ false → listed_at name_in address list name ≡ None
  listed-no list name e = ap (λ t. if t then Some (address (position_or_len (λ a. bytes_eq (name_in a) name) list)) else None) e

  -- a name that is there already changes nothing
  pub listed-again : (list : List A) (x : A) → list_any (λ a. bytes_eq (name_in a) (name_in x)) list ≡ true → (name : List ℕ) → listed_at name_in address (list ++ x ∷ []) name ≡ listed_at name_in address list name
  listed-again list x there name = by_test (list_any is list) (bytes_eq (name_in x) name) refl refl
    where
      is : A → Bool
      is a = bytes_eq (name_in a) name

      by_test : (t u : Bool) → list_any is list ≡ t → bytes_eq (name_in x) name ≡ u → listed_at name_in address (list ++ x ∷ []) name ≡ listed_at name_in address list name
      by_test true u e f =
          listed-yes (list ++ x ∷ []) name (any-push is list x ∙ ap (λ t. t || is x) e) ∙ ap (λ n. Some (address n)) (place-there is list x e) ∙ sym (listed-yes list name e)
      by_test false true e f = let yes = sym (ap (λ n. list_any (λ a. bytes_eq (name_in a) n) list) (same-name (name_in x) name f)) ∙ there in cc
      by_test false false e f = listed-no (list ++ x ∷ []) name (any-push is list x ∙ ap (λ t. t || is x) e ∙ f) ∙ sym (listed-no list name e)

  -- another is at the end
  pub listed-new : (list : List A) (x : A) → list_any (λ a. bytes_eq (name_in a) (name_in x)) list ≡ false → (name : List ℕ)
      → listed_at name_in address (list ++ x ∷ []) name ≡ (if bytes_eq (name_in x) name then Some (address (length list)) else listed_at name_in address list name)
  listed-new list x new name = by_test (list_any is list) (bytes_eq (name_in x) name) refl refl
    where
      is : A → Bool
      is a = bytes_eq (name_in a) name

      chosen : Bool → Option ℕ
      chosen t = if t then Some (address (length list)) else listed_at name_in address list name

      by_test : (t u : Bool) → list_any is list ≡ t → bytes_eq (name_in x) name ≡ u → listed_at name_in address (list ++ x ∷ []) name ≡ chosen (bytes_eq (name_in x) name)
      by_test true true e f = let no = sym (ap (λ n. list_any (λ a. bytes_eq (name_in a) n) list) (same-name (name_in x) name f)) ∙ new in cc
      by_test true false e f =
          listed-yes (list ++ x ∷ []) name (any-push is list x ∙ ap (λ t. t || is x) e) ∙ ap (λ n. Some (address n)) (place-there is list x e) ∙ sym (listed-yes list name e) ∙ sym (ap chosen f)
      by_test false true e f =
          listed-yes (list ++ x ∷ []) name (any-push is list x ∙ ap (λ t. t || is x) e ∙ f) ∙ ap (λ n. Some (address n)) (place-last is list x e f) ∙ sym (ap chosen f)
      by_test false false e f = listed-no (list ++ x ∷ []) name (any-push is list x ∙ ap (λ t. t || is x) e ∙ f) ∙ sym (listed-no list name e) ∙ sym (ap chosen f)

-- ---- tables

pub get-set-there : {A : Type 0} (xs : List A) (k : ℕ) (x : A) → k < length xs → slice_get (slice_set xs k x) k ≡ Some x
get-set-there [] k x h = absurd (omega (arith, h))
get-set-there (y ∷ ys) zero x h = refl
get-set-there (y ∷ ys) (suc k) x h = get-set-there ys k x (omega (arith, h))

pub get-set-other : {A : Type 0} (xs : List A) (k j : ℕ) (x : A) → (j == k) ≡ false → slice_get (slice_set xs k x) j ≡ slice_get xs j
get-set-other [] k j x h = refl
get-set-other (y ∷ ys) zero zero x h = cc
get-set-other (y ∷ ys) zero (suc j) x h = refl
get-set-other (y ∷ ys) (suc k) zero x h = refl
get-set-other (y ∷ ys) (suc k) (suc j) x h = get-set-other ys k j x (grind (arith, nat_tests, h))

pub length-set_at : {A : Type 0} (xs : List A) (k : ℕ) (x : A) → length (slice_set xs k x) ≡ length xs
length-set_at [] k x = refl
length-set_at (y ∷ ys) zero x = refl
length-set_at (y ∷ ys) (suc k) x = ap suc (length-set_at ys k x)

pub same-table : (names : List (List ℕ)) (table : List (Option ℕ)) (f g : List ℕ → Option ℕ) → IsTable names table f → ((name : List ℕ) → g name ≡ f name) → IsTable names table g
same-table names table f g is same = record { count = is.count; entries = λ k h. is.entries k h ∙ ap Some (sym (same (slice_index_or names k []))) }

-- one name more has an address
pub more-table : (names : List (List ℕ)) (table : List (Option ℕ)) (f g : List ℕ → Option ℕ) (k a : ℕ) → IsTable names table f → k < length names
    → ((i j : ℕ) → i < length names → j < length names → slice_index_or names i [] ≡ slice_index_or names j [] → i ≡ j)
    → ((name : List ℕ) → g name ≡ (if bytes_eq (slice_index_or names k []) name then Some a else f name)) → IsTable names (slice_set table k (Some a)) g
more-table names table f g k a is within one chosen = record { count = length-set_at table k (Some a) ∙ is.count; entries = λ j h. by_place j h (j == k) refl }
  where
    name : ℕ → List ℕ
    name j = slice_index_or names j []

    pick : ℕ → Bool → Option ℕ
    pick j t = if t then Some a else f (name j)

    other : (j : ℕ) → j < length names → (j == k) ≡ false → (t : Bool) → bytes_eq (name k) (name j) ≡ t → bytes_eq (name k) (name j) ≡ false
    other j h e true f =
        let same : k ≡ j = one k j within h (same-name (name k) (name j) f) in
        let yes : (j == k) ≡ true = grind (arith, nat_tests, same) in cc
    other j h e false f = f

    by_place : (j : ℕ) → j < length names → (t : Bool) → (j == k) ≡ t → slice_get (slice_set table k (Some a)) j ≡ Some (g (name j))
    by_place j h true e =
        let same : j ≡ k = eqb-true j k e in
        subst (λ n. slice_get (slice_set table k (Some a)) n ≡ Some (g (name n))) (sym same)
        (get-set-there table k (Some a) (omega (arith, within, is.count)) ∙ ap Some (sym (chosen (name k) ∙ ap (pick k) (own-equal (name k)))))
    by_place j h false e =
        get-set-other table k j (Some a) e ∙ is.entries j h ∙ ap Some (sym (chosen (name j) ∙ ap (pick j) (other j h e (bytes_eq (name k) (name j)) refl)))

-- ---- copies and uses, line by line

pub copies-append : (xs ys : Items) → copies_of (xs ++ ys) ≡ copies_of xs ++ copies_of ys
copies-append [] ys = refl
copies-append (Copy name size ∷ xs) ys = ap (λ cs. (name, size) ∷ cs) (copies-append xs ys)
copies-append (_ ∷ xs) ys = copies-append xs ys

pub used-append : (xs ys : Items) → used_names (xs ++ ys) ≡ used_names xs ++ used_names ys
used-append xs ys = flat_map-append (λ item. flat_map names_in (symbols_in item)) xs ys

-- ---- each name once

abbrev is_name : List ℕ → List ℕ → Bool
is_name x name = bytes_eq name x

abbrev is_not : List ℕ → List ℕ → Bool
is_not y name = not (bytes_eq name y)

any-others : (x y : List ℕ) → bytes_eq y x ≡ false → (names : List (List ℕ)) → list_any (is_name x) (filter (is_not y) names) ≡ list_any (is_name x) names
any-others x y apart [] = refl
any-others x y apart (z ∷ zs) = by_test (bytes_eq z y) refl (any-others x y apart zs)
  where
    by_test : (t : Bool) → bytes_eq z y ≡ t → list_any (is_name x) (filter (is_not y) zs) ≡ list_any (is_name x) zs → list_any (is_name x) (filter (is_not y) (z ∷ zs)) ≡ list_any (is_name x) (z ∷ zs)
    by_test true e ih =
        let not_x : bytes_eq z x ≡ false = ap (λ n. bytes_eq n x) (same-name z y e) ∙ apart in
        ap (λ t. list_any (is_name x) (cond (not t) (z ∷ filter (is_not y) zs) (filter (is_not y) zs))) e ∙ ih ∙ sym (ap (λ t. t || list_any (is_name x) zs) not_x)
    by_test false e ih = ap (λ t. list_any (is_name x) (cond (not t) (z ∷ filter (is_not y) zs) (filter (is_not y) zs))) e ∙ ap (λ t. bytes_eq z x || t) ih

-- a name at the end is new, or there already
abbrev pub with_once : Bool → List (List ℕ) → List ℕ → List (List ℕ)
with_once there names x = if there then names else names ++ x ∷ []

pub once-push : (names : List (List ℕ)) (x : List ℕ) → each_once (names ++ x ∷ []) ≡ with_once (list_any (is_name x) (each_once names)) (each_once names) x
once-push [] x = refl
once-push (y ∷ ys) x = by_tests (bytes_eq y x) (list_any (is_name x) (each_once ys)) refl refl (once-push ys x)
  where
    others : List (List ℕ)
    others = filter (is_not y) (each_once ys)

    last : bytes_eq y x ≡ true → filter (is_not y) (x ∷ []) ≡ []
    last e = ap (λ t. cond (not t) (x ∷ []) []) (other-way y x true e)

    kept : bytes_eq y x ≡ false → filter (is_not y) (x ∷ []) ≡ x ∷ []
    kept e = ap (λ t. cond (not t) (x ∷ []) []) (other-way y x false e)

    by_tests : (t u : Bool) → bytes_eq y x ≡ t → list_any (is_name x) (each_once ys) ≡ u → each_once (ys ++ x ∷ []) ≡ with_once (list_any (is_name x) (each_once ys)) (each_once ys) x
        → y ∷ filter (is_not y) (each_once (ys ++ x ∷ [])) ≡ with_once (bytes_eq y x || list_any (is_name x) others) (y ∷ others) x
    by_tests true true e f ih =
        ap (λ ns. y ∷ filter (is_not y) ns) (ih ∙ ap (λ t. with_once t (each_once ys) x) f) ∙ sym (ap (λ t. with_once (t || list_any (is_name x) others) (y ∷ others) x) e)
    by_tests true false e f ih =
        ap (λ ns. y ∷ filter (is_not y) ns) (ih ∙ ap (λ t. with_once t (each_once ys) x) f) ∙ ap (λ ns. y ∷ ns) (filter-append (is_not y) (each_once ys) (x ∷ []) ∙ ap (λ ns. others ++ ns) (last e) ∙ append-nil others)
        ∙ sym (ap (λ t. with_once (t || list_any (is_name x) others) (y ∷ others) x) e)
    by_tests false true e f ih =
        ap (λ ns. y ∷ filter (is_not y) ns) (ih ∙ ap (λ t. with_once t (each_once ys) x) f)
        ∙ sym (ap (λ t. with_once (t || list_any (is_name x) others) (y ∷ others) x) e ∙ ap (λ t. with_once t (y ∷ others) x) (any-others x y e (each_once ys) ∙ f))
    by_tests false false e f ih =
        ap (λ ns. y ∷ filter (is_not y) ns) (ih ∙ ap (λ t. with_once t (each_once ys) x) f) ∙ ap (λ ns. y ∷ ns) (filter-append (is_not y) (each_once ys) (x ∷ []) ∙ ap (λ ns. others ++ ns) (kept e))
        ∙ sym (ap (λ t. with_once (t || list_any (is_name x) others) (y ∷ others) x) e ∙ ap (λ t. with_once t (y ∷ others) x) (any-others x y e (each_once ys) ∙ f))

get-same : {A : Type 0} (x : A) (n k : ℕ) → k < n → slice_get (replicate n x) k ≡ Some x
get-same x zero k h = absurd (omega (arith, h))
get-same x (suc n) zero h = refl
get-same x (suc n) (suc k) h = get-same x n k (omega (arith, h))

pub none-table : (names : List (List ℕ)) (table : List (Option ℕ)) (n : ℕ) → n ≡ length names → table ≡ replicate n None → IsTable names table (λ name. None)
none-table names table n many is = record {
  count = ap length is ∙ length-replicate n None ∙ many;
  entries = λ k h. subst (λ t. slice_get t k ≡ Some None) (sym is) (get-same None n k (omega (arith, h, many)));
}

some-any : (a b : Option ℕ) → Some a ≡ Some b → a ≡ b
some-any a b e = cc

listed-none : {A : Type 0} (name_in : A → List ℕ) (address : ℕ → ℕ) (list : List A) (name : List ℕ) → listed_at name_in address list name ≡ None → list_any (λ a. bytes_eq (name_in a) name) list ≡ false
listed-none name_in address list name e = by_test (list_any (λ a. bytes_eq (name_in a) name) list) refl
  where
    by_test : (t : Bool) → list_any (λ a. bytes_eq (name_in a) name) list ≡ t → list_any (λ a. bytes_eq (name_in a) name) list ≡ false
    by_test true f = let yes = sym (listed-yes name_in address list name f) ∙ e in cc
    by_test false f = f

listed-some : {A : Type 0} (name_in : A → List ℕ) (address : ℕ → ℕ) (list : List A) (name : List ℕ) → (listed_at name_in address list name ≡ None → ⊥) → list_any (λ a. bytes_eq (name_in a) name) list ≡ true
listed-some name_in address list name e = by_test (list_any (λ a. bytes_eq (name_in a) name) list) refl
  where
    by_test : (t : Bool) → list_any (λ a. bytes_eq (name_in a) name) list ≡ t → list_any (λ a. bytes_eq (name_in a) name) list ≡ true
    by_test true f = f
    by_test false f = absurd (e (listed-no name_in address list name f))

module _ (names : List (List ℕ)) (one : (i j : ℕ) → i < length names → j < length names → slice_index_or names i [] ≡ slice_index_or names j [] → i ≡ j) (table : List (Option ℕ)) (k : ℕ) (within : k < length names) where
  abbrev name : List ℕ
  name = slice_index_or names k []

  module _ (f : List ℕ → Option ℕ) (is : IsTable names table f) where
    pub entry-none : slice_get table k ≡ Some None → f name ≡ None
    entry-none e = some-any (f name) None (sym (is.entries k within) ∙ e)

    pub entry-some : slice_get table k ≢ Some None → f name ≡ None → ⊥
    entry-some e none = e (is.entries k within ∙ ap Some none)

  -- one copy more
  module _ (bases : List ℕ) (copies : List (List ℕ × ℕ)) (size : ℕ) (is : IsTable names table (copied_at bases copies)) where
    pub copy-given : slice_get table k ≡ Some None → IsTable names (slice_set table k (Some (slice_index bases (length copies)))) (copied_at bases (copies ++ (name, size) ∷ []))
    copy-given e =
        let new = listed-none copy_name (slice_index bases) copies name (entry-none (copied_at bases copies) is e) in
        more-table names table (copied_at bases copies) (copied_at bases (copies ++ (name, size) ∷ [])) k (slice_index bases (length copies)) is within one (listed-new copy_name (slice_index bases) copies (name, size) new)

    pub copy-kept : slice_get table k ≢ Some None → IsTable names table (copied_at bases (copies ++ (name, size) ∷ []))
    copy-kept e =
        let there = listed-some copy_name (slice_index bases) copies name (entry-some (copied_at bases copies) is e) in
        same-table names table (copied_at bases copies) (copied_at bases (copies ++ (name, size) ∷ [])) is (listed-again copy_name (slice_index bases) copies (name, size) there)

  -- one use more
  module _ (bases : List ℕ) (first : ℕ) (items some : Items) (is : IsTable names table (named_at bases first (copies_of items) (own_among items some))) where
    abbrev copies : List (List ℕ × ℕ)
    copies = copies_of items

    abbrev own : List (List ℕ)
    own = own_among items some

    abbrev not_copied : List ℕ → Bool
    not_copied n = not (is_copied items n)

    -- the names with this one behind them
    abbrev own_more : List (List ℕ)
    own_more = each_once (filter not_copied (used_names some ++ name ∷ []))

    copied-name : is_copied items name ≡ true → own_more ≡ own
    copied-name e = ap each_once (filter-append not_copied (used_names some) (name ∷ []) ∙ ap (λ t. filter not_copied (used_names some) ++ cond (not t) (name ∷ []) []) e ∙ append-nil (filter not_copied (used_names some)))

    other-name : is_copied items name ≡ false → own_more ≡ with_once (list_any (is_name name) own) own name
    other-name e = ap each_once (filter-append not_copied (used_names some) (name ∷ []) ∙ ap (λ t. filter not_copied (used_names some) ++ cond (not t) (name ∷ []) []) e) ∙ once-push (filter not_copied (used_names some)) name

    abbrev at : List ℕ → Option ℕ
    at n = listed_at own_name (λ j. first + 16 * j) own n

    both-none : (a b : Option ℕ) → or_else a b ≡ None → (a ≡ None) × (b ≡ None)
    both-none None b e = (refl, e)
    both-none (Some x) b e = cc

    module _ (e : slice_get table k ≡ Some None) where
      none-there : (copied_at bases copies name ≡ None) × (at name ≡ None)
      none-there = both-none (copied_at bases copies name) (at name) (entry-none (named_at bases first copies own) is e)

      pub own-grows : own_more ≡ own ++ name ∷ []
      own-grows =
          other-name (listed-none copy_name (slice_index bases) copies name none-there.0)
          ∙ ap (λ t. with_once t own name) (listed-none own_name (λ j. first + 16 * j) own name none-there.1)

      pub use-given : IsTable names (slice_set table k (Some (first + 16 * length own))) (named_at bases first copies own_more)
      use-given = more-table names table (named_at bases first copies own) (named_at bases first copies own_more) k (first + 16 * length own) is within one chosen
        where
          pick : Bool → List ℕ → Option ℕ
          pick t n = if t then Some (first + 16 * length own) else at n

          now : (n : List ℕ) → named_at bases first copies own_more n ≡ or_else (copied_at bases copies n) (pick (bytes_eq name n) n)
          now n = ap (λ o. named_at bases first copies o n) own-grows ∙ ap (or_else (copied_at bases copies n)) (listed-new own_name (λ j. first + 16 * j) own name (listed-none own_name (λ j. first + 16 * j) own name none-there.1) n)

          chosen : (n : List ℕ) → named_at bases first copies own_more n ≡ (if bytes_eq name n then Some (first + 16 * length own) else named_at bases first copies own n)
          chosen n = now n ∙ by_test (bytes_eq name n) refl
            where
              by_test : (t : Bool) → bytes_eq name n ≡ t → or_else (copied_at bases copies n) (pick t n) ≡ (if t then Some (first + 16 * length own) else named_at bases first copies own n)
              by_test true f = ap (λ c. or_else c (Some (first + 16 * length own))) (sym (ap (copied_at bases copies) (same-name name n f)) ∙ none-there.0)
              by_test false f = refl

    module _ (e : slice_get table k ≢ Some None) where
      pub own-same : own_more ≡ own
      own-same = by_test (is_copied items name) refl
        where
          here : copied_at bases copies name ≡ None → list_any (is_name name) own ≡ true
          here none = listed-some own_name (λ j. first + 16 * j) own name (λ no. entry-some (named_at bases first copies own) is e (ap (λ c. or_else c (at name)) none ∙ no))

          by_test : (t : Bool) → is_copied items name ≡ t → own_more ≡ own
          by_test true f = copied-name f
          by_test false f = other-name f ∙ ap (λ t. with_once t own name) (here (listed-no copy_name (slice_index bases) copies name f))
