-- Places of names in lists of names, of labels in a text and of names among its copies.
use Rattle.std.proofs.Common.{◌≡◌, ℕ, zero, suc, ◌+◌, ◌<◌, ◌≤◌, Bool, true, false, cond, not, ◌||◌, List, [], ◌∷◌, length, get_or, Some, filter, refl, sym, ap, ◌∙◌, arith, slice_get, Contains}
use Rattle.std.specs.List.{list_any, position_or_len}
use Rattle.std.specs.Str.{bytes_eq}
use Rattle.std.proofs.lemmas.Bool.{eq-eqb, eqb-true}
use Rattle.std.proofs.lemmas.List.Sums.{position_or_len_is}
use Rattle.std.proofs.lemmas.Option.{slice_get_within, get_or_from_slice_get, slice_get-get_or}
use Rattle.std.proofs.lemmas.Slice.Eq.{bytes_eq-Decides}
use Rattle.asm_items.specs.declared.item.Item.{Item}
use Rattle.asm_items.specs.declared.item.Item.TheVariants.{Copy, Label}
use Rattle.asm_items.specs.declared.item.Label as label_type
use Rattle.asm_items.specs.declared.item.Label.TheVariants as label
use Rattle.asm_items.specs.Lines.{Items, copies_of, is_copied, used_names}
use Rattle.rw_layout.specs.Checks.{IsRepeated, Nowhere}
use Rattle.rw_layout.specs.Checks.Definition.{of_label, of_copy}
use Rattle.rw_layout.specs.Rule.{each_once, is_label_line, label_line, own_names, same_label}

-- ---- lists of names

same-bytes : (name : List ℕ) → bytes_eq name name ≡ true
same-bytes name = (bytes_eq-Decides name name).1 refl

or-right : (a b : Bool) → b ≡ true → (a || b) ≡ true
or-right true b e = refl
or-right false b e = e

-- the first place of an element that passes a test
pub first-of : {A : Type 0} (test : A → Bool) (xs : List A) → list_any test xs ≡ true → (x : A) × (slice_get xs (position_or_len test xs) ≡ Some x) × (test x ≡ true)
first-of test [] h = cc
first-of {A} test (x ∷ xs) h = by_test (λ k. first-of test xs k) (test x) refl h
  where
    by_test : (list_any test xs ≡ true → (y : A) × (slice_get xs (position_or_len test xs) ≡ Some y) × (test y ≡ true)) → (t : Bool) → test x ≡ t → (t || list_any test xs) ≡ true
        → (y : A) × (slice_get (x ∷ xs) (position_or_len test (x ∷ xs)) ≡ Some y) × (test y ≡ true)
    by_test rec true e h = (x, ap (λ t. slice_get (x ∷ xs) (cond (not t) (1 + position_or_len test xs) 0)) e, e)
    by_test rec false e h =
        let rest = rec h in
        let next : 1 + position_or_len test xs ≡ suc (position_or_len test xs) = omega arith in
        (rest.0, ap (λ t. slice_get (x ∷ xs) (cond (not t) (1 + position_or_len test xs) 0)) e ∙ ap (slice_get (x ∷ xs)) next ∙ rest.1, rest.2)

abbrev is_name : List ℕ → List ℕ → Bool
is_name name other = bytes_eq other name

contains-any : (names : List (List ℕ)) (name : List ℕ) (k : ℕ) → k < length names → get_or names k name ≡ name → list_any (is_name name) names ≡ true
contains-any [] name k h e = absurd (omega (arith, h))
contains-any (x ∷ names) name zero h e = ap (λ t. t || list_any (is_name name) names) ((bytes_eq-Decides x name).1 e)
contains-any (x ∷ names) name (suc k) h e = or-right (bytes_eq x name) _ (contains-any names name k (omega (arith, h)) e)

filter-any : (keep : List ℕ → Bool) (names : List (List ℕ)) (name : List ℕ) → keep name ≡ true → list_any (is_name name) names ≡ true → list_any (is_name name) (filter keep names) ≡ true
filter-any keep [] name kept h = cc
filter-any keep (x ∷ names) name kept h = by_name (λ k. filter-any keep names name kept k) (bytes_eq x name) refl h
  where
    by_kept : (t : Bool) → list_any (is_name name) (filter keep names) ≡ true → list_any (is_name name) (cond t (x ∷ filter keep names) (filter keep names)) ≡ true
    by_kept true e = or-right (bytes_eq x name) _ e
    by_kept false e = e

    by_name : (list_any (is_name name) names ≡ true → list_any (is_name name) (filter keep names) ≡ true) → (t : Bool) → bytes_eq x name ≡ t → (t || list_any (is_name name) names) ≡ true
        → list_any (is_name name) (filter keep (x ∷ names)) ≡ true
    by_name rec true e h =
        let same : x ≡ name = (bytes_eq-Decides x name).0 e in
        let here : keep x ≡ true = ap keep same ∙ kept in
        ap (λ t. list_any (is_name name) (cond t (x ∷ filter keep names) (filter keep names))) here ∙ ap (λ t. t || list_any (is_name name) (filter keep names)) e
    by_name rec false e h = by_kept (keep x) (rec h)

once-any : (names : List (List ℕ)) (name : List ℕ) → list_any (is_name name) names ≡ true → list_any (is_name name) (each_once names) ≡ true
once-any [] name h = cc
once-any (x ∷ names) name h = by_name (λ k. once-any names name k) (bytes_eq x name) refl h
  where
    other : bytes_eq x name ≡ false → (t : Bool) → bytes_eq name x ≡ t → not (bytes_eq name x) ≡ true
    other e true f = let same : name ≡ x = (bytes_eq-Decides name x).0 f in let yes = (bytes_eq-Decides x name).1 (sym same) in cc
    other e false f = ap not f

    by_name : (list_any (is_name name) names ≡ true → list_any (is_name name) (each_once names) ≡ true) → (t : Bool) → bytes_eq x name ≡ t → (t || list_any (is_name name) names) ≡ true
        → list_any (is_name name) (each_once (x ∷ names)) ≡ true
    by_name rec true e h = ap (λ t. t || list_any (is_name name) (filter (λ z. not (bytes_eq z x)) (each_once names))) e
    by_name rec false e h = or-right (bytes_eq x name) _ (filter-any (λ z. not (bytes_eq z x)) (each_once names) name (other e (bytes_eq name x) refl) (rec h))

-- a used name without a copy is among the names that have addresses of their own
pub own-any : (items : Items) (name : List ℕ) → Contains (used_names items) name → is_copied items name ≡ false → list_any (is_name name) (own_names items) ≡ true
own-any items name at none =
    once-any (filter (λ n. not (is_copied items n)) (used_names items)) name
    (filter-any (λ n. not (is_copied items n)) (used_names items) name (ap not none) (contains-any (used_names items) name at.0 at.1 at.2))

filter-le : {A : Type 0} (keep : A → Bool) (xs : List A) → length (filter keep xs) ≤ length xs
filter-le keep [] = omega arith
filter-le keep (x ∷ xs) = by_kept (keep x) (filter-le keep xs)
  where
    by_kept : (t : Bool) → length (filter keep xs) ≤ length xs → length (cond t (x ∷ filter keep xs) (filter keep xs)) ≤ length (x ∷ xs)
    by_kept true h = omega (arith, h)
    by_kept false h = omega (arith, h)

once-le : (names : List (List ℕ)) → length (each_once names) ≤ length names
once-le [] = omega arith
once-le (x ∷ names) = let kept = filter-le (λ z. not (bytes_eq z x)) (each_once names) in let rest = once-le names in omega (arith, kept, rest)

pub own-le : (items : Items) → length (own_names items) ≤ length (used_names items)
own-le items =
    let once = once-le (filter (λ n. not (is_copied items n)) (used_names items)) in
    let kept = filter-le (λ n. not (is_copied items n)) (used_names items) in
    omega (arith, once, kept)

-- ---- labels

same-is : (l m : label_type.Label) → same_label l m ≡ true → l ≡ m
same-is (label.Code a) (label.Code b) e = ap label.Code (eqb-true a b e)
same-is (label.Past a) (label.Past b) e = ap label.Past (eqb-true a b e)
same-is (label.Section a) (label.Section b) e = ap label.Section (eqb-true a b e)
same-is (label.Table a) (label.Table b) e = ap label.Table (eqb-true a b e)
same-is _ _ e = cc

pub same-own : (l : label_type.Label) → same_label l l ≡ true
same-own (label.Code a) = eq-eqb a a refl
same-own (label.Past a) = eq-eqb a a refl
same-own (label.Section a) = eq-eqb a a refl
same-own (label.Table a) = eq-eqb a a refl

pub is-label : (l : label_type.Label) (item : Item (List ℕ)) → is_label_line l item ≡ true → item ≡ Label l
is-label l (Label m) e = ap Label (sym (same-is l m e))
is-label l _ e = cc

-- the line that defines a label is the only one
pub label-at : (items : Items) (q : ℕ) (l : label_type.Label) → Nowhere (IsRepeated items) → slice_get items q ≡ Some (Label l) → label_line items l ≡ q
label-at items q l once e =
    let inside = slice_get_within items q (Label l) e in
    position_or_len_is (is_label_line l) items q (Label l) (omega (arith, inside)) (λ k before. earlier k before (is_label_line l (get_or items k (Label l))) refl)
    (λ h. ap (is_label_line l) (get_or_from_slice_get items q (Label l) (Label l) e) ∙ same-own l)
  where
    earlier : (k : ℕ) → k < q → (t : Bool) → is_label_line l (get_or items k (Label l)) ≡ t → is_label_line l (get_or items k (Label l)) ≡ false
    earlier k before false f = f
    earlier k before true f =
        let inside = slice_get_within items q (Label l) e in
        let here : slice_get items k ≡ Some (get_or items k (Label l)) = slice_get-get_or items k (Label l) (omega (arith, inside, before)) in
        let there : slice_get items k ≡ Some (Label l) = here ∙ ap Some (is-label l (get_or items k (Label l)) f) in
        absurd (once q (k, of_label l, before, (Label l, there, refl), (Label l, e, refl)))

-- ---- copies

pub copied-at : (items : Items) (k : ℕ) (copy : List ℕ × ℕ) → slice_get (copies_of items) k ≡ Some copy → (q : ℕ) × (slice_get items q ≡ Some (Copy copy.0 copy.1))
copied-at [] k copy e = cc
copied-at (Copy name size ∷ items) zero copy e =
    let same : (name, size) ≡ copy = cc in (0, ap (λ c. Some (Copy c.0 c.1)) same)
copied-at (Copy name size ∷ items) (suc k) copy e = let rest = copied-at items k copy e in (suc rest.0, rest.1)
copied-at (x ∷ items) k copy e = let rest = copied-at items k copy e in (suc rest.0, rest.1)

-- two copies are two lines, in this order
pub record AreCopied (items : Items) (one other : List ℕ × ℕ) : Type 0 where
  pub first : ℕ
  pub second : ℕ
  pub before : first < second
  pub one_here : slice_get items first ≡ Some (Copy one.0 one.1)
  pub other_here : slice_get items second ≡ Some (Copy other.0 other.1)

one-further : (x : Item (List ℕ)) (items : Items) (one other : List ℕ × ℕ) → AreCopied items one other → AreCopied (x ∷ items) one other
one-further x items one other is = record { first = suc is.first; second = suc is.second; before = omega (arith, is.before); one_here = is.one_here; other_here = is.other_here }

both-copied : (items : Items) (k m : ℕ) (one other : List ℕ × ℕ) → k < m → slice_get (copies_of items) k ≡ Some one → slice_get (copies_of items) m ≡ Some other → AreCopied items one other
both-copied [] k m one other before e f = cc
both-copied (Copy name size ∷ items) k zero one other before e f = absurd (omega (arith, before))
both-copied (Copy name size ∷ items) zero (suc m) one other before e f =
    let same : (name, size) ≡ one = cc in
    let rest = copied-at items m other f in
    record { first = 0; second = suc rest.0; before = omega arith; one_here = ap (λ c. Some (Copy c.0 c.1)) same; other_here = rest.1 }
both-copied (Copy name size ∷ items) (suc k) (suc m) one other before e f = one-further (Copy name size) items one other (both-copied items k m one other (omega (arith, before)) e f)
both-copied (x ∷ items) k m one other before e f = one-further x items one other (both-copied items k m one other before e f)

copy-any : (copies : List (List ℕ × ℕ)) (k : ℕ) (copy : List ℕ × ℕ) → slice_get copies k ≡ Some copy → list_any (λ c. bytes_eq c.0 copy.0) copies ≡ true
copy-any [] k copy e = cc
copy-any (c ∷ copies) zero copy e =
    let same : c ≡ copy = cc in ap (λ t. t || list_any (λ c. bytes_eq c.0 copy.0) copies) ((bytes_eq-Decides c.0 copy.0).1 (ap (λ z. z.0) same))
copy-any (c ∷ copies) (suc k) copy e = or-right (bytes_eq c.0 copy.0) _ (copy-any copies k copy e)

pub copy-is-copied : (items : Items) (k : ℕ) (copy : List ℕ × ℕ) → slice_get (copies_of items) k ≡ Some copy → is_copied items copy.0 ≡ true
copy-is-copied items k copy e = copy-any (copies_of items) k copy e

-- the copy of a name is the only one
pub copy-at : (items : Items) (k : ℕ) (copy : List ℕ × ℕ) → Nowhere (IsRepeated items) → slice_get (copies_of items) k ≡ Some copy → position_or_len (λ c. bytes_eq c.0 copy.0) (copies_of items) ≡ k
copy-at items k copy once e =
    let inside = slice_get_within (copies_of items) k copy e in
    position_or_len_is (λ c. bytes_eq c.0 copy.0) (copies_of items) k copy (omega (arith, inside)) (λ m before. earlier m before (bytes_eq (get_or (copies_of items) m copy).0 copy.0) refl)
    (λ h. ap (λ c. bytes_eq c.0 copy.0) (get_or_from_slice_get (copies_of items) k copy copy e) ∙ same-bytes copy.0)
  where
    earlier : (m : ℕ) → m < k → (t : Bool) → bytes_eq (get_or (copies_of items) m copy).0 copy.0 ≡ t → bytes_eq (get_or (copies_of items) m copy).0 copy.0 ≡ false
    earlier m before false f = f
    earlier m before true f =
        let inside = slice_get_within (copies_of items) k copy e in
        let found : List ℕ × ℕ = get_or (copies_of items) m copy in
        let here : slice_get (copies_of items) m ≡ Some found = slice_get-get_or (copies_of items) m copy (omega (arith, inside, before)) in
        let both = both-copied items m k found copy before here e in
        let same : found.0 ≡ copy.0 = (bytes_eq-Decides found.0 copy.0).0 f in
        absurd (once both.second (both.first, of_copy copy.0, both.before, (Copy found.0 found.1, both.one_here, ap (λ n. Some (of_copy n)) same), (Copy copy.0 copy.1, both.other_here, refl)))
