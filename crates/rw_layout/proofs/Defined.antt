-- Lines that define the same, by keys and by names.
use Rattle.std.proofs.Common.{◌≡◌, ℕ, ◌<◌, Bool, true, false, List, [], Option, Some, None, map, length, get_or, nat_lt, refl, sym, ap, subst, ◌∙◌, arith, ◌&&◌, nat_le}
use Rattle.std.specs.Prelude.{slice_get, option_and_then, option_map, position}
use Rattle.std.specs.Str.{bytes_eq}
use Rattle.std.proofs.lemmas.Bool.{ltb-true, ltb-false, and_parts}
use Rattle.std.proofs.lemmas.List.{get_or_past}
use Rattle.std.proofs.lemmas.Option.{slice_get-map, slice_get-get_or}
use Rattle.rw_base.specs.Name.{is_good_name, is_import_name}
use Rattle.asm_items.specs.declared.item.Item.{Item}
use Rattle.asm_items.specs.declared.item.Item.TheVariants.{Copy, Label}
use Rattle.asm_items.specs.declared.item.Label as label_type
use Rattle.asm_items.specs.declared.item.Label.TheVariants as label
use Rattle.asm_items.specs.declared.item.NameId.{NameId}
use Rattle.asm_items.specs.Formed.{is_item, is_word, AreItems}
use Rattle.asm_items.specs.Named.{name_of, named}
use Rattle.asm_items.specs.Names.{AreDistinct}
use Rattle.asm_items.proofs.Numbers.{own-number}
use Rattle.rw_layout.specs.Checks.{Definition, of_label, of_copy, definition_of, IsRepeated, IsFirstAt, Nowhere}
use Rattle.rw_layout.specs.Keys.{Key, label_key, key_of, KeyAt, KeyTwice}
use Rattle.rw_layout.proofs.Lines.{shown-at, item-formed}

no-import : is_import_name [] ≡ true → ⊥
unfolding is_import_name is_good_name
no-import h = cc

pub import-within : (names : List (List ℕ)) (id : NameId) → is_import_name (name_of names id) ≡ true → id.0 < length names
import-within names id own = by_test (nat_lt id.0 (length names)) refl
  where
    by_test : (t : Bool) → nat_lt id.0 (length names) ≡ t → id.0 < length names
    by_test true e = ltb-true id.0 (length names) e
    by_test false e = absurd (no-import (ap is_import_name (sym (get_or_past names id.0 [] (ltb-false id.0 (length names) e))) ∙ own))

-- of distinct names, each has one number
pub one-number : (names : List (List ℕ)) → AreDistinct names → (a b : NameId) → a.0 < length names → b.0 < length names → name_of names a ≡ name_of names b → a.0 ≡ b.0
one-number names distinct a b within within' e =
    let first = own-number names a.0 (name_of names a) distinct (slice_get-get_or names a.0 [] within) in
    let second = own-number names b.0 (name_of names b) distinct (slice_get-get_or names b.0 [] within') in
    some_is a.0 b.0 (sym first ∙ ap (λ name. position (bytes_eq name) names) e ∙ second)
  where
    some_is : (a b : ℕ) → Some a ≡ Some b → a ≡ b
    some_is a b e = cc

pub one-label : (l m : label_type.Label) → label_key l ≡ label_key m → l ≡ m
one-label (label.Code a) (label.Code b) e = ap label.Code (ap (λ (k : Key). k.1) e)
one-label (label.Past a) (label.Past b) e = ap label.Past (ap (λ (k : Key). k.1) e)
one-label (label.Section a) (label.Section b) e = ap label.Section (ap (λ (k : Key). k.1) e)
one-label (label.Table a) (label.Table b) e = ap label.Table (ap (λ (k : Key). k.1) e)
one-label (label.Code a) (label.Past b) e = let f = ap (λ (k : Key). k.0) e in absurd (omega (arith, f))
one-label (label.Code a) (label.Section b) e = let f = ap (λ (k : Key). k.0) e in absurd (omega (arith, f))
one-label (label.Code a) (label.Table b) e = let f = ap (λ (k : Key). k.0) e in absurd (omega (arith, f))
one-label (label.Past a) (label.Code b) e = let f = ap (λ (k : Key). k.0) e in absurd (omega (arith, f))
one-label (label.Past a) (label.Section b) e = let f = ap (λ (k : Key). k.0) e in absurd (omega (arith, f))
one-label (label.Past a) (label.Table b) e = let f = ap (λ (k : Key). k.0) e in absurd (omega (arith, f))
one-label (label.Section a) (label.Code b) e = let f = ap (λ (k : Key). k.0) e in absurd (omega (arith, f))
one-label (label.Section a) (label.Past b) e = let f = ap (λ (k : Key). k.0) e in absurd (omega (arith, f))
one-label (label.Section a) (label.Table b) e = let f = ap (λ (k : Key). k.0) e in absurd (omega (arith, f))
one-label (label.Table a) (label.Code b) e = let f = ap (λ (k : Key). k.0) e in absurd (omega (arith, f))
one-label (label.Table a) (label.Past b) e = let f = ap (λ (k : Key). k.0) e in absurd (omega (arith, f))
one-label (label.Table a) (label.Section b) e = let f = ap (λ (k : Key). k.0) e in absurd (omega (arith, f))

below-copies : (l : label_type.Label) → (label_key l).0 < 4
below-copies (label.Code a) = omega arith
below-copies (label.Past a) = omega arith
below-copies (label.Section a) = omega arith
below-copies (label.Table a) = omega arith

-- what a line with a key is
pub data HasKey : Item NameId → Key → Type 0 where
  label_line : (l : label_type.Label) → HasKey (Label l) (label_key l)
  copy_line : (id : NameId) (size : ℕ) → HasKey (Copy id size) (4, id.0)

pub has-key : (item : Item NameId) (key : Key) → key_of item ≡ Some key → HasKey item key
has-key (Label l) key e = let same : label_key l ≡ key = some_is (label_key l) key e in subst (HasKey (Label l)) same (label_line l)
  where
    some_is : (a b : Key) → Some a ≡ Some b → a ≡ b
    some_is a b e = cc
has-key (Copy id size) key e = let same : (4, id.0) ≡ key = some_is (4, id.0) key e in subst (HasKey (Copy id size)) same (copy_line id size)
  where
    some_is : (a b : Key) → Some a ≡ Some b → a ≡ b
    some_is a b e = cc
has-key _ key e = cc

pub line-with-key : (items : List (Item NameId)) (p : ℕ) (key : Key) → KeyAt items p key → (item : Item NameId) × (slice_get items p ≡ Some item) × HasKey item key
line-with-key items p key h = by_item (slice_get items p) refl h
  where
    by_item : (o : Option (Item NameId)) → slice_get items p ≡ o → option_and_then key_of o ≡ Some key → (item : Item NameId) × (slice_get items p ≡ Some item) × HasKey item key
    by_item None e h = cc
    by_item (Some item) e h = (item, e, has-key item key h)

-- ---- lines with one key define the same

pub some-key : (a b : Key) → Some a ≡ Some b → a ≡ b
some-key a b e = cc

pub not-copy : (l : label_type.Label) (n : ℕ) → label_key l ≡ (4, n) → ⊥
not-copy l n e = let f = ap (λ (k : Key). k.0) e in let low = below-copies l in omega (arith, f, low)

same-name : (names : List (List ℕ)) (i j : NameId) → i.0 ≡ j.0 → name_of names i ≡ name_of names j
same-name names i j e = ap (λ n. get_or names n []) e

abbrev SameDefinition : List (List ℕ) → Item NameId → Item NameId → Type 0
SameDefinition names a b = (d : Definition) × (definition_of (named names a) ≡ Some d) × (definition_of (named names b) ≡ Some d)

same-defined : (names : List (List ℕ)) (key : Key) (a b : Item NameId) → key_of a ≡ Some key → key_of b ≡ Some key → SameDefinition names a b
same-defined names key (Label l) (Label m) h k =
    let same : m ≡ l = one-label m l (some-key (label_key m) (label_key l) (k ∙ sym h)) in (of_label l, refl, ap (λ x. Some (of_label x)) same)
same-defined names key (Copy i n) (Copy j o) h k =
    let keys : (4, j.0) ≡ (4, i.0) = some-key (4, j.0) (4, i.0) (k ∙ sym h) in
    let same : j.0 ≡ i.0 = ap (λ (x : Key). x.1) keys in
    (of_copy (name_of names i), refl, ap (λ x. Some (of_copy x)) (same-name names j i same))
same-defined names key (Label l) (Copy j o) h k = absurd (not-copy l j.0 (some-key (label_key l) (4, j.0) (h ∙ sym k)))
same-defined names key (Copy i n) (Label m) h k = absurd (not-copy m i.0 (some-key (label_key m) (4, i.0) (k ∙ sym h)))
same-defined names key (Label l) _ h k = cc
same-defined names key (Copy i n) _ h k = cc
same-defined names key _ b h k = cc

abbrev SameKey : Item NameId → Item NameId → Type 0
SameKey a b = (key : Key) × (key_of a ≡ Some key) × (key_of b ≡ Some key)

some-definition : (a b : Definition) → Some a ≡ Some b → a ≡ b
some-definition a b e = cc

pub copy-import : (names : List (List ℕ)) (id : NameId) (size : ℕ) → is_item (named names (Copy id size)) ≡ true → id.0 < length names
copy-import names id size h = import-within names id (and_parts (is_import_name (name_of names id)) _ (and_parts (is_import_name (name_of names id) && nat_le 1 size) (is_word size) h).0).0

same-keyed : (names : List (List ℕ)) → AreDistinct names → (d : Definition) (a b : Item NameId) → is_item (named names a) ≡ true → is_item (named names b) ≡ true
    → definition_of (named names a) ≡ Some d → definition_of (named names b) ≡ Some d → SameKey a b
same-keyed names distinct d (Label l) (Label m) f g h k =
    let same : of_label m ≡ of_label l = some-definition (of_label m) (of_label l) (k ∙ sym h) in
    let labels : m ≡ l = one_of m l same in
    (label_key l, refl, ap (λ x. Some (label_key x)) labels)
  where
    one_of : (m l : label_type.Label) → of_label m ≡ of_label l → m ≡ l
    one_of m l e = cc
same-keyed names distinct d (Copy i n) (Copy j o) f g h k =
    let same : of_copy (name_of names j) ≡ of_copy (name_of names i) = some-definition (of_copy (name_of names j)) (of_copy (name_of names i)) (k ∙ sym h) in
    let texts : name_of names j ≡ name_of names i = one_of (name_of names j) (name_of names i) same in
    let numbers : j.0 ≡ i.0 = one-number names distinct j i (copy-import names j o g) (copy-import names i n f) texts in
    ((4, i.0), refl, ap (λ (x : ℕ). Some (4, x)) numbers)
  where
    one_of : (x y : List ℕ) → of_copy x ≡ of_copy y → x ≡ y
    one_of x y e = cc
same-keyed names distinct d (Label l) (Copy j o) f g h k = let same : of_label l ≡ of_copy (name_of names j) = some-definition (of_label l) (of_copy (name_of names j)) (h ∙ sym k) in cc
same-keyed names distinct d (Copy i n) (Label m) f g h k = let same : of_copy (name_of names i) ≡ of_label m = some-definition (of_copy (name_of names i)) (of_label m) (h ∙ sym k) in cc
same-keyed names distinct d (Label l) _ f g h k = cc
same-keyed names distinct d (Copy i n) _ f g h k = cc
same-keyed names distinct d _ b f g h k = cc

-- ---- lines of a text

pub keyed-item : (items : List (Item NameId)) (p : ℕ) (key : Key) → KeyAt items p key → (item : Item NameId) × (slice_get items p ≡ Some item) × (key_of item ≡ Some key)
keyed-item items p key h = by_item (slice_get items p) refl h
  where
    by_item : (o : Option (Item NameId)) → slice_get items p ≡ o → option_and_then key_of o ≡ Some key → (item : Item NameId) × (slice_get items p ≡ Some item) × (key_of item ≡ Some key)
    by_item None e h = cc
    by_item (Some item) e h = (item, e, h)

pub named-line : (names : List (List ℕ)) (items : List (Item NameId)) (p : ℕ) (shown : Item (List ℕ)) → slice_get (map (named names) items) p ≡ Some shown
    → (item : Item NameId) × (slice_get items p ≡ Some item) × (named names item ≡ shown)
named-line names items p shown e = by_item (slice_get items p) refl (sym (slice_get-map (named names) items p) ∙ e)
  where
    by_item : (o : Option (Item NameId)) → slice_get items p ≡ o → option_map (named names) o ≡ Some shown → (item : Item NameId) × (slice_get items p ≡ Some item) × (named names item ≡ shown)
    by_item None f h = cc
    by_item (Some item) f h = (item, f, cc)

module _ (names : List (List ℕ)) (items : List (Item NameId)) where
  -- lines with one key define the same again
  pub repeated : (p : ℕ) → KeyTwice items p → IsRepeated (map (named names) items) p
  repeated p twice =
      let a = keyed-item items twice.0 twice.1 twice.3 in
      let b = keyed-item items p twice.1 twice.4 in
      let same = same-defined names twice.1 a.0 b.0 a.2 b.2 in
      (twice.0, same.0, twice.2, (named names a.0, shown-at names items twice.0 a.0 a.1, same.1), (named names b.0, shown-at names items p b.0 b.1, same.2))

  module _ (formed : AreItems (map (named names) items)) (distinct : AreDistinct names) where
    twice : (p : ℕ) → IsRepeated (map (named names) items) p → KeyTwice items p
    twice p again =
        let one = again.3 in
        let other = again.4 in
        let a = named-line names items again.0 one.0 one.1 in
        let b = named-line names items p other.0 other.1 in
        let good = λ (q : ℕ) (x : Item NameId) (e : slice_get items q ≡ Some x). item-formed (map (named names) items) q (named names x) formed (shown-at names items q x e) in
        let same = same-keyed names distinct again.1 a.0 b.0 (good again.0 a.0 a.1) (good p b.0 b.1) (ap definition_of a.2 ∙ one.2) (ap definition_of b.2 ∙ other.2) in
        (again.0, same.0, again.2, ap (option_and_then key_of) a.1 ∙ same.1, ap (option_and_then key_of) b.1 ∙ same.2)

    pub first-repeated : (p : ℕ) → IsFirstAt (KeyTwice items) p → IsFirstAt (IsRepeated (map (named names) items)) p
    first-repeated p first = record { here = repeated p first.here; before = λ q less again. first.before q less (twice q again) }

    pub none-repeated : Nowhere (KeyTwice items) → Nowhere (IsRepeated (map (named names) items))
    none-repeated none p again = none p (twice p again)
