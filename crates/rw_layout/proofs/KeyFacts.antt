-- Keys of lines, and entries that find them.
use Rattle.std.proofs.Common.{◌≡◌, ℕ, ◌+◌, ◌<◌, Bool, true, false, List, Option, Some, None, refl, sym, ap, subst, ◌∙◌, arith, ◌&&◌}
use Rattle.std.specs.Prelude.{is_some, is_none, option_and_then, slice_get, ◌==◌, if◌then◌else◌, length}
use Rattle.std.specs.Map.{lookup}
use Rattle.std.proofs.lemmas.Bool.{and_parts, eqb-true, eq-eqb}
use Rattle.std.proofs.lemmas.Bool.Decides.{nat_tests}
use Rattle.std.proofs.lemmas.Option.{slice_get_within}
use Rattle.asm_items.specs.declared.item.Item.{Item}
use Rattle.asm_items.specs.declared.item.NameId.{NameId}
use Rattle.rw_layout.specs.Checks.{IsFirstAt}
use Rattle.rw_layout.specs.Keys.{Key, key_of, is_key, KeyAt, KeyTwice, AreKeyed, Adds}

pub none-there : {A : Type 0} (o : Option A) → is_some o ≡ false → true ≡ is_none o
none-there None h = refl
none-there (Some a) h = cc

some-there : {A : Type 0} (o : Option A) → false ≡ is_none o → (a : A) × (o ≡ Some a)
some-there None h = cc
some-there (Some a) h = (a, refl)

is-none : {A : Type 0} (o : Option A) → true ≡ is_none o → o ≡ None
is-none None h = refl
is-none (Some a) h = cc

pub same-key : (a b : Key) → is_key a b ≡ true → a ≡ b
same-key a b h =
    let both = and_parts (a.0 == b.0) (a.1 == b.1) h in
    let first : a.0 ≡ b.0 = eqb-true a.0 b.0 both.0 in
    let second : a.1 ≡ b.1 = eqb-true a.1 b.1 both.1 in
    ap (λ x. (x, a.1)) first ∙ ap (λ x. (b.0, x)) second

pub own-key : (a : Key) → is_key a a ≡ true
own-key a = ap (λ t. t && (a.1 == a.1)) (eq-eqb a.0 a.0 refl) ∙ eq-eqb a.1 a.1 refl

pub key-within : (items : List (Item NameId)) (p : ℕ) (key : Key) → KeyAt items p key → p < length items
key-within items p key h = by_found (slice_get items p) refl h
  where
    by_found : (o : Option (Item NameId)) → slice_get items p ≡ o → option_and_then key_of o ≡ Some key → p < length items
    by_found None e h = cc
    by_found (Some item) e h = slice_get_within items p item e

one-key : (items : List (Item NameId)) (p : ℕ) (a b : Key) → KeyAt items p a → KeyAt items p b → a ≡ b
one-key items p a b h k = some_is a b (sym h ∙ k)
  where
    some_is : (a b : Key) → Some a ≡ Some b → a ≡ b
    some_is a b e = cc

module _ (entries : List (Key × ℕ)) (items : List (Item NameId)) (i : ℕ) (keyed : AreKeyed entries items i) where
  -- no line of these has a key twice
  pub none-twice : (p : ℕ) → p < i → KeyTwice items p → ⊥
  none-twice p before twice =
      let early = keyed.every twice.1 twice.0 (omega (arith, before, twice.2)) twice.3 in
      let late = keyed.every twice.1 p before twice.4 in
      let same : twice.0 ≡ p = some_is twice.0 p (sym early ∙ late) in omega (arith, same, twice.2)
    where
      some_is : (a b : ℕ) → Some a ≡ Some b → a ≡ b
      some_is a b e = cc

  -- the next line has no key
  pub keyed-none : option_and_then key_of (slice_get items i) ≡ None → AreKeyed entries items (i + 1)
  keyed-none none = record {
    only = λ key p e. (omega (arith, (keyed.only key p e).0), (keyed.only key p e).1);
    every = λ key p before h. by_place key p (p == i) refl before h;
  }
    where
      by_place : (key : Key) (p : ℕ) (t : Bool) → (p == i) ≡ t → p < i + 1 → KeyAt items p key → lookup (is_key key) entries ≡ Some p
      by_place key p true e before h = let h' = subst (λ q. KeyAt items q key) (eqb-true p i e) h in cc
      by_place key p false e before h = keyed.every key p (grind (arith, nat_tests, e, before)) h

  -- the next line has a key that an earlier one has
  pub keyed-twice : (new : List (Key × ℕ)) (key : Key) (line : ℕ) → Adds entries new key line false → KeyAt items i key → IsFirstAt (KeyTwice items) i
  keyed-twice new key line adds here =
      let found = some-there (lookup (is_key key) entries) adds.known in
      let early = keyed.only key found.0 found.1 in
      record { here = (found.0, key, early.0, early.1, here); before = none-twice }

  pub keyed-more : (new : List (Key × ℕ)) (key : Key) (line : ℕ) → line ≡ i → Adds entries new key line true → KeyAt items i key → AreKeyed new items (i + 1)
  keyed-more new key line is adds here = record { only = λ other p e. only_at other p (is_key key other) refl e; every = λ other p before h. every_at other p (p == i) (is_key key other) refl refl before h }
    where
      new_is : (other : Key) (t : Bool) → is_key key other ≡ t → lookup (is_key other) new ≡ (if t then Some line else lookup (is_key other) entries)
      new_is other t e = adds.found refl other ∙ ap (λ t. if t then Some line else lookup (is_key other) entries) e

      only_at : (other : Key) (p : ℕ) (t : Bool) → is_key key other ≡ t → lookup (is_key other) new ≡ Some p → (p < i + 1) × KeyAt items p other
      only_at other p true e h =
          let place : line ≡ p = some_is line p (sym (new_is other true e) ∙ h) in
          let at : i ≡ p = sym is ∙ place in
          (omega (arith, at), subst (λ q. KeyAt items q other) at (here ∙ ap Some (same-key key other e)))
        where
          some_is : (a b : ℕ) → Some a ≡ Some b → a ≡ b
          some_is a b e = cc
      only_at other p false e h = let old = keyed.only other p (sym (new_is other false e) ∙ h) in (omega (arith, old.0), old.1)

      every_at : (other : Key) (p : ℕ) (t u : Bool) → (p == i) ≡ t → is_key key other ≡ u → p < i + 1 → KeyAt items p other → lookup (is_key other) new ≡ Some p
      every_at other p true true e f before h = new_is other true f ∙ ap Some (is ∙ sym (eqb-true p i e))
      every_at other p true false e f before h =
          let same : key ≡ other = one-key items i key other here (subst (λ q. KeyAt items q other) (eqb-true p i e) h) in
          let yes : is_key key other ≡ true = subst (λ k. is_key key k ≡ true) same (own-key key) in cc
      every_at other p false true e f before h =
          let old = keyed.every other p (grind (arith, nat_tests, e, before)) h in
          let none = is-none (lookup (is_key key) entries) adds.known in
          let same : key ≡ other = same-key key other f in
          let none' : lookup (is_key other) entries ≡ None = subst (λ k. lookup (is_key k) entries ≡ None) same none in cc
      every_at other p false false e f before h = new_is other false f ∙ keyed.every other p (grind (arith, nat_tests, e, before)) h
