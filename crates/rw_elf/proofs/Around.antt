-- The section that an address belongs to, and that its bytes lie in the file.
use Rattle.std.proofs.Common.{◌≡◌, ℕ, ◌<◌, Bool, true, false, List, [], ◌∷◌, length, filter, get_or, slice_get, Option, Some, None, All, Contains, IfSome, IfNone, refl, sym, ap, ◌∙◌, arith, inl, inr}
use Rattle.std.proofs.lemmas.Bool.{cases_lt, false≢true}
use Rattle.std.proofs.lemmas.Option.{slice_get_past, slice_get-get_or}
use Rattle.std.proofs.lemmas.Bool.Decides.{nat_tests}
use Rattle.std.proofs.lemmas.List.{get_or_default}
use Rattle.std.proofs.lemmas.List.Elements.{All-nil, All-cons, All-weaker, All-filter, All-contains, All-contains_itself, Contains-get_or, filter_passes}
use Rattle.std.proofs.lemmas.List.Sorted.{Contains-permutation, IsPermutation-sym}
use Rattle.rw_base.proofs.Ordered.{permutation-ordered}
use Rattle.rw_base.proofs.Lists.{Contains-cons}
use Rattle.rw_elf.specs.declared.section.Section.{Section}
use Rattle.rw_elf.specs.Section.{sections, null_section}
use Rattle.rw_elf.specs.Sections.{comes_before, is_placed, placed_sections}
use Rattle.rw_elf.specs.Places.{AreApart, Covers, covers, section_around}
use Rattle.rw_elf.proofs.Apart.{ends_before}

-- what passes a test is kept by it
kept_by_test : {X : Type 0} (p : X → Bool) (xs : List X) → All (λ y. p y ≡ true → Contains (filter p xs) y) xs
kept_by_test p [] = All-nil _
kept_by_test {X = X} p (x ∷ xs) =
    (elim (p x) as (λ b. p x ≡ b → All (λ y. p y ≡ true → Contains (filter p (x ∷ xs)) y) (x ∷ xs)) [
      | true ↦ λ passes. All-cons (λ y. p y ≡ true → Contains (filter p (x ∷ xs)) y) x xs
          (λ _. rw passes (0, omega arith, refl))
          (All-weaker (λ y. p y ≡ true → Contains (filter p xs) y) (λ y. p y ≡ true → Contains (filter p (x ∷ xs)) y) (λ y h is. rw passes (Contains-cons x y (filter p xs) (h is))) xs (kept_by_test p xs))
      | false ↦ λ fails. All-cons (λ y. p y ≡ true → Contains (filter p (x ∷ xs)) y) x xs
          (λ is. absurd (false≢true (sym fails ∙ is)))
          (All-weaker (λ y. p y ≡ true → Contains (filter p xs) y) (λ y. p y ≡ true → Contains (filter p (x ∷ xs)) y) (λ y h is. rw fails (h is)) xs (kept_by_test p xs))
    ]) refl

pub contains_filter : {X : Type 0} (p : X → Bool) (xs : List X) (x : X) → Contains xs x → p x ≡ true → Contains (filter p xs) x
contains_filter p xs x here passes = All-contains (λ y. p y ≡ true → Contains (filter p xs) y) xs x (kept_by_test p xs) here passes

pub filter_contains : {X : Type 0} (p : X → Bool) (xs : List X) (x : X) → Contains (filter p xs) x → Contains xs x
filter_contains p xs x here = All-contains (Contains xs) (filter p xs) x (All-filter p (Contains xs) xs (All-contains_itself xs)) here

pub filter_tests : {X : Type 0} (p : X → Bool) (xs : List X) (x : X) → Contains (filter p xs) x → p x ≡ true
filter_tests p xs x here = All-contains (λ y. p y ≡ true) (filter p xs) x (filter_passes p xs) here

-- a section is placed exactly if it is one of the ordered list
pub placed_has : (bytes : List ℕ) (s : Section) → Contains (sections bytes) s → is_placed s ≡ true → Contains (placed_sections bytes) s
unfolding placed_sections
placed_has bytes s here placed =
    Contains-permutation _ _ s (permutation-ordered comes_before (filter is_placed (sections bytes))) (contains_filter is_placed (sections bytes) s here placed)

pub placed_from : (bytes : List ℕ) (s : Section) → Contains (placed_sections bytes) s → Contains (sections bytes) s × (is_placed s ≡ true)
unfolding placed_sections
placed_from bytes s here =
    let kept : Contains (filter is_placed (sections bytes)) s = Contains-permutation _ _ s (IsPermutation-sym _ _ (permutation-ordered comes_before (filter is_placed (sections bytes)))) here in
    (filter_contains is_placed (sections bytes) s kept, filter_tests is_placed (sections bytes) s kept)

-- sections that are apart and share an address are one
pub only_one_covers : (list : List Section) → AreApart list → (address : ℕ) (s t : Section) → Contains list s → Contains list t → Covers address s → Covers address t → s ≡ t
only_one_covers list h address s t in_s in_t on_s on_t =
    let at_s : slice_get list in_s.0 ≡ Some s = slice_get-get_or list in_s.0 s in_s.1 ∙ ap Some in_s.2 in
    let at_t : slice_get list in_t.0 ≡ Some t = slice_get-get_or list in_t.0 t in_t.1 ∙ ap Some in_t.2 in
    elim (cases_lt in_s.0 in_t.0) [
      | inl before ↦ absurd (omega (arith, ends_before list h in_s.0 in_t.0 s t before at_s at_t, on_s.1, on_t.0))
      | inr later ↦
          elim (cases_lt in_t.0 in_s.0) [
            | inl before ↦ absurd (omega (arith, ends_before list h in_t.0 in_s.0 t s before at_t at_s, on_t.1, on_s.0))
            | inr level ↦
                let same : in_s.0 ≡ in_t.0 = omega arith in
                sym in_s.2 ∙ get_or_default list in_s.0 s t in_s.1 ∙ ap (λ k. get_or list k t) same ∙ in_t.2
          ]
    ]

pub covers-parts : (address : ℕ) (s : Section) → covers address s ≡ true → (is_placed s ≡ true) × Covers address s
covers-parts address s h = grind (arith, nat_tests)

pub covers-whole : (address : ℕ) (s : Section) → is_placed s ≡ true → Covers address s → covers address s ≡ true
covers-whole address s placed on = grind (arith, nat_tests)

-- what covers the address is placed
covering : (bytes : List ℕ) (address : ℕ) (t : Section) → Contains (filter (covers address) (sections bytes)) t → Contains (placed_sections bytes) t × Covers address t
covering bytes address t here =
    let parts = covers-parts address t (filter_tests (covers address) (sections bytes) t here) in
    (placed_has bytes t (filter_contains (covers address) (sections bytes) t here) parts.0, parts.1)

pub around-is : (bytes : List ℕ) (address : ℕ) (s : Section) → AreApart (placed_sections bytes) → Contains (placed_sections bytes) s → Covers address s → section_around bytes address ≡ Some s
unfolding section_around
around-is bytes address s apart here on =
    let from = placed_from bytes s here in
    let found : Contains (filter (covers address) (sections bytes)) s = contains_filter (covers address) (sections bytes) s from.0 (covers-whole address s from.1 on) in
    let some : 0 < length (filter (covers address) (sections bytes)) = omega (arith, found.1) in
    let first = covering bytes address (get_or (filter (covers address) (sections bytes)) 0 s) (Contains-get_or (filter (covers address) (sections bytes)) 0 s some) in
    slice_get-get_or (filter (covers address) (sections bytes)) 0 s some ∙ ap Some (only_one_covers (placed_sections bytes) apart address _ s first.0 here first.1 on)

pub around-is_none : (bytes : List ℕ) (address : ℕ) → ((k : ℕ) (s : Section) → slice_get (placed_sections bytes) k ≡ Some s → Covers address s → ⊥) → section_around bytes address ≡ None
unfolding section_around
around-is_none bytes address none =
    elim (cases_lt 0 (length (filter (covers address) (sections bytes)))) [
      | inl some ↦
          let first = covering bytes address (get_or (filter (covers address) (sections bytes)) 0 null_section) (Contains-get_or (filter (covers address) (sections bytes)) 0 null_section some) in
          let t : Section = get_or (filter (covers address) (sections bytes)) 0 null_section in
          absurd (none first.0.0 t (slice_get-get_or (placed_sections bytes) first.0.0 t first.0.1 ∙ ap Some first.0.2) first.1)
      | inr empty ↦ slice_get_past (filter (covers address) (sections bytes)) 0 (omega arith)
    ]

-- what a search among the placed sections answers
pub around_result : (bytes : List ℕ) (address : ℕ) (list : List Section) (r : Option Section) → list ≡ placed_sections bytes → AreApart (placed_sections bytes) → IfSome r (λ s. Contains list s × Covers address s) → IfNone r ((k : ℕ) (s : Section) → slice_get list k ≡ Some s → Covers address s → ⊥) → r ≡ section_around bytes address
around_result bytes address list None is apart some none = sym (around-is_none bytes address (λ k s at_k on. none k s (rw is at_k) on))
around_result bytes address list (Some s) is apart some none = sym (around-is bytes address s apart (rw (sym is) some.0) some.1)
