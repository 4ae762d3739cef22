-- Symbols by start and then end: whether one of them has a range, or starts at an address.
use Rattle.std.proofs.Common.{◌≡◌, ℕ, ◌<◌, ◌≤◌, Bool, true, false, ◌&&◌, ◌||◌, cond, List, [], ◌∷◌, length, filter, get_or, refl, sym, ap, ◌∙◌, arith, inl, inr}
use Rattle.std.specs.List.{list_any}
use Rattle.std.specs.List.Sorted.{IsSortedBy, IsNonDecreasingBy, IsPartitionedBy}
use Rattle.std.proofs.lemmas.Bool.{cases_lt, false≢true}
use Rattle.std.proofs.lemmas.Bool.Decides.{nat_tests}
use Rattle.std.proofs.lemmas.List.{get_or_default}
use Rattle.std.proofs.lemmas.List.Folds.{list_any_at, list_any_none}
use Rattle.std.proofs.lemmas.List.Kept.{IsSortedBy-filter}
use Rattle.std.proofs.lemmas.List.Sorted.{sorted_far}
use Rattle.rw_base.proofs.Ordered.{sorted-ordered}
use Rattle.rw_elf.specs.declared.symbol.Symbol.{Symbol}
use Rattle.rw_elf.specs.Symbols.{symbols, considered_symbols}
use Rattle.rw_funcs.specs.Functions.{by_range, comes_before, function_symbols, is_function, is_startup, same_range, startup_symbols, starts_at}
use Rattle.rw_funcs.proofs.Order.{comes_before-is_order}

-- one of a list passes where one of those that pass another test does
pub list_any-filter : {X : Type 0} (p q : X → Bool) (xs : List X) → list_any (λ x. p x && q x) xs ≡ list_any q (filter p xs)
list_any-filter p q [] = refl
list_any-filter {X} p q (x ∷ xs) = by_test (p x) (list_any-filter p q xs)
  where
    by_test : (t : Bool) → list_any (λ y. p y && q y) xs ≡ list_any q (filter p xs) → ((t && q x) || list_any (λ y. p y && q y) xs) ≡ list_any q (cond t (x ∷ filter p xs) (filter p xs))
    by_test true h = ap (λ b. q x || b) h
    by_test false h = h

pub any_function : (bytes : List ℕ) (q : Symbol → Bool) → list_any (λ s. is_function bytes s && q s) (symbols bytes) ≡ list_any q (function_symbols bytes)
unfolding function_symbols
any_function bytes q = list_any-filter (is_function bytes) q (symbols bytes)

-- ---- lists in order

by_range_sorted : (list : List Symbol) → IsSortedBy comes_before (by_range list)
by_range_sorted list = sorted-ordered comes_before comes_before-is_order list

pub startup_sorted : (bytes : List ℕ) → IsSortedBy comes_before (filter (is_startup bytes) (by_range (function_symbols bytes)))
startup_sorted bytes = IsSortedBy-filter comes_before comes_before-is_order (is_startup bytes) (by_range (function_symbols bytes)) (by_range_sorted (function_symbols bytes))

not_before : (f g : Symbol) → comes_before g f ≡ false → f.value ≤ g.value
not_before f g h = grind (arith, nat_tests)

pub sorted_ascends : (list : List Symbol) → IsSortedBy comes_before list → IsNonDecreasingBy (λ f. f.value) list
sorted_ascends list up i j d low within = not_before (get_or list i d) (get_or list j d) (sorted_far comes_before comes_before-is_order list up i j d low within)

pub startup_ascends : (bytes : List ℕ) → IsNonDecreasingBy (λ f. f.value) (startup_symbols bytes)
unfolding startup_symbols
startup_ascends bytes =
    sorted_ascends (filter (is_startup bytes) (by_range (considered_symbols bytes)))
    (IsSortedBy-filter comes_before comes_before-is_order (is_startup bytes) (by_range (considered_symbols bytes)) (by_range_sorted (considered_symbols bytes)))

-- ---- one of a list passes, where the list is searched at one place

module _ {X : Type 0} (q : X → Bool) (xs : List X) (n : ℕ) (before : (k : ℕ) (d : X) → k < n → k < length xs → q (get_or xs k d) ≡ false) where
  pub none-past : length xs ≤ n → false ≡ list_any q xs
  none-past past = sym (list_any_none q xs (λ k d within. before k d (omega (arith, past, within)) within))

  pub found-at : (d : X) → n < length xs → ((k : ℕ) → n ≤ k → k < length xs → q (get_or xs k d) ≡ true → q (get_or xs n d) ≡ true) → q (get_or xs n d) ≡ list_any q xs
  found-at d within first = by_test (q (get_or xs n d)) refl
    where
      fails : (t : Bool) → (t ≡ true → false ≡ true) → t ≡ false
      fails true g = sym (g refl)
      fails false g = refl

      by_test : (t : Bool) → q (get_or xs n d) ≡ t → t ≡ list_any q xs
      by_test true e = sym (list_any_at q xs n d within e)
      by_test false e =
          sym (list_any_none q xs (λ k c low.
          elim (cases_lt k n) [
            | inl ahead ↦ before k c ahead low
            | inr there ↦ ap q (get_or_default xs k c d low) ∙ fails (q (get_or xs k d)) (λ yes. sym e ∙ first k there low yes)
          ]))

-- ---- a symbol that starts at an address

starts-after : (f : Symbol) (a : ℕ) → f.value < a → starts_at a f ≡ false
starts-after f a low = grind (arith, nat_tests)

starts-here : (f : Symbol) (a : ℕ) → starts_at a f ≡ true → f.value ≡ a
starts-here f a h = grind (arith, nat_tests)

starts-if : (f : Symbol) (a : ℕ) → f.value ≡ a → starts_at a f ≡ true
starts-if f a h = grind (arith, nat_tests)

-- the symbols below an address stand before the others
pub record SplitsAt (list : List Symbol) (a n : ℕ) : Type 0 where
  pub below : (k : ℕ) (d : Symbol) → k < n → k < length list → (get_or list k d).value < a
  pub above : (k : ℕ) (d : Symbol) → n ≤ k → k < length list → a ≤ (get_or list k d).value

pub start-found : (list : List Symbol) (a n : ℕ) (d : Symbol) → IsNonDecreasingBy (λ f. f.value) list → SplitsAt list a n → n < length list → starts_at a (get_or list n d) ≡ list_any (starts_at a) list
start-found list a n d up at within =
    found-at (starts_at a) list n (λ k e low inside. starts-after (get_or list k e) a (at.below k e low inside)) d within
    (λ k high inside yes.
    let here = starts-here (get_or list k d) a yes in
    let low = up n k d high inside in
    let reached = at.above n d (omega arith) within in
    starts-if (get_or list n d) a (omega (arith, here, low, reached)))

pub start-past : (list : List Symbol) (a n : ℕ) → SplitsAt list a n → length list ≤ n → false ≡ list_any (starts_at a) list
start-past list a n at past = none-past (starts_at a) list n (λ k e low inside. starts-after (get_or list k e) a (at.below k e low inside)) past

-- ---- a symbol that has a range

range-before : (s f : Symbol) → comes_before s f ≡ true → same_range f s ≡ false
range-before s f h = grind (arith, nat_tests)

range-orders : (s f : Symbol) → same_range f s ≡ true → (comes_before s f ≡ false) × (comes_before f s ≡ false)
range-orders s f h = (grind (arith, nat_tests), grind (arith, nat_tests))

range-if : (s f : Symbol) → comes_before s f ≡ false → comes_before f s ≡ false → same_range f s ≡ true
range-if s f low high = grind (arith, nat_tests)

-- the symbols before a range stand before the others
pub record SplitsBefore (list : List Symbol) (f : Symbol) (n : ℕ) : Type 0 where
  pub below : (k : ℕ) (d : Symbol) → k < n → k < length list → comes_before (get_or list k d) f ≡ true
  pub above : (k : ℕ) (d : Symbol) → n ≤ k → k < length list → comes_before (get_or list k d) f ≡ false

pub range-found : (list : List Symbol) (f : Symbol) (n : ℕ) (d : Symbol) → IsSortedBy comes_before list → SplitsBefore list f n → n < length list → same_range f (get_or list n d) ≡ list_any (same_range f) list
range-found list f n d up at within =
    found-at (same_range f) list n (λ k e low inside. range-before (get_or list k e) f (at.below k e low inside)) d within
    (λ k high inside yes.
    let both = range-orders (get_or list k d) f yes in
    let far = sorted_far comes_before comes_before-is_order list up n k d high inside in
    range-if (get_or list n d) f (at.above n d (omega arith) within) (comes_before-is_order.chain f (get_or list k d) (get_or list n d) both.1 far))

pub range-past : (list : List Symbol) (f : Symbol) (n : ℕ) → SplitsBefore list f n → length list ≤ n → false ≡ list_any (same_range f) list
range-past list f n at past = none-past (same_range f) list n (λ k e low inside. range-before (get_or list k e) f (at.below k e low inside)) past

-- a list in order is split by what comes before a symbol
pub splits : (list : List Symbol) (f : Symbol) → IsSortedBy comes_before list → IsPartitionedBy (λ s. comes_before s f) list
splits list f up i j d low within here = by_test (comes_before (get_or list i d) f) refl
  where
    by_test : (t : Bool) → comes_before (get_or list i d) f ≡ t → t ≡ true
    by_test true e = refl
    by_test false e =
        absurd (false≢true (sym (comes_before-is_order.chain (get_or list j d) (get_or list i d) f (sorted_far comes_before comes_before-is_order list up i j d low within) e) ∙ here))
