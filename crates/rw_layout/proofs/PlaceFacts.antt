-- The addresses of lines, one line after another.
use Rattle.std.proofs.Common.{◌≡◌, ℕ, zero, suc, ◌+◌, ◌-◌, ◌^◌, ◌≤◌, ◌<◌, nat_lt, Bool, true, false, cond, List, [], ◌∷◌, ◌++◌, Some, length, take, reverse, refl, sym, ap, ◌∙◌, arith}
use Rattle.std.specs.Prelude.{All, not, slice_get, slice_index, count_by, take_while, ◌==◌}
use Rattle.std.proofs.lemmas.Bool.{eqb-true, ltb-true, ltb-false}
use Rattle.std.proofs.lemmas.Bool.Decides.{nat_tests}
use Rattle.std.proofs.lemmas.List.{get_or_past, length_push, reverse-append}
use Rattle.std.proofs.lemmas.List.Sums.{sum_by-cons, sum_by-append, sum_by-take-le, take_while-cons}
use Rattle.asm_items.specs.declared.item.Item.{Item}
use Rattle.asm_items.specs.Lines.{Items, begins_section}
use Rattle.rw_layout.specs.Rule.{placed_size, placed_size_of, unit_before, units_begun}
use Rattle.rw_layout.specs.Places.{place_in, ArePlaced}
use Rattle.rw_layout.proofs.Lines.{take-next}

abbrev goes_on : Item (List ℕ) → Bool
goes_on item = not (begins_section item)

abbrev bit : Bool → ℕ
bit t = cond t 1 0

begun-more : (items : Items) (i : ℕ) (item : Item (List ℕ)) → slice_get items i ≡ Some item → units_begun items (i + 1) ≡ units_begun items i + bit (begins_section item)
begun-more items i item e =
    let next = ap (count_by begins_section) (take-next items i item e) in
    let both = sum_by-append (λ x. bit (begins_section x)) (take i items) (item ∷ []) in
    let one = sum_by-cons (λ x. bit (begins_section x)) item [] in
    omega (arith, next, both, one)

unit-more : (items : Items) (i : ℕ) (item : Item (List ℕ)) → slice_get items i ≡ Some item → unit_before items (i + 1) ≡ cond (goes_on item) (item ∷ unit_before items i) []
unit-more items i item e =
    ap (λ xs. take_while goes_on (reverse xs)) (take-next items i item e) ∙ ap (take_while goes_on) (reverse-append (take i items) (item ∷ [])) ∙ take_while-cons goes_on item (reverse (take i items))

pub get-push-last : {A : Type 0} (xs : List A) (x : A) (n : ℕ) → n ≡ length xs → slice_get (xs ++ x ∷ []) n ≡ Some x
get-push-last [] x zero e = refl
get-push-last [] x (suc n) e = absurd (omega (arith, e))
get-push-last (y ∷ ys) x zero e = absurd (omega (arith, e))
get-push-last (y ∷ ys) x (suc n) e = get-push-last ys x n (omega (arith, e))

pub get-push-before : {A : Type 0} (xs : List A) (x : A) (n : ℕ) → n < length xs → slice_get (xs ++ x ∷ []) n ≡ slice_get xs n
get-push-before [] x n h = absurd (omega (arith, h))
get-push-before (y ∷ ys) x zero h = refl
get-push-before (y ∷ ys) x (suc n) h = get-push-before ys x n (omega (arith, h))

-- the first n lines have their addresses; so many units began, and so many bytes lie in the last
pub record PlacedUpTo (addresses units : List ℕ) (items : Items) (n begun before : ℕ) : Type 0 where
  pub count : length addresses ≡ n
  pub units_are : begun ≡ units_begun items n
  pub bytes_are : before ≡ placed_size_of (unit_before items n)
  pub within : placed_size_of (unit_before items n) ≤ placed_size_of (take n items)
  pub most : begun ≤ n
  pub placed : ArePlaced addresses units items n

pub none-placed : (units : List ℕ) (items : Items) → PlacedUpTo [] units items 0 0 0
none-placed units items = record { count = refl; units_are = refl; bytes_are = refl; within = omega arith; most = omega arith; placed = λ q h. absurd (omega (arith, h)) }

module _ (addresses units : List ℕ) (items : Items) (n begun before : ℕ) (upto : PlacedUpTo addresses units items n begun before) (item : Item (List ℕ)) (here : slice_get items n ≡ Some item) (address : ℕ) (is : address ≡ slice_index units (begun - 1) + before) where
  placed-more : ArePlaced (addresses ++ address ∷ []) units items (n + 1)
  placed-more q less = by_place (q == n) refl
    where
      this : address ≡ place_in units items n
      this = is ∙ ap (λ k. slice_index units (k - 1) + before) upto.units_are ∙ ap (λ b. slice_index units (units_begun items n - 1) + b) upto.bytes_are

      by_place : (t : Bool) → (q == n) ≡ t → slice_get (addresses ++ address ∷ []) q ≡ Some (place_in units items q)
      by_place true e =
          let same : q ≡ n = eqb-true q n e in
          get-push-last addresses address q (omega (arith, same, upto.count)) ∙ ap Some this ∙ ap (λ k. Some (place_in units items k)) (sym same)
      by_place false e =
          let before_n : q < n = grind (arith, nat_tests, e, less) in
          get-push-before addresses address q (omega (arith, before_n, upto.count)) ∙ upto.placed q before_n

  taken-more : placed_size_of (take (n + 1) items) ≡ placed_size_of (take n items) + placed_size item
  taken-more =
      let next = ap placed_size_of (take-next items n item here) in
      let both = sum_by-append placed_size (take n items) (item ∷ []) in
      let one = sum_by-cons placed_size item [] in
      omega (arith, next, both, one)

  pub line-room : before + placed_size item ≤ placed_size_of items
  line-room =
      let more = taken-more in
      let all = sum_by-take-le placed_size items (n + 1) in
      omega (arith, more, all, upto.within, upto.bytes_are)

  pub unit-begins : begins_section item ≡ true → PlacedUpTo (addresses ++ address ∷ []) units items (n + 1) (begun + 1) 0
  unit-begins e =
      let unit : unit_before items (n + 1) ≡ [] = unit-more items n item here ∙ ap (λ t. cond (not t) (item ∷ unit_before items n) []) e in
      let count = begun-more items n item here ∙ ap (λ t. units_begun items n + bit t) e in
      let long = length_push addresses address in
      record {
        count = omega (arith, long, upto.count);
        units_are = omega (arith, count, upto.units_are);
        bytes_are = sym (ap placed_size_of unit);
        within = let none = ap placed_size_of unit in omega (arith, none);
        most = omega (arith, upto.most);
        placed = placed-more;
      }

  pub unit-goes-on : begins_section item ≡ false → PlacedUpTo (addresses ++ address ∷ []) units items (n + 1) begun (before + placed_size item)
  unit-goes-on e =
      let unit : unit_before items (n + 1) ≡ item ∷ unit_before items n = unit-more items n item here ∙ ap (λ t. cond (not t) (item ∷ unit_before items n) []) e in
      let bytes = ap placed_size_of unit ∙ sum_by-cons placed_size item (unit_before items n) in
      let count = begun-more items n item here ∙ ap (λ t. units_begun items n + bit t) e in
      let long = length_push addresses address in
      let more = taken-more in
      record {
        count = omega (arith, long, upto.count);
        units_are = omega (arith, count, upto.units_are);
        bytes_are = omega (arith, bytes, upto.bytes_are);
        within = omega (arith, bytes, more, upto.within);
        most = omega (arith, upto.most);
        placed = placed-more;
      }

pub base-low : (units : List ℕ) → All (λ base. base < 2 ^ 62) units → (k : ℕ) → slice_index units k < 2 ^ 62
base-low units all k = by_place (nat_lt k (length units)) refl
  where
    by_place : (t : Bool) → nat_lt k (length units) ≡ t → slice_index units k < 2 ^ 62
    by_place true e = all k 0 (ltb-true k (length units) e)
    by_place false e = let past = get_or_past units k 0 (ltb-false k (length units) e) in omega (arith, past)

pub sum-within : (items : Items) (i : ℕ) → placed_size_of (take i items) ≤ placed_size_of items
sum-within items i = sum_by-take-le placed_size items i
