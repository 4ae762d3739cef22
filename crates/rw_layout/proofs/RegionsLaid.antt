-- The rule lays the units, the regions of a text and those of a run within their bounds, aligned and apart.
use Rattle.std.proofs.Common.{◌≡◌, ◌≢◌, ℕ, zero, suc, ◌+◌, ◌-◌, ◌*◌, ◌%◌, ◌^◌, ◌<◌, ◌≤◌, List, [], ◌∷◌, ◌++◌, length, map, reverse, drop, get_or, Some, refl, sym, ap, subst, ◌∙◌, arith, sum_by, slice_get, slice_index, option_map, max, ◌/◌, mul-le-mul}
use Rattle.std.proofs.Math.Nat.{div-add-mod}
use Rattle.std.proofs.lemmas.List.{reverse-append, reverse-reverse, length-reverse, length-map, length-take, length-drop, length-append, get_or-take, get_or-drop}
use Rattle.std.proofs.lemmas.List.Sums.{sum_by-cons, sum_by-append}
use Rattle.std.proofs.lemmas.Option.{slice_get-map, slice_get_within, slice_get-get_or}
use Rattle.std.proofs.Math.ListN.{get_or-eq_default}
use Rattle.asm_items.specs.Lines.{Items, DataSection, align_of, copies_number, copies_of, counters_size, sections_of}
use Rattle.asm_items.specs.Layout.{AreDisjoint, AreRegionsLaid, Extent}
use Rattle.rw_layout.specs.declared.laying.Order.{Order}
use Rattle.rw_layout.specs.declared.laying.Order.TheVariants.{Forward, Reverse}
use Rattle.rw_layout.specs.Rule.{bases_from, behind_all, in_order, unit_bases, behind_units, units_of, first_address, functions_number, copy_extent, copy_bases, behind_copies, section_bases, counters_base, region_bases, run_bases, fresh_bases, fresh_extent, stack_base, arguments_base, canary_base, first_fresh_base}
use Rattle.rw_layout.specs.RunRegions.{RunRegions, HasRoom, fresh_sizes, run_extents, section_extent}
use Rattle.rw_layout.proofs.Placed.{AreAligned, AreCrossApart, AreUpTo, IsWithin, Laid, behind-from, behind-up-to, below-cross, both-laid, cross-both, more-laid, none-laid, placed-laid, reversed-get, reversed-laid, some-laid, turned-cross, wider}
use Rattle.rw_layout.proofs.PartsOrder.{AreText, counter_units, data_units, function_units, functions-length, section_unit, text-units}
use Rattle.rw_layout.proofs.UnitSizes.{AreFormed, HasCounters, divides, section-goes, section-sized, text-counters, text-size, unit-align, units-within}
use Rattle.rw_layout.proofs.Limits.{AreWithinLimits, copies-few, copies-sum}

-- ---- lists

get-behind : {A : Type 0} (xs ys : List A) (k : ℕ) → slice_get (xs ++ ys) (length xs + k) ≡ slice_get ys k
get-behind [] ys k = ap (slice_get ys) (omega arith)
get-behind (x ∷ xs) ys k =
    let same : suc (length xs) + k ≡ suc (length xs + k) = omega arith in
    ap (slice_get (x ∷ (xs ++ ys))) same ∙ get-behind xs ys k

get-front : {A : Type 0} (xs ys : List A) (k : ℕ) (x : A) → slice_get xs k ≡ Some x → slice_get (xs ++ ys) k ≡ Some x
get-front [] ys k x e = cc
get-front (y ∷ xs) ys zero x e = e
get-front (y ∷ xs) ys (suc k) x e = get-front xs ys k x e

-- what stands in a list that is mapped
pub mapped-get : {A B : Type 0} (f : A → B) (xs : List A) (k : ℕ) (y : B) → slice_get (map f xs) k ≡ Some y → (x : A) × (slice_get xs k ≡ Some x) × (f x ≡ y)
mapped-get f [] k y e = cc
mapped-get f (x ∷ xs) zero y e = (x, refl, cc)
mapped-get f (x ∷ xs) (suc k) y e = mapped-get f xs k y e

sum-reverse : {A : Type 0} (f : A → ℕ) (xs : List A) → sum_by f (reverse xs) ≡ sum_by f xs
sum-reverse f [] = refl
sum-reverse f (x ∷ xs) =
    let turned : sum_by f (reverse (x ∷ xs)) ≡ sum_by f (reverse xs ++ x ∷ []) = ap (sum_by f) (reverse-append (x ∷ []) xs) in
    let parts = sum_by-append f (reverse xs) (x ∷ []) in
    let one = sum_by-cons f x [] in
    let all = sum_by-cons f x xs in
    let rest = sum-reverse f xs in
    omega (arith, turned, parts, one, all, rest)

pub one-get : {A : Type 0} (x : A) (k : ℕ) (y : A) → slice_get (x ∷ []) k ≡ Some y → (k ≡ 0) × (x ≡ y)
one-get x zero y e = (refl, cc)
one-get x (suc k) y e = cc

default-free : (xs : List ℕ) (k d : ℕ) → k < length xs → get_or xs k d ≡ get_or xs k 0
default-free xs k d inside =
    let one : slice_get xs k ≡ Some (get_or xs k d) = slice_get-get_or xs k d inside in
    let other : slice_get xs k ≡ Some (get_or xs k 0) = slice_get-get_or xs k 0 inside in
    cc

-- ---- units

aligned-in-order : (order : Order) (units : List Extent) → AreAligned units → AreAligned (in_order order units)
aligned-in-order Forward units h = h
aligned-in-order Reverse units h = λ r a e. h (length units - 1 - r) a (reversed-get units r a e).1

up-to-in-order : (order : Order) (units : List Extent) (most : ℕ) → AreUpTo most units → AreUpTo most (in_order order units)
up-to-in-order Forward units most h = h
up-to-in-order Reverse units most h = λ r a e. h (length units - 1 - r) a (reversed-get units r a e).1

laid-in-order : (order : Order) (units : List Extent) (bases : List ℕ) (low high : ℕ) → Laid (in_order order units) bases low high → Laid units (in_order order bases) low high
laid-in-order Forward units bases low high is = is
laid-in-order Reverse units bases low high is = subst (λ xs. Laid xs (reverse bases) low high) (reverse-reverse units) (reversed-laid (reverse units) bases low high is)

length-in-order : (order : Order) (units : List Extent) → length (in_order order units) ≡ length units
length-in-order Forward units = refl
length-in-order Reverse units = length-reverse units

sum-in-order : (order : Order) (units : List Extent) → sum_by (λ a. a.size) (in_order order units) ≡ sum_by (λ a. a.size) units
sum-in-order Forward units = refl
sum-in-order Reverse units = sum-reverse (λ a. a.size) units

-- what is known of the lines of a program
pub record IsSmall (items : Items) : Type 0 where
  pub text : AreText items
  pub formed : AreFormed items
  pub limits : AreWithinLimits items
  pub lines : length items < 2 ^ 32
  pub units : functions_number items + copies_number items < 2 ^ 24

one-at-most : (items : Items) (units : List Extent) → HasCounters items units → length units ≤ 1
one-at-most items [] h = omega arith
one-at-most items (unit ∷ units) h = let none = ap length h.0 in omega (arith, none)

fresh-sum : (fresh : List Extent) → sum_by (λ a. a.size) (map fresh_extent (map (λ a. a.size) fresh)) ≡ sum_by (λ a. a.size) fresh
fresh-sum [] = refl
fresh-sum (a ∷ fresh) =
    let left : sum_by (λ x. x.size) (map fresh_extent (map (λ x. x.size) (a ∷ fresh))) ≡ a.size + sum_by (λ x. x.size) (map fresh_extent (map (λ x. x.size) fresh)) =
    sum_by-cons (λ x. x.size) (fresh_extent a.size) (map fresh_extent (map (λ x. x.size) fresh)) in
    let right : sum_by (λ x. x.size) (a ∷ fresh) ≡ a.size + sum_by (λ x. x.size) fresh = sum_by-cons (λ x. x.size) a fresh in
    let rest = fresh-sum fresh in
    omega (arith, left, right, rest)

by-16 : (base d : ℕ) → 16 % d ≡ 0 → base % 16 ≡ 0 → base % d ≡ 0
by-16 base d whole h =
    let parts : d * (16 / d) + 16 % d ≡ 16 = div-add-mod 16 d in
    let product : 16 ≡ d * (16 / d) = omega (arith, parts, whole) in
    divides d (16 / d) base (subst (λ n. base % n ≡ 0) product h)

module _ (items : Items) (order : Order) (gap : ℕ) (small : IsSmall items) (close : gap ≤ 2 ^ 20) where
  parts : units_of items ≡ function_units items ++ data_units items
  parts = text-units items small.text

  pub units-length : length (units_of items) ≡ functions_number items + (copies_number items + length (counter_units items))
  units-length =
      let all = ap length parts in
      let both = length-append (function_units items) (data_units items) in
      let more = length-append (map section_unit (sections_of items)) (counter_units items) in
      let mapped = length-map (sections_of items) section_unit in
      let functions = functions-length items in
      omega (arith, all, both, more, mapped, functions)

  pub units-laid : Laid (units_of items) (unit_bases items order gap) first_address (behind_units items order gap)
  units-laid =
      laid-in-order order (units_of items) (bases_from gap first_address (in_order order (units_of items))) first_address (behind_units items order gap)
      (placed-laid gap first_address (in_order order (units_of items)) (aligned-in-order order (units_of items) (λ r a e. (unit-align items small.formed r a e).0)))

  pub units-from : first_address ≤ behind_units items order gap
  units-from = behind-from gap first_address (in_order order (units_of items)) (aligned-in-order order (units_of items) (λ r a e. (unit-align items small.formed r a e).0))

  pub units-end : behind_units items order gap ≤ 2 ^ 44 + 2 ^ 42
  units-end =
      let most = behind-up-to 65535 gap first_address (in_order order (units_of items))
      (aligned-in-order order (units_of items) (λ r a e. (unit-align items small.formed r a e).0))
      (up-to-in-order order (units_of items) 65536 (λ r a e. (unit-align items small.formed r a e).1)) in
      let sum = sum-in-order order (units_of items) in
      let count = length-in-order order (units_of items) in
      let number = units-length in
      let one = one-at-most items (counter_units items) (text-counters items small.formed small.text) in
      let few : length (in_order order (units_of items)) ≤ 2 ^ 24 = omega (arith, number, one, count, small.units) in
      let wide : 65535 + gap ≤ 65535 + 2 ^ 20 = omega (arith, close) in
      let gaps : length (in_order order (units_of items)) * (65535 + gap) ≤ 2 ^ 24 * (65535 + 2 ^ 20) = mul-le-mul few wide in
      let sizes = units-within items in
      let lines = text-size items small.text in
      omega (arith, most, sum, gaps, sizes, lines, small.lines, small.limits.sections, small.limits.counters)

  -- ---- copies

  copies-aligned : AreAligned (map copy_extent (copies_of items))
  copies-aligned r a e = let found = mapped-get copy_extent (copies_of items) r a e in let align = ap (λ x. x.align) found.2 in omega (arith, align)

  copies-up-to : AreUpTo 16 (map copy_extent (copies_of items))
  copies-up-to r a e = let found = mapped-get copy_extent (copies_of items) r a e in let align = ap (λ x. x.align) found.2 in omega (arith, align)

  pub copies-laid : Laid (map copy_extent (copies_of items)) (copy_bases items order gap) (behind_units items order gap) (behind_copies items order gap)
  copies-laid = placed-laid 0 (behind_units items order gap) (map copy_extent (copies_of items)) copies-aligned

  pub copies-from : behind_units items order gap ≤ behind_copies items order gap
  copies-from = behind-from 0 (behind_units items order gap) (map copy_extent (copies_of items)) copies-aligned

  pub copies-end : behind_copies items order gap ≤ 2 ^ 44 + 2 ^ 43
  copies-end =
      let most = behind-up-to 15 0 (behind_units items order gap) (map copy_extent (copies_of items)) copies-aligned copies-up-to in
      let sum = copies-sum (copies_of items) in
      let number = length-map (copies_of items) copy_extent in
      let few = copies-few items in
      let low = units-end in
      omega (arith, most, sum, number, few, low, small.lines, small.limits.copies)

  -- ---- sections

  pub section-base : (k : ℕ) → k < copies_number items → slice_index (section_bases items order gap) k ≡ slice_index (unit_bases items order gap) (functions_number items + k)
  section-base k inside =
      get_or-take (copies_number items) (drop (functions_number items) (unit_bases items order gap)) k 0 inside ∙ get_or-drop (functions_number items) (unit_bases items order gap) k 0

  pub sections-length : length (section_bases items order gap) ≡ copies_number items
  sections-length =
      let taken = length-take (copies_number items) (drop (functions_number items) (unit_bases items order gap)) in
      let dropped = length-drop (functions_number items) (unit_bases items order gap) in
      let lengths = units-laid.lengths in
      let number = units-length in
      omega (arith, taken, dropped, lengths, number)

  -- the unit of a section
  pub section-unit : (k : ℕ) (s : DataSection) → slice_get (sections_of items) k ≡ Some s → slice_get (units_of items) (functions_number items + k) ≡ Some (section_unit s)
  section-unit k s e =
      let mapped : slice_get (map section_unit (sections_of items)) k ≡ Some (section_unit s) = slice_get-map section_unit (sections_of items) k ∙ ap (option_map section_unit) e in
      let front = get-front (map section_unit (sections_of items)) (counter_units items) k (section_unit s) mapped in
      ap (λ xs. slice_get xs (functions_number items + k)) parts ∙ ap (λ n. slice_get (function_units items ++ data_units items) (n + k)) (sym (functions-length items))
      ∙ get-behind (function_units items) (data_units items) k ∙ front

  counter-unit : slice_get (units_of items) (functions_number items + copies_number items) ≡ slice_get (counter_units items) 0
  counter-unit =
      let number : copies_number items ≡ length (map section_unit (sections_of items)) + 0 = omega (arith, length-map (sections_of items) section_unit) in
      ap (λ xs. slice_get xs (functions_number items + copies_number items)) parts ∙ ap (λ n. slice_get (function_units items ++ data_units items) (n + copies_number items)) (sym (functions-length items))
      ∙ get-behind (function_units items) (data_units items) (copies_number items)
      ∙ ap (slice_get (data_units items)) number ∙ get-behind (map section_unit (sections_of items)) (counter_units items) 0

  pub sections-laid : Laid (map section_extent (sections_of items)) (section_bases items order gap) first_address (behind_units items order gap)
  sections-laid =
      some-laid (units_of items) (unit_bases items order gap) first_address (behind_units items order gap) (map section_extent (sections_of items)) (section_bases items order gap)
      (λ k. functions_number items + k) units-laid (sections-length ∙ sym (length-map (sections_of items) section_extent)) (λ r s a b e f same. omega (arith, same)) within
    where
      within : (r : ℕ) (a : Extent) → slice_get (map section_extent (sections_of items)) r ≡ Some a → IsWithin (units_of items) (unit_bases items order gap) (functions_number items + r) a (slice_index (section_bases items order gap) r)
      within r a e =
          let found = mapped-get section_extent (sections_of items) r a e in
          let s : DataSection = found.0 in
          let inside = slice_get_within (sections_of items) r s found.1 in
          let at = section-base r inside in
          let goes = section-goes items small.formed r s found.1 in
          let sized = section-sized items small.text r s found.1 in
          let size = ap (λ x. x.size) found.2 in
          record {
            around = section_unit s;
            here = section-unit r s found.1;
            size = omega (arith, size, sized);
            at = at;
            aligned = λ h. subst (λ x. slice_index (section_bases items order gap) r % max 1 x.align ≡ 0) found.2
                (goes.2 (slice_index (section_bases items order gap) r) (subst (λ n. n % max 1 (max 16 (align_of s.lines)) ≡ 0) (sym at) h));
          }

  -- ---- counters

  abbrev pub counters_extent : Extent
  counters_extent = record { size = counters_size items; align = 8 }

  -- the counters lie in the unit behind the sections, or have no bytes
  pub record CountersLaid : Type 0 where
    pub laid : Laid (counters_extent ∷ []) (counters_base items order gap ∷ []) first_address (behind_units items order gap)
    pub cross : AreCrossApart (map section_extent (sections_of items)) (section_bases items order gap) (counters_extent ∷ []) (counters_base items order gap ∷ [])
    pub other : (k : ℕ) (a : Extent) → k < functions_number items + copies_number items → slice_get (units_of items) k ≡ Some a
        → AreDisjoint (slice_index (unit_bases items order gap) k) a.size (counters_base items order gap) (counters_size items)

  no-counters : counter_units items ≡ [] → counters_size items ≡ 0 → CountersLaid
  no-counters none empty =
      let number = units-length in
      let length_none = ap length none in
      let lengths = units-laid.lengths in
      let past : length (unit_bases items order gap) ≤ functions_number items + copies_number items = omega (arith, number, length_none, lengths) in
      let base : counters_base items order gap ≡ first_address = get_or-eq_default (unit_bases items order gap) first_address past in
      let from = units-from in
      record {
        laid = more-laid counters_extent (counters_base items order gap) [] [] first_address first_address (behind_units items order gap)
            (omega (arith, base)) (omega (arith, base, empty)) from (omega (arith, base)) (none-laid first_address (behind_units items order gap));
        cross = record {
          cross = λ r s a b e f o p low high same. (let one = one-get counters_extent s b f in let size = ap (λ x. x.size) one.1 in absurd (omega (arith, size, empty, high)));
        };
        other = λ k a before e o p low high same. absurd (omega (arith, empty, high));
      }

  counters-unit : (unit : Extent) → slice_get (units_of items) (functions_number items + copies_number items) ≡ Some unit → unit.size ≡ counters_size items
      → ((base : ℕ) → base % max 1 unit.align ≡ 0 → base % 8 ≡ 0) → CountersLaid
  counters-unit unit here size aligned =
      let inside : functions_number items + copies_number items < length (unit_bases items order gap) =
      omega (arith, units-laid.lengths, slice_get_within (units_of items) (functions_number items + copies_number items) unit here) in
      let base : counters_base items order gap ≡ slice_index (unit_bases items order gap) (functions_number items + copies_number items) =
      default-free (unit_bases items order gap) (functions_number items + copies_number items) first_address inside in
      record {
        laid = some-laid (units_of items) (unit_bases items order gap) first_address (behind_units items order gap) (counters_extent ∷ []) (counters_base items order gap ∷ [])
            (λ r. functions_number items + copies_number items) units-laid refl
            (λ r s a b e f same. (let one = one-get counters_extent r a e in let other = one-get counters_extent s b f in omega (arith, one.0, other.0)))
            (λ r a e. within r a (one-get counters_extent r a e) base);
        cross = record { cross = λ r s a b e f. cross r s a b e (one-get counters_extent s b f) base };
        other = λ k a before e o p low high same. units-laid.apart k (functions_number items + copies_number items) a unit (λ z. omega (arith, z, before)) e here
            o p low (omega (arith, high, size)) (omega (arith, same, base));
      }
    where
      within : (r : ℕ) (a : Extent) → (r ≡ 0) × (counters_extent ≡ a) → counters_base items order gap ≡ slice_index (unit_bases items order gap) (functions_number items + copies_number items)
          → IsWithin (units_of items) (unit_bases items order gap) (functions_number items + copies_number items) a (slice_index (counters_base items order gap ∷ []) r)
      within r a one base =
          let same : slice_index (counters_base items order gap ∷ []) r ≡ counters_base items order gap = ap (slice_index (counters_base items order gap ∷ [])) one.0 in
          let own = ap (λ x. x.size) one.1 in
          record {
            around = unit;
            here = here;
            size = omega (arith, own, size);
            at = same ∙ base;
            aligned = λ h. subst (λ x. slice_index (counters_base items order gap ∷ []) r % max 1 x.align ≡ 0) one.1
                (subst (λ n. n % 8 ≡ 0) (sym (same ∙ base)) (aligned (slice_index (unit_bases items order gap) (functions_number items + copies_number items)) h));
          }

      cross : (r s : ℕ) (a b : Extent) → slice_get (map section_extent (sections_of items)) r ≡ Some a → (s ≡ 0) × (counters_extent ≡ b)
          → counters_base items order gap ≡ slice_index (unit_bases items order gap) (functions_number items + copies_number items)
          → AreDisjoint (slice_index (section_bases items order gap) r) a.size (slice_index (counters_base items order gap ∷ []) s) b.size
      cross r s a b e one base o p low high same =
          let found = mapped-get section_extent (sections_of items) r a e in
          let section : DataSection = found.0 in
          let inside = slice_get_within (sections_of items) r section found.1 in
          let at = section-base r inside in
          let sized = section-sized items small.text r section found.1 in
          let left = ap (λ x. x.size) found.2 in
          let right = ap (λ x. x.size) one.1 in
          let its : slice_index (counters_base items order gap ∷ []) s ≡ counters_base items order gap = ap (slice_index (counters_base items order gap ∷ [])) one.0 in
          let other : functions_number items + r ≢ functions_number items + copies_number items = λ z. omega (arith, z, inside) in
          units-laid.apart (functions_number items + r) (functions_number items + copies_number items) (section_unit section) unit other (section-unit r section found.1) here
          o p (omega (arith, low, left, sized)) (omega (arith, high, right, size)) (omega (arith, same, at, its, base))

  pub counters-laid : CountersLaid
  counters-laid = by_units (counter_units items) refl (text-counters items small.formed small.text)
    where
      by_units : (all : List Extent) → counter_units items ≡ all → HasCounters items all → CountersLaid
      by_units [] e h = no-counters e h
      by_units (unit ∷ others) e h = counters-unit unit (counter-unit ∙ ap (λ xs. slice_get xs 0) e) h.1 h.2

  -- ---- the regions of the text

  abbrev pub data_extents : List Extent
  data_extents = map section_extent (sections_of items) ++ map copy_extent (copies_of items) ++ counters_extent ∷ []

  pub data-laid : Laid data_extents (region_bases items order gap) first_address (2 ^ 45)
  data-laid =
      let end = units-end in
      let most = copies-end in
      let from = units-from in
      let more = copies-from in
      let counters = counters-laid in
      let sections : Laid (map section_extent (sections_of items)) (section_bases items order gap) first_address (2 ^ 45) =
      wider _ _ first_address (behind_units items order gap) first_address (2 ^ 45) sections-laid (omega arith) (omega (arith, end)) in
      let copies : Laid (map copy_extent (copies_of items)) (copy_bases items order gap) first_address (2 ^ 45) =
      wider _ _ (behind_units items order gap) (behind_copies items order gap) first_address (2 ^ 45) copies-laid from (omega (arith, most)) in
      let last : Laid (counters_extent ∷ []) (counters_base items order gap ∷ []) first_address (2 ^ 45) =
      wider _ _ first_address (behind_units items order gap) first_address (2 ^ 45) counters.laid (omega arith) (omega (arith, end)) in
      let below : AreCrossApart (map section_extent (sections_of items)) (section_bases items order gap) (map copy_extent (copies_of items)) (copy_bases items order gap) =
      below-cross _ _ _ _ first_address (behind_units items order gap) (behind_units items order gap) (behind_copies items order gap) sections-laid copies-laid (omega arith) in
      let under : AreCrossApart (counters_extent ∷ []) (counters_base items order gap ∷ []) (map copy_extent (copies_of items)) (copy_bases items order gap) =
      below-cross _ _ _ _ first_address (behind_units items order gap) (behind_units items order gap) (behind_copies items order gap) counters.laid copies-laid (omega arith) in
      let front : Laid (map section_extent (sections_of items) ++ map copy_extent (copies_of items)) (section_bases items order gap ++ copy_bases items order gap) first_address (2 ^ 45) =
      both-laid _ _ _ _ first_address (2 ^ 45) sections copies below in
      let cross : AreCrossApart (counters_extent ∷ []) (counters_base items order gap ∷ []) (map section_extent (sections_of items) ++ map copy_extent (copies_of items)) (section_bases items order gap ++ copy_bases items order gap) =
      cross-both _ _ _ _ _ _ sections-laid.lengths (turned-cross _ _ _ _ counters.cross) under in
      both-laid _ _ _ _ first_address (2 ^ 45) front last (turned-cross _ _ _ _ cross)

  -- ---- the regions of a run

  module _ (run : RunRegions) (room : HasRoom run) where
    abbrev stack_extents : List Extent
    stack_extents = record { size = run.stack; align = 4096 } ∷ record { size = run.arguments; align = 16 } ∷ []

    stack-laid : Laid stack_extents (stack_base ∷ arguments_base ∷ []) (2 ^ 45) (2 ^ 46)
    stack-laid =
        more-laid (record { size = run.stack; align = 4096 }) stack_base (record { size = run.arguments; align = 16 } ∷ []) (arguments_base ∷ []) (2 ^ 45) arguments_base (2 ^ 46)
        (omega arith) (omega (arith, room.stack)) (omega arith) refl
        (more-laid (record { size = run.arguments; align = 16 }) arguments_base [] [] arguments_base (2 ^ 46) (2 ^ 46) (omega arith) (omega (arith, room.arguments)) (omega arith) refl (none-laid (2 ^ 46) (2 ^ 46)))

    abbrev canary_extent : Extent
    canary_extent = record { size = 8; align = 8 }

    canary-laid : Laid (canary_extent ∷ []) (canary_base ∷ []) canary_base 57352
    canary-laid = more-laid canary_extent canary_base [] [] canary_base 57352 57352 (omega arith) (omega arith) (omega arith) refl (none-laid 57352 57352)

    abbrev placed_fresh : List Extent
    placed_fresh = map fresh_extent (fresh_sizes run)

    fresh-get : (r : ℕ) (a : Extent) → slice_get run.fresh r ≡ Some a → slice_get (map fresh_extent (fresh_sizes run)) r ≡ Some (fresh_extent a.size)
    fresh-get r a e =
        slice_get-map fresh_extent (fresh_sizes run) r ∙ ap (option_map fresh_extent) (slice_get-map (λ a. a.size) run.fresh r ∙ ap (option_map (λ a. a.size)) e)

    fresh-aligned : AreAligned (map fresh_extent (fresh_sizes run))
    fresh-aligned r a e = let found = mapped-get fresh_extent (fresh_sizes run) r a e in let align = ap (λ x. x.align) found.2 in omega (arith, align)

    fresh-up-to : AreUpTo 16 (map fresh_extent (fresh_sizes run))
    fresh-up-to r a e = let found = mapped-get fresh_extent (fresh_sizes run) r a e in let align = ap (λ x. x.align) found.2 in omega (arith, align)

    fresh-laid : Laid run.fresh (fresh_bases (fresh_sizes run)) (2 ^ 46) (2 ^ 47)
    fresh-laid =
        let placed = placed-laid 16 first_fresh_base (map fresh_extent (fresh_sizes run)) fresh-aligned in
        let most = behind-up-to 15 16 first_fresh_base (map fresh_extent (fresh_sizes run)) fresh-aligned fresh-up-to in
        let number : length (map fresh_extent (fresh_sizes run)) ≡ length run.fresh = length-map (fresh_sizes run) fresh_extent ∙ length-map run.fresh (λ a. a.size) in
        let sum = fresh-sum run.fresh in
        wider run.fresh (fresh_bases (fresh_sizes run)) first_fresh_base (behind_all 16 first_fresh_base (map fresh_extent (fresh_sizes run))) (2 ^ 46) (2 ^ 47)
        (some-laid (map fresh_extent (fresh_sizes run)) (fresh_bases (fresh_sizes run)) first_fresh_base (behind_all 16 first_fresh_base (map fresh_extent (fresh_sizes run)))
        run.fresh (fresh_bases (fresh_sizes run)) (λ r. r) placed (placed.lengths ∙ number) (λ r s a b e f same. same) within)
        (omega arith) (omega (arith, most, number, sum, room.fresh_size))
      where
        within : (r : ℕ) (a : Extent) → slice_get run.fresh r ≡ Some a → IsWithin (map fresh_extent (fresh_sizes run)) (fresh_bases (fresh_sizes run)) r a (slice_index (fresh_bases (fresh_sizes run)) r)
        within r a e = record { around = fresh_extent a.size; here = fresh-get r a e; size = omega arith; at = refl; aligned = λ h. by-16 (slice_index (fresh_bases (fresh_sizes run)) r) (max 1 a.align) (room.fresh_aligned r a e) h }

    pub run-laid : Laid (run_extents items run) (run_bases items order gap (fresh_sizes run)) 4096 (2 ^ 47)
    run-laid =
        let low : Laid data_extents (region_bases items order gap) 4096 (2 ^ 47) = wider _ _ first_address (2 ^ 45) 4096 (2 ^ 47) data-laid (omega arith) (omega arith) in
        let mid : Laid stack_extents (stack_base ∷ arguments_base ∷ []) 4096 (2 ^ 47) = wider _ _ (2 ^ 45) (2 ^ 46) 4096 (2 ^ 47) stack-laid (omega arith) (omega arith) in
        let least : Laid (canary_extent ∷ []) (canary_base ∷ []) 4096 (2 ^ 47) = wider _ _ canary_base 57352 4096 (2 ^ 47) canary-laid (omega arith) (omega arith) in
        let high : Laid run.fresh (fresh_bases (fresh_sizes run)) 4096 (2 ^ 47) = wider _ _ (2 ^ 46) (2 ^ 47) 4096 (2 ^ 47) fresh-laid (omega arith) (omega arith) in
        let canary_fresh = below-cross (canary_extent ∷ []) (canary_base ∷ []) run.fresh (fresh_bases (fresh_sizes run)) canary_base 57352 (2 ^ 46) (2 ^ 47) canary-laid fresh-laid (omega arith) in
        let last : Laid (canary_extent ∷ run.fresh) (canary_base ∷ fresh_bases (fresh_sizes run)) 4096 (2 ^ 47) = both-laid (canary_extent ∷ []) run.fresh (canary_base ∷ []) (fresh_bases (fresh_sizes run)) 4096 (2 ^ 47) least high canary_fresh in
        let stack_canary = turned-cross _ _ _ _ (below-cross (canary_extent ∷ []) (canary_base ∷ []) stack_extents (stack_base ∷ arguments_base ∷ []) canary_base 57352 (2 ^ 45) (2 ^ 46) canary-laid stack-laid (omega arith)) in
        let stack_fresh = below-cross stack_extents (stack_base ∷ arguments_base ∷ []) run.fresh (fresh_bases (fresh_sizes run)) (2 ^ 45) (2 ^ 46) (2 ^ 46) (2 ^ 47) stack-laid fresh-laid (omega arith) in
        let stack_last : AreCrossApart stack_extents (stack_base ∷ arguments_base ∷ []) (canary_extent ∷ run.fresh) (canary_base ∷ fresh_bases (fresh_sizes run)) =
        cross-both stack_extents (stack_base ∷ arguments_base ∷ []) (canary_extent ∷ []) run.fresh (canary_base ∷ []) (fresh_bases (fresh_sizes run)) refl stack_canary stack_fresh in
        let own : Laid (stack_extents ++ (canary_extent ∷ run.fresh)) ((stack_base ∷ arguments_base ∷ []) ++ (canary_base ∷ fresh_bases (fresh_sizes run))) 4096 (2 ^ 47) =
        both-laid stack_extents (canary_extent ∷ run.fresh) (stack_base ∷ arguments_base ∷ []) (canary_base ∷ fresh_bases (fresh_sizes run)) 4096 (2 ^ 47) mid last stack_last in
        let data_stack = below-cross data_extents (region_bases items order gap) stack_extents (stack_base ∷ arguments_base ∷ []) first_address (2 ^ 45) (2 ^ 45) (2 ^ 46) data-laid stack-laid (omega arith) in
        let data_canary = turned-cross _ _ _ _ (below-cross (canary_extent ∷ []) (canary_base ∷ []) data_extents (region_bases items order gap) canary_base 57352 first_address (2 ^ 45) canary-laid data-laid (omega arith)) in
        let data_fresh = below-cross data_extents (region_bases items order gap) run.fresh (fresh_bases (fresh_sizes run)) first_address (2 ^ 45) (2 ^ 46) (2 ^ 47) data-laid fresh-laid (omega arith) in
        let data_last : AreCrossApart data_extents (region_bases items order gap) (canary_extent ∷ run.fresh) (canary_base ∷ fresh_bases (fresh_sizes run)) =
        cross-both data_extents (region_bases items order gap) (canary_extent ∷ []) run.fresh (canary_base ∷ []) (fresh_bases (fresh_sizes run)) refl data_canary data_fresh in
        let data_own : AreCrossApart data_extents (region_bases items order gap) (stack_extents ++ (canary_extent ∷ run.fresh)) ((stack_base ∷ arguments_base ∷ []) ++ (canary_base ∷ fresh_bases (fresh_sizes run))) =
        cross-both data_extents (region_bases items order gap) stack_extents (canary_extent ∷ run.fresh) (stack_base ∷ arguments_base ∷ []) (canary_base ∷ fresh_bases (fresh_sizes run)) refl data_stack data_last in
        both-laid data_extents (stack_extents ++ (canary_extent ∷ run.fresh)) (region_bases items order gap) ((stack_base ∷ arguments_base ∷ []) ++ (canary_base ∷ fresh_bases (fresh_sizes run))) 4096 (2 ^ 47) low own data_own

    -- what is apart from the parts is apart from all regions
    run-cross : (xs : List Extent) (bases : List ℕ) → AreCrossApart xs bases data_extents (region_bases items order gap) → AreCrossApart xs bases stack_extents (stack_base ∷ arguments_base ∷ [])
        → AreCrossApart xs bases (canary_extent ∷ []) (canary_base ∷ []) → AreCrossApart xs bases run.fresh (fresh_bases (fresh_sizes run))
        → AreCrossApart xs bases (run_extents items run) (run_bases items order gap (fresh_sizes run))
    run-cross xs bases of_data stack canary fresh =
        cross-both xs bases data_extents (stack_extents ++ (canary_extent ∷ run.fresh)) (region_bases items order gap) ((stack_base ∷ arguments_base ∷ []) ++ (canary_base ∷ fresh_bases (fresh_sizes run)))
        data-laid.lengths of_data
        (cross-both xs bases stack_extents (canary_extent ∷ run.fresh) (stack_base ∷ arguments_base ∷ []) (canary_base ∷ fresh_bases (fresh_sizes run)) refl stack
        (cross-both xs bases (canary_extent ∷ []) run.fresh (canary_base ∷ []) (fresh_bases (fresh_sizes run)) refl canary fresh))

    -- for what lies between the first address and the stack
    pub text-cross : (xs : List Extent) (bases : List ℕ) → Laid xs bases first_address (2 ^ 45) → AreCrossApart xs bases (map section_extent (sections_of items)) (section_bases items order gap)
        → AreCrossApart xs bases (map copy_extent (copies_of items)) (copy_bases items order gap) → AreCrossApart xs bases (counters_extent ∷ []) (counters_base items order gap ∷ [])
        → AreCrossApart xs bases (run_extents items run) (run_bases items order gap (fresh_sizes run))
    text-cross xs bases is sections copies counters =
        run-cross xs bases
        (cross-both xs bases (map section_extent (sections_of items) ++ map copy_extent (copies_of items)) (counters_extent ∷ []) (section_bases items order gap ++ copy_bases items order gap) (counters_base items order gap ∷ [])
        (length-append (section_bases items order gap) (copy_bases items order gap) ∙ omega (arith, sections-laid.lengths, copies-laid.lengths) ∙ sym (length-append (map section_extent (sections_of items)) (map copy_extent (copies_of items))))
        (cross-both xs bases (map section_extent (sections_of items)) (map copy_extent (copies_of items)) (section_bases items order gap) (copy_bases items order gap) sections-laid.lengths sections copies) counters)
        (below-cross xs bases stack_extents (stack_base ∷ arguments_base ∷ []) first_address (2 ^ 45) (2 ^ 45) (2 ^ 46) is stack-laid (omega arith))
        (turned-cross _ _ _ _ (below-cross (canary_extent ∷ []) (canary_base ∷ []) xs bases canary_base 57352 first_address (2 ^ 45) canary-laid is (omega arith)))
        (below-cross xs bases run.fresh (fresh_bases (fresh_sizes run)) first_address (2 ^ 45) (2 ^ 46) (2 ^ 47) is fresh-laid (omega arith))

    -- for what lies between the canary and the first address
    pub early-cross : (xs : List Extent) (bases : List ℕ) → Laid xs bases 57352 first_address → AreCrossApart xs bases (run_extents items run) (run_bases items order gap (fresh_sizes run))
    early-cross xs bases is =
        run-cross xs bases
        (below-cross xs bases data_extents (region_bases items order gap) 57352 first_address first_address (2 ^ 45) is data-laid (omega arith))
        (below-cross xs bases stack_extents (stack_base ∷ arguments_base ∷ []) 57352 first_address (2 ^ 45) (2 ^ 46) is stack-laid (omega arith))
        (turned-cross _ _ _ _ (below-cross (canary_extent ∷ []) (canary_base ∷ []) xs bases canary_base 57352 57352 first_address canary-laid is (omega arith)))
        (below-cross xs bases run.fresh (fresh_bases (fresh_sizes run)) 57352 first_address (2 ^ 46) (2 ^ 47) is fresh-laid (omega arith))

    pub regions-laid : AreRegionsLaid (run_extents items run) (λ r. slice_index (run_bases items order gap (fresh_sizes run)) r)
    regions-laid = record { least = run-laid.least; most = run-laid.most; aligned = run-laid.aligned; apart = run-laid.apart }
