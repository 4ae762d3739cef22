-- The sizes of data, summed line by line, are those of the parts of a text.
use Rattle.std.proofs.Common.{◌≡◌, ℕ, suc, ◌+◌, ◌<◌, ◌^◌, Bool, true, false, cond, List, [], ◌∷◌, ◌++◌, length, take, refl, sym, ap, subst, ◌∙◌, arith, inl, inr, nat_le, Some}
use Rattle.std.specs.Prelude.{not, slice_get, if◌then◌else◌, ◌==◌}
use Rattle.std.proofs.lemmas.Bool.{eqb-true, leb-true, leb-false}
use Rattle.std.proofs.lemmas.Bool.Decides.{nat_tests}
use Rattle.std.proofs.lemmas.List.Sums.{sum_by-cons, take_while-cons}
use Rattle.std.proofs.lemmas.Option.{slice_get_within}
use Rattle.asm_items.specs.declared.item.Item.{Item}
use Rattle.asm_items.specs.declared.item.Item.TheVariants.{Copy, TextHead, SectionHead, CountsHead, Tail}
use Rattle.asm_items.specs.Lines.{Items, DataSection, begins_section, lines_from, line_size, size_of, sections_of, copies_of, counters_size}
use Rattle.rw_layout.specs.Checks.{sections_size, copies_size, IsOversize, PassesLimit, IsFirstAt, Nowhere}
use Rattle.rw_layout.specs.Sizes.{part_with, counted_with, in_section, in_counters, copy_size, sizes_with, sizes_of, no_sizes, AreWithin}
use Rattle.rw_layout.specs.declared.sizes.Part.{Part}
use Rattle.rw_layout.specs.declared.sizes.Part.TheVariants.{Outside, InSection, InCounters}
use Rattle.rw_layout.specs.declared.sizes.Sizes.{Sizes}
use Rattle.rw_layout.proofs.Lines.{take-next}

-- ---- the lines of a section

abbrev goes_on : Item (List ℕ) → Bool
goes_on item = not (begins_section item)

pub lines-by : (item : Item (List ℕ)) (items : Items) (t : Bool) → begins_section item ≡ t → lines_from (item ∷ items) ≡ cond (not t) (item ∷ lines_from items) []
lines-by item items t e = take_while-cons goes_on item items ∙ ap (λ t. cond (not t) (item ∷ lines_from items) []) e

-- the bytes of the lines up to the next section, where the first line begins one or not
from-head : (item : Item (List ℕ)) (items : Items) → begins_section item ≡ true → size_of (lines_from (item ∷ items)) ≡ 0
from-head item items e = ap size_of (lines-by item items true e)

from-line : (item : Item (List ℕ)) (items : Items) → begins_section item ≡ false → size_of (lines_from (item ∷ items)) ≡ line_size item + size_of (lines_from items)
from-line item items e = ap size_of (lines-by item items false e) ∙ sum_by-cons line_size item (lines_from items)

-- ---- sections

-- the bytes in sections among these lines, which begin in a section or not
abbrev left_in_sections : Part → Items → ℕ
left_in_sections InSection items = size_of (lines_from items) + sections_size items
left_in_sections _ items = sections_size items

head-size : (writable : Bool) (n : ℕ) (nobits : Bool) (items : Items) → sections_size (SectionHead n writable nobits ∷ items) ≡ size_of (lines_from items) + sections_size items
head-size writable n nobits items =
    let section : DataSection = record { writable = writable; lines = lines_from items } in
    sum_by-cons (λ s. size_of s.lines) section (sections_of items)

same-sections : (part : Part) (item : Item (List ℕ)) (items : Items) → begins_section item ≡ false → sections_size (item ∷ items) ≡ sections_size items
    → in_section part (line_size item) + left_in_sections part items ≡ left_in_sections part (item ∷ items)
same-sections Outside item items e f = omega (arith, f)
same-sections InCounters item items e f = omega (arith, f)
same-sections InSection item items e f = let more = from-line item items e in omega (arith, more, f)

section-step : (part : Part) (counted : Bool) (item : Item (List ℕ)) (items : Items)
    → in_section part (line_size item) + left_in_sections (part_with part counted item) items ≡ left_in_sections part (item ∷ items)
section-step InSection counted (SectionHead n w b) items = let head = head-size w n b items in let none = from-head (SectionHead n w b) items refl in omega (arith, head, none)
section-step Outside counted (SectionHead n w b) items = let head = head-size w n b items in omega (arith, head)
section-step InCounters counted (SectionHead n w b) items = let head = head-size w n b items in omega (arith, head)
section-step InSection counted TextHead items = let none = from-head TextHead items refl in omega (arith, none)
section-step Outside counted TextHead items = omega arith
section-step InCounters counted TextHead items = omega arith
section-step InSection counted Tail items = let none = from-head Tail items refl in omega (arith, none)
section-step Outside counted Tail items = omega arith
section-step InCounters counted Tail items = omega arith
section-step InSection true CountsHead items = let none = from-head CountsHead items refl in omega (arith, none)
section-step InSection false CountsHead items = let none = from-head CountsHead items refl in omega (arith, none)
section-step Outside true CountsHead items = omega arith
section-step Outside false CountsHead items = omega arith
section-step InCounters true CountsHead items = omega arith
section-step InCounters false CountsHead items = omega arith
section-step part true item items = same-sections part item items refl refl
section-step part false item items = same-sections part item items refl refl

sections-summed : (sizes : Sizes) (items : Items) → (sizes_of sizes items).sections ≡ sizes.sections + left_in_sections sizes.part items
sections-summed sizes [] = none sizes.part
  where
    none : (part : Part) → sizes.sections ≡ sizes.sections + left_in_sections part []
    none InSection = omega arith
    none Outside = omega arith
    none InCounters = omega arith
sections-summed sizes (item ∷ items) =
    let rest = sections-summed (sizes_with sizes item) items in
    let step = section-step sizes.part sizes.counted item items in
    omega (arith, rest, step)

-- ---- counters

abbrev left_in_counters : Part → Bool → Items → ℕ
left_in_counters InCounters counted items = size_of (lines_from items) + (if counted then 0 else counters_size items)
left_in_counters _ counted items = if counted then 0 else counters_size items

same-counters : (part : Part) (counted : Bool) (item : Item (List ℕ)) (items : Items) → begins_section item ≡ false → counters_size (item ∷ items) ≡ counters_size items
    → in_counters part (line_size item) + left_in_counters part counted items ≡ left_in_counters part counted (item ∷ items)
same-counters Outside true item items e f = omega arith
same-counters Outside false item items e f = omega (arith, f)
same-counters InSection true item items e f = omega arith
same-counters InSection false item items e f = omega (arith, f)
same-counters InCounters true item items e f = let more = from-line item items e in omega (arith, more)
same-counters InCounters false item items e f = let more = from-line item items e in omega (arith, more, f)

other-head : (part : Part) (counted : Bool) (item : Item (List ℕ)) (items : Items) → begins_section item ≡ true → line_size item ≡ 0 → counters_size (item ∷ items) ≡ counters_size items
    → in_counters part (line_size item) + (if counted then 0 else counters_size items) ≡ left_in_counters part counted (item ∷ items)
other-head Outside true item items e z f = omega arith
other-head Outside false item items e z f = omega (arith, f)
other-head InSection true item items e z f = omega arith
other-head InSection false item items e z f = omega (arith, f)
other-head InCounters true item items e z f = let none = from-head item items e in omega (arith, none, z)
other-head InCounters false item items e z f = let none = from-head item items e in omega (arith, none, z, f)

counter-step : (part : Part) (counted : Bool) (item : Item (List ℕ)) (items : Items)
    → in_counters part (line_size item) + left_in_counters (part_with part counted item) (counted_with counted item) items ≡ left_in_counters part counted (item ∷ items)
counter-step Outside false CountsHead items = omega arith
counter-step InSection false CountsHead items = omega arith
counter-step InCounters false CountsHead items = let none = from-head CountsHead items refl in omega (arith, none)
counter-step Outside true CountsHead items = omega arith
counter-step InSection true CountsHead items = omega arith
counter-step InCounters true CountsHead items = let none = from-head CountsHead items refl in omega (arith, none)
counter-step part true (SectionHead n w b) items = other-head part true (SectionHead n w b) items refl refl refl
counter-step part false (SectionHead n w b) items = other-head part false (SectionHead n w b) items refl refl refl
counter-step part true TextHead items = other-head part true TextHead items refl refl refl
counter-step part false TextHead items = other-head part false TextHead items refl refl refl
counter-step part true Tail items = other-head part true Tail items refl refl refl
counter-step part false Tail items = other-head part false Tail items refl refl refl
counter-step part true item items = same-counters part true item items refl refl
counter-step part false item items = same-counters part false item items refl refl

counters-summed : (sizes : Sizes) (items : Items) → (sizes_of sizes items).counters ≡ sizes.counters + left_in_counters sizes.part sizes.counted items
counters-summed sizes [] = none sizes.part sizes.counted
  where
    none : (part : Part) (counted : Bool) → sizes.counters ≡ sizes.counters + left_in_counters part counted []
    none InCounters true = omega arith
    none InCounters false = omega arith
    none Outside true = omega arith
    none Outside false = omega arith
    none InSection true = omega arith
    none InSection false = omega arith
counters-summed sizes (item ∷ items) =
    let rest = counters-summed (sizes_with sizes item) items in
    let step = counter-step sizes.part sizes.counted item items in
    omega (arith, rest, step)

-- ---- copies

copy-step : (item : Item (List ℕ)) (items : Items) → copy_size item + copies_size items ≡ copies_size (item ∷ items)
copy-step (Copy name size) items = sym (sum_by-cons (λ copy. copy.1) (name, size) (copies_of items))
copy-step _ items = omega arith

copies-summed : (sizes : Sizes) (items : Items) → (sizes_of sizes items).copies ≡ sizes.copies + copies_size items
copies-summed sizes [] = omega arith
copies-summed sizes (item ∷ items) =
    let rest = copies-summed (sizes_with sizes item) items in
    let step = copy-step item items in
    omega (arith, rest, step)

-- ---- limits

over : (items : Items) → IsOversize items → AreWithin (sizes_of no_sizes items) → ⊥
over items (inl h) within = let sum = sections-summed no_sizes items in let most = within.sections in omega (arith, h, sum, most)
over items (inr (inl h)) within = let sum = copies-summed no_sizes items in let most = within.copies in omega (arith, h, sum, most)
over items (inr (inr h)) within = let sum = counters-summed no_sizes items in let most = within.counters in omega (arith, h, sum, most)

not-over : (items : Items) → (AreWithin (sizes_of no_sizes items) → ⊥) → IsOversize items
not-over items none = by_tests (nat_le (sections_size items) (2 ^ 30)) (nat_le (copies_size items) (2 ^ 30)) (nat_le (counters_size items) (2 ^ 27)) refl refl refl
  where
    by_tests : (s t u : Bool) → nat_le (sections_size items) (2 ^ 30) ≡ s → nat_le (copies_size items) (2 ^ 30) ≡ t → nat_le (counters_size items) (2 ^ 27) ≡ u → IsOversize items
    by_tests false t u e f g = inl (leb-false (sections_size items) (2 ^ 30) e)
    by_tests true false u e f g = inr (inl (leb-false (copies_size items) (2 ^ 30) f))
    by_tests true true false e f g = inr (inr (leb-false (counters_size items) (2 ^ 27) g))
    by_tests true true true e f g =
        let a = leb-true (sections_size items) (2 ^ 30) e in
        let b = leb-true (copies_size items) (2 ^ 30) f in
        let d = leb-true (counters_size items) (2 ^ 27) g in
        let sa = sections-summed no_sizes items in
        let sb = copies-summed no_sizes items in
        let sd = counters-summed no_sizes items in
        absurd (none (record { sections = omega (arith, a, sa); copies = omega (arith, b, sb); counters = omega (arith, d, sd) }))

-- ---- the loop

sizes-append : (sizes : Sizes) (xs : Items) (item : Item (List ℕ)) → sizes_of sizes (xs ++ item ∷ []) ≡ sizes_with (sizes_of sizes xs) item
sizes-append sizes [] item = refl
sizes-append sizes (x ∷ xs) item = sizes-append (sizes_with sizes x) xs item

-- the sums of the first lines, none of which passes a limit
pub record Summed (items : Items) (i : ℕ) (sizes : Sizes) : Type 0 where
  pub sums : sizes ≡ sizes_of no_sizes (take i items)
  pub within : AreWithin sizes
  pub before : (q : ℕ) → q < i → PassesLimit items q → ⊥

module _ (items : Items) (i : ℕ) (sizes : Sizes) (summed : Summed items i sizes) (item : Item (List ℕ)) (here : slice_get items i ≡ Some item) where
  one-more : sizes_of no_sizes (take (suc i) items) ≡ sizes_with sizes item
  one-more =
      let same : suc i ≡ i + 1 = omega arith in
      ap (λ n. sizes_of no_sizes (take n items)) same ∙ ap (sizes_of no_sizes) (take-next items i item here) ∙ sizes-append no_sizes (take i items) item ∙ ap (λ s. sizes_with s item) (sym summed.sums)

  pub passes-here : (AreWithin (sizes_with sizes item) → ⊥) → IsFirstAt (PassesLimit items) i
  passes-here none = record {
    here = (slice_get_within items i item here, not-over (take (suc i) items) (λ within. none (subst AreWithin one-more within)));
    before = summed.before;
  }

  pub summed-more : (more : Sizes) → more ≡ sizes_with sizes item → AreWithin more → Summed items (i + 1) more
  summed-more more e within = record {
    sums = e ∙ sym one-more ∙ ap (λ n. sizes_of no_sizes (take n items)) same;
    within = within;
    before = λ q before passes. by_place q (q == i) refl before passes;
  }
    where
      same : suc i ≡ i + 1
      same = omega arith

      by_place : (q : ℕ) (t : Bool) → (q == i) ≡ t → q < i + 1 → PassesLimit items q → ⊥
      by_place q true f before passes =
          let at : q ≡ i = eqb-true q i f in
          let passes' : PassesLimit items i = subst (PassesLimit items) at passes in
          over (take (suc i) items) passes'.1 (subst AreWithin (e ∙ sym one-more) within)
      by_place q false f before passes = summed.before q (grind (arith, nat_tests, f, before)) passes

pub none-summed : (items : Items) → Summed items 0 no_sizes
none-summed items = record { sums = refl; within = record { sections = omega arith; copies = omega arith; counters = omega arith }; before = λ q before passes. absurd (omega (arith, before)) }

pub none-passes : (items : Items) (i : ℕ) (sizes : Sizes) → Summed items i sizes → i ≡ length items → Nowhere (PassesLimit items)
none-passes items i sizes summed e q passes = summed.before q (omega (arith, e, passes.0)) passes
