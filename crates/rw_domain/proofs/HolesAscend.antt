-- Holes that ascend: what a range touches is decided by the first that doesn't come before it.
use Rattle.std.proofs.Common.{◌≡◌, ℕ, zero, suc, ◌+◌, ◌-◌, ◌<◌, ◌≤◌, List, length, Some, Bool, true, false, ◌&&◌, nat_eq, nat_lt, get_or, refl, sym, ap, ◌∙◌, subst, arith, inl, inr}
use Rattle.std.specs.Prelude.{slice_get}
use Rattle.std.specs.List.{All}
use Rattle.std.specs.List.Sorted.{IsPartitionedBy}
use Rattle.std.proofs.lemmas.Bool.{cases_lt}
use Rattle.std.proofs.lemmas.Bool.Decides.{nat_tests}
use Rattle.std.proofs.lemmas.Option.{slice_get-get_or, slice_get_within, get_or_from_slice_get}
use Rattle.std.proofs.lemmas.List.Folds.{list_any_none, list_any_at}
use Rattle.rw_domain.specs.declared.place.Hole.{Hole}
use Rattle.rw_domain.specs.NumberPlaces.{touches, touches_hole}
use Rattle.rw_domain.specs.Holes.{is_before, Ascend}

abbrev pub null_hole : Hole
null_hole = record { region = 0; start = 0; end = 0 }

-- ---- the order, from neighbour to neighbour

after-later : (region offset : ℕ) (g h : Hole) → h.start < h.end → is_before h.region h.start g ≡ true → is_before region offset h ≡ true → is_before region offset g ≡ true
after-later region offset g h some first second = grind (arith, nat_tests)

abbrev pub AdjacentBelow : List Hole → ℕ → Type 0
AdjacentBelow holes n = (k : ℕ) (d : Hole) → k + 1 < n → is_before (get_or holes (k + 1) d).region (get_or holes (k + 1) d).start (get_or holes k d) ≡ true

all-before : (holes : List Hole) → All (λ h. h.start < h.end) holes → AdjacentBelow holes (length holes) → (gap i : ℕ) (d : Hole) → i + gap + 1 < length holes → is_before (get_or holes (i + gap + 1) d).region (get_or holes (i + gap + 1) d).start (get_or holes i d) ≡ true
all-before holes some next zero i d within =
    let same : i + zero + 1 ≡ i + 1 = omega arith in
    subst (λ j. is_before (get_or holes j d).region (get_or holes j d).start (get_or holes i d) ≡ true) (sym same) (next i d (omega arith))
all-before holes some next (suc gap) i d within =
    let same : i + suc gap + 1 ≡ (i + gap + 1) + 1 = omega arith in
    let earlier = all-before holes some next gap i d (omega arith) in
    let last : is_before (get_or holes (i + suc gap + 1) d).region (get_or holes (i + suc gap + 1) d).start (get_or holes (i + gap + 1) d) ≡ true =
    subst (λ j. is_before (get_or holes j d).region (get_or holes j d).start (get_or holes (i + gap + 1) d) ≡ true) (sym same) (next (i + gap + 1) d (omega arith)) in
    after-later (get_or holes (i + suc gap + 1) d).region (get_or holes (i + suc gap + 1) d).start (get_or holes i d) (get_or holes (i + gap + 1) d) (some (i + gap + 1) d (omega arith)) earlier last

pub ascend-from : (holes : List Hole) → All (λ h. h.start < h.end) holes → AdjacentBelow holes (length holes) → Ascend holes
ascend-from holes some next = record {
  some = some;
  before = λ i j d less within.
      let same : i + (j - i - 1) + 1 ≡ j = omega arith in
      subst (λ k. is_before (get_or holes k d).region (get_or holes k d).start (get_or holes i d) ≡ true) same (all-before holes some next (j - i - 1) i d (omega arith));
}

-- holes that come before an offset of a region stand at the front
pub partitioned : (holes : List Hole) → Ascend holes → (region offset : ℕ) → IsPartitionedBy (is_before region offset) holes
partitioned holes h region offset i j d low within before =
    elim (cases_lt i j) [
      | inl less ↦ after-later region offset (get_or holes i d) (get_or holes j d) (h.some j d within) (h.before i j d less within) before
      | inr up ↦ let same : j ≡ i = omega arith in subst (λ k. is_before region offset (get_or holes k d) ≡ true) same before
    ]

-- ---- what a range touches

before-untouched : (region start end : ℕ) (h : Hole) → is_before region start h ≡ true → touches region start end h ≡ false
before-untouched region start end h before = grind (arith, nat_tests)

first-touched : (region start end : ℕ) (h : Hole) → start < end → h.start < h.end → is_before region start h ≡ false → touches region start end h ≡ (nat_eq h.region region && nat_lt h.start end)
first-touched region start end h some full behind = grind (arith, nat_tests)

later-untouched : (region start end : ℕ) (g h : Hole) → start < end → g.start < g.end → is_before region start g ≡ false → is_before h.region h.start g ≡ true → (nat_eq g.region region && nat_lt g.start end) ≡ false → touches region start end h ≡ false
later-untouched region start end g h some full behind order none = grind (arith, nat_tests)

-- the holes before place k come before the range, and those from there on don't
abbrev pub Before : List Hole → ℕ → ℕ → ℕ → Type 0
Before holes region start k = (j : ℕ) (h : Hole) → j < k → slice_get holes j ≡ Some h → is_before region start h ≡ true

abbrev pub Behind : List Hole → ℕ → ℕ → ℕ → Type 0
Behind holes region start k = (j : ℕ) (h : Hole) → k ≤ j → slice_get holes j ≡ Some h → is_before region start h ≡ false

pub all-free : (holes : List Hole) (region start end k : ℕ) → length holes ≤ k → Before holes region start k → touches_hole holes region start end ≡ false
all-free holes region start end k all before =
    list_any_none (touches region start end) holes (λ j d within. before-untouched region start end (get_or holes j d) (before j (get_or holes j d) (omega arith) (slice_get-get_or holes j d within)))

pub by-first : (holes : List Hole) → Ascend holes → (region start end k : ℕ) (first : Hole) → start < end → slice_get holes k ≡ Some first → Before holes region start k → Behind holes region start k → touches_hole holes region start end ≡ (nat_eq first.region region && nat_lt first.start end)
by-first holes h region start end k first some at before behind = by_test (nat_eq first.region region && nat_lt first.start end) refl
  where
    within : k < length holes
    within = slice_get_within holes k first at

    is-first : get_or holes k first ≡ first
    is-first = get_or_from_slice_get holes k first first at

    full : first.start < first.end
    full = subst (λ x. x.start < x.end) is-first (h.some k first within)

    here : touches region start end first ≡ (nat_eq first.region region && nat_lt first.start end)
    here = first-touched region start end first some full (behind k first (omega arith) at)

    by_test : (t : Bool) → (nat_eq first.region region && nat_lt first.start end) ≡ t → touches_hole holes region start end ≡ (nat_eq first.region region && nat_lt first.start end)
    by_test true e = list_any_at (touches region start end) holes k first within (ap (touches region start end) is-first ∙ here ∙ e) ∙ sym e
    by_test false e =
        list_any_none (touches region start end) holes (λ j d low. each j d low) ∙ sym e
      where
        each : (j : ℕ) (d : Hole) → j < length holes → touches region start end (get_or holes j d) ≡ false
        each j d low =
            elim (cases_lt j k) [
              | inl earlier ↦ before-untouched region start end (get_or holes j d) (before j (get_or holes j d) earlier (slice_get-get_or holes j d low))
              | inr later ↦
                  elim (cases_lt k j) [
                    | inl beyond ↦
                        let order : is_before (get_or holes j d).region (get_or holes j d).start (get_or holes k d) ≡ true = h.before k j d beyond low in
                        let is : get_or holes k d ≡ first = get_or_from_slice_get holes k first d at in
                        later-untouched region start end first (get_or holes j d) some full (behind k first (omega arith) at) (subst (λ x. is_before (get_or holes j d).region (get_or holes j d).start x ≡ true) is order) e
                    | inr up ↦
                        let same : k ≡ j = omega arith in
                        let is : get_or holes k d ≡ first = get_or_from_slice_get holes k first d at in
                        subst (λ i. touches region start end (get_or holes i d) ≡ false) same (ap (touches region start end) is ∙ here ∙ e)
                  ]
            ]

-- a range without bytes touches nothing
empty-untouched : (region start end : ℕ) (h : Hole) → end ≤ start → touches region start end h ≡ false
empty-untouched region start end h empty = grind (arith, nat_tests)

pub nothing-touched : (holes : List Hole) (region start end : ℕ) → end ≤ start → touches_hole holes region start end ≡ false
nothing-touched holes region start end empty = list_any_none (touches region start end) holes (λ j d within. empty-untouched region start end (get_or holes j d) empty)

-- ---- one hole more

pub some-more : (holes : List Hole) (i : ℕ) (e : Hole) → ((k : ℕ) (d : Hole) → k < i → (get_or holes k d).start < (get_or holes k d).end) → i < length holes → (get_or holes i e).start < (get_or holes i e).end → (k : ℕ) (d : Hole) → k < i + 1 → (get_or holes k d).start < (get_or holes k d).end
some-more holes i e h within here k d low =
    elim (cases_lt k i) [
      | inl below ↦ h k d below
      | inr up ↦
          let same : i ≡ k = omega arith in
          let is : get_or holes i e ≡ get_or holes i d = get_or_from_slice_get holes i (get_or holes i d) e (slice_get-get_or holes i d within) in
          subst (λ j. (get_or holes j d).start < (get_or holes j d).end) same (subst (λ x. x.start < x.end) is here)
    ]

pub adjacent-more : (holes : List Hole) (i : ℕ) (e : Hole) → AdjacentBelow holes i → i < length holes → (0 < i → is_before (get_or holes i e).region (get_or holes i e).start (get_or holes (i - 1) e) ≡ true) → AdjacentBelow holes (i + 1)
adjacent-more holes i e h within here k d low =
    elim (cases_lt (k + 1) i) [
      | inl below ↦ h k d below
      | inr up ↦
          let same : i ≡ k + 1 = omega arith in
          let before : i - 1 ≡ k = omega arith in
          let is : get_or holes i e ≡ get_or holes i d = get_or_from_slice_get holes i (get_or holes i d) e (slice_get-get_or holes i d within) in
          let was : get_or holes (i - 1) e ≡ get_or holes (i - 1) d = get_or_from_slice_get holes (i - 1) (get_or holes (i - 1) d) e (slice_get-get_or holes (i - 1) d (omega arith)) in
          let it : is_before (get_or holes i d).region (get_or holes i d).start (get_or holes (i - 1) d) ≡ true =
          subst (λ x. is_before x.region x.start (get_or holes (i - 1) d) ≡ true) is (subst (λ y. is_before (get_or holes i e).region (get_or holes i e).start y ≡ true) was (here (omega arith))) in
          subst (λ j. is_before (get_or holes j d).region (get_or holes j d).start (get_or holes k d) ≡ true) same
          (subst (λ m. is_before (get_or holes i d).region (get_or holes i d).start (get_or holes m d) ≡ true) before it)
    ]
