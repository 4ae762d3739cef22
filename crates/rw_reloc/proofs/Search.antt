-- Finding a slot by its address among slots that ascend.
use Rattle.std.proofs.Common.{◌≡◌, ℕ, ◌+◌, ◌<◌, ◌≤◌, true, List, length, filter, get_or, slice_get, Some, None, Contains, sym, ap, ◌∙◌, arith, inl, inr}
use Rattle.std.proofs.lemmas.Bool.{cases_lt}
use Rattle.std.proofs.lemmas.Option.{none-some}
use Rattle.std.proofs.lemmas.Bool.Decides.{nat_tests}
use Rattle.std.proofs.lemmas.List.{get_or_default}
use Rattle.std.proofs.lemmas.List.Elements.{Contains-get_or}
use Rattle.std.proofs.lemmas.Option.{slice_get-get_or, slice_get_past, slice_get_within, get_or_from_slice_get}
use Rattle.std.specs.List.{AllPairs, position}
use Rattle.std.specs.List.Sorted.{IsNonDecreasingBy}
use Rattle.rw_elf.proofs.Around.{contains_filter, filter_contains, filter_tests}
use Rattle.rw_reloc.specs.declared.slot.Slot.{Slot}
use Rattle.rw_reloc.specs.Slots.{EndsBefore, copies_of, is_copy_slot, slot_around, slot_at, slots_of, starts_at, takes, null_slot}
use Rattle.std.proofs.lemmas.List.Kept.{AllPairs-filter}
use Rattle.rw_reloc.specs.Targets.{target_size}
use Rattle.rw_elf.proofs.Search.{find-at, find-none}

pub slots_ascend : (slots : List Slot) → AllPairs EndsBefore slots → IsNonDecreasingBy (λ s. s.address) slots
slots_ascend slots apart i j d low high =
    elim (cases_lt i j) [
      | inl earlier ↦ omega (arith, (apart i j d earlier high).0)
      | inr later ↦ let same : i ≡ j = omega arith in rw same (omega arith)
    ]

pub slots_follow : (slots : List Slot) → AllPairs EndsBefore slots → AllPairs (λ s t. s.address + target_size s.target ≤ t.address) slots
slots_follow slots apart i j d earlier within = (apart i j d earlier within).1

pub around_is : (slots : List Slot) (a n : ℕ) (d : Slot) → position (takes a) slots ≡ Some n → Some (get_or slots n d) ≡ slot_around slots a
unfolding slot_around
around_is slots a n d found = sym (find-at (takes a) slots n d found)

pub around_is_none : (slots : List Slot) (a : ℕ) → position (takes a) slots ≡ None → None ≡ slot_around slots a
unfolding slot_around
around_is_none slots a none = sym (find-none (takes a) slots none)

-- slots that are apart and have one address are one
one_slot : (slots : List Slot) → AllPairs EndsBefore slots → (s t : Slot) → Contains slots s → Contains slots t → s.address ≡ t.address → s ≡ t
one_slot slots apart s t in_s in_t same =
    let s_is : get_or slots in_s.0 s ≡ s = in_s.2 in
    let t_is : get_or slots in_t.0 s ≡ t = get_or_default slots in_t.0 s t in_t.1 ∙ in_t.2 in
    let s_at : (get_or slots in_s.0 s).address ≡ s.address = ap (λ x. x.address) s_is in
    let t_at : (get_or slots in_t.0 s).address ≡ t.address = ap (λ x. x.address) t_is in
    elim (cases_lt in_s.0 in_t.0) [
      | inl before ↦ absurd (omega (arith, (apart in_s.0 in_t.0 s before in_t.1).0))
      | inr later ↦
          elim (cases_lt in_t.0 in_s.0) [
            | inl before ↦ absurd (omega (arith, (apart in_t.0 in_s.0 s before in_s.1).0))
            | inr level ↦ let e : in_s.0 ≡ in_t.0 = omega arith in sym s_is ∙ ap (λ k. get_or slots k s) e ∙ t_is
          ]
    ]

starts-from : (a : ℕ) (s : Slot) → starts_at a s ≡ true → s.address ≡ a
starts-from a s h = grind (arith, nat_tests)

starts-here : (a : ℕ) (s : Slot) → s.address ≡ a → starts_at a s ≡ true
starts-here a s h = grind (arith, nat_tests)

pub slot_at-is : (slots : List Slot) (a : ℕ) (s : Slot) → AllPairs EndsBefore slots → Contains slots s → s.address ≡ a → slot_at slots a ≡ Some s
unfolding slot_at
slot_at-is slots a s apart here at =
    let found : Contains (filter (starts_at a) slots) s = contains_filter (starts_at a) slots s here (starts-here a s at) in
    let some : 0 < length (filter (starts_at a) slots) = omega (arith, found.1) in
    let first : Contains (filter (starts_at a) slots) (get_or (filter (starts_at a) slots) 0 s) = Contains-get_or (filter (starts_at a) slots) 0 s some in
    let same : (get_or (filter (starts_at a) slots) 0 s).address ≡ s.address = starts-from a (get_or (filter (starts_at a) slots) 0 s) (filter_tests (starts_at a) slots (get_or (filter (starts_at a) slots) 0 s) first) ∙ sym at in
    slice_get-get_or (filter (starts_at a) slots) 0 s some ∙ ap Some (one_slot slots apart (get_or (filter (starts_at a) slots) 0 s) s (filter_contains (starts_at a) slots (get_or (filter (starts_at a) slots) 0 s) first) here same)

pub slot_at-none : (slots : List Slot) (a : ℕ) → ((k : ℕ) (s : Slot) → slice_get slots k ≡ Some s → s.address ≡ a → ⊥) → slot_at slots a ≡ None
unfolding slot_at
slot_at-none slots a none =
    elim (cases_lt 0 (length (filter (starts_at a) slots))) [
      | inl some ↦
          let first : Contains (filter (starts_at a) slots) (get_or (filter (starts_at a) slots) 0 null_slot) = Contains-get_or (filter (starts_at a) slots) 0 null_slot some in
          let here : Contains slots (get_or (filter (starts_at a) slots) 0 null_slot) = filter_contains (starts_at a) slots (get_or (filter (starts_at a) slots) 0 null_slot) first in
          absurd (none here.0 (get_or (filter (starts_at a) slots) 0 null_slot) (slice_get-get_or slots here.0 (get_or (filter (starts_at a) slots) 0 null_slot) here.1 ∙ ap Some here.2) (starts-from a (get_or (filter (starts_at a) slots) 0 null_slot) (filter_tests (starts_at a) slots (get_or (filter (starts_at a) slots) 0 null_slot) first)))
      | inr empty ↦ slice_get_past (filter (starts_at a) slots) 0 (omega arith)
    ]

-- the slot that is found where all before it lie below the address, and all others not below
pub search_found : (slots : List Slot) (a next : ℕ) (s : Slot) → AllPairs EndsBefore slots → slice_get slots next ≡ Some s → s.address ≡ a → Some s ≡ slot_at slots a
search_found slots a next s apart at same =
    sym (slot_at-is slots a s apart (next, slice_get_within slots next s at, get_or_from_slice_get slots next s s at) same)

pub search_past : (slots : List Slot) (a next : ℕ) → ((k : ℕ) (s : Slot) → k < next → slice_get slots k ≡ Some s → s.address < a) → slice_get slots next ≡ None → None ≡ slot_at slots a
search_past slots a next before past =
    sym (slot_at-none slots a (λ k s at same.
    elim (cases_lt k next) [
      | inl below ↦ omega (arith, before k s below at)
      | inr above ↦ absurd (none-some s (sym (slice_get_past slots k (omega (arith, past_length slots next past))) ∙ at))
    ]))
  where
    past_length : (xs : List Slot) (n : ℕ) → slice_get xs n ≡ None → length xs ≤ n
    past_length xs n none =
        elim (cases_lt n (length xs)) [
          | inl inside ↦ absurd (none-some (get_or xs n null_slot) (sym none ∙ slice_get-get_or xs n null_slot inside))
          | inr outside ↦ omega arith
        ]

pub search_other : (slots : List Slot) (a next : ℕ) (s : Slot) → AllPairs EndsBefore slots → ((k : ℕ) (s : Slot) → k < next → slice_get slots k ≡ Some s → s.address < a) → slice_get slots next ≡ Some s → a < s.address → None ≡ slot_at slots a
search_other slots a next s apart before at above =
    sym (slot_at-none slots a (λ k t at_k same.
    elim (cases_lt k next) [
      | inl below ↦ omega (arith, before k t below at_k)
      | inr later ↦
          let low : (get_or slots next s).address ≤ (get_or slots k s).address = slots_ascend slots apart next k s later (slice_get_within slots k t at_k) in
          omega (arith, ap (λ x. x.address) (get_or_from_slice_get slots next s s at), ap (λ x. x.address) (get_or_from_slice_get slots k t s at_k))
    ]))

-- ---- the copies

pub copies_is : (bytes : List ℕ) (list copies slots : List Slot) → copies ≡ filter is_copy_slot list → list ≡ slots → slots ≡ slots_of bytes → copies ≡ copies_of bytes
unfolding copies_of
copies_is bytes list copies slots is same all = is ∙ ap (filter is_copy_slot) (same ∙ all)

pub copies_apart : (bytes : List ℕ) → AllPairs EndsBefore (slots_of bytes) → AllPairs EndsBefore (copies_of bytes)
unfolding copies_of
copies_apart bytes apart = AllPairs-filter EndsBefore is_copy_slot (slots_of bytes) apart
