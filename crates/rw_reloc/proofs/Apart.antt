-- What the rules on entries leave: slots that ascend and don't overlap.
use Rattle.std.proofs.Common.{◌≡◌, ℕ, ◌+◌, ◌-◌, ◌<◌, ◌≤◌, zero, suc, true, not, ◌||◌, List, length, map, get_or, slice_get, nat_lt, Option, Some, None, sym, ap, ◌∙◌, subst, arith}
use Rattle.std.proofs.lemmas.Bool.Decides.{nat_tests}
use Rattle.std.proofs.lemmas.Option.{slice_get-get_or}
use Rattle.std.proofs.lemmas.List.{get_or-map, length-map}
use Rattle.std.specs.List.{AllPairs}
use Rattle.std.specs.Option.{option_or, option_and_then}
use Rattle.std.proofs.lemmas.Bool.{ltb-true, and_parts}
use Rattle.rw_base.specs.declared.fault.Fault.{Fault}
use Rattle.rw_base.specs.declared.fault.Fault.TheVariants.{UnknownReloc, BadRelocPlace}
use Rattle.rw_base.specs.Rules.{first, first_of, each_of, finding_at, when}
use Rattle.rw_base.proofs.First.{when_not-none, first_from-none, first_none, second_none}
use Rattle.rw_reloc.specs.declared.entry.Entry.{Entry}
use Rattle.rw_reloc.specs.declared.slot.Slot.{Slot}
use Rattle.rw_reloc.specs.Entries.{entries, null_entry}
use Rattle.rw_reloc.specs.Relocations.{entry_fault, entry_faults, entry_finding, has_symbol, is_good_place, is_known, moves_import, name_fault, overlaps, reaches, relocation_rules, table_faults}
use Rattle.rw_reloc.specs.Slots.{EndsBefore, slot_of, slots_of}
use Rattle.rw_reloc.specs.Targets.{is_relative, symbol_of, place_size}

-- an entry that breaks no rule
pub entry_clean : (bytes : List ℕ) → first_of (entry_faults bytes) ≡ None → (k : ℕ) (d : Entry) → k < length (entries bytes) → entry_finding bytes (entries bytes) k (get_or (entries bytes) k d) ≡ None
unfolding entry_faults
entry_clean bytes clean k d within =
    let none = first_from-none (finding_at (each_of (entries bytes) (entry_finding bytes (entries bytes)))) 0 _ clean k (omega arith) (omega arith) in
    sym (ap (option_and_then (entry_finding bytes (entries bytes) k)) (slice_get-get_or (entries bytes) k d within)) ∙ none

fifth_none : (a b c d e : Option Fault) → option_or a (option_or b (option_or c (option_or d (option_or e None)))) ≡ None → e ≡ None
fifth_none a b c d e h = first_none e None (second_none d _ (second_none c _ (second_none b _ (second_none a _ h))))

pub good_place : (bytes : List ℕ) (e : Entry) → entry_fault bytes e ≡ None → is_good_place bytes e ≡ true
unfolding entry_fault
good_place bytes e none =
    when_not-none (is_good_place bytes e) (BadRelocPlace e.offset) (fifth_none
    (when (not (is_known e.kind)) (UnknownReloc e.offset e.kind))
    (when (not (is_relative e || has_symbol bytes e)) (UnknownReloc e.offset e.kind))
    (when (moves_import bytes e) (UnknownReloc e.offset e.kind))
    (option_and_then (name_fault bytes e) (symbol_of bytes e))
    (when (not (is_good_place bytes e)) (BadRelocPlace e.offset)) none)

fourth_none : (a b c d e : Option Fault) → option_or a (option_or b (option_or c (option_or d (option_or e None)))) ≡ None → d ≡ None
fourth_none a b c d e h = first_none d _ (second_none c _ (second_none b _ (second_none a _ h)))

pub name_clean : (bytes : List ℕ) (e : Entry) → entry_fault bytes e ≡ None → option_and_then (name_fault bytes e) (symbol_of bytes e) ≡ None
unfolding entry_fault
name_clean bytes e none =
    fourth_none
    (when (not (is_known e.kind)) (UnknownReloc e.offset e.kind))
    (when (not (is_relative e || has_symbol bytes e)) (UnknownReloc e.offset e.kind))
    (when (moves_import bytes e) (UnknownReloc e.offset e.kind))
    (option_and_then (name_fault bytes e) (symbol_of bytes e))
    (when (not (is_good_place bytes e)) (BadRelocPlace e.offset)) none

pub place_some : (bytes : List ℕ) (e : Entry) → entry_fault bytes e ≡ None → 0 < place_size bytes e
place_some bytes e none = ltb-true 0 (place_size bytes e) (and_parts (nat_lt 0 (place_size bytes e)) _ (good_place bytes e none)).0

apart-from_test : (a n b : ℕ) (fault : Fault) → when (nat_lt b (a + n)) fault ≡ None → a + n ≤ b
apart-from_test a n b fault none = grind (arith, nat_tests)

overlaps-next : (bytes : List ℕ) (list : List Entry) (k : ℕ) (a b : Entry) → slice_get list k ≡ Some a → overlaps bytes list (suc k) b ≡ reaches bytes b.offset a
overlaps-next bytes list k a b at_k =
    let here : nat_lt 0 (suc k) ≡ true = grind (arith, nat_tests) in
    let before : suc k - 1 ≡ k = omega arith in
    simp (here, before, at_k)

-- neighbours among the entries
next_apart : (bytes : List ℕ) → first_of (entry_faults bytes) ≡ None → (k : ℕ) (d : Entry) → suc k < length (entries bytes) → EndsBefore (slot_of bytes (get_or (entries bytes) k d)) (slot_of bytes (get_or (entries bytes) (suc k) d))
unfolding slot_of
next_apart bytes clean k d within =
    let some : 0 < place_size bytes (get_or (entries bytes) k d) = place_some bytes (get_or (entries bytes) k d) (first_none _ _ (entry_clean bytes clean k d (omega arith))) in
    let none : when (overlaps bytes (entries bytes) (suc k) (get_or (entries bytes) (suc k) d)) (BadRelocPlace (get_or (entries bytes) (suc k) d).offset) ≡ None = first_none _ None (second_none _ _ (entry_clean bytes clean (suc k) d within)) in
    let test : overlaps bytes (entries bytes) (suc k) (get_or (entries bytes) (suc k) d) ≡ reaches bytes (get_or (entries bytes) (suc k) d).offset (get_or (entries bytes) k d) = overlaps-next bytes (entries bytes) k (get_or (entries bytes) k d) (get_or (entries bytes) (suc k) d) (slice_get-get_or (entries bytes) k d (omega arith)) in
    let apart : (get_or (entries bytes) k d).offset + place_size bytes (get_or (entries bytes) k d) ≤ (get_or (entries bytes) (suc k) d).offset =
    apart-from_test (get_or (entries bytes) k d).offset (place_size bytes (get_or (entries bytes) k d)) (get_or (entries bytes) (suc k) d).offset (BadRelocPlace (get_or (entries bytes) (suc k) d).offset) (sym (ap (λ t. when t (BadRelocPlace (get_or (entries bytes) (suc k) d).offset)) test) ∙ none) in
    (omega arith, apart)

-- each of a list, where each ends before the next
far_apart : (xs : List Slot) (d : Slot) → ((k : ℕ) → suc k < length xs → EndsBefore (get_or xs k d) (get_or xs (suc k) d)) → (n i : ℕ) → i + suc n < length xs → EndsBefore (get_or xs i d) (get_or xs (i + suc n) d)
far_apart xs d next zero i within = let e : i + 1 ≡ suc i = omega arith in rw e (next i (omega arith))
far_apart xs d next (suc n) i within =
    let near : EndsBefore (get_or xs i d) (get_or xs (i + suc n) d) = far_apart xs d next n i (omega arith) in
    let last : EndsBefore (get_or xs (i + suc n) d) (get_or xs (suc (i + suc n)) d) = next (i + suc n) (omega arith) in
    let e : i + suc (suc n) ≡ suc (i + suc n) = omega arith in
    rw e (omega (arith, near.0, last.0), omega (arith, near.1, last.0))

pub slots_apart : (bytes : List ℕ) → first_of (entry_faults bytes) ≡ None → AllPairs EndsBefore (slots_of bytes)
unfolding slots_of
slots_apart bytes clean i j d earlier within =
    let len : length (map (slot_of bytes) (entries bytes)) ≡ length (entries bytes) = length-map (entries bytes) (slot_of bytes) in
    let next : (k : ℕ) → suc k < length (map (slot_of bytes) (entries bytes)) → EndsBefore (get_or (map (slot_of bytes) (entries bytes)) k d) (get_or (map (slot_of bytes) (entries bytes)) (suc k) d) =
    λ k high. rw (get_or-map (slot_of bytes) (entries bytes) k null_entry d (omega arith), get_or-map (slot_of bytes) (entries bytes) (suc k) null_entry d (omega arith)) (next_apart bytes clean k null_entry (omega arith)) in
    let e : i + suc (j - i - 1) ≡ j = omega arith in
    subst (λ k. EndsBefore (get_or (map (slot_of bytes) (entries bytes)) i d) (get_or (map (slot_of bytes) (entries bytes)) k d)) e (far_apart (map (slot_of bytes) (entries bytes)) d next (j - i - 1) i (omega arith))

pub clean_entries : (bytes : List ℕ) → first (relocation_rules bytes) ≡ None → first_of (entry_faults bytes) ≡ None
unfolding relocation_rules
clean_entries bytes h = first_none (first_of (entry_faults bytes)) None (second_none (first_of (table_faults bytes)) _ h)
