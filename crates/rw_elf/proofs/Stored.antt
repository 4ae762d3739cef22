-- What the rules on the sections leave: the bytes of a placed section lie in the file.
use Rattle.std.proofs.Common.{◌≡◌, ℕ, ◌+◌, ◌<◌, ◌≤◌, true, false, not, List, [], ◌∷◌, length, get_or, is_none, ◌==◌, slice_get, nat_lt, ◌&&◌, Option, Some, None, Contains, IsTrue, IfSome, Bool, refl, sym, ap, ◌∙◌, arith}
use Rattle.std.proofs.lemmas.Bool.{false≢true}
use Rattle.std.proofs.lemmas.Option.{slice_get-get_or}
use Rattle.std.proofs.lemmas.Bool.Decides.{nat_tests}
use Rattle.std.proofs.lemmas.List.FromFn.{length-map-range_with_len, get_or-map-range_with_len}
use Rattle.std.specs.Option.{option_and_then}
use Rattle.rw_base.specs.declared.fault.Fault.{Fault}
use Rattle.rw_base.specs.declared.fault.Fault.TheVariants.{Truncated, BadString, ThreadLocal, WritableCode, BadSection}
use Rattle.rw_base.specs.Rules.{first_of, each_of, finding_at, first_some, when}
use Rattle.rw_base.proofs.First.{first_from-none}
use Rattle.rw_elf.specs.declared.section.Section.{Section}
use Rattle.rw_elf.specs.Header.{header_count}
use Rattle.rw_elf.specs.Section.{section_at, sections, names_start, names_size}
use Rattle.rw_elf.specs.Name.{name_end}
use Rattle.rw_elf.specs.Places.{Covers}
use Rattle.rw_elf.specs.Sections.{is_allocated, is_writable, is_executable, is_thread_local, is_well_placed, section_fault, section_finding, is_placed, placed_sections, has_bytes}
use Rattle.rw_elf.specs.Tables.{own_fault}
use Rattle.rw_elf.proofs.Around.{placed_from}
use Rattle.rw_elf.proofs.SectionFacts.{section_at-own_index}

-- the section at a place of the list has this place as its index
own_place : (bytes : List ℕ) (k : ℕ) (d : Section) → k < length (sections bytes) → (get_or (sections bytes) k d).index ≡ k
own_place bytes k d within =
    let count : length (sections bytes) ≡ header_count bytes = length-map-range_with_len (section_at bytes) 0 (header_count bytes) in
    ap (λ s. s.index) (get_or-map-range_with_len (section_at bytes) 0 (header_count bytes) k k d (omega arith) (omega arith)) ∙ section_at-own_index bytes k

later_finding : (bytes : List ℕ) (k : ℕ) (s : Section) → 0 < k → section_finding bytes k s ≡ None → section_fault bytes s ≡ None
later_finding bytes k s some none =
    let later : (k == 0) ≡ false = grind (arith, nat_tests) in
    simp later at none

-- a section with an index above 0 breaks no rule by itself
pub no_own_fault : (bytes : List ℕ) (s : Section) → first_of (own_fault bytes) ≡ None → Contains (sections bytes) s → 0 < s.index → section_fault bytes s ≡ None
unfolding own_fault
no_own_fault bytes s clean here some =
    let none = first_from-none (finding_at (each_of (sections bytes) (section_finding bytes))) 0 _ clean here.0 (omega arith) (omega (arith, here.1)) in
    let at_s : slice_get (sections bytes) here.0 ≡ Some s = slice_get-get_or (sections bytes) here.0 s here.1 ∙ ap Some here.2 in
    let index : s.index ≡ here.0 = ap (λ t. t.index) (sym here.2) ∙ own_place bytes here.0 s here.1 in
    later_finding bytes here.0 s (omega arith) (sym (ap (option_and_then (section_finding bytes here.0)) at_s) ∙ none)

fifth_none : (a b c d e : Option Fault) → first_some (a ∷ b ∷ c ∷ d ∷ e ∷ []) ≡ None → e ≡ None
fifth_none None None None None None h = refl
fifth_none None None None None (Some x) h = absurd (cc)
fifth_none None None None (Some x) e h = absurd (cc)
fifth_none None None (Some x) d e h = absurd (cc)
fifth_none None (Some x) c d e h = absurd (cc)
fifth_none (Some x) b c d e h = absurd (cc)

within_from_test : (s : Section) (len : ℕ) → is_placed s ≡ true → has_bytes s ≡ true → when (is_placed s && (has_bytes s && nat_lt len (s.offset + s.size))) (Truncated s.offset) ≡ None → s.offset + s.size ≤ len
within_from_test s len placed stored none = grind (arith, nat_tests)

placed_index : (s : Section) → is_placed s ≡ true → 0 < s.index
placed_index s placed = grind (arith, nat_tests)

-- the bytes of a placed section lie in the file
pub stored_inside : (bytes : List ℕ) (s : Section) → first_of (own_fault bytes) ≡ None → Contains (sections bytes) s → is_placed s ≡ true → has_bytes s ≡ true → s.offset + s.size ≤ length bytes
unfolding section_fault
stored_inside bytes s clean here placed stored =
    within_from_test s (length bytes) placed stored (fifth_none
    (when (is_none (name_end bytes s.name.at (names_start bytes + names_size bytes))) (BadString s.name.at))
    (when (is_allocated s && is_thread_local s) (ThreadLocal s.index))
    (when (is_allocated s && (is_writable s && is_executable s)) (WritableCode s.index))
    (when (is_placed s && not (is_well_placed s)) (BadSection s.index))
    (when (is_placed s && (has_bytes s && nat_lt (length bytes) (s.offset + s.size))) (Truncated s.offset)) (no_own_fault bytes s clean here (placed_index s placed)))

stored_inside-at : (bytes : List ℕ) (s : Section) → first_of (own_fault bytes) ≡ None → Contains (sections bytes) s → is_placed s ≡ true → (b : Bool) → has_bytes s ≡ b → IsTrue b → s.offset + s.size ≤ length bytes
stored_inside-at bytes s clean here placed true stored _ = stored_inside bytes s clean here placed stored
stored_inside-at bytes s clean here placed false stored h = absurd (false≢true h)

-- what is known of the section around an address
pub around_stores : (bytes : List ℕ) (address : ℕ) (list : List Section) (r : Option Section) → list ≡ placed_sections bytes → first_of (own_fault bytes) ≡ None → IfSome r (λ s. Contains list s × Covers address s) → IfSome r (λ s. IsTrue (has_bytes s) → s.offset + s.size ≤ length bytes)
around_stores bytes address list None is clean some = tt
around_stores bytes address list (Some s) is clean some =
    let from = placed_from bytes s (rw (sym is) some.0) in
    λ stored. stored_inside-at bytes s clean from.0 from.1 (has_bytes s) refl stored
