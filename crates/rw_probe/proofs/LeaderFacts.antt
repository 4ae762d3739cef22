-- Each leader of a file without a fault is one of its points.
use Rattle.std.proofs.Common.{◌≡◌, ◌⊎◌, ℕ, zero, suc, ◌+◌, ◌*◌, ◌<◌, ◌≤◌, Bool, true, false, cond, List, [], ◌∷◌, ◌++◌, length, get_or, filter, All, Option, Some, None, refl, sym, ap, eqb, subst, ◌∙◌, arith, inl, inr}
use Rattle.std.specs.Prelude.{◌-◌, position, ◌==◌, ◌||◌, ◌&&◌, option_and_then, option_map, if◌then◌else◌}
use Rattle.std.proofs.lemmas.List.Elements.{All-filter, Contains-get_or}
use Rattle.std.proofs.lemmas.List.Kept.{Contains-dedup_nat, Contains-from_dedup}
use Rattle.std.proofs.lemmas.List.Sorted.{list_any-IsPermutation}
use Rattle.std.specs.List.{Contains, dedup, flat_map, list_any, range_with_len}
use Rattle.std.specs.List.Sorted.{IsPermutation, IsStrictlyIncreasing}
use Rattle.std.specs.Option.{option_or}
use Rattle.std.proofs.lemmas.Bool.{cases_eq, eqb-true}
use Rattle.std.proofs.lemmas.List.Folds.{Any-from_list_any, list_any_at}
use Rattle.rw_base.specs.Rules.{first}
use Rattle.x86_insn.specs.declared.instruction.Insn.{Insn}
use Rattle.x86_insn.specs.References.{reference_of}
use Rattle.rw_words.specs.declared.atom.Atom.{Atom}
use Rattle.rw_words.specs.declared.atom.Atom.TheVariants.{Ptr, Code, Import}
use Rattle.rw_elf.specs.declared.symbol.Symbol.{Symbol}
use Rattle.rw_elf.specs.Tables.{elf_rules, kept_sections}
use Rattle.rw_reloc.specs.Slots.{copies_of, copy_around, slots_of}
use Rattle.rw_funcs.specs.Found.{found_rules}
use Rattle.rw_funcs.specs.Functions.{end_of, kept_functions, starts_at}
use Rattle.rw_funcs.specs.Points.{Point, file_points, is_one_of, is_point, places_of, points_of}
use Rattle.rw_funcs.proofs.Facts.{placed_function}
use Rattle.rw_funcs.proofs.FunctionsOf.{clean-functions}
use Rattle.rw_refs.specs.CodeReferences.{is_direct}
use Rattle.rw_refs.specs.References.{copy_at, end_at, import_through, inside_at, offset_in, point_at, reference_at, start_at, target_at}
use Rattle.rw_refs.specs.References.{starts_at as section_starts}
use Rattle.rw_refs.specs.Stubs.{stub_at}
use Rattle.rw_elf.specs.Places.{kept_around, kept_ending}
use Rattle.rw_tables.specs.Tables.{entry_at, table_rules, tables_of}
use Rattle.rw_tables.proofs.FunctionPoints.{function-tiles}
use Rattle.rw_tables.proofs.KnownFacts.{same-off, same-on}
use Rattle.rw_tables.proofs.Tiles.{Tiles}
use Rattle.rw_words.proofs.WordLemmas.{and-first}
use Rattle.rw_probe.specs.declared.leaders.Mode.{Mode}
use Rattle.rw_probe.specs.declared.leaders.Mode.TheVariants.{Nothing, Starts, Blocks}
use Rattle.rw_probe.specs.Leaders.{address_in, held_by, is_behind, is_behind_in, is_code, is_held, is_in, is_in_table, is_leader, is_named, is_start, leaders_of, leads_to, named_at, named_by}
use Rattle.rw_probe.specs.Collecting.{AddsWhere}
use Rattle.rw_probe.proofs.Adding.{or-or}
use Rattle.rw_probe.proofs.Numbering.{other-default}
use Rattle.rw_probe.proofs.Placed.{points-rise, some-few}
use Rattle.rw_probe.proofs.Rising.{Rising, rising-filter, same-elements}
use Rattle.rw_probe.proofs.WordFacts.{entry-to-point}

-- ---- what has a reference to code

-- a place in data isn't code
or-code : (c : ℕ) (a b : Option Atom) → is_code c (option_or a b) ≡ true → (is_code c a ≡ true) ⊎ (is_code c b ≡ true)
or-code c None b h = inr h
or-code c (Some x) b h = inl h

other-atoms : (c : ℕ) (f : ℕ → Atom) (o : Option ℕ) → ((k : ℕ) → is_code c (Some (f k)) ≡ false) → is_code c (option_map f o) ≡ true → ⊥
other-atoms c f None other h = absurd (cc)
other-atoms c f (Some k) other h = let never = sym (other k) ∙ h in absurd (cc)

no-copy : (bytes : List ℕ) (c a : ℕ) → is_code c (copy_at bytes a) ≡ true → ⊥
no-copy bytes c a h = other-atoms c (λ k. Ptr (length (kept_sections bytes) + k) (offset_in (copies_of bytes) (λ s. a - s.address) k)) (copy_around bytes a) (λ k. refl) h

no-start : (bytes : List ℕ) (c a : ℕ) → is_code c (start_at bytes a) ≡ true → ⊥
no-start bytes c a h = other-atoms c (λ k. Ptr k 0) (position (section_starts a) (kept_sections bytes)) (λ k. refl) h

no-inside : (bytes : List ℕ) (c a : ℕ) → is_code c (inside_at bytes a) ≡ true → ⊥
no-inside bytes c a h = other-atoms c (λ k. Ptr k (offset_in (kept_sections bytes) (λ s. a - s.addr) k)) (kept_around bytes a) (λ k. refl) h

no-end : (bytes : List ℕ) (c a : ℕ) → is_code c (end_at bytes a) ≡ true → ⊥
no-end bytes c a h = other-atoms c (λ k. Ptr k (offset_in (kept_sections bytes) (λ s. s.size) k)) (kept_ending bytes a) (λ k. refl) h

no-import : (bytes : List ℕ) (c a : ℕ) → is_code c (import_through bytes a) ≡ true → ⊥
no-import bytes c a h = other-atoms c Import (stub_at bytes a) (λ k. refl) h

-- the code of a point
its-code : (bytes : List ℕ) (c a : ℕ) → is_code c (point_at bytes a) ≡ true → is_point (file_points bytes) c ≡ true
its-code bytes c a h = by_test (is_point (file_points bytes) a) refl h
  where
    by_test : (t : Bool) → is_point (file_points bytes) a ≡ t → is_code c (if t then Some (Code a) else None) ≡ true → is_point (file_points bytes) c ≡ true
    by_test true is h = ap (is_point (file_points bytes)) (sym (eqb-true a c h)) ∙ is
    by_test false is h = absurd (cc)

never-none : (c : ℕ) → is_code c None ≡ true → ⊥
never-none c h = absurd (cc)

target-code : (bytes : List ℕ) (c a : ℕ) → is_code c (target_at bytes a) ≡ true → is_point (file_points bytes) c ≡ true
unfolding target_at
target-code bytes c a h =
    elim (or-code c (point_at bytes a) (option_or (import_through bytes a) None) h) [
      | inl here ↦ its-code bytes c a here
      | inr other ↦
          elim (or-code c (import_through bytes a) None other) [
            | inl import ↦ absurd (no-import bytes c a import)
            | inr none ↦ absurd (never-none c none)
          ]
    ]

reference-code : (bytes : List ℕ) (c a : ℕ) → is_code c (reference_at bytes a) ≡ true → is_point (file_points bytes) c ≡ true
unfolding reference_at
reference-code bytes c a h =
    elim (or-code c (copy_at bytes a) (option_or (start_at bytes a) (option_or (inside_at bytes a) (option_or (end_at bytes a) (option_or (point_at bytes a) (option_or (import_through bytes a) None))))) h) [
      | inl here ↦ absurd (no-copy bytes c a here)
      | inr h ↦
          elim (or-code c (start_at bytes a) (option_or (inside_at bytes a) (option_or (end_at bytes a) (option_or (point_at bytes a) (option_or (import_through bytes a) None)))) h) [
            | inl here ↦ absurd (no-start bytes c a here)
            | inr h ↦
                elim (or-code c (inside_at bytes a) (option_or (end_at bytes a) (option_or (point_at bytes a) (option_or (import_through bytes a) None))) h) [
                  | inl here ↦ absurd (no-inside bytes c a here)
                  | inr h ↦
                      elim (or-code c (end_at bytes a) (option_or (point_at bytes a) (option_or (import_through bytes a) None)) h) [
                        | inl here ↦ absurd (no-end bytes c a here)
                        | inr h ↦
                            elim (or-code c (point_at bytes a) (option_or (import_through bytes a) None) h) [
                              | inl here ↦ its-code bytes c a here
                              | inr h ↦
                                  elim (or-code c (import_through bytes a) None h) [
                                    | inl import ↦ absurd (no-import bytes c a import)
                                    | inr none ↦ absurd (never-none c none)
                                  ]
                            ]
                      ]
                ]
          ]
    ]

-- ---- each kind of leader

-- some item of a list
some-item : {A : Type 0} (p : A → Bool) (xs : List A) → list_any p xs ≡ true → (x : A) × Contains xs x × (p x ≡ true)
some-item p xs h = let a = Any-from_list_any p xs h in (a.1, (a.0, a.2, a.3), a.4)

is_point-append : (ps qs : List Point) (c : ℕ) → is_point (ps ++ qs) c ≡ (is_point ps c || is_point qs c)
is_point-append [] qs c = refl
is_point-append (p ∷ ps) qs c = ap (λ b. (p.place == c) || b) (is_point-append ps qs c) ∙ sym (or-or (p.place == c) (is_point ps c) (is_point qs c))

or-true : (a : Bool) → (a || true) ≡ true
or-true true = refl
or-true false = refl

flat-point : (bytes : List ℕ) (fs : List Symbol) (f : Symbol) (c : ℕ) → Contains fs f → is_point (points_of bytes f) c ≡ true → is_point (flat_map (points_of bytes) fs) c ≡ true
flat-point bytes [] f c here is = let low = here.1 in absurd (omega (arith, low))
flat-point bytes (g ∷ fs) f c (zero, low, same) is =
    is_point-append (points_of bytes g) (flat_map (points_of bytes) fs) c ∙ ap (λ b. b || is_point (flat_map (points_of bytes) fs) c) (ap (λ s. is_point (points_of bytes s) c) same ∙ is)
flat-point bytes (g ∷ fs) f c (suc k, low, same) is =
    is_point-append (points_of bytes g) (flat_map (points_of bytes) fs) c ∙ ap (λ b. is_point (points_of bytes g) c || b) (flat-point bytes fs f c (k, omega (arith, low), same) is) ∙ or-true (is_point (points_of bytes g) c)

point-of-function : (bytes : List ℕ) (f : Symbol) (c : ℕ) → Contains (kept_functions bytes) f → is_point (points_of bytes f) c ≡ true → is_point (file_points bytes) c ≡ true
unfolding file_points
point-of-function bytes f c here is = flat-point bytes (kept_functions bytes) f c here is

first-tile : (ps : List Point) (a e c : ℕ) → Tiles a ps e → a < e → a ≡ c → is_point ps c ≡ true
first-tile [] a e c t some same = absurd (omega (arith, t, some))
first-tile (p ∷ ps) a e c t some same = ap (λ b. b || is_point ps c) (same-on p.place c (t.0 ∙ same))

start-point : (bytes : List ℕ) (c : ℕ) → first (elf_rules bytes) ≡ None → first (found_rules bytes) ≡ None → is_start bytes c ≡ true → is_point (file_points bytes) c ≡ true
start-point bytes c file found h =
    let start = Any-from_list_any (starts_at c) (kept_functions bytes) h in
    let f = start.1 in
    let here : Contains (kept_functions bytes) start.1 = (start.0, start.2, start.3) in
    let tiles : Tiles start.1.value (points_of bytes start.1) (end_of start.1) = subst (λ g. Tiles g.value (points_of bytes g) (end_of g)) start.3 (function-tiles bytes start.0 start.1 file found start.2) in
    let placed = placed_function bytes start.1 (clean-functions bytes found) here in
    let some = placed.some in
    point-of-function bytes start.1 c here (first-tile (points_of bytes start.1) start.1.value (end_of start.1) c tiles (omega (arith, some)) (eqb-true start.1.value c start.4))

named-point : (bytes : List ℕ) (c : ℕ) → is_named bytes c ≡ true → is_point (file_points bytes) c ≡ true
named-point bytes c h =
    let some = some-item (λ p. is_code c (named_by bytes p)) (file_points bytes) h in
    by_option some.0.insn (reference_at_option some.0) some.2
  where
    reference_at_option : Point → Option ℕ
    reference_at_option p = reference_of p.insn

    by_kind : (t : Bool) (a : ℕ) → is_code c (if t then target_at bytes a else reference_at bytes a) ≡ true → is_point (file_points bytes) c ≡ true
    by_kind true a h = target-code bytes c a h
    by_kind false a h = reference-code bytes c a h

    by_option : (i : Insn ℕ) (o : Option ℕ) → is_code c (option_and_then (named_at bytes i) o) ≡ true → is_point (file_points bytes) c ≡ true
    by_option i None h = absurd (cc)
    by_option i (Some a) h = by_kind (is_direct i) a h

held-point : (bytes : List ℕ) (c : ℕ) → is_held bytes c ≡ true → is_point (file_points bytes) c ≡ true
held-point bytes c h =
    let some = some-item (λ s. is_code c (held_by bytes s)) (slots_of bytes) h in
    by_kept some.0.kept (address_in some.0.target) some.2
  where
    by_address : (o : Option ℕ) → is_code c (option_and_then (reference_at bytes) o) ≡ true → is_point (file_points bytes) c ≡ true
    by_address None h = absurd (cc)
    by_address (Some a) h = reference-code bytes c a h

    by_kept : (t : Bool) (o : Option ℕ) → is_code c (if t then option_and_then (reference_at bytes) o else None) ≡ true → is_point (file_points bytes) c ≡ true
    by_kept true o h = by_address o h
    by_kept false o h = absurd (cc)

led-point : (bytes : List ℕ) (c a : ℕ) → first (table_rules bytes) ≡ None → leads_to c (entry_at bytes a) ≡ true → is_point (file_points bytes) c ≡ true
led-point bytes c a clean h = by_option (entry_at bytes a) refl h
  where
    by_option : (o : Option (ℕ × ℕ)) → entry_at bytes a ≡ o → leads_to c o ≡ true → is_point (file_points bytes) c ≡ true
    by_option None e h = absurd (cc)
    by_option (Some w) e h = ap (is_point (file_points bytes)) (sym (eqb-true w.0 c h)) ∙ entry-to-point bytes a w clean e

table-point : (bytes : List ℕ) (c : ℕ) → first (table_rules bytes) ≡ None → is_in_table bytes c ≡ true → is_point (file_points bytes) c ≡ true
table-point bytes c clean h =
    let table = some-item (is_in bytes c) (tables_of bytes) h in
    let word = some-item (λ k. leads_to c (entry_at bytes (table.0.base + 4 * k))) (range_with_len 0 table.0.count) table.2 in
    led-point bytes c (table.0.base + 4 * word.0) clean word.2

behind-point : (bytes : List ℕ) (c : ℕ) → is_behind bytes c ≡ true → is_point (file_points bytes) c ≡ true
behind-point bytes c h =
    let some = some-item (is_behind_in bytes c) (kept_functions bytes) h in
    point-of-function bytes some.0 c some.1 (and-first _ _ some.2)

either : (a b : Bool) → (a || b) ≡ true → (a ≡ true) ⊎ (b ≡ true)
either true b h = inl h
either false b h = inr h

pub leader-point : (bytes : List ℕ) (mode : Mode) (c : ℕ) → first (elf_rules bytes) ≡ None → first (found_rules bytes) ≡ None → first (table_rules bytes) ≡ None → is_leader bytes mode c ≡ true → is_point (file_points bytes) c ≡ true
leader-point bytes Nothing c file found tables h = absurd (cc)
leader-point bytes Starts c file found tables h = start-point bytes c file found h
leader-point bytes Blocks c file found tables h =
    elim (either _ _ h) [
      | inl start ↦ start-point bytes c file found start
      | inr h ↦
          elim (either _ _ h) [
            | inl code ↦ elim (either _ _ code) [ inl named ↦ named-point bytes c named | inr behind ↦ behind-point bytes c behind ]
            | inr data_ ↦ elim (either _ _ data_) [ inl held ↦ held-point bytes c held | inr led ↦ table-point bytes c tables led ]
          ]
    ]

-- ---- the list

and-no : (a : Bool) → (a && false) ≡ false
and-no true = refl
and-no false = refl

one-more : (p : ℕ → Bool) (x c : ℕ) (xs ys : List ℕ) (t : Bool) → p x ≡ t → is_one_of ys c ≡ (is_one_of xs c && p c) → is_one_of (cond t (x ∷ ys) ys) c ≡ (((x == c) || is_one_of xs c) && p c)
one-more p x c xs ys true e rest =
    elim (cases_eq x c) [
      | inl same ↦
          let on = same-on x c same in
          let pass : p c ≡ true = sym (ap p same) ∙ e in
          ap (λ b. b || is_one_of ys c) on ∙ sym (ap (λ b. (b || is_one_of xs c) && p c) on ∙ pass)
      | inr other ↦ let off = same-off x c other in ap (λ b. b || is_one_of ys c) off ∙ rest ∙ sym (ap (λ b. (b || is_one_of xs c) && p c) off)
    ]
one-more p x c xs ys false e rest =
    elim (cases_eq x c) [
      | inl same ↦
          let on = same-on x c same in
          let fail : p c ≡ false = sym (ap p same) ∙ e in
          rest ∙ ap (λ b. is_one_of xs c && b) fail ∙ and-no (is_one_of xs c) ∙ sym (ap (λ b. (b || is_one_of xs c) && p c) on ∙ fail)
      | inr other ↦ let off = same-off x c other in rest ∙ sym (ap (λ b. (b || is_one_of xs c) && p c) off)
    ]

one-of-filter : (p : ℕ → Bool) (xs : List ℕ) (c : ℕ) → is_one_of (filter p xs) c ≡ (is_one_of xs c && p c)
one-of-filter p [] c = refl
one-of-filter p (x ∷ xs) c = one-more p x c xs (filter p xs) (p x) refl (one-of-filter p xs c)

pub leaders-rise : (bytes : List ℕ) (mode : Mode) → first (elf_rules bytes) ≡ None → first (found_rules bytes) ≡ None → Rising 0 (leaders_of bytes mode)
unfolding leaders_of
leaders-rise bytes mode file found = rising-filter (is_leader bytes mode) 0 (places_of (file_points bytes)) (points-rise bytes file found)

pub leaders-few : (bytes : List ℕ) (mode : Mode) → first (elf_rules bytes) ≡ None → first (found_rules bytes) ≡ None → length (leaders_of bytes mode) ≤ 16777216
unfolding leaders_of
leaders-few bytes mode file found = some-few bytes (is_leader bytes mode) file found

pub leaders-are : (bytes : List ℕ) (mode : Mode) (c : ℕ) → first (elf_rules bytes) ≡ None → first (found_rules bytes) ≡ None → first (table_rules bytes) ≡ None → is_one_of (leaders_of bytes mode) c ≡ is_leader bytes mode c
unfolding leaders_of
leaders-are bytes mode c file found tables = one-of-filter (is_leader bytes mode) (places_of (file_points bytes)) c ∙ by_test (is_leader bytes mode c) refl
  where
    by_test : (t : Bool) → is_leader bytes mode c ≡ t → (is_one_of (places_of (file_points bytes)) c && t) ≡ t
    by_test true h = ap (λ b. b && true) (leader-point bytes mode c file found tables h)
    by_test false h = and-no (is_one_of (places_of (file_points bytes)) c)

-- a list of numbers that rise is strictly increasing, and the other way
pub rising-increases : (lo : ℕ) (xs : List ℕ) → Rising lo xs → IsStrictlyIncreasing xs
rising-increases lo [] r = λ k low. absurd (omega (arith, low))
rising-increases lo (x ∷ []) r = λ k low. absurd (omega (arith, low))
rising-increases lo (x ∷ y ∷ xs) r = λ k low. step k low (rising-increases (x + 1) (y ∷ xs) r.1)
  where
    step : (k : ℕ) → k + 1 < length (x ∷ y ∷ xs) → IsStrictlyIncreasing (y ∷ xs) → get_or (x ∷ y ∷ xs) k 0 < get_or (x ∷ y ∷ xs) (k + 1) 0
    step zero low rest = let b = r.1.0 in omega (arith, b)
    step (suc k) low rest = let e : suc (k + 1) ≡ suc k + 1 = omega arith in subst (λ n. get_or (y ∷ xs) k 0 < get_or (x ∷ y ∷ xs) n 0) e (rest k (omega (arith, low)))

pub increases-rising : (lo : ℕ) (xs : List ℕ) → IsStrictlyIncreasing xs → lo ≤ get_or xs 0 lo → Rising lo xs
increases-rising lo [] h low = tt
increases-rising lo (x ∷ []) h low = (low, tt)
increases-rising lo (x ∷ y ∷ xs) h low =
    let first = h 0 (let n : 0 + 1 < length (x ∷ y ∷ xs) = omega arith in n) in
    (low, increases-rising (x + 1) (y ∷ xs) (λ k below. let e : suc k + 1 ≡ suc (k + 1) = omega arith in subst (λ n. get_or (y ∷ xs) k 0 < get_or (x ∷ y ∷ xs) n 0) e (h (suc k) (omega (arith, below)))) (omega (arith, first)))

-- ---- sorted, without repeats

pub one-of-contains : (xs : List ℕ) (c : ℕ) → Contains xs c → is_one_of xs c ≡ true
one-of-contains xs c h = list_any_at (λ m. m == c) xs h.0 c h.1 (same-on (get_or xs h.0 c) c h.2)

pub contains-one-of : (xs : List ℕ) (c : ℕ) → is_one_of xs c ≡ true → Contains xs c
contains-one-of xs c h = let a = Any-from_list_any (λ m. m == c) xs h in (a.0, a.2, other-default xs a.0 c a.2 ∙ sym (other-default xs a.0 a.1 a.2) ∙ a.3 ∙ eqb-true a.1 c a.4)

one-of-both : (xs ys : List ℕ) (c : ℕ) → (Contains xs c → Contains ys c) → (Contains ys c → Contains xs c) → is_one_of xs c ≡ is_one_of ys c
one-of-both xs ys c there back = by_tests (is_one_of xs c) (is_one_of ys c) refl refl
  where
    by_tests : (a b : Bool) → is_one_of xs c ≡ a → is_one_of ys c ≡ b → a ≡ b
    by_tests true true e f = refl
    by_tests false false e f = refl
    by_tests true false e f = let yes_ = one-of-contains ys c (there (contains-one-of xs c e)) in let never : true ≡ false = sym yes_ ∙ f in absurd (cc)
    by_tests false true e f = let yes_ = one-of-contains xs c (back (contains-one-of ys c f)) in let never : true ≡ false = sym yes_ ∙ e in absurd (cc)

pub sorted-set : (added sorted kept : List ℕ) (c : ℕ) → IsPermutation added sorted → kept ≡ dedup eqb sorted → is_one_of kept c ≡ is_one_of added c
sorted-set added sorted kept c moved is =
    ap (λ xs. is_one_of xs c) is
    ∙ one-of-both (dedup eqb sorted) sorted c (λ h. Contains-from_dedup eqb sorted c h) (λ h. Contains-dedup_nat sorted c h)
    ∙ sym (list_any-IsPermutation (λ m. m == c) added sorted moved)

-- what was added and sorted is the list of leaders
pub leaders-made : (bytes : List ℕ) (mode : Mode) (added kept : List ℕ) → first (elf_rules bytes) ≡ None → first (found_rules bytes) ≡ None → first (table_rules bytes) ≡ None
    → AddsWhere (is_leader bytes mode) [] added → IsStrictlyIncreasing kept → ((c : ℕ) → is_one_of kept c ≡ is_one_of added c) → kept ≡ leaders_of bytes mode
leaders-made bytes mode added kept file found tables adds ascend same =
    same-elements 0 kept (leaders_of bytes mode) (increases-rising 0 kept ascend (omega arith)) (leaders-rise bytes mode file found) (λ c. same c ∙ adds c ∙ sym (leaders-are bytes mode c file found tables))

pub leaders-points : (bytes : List ℕ) (mode : Mode) → All (λ c. is_point (file_points bytes) c ≡ true) (leaders_of bytes mode)
unfolding leaders_of
leaders-points bytes mode =
    All-filter (is_leader bytes mode) (λ c. is_point (file_points bytes) c ≡ true) (places_of (file_points bytes))
    (λ k d low. one-of-contains (places_of (file_points bytes)) (get_or (places_of (file_points bytes)) k d) (Contains-get_or (places_of (file_points bytes)) k d low))
