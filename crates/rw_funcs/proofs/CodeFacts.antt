-- The code sections of a file, and which of them has the code of a function.
use Rattle.std.proofs.Common.{◌≡◌, ℕ, ◌+◌, ◌<◌, ◌≤◌, Bool, true, false, ◌&&◌, cond, nat_le, nat_lt, List, [], ◌∷◌, length, get_or, Option, Some, None, Contains, sym, ap, subst, ◌∙◌, arith, inl, inr}
use Rattle.std.proofs.Math.ListN.{length-map}
use Rattle.std.specs.List.{position, position_or_len}
use Rattle.std.proofs.lemmas.Bool.{cases_lt, false≢true}
use Rattle.std.proofs.lemmas.Bool.Decides.{nat_tests}
use Rattle.std.proofs.lemmas.List.{get_or-map, get_or_default}
use Rattle.std.proofs.lemmas.List.Elements.{Contains-get_or}
use Rattle.std.proofs.lemmas.List.Quantifiers.{position-Some}
use Rattle.std.proofs.lemmas.List.Sums.{fails_before_first}
use Rattle.rw_base.specs.Rules.{first}
use Rattle.rw_elf.specs.declared.section.Section.{Section}
use Rattle.rw_elf.specs.declared.symbol.Symbol.{Symbol}
use Rattle.rw_elf.specs.Places.{covers, section_around}
use Rattle.rw_elf.specs.Section.{sections}
use Rattle.rw_elf.specs.Sections.{is_placed, has_bytes, placed_sections}
use Rattle.rw_elf.specs.Tables.{elf_rules, is_code, code_sections}
use Rattle.rw_elf.proofs.Around.{filter_contains, filter_tests, placed_from}
use Rattle.rw_elf.proofs.Clean.{clean_around, code_pairs}
use Rattle.rw_funcs.specs.declared.code.CodeSection.{CodeSection}
use Rattle.rw_funcs.specs.Found.{AreApart, HasSectionsOf, IsOutside, lies_in}
use Rattle.rw_funcs.specs.Functions.{kept_functions, function_rules, end_of, its_section}
use Rattle.rw_funcs.proofs.Facts.{placed_function, in_code_sections}

-- ---- places of a list that a test passes

-- where none passes, each fails
pub position-none : {X : Type 0} (p : X → Bool) (xs : List X) → position p xs ≡ None → (k : ℕ) (d : X) → k < length xs → p (get_or xs k d) ≡ false
position-none p xs h k d within =
    elim (cases_lt (position_or_len p xs) (length xs)) [
      | inl low ↦ absurd (some_place (position_or_len p xs) (length xs) low h)
      | inr past ↦ fails_before_first p xs k d (omega arith)
    ]
  where
    some_place : (n m : ℕ) → n < m → ◌≡◌ {A = Option ℕ} (cond (nat_lt n m) (Some n) None) None → ⊥
    some_place n m low g = grind (arith, nat_tests)

-- ---- the code sections of a file

abbrev section_at : CodeSection → Section
section_at c = c.section

pub length-sections : (bytes : List ℕ) (code : List CodeSection) → HasSectionsOf bytes code → length (code_sections bytes) ≡ length code
length-sections bytes code of = sym (ap length of.list) ∙ length-map code (λ (c : CodeSection). c.section)

pub nth-section : (bytes : List ℕ) (code : List CodeSection) → HasSectionsOf bytes code → (k : ℕ) (d : CodeSection) → k < length code → get_or (code_sections bytes) k d.section ≡ (get_or code k d).section
nth-section bytes code of k d within = ap (λ l. get_or l k d.section) (sym of.list) ∙ get_or-map (λ (c : CodeSection). c.section) code k d d.section within

pub sections-apart : (bytes : List ℕ) (code : List CodeSection) → first (elf_rules bytes) ≡ None → HasSectionsOf bytes code → AreApart code
sections-apart bytes code clean of i j d earlier within =
    let size = length-sections bytes code of in
    let apart = code_pairs bytes clean i j d.section earlier (omega (arith, size)) in
    let one = nth-section bytes code of i d (omega arith) in
    let other = nth-section bytes code of j d within in
    subst (λ t. (get_or code i d).section.addr + (get_or code i d).section.size ≤ t.addr) other
    (subst (λ s. s.addr + s.size ≤ (get_or (code_sections bytes) j d.section).addr) one apart)

-- each is one of the file's sections, with code
pub code-section : (bytes : List ℕ) (s : Section) → Contains (code_sections bytes) s → Contains (sections bytes) s × (is_placed s ≡ true) × (is_code bytes s ≡ true)
unfolding code_sections
code-section bytes s here =
    let from = placed_from bytes s (filter_contains (is_code bytes) (placed_sections bytes) s here) in
    (from.0, from.1, filter_tests (is_code bytes) (placed_sections bytes) s here)

pub code-has_bytes : (bytes : List ℕ) (s : Section) → is_code bytes s ≡ true → has_bytes s ≡ true
code-has_bytes bytes s h = grind (arith, nat_tests)

pub nth-contains : (bytes : List ℕ) (code : List CodeSection) → HasSectionsOf bytes code → (k : ℕ) (d : CodeSection) → k < length code → Contains (code_sections bytes) (get_or code k d).section
nth-contains bytes code of k d within =
    let size = length-sections bytes code of in
    subst (Contains (code_sections bytes)) (nth-section bytes code of k d within) (Contains-get_or (code_sections bytes) k d.section (omega (arith, size)))

-- the place of a code section of the file
pub place-of-section : (bytes : List ℕ) (code : List CodeSection) → HasSectionsOf bytes code → (d : CodeSection) (s : Section) → Contains (code_sections bytes) s → (k : ℕ) × (k < length code) × ((get_or code k d).section ≡ s)
place-of-section bytes code of d s here =
    let size = length-sections bytes code of in
    let low = here.1 in
    let within : here.0 < length code = omega (arith, low, size) in
    (here.0, within, sym (nth-section bytes code of here.0 d within) ∙ get_or_default (code_sections bytes) here.0 d.section s here.1 ∙ here.2)

-- the section of a function has its addresses
pub lies-in : (a : ℕ) (s : Section) → s.addr ≤ a → a < s.addr + s.size → (nat_le s.addr a && nat_lt a (s.addr + s.size)) ≡ true
lies-in a s low high = grind (arith, nat_tests)

covers-from : (a : ℕ) (s : Section) → is_placed s ≡ true → (nat_le s.addr a && nat_lt a (s.addr + s.size)) ≡ true → covers a s ≡ true
covers-from a s placed on = ap (λ t. t && (nat_le s.addr a && nat_lt a (s.addr + s.size))) placed ∙ on

-- two code sections that have an address are the same
pub same-section : (bytes : List ℕ) (a : ℕ) (s t : Section) → first (elf_rules bytes) ≡ None → Contains (code_sections bytes) s → Contains (code_sections bytes) t
    → (nat_le s.addr a && nat_lt a (s.addr + s.size)) ≡ true → (nat_le t.addr a && nat_lt a (t.addr + t.size)) ≡ true → s ≡ t
same-section bytes a s t clean in_s in_t on_s on_t =
    let of_s = code-section bytes s in_s in
    let of_t = code-section bytes t in_t in
    let one : section_around bytes a ≡ Some s = clean_around bytes a s clean of_s.0 (covers-from a s of_s.1 on_s) in
    let other : section_around bytes a ≡ Some t = clean_around bytes a t clean of_t.0 (covers-from a t of_t.1 on_t) in
    cc

-- ---- the code section that has the code of a function

-- an address of a kept function is one of its section's
pub function-address : (bytes : List ℕ) (f : Symbol) (a : ℕ) → first (function_rules bytes) ≡ None → Contains (kept_functions bytes) f → f.value ≤ a → a < end_of f
    → Contains (code_sections bytes) (its_section bytes f) × ((nat_le (its_section bytes f).addr a && nat_lt a ((its_section bytes f).addr + (its_section bytes f).size)) ≡ true)
function-address bytes f a rules here low high =
    let placed = placed_function bytes f rules here in
    let starts = placed.starts in
    let ends = placed.ends in
    (in_code_sections bytes f (its_section bytes f) placed, lies-in a (its_section bytes f) (omega (arith, starts, low)) (omega (arith, ends, high)))

-- the place that is found for it has its section
pub found-section : (bytes : List ℕ) (code : List CodeSection) → first (elf_rules bytes) ≡ None → first (function_rules bytes) ≡ None → HasSectionsOf bytes code → (f : Symbol) (a : ℕ) → Contains (kept_functions bytes) f → f.value ≤ a → a < end_of f
    → (k : ℕ) (d : CodeSection) → position (lies_in a) code ≡ Some k → (k < length code) × ((get_or code k d).section ≡ its_section bytes f)
found-section bytes code clean rules of f a here low high k d found =
    let at = position-Some (lies_in a) code k d found in
    let on = function-address bytes f a rules here low high in
    (at.0, same-section bytes a (get_or code k d).section (its_section bytes f) clean (nth-contains bytes code of k d at.0) on.0 at.1 on.1)

-- a place is found for it
pub some-section : (bytes : List ℕ) (code : List CodeSection) → first (function_rules bytes) ≡ None → HasSectionsOf bytes code → (f : Symbol) (a : ℕ) → Contains (kept_functions bytes) f → f.value ≤ a → a < end_of f → position (lies_in a) code ≡ None → ⊥
some-section bytes [] rules of f a here low high none =
    let on = function-address bytes f a rules here low high in
    let size = length-sections bytes [] of in
    let within = on.0.1 in
    omega (arith, size, within)
some-section bytes (c ∷ cs) rules of f a here low high none =
    let on = function-address bytes f a rules here low high in
    let place = place-of-section bytes (c ∷ cs) of c (its_section bytes f) on.0 in
    absurd (false≢true (sym (position-none (lies_in a) (c ∷ cs) none place.0 c place.1) ∙ ap (λ s. nat_le s.addr a && nat_lt a (s.addr + s.size)) place.2 ∙ on.1))

-- no code section has an address where no place is found
none-at : (bytes : List ℕ) (code : List CodeSection) → HasSectionsOf bytes code → (a : ℕ) (s : Section) → Contains (code_sections bytes) s → position (lies_in a) code ≡ None → (nat_le s.addr a && nat_lt a (s.addr + s.size)) ≡ true → ⊥
none-at bytes [] of a s here none on =
    let size = length-sections bytes [] of in
    let within = here.1 in
    omega (arith, size, within)
none-at bytes (c ∷ cs) of a s here none on =
    let place = place-of-section bytes (c ∷ cs) of c s here in
    absurd (false≢true (sym (position-none (lies_in a) (c ∷ cs) none place.0 c place.1) ∙ ap (λ t. nat_le t.addr a && nat_lt a (t.addr + t.size)) place.2 ∙ on))

pub none-outside : (bytes : List ℕ) (code : List CodeSection) → HasSectionsOf bytes code → (a : ℕ) → position (lies_in a) code ≡ None → IsOutside bytes a
none-outside bytes code of a none = record { never = λ s here on. none-at bytes code of a s here none on }
