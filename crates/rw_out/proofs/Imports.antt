-- The names that a text uses are import names, and what an address stands for is shown by a symbol of a text.
use Rattle.std.proofs.Common.{◌≡◌, ℕ, suc, ◌+◌, ◌-◌, ◌%◌, ◌^◌, ◌<◌, ◌≤◌, Bool, true, false, not, cond, ◌&&◌, ◌||◌, ◌==◌, nat_le, nat_lt, List, [], ◌∷◌, zero, lit<, lit≤, length, filter, get_or, Option, Some, None, refl, sym, ap, subst, ◌∙◌, arith}
use Rattle.std.specs.Prelude.{option_and_then, option_map, position, slice_get}
use Rattle.std.specs.List.{Contains}
use Rattle.std.specs.Option.{option_map_or, option_or}
use Rattle.std.proofs.lemmas.Bool.{and_parts, eqb-true, lt-ltb}
use Rattle.std.proofs.lemmas.Bool.Decides.{nat_tests}
use Rattle.std.proofs.lemmas.List.{get_or-map, length-map}
use Rattle.std.proofs.lemmas.List.Elements.{Contains-get_or}
use Rattle.std.proofs.lemmas.List.Quantifiers.{position-Some}
use Rattle.std.proofs.lemmas.Option.{get_or_from_slice_get, slice_get_within}
use Rattle.rw_base.specs.declared.fault.Fault.{Fault}
use Rattle.rw_base.specs.declared.fault.Fault.TheVariants.{UnknownReloc}
use Rattle.rw_base.specs.Name.{is_import_name}
use Rattle.rw_base.specs.Rules.{when}
use Rattle.rw_words.specs.declared.atom.Atom.{Atom}
use Rattle.rw_words.specs.declared.atom.Atom.TheVariants as atom
use Rattle.asm_items.specs.Formed.{is_half, is_sym, is_word}
use Rattle.asm_items.specs.declared.item.Sym.TheVariants as syms
use Rattle.rw_base.proofs.First.{first_none, second_none}
use Rattle.rw_elf.specs.declared.section.Section.{Section}
use Rattle.rw_elf.specs.declared.symbol.Symbol.{Symbol}
use Rattle.rw_elf.specs.Name.{name_bytes}
use Rattle.rw_elf.specs.Places.{kept_around, kept_ending, section_around, spans}
use Rattle.rw_elf.specs.Section.{null_section, sections}
use Rattle.rw_elf.specs.Sections.{is_writable}
use Rattle.rw_elf.specs.Symbols.{dynamic_symbols}
use Rattle.rw_elf.specs.Tables.{is_named, kept_sections}
use Rattle.rw_elf.proofs.Around.{filter_contains, filter_tests}
use Rattle.rw_reloc.specs.declared.slot.Slot.{Slot}
use Rattle.rw_reloc.specs.declared.slot.Target.{Target}
use Rattle.rw_reloc.specs.declared.slot.Target.TheVariants as target
use Rattle.rw_reloc.specs.Entries.{entries, null_entry}
use Rattle.rw_reloc.specs.Relocations.{entry_fault, has_symbol, has_symbols, holds, is_copied, is_imported, is_known, is_plain}
use Rattle.rw_reloc.specs.Slots.{copies_of, copy_around, is_copy_slot, null_slot, slot_at, slot_of, slots_of, starts_at, takes}
use Rattle.rw_reloc.specs.Targets.{is_copy, is_relative, is_undefined, symbol_of, symbol_target, target_of, target_size}
use Rattle.rw_reloc.proofs.Apart.{clean_entries, entry_clean}
use Rattle.rw_reloc.proofs.SlotFacts.{copy_named, copy_some, held, import_named}
use Rattle.rw_funcs.specs.Functions.{name_of_symbol, symbol_or}
use Rattle.rw_funcs.specs.Points.{file_points, is_point}
use Rattle.rw_funcs.proofs.Facts.{code_ends}
use Rattle.rw_code.proofs.Clean.{are-functions}
use Rattle.rw_code.proofs.Functions.{InFunction, in-function}
use Rattle.rw_code.proofs.Points.{found-at}
use Rattle.rw_refs.specs.References.{copy_at, end_at, import_through, inside_at, offset_in, point_at, reference_at, start_at, starts_at as section_starts, target_at}
use Rattle.rw_refs.specs.Stubs.{bytes_on, import_at, import_of, place_through, stub_at, stub_in, stub_sections}
use Rattle.rw_refs.proofs.Data.{around-place, copy-place, ending-place}
use Rattle.rw_elf.proofs.Limits.{few_kept, placed_below}
use Rattle.rw_data.specs.FirstCells.{atom_in}
use Rattle.rw_data.proofs.Around.{takes-parts}
use Rattle.rw_data.proofs.Clean.{IsClean, around-covers, is-kept}
use Rattle.rw_out.specs.Items.{atom_symbol, copy_name, dynamic_name, symbol_named, symbol_or_label, target_name}

-- ---- the name of an import

passes-name : (file : List ℕ) (test : Symbol → Bool) (o : Option Symbol) → ((s : Symbol) → test s ≡ true → is_import_name (name_bytes file s.name) ≡ true) → option_map_or test o false ≡ true → is_import_name (name_of_symbol file (symbol_or o)) ≡ true
passes-name file test None names h = absurd (cc)
passes-name file test (Some s) names h = names s h

pub slot-import : (file : List ℕ) → IsClean file → (s : Slot) (number : ℕ) → Contains (slots_of file) s → s.target ≡ target.Import number → is_import_name (dynamic_name file number) ≡ true
slot-import file clean s number here is =
    passes-name file (is_imported file) (slice_get (dynamic_symbols file) number) (λ y h. (and_parts (y.section == 0) _ h).1) (import_named file s number clean.relocations here is)

slot-copied : (file : List ℕ) → IsClean file → (s : Slot) (number size : ℕ) → Contains (slots_of file) s → s.target ≡ target.Copy number size → is_import_name (dynamic_name file number) ≡ true
slot-copied file clean s number size here is =
    passes-name file (is_copied file size) (slice_get (dynamic_symbols file) number) (λ y h. (and_parts (y.size == size) _ h).1) (copy_named file s number size clean.relocations here is)

-- ---- a copy has a symbol

test-true : (t : Bool) (fault : Fault) → when (not t) fault ≡ None → t ≡ true
test-true true fault h = refl
test-true false fault h = absurd (cc)

has-its_symbol : (file : List ℕ) (e : _) → entry_fault file e ≡ None → (is_relative e || has_symbol file e) ≡ true
unfolding entry_fault
has-its_symbol file e none =
    test-true (is_relative e || has_symbol file e) (UnknownReloc e.offset e.kind)
    (first_none (when (not (is_relative e || has_symbol file e)) (UnknownReloc e.offset e.kind)) _ (second_none (when (not (is_known e.kind)) (UnknownReloc e.offset e.kind)) _ none))

some-target : (file : List ℕ) (e : _) (o : Option Symbol) → option_map_or is_plain o false ≡ true → is_copy e ≡ true → (a : ℕ) → option_map_or (symbol_target e) o (target.To e.addend) ≡ target.To a → ⊥
some-target file e None h copied a is = cc
some-target file e (Some y) h copied a is = let own : symbol_target e y ≡ target.Copy e.symbol y.size = ap (λ t. cond t (target.Copy e.symbol y.size) (cond (is_undefined y) (target.Import e.symbol) (cond (e.kind == 1) (target.To ((y.value + e.addend) % 2 ^ 64)) (target.To y.value)))) copied in cc

is-no_copy : (n : ℕ) → (n == 8) ≡ true → (n == 5) ≡ true → ⊥
is-no_copy n a b = let x = eqb-true n 8 a in let y = eqb-true n 5 b in omega (arith, x, y)

copy-no_address : (file : List ℕ) (e : _) → entry_fault file e ≡ None → is_copy e ≡ true → (a : ℕ) → target_of file e ≡ target.To a → ⊥
unfolding target_of
copy-no_address file e clean copied a is = by_kind (is_relative e) refl (has-its_symbol file e clean)
  where
    by_kind : (t : Bool) → is_relative e ≡ t → (t || has_symbol file e) ≡ true → ⊥
    by_kind true k h = is-no_copy e.kind k copied
    by_kind false k h = some-target file e (symbol_of file e) (and_parts (has_symbols (sections file) e.table) _ h).1 copied a is

slot-parts : (file : List ℕ) (e : _) → ((slot_of file e).kind ≡ e.kind) × ((slot_of file e).target ≡ target_of file e)
unfolding slot_of
slot-parts file e = (refl, refl)

copy-target : (file : List ℕ) → IsClean file → (s : Slot) → Contains (slots_of file) s → is_copy_slot s ≡ true → (a : ℕ) → s.target ≡ target.To a → ⊥
unfolding slots_of
copy-target file clean s here copied a is =
    let within : here.0 < length (entries file) = omega (arith, here.1, length-map (entries file) (slot_of file)) in
    let e = get_or (entries file) here.0 null_entry in
    let same : slot_of file e ≡ s = sym (get_or-map (slot_of file) (entries file) here.0 null_entry s within) ∙ here.2 in
    let fault = first_none _ _ (entry_clean file (clean_entries file clean.relocations) here.0 null_entry within) in
    let kind : is_copy e ≡ true = ap (λ k. k == 5) (sym (slot-parts file e).0 ∙ ap (λ (t : Slot). t.kind) same) ∙ copied in
    copy-no_address file e fault kind a (sym (slot-parts file e).1 ∙ (ap (λ (t : Slot). t.target) same ∙ is))

by-target : (file : List ℕ) → IsClean file → (s : Slot) → Contains (slots_of file) s → is_copy_slot s ≡ true → (t : Target) → s.target ≡ t → is_import_name (target_name file t) ≡ true
by-target file clean s here copied (target.To a) is = absurd (copy-target file clean s here copied a is)
by-target file clean s here copied (target.Import number) is = slot-import file clean s number here is
by-target file clean s here copied (target.Copy number size) is = slot-copied file clean s number size here is

-- a copied symbol has an import name
pub copy-named : (file : List ℕ) → IsClean file → (c : Slot) → Contains (copies_of file) c → is_import_name (target_name file c.target) ≡ true
unfolding copies_of
copy-named file clean c here =
    by-target file clean c (filter_contains is_copy_slot (slots_of file) c here) (filter_tests is_copy_slot (slots_of file) c here) c.target refl

-- ---- what an address stands for

-- it is shown by a symbol of a text
abbrev pub IsShown : List ℕ → Atom → Type 0
IsShown file x = is_sym (atom_symbol file x) ≡ true

half : (n : ℕ) → n < 2 ^ 32 → is_half n ≡ true
half n h = lt-ltb n (2 ^ 32) h

word : (n : ℕ) → n < 2 ^ 64 → is_word n ≡ true
word n h = lt-ltb n (2 ^ 64) h

both : (a b : Bool) → a ≡ true → b ≡ true → (a && b) ≡ true
both true true h k = refl
both true false h k = k
both false b h k = h

module _ (file : List ℕ) (clean : IsClean file) where
  kept-shown : (k o : ℕ) → k < length (kept_sections file) → o < 2 ^ 64 → IsShown file (atom.Ptr k o)
  kept-shown k o low fits =
      let few = few_kept file clean.elf in
      ap (λ t. is_sym (cond t (syms.Section k o) (syms.Named (copy_name file (k - length (kept_sections file))) o))) (lt-ltb k (length (kept_sections file)) low)
      ∙ both (is_half k) (is_word o) (half k (omega (arith, few, low))) (word o fits)

  slice-is : (cs : List Slot) (k : ℕ) → k < length cs → slice_get cs k ≡ Some (get_or cs k null_slot)
  slice-is [] k h = absurd (omega (arith, h))
  slice-is (c ∷ cs) zero h = refl
  slice-is (c ∷ cs) (suc k) h = slice-is cs k (omega (arith, h))

  copy-shown : (k o : ℕ) → k < length (copies_of file) → o < 2 ^ 64 → IsShown file (atom.Ptr (length (kept_sections file) + k) o)
  copy-shown k o low fits =
      let n = length (kept_sections file) in
      let past : n ≤ n + k = omega arith in
      let back : n + k - n ≡ k = omega arith in
      let c = get_or (copies_of file) k null_slot in
      let named : is_import_name (copy_name file k) ≡ true =
      ap (λ o. is_import_name (option_map_or (λ (s : Slot). target_name file s.target) o [])) (slice-is (copies_of file) k low) ∙ copy-named file clean c (Contains-get_or (copies_of file) k null_slot low) in
      ap (λ t. is_sym (cond t (syms.Section (n + k) o) (syms.Named (copy_name file (n + k - n)) o))) (not-below (n + k) n past)
      ∙ (ap (λ j. is_import_name (copy_name file j) && is_word o) back ∙ both (is_import_name (copy_name file k)) (is_word o) named (word o fits))
    where
      not-below : (a b : ℕ) → b ≤ a → nat_lt a b ≡ false
      not-below a b h = grind (arith, nat_tests)

  -- ---- each rule

  is-shown : (x y : Atom) → Some x ≡ Some y → IsShown file x → IsShown file y
  is-shown x y e h = let same : x ≡ y = cc in subst (IsShown file) same h

  -- ---- addresses are low

  held-low : (s : Slot) (o : Option Section) → section_around file s.address ≡ o → option_map_or (holds s.address (target_size s.target) (s.kind == 5)) o false ≡ true → s.address + target_size s.target ≤ 2 ^ 47
  held-low s None e h = absurd (cc)
  held-low s (Some u) e h =
      let around = around-covers file s.address u e in
      let end = placed_below file u clean.elf around.0 around.1 in
      let fits = le (s.address + target_size s.target) (u.addr + u.size) (and_parts (nat_le (s.address + target_size s.target) (u.addr + u.size)) _ (and_parts (is_writable u) _ h).1).0 in
      omega (arith, end, fits)
    where
      le : (m n : ℕ) → nat_le m n ≡ true → m ≤ n
      le m n g = grind (arith, nat_tests)

  pub slot-low : (s : Slot) → Contains (slots_of file) s → s.address + target_size s.target ≤ 2 ^ 47
  slot-low s here = held-low s (section_around file s.address) refl (held file s clean.relocations here)

  pub copy-in : (c : Slot) → Contains (copies_of file) c → Contains (slots_of file) c
  unfolding copies_of
  copy-in c here = filter_contains is_copy_slot (slots_of file) c here

  -- and a copy has bytes
  pub copy-some : (c : Slot) → Contains (copies_of file) c → 1 ≤ target_size c.target
  copy-some c here = by_size c.target refl
    where
      by_size : (t : Target) → c.target ≡ t → 1 ≤ target_size t
      by_size (target.To a) is = lit≤ tt
      by_size (target.Import n) is = lit≤ tt
      by_size (target.Copy n size) is = copy_some file c n size clean.relocations (copy-in c here) is

  copy-low : (a k : ℕ) → copy_around file a ≡ Some k → a < 2 ^ 64
  unfolding copy_around
  copy-low a k e =
      let parts = position-Some (takes a) (copies_of file) k null_slot e in
      let c = get_or (copies_of file) k null_slot in
      let below = (takes-parts a c parts.1).1 in
      let end = slot-low c (copy-in c (Contains-get_or (copies_of file) k null_slot parts.0)) in
      omega (arith, below, end)

  inside-low : (a k : ℕ) → kept_around file a ≡ Some k → a < 2 ^ 64
  unfolding kept_around
  inside-low a k e =
      let parts = position-Some (spans a) (kept_sections file) k null_section e in
      let s = get_or (kept_sections file) k null_section in
      let below = below-end s parts.1 in
      let end = (is-kept file s clean.elf (Contains-get_or (kept_sections file) k null_section parts.0)).low in
      omega (arith, below, end)
    where
      below-end : (s : Section) → spans a s ≡ true → a < s.addr + s.size
      below-end s g = grind (arith, nat_tests)

  pub point-low : (a : ℕ) → is_point (file_points file) a ≡ true → a < 2 ^ 64
  point-low a h =
      let found = found-at (file_points file) a h in
      let is : InFunction file a found.0 = in-function file (are-functions file clean.elf clean.functions clean.points) a found.0 found.1 in
      let place = is.place in
      let some = is.some in
      let most = is.most in
      let end = code_ends file is.function clean.elf clean.functions is.one_of in
      omega (arith, place, some, most, end)

  module _ (a : ℕ) (x : Atom) where
    none-found : (f : ℕ → Atom) (o : Option ℕ) → o ≡ None → option_map f o ≡ Some x → ⊥
    none-found f None e h = cc
    none-found f (Some k) e h = cc

    by-copy : (o : Option ℕ) → copy_around file a ≡ o → copy_at file a ≡ Some x → IsShown file x
    by-copy None e h = absurd (none-found (λ k. atom.Ptr (length (kept_sections file) + k) (offset_in (copies_of file) (λ (s : Slot). a - s.address) k)) (copy_around file a) e h)
    by-copy (Some k) e h =
        let place = copy-place file a k e in
        let below = place.low in
        is-shown (atom.Ptr (length (kept_sections file) + k) (a - (get_or (copies_of file) k null_slot).address)) x (place.atom ∙ h) (copy-shown k (a - (get_or (copies_of file) k null_slot).address) place.within (let high = copy-low a k e in omega (arith, high)))

    by-start : (o : Option ℕ) → position (section_starts a) (kept_sections file) ≡ o → start_at file a ≡ Some x → IsShown file x
    by-start None e h = absurd (none-found (λ k. atom.Ptr k 0) (position (section_starts a) (kept_sections file)) e h)
    by-start (Some k) e h =
        let within = (position-Some (section_starts a) (kept_sections file) k null_section e).0 in
        is-shown (atom.Ptr k 0) x (sym (ap (λ o. option_map (λ k. atom.Ptr k 0) o) e) ∙ h) (kept-shown k 0 within (lit< tt))

    by-inside : (o : Option ℕ) → kept_around file a ≡ o → inside_at file a ≡ Some x → IsShown file x
    by-inside None e h = absurd (none-found (λ k. atom.Ptr k (offset_in (kept_sections file) (λ (s : Section). a - s.addr) k)) (kept_around file a) e h)
    by-inside (Some k) e h =
        let place = around-place file a k e in
        is-shown (atom.Ptr k (a - (get_or (kept_sections file) k null_section).addr)) x (place.atom ∙ h) (kept-shown k (a - (get_or (kept_sections file) k null_section).addr) place.within (let high = inside-low a k e in omega (arith, high)))

    by-end : (o : Option ℕ) → kept_ending file a ≡ o → end_at file a ≡ Some x → IsShown file x
    by-end None e h = absurd (none-found (λ k. atom.Ptr k (offset_in (kept_sections file) (λ (s : Section). s.size) k)) (kept_ending file a) e h)
    by-end (Some k) e h =
        let place = ending-place file a k e in
        let s = get_or (kept_sections file) k null_section in
        let ends = (is-kept file s clean.elf (Contains-get_or (kept_sections file) k null_section place.within)).low in
        is-shown (atom.Ptr k s.size) x (place.atom ∙ h) (kept-shown k s.size place.within (omega (arith, ends)))

    by-point : (t : Bool) → is_point (file_points file) a ≡ t → cond t (Some (atom.Code a)) None ≡ Some x → IsShown file x
    by-point true e h = is-shown (atom.Code a) x h (word a (point-low a e))
    by-point false e h = absurd (cc)

    -- ---- stubs

    of-import : (kind n : ℕ) (t : Target) → import_of kind t ≡ Some n → t ≡ target.Import n
    of-import kind n (target.To b) h = absurd (cc)
    of-import kind n (target.Copy m s) h = absurd (cc)
    of-import kind n (target.Import m) h = by_test (kind == 6 || kind == 7) h
      where
        by_test : (t : Bool) → cond t (Some m) None ≡ Some n → target.Import m ≡ target.Import n
        by_test true g = let same : m ≡ n = cc in ap target.Import same
        by_test false g = absurd (cc)

    by-slot : (n b : ℕ) (o : Option Slot) → slot_at (slots_of file) b ≡ o → option_and_then (λ s. import_of s.kind s.target) o ≡ Some n → is_import_name (dynamic_name file n) ≡ true
    unfolding slot_at
    by-slot n b None e h = absurd (cc)
    by-slot n b (Some s) e h =
        let first : Contains (filter (starts_at b) (slots_of file)) s = (0, slice_get_within _ 0 s e, get_or_from_slice_get _ 0 s s e) in
        slot-import file clean s n (filter_contains (starts_at b) (slots_of file) s first) (of-import s.kind n s.target h)

    by-place : (n : ℕ) (o : Option ℕ) → option_and_then (import_at file) o ≡ Some n → is_import_name (dynamic_name file n) ≡ true
    by-place n None h = absurd (cc)
    by-place n (Some b) h = by-slot n b (slot_at (slots_of file) b) refl h

    by-name : (n : ℕ) (t : Bool) (o : Option ℕ) → cond t (option_and_then (import_at file) o) None ≡ Some n → is_import_name (dynamic_name file n) ≡ true
    by-name n true o h = by-place n o h
    by-name n false o h = absurd (cc)

    by-section : (n : ℕ) (o : Option Section) → option_and_then (stub_in file a) o ≡ Some n → is_import_name (dynamic_name file n) ≡ true
    by-section n None h = absurd (cc)
    by-section n (Some s) h = by-name n (is_named file stub_sections s) (place_through a (bytes_on file a s)) h

    stub-named : (n : ℕ) → stub_at file a ≡ Some n → is_import_name (dynamic_name file n) ≡ true
    unfolding stub_at
    stub-named n h = by-section n (section_around file a) h

    by-stub : (o : Option ℕ) → stub_at file a ≡ o → option_map atom.Import o ≡ Some x → IsShown file x
    by-stub None e h = absurd (cc)
    by-stub (Some n) e h = is-shown (atom.Import n) x h (both (is_import_name (dynamic_name file n)) true (stub-named n e) refl)

    -- ---- the first that applies

    either : (o p : Option Atom) → option_or o p ≡ Some x → (o ≡ Some x → IsShown file x) → (p ≡ Some x → IsShown file x) → IsShown file x
    either None p h l r = r h
    either (Some y) p h l r = l h

    target-last : option_or (import_through file a) None ≡ Some x → IsShown file x
    target-last h = either (import_through file a) None h (by-stub (stub_at file a) refl) (λ none. absurd (cc))

    code-shown : option_or (point_at file a) (option_or (import_through file a) None) ≡ Some x → IsShown file x
    code-shown h = either (point_at file a) (option_or (import_through file a) None) h (by-point (is_point (file_points file) a) refl) target-last

    pub target-shown : target_at file a ≡ Some x → IsShown file x
    unfolding target_at
    target-shown h = code-shown h

    pub reference-shown : reference_at file a ≡ Some x → IsShown file x
    unfolding reference_at
    reference-shown h =
        either (copy_at file a) _ h (by-copy (copy_around file a) refl)
        (λ h1. either (start_at file a) _ h1 (by-start (position (section_starts a) (kept_sections file)) refl)
        (λ h2. either (inside_at file a) _ h2 (by-inside (kept_around file a) refl)
        (λ h3. either (end_at file a) _ h3 (by-end (kept_ending file a) refl) code-shown)))

  -- the symbol of an address that an instruction names
  by-named : (a : ℕ) → a < 2 ^ 64 → (o : Option Atom) → ((x : Atom) → o ≡ Some x → IsShown file x) → is_sym (symbol_or_label file a o) ≡ true
  by-named a low None each = word a low
  by-named a low (Some x) each = each x refl

  by-direct : (direct : Bool) (a : ℕ) → a < 2 ^ 64 → is_sym (symbol_or_label file a (cond direct (target_at file a) (reference_at file a))) ≡ true
  by-direct true a low = by-named a low (target_at file a) (target-shown a)
  by-direct false a low = by-named a low (reference_at file a) (reference-shown a)

  pub named-shown : (direct : Bool) (a : ℕ) → a < 2 ^ 64 → is_sym (symbol_named file direct a) ≡ true
  unfolding symbol_named
  named-shown direct a low = by-direct direct a low

  -- what a slot holds
  pub held-shown : (s : Slot) → Contains (slots_of file) s → (t : Target) → s.target ≡ t → (x : Atom) → atom_in file t ≡ Some x → IsShown file x
  held-shown s here (target.To a) is x h = reference-shown a x h
  held-shown s here (target.Import n) is x h = is-shown (atom.Import n) x h (both (is_import_name (dynamic_name file n)) true (slot-import file clean s n here is) refl)
  held-shown s here (target.Copy n size) is x h = absurd (cc)
