-- What holds of the functions that are found in a file.
use Rattle.std.proofs.Common.{◌≡◌, ◌⊎◌, ℕ, zero, suc, ◌+◌, ◌-◌, ◌<◌, ◌≤◌, ◌^◌, Bool, true, false, ◌&&◌, cond, nat_le, nat_lt, List, [], ◌∷◌, ◌++◌, length, take, drop, map, filter, get_or, slice_get, Option, Some, None, Contains, All, refl, sym, ap, subst, ◌∙◌, arith, inl, inr, length-take, get_or-set_same, get_or-set_other}
use Rattle.std.proofs.Math.ListN.{set, length-set}
use Rattle.std.specs.List.{flat_map, position}
use Rattle.std.specs.Prelude.{option_map}
use Rattle.std.specs.Option.{option_or, option_map_or}
use Rattle.std.proofs.lemmas.Bool.{cases_lt, cases_eq}
use Rattle.std.proofs.lemmas.Bool.Decides.{nat_tests}
use Rattle.std.proofs.lemmas.List.{append-nil, get_or-map, get_or_default, length-map, get_or-take, drop-take, take_more}
use Rattle.std.proofs.lemmas.Grind.{flat_map-append}
use Rattle.std.proofs.lemmas.List.FromFn.{fill_by_all}
use Rattle.std.proofs.lemmas.Option.{slice_get-get_or}
use Rattle.std.proofs.lemmas.List.Elements.{All-contains, All-set, All-weaker, Contains-get_or}
use Rattle.std.proofs.lemmas.List.Quantifiers.{position-Some}
use Rattle.x86_insn.specs.declared.instruction.Insn.{Insn}
use Rattle.x86_decode.specs.Reading.{decode_of}
use Rattle.x86_decode.proofs.SpellingLaws.{decode_of-prefix}
use Rattle.rw_base.specs.declared.fault.Fault.{Fault}
use Rattle.rw_base.specs.declared.fault.Fault.TheVariants.{BadInstruction}
use Rattle.rw_base.specs.Rules.{first, first_of, each_of}
use Rattle.rw_base.proofs.First.{back_none, first_append, front_none}
use Rattle.rw_elf.specs.declared.section.Section.{Section}
use Rattle.rw_elf.specs.declared.symbol.Symbol.{Symbol}
use Rattle.rw_elf.specs.Places.{section_bytes}
use Rattle.rw_elf.specs.Symbols.{null_symbol}
use Rattle.rw_elf.specs.Tables.{elf_rules, code_sections}
use Rattle.rw_funcs.specs.declared.code.CodeSection.{CodeSection}
use Rattle.rw_funcs.specs.declared.function.Function.{Function}
use Rattle.rw_funcs.specs.Found.{AreApart, AreFunctionsOf, AreNotes, HasMarks, HasSectionsOf, IsCodeAt, IsCodeOf, IsOutside, found_rules, lies_in, marks_of}
use Rattle.rw_funcs.specs.Functions.{kept_functions, functions_of, function_at, function_rules, end_of, its_section, section_or, code_of_symbol}
use Rattle.rw_funcs.specs.Notes.{facts_of, length_or, no_facts}
use Rattle.rw_funcs.specs.Points.{Point, point_at, insn_at, points, points_of, file_points, first_bad, bad_address, point_rules}
use Rattle.rw_funcs.proofs.Facts.{placed_function, code_length, code_ends, functions_apart}
use Rattle.rw_funcs.proofs.Fuel.{drop_drop}
use Rattle.rw_funcs.proofs.PointFacts.{IsPointOf, points_of-are, point-function, point_at-before, point_at-none, point_at-found, Contains-flat_map}
use Rattle.rw_funcs.proofs.CodeFacts.{length-sections, nth-section, nth-contains, found-section, some-section, same-section, function-address}

-- ---- the rules, phase by phase

pub clean-functions : (bytes : List ℕ) → first (found_rules bytes) ≡ None → first (function_rules bytes) ≡ None
clean-functions bytes h = front_none (function_rules bytes) (point_rules bytes) h

pub clean-points : (bytes : List ℕ) → first (found_rules bytes) ≡ None → first (point_rules bytes) ≡ None
clean-points bytes h = back_none (function_rules bytes) (point_rules bytes) h

-- ---- what is around an address

pub around-some : (bytes : List ℕ) (code : List CodeSection) (list : List Function) (hosted : Bool) (entry : ℕ) → AreFunctionsOf bytes code list hosted entry → (a k : ℕ) (c : CodeSection) → position (lies_in a) code ≡ Some k → c ≡ get_or code k c → IsCodeAt bytes a c
around-some bytes code list hosted entry of a k c found is =
    let at = position-Some (lies_in a) code k c found in
    record {
      one_of = subst (λ s. Contains (code_sections bytes) s) (ap (λ (d : CodeSection). d.section) (sym is)) (nth-contains bytes code of.sections k c at.0);
      stored = subst (λ (d : CodeSection). d.bytes.items ≡ section_bytes bytes d.section) (sym is) (of.sections.stored k c at.0);
      has = subst (λ d. lies_in a d ≡ true) (sym is) at.1;
      marked = subst (HasMarks (file_points bytes)) (sym is) (of.marked k c at.0);
    }

pub around-none : (bytes : List ℕ) (code : List CodeSection) (list : List Function) (hosted : Bool) (entry : ℕ) → AreFunctionsOf bytes code list hosted entry → (a : ℕ) → position (lies_in a) code ≡ None → point_at (file_points bytes) a ≡ None
around-none bytes code list hosted entry of a none = by_option (point_at (file_points bytes) a) refl
  where
    by_option : (o : Option Point) → point_at (file_points bytes) a ≡ o → o ≡ None
    by_option None e = refl
    by_option (Some p) e =
        let rules = clean-functions bytes of.clean in
        let at = point-function bytes a p of.clean_file rules e in
        let f : Symbol = at.0 in
        let is = at.2 in
        let low = is.low in
        let high = is.high in
        let some = is.some in
        let place = at.3 in
        absurd (some-section bytes code rules of.sections at.0 a at.1 (omega (arith, low, place)) (omega (arith, high, some, place)) none)

-- ---- one more function is marked

map-set_same : {A B : Type 0} (f : A → B) (xs : List A) (i : ℕ) (y d : A) → i < length xs → f y ≡ f (get_or xs i d) → map f (set xs i y) ≡ map f xs
map-set_same f [] i y d within same = absurd (omega arith)
map-set_same f (x ∷ xs) zero y d within same = ap (λ z. z ∷ map f xs) same
map-set_same f (x ∷ xs) (suc i) y d within same = ap (λ l. f x ∷ l) (map-set_same f xs i y d (omega arith) same)

pub set-sections : (bytes : List ℕ) (code : List CodeSection) (k : ℕ) (part d : CodeSection) → HasSectionsOf bytes code → k < length code → part.section ≡ (get_or code k d).section → part.bytes.items ≡ (get_or code k d).bytes.items → HasSectionsOf bytes (set code k part)
set-sections bytes code k part d of within same kept = record {
  list = map-set_same (λ (c : CodeSection). c.section) code k part d within same ∙ of.list;
  stored = All-set (λ (c : CodeSection). c.bytes.items ≡ section_bytes bytes c.section) code k part
      (kept ∙ of.stored k d within ∙ ap (section_bytes bytes) (sym same)) of.stored;
}

-- notes stay where none of the further points is
notes-keep : {A : Type 0} (note : Point → A) (none : A) (before ps : List Point) (s : Section) (list : List A) → AreNotes note none before s list → ((p : Point) → Contains ps p → (p.place < s.addr) ⊎ (s.addr + s.size ≤ p.place)) → AreNotes note none (before ++ ps) s list
notes-keep note none before ps s list is apart = record {
  size = is.size;
  exact = λ k within. is.exact k within ∙ ap (λ o. option_map_or note o none) (sym (point_at-before before ps (s.addr + k) (point_at-none ps (s.addr + k) (λ p here same.
      elim (apart p here) [ inl low ↦ omega (arith, low, same) | inr high ↦ omega (arith, high, same, within) ]))));
}

others-keep : (before ps : List Point) (c : CodeSection) → HasMarks before c → ((p : Point) → Contains ps p → (p.place < c.section.addr) ⊎ (c.section.addr + c.section.size ≤ p.place)) → HasMarks (before ++ ps) c
others-keep before ps c is apart = record {
  marks = notes-keep (λ p. p.len) 0 before ps c.section c.marks.items is.marks apart;
  facts = notes-keep (λ p. facts_of p.insn) no_facts before ps c.section c.facts.items is.facts apart;
}

pub set-marked : (bytes : List ℕ) (code : List CodeSection) (before ps : List Point) (k : ℕ) (part d : CodeSection) → AreApart code → All (HasMarks before) code → k < length code
    → All (λ p. ((get_or code k d).section.addr ≤ p.place) × (p.place < (get_or code k d).section.addr + (get_or code k d).section.size)) ps
    → HasMarks (before ++ ps) part → All (HasMarks (before ++ ps)) (set code k part)
set-marked bytes code before ps k part d apart old within inside new i e low =
    elim (cases_eq i k) [
      | inl same ↦
          subst (λ j. HasMarks (before ++ ps) (get_or (set code k part) j e)) (sym same) (subst (HasMarks (before ++ ps)) (sym (get_or-set_same code k part e within)) new)
      | inr other ↦ subst (HasMarks (before ++ ps)) (sym (get_or-set_other code k i part e other)) (elsewhere (omega (arith, low, length-set code k part)) other)
    ]
  where
    elsewhere : i < length code → (i ≡ k → ⊥) → HasMarks (before ++ ps) (get_or code i e)
    elsewhere below other =
        others-keep before ps (get_or code i e) (old i e below) (λ p here.
        let at = All-contains (λ (q : Point). ((get_or code k d).section.addr ≤ q.place) × (q.place < (get_or code k d).section.addr + (get_or code k d).section.size)) ps p inside here in
        let from = at.0 in
        let to = at.1 in
        let addr : (get_or code k d).section.addr ≡ (get_or code k e).section.addr = ap (λ (c : CodeSection). c.section.addr) (get_or_default code k d e within) in
        let size : (get_or code k d).section.size ≡ (get_or code k e).section.size = ap (λ (c : CodeSection). c.section.size) (get_or_default code k d e within) in
        elim (cases_lt i k) [
          | inl first ↦ inr (let one = apart i k e first within in omega (arith, one, from, addr))
          | inr later ↦ inl (let one = apart k i e (omega (arith, later, other)) below in omega (arith, one, to, addr, size))
        ])

-- ---- what the bytes of a section spell at a point

pub spelled-in-section : (bytes : List ℕ) (s : Section) (f : Symbol) (p : Point) → its_section bytes f ≡ s → s.addr ≤ f.value → IsPointOf bytes f p → decode_of p.place (drop (p.place - s.addr) (section_bytes bytes s)) ≡ Some (p.insn, p.len)
unfolding code_of_symbol
spelled-in-section bytes s f p its starts is =
    let low = is.low in
    let high = is.high in
    let some = is.some in
    let size : p.place - f.value + (f.size - (p.place - f.value)) ≡ f.size = omega (arith, low, high, some) in
    let rest : f.value - s.addr + (p.place - f.value) ≡ p.place - s.addr = omega (arith, low, starts) in
    let code : drop (p.place - f.value) (code_of_symbol bytes f) ≡ take (f.size - (p.place - f.value)) (drop (p.place - s.addr) (section_bytes bytes s)) =
    ap (λ t. drop (p.place - f.value) (take f.size (drop (f.value - t.addr) (section_bytes bytes t)))) its
    ∙ ap (λ n. drop (p.place - f.value) (take n (drop (f.value - s.addr) (section_bytes bytes s)))) (sym size)
    ∙ drop-take (p.place - f.value) (f.size - (p.place - f.value)) (drop (f.value - s.addr) (section_bytes bytes s))
    ∙ ap (take (f.size - (p.place - f.value))) (drop_drop (f.value - s.addr) (p.place - f.value) (section_bytes bytes s) ∙ ap (λ n. drop n (section_bytes bytes s)) rest) in
    decode_of-prefix p.place (drop (p.place - s.addr) (section_bytes bytes s)) (f.size - (p.place - f.value)) p.insn p.len (ap (decode_of p.place) (sym code) ∙ is.spelled)

-- ---- the section of a function, where it is found

pub record IsPartOf (bytes : List ℕ) (code : List CodeSection) (f : Symbol) (k : ℕ) (d : CodeSection) : Type 0 where
  pub within : k < length code
  pub low : (get_or code k d).section.addr ≤ f.value
  pub high : f.value + length (code_of_symbol bytes f) ≤ (get_or code k d).section.addr + (get_or code k d).section.size
  pub place : f.value + length (code_of_symbol bytes f) ≤ 2 ^ 47
  pub inside : All (λ p. ((get_or code k d).section.addr ≤ p.place) × (p.place < (get_or code k d).section.addr + (get_or code k d).section.size)) (points_of bytes f)

pub function-part : (bytes : List ℕ) (code : List CodeSection) → first (elf_rules bytes) ≡ None → first (function_rules bytes) ≡ None → HasSectionsOf bytes code → (f : Symbol) → Contains (kept_functions bytes) f
    → (k : ℕ) (d : CodeSection) → position (lies_in f.value) code ≡ Some k → IsPartOf bytes code f k d
function-part bytes code clean rules of f here k d found =
    let placed = placed_function bytes f rules here in
    let some = placed.some in
    let at = found-section bytes code clean rules of f f.value here (omega arith) (omega (arith, some)) k d found in
    let addr : (get_or code k d).section.addr ≡ (its_section bytes f).addr = ap (λ (s : Section). s.addr) at.1 in
    let size : (get_or code k d).section.size ≡ (its_section bytes f).size = ap (λ (s : Section). s.size) at.1 in
    let starts = placed.starts in
    let ends = placed.ends in
    let count = code_length bytes f clean rules here in
    let most = code_ends bytes f clean rules here in
    record {
      within = at.0;
      low = omega (arith, addr, starts);
      high = omega (arith, addr, size, ends, count);
      place = omega (arith, most, count);
      inside = All-weaker (IsPointOf bytes f) (λ p. ((get_or code k d).section.addr ≤ p.place) × (p.place < (get_or code k d).section.addr + (get_or code k d).section.size))
          (λ p is. let from = is.low in let to = is.high in let len = is.some in (omega (arith, from, addr, starts), omega (arith, to, len, addr, size, ends))) (points_of bytes f) (points_of-are bytes f clean rules here);
    }

pub points_of-code : (bytes : List ℕ) (f : Symbol) (code : List ℕ) → code ≡ code_of_symbol bytes f → points (length code) f.value code ≡ points_of bytes f
unfolding points_of
points_of-code bytes f code is = ap (λ c. points (length c) f.value c) is

pub bad-code : (bytes : List ℕ) (f : Symbol) (code : List ℕ) → code ≡ code_of_symbol bytes f → first_bad (length code) f.value code ≡ bad_address bytes f
unfolding bad_address
bad-code bytes f code is = ap (λ c. first_bad (length c) f.value c) is

-- ---- the functions before one of them

pub filter-take : {A : Type 0} (p : A → Bool) (xs : List A) (i : ℕ) → ((k : ℕ) (d : A) → k < i → k < length xs → p (get_or xs k d) ≡ true) → ((k : ℕ) (d : A) → i ≤ k → k < length xs → p (get_or xs k d) ≡ false) → filter p xs ≡ take i xs
filter-take p [] zero passing failing = refl
filter-take p [] (suc i) passing failing = refl
filter-take p (x ∷ xs) zero passing failing =
    ap (λ t. cond t (x ∷ filter p xs) (filter p xs)) (failing 0 x (omega arith) (omega arith)) ∙ filter-take p xs zero (λ k d low within. absurd (omega (arith, low))) (λ k d high within. failing (suc k) d (omega arith) (omega (arith, within)))
filter-take p (x ∷ xs) (suc i) passing failing =
    ap (λ t. cond t (x ∷ filter p xs) (filter p xs)) (passing 0 x (omega arith) (omega arith))
    ∙ ap (λ l. x ∷ l) (filter-take p xs i (λ k d low within. passing (suc k) d (omega (arith, low)) (omega (arith, within))) (λ k d high within. failing (suc k) d (omega (arith, high)) (omega (arith, within))))

below_test : (n m : ℕ) → n < m → nat_lt n m ≡ true
below_test n m h = grind (arith, nat_tests)

not_below_test : (n m : ℕ) → m ≤ n → nat_lt n m ≡ false
not_below_test n m h = grind (arith, nat_tests)

-- those before a kept function
pub before-function : (bytes : List ℕ) → first (function_rules bytes) ≡ None → (i : ℕ) (d : Symbol) → i < length (kept_functions bytes) → filter (λ g. nat_lt g.value (get_or (kept_functions bytes) i d).value) (kept_functions bytes) ≡ take i (kept_functions bytes)
before-function bytes rules i d within =
    filter-take (λ g. nat_lt g.value (get_or (kept_functions bytes) i d).value) (kept_functions bytes) i
    (λ k e low below.
    let apart = functions_apart bytes rules k i e low within in
    let some = (placed_function bytes (get_or (kept_functions bytes) k e) rules (Contains-get_or (kept_functions bytes) k e below)).some in
    let same : (get_or (kept_functions bytes) i d).value ≡ (get_or (kept_functions bytes) i e).value = ap (λ (f : Symbol). f.value) (get_or_default (kept_functions bytes) i d e within) in
    below_test _ _ (omega (arith, apart, some, same)))
    (λ k e high below.
    let same : (get_or (kept_functions bytes) i d).value ≡ (get_or (kept_functions bytes) i e).value = ap (λ (f : Symbol). f.value) (get_or_default (kept_functions bytes) i d e within) in
    not_below_test _ _ (elim (cases_eq k i) [
      | inl equal ↦ let one : (get_or (kept_functions bytes) k e).value ≡ (get_or (kept_functions bytes) i e).value = ap (λ j. (get_or (kept_functions bytes) j e).value) equal in omega (arith, one, same)
      | inr other ↦
          let apart = functions_apart bytes rules i k e (omega (arith, high, other)) below in
          omega (arith, apart, same)
    ]))

-- their points lie before it
pub points-before : (bytes : List ℕ) → first (elf_rules bytes) ≡ None → first (function_rules bytes) ≡ None → (i : ℕ) (d : Symbol) → i < length (kept_functions bytes) → All (λ p. p.place < (get_or (kept_functions bytes) i d).value) (flat_map (points_of bytes) (take i (kept_functions bytes)))
points-before bytes clean rules i d within k e below =
    let p : Point = get_or (flat_map (points_of bytes) (take i (kept_functions bytes))) k e in
    let of = Contains-flat_map (points_of bytes) (take i (kept_functions bytes)) (get_or (flat_map (points_of bytes) (take i (kept_functions bytes))) k e) (Contains-get_or (flat_map (points_of bytes) (take i (kept_functions bytes))) k e below) in
    let j : ℕ = of.1.0 in
    let size = length-take i (kept_functions bytes) in
    let low = of.1.1 in
    let earlier : of.1.0 < i = omega (arith, low, size) in
    let is : get_or (kept_functions bytes) of.1.0 of.0 ≡ of.0 = sym (get_or-take i (kept_functions bytes) of.1.0 of.0 earlier) ∙ of.1.2 in
    let there : Contains (kept_functions bytes) of.0 = (of.1.0, omega (arith, earlier, within), is) in
    let at = All-contains (IsPointOf bytes of.0) (points_of bytes of.0) _ (points_of-are bytes of.0 clean rules there) of.2 in
    let apart = functions_apart bytes rules of.1.0 i of.0 earlier within in
    let same : (get_or (kept_functions bytes) i d).value ≡ (get_or (kept_functions bytes) i of.0).value = ap (λ (f : Symbol). f.value) (get_or_default (kept_functions bytes) i d of.0 within) in
    let end : end_of (get_or (kept_functions bytes) of.1.0 of.0) ≡ end_of of.0 = ap end_of is in
    let high = at.high in
    let some = at.some in
    omega (arith, apart, same, end, high, some)

pub flat_map-more : {A B : Type 0} (g : A → List B) (xs : List A) (i : ℕ) (d : A) → i < length xs → flat_map g (take (i + 1) xs) ≡ flat_map g (take i xs) ++ g (get_or xs i d)
flat_map-more g xs i d within = ap (flat_map g) (take_more xs i d within) ∙ flat_map-append g (take i xs) (get_or xs i d ∷ []) ∙ ap (λ l. flat_map g (take i xs) ++ l) (append-nil (g (get_or xs i d)))

-- ---- the instruction at an address

pub address-inside : (a : ℕ) (c : CodeSection) → lies_in a c ≡ true → (c.section.addr ≤ a) × (a < c.section.addr + c.section.size)
address-inside a c h = grind (arith, nat_tests)

pub marked-length : (bytes : List ℕ) (a : ℕ) (c : CodeSection) → IsCodeAt bytes a c → get_or c.marks.items (a - c.section.addr) 0 ≡ length_or 0 (file_points bytes) a
marked-length bytes a c is =
    let on = address-inside a c is.has in
    let low = on.0 in
    let high = on.1 in
    let same : c.section.addr + (a - c.section.addr) ≡ a = omega (arith, low) in
    is.marked.marks.exact (a - c.section.addr) (omega (arith, low, high)) ∙ ap (length_or 0 (file_points bytes)) same

pub marks-are : (ps : List Point) (c : CodeSection) → HasMarks ps c → c.marks.items ≡ marks_of ps c.section
unfolding marks_of
marks-are ps c is = fill_by_all (λ k. length_or 0 ps (c.section.addr + k)) c.marks.items c.section.size 0 is.marks.size is.marks.exact

-- the marks of the section with a number
pub nth-marks : (bytes : List ℕ) (code : List CodeSection) → HasSectionsOf bytes code → All (HasMarks (file_points bytes)) code → (k : ℕ) (d : CodeSection) → k < length code
    → (get_or code k d).marks.items ≡ marks_of (file_points bytes) (section_or (slice_get (code_sections bytes) k))
nth-marks bytes code of marked k d within =
    let size = length-sections bytes code of in
    let section : section_or (slice_get (code_sections bytes) k) ≡ (get_or code k d).section =
    ap section_or (slice_get-get_or (code_sections bytes) k d.section (omega (arith, size, within))) ∙ nth-section bytes code of k d within in
    marks-are (file_points bytes) (get_or code k d) (marked k d within) ∙ ap (marks_of (file_points bytes)) (sym section)

pub insn-none : (ps : List Point) (a : ℕ) → All (λ p. 0 < p.len) ps → length_or 0 ps a ≡ 0 → insn_at ps a ≡ None
insn-none ps a some zero_length = by_option (point_at ps a) refl
  where
    by_option : (o : Option Point) → point_at ps a ≡ o → option_map {U = Insn ℕ × ℕ} (λ (p : Point). (p.insn, p.len)) o ≡ None
    by_option None e = refl
    by_option (Some p) e =
        let here = point_at-found ps a p e in
        let one = All-contains (λ (q : Point). 0 < q.len) ps p some here.0 in
        let len : p.len ≡ 0 = sym (ap (λ o. option_map_or (λ (q : Point). q.len) o 0) e) ∙ zero_length in
        absurd (omega (arith, one, len))

pub insn-there : (bytes : List ℕ) → first (elf_rules bytes) ≡ None → first (function_rules bytes) ≡ None → (a : ℕ) (c : CodeSection) → IsCodeAt bytes a c → (length_or 0 (file_points bytes) a ≡ 0 → ⊥)
    → decode_of a (drop (a - c.section.addr) c.bytes.items) ≡ insn_at (file_points bytes) a
insn-there bytes clean rules a c is some = by_option (point_at (file_points bytes) a) refl
  where
    by_option : (o : Option Point) → point_at (file_points bytes) a ≡ o → decode_of a (drop (a - c.section.addr) c.bytes.items) ≡ option_map {U = Insn ℕ × ℕ} (λ (p : Point). (p.insn, p.len)) o
    by_option None e = absurd (some (ap (λ o. option_map_or (λ (q : Point). q.len) o 0) e))
    by_option (Some p) e =
        let at = point-function bytes a p clean rules e in
        let placed = placed_function bytes at.0 rules at.1 in
        let low = at.2.low in
        let high = at.2.high in
        let len = at.2.some in
        let place = at.3 in
        let on = function-address bytes at.0 a rules at.1 (omega (arith, low, place)) (omega (arith, high, len, place)) in
        let same : its_section bytes at.0 ≡ c.section = same-section bytes a (its_section bytes at.0) c.section clean on.0 is.one_of on.1 is.has in
        let starts : c.section.addr ≤ at.0.value = subst (λ s. s.addr ≤ at.0.value) same placed.starts in
        let spelled = spelled-in-section bytes c.section at.0 p same starts at.2 in
        ap (λ l. decode_of a (drop (a - c.section.addr) l)) is.stored
        ∙ subst (λ z. decode_of z (drop (z - c.section.addr) (section_bytes bytes c.section)) ≡ Some (p.insn, p.len)) place spelled

-- ---- the code of a function in its section

pub code-in-section : (bytes : List ℕ) (s : Section) (f : Symbol) → its_section bytes f ≡ s → take f.size (drop (f.value - s.addr) (section_bytes bytes s)) ≡ code_of_symbol bytes f
unfolding code_of_symbol
code-in-section bytes s f its = ap (λ t. take f.size (drop (f.value - t.addr) (section_bytes bytes t))) (sym its)

-- ---- the next function of the list

pub record IsNext (bytes : List ℕ) (list : List Symbol) (i : ℕ) (d : Symbol) (before : List Point) : Type 0 where
  pub same : before ≡ flat_map (points_of bytes) (take i list)
  pub behind : All (λ p. p.place < (get_or list i d).value) before
  pub kept : Contains (kept_functions bytes) (get_or list i d)
  pub more : before ++ points_of bytes (get_or list i d) ≡ flat_map (points_of bytes) (take (i + 1) list)

abbrev pub points_before : List ℕ → ℕ → List Point
points_before bytes a = flat_map (points_of bytes) (filter (λ g. nat_lt g.value a) (kept_functions bytes))

next-kept : (bytes : List ℕ) → first (elf_rules bytes) ≡ None → first (function_rules bytes) ≡ None → (i : ℕ) (d : Symbol) → i < length (kept_functions bytes) → IsNext bytes (kept_functions bytes) i d (points_before bytes (get_or (kept_functions bytes) i d).value)
next-kept bytes clean rules i d within =
    let same : points_before bytes (get_or (kept_functions bytes) i d).value ≡ flat_map (points_of bytes) (take i (kept_functions bytes)) = ap (flat_map (points_of bytes)) (before-function bytes rules i d within) in
    record {
      same = same;
      behind = subst (All (λ p. p.place < (get_or (kept_functions bytes) i d).value)) (sym same) (points-before bytes clean rules i d within);
      kept = Contains-get_or (kept_functions bytes) i d within;
      more = ap (λ l. l ++ points_of bytes (get_or (kept_functions bytes) i d)) same ∙ sym (flat_map-more (points_of bytes) (kept_functions bytes) i d within);
    }

pub next-function : (bytes : List ℕ) (list : List Symbol) → list ≡ kept_functions bytes → first (elf_rules bytes) ≡ None → first (function_rules bytes) ≡ None → (i : ℕ) (d : Symbol) → i < length list → IsNext bytes list i d (points_before bytes (get_or list i d).value)
next-function bytes list is clean rules i d within =
    subst (λ l. i < length l → IsNext bytes l i d (points_before bytes (get_or l i d).value)) (sym is) (next-kept bytes clean rules i d) within

-- ---- the rule on points, and the points of a whole list

or-none_right : (o : Option Fault) → option_or o None ≡ o
or-none_right None = refl
or-none_right (Some x) = refl

abbrev pub point_finding : List ℕ → ℕ → Symbol → Option Fault
point_finding bytes k f = option_map BadInstruction (bad_address bytes f)

pub first-point_rules : (bytes : List ℕ) (list : List Symbol) → list ≡ kept_functions bytes → first_of (each_of list (point_finding bytes)) ≡ first (point_rules bytes)
unfolding point_rules
first-point_rules bytes list is = ap (λ l. first_of (each_of l (point_finding bytes))) is ∙ sym (or-none_right (first_of (each_of (kept_functions bytes) (point_finding bytes))))

pub take-whole : {A : Type 0} (n : ℕ) (xs : List A) → length xs ≤ n → take n xs ≡ xs
take-whole zero [] h = refl
take-whole zero (x ∷ xs) h = absurd (omega arith)
take-whole (suc n) [] h = refl
take-whole (suc n) (x ∷ xs) h = ap (λ l. x ∷ l) (take-whole n xs (omega arith))

pub points-of-list : (bytes : List ℕ) (list : List Symbol) → list ≡ kept_functions bytes → flat_map (points_of bytes) list ≡ file_points bytes
unfolding file_points
points-of-list bytes list is = ap (flat_map (points_of bytes)) is

-- ---- a function of the list

pub of-list : (bytes : List ℕ) (function : Function) → Contains (functions_of bytes) function → (f : Symbol) × (Contains (kept_functions bytes) f) × (function ≡ function_at f)
of-list bytes function here = by_list (kept_functions bytes) refl here
  where
    by_list : (list : List Symbol) → kept_functions bytes ≡ list → Contains (map function_at list) function → (f : Symbol) × (Contains (kept_functions bytes) f) × (function ≡ function_at f)
    by_list [] is at = let low = at.1 in absurd (omega (arith, low))
    by_list (g ∷ gs) is at =
        let within : at.0 < length (g ∷ gs) = (let low = at.1 in let size = length-map (g ∷ gs) function_at in omega (arith, low, size)) in
        let f : Symbol = get_or (g ∷ gs) at.0 g in
        (get_or (g ∷ gs) at.0 g, subst (λ l. Contains l (get_or (g ∷ gs) at.0 g)) (sym is) (Contains-get_or (g ∷ gs) at.0 g within), sym at.2 ∙ get_or-map function_at (g ∷ gs) at.0 g function within)

-- the code section at the start of a function has its code
pub code-at : (bytes : List ℕ) → first (elf_rules bytes) ≡ None → first (function_rules bytes) ≡ None → (function : Function) (c : CodeSection) → IsCodeAt bytes function.span.start c
    → (code : List ℕ) → code ≡ take (function.span.end - function.span.start) (drop (function.span.start - c.section.addr) c.bytes.items) → IsCodeOf bytes function code
code-at bytes clean rules function c is code e = record { exact = exact }
  where
    exact : (f : Symbol) → Contains (kept_functions bytes) f → function ≡ function_at f → code ≡ code_of_symbol bytes f
    exact f here same =
        let placed = placed_function bytes f rules here in
        let some = placed.some in
        let start : function.span.start ≡ f.value = ap (λ (g : Function). g.span.start) same in
        let end : function.span.end ≡ end_of f = ap (λ (g : Function). g.span.end) same in
        let on = function-address bytes f f.value rules here (omega arith) (omega (arith, some)) in
        let has : (nat_le c.section.addr f.value && nat_lt f.value (c.section.addr + c.section.size)) ≡ true = ap (λ a. nat_le c.section.addr a && nat_lt a (c.section.addr + c.section.size)) (sym start) ∙ is.has in
        let section : its_section bytes f ≡ c.section = same-section bytes f.value (its_section bytes f) c.section clean on.0 is.one_of on.1 has in
        let count : function.span.end - function.span.start ≡ f.size = omega (arith, start, end) in
        e ∙ ap (λ n. take n (drop (function.span.start - c.section.addr) c.bytes.items)) count
        ∙ ap (λ a. take f.size (drop (a - c.section.addr) c.bytes.items)) start
        ∙ ap (λ l. take f.size (drop (f.value - c.section.addr) l)) is.stored
        ∙ code-in-section bytes c.section f section

-- a function is in a code section
pub never-outside : (bytes : List ℕ) → first (function_rules bytes) ≡ None → (function : Function) → Contains (functions_of bytes) function → IsOutside bytes function.span.start → ⊥
never-outside bytes rules function here outside =
    let of = of-list bytes function here in
    let some = (placed_function bytes of.0 rules of.1).some in
    let start : function.span.start ≡ of.0.value = ap (λ (g : Function). g.span.start) of.2 in
    let on = function-address bytes of.0 function.span.start rules of.1 (omega (arith, start)) (omega (arith, start, some)) in
    outside.never (its_section bytes of.0) on.0 on.1

pub span-ascends : (bytes : List ℕ) (function : Function) → Contains (functions_of bytes) function → function.span.start ≤ function.span.end
span-ascends bytes function here =
    let of = of-list bytes function here in
    let start : function.span.start ≡ of.0.value = ap (λ (g : Function). g.span.start) of.2 in
    let end : function.span.end ≡ end_of of.0 = ap (λ (g : Function). g.span.end) of.2 in
    omega (arith, start, end)

-- the function with a number, and its code
pub nth-function : (bytes : List ℕ) (i : ℕ) (d : Function) → i < length (functions_of bytes) → (i < length (kept_functions bytes)) × (get_or (functions_of bytes) i d ≡ function_at (get_or (kept_functions bytes) i null_symbol))
nth-function bytes i d within =
    let size = length-map (kept_functions bytes) function_at in
    let below : i < length (kept_functions bytes) = omega (arith, size, within) in
    (below, get_or-map function_at (kept_functions bytes) i null_symbol d below)

pub nth-code : (bytes : List ℕ) (i : ℕ) (d : Function) (code : List ℕ) → i < length (functions_of bytes) → IsCodeOf bytes (get_or (functions_of bytes) i d) code → code ≡ code_of_symbol bytes (get_or (kept_functions bytes) i null_symbol)
nth-code bytes i d code within is =
    let at = nth-function bytes i d within in
    is.exact (get_or (kept_functions bytes) i null_symbol) (Contains-get_or (kept_functions bytes) i null_symbol at.0) at.1

pub nth-points : (bytes : List ℕ) (i : ℕ) (d : Function) (code : List ℕ) → i < length (functions_of bytes) → IsCodeOf bytes (get_or (functions_of bytes) i d) code
    → points (length code) (get_or (functions_of bytes) i d).span.start code ≡ points_of bytes (get_or (kept_functions bytes) i null_symbol)
nth-points bytes i d code within is =
    ap (λ a. points (length code) a code) (ap (λ (g : Function). g.span.start) (nth-function bytes i d within).1)
    ∙ points_of-code bytes (get_or (kept_functions bytes) i null_symbol) code (nth-code bytes i d code within is)

pub nth-ends : (bytes : List ℕ) → first (elf_rules bytes) ≡ None → first (function_rules bytes) ≡ None → (i : ℕ) (d : Function) (code : List ℕ) → i < length (functions_of bytes) → IsCodeOf bytes (get_or (functions_of bytes) i d) code → (get_or (functions_of bytes) i d).span.start + length code ≤ 2 ^ 47
nth-ends bytes clean rules i d code within is =
    let at = nth-function bytes i d within in
    let here = Contains-get_or (kept_functions bytes) i null_symbol at.0 in
    let count = code_length bytes (get_or (kept_functions bytes) i null_symbol) clean rules here in
    let most = code_ends bytes (get_or (kept_functions bytes) i null_symbol) clean rules here in
    let start : (get_or (functions_of bytes) i d).span.start ≡ (get_or (kept_functions bytes) i null_symbol).value = ap (λ (g : Function). g.span.start) at.1 in
    let size = ap length (nth-code bytes i d code within is) in
    omega (arith, count, most, start, size)

-- the same of a list that has them
abbrev pub no_function : Function
no_function = record { span = record { start = 0; end = 0 }; name = record { at = 0; len = 0 } }

pub nth-count : (bytes : List ℕ) (list : List Function) → list ≡ functions_of bytes → length (kept_functions bytes) ≡ length list
nth-count bytes list is = sym (length-map (kept_functions bytes) function_at) ∙ ap length (sym is)

pub nth-index : (bytes : List ℕ) (list : List Function) → list ≡ functions_of bytes → (i : ℕ) → i < length list → i < length (kept_functions bytes)
nth-index bytes list is i within = let size = nth-count bytes list is in omega (arith, size, within)

pub nth-points-in : (bytes : List ℕ) (list : List Function) → list ≡ functions_of bytes → (i : ℕ) (d : Function) (code : List ℕ) → i < length list → IsCodeOf bytes (get_or list i d) code
    → points (length code) (get_or list i d).span.start code ≡ points_of bytes (get_or (kept_functions bytes) i null_symbol)
nth-points-in bytes list is i d code within of =
    (subst (λ l. i < length l → IsCodeOf bytes (get_or l i d) code → points (length code) (get_or l i d).span.start code ≡ points_of bytes (get_or (kept_functions bytes) i null_symbol)) (sym is) (nth-points bytes i d code)) within of

pub nth-ends-in : (bytes : List ℕ) (list : List Function) → list ≡ functions_of bytes → first (elf_rules bytes) ≡ None → first (function_rules bytes) ≡ None → (i : ℕ) (d : Function) (code : List ℕ) → i < length list → IsCodeOf bytes (get_or list i d) code → (get_or list i d).span.start + length code ≤ 2 ^ 47
nth-ends-in bytes list is clean rules i d code within of =
    (subst (λ l. i < length l → IsCodeOf bytes (get_or l i d) code → (get_or l i d).span.start + length code ≤ 2 ^ 47) (sym is) (nth-ends bytes clean rules i d code)) within of

-- ---- the phases, one after the other

pub found-none : (bytes : List ℕ) → first (function_rules bytes) ≡ None → first (point_rules bytes) ≡ None → first (found_rules bytes) ≡ None
found-none bytes h k = first_append (function_rules bytes) (point_rules bytes) ∙ ap (λ o. option_or o (first (point_rules bytes))) h ∙ k

pub all-end : (bytes : List ℕ) (list : List Symbol) → list ≡ kept_functions bytes → first (elf_rules bytes) ≡ None → first (function_rules bytes) ≡ None → All (λ f. end_of f ≤ 2 ^ 47) list
all-end bytes list is clean rules = subst (All (λ f. end_of f ≤ 2 ^ 47)) (sym is) (λ k d within. code_ends bytes (get_or (kept_functions bytes) k d) clean rules (Contains-get_or (kept_functions bytes) k d within))
