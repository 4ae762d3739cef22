-- What the notes of a part of code tell.
use Rattle.std.proofs.Common.{◌≡◌, ℕ, suc, ◌+◌, ◌-◌, ◌<◌, ◌≤◌, true, ◌&&◌, cond, nat_le, nat_lt, List, ◌++◌, length, take, drop, map, get_or, Option, Some, None, Contains, refl, sym, ap, subst, ◌∙◌, arith, length-take, length-drop, take-append-drop, drop-cons}
use Rattle.std.specs.List.{flat_map, range_with_len}
use Rattle.std.specs.Option.{option_map_or}
use Rattle.std.specs.Prelude.{option_map}
use Rattle.std.proofs.lemmas.Bool.{eq-eqb}
use Rattle.std.proofs.lemmas.Grind.{flat_map-append}
use Rattle.std.proofs.lemmas.List.{get_or_default, get_or-drop, get_or-take}
use Rattle.std.proofs.lemmas.List.FromFn.{fill_by_all, length-map-range_with_len, get_or-map-range_with_len}
use Rattle.std.proofs.lemmas.List.Elements.{All-contains, Contains-get_or}
use Rattle.x86_insn.specs.declared.instruction.Insn.{Insn}
use Rattle.x86_decode.specs.Reading.{decode_of}
use Rattle.rw_base.specs.Rules.{first}
use Rattle.rw_elf.specs.declared.section.Section.{Section}
use Rattle.rw_elf.specs.declared.symbol.Symbol.{Symbol}
use Rattle.rw_elf.specs.Symbols.{null_symbol}
use Rattle.rw_elf.specs.Tables.{elf_rules}
use Rattle.rw_funcs.specs.declared.code.CodeSection.{CodeSection}
use Rattle.rw_funcs.specs.declared.function.Function.{Function}
use Rattle.rw_funcs.specs.Found.{AreNotes, IsCodeAt, IsCodeOf}
use Rattle.rw_funcs.specs.Functions.{end_of, function_rules, functions_of, its_section, kept_functions}
use Rattle.rw_funcs.specs.declared.insn_facts.InsnFacts.{InsnFacts}
use Rattle.rw_funcs.specs.Notes.{SplitsPointsAt, facts_of, length_or, no_facts, noted_or, notes_from}
use Rattle.rw_funcs.specs.Points.{Point, file_points, point_at, points, points_of}
use Rattle.rw_funcs.proofs.CodeFacts.{same-section, function-address}
use Rattle.rw_funcs.proofs.Facts.{code_length, functions_apart, placed_function}
use Rattle.rw_funcs.proofs.Fuel.{front_fits, points_at_start, points_in, points_next, points_stop}
use Rattle.rw_funcs.proofs.FunctionsOf.{address-inside, nth-code, nth-function, nth-points, of-list, points-before}
use Rattle.rw_funcs.proofs.Marked.{not_same}
use Rattle.rw_funcs.proofs.PointFacts.{Contains-flat_map, IsPointOf, point_at-append, point_at-before, point_at-none, points_of-are}

-- ---- the notes of a part of a section

module _ {A : Type 0} (note : Point → A) (none : A) where
  pub notes-part : (ps : List Point) (s : Section) (list : List A) (a n : ℕ) → AreNotes note none ps s list → s.addr ≤ a → a + n ≤ s.addr + s.size → take n (drop (a - s.addr) list) ≡ notes_from note none ps a n
  unfolding notes_from
  notes-part ps s list a n is low high =
      let whole = is.size in
      let rest = length-drop (a - s.addr) list in
      let front = length-take n (drop (a - s.addr) list) in
      fill_by_all (λ k. noted_or note none ps (a + k)) (take n (drop (a - s.addr) list)) n none (omega (arith, whole, rest, front, low, high))
      (λ k within.
      let place : s.addr + (a - s.addr + k) ≡ a + k = omega (arith, low) in
      get_or-take n (drop (a - s.addr) list) k none within ∙ get_or-drop (a - s.addr) list k none
      ∙ is.exact (a - s.addr + k) (omega (arith, low, high, within)) ∙ ap (noted_or note none ps) place)

  -- the note at a place
  pub note-at : (ps : List Point) (start n k : ℕ) (d : A) → k < n → get_or (notes_from note none ps start n) k d ≡ noted_or note none ps (start + k)
  unfolding notes_from
  note-at ps start n k d within = get_or-map-range_with_len (λ j. noted_or note none ps (start + j)) 0 n k k d within (omega arith)

  pub notes-count : (ps : List Point) (start n : ℕ) → length (notes_from note none ps start n) ≡ n
  unfolding notes_from
  notes-count ps start n = length-map-range_with_len (λ j. noted_or note none ps (start + j)) 0 n

-- the code section at the start of a function has all of it
pub function-inside : (bytes : List ℕ) → first (elf_rules bytes) ≡ None → first (function_rules bytes) ≡ None → (function : Function) (c : CodeSection) → Contains (functions_of bytes) function → IsCodeAt bytes function.span.start c
    → (c.section.addr ≤ function.span.start) × (function.span.start ≤ function.span.end) × (function.span.end ≤ c.section.addr + c.section.size)
function-inside bytes clean rules function c here is =
    let of = of-list bytes function here in
    let placed = placed_function bytes of.0 rules of.1 in
    let some = placed.some in
    let start : function.span.start ≡ of.0.value = ap (λ (g : Function). g.span.start) of.2 in
    let end : function.span.end ≡ end_of of.0 = ap (λ (g : Function). g.span.end) of.2 in
    let on = function-address bytes of.0 of.0.value rules of.1 (omega arith) (omega (arith, some)) in
    let has : (nat_le c.section.addr of.0.value && nat_lt of.0.value (c.section.addr + c.section.size)) ≡ true = ap (λ a. nat_le c.section.addr a && nat_lt a (c.section.addr + c.section.size)) (sym start) ∙ is.has in
    let section : its_section bytes of.0 ≡ c.section = same-section bytes of.0.value (its_section bytes of.0) c.section clean on.0 is.one_of on.1 has in
    let fits : end_of of.0 ≤ c.section.addr + c.section.size = subst (λ (s : Section). end_of of.0 ≤ s.addr + s.size) section placed.ends in
    let low = (address-inside function.span.start c is.has).0 in
    (low, omega (arith, start, end), omega (arith, end, fits))

pub function-notes : {A : Type 0} (note : Point → A) (none : A) (bytes : List ℕ) → first (elf_rules bytes) ≡ None → first (function_rules bytes) ≡ None → (function : Function) (c : CodeSection) (list : List A) → Contains (functions_of bytes) function → IsCodeAt bytes function.span.start c
    → AreNotes note none (file_points bytes) c.section list
    → take (function.span.end - function.span.start) (drop (function.span.start - c.section.addr) list) ≡ notes_from note none (file_points bytes) function.span.start (function.span.end - function.span.start)
function-notes note none bytes clean rules function c list here is noted =
    let inside = function-inside bytes clean rules function c here is in
    let low = inside.0 in
    let some = inside.1 in
    let high = inside.2 in
    notes-part note none (file_points bytes) c.section list function.span.start (function.span.end - function.span.start) noted low (omega (arith, some, high))

-- ---- the notes of a function are those of its own points

own-point : (bytes : List ℕ) → first (elf_rules bytes) ≡ None → first (function_rules bytes) ≡ None → (i : ℕ) (d : Symbol) → i < length (kept_functions bytes) → (a : ℕ) → (get_or (kept_functions bytes) i d).value ≤ a → a < end_of (get_or (kept_functions bytes) i d)
    → point_at (file_points bytes) a ≡ point_at (points_of bytes (get_or (kept_functions bytes) i d)) a
unfolding file_points
own-point bytes clean rules i d within a low high =
    ap (λ ps. point_at ps a) split
    ∙ point_at-append before (own ++ after) a (point_at-none before a (λ q here same. let less = All-contains (λ (p : Point). p.place < (get_or (kept_functions bytes) i d).value) before q (points-before bytes clean rules i d within) here in omega (arith, less, same, low)))
    ∙ point_at-before own after a (point_at-none after a later)
  where
    own : List Point
    own = points_of bytes (get_or (kept_functions bytes) i d)

    before : List Point
    before = flat_map (points_of bytes) (take i (kept_functions bytes))

    after : List Point
    after = flat_map (points_of bytes) (drop (suc i) (kept_functions bytes))

    split : flat_map (points_of bytes) (kept_functions bytes) ≡ flat_map (points_of bytes) (take i (kept_functions bytes)) ++ (points_of bytes (get_or (kept_functions bytes) i d) ++ flat_map (points_of bytes) (drop (suc i) (kept_functions bytes)))
    split =
        ap (flat_map (points_of bytes)) (sym (take-append-drop i (kept_functions bytes))) ∙ flat_map-append (points_of bytes) (take i (kept_functions bytes)) (drop i (kept_functions bytes))
        ∙ ap (λ l. flat_map (points_of bytes) (take i (kept_functions bytes)) ++ flat_map (points_of bytes) l) (drop-cons (kept_functions bytes) i d within)

    later : (q : Point) → Contains (flat_map (points_of bytes) (drop (suc i) (kept_functions bytes))) q → q.place ≡ a → ⊥
    later q here same =
        let of = Contains-flat_map (points_of bytes) (drop (suc i) (kept_functions bytes)) q here in
        let j : ℕ = of.1.0 in
        let size = length-drop (suc i) (kept_functions bytes) in
        let below = of.1.1 in
        let there : suc i + of.1.0 < length (kept_functions bytes) = omega (arith, below, size) in
        let is : get_or (kept_functions bytes) (suc i + of.1.0) of.0 ≡ of.0 = sym (get_or-drop (suc i) (kept_functions bytes) of.1.0 of.0) ∙ of.1.2 in
        let kept : Contains (kept_functions bytes) of.0 = (suc i + of.1.0, there, is) in
        let at = All-contains (IsPointOf bytes of.0) (points_of bytes of.0) q (points_of-are bytes of.0 clean rules kept) of.2 in
        let apart = functions_apart bytes rules i (suc i + of.1.0) d (omega arith) there in
        let first_of_it : (get_or (kept_functions bytes) (suc i + of.1.0) d).value ≡ of.0.value = ap (λ (f : Symbol). f.value) (get_or_default (kept_functions bytes) (suc i + of.1.0) d of.0 there ∙ is) in
        let from = at.low in
        omega (arith, apart, first_of_it, from, same, high)

module _ {A : Type 0} (note : Point → A) (none : A) where
  own-notes : (bytes : List ℕ) → first (elf_rules bytes) ≡ None → first (function_rules bytes) ≡ None → (i : ℕ) (d : Symbol) → i < length (kept_functions bytes) → (n : ℕ) → (get_or (kept_functions bytes) i d).value + n ≤ end_of (get_or (kept_functions bytes) i d)
      → notes_from note none (file_points bytes) (get_or (kept_functions bytes) i d).value n ≡ notes_from note none (points_of bytes (get_or (kept_functions bytes) i d)) (get_or (kept_functions bytes) i d).value n
  unfolding notes_from
  own-notes bytes clean rules i d within n high =
      fill_by_all (λ k. noted_or note none (points_of bytes (get_or (kept_functions bytes) i d)) ((get_or (kept_functions bytes) i d).value + k)) (map (λ k. noted_or note none (file_points bytes) ((get_or (kept_functions bytes) i d).value + k)) (range_with_len 0 n)) n none
      (length-map-range_with_len (λ k. noted_or note none (file_points bytes) ((get_or (kept_functions bytes) i d).value + k)) 0 n)
      (λ k low.
      get_or-map-range_with_len (λ j. noted_or note none (file_points bytes) ((get_or (kept_functions bytes) i d).value + j)) 0 n k k none low (omega arith)
      ∙ ap (λ o. option_map_or note o none) (own-point bytes clean rules i d within ((get_or (kept_functions bytes) i d).value + k) (omega arith) (omega (arith, low, high))))

  -- those of the function with a number, from its code
  nth-own-notes : (bytes : List ℕ) → first (elf_rules bytes) ≡ None → first (function_rules bytes) ≡ None → (i : ℕ) (d : Function) (code : List ℕ) → i < length (functions_of bytes) → IsCodeOf bytes (get_or (functions_of bytes) i d) code
      → notes_from note none (file_points bytes) (get_or (functions_of bytes) i d).span.start ((get_or (functions_of bytes) i d).span.end - (get_or (functions_of bytes) i d).span.start) ≡ notes_from note none (points (length code) (get_or (functions_of bytes) i d).span.start code) (get_or (functions_of bytes) i d).span.start (length code)
  nth-own-notes bytes clean rules i d code within is =
      let at = nth-function bytes i d within in
      let start : (get_or (functions_of bytes) i d).span.start ≡ (get_or (kept_functions bytes) i null_symbol).value = ap (λ (g : Function). g.span.start) at.1 in
      let end : (get_or (functions_of bytes) i d).span.end ≡ end_of (get_or (kept_functions bytes) i null_symbol) = ap (λ (g : Function). g.span.end) at.1 in
      let count = code_length bytes (get_or (kept_functions bytes) i null_symbol) clean rules (Contains-get_or (kept_functions bytes) i null_symbol at.0) in
      let size = ap length (nth-code bytes i d code within is) in
      let bytes_of : (get_or (functions_of bytes) i d).span.end - (get_or (functions_of bytes) i d).span.start ≡ length code = omega (arith, start, end, count, size) in
      ap (λ n. notes_from note none (file_points bytes) (get_or (functions_of bytes) i d).span.start n) bytes_of
      ∙ ap (λ a. notes_from note none (file_points bytes) a (length code)) start
      ∙ own-notes bytes clean rules i null_symbol at.0 (length code) (omega (arith, count, size))
      ∙ ap (λ ps. notes_from note none ps (get_or (kept_functions bytes) i null_symbol).value (length code)) (sym (nth-points bytes i d code within is))
      ∙ ap (λ a. notes_from note none (points (length code) (get_or (functions_of bytes) i d).span.start code) a (length code)) (sym start)

  pub nth-notes-in : (bytes : List ℕ) (list : List Function) → list ≡ functions_of bytes → first (elf_rules bytes) ≡ None → first (function_rules bytes) ≡ None → (i : ℕ) (d : Function) (code : List ℕ) → i < length list → IsCodeOf bytes (get_or list i d) code
      → notes_from note none (file_points bytes) (get_or list i d).span.start ((get_or list i d).span.end - (get_or list i d).span.start) ≡ notes_from note none (points (length code) (get_or list i d).span.start code) (get_or list i d).span.start (length code)
  nth-notes-in bytes list is clean rules i d code within of =
      (subst (λ l. i < length l → IsCodeOf bytes (get_or l i d) code → notes_from note none (file_points bytes) (get_or l i d).span.start ((get_or l i d).span.end - (get_or l i d).span.start) ≡ notes_from note none (points (length code) (get_or l i d).span.start code) (get_or l i d).span.start (length code)) (sym is) (nth-own-notes bytes clean rules i d code)) within of

-- ---- notes tell the points one after another

module _ (code : List ℕ) (start : ℕ) where
  pub splits-first : SplitsPointsAt code start 0
  splits-first a low = ap (λ ps. point_at ps a) (sym (points_at_start code start))

  pub splits-next : (at : ℕ) (d : Insn ℕ × ℕ) → decode_of (start + at) (drop at code) ≡ Some d → SplitsPointsAt code start at → SplitsPointsAt code start (at + d.1)
  splits-next at d found splits a low =
      let fits = front_fits (start + at) (drop at code) d found in
      let some = fits.0 in
      splits a (omega (arith, low)) ∙ ap (λ ps. point_at ps a) (points_next code start at d found)
      ∙ ap (λ t. cond t (Some (record { place = start + at; insn = d.0; len = d.1 })) (point_at (points_in code start (at + d.1)) a)) (not_same (start + at) a (λ e. omega (arith, e, low, some)))

  -- the note at such a place tells whether an instruction is there, and which
  note-absent : {A : Type 0} (note : Point → A) (none : A) (at : ℕ) → decode_of (start + at) (drop at code) ≡ None → SplitsPointsAt code start at → noted_or note none (points (length code) start code) (start + at) ≡ none
  note-absent note none at absent splits =
      ap (λ o. option_map_or note o none) (splits (start + at) (omega arith) ∙ ap (λ ps. point_at ps (start + at)) (points_stop (length (drop at code)) (start + at) (drop at code) absent))

  note-present : {A : Type 0} (note : Point → A) (none : A) (at : ℕ) (d : Insn ℕ × ℕ) → decode_of (start + at) (drop at code) ≡ Some d → SplitsPointsAt code start at → noted_or note none (points (length code) start code) (start + at) ≡ note (record { place = start + at; insn = d.0; len = d.1 })
  note-present note none at d found splits =
      ap (λ o. option_map_or note o none)
      (splits (start + at) (omega arith) ∙ ap (λ ps. point_at ps (start + at)) (points_next code start at d found)
      ∙ ap (λ t. cond t (Some (record { place = start + at; insn = d.0; len = d.1 })) (point_at (points_in code start (at + d.1)) (start + at))) (eq-eqb (start + at) (start + at) refl))

  -- no instruction is where the length is 0, and elsewhere its length and its facts are noted
  pub noted-none : (at : ℕ) → SplitsPointsAt code start at → length_or 0 (points (length code) start code) (start + at) ≡ 0 → decode_of (start + at) (drop at code) ≡ None
  noted-none at splits zero_length = by_option (decode_of (start + at) (drop at code)) refl
    where
      by_option : (o : Option (Insn ℕ × ℕ)) → decode_of (start + at) (drop at code) ≡ o → o ≡ None
      by_option None e = refl
      by_option (Some d) e =
          let some = (front_fits (start + at) (drop at code) d e).0 in
          let same = note-present (λ p. p.len) 0 at d e splits in
          absurd (omega (arith, some, same, zero_length))

  pub noted-some : (at : ℕ) → SplitsPointsAt code start at → (length_or 0 (points (length code) start code) (start + at) ≡ 0 → ⊥)
      → option_map {U = InsnFacts × ℕ} (λ d. (facts_of d.0, d.1)) (decode_of (start + at) (drop at code)) ≡ Some (noted_or (λ p. facts_of p.insn) no_facts (points (length code) start code) (start + at), length_or 0 (points (length code) start code) (start + at))
  noted-some at splits some = by_option (decode_of (start + at) (drop at code)) refl
    where
      by_option : (o : Option (Insn ℕ × ℕ)) → decode_of (start + at) (drop at code) ≡ o → option_map {U = InsnFacts × ℕ} (λ (d : Insn ℕ × ℕ). (facts_of d.0, d.1)) o ≡ Some (noted_or (λ p. facts_of p.insn) no_facts (points (length code) start code) (start + at), length_or 0 (points (length code) start code) (start + at))
      by_option None e = absurd (some (note-absent (λ p. p.len) 0 at e splits))
      by_option (Some d) e = rw (note-present (λ p. p.len) 0 at d e splits, note-present (λ p. facts_of p.insn) no_facts at d e splits) refl
