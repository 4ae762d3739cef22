-- Where the items of each function and of each point stand in the items of a file with some probes, behind those of its copies and
-- weak symbols.
use Rattle.std.proofs.Common.{◌≡◌, ℕ, zero, suc, ◌+◌, ◌<◌, ◌≤◌, List, [], ◌∷◌, ◌++◌, length, map, drop, get_or, append_assoc, Option, Some, None, Bool, true, false, cond, ◌==◌, ◌||◌, refl, sym, ap, subst, ◌∙◌, arith, length-drop, length-append}
use Rattle.std.specs.Prelude.{flat_map}
use Rattle.std.specs.List.{Contains}
use Rattle.std.proofs.lemmas.Bool.{eqb-true, eqb-false, eq-eqb}
use Rattle.x86_insn.specs.declared.instruction.Insn.{Insn}
use Rattle.x86_decode.specs.Reading.{decode_of}
use Rattle.rw_elf.specs.declared.symbol.Symbol.{Symbol}
use Rattle.rw_funcs.specs.Functions.{entry_of, entry_function, kept_functions, code_of_symbol, name_of_symbol}
use Rattle.rw_funcs.specs.Points.{Point, points_from, points, bad_from, first_bad, is_point, point_at, points_of, file_points}
use Rattle.rw_funcs.proofs.Facts.{entered}
use Rattle.rw_funcs.proofs.Fuel.{front_fits, drop_drop}
use Rattle.rw_code.proofs.Functions.{InFunction, has-file, in-function}
use Rattle.rw_code.proofs.Points.{Has, found-at}
use Rattle.asm_items.specs.declared.item.Item.TheVariants.{Label, Ins, Weak}
use Rattle.rw_reloc.specs.declared.slot.Slot.{Slot}
use Rattle.rw_reloc.specs.Slots.{copies_of}
use Rattle.asm_items.specs.declared.item.Label.TheVariants as label
use Rattle.asm_items.specs.declared.item.Sym.{Sym}
use Rattle.asm_items.specs.declared.item.Sym.TheVariants as syms
use Rattle.rw_probe.specs.declared.form.Probe.{Probe}
use Rattle.rw_probe.specs.declared.form.Probe.TheVariants.{Inc, Dead, Spill}
use Rattle.rw_probe.specs.Probes.{probe_insns}
use Rattle.rw_probe.specs.ProbedPrograms.{is_endbr64}
use Rattle.rw_out.specs.Items.{Probes, with_symbols, probe_items, insn_items, point_items, opening, start_name, entry_items, closing, function_items, copy_item, copy_items, weakly_used, weak_items, data_items, main_items, items_with}
use Rattle.asm_items.specs.Lines.{Items}
use Rattle.rw_code.specs.Printed.{start_of}
use Rattle.rw_data.proofs.Clean.{IsClean}
use Rattle.rw_code.proofs.Functions.{AreFunctions}
use Rattle.rw_code.proofs.Clean.{are-functions}

-- its functions
pub its_functions : (file : List ℕ) → IsClean file → AreFunctions file
its_functions file clean = are-functions file clean.elf clean.functions clean.points

-- the items of the points of bytes at an address, what closes their function, and others
abbrev pub items_from : List ℕ → Probes → Items → ℕ → ℕ → ℕ → List ℕ → Items
items_from file probes rest start k a bytes = (flat_map (point_items file probes) (points k a bytes) ++ closing start) ++ rest

-- what stands behind the label of a point: its instruction with its probe
abbrev pub lines_of : List ℕ → Probes → ℕ → Insn ℕ → Items
lines_of file probes a i = insn_items (is_endbr64 i) (Ins (with_symbols file i)) (probe_items (probes.at a))

-- the items from a place on are those of a point of a function, and of the points behind it
pub record AtPoint (file : List ℕ) (probes : Probes) (items : Items) (a q : ℕ) : Type 0 where
  pub function : Symbol
  pub one_of : Contains (kept_functions file) function
  pub turns : ℕ
  pub from : ℕ
  pub rest : Items
  pub place : a ≡ function.value + from
  pub inside : from < length (code_of_symbol file function)
  pub there : Has (file_points file) a
  pub enough : length (drop from (code_of_symbol file function)) ≤ turns
  pub good : first_bad turns a (drop from (code_of_symbol file function)) ≡ None
  pub lines : drop q items ≡ items_from file probes rest function.value turns a (drop from (code_of_symbol file function))

pub bad_next : (next : ℕ → List ℕ → Option ℕ) (a : ℕ) (bytes : List ℕ) (o : Option (Insn ℕ × ℕ)) (d : Insn ℕ × ℕ) → 0 < length bytes → o ≡ Some d → bad_from next a bytes o ≡ None → next (a + d.1) (drop d.1 bytes) ≡ None
bad_next next a [] o d h e g = absurd (omega (arith, h))
bad_next next a (b ∷ bs) o d h e g = subst (λ x. bad_from next a (b ∷ bs) x ≡ None) e g

pub bad_here : (next : ℕ → List ℕ → Option ℕ) (a : ℕ) (bytes : List ℕ) (o : Option (Insn ℕ × ℕ)) → 0 < length bytes → o ≡ None → bad_from next a bytes o ≡ None → ⊥
bad_here next a [] o h e g = omega (arith, h)
bad_here next a (b ∷ bs) None h e g = cc
bad_here next a (b ∷ bs) (Some d) h e g = cc

-- the items of a point whose bytes spell an instruction
pub items_at : (file : List ℕ) (probes : Probes) (rest : Items) (start k a : ℕ) (bytes : List ℕ) (d : Insn ℕ × ℕ) → decode_of a bytes ≡ Some d
    → items_from file probes rest start (suc k) a bytes ≡ Label (label.Code a) ∷ (lines_of file probes a d.0 ++ items_from file probes rest start k (a + d.1) (drop d.1 bytes))
items_at file probes rest start k a bytes d e =
    let others = flat_map (point_items file probes) (points k (a + d.1) (drop d.1 bytes)) in
    ap (λ o. (flat_map (point_items file probes) (points_from k a bytes o (points k)) ++ closing start) ++ rest) e
    ∙ ap (λ xs. Label (label.Code a) ∷ (xs ++ rest)) (append_assoc (lines_of file probes a d.0) others (closing start))
    ∙ ap (λ xs. Label (label.Code a) ∷ xs) (append_assoc (lines_of file probes a d.0) (others ++ closing start) rest)

-- ---- the items of a function

-- behind a list stands what follows it
drop_front : {A : Type 0} (xs ys : List A) (n : ℕ) → drop (length xs + n) (xs ++ ys) ≡ drop n ys
drop_front [] ys n = ap (λ k. drop k ys) (let e : length {A = ℕ} [] + n ≡ n = omega arith in e)
drop_front (x ∷ xs) ys n = let e : suc (length xs) + n ≡ suc (length xs + n) = omega arith in ap (λ k. drop k (x ∷ (xs ++ ys))) e ∙ drop_front xs ys n

pub drop_through : {A : Type 0} (xs ys : List A) → drop (length xs) (xs ++ ys) ≡ ys
drop_through [] ys = refl
drop_through (x ∷ xs) ys = drop_through xs ys

-- the place at which the items of the points of a function stand in its own
abbrev opening_size : Bool → ℕ
opening_size t = cond t 6 3

behind_opening : (t : Bool) (name entered : List ℕ) (items behind rest : Items) → drop (opening_size t) ((((opening name ++ cond t (entry_items entered) []) ++ items) ++ behind) ++ rest) ≡ (items ++ behind) ++ rest
behind_opening true name entered items behind rest = refl
behind_opening false name entered items behind rest = refl

module _ (file : List ℕ) (probes : Probes) where
  -- the items of the points of a function stand at a place
  abbrev Stands : Items → Symbol → ℕ → Items → Type 0
  Stands items f q rest = drop q items ≡ items_from file probes rest f.value (length (code_of_symbol file f)) f.value (code_of_symbol file f)

  first_stands : (f : Symbol) (rest : Items) → Stands (function_items file probes f ++ rest) f (opening_size (f.value == entry_of file)) rest
  unfolding points_of
  first_stands f rest = behind_opening (f.value == entry_of file) (name_of_symbol file f) (start_name file) (flat_map (point_items file probes) (points_of file f)) (closing f.value) rest

  later_stands : (g f : Symbol) (items rest : Items) (q : ℕ) → Stands items f q rest → Stands (function_items file probes g ++ items) f (length (function_items file probes g) + q) rest
  later_stands g f items rest q h = drop_front (function_items file probes g) items q ∙ h

  place-in : (fs : List Symbol) (tail : Items) (f : Symbol) (i : ℕ) → i < length fs → get_or fs i f ≡ f → (q : ℕ) × (rest : Items) × Stands (flat_map (function_items file probes) fs ++ tail) f q rest
  place-in [] tail f i h e = absurd (omega (arith, h))
  place-in (g ∷ gs) tail f zero h e =
      let rest = flat_map (function_items file probes) gs ++ tail in (
        opening_size (g.value == entry_of file),
        rest,
        ap (drop (opening_size (g.value == entry_of file))) (append_assoc (function_items file probes g) (flat_map (function_items file probes) gs) tail)
            ∙ (first_stands g rest ∙ ap (λ z. items_from file probes rest z.value (length (code_of_symbol file z)) z.value (code_of_symbol file z)) e),
      )
  place-in (g ∷ gs) tail f (suc i) h e =
      let found = place-in gs tail f i (omega (arith, h)) e in
      let all = flat_map (function_items file probes) gs ++ tail in (
        length (function_items file probes g) + found.0,
        found.1,
        ap (drop (length (function_items file probes g) + found.0)) (append_assoc (function_items file probes g) (flat_map (function_items file probes) gs) tail)
            ∙ later_stands g f all found.1 found.0 found.2,
      )

  -- what precedes the functions
  abbrev front : Items
  front = copy_items file ++ weak_items file probes

  behind_front : (f : Symbol) (items rest : Items) (q : ℕ) → Stands items f q rest → Stands (front ++ items) f (length front + q) rest
  behind_front f items rest q h = drop_front front items q ∙ h

  items-are : items_with file probes ≡ front ++ (flat_map (function_items file probes) (kept_functions file) ++ data_items file probes)
  unfolding items_with main_items
  items-are = refl

  pub function-place : (f : Symbol) → Contains (kept_functions file) f → (q : ℕ) × (rest : Items) × Stands (items_with file probes) f q rest
  function-place f at =
      let found = place-in (kept_functions file) (data_items file probes) f at.0 at.1 at.2 in
      let all = flat_map (function_items file probes) (kept_functions file) ++ data_items file probes in
      (length front + found.0, found.1, ap (drop (length front + found.0)) items-are ∙ behind_front f all found.1 found.0 found.2)

  -- ---- where the program starts

  -- these items define no name, so the start lies behind them
  abbrev AreSkipped : Items → Type 0
  AreSkipped items = (rest : Items) → start_of (items ++ rest) ≡ length items + start_of rest

  both_skipped : (xs ys : Items) → AreSkipped xs → AreSkipped ys → AreSkipped (xs ++ ys)
  both_skipped xs ys h k rest =
      let first = h (ys ++ rest) in
      let second = k rest in
      let size = length-append xs ys in
      ap start_of (append_assoc xs ys rest) ∙ (let e : start_of (xs ++ (ys ++ rest)) ≡ length (xs ++ ys) + start_of rest = omega (arith, first, second, size) in e)

  insns_skipped : (is : List (Insn (Sym (List ℕ)))) → AreSkipped (map Ins is)
  insns_skipped [] rest = omega arith
  insns_skipped (i ∷ is) rest = let e = insns_skipped is rest in omega (arith, e)

  probe_skipped : (o : Option (ℕ × Probe)) → AreSkipped (probe_items o)
  probe_skipped None = insns_skipped []
  probe_skipped (Some counted) = insns_skipped (probe_insns (syms.Counter counted.0) counted.1)

  lines_skipped : (t : Bool) (i : Insn (Sym (List ℕ))) (probe : Items) → AreSkipped probe → AreSkipped (insn_items t (Ins i) probe)
  lines_skipped true i probe h = both_skipped (Ins i ∷ []) probe (insns_skipped (i ∷ [])) h
  lines_skipped false i probe h = both_skipped probe (Ins i ∷ []) h (insns_skipped (i ∷ []))

  point_skipped : (p : Point) → AreSkipped (point_items file probes p)
  point_skipped p rest = let e = lines_skipped (is_endbr64 p.insn) (with_symbols file p.insn) (probe_items (probes.at p.place)) (probe_skipped (probes.at p.place)) rest in omega (arith, e)

  points_skipped : (ps : List Point) → AreSkipped (flat_map (point_items file probes) ps)
  points_skipped [] rest = omega arith
  points_skipped (p ∷ ps) rest = both_skipped (point_items file probes p) (flat_map (point_items file probes) ps) (point_skipped p) (points_skipped ps) rest

  opening_skipped : (name : List ℕ) → AreSkipped (opening name ++ [])
  opening_skipped name rest = omega arith

  closing_skipped : (s : ℕ) → AreSkipped (closing s)
  closing_skipped s rest = omega arith

  abbrev parts_of : Bool → Symbol → Items
  parts_of t f = ((opening (name_of_symbol file f) ++ cond t (entry_items (start_name file)) []) ++ flat_map (point_items file probes) (points_of file f)) ++ closing f.value

  function_skipped : (f : Symbol) → AreSkipped (parts_of false f)
  function_skipped f =
      both_skipped ((opening (name_of_symbol file f) ++ []) ++ flat_map (point_items file probes) (points_of file f)) (closing f.value)
      (both_skipped (opening (name_of_symbol file f) ++ []) (flat_map (point_items file probes) (points_of file f)) (opening_skipped (name_of_symbol file f)) (points_skipped (points_of file f))) (closing_skipped f.value)

  -- the function behind whose name the program starts
  abbrev StartsAt : List Symbol → Items → Type 0
  StartsAt fs items = (g : Symbol) × Contains fs g × (g.value ≡ entry_of file) × (rest : Items) × Stands items g (start_of items) rest

  start_here : (g : Symbol) (gs : List Symbol) (all : Items) → (g.value == entry_of file) ≡ true → StartsAt (g ∷ gs) (function_items file probes g ++ all)
  start_here g gs all e =
      let start : start_of (function_items file probes g ++ all) ≡ opening_size (g.value == entry_of file) = ap (λ t. start_of (parts_of t g ++ all)) e ∙ ap opening_size (sym e) in
      (g, (0, omega arith, refl), eqb-true g.value (entry_of file) e, all, ap (λ q. drop q (function_items file probes g ++ all)) start ∙ first_stands g all)

  start_later : (g : Symbol) (gs : List Symbol) (all : Items) → (g.value == entry_of file) ≡ false → StartsAt gs all → StartsAt (g ∷ gs) (function_items file probes g ++ all)
  start_later g gs all e found =
      let f = found.0 in
      let at = found.1 in
      let low = at.1 in
      let start : start_of (function_items file probes g ++ all) ≡ length (function_items file probes g) + start_of all =
      ap (λ t. start_of (parts_of t g ++ all)) e ∙ (function_skipped g all ∙ ap (λ t. length (parts_of t g) + start_of all) (sym e)) in
      (found.0, (suc at.0, omega (arith, low), at.2), found.2, found.3, ap (λ q. drop q (function_items file probes g ++ all)) start ∙ later_stands g found.0 all found.3 (start_of all) found.4)

  start-in : (fs : List Symbol) (tail : Items) (f : Symbol) (i : ℕ) → i < length fs → get_or fs i f ≡ f → f.value ≡ entry_of file → StartsAt fs (flat_map (function_items file probes) fs ++ tail)
  start-in [] tail f i h e entry = absurd (omega (arith, h))
  start-in (g ∷ gs) tail f i h e entry =
      subst (StartsAt (g ∷ gs)) (sym (append_assoc (function_items file probes g) (flat_map (function_items file probes) gs) tail))
      (by_test (λ j low same. start-in gs tail f j low same entry) (g.value == entry_of file) refl)
    where
      by_number : ((j : ℕ) → j < length gs → get_or gs j f ≡ f → StartsAt gs (flat_map (function_items file probes) gs ++ tail))
          → (j : ℕ) → j < length (g ∷ gs) → get_or (g ∷ gs) j f ≡ f → (g.value == entry_of file) ≡ false → StartsAt gs (flat_map (function_items file probes) gs ++ tail)
      by_number others zero low same other = let entry_is : g.value ≡ entry_of file = ap (λ (z : Symbol). z.value) same ∙ entry in absurd (eqb-false g.value (entry_of file) other entry_is)
      by_number others (suc j) low same other = others j (omega (arith, low)) same

      by_test : ((j : ℕ) → j < length gs → get_or gs j f ≡ f → StartsAt gs (flat_map (function_items file probes) gs ++ tail))
          → (t : Bool) → (g.value == entry_of file) ≡ t → StartsAt (g ∷ gs) (function_items file probes g ++ (flat_map (function_items file probes) gs ++ tail))
      by_test others true u = start_here g gs (flat_map (function_items file probes) gs ++ tail) u
      by_test others false u = start_later g gs (flat_map (function_items file probes) gs ++ tail) u (by_number others i h e u)

  copies_skipped : (copies : List Slot) → AreSkipped (map (copy_item file) copies)
  copies_skipped [] rest = omega arith
  copies_skipped (c ∷ copies) rest = let e = copies_skipped copies rest in omega (arith, e)

  weak_skipped : (symbols : List Symbol) → AreSkipped (map (λ s. Weak (name_of_symbol file s)) symbols)
  weak_skipped [] rest = omega arith
  weak_skipped (s ∷ symbols) rest = let e = weak_skipped symbols rest in omega (arith, e)

  front_skipped : AreSkipped front
  unfolding copy_items weak_items
  front_skipped = both_skipped (copy_items file) (weak_items file probes) (copies_skipped (copies_of file)) (weak_skipped (weakly_used file probes))

  pub start-place : IsClean file → StartsAt (kept_functions file) (items_with file probes)
  start-place clean =
      let entry = entered file clean.functions in
      let at = entry.0 in
      let all = flat_map (function_items file probes) (kept_functions file) ++ data_items file probes in
      let found = start-in (kept_functions file) (data_items file probes) (entry_function file) at.0 at.1 at.2 entry.1 in
      let start : start_of (front ++ all) ≡ length front + start_of all = front_skipped all in
      subst (StartsAt (kept_functions file)) (sym items-are)
      (found.0, found.1, found.2, found.3, ap (λ q. drop q (front ++ all)) start ∙ behind_front found.0 all found.3 (start_of all) found.4)

-- ---- the items of each point

-- where bytes spell instructions to their end, the first of them is at their beginning
starts-points : (k a : ℕ) (bytes : List ℕ) → 0 < length bytes → length bytes ≤ k → first_bad k a bytes ≡ None → Has (points k a bytes) a
starts-points zero a bytes some enough good = absurd (omega (arith, some, enough))
starts-points (suc k) a bytes some enough good = by_front (decode_of a bytes) refl
  where
    by_front : (o : Option (Insn ℕ × ℕ)) → decode_of a bytes ≡ o → Has (points_from k a bytes o (points k)) a
    by_front None e = absurd (bad_here (first_bad k) a bytes (decode_of a bytes) some e good)
    by_front (Some d) e = ap (λ t. t || is_point (points k (a + d.1) (drop d.1 bytes)) a) (eq-eqb a a refl)

-- behind the lines of a point stand those of the next one
pub behind_lines : (file : List ℕ) (probes : Probes) (items rest : Items) (start k a q : ℕ) (bytes : List ℕ) (d : Insn ℕ × ℕ) → decode_of a bytes ≡ Some d
    → drop q items ≡ items_from file probes rest start (suc k) a bytes → drop (q + suc (length (lines_of file probes a d.0))) items ≡ items_from file probes rest start k (a + d.1) (drop d.1 bytes)
behind_lines file probes items rest start k a q bytes d e lines =
    sym (drop_drop q (suc (length (lines_of file probes a d.0))) items)
    ∙ ap (λ xs. drop (suc (length (lines_of file probes a d.0))) xs) (lines ∙ items_at file probes rest start k a bytes d e)
    ∙ drop_through (lines_of file probes a d.0) (items_from file probes rest start k (a + d.1) (drop d.1 bytes))

module _ (file : List ℕ) (probes : Probes) (clean : IsClean file) (items : Items) where
  -- the first point of a function
  pub first-point : (f : Symbol) → Contains (kept_functions file) f → (q : ℕ) (rest : Items) → Stands file probes items f q rest → AtPoint file probes items f.value q
  unfolding points_of
  first-point f at q rest h =
      let is = (its_functions file clean).each f at in
      let some = is.some in
      let size = is.size in
      let code = code_of_symbol file f in
      record {
        function = f;
        one_of = at;
        turns = length (code_of_symbol file f);
        from = 0;
        rest = rest;
        place = omega arith;
        inside = omega (arith, some, size);
        there = has-file file f at f.value (starts-points (length code) f.value code (omega (arith, some, size)) (omega arith) is.good);
        enough = omega arith;
        good = is.good;
        lines = h;
      }

  -- from the items of a point on, each point has its items
  point-from : (f : Symbol) → Contains (kept_functions file) f → (rest : Items) (k a q m : ℕ) → drop q items ≡ items_from file probes rest f.value k a (drop m (code_of_symbol file f)) → a ≡ f.value + m → length (drop m (code_of_symbol file f)) ≤ k → first_bad k a (drop m (code_of_symbol file f)) ≡ None
      → (c : ℕ) → Has (file_points file) c → is_point (points k a (drop m (code_of_symbol file f))) c ≡ true → (p : ℕ) × AtPoint file probes items c p
  point-from f one_of rest zero a q m lines place enough good c there h = cc
  point-from f one_of rest (suc k) a q m lines place enough good c there h =
      by_front (decode_of a (drop m (code_of_symbol file f))) refl h (λ d e more low next g. point-from f one_of rest k (a + d.1) (q + suc (length (lines_of file probes a d.0))) (m + d.1) more (omega (arith, place)) low next c there g)
    where
      code : List ℕ
      code = code_of_symbol file f

      by_test : (d : Insn ℕ × ℕ) → decode_of a (drop m (code_of_symbol file f)) ≡ Some d → (is_point (points k (a + d.1) (drop d.1 (drop m (code_of_symbol file f)))) c ≡ true → (p : ℕ) × AtPoint file probes items c p)
          → (t : Bool) → (a == c) ≡ t → (t || is_point (points k (a + d.1) (drop d.1 (drop m (code_of_symbol file f)))) c) ≡ true → (p : ℕ) × AtPoint file probes items c p
      by_test d e others true same g =
          let fits = front_fits a (drop m (code_of_symbol file f)) d e in
          let some = fits.0 in
          let short = fits.1 in
          let size = length-drop m (code_of_symbol file f) in (
            q,
            subst (λ z. AtPoint file probes items z q) (eqb-true a c same) (record {
              function = f;
              one_of = one_of;
              turns = suc k;
              from = m;
              rest = rest;
              place = place;
              inside = omega (arith, some, short, size);
              there = subst (Has (file_points file)) (sym (eqb-true a c same)) there;
              enough = enough;
              good = good;
              lines = lines;
            }),
          )
      by_test d e others false other g = others g

      by_front : (o : Option (Insn ℕ × ℕ)) → decode_of a (drop m (code_of_symbol file f)) ≡ o → is_point (points_from k a (drop m (code_of_symbol file f)) o (points k)) c ≡ true
          → ((d : Insn ℕ × ℕ) → decode_of a (drop m (code_of_symbol file f)) ≡ Some d → drop (q + suc (length (lines_of file probes a d.0))) items ≡ items_from file probes rest f.value k (a + d.1) (drop (m + d.1) (code_of_symbol file f)) → length (drop (m + d.1) (code_of_symbol file f)) ≤ k → first_bad k (a + d.1) (drop (m + d.1) (code_of_symbol file f)) ≡ None → is_point (points k (a + d.1) (drop (m + d.1) (code_of_symbol file f))) c ≡ true → (p : ℕ) × AtPoint file probes items c p)
          → (p : ℕ) × AtPoint file probes items c p
      by_front None e g later = cc
      by_front (Some d) e g later =
          let bytes = code_of_symbol file f in
          let fits = front_fits a (drop m bytes) d e in
          let some = fits.0 in
          let short = fits.1 in
          let size = length-drop m bytes in
          let size2 = length-drop (m + d.1) bytes in
          let behind : drop d.1 (drop m bytes) ≡ drop (m + d.1) bytes = drop_drop m d.1 bytes in
          let more : drop (q + suc (length (lines_of file probes a d.0))) items ≡ items_from file probes rest f.value k (a + d.1) (drop (m + d.1) bytes) =
          behind_lines file probes items rest f.value k a q (drop m bytes) d e lines ∙ ap (λ bs. items_from file probes rest f.value k (a + d.1) bs) behind in
          let next : first_bad k (a + d.1) (drop (m + d.1) bytes) ≡ None = subst (λ bs. first_bad k (a + d.1) bs ≡ None) behind (bad_next (first_bad k) a (drop m bytes) (decode_of a (drop m bytes)) d (omega (arith, some, short)) e good) in
          by_test d e (λ x. later d e more (omega (arith, size, size2, some, short, enough)) next (subst (λ bs. is_point (points k (a + d.1) bs) c ≡ true) behind x)) (a == c) refl g

found_has : (ps : List Point) (a : ℕ) (p : Point) → point_at ps a ≡ Some p → Has ps a
found_has [] a p h = cc
found_has (q ∷ qs) a p h = by_test (λ g. found_has qs a p g) (q.place == a) h
  where
    by_test : (point_at qs a ≡ Some p → Has qs a) → (t : Bool) → cond t (Some q) (point_at qs a) ≡ Some p → (t || is_point qs a) ≡ true
    by_test others true g = refl
    by_test others false g = others g

-- the items of a file have those of each of its points
pub point-place : (file : List ℕ) (probes : Probes) → IsClean file → (c : ℕ) → is_point (file_points file) c ≡ true → (p : ℕ) × AtPoint file probes (items_with file probes) c p
unfolding points_of
point-place file probes clean c h =
    let found = found-at (file_points file) c h in
    let is : InFunction file c found.0 = in-function file (its_functions file clean) c found.0 found.1 in
    let f = is.function in
    let stands = function-place file probes f is.one_of in
    let code = code_of_symbol file f in
    point-from file probes clean (items_with file probes) f is.one_of stands.1 (length code) f.value stands.0 0 stands.2 (omega arith) (omega arith) ((its_functions file clean).each f is.one_of).good c h (found_has (points_of file f) c found.0 is.found)

-- the items from a place on are the label of an address, an instruction, and others
pub record LabelAt (items : Items) (a q : ℕ) : Type 0 where
  pub insn : Insn (Sym (List ℕ))
  pub rest : Items
  pub lines : drop q items ≡ Label (label.Code a) ∷ Ins insn ∷ rest

-- some items begin with an instruction
record BeginsWithInsn (items : Items) : Type 0 where
  insn : Insn (Sym (List ℕ))
  rest : Items
  lines : items ≡ Ins insn ∷ rest

probe_begins : (k : ℕ) (form : Probe) (rest : Items) → BeginsWithInsn (map Ins (probe_insns (syms.Counter k) form) ++ rest)
probe_begins k Inc rest = record { insn = _; rest = _; lines = refl }
probe_begins k (Dead r) rest = record { insn = _; rest = _; lines = refl }
probe_begins k Spill rest = record { insn = _; rest = _; lines = refl }

lines_begin : (t : Bool) (i : Insn (Sym (List ℕ))) (o : Option (ℕ × Probe)) (rest : Items) → BeginsWithInsn (insn_items t (Ins i) (probe_items o) ++ rest)
lines_begin true i o rest = record { insn = _; rest = _; lines = refl }
lines_begin false i None rest = record { insn = _; rest = _; lines = refl }
lines_begin false i (Some counted) rest =
    subst BeginsWithInsn (sym (append_assoc (map Ins (probe_insns (syms.Counter counted.0) counted.1)) (Ins i ∷ []) rest)) (probe_begins counted.0 counted.1 (Ins i ∷ rest))

-- at a point these are its own
pub label-there : (file : List ℕ) (probes : Probes) (items : Items) (c q : ℕ) → AtPoint file probes items c q → LabelAt items c q
label-there file probes items c q at = by_turns at.turns at.enough at.good at.lines
  where
    bytes : List ℕ
    bytes = drop at.from (code_of_symbol file at.function)

    some : 0 < length (drop at.from (code_of_symbol file at.function))
    some = let size = length-drop at.from (code_of_symbol file at.function) in let inside = at.inside in omega (arith, size, inside)

    by_front : (k : ℕ) (o : Option (Insn ℕ × ℕ)) → decode_of c (drop at.from (code_of_symbol file at.function)) ≡ o → first_bad (suc k) c (drop at.from (code_of_symbol file at.function)) ≡ None
        → drop q items ≡ items_from file probes at.rest at.function.value (suc k) c (drop at.from (code_of_symbol file at.function)) → LabelAt items c q
    by_front k None e good lines = absurd (bad_here (first_bad k) c (drop at.from (code_of_symbol file at.function)) (decode_of c (drop at.from (code_of_symbol file at.function))) some e good)
    by_front k (Some d) e good lines =
        let next = items_from file probes at.rest at.function.value k (c + d.1) (drop d.1 (drop at.from (code_of_symbol file at.function))) in
        let front = lines_begin (is_endbr64 d.0) (with_symbols file d.0) (probes.at c) next in
        record {
          insn = front.insn;
          rest = front.rest;
          lines = lines ∙ items_at file probes at.rest at.function.value k c (drop at.from (code_of_symbol file at.function)) d e ∙ ap (λ xs. Label (label.Code c) ∷ xs) front.lines;
        }

    by_turns : (k : ℕ) → length (drop at.from (code_of_symbol file at.function)) ≤ k → first_bad k c (drop at.from (code_of_symbol file at.function)) ≡ None
        → drop q items ≡ items_from file probes at.rest at.function.value k c (drop at.from (code_of_symbol file at.function)) → LabelAt items c q
    by_turns zero enough good lines = let x = some in absurd (omega (arith, x, enough))
    by_turns (suc k) enough good lines = by_front k (decode_of c (drop at.from (code_of_symbol file at.function))) refl good lines
