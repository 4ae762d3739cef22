-- The items of any file have, behind the label of each point, its instruction, with its probe if it has one.
use Rattle.std.proofs.Common.{◌≡◌, ◌≢◌, ℕ, zero, suc, ◌+◌, ◌-◌, ◌%◌, ◌^◌, ◌<◌, ◌≤◌, List, [], ◌∷◌, ◌++◌, length, map, drop, append_assoc, Option, Some, None, Bool, true, false, ◌==◌, refl, sym, ap, subst, ◌∙◌, arith, length-drop, length-append}
use Rattle.std.specs.Prelude.{if◌then◌else◌, flat_map, is_some, option_map}
use Rattle.std.specs.List.{Contains, list_any}
use Rattle.std.specs.Option.{option_map_or}
use Rattle.std.proofs.lemmas.Bool.{eqb-true, eq-eqb}
use Rattle.std.proofs.lemmas.List.{length-map}
use Rattle.x86_insn.specs.declared.instruction.Insn.{Insn}
use Rattle.x86_insn.specs.declared.instruction.Insn.TheVariants as insn
use Rattle.x86_insn.specs.declared.kinds.Plain.TheVariants as plain
use Rattle.x86_insn.specs.References.{reference_of}
use Rattle.x86_meaning.specs.Meaning.{micro_of}
use Rattle.asm_items.specs.declared.item.Item.TheVariants.{Label, Ins}
use Rattle.asm_items.specs.declared.item.Label as label_type
use Rattle.asm_items.specs.declared.item.Label.TheVariants as label
use Rattle.asm_items.specs.declared.item.Sym.{Sym}
use Rattle.asm_items.specs.declared.item.Sym.TheVariants as syms
use Rattle.asm_items.specs.Lines.{Items}
use Rattle.asm_items.specs.Layout.{Layout, symbol_at, printed_insn, labels_before, next_place}
use Rattle.rw_words.specs.declared.atom.Atom.{Atom}
use Rattle.rw_words.specs.declared.atom.Atom.TheVariants.{Code}
use Rattle.rw_words.specs.declared.atom.Atom.TheVariants as atom
use Rattle.rw_words.specs.declared.atom.Cell.{Cell}
use Rattle.rw_words.specs.Words.{atom_cells}
use Rattle.rw_domain.specs.LaidOut.{WordStands}
use Rattle.rw_domain.proofs.KnownWords.{atom-word}
use Rattle.rw_domain.specs.Stands.{OptionStands}
use Rattle.rw_elf.specs.declared.symbol.Symbol.{Symbol}
use Rattle.rw_funcs.specs.Functions.{kept_functions, functions_of, function_at, code_of_symbol, end_of}
use Rattle.x86_decode.specs.Reading.{decode_of}
use Rattle.rw_funcs.specs.Points.{Point, points_from, points, first_bad, point_at, file_points}
use Rattle.rw_funcs.proofs.Fuel.{front_fits, drop_drop}
use Rattle.rw_refs.specs.CodeReferences.{is_direct}
use Rattle.rw_machine.specs.Operations.{takes_next}
use Rattle.rw_machine.specs.Program.{Program}
use Rattle.rw_machine.specs.Stands.{InsnFollows}
use Rattle.rw_runs.proofs.Lists.{get-front}
use Rattle.rw_code.specs.declared.point.FilePoint.{FilePoint}
use Rattle.rw_code.specs.declared.point.FilePoint.TheVariants.{At, Past}
use Rattle.rw_code.specs.Ground.{Ground}
use Rattle.rw_code.specs.Start.{Start}
use Rattle.rw_code.specs.Known.{has_address}
use Rattle.rw_code.specs.File.{labels_of, insn_of, behind, point_after, point_word, refers, reference_word, symbolic}
use Rattle.rw_code.specs.Imports.{import_name}
use Rattle.rw_code.specs.Printed.{printed, IsLabelOf, IsNamed}
use Rattle.rw_code.proofs.Functions.{function-around}
use Rattle.rw_code.proofs.Points.{IsKnown, found-at, next-known}
use Rattle.rw_probe.specs.declared.form.Probe.{Probe}
use Rattle.rw_probe.specs.declared.form.Probe.TheVariants.{Inc, Dead, Spill}
use Rattle.rw_probe.specs.Counting.{StandFrom}
use Rattle.rw_probe.specs.Probes.{probe_insns}
use Rattle.rw_probe.specs.ProbedPrograms.{is_endbr64, PointStands, ProbeStands, StandsProbed}
use Rattle.rw_out.specs.Items.{Probes, symbol_named, with_symbols, probe_items, insn_items, point_items, closing, items_with}
use Rattle.rw_out.specs.Simulates.{names_of, IsTextLayout, probe_at, text_addresses}
use Rattle.rw_code.proofs.Direct.{taken-as}
use Rattle.rw_code.proofs.References.{references-stand}
use Rattle.rw_out.proofs.FileSymbols.{reference-shown}
use Rattle.rw_data.proofs.Clean.{IsClean}
use Rattle.rw_out.proofs.OneFunction.{point-spelled}
use Rattle.rw_out.proofs.FilePlaces.{its_functions, AtPoint, items_from, items_at, behind_lines, lines_of, bad_next, drop_through, label-there}
use Rattle.x86_insn.proofs.Referring.{reference_mapped}
use Rattle.x86_meaning.proofs.SameMicro.{same_micro}

abbrev pub AtItem : List ℕ → Probes → Items → FilePoint → ℕ → Type 0
AtItem file probes items (At a) q = AtPoint file probes items a q
AtItem file probes items (Past s) q = (rest : Items) × (drop q items ≡ closing s ++ rest)

front_nil : (a : ℕ) → decode_of a [] ≡ None
front_nil a = by_answer (decode_of a []) refl
  where
    by_answer : (o : Option (Insn ℕ × ℕ)) → decode_of a [] ≡ o → o ≡ None
    by_answer None e = refl
    by_answer (Some d) e = let h = front_fits a [] d e in let some = h.0 in let most = h.1 in absurd (omega (arith, some, most))

points_nil : (k a : ℕ) → points k a [] ≡ []
points_nil zero a = refl
points_nil (suc k) a = ap (λ o. points_from k a [] o (points k)) (front_nil a)

true_false : true ≡ false → ⊥
true_false e = cc

nil_at : {A : Type 0} (n : ℕ) (xs : List A) → length xs ≤ n → ◌≡◌ {A = List A} (drop n xs) []
nil_at zero [] h = refl
nil_at zero (x ∷ xs) h = absurd (omega (arith, h))
nil_at (suc n) [] h = refl
nil_at (suc n) (x ∷ xs) h = nil_at n xs (omega (arith, h))

-- at a point, the item is its label
pub label-at : (file : List ℕ) (probes : Probes) (items : Items) (p : FilePoint) (q : ℕ) → AtItem file probes items p q → IsLabelOf items p q
label-at file probes items (At a) q h = let there = label-there file probes items a q h in get-front q items _ _ there.lines
label-at file probes items (Past s) q h = get-front q items _ _ h.1

-- ---- instructions one after another

-- the symbol of a counter
abbrev pub counter : ℕ → Sym (List ℕ)
counter k = syms.Counter k

module _ (items : Items) (names : List (List ℕ)) (layout : Layout) where
  abbrev prog : Program ℕ (Sym (List ℕ)) ℕ
  prog = printed items names layout

  -- what begins with an instruction
  insn-here : (q : ℕ) (i : Insn (Sym (List ℕ))) (rest : Items) → drop q items ≡ Ins i ∷ rest → (printed_insn (drop q items) ≡ Some i) × (next_place items q + 1 ≡ q + 1)
  insn-here q i rest e = (ap printed_insn e, ap (λ xs. q + labels_before xs + 1) e ∙ (let z : q + labels_before (Ins i ∷ rest) + 1 ≡ q + 1 = omega arith in z))

  -- behind a label
  insn-labelled : (q : ℕ) (l : label_type.Label) (i : Insn (Sym (List ℕ))) (rest : Items) → drop q items ≡ Label l ∷ Ins i ∷ rest → (printed_insn (drop q items) ≡ Some i) × (next_place items q + 1 ≡ q + 2)
  insn-labelled q l i rest e = (ap printed_insn e, ap (λ xs. q + labels_before xs + 1) e ∙ (let z : q + labels_before (Label l ∷ Ins i ∷ rest) + 1 ≡ q + 2 = omega arith in z))

  insns-stand : (is : List (Insn (Sym (List ℕ)))) (q : ℕ) (rest : Items) → drop q items ≡ map Ins is ++ rest → StandFrom prog q is (q + length is)
  insns-stand [] q rest e = omega arith
  insns-stand (i ∷ is) q rest e =
      let here = insn-here q i (map Ins is ++ rest) e in
      let more : drop (q + 1) items ≡ map Ins is ++ rest = sym (drop_drop q 1 items) ∙ ap (λ xs. drop 1 xs) e in
      let sum : q + 1 + length is ≡ q + length (i ∷ is) = omega arith in
      (here.0, subst (λ t. StandFrom prog t is (q + length (i ∷ is))) (sym here.1) (subst (StandFrom prog (q + 1) is) sum (insns-stand is (q + 1) rest more)))

  labelled-stand : (l : label_type.Label) (is : List (Insn (Sym (List ℕ)))) (q : ℕ) (rest : Items) → 0 < length is → drop q items ≡ Label l ∷ (map Ins is ++ rest) → StandFrom prog q is (q + suc (length is))
  labelled-stand l [] q rest some e = absurd (omega (arith, some))
  labelled-stand l (i ∷ is) q rest some e =
      let here = insn-labelled q l i (map Ins is ++ rest) e in
      let more : drop (q + 2) items ≡ map Ins is ++ rest = sym (drop_drop q 2 items) ∙ ap (λ xs. drop 2 xs) e in
      let sum : q + 2 + length is ≡ q + suc (length (i ∷ is)) = omega arith in
      (here.0, subst (λ t. StandFrom prog t is (q + suc (length (i ∷ is)))) (sym here.1) (subst (StandFrom prog (q + 2) is) sum (insns-stand is (q + 2) rest more)))

-- a probe has instructions
some-insns : (k : ℕ) (form : Probe) → 0 < length (probe_insns (counter k) form)
some-insns k Inc = omega arith
some-insns k (Dead r) = omega arith
some-insns k Spill = omega arith

module _ (file : List ℕ) (probes : Probes) (clean : IsClean file) (file_ground : Ground) (start : Start) (layout : Layout) (is : IsTextLayout file (items_with file probes) start layout) where
  abbrev items : Items
  items = items_with file probes

  abbrev d : Program ℕ (Sym (List ℕ)) ℕ
  d = printed items (names_of file items) layout

  abbrev Near : FilePoint → ℕ → Type 0
  Near p q = AtItem file probes items p q

  abbrev Words : List Cell → ℕ → Type 0
  Words a n = WordStands (text_addresses file layout) (has_address (labels_of file file_ground)) a n

  abbrev known : Atom → Bool
  known = has_address (labels_of file file_ground)

  -- the point behind one
  abbrev after : ℕ → FilePoint
  after a = point_after (functions_of file) a (point_at (file_points file) a)

  -- the word of a point is the address of its label
  word_stands : (p : FilePoint) (q : ℕ) → Near p q → IsKnown file file_ground p → Words (point_word p) (layout.insn (next_place items q) % 2 ^ 64)
  word_stands (At a) q h there =
      let at = label-there file probes items a q h in
      subst (λ z. Words (atom_cells (Code a)) (z % 2 ^ 64)) (is.labels q (label.Code a) at.insn (label-at file probes items (At a) q h) (ap printed_insn at.lines)) (atom-word (text_addresses file layout) known (Code a) there)
  word_stands (Past s) q h there =
      subst (λ z. Words (atom_cells (atom.Past s)) (z % 2 ^ 64)) (is.labels q (label.Past s) _ (label-at file probes items (Past s) q h) (ap printed_insn h.1)) (atom-word (text_addresses file layout) known (atom.Past s) there)

  -- each reference is the address of its symbol
  abbrev RefsStand : Bool → Option ℕ → Option (Sym (List ℕ)) → Type 0
  RefsStand direct a b = OptionStands {A = ℕ} {T = Sym (List ℕ)} (λ x y. Words (reference_word (refers file x direct)) (symbol_at items layout y)) a b

  ref_stands : (direct : Bool) (o : Option ℕ) → ((r : ℕ) → o ≡ Some r → is_some (refers file r direct) ≡ true) → RefsStand direct o (option_map (symbol_named file direct) o)
  unfolding symbol_named
  ref_stands direct None some = tt
  ref_stands direct (Some r) some = reference-shown file probes _ _ layout is file_ground r direct (refers file r direct) refl (some r refl)

  refs : (i : Insn ℕ) (direct : Bool) → direct ≡ is_direct i → ((r : ℕ) → reference_of i ≡ Some r → is_some (refers file r (is_direct i)) ≡ true) → RefsStand direct (reference_of i) (reference_of (with_symbols file i))
  unfolding with_symbols
  refs i direct same some =
      subst (λ t. RefsStand t (reference_of i) (reference_of (with_symbols file i))) (sym same)
      (subst (RefsStand (is_direct i) (reference_of i)) (sym (reference_mapped (symbol_named file (is_direct i)) i)) (ref_stands (is_direct i) (reference_of i) some))

  -- the instruction of a point where it is printed, by what holds of the place behind it
  follows : (Near' : FilePoint → ℕ → Type 0) (a t : ℕ) (p : Point) → point_at (file_points file) a ≡ Some p → printed_insn (drop t items) ≡ Some (with_symbols file p.insn) → Near' (after a) (next_place items t + 1)
      → (list_any takes_next (micro_of p.insn) ≡ true → Words (point_word (after a)) (layout.insn (next_place items (next_place items t + 1)) % 2 ^ 64))
      → InsnFollows Words Near' (symbolic file) d (At a) t (Some p.insn) (printed_insn (drop t items))
  unfolding with_symbols
  follows Near' a t p found here next address =
      subst (InsnFollows Words Near' (symbolic file) d (At a) t (Some p.insn)) (sym here)
      (record {
        micro = sym (same_micro (symbol_named file (is_direct p.insn)) p.insn);
        reference = λ direct taken. refs p.insn direct (taken-as p.insn direct taken) (references-stand file clean.references a p found);
        next = next;
        address = address;
      })

  after-known : (a : ℕ) (p : Point) → point_at (file_points file) a ≡ Some p → IsKnown file file_ground (after a)
  after-known a p found = subst (λ o. IsKnown file file_ground (point_after (functions_of file) a o)) (sym found) (next-known file file_ground (its_functions file clean) a p found)

  -- where the label of the next point is the place behind it
  follows-bare : (a t : ℕ) (p : Point) → point_at (file_points file) a ≡ Some p → printed_insn (drop t items) ≡ Some (with_symbols file p.insn) → Near (after a) (next_place items t + 1)
      → InsnFollows Words Near (symbolic file) d (At a) t (Some p.insn) (printed_insn (drop t items))
  follows-bare a t p found here next = follows Near a t p found here next (λ taken. word_stands (after a) (next_place items t + 1) next (after-known a p found))

  -- ---- the lines of a point

  pub record HasLines (a q : ℕ) (p : Point) : Type 0 where
    rest : Items
    lines : drop q items ≡ Label (label.Code a) ∷ (lines_of file probes a p.insn ++ rest)
    next : Near (after a) (q + suc (length (lines_of file probes a p.insn)))

  module _ (f : Symbol) (one_of : Contains (kept_functions file) f) (rest : Items) where
    abbrev code : List ℕ
    code = code_of_symbol file f

    -- behind a point of a function stands what comes behind it there
    after_point : (a q len k m : ℕ) → a ≡ f.value + m → m < length code → 0 < len → len ≤ length (drop m code) → length (drop m code) ≤ suc k
        → first_bad k (a + len) (drop len (drop m code)) ≡ None
        → drop q items ≡ items_from file probes rest f.value k (a + len) (drop len (drop m code))
        → (t : Bool) → (a + len == end_of f) ≡ t → IsKnown file file_ground (if t then Past f.value else At (a + len)) → Near (if t then Past f.value else At (a + len)) q
    after_point a q len k m e inside some fits enough good lines true same is_known =
        let sized = ((its_functions file clean).each f one_of).size in
        let size : length (drop m code) ≡ length code - m = length-drop m code in
        let behind : drop len (drop m code) ≡ drop (m + len) code = drop_drop m len code in
        let last : a + len ≡ end_of f = eqb-true (a + len) (end_of f) same in
        let empty : drop len (drop m code) ≡ [] = behind ∙ nil_at (m + len) code (omega (arith, e, last, sized)) in
        (rest, lines ∙ ap (λ bytes. items_from file probes rest f.value k (a + len) bytes) empty ∙ ap (λ ps. (flat_map (point_items file probes) ps ++ closing f.value) ++ rest) (points_nil k (a + len)))
    after_point a q len k m e inside some fits enough good lines false other is_known =
        let sized = ((its_functions file clean).each f one_of).size in
        let size : length (drop m code) ≡ length code - m = length-drop m code in
        let behind : drop len (drop m code) ≡ drop (m + len) code = drop_drop m len code in
        let more : length (drop (m + len) code) ≡ length code - (m + len) = length-drop (m + len) code in
        let not_last : a + len ≢ end_of f = λ same. true_false (sym (eq-eqb (a + len) (end_of f) same) ∙ other) in
        record {
          function = f;
          one_of = one_of;
          turns = k;
          from = m + len;
          rest = rest;
          place = omega (arith, e);
          inside = omega (arith, e, size, fits, inside, sized, not_last);
          there = is_known;
          enough = omega (arith, more, size, enough, some);
          good = subst (λ bytes. first_bad k (a + len) bytes ≡ None) behind good;
          lines = lines ∙ ap (λ bytes. items_from file probes rest f.value k (a + len) bytes) behind;
        }

    point_lines : (a q : ℕ) (p : Point) → point_at (file_points file) a ≡ Some p → (m : ℕ) → a ≡ f.value + m → decode_of a (drop m code) ≡ Some (p.insn, p.len)
        → (k : ℕ) → m < length code → length (drop m code) ≤ k → first_bad k a (drop m code) ≡ None → drop q items ≡ items_from file probes rest f.value k a (drop m code)
        → HasLines a q p
    point_lines a q p found m e d zero inside enough good lines =
        let size = length-drop m code in absurd (omega (arith, size, inside, enough))
    point_lines a q p found m e d (suc k) inside enough good lines =
        let functions = its_functions file clean in
        let sized = (functions.each f one_of).size in
        let bytes = drop m code in
        let size : length bytes ≡ length code - m = length-drop m code in
        let nonempty : 0 < length bytes = omega (arith, size, inside) in
        let fits : (0 < p.len) × (p.len ≤ length bytes) = front_fits a bytes (p.insn, p.len) d in
        let place = q + suc (length (lines_of file probes a p.insn)) in
        let others : drop place items ≡ items_from file probes rest f.value k (a + p.len) (drop p.len bytes) = behind_lines file probes items rest f.value k a q bytes (p.insn, p.len) d lines in
        let after_is : after a ≡ behind (a + p.len) (Some (function_at f)) =
        ap (point_after (functions_of file) a) found ∙ ap (behind (a + p.len)) (function-around file functions f one_of a (omega (arith, e)) (omega (arith, e, inside, sized))) in
        record {
          rest = items_from file probes rest f.value k (a + p.len) (drop p.len bytes);
          lines = lines ∙ items_at file probes rest f.value k a bytes (p.insn, p.len) d;
          next =
              subst (λ z. Near z place) (sym after_is)
              (after_point a place p.len k m e inside fits.0 fits.1 enough (bad_next (first_bad k) a bytes (decode_of a bytes) (p.insn, p.len) nonempty d good) others (a + p.len == end_of f) refl
              (subst (IsKnown file file_ground) after_is (after-known a p found)));
        }

  lines-at : (a q : ℕ) → AtPoint file probes items a q → (p : Point) → point_at (file_points file) a ≡ Some p → HasLines a q p
  lines-at a q h p found =
      let sized = ((its_functions file clean).each h.function h.one_of).size in
      let inside = h.inside in
      point_lines h.function h.one_of h.rest a q p found h.from h.place (point-spelled file (its_functions file clean) clean.functions h.function h.one_of h.from a h.place (omega (arith, inside, sized)) p found) h.turns h.inside h.enough h.good h.lines

  -- ---- what stands at the label of a point

  -- by whether the instruction is endbr64, and which probe there is
  module _ (a q : ℕ) (p : Point) (found : point_at (file_points file) a ≡ Some p) where
    abbrev Lines : Bool → Option (ℕ × Probe) → Items
    Lines t o = insn_items t (Ins (with_symbols file p.insn)) (probe_items o)

    bare : (rest : Items) → drop q items ≡ Label (label.Code a) ∷ Ins (with_symbols file p.insn) ∷ rest → Near (after a) (q + 2) → InsnFollows Words Near (symbolic file) d (At a) q (Some p.insn) (printed_insn (drop q items))
    bare rest lines next =
        let here = insn-labelled items (names_of file items) layout q (label.Code a) (with_symbols file p.insn) rest lines in
        follows-bare a q p found here.0 (subst (Near (after a)) (sym here.1) next)

    probe-before : (k : ℕ) (form : Probe) (rest : Items) → drop q items ≡ Label (label.Code a) ∷ (Lines false (Some (k, form)) ++ rest) → Near (after a) (q + suc (length (Lines false (Some (k, form)))))
        → ProbeStands d counter (k, form) q (λ t. InsnFollows Words Near (symbolic file) d (At a) t (Some p.insn) (printed_insn (drop t items)))
    probe-before k form rest lines next =
        let probe = map Ins (probe_insns (counter k) form) in
        let more = Ins (with_symbols file p.insn) ∷ rest in
        let split : drop q items ≡ Label (label.Code a) ∷ (probe ++ more) = lines ∙ ap (λ xs. Label (label.Code a) ∷ xs) (append_assoc probe (Ins (with_symbols file p.insn) ∷ []) rest) in
        let size : length probe ≡ length (probe_insns (counter k) form) = length-map (probe_insns (counter k) form) Ins in
        let sizes = length-append probe (Ins (with_symbols file p.insn) ∷ []) in
        let place = q + suc (length (probe_insns (counter k) form)) in
        let same : q + suc (length probe) ≡ place = ap (λ n. q + suc n) size in
        let there : drop place items ≡ Ins (with_symbols file p.insn) ∷ rest =
        ap (λ t. drop t items) (sym same) ∙ sym (drop_drop q (suc (length probe)) items) ∙ ap (λ xs. drop (suc (length probe)) xs) split ∙ drop_through probe more in
        let here = insn-here items (names_of file items) layout place (with_symbols file p.insn) rest there in
        let last : q + suc (length (probe ++ Ins (with_symbols file p.insn) ∷ [])) ≡ place + 1 = omega (arith, sizes, size) in
        record {
          behind = place;
          insns = labelled-stand items (names_of file items) layout (label.Code a) (probe_insns (counter k) form) q more (some-insns k form) split;
          then_holds = follows-bare a place p found here.0 (subst (Near (after a)) (sym here.1) (subst (Near (after a)) last next));
        }

    probe-behind : (k : ℕ) (form : Probe) (rest : Items) → list_any takes_next (micro_of p.insn) ≡ false → drop q items ≡ Label (label.Code a) ∷ (Lines true (Some (k, form)) ++ rest) → Near (after a) (q + suc (length (Lines true (Some (k, form)))))
        → InsnFollows Words (λ s t. ProbeStands d counter (k, form) t (Near s)) (symbolic file) d (At a) q (Some p.insn) (printed_insn (drop q items))
    probe-behind k form rest none lines next =
        let probe = map Ins (probe_insns (counter k) form) in
        let size : length probe ≡ length (probe_insns (counter k) form) = length-map (probe_insns (counter k) form) Ins in
        let here = insn-labelled items (names_of file items) layout q (label.Code a) (with_symbols file p.insn) (probe ++ rest) lines in
        let there : drop (q + 2) items ≡ probe ++ rest = sym (drop_drop q 2 items) ∙ ap (λ xs. drop 2 xs) lines in
        let last : q + suc (length (Ins (with_symbols file p.insn) ∷ probe)) ≡ q + 2 + length (probe_insns (counter k) form) = omega (arith, size) in
        follows (λ s t. ProbeStands d counter (k, form) t (Near s)) a q p found here.0
        (subst (λ t. ProbeStands d counter (k, form) t (Near (after a))) (sym here.1)
        (record {
          behind = q + 2 + length (probe_insns (counter k) form);
          insns = insns-stand items (names_of file items) layout (probe_insns (counter k) form) (q + 2) rest there;
          then_holds = subst (Near (after a)) last next;
        }))
        (λ taken. absurd (true_false (sym taken ∙ none)))

  -- endbr64 doesn't take the next address
  no-next : (i : Insn ℕ) → is_endbr64 i ≡ true → list_any takes_next (micro_of i) ≡ false
  no-next (insn.Plain plain.Endbr64) e = refl
  no-next i e = cc

  abbrev Named : ℕ → ℕ → Type 0
  Named i j = IsNamed (import_name file) (names_of file items) i j

  module _ (a q : ℕ) (p : Point) (found : point_at (file_points file) a ≡ Some p) (has : HasLines a q p) where
    abbrev shown : Insn (Sym (List ℕ))
    shown = with_symbols file p.insn

    lines-are : (t : Bool) (o : Option (ℕ × Probe)) → is_endbr64 p.insn ≡ t → probes.at a ≡ o → lines_of file probes a p.insn ≡ insn_items t (Ins shown) (probe_items o)
    lines-are t o kind e = ap (λ t. insn_items t (Ins shown) (probe_items (probes.at a))) kind ∙ ap (λ o. insn_items t (Ins shown) (probe_items o)) e

    there : (xs : Items) → lines_of file probes a p.insn ≡ xs → drop q items ≡ Label (label.Code a) ∷ (xs ++ has.rest)
    there xs same = has.lines ∙ ap (λ xs. Label (label.Code a) ∷ (xs ++ has.rest)) same

    behind-them : (xs : Items) → lines_of file probes a p.insn ≡ xs → Near (after a) (q + suc (length xs))
    behind-them xs same = subst (λ xs. Near (after a) (q + suc (length xs))) same has.next

    alone : (t : Bool) → is_endbr64 p.insn ≡ t → probes.at a ≡ None → lines_of file probes a p.insn ≡ Ins shown ∷ []
    alone true kind e = lines-are true None kind e
    alone false kind e = lines-are false None kind e

    -- where the instruction at the point is that of p
    abbrev Kind : ℕ × Probe → Bool → Option Point → Type 0
    Kind probe true o = InsnFollows Words (λ s t. ProbeStands d counter probe t (Near s)) (symbolic file) d (At a) q (insn_of o) (printed_insn (drop q items))
    Kind probe false o = ProbeStands d counter probe q (λ t. InsnFollows Words Near (symbolic file) d (At a) t (insn_of o) (printed_insn (drop t items)))

    by_kind : (probe : ℕ × Probe) → probes.at a ≡ Some probe → (t : Bool) → is_endbr64 p.insn ≡ t → StandsProbed Words Named Near (symbolic file) d counter probe t (At a) q
    by_kind probe e true kind =
        let same = lines-are true (Some probe) kind e in
        subst (Kind probe true) (sym found) (probe-behind a q p found probe.0 probe.1 has.rest (no-next p.insn kind) (there _ same) (behind-them _ same))
    by_kind probe e false kind =
        let same = lines-are false (Some probe) kind e in
        subst (Kind probe false) (sym found) (probe-before a q p found probe.0 probe.1 has.rest (there _ same) (behind-them _ same))

    by_probe : (o : Option (ℕ × Probe)) → probes.at a ≡ o → PointStands Words Named Near (symbolic file) d counter o (At a) q
    by_probe None e =
        let same = alone (is_endbr64 p.insn) refl e in
        subst (λ o. InsnFollows Words Near (symbolic file) d (At a) q (insn_of o) (printed_insn (drop q items))) (sym found) (bare a q p found has.rest (there _ same) (behind-them _ same))
    by_probe (Some probe) e =
        subst (λ t. StandsProbed Words Named Near (symbolic file) d counter probe t (At a) q) (sym (ap (λ o. option_map_or is_endbr64 (insn_of o) false) found)) (by_kind probe e (is_endbr64 p.insn) refl)

  pub printed-points : (p : FilePoint) (q : ℕ) → Near p q → PointStands Words Named Near (symbolic file) d counter (probe_at probes p) p q
  printed-points (Past s) q h = tt
  printed-points (At a) q h =
      let found = found-at (file_points file) a h.there in
      by_probe a q found.0 found.1 (lines-at a q h found.0 found.1) (probes.at a) refl
