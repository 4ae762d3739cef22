-- The items of a file are items of a text, and there are few enough of them that the count of the text's bytes fits its type.
use Rattle.std.proofs.Common.{◌≡◌, ℕ, zero, suc, ◌+◌, ◌-◌, ◌*◌, ◌^◌, ◌<◌, ◌≤◌, Bool, true, false, cond, ◌&&◌, ◌==◌, List, [], ◌∷◌, ◌++◌, drop, length, map, Option, Some, None, refl, sym, ◌∙◌, arith, lit≤, length-append, length-drop}
use Rattle.std.specs.Prelude.{codes, flat_map, slice_range}
use Rattle.std.specs.List.{Contains, list_all}
use Rattle.std.proofs.Math.Nat.{mul-suc}
use Rattle.std.proofs.lemmas.Bool.{and_from, lt-ltb, ltb-true}
use Rattle.std.proofs.lemmas.List.{length-take}
use Rattle.std.proofs.lemmas.List.Elements.{All-append, All-cons, All-drop, All-from_recursion, All-nil, All-take}
use Rattle.rw_base.specs.Name.{is_good_name, is_own_name}
use Rattle.x86_insn.specs.declared.instruction.Insn.{Insn}
use Rattle.x86_insn.specs.declared.instruction.Insn.TheVariants as insn
use Rattle.x86_insn.specs.declared.kinds.Plain.TheVariants.{Int3}
use Rattle.x86_insn.specs.References.{references_of}
use Rattle.x86_insn.proofs.SameForm.{same-fields, same-form, same-references}
use Rattle.x86_decode.specs.Reading.{decode_of}
use Rattle.x86_decode.proofs.FieldsGood.{decode_fits}
use Rattle.x86_decode.proofs.OperandGood.{AreBytes}
use Rattle.x86_decode.proofs.WellFormedLaws.{decode_good}
use Rattle.asm_items.specs.declared.item.Item.{Item}
use Rattle.asm_items.specs.declared.item.Item.TheVariants as items
use Rattle.asm_items.specs.declared.item.Label.TheVariants as label
use Rattle.asm_items.specs.declared.item.Sym.{Sym}
use Rattle.asm_items.specs.declared.item.Sym.TheVariants as syms
use Rattle.asm_items.specs.Formed.{AreItems, is_half, is_item, is_sym, is_word}
use Rattle.rw_elf.specs.declared.section.Section.{Section}
use Rattle.rw_elf.specs.declared.symbol.Symbol.{Symbol}
use Rattle.rw_elf.specs.Places.{section_bytes}
use Rattle.rw_elf.specs.Sections.{has_bytes}
use Rattle.rw_elf.proofs.Limits.{clean_size}
use Rattle.rw_funcs.specs.Functions.{code_of_symbol, entry_of, is_hosted, its_section, kept_functions, name_of_symbol}
use Rattle.rw_funcs.specs.Points.{points, points_from, points_of}
use Rattle.rw_funcs.proofs.Facts.{code_ends, good_name}
use Rattle.rw_funcs.proofs.Fuel.{front_fits}
use Rattle.rw_code.proofs.Clean.{are-functions}
use Rattle.rw_refs.specs.CodeReferences.{is_direct}
use Rattle.rw_data.proofs.Clean.{IsClean}
use Rattle.rw_probe.specs.declared.form.Probe.{Probe}
use Rattle.rw_probe.specs.declared.form.Probe.TheVariants as probe
use Rattle.rw_probe.specs.Probes.{probe_insns}
use Rattle.rw_probe.specs.ProbedPrograms.{is_endbr64}
use Rattle.rw_out.specs.Items.{Probes, closing, entry_items, entry_items_at, function_items, insn_items, opening, point_items, probe_items, start_name, symbol_named, with_symbols}
use Rattle.rw_out.specs.Kept.{AreFew}
use Rattle.rw_out.proofs.Few.{functions-few}
use Rattle.rw_out.proofs.Imports.{named-shown}

-- ---- lists of items of a text, of a bounded length

abbrev Items : Type 0
Items = List (Item (List ℕ))

abbrev pub Fine : List (Item (List ℕ)) → ℕ → Type 0
Fine xs n = AreItems xs × (length xs ≤ n)

abbrev IsItem : Item (List ℕ) → Type 0
IsItem item = is_item item ≡ true

pub fine-nil : (n : ℕ) → Fine [] n
fine-nil n = (All-nil IsItem, omega arith)

pub fine-item : (x : Item (List ℕ)) (xs : List (Item (List ℕ))) (n : ℕ) → is_item x ≡ true → Fine xs n → Fine (x ∷ xs) (n + 1)
fine-item x xs n h k = let few = k.1 in (All-cons IsItem x xs h k.0, omega (arith, few))

pub fine-more : (xs : List (Item (List ℕ))) (n m : ℕ) → n ≤ m → Fine xs n → Fine xs m
fine-more xs n m le h = let few = h.1 in (h.0, omega (arith, le, few))

pub fine-append : (xs ys : List (Item (List ℕ))) (n m : ℕ) → Fine xs n → Fine ys m → Fine (xs ++ ys) (n + m)
fine-append xs ys n m a b =
    let size = length-append xs ys in
    let first = a.1 in
    let second = b.1 in
    (All-append IsItem xs ys a.0 b.0, omega (arith, size, first, second))

pub fine-each : {A : Type 0} (f : A → List (Item (List ℕ))) (b : ℕ) (xs : List A) → ((x : A) → Contains xs x → Fine (f x) b) → Fine (flat_map f xs) (b * length xs)
fine-each f b [] h = fine-nil (b * 0)
fine-each f b (x ∷ xs) h =
    let more : b + b * length xs ≤ b * suc (length xs) = let e = mul-suc b (length xs) in omega (arith, e) in
    fine-more (f x ++ flat_map f xs) (b + b * length xs) (b * suc (length xs)) more
    (fine-append (f x) (flat_map f xs) b (b * length xs) (h x (0, omega arith, refl)) (fine-each f b xs (λ y at. h y (suc at.0, (let low = at.1 in omega (arith, low)), at.2))))

-- ---- instructions

implied : (p q : ℕ → Bool) → ((n : ℕ) → p n ≡ true → q n ≡ true) → (xs : List ℕ) → list_all p xs ≡ true → list_all q xs ≡ true
implied p q each [] h = refl
implied p q each (x ∷ xs) h = let parts = two (p x) (list_all p xs) h in and_from (q x) (list_all q xs) (each x parts.0) (implied p q each xs parts.1)
  where
    two : (a b : Bool) → (a && b) ≡ true → (a ≡ true) × (b ≡ true)
    two true b g = (refl, g)
    two false b g = absurd (cc)

pub decoded-item : (file : List ℕ) → IsClean file → (a : ℕ) (bytes : List ℕ) (d : Insn ℕ × ℕ) → AreBytes bytes → decode_of a bytes ≡ Some d → is_item (items.Ins (with_symbols file d.0)) ≡ true
unfolding with_symbols
decoded-item file clean a bytes d h e =
    let f = symbol_named file (is_direct d.0) in
    let fit = decode_fits a bytes d e h in
    let shown : list_all (λ r. is_sym (f r)) (references_of d.0) ≡ true = implied is_word (λ r. is_sym (f r)) (λ r word. named-shown file clean (is_direct d.0) r (ltb-true r (2 ^ 64) word)) (references_of d.0) fit.1 in
    and_from _ _
    (and_from _ _ (same-form f d.0 ∙ decode_good a bytes (Some d) (sym e) h) (same-references f (λ r. is_sym (f r)) is_sym (λ r. refl) d.0 ∙ shown))
    (same-fields f d.0 ∙ fit.0)

-- ---- the instructions of a probe

-- A counter whose number fits 32 bits is a symbol.
refers : (t : Bool) → t ≡ true → ((t && true) && true) ≡ true
refers true h = refl
refers false h = absurd (cc)

module _ (k : ℕ) (half : is_half k ≡ true) where
  abbrev counter : Sym (List ℕ)
  counter = syms.Counter k

  here : ((is_half k && true) && true) ≡ true
  here = refers (is_half k) half

  by-form : (form : Probe) → Fine (map items.Ins (probe_insns counter form)) 7
  by-form probe.Inc = (All-from_recursion IsItem (map items.Ins (probe_insns counter probe.Inc)) (here, tt), lit≤ tt)
  by-form (probe.Dead r) = (All-from_recursion IsItem (map items.Ins (probe_insns counter (probe.Dead r))) (here, (refl, (here, tt))), lit≤ tt)
  by-form probe.Spill = (All-from_recursion IsItem (map items.Ins (probe_insns counter probe.Spill)) (refl, (refl, (here, (refl, (here, (refl, (refl, tt))))))), lit≤ tt)

probe-fine : (k : ℕ) (form : Probe) → k < 2 ^ 32 → Fine (map items.Ins (probe_insns (syms.Counter k) form)) 7
probe-fine k form low = by-form k (lt-ltb k (2 ^ 32) low) form

-- ---- functions

module _ (file : List ℕ) (clean : IsClean file) (all : AreBytes file) (probes : Probes) (counters : AreFew probes) where
  word : (a : ℕ) → a ≤ 2 ^ 47 → is_word a ≡ true
  word a h = lt-ltb a (2 ^ 64) (omega (arith, h))

  -- a point has nine lines at most: its label, its instruction and the seven of a probe
  lines-fine : (t : Bool) (x : Item (List ℕ)) (probe : Items) → is_item x ≡ true → Fine probe 7 → Fine (insn_items t x probe) 8
  lines-fine true x probe h p = fine-item x probe 7 h p
  lines-fine false x probe h p = fine-append probe (x ∷ []) 7 1 p (fine-item x [] 0 h (fine-nil 0))

  some-fine : (a : ℕ) (o : Option (ℕ × Probe)) → probes.at a ≡ o → Fine (probe_items o) 7
  some-fine a None e = fine-nil 7
  some-fine a (Some counted) e =
      let low = counters.numbers a counted.0 counted.1 e in
      let few = counters.counters in
      probe-fine counted.0 counted.1 (omega (arith, low, few))

  abbrev ArePoints : ℕ → Type 0
  ArePoints k = (a : ℕ) (bytes : List ℕ) → AreBytes bytes → a + length bytes ≤ 2 ^ 47 → Fine (flat_map (point_items file probes) (points k a bytes)) (9 * length bytes)

  step-fine : (k a : ℕ) (bytes : List ℕ) (o : Option (Insn ℕ × ℕ)) → ArePoints k → decode_of a bytes ≡ o → AreBytes bytes → a + length bytes ≤ 2 ^ 47 → Fine (flat_map (point_items file probes) (points_from k a bytes o (points k))) (9 * length bytes)
  step-fine k a bytes None next e h low = fine-nil (9 * length bytes)
  step-fine k a bytes (Some d) next e h low =
      let fits = front_fits a bytes d e in
      let short = fits.1 in
      let some = fits.0 in
      let size = length-drop d.1 bytes in
      let rest = flat_map (point_items file probes) (points k (a + d.1) (drop d.1 bytes)) in
      let line = insn_items (is_endbr64 d.0) (items.Ins (with_symbols file d.0)) (probe_items (probes.at a)) in
      fine-more (items.Label (label.Code a) ∷ (line ++ rest)) (8 + 9 * length (drop d.1 bytes) + 1) (9 * length bytes) (omega (arith, size, some, short))
      (fine-item (items.Label (label.Code a)) (line ++ rest) (8 + 9 * length (drop d.1 bytes)) (word a (omega (arith, low)))
      (fine-append line rest 8 (9 * length (drop d.1 bytes)) (lines-fine (is_endbr64 d.0) (items.Ins (with_symbols file d.0)) (probe_items (probes.at a)) (decoded-item file clean a bytes d h e) (some-fine a (probes.at a) refl))
      (next (a + d.1) (drop d.1 bytes) (All-drop (λ b. b < 256) d.1 bytes h) (omega (arith, low, short, size)))))

  points-fine : (k : ℕ) → ArePoints k
  points-fine zero a bytes h low = fine-nil (9 * length bytes)
  points-fine (suc k) a bytes h low = step-fine k a bytes (decode_of a bytes) (points-fine k) refl h low

  own-start : (t : Bool) → is_own_name (cond t (codes "main") (codes "_start")) ≡ true
  own-start true = refl
  own-start false = refl

  start-fine : (name : List ℕ) → is_own_name name ≡ true → (t : Bool) → Fine (cond t (entry_items name) []) 3
  start-fine name h true = fine-item (items.Globl name) (items.FuncKind name ∷ items.Name name ∷ []) 2 h (fine-item (items.FuncKind name) (items.Name name ∷ []) 1 h (fine-item (items.Name name) [] 0 h (fine-nil 0)))
  start-fine name h false = fine-nil 3

  opening-fine : (name : List ℕ) → is_good_name name ≡ true → Fine (opening name) 3
  opening-fine name h = fine-item (items.Comment name) (items.TextHead ∷ items.Align 4 ∷ []) 2 h (fine-item items.TextHead (items.Align 4 ∷ []) 1 refl (fine-item (items.Align 4) [] 0 refl (fine-nil 0)))

  closing-fine : (start : ℕ) → start ≤ 2 ^ 47 → Fine (closing start) 2
  closing-fine start h = fine-item (items.Label (label.Past start)) (items.Ins (insn.Plain Int3) ∷ []) 1 (word start h) (fine-item (items.Ins (insn.Plain Int3)) [] 0 refl (fine-nil 0))

  -- ---- the code of a function

  bytes-if : (t : Bool) (xs : List ℕ) → AreBytes xs → length xs ≤ length file → AreBytes (cond t xs []) × (length (cond t xs []) ≤ length file)
  bytes-if true xs h low = (h, low)
  bytes-if false xs h low = (All-nil (λ b. b < 256), omega arith)

  code-fine : (f : Symbol) → AreBytes (code_of_symbol file f) × (length (code_of_symbol file f) ≤ length file)
  unfolding code_of_symbol
  code-fine f =
      let s : Section = its_section file f in
      let cut = length-drop s.offset file in
      let part = length-take (s.offset + s.size - s.offset) (drop s.offset file) in
      let whole = bytes-if (has_bytes s) (slice_range file s.offset (s.offset + s.size)) (All-take (λ b. b < 256) (s.offset + s.size - s.offset) (drop s.offset file) (All-drop (λ b. b < 256) s.offset file all)) (omega (arith, cut, part)) in
      let less = length-drop (f.value - s.addr) (section_bytes file s) in
      let front = length-take f.size (drop (f.value - s.addr) (section_bytes file s)) in
      let most = whole.1 in
      (All-take (λ b. b < 256) f.size (drop (f.value - s.addr) (section_bytes file s)) (All-drop (λ b. b < 256) (f.value - s.addr) (section_bytes file s) whole.0), omega (arith, less, front, most))

  function-fine : (f : Symbol) → Contains (kept_functions file) f → Fine (function_items file probes f) 150994952
  unfolding points_of
  function-fine f at =
      let code = code_of_symbol file f in
      let end = code_ends file f clean.elf clean.functions at in
      let size = ((are-functions file clean.elf clean.functions clean.points).each f at).size in
      let own = code-fine f in
      let most = own.1 in
      let limit = clean_size file clean.elf in
      let front = opening (name_of_symbol file f) ++ entry_items_at file f.value in
      fine-more (function_items file probes f) (3 + 3 + 9 * length code + 2) 150994952 (omega (arith, most, limit))
      (fine-append (front ++ flat_map (point_items file probes) (points_of file f)) (closing f.value) (3 + 3 + 9 * length code) 2
      (fine-append front (flat_map (point_items file probes) (points_of file f)) (3 + 3) (9 * length code)
      (fine-append (opening (name_of_symbol file f)) (entry_items_at file f.value) 3 3 (opening-fine (name_of_symbol file f) (good_name file f clean.elf clean.functions at)) (start-fine (start_name file) (own-start (is_hosted file)) (f.value == entry_of file)))
      (points-fine (length code) f.value code own.0 (omega (arith, end, size))))
      (closing-fine f.value (omega (arith, end))))

  pub functions-fine : Fine (flat_map (function_items file probes) (kept_functions file)) (150994952 * 699051)
  functions-fine =
      let count = functions-few file clean in
      fine-more (flat_map (function_items file probes) (kept_functions file)) (150994952 * length (kept_functions file)) (150994952 * 699051) (omega (arith, count)) (fine-each (function_items file probes) 150994952 (kept_functions file) function-fine)
