-- The bytes of the file at a base have the instructions of its points.
use Rattle.std.proofs.Common.{◌≡◌, ◌⊎◌, inl, inr, ℕ, ◌+◌, ◌-◌, ◌%◌, ◌^◌, ◌<◌, ◌≤◌, List, take, drop, Option, Some, None, Bool, true, false, cond, ◌==◌, ◌&&◌, refl, sym, ap, subst, ◌∙◌, arith}
use Rattle.std.specs.Prelude.{if◌then◌else◌, is_some, nat_le, nat_lt, option_map, option_and_then, slice_get}
use Rattle.std.proofs.Math.Nat.{add-mod_right, mod-eq_of_lt}
use Rattle.std.proofs.lemmas.Bool.{cases_lt, eqb-true, le-leb, lt-ltb, and_parts}
use Rattle.std.proofs.lemmas.List.{drop-take}
use Rattle.x86_insn.specs.declared.instruction.Insn.{Insn}
use Rattle.x86_insn.specs.References.{reference_of}
use Rattle.x86_decode.specs.Reading.{decode_of}
use Rattle.x86_decode.proofs.SpellingLaws.{decode_of-prefix}
use Rattle.rw_base.specs.Rules.{first}
use Rattle.rw_words.specs.declared.atom.Atom.TheVariants.{Code}
use Rattle.rw_words.specs.declared.atom.Atom.TheVariants as atom
use Rattle.rw_words.specs.declared.atom.Cell.{Cell}
use Rattle.rw_words.specs.Words.{atom_cells}
use Rattle.rw_domain.specs.LaidOut.{AtomsAreLaidOut, WordStands}
use Rattle.rw_domain.proofs.KnownWords.{atom-word}
use Rattle.rw_domain.specs.Stands.{OptionStands}
use Rattle.std.specs.List.{Contains}
use Rattle.rw_elf.specs.declared.symbol.Symbol.{Symbol}
use Rattle.rw_elf.specs.Places.{section_bytes, covers}
use Rattle.rw_elf.specs.Sections.{is_placed}
use Rattle.rw_elf.specs.Tables.{elf_rules}
use Rattle.rw_elf.proofs.Clean.{clean_around}
use Rattle.rw_funcs.specs.Functions.{kept_functions, functions_of, its_section, code_of_symbol, end_of}
use Rattle.rw_funcs.specs.Points.{Point, is_point, point_at, file_points}
use Rattle.rw_funcs.proofs.Fuel.{drop_drop}
use Rattle.rw_machine.specs.Stands.{InsnFollows}
use Rattle.rw_code.specs.declared.point.FilePoint.{FilePoint}
use Rattle.rw_code.specs.declared.point.FilePoint.TheVariants.{At, Past}
use Rattle.rw_code.specs.Start.{Start}
use Rattle.rw_code.specs.Known.{has_address}
use Rattle.rw_code.specs.Ground.{Ground, places_of}
use Rattle.rw_code.specs.File.{labels_of, insn_of, point_after, point_word, reference_word, refers, symbolic, ReferencesStand}
use Rattle.rw_code.specs.Fits.{FitsFile}
use Rattle.rw_code.specs.Placing.{Placing, IsPlacing, import_address, placing_addresses, IsPlaceOf}
use Rattle.rw_code.specs.Original.{spelled_in, spelled_at, placed_at, address_after, placed_reference, original}
use Rattle.rw_code.proofs.Functions.{IsFunction, AreFunctions, InFunction, function-end, in-function}
use Rattle.rw_code.proofs.Points.{IsKnown, next-known, point-inside}
use Rattle.rw_code.proofs.Direct.{taken-as}
use Rattle.rw_code.proofs.References.{reference-stands}

-- the code of a symbol stands in its section
in_section : (file : List ℕ) (f : Symbol) → code_of_symbol file f ≡ take f.size (drop (f.value - (its_section file f).addr) (section_bytes file (its_section file f)))
unfolding code_of_symbol
in_section file f = refl

all_true : (a b c : Bool) → a ≡ true → b ≡ true → c ≡ true → (a && (b && c)) ≡ true
all_true true true true e f g = refl
all_true true true false e f g = g
all_true true false c e f g = f
all_true false b c e f g = e

module _ (file : List ℕ) (clean : first (elf_rules file) ≡ None) (f : Symbol) (is : IsFunction file f) where
  -- the address of a point is one of the section's
  covered : (m : ℕ) → m < f.size → covers (f.value + m) (its_section file f) ≡ true
  covered m within =
      let s = its_section file f in
      let starts = is.starts in
      let ends = is.ends in
      all_true (is_placed s) (nat_le s.addr (f.value + m)) (nat_lt (f.value + m) (s.addr + s.size))
      (and_parts (is_placed s) _ is.code).0
      (le-leb s.addr (f.value + m) (omega (arith, starts)))
      (lt-ltb (f.value + m) (s.addr + s.size) (omega (arith, ends, within)))

  -- what the code has at a point, the section has there
  decoded : (m : ℕ) (i : Insn ℕ) (n : ℕ) → m < f.size → decode_of (f.value + m) (drop m (code_of_symbol file f)) ≡ Some (i, n) → decode_of (f.value + m) (drop (f.value + m - (its_section file f).addr) (section_bytes file (its_section file f))) ≡ Some (i, n)
  decoded m i n within e =
      let s = its_section file f in
      let rest = drop (f.value - s.addr) (section_bytes file s) in
      let starts = is.starts in
      let parts : m + (f.size - m) ≡ f.size = omega (arith, within) in
      let front : drop m (code_of_symbol file f) ≡ take (f.size - m) (drop m rest) =
      ap (drop m) (in_section file f) ∙ ap (λ k. drop m (take k rest)) (sym parts) ∙ drop-take m (f.size - m) rest in
      let place : f.value - s.addr + m ≡ f.value + m - s.addr = omega (arith, starts) in
      let all : drop m rest ≡ drop (f.value + m - s.addr) (section_bytes file s) =
      drop_drop (f.value - s.addr) m (section_bytes file s) ∙ ap (λ k. drop k (section_bytes file s)) place in
      subst (λ xs. decode_of (f.value + m) xs ≡ Some (i, n)) all
      (decode_of-prefix (f.value + m) (drop m rest) (f.size - m) i n (subst (λ xs. decode_of (f.value + m) xs ≡ Some (i, n)) front e))

  -- what is spelled at a point
  spelled : (m : ℕ) (i : Insn ℕ) (n : ℕ) → m < f.size → decode_of (f.value + m) (drop m (code_of_symbol file f)) ≡ Some (i, n) → spelled_at file (f.value + m) ≡ Some (i, n)
  spelled m i n within e =
      let s = its_section file f in
      ap (option_and_then (spelled_in file (f.value + m))) (clean_around file (f.value + m) s clean is.one_of (covered m within))
      ∙ ap (λ t. cond t (decode_of (f.value + m) (drop (f.value + m - s.addr) (section_bytes file s))) None) is.code
      ∙ decoded m i n within e

module _ (file : List ℕ) (clean : first (elf_rules file) ≡ None) (functions : AreFunctions file) (placing : Placing) where
  -- what stands at the place of a point
  pub point-placed : (a q : ℕ) → q ≡ placing.base + a → (p : Point) → InFunction file a p → placed_at (spelled_at file) placing.base q ≡ Some (p.insn, p.len)
  point-placed a q e p is =
      let f = is.function in
      let place = is.place in
      let some = is.some in
      let most = is.most in
      let above : placing.base ≤ q = omega (arith, e) in
      let at : q - placing.base ≡ f.value + is.offset = omega (arith, e, place) in
      ap (λ t. cond t (spelled_at file (q - placing.base)) None) (le-leb placing.base q above)
      ∙ ap (spelled_at file) at
      ∙ spelled file clean f (functions.each f is.one_of) is.offset p.insn p.len (omega (arith, some, most))
      (subst (λ z. decode_of z (drop is.offset (code_of_symbol file f)) ≡ Some (p.insn, p.len)) place is.decoded)

  next_place : (a q len : ℕ) → q ≡ placing.base + a → (f : Symbol) → Contains (kept_functions file) f → (t : Bool) → (a + len == end_of f) ≡ t → IsPlaceOf file placing.base (if t then Past f.value else At (a + len)) (q + len)
  next_place a q len e f at true same =
      let last : a + len ≡ end_of f = eqb-true (a + len) (end_of f) same in
      let ends = function-end file functions f at in
      omega (arith, e, last, ends)
  next_place a q len e f at false other = omega (arith, e)

  module _ (file_ground : Ground) (referred : ReferencesStand file) (regions : (r a : ℕ) → slice_get (places_of file) r ≡ Some a → placing.region r ≡ placing.base + a) where
    abbrev Words : List Cell → ℕ → Type 0
    Words a n = WordStands (placing_addresses file placing) (has_address (labels_of file file_ground)) a n

    abbrev Follows : FilePoint → ℕ → Option (Insn ℕ) → Option (Insn ℕ) → Type 0
    Follows p q i j = InsnFollows Words (IsPlaceOf file placing.base) (symbolic file) (original file placing) p q i j

    word_stands : (p : FilePoint) (q : ℕ) → IsPlaceOf file placing.base p q → IsKnown file file_ground p → Words (point_word p) (q % 2 ^ 64)
    word_stands (At a) q e h =
        subst (λ z. Words (atom_cells (Code a)) (z % 2 ^ 64)) (sym e) (atom-word (placing_addresses file placing) (has_address (labels_of file file_ground)) (Code a) h)
    word_stands (Past start) q e h =
        subst (λ z. Words (atom_cells (atom.Past start)) (z % 2 ^ 64)) (sym e) (atom-word (placing_addresses file placing) (has_address (labels_of file file_ground)) (atom.Past start) h)

    abbrev Refs : Bool → Option ℕ → Option ℕ → Type 0
    Refs direct a b = OptionStands {A = ℕ} {T = ℕ} (λ x y. Words (reference_word (refers file x direct)) (placed_reference placing.base (import_address file placing) y (refers file y direct) % 2 ^ 64)) a b

    refs : (direct : Bool) (o : Option ℕ) → ((r : ℕ) → o ≡ Some r → is_some (refers file r direct) ≡ true) → Refs direct o o
    refs direct None some = tt
    refs direct (Some r) some = reference-stands file placing regions file_ground r direct (refers file r direct) refl (some r refl)

    point_stands : (a q : ℕ) → q ≡ placing.base + a → (p : Point) → point_at (file_points file) a ≡ Some p → InFunction file a p → placed_at (spelled_at file) placing.base q ≡ Some (p.insn, p.len) → Follows (At a) q (Some p.insn) (Some p.insn)
    point_stands a q e p found is is_placed =
        let f = is.function in
        let after : Option Point → FilePoint = point_after (functions_of file) a in
        let here : IsPlaceOf file placing.base (after (Some p)) (q + p.len) =
        subst (λ x. IsPlaceOf file placing.base x (q + p.len)) (sym is.after) (next_place a q p.len e f is.one_of (a + p.len == end_of f) refl) in
        let next : IsPlaceOf file placing.base (after (point_at (file_points file) a)) (address_after q (placed_at (spelled_at file) placing.base q)) =
        subst (λ o. IsPlaceOf file placing.base (after o) (address_after q (placed_at (spelled_at file) placing.base q))) (sym found)
        (subst (λ d. IsPlaceOf file placing.base (after (Some p)) (address_after q d)) (sym is_placed) here) in
        record {
          micro = refl;
          reference = λ direct taken. refs direct (reference_of p.insn) (λ r e. subst (λ t. is_some (refers file r t) ≡ true) (sym (taken-as p.insn direct taken)) (referred a p found r e));
          next = next;
          address = λ taken. word_stands _ _ next (subst (λ o. IsKnown file file_ground (after o)) (sym found) (next-known file file_ground functions a p found));
        }

    point_follows : (a q : ℕ) → q ≡ placing.base + a → (o : Option Point) → point_at (file_points file) a ≡ o → Follows (At a) q (insn_of o) (option_map (λ d. d.0) (placed_at (spelled_at file) placing.base q))
    point_follows a q e None found = tt
    point_follows a q e (Some p) found =
        let is = in-function file functions a p found in
        let is_placed = point-placed a q e p is in
        subst (λ d. Follows (At a) q (Some p.insn) (option_map (λ x. x.0) d)) (sym is_placed) (point_stands a q e p found is is_placed)

    pub original-insns : (p : FilePoint) (q : ℕ) → IsPlaceOf file placing.base p q → Follows p q ((symbolic file).insn p) ((original file placing).insn q)
    original-insns (At a) q e = point_follows a q e (point_at (file_points file) a) refl
    original-insns (Past start) q e = tt

-- a point lies in the image
pub code-within : (file : List ℕ) (file_ground : Ground) (start : Start) (placing : Placing) → IsPlacing file file_ground start placing → AreFunctions file → (c : ℕ) (p : Point) → InFunction file c p → (4096 ≤ placing.base + c) × (placing.base + c ≤ 2 ^ 47)
code-within file file_ground start placing is functions c p at =
    let f = at.function in
    let section = its_section file f in
    let function = functions.each f at.one_of in
    let place = at.place in
    let some = at.some in
    let inside = at.most in
    let ends = function.ends in
    let least = is.least in
    let most = is.most section function.one_of (and_parts (is_placed section) _ function.code).0 in
    (omega (arith, least), omega (arith, place, some, inside, ends, most))

-- where it is placed, its points have addresses of their own, and the distances of its tables are short
module _ (file : List ℕ) (file_ground : Ground) (fits : FitsFile file file_ground) (start : Start) (placing : Placing) (functions : AreFunctions file) (is : IsPlacing file file_ground start placing) where
  within : (c : ℕ) → is_point (file_points file) c ≡ true → (4096 ≤ placing.base + c) × (placing.base + c ≤ 2 ^ 47)
  within c h = let point = point-inside file functions c h in code-within file file_ground start placing is functions c point.0 point.2

  past : (p q : ℕ) → q ≤ p → p ≤ 2 ^ 47 → (p + 2 ^ 64 - q) % 2 ^ 64 ≡ p - q
  past p q more low =
      let parts : p + 2 ^ 64 - q ≡ (p - q) + 2 ^ 64 = omega (arith, more) in
      ap (λ n. n % 2 ^ 64) parts ∙ add-mod_right (p - q) (2 ^ 64) ∙ mod-eq_of_lt (omega (arith, low))

  -- the distance between two addresses, modulo 2 ^ 64
  abbrev IsNear : ℕ → Type 0
  IsNear d = (d < 2 ^ 31) ⊎ (2 ^ 64 - 2 ^ 31 ≤ d)

  short : (p q : ℕ) → p ≤ 2 ^ 47 → q ≤ p + 2 ^ 31 → p < q + 2 ^ 31 → IsNear ((p % 2 ^ 64 + 2 ^ 64 - q % 2 ^ 64) % 2 ^ 64)
  short p q low above below =
      let first : p % 2 ^ 64 ≡ p = mod-eq_of_lt (omega (arith, low)) in
      let second : q % 2 ^ 64 ≡ q = mod-eq_of_lt (omega (arith, low, above)) in
      subst (λ z. IsNear ((z + 2 ^ 64 - q % 2 ^ 64) % 2 ^ 64)) (sym first) (subst (λ z. IsNear ((p + 2 ^ 64 - z) % 2 ^ 64)) (sym second) (by (cases_lt p q)))
    where
      by : (p < q) ⊎ (q ≤ p) → IsNear ((p + 2 ^ 64 - q) % 2 ^ 64)
      by (inl less) = let same : (p + 2 ^ 64 - q) % 2 ^ 64 ≡ p + 2 ^ 64 - q = mod-eq_of_lt (omega (arith, less, low, above)) in inr (omega (arith, same, above, less))
      by (inr more) = let same = past p q more low in inl (omega (arith, same, below))

  pub placing-lies : AtomsAreLaidOut (placing_addresses file placing) (has_address (labels_of file file_ground))
  placing-lies = record {
    moved = λ r o p h. refl;
    met = fits.met;
    code = within;
    codes_apart = λ c d g h e. omega (arith, e);
    near = λ c r o h.
        let distance = fits.short c r o h in
        let at : placing.region r ≡ placing.base + distance.place = is.file_regions r distance.place distance.is_there in
        let above = distance.above in
        let below = distance.below in
        let high = (within c (fits.met c r o h)).1 in
        short (placing.base + c) (placing.region r + o) high (omega (arith, at, above)) (omega (arith, at, below));
  }
