-- Where the numbers of the original lead, and with that its whole program.
use Rattle.std.proofs.Common.{◌≡◌, ℕ, suc, ◌+◌, ◌-◌, ◌%◌, ◌^◌, ◌<◌, ◌≤◌, List, [], ◌∷◌, length, Option, Some, None, Bool, true, false, not, cond, ◌==◌, ◌&&◌, ◌||◌, nat_le, nat_lt, refl, sym, ap, subst, ◌∙◌, arith}
use Rattle.std.specs.Prelude.{Result, Ok, Err, filter, find, is_some, option_and_then, slice_get}
use Rattle.std.specs.List.{range_with_len}
use Rattle.std.specs.Option.{option_map_or}
use Rattle.std.proofs.lemmas.Slice.Eq.{bytes_eq-Decides}
use Rattle.std.proofs.Math.Nat.{mod-eq_of_lt}
use Rattle.std.proofs.lemmas.Bool.{eq-eqb, eqb-true, leb-true, ltb-true, and_parts}
use Rattle.std.proofs.lemmas.Option.{slice_get_within, get_or_from_slice_get}
use Rattle.std.specs.List.{Contains}
use Rattle.rw_base.specs.Rules.{first}
use Rattle.rw_words.specs.declared.atom.Atom.TheVariants.{Code, Import, End}
use Rattle.rw_words.specs.Addresses.{address_of}
use Rattle.rw_domain.specs.declared.cause.Cause.{Cause}
use Rattle.rw_domain.specs.declared.cause.Cause.TheVariants.{TargetNoPoint}
use Rattle.rw_domain.specs.RegionsLaidOut.{Apart}
use Rattle.rw_domain.specs.LaidOut.{WordStands}
use Rattle.x86_insn.specs.declared.instruction.Insn.{Insn}
use Rattle.rw_elf.specs.declared.section.Section.{Section}
use Rattle.rw_elf.specs.Section.{sections}
use Rattle.rw_elf.specs.Sections.{is_placed}
use Rattle.rw_elf.specs.Places.{covers, section_around}
use Rattle.rw_elf.specs.Tables.{elf_rules}
use Rattle.rw_elf.proofs.Around.{filter_contains, filter_tests}
use Rattle.rw_elf.specs.Symbols.{dynamic_symbols}
use Rattle.rw_elf.specs.Tables.{kept_sections}
use Rattle.rw_funcs.specs.Points.{is_one_of, is_point, file_points}
use Rattle.rw_machine.specs.declared.goal.Goal.{Goal}
use Rattle.rw_machine.specs.declared.goal.Goal.TheVariants as goal
use Rattle.rw_machine.specs.Stands.{ProgramsStand}
use Rattle.rw_code.specs.declared.point.FilePoint.{FilePoint}
use Rattle.rw_code.specs.declared.point.FilePoint.TheVariants.{At}
use Rattle.rw_code.specs.Ground.{Ground, places_of}
use Rattle.rw_code.specs.Start.{Start}
use Rattle.rw_code.specs.Imports.{copy_of, have_one_name, import_name, imports_of, is_copied, is_import, is_outside}
use Rattle.rw_code.specs.Known.{has_address}
use Rattle.rw_code.specs.File.{labels_of, symbolic, ReferencesStand}
use Rattle.rw_code.specs.Fits.{FitsFile}
use Rattle.rw_code.specs.Placing.{Placing, IsElsewhere, IsPlacing, import_address, placing_addresses, IsPlaceOf}
use Rattle.rw_code.specs.Original.{spelled_in, spelled_at, placed_at, import_from, other_goal, number_goal, original}
use Rattle.rw_code.proofs.KnownWords.{one-known}
use Rattle.rw_code.proofs.Functions.{AreFunctions}
use Rattle.rw_code.proofs.Points.{point-inside}
use Rattle.rw_code.proofs.Original.{point-placed, original-insns, code-within}
use Rattle.rw_code.proofs.Targets.{Leads, word-leads}

-- the section that an address belongs to covers it
around-covers : (file : List ℕ) (a : ℕ) (s : Section) → section_around file a ≡ Some s → Contains (sections file) s × (covers a s ≡ true)
unfolding section_around
around-covers file a s h =
    let here : Contains (filter (covers a) (sections file)) s = (0, slice_get_within (filter (covers a) (sections file)) 0 s h, get_or_from_slice_get (filter (covers a) (sections file)) 0 s s h) in
    (filter_contains (covers a) (sections file) s here, filter_tests (covers a) (sections file) s here)

-- the first item that passes a test passes it, and one is found where an item passes
find-passes : {A : Type 0} (p : A → Bool) (xs : List A) (x : A) → find p xs ≡ Some x → p x ≡ true
find-passes p [] x e = cc
find-passes p (y ∷ ys) x e = by (p y) refl e (find-passes p ys x)
  where
    by : (t : Bool) → p y ≡ t → cond t (Some y) (find p ys) ≡ Some x → (find p ys ≡ Some x → p x ≡ true) → p x ≡ true
    by true f g rest = let same : y ≡ x = cc in subst (λ z. p z ≡ true) same f
    by false f g rest = rest g

find-contained : {A : Type 0} (p : A → Bool) (xs : List A) (x : A) → find p xs ≡ Some x → Contains xs x
find-contained p [] x e = cc
find-contained p (y ∷ ys) x e = by (p y) e (find-contained p ys x)
  where
    by : (t : Bool) → cond t (Some y) (find p ys) ≡ Some x → (find p ys ≡ Some x → Contains ys x) → Contains (y ∷ ys) x
    by true g rest = (0, omega arith, (let same : y ≡ x = cc in same))
    by false g rest = let h = rest g in (suc h.0, (let low = h.1 in omega (arith, low)), h.2)

find-some : (p : ℕ → Bool) (xs : List ℕ) (i : ℕ) → is_one_of xs i ≡ true → p i ≡ true → find p xs ≡ None → ⊥
find-some p [] i h passes e = absurd cc
find-some p (y ∷ ys) i h passes e = by (p y) refl (y == i) refl h e (find-some p ys i)
  where
    by : (t : Bool) → p y ≡ t → (s : Bool) → (y == i) ≡ s → (s || is_one_of ys i) ≡ true → cond t (Some y) (find p ys) ≡ None → (is_one_of ys i ≡ true → p i ≡ true → find p ys ≡ None → ⊥) → ⊥
    by true f s g h e rest = absurd cc
    by false f true g h e rest = absurd (let same : p i ≡ false = subst (λ z. p z ≡ false) (eqb-true y i g) f in let both : true ≡ false = sym passes ∙ same in cc)
    by false f false g h e rest = rest h passes e

contained-one : (xs : List ℕ) (i : ℕ) → is_one_of xs i ≡ true → Contains xs i
contained-one [] i h = cc
contained-one (y ∷ ys) i h = by (y == i) refl h (contained-one ys i)
  where
    by : (t : Bool) → (y == i) ≡ t → (t || is_one_of ys i) ≡ true → (is_one_of ys i ≡ true → Contains ys i) → Contains (y ∷ ys) i
    by true e g rest = (0, omega arith, eqb-true y i e)
    by false e g rest = let at = rest g in (suc at.0, (let low = at.1 in omega (arith, low)), at.2)

module _ (file : List ℕ) (file_ground : Ground) (clean : first (elf_rules file) ≡ None) (functions : AreFunctions file) (referred : ReferencesStand file) (fits : FitsFile file file_ground) (start : Start) (placing : Placing)
    (is : IsPlacing file file_ground start placing) where
  abbrev named : ℕ → Option ℕ
  named q = import_from (is_copied file) (import_address file placing) (imports_of file) q

  abbrev target : ℕ → Result (Goal ℕ) Cause
  target q = number_goal placing.finish q (named q) (placed_at (spelled_at file) placing.base q)

  abbrev OneName : ℕ → ℕ → Type 0
  OneName i j = have_one_name file i j ≡ true

  abbrev LeadsTo : Result (Goal FilePoint) Cause → Result (Goal ℕ) Cause → Type 0
  LeadsTo a b = Leads (placing_addresses file placing) file file_ground OneName (IsPlaceOf file placing.base) target a b

  to_point : (c : ℕ) → is_point (file_points file) c ≡ true → LeadsTo (Ok (goal.At (At c))) (target (address_of (placing_addresses file placing) (Code c)))
  to_point c h =
      let q = (placing.base + c) % 2 ^ 64 in
      let point = point-inside file functions c h in
      let within = code-within file file_ground start placing is functions c point.0 point.2 in
      let high = within.1 in
      let at : (placing.base + c) % 2 ^ 64 ≡ placing.base + c = mod-eq_of_lt (omega (arith, high)) in
      let there : placed_at (spelled_at file) placing.base ((placing.base + c) % 2 ^ 64) ≡ Some (point.0.insn, point.0.len) =
      point-placed file clean functions placing c ((placing.base + c) % 2 ^ 64) at point.0 point.2 in
      subst (λ d. LeadsTo (Ok (goal.At (At c))) (number_goal placing.finish ((placing.base + c) % 2 ^ 64) (named ((placing.base + c) % 2 ^ 64)) d)) (sym there) at

  -- ---- addresses outside the image

  module _ (q : ℕ) (elsewhere : IsElsewhere file file_ground start placing q) where
    -- no section covers it
    nothing_spelled : (o : Option Section) → section_around file (q - placing.base) ≡ o → placing.base ≤ q → ◌≡◌ {A = Option (Insn ℕ × ℕ)} (option_and_then (spelled_in file (q - placing.base)) o) None
    nothing_spelled None e low = refl
    nothing_spelled (Some s) e low = absurd (clash (elsewhere.image s found.0 parts.0))
      where
        found : Contains (sections file) s × (covers (q - placing.base) s ≡ true)
        found = around-covers file (q - placing.base) s e

        parts : (is_placed s ≡ true) × ((nat_le s.addr (q - placing.base) && nat_lt (q - placing.base) (s.addr + s.size)) ≡ true)
        parts = and_parts (is_placed s) _ found.1

        clash : Apart q 1 (placing.base + s.addr) s.size → ⊥
        clash apart =
            let b = and_parts (nat_le s.addr (q - placing.base)) _ parts.1 in
            let from : s.addr ≤ q - placing.base = leb-true s.addr (q - placing.base) b.0 in
            let below : q - placing.base < s.addr + s.size = ltb-true (q - placing.base) (s.addr + s.size) b.1 in
            omega (arith, apart, from, below, low)

    nothing_placed : (t : Bool) → nat_le placing.base q ≡ t → ◌≡◌ {A = Option (Insn ℕ × ℕ)} (cond t (spelled_at file (q - placing.base)) None) None
    nothing_placed false e = refl
    nothing_placed true e = nothing_spelled (section_around file (q - placing.base)) refl (leb-true placing.base q e)

    -- what a target there is doesn't depend on the bytes
    other_target : target (q % 2 ^ 64) ≡ other_goal placing.finish q (named q)
    other_target =
        ap target (mod-eq_of_lt elsewhere.fits) ∙ ap (λ d. number_goal placing.finish q (named q) d) (nothing_placed (nat_le placing.base q) refl)

  -- ---- imported symbols

  -- one that isn't copied has the address of its name
  own_address : (i : ℕ) → is_copied file i ≡ false → import_address file placing i ≡ placing.name (import_name file i)
  own_address i h = by (copy_of file (import_name file i)) h
    where
      by : (o : Option ℕ) → is_some o ≡ false → option_map_or (λ k. placing.region (length (kept_sections file) + k)) o (placing.name (import_name file i)) ≡ placing.name (import_name file i)
      by None e = refl
      by (Some k) e = cc

  import-passes : (i : ℕ) → is_one_of (imports_of file) i ≡ true → is_import file i ≡ true
  import-passes i h = let at = contained-one (imports_of file) i h in filter_tests (is_import file) (range_with_len 0 (length (dynamic_symbols file))) i at

  outside-is : (i : ℕ) → is_one_of (imports_of file) i ≡ true → is_copied file i ≡ false → is_outside file i ≡ true
  outside-is i known own = ap (λ t. t && not (is_copied file i)) (import-passes i known) ∙ ap not own

  -- the symbol that is found at an address
  record IsFound (q j : ℕ) : Type 0 where
    outside : is_outside file j ≡ true
    at : placing.name (import_name file j) ≡ q

  found-is : (q j : ℕ) → named q ≡ Some j → IsFound q j
  found-is q j e =
      let passes = find-passes (λ i. not (is_copied file i) && import_address file placing i == q) (imports_of file) j e in
      let parts = and_parts (not (is_copied file j)) (import_address file placing j == q) passes in
      let own = not-true (is_copied file j) parts.0 in
      let known = one-known (imports_of file) j (find-contained (λ i. not (is_copied file i) && import_address file placing i == q) (imports_of file) j e) in
      record { outside = outside-is j known own; at = sym (own_address j own) ∙ eqb-true (import_address file placing j) q parts.1 }
    where
      not-true : (t : Bool) → not t ≡ true → t ≡ false
      not-true false h = refl
      not-true true h = cc

  to_import : (i : ℕ) → is_one_of (imports_of file) i ≡ true → is_copied file i ≡ false → LeadsTo (Ok (goal.Import i)) (target (address_of (placing_addresses file placing) (Import i)))
  to_import i known own =
      subst (λ z. LeadsTo (Ok (goal.Import i)) (target (z % 2 ^ 64))) (sym (own_address i own))
      (subst (λ g. LeadsTo (Ok (goal.Import i)) g) (sym (other_target q elsewhere)) (by (named q) refl))
    where
      outside : is_outside file i ≡ true
      outside = outside-is i known own

      q : ℕ
      q = placing.name (import_name file i)

      elsewhere : IsElsewhere file file_ground start placing q
      elsewhere = is.names_elsewhere i outside

      passes : (not (is_copied file i) && import_address file placing i == q) ≡ true
      passes = ap (λ t. not t && import_address file placing i == q) own ∙ eq-eqb (import_address file placing i) q (own_address i own)

      by : (o : Option ℕ) → named q ≡ o → LeadsTo (Ok (goal.Import i)) (other_goal placing.finish q o)
      by None e = absurd (find-some (λ i. not (is_copied file i) && import_address file placing i == q) (imports_of file) i known passes e)
      by (Some j) e =
          let found = found-is q j e in
          let same : import_name file i ≡ import_name file j = is.names_apart i j outside found.outside (sym found.at) in
          (bytes_eq-Decides (import_name file i) (import_name file j)).1 same

  to_end : LeadsTo (Ok goal.Finish) (target (address_of (placing_addresses file placing) End))
  to_end = subst (λ g. LeadsTo (Ok goal.Finish) g) (sym (other_target placing.finish is.end_elsewhere)) (by (named placing.finish) refl)
    where
      by : (o : Option ℕ) → named placing.finish ≡ o → LeadsTo (Ok goal.Finish) (other_goal placing.finish placing.finish o)
      by None e = subst (λ t. LeadsTo (Ok goal.Finish) (cond t (Ok goal.Finish) (Err TargetNoPoint))) (sym (eq-eqb placing.finish placing.finish refl)) tt
      by (Some j) e = let found = found-is placing.finish j e in absurd (is.no_name_at_end j found.outside found.at)

  regions : (r a : ℕ) → slice_get (places_of file) r ≡ Some a → placing.region r ≡ placing.base + a
  regions r a e = is.file_regions r a (ap (λ (g : Ground). slice_get g.places r) fits.is_ground ∙ e)

  -- the program of the symbolic machine stands for the bytes of a file that has no fault, wherever it is placed
  pub original-stands : ProgramsStand (WordStands (placing_addresses file placing) (has_address (labels_of file file_ground))) OneName (IsPlaceOf file placing.base) (IsPlaceOf file placing.base) (symbolic file) (original file placing)
  original-stands = record {
    insn = original-insns file clean functions placing file_ground referred regions;
    target = word-leads (placing_addresses file placing) file file_ground OneName (IsPlaceOf file placing.base) target to_point to_import to_end;
  }
