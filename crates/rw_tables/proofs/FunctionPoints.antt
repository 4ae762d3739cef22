-- The points of a function fill it, and each is found at its address.
use Rattle.std.proofs.Common.{◌≡◌, ℕ, zero, suc, ◌+◌, ◌<◌, ◌≤◌, ◌==◌, true, false, cond, List, [], ◌∷◌, ◌++◌, length, take, drop, get_or, Option, Some, None, refl, sym, ap, subst, ◌∙◌, arith, append_assoc, length-drop, drop-cons, take-append-drop}
use Rattle.std.specs.List.{flat_map}
use Rattle.std.specs.Prelude.{option_map}
use Rattle.std.proofs.lemmas.Bool.Decides.{nat_tests}
use Rattle.std.proofs.lemmas.Grind.{flat_map-append}
use Rattle.std.proofs.lemmas.List.Elements.{All-contains, Contains-get_or}
use Rattle.std.proofs.lemmas.Option.{slice_get-get_or}
use Rattle.x86_insn.specs.declared.instruction.Insn.{Insn}
use Rattle.x86_decode.specs.Reading.{decode_of}
use Rattle.rw_base.specs.declared.fault.Fault.{Fault}
use Rattle.rw_base.specs.declared.fault.Fault.TheVariants.{BadInstruction}
use Rattle.rw_base.specs.Rules.{first, each_of, finding_at}
use Rattle.rw_base.proofs.First.{first_from-none}
use Rattle.rw_elf.specs.declared.symbol.Symbol.{Symbol}
use Rattle.rw_elf.specs.Tables.{elf_rules}
use Rattle.rw_funcs.specs.Found.{found_rules}
use Rattle.rw_funcs.specs.Functions.{kept_functions, code_of_symbol, end_of}
use Rattle.rw_funcs.specs.Points.{Point, points, points_from, points_of, file_points, point_at, insn_at, first_bad, bad_from, bad_address}
use Rattle.rw_funcs.proofs.Facts.{code_length}
use Rattle.rw_funcs.proofs.Fuel.{front_fits}
use Rattle.rw_funcs.proofs.FunctionsOf.{clean-functions, clean-points, first-point_rules, points-before}
use Rattle.rw_funcs.proofs.PointFacts.{point_at-append, point_at-none}
use Rattle.rw_tables.proofs.Tiles.{Tiles, tiles-end}

-- ---- points fill their bytes where nothing else is in them

points-tile : (k a : ℕ) (bytes : List ℕ) → length bytes ≤ k → first_bad k a bytes ≡ None → Tiles a (points k a bytes) (a + length bytes)
points-tile zero a bytes short none = omega (arith, short)
points-tile (suc k) a bytes short none = by_front (λ c rest h g. points-tile k c rest h g) bytes (decode_of a bytes) refl short none
  where
    by_front : ((c : ℕ) (rest : List ℕ) → length rest ≤ k → first_bad k c rest ≡ None → Tiles c (points k c rest) (c + length rest)) → (bs : List ℕ) (o : Option (Insn ℕ × ℕ)) → decode_of a bs ≡ o → length bs ≤ suc k → bad_from (first_bad k) a bs o ≡ None → Tiles a (points_from k a bs o (points k)) (a + length bs)
    by_front ih [] None e h none = omega arith
    by_front ih (b ∷ bs) None e h none = absurd (cc)
    by_front ih [] (Some d) e h none = let fits = front_fits a [] d e in let some = fits.0 in let few = fits.1 in absurd (omega (arith, some, few))
    by_front ih (b ∷ bs) (Some d) e h none =
        let fits = front_fits a (b ∷ bs) d e in
        let some = fits.0 in
        let few = fits.1 in
        let size = length-drop d.1 (b ∷ bs) in
        let end : a + d.1 + length (drop d.1 (b ∷ bs)) ≡ a + length (b ∷ bs) = omega (arith, some, few, size) in
        (refl, some, subst (Tiles (a + d.1) (points k (a + d.1) (drop d.1 (b ∷ bs)))) end (ih (a + d.1) (drop d.1 (b ∷ bs)) (omega (arith, some, few, size, h)) none))

none-bad : (o : Option ℕ) → option_map BadInstruction o ≡ None → o ≡ None
none-bad None h = refl
none-bad (Some a) h = absurd (cc)

none-or : (a b : Option Fault) → Rattle.std.specs.Option.option_or a b ≡ None → a ≡ None
none-or None b h = refl
none-or (Some x) b h = absurd (cc)

pub nothing-bad : (bytes : List ℕ) (i : ℕ) (d : Symbol) → first (found_rules bytes) ≡ None → i < length (kept_functions bytes) → bad_address bytes (get_or (kept_functions bytes) i d) ≡ None
nothing-bad bytes i d found within =
    let rule = first-point_rules bytes (kept_functions bytes) refl ∙ clean-points bytes found in
    let finding : ℕ → Symbol → Option Fault = λ k f. option_map BadInstruction (bad_address bytes f) in
    let here = first_from-none (finding_at (each_of (kept_functions bytes) finding)) 0 (length (kept_functions bytes)) rule i (omega arith) (omega arith) in
    none-bad (bad_address bytes (get_or (kept_functions bytes) i d)) (sym (ap (Rattle.std.specs.Prelude.option_and_then (finding i)) (slice_get-get_or (kept_functions bytes) i d within)) ∙ here)

pub function-tiles : (bytes : List ℕ) (i : ℕ) (d : Symbol) → first (elf_rules bytes) ≡ None → first (found_rules bytes) ≡ None → i < length (kept_functions bytes)
    → Tiles (get_or (kept_functions bytes) i d).value (points_of bytes (get_or (kept_functions bytes) i d)) (end_of (get_or (kept_functions bytes) i d))
unfolding points_of bad_address
function-tiles bytes i d clean found within =
    let f : Symbol = get_or (kept_functions bytes) i d in
    let size = code_length bytes (get_or (kept_functions bytes) i d) clean (clean-functions bytes found) (Contains-get_or (kept_functions bytes) i d within) in
    let code = code_of_symbol bytes (get_or (kept_functions bytes) i d) in
    subst (Tiles f.value (points (length (code_of_symbol bytes f)) f.value (code_of_symbol bytes f))) (ap (λ n. (get_or (kept_functions bytes) i d).value + n) size)
    (points-tile (length (code_of_symbol bytes f)) f.value (code_of_symbol bytes f) (omega arith) (nothing-bad bytes i d found within))

-- ---- the point at an address

point-there : (a : ℕ) (xs : List Point) (p : Point) (ys : List Point) → Tiles a xs p.place → point_at (xs ++ p ∷ ys) p.place ≡ Some p
point-there a [] p ys t = let here : (p.place == p.place) ≡ true = grind (arith, nat_tests) in ap (λ b. cond b (Some p) (point_at ys p.place)) here
point-there a (q ∷ xs) p ys t =
    let rest = tiles-end (a + q.len) xs p.place t.2 in
    let low = t.0 in
    let some = t.1 in
    let other : (q.place == p.place) ≡ false = grind (arith, nat_tests) in
    ap (λ b. cond b (Some q) (point_at (xs ++ p ∷ ys) p.place)) other ∙ point-there (a + q.len) xs p ys t.2

pub insn-there : (bytes : List ℕ) (i : ℕ) (d : Symbol) (xs : List Point) (p : Point) (ys : List Point) → first (elf_rules bytes) ≡ None → first (found_rules bytes) ≡ None → i < length (kept_functions bytes)
    → points_of bytes (get_or (kept_functions bytes) i d) ≡ xs ++ p ∷ ys → Tiles (get_or (kept_functions bytes) i d).value xs p.place → insn_at (file_points bytes) p.place ≡ Some (p.insn, p.len)
unfolding file_points
insn-there bytes i d xs p ys clean found within whole t =
    let list = kept_functions bytes in
    let g = points_of bytes in
    let split : flat_map (points_of bytes) (kept_functions bytes) ≡ flat_map (points_of bytes) (take i (kept_functions bytes)) ++ (xs ++ p ∷ (ys ++ flat_map (points_of bytes) (drop (suc i) (kept_functions bytes)))) =
    ap (flat_map (points_of bytes)) (sym (take-append-drop i (kept_functions bytes))) ∙ flat_map-append (points_of bytes) (take i (kept_functions bytes)) (drop i (kept_functions bytes))
    ∙ ap (λ l. flat_map (points_of bytes) (take i (kept_functions bytes)) ++ flat_map (points_of bytes) l) (drop-cons (kept_functions bytes) i d within)
    ∙ ap (λ l. flat_map (points_of bytes) (take i (kept_functions bytes)) ++ (l ++ flat_map (points_of bytes) (drop (suc i) (kept_functions bytes)))) whole
    ∙ ap (λ l. flat_map (points_of bytes) (take i (kept_functions bytes)) ++ l) (append_assoc xs (p ∷ ys) (flat_map (points_of bytes) (drop (suc i) (kept_functions bytes)))) in
    let low = tiles-end (get_or (kept_functions bytes) i d).value xs p.place t in
    let before = points-before bytes clean (clean-functions bytes found) i d within in
    let none : point_at (flat_map (points_of bytes) (take i (kept_functions bytes))) p.place ≡ None =
    point_at-none (flat_map (points_of bytes) (take i (kept_functions bytes))) p.place
    (λ q here same. let less = All-contains (λ (q : Point). q.place < (get_or (kept_functions bytes) i d).value) (flat_map (points_of bytes) (take i (kept_functions bytes))) q before here in omega (arith, less, same, low)) in
    ap (option_map (λ (q : Point). (q.insn, q.len)))
    (ap (λ l. point_at l p.place) split ∙ point_at-append (flat_map (points_of bytes) (take i (kept_functions bytes))) (xs ++ p ∷ (ys ++ flat_map (points_of bytes) (drop (suc i) (kept_functions bytes)))) p.place none
    ∙ point-there (get_or (kept_functions bytes) i d).value xs p (ys ++ flat_map (points_of bytes) (drop (suc i) (kept_functions bytes))) t)
