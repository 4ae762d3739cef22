-- The points of a file rise, and each lies in a code section: so there are at most as many as code has bytes.
use Rattle.std.proofs.Common.{◌≡◌, ℕ, suc, ◌+◌, ◌<◌, ◌≤◌, Bool, true, false, not, cond, List, [], ◌∷◌, ◌++◌, length, get_or, filter, None, refl, ap, ◌∙◌, arith}
use Rattle.std.specs.Prelude.{◌||◌, ◌&&◌, nat_le, nat_lt, sum_by}
use Rattle.std.specs.List.{flat_map, list_any}
use Rattle.std.proofs.lemmas.Bool.Decides.{nat_tests}
use Rattle.std.proofs.lemmas.List.Elements.{Contains-get_or}
use Rattle.std.proofs.lemmas.List.Folds.{list_any_at}
use Rattle.std.proofs.lemmas.List.Sums.{sum_by-cons}
use Rattle.rw_base.specs.Rules.{first}
use Rattle.rw_elf.specs.declared.section.Section.{Section}
use Rattle.rw_elf.specs.declared.symbol.Symbol.{Symbol}
use Rattle.rw_elf.specs.Symbols.{null_symbol}
use Rattle.rw_elf.specs.Tables.{code_sections, elf_rules}
use Rattle.rw_elf.proofs.Limits.{code_total}
use Rattle.rw_funcs.specs.Found.{found_rules}
use Rattle.rw_funcs.specs.Functions.{end_of, its_section, kept_functions}
use Rattle.rw_funcs.specs.Points.{Point, file_points, places_of, points_of}
use Rattle.rw_funcs.proofs.Count.{clean-code}
use Rattle.rw_funcs.proofs.Facts.{functions_apart, placed_function}
use Rattle.rw_funcs.proofs.FunctionsOf.{clean-functions}
use Rattle.rw_tables.proofs.FunctionPoints.{function-tiles}
use Rattle.rw_tables.proofs.Tiles.{Tiles, tiles-end}
use Rattle.rw_probe.proofs.Rising.{Rising, rising-from, rising-filter}

-- what holds of each number
abbrev pub Each : (ℕ → Type 0) → List ℕ → Type 0
Each P [] = Unit {0}
Each P (x ∷ xs) = P x × Each P xs

each-if : (P : ℕ → Type 0) (t : Bool) (x : ℕ) (xs : List ℕ) → (t ≡ true → P x) → Each P xs → Each P (cond t (x ∷ xs) xs)
each-if P true x xs h r = (h refl, r)
each-if P false x xs h r = r

pub each-filter : (P Q : ℕ → Type 0) (p : ℕ → Bool) (xs : List ℕ) → ((x : ℕ) → P x → p x ≡ true → Q x) → Each P xs → Each Q (filter p xs)
each-filter P Q p [] h r = tt
each-filter P Q p (x ∷ xs) h r = each-if Q (p x) x (filter p xs) (λ t. h x r.0 t) (each-filter P Q p xs h r.1)

-- ---- at most as many as a range has numbers

within-few : (lo hi : ℕ) (xs : List ℕ) → lo ≤ hi → Rising lo xs → Each (λ x. x < hi) xs → lo + length xs ≤ hi
within-few lo hi [] h r below = omega (arith, h)
within-few lo hi (x ∷ xs) h r below =
    let less = below.0 in
    let low = r.0 in
    let rest = within-few (x + 1) hi xs (omega (arith, less)) r.1 below.1 in
    omega (arith, rest, low)

rising-above : (lo a : ℕ) (xs : List ℕ) → Rising lo xs → Each (λ x. a ≤ x) xs → Rising a xs
rising-above lo a [] r h = tt
rising-above lo a (x ∷ xs) r h = (h.0, r.1)

abbrev pub has : ℕ → Section → Bool
has c s = nat_le s.addr c && nat_lt c (s.addr + s.size)

has-low : (c : ℕ) (s : Section) → has c s ≡ true → s.addr ≤ c
has-low c s h = grind (arith, nat_tests)

has-high : (c : ℕ) (s : Section) → has c s ≡ true → c < s.addr + s.size
has-high c s h = grind (arith, nat_tests)

pub has-if : (c : ℕ) (s : Section) → s.addr ≤ c → c < s.addr + s.size → has c s ≡ true
has-if c s low high = grind (arith, nat_tests)

the-other : (a b : Bool) → (a || b) ≡ true → not a ≡ true → b ≡ true
the-other true b h n = absurd (cc)
the-other false b h n = h

not-none : (b : Bool) → not b ≡ true → b ≡ false
not-none true h = absurd (cc)
not-none false h = refl

length-parts : (p : ℕ → Bool) (xs : List ℕ) → length xs ≡ length (filter p xs) + length (filter (λ x. not (p x)) xs)
length-parts p [] = refl
length-parts p (x ∷ xs) = by_test (p x) (length-parts p xs)
  where
    by_test : (t : Bool) → length xs ≡ length (filter p xs) + length (filter (λ x. not (p x)) xs)
        → suc (length xs) ≡ length (cond t (x ∷ filter p xs) (filter p xs)) + length (cond (not t) (x ∷ filter (λ x. not (p x)) xs) (filter (λ x. not (p x)) xs))
    by_test true e = omega (arith, e)
    by_test false e = omega (arith, e)

pub few-among : (ks : List Section) (lo : ℕ) (xs : List ℕ) → Rising lo xs → Each (λ c. list_any (has c) ks ≡ true) xs → length xs ≤ sum_by (λ s. s.size) ks
few-among [] lo [] r inside = omega arith
few-among [] lo (x ∷ xs) r inside = let never = inside.0 in absurd (cc)
few-among (s ∷ ks) lo xs r inside =
    let parts = length-parts (λ c. has c s) xs in
    let here : s.addr + length (filter (λ c. has c s) xs) ≤ s.addr + s.size =
    within-few s.addr (s.addr + s.size) (filter (λ c. has c s) xs) (omega arith)
    (rising-above lo s.addr (filter (λ c. has c s) xs) (rising-filter (λ c. has c s) lo xs r) (each-filter (λ c. list_any (has c) (s ∷ ks) ≡ true) (λ c. s.addr ≤ c) (λ c. has c s) xs (λ c inside h. has-low c s h) inside))
    (each-filter (λ c. list_any (has c) (s ∷ ks) ≡ true) (λ c. c < s.addr + s.size) (λ c. has c s) xs (λ c inside h. has-high c s h) inside) in
    let there = few-among ks lo (filter (λ c. not (has c s)) xs) (rising-filter (λ c. not (has c s)) lo xs r)
    (each-filter (λ c. list_any (has c) (s ∷ ks) ≡ true) (λ c. list_any (has c) ks ≡ true) (λ c. not (has c s)) xs (λ c inside h. the-other (has c s) (list_any (has c) ks) inside h) inside) in
    let sum = sum_by-cons (λ (t : Section). t.size) s ks in
    omega (arith, parts, here, there, sum)

-- ---- functions, one behind another

module _ (bytes : List ℕ) (Inside : ℕ → Type 0) where
  pub record IsFunction (f : Symbol) : Type 0 where
    pub tiles : Tiles f.value (points_of bytes f) (end_of f)
    pub inside : (c : ℕ) → f.value ≤ c → c < end_of f → Inside c

  abbrev Follow : ℕ → List Symbol → Type 0
  Follow lo [] = Unit {0}
  Follow lo (f ∷ fs) = (lo ≤ f.value) × IsFunction f × Follow (end_of f) fs

  follow-from : (lo : ℕ) (fs : List Symbol) → ((k : ℕ) → k < length fs → IsFunction (get_or fs k null_symbol)) → ((i j : ℕ) → i < j → j < length fs → end_of (get_or fs i null_symbol) ≤ (get_or fs j null_symbol).value)
      → ((k : ℕ) → k < length fs → lo ≤ (get_or fs k null_symbol).value) → Follow lo fs
  follow-from lo [] each apart low = tt
  follow-from lo (f ∷ fs) each apart low =
      let first : 0 < length (f ∷ fs) = omega arith in
      (low 0 first, each 0 first, follow-from (end_of f) fs (λ k below. each (suc k) (omega (arith, below))) (λ i j less below. apart (suc i) (suc j) (omega (arith, less)) (omega (arith, below))) (λ k below. apart 0 (suc k) (omega arith) (omega (arith, below))))

  rising-tiles : (a e : ℕ) (ps qs : List Point) → Tiles a ps e → Rising e (places_of qs) → Rising a (places_of (ps ++ qs))
  rising-tiles a e [] qs t r = rising-from a e (places_of qs) (omega (arith, t)) r
  rising-tiles a e (p ∷ ps) qs t r =
      let here = t.0 in
      let some = t.1 in
      (omega (arith, here), rising-from (p.place + 1) (a + p.len) (places_of (ps ++ qs)) (omega (arith, here, some)) (rising-tiles (a + p.len) e ps qs t.2 r))

  each-tiles : (a e : ℕ) (ps qs : List Point) → Tiles a ps e → ((c : ℕ) → a ≤ c → c < e → Inside c) → Each Inside (places_of qs) → Each Inside (places_of (ps ++ qs))
  each-tiles a e [] qs t h r = r
  each-tiles a e (p ∷ ps) qs t h r =
      let here = t.0 in
      let some = t.1 in
      let end = tiles-end (a + p.len) ps e t.2 in
      (h p.place (omega (arith, here)) (omega (arith, here, some, end)), each-tiles (a + p.len) e ps qs t.2 (λ c low high. h c (omega (arith, low)) high) r)

  pub rising-points : (lo : ℕ) (fs : List Symbol) → Follow lo fs → Rising lo (places_of (flat_map (points_of bytes) fs))
  rising-points lo [] h = tt
  rising-points lo (f ∷ fs) h = rising-from lo f.value (places_of (points_of bytes f ++ flat_map (points_of bytes) fs)) h.0 (rising-tiles f.value (end_of f) (points_of bytes f) (flat_map (points_of bytes) fs) h.1.tiles (rising-points (end_of f) fs h.2))

  pub each-point : (lo : ℕ) (fs : List Symbol) → Follow lo fs → Each Inside (places_of (flat_map (points_of bytes) fs))
  each-point lo [] h = tt
  each-point lo (f ∷ fs) h = each-tiles f.value (end_of f) (points_of bytes f) (flat_map (points_of bytes) fs) h.1.tiles h.1.inside (each-point (end_of f) fs h.2)

-- ---- of a file

function-is : (bytes : List ℕ) → first (elf_rules bytes) ≡ None → first (found_rules bytes) ≡ None → (k : ℕ) → k < length (kept_functions bytes) → IsFunction bytes (λ c. list_any (has c) (code_sections bytes) ≡ true) (get_or (kept_functions bytes) k null_symbol)
function-is bytes file found k low =
    let f : Symbol = get_or (kept_functions bytes) k null_symbol in
    let there = Contains-get_or (kept_functions bytes) k null_symbol low in
    let placed = placed_function bytes (get_or (kept_functions bytes) k null_symbol) (clean-functions bytes found) there in
    let one = clean-code bytes (get_or (kept_functions bytes) k null_symbol) found there in
    record {
      tiles = function-tiles bytes k null_symbol file found low;
      inside = λ c above below.
          let starts = placed.starts in
          let ends = placed.ends in
          let here = has-if c (its_section bytes (get_or (kept_functions bytes) k null_symbol)) (omega (arith, starts, above)) (omega (arith, ends, below)) in
          list_any_at (has c) (code_sections bytes) one.0 (its_section bytes (get_or (kept_functions bytes) k null_symbol)) one.1 (ap (has c) one.2 ∙ here);
    }

follow : (bytes : List ℕ) → first (elf_rules bytes) ≡ None → first (found_rules bytes) ≡ None → Follow bytes (λ c. list_any (has c) (code_sections bytes) ≡ true) 0 (kept_functions bytes)
follow bytes file found =
    follow-from bytes (λ c. list_any (has c) (code_sections bytes) ≡ true) 0 (kept_functions bytes) (function-is bytes file found)
    (λ i j less below. functions_apart bytes (clean-functions bytes found) i j null_symbol less below) (λ k below. omega arith)

pub points-rise : (bytes : List ℕ) → first (elf_rules bytes) ≡ None → first (found_rules bytes) ≡ None → Rising 0 (places_of (file_points bytes))
unfolding file_points
points-rise bytes file found = rising-points bytes (λ c. list_any (has c) (code_sections bytes) ≡ true) 0 (kept_functions bytes) (follow bytes file found)

pub points-inside : (bytes : List ℕ) → first (elf_rules bytes) ≡ None → first (found_rules bytes) ≡ None → Each (λ c. list_any (has c) (code_sections bytes) ≡ true) (places_of (file_points bytes))
unfolding file_points
points-inside bytes file found = each-point bytes (λ c. list_any (has c) (code_sections bytes) ≡ true) 0 (kept_functions bytes) (follow bytes file found)

-- some of the points
pub some-few : (bytes : List ℕ) (p : ℕ → Bool) → first (elf_rules bytes) ≡ None → first (found_rules bytes) ≡ None → length (filter p (places_of (file_points bytes))) ≤ 16777216
some-few bytes p file found =
    let few = few-among (code_sections bytes) 0 (filter p (places_of (file_points bytes))) (rising-filter p 0 (places_of (file_points bytes)) (points-rise bytes file found))
    (each-filter (λ c. list_any (has c) (code_sections bytes) ≡ true) (λ c. list_any (has c) (code_sections bytes) ≡ true) p (places_of (file_points bytes)) (λ c h t. h) (points-inside bytes file found)) in
    let total = code_total bytes file in
    omega (arith, few, total)
