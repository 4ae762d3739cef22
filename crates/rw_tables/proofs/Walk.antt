-- A walk over the points of a function: what is kept and found of those below an address.
use Rattle.std.proofs.Common.{◌≡◌, ℕ, ◌+◌, ◌<◌, ◌≤◌, ◌^◌, List, [], ◌∷◌, ◌++◌, length, take, get_or, Option, Some, None, refl, sym, ap, subst, ◌∙◌, arith, append_assoc}
use Rattle.std.specs.List.{filter_map, cons_option, flat_map}
use Rattle.std.proofs.lemmas.List.{append-nil}
use Rattle.std.proofs.lemmas.List.Elements.{Contains-get_or}
use Rattle.rw_funcs.specs.declared.function.Function.{Function}
use Rattle.rw_funcs.proofs.Facts.{code_ends}
use Rattle.rw_funcs.proofs.FunctionsOf.{clean-functions, flat_map-more, no_function, nth-function, take-whole}
use Rattle.std.proofs.lemmas.List.Elements.{filter_map-append}
use Rattle.x86_insn.specs.declared.instruction.Insn.{Insn}
use Rattle.rw_base.specs.Rules.{first}
use Rattle.rw_elf.specs.declared.symbol.Symbol.{Symbol}
use Rattle.rw_elf.specs.Symbols.{null_symbol}
use Rattle.rw_elf.specs.Tables.{elf_rules}
use Rattle.rw_funcs.specs.Found.{found_rules}
use Rattle.rw_funcs.specs.Functions.{kept_functions, functions_of, end_of}
use Rattle.rw_funcs.specs.Points.{Point, points_of, file_points, insn_at}
use Rattle.rw_tables.specs.declared.jump.Jump.{Jump}
use Rattle.rw_tables.specs.declared.seen.Seen.{Seen}
use Rattle.rw_tables.specs.Dispatch.{below}
use Rattle.rw_tables.specs.Jumps.{jump_at, jump_behind, jumps_in, jumps_of}
use Rattle.rw_tables.specs.Seen.{IsSeen, IsNoted, jump_seen}
use Rattle.rw_tables.proofs.Tiles.{Tiles, tiles-end, tiles-last, below-split}
use Rattle.rw_tables.proofs.SeenFacts.{seen-more, jump-seen}
use Rattle.rw_tables.proofs.FunctionPoints.{function-tiles, insn-there}

-- the function with a number
abbrev pub nth : List ℕ → ℕ → Symbol
nth bytes i = get_or (kept_functions bytes) i null_symbol

-- of the points of a function, those below an address are behind, and the others ahead
pub record IsAt (bytes : List ℕ) (i : ℕ) (old : List Jump) (a : ℕ) (s : Seen) (jumps : List Jump) : Type 0 where
  pub xs : List Point
  pub ys : List Point
  pub whole : points_of bytes (nth bytes i) ≡ xs ++ ys
  pub behind : Tiles (nth bytes i).value xs a
  pub ahead : Tiles a ys (end_of (nth bytes i))
  pub kept : IsSeen xs s
  pub found : jumps ≡ old ++ filter_map (jump_at (points_of bytes (nth bytes i))) xs

pub walk-start : (bytes : List ℕ) (i : ℕ) (old : List Jump) (s : Seen) → first (elf_rules bytes) ≡ None → first (found_rules bytes) ≡ None → i < length (kept_functions bytes) → IsSeen [] s → IsAt bytes i old (nth bytes i).value s old
walk-start bytes i old s clean found within kept = record {
  xs = [];
  ys = points_of bytes (nth bytes i);
  whole = refl;
  behind = refl;
  ahead = function-tiles bytes i null_symbol clean found within;
  kept = kept;
  found = sym (append-nil old);
}

-- the next point
pub record IsAhead (bytes : List ℕ) (i a : ℕ) (xs ys : List Point) (n : ℕ) : Type 0 where
  pub point : Point
  pub rest : List Point
  pub first_is : ys ≡ point ∷ rest
  pub place : point.place ≡ a
  pub some : 0 < point.len
  pub ahead : Tiles (a + point.len) rest (end_of (nth bytes i))
  pub spelled : insn_at (file_points bytes) a ≡ Some (point.insn, point.len)

pub next-point : (bytes : List ℕ) (i : ℕ) (old : List Jump) (a : ℕ) (s : Seen) (jumps : List Jump) → first (elf_rules bytes) ≡ None → first (found_rules bytes) ≡ None → i < length (kept_functions bytes)
    → (at : IsAt bytes i old a s jumps) → a < end_of (nth bytes i) → IsAhead bytes i a at.xs at.ys 0
next-point bytes i old a s jumps clean found within at low = by_rest at.ys at.ahead at.whole
  where
    by_rest : (ys : List Point) → Tiles a ys (end_of (nth bytes i)) → points_of bytes (nth bytes i) ≡ at.xs ++ ys → IsAhead bytes i a at.xs ys 0
    by_rest [] t whole = absurd (omega (arith, t))
    by_rest (p ∷ ps) t whole = record {
      point = p;
      rest = ps;
      first_is = refl;
      place = t.0;
      some = t.1;
      ahead = t.2;
      spelled =
          ap (insn_at (file_points bytes)) (sym t.0)
          ∙ insn-there bytes i null_symbol at.xs p ps clean found within whole (subst (Tiles (nth bytes i).value at.xs) (sym t.0) at.behind);
    }

pub walk-next : (bytes : List ℕ) (i : ℕ) (old : List Jump) (a : ℕ) (s : Seen) (jumps : List Jump) → first (elf_rules bytes) ≡ None → first (found_rules bytes) ≡ None → i < length (kept_functions bytes)
    → IsAt bytes i old a s jumps → a < end_of (nth bytes i) → (j : Insn ℕ) (n : ℕ) → insn_at (file_points bytes) a ≡ Some (j, n) → (0 < n) × (a + n ≤ end_of (nth bytes i))
walk-next bytes i old a s jumps clean found within at low j n spelled =
    let next = next-point bytes i old a s jumps clean found within at low in
    let same : ◌≡◌ {A = Option (Insn ℕ × ℕ)} (Some (next.point.insn, next.point.len)) (Some (j, n)) = sym next.spelled ∙ spelled in
    let pair : ◌≡◌ {A = Insn ℕ × ℕ} (next.point.insn, next.point.len) (j, n) = cc in
    let length : next.point.len ≡ n = ap (λ x. x.1) pair in
    let some = next.some in
    let end = tiles-end (a + next.point.len) next.rest (end_of (nth bytes i)) next.ahead in
    (omega (arith, length, some), omega (arith, length, end))

pub walk-there : (bytes : List ℕ) (i : ℕ) (old : List Jump) (a : ℕ) (s : Seen) (jumps : List Jump) → first (elf_rules bytes) ≡ None → first (found_rules bytes) ≡ None → i < length (kept_functions bytes)
    → IsAt bytes i old a s jumps → a < end_of (nth bytes i) → insn_at (file_points bytes) a ≡ None → ⊥
walk-there bytes i old a s jumps clean found within at low none =
    let next = next-point bytes i old a s jumps clean found within at low in
    let same : ◌≡◌ {A = Option (Insn ℕ × ℕ)} (Some (next.point.insn, next.point.len)) None = sym next.spelled ∙ none in
    absurd (cc)

-- one more point
pub walk-more : (bytes : List ℕ) (i : ℕ) (old : List Jump) (a : ℕ) (s new : Seen) (jumps : List Jump) → first (elf_rules bytes) ≡ None → first (found_rules bytes) ≡ None → i < length (kept_functions bytes)
    → IsAt bytes i old a s jumps → a < end_of (nth bytes i) → (j : Insn ℕ) (n : ℕ) → insn_at (file_points bytes) a ≡ Some (j, n) → IsNoted s j new → IsAt bytes i old (a + n) new (jumps ++ cons_option (jump_seen s a j) [])
walk-more bytes i old a s new jumps clean found within at low j n spelled noted =
    let next = next-point bytes i old a s jumps clean found within at low in
    let p : Point = next.point in
    let same : ◌≡◌ {A = Option (Insn ℕ × ℕ)} (Some (next.point.insn, next.point.len)) (Some (j, n)) = sym next.spelled ∙ spelled in
    let pair : ◌≡◌ {A = Insn ℕ × ℕ} (next.point.insn, next.point.len) (j, n) = cc in
    let insn : next.point.insn ≡ j = ap (λ x. x.0) pair in
    let len : next.point.len ≡ n = ap (λ x. x.1) pair in
    let behind : Tiles (nth bytes i).value at.xs next.point.place = subst (Tiles (nth bytes i).value at.xs) (sym next.place) at.behind in
    let end : next.point.place + next.point.len ≡ a + n = ap (λ m. m + next.point.len) next.place ∙ ap (λ m. a + m) len in
    let whole : points_of bytes (nth bytes i) ≡ at.xs ++ next.point ∷ next.rest = at.whole ∙ ap (λ l. at.xs ++ l) next.first_is in
    let ahead : Tiles a (next.point ∷ next.rest) (end_of (nth bytes i)) = (next.place, next.some, next.ahead) in
    let split : below next.point.place (points_of bytes (nth bytes i)) ≡ at.xs =
    ap (below next.point.place) whole ∙ ap (λ c. below c (at.xs ++ next.point ∷ next.rest)) next.place ∙ below-split (nth bytes i).value at.xs (next.point ∷ next.rest) a (end_of (nth bytes i)) at.behind ahead in
    let jump : jump_at (points_of bytes (nth bytes i)) next.point ≡ jump_seen s a j =
    ap (λ l. jump_behind l next.point.place next.point.insn) split ∙ ap (λ c. jump_behind at.xs c next.point.insn) next.place ∙ ap (jump_behind at.xs a) insn ∙ sym (jump-seen (nth bytes i).value at.xs a s j at.behind at.kept) in
    record {
      xs = at.xs ++ next.point ∷ [];
      ys = next.rest;
      whole = whole ∙ sym (append_assoc at.xs (next.point ∷ []) next.rest);
      behind = subst (Tiles (nth bytes i).value (at.xs ++ next.point ∷ [])) end (tiles-last (nth bytes i).value at.xs next.point behind next.some);
      ahead = subst (λ m. Tiles (a + m) next.rest (end_of (nth bytes i))) len next.ahead;
      kept = seen-more (nth bytes i).value at.xs next.point s new behind at.kept (subst (λ x. IsNoted s x new) (sym insn) noted);
      found =
          ap (λ l. l ++ cons_option (jump_seen s a j) []) at.found ∙ append_assoc old (filter_map (jump_at (points_of bytes (nth bytes i))) at.xs) (cons_option (jump_seen s a j) [])
          ∙ ap (λ l. old ++ l) (ap (λ o. filter_map (jump_at (points_of bytes (nth bytes i))) at.xs ++ cons_option o []) (sym jump) ∙ sym (filter_map-append (jump_at (points_of bytes (nth bytes i))) at.xs (next.point ∷ [])));
    }

pub walk-end : (bytes : List ℕ) (i : ℕ) (old : List Jump) (a : ℕ) (s : Seen) (jumps : List Jump) → IsAt bytes i old a s jumps → end_of (nth bytes i) ≤ a → jumps ≡ old ++ jumps_in (points_of bytes (nth bytes i))
walk-end bytes i old a s jumps at high = by_rest at.ys at.ahead at.whole
  where
    by_rest : (ys : List Point) → Tiles a ys (end_of (nth bytes i)) → points_of bytes (nth bytes i) ≡ at.xs ++ ys → jumps ≡ old ++ jumps_in (points_of bytes (nth bytes i))
    by_rest [] t whole = at.found ∙ ap (λ l. old ++ filter_map (jump_at (points_of bytes (nth bytes i))) l) (sym (whole ∙ append-nil at.xs))
    by_rest (p ∷ ps) t whole = let end = tiles-end (a + p.len) ps (end_of (nth bytes i)) t.2 in let some = t.1 in absurd (omega (arith, end, some, high))

-- ---- the functions of a file, by number

pub nth-below : (bytes : List ℕ) (i : ℕ) → i < length (functions_of bytes) → i < length (kept_functions bytes)
nth-below bytes i within = (nth-function bytes i no_function within).0

pub nth-start : (bytes : List ℕ) (list : List Function) (i : ℕ) → list ≡ functions_of bytes → i < length (functions_of bytes) → (get_or list i no_function).span.start ≡ (nth bytes i).value
nth-start bytes list i is within = ap (λ l. (get_or l i no_function).span.start) is ∙ ap (λ (f : Function). f.span.start) (nth-function bytes i no_function within).1

pub nth-end : (bytes : List ℕ) (list : List Function) (i : ℕ) → list ≡ functions_of bytes → i < length (functions_of bytes) → (get_or list i no_function).span.end ≡ end_of (nth bytes i)
nth-end bytes list i is within = ap (λ l. (get_or l i no_function).span.end) is ∙ ap (λ (f : Function). f.span.end) (nth-function bytes i no_function within).1

pub nth-fits : (bytes : List ℕ) (i : ℕ) → first (elf_rules bytes) ≡ None → first (found_rules bytes) ≡ None → i < length (functions_of bytes) → end_of (nth bytes i) ≤ 2 ^ 47
nth-fits bytes i clean found within =
    code_ends bytes (nth bytes i) clean (clean-functions bytes found) (Contains-get_or (kept_functions bytes) i null_symbol (nth-below bytes i within))

-- the jumps of the functions with numbers below one
abbrev pub jumps_before : List ℕ → ℕ → List Jump
jumps_before bytes i = flat_map (λ f. jumps_in (points_of bytes f)) (take i (kept_functions bytes))

pub jumps-more : (bytes : List ℕ) (i : ℕ) → i < length (kept_functions bytes) → jumps_before bytes (i + 1) ≡ jumps_before bytes i ++ jumps_in (points_of bytes (nth bytes i))
jumps-more bytes i within = flat_map-more (λ f. jumps_in (points_of bytes f)) (kept_functions bytes) i null_symbol within

pub jumps-all : (bytes : List ℕ) (i : ℕ) → length (kept_functions bytes) ≤ i → jumps_before bytes i ≡ jumps_of bytes
unfolding jumps_of
jumps-all bytes i all = ap (flat_map (λ f. jumps_in (points_of bytes f))) (take-whole i (kept_functions bytes) all)
