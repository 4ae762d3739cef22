-- What the rule on tables leaves of each table of a file.
use Rattle.std.proofs.Common.{◌≡◌, ℕ, ◌+◌, ◌<◌, ◌≤◌, Bool, true, false, not, ◌==◌, cond, List, length, take, get_or, Option, Some, None, Contains, refl, sym, ap, ◌∙◌, subst, arith, inl, inr, length-take}
use Rattle.std.specs.Prelude.{option_map, option_and_then}
use Rattle.std.specs.List.{AllPairs, dedup, list_any}
use Rattle.std.specs.Option.{option_or}
use Rattle.std.proofs.lemmas.Bool.{and_parts, cases_lt}
use Rattle.std.proofs.lemmas.List.{get_or-take, get_or_default}
use Rattle.std.proofs.lemmas.List.Kept.{Contains-from_dedup}
use Rattle.std.proofs.lemmas.List.Sorted.{Contains-permutation, IsPermutation-sym}
use Rattle.std.proofs.lemmas.Option.{slice_get-get_or}
use Rattle.x86_insn.specs.declared.kinds.Reg.{Reg}
use Rattle.rw_base.proofs.First.{first_from-none}
use Rattle.rw_base.proofs.Ordered.{permutation-ordered}
use Rattle.rw_base.specs.declared.fault.Fault.{Fault}
use Rattle.rw_base.specs.declared.fault.Fault.TheVariants.{BadTable}
use Rattle.rw_base.specs.Order.{ordered}
use Rattle.rw_base.specs.Rules.{each_of, finding_at, first, first_of, when}
use Rattle.rw_funcs.proofs.PointFacts.{Contains-flat_map}
use Rattle.rw_funcs.specs.Functions.{kept_functions}
use Rattle.rw_funcs.specs.Points.{Point, points_of}
use Rattle.rw_tables.specs.declared.jump.Jump.{Jump}
use Rattle.rw_tables.specs.declared.table.Table.{Table}
use Rattle.rw_tables.specs.Dispatch.{base_by, below, limit_in, named_in, sum_in, table_at, table_of}
use Rattle.rw_tables.specs.Jumps.{jump_at, jump_register, jump_through, jumps_in, jumps_of}
use Rattle.rw_tables.specs.Known.{AreApart}
use Rattle.rw_tables.specs.Tables.{EndsBefore, all_lead, comes_before, is_constant, is_good, jump_fault, overlaps, same_base, table_fault, table_rules, tables_in, tables_of}
use Rattle.rw_tables.proofs.ByBase.{tables-apart}
use Rattle.rw_tables.proofs.KnownFacts.{apart-back, apart-same, none-any}
use Rattle.rw_tables.proofs.Picked.{Gives, given-by, gives-it}

pub record IsGoodTable (bytes : List ℕ) (t : Table) : Type 0 where
  pub constant : is_constant bytes t ≡ true
  pub leading : all_lead bytes t ≡ true
  pub some : 0 < t.count

table-counts : (base limit : Option ℕ) (t : Table) → table_of base limit ≡ Some t → 0 < t.count
table-counts None limit t is = absurd (cc)
table-counts (Some b) None t is = absurd (cc)
table-counts (Some b) (Some n) t is =
    let same : record { base = b; count = n + 1 } ≡ t = cc in
    let count : n + 1 ≡ t.count = ap (λ (u : Table). u.count) same in
    omega (arith, count)

at-counts : (a : ℕ) (r : Reg) (ps : List Point) (sum : Point) (t : Table) → table_at a r ps sum ≡ Some t → 0 < t.count
at-counts a r ps sum t is = by_test (sum.place + sum.len == a) is
  where
    by_test : (b : Bool) → cond b (table_of (base_by (named_in (below sum.place ps)) r sum.insn) (limit_in ps)) None ≡ Some t → 0 < t.count
    by_test true h = table-counts _ _ t h
    by_test false h = absurd (cc)

jump-counts : (ps : List Point) (p : Point) (j : Jump) (t : Table) → jump_at ps p ≡ Some j → j.table ≡ Some t → 0 < t.count
jump-counts ps p j t is has = by_register (jump_register p.insn) is
  where
    by_sum : (r : Reg) (o : Option Point) → option_map (λ sum. record { place = p.place; table = table_at p.place r (below p.place ps) sum }) o ≡ Some j → 0 < t.count
    by_sum r None h = absurd (cc)
    by_sum r (Some sum) h =
        let same : record { place = p.place; table = table_at p.place r (below p.place ps) sum } ≡ j = cc in
        at-counts p.place r (below p.place ps) sum t (ap (λ (k : Jump). k.table) same ∙ has)

    by_register : (o : Option Reg) → option_and_then (jump_through p.place (below p.place ps)) o ≡ Some j → 0 < t.count
    by_register None h = absurd (cc)
    by_register (Some r) h = by_sum r (sum_in r (below p.place ps)) h

counts : (bytes : List ℕ) (j : Jump) (t : Table) → Contains (jumps_of bytes) j → j.table ≡ Some t → 0 < t.count
unfolding jumps_of
counts bytes j t here has =
    let f = Contains-flat_map (λ f. jumps_in (points_of bytes f)) (kept_functions bytes) j here in
    let g = given-by (jump_at (points_of bytes f.0)) (points_of bytes f.0) j f.2 in
    jump-counts (points_of bytes f.0) g.item j t g.given has

or-none : (a b : Option Fault) → option_or a b ≡ None → a ≡ None
or-none None b h = refl
or-none (Some x) b h = absurd (cc)

jump-clean : (bytes : List ℕ) (k : ℕ) (d : Jump) → first (table_rules bytes) ≡ None → k < length (jumps_of bytes) → jump_fault bytes (jumps_of bytes) k (get_or (jumps_of bytes) k d) ≡ None
unfolding table_rules
jump-clean bytes k d clean within =
    let rule = or-none (first_of (each_of (jumps_of bytes) (jump_fault bytes (jumps_of bytes)))) _ clean in
    let none = first_from-none (finding_at (each_of (jumps_of bytes) (jump_fault bytes (jumps_of bytes)))) 0 _ rule k (omega arith) (omega arith) in
    sym (ap (option_and_then (jump_fault bytes (jumps_of bytes) k)) (slice_get-get_or (jumps_of bytes) k d within)) ∙ none

good-table : (bytes : List ℕ) (earlier : List Table) (a : ℕ) (o : Option Table) (t : Table) → table_fault bytes earlier a o ≡ None → o ≡ Some t → is_good bytes earlier t ≡ true
good-table bytes earlier a None t none is = absurd (cc)
good-table bytes earlier a (Some u) t none is =
    let same : u ≡ t = cc in
    by_test (is_good bytes earlier t) refl (subst (λ v. when (not (is_good bytes earlier v)) (BadTable a) ≡ None) same none)
  where
    by_test : (b : Bool) → is_good bytes earlier t ≡ b → when (not b) (BadTable a) ≡ None → is_good bytes earlier t ≡ true
    by_test true at h = at
    by_test false at h = absurd (cc)

pub table-good : (bytes : List ℕ) (t : Table) → first (table_rules bytes) ≡ None → Contains (tables_of bytes) t → IsGoodTable bytes t
unfolding tables_of
table-good bytes t clean here =
    let listed = Contains-permutation _ _ t (IsPermutation-sym _ _ (permutation-ordered comes_before (tables_in (jumps_of bytes)))) (Contains-from_dedup same_base (ordered comes_before (tables_in (jumps_of bytes))) t here) in
    let g = given-by (λ (j : Jump). j.table) (jumps_of bytes) t listed in
    let at = g.listed in
    let none : jump_fault bytes (jumps_of bytes) at.0 g.item ≡ None = subst (λ j. jump_fault bytes (jumps_of bytes) at.0 j ≡ None) at.2 (jump-clean bytes at.0 g.item clean at.1) in
    let good = good-table bytes (tables_in (take at.0 (jumps_of bytes))) g.item.place g.item.table t none g.given in
    let parts = and_parts (is_constant bytes t) _ good in
    record { constant = parts.0; leading = (and_parts (all_lead bytes t) _ parts.1).0; some = counts bytes g.item t g.listed g.given }

-- ---- they are apart

in-front : (jumps : List Jump) (i k : ℕ) (j : Jump) → i < k → i < length jumps → get_or jumps i j ≡ j → Contains (take k jumps) j
in-front jumps i k j low within at = (i, omega (arith, length-take k jumps), get_or-take k jumps i j low ∙ at)

not-any : (b : Bool) → not b ≡ true → b ≡ false
not-any true h = absurd (cc)
not-any false h = refl

-- the table of a jump overlaps none of those of lower jumps
earlier-apart : (bytes : List ℕ) (t u : Table) → first (table_rules bytes) ≡ None → (g : Gives (λ (j : Jump). j.table) (jumps_of bytes) t) → (h : Gives (λ (j : Jump). j.table) (jumps_of bytes) u) → g.listed.0 < h.listed.0 → overlaps u t ≡ false
earlier-apart bytes t u clean g h low =
    let at = h.listed in
    let none : jump_fault bytes (jumps_of bytes) at.0 h.item ≡ None = subst (λ j. jump_fault bytes (jumps_of bytes) at.0 j ≡ None) at.2 (jump-clean bytes at.0 h.item clean at.1) in
    let good = good-table bytes (tables_in (take at.0 (jumps_of bytes))) h.item.place h.item.table u none h.given in
    let parts = and_parts (is_constant bytes u) _ good in
    let free = not-any (list_any (overlaps u) (tables_in (take at.0 (jumps_of bytes)))) (and_parts (all_lead bytes u) _ parts.1).1 in
    none-any (tables_in (take at.0 (jumps_of bytes))) u t free (gives-it (λ (j : Jump). j.table) (take at.0 (jumps_of bytes)) g.item t (in-front (jumps_of bytes) g.listed.0 at.0 g.item low g.listed.1 g.listed.2) g.given)

are-apart : (bytes : List ℕ) → first (table_rules bytes) ≡ None → AreApart (tables_in (jumps_of bytes))
are-apart bytes clean = λ t u in_t in_u.
    let g = given-by (λ (j : Jump). j.table) (jumps_of bytes) t in_t in
    let h = given-by (λ (j : Jump). j.table) (jumps_of bytes) u in_u in
    elim (cases_lt g.listed.0 h.listed.0) [
      | inl before ↦ apart-back u t (earlier-apart bytes t u clean g h before)
      | inr later ↦
          elim (cases_lt h.listed.0 g.listed.0) [
            | inl behind ↦ earlier-apart bytes u t clean h g behind
            | inr level ↦
                let place : g.listed.0 ≡ h.listed.0 = omega (arith, later, level) in
                let item : g.item ≡ h.item = sym g.listed.2 ∙ get_or_default (jumps_of bytes) g.listed.0 g.item h.item g.listed.1 ∙ ap (λ k. get_or (jumps_of bytes) k h.item) place ∙ h.listed.2 in
                let table : Some t ≡ Some u = sym g.given ∙ ap (λ (j : Jump). j.table) item ∙ h.given in
                let same : t ≡ u = cc in
                apart-same t u (ap (λ (x : Table). x.base) same)
          ]
    ]

pub tables-follow : (bytes : List ℕ) → first (table_rules bytes) ≡ None → AllPairs EndsBefore (tables_of bytes)
unfolding tables_of
tables-follow bytes clean = tables-apart (tables_in (jumps_of bytes)) (are-apart bytes clean)
