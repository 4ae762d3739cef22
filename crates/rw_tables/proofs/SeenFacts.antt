-- What is kept of points tells the jump that follows, and goes on with one more point.
use Rattle.std.proofs.Common.{◌≡◌, ℕ, ◌+◌, ◌<◌, ◌≤◌, ◌==◌, Bool, true, false, ◌&&◌, ◌||◌, cond, List, [], ◌∷◌, ◌++◌, nat_lt, is_some, Option, Some, None, refl, sym, ap, subst, ◌∙◌, arith}
use Rattle.std.specs.Option.{option_or, option_map}
use Rattle.std.specs.Prelude.{option_and_then}
use Rattle.std.proofs.lemmas.Bool.Decides.{nat_tests}
use Rattle.x86_insn.specs.declared.kinds.Reg.{Reg}
use Rattle.x86_insn.specs.declared.instruction.Insn.{Insn}
use Rattle.rw_funcs.specs.Points.{Point}
use Rattle.rw_tables.specs.declared.seen.Seen.{Seen}
use Rattle.rw_tables.specs.Dispatch.{nearest, below, above, behind, run_of, writes, ends_run, sum_register, source_of, named_by, adds, passing, sum_in, named_in, base_by, has_bound, bound_of, bound_before, jumps_above, limit_in, is_register, table_of, table_at}
use Rattle.rw_tables.specs.Seen.{IsSeen, IsNoted, address_in, sum_into, sum_over, last_sum, base_for, seen_jump, jump_seen}
use Rattle.rw_tables.specs.Jumps.{jump_register, jump_to, jump_through, jump_behind}
use Rattle.rw_tables.proofs.Registers.{same-register}
use Rattle.rw_tables.proofs.Touched.{writes-one, sum_register-touches}
use Rattle.std.proofs.lemmas.Bool.{eqb-true}
use Rattle.x86_insn.specs.WellFormed.{code_of}
use Rattle.rw_tables.proofs.Nearest.{nearest-last, nearest-filter}
use Rattle.rw_tables.proofs.Tiles.{Tiles, IsAmong, nearest-among, below-all, above-none, above-true}

-- ---- the run of points and one more

above-append : (c : ℕ) (xs ys : List Point) → above c (xs ++ ys) ≡ above c xs ++ above c ys
above-append c [] ys = refl
above-append c (x ∷ xs) ys = by_kept (nat_lt c x.place) (above-append c xs ys)
  where
    by_kept : (t : Bool) → above c (xs ++ ys) ≡ above c xs ++ above c ys → cond t (x ∷ above c (xs ++ ys)) (above c (xs ++ ys)) ≡ cond t (x ∷ above c xs) (above c xs) ++ above c ys
    by_kept true same = ap (λ l. x ∷ l) same
    by_kept false same = same

run-ended : (a : ℕ) (xs : List Point) (p : Point) → Tiles a xs p.place → ends_run p.insn ≡ true → run_of (xs ++ p ∷ []) ≡ []
run-ended a xs p t ends =
    let here : nat_lt p.place p.place ≡ false = grind (arith, nat_tests) in
    ap (λ o. behind o (xs ++ p ∷ [])) (nearest-last (λ q. ends_run q.insn) xs p ∙ ap (λ b. cond b (Some p) (nearest (λ q. ends_run q.insn) xs)) ends)
    ∙ above-append p.place xs (p ∷ [])
    ∙ ap (λ l. l ++ above p.place (p ∷ [])) (above-none a xs p.place p.place t (omega arith))
    ∙ ap (λ b. cond b (p ∷ []) []) here

run-goes_on : (a : ℕ) (xs : List Point) (p : Point) → Tiles a xs p.place → ends_run p.insn ≡ false → run_of (xs ++ p ∷ []) ≡ run_of xs ++ p ∷ []
run-goes_on a xs p t on =
    ap (λ o. behind o (xs ++ p ∷ [])) (nearest-last (λ q. ends_run q.insn) xs p ∙ ap (λ b. cond b (Some p) (nearest (λ q. ends_run q.insn) xs)) on)
    ∙ by_end (nearest (λ q. ends_run q.insn) xs) refl
  where
    by_end : (o : Option Point) → nearest (λ q. ends_run q.insn) xs ≡ o → behind o (xs ++ p ∷ []) ≡ behind o xs ++ p ∷ []
    by_end None found = refl
    by_end (Some e) found =
        let is = nearest-among (λ q. ends_run q.insn) a xs p.place t e found in
        let some = is.some in
        let high = is.high in
        above-append e.place xs (p ∷ []) ∙ ap (λ l. above e.place xs ++ l) (above-true p [] e.place (omega (arith, some, high)))

sum_in-last : (a : ℕ) (xs : List Point) (p : Point) (r : Reg) → Tiles a xs p.place → sum_in r (xs ++ p ∷ []) ≡ cond (ends_run p.insn) None (cond (writes r p.insn) (passing adds p) (sum_in r xs))
sum_in-last a xs p r t = by_end (ends_run p.insn) refl
  where
    by_writer : (w : Bool) → option_and_then (passing adds) (cond w (Some p) (nearest (λ q. writes r q.insn) (run_of xs))) ≡ cond w (passing adds p) (sum_in r xs)
    by_writer true = refl
    by_writer false = refl

    by_end : (b : Bool) → ends_run p.insn ≡ b → sum_in r (xs ++ p ∷ []) ≡ cond b None (cond (writes r p.insn) (passing adds p) (sum_in r xs))
    by_end true ends = ap (λ l. option_and_then (passing adds) (nearest (λ q. writes r q.insn) l)) (run-ended a xs p t ends)
    by_end false on =
        ap (λ l. option_and_then (passing adds) (nearest (λ q. writes r q.insn) l)) (run-goes_on a xs p t on)
        ∙ ap (option_and_then (passing adds)) (nearest-last (λ q. writes r q.insn) (run_of xs) p) ∙ by_writer (writes r p.insn)

-- ---- the address in a register, the bound and the limit

named_in-last : (xs : List Point) (p : Point) (r : Reg) → named_in (xs ++ p ∷ []) r ≡ cond (writes r p.insn) (named_by p.insn) (named_in xs r)
named_in-last xs p r = ap (option_and_then (λ (q : Point). named_by q.insn)) (nearest-last (λ q. writes r q.insn) xs p) ∙ by_writer (writes r p.insn)
  where
    by_writer : (w : Bool) → option_and_then (λ (q : Point). named_by q.insn) (cond w (Some p) (nearest (λ q. writes r q.insn) xs)) ≡ cond w (named_by p.insn) (named_in xs r)
    by_writer true = refl
    by_writer false = refl

bound-last : (xs : List Point) (p : Point) → bound_before (xs ++ p ∷ []) ≡ option_or (bound_of p.insn) (bound_before xs)
bound-last xs p = ap (option_and_then (λ (q : Point). bound_of q.insn)) (nearest-last has_bound xs p) ∙ by_bound (bound_of p.insn) refl
  where
    by_bound : (o : Option ℕ) → bound_of p.insn ≡ o → option_and_then (λ (q : Point). bound_of q.insn) (cond (is_some o) (Some p) (nearest has_bound xs)) ≡ option_or o (bound_before xs)
    by_bound None is = refl
    by_bound (Some n) is = is

below-last : (xs : List Point) (p : Point) (c : ℕ) → c ≤ p.place → below c (xs ++ p ∷ []) ≡ below c xs
below-last [] p c low = let test : nat_lt p.place c ≡ false = grind (arith, nat_tests) in ap (λ t. cond t (p ∷ []) []) test
below-last (x ∷ xs) p c low = ap (λ l. cond (nat_lt x.place c) (x ∷ l) l) (below-last xs p c low)

limit-last : (a : ℕ) (xs : List Point) (p : Point) → Tiles a xs p.place → limit_in (xs ++ p ∷ []) ≡ cond (jumps_above p.insn) (bound_before xs) (limit_in xs)
limit-last a xs p t = ap (option_and_then (λ (j : Point). bound_before (below j.place (xs ++ p ∷ [])))) (nearest-last (λ q. jumps_above q.insn) xs p) ∙ by_jump (jumps_above p.insn)
  where
    earlier : (o : Option Point) → nearest (λ q. jumps_above q.insn) xs ≡ o → option_and_then (λ (j : Point). bound_before (below j.place (xs ++ p ∷ []))) o ≡ option_and_then (λ (j : Point). bound_before (below j.place xs)) o
    earlier None found = refl
    earlier (Some j) found =
        let is = nearest-among (λ q. jumps_above q.insn) a xs p.place t j found in
        let high = is.high in
        ap bound_before (below-last xs p j.place (omega (arith, high)))

    by_jump : (b : Bool) → option_and_then (λ (j : Point). bound_before (below j.place (xs ++ p ∷ []))) (cond b (Some p) (nearest (λ q. jumps_above q.insn) xs)) ≡ cond b (bound_before xs) (limit_in xs)
    by_jump true = ap bound_before (below-last xs p p.place (omega arith) ∙ below-all a xs p.place p.place t (omega arith))
    by_jump false = earlier (nearest (λ q. jumps_above q.insn) xs) refl

-- ---- the sum that the last point is

last_sum-last : (a : ℕ) (xs : List Point) (p : Point) → Tiles a xs p.place → last_sum (xs ++ p ∷ []) ≡ sum_over (named_in xs) p.insn
last_sum-last a xs p t =
    ap (option_and_then (λ (q : Point). sum_over (named_in (below q.place (xs ++ p ∷ []))) q.insn)) (nearest-last (λ _. true) xs p)
    ∙ ap (λ l. sum_over (named_in l) p.insn) (below-last xs p p.place (omega arith) ∙ below-all a xs p.place p.place t (omega arith))

same-base : (f g : Reg → Option ℕ) → ((r : Reg) → f r ≡ g r) → (r : Reg) (o : Option Reg) → option_and_then (λ s. option_or (f s) (f r)) o ≡ option_and_then (λ s. option_or (g s) (g r)) o
same-base f g same r None = refl
same-base f g same r (Some s) = ap (λ o. option_or o (f r)) (same s) ∙ ap (option_or (g s)) (same r)

same-sum : (f g : Reg → Option ℕ) → ((r : Reg) → f r ≡ g r) → (i : Insn ℕ) → sum_over f i ≡ sum_over g i
same-sum f g same i = by_register (sum_register i)
  where
    by_register : (o : Option Reg) → option_and_then (sum_into f i) o ≡ option_and_then (sum_into g i) o
    by_register None = refl
    by_register (Some r) =
        let paired : ℕ → Reg × ℕ = λ base. (r, base) in
        ap (option_map paired) (same-base f g same r (source_of i))

-- ---- one more point

passed-some : (p : Point) (t : Bool) → is_some (cond t (Some p) None) ≡ t
passed-some p true = refl
passed-some p false = refl

sums-last : (p : Point) (ends writes : Bool) (o : Option Point) → is_some (cond ends None (cond writes (passing adds p) o)) ≡ cond ends false (cond writes (is_some (sum_register p.insn)) (is_some o))
sums-last p true w o = refl
sums-last p false true o = passed-some p (adds p)
sums-last p false false o = refl

pub seen-more : (a : ℕ) (xs : List Point) (p : Point) (s new : Seen) → Tiles a xs p.place → IsSeen xs s → IsNoted s p.insn new → IsSeen (xs ++ p ∷ []) new
seen-more a xs p s new t is noted = record {
  sums = λ r.
      noted.sums r ∙ ap (λ b. cond (ends_run p.insn) false (cond (writes r p.insn) (is_some (sum_register p.insn)) b)) (is.sums r)
      ∙ sym (ap is_some (sum_in-last a xs p r t) ∙ sums-last p (ends_run p.insn) (writes r p.insn) (sum_in r xs));
  named = λ r. noted.named r ∙ ap (cond (writes r p.insn) (named_by p.insn)) (is.named r) ∙ sym (named_in-last xs p r);
  last = noted.last ∙ same-sum (address_in s.named) (named_in xs) is.named p.insn ∙ sym (last_sum-last a xs p t);
  bound = noted.bound ∙ ap (option_or (bound_of p.insn)) is.bound ∙ sym (bound-last xs p);
  limit = noted.limit ∙ ap (λ o. cond (jumps_above p.insn) o s.limit) is.bound ∙ ap (cond (jumps_above p.insn) (bound_before xs)) is.limit ∙ sym (limit-last a xs p t);
}

-- ---- the jump that follows

-- points end with a last one, where there are any
data Ended (ps : List Point) : Type 0 where
  none : ps ≡ [] → Ended ps
  last : (xs : List Point) (p : Point) → ps ≡ xs ++ p ∷ [] → Ended ps

ended : (ps : List Point) → Ended ps
ended [] = none refl
ended (q ∷ ps) = by_rest (ended ps)
  where
    by_rest : Ended ps → Ended (q ∷ ps)
    by_rest (none e) = last [] q (ap (λ l. q ∷ l) e)
    by_rest (last xs p e) = last (q ∷ xs) p (ap (λ l. q ∷ l) e)

pub tiles-split : (a : ℕ) (xs ys : List Point) (e : ℕ) → Tiles a (xs ++ ys) e → (c : ℕ) × Tiles a xs c × Tiles c ys e
tiles-split a [] ys e t = (a, refl, t)
tiles-split a (q ∷ xs) ys e t = let rest = tiles-split (a + q.len) xs ys e t.2 in (rest.0, (t.0, t.1, rest.1), rest.2)

pub passed-test : (p q : Point) (t : Bool) → cond t (Some p) None ≡ Some q → (p ≡ q) × (t ≡ true)
passed-test p q true h = (cc, refl)
passed-test p q false h = absurd (cc)

sum_in-among : (a : ℕ) (xs : List Point) (e : ℕ) (r : Reg) (sum : Point) → Tiles a xs e → sum_in r xs ≡ Some sum → IsAmong a e sum
sum_in-among a xs e r sum t h = by_writer (nearest (λ q. writes r q.insn) (run_of xs)) refl h
  where
    in_run : (o : Option Point) (q : Point) → nearest (λ q. writes r q.insn) (behind o xs) ≡ Some q → IsAmong a e q
    in_run None q found = nearest-among (λ q. writes r q.insn) a xs e t q found
    in_run (Some f) q found = nearest-among (λ q. nat_lt f.place q.place && writes r q.insn) a xs e t q (sym (nearest-filter (λ q. nat_lt f.place q.place) (λ q. writes r q.insn) xs) ∙ found)

    by_writer : (o : Option Point) → nearest (λ q. writes r q.insn) (run_of xs) ≡ o → option_and_then (passing adds) o ≡ Some sum → IsAmong a e sum
    by_writer None found g = absurd (cc)
    by_writer (Some q) found g = subst (IsAmong a e) (passed-test q sum (adds q) g).0 (in_run (nearest (λ q. ends_run q.insn) xs) q found)

-- the base where the last point wrote the register, and where it didn't
base-own : (named : Reg → Option ℕ) (i : Insn ℕ) (r q : Reg) → sum_register i ≡ Some q → writes r i ≡ true → base_for r (sum_over named i) ≡ base_by named r i
base-own named i r q sum here =
    let test : is_register r q ≡ true = or-true (is_register r q) (sym (writes-one i q r (sum_register-touches i q sum)) ∙ here) in
    let same : q ≡ r = same-register q r (eqb-true (code_of q) (code_of r) test) in
    ap (λ o. base_for r (option_and_then (sum_into named i) o)) sum
    ∙ by_base (base_by named q i) test ∙ ap (λ x. base_by named x i) same
  where
    or-true : (t : Bool) → (t || false) ≡ true → t ≡ true
    or-true true h = refl
    or-true false h = h

    by_base : (o : Option ℕ) → is_register r q ≡ true → base_for r (option_map {U = Reg × ℕ} (λ base. (q, base)) o) ≡ o
    by_base None test = refl
    by_base (Some b) test = ap (λ t. cond t (Some b) None) test

base-other : (named : Reg → Option ℕ) (i : Insn ℕ) (r : Reg) → writes r i ≡ false → base_for r (sum_over named i) ≡ None
base-other named i r other = by_register (sum_register i) refl
  where
    or-false : (t : Bool) → (t || false) ≡ false → t ≡ false
    or-false true h = h
    or-false false h = refl

    by_base : (q : Reg) (o : Option ℕ) → is_register r q ≡ false → base_for r (option_map {U = Reg × ℕ} (λ base. (q, base)) o) ≡ None
    by_base q None test = refl
    by_base q (Some b) test = ap (λ t. cond t (Some b) None) test

    by_register : (o : Option Reg) → sum_register i ≡ o → base_for r (option_and_then (sum_into named i) o) ≡ None
    by_register None sum = refl
    by_register (Some q) sum = by_base q (base_by named q i) (or-false (is_register r q) (sym (writes-one i q r (sum_register-touches i q sum)) ∙ other))

some-register : (o : Option Reg) → is_some o ≡ true → (q : Reg) × (o ≡ Some q)
some-register None h = absurd (cc)
some-register (Some q) h = (q, refl)

table-seen : (a : ℕ) (ps : List Point) (e : ℕ) (r : Reg) (sum : Point) → Tiles a ps e → sum_in r ps ≡ Some sum → table_of (base_for r (last_sum ps)) (limit_in ps) ≡ table_at e r ps sum
table-seen a ps e r sum t found = by_last (ended ps)
  where
    whole : (xs : List Point) (p : Point) → ps ≡ xs ++ p ∷ [] → last_sum ps ≡ sum_over (named_in (below p.place ps)) p.insn
    whole xs p is = ap (option_and_then (λ (q : Point). sum_over (named_in (below q.place ps)) q.insn)) (ap (nearest (λ _. true)) is ∙ nearest-last (λ _. true) xs p)

    by_writer : (xs : List Point) (p : Point) → ps ≡ xs ++ p ∷ [] → Tiles a xs p.place → 0 < p.len → p.place + p.len ≡ e → (w : Bool) → writes r p.insn ≡ w → cond w (passing adds p) (sum_in r xs) ≡ Some sum
        → table_of (base_for r (last_sum ps)) (limit_in ps) ≡ table_at e r ps sum
    by_writer xs p is tiles some end true here g =
        let same = passed-test p sum (adds p) g in
        let register = some-register (sum_register p.insn) same.1 in
        let test : (p.place + p.len == e) ≡ true = grind (arith, nat_tests) in
        ap (λ o. table_of (base_for r o) (limit_in ps)) (whole xs p is)
        ∙ ap (λ o. table_of o (limit_in ps)) (base-own (named_in (below p.place ps)) p.insn r register.0 register.1 here)
        ∙ ap (λ b. cond b (table_of (base_by (named_in (below p.place ps)) r p.insn) (limit_in ps)) None) (sym test)
        ∙ ap (table_at e r ps) same.0
    by_writer xs p is tiles some end false other g =
        let among = sum_in-among a xs p.place r sum tiles g in
        let high = among.high in
        let test : (sum.place + sum.len == e) ≡ false = grind (arith, nat_tests) in
        ap (λ o. table_of (base_for r o) (limit_in ps)) (whole xs p is)
        ∙ ap (λ o. table_of o (limit_in ps)) (base-other (named_in (below p.place ps)) p.insn r other)
        ∙ ap (λ b. cond b (table_of (base_by (named_in (below sum.place ps)) r sum.insn) (limit_in ps)) None) (sym test)

    by_end : (xs : List Point) (p : Point) → ps ≡ xs ++ p ∷ [] → Tiles a xs p.place → 0 < p.len → p.place + p.len ≡ e → (b : Bool) → cond b None (cond (writes r p.insn) (passing adds p) (sum_in r xs)) ≡ Some sum
        → table_of (base_for r (last_sum ps)) (limit_in ps) ≡ table_at e r ps sum
    by_end xs p is tiles some end true g = absurd (cc)
    by_end xs p is tiles some end false g = by_writer xs p is tiles some end (writes r p.insn) refl g

    by_last : Ended ps → table_of (base_for r (last_sum ps)) (limit_in ps) ≡ table_at e r ps sum
    by_last (none is) = let nothing : ◌≡◌ {A = Option Point} None (Some sum) = sym (ap (sum_in r) is) ∙ found in absurd (cc)
    by_last (last xs p is) =
        let split = tiles-split a xs (p ∷ []) e (subst (λ l. Tiles a l e) is t) in
        let place : p.place ≡ split.0 = split.2.0 in
        let tiles : Tiles a xs p.place = subst (Tiles a xs) (sym place) split.1 in
        by_end xs p is tiles split.2.1 (ap (λ n. n + p.len) place ∙ split.2.2) (ends_run p.insn) (sym (ap (sum_in r) is ∙ sum_in-last a xs p r tiles) ∙ found)

pub jump-seen : (a : ℕ) (ps : List Point) (e : ℕ) (s : Seen) (i : Insn ℕ) → Tiles a ps e → IsSeen ps s → jump_seen s e i ≡ jump_behind ps e i
jump-seen a ps e s i t is = by_register (jump_register i)
  where
    by_sum : (r : Reg) (o : Option Point) → sum_in r ps ≡ o → cond (is_some o) (Some (jump_to e (table_of (base_for r s.last) s.limit))) None ≡ option_map (λ sum. jump_to e (table_at e r ps sum)) o
    by_sum r None found = refl
    by_sum r (Some sum) found =
        ap (λ t. Some (jump_to e t)) (ap (λ o. table_of (base_for r o) s.limit) is.last ∙ ap (table_of (base_for r (last_sum ps))) is.limit ∙ table-seen a ps e r sum t found)

    by_register : (o : Option Reg) → option_and_then (seen_jump s e) o ≡ option_and_then (jump_through e ps) o
    by_register None = refl
    by_register (Some r) =
        ap (λ b. cond b (Some (jump_to e (table_of (base_for r s.last) s.limit))) None) (is.sums r) ∙ by_sum r (sum_in r ps) refl
