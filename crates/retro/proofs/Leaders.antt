-- The lines of leaders.
use Rattle.std.proofs.Common.{◌≡◌, ℕ, suc, take, subst, ◌+◌, ◌<◌, ◌≤◌, ◌==◌, true, List, [], ◌∷◌, ◌++◌, length, get_or, drop, Option, Some, None, refl, sym, ap, ◌∙◌, arith, add-one, length-append, drop-cons, append_assoc, eq-eqb, ne_eqb}
use Rattle.std.specs.Prelude.{codes, decimal, position, slice_get, option_and_then, option_map, IfSome}
use Rattle.std.specs.Option.{option_map_or}
use Rattle.std.specs.List.{Contains}
use Rattle.std.specs.List.Sorted.{IsStrictlyIncreasing}
use Rattle.std.proofs.lemmas.Bool.{leb-true}
use Rattle.std.specs.Io.KnownBytes.{Appends}
use Rattle.std.proofs.KnownBytes.{Appends-trans}
use Rattle.std.proofs.lemmas.List.{drop_all, take-append-le}
use Rattle.std.proofs.Math.Seq.{take-append-add}
use Rattle.std.proofs.lemmas.List.Kept.{AllPairs-from_increasing}
use Rattle.std.proofs.lemmas.Option.{slice_get-get_or, slice_get-map, slice_get_within, get_or_from_slice_get}
use Rattle.x86_insn.specs.declared.kinds.Reg.{Reg}
use Rattle.x86_insn.specs.declared.kinds.Reg.TheVariants.{Rax, Rcx, Rdx, Rbx, Rsp, Rbp, Rsi, Rdi, R8, R9, R10, R11, R12, R13, R14, R15}
use Rattle.rw_base.specs.declared.width.Width.TheVariants.{Q}
use Rattle.rw_base.specs.Name.{is_good_name}
use Rattle.rw_elf.specs.declared.symbol.Symbol.{Symbol}
use Rattle.rw_elf.specs.Name.{name_bytes}
use Rattle.rw_elf.proofs.Search.{position-at}
use Rattle.rw_funcs.specs.Functions.{function_at, function_of, functions_of, kept_functions, name_of_symbol}
use Rattle.rw_funcs.proofs.Facts.{good_name}
use Rattle.rw_data.specs.FirstFault.{first_fault}
use Rattle.rw_data.proofs.Clean.{IsClean, each_clean}
use Rattle.rw_probe.specs.declared.form.Probe.{Probe}
use Rattle.rw_probe.specs.declared.form.Probe.TheVariants.{Inc, Dead, Spill}
use Rattle.rw_probe.specs.Leaders.{leaders_of}
use Rattle.asm_print.specs.Line.{hex}
use Rattle.asm_print.specs.Words.{low_name}
use Rattle.asm_print.proofs.Lengths.{digits-le}
use Rattle.rw_out.specs.Plan.{PlanOf, plan_probes}
use Rattle.rw_out.specs.Probed.{AreProbes, counted}
use Rattle.retro.specs.Blocks.{function_name, leader_line, lines_from, probe_word}

-- ---- a line has room

register-le : (r : Reg) → length (low_name Q r) ≤ 5
register-le Rax = omega arith
register-le Rcx = omega arith
register-le Rdx = omega arith
register-le Rbx = omega arith
register-le Rsp = omega arith
register-le Rbp = omega arith
register-le Rsi = omega arith
register-le Rdi = omega arith
register-le R8 = omega arith
register-le R9 = omega arith
register-le R10 = omega arith
register-le R11 = omega arith
register-le R12 = omega arith
register-le R13 = omega arith
register-le R14 = omega arith
register-le R15 = omega arith

word-le : (form : Probe) → length (probe_word form) ≤ 5
unfolding probe_word
word-le Inc = omega arith
word-le (Dead r) = register-le r
word-le Spill = omega arith

pieces-le : (a b c d t u : List ℕ) → length a ≤ 64 → length b ≤ 64 → length c ≤ 4096 → length d ≤ 5 → length t ≤ 1 → length u ≤ 1 → length (a ++ t ++ b ++ t ++ c ++ t ++ d ++ u) ≤ 8192
pieces-le a b c d t u ha hb hc hd ht hu =
    omega (arith, ha, hb, hc, hd, ht, hu, length-append a t, length-append (a ++ t) b, length-append (a ++ t ++ b) t, length-append (a ++ t ++ b ++ t) c, length-append (a ++ t ++ b ++ t ++ c) t, length-append (a ++ t ++ b ++ t ++ c ++ t) d, length-append (a ++ t ++ b ++ t ++ c ++ t ++ d) u)

pub leader-le : (number a : ℕ) (name : List ℕ) (form : Probe) → length name ≤ 4096 → length (leader_line number a name form) ≤ 8192
unfolding leader_line
leader-le number a name form h = pieces-le (decimal number) (hex a) name (probe_word form) (codes "\t") (codes "\n") (digits-le 10 number) (digits-le 16 a) h (word-le form) (omega arith) (omega arith)

good-le : (name : List ℕ) → is_good_name name ≡ true → length name ≤ 4096
unfolding is_good_name
good-le name h = grind (arith, leb-true)

module _ (file : List ℕ) (clean : IsClean file) where
  symbol-short : (o : Option Symbol) → IfSome o (Contains (kept_functions file)) → length (option_map_or (λ f. name_bytes file f.name) (option_map function_at o) []) ≤ 4096
  symbol-short None h = omega arith
  symbol-short (Some f) h = good-le (name_of_symbol file f) (good_name file f clean.elf clean.functions h)

  kept-at : (o : Option Symbol) (k : ℕ) → slice_get (kept_functions file) k ≡ o → IfSome o (Contains (kept_functions file))
  kept-at None k h = tt
  kept-at (Some f) k h = (k, slice_get_within (kept_functions file) k f h, get_or_from_slice_get (kept_functions file) k f f h)

  numbered-short : (o : Option ℕ) → length (option_map_or (λ f. name_bytes file f.name) (option_and_then (slice_get (functions_of file)) o) []) ≤ 4096
  numbered-short None = omega arith
  numbered-short (Some k) =
      let same = ap (λ o. length (option_map_or (λ f. name_bytes file f.name) o [])) (slice_get-map function_at (kept_functions file) k) in
      let short = symbol-short (slice_get (kept_functions file) k) (kept-at (slice_get (kept_functions file) k) k refl) in
      omega (arith, same, short)

pub name-le : (file : List ℕ) (a : ℕ) → first_fault file ≡ None → length (function_name file a) ≤ 4096
unfolding function_name
name-le file a h = numbered-short file (each_clean file h) (function_of file a)

-- ---- the probe of a leader

place-of : (xs : List ℕ) (k : ℕ) → IsStrictlyIncreasing xs → k < length xs → position (λ x. x == get_or xs k 0) xs ≡ Some k
place-of xs k ascend low =
    position-at (λ x. x == get_or xs k 0) xs k 0 low (eq-eqb (get_or xs k 0) (get_or xs k 0) refl)
    (λ j less. ne_eqb (get_or xs j 0) (get_or xs k 0) (λ e. let order = AllPairs-from_increasing xs ascend j k 0 less low in omega (arith, order, e)))

pub probe-at : (plan : PlanOf) (k : ℕ) → IsStrictlyIncreasing (leaders_of plan.file plan.mode) → AreProbes plan.file plan.mode plan.forms → k < length (leaders_of plan.file plan.mode)
    → option_map (λ (counted : ℕ × Probe). counted.1) ((plan_probes plan).at (get_or (leaders_of plan.file plan.mode) k 0)) ≡ Some (get_or plan.forms k Inc)
probe-at plan k ascend probes low =
    let count = probes.count in
    ap (λ place. option_map (λ (c : ℕ × Probe). c.1) (option_and_then (counted plan.forms) place)) (place-of (leaders_of plan.file plan.mode) k ascend low)
    ∙ ap (λ form. option_map (λ (c : ℕ × Probe). c.1) (option_map (λ f. (k, f)) form)) (slice_get-get_or plan.forms k Inc (omega (arith, count, low)))

-- ---- line by line

pub next-line : (file leaders : List ℕ) (forms : List Probe) (k : ℕ) → k < length leaders → length forms ≡ length leaders
    → lines_from file k (drop k leaders) (drop k forms)
    ≡ leader_line k (get_or leaders k 0) (function_name file (get_or leaders k 0)) (get_or forms k Inc) ++ lines_from file (k + 1) (drop (k + 1) leaders) (drop (k + 1) forms)
next-line file leaders forms k low count =
    let a = get_or leaders k 0 in
    let form = get_or forms k Inc in
    ap (λ xs. lines_from file k xs (drop k forms)) (drop-cons leaders k 0 low)
    ∙ ap (λ ys. lines_from file k (a ∷ drop (suc k) leaders) ys) (drop-cons forms k Inc (omega (arith, low, count)))
    ∙ ap (λ n. leader_line k a (function_name file a) form ++ lines_from file (k + 1) (drop n leaders) (drop n forms)) (sym (add-one k))

pub no-line : (file leaders : List ℕ) (forms : List Probe) (k : ℕ) → length leaders ≤ k → lines_from file k (drop k leaders) (drop k forms) ≡ []
no-line file leaders forms k past = ap (λ xs. lines_from file k xs (drop k forms)) (drop_all k leaders past)

same-probe : (p q : Probe) → Some p ≡ Some q → p ≡ q
same-probe p q h = cc

-- the line that is written for the leader with a number, and those behind it
pub this-line : (plan : PlanOf) (xs : List ℕ) (k : ℕ) (name : List ℕ) (probe : Probe) → xs ≡ leaders_of plan.file plan.mode → IsStrictlyIncreasing xs → AreProbes plan.file plan.mode plan.forms → k < length xs
    → name ≡ function_name plan.file (get_or xs k 0) → Some probe ≡ option_map (λ (counted : ℕ × Probe). counted.1) ((plan_probes plan).at (get_or xs k 0))
    → lines_from plan.file k (drop k (leaders_of plan.file plan.mode)) (drop k plan.forms)
    ≡ leader_line k (get_or xs k 0) name probe ++ lines_from plan.file (k + 1) (drop (k + 1) (leaders_of plan.file plan.mode)) (drop (k + 1) plan.forms)
this-line plan xs k name probe same ascend probes low named found =
    let leaders = leaders_of plan.file plan.mode in
    let a = get_or leaders k 0 in
    let at : get_or xs k 0 ≡ a = ap (λ (l : List ℕ). get_or l k 0) same in
    let low' = subst (λ (l : List ℕ). k < length l) same low in
    let form = same-probe probe (get_or plan.forms k Inc) (found ∙ ap (λ b. option_map (λ (c : ℕ × Probe). c.1) ((plan_probes plan).at b)) at ∙ probe-at plan k (subst IsStrictlyIncreasing same ascend) probes low') in
    let rest = lines_from plan.file (k + 1) (drop (k + 1) leaders) (drop (k + 1) plan.forms) in
    next-line plan.file leaders plan.forms k low' probes.count
    ∙ ap (λ f. leader_line k a (function_name plan.file a) f ++ rest) (sym form)
    ∙ ap (λ n. leader_line k a n probe ++ rest) (sym (named ∙ ap (function_name plan.file) at))
    ∙ ap (λ b. leader_line k b name probe ++ rest) (sym at)

-- where a leader is there is a probe
pub no-gap : (plan : PlanOf) (xs : List ℕ) (k : ℕ) → xs ≡ leaders_of plan.file plan.mode → IsStrictlyIncreasing xs → AreProbes plan.file plan.mode plan.forms → k < length xs
    → option_map (λ (counted : ℕ × Probe). counted.1) ((plan_probes plan).at (get_or xs k 0)) ≡ Some (get_or plan.forms k Inc)
no-gap plan xs k same ascend probes low =
    ap (λ (l : List ℕ). option_map (λ (c : ℕ × Probe). c.1) ((plan_probes plan).at (get_or l k 0))) same
    ∙ probe-at plan k (subst IsStrictlyIncreasing same ascend) probes (subst (λ (l : List ℕ). k < length l) same low)

-- ---- what is written

-- the lines before and behind a line, where it is the first of those that are left
pub with-line : (front line rest left whole : List ℕ) → left ≡ line ++ rest → front ++ left ≡ whole → front ++ (line ++ rest) ≡ whole
with-line front line rest left whole this before = ap (λ (x : List ℕ). front ++ x) (sym this) ∙ before

pub more-lines : (front line rest left whole : List ℕ) → left ≡ line ++ rest → front ++ left ≡ whole → front ++ line ++ rest ≡ whole
more-lines front line rest left whole this before = append_assoc front line rest ∙ with-line front line rest left whole this before

-- at a fault a front of the line stands behind the lines before it
pub written-part : (old mid new : Option (List ℕ)) (front line rest whole : List ℕ) (d : ℕ) → Appends old mid front → (d ≤ length line) × Appends mid new (take d line) → front ++ (line ++ rest) ≡ whole → (n : ℕ) × Appends old new (take n whole)
written-part old mid new front line rest whole d before part all = (
  length front + d,
  subst (λ (x : List ℕ). Appends old new x)
      (sym (ap (take (length front + d)) (sym all) ∙ take-append-add front (line ++ rest) d ∙ ap (λ (x : List ℕ). front ++ x) (take-append-le d line rest part.0)))
      (Appends-trans old mid new front (take d line) before part.1),
)
