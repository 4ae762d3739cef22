-- One node looked at.
use Rattle.std.proofs.Common.{◌≡◌, ◌≢◌, ℕ, suc, ◌<◌, ◌≤◌, ◌⊎◌, List, [], ◌∷◌, ◌++◌, length, Some, None, Option, get_or, set, max, arith, inl, inr, refl, sym, subst, ap, ◌∙◌, Bool, true, false, nat_eq, ◌||◌, bit_or}
use Rattle.std.specs.Int.{bit_at}
use Rattle.std.proofs.lemmas.Bool.{cases_eq}
use Rattle.std.proofs.lemmas.Bool.Decides.{eqb_tells}
use Rattle.std.proofs.lemmas.List.Folds.{list_any-append}
use Rattle.std.proofs.lemmas.List.{get_or-set_other, get_or-set_same, length-set}
use Rattle.rw_live.proofs.NodeLaws.{some_same}
use Rattle.std.proofs.lemmas.Nat.Bits.{bit_at_or}
use Rattle.rw_live.specs.declared.graph.Node.{Node}
use Rattle.rw_live.specs.NodePaths.{NodeLeadsTo}
use Rattle.rw_live.specs.NodeSets.{bit_from, bit_before, IsClosedAt}
use Rattle.rw_live.specs.Work.{has_node, Covers, ChangesOnly, IsClosedUnder}

bit_from-other : (old new : List ℕ) (c b : ℕ) (o : Option ℕ) → ChangesOnly old new c → (o ≡ Some c → ⊥) → bit_from new o b ≡ bit_from old o b
bit_from-other old new c b None only apart = refl
bit_from-other old new c b (Some d) only apart = ap (λ v. bit_at v b) (only.1 d (λ e. apart (ap Some e)))

-- a node that doesn't lead to c makes the same live
bit_before-other : (old new : List ℕ) (c b : ℕ) (n : Node) → ChangesOnly old new c → (NodeLeadsTo n c → ⊥) → bit_before n new b ≡ bit_before n old b
bit_before-other old new c b n only apart =
    let x = bit_from-other old new c b n.next only (λ e. apart (inl e)) in
    let y = bit_from-other old new c b n.jump only (λ e. apart (inr e)) in
    rw (x, y) refl

true_or_false : (t : Bool) → (t ≡ true) ⊎ (t ≡ false)
true_or_false true = inl refl
true_or_false false = inr refl

closed_other : (nodes : ℕ → Option Node) (old new : List ℕ) (c d : ℕ) → ChangesOnly old new c → d ≢ c → ((n : Node) → nodes d ≡ Some n → NodeLeadsTo n c → ⊥) → IsClosedAt nodes old d → IsClosedAt nodes new d
closed_other nodes old new c d only other apart closed n e b lt =
    let same : bit_before n new b ≡ bit_before n old b = bit_before-other old new c b n only (apart n e) in
    let here : get_or new d 0 ≡ get_or old d 0 = only.1 d other in
    rw (same, here) (closed n e b lt)

closed_own : (nodes : ℕ → Option Node) (old new : List ℕ) (c : ℕ) → ChangesOnly old new c → ((n : Node) → nodes c ≡ Some n → NodeLeadsTo n c → ⊥) → IsClosedUnder nodes old new c → IsClosedAt nodes new c
closed_own nodes old new c only apart under n e b lt =
    let same : bit_before n new b ≡ bit_before n old b = bit_before-other old new c b n only (apart n e) in
    rw same (under n e b lt)

has_node-append : (xs ys : List ℕ) (c : ℕ) → has_node (xs ++ ys) c ≡ (has_node xs c || has_node ys c)
has_node-append xs ys c = list_any-append (nat_eq c) xs ys

not_both : (x : Bool) → x ≡ true → x ≡ false → ⊥
not_both x h k = cc

neither : (t : Bool) (d c : ℕ) → t ≡ false → d ≢ c → (t || (nat_eq d c || false)) ≡ false
neither t d c h o =
    elim (eqb_tells d c) [
      | inl x ↦ absurd (o x.1)
      | inr x ↦ (let e : nat_eq d c ≡ false = x.0 in rw (h, e) refl)
    ]

or_true : (t : Bool) → (t || true) ≡ true
or_true true = refl
or_true false = refl

has_own : (t : Bool) (x : ℕ) → (t || (nat_eq x x || false)) ≡ true
has_own t x = elim (eqb_tells x x) [ inl p ↦ (let e : nat_eq x x ≡ true = p.0 in rw e (or_true t)) | inr p ↦ absurd (p.1 refl) ]

-- after a node is looked at and those that lead there are added
pub Covers-grown : (nodes : ℕ → Option Node) (from : ℕ) (old new : List ℕ) (rest more : List ℕ) (c : ℕ) → ((d : ℕ) → has_node rest d ≡ true → has_node more d ≡ true) → ((d : ℕ) (n : Node) → from ≤ d → nodes d ≡ Some n → NodeLeadsTo n c → has_node more d ≡ true)
    → ChangesOnly old new c → IsClosedUnder nodes old new c → Covers nodes from old (rest ++ c ∷ []) → Covers nodes from new more
Covers-grown nodes from old new rest more c kept added only under covers d low absent =
    let in_rest : has_node rest d ≡ false = elim (true_or_false (has_node rest d)) [ inl t ↦ absurd (not_both (has_node more d) (kept d t) absent) | inr f ↦ f ] in
    let apart : (n : Node) → nodes d ≡ Some n → NodeLeadsTo n c → ⊥ = λ n e leads. not_both (has_node more d) (added d n low e leads) absent in
    elim (cases_eq d c) [
      | inl s ↦ subst (λ v. IsClosedAt nodes new v) (sym s) (closed_own nodes old new c only (λ n e. apart n (subst (λ v. nodes v ≡ Some n) (sym s) e)) under)
      | inr o ↦ closed_other nodes old new c d only o apart (covers d low (has_node-append rest (c ∷ []) d ∙ neither (has_node rest d) d c in_rest o))
    ]

-- after a node is looked at and nothing is added
pub Covers-same : (nodes : ℕ → Option Node) (from : ℕ) (live : List ℕ) (rest : List ℕ) (c : ℕ) → IsClosedAt nodes live c → Covers nodes from live (rest ++ c ∷ []) → Covers nodes from live rest
Covers-same nodes from live rest c here covers d low absent =
    elim (cases_eq d c) [
      | inl s ↦ subst (λ v. IsClosedAt nodes live v) (sym s) here
      | inr o ↦ covers d low (has_node-append rest (c ∷ []) d ∙ neither (has_node rest d) d c absent o)
    ]

-- one node before those that are covered, to be looked at
pub Covers-one : (nodes : ℕ → Option Node) (from : ℕ) (live : List ℕ) → Covers nodes (suc from) live [] → Covers nodes from live (from ∷ [])
Covers-one nodes from live covers d low absent =
    elim (cases_eq d from) [
      | inl s ↦ absurd (not_both (has_node (from ∷ []) d) (subst (λ v. has_node (from ∷ []) v ≡ true) (sym s) (has_own false from)) absent)
      | inr o ↦ covers d (omega (arith, low, o)) refl
    ]

-- a node is in a list that it is added to, and so are those that were
pub has_node-added : (xs : List ℕ) (c : ℕ) → has_node (xs ++ c ∷ []) c ≡ true
has_node-added xs c = has_node-append xs (c ∷ []) c ∙ has_own (has_node xs c) c

pub has_node-kept : (xs : List ℕ) (x c : ℕ) → has_node xs c ≡ true → has_node (xs ++ x ∷ []) c ≡ true
has_node-kept xs x c h = has_node-append xs (x ∷ []) c ∙ ap (λ t. t || has_node (x ∷ []) c) h

-- what a look at a point leaves under it
pub IsClosedUnder-set : (nodes : ℕ → Option Node) (live : List ℕ) (c t : ℕ) (n : Node) → c < length live → nodes c ≡ Some n → ((b : ℕ) → b < 32 → bit_at t b ≡ bit_before n live b) → IsClosedUnder nodes live (set live c (bit_or (get_or live c 0) t)) c
IsClosedUnder-set nodes live c t n within e bits m f b lt =
    let k : n ≡ m = some_same (sym e ∙ f) in
    let g : get_or (set live c (bit_or (get_or live c 0) t)) c 0 ≡ bit_or (get_or live c 0) t = get_or-set_same live c (bit_or (get_or live c 0) t) 0 within in
    let o : bit_at (bit_or (get_or live c 0) t) b ≡ max (bit_at (get_or live c 0) b) (bit_at t b) = bit_at_or (get_or live c 0) t b in
    let h : bit_at t b ≡ bit_before n live b = bits b lt in
    subst (λ v. bit_before v live b ≤ bit_at (get_or (set live c (bit_or (get_or live c 0) t)) c 0) b) k (rw (g, o) (omega arith))

pub ChangesOnly-set : (live : List ℕ) (c v : ℕ) → ChangesOnly live (set live c v) c
ChangesOnly-set live c v = (length-set live c v, λ d o. get_or-set_other live c d v 0 o)
