-- Sets that are sound and closed are those of the paths.
use Rattle.std.proofs.Common.{◌≡◌, ℕ, zero, suc, ◌+◌, ◌<◌, ◌≤◌, ◌≢◌, ◌⊎◌, List, [], ◌∷◌, length, Some, None, Option, get_or, set, max, arith, inl, inr, refl, sym, subst, ap, ◌∙◌, lit<, get_or-set_same, get_or-set_other, bit_or, sum, ◌*◌}
use Rattle.std.proofs.lemmas.Bool.{cases_eq}
use Rattle.std.specs.Prelude.{IsSomeAnd}
use Rattle.std.specs.Int.{bit_at}
use Rattle.std.proofs.lemmas.Nat.Bits.{bit_at-lt, bit_at-zero, bit_at_or}
use Rattle.std.proofs.lemmas.Nat.{or_of_32, le_or_l}
use Rattle.std.proofs.lemmas.List.Sums.{sum_by-set, sum_by-cons}
use Rattle.std.specs.List.{sum_by}
use Rattle.rw_live.specs.declared.graph.Node.{Node}
use Rattle.rw_live.specs.NodePaths.{Has, NodeLeadsTo, IsNodePath, IsLiveAt, ComputesLiveness}
use Rattle.rw_live.specs.NodeSets.{bit_from, bit_before, IsSound, IsClosedAt}

pub some_is : {T : Type 0} (o : Option T) (P : T → Type 0) → IsSomeAnd o P → (n : T) × (o ≡ Some n) × P n
some_is None P h = absurd h
some_is (Some x) P h = (x, refl, h)

pub some_has : {T : Type 0} (o : Option T) (P : T → Type 0) (n : T) → o ≡ Some n → P n → IsSomeAnd o P
some_has o P n e p = subst (λ v. IsSomeAnd v P) (sym e) p

pub some_same : {T : Type 0} {a b : T} → Some a ≡ Some b → a ≡ b
some_same e = cc

pub is_bit : (x : ℕ) → x < 2 → (x ≡ 0) ⊎ (x ≡ 1)
is_bit zero h = inl refl
is_bit (suc zero) h = inr refl
is_bit (suc (suc n)) h = absurd (omega arith)

-- a bit after a node that leads there
pub bit_from-leads : (live : List ℕ) (n : Node) (d b : ℕ) → NodeLeadsTo n d → Has (get_or live d 0) b → 1 ≤ max (bit_from live n.next b) (bit_from live n.jump b)
bit_from-leads live n d b (inl e) h = rw e (omega arith)
bit_from-leads live n d b (inr e) h = rw e (omega arith)

-- along a path each closed set has the bit
pub path_live : (nodes : ℕ → Option Node) (live : List ℕ) (b : ℕ) → b < 32 → ((c : ℕ) → IsClosedAt nodes live c) → (ds : List ℕ) (c : ℕ) → IsNodePath nodes b c ds → Has (get_or live c 0) b
path_live nodes live b lt closed [] c p =
    let q : (n : Node) × (nodes c ≡ Some n) × Has n.reads b = some_is (nodes c) (λ n. Has n.reads b) p in
    let h : bit_before q.0 live b ≤ bit_at (get_or live c 0) b = closed c q.0 q.1 b lt in
    let r : bit_at q.0.reads b ≡ 1 = q.2 in
    let k : bit_at (get_or live c 0) b < 2 = bit_at-lt (get_or live c 0) b in
    omega arith
path_live nodes live b lt closed (d ∷ ds) c p =
    let q : (n : Node) × (nodes c ≡ Some n) × (¬ Has n.writes b × NodeLeadsTo n d) = some_is (nodes c) (λ n. ¬ Has n.writes b × NodeLeadsTo n d) p.0 in
    let h : bit_before q.0 live b ≤ bit_at (get_or live c 0) b = closed c q.0 q.1 b lt in
    let after : Has (get_or live d 0) b = path_live nodes live b lt closed ds d p.1 in
    let most : 1 ≤ max (bit_from live q.0.next b) (bit_from live q.0.jump b) = bit_from-leads live q.0 d b q.2.1 after in
    let free : bit_at q.0.writes b ≢ 1 = q.2.0 in
    let w : bit_at q.0.writes b < 2 = bit_at-lt q.0.writes b in
    let k : bit_at (get_or live c 0) b < 2 = bit_at-lt (get_or live c 0) b in
    omega arith

from_bit : (nodes : ℕ → Option Node) (live : List ℕ) → IsSound nodes live → (o : Option ℕ) (b : ℕ) → b < 32 → bit_from live o b ≡ 1 → (d : ℕ) × (o ≡ Some d) × IsLiveAt nodes d b
from_bit nodes live sound None b lt h = absurd (omega arith)
from_bit nodes live sound (Some d) b lt h = (d, refl, sound.bits d b lt h)

-- a point before one where b is live
step_live : (nodes : ℕ → Option Node) (c b d : ℕ) (n : Node) → nodes c ≡ Some n → ¬ Has n.writes b → NodeLeadsTo n d → IsLiveAt nodes d b → IsLiveAt nodes c b
step_live nodes c b d n e free leads live = (d ∷ live.0, (some_has (nodes c) (λ m. ¬ Has m.writes b × NodeLeadsTo m d) n e (free, leads), live.1))

-- one of the points after it has the bit
after_live : (nodes : ℕ → Option Node) (live : List ℕ) → IsSound nodes live → (b : ℕ) (n : Node) → b < 32 → 1 ≤ max (bit_from live n.next b) (bit_from live n.jump b) → (bit_from live n.next b < 2) → (bit_from live n.jump b < 2) → (d : ℕ) × NodeLeadsTo n d × IsLiveAt nodes d b
after_live nodes live sound b n lt h x y =
    elim (is_bit (bit_from live n.next b) x) [
      | inr r ↦ (let t = from_bit nodes live sound n.next b lt r in (t.0, inl t.1, t.2))
      | inl z ↦ (let r : bit_from live n.jump b ≡ 1 = omega arith in
          let t = from_bit nodes live sound n.jump b lt r in (t.0, inr t.1, t.2))
    ]

bit_from-lt : (live : List ℕ) (o : Option ℕ) (b : ℕ) → bit_from live o b < 2
bit_from-lt live None b = lit< tt
bit_from-lt live (Some d) b = bit_at-lt (get_or live d 0) b

-- what a node makes live before it is live, where the sets after it are sound
pub before_live : (nodes : ℕ → Option Node) (live : List ℕ) → IsSound nodes live → (c b : ℕ) (n : Node) → b < 32 → nodes c ≡ Some n → bit_before n live b ≡ 1 → IsLiveAt nodes c b
before_live nodes live sound c b n lt e h =
    elim (is_bit (bit_at n.reads b) (bit_at-lt n.reads b)) [
      | inr r ↦ ([], some_has (nodes c) (λ m. Has m.reads b) n e r)
      | inl z ↦
          (let free : ¬ Has n.writes b = λ w. omega (arith, w) in
          let some : 1 ≤ max (bit_from live n.next b) (bit_from live n.jump b) = omega arith in
          let x = after_live nodes live sound b n lt some (bit_from-lt live n.next b) (bit_from-lt live n.jump b) in
          step_live nodes c b x.0 n e free x.1 x.2)
    ]

step_bits : (nodes : ℕ → Option Node) (live : List ℕ) (c more : ℕ) (n : Node) → IsSound nodes live → c < length live → nodes c ≡ Some n → ((b : ℕ) → b < 32 → bit_at more b ≡ max (bit_at (get_or live c 0) b) (bit_before n live b)) → (d b : ℕ) → b < 32 → Has (get_or (set live c more) d 0) b → IsLiveAt nodes d b
step_bits nodes live c more n sound within e bits d b lt h =
    elim (cases_eq d c) [
      | inl s ↦ (let g : get_or (set live c more) d 0 ≡ more = rw s (get_or-set_same live c more 0 within) in
          let m : bit_at more b ≡ 1 = rw g at h in
          let f : max (bit_at (get_or live c 0) b) (bit_before n live b) ≡ 1 = sym (bits b lt) ∙ m in
          subst (λ v. IsLiveAt nodes v b) (sym s) (elim (is_bit (bit_at (get_or live c 0) b) (bit_at-lt (get_or live c 0) b)) [
            | inr r ↦ sound.bits c b lt r
            | inl z ↦ before_live nodes live sound c b n lt e (omega arith)
          ]))
      | inr o ↦ (let g : get_or (set live c more) d 0 ≡ get_or live d 0 = get_or-set_other live c d more 0 o in
          sound.bits d b lt (rw g at h))
    ]

step_fits : (live : List ℕ) (c more : ℕ) → ((d : ℕ) → get_or live d 0 < 4294967296) → c < length live → more < 4294967296 → (d : ℕ) → get_or (set live c more) d 0 < 4294967296
step_fits live c more fits within small d =
    elim (cases_eq d c) [
      | inl s ↦ (let g : get_or (set live c more) d 0 ≡ more = rw s (get_or-set_same live c more 0 within) in rw g small)
      | inr o ↦ (let g : get_or (set live c more) d 0 ≡ get_or live d 0 = get_or-set_other live c d more 0 o in rw g (fits d))
    ]

-- one set more, with what its node makes live
pub IsSound-set : (nodes : ℕ → Option Node) (live : List ℕ) (c t : ℕ) (n : Node) → IsSound nodes live → c < length live → nodes c ≡ Some n → t < 4294967296 → ((b : ℕ) → b < 32 → bit_at t b ≡ bit_before n live b) → IsSound nodes (set live c (bit_or (get_or live c 0) t))
IsSound-set nodes live c t n sound within e small bits = record {
  fits = step_fits live c (bit_or (get_or live c 0) t) sound.fits within (or_of_32 (get_or live c 0) t (sound.fits c) small);
  bits = step_bits nodes live c (bit_or (get_or live c 0) t) n sound within e (λ b lt. bit_at_or (get_or live c 0) t b ∙ ap (λ v. max (bit_at (get_or live c 0) b) v) (bits b lt));
}

-- the sum of the sets grows
pub sum-set_more : (live : List ℕ) (c t : ℕ) → c < length live → bit_or (get_or live c 0) t ≢ get_or live c 0 → sum live < sum (set live c (bit_or (get_or live c 0) t))
sum-set_more live c t within other =
    let e : sum_by (λ x. x) (set live c (bit_or (get_or live c 0) t)) + get_or live c 0 ≡ sum_by (λ x. x) live + bit_or (get_or live c 0) t = sum_by-set (λ x. x) live c (bit_or (get_or live c 0) t) 0 within in
    let m : get_or live c 0 ≤ bit_or (get_or live c 0) t = le_or_l (get_or live c 0) t in
    omega (arith, other)

-- where nothing is added the set is closed
pub closed_here : (nodes : ℕ → Option Node) (live : List ℕ) (c t : ℕ) (n : Node) → nodes c ≡ Some n → ((b : ℕ) → b < 32 → bit_at t b ≡ bit_before n live b) → bit_or (get_or live c 0) t ≡ get_or live c 0 → IsClosedAt nodes live c
closed_here nodes live c t n e bits same m f b lt =
    let k : m ≡ n = some_same (sym f ∙ e) in
    let o : bit_at (bit_or (get_or live c 0) t) b ≡ max (bit_at (get_or live c 0) b) (bit_at t b) = bit_at_or (get_or live c 0) t b in
    let o' : bit_at (get_or live c 0) b ≡ max (bit_at (get_or live c 0) b) (bit_at t b) = ap (λ v. bit_at v b) (sym same) ∙ o in
    let g : bit_at t b ≡ bit_before n live b = bits b lt in
    subst (λ v. bit_before v live b ≤ bit_at (get_or live c 0) b) (sym k) (omega arith)

pub sum-le : (live : List ℕ) → ((c : ℕ) → get_or live c 0 < 4294967296) → sum live ≤ 4294967296 * length live
sum-le [] h = omega arith
sum-le (x ∷ xs) h =
    let e : sum_by (λ v. v) (x ∷ xs) ≡ x + sum_by (λ v. v) xs = sum_by-cons (λ v. v) x xs in
    let i : sum xs ≤ 4294967296 * length xs = sum-le xs (λ c. h (suc c)) in
    let k : x < 4294967296 = h 0 in
    omega arith

-- sound and closed sets are those of the paths
pub exact_sets : (nodes : ℕ → Option Node) (live : List ℕ) → IsSound nodes live → ((c : ℕ) → IsClosedAt nodes live c) → ComputesLiveness nodes live
exact_sets nodes live sound closed = λ c b lt. (sound.bits c b lt, λ p. path_live nodes live b lt closed p.0 c p.1)

pub IsSound-zeros : (nodes : ℕ → Option Node) (live : List ℕ) → ((c : ℕ) → get_or live c 0 ≡ 0) → IsSound nodes live
IsSound-zeros nodes live zeros = record {
  fits = λ c. rw (zeros c) (lit< tt);
  bits = λ c b lt h. (let z : bit_at 0 b ≡ 1 = rw (zeros c) at h in absurd (omega (arith, bit_at-zero b)));
}
