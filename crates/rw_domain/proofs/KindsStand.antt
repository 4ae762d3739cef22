-- The rows on places, code and distances: their results and flags are those of the numbers for which they stand.
use Rattle.std.proofs.Common.{ℕ, ◌+◌, ◌-◌, ◌%◌, ◌^◌, ◌<◌, ◌≤◌, ◌≡◌, Bool, true, false, ◌&&◌, cond, nat_eq, refl, sym, ap, ◌∙◌, subst, arith, add_assoc, add_comm}
use Rattle.std.proofs.Math.Nat.{add-mod-mod, mod-add-mod, add-mod_right, mod-eq_of_lt}
use Rattle.std.proofs.lemmas.Bool.{eqb-true}
use Rattle.rw_base.specs.declared.width.Width.TheVariants.{Q}
use Rattle.rw_words.specs.declared.atom.Atom.{Atom}
use Rattle.rw_words.specs.declared.atom.Atom.TheVariants.{Ptr, Code, Past, Import, End, Diff}
use Rattle.rw_words.specs.declared.kind.Kind.{Kind}
use Rattle.rw_words.specs.declared.kind.Kind.TheVariants.{Number, Whole, Mixed}
use Rattle.rw_words.specs.Addresses.{Addresses, address_of}
use Rattle.rw_words.specs.Kinds.{KindStands}
use Rattle.rw_words.proofs.WordLemmas.{address_below, and-first, and-second}
use Rattle.rw_domain.specs.Numbers.{low, modulus}
use Rattle.rw_domain.specs.Symbols.{moved_kind, whole_if, place_and_distance, kinds_sum, kinds_difference}

module _ (l : Addresses) where
  -- moving a place moves its address
  pub moved-stands : (a : Atom) (v n : ℕ) → n ≡ address_of l a → KindStands l (moved_kind a v) (low Q (n + v))
  moved-stands (Ptr r o) v n e =
      ap (λ z. (z + v) % 2 ^ 64) e ∙ (mod-add-mod (l.region r + o) (2 ^ 64) v ∙ (ap (λ z. z % 2 ^ 64) (add_assoc (l.region r) o v) ∙ sym (add-mod-mod (l.region r) (o + v) (2 ^ 64))))
  moved-stands (Code c) v n e = tt
  moved-stands (Past c) v n e = tt
  moved-stands (Import i) v n e = tt
  moved-stands End v n e = tt
  moved-stands (Diff c r o) v n e = tt

  -- a place plus the distance of an instruction from it is the instruction's address
  pub distance : (x c : ℕ) → x < 2 ^ 64 → c < 2 ^ 64 → (x + (c + 2 ^ 64 - x) % 2 ^ 64) % 2 ^ 64 ≡ c
  distance x c h k =
      add-mod-mod x (c + 2 ^ 64 - x) (2 ^ 64)
      ∙ (ap (λ z. z % 2 ^ 64) (let e : x + (c + 2 ^ 64 - x) ≡ c + 2 ^ 64 = omega arith in e)
      ∙ (add-mod_right c (2 ^ 64) ∙ mod-eq_of_lt k))

  met : (c r o s p : ℕ) (b : Bool) (n m : ℕ) → (nat_eq r s && nat_eq o p) ≡ b → n ≡ address_of l (Ptr r o) → m ≡ address_of l (Diff c s p) → KindStands l (whole_if b (Code c)) (low Q (n + m))
  met c r o s p false n m t e f = tt
  met c r o s p true n m t e f =
      let x : r ≡ s = eqb-true r s (and-first (nat_eq r s) (nat_eq o p) t) in
      let y : o ≡ p = eqb-true o p (and-second (nat_eq r s) (nat_eq o p) t) in
      let f' : m ≡ address_of l (Diff c r o) = f ∙ (ap (λ z. address_of l (Diff c z p)) (sym x) ∙ ap (λ z. address_of l (Diff c r z)) (sym y)) in
      ap (λ z. (z + m) % 2 ^ 64) e ∙ (ap (λ z. (address_of l (Ptr r o) + z) % 2 ^ 64) f'
      ∙ distance (address_of l (Ptr r o)) (address_of l (Code c)) (address_below l (Ptr r o)) (address_below l (Code c)))

  pub sum-stands : (a b : Kind) (n m : ℕ) → KindStands l a n → KindStands l b m → KindStands l (kinds_sum a b) (low Q (n + m))
  sum-stands (Number x) (Number y) n m e f = ap (λ z. (z + m) % 2 ^ 64) e ∙ ap (λ z. (x + z) % 2 ^ 64) f
  sum-stands (Whole a) (Number v) n m e f = subst (λ z. KindStands l (moved_kind a v) (low Q (n + z))) (sym f) (moved-stands a v n e)
  sum-stands (Number v) (Whole a) n m e f =
      subst (λ z. KindStands l (moved_kind a v) (low Q z)) (add_comm m n) (subst (λ z. KindStands l (moved_kind a v) (low Q (m + z))) (sym e) (moved-stands a v m f))
  sum-stands (Whole (Ptr r o)) (Whole (Diff c s p)) n m e f = met c r o s p _ n m refl e f
  sum-stands (Whole (Diff c s p)) (Whole (Ptr r o)) n m e f = subst (λ z. KindStands l (place_and_distance (Diff c s p) (Ptr r o)) (low Q z)) (add_comm m n) (met c r o s p _ m n refl f e)
  sum-stands (Whole _) (Whole _) n m e f = tt
  sum-stands Mixed b n m e f = tt
  sum-stands (Number x) Mixed n m e f = tt
  sum-stands (Whole a) Mixed n m e f = tt

  -- the offsets of two places in one region are as far apart as their addresses
  offsets_apart : (base o p : ℕ) → ((base + o) % 2 ^ 64 + 2 ^ 64 - (base + p) % 2 ^ 64) % 2 ^ 64 ≡ (o + 2 ^ 64 - p % 2 ^ 64) % 2 ^ 64
  offsets_apart base o p = omega arith

  places-apart : (r o s p : ℕ) (b : Bool) (n m : ℕ) → nat_eq r s ≡ b → n ≡ address_of l (Ptr r o) → m ≡ address_of l (Ptr s p) → KindStands l (cond b (Number (low Q (o + modulus Q - low Q p))) Mixed) (low Q (n + modulus Q - m))
  places-apart r o s p false n m t e f = tt
  places-apart r o s p true n m t e f =
      let x : r ≡ s = eqb-true r s t in
      let f' : m ≡ address_of l (Ptr r p) = f ∙ ap (λ z. address_of l (Ptr z p)) (sym x) in
      ap (λ z. (z + 2 ^ 64 - m) % 2 ^ 64) e ∙ (ap (λ z. ((l.region r + o) % 2 ^ 64 + 2 ^ 64 - z) % 2 ^ 64) f' ∙ offsets_apart (l.region r) o p)

  moved-back : (a : Atom) (v n : ℕ) → v ≤ 2 ^ 64 → n ≡ address_of l a → KindStands l (moved_kind a (modulus Q - v)) (low Q (n + modulus Q - v))
  moved-back a v n h e = subst (λ z. KindStands l (moved_kind a (modulus Q - v)) (low Q z)) (let s : n + (2 ^ 64 - v) ≡ n + 2 ^ 64 - v = omega arith in s) (moved-stands a (modulus Q - v) n e)

  pub difference-stands : (a b : Kind) (n m : ℕ) → m < 2 ^ 64 → KindStands l a n → KindStands l b m → KindStands l (kinds_difference a b) (low Q (n + modulus Q - m))
  difference-stands (Number x) (Number y) n m h e f = ap (λ z. (z + 2 ^ 64 - m) % 2 ^ 64) e ∙ ap (λ z. (x + 2 ^ 64 - z) % 2 ^ 64) f
  difference-stands (Whole a) (Number v) n m h e f =
      subst (λ z. KindStands l (moved_kind a (modulus Q - v)) (low Q (n + modulus Q - z))) (sym f) (moved-back a v n (let g : v < 2 ^ 64 = subst (λ z. z < 2 ^ 64) f h in omega arith) e)
  difference-stands (Whole (Ptr r o)) (Whole (Ptr s p)) n m h e f = places-apart r o s p _ n m refl e f
  difference-stands (Whole _) (Whole _) n m h e f = tt
  difference-stands (Number x) (Whole b) n m h e f = tt
  difference-stands Mixed b n m h e f = tt
  difference-stands (Number x) Mixed n m h e f = tt
  difference-stands (Whole a) Mixed n m h e f = tt
