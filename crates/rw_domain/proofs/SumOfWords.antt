-- Addresses computed over words stand for those over numbers.
use Rattle.std.proofs.Common.{ℕ, ◌+◌, ◌*◌, ◌^◌, ◌<◌, ◌≡◌, Bool, true, false, cond, nat_eq, List, Option, Some, None, refl, sym, ap, ◌∙◌, subst, ℤ, add-zero, mul-one, zero-add}
use Rattle.std.proofs.Math.Nat.{mod-eq_of_lt, mod-add-mod, add-mod-mod}
use Rattle.std.proofs.lemmas.Nat.{mul-mod_first}
use Rattle.std.proofs.lemmas.Bool.{eqb-true}
use Rattle.rw_base.specs.declared.width.Width.TheVariants.{Q}
use Rattle.rw_words.specs.declared.atom.Atom.{Atom}
use Rattle.rw_words.specs.declared.atom.Cell.{Cell}
use Rattle.rw_words.specs.declared.kind.Kind.TheVariants.{Number}
use Rattle.rw_words.specs.Addresses.{Addresses}
use Rattle.rw_words.specs.Words.{number_cells}
use Rattle.rw_words.specs.Kinds.{KindStands}
use Rattle.rw_domain.specs.Placed.{Placed}
use Rattle.rw_domain.specs.Stands.{KnownStands, OptionStands}
use Rattle.rw_domain.specs.Numbers.{low, wrapped_number, base_part, index_part, address_sum}
use Rattle.rw_domain.specs.Symbols.{low_cells, word_number, word_kind, word_of, kinds_sum, add_words, scaled_index, scaled_by, base_and_index, displaced_sum, word_sum}
use Rattle.rw_domain.specs.LaidOut.{DomainsAreLaidOut, WordStands}
use Rattle.rw_domain.proofs.ResultsBelow.{low_below, wrapped_below}
use Rattle.rw_domain.proofs.LowArguments.{low-low}
use Rattle.rw_domain.proofs.KindsStand.{sum-stands}
use Rattle.rw_domain.proofs.KnownWords.{number-word, any-word, low-word, word-number, kind-word, word-kind-stands, word-kind-known, sum-known}

module _ (l : Addresses) (known : Atom → Bool) (d t : Placed) (lie : DomainsAreLaidOut l known d t) where
  R : List Cell → ℕ → Type 0
  R a n = WordStands l known a n

  abbrev Indexed : List Cell × ℕ → ℕ × ℕ → Type 0
  Indexed p q = WordStands l known p.0 q.0 × (p.1 ≡ q.1)

  -- the sum of two words
  added-words : (x y : List Cell) (b c : ℕ) → WordStands l known x b → WordStands l known y c → WordStands l known (add_words x y) (low Q (b + c))
  added-words x y b c e f =
      let sum : KindStands l (kinds_sum (word_kind x) (word_kind y)) (low Q (low Q b + low Q c)) =
      sum-stands l (word_kind x) (word_kind y) (low Q b) (low Q c) (word-kind-stands l known x b e) (word-kind-stands l known y c f) in
      let value : low Q (low Q b + low Q c) ≡ low Q (b + c) = mod-add-mod b (2 ^ 64) (low Q c) ∙ add-mod-mod b c (2 ^ 64) in
      subst (WordStands l known (add_words x y)) value
      (kind-word l known (kinds_sum (word_kind x) (word_kind y)) (low Q (low Q b + low Q c)) (low_below Q _) sum
      (sum-known l known lie.atoms (word_kind x) (word_kind y) (word-kind-known l known x b e) (word-kind-known l known y c f)))

  same-some : (m n : ℕ) → Some n ≡ Some m → m ≡ n
  same-some m n e = cc

  scaled-by : (scale b : ℕ) (m : Option ℕ) → KnownStands m (Some (low Q b)) → WordStands l known (scaled_by scale m) (low Q (b * scale))
  scaled-by scale b (Some m) k =
      let value : low Q (m * scale) ≡ low Q (b * scale) = ap (λ z. low Q (z * scale)) (same-some m _ k) ∙ mul-mod_first b scale (2 ^ 64) in
      subst (WordStands l known (number_cells Q (low Q (m * scale)))) value (number-word l known Q (low Q (m * scale)) (low_below Q _))
  scaled-by scale b None k = any-word l known Q _ (low_below Q _)

  scaled-stands : (x : List Cell) (scale b scale' : ℕ) → WordStands l known x b → scale ≡ scale' → WordStands l known (scaled_index (x, scale)) (low Q (b * scale'))
  scaled-stands x scale b scale' e same = subst (λ z. WordStands l known (scaled_index (x, scale)) (low Q (b * z))) same (by_test (nat_eq scale 1) refl)
    where
      by_test : (one : Bool) → nat_eq scale 1 ≡ one → WordStands l known (cond one (low_cells Q x) (scaled_by scale (word_number Q x))) (low Q (b * scale))
      by_test true h =
          let value : low Q b ≡ low Q (b * scale) = ap (low Q) (sym (ap (λ z. b * z) (eqb-true scale 1 h) ∙ mul-one b)) in
          subst (WordStands l known (low_cells Q x)) value (low-word l known Q x b e)
      by_test false h = scaled-by scale b (word_number Q x) (word-number l known Q x b e)

  -- what is there before the displacement
  abbrev PartStands : Option (List Cell) → ℕ → Type 0
  PartStands (Some x) n = WordStands l known x (low Q n)
  PartStands None n = n ≡ 0

  parts-stand : (base : Option (List Cell)) (base' : Option ℕ) (index : Option (List Cell × ℕ)) (index' : Option (ℕ × ℕ)) → OptionStands (WordStands l known) base base' → OptionStands {A = List Cell × ℕ} {T = ℕ × ℕ} Indexed index index' → PartStands (base_and_index base index) (base_part base' + index_part index')
  parts-stand None None None None g h = refl
  parts-stand None None (Some i) (Some j) g h = subst (WordStands l known (scaled_index i)) (ap (low Q) (sym (zero-add (j.0 * j.1)))) (scaled-stands i.0 i.1 j.0 j.1 h.0 h.1)
  parts-stand (Some x) (Some b) None None g h = subst (λ z. WordStands l known (low_cells Q x) (low Q z)) (sym (add-zero b)) (low-word l known Q x b g)
  parts-stand (Some x) (Some b) (Some i) (Some j) g h =
      let value : low Q (b + low Q (j.0 * j.1)) ≡ low Q (b + j.0 * j.1) = add-mod-mod b (j.0 * j.1) (2 ^ 64) in
      subst (WordStands l known (add_words x (scaled_index i))) value
      (added-words x (scaled_index i) b (low Q (j.0 * j.1)) g (scaled-stands i.0 i.1 j.0 j.1 h.0 h.1))
  parts-stand None (Some b) index index' g h = absurd g
  parts-stand (Some x) None index index' g h = absurd g
  parts-stand None None None (Some j) g h = absurd h
  parts-stand None None (Some i) None g h = absurd h
  parts-stand (Some x) (Some b) None (Some j) g h = absurd h
  parts-stand (Some x) (Some b) (Some i) None g h = absurd h

  displaced-stands : (part : Option (List Cell)) (n v : ℕ) → v < 2 ^ 64 → PartStands part n → WordStands l known (displaced_sum part v) (low Q (n + v))
  displaced-stands None n v small h =
      let value : v ≡ low Q (n + v) = sym (ap (λ z. low Q (z + v)) h ∙ (ap (low Q) (zero-add v) ∙ mod-eq_of_lt small)) in
      subst (WordStands l known (number_cells Q v)) value (number-word l known Q v small)
  displaced-stands (Some x) n v small h = by_test (nat_eq v 0) refl
    where
      by_test : (none : Bool) → nat_eq v 0 ≡ none → WordStands l known (cond none x (word_of (kinds_sum (word_kind x) (Number v)))) (low Q (n + v))
      by_test true e = subst (WordStands l known x) (ap (low Q) (sym (ap (λ z. n + z) (eqb-true v 0 e) ∙ add-zero n))) h
      by_test false e =
          let at : KindStands l (word_kind x) (low Q n) = subst (KindStands l (word_kind x)) (low-low Q n) (word-kind-stands l known x (low Q n) h) in
          let sum : KindStands l (kinds_sum (word_kind x) (Number v)) (low Q (low Q n + v)) = sum-stands l (word_kind x) (Number v) (low Q n) v at refl in
          subst (WordStands l known (word_of (kinds_sum (word_kind x) (Number v)))) (mod-add-mod n (2 ^ 64) v)
          (kind-word l known (kinds_sum (word_kind x) (Number v)) (low Q (low Q n + v)) (low_below Q _) sum
          (sum-known l known lie.atoms (word_kind x) (Number v) (word-kind-known l known x (low Q n) h) tt))

  pub word_sum-stands : (base : Option (List Cell)) (base' : Option ℕ) (index : Option (List Cell × ℕ)) (index' : Option (ℕ × ℕ)) (disp : ℤ) → OptionStands (WordStands l known) base base' → OptionStands {A = List Cell × ℕ} {T = ℕ × ℕ} Indexed index index' → WordStands l known (word_sum base index disp) (address_sum base' index' disp)
  word_sum-stands base base' index index' disp g h =
      displaced-stands (base_and_index base index) (base_part base' + index_part index') (wrapped_number Q disp) (wrapped_below Q disp) (parts-stand base base' index index' g h)
