-- Zero and sign extension of words stand for those of numbers.
use Rattle.std.proofs.Common.{ℕ, zero, suc, ◌-◌, ◌/◌, ◌%◌, ◌^◌, ◌<◌, ◌≤◌, ◌≡◌, Bool, true, false, cond, nat_eq, nat_le, List, [], ◌∷◌, Option, Some, None, take, length, refl, sym, ap, ◌∙◌, subst, arith, inl, inr}
use Rattle.std.specs.Prelude.{pos, negsuc, ◌-ℤ◌, ◌⊎◌}
use Rattle.std.proofs.lemmas.Int.{ints}
use Rattle.std.proofs.Math.Nat.{mod-eq_of_lt}
use Rattle.std.proofs.lemmas.Bool.{eqb-true}
use Rattle.std.proofs.Common.{length-take}
use Rattle.std.proofs.lemmas.Bool.Decides.{nat_tests}
use Rattle.rw_base.specs.declared.width.Width.{Width}
use Rattle.rw_base.specs.declared.width.Width.TheVariants.{B, W, L, Q}
use Rattle.rw_base.specs.Width.{byte_count}
use Rattle.rw_words.specs.declared.atom.Atom.{Atom}
use Rattle.rw_words.specs.declared.atom.Atom.TheVariants.{Ptr, Code, Past, Import, End, Diff}
use Rattle.rw_words.specs.declared.atom.Cell.{Cell}
use Rattle.rw_words.specs.declared.atom.Cell.TheVariants.{Num, Part}
use Rattle.rw_words.specs.Addresses.{Addresses, address_of, CellsStand}
use Rattle.rw_words.specs.Words.{number_cells, atom_cells, lowest_of}
use Rattle.rw_words.proofs.WordLemmas.{lowest-parts, four-parts, atom-stands, address_below}
use Rattle.rw_domain.specs.Placed.{Placed}
use Rattle.rw_domain.specs.Stands.{KnownStands}
use Rattle.rw_domain.specs.Numbers.{low, signed_value, wrapped_number, extend_of}
use Rattle.rw_domain.specs.Symbols.{low_cells, word_number, with_zeros, zero_extension, distance_in, distance_from, sign_extended_by, extend_words}
use Rattle.rw_domain.specs.LaidOut.{DomainsAreLaidOut, KnownCells, WordStands}
use Rattle.rw_domain.proofs.WordsStand.{low-stands}
use Rattle.rw_domain.proofs.ResultsBelow.{extend_below}
use Rattle.rw_domain.proofs.LowArguments.{sign-low}
use Rattle.rw_domain.proofs.KnownWords.{known-get, number-word, any-word, low-word, atom-word, word-number}

module _ (l : Addresses) where
  -- number cells 0 above a number's cells
  zeros : ℕ → List Cell
  zeros zero = []
  zeros (suc k) = Num 0 ∷ zeros k

  zeros-stand : (k n : ℕ) → n ≡ 0 → CellsStand l (zeros k) n
  unfolding zeros
  zeros-stand zero n e = e
  zeros-stand (suc k) n e =
      (ap (λ z. z % 256) e, zeros-stand k (n / 256) (ap (λ z. z / 256) e))

  zeros-above : (cells : List Cell) (n : ℕ) → length cells ≤ 8 → CellsStand l cells n → CellsStand l (with_zeros cells) n
  unfolding zeros
  zeros-above [] n h s = zeros-stand 8 n s
  zeros-above (c0 ∷ []) n h s = (s.0, zeros-stand 7 _ s.1)
  zeros-above (c0 ∷ c1 ∷ []) n h s = (s.0, (s.1.0, zeros-stand 6 _ s.1.1))
  zeros-above (c0 ∷ c1 ∷ c2 ∷ []) n h s = (s.0, (s.1.0, (s.1.1.0, zeros-stand 5 _ s.1.1.1)))
  zeros-above (c0 ∷ c1 ∷ c2 ∷ c3 ∷ []) n h s = (s.0, (s.1.0, (s.1.1.0, (s.1.1.1.0, zeros-stand 4 _ s.1.1.1.1))))
  zeros-above (c0 ∷ c1 ∷ c2 ∷ c3 ∷ c4 ∷ []) n h s = (s.0, (s.1.0, (s.1.1.0, (s.1.1.1.0, (s.1.1.1.1.0, zeros-stand 3 _ s.1.1.1.1.1)))))
  zeros-above (c0 ∷ c1 ∷ c2 ∷ c3 ∷ c4 ∷ c5 ∷ []) n h s = (s.0, (s.1.0, (s.1.1.0, (s.1.1.1.0, (s.1.1.1.1.0, (s.1.1.1.1.1.0, zeros-stand 2 _ s.1.1.1.1.1.1))))))
  zeros-above (c0 ∷ c1 ∷ c2 ∷ c3 ∷ c4 ∷ c5 ∷ c6 ∷ []) n h s = (s.0, (s.1.0, (s.1.1.0, (s.1.1.1.0, (s.1.1.1.1.0, (s.1.1.1.1.1.0, (s.1.1.1.1.1.1.0, zeros-stand 1 _ s.1.1.1.1.1.1.1)))))))
  zeros-above (c0 ∷ c1 ∷ c2 ∷ c3 ∷ c4 ∷ c5 ∷ c6 ∷ c7 ∷ []) n h s = (s.0, (s.1.0, (s.1.1.0, (s.1.1.1.0, (s.1.1.1.1.0, (s.1.1.1.1.1.0, (s.1.1.1.1.1.1.0, (s.1.1.1.1.1.1.1.0, s.1.1.1.1.1.1.1.1))))))))
  zeros-above (c0 ∷ c1 ∷ c2 ∷ c3 ∷ c4 ∷ c5 ∷ c6 ∷ c7 ∷ c8 ∷ cells) n h s = absurd (omega (arith, h))

take-short : (w : Width) (a : List Cell) → length (take (byte_count w) a) ≤ 8
take-short B a = simp length-take (omega arith)
take-short W a = simp length-take (omega arith)
take-short L a = simp length-take (omega arith)
take-short Q a = simp length-take (omega arith)

-- the sign extension of the low half of a number that fits 32 bits with its sign
pub signed-half : (x : ℕ) → (x < 2 ^ 31) ⊎ (2 ^ 64 - 2 ^ 31 ≤ x) → x < 2 ^ 64 → wrapped_number Q (signed_value L x) ≡ x
signed-half x (inl small) below =
    let whole : x % 2 ^ 32 ≡ x = mod-eq_of_lt (omega arith) in
    let positive : nat_le (2 ^ 31) x ≡ false = grind (arith, nat_tests) in
    rw (whole, positive) (mod-eq_of_lt below)
signed-half x (inr large) below =
    let half : x % 2 ^ 32 ≡ x - (2 ^ 64 - 2 ^ 32) = omega arith in
    let negative : nat_le (2 ^ 31) (x % 2 ^ 32) ≡ true = grind (arith, nat_tests) in
    let value : pos (x % 2 ^ 32) -ℤ pos (2 ^ 32) ≡ negsuc (2 ^ 32 - x % 2 ^ 32 - 1) = omega (arith, ints, half) in
    ap (λ b. wrapped_number Q (cond b (pos (x % 2 ^ 32) -ℤ pos (2 ^ 32)) (pos (x % 2 ^ 32)))) negative ∙ (ap (wrapped_number Q) value ∙ back)
  where
    back : 2 ^ 64 - 1 - (2 ^ 32 - x % 2 ^ 32 - 1) % 2 ^ 64 ≡ x
    back = omega arith

module _ (l : Addresses) (known : Atom → Bool) (d t : Placed) (lie : DomainsAreLaidOut l known d t) where
  zero-stands : (from : Width) (x : List Cell) (b : ℕ) (to : Width) → WordStands l known x b → WordStands l known (zero_extension from x to) (extend_of false from b to)
  zero-stands from x b to e =
      let q : WordStands l known (low_cells from x) (low from b) = low-word l known from x b e in
      let cells = low_cells from x in
      let padded : WordStands l known (with_zeros cells) (low from b) = record {
        cells = zeros-above l cells (low from b) (take-short from x) q.cells;
        atoms = (
          known-get l known cells 0 (Num 0) tt q.atoms,
          (
            known-get l known cells 1 (Num 0) tt q.atoms,
            (
              known-get l known cells 2 (Num 0) tt q.atoms,
              (
                known-get l known cells 3 (Num 0) tt q.atoms,
                (known-get l known cells 4 (Num 0) tt q.atoms, (known-get l known cells 5 (Num 0) tt q.atoms, (known-get l known cells 6 (Num 0) tt q.atoms, (known-get l known cells 7 (Num 0) tt q.atoms, tt)))),
              ),
            ),
          ),
        );
      } in
      low-word l known to (with_zeros cells) (low from b) padded

  -- the four low cells of a distance
  distance-stands : (x : List Cell) (b c r o : ℕ) → WordStands l known x b → distance_in (low_cells L x) ≡ Some (Diff c r o) → WordStands l known (atom_cells (Diff c r o)) (extend_of true L b Q)
  distance-stands x b c r o e h = by_length (nat_eq (length (low_cells L x)) 4) refl h
    where
      a : Atom
      a = Diff c r o

      by_length : (four : Bool) → nat_eq (length (low_cells L x)) 4 ≡ four → cond four (lowest_of (low_cells L x)) None ≡ Some (Diff c r o) → WordStands l known (atom_cells (Diff c r o)) (extend_of true L b Q)
      by_length false four h = cc
      by_length true four h =
          let q : WordStands l known (low_cells L x) (low L b) = low-word l known L x b e in
          let parts : low_cells L x ≡ Part (Diff c r o) 0 ∷ Part (Diff c r o) 1 ∷ Part (Diff c r o) 2 ∷ Part (Diff c r o) 3 ∷ [] =
          lowest-parts (low_cells L x) (Diff c r o) (eqb-true (length (low_cells L x)) 4 four) h in
          let known' : known (Diff c r o) ≡ true = (let p : KnownCells known (Part (Diff c r o) 0 ∷ Part (Diff c r o) 1 ∷ Part (Diff c r o) 2 ∷ Part (Diff c r o) 3 ∷ []) = subst (KnownCells known) parts q.atoms in p).0 in
          let address : ℕ = address_of l (Diff c r o) in
          let half : low L b ≡ low L (address_of l (Diff c r o)) =
          four-parts l (Diff c r o) (low L b) (low L (address_of l (Diff c r o))) (subst (λ z. CellsStand l z (low L b)) parts q.cells) (low-stands l L (atom_cells (Diff c r o)) (address_of l (Diff c r o)) (atom-stands l (Diff c r o))) in
          let value : extend_of true L b Q ≡ address_of l (Diff c r o) =
          sym (sign-low L b Q)
          ∙ (ap (λ z. extend_of true L z Q) half
          ∙ (sign-low L (address_of l (Diff c r o)) Q
          ∙ signed-half (address_of l (Diff c r o)) (lie.atoms.near c r o known') (address_below l (Diff c r o)))) in
          subst (WordStands l known (atom_cells (Diff c r o))) (sym value) (atom-word l known (Diff c r o) known')

  from-stands : (from : Width) (x : List Cell) (b : ℕ) (to : Width) → WordStands l known x b → (found : Option Atom) → distance_in (low_cells from x) ≡ found → WordStands l known (distance_from from found to) (extend_of true from b to)
  from-stands L x b Q e (Some (Diff c r o)) h = distance-stands x b c r o e h
  from-stands L x b Q e (Some (Ptr r o)) h = any-word l known Q _ (extend_below true L b Q)
  from-stands L x b Q e (Some (Code c)) h = any-word l known Q _ (extend_below true L b Q)
  from-stands L x b Q e (Some (Past c)) h = any-word l known Q _ (extend_below true L b Q)
  from-stands L x b Q e (Some (Import i)) h = any-word l known Q _ (extend_below true L b Q)
  from-stands L x b Q e (Some End) h = any-word l known Q _ (extend_below true L b Q)
  from-stands L x b Q e None h = any-word l known Q _ (extend_below true L b Q)
  from-stands L x b B e found h = any-word l known B _ (extend_below true L b B)
  from-stands L x b W e found h = any-word l known W _ (extend_below true L b W)
  from-stands L x b L e found h = any-word l known L _ (extend_below true L b L)
  from-stands B x b to e found h = any-word l known to _ (extend_below true B b to)
  from-stands W x b to e found h = any-word l known to _ (extend_below true W b to)
  from-stands Q x b to e found h = any-word l known to _ (extend_below true Q b to)

  same-some : (m n : ℕ) → Some n ≡ Some m → m ≡ n
  same-some m n e = cc

  sign-by : (from : Width) (x : List Cell) (b : ℕ) (to : Width) → WordStands l known x b → (m : Option ℕ) → KnownStands m (Some (low from b)) → WordStands l known (sign_extended_by from x to m) (extend_of true from b to)
  sign-by from x b to e (Some m) k =
      let same : extend_of true from m to ≡ extend_of true from b to = ap (λ z. extend_of true from z to) (same-some m _ k) ∙ sign-low from b to in
      subst (WordStands l known (number_cells to (extend_of true from m to))) same (number-word l known to (extend_of true from m to) (extend_below true from m to))
  sign-by from x b to e None k = from-stands from x b to e (distance_in (low_cells from x)) refl

  pub extend-stands : (is_signed : Bool) (from : Width) (x : List Cell) (b : ℕ) (to : Width) → WordStands l known x b → WordStands l known (extend_words is_signed from x to) (extend_of is_signed from b to)
  extend-stands false from x b to e = zero-stands from x b to e
  extend-stands true from x b to e = sign-by from x b to e (word_number from x) (word-number l known from x b e)
