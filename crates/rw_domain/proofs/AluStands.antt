-- The operators with two operands over words stand for those over numbers.
use Rattle.std.proofs.Common.{ℕ, ◌+◌, ◌-◌, ◌%◌, ◌^◌, ◌<◌, ◌≡◌, Bool, true, false, List, Option, Some, None, Result, Ok, Err, refl, sym, ap, ◌∙◌, subst, arith, add-zero, inl, inr}
use Rattle.std.specs.Prelude.{slice_get, unwrap_or, bit_and, bit_or, bit_xor, max, ◌⊎◌}
use Rattle.std.specs.Option.{option_map}
use Rattle.std.specs.Int.{IsPowerOfTwo}
use Rattle.std.proofs.Math.Nat.{mod-mod, mod-one}
use Rattle.std.proofs.lemmas.Nat.{pow_pos}
use Rattle.std.proofs.lemmas.Nat.Bits.{same_from_bits, bit_at_and, bit_at_or}
use Rattle.rw_base.specs.declared.width.Width.{Width}
use Rattle.rw_base.specs.declared.width.Width.TheVariants.{B, W, L, Q}
use Rattle.rw_words.specs.declared.atom.Atom.{Atom}
use Rattle.rw_words.specs.declared.atom.Atom.TheVariants.{Ptr, Code, Past, Import, End, Diff}
use Rattle.rw_words.specs.declared.atom.Cell.{Cell}
use Rattle.rw_words.specs.declared.kind.Kind.{Kind}
use Rattle.rw_words.specs.declared.kind.Kind.TheVariants.{Number, Whole, Mixed}
use Rattle.rw_words.specs.Addresses.{Addresses, address_of}
use Rattle.rw_words.specs.Words.{same_atom}
use Rattle.rw_words.specs.Kinds.{KindStands}
use Rattle.rw_words.proofs.WordLemmas.{same_atom-true}
use Rattle.x86_insn.specs.declared.kinds.AluOp.{AluOp}
use Rattle.x86_insn.specs.declared.kinds.AluOp.TheVariants.{Add, Or, Adc, Sbb, And, Sub, Xor, Cmp}
use Rattle.rw_domain.specs.declared.cause.Cause.{Cause}
use Rattle.rw_domain.specs.declared.flags.Flags.{Flags}
use Rattle.rw_domain.specs.declared.flags.Tri.{Tri}
use Rattle.rw_domain.specs.declared.flags.Tri.TheVariants.{Yes, No, Unknown}
use Rattle.rw_domain.specs.declared.place.Region.{Region}
use Rattle.rw_domain.specs.Placed.{Placed}
use Rattle.rw_domain.specs.Stands.{FlagStands, FlagsStand, KnownStands, ResultStands}
use Rattle.rw_domain.specs.OtherOperators.{FlaggedStands}
use Rattle.rw_domain.specs.Numbers.{low, modulus, sum_result, difference_result, logic_result, known_flag, with_carry, alu_of}
use Rattle.rw_domain.specs.Symbols.{word_number, word_kind, word_of, no_flags, unknown_result, numbered_result, whole_if, kinds_sum, kinds_difference, comparison_flags, is_mask, align_of, masked_kind, kept_atom, kinds_and, kinds_or, atom_flags, kept_flags, alu_kinds, alu_rows, needed_flag, after_flag, numbered_answer, alu_by, alu_words}
use Rattle.rw_domain.specs.RegionsLaidOut.{IsPlacedAt}
use Rattle.rw_domain.specs.LaidOut.{DomainsAreLaidOut, WordStands}
use Rattle.rw_domain.proofs.ResultsBelow.{low_below, alu_below}
use Rattle.rw_domain.proofs.KindsStand.{sum-stands, difference-stands}
use Rattle.rw_domain.proofs.FlagRows.{unknown-stands, flags-themselves, if-stands}
use Rattle.rw_domain.proofs.MaskRows.{mask-stands}
use Rattle.rw_domain.proofs.Compared.{compared-stands, atom-combined}
use Rattle.rw_domain.proofs.KnownWords.{KnownKind, number-word, any-word, word-number, kind-word, word-kind-stands, word-kind-known, sum-known, difference-known, and-known, or-known}

-- an alignment of 0 is 1, which is a power of two like any other
align-power : (align : ℕ) → (align ≡ 0) ⊎ IsPowerOfTwo align → IsPowerOfTwo (max 1 align)
align-power align (inl none) = (0, ap (max 1) none)
align-power align (inr power) =
    let some : 0 < 2 ^ power.0 = pow_pos power.0 in
    let same : max 1 align ≡ align = omega (arith, power.1) in
    (power.0, same ∙ power.1)

-- a number and itself, bit by bit
and_itself : (n : ℕ) → bit_and n n ≡ n
and_itself n = same_from_bits (bit_and n n) n (λ i. bit_at_and n n i ∙ omega arith)

or_itself : (n : ℕ) → bit_or n n ≡ n
or_itself n = same_from_bits (bit_or n n) n (λ i. bit_at_or n n i ∙ omega arith)

module _ (l : Addresses) (known : Atom → Bool) (d t : Placed) (lie : DomainsAreLaidOut l known d t) where
  -- an answer over words stands for one over numbers
  abbrev pub Stands : List Cell × Flags → ℕ × Flags → Type 0
  Stands p q = FlaggedStands {V = List Cell} {W = ℕ} (WordStands l known) p q

  pub nothing-stands : (w : Width) (q : ℕ × Flags) → q.0 < modulus w → Stands (unknown_result w) q
  nothing-stands w q small = (any-word l known w q.0 small, unknown-stands q.1)

  -- ---- masks, and equal words

  record AlignFacts (r : ℕ) : Type 0 where
    power : IsPowerOfTwo (align_of d.regions r)
    aligned : l.region r % align_of d.regions r ≡ 0

  align-facts : (r : ℕ) → AlignFacts r
  align-facts r = by_region (slice_get d.regions r) refl
    where
      of_region : Option Region → ℕ
      of_region x = max 1 (unwrap_or (option_map (λ region. region.align) x) 1)

      by_region : (x : Option Region) → slice_get d.regions r ≡ x → AlignFacts r
      by_region None e =
          let one : align_of d.regions r ≡ 1 = ap (λ x. max 1 (unwrap_or (option_map (λ region. region.align) x) 1)) e in
          record { power = (0, one); aligned = ap (λ z. l.region r % z) one ∙ mod-one (l.region r) }
      by_region (Some region) e =
          let same : align_of d.regions r ≡ max 1 region.align = ap (λ x. max 1 (unwrap_or (option_map (λ region. region.align) x) 1)) e in
          let placed : IsPlacedAt (l.region r) region = lie.laid.placed r region e in
          record {
            power = subst IsPowerOfTwo (sym same) (align-power region.align placed.power);
            aligned = ap (λ z. l.region r % z) same ∙ placed.aligned;
          }

  masked-stands : (a : Atom) (v n : ℕ) → v < 2 ^ 64 → n ≡ address_of l a → KindStands l (masked_kind d.regions a v) (bit_and n v)
  masked-stands (Ptr r o) v n small e = by_test (is_mask (align_of d.regions r) v) refl
    where
      by_test : (b : Bool) → is_mask (align_of d.regions r) v ≡ b → KindStands l (whole_if b (Ptr r (bit_and o v))) (bit_and n v)
      by_test true h =
          let facts : AlignFacts r = align-facts r in
          ap (λ z. bit_and z v) e ∙ mask-stands (l.region r) o v (align_of d.regions r) facts.power facts.aligned small h
      by_test false h = tt
  masked-stands (Code c) v n small e = tt
  masked-stands (Past c) v n small e = tt
  masked-stands (Import i) v n small e = tt
  masked-stands End v n small e = tt
  masked-stands (Diff c r o) v n small e = tt

  kept-stands : (a b : Atom) (n m r : ℕ) → (n ≡ m → r ≡ n) → n ≡ address_of l a → m ≡ address_of l b → KindStands l (kept_atom a b) r
  kept-stands a b n m r same e f = by_test (same_atom a b) refl
    where
      by_test : (t : Bool) → same_atom a b ≡ t → KindStands l (whole_if t a) r
      by_test true h = same (e ∙ (ap (address_of l) (same_atom-true a b h) ∙ sym f)) ∙ e
      by_test false h = tt

  and-stands : (a b : Kind) (n m : ℕ) → m < 2 ^ 64 → KindStands l a n → KindStands l b m → KindStands l (kinds_and d.regions a b) (bit_and n m)
  and-stands (Whole a) (Number v) n m small e f = subst (λ z. KindStands l (masked_kind d.regions a v) (bit_and n z)) (sym f) (masked-stands a v n (subst (λ z. z < 2 ^ 64) f small) e)
  and-stands (Whole a) (Whole b) n m small e f = kept-stands a b n m (bit_and n m) (λ same. ap (bit_and n) (sym same) ∙ and_itself n) e f
  and-stands (Whole a) Mixed n m small e f = tt
  and-stands (Number x) b n m small e f = tt
  and-stands Mixed b n m small e f = tt

  or-stands : (a b : Kind) (n m : ℕ) → KindStands l a n → KindStands l b m → KindStands l (kinds_or a b) (bit_or n m)
  or-stands (Whole a) (Whole b) n m e f = kept-stands a b n m (bit_or n m) (λ same. ap (bit_or n) (sym same) ∙ or_itself n) e f
  or-stands (Whole a) (Number v) n m e f = tt
  or-stands (Whole a) Mixed n m e f = tt
  or-stands (Number x) b n m e f = tt
  or-stands Mixed b n m e f = tt

  kept-flags-stand : (a b : Kind) (n m r : ℕ) → (n ≡ m → r ≡ n) → KindStands l a n → KindStands l b m → KnownKind l known a → FlagsStand (kept_flags d.regions a b) (logic_result Q r).1
  kept-flags-stand (Whole a) (Whole b) n m r same e f g =
      if-stands (same_atom a b) (atom_flags d.regions a) _
      (λ h. let n' : r ≡ n = same (e ∙ (ap (address_of l) (same_atom-true a b h) ∙ sym f)) in
      subst (λ z. FlagsStand (atom_flags d.regions a) (logic_result Q z).1) (sym n') (atom-combined l known d t lie a n g e))
  kept-flags-stand (Whole a) (Number v) n m r same e f g = unknown-stands _
  kept-flags-stand (Whole a) Mixed n m r same e f g = unknown-stands _
  kept-flags-stand (Number x) b n m r same e f g = unknown-stands _
  kept-flags-stand Mixed b n m r same e f g = unknown-stands _

  -- ---- the rows at 64 bits, for the low 64 bits n and m of two numbers

  subtracted-low : (b c : ℕ) → difference_result Q (low Q b) (low Q c) false ≡ difference_result Q b c false
  subtracted-low b c = simp mod-mod

  difference-is : (b c : ℕ) → (difference_result Q b c false).0 ≡ low Q (low Q b + modulus Q - low Q c)
  difference-is b c = ap (λ z. low Q (low Q b + modulus Q - z)) (add-zero (low Q c))

  sum-is : (b c : ℕ) → (sum_result Q b c false).0 ≡ low Q (low Q b + low Q c)
  sum-is b c = ap (low Q) (add-zero (low Q b + low Q c))

  pub sub-row : (x y : Kind) (b c : ℕ) → KindStands l x (low Q b) → KindStands l y (low Q c) → KnownKind l known x → KnownKind l known y → Stands (word_of (kinds_difference x y), comparison_flags d.regions d.holes x y) (difference_result Q b c false)
  sub-row x y b c e f g h =
      let result : KindStands l (kinds_difference x y) (difference_result Q b c false).0 =
      subst (KindStands l (kinds_difference x y)) (sym (difference-is b c)) (difference-stands l x y (low Q b) (low Q c) (low_below Q c) e f) in (
        kind-word l known (kinds_difference x y) (difference_result Q b c false).0 (low_below Q _) result (difference-known l known lie.atoms x y g h),
        subst (λ z. FlagsStand (comparison_flags d.regions d.holes x y) z.1) (subtracted-low b c) (compared-stands l known d t lie x y (low Q b) (low Q c) (low_below Q b) (low_below Q c) e f g h),
      )

  pub add-row : (x y : Kind) (b c : ℕ) → KindStands l x (low Q b) → KindStands l y (low Q c) → KnownKind l known x → KnownKind l known y → Stands (word_of (kinds_sum x y), no_flags) (sum_result Q b c false)
  add-row x y b c e f g h =
      let result : KindStands l (kinds_sum x y) (sum_result Q b c false).0 =
      subst (KindStands l (kinds_sum x y)) (sym (sum-is b c)) (sum-stands l x y (low Q b) (low Q c) e f) in
      (kind-word l known (kinds_sum x y) (sum_result Q b c false).0 (low_below Q _) result (sum-known l known lie.atoms x y g h), unknown-stands _)

  pub and-row : (x y : Kind) (b c : ℕ) → KindStands l x (low Q b) → KindStands l y (low Q c) → KnownKind l known x → KnownKind l known y → Stands (word_of (kinds_and d.regions x y), kept_flags d.regions x y) (logic_result Q (bit_and (low Q b) (low Q c)))
  and-row x y b c e f g h = (
    kind-word l known (kinds_and d.regions x y) (bit_and (low Q b) (low Q c)) (alu_below And Q b c no_flags) (and-stands x y (low Q b) (low Q c) (low_below Q c) e f) (and-known l known lie.atoms d.regions x y g h),
    kept-flags-stand x y (low Q b) (low Q c) _ (λ same. ap (bit_and (low Q b)) (sym same) ∙ and_itself (low Q b)) e f g,
  )

  pub or-row : (x y : Kind) (b c : ℕ) → KindStands l x (low Q b) → KindStands l y (low Q c) → KnownKind l known x → KnownKind l known y → Stands (word_of (kinds_or x y), kept_flags d.regions x y) (logic_result Q (bit_or (low Q b) (low Q c)))
  or-row x y b c e f g h = (
    kind-word l known (kinds_or x y) (bit_or (low Q b) (low Q c)) (alu_below Or Q b c no_flags) (or-stands x y (low Q b) (low Q c) e f) (or-known l known lie.atoms x y g h),
    kept-flags-stand x y (low Q b) (low Q c) _ (λ same. ap (bit_or (low Q b)) (sym same) ∙ or_itself (low Q b)) e f g,
  )

  -- ---- any width, where not both are numbers

  -- what an operator gives over numbers, where its flag is known
  abbrev answer_of : AluOp → Width → ℕ → ℕ → Bool → ℕ × Flags
  answer_of Add w b c carry = sum_result w b c false
  answer_of Or w b c carry = logic_result w (bit_or (low w b) (low w c))
  answer_of Adc w b c carry = sum_result w b c carry
  answer_of Sbb w b c carry = difference_result w b c carry
  answer_of And w b c carry = logic_result w (bit_and (low w b) (low w c))
  answer_of Sub w b c carry = difference_result w b c false
  answer_of Xor w b c carry = logic_result w (bit_xor (low w b) (low w c))
  answer_of Cmp w b c carry = difference_result w b c false

  answer-below : (op : AluOp) (w : Width) (b c : ℕ) (carry : Bool) → (answer_of op w b c carry).0 < modulus w
  answer-below Add w b c carry = low_below w _
  answer-below Or w b c carry = alu_below Or w b c no_flags
  answer-below Adc w b c carry = low_below w _
  answer-below Sbb w b c carry = low_below w _
  answer-below And w b c carry = alu_below And w b c no_flags
  answer-below Sub w b c carry = low_below w _
  answer-below Xor w b c carry = alu_below Xor w b c no_flags
  answer-below Cmp w b c carry = low_below w _

  kinds-row : (op : AluOp) (x y : Kind) (b c : ℕ) (carry : Bool) → KindStands l x (low Q b) → KindStands l y (low Q c) → KnownKind l known x → KnownKind l known y → Stands (alu_kinds d.regions d.holes op x y) (answer_of op Q b c carry)
  kinds-row Add x y b c carry e f g h = add-row x y b c e f g h
  kinds-row Or x y b c carry e f g h = or-row x y b c e f g h
  kinds-row Adc x y b c carry e f g h = nothing-stands Q _ (low_below Q _)
  kinds-row Sbb x y b c carry e f g h = nothing-stands Q _ (low_below Q _)
  kinds-row And x y b c carry e f g h = and-row x y b c e f g h
  kinds-row Sub x y b c carry e f g h = sub-row x y b c e f g h
  kinds-row Xor x y b c carry e f g h = nothing-stands Q _ (alu_below Xor Q b c no_flags)
  kinds-row Cmp x y b c carry e f g h = sub-row x y b c e f g h

  rows-stand : (op : AluOp) (w : Width) (x y : List Cell) (b c : ℕ) (carry : Bool) → WordStands l known x b → WordStands l known y c → Stands (alu_rows d.regions d.holes op w x y) (answer_of op w b c carry)
  rows-stand op B x y b c carry e f = nothing-stands B _ (answer-below op B b c carry)
  rows-stand op W x y b c carry e f = nothing-stands W _ (answer-below op W b c carry)
  rows-stand op L x y b c carry e f = nothing-stands L _ (answer-below op L b c carry)
  rows-stand op Q x y b c carry e f =
      kinds-row op (word_kind x) (word_kind y) b c carry (word-kind-stands l known x b e) (word-kind-stands l known y c f) (word-kind-known l known x b e) (word-kind-known l known y c f)

  -- ---- all together

  abbrev pub AluStands : Result (List Cell × Flags) Cause → Result (ℕ × Flags) Cause → Type 0
  AluStands r q = ResultStands {A = List Cell × Flags} {T = ℕ × Flags} Stands r q

  -- the flag that adc and sbb need is known over numbers where it is over words
  flag-stands : (x y : Tri) → FlagStands x y → (carry : Bool) → known_flag x ≡ Ok carry → known_flag y ≡ Ok carry
  flag-stands Yes y h carry e = ap known_flag h ∙ e
  flag-stands No y h carry e = ap known_flag h ∙ e
  flag-stands Unknown y h carry e = cc

  with-flag : (op : AluOp) (w : Width) (b c : ℕ) (f g : Flags) → FlagsStand f g → (carry : Bool) → needed_flag op f ≡ Ok carry → alu_of op w b c g ≡ Ok (answer_of op w b c carry)
  with-flag Add w b c f g h carry e = refl
  with-flag Or w b c f g h carry e = refl
  with-flag Adc w b c f g h carry e = ap (λ z. with_carry z (sum_result w b c)) (flag-stands f.cf g.cf h.cf carry e)
  with-flag Sbb w b c f g h carry e = ap (λ z. with_carry z (difference_result w b c)) (flag-stands f.cf g.cf h.cf carry e)
  with-flag And w b c f g h carry e = refl
  with-flag Sub w b c f g h carry e = refl
  with-flag Xor w b c f g h carry e = refl
  with-flag Cmp w b c f g h carry e = refl

  unnumbered : (op : AluOp) (w : Width) (x y : List Cell) (b c : ℕ) (f g : Flags) → WordStands l known x b → WordStands l known y c → FlagsStand f g → AluStands (after_flag (needed_flag op f) (alu_rows d.regions d.holes op w x y)) (alu_of op w b c g)
  unnumbered op w x y b c f g e e' h = by_flag (needed_flag op f) refl
    where
      by_flag : (needed : Result Bool Cause) → needed_flag op f ≡ needed → AluStands (after_flag needed (alu_rows d.regions d.holes op w x y)) (alu_of op w b c g)
      by_flag (Err cause) k = tt
      by_flag (Ok carry) k =
          subst (AluStands (Ok (alu_rows d.regions d.holes op w x y))) (sym (with-flag op w b c f g h carry k)) (rows-stand op w x y b c carry e e')

  answer-low : (op : AluOp) (w : Width) (b c : ℕ) (carry : Bool) → answer_of op w (low w b) (low w c) carry ≡ answer_of op w b c carry
  answer-low Add w b c carry = simp mod-mod
  answer-low Or w b c carry = simp mod-mod
  answer-low Adc w b c carry = simp mod-mod
  answer-low Sbb w b c carry = simp mod-mod
  answer-low And w b c carry = simp mod-mod
  answer-low Sub w b c carry = simp mod-mod
  answer-low Xor w b c carry = simp mod-mod
  answer-low Cmp w b c carry = simp mod-mod

  without-flag : (op : AluOp) (w : Width) (b c : ℕ) (f : Flags) (cause : Cause) → needed_flag op f ≡ Err cause → alu_of op w b c f ≡ Err cause
  without-flag Add w b c f cause e = cc
  without-flag Or w b c f cause e = cc
  without-flag Adc w b c f cause e = ap (λ z. with_carry z (sum_result w b c)) e
  without-flag Sbb w b c f cause e = ap (λ z. with_carry z (difference_result w b c)) e
  without-flag And w b c f cause e = cc
  without-flag Sub w b c f cause e = cc
  without-flag Xor w b c f cause e = cc
  without-flag Cmp w b c f cause e = cc

  numbered-stands : (w : Width) (p : ℕ × Flags) → p.0 < modulus w → Stands (numbered_result w p) p
  numbered-stands w p small = (number-word l known w p.0 small, flags-themselves p.1)

  both-numbers : (op : AluOp) (w : Width) (m n b c : ℕ) (f g : Flags) → m ≡ low w b → n ≡ low w c → FlagsStand f g → AluStands (numbered_answer w (alu_of op w m n f)) (alu_of op w b c g)
  both-numbers op w m n b c f g e e' h = by_flag (needed_flag op f) refl
    where
      by_flag : (needed : Result Bool Cause) → needed_flag op f ≡ needed → AluStands (numbered_answer w (alu_of op w m n f)) (alu_of op w b c g)
      by_flag (Err cause) k = subst (λ z. AluStands (numbered_answer w z) (alu_of op w b c g)) (sym (without-flag op w m n f cause k)) tt
      by_flag (Ok carry) k =
          let p : ℕ × Flags = answer_of op w b c carry in
          let first : alu_of op w m n f ≡ Ok p =
          with-flag op w m n f f (flags-themselves f) carry k
          ∙ ap (λ z. Ok z) (ap (λ z. answer_of op w z n carry) e ∙ (ap (λ z. answer_of op w (low w b) z carry) e' ∙ answer-low op w b c carry)) in
          subst (λ z. AluStands (numbered_answer w z) (alu_of op w b c g)) (sym first)
          (subst (AluStands (Ok (numbered_result w p))) (sym (with-flag op w b c f g h carry k)) (numbered-stands w p (answer-below op w b c carry)))

  same-some : (m n : ℕ) → Some n ≡ Some m → m ≡ n
  same-some m n e = cc

  alu-by : (op : AluOp) (w : Width) (x y : List Cell) (b c : ℕ) (f g : Flags) → WordStands l known x b → WordStands l known y c → FlagsStand f g → (m n : Option ℕ) → KnownStands m (Some (low w b)) → KnownStands n (Some (low w c)) → AluStands (alu_by d.regions d.holes op w x y f m n) (alu_of op w b c g)
  alu-by op w x y b c f g e e' h (Some m) (Some n) k k' = both-numbers op w m n b c f g (same-some m _ k) (same-some n _ k') h
  alu-by op w x y b c f g e e' h (Some m) None k k' = unnumbered op w x y b c f g e e' h
  alu-by op w x y b c f g e e' h None n k k' = unnumbered op w x y b c f g e e' h

  pub alu-words : (op : AluOp) (w : Width) (x y : List Cell) (b c : ℕ) (f g : Flags) → WordStands l known x b → WordStands l known y c → FlagsStand f g → AluStands (alu_words d.regions d.holes op w x y f) (alu_of op w b c g)
  alu-words op w x y b c f g e e' h =
      alu-by op w x y b c f g e e' h (word_number w x) (word_number w y) (word-number l known w x b e) (word-number l known w y c e')
