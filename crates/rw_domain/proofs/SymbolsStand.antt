-- The operators over words of cells stand for those over numbers.
use Rattle.std.proofs.Common.{ℕ, ◌+◌, ◌-◌, ◌^◌, ◌<◌, ◌≡◌, Bool, true, false, cond, List, Option, Some, None, Result, refl, sym, ap, ◌∙◌, subst, arith}
use Rattle.std.specs.Prelude.{IfSome}
use Rattle.std.specs.Option.{option_map}
use Rattle.rw_base.specs.declared.width.Width.{Width}
use Rattle.rw_base.specs.declared.width.Width.TheVariants.{B, W, L, Q}
use Rattle.rw_words.specs.declared.atom.Atom.{Atom}
use Rattle.rw_words.specs.declared.atom.Cell.{Cell}
use Rattle.rw_words.specs.declared.kind.Kind.{Kind}
use Rattle.rw_words.specs.declared.kind.Kind.TheVariants.{Number, Whole, Mixed}
use Rattle.rw_words.specs.Addresses.{Addresses}
use Rattle.rw_words.specs.Words.{number_cells, undefined_cells}
use Rattle.rw_words.specs.Kinds.{KindStands}
use Rattle.x86_insn.specs.declared.kinds.OneOp.{OneOp}
use Rattle.x86_insn.specs.declared.kinds.OneOp.TheVariants.{Inc, Dec, Not, Neg, Mul, Imul, Div, Idiv}
use Rattle.x86_insn.specs.declared.kinds.ShiftOp.{ShiftOp}
use Rattle.x86_insn.specs.declared.kinds.BitOp.{BitOp}
use Rattle.x86_insn.specs.declared.kinds.ScanOp.{ScanOp}
use Rattle.rw_domain.specs.declared.cause.Cause.{Cause}
use Rattle.rw_domain.specs.declared.flags.Flags.{Flags}
use Rattle.rw_domain.specs.Placed.{Placed}
use Rattle.rw_domain.specs.Stands.{FlagStands, FlagsStand, KnownStands, OptionStands, ResultStands}
use Rattle.rw_domain.specs.OtherOperators.{PairStands, ProductStands}
use Rattle.rw_domain.specs.Numbers.{low, modulus, one_of, shift_of, shift_count, shifted_by, mul_of, div_of, division_of, swap_of, bit_of, scan_of}
use Rattle.rw_domain.specs.Symbols.{word_number, word_kind, word_of, no_flags, unknown_result, numbered_result, moved_kind, step_of, is_place, step_result, one_rows, one_by, one_words, shift_by, counted_shift, shift_words, numbered_product, mul_by, mul_words, numbered_pair, div_by, div_words, swap_by, swap_words, bit_by, bit_words, has_result, scan_result, scan_by, scan_words}
use Rattle.rw_domain.specs.LaidOut.{DomainsAreLaidOut, WordStands}
use Rattle.rw_domain.proofs.ResultsBelow.{one_below, shift_below, mul_below, division_below, swap_below, bit_below, scan_below}
use Rattle.rw_domain.proofs.LowArguments.{low-low, one-low, one-flags, one-value, shift-low, shift-flags, shift-value, mul-low, division-low, swap-low, bit-low, bit-flags, scan-low}
use Rattle.rw_domain.proofs.FlagRows.{unknown-stands, flags-themselves}
use Rattle.rw_domain.proofs.KindsStand.{moved-stands}
use Rattle.rw_domain.proofs.KnownWords.{KnownKind, number-word, any-word, word-number, kind-word, word-kind-stands, word-kind-known, moved-known}
use Rattle.rw_domain.proofs.AluStands.{Stands, nothing-stands}

module _ (l : Addresses) (known : Atom → Bool) (d t : Placed) (lie : DomainsAreLaidOut l known d t) where
  same-some : (m n : ℕ) → Some n ≡ Some m → m ≡ n
  same-some m n e = cc

  -- ---- one operand

  one-number : (op : OneOp) (w : Width) (m b : ℕ) (f g : Flags) → m ≡ low w b → FlagsStand f g → Stands l known d t lie (numbered_result w (one_of op w m f)) (one_of op w b g)
  one-number op w m b f g e h =
      let value : (one_of op w m f).0 ≡ (one_of op w b g).0 =
      one-value op w m f g ∙ (ap (λ z. (one_of op w z g).0) e ∙ ap (λ z. z.0) (one-low op w b g)) in
      let flags : FlagsStand (one_of op w b f).1 (one_of op w b g).1 = one-flags op w b f g h in
      let same : one_of op w m f ≡ one_of op w b f = ap (λ z. one_of op w z f) e ∙ one-low op w b f in (
        subst (WordStands l known (number_cells w (one_of op w m f).0)) value (number-word l known w (one_of op w m f).0 (one_below op w m f)),
        subst (λ z. FlagsStand z.1 (one_of op w b g).1) (sym same) flags,
      )

  -- inc and dec over numbers, where the place is moved
  moved-by : (op : OneOp) (by b : ℕ) (g : Flags) → step_of op ≡ Some by → (one_of op Q b g).0 ≡ low Q (low Q b + by)
  moved-by Inc by b g e =
      let v : by ≡ 1 = cc in
      let same : low Q b + 1 + 0 ≡ low Q b + by = omega arith in ap (low Q) same
  moved-by Dec by b g e =
      let v : by ≡ 2 ^ 64 - 1 = cc in
      let same : low Q b + 2 ^ 64 - (1 + 0) ≡ low Q b + by = omega arith in ap (low Q) same
  moved-by Not by b g e = cc
  moved-by Neg by b g e = cc
  moved-by Mul by b g e = cc
  moved-by Imul by b g e = cc
  moved-by Div by b g e = cc
  moved-by Idiv by b g e = cc

  carry-kept : (op : OneOp) (by b : ℕ) (g : Flags) → step_of op ≡ Some by → (one_of op Q b g).1.cf ≡ g.cf
  carry-kept Inc by b g e = refl
  carry-kept Dec by b g e = refl
  carry-kept Not by b g e = cc
  carry-kept Neg by b g e = cc
  carry-kept Mul by b g e = cc
  carry-kept Imul by b g e = cc
  carry-kept Div by b g e = cc
  carry-kept Idiv by b g e = cc

  stepped-stands : (op : OneOp) (by : Option ℕ) (k : Kind) (b : ℕ) (f g : Flags) → step_of op ≡ by → KindStands l k (low Q b) → KnownKind l known k → FlagsStand f g → Stands l known d t lie (step_result by k f.cf) (one_of op Q b g)
  stepped-stands op (Some by) (Whole a) b f g s e h flags = by_place (is_place a)
    where
      by_place : (p : Bool) → Stands l known d t lie (cond p (word_of (moved_kind a by), record no_flags { cf = f.cf }) (unknown_result Q)) (one_of op Q b g)
      by_place true =
          let result : KindStands l (moved_kind a by) (one_of op Q b g).0 = subst (KindStands l (moved_kind a by)) (sym (moved-by op by b g s)) (moved-stands l a by (low Q b) e) in (
            kind-word l known (moved_kind a by) (one_of op Q b g).0 (one_below op Q b g) result (moved-known l known lie.atoms a by h),
            record { cf = subst (FlagStands f.cf) (sym (carry-kept op by b g s)) flags.cf; zf = tt; sf = tt; of = tt; pf = tt },
          )
      by_place false = nothing-stands l known d t lie Q (one_of op Q b g) (one_below op Q b g)
  stepped-stands op (Some by) (Number n) b f g s e h flags = nothing-stands l known d t lie Q (one_of op Q b g) (one_below op Q b g)
  stepped-stands op (Some by) Mixed b f g s e h flags = nothing-stands l known d t lie Q (one_of op Q b g) (one_below op Q b g)
  stepped-stands op None k b f g s e h flags = nothing-stands l known d t lie Q (one_of op Q b g) (one_below op Q b g)

  one-row : (op : OneOp) (w : Width) (x : List Cell) (b : ℕ) (f g : Flags) → WordStands l known x b → FlagsStand f g → Stands l known d t lie (one_rows op w x f) (one_of op w b g)
  one-row op B x b f g e h = nothing-stands l known d t lie B (one_of op B b g) (one_below op B b g)
  one-row op W x b f g e h = nothing-stands l known d t lie W (one_of op W b g) (one_below op W b g)
  one-row op L x b f g e h = nothing-stands l known d t lie L (one_of op L b g) (one_below op L b g)
  one-row op Q x b f g e h = stepped-stands op (step_of op) (word_kind x) b f g refl (word-kind-stands l known x b e) (word-kind-known l known x b e) h

  one-by : (op : OneOp) (w : Width) (x : List Cell) (b : ℕ) (f g : Flags) → WordStands l known x b → FlagsStand f g → (m : Option ℕ) → KnownStands m (Some (low w b)) → Stands l known d t lie (one_by op w x f m) (one_of op w b g)
  one-by op w x b f g e h (Some m) k = one-number op w m b f g (same-some m _ k) h
  one-by op w x b f g e h None k = one-row op w x b f g e h

  pub one-stands : (op : OneOp) (w : Width) (x : List Cell) (b : ℕ) (f g : Flags) → WordStands l known x b → FlagsStand f g → Stands l known d t lie (one_words op w x f) (one_of op w b g)
  one-stands op w x b f g e h = one-by op w x b f g e h (word_number w x) (word-number l known w x b e)

  -- ---- shifts

  shift-number : (op : ShiftOp) (w : Width) (m b c : ℕ) (f g : Flags) → m ≡ low w b → FlagsStand f g → Stands l known d t lie (numbered_result w (shifted_by op w m c f)) (shifted_by op w b c g)
  shift-number op w m b c f g e h =
      let same : shifted_by op w m c f ≡ shifted_by op w b c f = ap (λ z. shifted_by op w z c f) e ∙ shift-low op w b c f in
      let value : (shifted_by op w m c f).0 ≡ (shifted_by op w b c g).0 = ap (λ z. z.0) same ∙ shift-value op w b c f g in (
        subst (WordStands l known (number_cells w (shifted_by op w m c f).0)) value (number-word l known w (shifted_by op w m c f).0 (shift_below op w m c f)),
        subst (λ z. FlagsStand z.1 (shifted_by op w b c g).1) (sym same) (shift-flags op w b c f g h),
      )

  shift-by : (op : ShiftOp) (w : Width) (b c count : ℕ) (f g : Flags) → count ≡ low B c → FlagsStand f g → (m : Option ℕ) → KnownStands m (Some (low w b)) → Stands l known d t lie (shift_by op w count f m) (shifted_by op w b (shift_count w (low B c)) g)
  shift-by op w b c count f g e h (Some m) k =
      let same : low B count ≡ low B c = ap (low B) e ∙ low-low B c in
      subst (λ z. Stands l known d t lie (numbered_result w (shifted_by op w m (shift_count w (low B count)) f)) (shifted_by op w b (shift_count w z) g)) same
      (shift-number op w m b (shift_count w (low B count)) f g (same-some m _ k) h)
  shift-by op w b c count f g e h None k = nothing-stands l known d t lie w _ (shift_below op w b (shift_count w (low B c)) g)

  counted-stands : (op : ShiftOp) (w : Width) (x : List Cell) (b c : ℕ) (f g : Flags) → WordStands l known x b → FlagsStand f g → (count : Option ℕ) → KnownStands count (Some (low B c)) → ResultStands {A = List Cell × Flags} {T = ℕ × Flags} (Stands l known d t lie) (counted_shift op w x f count) (shift_of op w b c g)
  counted-stands op w x b c f g e h (Some count) k = shift-by op w b c count f g (same-some count _ k) h (word_number w x) (word-number l known w x b e)
  counted-stands op w x b c f g e h None k = tt

  pub shift-stands : (op : ShiftOp) (w : Width) (x y : List Cell) (b c : ℕ) (f g : Flags) → WordStands l known x b → WordStands l known y c → FlagsStand f g → ResultStands {A = List Cell × Flags} {T = ℕ × Flags} (Stands l known d t lie) (shift_words op w x y f) (shift_of op w b c g)
  shift-stands op w x y b c f g e e' h = counted-stands op w x b c f g e h (word_number B y) (word-number l known B y c e')

  -- ---- products and quotients

  abbrev Products : List Cell × List Cell × Flags → ℕ × ℕ × Flags → Type 0
  Products p q = ProductStands {V = List Cell} {W = ℕ} (WordStands l known) p q

  unknown-product : (is_signed : Bool) (w : Width) (b c : ℕ) → Products (undefined_cells w, undefined_cells w, no_flags) (mul_of is_signed w b c)
  unknown-product is_signed w b c =
      let small = mul_below is_signed w b c in
      (any-word l known w (mul_of is_signed w b c).0 small.0, any-word l known w (mul_of is_signed w b c).1 small.1, unknown-stands _)

  mul-by : (is_signed : Bool) (w : Width) (b c : ℕ) (m n : Option ℕ) → KnownStands m (Some (low w b)) → KnownStands n (Some (low w c)) → Products (mul_by is_signed w m n) (mul_of is_signed w b c)
  mul-by is_signed w b c (Some m) (Some n) k k' =
      let same : mul_of is_signed w m n ≡ mul_of is_signed w b c =
      ap (λ z. mul_of is_signed w z n) (same-some m _ k) ∙ (ap (λ z. mul_of is_signed w (low w b) z) (same-some n _ k') ∙ mul-low is_signed w b c) in
      let small = mul_below is_signed w m n in
      subst (Products (numbered_product w (mul_of is_signed w m n))) same
      (number-word l known w (mul_of is_signed w m n).0 small.0, number-word l known w (mul_of is_signed w m n).1 small.1, flags-themselves _)
  mul-by is_signed w b c (Some m) None k k' = unknown-product is_signed w b c
  mul-by is_signed w b c None n k k' = unknown-product is_signed w b c

  pub mul-stands : (is_signed : Bool) (w : Width) (x y : List Cell) (b c : ℕ) → WordStands l known x b → WordStands l known y c → Products (mul_words is_signed w x y) (mul_of is_signed w b c)
  mul-stands is_signed w x y b c e e' = mul-by is_signed w b c (word_number w x) (word_number w y) (word-number l known w x b e) (word-number l known w y c e')

  abbrev Pairs : List Cell × List Cell → ℕ × ℕ → Type 0
  Pairs p q = PairStands {V = List Cell} {W = ℕ} (WordStands l known) p q

  abbrev Quotients : Result (Option (List Cell × List Cell)) Cause → Result (Option (ℕ × ℕ)) Cause → Type 0
  Quotients r q = ResultStands {A = Option (List Cell × List Cell)} {T = Option (ℕ × ℕ)} (OptionStands {A = List Cell × List Cell} {T = ℕ × ℕ} Pairs) r q

  quotient-stands : (w : Width) (q : Option (ℕ × ℕ)) → IfSome q (λ p. (p.0 < modulus w) × (p.1 < modulus w)) → OptionStands {A = List Cell × List Cell} {T = ℕ × ℕ} Pairs (option_map (numbered_pair w) q) q
  quotient-stands w (Some p) small = (number-word l known w p.0 small.0, number-word l known w p.1 small.1)
  quotient-stands w None small = tt

  div-by : (is_signed : Bool) (w : Width) (a b c : ℕ) (m n r : Option ℕ) → KnownStands m (Some (low w a)) → KnownStands n (Some (low w b)) → KnownStands r (Some (low w c)) → Quotients (div_by is_signed w m n r) (div_of is_signed w a b c)
  div-by is_signed w a b c (Some m) (Some n) (Some r) k k' k'' =
      let same : division_of is_signed w m n r ≡ division_of is_signed w a b c =
      ap (λ z. division_of is_signed w z n r) (same-some m _ k)
      ∙ (ap (λ z. division_of is_signed w (low w a) z r) (same-some n _ k')
      ∙ (ap (λ z. division_of is_signed w (low w a) (low w b) z) (same-some r _ k'') ∙ division-low is_signed w a b c)) in
      subst (λ z. OptionStands {A = List Cell × List Cell} {T = ℕ × ℕ} Pairs (option_map (numbered_pair w) (division_of is_signed w m n r)) z) same
      (quotient-stands w (division_of is_signed w m n r) (division_below is_signed w m n r))
  div-by is_signed w a b c None n r k k' k'' = tt
  div-by is_signed w a b c (Some m) None r k k' k'' = tt
  div-by is_signed w a b c (Some m) (Some n) None k k' k'' = tt

  pub div-stands : (is_signed : Bool) (w : Width) (x y z : List Cell) (a b c : ℕ) → WordStands l known x a → WordStands l known y b → WordStands l known z c → Quotients (div_words is_signed w x y z) (div_of is_signed w a b c)
  div-stands is_signed w x y z a b c e e' e'' =
      div-by is_signed w a b c (word_number w x) (word_number w y) (word_number w z) (word-number l known w x a e) (word-number l known w y b e') (word-number l known w z c e'')

  -- ---- bits

  swap-by : (w : Width) (b : ℕ) (m : Option ℕ) → KnownStands m (Some (low w b)) → WordStands l known (swap_by w m) (swap_of w b)
  swap-by w b (Some m) k =
      let same : swap_of w m ≡ swap_of w b = ap (swap_of w) (same-some m _ k) ∙ swap-low w b in
      subst (WordStands l known (number_cells w (swap_of w m))) same (number-word l known w (swap_of w m) (swap_below w m))
  swap-by w b None k = any-word l known w (swap_of w b) (swap_below w b)

  pub swap-stands : (w : Width) (x : List Cell) (b : ℕ) → WordStands l known x b → WordStands l known (swap_words w x) (swap_of w b)
  swap-stands w x b e = swap-by w b (word_number w x) (word-number l known w x b e)

  bit-by : (op : BitOp) (w : Width) (b c : ℕ) (f g : Flags) → FlagsStand f g → (m n : Option ℕ) → KnownStands m (Some (low w b)) → KnownStands n (Some (low w c)) → Stands l known d t lie (bit_by op w f m n) (bit_of op w b c g)
  bit-by op w b c f g h (Some m) (Some n) k k' =
      let same : bit_of op w m n f ≡ bit_of op w b c f =
      ap (λ z. bit_of op w z n f) (same-some m _ k) ∙ (ap (λ z. bit_of op w (low w b) z f) (same-some n _ k') ∙ bit-low op w b c f) in
      let value : (bit_of op w m n f).0 ≡ (bit_of op w b c g).0 = ap (λ z. z.0) same in (
        subst (WordStands l known (number_cells w (bit_of op w m n f).0)) value (number-word l known w (bit_of op w m n f).0 (bit_below op w m n f)),
        subst (λ z. FlagsStand z.1 (bit_of op w b c g).1) (sym same) (bit-flags op w b c f g h),
      )
  bit-by op w b c f g h (Some m) None k k' = nothing-stands l known d t lie w _ (bit_below op w b c g)
  bit-by op w b c f g h None n k k' = nothing-stands l known d t lie w _ (bit_below op w b c g)

  pub bit-stands : (op : BitOp) (w : Width) (x y : List Cell) (b c : ℕ) (f g : Flags) → WordStands l known x b → WordStands l known y c → FlagsStand f g → Stands l known d t lie (bit_words op w x y f) (bit_of op w b c g)
  bit-stands op w x y b c f g e e' h = bit-by op w b c f g h (word_number w x) (word_number w y) (word-number l known w x b e) (word-number l known w y c e')

  result-stands : (op : ScanOp) (w : Width) (m b : ℕ) → m ≡ low w b → WordStands l known (scan_result op w m) (scan_of op w b).0
  result-stands op w m b e = by_test (has_result op m)
    where
      same : scan_of op w m ≡ scan_of op w b
      same = ap (scan_of op w) e ∙ scan-low op w b

      by_test : (r : Bool) → WordStands l known (cond r (number_cells w (scan_of op w m).0) (undefined_cells w)) (scan_of op w b).0
      by_test true = subst (λ z. WordStands l known (number_cells w (scan_of op w m).0) z.0) same (number-word l known w (scan_of op w m).0 (scan_below op w m))
      by_test false = any-word l known w (scan_of op w b).0 (scan_below op w b)

  scan-by : (op : ScanOp) (w : Width) (b : ℕ) (m : Option ℕ) → KnownStands m (Some (low w b)) → Stands l known d t lie (scan_by op w m) (scan_of op w b)
  scan-by op w b (Some m) k =
      let same : scan_of op w m ≡ scan_of op w b = ap (scan_of op w) (same-some m _ k) ∙ scan-low op w b in
      (result-stands op w m b (same-some m _ k), subst (λ z. FlagsStand (scan_of op w m).1 z.1) same (flags-themselves _))
  scan-by op w b None k = nothing-stands l known d t lie w _ (scan_below op w b)

  pub scan-stands : (op : ScanOp) (w : Width) (x : List Cell) (b : ℕ) → WordStands l known x b → Stands l known d t lie (scan_words op w x) (scan_of op w b)
  scan-stands op w x b e = scan-by op w b (word_number w x) (word-number l known w x b e)
