-- What is placed one after another is aligned, within its bounds, and apart.
use Rattle.std.proofs.Common.{◌≡◌, ◌≢◌, ℕ, zero, suc, ◌+◌, ◌-◌, ◌*◌, ◌%◌, ◌<◌, ◌≤◌, Bool, true, false, ◌==◌, List, [], ◌∷◌, ◌++◌, length, reverse, get_or, max, Some, refl, sym, ap, subst, ◌∙◌, arith, sum_by, slice_get, slice_index, ◌/◌, mod-lt, mod-eq_of_lt, div-add-mod'}
use Rattle.std.specs.Int.{next_multiple_of}
use Rattle.std.proofs.lemmas.Bool.{eqb-true, eqb-false}
use Rattle.std.proofs.lemmas.List.{get_or-reverse, length-reverse, length-append}
use Rattle.std.proofs.lemmas.List.Sums.{sum_by-cons}
use Rattle.std.proofs.lemmas.Option.{slice_get_within, get_or_from_slice_get, slice_get-get_or}
use Rattle.std.proofs.Math.Nat.{mod_self, mul-mod_left, sub-zero}
use Rattle.asm_items.specs.Layout.{AreDisjoint, Extent}
use Rattle.rw_layout.specs.Rule.{bases_from, behind, behind_all}

-- ---- multiples

-- n is the next multiple of y from x on
pub record IsNext (x y n : ℕ) : Type 0 where
  pub low : x ≤ n
  pub high : n < x + y
  pub multiple : n % y ≡ 0

pub next-is : (x y : ℕ) → 0 < y → IsNext x y (next_multiple_of x y)
next-is x y some = by_rest (x % y == 0) refl
  where
    by_rest : (t : Bool) → (x % y == 0) ≡ t → IsNext x y (next_multiple_of x y)
    by_rest true e =
        let whole : x % y ≡ 0 = eqb-true (x % y) 0 e in
        let none : (y - x % y) % y ≡ 0 = ap (λ k. (y - k) % y) whole ∙ ap (λ k. k % y) (sub-zero y) ∙ mod_self y in
        let same : x ≡ next_multiple_of x y = omega (arith, none) in
        subst (IsNext x y) same (record { low = omega arith; high = omega (arith, some); multiple = whole })
    by_rest false e =
        let rest : x % y ≢ 0 = eqb-false (x % y) 0 e in
        let less : x % y < y = mod-lt x some in
        let left : (y - x % y) % y ≡ y - x % y = mod-eq_of_lt (omega (arith, rest, less)) in
        let parts : x / y * y + x % y ≡ x = div-add-mod' x y in
        let next : next_multiple_of x y ≡ (x / y + 1) * y = omega (arith, left, parts, less) in
        record { low = omega arith; high = omega (arith, left, rest, less); multiple = ap (λ k. k % y) next ∙ mul-mod_left (x / y + 1) y }

-- ---- lists of places

-- regions of these sizes and alignments, at these bases: between two bounds, aligned, and no byte is in two of them
pub record Laid (extents : List Extent) (bases : List ℕ) (low high : ℕ) : Type 0 where
  pub lengths : length bases ≡ length extents
  pub least : (r : ℕ) (a : Extent) → slice_get extents r ≡ Some a → low ≤ slice_index bases r
  pub most : (r : ℕ) (a : Extent) → slice_get extents r ≡ Some a → slice_index bases r + a.size ≤ high
  pub aligned : (r : ℕ) (a : Extent) → slice_get extents r ≡ Some a → slice_index bases r % max 1 a.align ≡ 0
  pub apart : (r s : ℕ) (a b : Extent) → r ≢ s → slice_get extents r ≡ Some a → slice_get extents s ≡ Some b → AreDisjoint (slice_index bases r) a.size (slice_index bases s) b.size

pub none-laid : (low high : ℕ) → Laid [] [] low high
none-laid low high = record { lengths = refl; least = λ r a e. cc; most = λ r a e. cc; aligned = λ r a e. cc; apart = λ r s a b other e f. cc }

pub wider : (extents : List Extent) (bases : List ℕ) (low high lower higher : ℕ) → Laid extents bases low high → lower ≤ low → high ≤ higher → Laid extents bases lower higher
wider extents bases low high lower higher is below above = record {
  lengths = is.lengths;
  least = λ r a e. (let h = is.least r a e in omega (arith, h, below));
  most = λ r a e. (let h = is.most r a e in omega (arith, h, above));
  aligned = is.aligned;
  apart = is.apart;
}

-- one more before the others
pub more-laid : (a : Extent) (base : ℕ) (extents : List Extent) (bases : List ℕ) (low mid high : ℕ)
    → low ≤ base → base + a.size ≤ mid → mid ≤ high → base % max 1 a.align ≡ 0 → Laid extents bases mid high → Laid (a ∷ extents) (base ∷ bases) low high
more-laid a base extents bases low mid high from to top aligned is = record { lengths = omega (arith, is.lengths); least = least; most = most; aligned = multiples; apart = apart }
  where
    first : (x : Extent) → slice_get (a ∷ extents) 0 ≡ Some x → a ≡ x
    first x e = cc

    least : (r : ℕ) (x : Extent) → slice_get (a ∷ extents) r ≡ Some x → low ≤ slice_index (base ∷ bases) r
    least zero x e = from
    least (suc r) x e = let h = is.least r x e in omega (arith, h, from, to)

    most : (r : ℕ) (x : Extent) → slice_get (a ∷ extents) r ≡ Some x → slice_index (base ∷ bases) r + x.size ≤ high
    most zero x e = let same = ap (λ z. z.size) (first x e) in omega (arith, same, to, top)
    most (suc r) x e = is.most r x e

    multiples : (r : ℕ) (x : Extent) → slice_get (a ∷ extents) r ≡ Some x → slice_index (base ∷ bases) r % max 1 x.align ≡ 0
    multiples zero x e = subst (λ z. base % max 1 z.align ≡ 0) (first x e) aligned
    multiples (suc r) x e = is.aligned r x e

    apart : (r s : ℕ) (x y : Extent) → r ≢ s → slice_get (a ∷ extents) r ≡ Some x → slice_get (a ∷ extents) s ≡ Some y → AreDisjoint (slice_index (base ∷ bases) r) x.size (slice_index (base ∷ bases) s) y.size
    apart zero zero x y other e f o p low high same = absurd (other refl)
    apart zero (suc s) x y other e f o p low high same =
        let size = ap (λ z. z.size) (first x e) in
        let h = is.least s y f in
        omega (arith, size, h, to, low, same)
    apart (suc r) zero x y other e f o p low high same =
        let size = ap (λ z. z.size) (first y f) in
        let h = is.least r x e in
        omega (arith, size, h, to, high, same)
    apart (suc r) (suc s) x y other e f o p low high same = is.apart r s x y (λ z. other (ap suc z)) e f o p low high same

-- ---- two lists of places

-- where a place in two lists together is
pub data InBoth (front behind_it : List Extent) (bases more : List ℕ) (r : ℕ) (a : Extent) : Type 0 where
  in_front : slice_get front r ≡ Some a → slice_index (bases ++ more) r ≡ slice_index bases r → InBoth front behind_it bases more r a
  behind_them : (k : ℕ) → r ≡ length front + k → slice_get behind_it k ≡ Some a → slice_index (bases ++ more) r ≡ slice_index more k → InBoth front behind_it bases more r a

pub in-both : (front behind_it : List Extent) (bases more : List ℕ) (r : ℕ) (a : Extent) → length bases ≡ length front → slice_get (front ++ behind_it) r ≡ Some a → InBoth front behind_it bases more r a
in-both [] behind_it [] more r a same e = behind_them r (omega arith) e refl
in-both [] behind_it (b ∷ bases) more r a same e = absurd (omega (arith, same))
in-both (x ∷ front) behind_it [] more r a same e = absurd (omega (arith, same))
in-both (x ∷ front) behind_it (b ∷ bases) more zero a same e = in_front e refl
in-both (x ∷ front) behind_it (b ∷ bases) more (suc r) a same e = next (in-both front behind_it bases more r a (omega (arith, same)) e)
  where
    next : InBoth front behind_it bases more r a → InBoth (x ∷ front) behind_it (b ∷ bases) more (suc r) a
    next (in_front f g) = in_front f g
    next (behind_them k f g h) = behind_them k (omega (arith, f)) g h

pub disjoint-turned : (a n b m : ℕ) → AreDisjoint a n b m → AreDisjoint b m a n
disjoint-turned a n b m h o p low high same = h p o high low (sym same)

-- no byte is in one of the first and in one of the others
pub record AreCrossApart (extents : List Extent) (bases : List ℕ) (others : List Extent) (more : List ℕ) : Type 0 where
  pub cross : (r s : ℕ) (a b : Extent) → slice_get extents r ≡ Some a → slice_get others s ≡ Some b → AreDisjoint (slice_index bases r) a.size (slice_index more s) b.size

pub below-cross : (extents : List Extent) (bases : List ℕ) (others : List Extent) (more : List ℕ) (a b c d : ℕ) → Laid extents bases a b → Laid others more c d → b ≤ c → AreCrossApart extents bases others more
below-cross extents bases others more a b c d one two under = record {
  cross = λ r s x y e f o p low high same. (let h = one.most r x e in let k = two.least s y f in omega (arith, h, k, under, low, same));
}

pub turned-cross : (extents : List Extent) (bases : List ℕ) (others : List Extent) (more : List ℕ) → AreCrossApart extents bases others more → AreCrossApart others more extents bases
turned-cross extents bases others more is = record {
  cross = λ r s a b e f. disjoint-turned (slice_index bases s) b.size (slice_index more r) a.size (is.cross s r b a f e);
}

pub cross-both : (extents : List Extent) (bases : List ℕ) (others next : List Extent) (more last : List ℕ) → length more ≡ length others
    → AreCrossApart extents bases others more → AreCrossApart extents bases next last → AreCrossApart extents bases (others ++ next) (more ++ last)
cross-both extents bases others next more last lengths one two = record { cross = λ r s a b e f. by_place r s a b e (in-both others next more last s b lengths f) }
  where
    by_place : (r s : ℕ) (a b : Extent) → slice_get extents r ≡ Some a → InBoth others next more last s b → AreDisjoint (slice_index bases r) a.size (slice_index (more ++ last) s) b.size
    by_place r s a b e (in_front f g) = subst (λ n. AreDisjoint (slice_index bases r) a.size n b.size) (sym g) (one.cross r s a b e f)
    by_place r s a b e (behind_them k f g h) = subst (λ n. AreDisjoint (slice_index bases r) a.size n b.size) (sym h) (two.cross r k a b e g)

pub both-laid : (front behind_it : List Extent) (bases more : List ℕ) (low high : ℕ) → Laid front bases low high → Laid behind_it more low high → AreCrossApart front bases behind_it more
    → Laid (front ++ behind_it) (bases ++ more) low high
both-laid front behind_it bases more low high one two apart = record {
  lengths = length-append bases more ∙ omega (arith, one.lengths, two.lengths) ∙ sym (length-append front behind_it);
  least = λ r a e. least r a (place r a e);
  most = λ r a e. most r a (place r a e);
  aligned = λ r a e. multiples r a (place r a e);
  apart = λ r s a b other e f. disjoint r s a b other (place r a e) (place s b f);
}
  where
    In : ℕ → Extent → Type 0
    In r a = InBoth front behind_it bases more r a

    place : (r : ℕ) (a : Extent) → slice_get (front ++ behind_it) r ≡ Some a → InBoth front behind_it bases more r a
    place r a e = in-both front behind_it bases more r a one.lengths e

    least : (r : ℕ) (a : Extent) → InBoth front behind_it bases more r a → low ≤ slice_index (bases ++ more) r
    least r a (in_front f g) = subst (λ n. low ≤ n) (sym g) (one.least r a f)
    least r a (behind_them k f g h) = subst (λ n. low ≤ n) (sym h) (two.least k a g)

    most : (r : ℕ) (a : Extent) → InBoth front behind_it bases more r a → slice_index (bases ++ more) r + a.size ≤ high
    most r a (in_front f g) = subst (λ n. n + a.size ≤ high) (sym g) (one.most r a f)
    most r a (behind_them k f g h) = subst (λ n. n + a.size ≤ high) (sym h) (two.most k a g)

    multiples : (r : ℕ) (a : Extent) → InBoth front behind_it bases more r a → slice_index (bases ++ more) r % max 1 a.align ≡ 0
    multiples r a (in_front f g) = subst (λ n. n % max 1 a.align ≡ 0) (sym g) (one.aligned r a f)
    multiples r a (behind_them k f g h) = subst (λ n. n % max 1 a.align ≡ 0) (sym h) (two.aligned k a g)

    at : (n m a b c d : ℕ) → n ≡ c → m ≡ d → AreDisjoint c a d b → AreDisjoint n a m b
    at n m a b c d e f h o p low high same = h o p low high (omega (arith, e, f, same))

    disjoint : (r s : ℕ) (a b : Extent) → r ≢ s → InBoth front behind_it bases more r a → InBoth front behind_it bases more s b
        → AreDisjoint (slice_index (bases ++ more) r) a.size (slice_index (bases ++ more) s) b.size
    disjoint r s a b other (in_front f g) (in_front h k) = at _ _ a.size b.size _ _ g k (one.apart r s a b other f h)
    disjoint r s a b other (in_front f g) (behind_them k h i j) = at _ _ a.size b.size _ _ g j (apart.cross r k a b f i)
    disjoint r s a b other (behind_them k h i j) (in_front f g) = at _ _ a.size b.size _ _ j g (disjoint-turned _ _ _ _ (apart.cross s k b a f i))
    disjoint r s a b other (behind_them k f g h) (behind_them m i j l) = at _ _ a.size b.size _ _ h l (two.apart k m a b (λ e. other (omega (arith, e, f, i))) g j)

-- ---- some of a list of places

-- a place that takes no more than another one, at its base
pub record IsWithin (extents : List Extent) (bases : List ℕ) (k : ℕ) (a : Extent) (base : ℕ) : Type 0 where
  pub around : Extent
  pub here : slice_get extents k ≡ Some around
  pub size : a.size ≤ around.size
  pub at : base ≡ slice_index bases k
  pub aligned : slice_index bases k % max 1 around.align ≡ 0 → base % max 1 a.align ≡ 0

pub some-laid : (extents : List Extent) (bases : List ℕ) (low high : ℕ) (chosen : List Extent) (their : List ℕ) (place : ℕ → ℕ) → Laid extents bases low high
    → length their ≡ length chosen → ((r s : ℕ) (a b : Extent) → slice_get chosen r ≡ Some a → slice_get chosen s ≡ Some b → place r ≡ place s → r ≡ s)
    → ((r : ℕ) (a : Extent) → slice_get chosen r ≡ Some a → IsWithin extents bases (place r) a (slice_index their r)) → Laid chosen their low high
some-laid extents bases low high chosen their place is lengths once within = record {
  lengths = lengths;
  least = λ r a e. (let w = within r a e in subst (λ n. low ≤ n) (sym w.at) (is.least (place r) w.around w.here));
  most = λ r a e. (let w = within r a e in let h = is.most (place r) w.around w.here in omega (arith, h, w.at, w.size));
  aligned = λ r a e. (let w = within r a e in w.aligned (is.aligned (place r) w.around w.here));
  apart = λ r s a b other e f o p low high same. (
      let w = within r a e in
      let v = within s b f in
      is.apart (place r) (place s) w.around v.around (λ z. other (once r s a b e f z)) w.here v.here o p
      (omega (arith, low, w.size)) (omega (arith, high, v.size)) (omega (arith, same, w.at, v.at)));
}

pub reversed-get : {A : Type 0} (xs : List A) (r : ℕ) (x : A) → slice_get (reverse xs) r ≡ Some x → (r < length xs) × (slice_get xs (length xs - 1 - r) ≡ Some x)
reversed-get {A} xs r x e =
    let len : length (reverse xs) ≡ length xs = length-reverse xs in
    let h : r < length (reverse xs) = slice_get_within (reverse xs) r x e in
    let inside : r < length xs = omega (arith, len, h) in
    let v : get_or (reverse xs) r x ≡ x = get_or_from_slice_get (reverse xs) r x x e in
    let w : get_or (reverse xs) r x ≡ get_or xs (length xs - 1 - r) x = get_or-reverse xs r x inside in
    (inside, slice_get-get_or xs (length xs - 1 - r) x (omega (arith, inside)) ∙ ap Some (sym w ∙ v))

pub reversed-laid : (extents : List Extent) (bases : List ℕ) (low high : ℕ) → Laid extents bases low high → Laid (reverse extents) (reverse bases) low high
reversed-laid extents bases low high is =
    some-laid extents bases low high (reverse extents) (reverse bases) (λ r. length extents - 1 - r) is
    (length-reverse bases ∙ is.lengths ∙ sym (length-reverse extents))
    (λ r s a b e f same. (let h = (reversed-get extents r a e).0 in let k = (reversed-get extents s b f).0 in omega (arith, h, k, same)))
    within
  where
    within : (r : ℕ) (a : Extent) → slice_get (reverse extents) r ≡ Some a → IsWithin extents bases (length extents - 1 - r) a (slice_index (reverse bases) r)
    within r a e =
        let found = reversed-get extents r a e in
        let inside : r < length bases = omega (arith, found.0, is.lengths) in
        let turned : slice_index (reverse bases) r ≡ slice_index bases (length bases - 1 - r) = get_or-reverse bases r 0 inside in
        let at : slice_index (reverse bases) r ≡ slice_index bases (length extents - 1 - r) = turned ∙ ap (λ n. slice_index bases (n - 1 - r)) is.lengths in
        record { around = a; here = found.1; size = omega arith; at = at; aligned = λ h. subst (λ n. n % max 1 a.align ≡ 0) (sym at) h }

-- ---- placing one after another

abbrev pub AreAligned : List Extent → Type 0
AreAligned extents = (r : ℕ) (a : Extent) → slice_get extents r ≡ Some a → 0 < a.align

one-is : (n : ℕ) → 0 < n → max 1 n ≡ n
one-is n h = omega (arith, h)

pub behind-from : (gap start : ℕ) (extents : List Extent) → AreAligned extents → start ≤ behind_all gap start extents
behind-from gap start [] some = omega arith
behind-from gap start (a ∷ extents) some =
    let next = next-is start a.align (some 0 a refl) in
    let rest = behind-from gap (behind gap start a) extents (λ r x e. some (suc r) x e) in
    omega (arith, next.low, rest)

pub placed-laid : (gap start : ℕ) (extents : List Extent) → AreAligned extents → Laid extents (bases_from gap start extents) start (behind_all gap start extents)
placed-laid gap start [] some = none-laid start start
placed-laid gap start (a ∷ extents) some =
    let next = next-is start a.align (some 0 a refl) in
    let others : AreAligned extents = λ r x e. some (suc r) x e in
    let top = behind-from gap (behind gap start a) extents others in
    more-laid a (next_multiple_of start a.align) extents (bases_from gap (behind gap start a) extents) start (behind gap start a) (behind_all gap (behind gap start a) extents)
    next.low (omega arith) top (subst (λ n. next_multiple_of start a.align % n ≡ 0) (sym (one-is a.align (some 0 a refl))) next.multiple)
    (placed-laid gap (behind gap start a) extents others)

abbrev pub AreUpTo : ℕ → List Extent → Type 0
AreUpTo most extents = (r : ℕ) (a : Extent) → slice_get extents r ≡ Some a → a.align ≤ most

-- what is placed takes at most its sizes, and for each the gap and what alignment adds: less than the alignment
pub behind-up-to : (most gap start : ℕ) (extents : List Extent) → AreAligned extents → AreUpTo (most + 1) extents
    → behind_all gap start extents ≤ start + sum_by (λ a. a.size) extents + length extents * (most + gap)
behind-up-to most gap start [] some up = omega arith
behind-up-to most gap start (a ∷ extents) some up =
    let next = next-is start a.align (some 0 a refl) in
    let align = up 0 a refl in
    let rest = behind-up-to most gap (behind gap start a) extents (λ r x e. some (suc r) x e) (λ r x e. up (suc r) x e) in
    let sum : sum_by (λ a. a.size) (a ∷ extents) ≡ a.size + sum_by (λ a. a.size) extents = sum_by-cons (λ a. a.size) a extents in
    let more : suc (length extents) * (most + gap) ≡ length extents * (most + gap) + (most + gap) = omega arith in
    omega (arith, next.high, align, rest, sum, more)
