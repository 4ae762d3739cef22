-- The numbers of a table in compact form: its base stays low where none of them is bad, and its words grow number by number.
use Rattle.std.proofs.Common.{◌≡◌, ℕ, zero, suc, ◌+◌, ◌*◌, ◌/◌, ◌^◌, ◌<◌, ◌≤◌, Bool, true, false, not, ◌&&◌, ◌||◌, ◌==◌, nat_le, List, [], ◌∷◌, ◌++◌, length, map, filter, get_or, if◌then◌else◌, None, All, Contains, ◌↔◌, ◌-◌, refl, sym, ap, subst, ◌∙◌, arith, inl, inr}
use Rattle.std.proofs.lemmas.Bool.{cases_Bool}
use Rattle.std.proofs.lemmas.Bool.Decides.{nat_tests}
use Rattle.std.proofs.lemmas.Grind.{flat_map-append}
use Rattle.std.proofs.lemmas.List.{get_or-map, length-map, map-append, append-nil}
use Rattle.std.proofs.lemmas.List.Elements.{All-append, All-cons, All-contains, All-nil, All-weaker, filter-append}
use Rattle.std.specs.Int.{bit_at}
use Rattle.rw_elf.proofs.Around.{contains_filter}
use Rattle.std.proofs.lemmas.List.FromFn.{length-range_with_len, get_or-range_with_len, length-map-range_with_len, get_or-map-range_with_len}
use Rattle.std.proofs.lemmas.List.Folds.{list_any_at, list_any_none}
use Rattle.std.proofs.lemmas.List.Sums.{fold_more}
use Rattle.std.proofs.lemmas.Option.{slice_get-get_or}
use Rattle.std.specs.List.{range_with_len, flat_map, list_any}
use Rattle.std.specs.Option.{option_and_then}
use Rattle.rw_base.specs.declared.fault.Fault.{Fault}
use Rattle.rw_base.specs.declared.fault.Fault.TheVariants.{BadHeader}
use Rattle.rw_base.specs.Rules.{first_of, each_of, finding_at, when}
use Rattle.rw_base.proofs.First.{CleanAmong, first_from-none, when-none}
use Rattle.rw_elf.specs.declared.section.Section.{Section}
use Rattle.rw_elf.specs.Number.{number}
use Rattle.rw_reloc.specs.Relr.{base_at, base_behind, is_address, is_bad_number, is_too_high, number_faults, number_finding, has_word, relr_number, relr_numbers, word_at, words_among, words_at, words_named}

-- ---- lists that grow by one place

range_after : (a n : ℕ) → range_with_len a (suc n) ≡ range_with_len a n ++ (a + n) ∷ []
range_after a zero = let e : a + 0 ≡ a = omega arith in rw e refl
range_after a (suc n) =
    let e : (a + 1) + n ≡ a + suc n = omega arith in
    ap (λ r. a ∷ r) (range_after (a + 1) n) ∙ ap (λ j. a ∷ (range_with_len (a + 1) n ++ j ∷ [])) e

pub range_more : (n : ℕ) → range_with_len 0 (n + 1) ≡ range_with_len 0 n ++ n ∷ []
range_more n =
    let next : n + 1 ≡ suc n = omega arith in
    let last : 0 + n ≡ n = omega arith in
    ap (range_with_len 0) next ∙ range_after 0 n ∙ ap (λ j. range_with_len 0 n ++ j ∷ []) last

one-chosen : (p : ℕ → Bool) (f : ℕ → ℕ) (k : ℕ) → map f (filter p (k ∷ [])) ≡ (if p k then f k ∷ [] else [])
one-chosen p f k = elim (cases_Bool (p k)) [ inl has ↦ rw has refl | inr not_there ↦ rw not_there refl ]

-- one place more of a bitmap
pub among-more : (k base n : ℕ) → words_among (k + 1) base n ≡ words_among k base n ++ (if has_word n k then word_at base k ∷ [] else [])
unfolding words_among
among-more k base n =
    ap (λ r. map (word_at base) (filter (has_word n) r)) (range_more k)
    ∙ ap (map (word_at base)) (filter-append (has_word n) (range_with_len 0 k) (k ∷ []))
    ∙ map-append (word_at base) (filter (has_word n) (range_with_len 0 k)) (filter (has_word n) (k ∷ []))
    ∙ ap (λ r. map (word_at base) (filter (has_word n) (range_with_len 0 k)) ++ r) (one-chosen (has_word n) (word_at base) k)

pub among-none : (base n : ℕ) → words_among 0 base n ≡ []
unfolding words_among
among-none base n = refl

pub flat-more : (f : ℕ → List ℕ) (k : ℕ) (list new more : List ℕ) → list ≡ flat_map f (range_with_len 0 k) → more ≡ f k → new ≡ list ++ more → new ≡ flat_map f (range_with_len 0 (k + 1))
flat-more f k list new more so_far is next =
    next
    ∙ ap (λ xs. xs ++ more) so_far
    ∙ ap (λ xs. flat_map f (range_with_len 0 k) ++ xs) (is ∙ sym (append-nil (f k)))
    ∙ sym (flat_map-append f (range_with_len 0 k) (k ∷ []))
    ∙ ap (flat_map f) (sym (range_more k))

list_any-chosen : (p q : ℕ → Bool) (f : ℕ → ℕ) (xs : List ℕ) → list_any q (map f (filter p xs)) ≡ list_any (λ i. p i && q (f i)) xs
list_any-chosen p q f [] = refl
list_any-chosen p q f (x ∷ xs) =
    elim (cases_Bool (p x)) [
      | inl has ↦ rw has (ap (λ b. q (f x) || b) (list_any-chosen p q f xs))
      | inr not_there ↦ rw not_there (list_any-chosen p q f xs)
    ]

-- the words of a bitmap, of which one passes a test, or none
pub some-among : (q : ℕ → Bool) (m base n k : ℕ) → k < m → has_word n k ≡ true → q (word_at base k) ≡ true → list_any q (words_among m base n) ≡ true
unfolding words_among
some-among q m base n k within has passes =
    let here : get_or (range_with_len 0 m) k 0 ≡ k = get_or-range_with_len 0 m k 0 within ∙ (let z : 0 + k ≡ k = omega arith in z) in
    list_any-chosen (has_word n) q (word_at base) (range_with_len 0 m)
    ∙ list_any_at (λ i. has_word n i && q (word_at base i)) (range_with_len 0 m) k 0 (omega (arith, within, length-range_with_len 0 m)) (rw (here, has, passes) refl)

pub none-among : (q : ℕ → Bool) (m base n : ℕ) → ((k : ℕ) → k < m → (has_word n k && q (word_at base k)) ≡ false) → list_any q (words_among m base n) ≡ false
unfolding words_among
none-among q m base n none =
    list_any-chosen (has_word n) q (word_at base) (range_with_len 0 m)
    ∙ list_any_none (λ i. has_word n i && q (word_at base i)) (range_with_len 0 m) (λ k d within.
    let low : k < m = omega (arith, within, length-range_with_len 0 m) in
    let here : get_or (range_with_len 0 m) k d ≡ k = get_or-range_with_len 0 m k d low ∙ (let z : 0 + k ≡ k = omega arith in z) in
    rw here (none k low))

-- what a number names
pub named-address : (base n : ℕ) → is_address n ≡ true → words_named base n ≡ n ∷ []
unfolding words_named
named-address base n even = rw even refl

pub named-bitmap : (base n : ℕ) → is_address n ≡ false → words_named base n ≡ words_among 63 base n
unfolding words_named
named-bitmap base n odd = rw odd refl

-- ---- numbers

pub number_count : (bytes : List ℕ) (table : Section) → length (relr_numbers bytes table) ≡ table.size / 8
number_count bytes table = length-map-range_with_len (relr_number bytes table) 0 (table.size / 8)

pub number_here : (bytes : List ℕ) (table : Section) (k : ℕ) → k < table.size / 8 → get_or (relr_numbers bytes table) k 0 ≡ relr_number bytes table k
number_here bytes table k within = get_or-map-range_with_len (relr_number bytes table) 0 (table.size / 8) k k 0 within (omega arith)

pub base_at-start : (numbers : List ℕ) → base_at numbers 0 ≡ 0
unfolding base_at
base_at-start [] = refl
base_at-start (n ∷ ns) = refl

pub base_at-more : (numbers : List ℕ) (k : ℕ) → k < length numbers → base_at numbers (k + 1) ≡ base_behind (base_at numbers k) (get_or numbers k 0)
unfolding base_at
base_at-more numbers k within = fold_more base_behind 0 numbers k 0 within

-- an address that is no fault lies low
low-from_test : (first : Bool) (n : ℕ) → (first || (nat_le (2 ^ 47) n || false)) ≡ false → n < 2 ^ 47
low-from_test first n h = grind (arith, nat_tests)

pub address-low : (k base n : ℕ) → is_address n ≡ true → is_bad_number k base n ≡ false → n < 2 ^ 47
address-low k base n even good =
    low-from_test (k == 0 && not (is_address n)) n (sym (ap (λ ws. (k == 0 && not (is_address n)) || list_any is_too_high ws) (named-address base n even)) ∙ good)

pub behind-low : (k base n : ℕ) (fault : Fault) → when (is_bad_number k base n) fault ≡ None → base ≤ 2 ^ 47 + 504 * k → base_behind base n ≤ 2 ^ 47 + 504 * (k + 1)
behind-low k base n fault none low =
    elim (cases_Bool (is_address n)) [
      | inl even ↦ let small = address-low k base n even (when-none (is_bad_number k base n) fault none) in rw even (omega (arith, small))
      | inr odd ↦ rw odd (omega (arith, low))
    ]

found-clean : (table : Section) (numbers : List ℕ) (k n : ℕ) → k < n → n ≤ length numbers → CleanAmong numbers (number_finding table numbers) n → number_finding table numbers k (get_or numbers k 0) ≡ None
found-clean table numbers k n low high clean =
    sym (ap (option_and_then (number_finding table numbers k)) (slice_get-get_or numbers k 0 (omega (arith, low, high)))) ∙ clean k low

pub base_low : (table : Section) (numbers : List ℕ) (k : ℕ) → k ≤ length numbers → CleanAmong numbers (number_finding table numbers) k → base_at numbers k ≤ 2 ^ 47 + 504 * k
base_low table numbers zero high clean = rw (base_at-start numbers) (omega arith)
base_low table numbers (suc k) high clean =
    let before = base_low table numbers k (omega arith) (λ j low. clean j (omega arith)) in
    let here : number_finding table numbers k (get_or numbers k 0) ≡ None = found-clean table numbers k (suc k) (omega arith) high clean in
    let next : base_at numbers (suc k) ≡ base_behind (base_at numbers k) (get_or numbers k 0) = let e : k + 1 ≡ suc k = omega arith in ap (base_at numbers) (sym e) ∙ base_at-more numbers k (omega arith) in
    let low = behind-low k (base_at numbers k) (get_or numbers k 0) (BadHeader (table.offset + 8 * k)) here before in
    rw next (omega (arith, low))

-- where no number is bad
pub all-clean : (bytes : List ℕ) (table : Section) (k : ℕ) → first_of (number_faults bytes table) ≡ None → k ≤ length (relr_numbers bytes table) → CleanAmong (relr_numbers bytes table) (number_finding table (relr_numbers bytes table)) k
unfolding number_faults
all-clean bytes table k clean high =
    λ j low. first_from-none (finding_at (each_of (relr_numbers bytes table) (number_finding table (relr_numbers bytes table)))) 0 _ clean j (omega arith) (omega (arith, low, high))

pub number_low : (bytes : List ℕ) (table : Section) (k : ℕ) → first_of (number_faults bytes table) ≡ None → k < length (relr_numbers bytes table) → is_address (get_or (relr_numbers bytes table) k 0) ≡ true → get_or (relr_numbers bytes table) k 0 < 2 ^ 47
number_low bytes table k clean within even =
    address-low k (base_at (relr_numbers bytes table) k) (get_or (relr_numbers bytes table) k 0) even
    (when-none (is_bad_number k (base_at (relr_numbers bytes table) k) (get_or (relr_numbers bytes table) k 0)) (BadHeader (table.offset + 8 * k)) (found-clean table (relr_numbers bytes table) k (k + 1) (omega arith) (omega arith) (all-clean bytes table (k + 1) clean (omega arith))))

-- ---- a loop over the numbers

pub number_read : (bytes : List ℕ) (table : Section) (k : ℕ) → k < table.size / 8 → get_or (relr_numbers bytes table) k 0 ≡ number bytes (table.offset + 8 * k) 8
unfolding relr_number
number_read bytes table k within = number_here bytes table k within

-- its base fits
pub base_room : (table : Section) (numbers : List ℕ) (k base : ℕ) → k ≤ length numbers → k < 2 ^ 32 → CleanAmong numbers (number_finding table numbers) k → base ≡ base_at numbers k → base < 2 ^ 48
base_room table numbers k base high few clean is =
    let low = base_low table numbers k high clean in
    omega (arith, is, low)

-- what it finds, and the base of the next
pub finding_here : (table : Section) (numbers : List ℕ) (k base n : ℕ) (bad : Bool) → base ≡ base_at numbers k → get_or numbers k 0 ≡ n → bad ≡ is_bad_number k base n → number_finding table numbers k (get_or numbers k 0) ≡ when bad (BadHeader (table.offset + 8 * k))
finding_here table numbers k base n bad is here found =
    ap (λ m. number_finding table numbers k m) here
    ∙ ap (λ b. when (is_bad_number k b n) (BadHeader (table.offset + 8 * k))) (sym is)
    ∙ ap (λ b. when b (BadHeader (table.offset + 8 * k))) (sym found)

pub base_next : (numbers : List ℕ) (k base n : ℕ) → k < length numbers → base ≡ base_at numbers k → get_or numbers k 0 ≡ n → base_behind base n ≡ base_at numbers (k + 1)
base_next numbers k base n within is here =
    ap (λ b. base_behind b n) is ∙ ap (base_behind (base_at numbers k)) (sym here) ∙ sym (base_at-more numbers k within)

pub named_here : (numbers : List ℕ) (k base n : ℕ) → base ≡ base_at numbers k → get_or numbers k 0 ≡ n → words_named base n ≡ words_at numbers k
named_here numbers k base n is here = ap (λ b. words_named b n) is ∙ ap (words_named (base_at numbers k)) (sym here)

-- an address that was read lies low
pub address_below : (k base n : ℕ) → false ≡ is_bad_number k base n → is_address n ≡ true → n < 2 ^ 47
address_below k base n good even = address-low k base n even (sym good)

-- ---- what a number names, word by word

pub address-names : (base n w : ℕ) → is_address n ≡ true → Contains (words_named base n) w ↔ (w ≡ n)
address-names base n w even = (to, from)
  where
    to : Contains (words_named base n) w → w ≡ n
    to here = let one = subst (λ ws. Contains ws w) (named-address base n even) here in All-contains (λ v. v ≡ n) (n ∷ []) w (All-cons (λ v. v ≡ n) n [] refl (All-nil (λ v. v ≡ n))) one

    from : w ≡ n → Contains (words_named base n) w
    from same = subst (λ ws. Contains ws w) (sym (named-address base n even)) (0, omega arith, sym same)

-- a word of a bitmap, by its bit
IsOfBit : ℕ → ℕ → ℕ → ℕ → Type 0
IsOfBit m base n w = (i : ℕ) × (1 ≤ i) × (i ≤ m) × (bit_at n i ≡ 1) × (w ≡ base + 8 * (i - 1))

bit-set : (n k : ℕ) → has_word n k ≡ true → bit_at n (k + 1) ≡ 1
bit-set n k h = grind (arith, nat_tests)

has-bit : (n k : ℕ) → bit_at n (k + 1) ≡ 1 → has_word n k ≡ true
has-bit n k h = grind (arith, nat_tests)

of-more : (m base n w : ℕ) → IsOfBit m base n w → IsOfBit (suc m) base n w
unfolding IsOfBit
of-more m base n w h = (h.0, h.1, (let low = h.2 in omega (arith, low)), h.3, h.4)

of-last : (m base n : ℕ) → has_word n m ≡ true → IsOfBit (suc m) base n (word_at base m)
unfolding IsOfBit
of-last m base n has = (m + 1, omega arith, omega arith, bit-set n m has, (let e : m + 1 - 1 ≡ m = omega arith in ap (λ k. base + 8 * k) (sym e)))

all-of-bits : (m base n : ℕ) → All (IsOfBit m base n) (words_among m base n)
all-of-bits zero base n = rw (among-none base n) (All-nil (IsOfBit zero base n))
all-of-bits (suc m) base n =
    let next : m + 1 ≡ suc m = omega arith in
    let is : words_among (suc m) base n ≡ words_among m base n ++ (if has_word n m then word_at base m ∷ [] else []) = ap (λ k. words_among k base n) (sym next) ∙ among-more m base n in
    let before : All (IsOfBit (suc m) base n) (words_among m base n) = All-weaker (IsOfBit m base n) (IsOfBit (suc m) base n) (of-more m base n) (words_among m base n) (all-of-bits m base n) in
    subst (All (IsOfBit (suc m) base n)) (sym is) (All-append (IsOfBit (suc m) base n) (words_among m base n) (if has_word n m then word_at base m ∷ [] else []) before
    (elim (cases_Bool (has_word n m)) [
      | inl has ↦ rw has (All-cons (IsOfBit (suc m) base n) (word_at base m) [] (of-last m base n has) (All-nil (IsOfBit (suc m) base n)))
      | inr none ↦ rw none (All-nil (IsOfBit (suc m) base n))
    ]))

contains-map : (f : ℕ → ℕ) (xs : List ℕ) (x : ℕ) → Contains xs x → Contains (map f xs) (f x)
contains-map f xs x here =
    let within = here.1 in
    (here.0, omega (arith, within, length-map xs f), get_or-map f xs here.0 x (f x) within ∙ ap f here.2)

of-bit-named : (m base n k : ℕ) → k < m → has_word n k ≡ true → Contains (words_among m base n) (word_at base k)
unfolding words_among
of-bit-named m base n k low has =
    let size = length-range_with_len 0 m in
    let here : Contains (range_with_len 0 m) k = (k, omega (arith, low, size), get_or-range_with_len 0 m k k low ∙ (let e : 0 + k ≡ k = omega arith in e)) in
    contains-map (word_at base) (filter (has_word n) (range_with_len 0 m)) k (contains_filter (has_word n) (range_with_len 0 m) k here has)

pub bitmap-names : (base n w : ℕ) → is_address n ≡ false → Contains (words_named base n) w ↔ ((i : ℕ) × (1 ≤ i) × (i ≤ 63) × (bit_at n i ≡ 1) × (w ≡ base + 8 * (i - 1)))
unfolding IsOfBit
bitmap-names base n w odd = (to, from)
  where
    to : Contains (words_named base n) w → IsOfBit 63 base n w
    to here = All-contains (IsOfBit 63 base n) (words_among 63 base n) w (all-of-bits 63 base n) (subst (λ ws. Contains ws w) (named-bitmap base n odd) here)

    from : IsOfBit 63 base n w → Contains (words_named base n) w
    from h =
        let low = h.1 in
        let high = h.2 in
        let e : h.0 - 1 + 1 ≡ h.0 = omega (arith, low) in
        let has : has_word n (h.0 - 1) ≡ true = has-bit n (h.0 - 1) (ap (bit_at n) e ∙ h.3) in
        subst (λ ws. Contains ws w) (sym (named-bitmap base n odd))
        (subst (Contains (words_among 63 base n)) (sym h.4) (of-bit-named 63 base n (h.0 - 1) (omega (arith, low, high)) has))

-- the base behind an address and some bitmaps
pub base-told : (numbers : List ℕ) (place n : ℕ) → place + n < length numbers → is_address (get_or numbers place 0) ≡ true → ((k : ℕ) → place < k → k ≤ place + n → is_address (get_or numbers k 0) ≡ false) → base_at numbers (place + n + 1) ≡ get_or numbers place 0 + 8 + 504 * n
base-told numbers place zero within even odd =
    let e : place + 0 + 1 ≡ place + 1 = omega arith in
    ap (base_at numbers) e ∙ base_at-more numbers place (omega (arith, within))
    ∙ ap (λ b. if b then get_or numbers place 0 + 8 else base_at numbers place + 504) even
    ∙ (let z : get_or numbers place 0 + 8 ≡ get_or numbers place 0 + 8 + 504 * 0 = omega arith in z)
base-told numbers place (suc n) within even odd =
    let before = base-told numbers place n (omega (arith, within)) even (λ k low high. odd k low (omega (arith, high))) in
    let e : place + suc n + 1 ≡ place + n + 1 + 1 = omega arith in
    let last : is_address (get_or numbers (place + n + 1) 0) ≡ false = odd (place + n + 1) (omega arith) (omega arith) in
    let next = ap (base_at numbers) e ∙ base_at-more numbers (place + n + 1) (omega (arith, within)) ∙ ap (λ b. if b then get_or numbers (place + n + 1) 0 + 8 else base_at numbers (place + n + 1) + 504) last in
    omega (arith, before, next)
