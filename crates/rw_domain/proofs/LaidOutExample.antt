-- Regions with addresses, as an example of what the operator laws ask: those of a file with a copied symbol, over words,
-- in the original, and in the printed program with counters.
use Rattle.std.proofs.Common.{ℕ, zero, suc, ◌+◌, ◌*◌, ◌^◌, ◌<◌, ◌≤◌, ◌≡◌, Bool, true, false, List, [], ◌∷◌, Some, None, length, refl, ap, subst, sym, ◌∙◌, arith, lit≤, lit<, inr}
use Rattle.std.specs.Prelude.{slice_get, slice_index, max, min, nat_lt}
use Rattle.std.proofs.lemmas.Bool.Decides.{nat_tests}
use Rattle.std.proofs.lemmas.Option.{slice_get_within}
use Rattle.rw_words.specs.declared.atom.Atom.{Atom}
use Rattle.rw_words.specs.declared.atom.Atom.TheVariants.{Ptr, Code, Past, Import, End, Diff}
use Rattle.rw_words.specs.Addresses.{Addresses}
use Rattle.rw_domain.specs.declared.place.Region.{Region}
use Rattle.rw_domain.specs.declared.place.Hole.{Hole}
use Rattle.rw_domain.specs.Placed.{Placed}
use Rattle.rw_domain.specs.NumberPlaces.{is_byte_of, is_writable, base_of}
use Rattle.rw_domain.specs.RegionsLaidOut.{IsPlacedAt, ArePlaced}
use Rattle.rw_domain.specs.LaidOut.{AtomsAreLaidOut, DomainsAreLaidOut}
use Rattle.rw_domain.proofs.RegionBytes.{IsByte, byte-of, is-byte, or-first}
use Rattle.rw_domain.proofs.RegionsLaidOut.{same-laid}

-- a section, a copy in place of its bytes 8 to 15, the counters, the stack, the arguments and the canary
abbrev section : Region
section = record { size = 16; align = 8; writable = true; zero = true }

abbrev copy : Region
copy = record { size = 8; align = 8; writable = true; zero = true }

abbrev pub counters : Region
counters = record { size = 0; align = 8; writable = true; zero = true }

abbrev stack : Region
stack = record { size = 65536; align = 4096; writable = true; zero = false }

abbrev arguments : Region
arguments = record { size = 32; align = 16; writable = true; zero = false }

abbrev canary : Region
canary = record { size = 8; align = 8; writable = false; zero = false }

abbrev regions : List Region
regions = section ∷ copy ∷ counters ∷ stack ∷ arguments ∷ canary ∷ []

abbrev holes : List Hole
holes = record { region = 0; start = 8; end = 16 } ∷ []

abbrev pub words : Placed
words = record { regions = regions; bases = None; holes = holes; canary = 5 }

-- in the original the copy lies in the section, in its hole
abbrev original : Placed
original = record { regions = regions; bases = Some (65536 ∷ 65544 ∷ 131072 ∷ 196608 ∷ 262144 ∷ 327680 ∷ []); holes = holes; canary = 5 }

-- the printed program knows no holes, aligns each copy to 16 bytes, and has four counters
abbrev pub printed : Placed
printed = record {
  regions = section ∷ record copy { align = 16 } ∷ record counters { size = 32 } ∷ stack ∷ arguments ∷ canary ∷ [];
  bases = Some (65536 ∷ 131072 ∷ 196608 ∷ 262144 ∷ 327680 ∷ 393216 ∷ []);
  holes = [];
  canary = 5;
}

abbrev original_base : ℕ → ℕ
original_base zero = 65536
original_base (suc zero) = 65544
original_base (suc (suc r)) = 65536 * (r + 2)

abbrev at_original : Addresses
at_original = record { region = original_base; code = λ c. 4096; past = λ c. 4096; import = λ i. 4096; finish = 4096 }

abbrev pub at_printed : Addresses
at_printed = record { region = λ r. 65536 * (r + 1); code = λ c. 4096; past = λ c. 4096; import = λ i. 4096; finish = 4096 }

-- places, and one instruction
abbrev pub is_known : Atom → Bool
is_known (Ptr r o) = true
is_known (Code zero) = true
is_known (Code (suc c)) = false
is_known (Past c) = false
is_known (Import i) = false
is_known End = false
is_known (Diff c r o) = false

codes_apart : (c d : ℕ) → is_known (Code c) ≡ true → is_known (Code d) ≡ true → c ≡ d
codes_apart zero zero g h = refl
codes_apart zero (suc d) g h = cc
codes_apart (suc c) d g h = cc

atoms : (l : Addresses) → ((c : ℕ) → l.code c ≡ 4096) → AtomsAreLaidOut l is_known
atoms l at = record {
  moved = λ r o p h. refl;
  met = λ c r o h. cc;
  code = λ c h. (subst (λ z. 4096 ≤ z) (sym (at c)) (lit≤ tt), subst (λ z. z ≤ 2 ^ 47) (sym (at c)) (lit≤ tt));
  codes_apart = λ c d g h e. codes_apart c d g h;
  near = λ c r o h. cc;
}

-- ---- the regions of words, one by one

each_region : (P : ℕ → Region → Type 0) → P 0 section → P 1 copy → P 2 counters → P 3 stack → P 4 arguments → P 5 canary → (r : ℕ) (region : Region) → slice_get regions r ≡ Some region → P r region
each_region P a b c d e f zero region h = let same : section ≡ region = cc in subst (P 0) same a
each_region P a b c d e f (suc zero) region h = let same : copy ≡ region = cc in subst (P 1) same b
each_region P a b c d e f (suc (suc zero)) region h = let same : counters ≡ region = cc in subst (P 2) same c
each_region P a b c d e f (suc (suc (suc zero))) region h = let same : stack ≡ region = cc in subst (P 3) same d
each_region P a b c d e f (suc (suc (suc (suc zero)))) region h = let same : arguments ≡ region = cc in subst (P 4) same e
each_region P a b c d e f (suc (suc (suc (suc (suc zero))))) region h = let same : canary ≡ region = cc in subst (P 5) same f
each_region P a b c d e f (suc (suc (suc (suc (suc (suc r)))))) region h = cc

at_most : (r : ℕ) (region : Region) → slice_get regions r ≡ Some region → region.size ≤ 65536
at_most = each_region (λ r region. region.size ≤ 65536) (lit≤ tt) (lit≤ tt) (lit≤ tt) (lit≤ tt) (lit≤ tt) (lit≤ tt)

byte_below : (r o : ℕ) → is_byte_of regions holes r o ≡ true → o < 65536
byte_below r o h =
    let byte : IsByte regions holes r o = byte-of regions holes r o h in
    let within : o + 1 ≤ byte.region.size = byte.within in
    let small : byte.region.size ≤ 65536 = at_most r byte.region byte.at in
    omega arith

-- ---- the original

-- of the section only the bytes before the hole
before_hole : (o : ℕ) → is_byte_of regions holes 0 o ≡ true → o < 8
before_hole o h =
    let byte : IsByte regions holes 0 o = byte-of regions holes 0 o h in
    let same : section ≡ byte.region = let e : slice_get regions 0 ≡ Some byte.region = byte.at in cc in
    let size : byte.region.size ≡ 16 = ap (λ a. a.size) (sym same) in
    let within : o + 1 ≤ byte.region.size = byte.within in
    let free : nat_lt (max 8 o) (min 16 (o + 1)) ≡ false = or-first (nat_lt (max 8 o) (min 16 (o + 1))) false byte.free in
    grind (arith, nat_tests)

in_copy : (o : ℕ) → is_byte_of regions holes 1 o ≡ true → o < 8
in_copy o h =
    let byte : IsByte regions holes 1 o = byte-of regions holes 1 o h in
    let same : copy ≡ byte.region = let e : slice_get regions 1 ≡ Some byte.region = byte.at in cc in
    let size : byte.region.size ≡ 8 = ap (λ a. a.size) (sym same) in
    let within : o + 1 ≤ byte.region.size = byte.within in
    omega arith

original_apart : (r s o p : ℕ) → is_byte_of regions holes r o ≡ true → is_byte_of regions holes s p ≡ true → original_base r + o ≡ original_base s + p → r ≡ s
original_apart zero zero o p g h e = refl
original_apart zero (suc zero) o p g h e = let low = before_hole o g in absurd (omega (arith, low, e))
original_apart zero (suc (suc s)) o p g h e = let low = before_hole o g in absurd (omega (arith, low, e))
original_apart (suc zero) zero o p g h e = let low = before_hole p h in absurd (omega (arith, low, e))
original_apart (suc zero) (suc zero) o p g h e = refl
original_apart (suc zero) (suc (suc s)) o p g h e = let low = in_copy o g in absurd (omega (arith, low, e))
original_apart (suc (suc r)) zero o p g h e = let low = before_hole p h in absurd (omega (arith, low, e))
original_apart (suc (suc r)) (suc zero) o p g h e = let low = in_copy p h in absurd (omega (arith, low, e))
original_apart (suc (suc r)) (suc (suc s)) o p g h e =
    let a = byte_below (suc (suc r)) o g in
    let b = byte_below (suc (suc s)) p h in
    omega (arith, a, b, e)

original_bases : (r : ℕ) → r < length regions → slice_index (65536 ∷ 65544 ∷ 131072 ∷ 196608 ∷ 262144 ∷ 327680 ∷ []) r ≡ original_base r
original_bases zero h = refl
original_bases (suc zero) h = refl
original_bases (suc (suc zero)) h = refl
original_bases (suc (suc (suc zero))) h = refl
original_bases (suc (suc (suc (suc zero)))) h = refl
original_bases (suc (suc (suc (suc (suc zero))))) h = refl
original_bases (suc (suc (suc (suc (suc (suc r)))))) h = absurd (omega (arith, h))

original_placed : ArePlaced regions holes original_base
original_placed = record {
  each = each_region (λ r region. IsPlacedAt (original_base r) region)
      (record { least = lit≤ tt; most = lit≤ tt; power = inr (3, refl); aligned = refl })
      (record { least = lit≤ tt; most = lit≤ tt; power = inr (3, refl); aligned = refl })
      (record { least = lit≤ tt; most = lit≤ tt; power = inr (3, refl); aligned = refl })
      (record { least = lit≤ tt; most = lit≤ tt; power = inr (12, refl); aligned = refl })
      (record { least = lit≤ tt; most = lit≤ tt; power = inr (4, refl); aligned = refl })
      (record { least = lit≤ tt; most = lit≤ tt; power = inr (3, refl); aligned = refl });
  apart = original_apart;
}

original_lies : DomainsAreLaidOut at_original is_known words original
original_lies = record {
  atoms = atoms at_original (λ c. refl);
  known_canary = refl;
  laid = same-laid at_original regions holes (65536 ∷ 65544 ∷ 131072 ∷ 196608 ∷ 262144 ∷ 327680 ∷ []) 5 original_placed original_bases (lit< tt);
}

-- ---- the printed program

printed_bases : (r : ℕ) → r < 6 → base_of printed r ≡ 65536 * (r + 1)
printed_bases zero h = refl
printed_bases (suc zero) h = refl
printed_bases (suc (suc zero)) h = refl
printed_bases (suc (suc (suc zero))) h = refl
printed_bases (suc (suc (suc (suc zero)))) h = refl
printed_bases (suc (suc (suc (suc (suc zero))))) h = refl
printed_bases (suc (suc (suc (suc (suc (suc r)))))) h = absurd (omega (arith, h))

-- the region of the printed program with a number is as large at least
abbrev IsLarger : ℕ → Region → Type 0
IsLarger r a = (b : Region) × (slice_get printed.regions r ≡ Some b) × (a.size ≤ b.size)

larger : (r : ℕ) (region : Region) → slice_get regions r ≡ Some region → IsLarger r region
larger = each_region IsLarger (section, refl, lit≤ tt) (record copy { align = 16 }, refl, lit≤ tt) (record counters { size = 32 }, refl, lit≤ tt) (stack, refl, lit≤ tt) (arguments, refl, lit≤ tt) (canary, refl, lit≤ tt)

printed_bytes : (r o : ℕ) → is_byte_of regions holes r o ≡ true → is_byte_of printed.regions [] r o ≡ true
printed_bytes r o h =
    let byte : IsByte regions holes r o = byte-of regions holes r o h in
    let there : IsLarger r byte.region = larger r byte.region byte.at in
    let within : o + 1 ≤ byte.region.size = byte.within in
    let size : byte.region.size ≤ there.0.size = there.2 in
    is-byte printed.regions [] r o there.0 there.1 (omega arith) refl

printed_below : (s p : ℕ) → is_byte_of printed.regions [] s p ≡ true → (s < 6) × (p < 65536)
printed_below s p h =
    let byte : IsByte printed.regions [] s p = byte-of printed.regions [] s p h in
    let within : p + 1 ≤ byte.region.size = byte.within in
    let small : byte.region.size ≤ 65536 = sizes s byte.region byte.at in
    (slice_get_within printed.regions s byte.region byte.at, omega arith)
  where
    sizes : (r : ℕ) (region : Region) → slice_get printed.regions r ≡ Some region → region.size ≤ 65536
    sizes zero region h = let same : section ≡ region = cc in subst (λ a. a.size ≤ 65536) same (lit≤ tt)
    sizes (suc zero) region h = let same : record copy { align = 16 } ≡ region = cc in subst (λ a. a.size ≤ 65536) same (lit≤ tt)
    sizes (suc (suc zero)) region h = let same : record counters { size = 32 } ≡ region = cc in subst (λ a. a.size ≤ 65536) same (lit≤ tt)
    sizes (suc (suc (suc zero))) region h = let same : stack ≡ region = cc in subst (λ a. a.size ≤ 65536) same (lit≤ tt)
    sizes (suc (suc (suc (suc zero)))) region h = let same : arguments ≡ region = cc in subst (λ a. a.size ≤ 65536) same (lit≤ tt)
    sizes (suc (suc (suc (suc (suc zero))))) region h = let same : canary ≡ region = cc in subst (λ a. a.size ≤ 65536) same (lit≤ tt)
    sizes (suc (suc (suc (suc (suc (suc r)))))) region h = cc

printed_apart : (r s o p : ℕ) → is_byte_of regions holes r o ≡ true → is_byte_of printed.regions [] s p ≡ true → 65536 * (r + 1) + o ≡ base_of printed s + p → r ≡ s
printed_apart r s o p g h e =
    let a : o < 65536 = byte_below r o g in
    let b : (s < 6) × (p < 65536) = printed_below s p h in
    let base : base_of printed s ≡ 65536 * (s + 1) = printed_bases s b.0 in
    let f : 65536 * (r + 1) + o ≡ 65536 * (s + 1) + p = e ∙ ap (λ z. z + p) base in
    omega (arith, a, b.1, f)

printed_writable : (r : ℕ) → is_writable regions r ≡ true → is_writable printed.regions r ≡ true
printed_writable zero h = refl
printed_writable (suc zero) h = refl
printed_writable (suc (suc zero)) h = refl
printed_writable (suc (suc (suc zero))) h = refl
printed_writable (suc (suc (suc (suc zero)))) h = refl
printed_writable (suc (suc (suc (suc (suc r))))) h = h

pub printed_lies : DomainsAreLaidOut at_printed is_known words printed
printed_lies = record {
  atoms = atoms at_printed (λ c. refl);
  known_canary = refl;
  laid = record {
    placed = each_region (λ r region. IsPlacedAt (65536 * (r + 1)) region)
        (record { least = lit≤ tt; most = lit≤ tt; power = inr (3, refl); aligned = refl })
        (record { least = lit≤ tt; most = lit≤ tt; power = inr (3, refl); aligned = refl })
        (record { least = lit≤ tt; most = lit≤ tt; power = inr (3, refl); aligned = refl })
        (record { least = lit≤ tt; most = lit≤ tt; power = inr (12, refl); aligned = refl })
        (record { least = lit≤ tt; most = lit≤ tt; power = inr (4, refl); aligned = refl })
        (record { least = lit≤ tt; most = lit≤ tt; power = inr (3, refl); aligned = refl });
    bases = printed_bases;
    bytes = printed_bytes;
    apart = printed_apart;
    writable = printed_writable;
    canary = refl;
    has_canary = lit< tt;
  };
}
