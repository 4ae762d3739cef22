-- What the operator laws ask of addresses is needed: for each condition that is left out, a result over words that
-- doesn't stand for the one over numbers. The comment at `operators_stand` says the same in words.
use Rattle.std.proofs.Common.{◌≡◌, ℕ, ◌+◌, ◌-◌, ◌*◌, ◌^◌, List, [], ◌∷◌, Some, Result, Ok, Err, true, false, refl}
use Rattle.std.specs.Prelude.{bit_and, slice_index}
use Rattle.rw_base.specs.declared.width.Width.TheVariants.{L, Q}
use Rattle.rw_base.specs.Rules.{first_from}
use Rattle.rw_words.specs.declared.atom.Atom.TheVariants.{Ptr, Code}
use Rattle.rw_words.specs.declared.kind.Kind.{Kind}
use Rattle.rw_words.specs.declared.kind.Kind.TheVariants.{Number, Whole}
use Rattle.rw_domain.specs.declared.cause.Cause.{Cause}
use Rattle.rw_domain.specs.declared.cause.Cause.TheVariants.{AddressOutside, NotWritable}
use Rattle.rw_domain.specs.declared.flags.Tri.{Tri}
use Rattle.rw_domain.specs.declared.flags.Tri.TheVariants.{Yes, No}
use Rattle.rw_domain.specs.declared.place.Access.{Access}
use Rattle.rw_domain.specs.declared.place.Access.TheVariants.{Read, Write}
use Rattle.rw_domain.specs.declared.place.Place.{Place}
use Rattle.rw_domain.specs.declared.place.Region.{Region}
use Rattle.rw_domain.specs.declared.place.Hole.{Hole}
use Rattle.rw_domain.specs.Placed.{Placed}
use Rattle.rw_domain.specs.Numbers.{low, difference_result, extend_of}
use Rattle.rw_domain.specs.NumberPlaces.{place_of, accessed_place}
use Rattle.rw_domain.specs.Symbols.{comparison_flags, kinds_and, kind_place}

abbrev sixteen : Region
sixteen = record { size = 16; align = 16; writable = true; zero = false }

-- a flag of cmp over words, and over numbers
abbrev zero_flags : List Region → Kind → Kind → ℕ → ℕ → Tri × Tri
zero_flags regions a b m n = ((comparison_flags regions [] a b).zf, (difference_result Q m n false).1.zf)

abbrev sign_flags : List Region → Kind → Kind → ℕ → ℕ → Tri × Tri
sign_flags regions a b m n = ((comparison_flags regions [] a b).sf, (difference_result Q m n false).1.sf)

abbrev carry_flags : List Region → Kind → Kind → ℕ → ℕ → Tri × Tri
carry_flags regions a b m n = ((comparison_flags regions [] a b).cf, (difference_result Q m n false).1.cf)

-- a base of 0
least : zero_flags (sixteen ∷ []) (Whole (Ptr 0 0)) (Number 0) 0 0 ≡ (No, Yes)
least = refl

-- a base of 2 ^ 63, and one of 2 ^ 47 - 8
most : sign_flags (sixteen ∷ []) (Whole (Ptr 0 0)) (Number 0) (2 ^ 63) 0 ≡ (No, Yes)
most = refl

most_below : carry_flags (sixteen ∷ []) (Whole (Ptr 0 8)) (Number (2 ^ 47)) (2 ^ 47 - 8 + 8) (2 ^ 47) ≡ (Yes, No)
most_below = refl

-- an alignment of 24, and a base of 171 * 24
power : kinds_and (record sixteen { align = 24 } ∷ []) (Whole (Ptr 0 0)) (Number (2 ^ 64 - 16)) ≡ Whole (Ptr 0 0)
unfolding lib.Count.ones
power = refl

power' : bit_and (171 * 24) (2 ^ 64 - 16) ≡ 171 * 24 - 8
power' = refl

-- a base of 4,104, which is no multiple of 16
aligned : kinds_and (sixteen ∷ []) (Whole (Ptr 0 8)) (Number (2 ^ 64 - 16)) ≡ Whole (Ptr 0 0)
unfolding lib.Count.ones
aligned = refl

aligned' : bit_and (4104 + 8) (2 ^ 64 - 16) ≡ 4104 + 8
aligned' = refl

-- bases of 4,096 and 4,104
apart : zero_flags (sixteen ∷ sixteen ∷ []) (Whole (Ptr 0 8)) (Whole (Ptr 1 0)) (4096 + 8) 4104 ≡ (No, Yes)
apart = refl

-- an access of 8 bytes over words, and over numbers
abbrev accesses : List Region → Place → Access → Placed → ℕ → Result Place Cause × Result Place Cause
accesses regions place access numbers address =
    (kind_place regions [] (Whole (Ptr place.region place.offset)) 8 access, accessed_place numbers.regions access (place_of numbers address 8))

abbrev at : ℕ → ℕ → Place
at region offset = record { region = region; offset = offset }

abbrev numbers : List Region → List ℕ → List Hole → Placed
numbers regions bases holes = record { regions = regions; bases = Some bases; holes = holes; canary = 0 }

-- a base of 8,192 over numbers, where the words have 4,096
bases : accesses (sixteen ∷ []) (at 0 0) Read (numbers (sixteen ∷ []) (8192 ∷ []) []) 4096 ≡ (Ok (at 0 0), Err AddressOutside)
unfolding first_from
bases = refl

-- a hole over numbers alone, and a region that is smaller there
bytes : accesses (sixteen ∷ []) (at 0 0) Read (numbers (sixteen ∷ []) (4096 ∷ []) (record { region = 0; start = 0; end = 8 } ∷ [])) 4096 ≡ (Ok (at 0 0), Err AddressOutside)
unfolding first_from
bytes = refl

bytes_beyond : accesses (sixteen ∷ []) (at 0 8) Read (numbers (record sixteen { size = 8 } ∷ []) (4096 ∷ []) []) 4104 ≡ (Ok (at 0 8), Err AddressOutside)
unfolding first_from
bytes_beyond = refl

-- counters without a byte over words, which over numbers have 32 and go on into the region behind them
apart_counters : accesses (record sixteen { size = 0 } ∷ sixteen ∷ []) (at 1 0) Read (numbers (record sixteen { size = 32 } ∷ sixteen ∷ []) (4096 ∷ 4112 ∷ []) []) 4112 ≡ (Ok (at 1 0), Ok (at 0 16))
unfolding first_from
apart_counters = refl

-- a region that is writable over words alone
writable : accesses (sixteen ∷ []) (at 0 0) Write (numbers (record sixteen { writable = false } ∷ []) (4096 ∷ []) []) 4096 ≡ (Ok (at 0 0), Err NotWritable)
unfolding first_from
writable = refl

-- a canary that is region 1 over words and region 0 over numbers; and one in no region
canary : slice_index (4096 ∷ 8192 ∷ []) 0 ≡ 4096
canary = refl

has_canary : slice_index (4096 ∷ 8192 ∷ []) 2 ≡ 0
has_canary = refl

-- an instruction at 0, and one at 2 ^ 63
code : zero_flags [] (Whole (Code 1)) (Number 0) 0 0 ≡ (No, Yes)
code = refl

code' : sign_flags [] (Whole (Code 1)) (Number 0) (2 ^ 63) 0 ≡ (No, Yes)
code' = refl

-- two instructions at 4,096
codes_apart : zero_flags [] (Whole (Code 1)) (Whole (Code 2)) 4096 4096 ≡ (No, Yes)
codes_apart = refl

-- a place at 4,096 and an instruction 2 ^ 31 above it: what a table has of the distance isn't the distance
near : extend_of true L (low L (2 ^ 31)) Q ≡ 2 ^ 64 - 2 ^ 31
near = refl
