-- Which places the addresses of an access are, and the record of the operators over numbers.
use Rattle.std.specs.Prelude.{ℕ, ◌+◌, ◌-◌, Bool, true, false, ◌&&◌, not, nat_eq, nat_lt, nat_le, max, min, if◌then◌else◌, List, [], length, slice_get, slice_index, option_and_then, Option, Some, None, Result, Ok, Err}
use Rattle.std.specs.List.{list_any}
use Rattle.std.specs.Option.{unwrap_or, option_map, is_some}
use Rattle.rw_base.specs.Rules.{first_from}
use Rattle.rw_words.specs.Addresses.{byte_of}
use Rattle.rw_domain.specs.declared.cause.Cause.{Cause}
use Rattle.rw_domain.specs.declared.cause.Cause.TheVariants.{AddressOutside, NotWritable}
use Rattle.rw_domain.specs.declared.place.Access.{Access}
use Rattle.rw_domain.specs.declared.place.Access.TheVariants.{Read, Write}
use Rattle.rw_domain.specs.declared.place.Place.{Place}
use Rattle.rw_domain.specs.declared.place.Region.{Region}
use Rattle.rw_domain.specs.declared.place.Hole.{Hole}
use Rattle.rw_domain.specs.Placed.{Placed, stack_number}
use Rattle.rw_domain.specs.Operators.{Operators}
use Rattle.rw_domain.specs.Numbers.{low, alu_of, one_of, shift_of, mul_of, div_of, extend_of, swap_of, bit_of, scan_of, address_sum, join_of}

-- a byte from an offset up to an end is in the hole
abbrev pub touches : ℕ → ℕ → ℕ → Hole → Bool
touches region start end hole = nat_eq hole.region region && nat_lt (max hole.start start) (min hole.end end)

abbrev pub touches_hole : List Hole → ℕ → ℕ → ℕ → Bool
touches_hole holes region start end = list_any (touches region start end) holes

-- a range is inside a region, apart from its holes
abbrev pub is_inside : List Hole → Region → ℕ → ℕ → ℕ → Bool
is_inside holes region number start end = nat_le end region.size && not (touches_hole holes number start end)

-- the place at an offset of a region, where the whole range is inside it
abbrev pub place_inside : List Hole → ℕ → Region → ℕ → ℕ → Option Place
place_inside holes number region offset len =
    if is_inside holes region number offset (offset + len) then Some (record { region = number; offset = offset }) else None

-- the same for the number of a region
abbrev pub pointed_place : List Region → List Hole → ℕ → ℕ → ℕ → Option Place
pointed_place regions holes r o len = option_and_then (λ region. place_inside holes r region o len) (slice_get regions r)

-- a byte of the region: below its size, and in none of its holes
abbrev pub is_byte_of : List Region → List Hole → ℕ → ℕ → Bool
is_byte_of regions holes number offset = is_some (pointed_place regions holes number offset 1)

-- the place at an address, where the region lies at a base
abbrev pub place_in : List Hole → ℕ → Region → ℕ → ℕ → ℕ → Option Place
place_in holes number region base address len =
    if nat_le base address then place_inside holes number region (address - base) len else None

abbrev pub place_at : List Region → List ℕ → List Hole → ℕ → ℕ → ℕ → Option Place
place_at regions bases holes address len number =
    option_and_then (λ region. place_in holes number region (slice_index bases number) address len) (slice_get regions number)

-- in the first region that has one; where regions without their holes lie apart, no other has one for a range that isn't empty
abbrev pub first_place : List Region → List ℕ → List Hole → ℕ → ℕ → Option Place
first_place regions bases holes address len = first_from (place_at regions bases holes address len) 0 (length regions)

abbrev pub bases_of : Option (List ℕ) → List ℕ
bases_of (Some bases) = bases
bases_of None = []

-- the address of a region
abbrev pub base_of : Placed → ℕ → ℕ
base_of placed number = slice_index (bases_of placed.bases) number

abbrev pub place_of : Placed → ℕ → ℕ → Option Place
place_of placed address len = first_place placed.regions (bases_of placed.bases) placed.holes address len

abbrev pub is_writable : List Region → ℕ → Bool
is_writable regions number = unwrap_or (option_map (λ region. region.writable) (slice_get regions number)) false

abbrev pub permitted_place : List Region → Access → Place → Result Place Cause
permitted_place regions Read place = Ok place
permitted_place regions Write place = if is_writable regions place.region then Ok place else Err NotWritable

abbrev pub accessed_place : List Region → Access → Option Place → Result Place Cause
accessed_place regions access (Some place) = permitted_place regions access place
accessed_place regions access None = Err AddressOutside

-- the operators over the numbers below 2 ^ 64
abbrev pub numbers_over : Placed → Operators ℕ ℕ
numbers_over placed = record {
  num = low;
  undef = λ w. 0;
  number = λ w a. Some (low w a);
  split = byte_of;
  join = join_of;
  alu = alu_of;
  one = one_of;
  shift = shift_of;
  mul = mul_of;
  div = div_of;
  extend = extend_of;
  swap = swap_of;
  bit = bit_of;
  scan = scan_of;
  sum = address_sum;
  canary = base_of placed placed.canary;
  place = λ address len access. accessed_place placed.regions access (place_of placed address len);
  stack = stack_number placed;
  stack_fits = λ sp. true;
  regions = placed.regions;
  forgets = false;
}
