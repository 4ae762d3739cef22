-- The operators over words of cells. Where all cells are numbers they are those over numbers, but that an undefined
-- result is undefined. Else some operations on places, code and distances have a result at 64 bits, and everything
-- else is undefined, with unknown flags.
use Rattle.std.specs.Prelude.{ℕ, ◌+◌, ◌-◌, ◌*◌, ◌^◌, Bool, true, false, not, ◌&&◌, nat_eq, nat_lt, nat_le, max, if◌then◌else◌, bit_and, ℤ, List, [], ◌∷◌, length, take, slice_get, slice_index_or, Option, Some, None, Result, Ok, Err}
use Rattle.std.specs.Int.{is_power_of_two}
use Rattle.std.specs.Option.{option_map, unwrap_or}
use Rattle.rw_base.specs.declared.width.Width.{Width}
use Rattle.rw_base.specs.declared.width.Width.TheVariants.{B, W, L, Q}
use Rattle.rw_base.specs.Width.{byte_count}
use Rattle.rw_words.specs.declared.atom.Atom.{Atom}
use Rattle.rw_words.specs.declared.atom.Atom.TheVariants.{Ptr, Code, Past, Import, End, Diff}
use Rattle.rw_words.specs.declared.atom.Cell.{Cell}
use Rattle.rw_words.specs.declared.atom.Cell.TheVariants.{Num, Undef}
use Rattle.rw_words.specs.declared.kind.Kind.{Kind}
use Rattle.rw_words.specs.declared.kind.Kind.TheVariants.{Number, Whole, Mixed}
use Rattle.rw_words.specs.Words.{number_cells, atom_cells, undefined_cells, number_in, same_atom, lowest_of}
use Rattle.rw_words.specs.Kinds.{kind_of}
use Rattle.x86_insn.specs.declared.kinds.AluOp.{AluOp}
use Rattle.x86_insn.specs.declared.kinds.AluOp.TheVariants.{Add, Or, Adc, Sbb, And, Sub, Xor, Cmp}
use Rattle.x86_insn.specs.declared.kinds.OneOp.{OneOp}
use Rattle.x86_insn.specs.declared.kinds.OneOp.TheVariants.{Inc, Dec, Not, Neg, Mul, Imul, Div, Idiv}
use Rattle.x86_insn.specs.declared.kinds.ShiftOp.{ShiftOp}
use Rattle.x86_insn.specs.declared.kinds.BitOp.{BitOp}
use Rattle.x86_insn.specs.declared.kinds.ScanOp.{ScanOp}
use Rattle.x86_insn.specs.declared.kinds.ScanOp.TheVariants.{Bsf, Bsr, Tzcnt}
use Rattle.rw_domain.specs.declared.cause.Cause.{Cause}
use Rattle.rw_domain.specs.declared.cause.Cause.TheVariants.{AddressUnknown, AddressOutside, NumberUnknown}
use Rattle.rw_domain.specs.declared.flags.Flags.{Flags}
use Rattle.rw_domain.specs.declared.flags.Tri.{Tri}
use Rattle.rw_domain.specs.declared.flags.Tri.TheVariants.{Yes, No, Unknown}
use Rattle.rw_domain.specs.declared.place.Access.{Access}
use Rattle.rw_domain.specs.declared.place.Place.{Place}
use Rattle.rw_domain.specs.declared.place.Region.{Region}
use Rattle.rw_domain.specs.declared.place.Hole.{Hole}
use Rattle.rw_domain.specs.Placed.{Placed, stack_number}
use Rattle.rw_domain.specs.Operators.{Operators}
use Rattle.rw_domain.specs.NumberPlaces.{pointed_place, is_byte_of, accessed_place}
use Rattle.rw_domain.specs.Numbers.{low, modulus, wrapped_number, difference_result, known_flag, alu_of, one_of, shifted_by, shift_count, mul_of, division_of, extend_of, swap_of, bit_of, scan_of}

-- ---- words

abbrev pub low_cells : Width → List Cell → List Cell
low_cells w a = take (byte_count w) a

abbrev pub word_number : Width → List Cell → Option ℕ
word_number w a = number_in (low_cells w a)

abbrev pub word_kind : List Cell → Kind
word_kind a = kind_of (low_cells Q a)

abbrev pub word_of : Kind → List Cell
word_of (Number n) = number_cells Q n
word_of (Whole a) = atom_cells a
word_of Mixed = undefined_cells Q

abbrev pub no_flags : Flags
no_flags = record { cf = Unknown; zf = Unknown; sf = Unknown; of = Unknown; pf = Unknown }

abbrev pub unknown_result : Width → List Cell × Flags
unknown_result w = (undefined_cells w, no_flags)

abbrev pub numbered_result : Width → ℕ × Flags → List Cell × Flags
numbered_result w answer = (number_cells w answer.0, answer.1)

-- ---- regions

abbrev pub size_of : List Region → ℕ → Option ℕ
size_of regions number = option_map (λ region. region.size) (slice_get regions number)

-- the offset is at most the region's size, and there is such a region
abbrev pub is_at_most_size : List Region → ℕ → ℕ → Bool
is_at_most_size regions number offset = unwrap_or (option_map (λ size. nat_le offset size) (size_of regions number)) false

abbrev pub is_below_size : List Region → ℕ → ℕ → Bool
is_below_size regions number offset = unwrap_or (option_map (λ size. nat_lt offset size) (size_of regions number)) false

-- an alignment of 0 is 1, and so is that of a region that there isn't
abbrev pub align_of : List Region → ℕ → ℕ
align_of regions number = max 1 (unwrap_or (option_map (λ region. region.align) (slice_get regions number)) 1)

-- ---- add, and addresses

-- a place moved by a number
abbrev pub moved_kind : Atom → ℕ → Kind
moved_kind (Ptr r o) n = Whole (Ptr r (low Q (o + n)))
moved_kind (Code c) n = Mixed
moved_kind (Past c) n = Mixed
moved_kind (Import i) n = Mixed
moved_kind End n = Mixed
moved_kind (Diff c r o) n = Mixed

abbrev pub whole_if : Bool → Atom → Kind
whole_if true a = Whole a
whole_if false a = Mixed

-- a place and the distance of an instruction from this place
abbrev pub place_and_distance : Atom → Atom → Kind
place_and_distance (Ptr r o) (Diff c s p) = whole_if (nat_eq r s && nat_eq o p) (Code c)
place_and_distance (Diff c s p) (Ptr r o) = whole_if (nat_eq r s && nat_eq o p) (Code c)
place_and_distance _ _ = Mixed

abbrev pub kinds_sum : Kind → Kind → Kind
kinds_sum (Number a) (Number b) = Number (low Q (a + b))
kinds_sum (Whole a) (Number n) = moved_kind a n
kinds_sum (Number n) (Whole a) = moved_kind a n
kinds_sum (Whole a) (Whole b) = place_and_distance a b
kinds_sum Mixed b = Mixed
kinds_sum (Number a) Mixed = Mixed
kinds_sum (Whole a) Mixed = Mixed

-- ---- sub and cmp

-- nothing but that the two differ
abbrev pub differ_flags : Flags
differ_flags = record no_flags { zf = No }

-- of a number from 1 up to 2 ^ 47 compared with 0, and of a logical operation that gives one
abbrev pub positive_flags : Flags
positive_flags = record { cf = No; zf = No; sf = No; of = No; pf = Unknown }

-- of two equal numbers
abbrev pub equal_flags : Flags
equal_flags = record { cf = No; zf = Yes; sf = No; of = No; pf = Yes }

abbrev pub flags_if : Bool → Flags → Flags
flags_if true flags = flags
flags_if false flags = no_flags

-- a place compared with a number: 0, or one above all addresses
abbrev pub place_with_number : List Region → ℕ → ℕ → ℕ → Flags
place_with_number regions r o n =
    if nat_eq n 0 then flags_if (is_at_most_size regions r o) positive_flags
    else flags_if (nat_le (2 ^ 47) n && is_below_size regions r o) (record no_flags { cf = Yes; zf = No })

-- two places: in one region by their offsets, and in two only that they differ
abbrev pub place_with_place : List Region → List Hole → ℕ → ℕ → ℕ → ℕ → Flags
place_with_place regions holes r o s p =
    if nat_eq r s
    then flags_if (is_at_most_size regions r o && is_at_most_size regions r p) (difference_result Q o p false).1
    else flags_if (is_byte_of regions holes r o && is_byte_of regions holes s p) differ_flags

abbrev pub code_with_code : ℕ → ℕ → Flags
code_with_code c d = if nat_eq c d then equal_flags else differ_flags

abbrev pub atoms_compared : List Region → List Hole → Atom → Atom → Flags
atoms_compared regions holes (Ptr r o) (Ptr s p) = place_with_place regions holes r o s p
atoms_compared regions holes (Code c) (Code d) = code_with_code c d
atoms_compared regions holes _ _ = no_flags

abbrev pub atom_with_number : List Region → Atom → ℕ → Flags
atom_with_number regions (Ptr r o) n = place_with_number regions r o n
atom_with_number regions (Code c) n = flags_if (nat_eq n 0) positive_flags
atom_with_number regions _ n = no_flags

abbrev pub comparison_flags : List Region → List Hole → Kind → Kind → Flags
comparison_flags regions holes (Number a) (Number b) = (difference_result Q a b false).1
comparison_flags regions holes (Whole a) (Number n) = atom_with_number regions a n
comparison_flags regions holes (Whole a) (Whole b) = atoms_compared regions holes a b
comparison_flags regions holes (Number n) (Whole a) = no_flags
comparison_flags regions holes Mixed b = no_flags
comparison_flags regions holes (Number a) Mixed = no_flags
comparison_flags regions holes (Whole a) Mixed = no_flags

abbrev pub atoms_difference : Atom → Atom → Kind
atoms_difference (Ptr r o) (Ptr s p) = if nat_eq r s then Number (low Q (o + modulus Q - low Q p)) else Mixed
atoms_difference _ _ = Mixed

abbrev pub kinds_difference : Kind → Kind → Kind
kinds_difference (Number a) (Number b) = Number (low Q (a + modulus Q - b))
kinds_difference (Whole a) (Number n) = moved_kind a (modulus Q - n)
kinds_difference (Whole a) (Whole b) = atoms_difference a b
kinds_difference (Number n) (Whole a) = Mixed
kinds_difference Mixed b = Mixed
kinds_difference (Number a) Mixed = Mixed
kinds_difference (Whole a) Mixed = Mixed

-- ---- and, or

-- all ones above the lowest k bits, where 2 ^ k is at most the alignment
abbrev pub is_mask : ℕ → ℕ → Bool
is_mask align n = nat_le (2 ^ 64 - n) align && is_power_of_two (2 ^ 64 - n)

abbrev pub masked_kind : List Region → Atom → ℕ → Kind
masked_kind regions (Ptr r o) n = whole_if (is_mask (align_of regions r) n) (Ptr r (bit_and o n))
masked_kind regions _ n = Mixed

abbrev pub kept_atom : Atom → Atom → Kind
kept_atom a b = whole_if (same_atom a b) a

-- a word with an equal whole word is the word
abbrev pub kinds_and : List Region → Kind → Kind → Kind
kinds_and regions (Whole a) (Number n) = masked_kind regions a n
kinds_and regions (Whole a) (Whole b) = kept_atom a b
kinds_and regions _ _ = Mixed

abbrev pub kinds_or : Kind → Kind → Kind
kinds_or (Whole a) (Whole b) = kept_atom a b
kinds_or _ _ = Mixed

abbrev pub atom_flags : List Region → Atom → Flags
atom_flags regions (Ptr r o) = flags_if (is_at_most_size regions r o) positive_flags
atom_flags regions (Code c) = positive_flags
atom_flags regions _ = no_flags

abbrev pub kept_flags : List Region → Kind → Kind → Flags
kept_flags regions (Whole a) (Whole b) = flags_if (same_atom a b) (atom_flags regions a)
kept_flags regions _ _ = no_flags

-- ---- operators with two operands

-- at 64 bits, where not both are numbers
abbrev pub alu_kinds : List Region → List Hole → AluOp → Kind → Kind → List Cell × Flags
alu_kinds regions holes Add a b = (word_of (kinds_sum a b), no_flags)
alu_kinds regions holes Sub a b = (word_of (kinds_difference a b), comparison_flags regions holes a b)
alu_kinds regions holes Cmp a b = (word_of (kinds_difference a b), comparison_flags regions holes a b)
alu_kinds regions holes And a b = (word_of (kinds_and regions a b), kept_flags regions a b)
alu_kinds regions holes Or a b = (word_of (kinds_or a b), kept_flags regions a b)
alu_kinds regions holes Xor a b = unknown_result Q
alu_kinds regions holes Adc a b = unknown_result Q
alu_kinds regions holes Sbb a b = unknown_result Q

abbrev pub alu_rows : List Region → List Hole → AluOp → Width → List Cell → List Cell → List Cell × Flags
alu_rows regions holes op Q a b = alu_kinds regions holes op (word_kind a) (word_kind b)
alu_rows regions holes op B a b = unknown_result B
alu_rows regions holes op W a b = unknown_result W
alu_rows regions holes op L a b = unknown_result L

-- adc and sbb need the carry flag
abbrev pub needs_carry : AluOp → Bool
needs_carry Adc = true
needs_carry Sbb = true
needs_carry Add = false
needs_carry Or = false
needs_carry And = false
needs_carry Sub = false
needs_carry Xor = false
needs_carry Cmp = false

abbrev pub after_flag : Result Bool Cause → List Cell × Flags → Result (List Cell × Flags) Cause
after_flag (Ok carry) answer = Ok answer
after_flag (Err cause) answer = Err cause

abbrev pub needed_flag : AluOp → Flags → Result Bool Cause
needed_flag op before = if needs_carry op then known_flag before.cf else Ok false

abbrev pub numbered_answer : Width → Result (ℕ × Flags) Cause → Result (List Cell × Flags) Cause
numbered_answer w (Ok answer) = Ok (numbered_result w answer)
numbered_answer w (Err cause) = Err cause

-- what two words are where both are numbers
abbrev pub alu_by : List Region → List Hole → AluOp → Width → List Cell → List Cell → Flags → Option ℕ → Option ℕ → Result (List Cell × Flags) Cause
alu_by regions holes op w a b before (Some m) (Some n) = numbered_answer w (alu_of op w m n before)
alu_by regions holes op w a b before (Some m) None = after_flag (needed_flag op before) (alu_rows regions holes op w a b)
alu_by regions holes op w a b before None n = after_flag (needed_flag op before) (alu_rows regions holes op w a b)

abbrev pub alu_words : List Region → List Hole → AluOp → Width → List Cell → List Cell → Flags → Result (List Cell × Flags) Cause
alu_words regions holes op w a b before = alu_by regions holes op w a b before (word_number w a) (word_number w b)

-- ---- operators with one operand

-- how far inc and dec move a place
abbrev pub step_of : OneOp → Option ℕ
step_of Inc = Some 1
step_of Dec = Some (modulus Q - 1)
step_of Not = None
step_of Neg = None
step_of Mul = None
step_of Imul = None
step_of Div = None
step_of Idiv = None

abbrev pub is_place : Atom → Bool
is_place (Ptr r o) = true
is_place (Code c) = false
is_place (Past c) = false
is_place (Import i) = false
is_place End = false
is_place (Diff c r o) = false

-- of a place the carry flag is kept, and the others are unknown
abbrev pub step_result : Option ℕ → Kind → Tri → List Cell × Flags
step_result (Some by) (Whole a) cf = if is_place a then (word_of (moved_kind a by), record no_flags { cf = cf }) else unknown_result Q
step_result (Some by) (Number n) cf = unknown_result Q
step_result (Some by) Mixed cf = unknown_result Q
step_result None kind cf = unknown_result Q

abbrev pub one_rows : OneOp → Width → List Cell → Flags → List Cell × Flags
one_rows op Q a before = step_result (step_of op) (word_kind a) before.cf
one_rows op B a before = unknown_result B
one_rows op W a before = unknown_result W
one_rows op L a before = unknown_result L

abbrev pub one_by : OneOp → Width → List Cell → Flags → Option ℕ → List Cell × Flags
one_by op w a before (Some n) = numbered_result w (one_of op w n before)
one_by op w a before None = one_rows op w a before

abbrev pub one_words : OneOp → Width → List Cell → Flags → List Cell × Flags
one_words op w a before = one_by op w a before (word_number w a)

-- ---- shifts

abbrev pub shift_by : ShiftOp → Width → ℕ → Flags → Option ℕ → List Cell × Flags
shift_by op w count before (Some n) = numbered_result w (shifted_by op w n (shift_count w (low B count)) before)
shift_by op w count before None = unknown_result w

-- the count must be a number
abbrev pub counted_shift : ShiftOp → Width → List Cell → Flags → Option ℕ → Result (List Cell × Flags) Cause
counted_shift op w a before (Some count) = Ok (shift_by op w count before (word_number w a))
counted_shift op w a before None = Err NumberUnknown

abbrev pub shift_words : ShiftOp → Width → List Cell → List Cell → Flags → Result (List Cell × Flags) Cause
shift_words op w a count before = counted_shift op w a before (word_number B count)

-- ---- products and quotients

abbrev pub numbered_product : Width → ℕ × ℕ × Flags → List Cell × List Cell × Flags
numbered_product w p = (number_cells w p.0, number_cells w p.1, p.2)

abbrev pub mul_by : Bool → Width → Option ℕ → Option ℕ → List Cell × List Cell × Flags
mul_by is_signed w (Some m) (Some n) = numbered_product w (mul_of is_signed w m n)
mul_by is_signed w (Some m) None = (undefined_cells w, undefined_cells w, no_flags)
mul_by is_signed w None n = (undefined_cells w, undefined_cells w, no_flags)

abbrev pub mul_words : Bool → Width → List Cell → List Cell → List Cell × List Cell × Flags
mul_words is_signed w a b = mul_by is_signed w (word_number w a) (word_number w b)

abbrev pub numbered_pair : Width → ℕ × ℕ → List Cell × List Cell
numbered_pair w q = (number_cells w q.0, number_cells w q.1)

-- the dividend and the divisor must be numbers
abbrev pub div_by : Bool → Width → Option ℕ → Option ℕ → Option ℕ → Result (Option (List Cell × List Cell)) Cause
div_by is_signed w (Some high) (Some lower) (Some by) = Ok (option_map (numbered_pair w) (division_of is_signed w high lower by))
div_by is_signed w None lower by = Err NumberUnknown
div_by is_signed w (Some high) None by = Err NumberUnknown
div_by is_signed w (Some high) (Some lower) None = Err NumberUnknown

abbrev pub div_words : Bool → Width → List Cell → List Cell → List Cell → Result (Option (List Cell × List Cell)) Cause
div_words is_signed w high lower by = div_by is_signed w (word_number w high) (word_number w lower) (word_number w by)

-- ---- widening, bswap

abbrev pub cell_or_zero : List Cell → ℕ → Cell
cell_or_zero cells i = slice_index_or cells i (Num 0)

-- the cells, and number cells 0 above them
abbrev pub with_zeros : List Cell → List Cell
with_zeros cells =
    cell_or_zero cells 0 ∷ cell_or_zero cells 1 ∷ cell_or_zero cells 2 ∷ cell_or_zero cells 3
    ∷ cell_or_zero cells 4 ∷ cell_or_zero cells 5 ∷ cell_or_zero cells 6 ∷ cell_or_zero cells 7 ∷ []

abbrev pub zero_extension : Width → List Cell → Width → List Cell
zero_extension from a to = take (byte_count to) (with_zeros (low_cells from a))

abbrev pub is_distance : Atom → Bool
is_distance (Diff c r o) = true
is_distance (Ptr r o) = false
is_distance (Code c) = false
is_distance (Past c) = false
is_distance (Import i) = false
is_distance End = false

-- the distance of which four cells are the lowest
abbrev pub distance_in : List Cell → Option Atom
distance_in cells = if nat_eq (length cells) 4 then lowest_of cells else None

-- the four low cells of a distance are the distance, as it fits 32 bits with its sign
abbrev pub distance_word : Option Atom → List Cell
distance_word (Some a) = if is_distance a then atom_cells a else undefined_cells Q
distance_word None = undefined_cells Q

abbrev pub distance_from : Width → Option Atom → Width → List Cell
distance_from L found Q = distance_word found
distance_from from found to = undefined_cells to

abbrev pub sign_extended_by : Width → List Cell → Width → Option ℕ → List Cell
sign_extended_by from a to (Some n) = number_cells to (extend_of true from n to)
sign_extended_by from a to None = distance_from from (distance_in (low_cells from a)) to

abbrev pub extend_words : Bool → Width → List Cell → Width → List Cell
extend_words false from a to = zero_extension from a to
extend_words true from a to = sign_extended_by from a to (word_number from a)

abbrev pub swap_by : Width → Option ℕ → List Cell
swap_by w (Some n) = number_cells w (swap_of w n)
swap_by w None = undefined_cells w

abbrev pub swap_words : Width → List Cell → List Cell
swap_words w a = swap_by w (word_number w a)

-- ---- bits

abbrev pub bit_by : BitOp → Width → Flags → Option ℕ → Option ℕ → List Cell × Flags
bit_by op w before (Some n) (Some index) = numbered_result w (bit_of op w n index before)
bit_by op w before (Some n) None = unknown_result w
bit_by op w before None index = unknown_result w

abbrev pub bit_words : BitOp → Width → List Cell → List Cell → Flags → List Cell × Flags
bit_words op w a index before = bit_by op w before (word_number w a) (word_number w index)

-- bsf and bsr of 0 leave the result undefined
abbrev pub has_result : ScanOp → ℕ → Bool
has_result Bsf n = not (nat_eq n 0)
has_result Bsr n = not (nat_eq n 0)
has_result Tzcnt n = true

abbrev pub scan_result : ScanOp → Width → ℕ → List Cell
scan_result op w n = if has_result op n then number_cells w (scan_of op w n).0 else undefined_cells w

abbrev pub scan_by : ScanOp → Width → Option ℕ → List Cell × Flags
scan_by op w (Some n) = (scan_result op w n, (scan_of op w n).1)
scan_by op w None = unknown_result w

abbrev pub scan_words : ScanOp → Width → List Cell → List Cell × Flags
scan_words op w a = scan_by op w (word_number w a)

-- ---- addresses

abbrev pub add_words : List Cell → List Cell → List Cell
add_words a b = word_of (kinds_sum (word_kind a) (word_kind b))

abbrev pub scaled_by : ℕ → Option ℕ → List Cell
scaled_by scale (Some n) = number_cells Q (low Q (n * scale))
scaled_by scale None = undefined_cells Q

-- a scale of 1 keeps any word
abbrev pub scaled_index : List Cell × ℕ → List Cell
scaled_index (a, scale) = if nat_eq scale 1 then low_cells Q a else scaled_by scale (word_number Q a)

abbrev pub base_and_index : Option (List Cell) → Option (List Cell × ℕ) → Option (List Cell)
base_and_index None None = None
base_and_index None (Some index) = Some (scaled_index index)
base_and_index (Some a) None = Some (low_cells Q a)
base_and_index (Some a) (Some index) = Some (add_words a (scaled_index index))

-- a displacement of 0 keeps any word
abbrev pub displaced_sum : Option (List Cell) → ℕ → List Cell
displaced_sum None n = number_cells Q n
displaced_sum (Some a) n = if nat_eq n 0 then a else word_of (kinds_sum (word_kind a) (Number n))

-- (base plus index times scale) plus displacement
abbrev pub word_sum : Option (List Cell) → Option (List Cell × ℕ) → ℤ → List Cell
word_sum base index disp = displaced_sum (base_and_index base index) (wrapped_number Q disp)

-- ---- places

abbrev pub atom_place : List Region → List Hole → Atom → ℕ → Access → Result Place Cause
atom_place regions holes (Ptr r o) len access = accessed_place regions access (pointed_place regions holes r o len)
atom_place regions holes (Code c) len access = Err AddressUnknown
atom_place regions holes (Past c) len access = Err AddressUnknown
atom_place regions holes (Import i) len access = Err AddressUnknown
atom_place regions holes End len access = Err AddressUnknown
atom_place regions holes (Diff c r o) len access = Err AddressUnknown

-- no number is an address, and of atoms only a place is one
abbrev pub kind_place : List Region → List Hole → Kind → ℕ → Access → Result Place Cause
kind_place regions holes (Number n) len access = Err AddressOutside
kind_place regions holes (Whole a) len access = atom_place regions holes a len access
kind_place regions holes Mixed len access = Err AddressUnknown

-- the stack pointer is in the stack, with at least 256 bytes below it
abbrev pub atom_fits : List Region → ℕ → Atom → Bool
atom_fits regions canary (Ptr r o) = nat_eq (r + 2) canary && (nat_le 256 o && is_at_most_size regions r o)
atom_fits regions canary (Code c) = false
atom_fits regions canary (Past c) = false
atom_fits regions canary (Import i) = false
atom_fits regions canary End = false
atom_fits regions canary (Diff c r o) = false

abbrev pub kind_fits : List Region → ℕ → Kind → Bool
kind_fits regions canary (Whole a) = atom_fits regions canary a
kind_fits regions canary (Number n) = false
kind_fits regions canary Mixed = false

-- the operators over words of cells
abbrev pub symbols_over : Placed → Operators (List Cell) Cell
symbols_over placed = record {
  num = number_cells;
  undef = undefined_cells;
  number = word_number;
  split = λ a i. slice_index_or a i Undef;
  join = λ w row. take (byte_count w) row;
  alu = alu_words placed.regions placed.holes;
  one = one_words;
  shift = shift_words;
  mul = mul_words;
  div = div_words;
  extend = extend_words;
  swap = swap_words;
  bit = bit_words;
  scan = scan_words;
  sum = word_sum;
  canary = atom_cells (Ptr placed.canary 0);
  place = λ address len access. kind_place placed.regions placed.holes (kind_of address) len access;
  stack = stack_number placed;
  stack_fits = λ sp. kind_fits placed.regions placed.canary (kind_of sp);
  regions = placed.regions;
  forgets = true;
}
