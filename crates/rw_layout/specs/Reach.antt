-- The distances in a text that is laid out, and which lines have one that is out of reach.
use Rattle.std.specs.Prelude.{◌≡◌, ℕ, ℤ, ◌+◌, ◌-◌, ◌^◌, Bool, true, not, ◌||◌, nat_le, nat_lt, List, Option, Some, None, slice_get}
use Rattle.std.specs.Option.{option_map}
use Rattle.std.specs.Int.{cast_signed, w64}
use Rattle.x86_insn.specs.References.{reference_of}
use Rattle.asm_items.specs.declared.item.Item.{Item}
use Rattle.asm_items.specs.declared.item.Item.TheVariants.{Ins, LongDiff}
use Rattle.asm_items.specs.declared.item.Sym.{Sym}
use Rattle.asm_items.specs.declared.item.Sym.TheVariants.{Code}
use Rattle.asm_items.specs.Lines.{Items}
use Rattle.asm_items.specs.Layout.{Layout, distance, symbol_at, table_distance}

-- a symbol, and its distance modulo 2 ^ 64
pub record Distance : Type 0 where
  pub symbol : Sym (List ℕ)
  pub bytes : ℕ

-- The distance of a line, if it has one: of its reference from the address behind the instruction, or of a label from its table.
abbrev pub distance_of : Items → Layout → ℕ → Item (List ℕ) → Option Distance
distance_of items layout q (Ins i) = option_map (λ r. record { symbol = r; bytes = distance (symbol_at items layout r) (layout.insn q + layout.size q) }) (reference_of i)
distance_of items layout q (LongDiff code table) = Some (record { symbol = Code code; bytes = table_distance layout code table })
distance_of items layout q _ = None

-- a distance as a number with a sign
abbrev pub signed : ℕ → ℤ
signed bytes = cast_signed w64 bytes

-- whether a distance fits 32 bits with its sign
abbrev pub is_in_reach : ℕ → Bool
is_in_reach bytes = nat_lt bytes (2 ^ 31) || nat_le (2 ^ 64 - 2 ^ 31) bytes

-- the line at a place has this distance
abbrev pub HasDistance : Items → Layout → ℕ → Distance → Type 0
HasDistance items layout q d = (item : Item (List ℕ)) × (slice_get items q ≡ Some item) × (distance_of items layout q item ≡ Some d)

-- the line at a place has a distance that is out of reach
abbrev pub IsFar : Items → Layout → ℕ → Type 0
IsFar items layout q = (d : Distance) × HasDistance items layout q d × (not (is_in_reach d.bytes) ≡ true)
