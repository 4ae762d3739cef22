-- Distances by what was laid out.
use Rattle.std.specs.Prelude.{◌≡◌, ℕ, ℤ, ◌+◌, ◌*◌, ◌%◌, ◌^◌, ◌<◌, false, List, slice_get, Option, Some, None}
use Rattle.x86_insn.specs.References.{reference_of}
use Rattle.asm_items.specs.declared.item.Item.{Item}
use Rattle.asm_items.specs.declared.item.Item.TheVariants.{Ins, LongDiff}
use Rattle.asm_items.specs.declared.item.Label.TheVariants as label
use Rattle.asm_items.specs.declared.item.NameId.{NameId}
use Rattle.asm_items.specs.declared.item.Sym.{Sym}
use Rattle.asm_items.specs.declared.item.Sym.TheVariants as syms
use Rattle.asm_items.specs.Layout.{distance}
use Rattle.rw_layout.specs.Places.{Laid, address_in}
use Rattle.rw_layout.specs.Reach.{is_in_reach, signed}

abbrev pub join : Option (Option ℕ) → Option ℕ
join None = None
join (Some o) = o

-- the address at an offset, modulo 2 ^ 64
abbrev pub at_offset : Option ℕ → ℕ → Option ℕ
at_offset None o = None
at_offset (Some a) o = Some ((a + o) % 2 ^ 64)

-- the address of a symbol, when the counters have this number
abbrev pub symbol_in : Laid → ℕ → Sym NameId → Option ℕ
symbol_in laid counters (syms.Code a) = at_offset (address_in laid (label.Code a)) 0
symbol_in laid counters (syms.Section n o) = at_offset (address_in laid (label.Section n)) o
symbol_in laid counters (syms.Named id o) = at_offset (join (slice_get laid.names id.0)) o
symbol_in laid counters (syms.Counter k) = at_offset (slice_get laid.regions counters) (8 * k)

abbrev pub between : Option ℕ → Option ℕ → Option ℕ
between None from = None
between (Some to) None = None
between (Some to) (Some from) = Some (distance to from)

abbrev pub with_symbol : Sym NameId → Option ℕ → Option (Sym NameId × ℕ)
with_symbol symbol None = None
with_symbol symbol (Some d) = Some (symbol, d)

-- the distance of a line, with its symbol
abbrev pub referred : Laid → ℕ → ℕ → Option (Sym NameId) → Option (Sym NameId × ℕ)
referred laid counters q None = None
referred laid counters q (Some symbol) = with_symbol symbol (between (symbol_in laid counters symbol) (at_offset (slice_get laid.addresses q) 8))

abbrev pub distance_in : Laid → ℕ → ℕ → Item NameId → Option (Sym NameId × ℕ)
distance_in laid counters q (Ins i) = referred laid counters q (reference_of i)
distance_in laid counters q (LongDiff code table) = with_symbol (syms.Code code) (between (address_in laid (label.Code code)) (address_in laid (label.Table table)))
distance_in laid counters q _ = None

-- the line at a place has this distance, and it is out of reach
pub record IsFarAt (laid : Laid) (counters : ℕ) (items : List (Item NameId)) (q : ℕ) (symbol : Sym NameId) (bytes : ℕ) : Type 0 where
  pub item : Item NameId
  pub here : slice_get items q ≡ Some item
  pub has : distance_in laid counters q item ≡ Some (symbol, bytes)
  pub far : is_in_reach bytes ≡ false

abbrev pub IsFarLine : Laid → ℕ → List (Item NameId) → ℕ → Type 0
IsFarLine laid counters items q = (symbol : Sym NameId) × (bytes : ℕ) × IsFarAt laid counters items q symbol bytes

-- the first line with a distance out of reach has this one
abbrev pub IsFirstFar : Laid → ℕ → List (Item NameId) → Sym NameId → ℤ → Type 0
IsFirstFar laid counters items symbol far = (q : ℕ) × (bytes : ℕ) × IsFarAt laid counters items q symbol bytes × (far ≡ signed bytes)
    × ((p : ℕ) → p < q → IsFarLine laid counters items p → ⊥)
