-- Numbers for what lines define, by which they are looked up.
use Rattle.std.specs.Prelude.{◌≡◌, ℕ, ◌<◌, Bool, true, ◌&&◌, ◌||◌, false, List, Contains, slice_get, is_some, Option, Some, None, option_and_then, is_none, if◌then◌else◌, ◌==◌}
use Rattle.std.specs.List.Sorted.{IsSortedBy}
use Rattle.std.specs.Map.{lookup}
use Rattle.std.specs.Ordering.{is_lt, nat_cmp, ordering_then}
use Rattle.asm_items.specs.declared.item.Item.{Item}
use Rattle.asm_items.specs.declared.item.Item.TheVariants.{Copy, Label, Ins, Quad, LongDiff}
use Rattle.asm_items.specs.declared.item.Sym.{Sym}
use Rattle.asm_items.specs.declared.item.Sym.TheVariants as syms
use Rattle.x86_insn.specs.References.{reference_of}
use Rattle.asm_items.specs.declared.item.Label as label_type
use Rattle.asm_items.specs.declared.item.Label.TheVariants as label
use Rattle.asm_items.specs.declared.item.NameId.{NameId}

-- a kind, and a number in it
abbrev pub Key : Type 0
Key = ℕ × ℕ

abbrev pub label_key : label_type.Label → Key
label_key (label.Code a) = (0, a)
label_key (label.Past a) = (1, a)
label_key (label.Section n) = (2, n)
label_key (label.Table a) = (3, a)

abbrev pub key_of : Item NameId → Option Key
key_of (Label l) = Some (label_key l)
key_of (Copy id size) = Some (4, id.0)
key_of _ = None

abbrev pub is_key : Key → Key → Bool
is_key a b = (a.0 == b.0) && (a.1 == b.1)

-- the line has the key
abbrev pub KeyAt : List (Item NameId) → ℕ → Key → Type 0
KeyAt items p key = option_and_then key_of (slice_get items p) ≡ Some key

-- an earlier line has the same key
abbrev pub KeyTwice : List (Item NameId) → ℕ → Type 0
KeyTwice items p = (q : ℕ) × (key : Key) × (q < p) × KeyAt items q key × KeyAt items p key

-- the entries give the key of each of the first n lines that line
pub record AreKeyed (entries : List (Key × ℕ)) (items : List (Item NameId)) (n : ℕ) : Type 0 where
  pub only : (key : Key) (p : ℕ) → lookup (is_key key) entries ≡ Some p → (p < n) × KeyAt items p key
  pub every : (key : Key) (p : ℕ) → p < n → KeyAt items p key → lookup (is_key key) entries ≡ Some p

-- a key comes before another: by the kind, and in a kind by the number
abbrev pub comes_before : Key → Key → Bool
comes_before a b = is_lt (ordering_then (nat_cmp a.0 b.0) (nat_cmp a.1 b.1))

-- lines by ascending key
abbrev pub Ascend : List (Key × ℕ) → Type 0
Ascend lines = IsSortedBy (λ a b. comes_before a.0 b.0) lines

-- the keys in a list, each with its line, are those of the first n lines
pub record AreLines (lines : List (Key × ℕ)) (items : List (Item NameId)) (n : ℕ) : Type 0 where
  pub each : (line : Key × ℕ) → Contains lines line → (line.1 < n) × KeyAt items line.1 line.0
  pub every : (key : Key) (p : ℕ) → p < n → KeyAt items p key → Contains lines (key, p)

-- entries with this line for this key, where there was none
pub record Adds (old new : List (Key × ℕ)) (key : Key) (line : ℕ) (added : Bool) : Type 0 where
  pub known : added ≡ is_none (lookup (is_key key) old)
  pub found : added ≡ true → (other : Key) → lookup (is_key other) new ≡ (if is_key key other then Some line else lookup (is_key other) old)

-- ---- what is used

abbrev pub has_entry : List (Key × ℕ) → Key → Bool
has_entry entries key = is_some (lookup (is_key key) entries)

-- whether what a symbol names is among the entries, and whether there are counters
abbrev pub is_known : List (Key × ℕ) → Bool → Sym NameId → Bool
is_known entries counters (syms.Code a) = has_entry entries (0, a)
is_known entries counters (syms.Section n o) = has_entry entries (2, n)
is_known entries counters (syms.Named id o) = (o == 0) || has_entry entries (4, id.0)
is_known entries counters (syms.Counter k) = counters

abbrev pub is_known_or_none : List (Key × ℕ) → Bool → Option (Sym NameId) → Bool
is_known_or_none entries counters None = true
is_known_or_none entries counters (Some sym) = is_known entries counters sym

abbrev pub uses_known : List (Key × ℕ) → Bool → Item NameId → Bool
uses_known entries counters (Ins i) = is_known_or_none entries counters (reference_of i)
uses_known entries counters (Quad sym) = is_known entries counters sym
uses_known entries counters (LongDiff code table) = has_entry entries (0, code) && has_entry entries (3, table)
uses_known entries counters _ = true

-- the answer tells whether a fact holds
abbrev pub Tells : Bool → Type 0 → Type 0
Tells answer fact = (answer ≡ true → fact) × (answer ≡ false → fact → ⊥)
