-- What an answer leaves, piece by piece.
use Rattle.std.specs.Prelude.{◌<◌, ◌^◌, ℕ, ◌+◌, ◌-◌, List, [], ◌∷◌, length, take, slice_index_or, slice_set, Option, Some, None, All, nat_eq, nat_le, nat_lt, ◌&&◌, if◌then◌else◌}
use Rattle.rw_base.specs.Width.{byte_count}
use Rattle.rw_domain.specs.declared.place.Place.{Place}
use Rattle.rw_domain.specs.declared.place.Region.{Region}
use Rattle.rw_domain.specs.Eight.{eight_of}
use Rattle.rw_domain.specs.Operators.{IsInside}
use Rattle.rw_machine.specs.declared.answers.Store.{Store}
use Rattle.rw_machine.specs.declared.answers.Stores.{Stores}
use Rattle.rw_machine.specs.declared.answers.Stores.TheVariants as code
use Rattle.rw_machine.specs.Running.{written_at}
use Rattle.rw_machine.specs.Rows.{front_replaced}
use Rattle.rw_machine.specs.Views.{HasRange}

abbrev pub stores_of : {C : Type 0} → Stores C → List (Store C)
stores_of code.Nothing = []
stores_of (code.One s) = s ∷ []
stores_of (code.Two s t) = s ∷ t ∷ []

-- memory with words' bytes stored, one after another
abbrev pub stored_one : {C : Type 0} → Store C → List (List C) → List (List C)
stored_one s rows = written_at rows s.place (take (byte_count s.width) (eight_of s.bytes))

abbrev pub stored_rows : {C : Type 0} → List (Store C) → List (List C) → List (List C)
stored_rows [] rows = rows
stored_rows (s ∷ stores) rows = stored_rows stores (stored_one s rows)

abbrev pub IsStorable : {C : Type 0} → List (List C) → Store C → Type 0
IsStorable rows s = HasRange rows s.place (byte_count s.width)

abbrev pub AreStorable : {C : Type 0} → List (List C) → List (Store C) → Type 0
AreStorable rows [] = Unit {0}
AreStorable rows (s ∷ stores) = IsStorable rows s × AreStorable rows stores

-- memory with one byte in the places of a region up to one
abbrev pub forgotten_to : {C : Type 0} → C → Option Place → List (List C) → List (List C)
forgotten_to b None rows = rows
forgotten_to b (Some p) rows = slice_set rows p.region (front_replaced (slice_index_or rows p.region []) (p.offset + 1) b)

abbrev pub IsReached : {C : Type 0} → List (List C) → Option Place → Type 0
IsReached rows None = Unit {0}
IsReached rows (Some p) = HasRange rows p 1

-- each write has room
abbrev pub HaveRoom : {C : Type 0} → List (List C) → List (Place × List C) → Type 0
HaveRoom rows writes = All (λ w. HasRange rows w.0 (length w.1)) writes

-- each write is inside a region
abbrev pub AreInside : {C : Type 0} → List Region → List (Place × List C) → Type 0
AreInside regions writes = All (λ w. IsInside regions w.0 (length w.1)) writes

-- with a fresh region there are still few enough
abbrev pub FitsFresh : List Region → Option (Region × ℕ) → Type 0
FitsFresh regions None = Unit {0}
FitsFresh regions (Some f) = length regions + 1 < 2 ^ 32 - 1

-- the number of the byte of a stored word that lies at an offset of a region, if one does
abbrev pub stored_index : Place → ℕ → ℕ → ℕ → Option ℕ
stored_index place len region at =
    if nat_eq region place.region && nat_le place.offset at && nat_lt (at - place.offset) len then Some (at - place.offset) else None
