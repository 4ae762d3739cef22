-- What a function of the reader returned, against the definition of reading.
use Rattle.std.specs.Prelude.{◌≡◌, Option, Some, None}

-- what was returned, seen by view, is what is found
abbrev pub Finds : {X Y : Type 0} → (X → Y) → Option X → Option Y → Type 0
Finds view (Some x) found = found ≡ Some (view x)
Finds view None found = found ≡ None
