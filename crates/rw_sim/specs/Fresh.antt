-- Where the regions lie that come during a run over numbers. The rule is this project's own.
use Rattle.std.specs.Prelude.{ℕ, ◌+◌, ◌^◌, List, [], ◌∷◌}
use Rattle.std.specs.Int.{next_multiple_of}

-- the first lies here
abbrev pub first_fresh_base : ℕ
first_fresh_base = 2 ^ 46

-- where the next lies, behind one that lies at a base: at the next multiple of 16 that leaves 16 bytes between them
abbrev pub base_behind : ℕ → ℕ → ℕ
base_behind base size = next_multiple_of (base + size + 16) 16

-- where the next lies, behind so many of these sizes, of which the first lies at a base
abbrev pub base_from : ℕ → List ℕ → ℕ
base_from base [] = base
base_from base (size ∷ sizes) = base_from (base_behind base size) sizes

-- the base of the next region, where these sizes came so far, the first first
abbrev pub fresh_base : List ℕ → ℕ
fresh_base sizes = base_from first_fresh_base sizes
