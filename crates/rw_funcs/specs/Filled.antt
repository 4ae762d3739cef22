-- Bytes at an address that are, from the first to the last, spellings of instructions, one after another.
use Rattle.std.specs.Prelude.{◌≡◌, ℕ, ◌+◌, ◌≤◌, List, [], ◌∷◌, length, take, drop}
use Rattle.x86_decode.specs.Spelling.{Spells}
use Rattle.rw_funcs.specs.Points.{Point}

-- a first front of the bytes spells the first point's instruction at the address, the next front that of the next point at the
-- address behind it, and so on; nothing is left behind the last
abbrev pub Fills : List Point → ℕ → List ℕ → Type 0
Fills [] a bytes = bytes ≡ []
Fills (p ∷ ps) a bytes = (p.place ≡ a) × (p.len ≤ length bytes) × Spells p.insn a (take p.len bytes) × Fills ps (a + p.len) (drop p.len bytes)
