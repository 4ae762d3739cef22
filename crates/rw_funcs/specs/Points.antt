-- The points of a function: the addresses at which its instructions start.
use Rattle.std.specs.Prelude.{ℕ, zero, suc, ◌+◌, List, [], ◌∷◌, length, drop, map, flat_map, Bool, ◌==◌, Option, Some, None, option_map, if◌then◌else◌}
use Rattle.std.specs.List.{list_any}
use Rattle.rw_base.specs.declared.fault.Fault.TheVariants.{BadInstruction}
use Rattle.rw_base.specs.Rules.{Rule, each_of}
use Rattle.x86_insn.specs.declared.instruction.Insn.{Insn}
use Rattle.x86_decode.specs.Reading.{decode_of}
use Rattle.rw_elf.specs.declared.symbol.Symbol.{Symbol}
use Rattle.rw_funcs.specs.Functions.{kept_functions, code_of_symbol}

-- an instruction with its address and its length
pub record Point : Type 0 where
  pub place : ℕ
  pub insn : Insn ℕ
  pub len : ℕ

-- the instructions that bytes at an address spell one after another, at most k
abbrev pub points_from : ℕ → ℕ → List ℕ → Option (Insn ℕ × ℕ) → (ℕ → List ℕ → List Point) → List Point
points_from k a bytes None next = []
points_from k a bytes (Some d) next = record { place = a; insn = d.0; len = d.1 } ∷ next (a + d.1) (drop d.1 bytes)

abbrev pub points : ℕ → ℕ → List ℕ → List Point
points zero a bytes = []
points (suc k) a bytes = points_from k a bytes (decode_of a bytes) (points k)

-- the first address at which they spell none
abbrev pub bad_from : (ℕ → List ℕ → Option ℕ) → ℕ → List ℕ → Option (Insn ℕ × ℕ) → Option ℕ
bad_from next a [] o = None
bad_from next a (b ∷ bs) None = Some a
bad_from next a (b ∷ bs) (Some d) = next (a + d.1) (drop d.1 (b ∷ bs))

abbrev pub first_bad : ℕ → ℕ → List ℕ → Option ℕ
first_bad zero a bytes = None
first_bad (suc k) a bytes = bad_from (first_bad k) a bytes (decode_of a bytes)

-- a number of a list
abbrev pub is_one_of : List ℕ → ℕ → Bool
is_one_of numbers n = list_any (λ m. m == n) numbers

-- the addresses of points, and whether an address is one of them
abbrev pub places_of : List Point → List ℕ
places_of ps = map (λ p. p.place) ps

abbrev pub is_point : List Point → ℕ → Bool
is_point ps a = is_one_of (places_of ps) a

-- the point at an address, and its instruction with its length
abbrev pub point_at : List Point → ℕ → Option Point
point_at [] a = None
point_at (p ∷ ps) a = if p.place == a then Some p else point_at ps a

abbrev pub insn_at : List Point → ℕ → Option (Insn ℕ × ℕ)
insn_at ps a = option_map (λ p. (p.insn, p.len)) (point_at ps a)

-- the points of a function, which are those of its own bytes, and those of all functions of a file, one after another
unfoldable pub points_of : List ℕ → Symbol → List Point
points_of bytes f = points (length (code_of_symbol bytes f)) f.value (code_of_symbol bytes f)

unfoldable pub file_points : List ℕ → List Point
file_points bytes = flat_map (points_of bytes) (kept_functions bytes)

-- the first address of a function at which its bytes spell no instruction
unfoldable pub bad_address : List ℕ → Symbol → Option ℕ
bad_address bytes f = first_bad (length (code_of_symbol bytes f)) f.value (code_of_symbol bytes f)

-- the rule of the phase instructions: instructions fill each function
unfoldable pub point_rules : List ℕ → List Rule
point_rules bytes = each_of (kept_functions bytes) (λ k f. option_map BadInstruction (bad_address bytes f)) ∷ []
