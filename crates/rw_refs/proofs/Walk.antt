-- The first fault of the points of code, and of those of several functions.
use Rattle.std.proofs.Common.{◌≡◌, ℕ, ◌+◌, ◌<◌, ◌≤◌, List, length, drop, get_or, Option, Some, None, refl, sym, ap, ◌∙◌}
use Rattle.std.specs.List.{flat_map}
use Rattle.std.specs.Option.{option_or, option_and_then}
use Rattle.rw_base.specs.declared.fault.Fault.{Fault}
use Rattle.rw_base.specs.Rules.{first_from, first_of, first}
use Rattle.x86_insn.specs.declared.instruction.Insn.{Insn}
use Rattle.x86_insn.specs.References.{reference_of}
use Rattle.x86_decode.specs.Reading.{decode_of}
use Rattle.rw_elf.specs.declared.symbol.Symbol.{Symbol}
use Rattle.rw_funcs.specs.Functions.{kept_functions}
use Rattle.rw_funcs.specs.Points.{points_of, file_points}
use Rattle.rw_funcs.proofs.Each.{each-next, ahead-next, ahead-end}
use Rattle.rw_funcs.proofs.Fuel.{points_in, points_next, points_stop}
use Rattle.rw_refs.specs.CodeReferences.{code_rules, faults_in, naming_fault, point_fault}

-- of the points of code from a place on
abbrev pub first_in : List ℕ → List ℕ → ℕ → ℕ → Option Fault
first_in bytes code start at = first_of (faults_in bytes (points_in code start at))

pub first-after : (bytes code : List ℕ) (start at : ℕ) (d : Insn ℕ × ℕ) → decode_of (start + at) (drop at code) ≡ Some d
    → first_in bytes code start at ≡ option_or (option_and_then (naming_fault bytes (start + at) d.0) (reference_of d.0)) (first_in bytes code start (at + d.1))
first-after bytes code start at d e =
    ap (λ ps. first_of (faults_in bytes ps)) (points_next code start at d e) ∙ each-next (point_fault bytes) (record { place = start + at; insn = d.0; len = d.1 }) (points_in code start (at + d.1))

pub first-at_end : (bytes code : List ℕ) (start at : ℕ) → decode_of (start + at) (drop at code) ≡ None → first_in bytes code start at ≡ None
unfolding first_from
first-at_end bytes code start at e =
    ap (λ ps. first_of (faults_in bytes ps)) (points_stop (length (drop at code)) (start + at) (drop at code) e)

-- of the functions of a list from a place on
abbrev pub first_from_function : List ℕ → List Symbol → ℕ → Option Fault
first_from_function bytes list i = first_of (faults_in bytes (flat_map (points_of bytes) (drop i list)))

pub function-after : (bytes : List ℕ) (list : List Symbol) (i : ℕ) (d : Symbol) → i < length list
    → first_from_function bytes list i ≡ option_or (first_of (faults_in bytes (points_of bytes (get_or list i d)))) (first_from_function bytes list (i + 1))
function-after bytes list i d within = ahead-next (point_fault bytes) (points_of bytes) list i d within

pub functions-end : (bytes : List ℕ) (list : List Symbol) (i : ℕ) → length list ≤ i → first_from_function bytes list i ≡ None
functions-end bytes list i past = ahead-end (point_fault bytes) (points_of bytes) list i past

or-none : (o : Option Fault) → option_or o None ≡ o
or-none None = refl
or-none (Some x) = refl

pub all-functions : (bytes : List ℕ) → first_from_function bytes (kept_functions bytes) 0 ≡ first (code_rules bytes)
unfolding code_rules file_points
all-functions bytes = sym (or-none (first_from_function bytes (kept_functions bytes) 0))
