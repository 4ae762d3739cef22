-- The list of the leaders of a file.
use Rattle.std.specs.Prelude.{◌≡◌, ℕ, ◌+◌, List, [], ◌∷◌, ◌++◌, codes, decimal, option_and_then, slice_get}
use Rattle.std.specs.Option.{option_map_or}
use Rattle.rw_base.specs.declared.width.Width.TheVariants.{Q}
use Rattle.rw_elf.specs.Name.{name_bytes}
use Rattle.rw_funcs.specs.Functions.{function_of, functions_of}
use Rattle.rw_probe.specs.declared.form.Probe.{Probe}
use Rattle.rw_probe.specs.declared.form.Probe.TheVariants.{Inc, Dead, Spill}
use Rattle.rw_probe.specs.declared.leaders.Mode.TheVariants.{Blocks}
use Rattle.rw_probe.specs.Leaders.{leaders_of}
use Rattle.asm_print.specs.Line.{hex}
use Rattle.asm_print.specs.Words.{low_name}
use Rattle.rw_out.specs.Probed.{AreProbes}

-- inc, the name of the register that it goes through, or spill
unfoldable pub probe_word : Probe → List ℕ
probe_word Inc = codes "inc"
probe_word (Dead r) = low_name Q r
probe_word Spill = codes "spill"

-- the name of the function whose range has an address
unfoldable pub function_name : List ℕ → ℕ → List ℕ
function_name file a =
    option_map_or (λ f. name_bytes file f.name) (option_and_then (slice_get (functions_of file)) (function_of file a)) []

-- the line of a leader: its number, its address in hexadecimal, the name of its function and its probe, with tabs between
unfoldable pub leader_line : ℕ → ℕ → List ℕ → Probe → List ℕ
leader_line number a name form =
    decimal number ++ codes "\t" ++ hex a ++ codes "\t" ++ name ++ codes "\t" ++ probe_word form ++ codes "\n"

-- the lines of some leaders and their probes, of which the first has a number
abbrev pub lines_from : List ℕ → ℕ → List ℕ → List Probe → List ℕ
lines_from file number [] forms = []
lines_from file number (a ∷ leaders) [] = []
lines_from file number (a ∷ leaders) (form ∷ forms) = leader_line number a (function_name file a) form ++ lines_from file (number + 1) leaders forms

-- The bytes are the lines of all leaders of mode blocks, by ascending address, counted from 0.
pub record IsListOf (file text : List ℕ) : Type 0 where
  pub forms : List Probe
  pub are_probes : AreProbes file Blocks forms
  pub is_text : text ≡ lines_from file 0 (leaders_of file Blocks) forms
