-- The first words are written one part after another into a machine that has the first contents of a file.
use Rattle.std.proofs.Common.{◌≡◌, ◌≤◌, ◌<◌, ◌-◌, ◌+◌, ℕ, Bool, true, false, cond, List, [], ◌∷◌, ◌++◌, length, map, drop, None, replicate, refl, sym, ◌∙◌, ap, subst, append_assoc, arith, String}
use Rattle.std.specs.Prelude.{string_bytes}
use Rattle.std.specs.declared.alloc.Global.{Global}
use Rattle.rw_words.specs.declared.atom.Cell.{Cell}
use Rattle.rw_words.specs.declared.atom.Cell.TheVariants.{Num}
use Rattle.rw_domain.specs.declared.place.Place.{Place}
use Rattle.rw_domain.specs.declared.place.Region.{Region}
use Rattle.rw_domain.specs.declared.place.Hole.{Hole}
use Rattle.rw_domain.specs.Operators.{IsInside}
use Rattle.rw_domain.specs.Placed.{Placed}
use Rattle.rw_domain.specs.Symbols.{symbols_over}
use Rattle.rw_elf.specs.Tables.{kept_sections}
use Rattle.rw_funcs.specs.Functions.{entry_of, is_hosted}
use Rattle.rw_machine.specs.Running.{written_at}
use Rattle.rw_machine.specs.State.{first_machine}
use Rattle.rw_machine.specs.Step.{Machine}
use Rattle.rw_machine.specs.Views.{HasRange}
use Rattle.rw_code.specs.declared.point.FilePoint.{FilePoint}
use Rattle.rw_code.specs.declared.point.FilePoint.TheVariants.{At}
use Rattle.rw_code.specs.Ground.{Ground, holes_of}
use Rattle.rw_code.specs.Start.{Start, IsStart, arguments_row, canary_number, first_offset, first_rows, hosted_offset, regions_of, texts_offset, words_placed, words_size}
use Rattle.rw_data.specs.Regions.{start_cells}
use Rattle.rw_sim.specs.Start.{blank, file_ground, loaded_rows, stack_offset, stack_words, start_of, start_with}
use Rattle.rw_sim.proofs.FileRows.{sections-written}
use Rattle.rw_sim.proofs.StartRows.{stack_there, arguments_there, with-stack, with-arguments, with-canary, stack-range, arguments-range, canary-range, stack-inside, arguments-inside, canary-inside}

-- ---- the start of a simulated program

pub stack-is : (words : List (List ℕ)) → (start_of words).stack ≡ 1048576
unfolding start_of
stack-is words = refl

pub canary-is : (words : List (List ℕ)) → (start_of words).canary ≡ 0 ∷ 1 ∷ 2 ∷ 3 ∷ 4 ∷ 5 ∷ 6 ∷ 7 ∷ []
unfolding start_of
canary-is words = refl

module _ (file : List ℕ) (args : List (String Global)) where
  pub hosted-end : 1048568 ≡ hosted_offset (start_with args)
  hosted-end = ap (λ n. n - 8) (sym (stack-is (map string_bytes args)))

  pub offset-hosted : is_hosted file ≡ true → 1048568 ≡ stack_offset (file_ground file) (start_with args)
  offset-hosted hosted = hosted-end ∙ ap (λ t. cond t (hosted_offset (start_with args)) (first_offset (start_with args))) (sym hosted)

  pub offset-own : is_hosted file ≡ false → first_offset (start_with args) ≡ stack_offset (file_ground file) (start_with args)
  offset-own own = ap (λ t. cond t (hosted_offset (start_with args)) (first_offset (start_with args))) (sym own)

-- ---- all regions

four-behind : (regions : List Region) (a b c d : Region) → regions ++ a ∷ [] ++ b ∷ [] ++ c ∷ [] ++ d ∷ [] ≡ regions ++ (a ∷ b ∷ c ∷ d ∷ [])
four-behind regions a b c d =
    ap (λ rs. (rs ++ c ∷ []) ++ d ∷ []) (append_assoc regions (a ∷ []) (b ∷ []))
    ∙ ap (λ rs. rs ++ d ∷ []) (append_assoc regions (a ∷ b ∷ []) (c ∷ []))
    ∙ append_assoc regions (a ∷ b ∷ c ∷ []) (d ∷ [])

abbrev pub counters_region : Region
counters_region = record { size = 0; align = 8; writable = true; zero = true }

abbrev pub stack_region : ℕ → Region
stack_region size = record { size = size; align = 4096; writable = true; zero = false }

abbrev pub arguments_region : ℕ → Region
arguments_region size = record { size = size; align = 16; writable = true; zero = false }

abbrev pub canary_region : Region
canary_region = record { size = 8; align = 8; writable = false; zero = false }

pub regions-pushed : (file : List ℕ) (start : Start) (r1 r2 r3 r4 r5 : List Region) (stack arguments : ℕ) → stack ≡ start.stack → arguments ≡ texts_offset start + words_size start → r1 ≡ (file_ground file).regions
    → r2 ≡ r1 ++ counters_region ∷ [] → r3 ≡ r2 ++ stack_region stack ∷ [] → r4 ≡ r3 ++ arguments_region arguments ∷ [] → r5 ≡ r4 ++ canary_region ∷ [] → r5 ≡ regions_of (file_ground file) start
regions-pushed file start r1 r2 r3 r4 r5 stack arguments size room e1 e2 e3 e4 e5 =
    e5
    ∙ ap (λ rs. rs ++ canary_region ∷ []) (e4 ∙ ap (λ rs. rs ++ arguments_region arguments ∷ []) (e3 ∙ ap (λ rs. rs ++ stack_region stack ∷ []) (e2 ∙ ap (λ rs. rs ++ counters_region ∷ []) e1)))
    ∙ four-behind (file_ground file).regions counters_region (stack_region stack) (arguments_region arguments) canary_region
    ∙ ap (λ n. (file_ground file).regions ++ (counters_region ∷ stack_region n ∷ arguments_region arguments ∷ canary_region ∷ [])) size
    ∙ ap (λ n. (file_ground file).regions ++ (counters_region ∷ stack_region start.stack ∷ arguments_region n ∷ canary_region ∷ [])) room

-- ---- one part after another

abbrev pub SymbolMachine : Type 0
SymbolMachine = Machine Placed (List Cell) Cell FilePoint

abbrev pub written : Place → List Cell → SymbolMachine → SymbolMachine
written p cells m = record m { memory = written_at m.memory p cells }

abbrev pub with_rows : SymbolMachine → List (List Cell) → SymbolMachine
with_rows m rows = record m { memory = rows }

-- the machine before anything is written
pub blank-is : (file : List ℕ) (start : Start) (m : SymbolMachine) (p : Placed) (regions : List Region) (holes : List Hole) (canary entry : ℕ) → m ≡ first_machine (symbols_over p) p (At entry)
    → p ≡ record { regions = regions; bases = None; holes = holes; canary = canary } → regions ≡ regions_of (file_ground file) start → holes ≡ holes_of file → canary ≡ canary_number (file_ground file) → entry ≡ entry_of file
    → m ≡ blank (file_ground file) start
blank-is file start m p regions holes canary entry made placed_is regions_are holes_are canary_is entry_is =
    made
    ∙ ap (λ q. machine_at q entry) (placed_is ∙ ap (λ rs. placed_at rs holes canary) regions_are ∙ ap (λ hs. placed_at (regions_of (file_ground file) start) hs canary) holes_are ∙ ap (placed_at (regions_of (file_ground file) start) (holes_of file)) canary_is)
    ∙ ap (machine_at (words_placed (file_ground file) start)) entry_is
  where
    machine_at : Placed → ℕ → SymbolMachine
    machine_at q e = first_machine (symbols_over q) q (At e)

    placed_at : List Region → List Hole → ℕ → Placed
    placed_at rs hs n = record { regions = rs; bases = None; holes = hs; canary = n }

-- and with the first contents of the sections
pub sections-put : (file : List ℕ) (start : Start) (m m' : SymbolMachine) → m ≡ blank (file_ground file) start
    → m' ≡ with_rows m (map (start_cells file) (kept_sections file) ++ drop (length (kept_sections file)) m.memory) → m' ≡ with_rows (blank (file_ground file) start) (loaded_rows (file_ground file) start)
sections-put file start m m' e put =
    put ∙ ap loaded e ∙ ap (with_rows (blank (file_ground file) start)) (sections-written file start)
  where
    loaded : SymbolMachine → SymbolMachine
    loaded z = with_rows z (map (start_cells file) (kept_sections file) ++ drop (length (kept_sections file)) z.memory)

module _ (file_ground : Ground) (start : Start) (is : IsStart start) (n : ℕ) (contents : length file_ground.contents ≡ n) (regions : length file_ground.regions ≡ n) where
  abbrev pub with_memory : List (List Cell) → SymbolMachine
  with_memory rows = record (blank file_ground start) { memory = rows }

  pub inside-stack : (m : SymbolMachine) (o : ℕ) (cells : List Cell) → m ≡ with_memory (loaded_rows file_ground start) → o ≡ stack_offset file_ground start → cells ≡ stack_words file_ground start
      → IsInside m.placed.regions (record { region = n + 1; offset = o }) (length cells)
  inside-stack m o cells e at row =
      subst (λ z. IsInside z.placed.regions (record { region = n + 1; offset = o }) (length cells)) (sym e)
      (subst (λ p. IsInside (regions_of file_ground start) (record { region = n + 1; offset = p }) (length cells)) (sym at)
      (subst (λ ws. IsInside (regions_of file_ground start) (record { region = n + 1; offset = stack_offset file_ground start }) (length ws)) (sym row) (stack-inside file_ground start is n regions)))

  pub range-stack : (m : SymbolMachine) (o : ℕ) (cells : List Cell) → m ≡ with_memory (loaded_rows file_ground start) → o ≡ stack_offset file_ground start → cells ≡ stack_words file_ground start
      → HasRange m.memory (record { region = n + 1; offset = o }) (length cells)
  range-stack m o cells e at row =
      subst (λ z. HasRange z.memory (record { region = n + 1; offset = o }) (length cells)) (sym e)
      (subst (λ p. HasRange (loaded_rows file_ground start) (record { region = n + 1; offset = p }) (length cells)) (sym at)
      (subst (λ ws. HasRange (loaded_rows file_ground start) (record { region = n + 1; offset = stack_offset file_ground start }) (length ws)) (sym row) (stack-range file_ground start is n contents)))

  pub put-stack : (m m' : SymbolMachine) (o : ℕ) (cells : List Cell) → m ≡ with_memory (loaded_rows file_ground start) → o ≡ stack_offset file_ground start → cells ≡ stack_words file_ground start
      → m' ≡ record m { memory = written_at m.memory (record { region = n + 1; offset = o }) cells } → m' ≡ with_memory (stack_there file_ground start is n contents)
  put-stack m m' o cells e at row put =
      put
      ∙ ap (written (record { region = n + 1; offset = o }) cells) e
      ∙ ap (λ p. with_memory (written_at (loaded_rows file_ground start) (record { region = n + 1; offset = p }) cells)) at
      ∙ ap (λ ws. with_memory (written_at (loaded_rows file_ground start) (record { region = n + 1; offset = stack_offset file_ground start }) ws)) row
      ∙ ap with_memory (with-stack file_ground start is n contents)

  pub inside-arguments : (m : SymbolMachine) (cells : List Cell) → m ≡ with_memory (stack_there file_ground start is n contents) → cells ≡ arguments_row file_ground start → IsInside m.placed.regions (record { region = n + 2; offset = 0 }) (length cells)
  inside-arguments m cells e row =
      subst (λ z. IsInside z.placed.regions (record { region = n + 2; offset = 0 }) (length cells)) (sym e)
      (subst (λ ws. IsInside (regions_of file_ground start) (record { region = n + 2; offset = 0 }) (length ws)) (sym row) (arguments-inside file_ground start is n regions))

  pub range-arguments : (m : SymbolMachine) (cells : List Cell) → m ≡ with_memory (stack_there file_ground start is n contents) → cells ≡ arguments_row file_ground start → HasRange m.memory (record { region = n + 2; offset = 0 }) (length cells)
  range-arguments m cells e row =
      subst (λ z. HasRange z.memory (record { region = n + 2; offset = 0 }) (length cells)) (sym e)
      (subst (λ ws. HasRange (stack_there file_ground start is n contents) (record { region = n + 2; offset = 0 }) (length ws)) (sym row) (arguments-range file_ground start is n contents))

  pub put-arguments : (m m' : SymbolMachine) (cells : List Cell) → m ≡ with_memory (stack_there file_ground start is n contents) → cells ≡ arguments_row file_ground start
      → m' ≡ record m { memory = written_at m.memory (record { region = n + 2; offset = 0 }) cells } → m' ≡ with_memory (arguments_there file_ground start is n contents)
  put-arguments m m' cells e row put =
      put
      ∙ ap (written (record { region = n + 2; offset = 0 }) cells) e
      ∙ ap (λ ws. with_memory (written_at (stack_there file_ground start is n contents) (record { region = n + 2; offset = 0 }) ws)) row
      ∙ ap with_memory (with-arguments file_ground start is n contents)

  pub inside-canary : (m : SymbolMachine) (cells : List Cell) → m ≡ with_memory (arguments_there file_ground start is n contents) → cells ≡ map Num start.canary → IsInside m.placed.regions (record { region = n + 3; offset = 0 }) (length cells)
  inside-canary m cells e row =
      subst (λ z. IsInside z.placed.regions (record { region = n + 3; offset = 0 }) (length cells)) (sym e)
      (subst (λ ws. IsInside (regions_of file_ground start) (record { region = n + 3; offset = 0 }) (length ws)) (sym row) (canary-inside file_ground start is n regions))

  pub range-canary : (m : SymbolMachine) (cells : List Cell) → m ≡ with_memory (arguments_there file_ground start is n contents) → cells ≡ map Num start.canary → HasRange m.memory (record { region = n + 3; offset = 0 }) (length cells)
  range-canary m cells e row =
      subst (λ z. HasRange z.memory (record { region = n + 3; offset = 0 }) (length cells)) (sym e)
      (subst (λ ws. HasRange (arguments_there file_ground start is n contents) (record { region = n + 3; offset = 0 }) (length ws)) (sym row) (canary-range file_ground start is n contents))

  pub put-canary : (m m' : SymbolMachine) (cells : List Cell) → m ≡ with_memory (arguments_there file_ground start is n contents) → cells ≡ map Num start.canary
      → m' ≡ record m { memory = written_at m.memory (record { region = n + 3; offset = 0 }) cells } → m' ≡ with_memory (first_rows file_ground start)
  put-canary m m' cells e row put =
      put
      ∙ ap (written (record { region = n + 3; offset = 0 }) cells) e
      ∙ ap (λ ws. with_memory (written_at (arguments_there file_ground start is n contents) (record { region = n + 3; offset = 0 }) ws)) row
      ∙ ap with_memory (with-canary file_ground start is n contents)
