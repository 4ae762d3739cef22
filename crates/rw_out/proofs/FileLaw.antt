-- The law: any file without a fault is simulated by its items, in every mode.
use Rattle.std.proofs.Common.{◌≡◌, ◌≢◌, ◌⊎◌, ℕ, ◌-◌, ◌^◌, ◌<◌, ◌≤◌, true, All, List, [], ◌∷◌, length, map, replicate, Option, Some, None, refl, sym, ap, subst, ◌∙◌, arith, length-append}
use Rattle.std.specs.Prelude.{Bool, slice_get, option_and_then, option_map}
use Rattle.std.specs.List.{cons_option, filter_map}
use Rattle.std.specs.Option.{option_map_or}
use Rattle.std.proofs.lemmas.List.{length-map}
use Rattle.std.proofs.lemmas.List.Elements.{All-nil, All-cons}
use Rattle.std.proofs.lemmas.Option.{slice_get_within}
use Rattle.asm_items.specs.Lines.{Items}
use Rattle.asm_items.specs.Layout.{Layout, section_bytes}
use Rattle.asm_items.specs.declared.item.Sym.{Sym}
use Rattle.rw_words.specs.declared.atom.Atom.{Atom}
use Rattle.rw_words.specs.declared.atom.Atom.TheVariants.{Diff}
use Rattle.rw_words.specs.declared.atom.Cell.{Cell}
use Rattle.rw_words.specs.Addresses.{Addresses, address_of}
use Rattle.rw_domain.specs.declared.place.Hole.{Hole}
use Rattle.rw_domain.specs.declared.place.Region.{Region}
use Rattle.rw_domain.specs.Placed.{Placed}
use Rattle.rw_domain.specs.Stands.{Both}
use Rattle.rw_domain.specs.RegionsLaidOut.{ByteStands, RegionsAreLaidOut}
use Rattle.rw_domain.specs.LaidOut.{AtomsAreLaidOut, KnownByteStands, WordStands}
use Rattle.rw_elf.specs.declared.section.Section.{Section}
use Rattle.rw_elf.specs.Places.{kept_around}
use Rattle.rw_elf.specs.Tables.{kept_sections}
use Rattle.rw_funcs.specs.Functions.{entry_of}
use Rattle.rw_machine.specs.declared.ending.End.{End}
use Rattle.rw_machine.specs.Step.{Machine}
use Rattle.rw_machine.specs.Stands.{MachineStands, Spare}
use Rattle.rw_machine.specs.Events.{Reply}
use Rattle.rw_machine.specs.Domains.{numbers}
use Rattle.rw_machine.specs.Program.{Program}
use Rattle.rw_reloc.specs.declared.slot.Slot.{Slot}
use Rattle.rw_reloc.specs.Slots.{copies_of}
use Rattle.rw_runs.specs.Correspond.{NumbersRun}
use Rattle.rw_runs.specs.RunStands.{NearWhile}
use Rattle.rw_code.specs.declared.point.FilePoint.{FilePoint}
use Rattle.rw_code.specs.declared.point.FilePoint.TheVariants.{At, Past}
use Rattle.rw_code.specs.Ground.{Ground, copied_region, ground_of, kept_region, hole_from, hole_in, holes_of}
use Rattle.rw_code.specs.Imports.{import_name}
use Rattle.rw_code.specs.Known.{has_address}
use Rattle.rw_code.specs.Start.{IsStart, Start, counters_number, numbers_placed, stack_number, words_placed, words_start}
use Rattle.rw_code.specs.File.{labels_of, symbolic}
use Rattle.rw_code.specs.Fits.{FitsFile}
use Rattle.rw_code.specs.Mirrors.{Alike, Mirrors, OriginalMirrors, SymbolicRun, no_cost}
use Rattle.rw_code.specs.Printed.{printed, start_of, text_extents, text_ground, PrintedBegins, IsNamed, IsLabelOf}
use Rattle.rw_code.proofs.KnownWords.{answers-known, rows-known, start-known, words-known}
use Rattle.rw_code.proofs.Mirrors.{begun, mirrors, original-mirrors}
use Rattle.rw_data.specs.Regions.{start_cells, start_contents}
use Rattle.rw_data.specs.FirstFault.{first_fault}
use Rattle.rw_data.proofs.Clean.{IsClean, each_clean}
use Rattle.rw_probe.specs.declared.form.Probe.{Probe}
use Rattle.rw_probe.specs.declared.leaders.Mode.{Mode}
use Rattle.rw_probe.specs.declared.leaders.Mode.TheVariants.{Nothing, Starts, Blocks}
use Rattle.rw_probe.specs.Forgetting.{counter_bytes}
use Rattle.rw_probe.specs.Leaders.{leaders_of}
use Rattle.rw_probe.specs.ProbedPrograms.{HasCounters}
use Rattle.rw_probe.specs.ProbedRuns.{ProbedRunStands, probe_cost}
use Rattle.rw_probe.specs.Probes.{step_count}
use Rattle.rw_probe.proofs.ProbedRuns.{probed-runs-stand}
use Rattle.rw_out.specs.Items.{Probes, items_of, items_with, no_probes, section_number}
use Rattle.rw_out.specs.Probed.{AreProbes, points_around, probes_of}
use Rattle.rw_out.specs.Simulates.{IsTextLayout, Simulates, SimulatesFrom, counts_of, is_there, names_of, probe_at, text_addresses}
use Rattle.rw_out.proofs.TextLines.{text_section}
use Rattle.rw_out.proofs.TextLaid.{text-laid}
use Rattle.rw_out.proofs.TextStart.{BeginsBeside, text-begins, text-begins-alone}
use Rattle.rw_out.proofs.TextContents.{section-rows}
use Rattle.rw_out.proofs.TextCounters.{counters-there}
use Rattle.rw_out.proofs.TextNear.{text-near}
use Rattle.rw_out.proofs.FileAnswers.{answers-fit, start-empty}
use Rattle.rw_out.proofs.FileFits.{file-fits}
use Rattle.rw_out.proofs.FileLabels.{code-lies, codes-lie-apart}
use Rattle.rw_out.proofs.FilePlaces.{its_functions, AtPoint, first-point, start-place}
use Rattle.rw_out.proofs.FilePrinted.{AtItem, counter, label-at}
use Rattle.rw_out.proofs.FileProbes.{are-probed, has-functions, probes-none, tests-point}
use Rattle.rw_out.proofs.FileStart.{starts-probed}
use Rattle.rw_out.proofs.FileTargets.{printed-stands, probed-stands}

abbrev pub file_ground : List ℕ → Ground
file_ground file = ground_of file (start_contents file)

-- the rows of sections stand for the bytes of their lines
abbrev pub RowsStand : List ℕ → Probes → Layout → Type 0
RowsStand file probes layout =
    (n : ℕ) → n < length (kept_sections file) → Both (ByteStands (text_addresses file layout)) (start_cells file (section_number file n)) (section_bytes (items_with file probes) layout (text_section file n))

-- the distances of tables fit 32 bits with their signs
abbrev pub AreShort : List ℕ → Layout → Type 0
AreShort file layout =
    (c r o : ℕ) → has_address (labels_of file (file_ground file)) (Diff c r o) ≡ true
    → (address_of (text_addresses file layout) (Diff c r o) < 2 ^ 31) ⊎ (2 ^ 64 - 2 ^ 31 ≤ address_of (text_addresses file layout) (Diff c r o))

first_point : (file : List ℕ) (probes : Probes) → IsClean file → AtPoint file probes (items_with file probes) (entry_of file) (start_of (items_with file probes))
first_point file probes clean =
    let found = start-place file probes clean in
    subst (λ a. AtPoint file probes (items_with file probes) a (start_of (items_with file probes))) found.2
    (first-point file probes clean (items_with file probes) found.0 found.1 (start_of (items_with file probes)) found.3 found.4)

-- ---- what a start takes of the file

-- the regions of the file have as many rows
same-count : (file : List ℕ) (file_ground : Ground) → FitsFile file file_ground → length file_ground.contents ≡ length file_ground.regions
same-count file file_ground fits =
    sym (length-map file_ground.contents length) ∙ ap length fits.sizes ∙ length-map file_ground.regions (λ (r : Region). r.size)

-- the bytes of a copy belong to a section
hole-below : (file : List ℕ) (c : Slot) (o : Option ℕ) (hole : Hole) → option_and_then (hole_in file c) o ≡ Some hole → hole.region < length (kept_sections file)
hole-below file c None hole e = cc
hole-below file c (Some k) hole e = by (slice_get (kept_sections file) k) refl e
  where
    by : (o : Option Section) → slice_get (kept_sections file) k ≡ o → option_map (λ s. hole_from c k s.addr) o ≡ Some hole → hole.region < length (kept_sections file)
    by None there g = cc
    by (Some s) there g =
        let low = slice_get_within (kept_sections file) k s there in
        let same : k ≡ hole.region = cc in omega (arith, low, same)

each-kept : {A B : Type 0} (f : A → Option B) (P : B → Type 0) → ((a : A) (b : B) → f a ≡ Some b → P b) → (xs : List A) → All P (filter_map f xs)
each-kept f P each [] = All-nil P
each-kept f P each (x ∷ xs) = by (each-kept f P each xs) (f x) refl
  where
    by : All P (filter_map f xs) → (o : Option _) → f x ≡ o → All P (cons_option o (filter_map f xs))
    by rest None e = rest
    by rest (Some b) e = All-cons P b (filter_map f xs) (each x b e) rest

pub holes-apart : (file : List ℕ) → All (λ hole. hole.region ≢ stack_number (file_ground file)) (holes_of file)
holes-apart file =
    each-kept (λ (c : Slot). option_and_then (hole_in file c) (kept_around file c.address)) (λ hole. hole.region ≢ stack_number (file_ground file)) (λ c hole e. away hole (hole-below file c (kept_around file c.address) hole e)) (copies_of file)
  where
    away : (hole : Hole) → hole.region < length (kept_sections file) → hole.region ≢ stack_number (file_ground file)
    away hole low same =
        let sections = length-map (kept_sections file) kept_region in
        let all = length-append (map kept_region (kept_sections file)) (map copied_region (copies_of file)) in
        omega (arith, low, same, sections, all)

-- ---- the text with some probes, at its layouts

module _ (file : List ℕ) (bytes : All (λ b. b < 256) file) (clean : IsClean file) where
  abbrev g : Ground
  g = file_ground file

  fits : FitsFile file (file_ground file)
  fits = file-fits file clean

  pub originals-mirror : OriginalMirrors file (file_ground file)
  originals-mirror = original-mirrors file (file_ground file) clean.elf (its_functions file clean) clean.references fits

  module _ (probes : Probes) (start : Start) (layout : Layout) (is : IsTextLayout file (items_with file probes) start layout) where
    abbrev l : Addresses
    l = text_addresses file layout

    abbrev known : Atom → Bool
    known = has_address (labels_of file (file_ground file))

    abbrev Near : FilePoint → ℕ → Type 0
    Near p q = AtItem file probes (items_with file probes) p q

    rows : RowsStand file probes layout
    rows n low = section-rows file probes clean bytes layout (text_extents (items_with file probes) layout start) (names_of file (items_with file probes)) is n low

    lies : AtomsAreLaidOut (text_addresses file layout) (has_address (labels_of file (file_ground file)))
    lies = record {
      moved = λ r o p h. refl;
      met = fits.met;
      code = code-lies file probes clean start layout is;
      codes_apart = codes-lie-apart file probes clean start layout is;
      near = text-near file probes clean bytes layout (text_extents (items_with file probes) layout start) (names_of file (items_with file probes)) is;
    }

    -- the regions of the file lie among those with which its printed program begins
    laid : RegionsAreLaidOut (text_addresses file layout) (words_placed (file_ground file) start) (numbers_placed (text_ground (items_with file probes) layout) start layout.region)
    laid = text-laid file probes clean layout rows start is

    -- the counters of a text at its start
    abbrev zeros : Spare ℕ
    zeros = Some (counters_number (file_ground file), counter_bytes (replicate probes.counters 0))

    begins : (machine : Machine Placed ℕ ℕ ℕ) → PrintedBegins (text_addresses file layout) (items_with file probes) layout start machine
        → BeginsBeside (text_addresses file layout) (file_ground file) start zeros (numbers_placed (text_ground (items_with file probes) layout) start layout.region) (start_of (items_with file probes)) machine
    begins machine h = text-begins file probes clean layout rows start machine h

    start-stands : (machine : Machine Placed ℕ ℕ ℕ) → PrintedBegins (text_addresses file layout) (items_with file probes) layout start machine
        → MachineStands (WordStands l known) (KnownByteStands l known) zeros (RegionsAreLaidOut l) Near (words_start (file_ground file) start) machine
    start-stands machine h =
        let b = begins machine h in
        let all = start-known l (labels_of file (file_ground file)) (file_ground file) start fits.atoms in
        record {
          registers = words-known l known (words_start (file_ground file) start).registers machine.registers all.0 b.registers;
          flags = b.flags;
          memory = record { bytes = rows-known l known (words_start (file_ground file) start).memory _ all.1 b.memory.bytes; kept = b.memory.kept };
          placed = subst (RegionsAreLaidOut l (words_placed (file_ground file) start)) (sym b.placed) laid;
          point = subst (Near (At (file_ground file).entry)) (sym b.point) (first_point file probes clean);
        }

  -- ---- with probes at the leaders of a mode

  module _ (mode : Mode) (forms : List Probe) (are : AreProbes file mode forms) (start : Start) (layout : Layout) (is_start : IsStart start) (is : IsTextLayout file (items_with file (probes_of file mode forms)) start layout) where
    abbrev its_probes : Probes
    its_probes = probes_of file mode forms

    abbrev its_items : Items
    its_items = items_with file its_probes

    abbrev addresses : Addresses
    addresses = text_addresses file layout

    abbrev has : Atom → Bool
    has = has_address (labels_of file (file_ground file))

    abbrev Named : ℕ → ℕ → Type 0
    Named i j = IsNamed (import_name file) (names_of file its_items) i j

    abbrev program : Program ℕ (Sym (List ℕ)) ℕ
    program = printed its_items (names_of file its_items) layout

    abbrev spare : List (Reply (List Cell) Cell) → ℕ → Spare ℕ
    spare answers n = Some (counters_number (file_ground file), counter_bytes (counts_of file (file_ground file) mode start answers n))

    abbrev Stands : (FilePoint → ℕ → Type 0) → Spare ℕ → SymbolicRun → NumbersRun ℕ → Type 0
    Stands Label kept run other = ProbedRunStands (WordStands addresses has) (KnownByteStands addresses has) kept Named (RegionsAreLaidOut addresses) Label (points_around file) At run other

    -- a place of a point is its label
    at-label : (z : Option End) (p : FilePoint) (q : ℕ) → NearWhile z (AtItem file its_probes its_items) p q → NearWhile z (IsLabelOf its_items) p q
    at-label None p q h = label-at file its_probes its_items p q h
    at-label (Some ending) p q h = tt

    labelled : (kept : Spare ℕ) (run : SymbolicRun) (other : NumbersRun ℕ) → Stands (AtItem file its_probes its_items) kept run other → Stands (IsLabelOf its_items) kept run other
    labelled kept run other h = record { machine = h.machine; point = at-label run.ending run.machine.point other.machine.point h.point; events = h.events; ending = h.ending }

    pub probed-mirrors : Mirrors file (file_ground file) start (probe_cost (probe_at its_probes)) program addresses (PrintedBegins addresses its_items layout start) (λ answers n. Stands (IsLabelOf its_items) (spare answers n))
    probed-mirrors answers n run lawful small is_made machine replies h stand =
        let empty = start-empty (file_ground file) start refl in
        let b = begins its_probes start layout is machine h in
        let counters = counters-there file its_probes clean layout (rows its_probes start layout is) start is in
        let found =
        probed-runs-stand addresses has Named (AtItem file its_probes its_items) (symbolic file) program counter (probe_at its_probes) (points_around file) At is_there (leaders_of file mode) (counters_number (file_ground file)) (words_start (file_ground file) start) machine answers replies
        (lies its_probes start layout is) refl (probed-stands file its_probes clean (file_ground file) start layout is) (has-functions file bytes clean) (are-probed file clean mode forms are) tests-point
        (starts-probed (file_ground file) start is_start (same-count file (file_ground file) fits) (holes-apart file))
        (subst (HasCounters program counter (counters_number (file_ground file)) (length (leaders_of file mode))) (sym b.placed) counters)
        empty (start-stands its_probes start layout is machine h)
        (answers-fit (labels_of file (file_ground file)) (symbolic file) (words_start (file_ground file) start) (counters_number (file_ground file)) answers empty lawful)
        (answers-known addresses (labels_of file (file_ground file)) None (RegionsAreLaidOut addresses) numbers (symbolic file) (words_start (file_ground file) start) machine.placed answers replies lawful stand) n run small is_made in
        (found.0, found.1, labelled (spare answers n) run found.0 found.2)

  -- ---- without probes

  module _ (start : Start) (layout : Layout) (is : IsTextLayout file (items_of file) start layout) where
    pub alone-mirrors : Mirrors file (file_ground file) start no_cost (printed (items_of file) (names_of file (items_of file)) layout) (text_addresses file layout) (PrintedBegins (text_addresses file layout) (items_of file) layout start)
        (λ answers n. Alike (text_addresses file layout) (labels_of file (file_ground file)) None (IsNamed (import_name file) (names_of file (items_of file))) (IsLabelOf (items_of file)))
    alone-mirrors =
        let items = items_of file in
        let g = file_ground file in
        let l = text_addresses file layout in
        let Near = AtItem file no_probes items in
        let atoms = lies no_probes start layout is in
        let Named : ℕ → ℕ → Type 0 = IsNamed (import_name file) (names_of file items) in
        mirrors l file g Named start atoms Near (IsLabelOf items) (label-at file no_probes items) (printed items (names_of file items) layout) (PrintedBegins l items layout start)
        (λ machine h. begun l file g Named start atoms Near (start_of items) (numbers_placed (text_ground items layout) start layout.region) machine
        fits.atoms (laid no_probes start layout is) (first_point file no_probes clean) (text-begins-alone file no_probes clean layout (rows no_probes start layout is) start refl machine h))
        (printed-stands file clean g start layout is)

  -- no probe costs nothing
  cost-none : (p : FilePoint) → option_map_or (λ f. step_count f.1) (probe_at no_probes p) 0 ≡ 0
  cost-none (At a) = refl
  cost-none (Past s) = refl

  no-cost : ◌≡◌ {A = SymbolicRun → ℕ} no_cost (probe_cost (probe_at no_probes))
  no-cost = λ i run. sym (cost-none run.machine.point) i

  -- what the text with some probes owes where they are none
  abbrev Alone : Probes → Type 0
  Alone probes =
      (start : Start) (layout : Layout) → IsStart start → IsTextLayout file (items_with file probes) start layout
      → Mirrors file (file_ground file) start (probe_cost (probe_at probes)) (printed (items_with file probes) (names_of file (items_with file probes)) layout) (text_addresses file layout) (PrintedBegins (text_addresses file layout) (items_with file probes) layout start)
      (λ answers n. Alike (text_addresses file layout) (labels_of file (file_ground file)) None (IsNamed (import_name file) (names_of file (items_with file probes))) (IsLabelOf (items_with file probes)))

  alone : Alone no_probes
  alone start layout is_start is =
      subst (λ cost. Mirrors file (file_ground file) start cost (printed (items_of file) (names_of file (items_of file)) layout) (text_addresses file layout) (PrintedBegins (text_addresses file layout) (items_of file) layout start)
      (λ answers n. Alike (text_addresses file layout) (labels_of file (file_ground file)) None (IsNamed (import_name file) (names_of file (items_of file))) (IsLabelOf (items_of file)))) no-cost (alone-mirrors start layout is)

  -- ---- the whole

  pub simulates-from : (mode : Mode) (forms : List Probe) → AreProbes file mode forms → SimulatesFrom (file_ground file) file mode forms (items_with file (probes_of file mode forms))
  simulates-from Nothing forms are = record { original = originals-mirror; printed = subst Alone (sym (probes-none file forms)) alone }
  simulates-from Starts forms are = record { original = originals-mirror; printed = probed-mirrors Starts forms are }
  simulates-from Blocks forms are = record { original = originals-mirror; printed = probed-mirrors Blocks forms are }

pub simulates-file : (file : List ℕ) (mode : Mode) (forms : List Probe) → first_fault file ≡ None → All (λ b. b < 256) file → AreProbes file mode forms → Simulates file mode (items_with file (probes_of file mode forms))
simulates-file file mode forms no_fault bytes are = record { forms = forms; are_probes = are; simulates = simulates-from file bytes (each_clean file no_fault) mode forms are }

-- ---- for worked examples

pub originals-file : (file : List ℕ) → first_fault file ≡ None → All (λ b. b < 256) file → OriginalMirrors file (file_ground file)
originals-file file no_fault bytes = originals-mirror file bytes (each_clean file no_fault)

pub plain-mirrors : (file : List ℕ) → first_fault file ≡ None → All (λ b. b < 256) file → (start : Start) (layout : Layout) → IsStart start → IsTextLayout file (items_of file) start layout
    → Mirrors file (file_ground file) start no_cost (printed (items_of file) (names_of file (items_of file)) layout) (text_addresses file layout) (PrintedBegins (text_addresses file layout) (items_of file) layout start)
    (λ answers n. Alike (text_addresses file layout) (labels_of file (file_ground file)) None (IsNamed (import_name file) (names_of file (items_of file))) (IsLabelOf (items_of file)))
plain-mirrors file no_fault bytes start layout is_start is = alone-mirrors file bytes (each_clean file no_fault) start layout is

pub text-regions : (file : List ℕ) (probes : Probes) → first_fault file ≡ None → All (λ b. b < 256) file → (start : Start) (layout : Layout) → IsTextLayout file (items_with file probes) start layout
    → RegionsAreLaidOut (text_addresses file layout) (words_placed (file_ground file) start) (numbers_placed (text_ground (items_with file probes) layout) start layout.region)
text-regions file probes no_fault bytes start layout is = laid file bytes (each_clean file no_fault) probes start layout is
