-- A program for which the symbolic one stands mirrors it, and the original does.
use Rattle.std.proofs.Common.{◌≡◌, ℕ, ◌+◌, ◌<◌, List, length, All, Option, Some, None, true, refl, sym, subst, arith, length-append}
use Rattle.std.specs.Prelude.{slice_index}
use Rattle.std.proofs.lemmas.List.FromFn.{get_or-map-range_with_len}
use Rattle.rw_base.specs.Rules.{first}
use Rattle.rw_words.specs.Addresses.{Addresses}
use Rattle.rw_domain.specs.Placed.{Placed}
use Rattle.rw_domain.specs.RegionsLaidOut.{ArePlaced, RegionsAreLaidOut}
use Rattle.rw_domain.specs.LaidOut.{AtomsAreLaidOut, KnownCells, WordStands, KnownByteStands}
use Rattle.rw_domain.specs.NumberPlaces.{bases_of}
use Rattle.rw_domain.proofs.RegionsLaidOut.{same-laid}
use Rattle.rw_elf.specs.Tables.{elf_rules}
use Rattle.rw_machine.specs.declared.ending.End.{End}
use Rattle.rw_machine.specs.Program.{Program}
use Rattle.rw_machine.specs.Step.{Machine}
use Rattle.rw_machine.specs.Stands.{MachineStands, ProgramsStand}
use Rattle.rw_machine.specs.Domains.{symbols, numbers}
use Rattle.rw_runs.specs.RunStands.{NearWhile}
use Rattle.rw_runs.specs.Correspond.{NumbersRun}
use Rattle.rw_runs.proofs.RunLaw.{runs-stand}
use Rattle.rw_refs.specs.CodeReferences.{code_rules}
use Rattle.rw_code.specs.declared.point.FilePoint.{FilePoint}
use Rattle.rw_code.specs.declared.point.FilePoint.TheVariants.{At}
use Rattle.rw_code.specs.Ground.{Ground}
use Rattle.rw_code.specs.Known.{has_address}
use Rattle.rw_code.specs.Start.{Start, regions_of, canary_number, start_regions, words_placed, numbers_placed, words_start}
use Rattle.rw_code.specs.Imports.{have_one_name}
use Rattle.rw_code.specs.File.{labels_of, symbolic}
use Rattle.rw_code.specs.Fits.{FitsFile}
use Rattle.rw_code.specs.Placing.{placing_addresses, IsPlaceOf}
use Rattle.rw_code.specs.Original.{original}
use Rattle.rw_code.specs.Mirrors.{SymbolicRun, Begins, Alike, Mirrors, no_cost, OriginalMirrors}
use Rattle.rw_code.proofs.Functions.{AreFunctions}
use Rattle.rw_code.proofs.Original.{placing-lies}
use Rattle.rw_code.proofs.OriginalTargets.{original-stands}
use Rattle.rw_code.proofs.References.{references-stand}
use Rattle.rw_code.proofs.KnownWords.{words-known, rows-known, start-known, answers-known}
use Rattle.rw_code.proofs.DomainsStand.{domains-stand}

-- ---- the regions at a start

pub bases-are : (file_ground : Ground) (start : Start) (base : ℕ → ℕ) (r : ℕ) → r < length (regions_of file_ground start) → slice_index (bases_of (numbers_placed file_ground start base).bases) r ≡ base r
bases-are file_ground start base r h = get_or-map-range_with_len base 0 (length (regions_of file_ground start)) r r 0 h (omega arith)

pub are-laid : (l : Addresses) (file_ground : Ground) (start : Start) → ArePlaced (regions_of file_ground start) file_ground.holes l.region → RegionsAreLaidOut l (words_placed file_ground start) (numbers_placed file_ground start l.region)
are-laid l file_ground start h =
    let size = length-append file_ground.regions (start_regions file_ground start) in
    same-laid l (regions_of file_ground start) file_ground.holes (bases_of (numbers_placed file_ground start l.region).bases) (canary_number file_ground) h (bases-are file_ground start l.region) (omega (arith, size))

-- ---- points that are near in one way are so in another

near-while : {P : Type 0} (Near Far : FilePoint → P → Type 0) → ((p : FilePoint) (q : P) → Near p q → Far p q) → (z : Option End) (p : FilePoint) (q : P) → NearWhile z Near p q → NearWhile z Far p q
near-while Near Far f None p q h = f p q h
near-while Near Far f (Some ending) p q h = tt

module _ (l : Addresses) (file : List ℕ) (file_ground : Ground) (Named : ℕ → ℕ → Type 0) where
  pub nearer : {P : Type 0} (Near Far : FilePoint → P → Type 0) → ((p : FilePoint) (q : P) → Near p q → Far p q) → (r : SymbolicRun) (q : NumbersRun P) → Alike l (labels_of file file_ground) None Named Near r q → Alike l (labels_of file file_ground) None Named Far r q
  nearer Near Far f r q h = record {
    machine = record {
      registers = h.machine.registers;
      flags = h.machine.flags;
      memory = h.machine.memory;
      placed = h.machine.placed;
      point = near-while Near Far f r.ending r.machine.point q.machine.point h.machine.point;
    };
    events = h.events;
    ending = h.ending;
  }

  -- ---- a program for which the symbolic one stands

  module _ (start : Start) (atoms : AtomsAreLaidOut l (has_address (labels_of file file_ground))) where
    -- the machines at their starts
    abbrev pub StartStands : {P : Type 0} → (FilePoint → P → Type 0) → Machine Placed ℕ ℕ P → Type 0
    StartStands Near machine =
        MachineStands (WordStands l (has_address (labels_of file file_ground))) (KnownByteStands l (has_address (labels_of file file_ground))) None (RegionsAreLaidOut l) Near (words_start file_ground start) machine

    pub begun : {P : Type 0} (Near : FilePoint → P → Type 0) (first : P) (laid : Placed) (machine : Machine Placed ℕ ℕ P) → All (KnownCells (has_address (labels_of file file_ground))) file_ground.contents
        → RegionsAreLaidOut l (words_placed file_ground start) laid → Near (At file_ground.entry) first → Begins l file_ground start laid first machine → StartStands Near machine
    begun Near first laid machine contents regions near h =
        let known = has_address (labels_of file file_ground) in
        let all = start-known l (labels_of file file_ground) file_ground start contents in
        record {
          registers = words-known l known (words_start file_ground start).registers machine.registers all.0 h.registers;
          flags = h.flags;
          memory = record { bytes = rows-known l known (words_start file_ground start).memory machine.memory all.1 h.memory; kept = tt };
          placed = subst (RegionsAreLaidOut l (words_placed file_ground start)) (sym h.placed) regions;
          point = subst (Near (At file_ground.entry)) (sym h.point) near;
        }

    -- mirrors it, from each machine for which its start stands
    pub mirrors : {R P : Type 0} (Near Far : FilePoint → P → Type 0) → ((p : FilePoint) (q : P) → Near p q → Far p q) → (prog : Program P R ℕ) (Begin : Machine Placed ℕ ℕ P → Type 0)
        → ((machine : Machine Placed ℕ ℕ P) → Begin machine → StartStands Near machine)
        → ProgramsStand (WordStands l (has_address (labels_of file file_ground))) Named Near Near (symbolic file) prog
        → Mirrors file file_ground start no_cost prog l Begin (λ answers n. Alike l (labels_of file file_ground) None Named Far)
    mirrors Near Far f prog Begin starts programs answers n run lawful small is_made machine replies begins stand =
        let known = has_address (labels_of file file_ground) in
        let stands = answers-known l (labels_of file file_ground) None (RegionsAreLaidOut l) numbers (symbolic file) (words_start file_ground start) machine.placed answers replies lawful stand in
        let found =
        runs-stand (WordStands l known) (KnownByteStands l known) None Named (RegionsAreLaidOut l) symbols numbers (symbolic file) prog (words_start file_ground start) machine answers replies stands
        Near (domains-stand l (labels_of file file_ground) atoms) programs (starts machine begins) n run is_made in
        (found.0, found.1, nearer Near Far f run found.0 found.2)

-- ---- the original

pub original-mirrors : (file : List ℕ) (file_ground : Ground) → first (elf_rules file) ≡ None → AreFunctions file → first (code_rules file) ≡ None → FitsFile file file_ground → OriginalMirrors file file_ground
original-mirrors file file_ground clean functions references fits start placing is_start is_placing =
    let l = placing_addresses file placing in
    let Near = IsPlaceOf file placing.base in
    let Named : ℕ → ℕ → Type 0 = λ i j. have_one_name file i j ≡ true in
    mirrors l file file_ground Named start (placing-lies file file_ground fits start placing functions is_placing) Near Near (λ p q h. h) (original file placing)
    (Begins l file_ground start (numbers_placed file_ground start l.region) (placing.base + file_ground.entry))
    (λ machine begins. begun l file file_ground Named start (placing-lies file file_ground fits start placing functions is_placing) Near (placing.base + file_ground.entry) (numbers_placed file_ground start l.region) machine fits.atoms
    (are-laid l file_ground start is_placing.regions) refl begins)
    (original-stands file file_ground clean functions (references-stand file references) fits start placing is_placing)
