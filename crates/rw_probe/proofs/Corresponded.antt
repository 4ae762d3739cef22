-- What a probe leaves of a machine that corresponds to one over words.
use Rattle.std.proofs.Common.{◌≡◌, ◌≢◌, ℕ, zero, suc, negsuc, ◌+◌, ◌*◌, ◌/◌, ◌<◌, ◌≤◌, ◌^◌, Bool, true, false, List, [], ◌∷◌, ◌++◌, length, take, drop, replicate, slice_get, All, Some, None, Result, Ok, Err, refl, sym, ap, subst, ◌∙◌, arith, lit<, lit≤, length-take, length-drop, take-append-drop}
use Rattle.std.specs.Prelude.{slice_index, slice_index_or, slice_set, not, nat_eq, if◌then◌else◌}
use Rattle.std.proofs.Math.Nat.{pow-succ'}
use Rattle.std.proofs.lemmas.List.{set-set, set-get_or}
use Rattle.std.proofs.lemmas.Nat.{mod_below}
use Rattle.rw_base.specs.declared.width.Width.TheVariants.{Q}
use Rattle.x86_insn.specs.declared.kinds.Reg.{Reg}
use Rattle.x86_insn.specs.declared.kinds.Reg.TheVariants.{Rax, Rsp}
use Rattle.x86_insn.specs.Codes.{registers}
use Rattle.x86_insn.specs.WellFormed.{code_of}
use Rattle.rw_words.specs.declared.atom.Atom.{Atom}
use Rattle.rw_words.specs.declared.atom.Cell.{Cell}
use Rattle.rw_words.specs.declared.atom.Cell.TheVariants.{Undef}
use Rattle.rw_words.specs.Addresses.{Addresses, CellsStand, byte_of}
use Rattle.rw_words.specs.Words.{eight_bytes, number_of_bytes, undefined_cells}
use Rattle.rw_domain.specs.declared.cause.Cause.{Cause}
use Rattle.rw_domain.specs.declared.flags.Flags.{Flags}
use Rattle.rw_domain.specs.declared.place.Access.TheVariants.{Write}
use Rattle.rw_domain.specs.declared.place.Place.{Place}
use Rattle.rw_domain.specs.Placed.{Placed}
use Rattle.rw_domain.specs.NumberPlaces.{numbers_over}
use Rattle.rw_domain.specs.Numbers.{address_sum}
use Rattle.rw_domain.specs.Symbols.{symbols_over}
use Rattle.rw_domain.specs.Stands.{ResultStands, Both, FlagStands, FlagsStand}
use Rattle.rw_domain.specs.LaidOut.{KnownByteStands, KnownCells, WordStands}
use Rattle.rw_domain.proofs.AllStand.{all-stand}
use Rattle.rw_domain.proofs.WordsStand.{any-stands}
use Rattle.rw_funcs.proofs.Fuel.{drop_drop}
use Rattle.rw_machine.specs.Program.{Program}
use Rattle.rw_machine.specs.Running.{range_at, register, row_written, written_at}
use Rattle.rw_machine.specs.Step.{Machine}
use Rattle.rw_machine.specs.Stands.{MachineStands, Misses, RowsStand, rows_without}
use Rattle.rw_machine.specs.Views.{HasRange}
use Rattle.rw_machine.specs.Correspond.{MachinesCorrespond, RegionsCorrespond}
use Rattle.rw_machine.specs.Domains.{numbers}
use Rattle.rw_machine.proofs.Lists.{get_both, range_both, same_length, written_both}
use Rattle.rw_machine.proofs.Spare.{kept-written, range-without, written-without}
use Rattle.rw_machine.proofs.StepLaw.{places-miss}
use Rattle.rw_live.specs.Weakened.{kept_words, unknown_word}
use Rattle.rw_live.proofs.WeakenedStands.{weakened-corresponds}
use Rattle.rw_runs.specs.Runs.{made}
use Rattle.rw_runs.specs.Correspond.{NumbersRun}
use Rattle.rw_tables.proofs.Registers.{code_fits}
use Rattle.rw_probe.specs.declared.form.Probe.{Probe}
use Rattle.rw_probe.specs.declared.form.Probe.TheVariants.{Inc, Dead, Spill}
use Rattle.rw_probe.specs.Counting.{FlagsBehind, memory_behind, registers_behind, HasRegisters, HasRoom, HasRoomFor, IsEightBytes, StandFrom, next_number}
use Rattle.rw_probe.specs.Forgetting.{HasFreeRoom, HasFreeRoomFor, HasWords, counter_bytes, counter_place, forgotten, incremented, keeps, keeps_flag}
use Rattle.rw_probe.specs.Probes.{probe_insns, step_count}
use Rattle.rw_probe.proofs.Counted.{probe-leaves}
use Rattle.rw_probe.proofs.CounterRows.{counter-kept, counter-there}

-- ---- words of eight cells

below-cells : (l : Addresses) (cells : List Cell) (n : ℕ) → CellsStand l cells n → n < 256 ^ length cells
below-cells l [] n h = let e : 256 ^ 0 ≡ 1 = refl in omega (arith, h, e)
below-cells l (c ∷ cells) n h =
    let rest = below-cells l cells (n / 256) h.1 in
    let power = pow-succ' 256 (length cells) in
    omega (arith, rest, power)

unknown-stands : (l : Addresses) (known : Atom → Bool) (word : List Cell) (n : ℕ) → length word ≡ 8 → n < 2 ^ 64 → WordStands l known (unknown_word word) n
unknown-stands l known word n wide fits = record {
  cells = subst (λ cells. CellsStand l cells n) (sym (unknown-cells word ∙ ap (λ k. replicate k Undef) wide)) (any-stands l Q n fits);
  atoms = unknown-atoms word;
}
  where
    unknown-cells : (word : List Cell) → unknown_word word ≡ replicate (length word) Undef
    unknown-cells [] = refl
    unknown-cells (c ∷ word) = ap (λ cells. Undef ∷ cells) (unknown-cells word)

    unknown-atoms : (word : List Cell) → KnownCells known (unknown_word word)
    unknown-atoms [] = tt
    unknown-atoms (c ∷ word) = (tt, unknown-atoms word)

fits-all : (l : Addresses) (known : Atom → Bool) (xs : List (List Cell)) (ys : List ℕ) → Both (WordStands l known) xs ys → All (λ word. length word ≡ 8) xs → All (λ n. n < 2 ^ 64) ys
fits-all l known [] [] h wide = λ k d low. absurd (omega (arith, low))
fits-all l known [] (y ∷ ys) h wide = absurd h
fits-all l known (x ∷ xs) [] h wide = absurd h
fits-all l known (x ∷ xs) (y ∷ ys) h wide = by_place (fits-all l known xs ys h.1 (λ k d low. wide (suc k) d (omega (arith, low))))
  where
    first : y < 2 ^ 64
    first =
        let below = below-cells l x y h.0.cells in
        let power : 256 ^ length x ≡ 2 ^ 64 = ap (λ n. 256 ^ n) (wide 0 x (omega arith)) in
        omega (arith, below, power)

    by_place : All (λ n. n < 2 ^ 64) ys → All (λ n. n < 2 ^ 64) (y ∷ ys)
    by_place rest zero d low = first
    by_place rest (suc k) d low = rest k d (omega (arith, low))

-- ---- registers, of which one is forgotten

set-second : {A T : Type 0} (R : A → T → Type 0) (xs : List A) (ys : List T) (i : ℕ) (d : A) (v : T) → Both R xs ys → R (slice_index_or xs i d) v → Both R xs (slice_set ys i v)
set-second R [] [] i d v h r = h
set-second R [] (y ∷ ys) i d v h r = absurd h
set-second R (x ∷ xs) [] i d v h r = absurd h
set-second R (x ∷ xs) (y ∷ ys) zero d v h r = (r, h.1)
set-second R (x ∷ xs) (y ∷ ys) (suc i) d v h r = (h.0, set-second R xs ys i d v h.1 r)

-- the word of a register that isn't kept
lost-word : (keep : Reg → Bool) (rs : List Reg) (words : List (List Cell)) (i : ℕ) (r : Reg) → length rs ≡ length words → slice_get rs i ≡ Some r → keep r ≡ false → slice_index_or (kept_words keep rs words) i [] ≡ unknown_word (slice_index_or words i [])
lost-word keep [] words i r size e k = absurd (cc)
lost-word keep (q ∷ rs) [] i r size e k = absurd (omega (arith, size))
lost-word keep (q ∷ rs) (word ∷ words) zero r size e k =
    let same : q ≡ r = cc in
    ap (λ t. if t then word else unknown_word word) (ap keep same ∙ k)
lost-word keep (q ∷ rs) (word ∷ words) (suc i) r size e k = lost-word keep rs words i r (omega (arith, size)) e k

its-place : (r : Reg) → slice_get registers (code_of r) ≡ Some r
its-place Rax = refl
its-place _ = refl

never-kept : (r : Reg) → not (nat_eq (code_of r) (code_of r)) ≡ false
never-kept Rax = refl
never-kept _ = refl

-- ---- memory

-- bytes that are there, written again
written-again : {A : Type 0} (row : List A) (o : ℕ) → length (take 8 (drop o row)) ≡ 8 → row_written row o (take 8 (drop o row)) ≡ row
written-again row o size =
    let e : o + length (take 8 (drop o row)) ≡ o + 8 = ap (λ n. o + n) size in
    ap (λ n. take o row ++ (take 8 (drop o row) ++ drop n row)) e
    ∙ ap (λ rest. take o row ++ (take 8 (drop o row) ++ rest)) (sym (drop_drop o 8 row))
    ∙ ap (λ rest. take o row ++ rest) (take-append-drop 8 (drop o row)) ∙ take-append-drop o row

same-memory : {A : Type 0} (memory : List (List A)) (p : Place) (bytes : List A) → range_at memory p 8 ≡ bytes → length bytes ≡ 8 → memory ≡ written_at memory p bytes
same-memory memory p bytes e size =
    let row = slice_index_or memory p.region [] in
    let long : length (range_at memory p 8) ≡ 8 = ap length e ∙ size in
    sym (ap (written_at memory p) (sym e) ∙ ap (slice_set memory p.region) (written-again (slice_index_or memory p.region []) p.offset long) ∙ set-get_or memory p.region [])

range-there : {A : Type 0} (memory : List (List A)) (p : Place) → length (range_at memory p 8) ≡ 8 → HasRange memory p 8
range-there {A} memory p size =
    let row = slice_index_or memory p.region [] in
    let taken = length-take 8 (drop p.offset (slice_index_or memory p.region [])) in
    let dropped = length-drop p.offset (slice_index_or memory p.region []) in
    let long : p.offset + 8 ≤ length (slice_index_or memory p.region []) = omega (arith, size, taken, dropped) in
    record { region = has-row memory p.region (omega (arith, long)); bytes = long }
  where
    has-row : (rows : List (List A)) (i : ℕ) → 1 ≤ length (slice_index_or rows i []) → i < length rows
    has-row [] i h = absurd (omega (arith, h))
    has-row (x ∷ rows) zero h = omega arith
    has-row (x ∷ rows) (suc i) h = let rest = has-row rows i h in omega (arith, rest)

-- undefined cells stand for any bytes
eight-stand : (l : Addresses) (known : Atom → Bool) (n : ℕ) → Both (KnownByteStands l known) (replicate 8 Undef) (eight_bytes n)
eight-stand l known n = (one 0, (one 1, (one 2, (one 3, (one 4, (one 5, (one 6, (one 7, tt))))))))
  where
    one : (i : ℕ) → KnownByteStands l known Undef (byte_of n i)
    one i = record { cell = tt; byte = mod_below (n / 256 ^ i) 256 (lit< tt); atom = tt }

answer-ok : (a b : Result Place Cause) (p : Place) → ResultStands (λ p q. p ≡ q) a b → a ≡ Ok p → b ≡ Ok p
answer-ok (Err c) b p h e = absurd (cc)
answer-ok (Ok q) (Err c) p h e = absurd h
answer-ok (Ok q) (Ok r) p h e = ap Ok (sym h) ∙ e

module _ {P O R : Type 0} (l : Addresses) (known : Atom → Bool) (Near : P → O → Type 0) (prog : Program O R ℕ) (counter : R) (region k : ℕ) (counts : List ℕ) (m : Machine Placed (List Cell) Cell P) (run : NumbersRun O)
    (low : k < length counts) (words : HasWords m) (h : MachineStands (WordStands l known) (KnownByteStands l known) (Some (region, counter_bytes counts)) (RegionsCorrespond l known (Some (region, counter_bytes counts))) Near m run.machine) where
  its-registers : HasRegisters run.machine
  its-registers = record {
    count = sym (same_length (WordStands l known) m.registers run.machine.registers h.registers) ∙ words.count;
    fit = fits-all l known m.registers run.machine.registers h.registers words.wide;
  }

  its-bytes : (numbers_over run.machine.placed).place (prog.resolve counter false) 8 Write ≡ Ok (counter_place region k) → IsEightBytes run.machine (prog.resolve counter false) (counter_place region k)
  its-bytes w = record { writable = w; range = counter-there run.machine.memory region k counts h.memory.kept low }

  apart : (saved : Place) → HasFreeRoom m saved → saved.region ≢ region
  apart saved free = λ same.
      let none = places-miss (Some (region, counter_bytes counts)) m.placed h.placed.1 ((symbols_over m.placed).sum (Some (register (symbols_over m.placed) m.registers Rsp)) None (negsuc 135)) 8 Write saved free.below same in
      absurd (omega (arith, none))

  misses : (saved : Place) (n : ℕ) → HasFreeRoom m saved → Misses (Some (region, counter_bytes counts)) saved n
  misses saved n free = λ same. absurd (apart saved free same)

  its-room : (saved : Place) → HasFreeRoom m saved → HasRoom run.machine (counter_place region k) saved
  its-room saved free =
      let ops = all-stand l known m.placed run.machine.placed h.placed.0 in
      let sp = get_both (WordStands l known) (undefined_cells Q) 0 (ops.undef Q) m.registers run.machine.registers (code_of Rsp) h.registers in
      let sum = ops.sum (Some (register (symbols_over m.placed) m.registers Rsp)) (Some (slice_index run.machine.registers (code_of Rsp))) None None (negsuc 135) sp tt in
      let answer = ops.place ((symbols_over m.placed).sum (Some (register (symbols_over m.placed) m.registers Rsp)) None (negsuc 135)) (address_sum (Some (slice_index run.machine.registers (code_of Rsp))) None (negsuc 135)) 8 Write (let n : 1 ≤ 8 = lit≤ tt in n) sum in
      let cells : length (range_at m.memory saved 8) ≡ 8 = ap length free.unknown in
      let bytes = same_length (KnownByteStands l known) (range_at m.memory saved 8) (range_at (rows_without (Some (region, counter_bytes counts)) run.machine.memory) saved 8) (range_both (KnownByteStands l known) m.memory (rows_without (Some (region, counter_bytes counts)) run.machine.memory) h.memory.bytes saved 8) in
      let same = range-without (Some (region, counter_bytes counts)) run.machine.memory saved 8 (misses saved 8 free) in
      record {
        below = record {
          writable = answer-ok _ _ saved answer free.below;
          range = range-there run.machine.memory saved (ap length (sym same) ∙ sym bytes ∙ cells);
        };
        apart = apart saved free;
      }

  room-for : (probe : Probe) (saved : Place) → HasFreeRoomFor m probe saved → HasRoomFor run.machine probe (counter_place region k) saved
  room-for Inc saved free = tt
  room-for (Dead r) saved free = tt
  room-for Spill saved free = its-room saved free

  -- ---- the machine behind the probe

  -- memory that differs in the spare region alone
  rows-behind : (memory : List (List ℕ)) (counter_bytes' : List ℕ) (bytes : List ℕ) → Both (Both (KnownByteStands l known)) m.memory (slice_set memory region [])
      → slice_get (written_at memory (counter_place region k) bytes) region ≡ Some counter_bytes'
      → RowsStand (KnownByteStands l known) (Some (region, counter_bytes')) m.memory (written_at memory (counter_place region k) bytes)
  rows-behind memory counter_bytes' bytes both kept = record {
    bytes = subst (Both (Both (KnownByteStands l known)) m.memory) (sym (set-set memory region (row_written (slice_index_or memory region []) (8 * k) bytes) [])) both;
    kept = kept;
  }

  memory-behind : (probe : Probe) (saved : Place) → HasFreeRoomFor m probe saved
      → RowsStand (KnownByteStands l known) (Some (region, counter_bytes (incremented k counts))) m.memory (memory_behind (counter_place region k) saved probe run.machine.registers run.machine.memory)
  memory-behind Inc saved free = rows-behind run.machine.memory (counter_bytes (incremented k counts)) (eight_bytes (next_number run.machine.memory (counter_place region k))) h.memory.bytes (counter-kept run.machine.memory region k counts h.memory.kept low)
  memory-behind (Dead r) saved free = rows-behind run.machine.memory (counter_bytes (incremented k counts)) (eight_bytes (next_number run.machine.memory (counter_place region k))) h.memory.bytes (counter-kept run.machine.memory region k counts h.memory.kept low)
  memory-behind Spill saved free =
      let rax = slice_index run.machine.registers (code_of Rax) in
      let saves : List (List ℕ) = written_at run.machine.memory saved (eight_bytes (slice_index run.machine.registers (code_of Rax))) in
      let kept = kept-written (Some (region, counter_bytes counts)) run.machine.memory saved (eight_bytes (slice_index run.machine.registers (code_of Rax))) (misses saved 8 free) h.memory.kept in
      let written = written_both (KnownByteStands l known) m.memory (rows_without (Some (region, counter_bytes counts)) run.machine.memory) h.memory.bytes saved (replicate 8 Undef) (eight_bytes (slice_index run.machine.registers (code_of Rax))) (eight-stand l known (slice_index run.machine.registers (code_of Rax))) in
      let both = subst (λ x. Both (Both (KnownByteStands l known)) x (written_at (rows_without (Some (region, counter_bytes counts)) run.machine.memory) saved (eight_bytes (slice_index run.machine.registers (code_of Rax))))) (sym (same-memory m.memory saved (replicate 8 Undef) free.unknown refl)) written in
      rows-behind saves (counter_bytes (incremented k counts)) (eight_bytes (next_number saves (counter_place region k)))
      (subst (Both (Both (KnownByteStands l known)) m.memory) (sym (written-without (Some (region, counter_bytes counts)) run.machine.memory saved (eight_bytes (slice_index run.machine.registers (code_of Rax))) (misses saved 8 free))) both)
      (counter-kept saves region k counts kept low)

  anywhere : MachinesCorrespond l known (Some (region, counter_bytes counts)) (λ p q. true) m run.machine
  anywhere = record { registers = h.registers; flags = h.flags; memory = h.memory; placed = h.placed; point = refl }

  less-known : (probe : Probe) → MachinesCorrespond l known (Some (region, counter_bytes counts)) (λ p q. true) (forgotten probe m) run.machine
  less-known probe = weakened-corresponds l known (Some (region, counter_bytes counts)) (λ p q. true) (keeps probe) (keeps_flag probe) m run.machine anywhere

  registers-behind : (probe : Probe) (saved : Place) → Both (WordStands l known) (forgotten probe m).registers (registers_behind (counter_place region k) saved probe run.machine.registers run.machine.memory)
  registers-behind Inc saved = (less-known Inc).registers
  registers-behind Spill saved = (less-known Spill).registers
  registers-behind (Dead r) saved =
      let v : ℕ = next_number run.machine.memory (counter_place region k) in
      let fits = mod_below (number_of_bytes (range_at run.machine.memory (counter_place region k) 8) + 1) (2 ^ 64) (lit< tt) in
      let code = code_fits r in
      let count = words.count in
      let size : length registers ≡ length m.registers = let e : length registers ≡ 16 = refl in e ∙ sym words.count in
      set-second (WordStands l known) (forgotten (Dead r) m).registers run.machine.registers (code_of r) [] (next_number run.machine.memory (counter_place region k)) (less-known (Dead r)).registers
      (subst (λ w. WordStands l known w (next_number run.machine.memory (counter_place region k))) (sym (lost-word (keeps (Dead r)) registers m.registers (code_of r) r size (its-place r) (never-kept r)))
      (unknown-stands l known (slice_index_or m.registers (code_of r) []) (next_number run.machine.memory (counter_place region k)) (words.wide (code_of r) [] (omega (arith, code, count))) fits))

  flags-behind : (probe : Probe) (f : Flags) → FlagsBehind probe run.machine.flags f → FlagsStand (forgotten probe m).flags f
  flags-behind Inc f same = record { cf = subst (FlagStands m.flags.cf) (sym same) h.flags.cf; zf = tt; sf = tt; of = tt; pf = tt }
  flags-behind (Dead r) f same = subst (FlagsStand (forgotten (Dead r) m).flags) (sym same) (less-known (Dead r)).flags
  flags-behind Spill f same = subst (FlagsStand (forgotten Spill m).flags) (sym same) (less-known Spill).flags

  -- points are Near before the probe and Near' behind it
  pub left-stands : (Near' : P → O → Type 0) (probe : Probe) (saved : Place) (behind : O) → StandFrom prog run.machine.point (probe_insns counter probe) behind → run.ending ≡ None
      → (numbers_over run.machine.placed).place (prog.resolve counter false) 8 Write ≡ Ok (counter_place region k) → HasFreeRoomFor m probe saved → Near' m.point behind
      → (n : Machine Placed ℕ ℕ O) × (made numbers prog (step_count probe) run ≡ Some (record run { machine = n }))
      × MachineStands (WordStands l known) (KnownByteStands l known) (Some (region, counter_bytes (incremented k counts))) (RegionsCorrespond l known (Some (region, counter_bytes (incremented k counts)))) Near' (forgotten probe m) n
      × (n.placed ≡ run.machine.placed)
  left-stands Near' probe saved behind stand going w free close =
      let left = probe-leaves prog probe counter (counter_place region k) saved behind run stand going (its-bytes w) its-registers (room-for probe saved free) in
      let counts_ = left.3 in (
        left.0,
        left.1,
        record {
          registers = subst (Both (WordStands l known) (forgotten probe m).registers) (sym counts_.registers) (registers-behind probe saved);
          flags = flags-behind probe left.0.flags counts_.flags;
          memory = subst (RowsStand (KnownByteStands l known) (Some (region, counter_bytes (incremented k counts))) m.memory) (sym counts_.memory) (memory-behind probe saved free);
          placed = subst (RegionsCorrespond l known (Some (region, counter_bytes (incremented k counts))) m.placed) (sym counts_.placed) h.placed;
          point = subst (Near' m.point) (sym left.2) close;
        },
        counts_.placed,
      )
