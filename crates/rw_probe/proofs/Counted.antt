-- What the instructions of a probe do together.
use Rattle.std.proofs.Common.{◌≡◌, ◌≢◌, ℕ, zero, suc, pos, negsuc, ◌+◌, ◌<◌, ◌%◌, ◌^◌, List, [], ◌∷◌, length, take, drop, Some, None, false, refl, sym, ap, subst, ◌∙◌, arith, lit<}
use Rattle.std.specs.Prelude.{slice_index, slice_index_or, slice_set}
use Rattle.std.proofs.lemmas.List.{get_or-set_same, set-set}
use Rattle.std.proofs.Math.Nat.{mod-eq_of_lt}
use Rattle.std.proofs.lemmas.Nat.{mod_below}
use Rattle.rw_base.specs.declared.width.Width.TheVariants.{Q}
use Rattle.x86_insn.specs.declared.kinds.Reg.{Reg}
use Rattle.x86_insn.specs.declared.kinds.Reg.TheVariants.{Rax, Rsp}
use Rattle.x86_insn.specs.declared.kinds.OneOp.TheVariants as one
use Rattle.x86_insn.specs.WellFormed.{code_of}
use Rattle.rw_words.specs.Words.{eight_bytes, number_of_bytes}
use Rattle.rw_domain.specs.declared.flags.Flags.{Flags}
use Rattle.rw_domain.specs.declared.place.Access.TheVariants.{Write}
use Rattle.rw_domain.specs.declared.place.Place.{Place}
use Rattle.rw_domain.specs.Placed.{Placed}
use Rattle.rw_domain.specs.NumberPlaces.{numbers_over}
use Rattle.rw_domain.specs.Numbers.{address_sum, join_of, one_of}
use Rattle.rw_machine.specs.Program.{Program}
use Rattle.rw_machine.specs.Running.{range_at, written_at}
use Rattle.rw_machine.specs.Step.{Machine, Moved, step_of}
use Rattle.rw_machine.specs.Views.{HasRange}
use Rattle.rw_machine.specs.Domains.{numbers}
use Rattle.rw_runs.specs.Runs.{made}
use Rattle.rw_runs.specs.Correspond.{NumbersRun}
use Rattle.rw_tables.proofs.Registers.{code_fits}
use Rattle.rw_probe.specs.declared.form.Probe.{Probe}
use Rattle.rw_probe.specs.declared.form.Probe.TheVariants.{Inc, Dead, Spill}
use Rattle.rw_probe.specs.Probes.{probe_insns, step_count}
use Rattle.rw_probe.specs.Counting.{StandFrom, IsEightBytes, HasRegisters, HasRoom, HasRoomFor, next_number, counted, Counts}
use Rattle.rw_probe.proofs.Joined.{rejoined-same}
use Rattle.rw_probe.proofs.Memory.{sixteen, range-other, range-same}
use Rattle.rw_probe.proofs.ProbeSteps.{number_at, may-read, one-step, sum-below, inc-step, load-fits, sum-fits, store-fits, push-fits, pop-fits}

-- ---- numbers

pub take-take : {A : Type 0} (n : ℕ) (xs : List A) → take n (take n xs) ≡ take n xs
take-take zero xs = refl
take-take (suc n) [] = refl
take-take (suc n) (x ∷ xs) = ap (λ ys. x ∷ ys) (take-take n xs)

pub number-is : (memory : List (List ℕ)) (p : Place) → number_at memory p ≡ number_of_bytes (range_at memory p 8)
number-is memory p = ap number_of_bytes (take-take 8 (drop p.offset (slice_index_or memory p.region [])))

one-more : (n : ℕ) (f : Flags) → (one_of one.Inc Q n f).0 ≡ (n + 1) % 2 ^ 64
one-more n f = omega arith

more-of-low : (n : ℕ) → address_sum (Some (n % 2 ^ 64)) None (pos 1) ≡ (n + 1) % 2 ^ 64
more-of-low n = omega arith

next-is : (memory : List (List ℕ)) (p : Place) → (number_at memory p + 1) % 2 ^ 64 ≡ next_number memory p
next-is memory p = ap (λ n. (n + 1) % 2 ^ 64) (number-is memory p)

-- down to the saved word, and up again
pub down : (n : ℕ) → address_sum (Some (address_sum (Some n) None (negsuc 127))) None (negsuc 7) ≡ address_sum (Some n) None (negsuc 135)
down n = omega arith

up : (n : ℕ) → n < 2 ^ 64 → address_sum (Some (address_sum (Some (address_sum (Some n) None (negsuc 135))) None (pos 8))) None (pos 128) ≡ n
up n h = omega arith

module _ {P R : Type 0} (prog : Program P R ℕ) (counter : R) (place saved : Place) (behind : P) (run : NumbersRun P) where
  abbrev pub Leaves : Probe → Type 0
  Leaves probe = (n : Machine Placed ℕ ℕ P) × (made numbers prog (step_count probe) run ≡ Some (record run { machine = n })) × (n.point ≡ behind) × Counts probe place saved run.machine n

  pub inc-leaves : StandFrom prog run.machine.point (probe_insns counter Inc) behind → run.ending ≡ None → IsEightBytes run.machine (prog.resolve counter false) place → Leaves Inc
  inc-leaves stand going at =
      let s = inc-step prog run.machine counter place stand.0 at.writable in (
        _,
        one-step prog 0 run run _ going refl s,
        stand.1,
        record {
          memory = ap (λ n. written_at run.machine.memory place (eight_bytes n)) (one-more (number_at run.machine.memory place) run.machine.flags ∙ next-is run.machine.memory place);
          registers = refl;
          flags = refl;
          placed = refl;
        },
      )

  pub dead-leaves : (r : Reg) → StandFrom prog run.machine.point (probe_insns counter (Dead r)) behind → run.ending ≡ None → IsEightBytes run.machine (prog.resolve counter false) place → HasRegisters run.machine → Leaves (Dead r)
  dead-leaves r stand going at has =
      let m : Machine Placed ℕ ℕ P = run.machine in
      let c : ℕ = code_of r in
      let n : ℕ = number_at run.machine.memory place in
      let k : ℕ = next_number run.machine.memory place in
      let count = has.count in
      let fits = code_fits r in
      let within : code_of r < length run.machine.registers = omega (arith, count, fits) in
      let m1 : Machine Placed ℕ ℕ P = record m { registers = slice_set m.registers c (n % 2 ^ 64); point = prog.next m.point } in
      let m2 : Machine Placed ℕ ℕ P = record m { registers = slice_set m.registers c k; point = prog.next (prog.next m.point) } in
      let m3 : Machine Placed ℕ ℕ P = record m { registers = slice_set m.registers c k; memory = counted m.memory place; point = prog.next (prog.next (prog.next m.point)) } in
      let got1 : slice_index_or m1.registers c 0 ≡ n % 2 ^ 64 = get_or-set_same m.registers c (n % 2 ^ 64) 0 within in
      let got2 : slice_index_or m2.registers c 0 ≡ k = get_or-set_same m.registers c k 0 within in
      let low1 : n % 2 ^ 64 < 2 ^ 64 = mod_below n (2 ^ 64) (lit< tt) in
      let low2 : k < 2 ^ 64 = mod_below (number_of_bytes (range_at run.machine.memory place 8) + 1) (2 ^ 64) (lit< tt) in
      let sum : address_sum (Some (slice_index_or m1.registers c 0)) None (pos 1) ≡ k = ap (λ x. address_sum (Some x) None (pos 1)) got1 ∙ more-of-low n ∙ next-is run.machine.memory place in
      let s1 : step_of numbers prog m ≡ Moved m1 = load-fits prog m counter r place stand.0 (may-read m.placed (prog.resolve counter false) place at.writable) in
      let s2 : step_of numbers prog m1 ≡ Moved m2 =
      sum-fits prog m1 r (pos 1) stand.1.0 (subst (λ x. x < 2 ^ 64) (sym got1) low1)
      ∙ ap (λ rs. Moved (record m { registers = rs; point = prog.next (prog.next m.point) })) (set-set m.registers c (n % 2 ^ 64) (address_sum (Some (slice_index_or m1.registers c 0)) None (pos 1)) ∙ ap (slice_set m.registers c) sum) in
      let s3 : step_of numbers prog m2 ≡ Moved m3 =
      store-fits prog m2 counter r place stand.1.1.0 at.writable (subst (λ x. x < 2 ^ 64) (sym got2) low2)
      ∙ ap (λ x. Moved (record m2 { memory = written_at m.memory place (eight_bytes x); point = prog.next (prog.next (prog.next m.point)) })) got2 in
      let d1 : made numbers prog 1 run ≡ Some (record run { machine = m1 }) = one-step prog 0 run run m1 going refl s1 in
      let d2 : made numbers prog 2 run ≡ Some (record run { machine = m2 }) = one-step prog 1 run (record run { machine = m1 }) m2 going d1 s2 in
      let d3 : made numbers prog 3 run ≡ Some (record run { machine = m3 }) = one-step prog 2 run (record run { machine = m2 }) m3 going d2 s3 in
      (m3, d3, stand.1.1.1, record { memory = refl; registers = refl; flags = refl; placed = refl })

-- what is popped is what was saved
popped : (memory : List (List ℕ)) (place saved : Place) (a k : ℕ) → a < 2 ^ 64 → HasRange memory saved 8 → saved.region ≢ place.region
    → number_at (written_at (written_at memory saved (eight_bytes a)) place (eight_bytes k)) saved % 2 ^ 64 ≡ a
popped memory place saved a k h has apart =
    let here : range_at (written_at (written_at memory saved (eight_bytes a)) place (eight_bytes k)) saved 8 ≡ eight_bytes a = range-other (written_at memory saved (eight_bytes a)) place saved (eight_bytes k) 8 apart ∙ range-same memory saved a has in
    ap (λ bytes. join_of Q bytes % 2 ^ 64) here ∙ ap (λ x. x % 2 ^ 64) (rejoined-same a h) ∙ mod-eq_of_lt h

-- the machine with these words in %rax and %rsp, and with this memory, at a point
module _ {P R : Type 0} (prog : Program P R ℕ) (counter : R) (place saved : Place) (behind : P) (run : NumbersRun P) (b c d : ℕ) (rest : List ℕ) where
  abbrev with : ℕ → ℕ → List (List ℕ) → P → Machine Placed ℕ ℕ P
  with rax rsp memory p = record run.machine { registers = rax ∷ b ∷ c ∷ d ∷ rsp ∷ rest; memory = memory; point = p }

  spill-made : (a e : ℕ) → StandFrom prog run.machine.point (probe_insns counter Spill) behind → run.ending ≡ None → run.machine.registers ≡ a ∷ b ∷ c ∷ d ∷ e ∷ rest → a < 2 ^ 64 → e < 2 ^ 64
      → IsEightBytes run.machine (prog.resolve counter false) place → IsEightBytes run.machine (address_sum (Some e) None (negsuc 135)) saved → saved.region ≢ place.region
      → made numbers prog 7 run ≡ Some (record run { machine = with a e (counted (written_at run.machine.memory saved (eight_bytes a)) place) behind })
  spill-made a e stand going regs fit_a fit_e at room apart =
      let m : Machine Placed ℕ ℕ P = run.machine in
      let p0 : P = run.machine.point in
      let p1 : P = prog.next p0 in
      let p2 : P = prog.next p1 in
      let p3 : P = prog.next p2 in
      let p4 : P = prog.next p3 in
      let p5 : P = prog.next p4 in
      let p6 : P = prog.next p5 in
      let p7 : P = prog.next p6 in
      let x1 : ℕ = address_sum (Some e) None (negsuc 127) in
      let x2 : ℕ = address_sum (Some e) None (negsuc 135) in
      let x3 : ℕ = address_sum (Some x2) None (pos 8) in
      let saves : List (List ℕ) = written_at run.machine.memory saved (eight_bytes a) in
      let n : ℕ = number_at saves place in
      let k : ℕ = next_number saves place in
      let counts : List (List ℕ) = counted saves place in
      let start : run.machine ≡ with a e run.machine.memory p0 = ap (λ rs. record m { registers = rs }) regs in
      let low_n : n % 2 ^ 64 < 2 ^ 64 = mod_below n (2 ^ 64) (lit< tt) in
      let low_k : k < 2 ^ 64 = mod_below (number_of_bytes (range_at saves place 8) + 1) (2 ^ 64) (lit< tt) in
      let s1 : step_of numbers prog (with a e run.machine.memory p0) ≡ Moved (with a x1 run.machine.memory p1) = sum-fits prog (with a e run.machine.memory p0) Rsp (negsuc 127) stand.0 fit_e in
      let s2 : step_of numbers prog (with a x1 run.machine.memory p1) ≡ Moved (with a x2 saves p2) =
      push-fits prog (with a x1 run.machine.memory p1) saved stand.1.0 (ap (λ y. (numbers_over run.machine.placed).place y 8 Write) (down e) ∙ room.writable) (sum-below e (negsuc 127)) fit_a
      ∙ ap (λ y. Moved (with a y saves p2)) (down e) in
      let s3 : step_of numbers prog (with a x2 saves p2) ≡ Moved (with (n % 2 ^ 64) x2 saves p3) = load-fits prog (with a x2 saves p2) counter Rax place stand.1.1.0 (may-read run.machine.placed (prog.resolve counter false) place at.writable) in
      let s4 : step_of numbers prog (with (n % 2 ^ 64) x2 saves p3) ≡ Moved (with k x2 saves p4) =
      sum-fits prog (with (n % 2 ^ 64) x2 saves p3) Rax (pos 1) stand.1.1.1.0 low_n ∙ ap (λ y. Moved (with y x2 saves p4)) (more-of-low n ∙ next-is saves place) in
      let s5 : step_of numbers prog (with k x2 saves p4) ≡ Moved (with k x2 counts p5) = store-fits prog (with k x2 saves p4) counter Rax place stand.1.1.1.1.0 at.writable low_k in
      let s6 : step_of numbers prog (with k x2 counts p5) ≡ Moved (with a x3 counts p6) =
      pop-fits prog (with k x2 counts p5) saved stand.1.1.1.1.1.0 (may-read run.machine.placed x2 saved room.writable) (sum-below e (negsuc 135))
      ∙ ap (λ y. Moved (with y x3 counts p6)) (popped run.machine.memory place saved a k fit_a room.range apart) in
      let s7 : step_of numbers prog (with a x3 counts p6) ≡ Moved (with a e counts p7) = sum-fits prog (with a x3 counts p6) Rsp (pos 128) stand.1.1.1.1.1.1.0 (sum-below x2 (pos 8)) ∙ ap (λ y. Moved (with a y counts p7)) (up e fit_e) in
      let d0 : made numbers prog 0 run ≡ Some (record run { machine = with a e run.machine.memory p0 }) = ap (λ x. Some (record run { machine = x })) start in
      let d1 : made numbers prog 1 run ≡ Some (record run { machine = with a x1 run.machine.memory p1 }) = one-step prog 0 run (record run { machine = with a e run.machine.memory p0 }) (with a x1 run.machine.memory p1) going d0 s1 in
      let d2 : made numbers prog 2 run ≡ Some (record run { machine = with a x2 saves p2 }) = one-step prog 1 run (record run { machine = with a x1 run.machine.memory p1 }) (with a x2 saves p2) going d1 s2 in
      let d3 : made numbers prog 3 run ≡ Some (record run { machine = with (n % 2 ^ 64) x2 saves p3 }) = one-step prog 2 run (record run { machine = with a x2 saves p2 }) (with (n % 2 ^ 64) x2 saves p3) going d2 s3 in
      let d4 : made numbers prog 4 run ≡ Some (record run { machine = with k x2 saves p4 }) = one-step prog 3 run (record run { machine = with (n % 2 ^ 64) x2 saves p3 }) (with k x2 saves p4) going d3 s4 in
      let d5 : made numbers prog 5 run ≡ Some (record run { machine = with k x2 counts p5 }) = one-step prog 4 run (record run { machine = with k x2 saves p4 }) (with k x2 counts p5) going d4 s5 in
      let d6 : made numbers prog 6 run ≡ Some (record run { machine = with a x3 counts p6 }) = one-step prog 5 run (record run { machine = with k x2 counts p5 }) (with a x3 counts p6) going d5 s6 in
      let d7 : made numbers prog 7 run ≡ Some (record run { machine = with a e counts p7 }) = one-step prog 6 run (record run { machine = with a x3 counts p6 }) (with a e counts p7) going d6 s7 in
      d7 ∙ ap (λ q. Some (record run { machine = with a e counts q })) stand.1.1.1.1.1.1.1

module _ {P R : Type 0} (prog : Program P R ℕ) (counter : R) (place saved : Place) (behind : P) (run : NumbersRun P) where
  pub spill-leaves : StandFrom prog run.machine.point (probe_insns counter Spill) behind → run.ending ≡ None → IsEightBytes run.machine (prog.resolve counter false) place → HasRegisters run.machine → HasRoom run.machine place saved
      → Leaves prog counter place saved behind run Spill
  spill-leaves stand going at has room =
      let rs = sixteen run.machine.registers has.count in
      let rax : slice_index run.machine.registers 0 ≡ rs.r0 = ap (λ xs. slice_index xs 0) rs.is in
      let rsp : slice_index run.machine.registers 4 ≡ rs.r4 = ap (λ xs. slice_index xs 4) rs.is in
      let fit_a : rs.r0 < 2 ^ 64 = subst (λ x. x < 2 ^ 64) rax (has.fit 0 0 (let count = has.count in omega (arith, count))) in
      let fit_e : rs.r4 < 2 ^ 64 = subst (λ x. x < 2 ^ 64) rsp (has.fit 4 0 (let count = has.count in omega (arith, count))) in
      let below : IsEightBytes run.machine (address_sum (Some rs.r4) None (negsuc 135)) saved = subst (λ x. IsEightBytes run.machine (address_sum (Some x) None (negsuc 135)) saved) rsp room.below in (
        record run.machine { registers = rs.r0 ∷ rs.r1 ∷ rs.r2 ∷ rs.r3 ∷ rs.r4 ∷ rs.rest; memory = counted (written_at run.machine.memory saved (eight_bytes rs.r0)) place; point = behind },
        spill-made prog counter place saved behind run rs.r1 rs.r2 rs.r3 rs.rest rs.r0 rs.r4 stand going rs.is fit_a fit_e at below room.apart,
        refl,
        record {
          memory = ap (λ x. counted (written_at run.machine.memory saved (eight_bytes x)) place) (sym rax);
          registers = sym rs.is;
          flags = refl;
          placed = refl;
        },
      )

pub probe-leaves : {P R : Type 0} (prog : Program P R ℕ) (probe : Probe) (counter : R) (place saved : Place) (behind : P) (run : NumbersRun P)
    → StandFrom prog run.machine.point (probe_insns counter probe) behind → run.ending ≡ None
    → IsEightBytes run.machine (prog.resolve counter false) place → HasRegisters run.machine → HasRoomFor run.machine probe place saved
    → Leaves prog counter place saved behind run probe
probe-leaves prog Inc counter place saved behind run stand going at has room = inc-leaves prog counter place saved behind run stand going at
probe-leaves prog (Dead r) counter place saved behind run stand going at has room = dead-leaves prog counter place saved behind run r stand going at has
probe-leaves prog Spill counter place saved behind run stand going at has room = spill-leaves prog counter place saved behind run stand going at has room
