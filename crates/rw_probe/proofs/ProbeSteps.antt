-- The step of each instruction of a probe, over numbers.
use Rattle.std.proofs.Common.{◌≡◌, ℕ, suc, pos, negsuc, ◌+◌, ◌<◌, ◌%◌, ◌^◌, List, Option, Some, None, Result, Ok, Err, Bool, true, false, refl, ap, ◌∙◌}
use Rattle.std.specs.Prelude.{ℤ, slice_index_or, slice_set, option_and_then, if◌then◌else◌}
use Rattle.rw_base.specs.declared.width.Width.TheVariants.{Q}
use Rattle.x86_insn.specs.declared.kinds.Reg.{Reg}
use Rattle.x86_insn.specs.declared.kinds.Reg.TheVariants.{Rax, Rsp}
use Rattle.x86_insn.specs.declared.kinds.OneOp.TheVariants as one
use Rattle.x86_insn.specs.declared.operands.Mem.TheVariants.{Rel}
use Rattle.x86_insn.specs.declared.operands.Operand.TheVariants as operand
use Rattle.x86_insn.specs.declared.instruction.Insn.{Insn}
use Rattle.x86_insn.specs.declared.instruction.Insn.TheVariants.{One, Mov, Push, Pop}
use Rattle.x86_insn.specs.WellFormed.{code_of}
use Rattle.rw_words.specs.Words.{eight_bytes, number_of_bytes}
use Rattle.rw_domain.specs.declared.cause.Cause.{Cause}
use Rattle.rw_domain.specs.declared.place.Access.TheVariants.{Read, Write}
use Rattle.rw_domain.specs.declared.place.Place.{Place}
use Rattle.rw_domain.specs.Placed.{Placed}
use Rattle.rw_domain.specs.NumberPlaces.{numbers_over, accessed_place, is_writable, place_of}
use Rattle.rw_domain.specs.Numbers.{address_sum, join_of, one_of, wrapped_number}
use Rattle.rw_machine.specs.Program.{Program}
use Rattle.rw_machine.specs.Running.{range_at, written_at}
use Rattle.rw_machine.specs.Step.{Machine, Outcome, Moved, step_of, insn_outcome}
use Rattle.rw_machine.specs.Domains.{numbers}
use Rattle.rw_runs.specs.Runs.{made, advance, one_more, after_step}
use Rattle.rw_runs.specs.Correspond.{NumbersRun}
use Rattle.rw_domain.proofs.ResultsBelow.{low_below}
use Rattle.rw_probe.specs.Probes.{sum_to}
use Rattle.rw_probe.proofs.Joined.{rejoined-is, rejoined-same}

-- what may be written may be read
readable : (d : Placed) (a : ℕ) (p : Place) (o : Option Place) → accessed_place d.regions Write o ≡ Ok p → accessed_place d.regions Read o ≡ Ok p
readable d a p None e = absurd (cc)
readable d a p (Some q) e = by_test (is_writable d.regions q.region) e
  where
    by_test : (t : Bool) → ◌≡◌ {A = Result Place Cause} (if t then Ok q else Err Rattle.rw_domain.specs.declared.cause.Cause.TheVariants.NotWritable) (Ok p) → ◌≡◌ {A = Result Place Cause} (Ok q) (Ok p)
    by_test true e = e
    by_test false e = absurd (cc)

pub may-read : (d : Placed) (a : ℕ) (p : Place) → (numbers_over d).place a 8 Write ≡ Ok p → (numbers_over d).place a 8 Read ≡ Ok p
may-read d a p e = readable d a p (place_of d a 8) e

-- ---- one more step of a run

pub one-step : {P R : Type 0} (prog : Program P R ℕ) (n : ℕ) (first run : NumbersRun P) (m : Machine Placed ℕ ℕ P) → run.ending ≡ None → made numbers prog n first ≡ Some run
    → step_of numbers prog run.machine ≡ Moved m → made numbers prog (suc n) first ≡ Some (record run { machine = m })
one-step prog n first run m e h s = ap (option_and_then (advance numbers prog)) h ∙ ap (one_more numbers prog run) e ∙ ap (after_step numbers prog run) s

-- the number of so many bytes at a place, and a word that is split and joined again
abbrev pub number_at : List (List ℕ) → Place → ℕ
number_at memory p = join_of Q (range_at memory p 8)

unfoldable pub rejoined : ℕ → ℕ
rejoined n = number_of_bytes (eight_bytes n)

module _ {P R : Type 0} (prog : Program P R ℕ) (m : Machine Placed ℕ ℕ P) where
  abbrev stepping : Option (Insn R) → Outcome Placed ℕ ℕ P
  stepping o = insn_outcome numbers (numbers_over m.placed) prog m None o

  abbrev pub get : Reg → ℕ
  get r = slice_index_or m.registers (code_of r) 0

  abbrev pub put : Reg → ℕ → List ℕ
  put r n = slice_set m.registers (code_of r) (rejoined n)

  pub inc-step : (k : R) (p : Place) → prog.insn m.point ≡ Some (One one.Inc Q (operand.Mem (Rel k))) → (numbers_over m.placed).place (prog.resolve k false) 8 Write ≡ Ok p
      → step_of numbers prog m ≡ Moved (record m {
        flags = (one_of one.Inc Q (number_at m.memory p) m.flags).1;
        memory = written_at m.memory p (eight_bytes (one_of one.Inc Q (number_at m.memory p) m.flags).0);
        point = prog.next m.point;
      })
  inc-step k p e w = ap stepping e ∙ rw (may-read m.placed (prog.resolve k false) p w, w) refl

  pub load-step : (k : R) (r : Reg) (p : Place) → prog.insn m.point ≡ Some (Mov Q (operand.Reg r) (operand.Mem (Rel k))) → (numbers_over m.placed).place (prog.resolve k false) 8 Read ≡ Ok p
      → step_of numbers prog m ≡ Moved (record m { registers = put r (number_at m.memory p); point = prog.next m.point })
  unfolding rejoined
  load-step k r p e w = ap stepping e ∙ rw w refl

  pub sum-step : (r : Reg) (disp : ℤ) → prog.insn m.point ≡ Some (sum_to r disp)
      → step_of numbers prog m ≡ Moved (record m { registers = put r (address_sum (Some (rejoined (get r))) None disp); point = prog.next m.point })
  unfolding rejoined
  sum-step r disp e = ap stepping e

  pub store-step : (k : R) (r : Reg) (p : Place) → prog.insn m.point ≡ Some (Mov Q (operand.Mem (Rel k)) (operand.Reg r)) → (numbers_over m.placed).place (prog.resolve k false) 8 Write ≡ Ok p
      → step_of numbers prog m ≡ Moved (record m { memory = written_at m.memory p (eight_bytes (rejoined (get r))); point = prog.next m.point })
  unfolding rejoined
  store-step k r p e w = ap stepping e ∙ rw w refl

  -- where a word is pushed, and what %rsp is then
  abbrev pub below_stack : ℕ
  below_stack = address_sum (Some (rejoined (get Rsp))) None (negsuc 7)

  pub push-step : (p : Place) → prog.insn m.point ≡ Some (Push (operand.Reg Rax)) → (numbers_over m.placed).place below_stack 8 Write ≡ Ok p
      → step_of numbers prog m ≡ Moved (record m { registers = put Rsp below_stack; memory = written_at m.memory p (eight_bytes (rejoined (get Rax))); point = prog.next m.point })
  unfolding rejoined
  push-step p e w = ap stepping e ∙ rw w refl

  pub pop-step : (p : Place) → prog.insn m.point ≡ Some (Pop (operand.Reg Rax)) → (numbers_over m.placed).place (rejoined (get Rsp)) 8 Read ≡ Ok p
      → step_of numbers prog m ≡ Moved (record m {
        registers = slice_set (put Rsp (address_sum (Some (rejoined (get Rsp))) None (pos 8))) (code_of Rax) (rejoined (number_at m.memory p));
        point = prog.next m.point;
      })
  unfolding rejoined
  pop-step p e w = ap stepping e ∙ rw w refl

-- ---- the same with numbers of 64 bits

pub rejoined-64 : (n : ℕ) → rejoined n ≡ n % 2 ^ 64
unfolding rejoined
rejoined-64 n = rejoined-is n

pub rejoined-fits : (n : ℕ) → n < 2 ^ 64 → rejoined n ≡ n
unfolding rejoined
rejoined-fits n h = rejoined-same n h

pub sum-below : (n : ℕ) (disp : ℤ) → address_sum (Some n) None disp < 2 ^ 64
sum-below n disp = low_below Q (n + 0 + wrapped_number Q disp)

module _ {P R : Type 0} (prog : Program P R ℕ) (m : Machine Placed ℕ ℕ P) where
  pub load-fits : (k : R) (r : Reg) (p : Place) → prog.insn m.point ≡ Some (Mov Q (operand.Reg r) (operand.Mem (Rel k))) → (numbers_over m.placed).place (prog.resolve k false) 8 Read ≡ Ok p
      → step_of numbers prog m ≡ Moved (record m { registers = slice_set m.registers (code_of r) (number_at m.memory p % 2 ^ 64); point = prog.next m.point })
  load-fits k r p e w = load-step prog m k r p e w ∙ ap (λ n. Moved (record m { registers = slice_set m.registers (code_of r) n; point = prog.next m.point })) (rejoined-64 (number_at m.memory p))

  pub sum-fits : (r : Reg) (disp : ℤ) → prog.insn m.point ≡ Some (sum_to r disp) → slice_index_or m.registers (code_of r) 0 < 2 ^ 64
      → step_of numbers prog m ≡ Moved (record m { registers = slice_set m.registers (code_of r) (address_sum (Some (slice_index_or m.registers (code_of r) 0)) None disp); point = prog.next m.point })
  sum-fits r disp e h =
      sum-step prog m r disp e
      ∙ ap (λ n. Moved (record m { registers = slice_set m.registers (code_of r) (rejoined (address_sum (Some n) None disp)); point = prog.next m.point })) (rejoined-fits (slice_index_or m.registers (code_of r) 0) h)
      ∙ ap (λ n. Moved (record m { registers = slice_set m.registers (code_of r) n; point = prog.next m.point })) (rejoined-fits (address_sum (Some (slice_index_or m.registers (code_of r) 0)) None disp) (sum-below (slice_index_or m.registers (code_of r) 0) disp))

  pub store-fits : (k : R) (r : Reg) (p : Place) → prog.insn m.point ≡ Some (Mov Q (operand.Mem (Rel k)) (operand.Reg r)) → (numbers_over m.placed).place (prog.resolve k false) 8 Write ≡ Ok p → slice_index_or m.registers (code_of r) 0 < 2 ^ 64
      → step_of numbers prog m ≡ Moved (record m { memory = written_at m.memory p (eight_bytes (slice_index_or m.registers (code_of r) 0)); point = prog.next m.point })
  store-fits k r p e w h =
      store-step prog m k r p e w ∙ ap (λ n. Moved (record m { memory = written_at m.memory p (eight_bytes n); point = prog.next m.point })) (rejoined-fits (slice_index_or m.registers (code_of r) 0) h)

  pub push-fits : (p : Place) → prog.insn m.point ≡ Some (Push (operand.Reg Rax)) → (numbers_over m.placed).place (address_sum (Some (slice_index_or m.registers 4 0)) None (negsuc 7)) 8 Write ≡ Ok p
      → slice_index_or m.registers 4 0 < 2 ^ 64 → slice_index_or m.registers 0 0 < 2 ^ 64
      → step_of numbers prog m ≡ Moved (record m {
        registers = slice_set m.registers 4 (address_sum (Some (slice_index_or m.registers 4 0)) None (negsuc 7));
        memory = written_at m.memory p (eight_bytes (slice_index_or m.registers 0 0));
        point = prog.next m.point;
      })
  push-fits p e w h g =
      let sp : rejoined (slice_index_or m.registers 4 0) ≡ slice_index_or m.registers 4 0 = rejoined-fits (slice_index_or m.registers 4 0) h in
      let place : (numbers_over m.placed).place (address_sum (Some (rejoined (slice_index_or m.registers 4 0))) None (negsuc 7)) 8 Write ≡ Ok p = ap (λ n. (numbers_over m.placed).place (address_sum (Some n) None (negsuc 7)) 8 Write) sp ∙ w in
      push-step prog m p e place
      ∙ ap (λ n. Moved (record m { registers = slice_set m.registers 4 (rejoined (address_sum (Some n) None (negsuc 7))); memory = written_at m.memory p (eight_bytes (rejoined (slice_index_or m.registers 0 0))); point = prog.next m.point })) sp
      ∙ ap (λ n. Moved (record m { registers = slice_set m.registers 4 n; memory = written_at m.memory p (eight_bytes (rejoined (slice_index_or m.registers 0 0))); point = prog.next m.point })) (rejoined-fits (address_sum (Some (slice_index_or m.registers 4 0)) None (negsuc 7)) (sum-below (slice_index_or m.registers 4 0) (negsuc 7)))
      ∙ ap (λ n. Moved (record m { registers = slice_set m.registers 4 (address_sum (Some (slice_index_or m.registers 4 0)) None (negsuc 7)); memory = written_at m.memory p (eight_bytes n); point = prog.next m.point })) (rejoined-fits (slice_index_or m.registers 0 0) g)

  pub pop-fits : (p : Place) → prog.insn m.point ≡ Some (Pop (operand.Reg Rax)) → (numbers_over m.placed).place (slice_index_or m.registers 4 0) 8 Read ≡ Ok p → slice_index_or m.registers 4 0 < 2 ^ 64
      → step_of numbers prog m ≡ Moved (record m {
        registers = slice_set (slice_set m.registers 4 (address_sum (Some (slice_index_or m.registers 4 0)) None (pos 8))) 0 (number_at m.memory p % 2 ^ 64);
        point = prog.next m.point;
      })
  pop-fits p e w h =
      let sp : rejoined (slice_index_or m.registers 4 0) ≡ slice_index_or m.registers 4 0 = rejoined-fits (slice_index_or m.registers 4 0) h in
      let place : (numbers_over m.placed).place (rejoined (slice_index_or m.registers 4 0)) 8 Read ≡ Ok p = ap (λ n. (numbers_over m.placed).place n 8 Read) sp ∙ w in
      pop-step prog m p e place
      ∙ ap (λ n. Moved (record m { registers = slice_set (slice_set m.registers 4 (rejoined (address_sum (Some n) None (pos 8)))) 0 (rejoined (number_at m.memory p)); point = prog.next m.point })) sp
      ∙ ap (λ n. Moved (record m { registers = slice_set (slice_set m.registers 4 n) 0 (rejoined (number_at m.memory p)); point = prog.next m.point })) (rejoined-fits (address_sum (Some (slice_index_or m.registers 4 0)) None (pos 8)) (sum-below (slice_index_or m.registers 4 0) (pos 8)))
      ∙ ap (λ n. Moved (record m { registers = slice_set (slice_set m.registers 4 (address_sum (Some (slice_index_or m.registers 4 0)) None (pos 8))) 0 n; point = prog.next m.point })) (rejoined-64 (number_at m.memory p))
