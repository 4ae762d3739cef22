-- What contracts see of the registers, of memory, and of what an instruction has done so far.
use Rattle.std.specs.Prelude.{List, [], ◌∷◌, map, length, ◌≡◌, ◌+◌, ◌<◌, ◌≤◌, ℕ, slice_index_or}
use Rattle.rw_domain.specs.declared.place.Region.{Region}
use Rattle.rw_domain.specs.declared.place.Place.{Place}
use Rattle.rw_domain.specs.Operators.{Operators}
use Rattle.rw_domain.specs.declared.eight.Eight.{Eight}
use Rattle.rw_domain.specs.Eight.{eight_of}
use Rattle.rw_machine.specs.declared.registers.Registers.{Registers}
use Rattle.rw_machine.specs.declared.memory.Memory.{Memory}
use Rattle.rw_machine.specs.declared.running.Dues.{Dues}
use Rattle.rw_machine.specs.declared.running.Dues.TheVariants as code
use Rattle.rw_machine.specs.declared.running.Running.{Running as RunningCode}
use Rattle.rw_machine.specs.Running.{Due, Running}

-- the registers in the order of their codes
abbrev pub registers_of : {W : Type 0} → Registers W → List W
registers_of r =
    r.rax ∷ r.rcx ∷ r.rdx ∷ r.rbx ∷ r.rsp ∷ r.rbp ∷ r.rsi ∷ r.rdi ∷ r.r8 ∷ r.r9 ∷ r.r10 ∷ r.r11 ∷ r.r12 ∷ r.r13 ∷ r.r14 ∷ r.r15 ∷ []

abbrev pub rows_of : {C : Type 0} → Memory C → List (List C)
rows_of m = map (λ row. row.items) m.rows.items

-- memory has a row of bytes for each region, as long as the region
abbrev pub IsLaidOut : {C : Type 0} → List Region → List (List C) → Type 0
IsLaidOut regions rows = map length rows ≡ map (λ r. r.size) regions

-- there are so many bytes from a place on
pub record HasRange {C : Type 0} (rows : List (List C)) (p : Place) (len : ℕ) : Type 0 where
  pub region : p.region < length rows
  pub bytes : p.offset + len ≤ length (slice_index_or rows p.region [])

abbrev pub dues_of : {V : Type 0} → Dues V → List (Due V)
dues_of code.Nothing = []
dues_of (code.One d) = d ∷ []
dues_of (code.Two c d) = c ∷ d ∷ []

abbrev pub running_of : {V : Type 0} → RunningCode V → Running V
running_of r = record {
  temps = eight_of r.temps;
  registers = registers_of r.registers;
  flags = r.flags;
  due = dues_of r.due;
  goal = r.goal;
  ask = r.ask;
  cause = r.cause;
}

-- the bytes of a word from one on
abbrev pub eight_bytes : {V C : Type 0} → Operators V C → ℕ → V → Eight C
eight_bytes ops k v = record {
  b0 = ops.split v k;
  b1 = ops.split v (k + 1);
  b2 = ops.split v (k + 2);
  b3 = ops.split v (k + 3);
  b4 = ops.split v (k + 4);
  b5 = ops.split v (k + 5);
  b6 = ops.split v (k + 6);
  b7 = ops.split v (k + 7);
}

-- the first eight bytes of a row; where there are fewer, another byte
abbrev pub eight_read : {C : Type 0} → List C → C → Eight C
eight_read bytes other = record {
  b0 = slice_index_or bytes 0 other;
  b1 = slice_index_or bytes 1 other;
  b2 = slice_index_or bytes 2 other;
  b3 = slice_index_or bytes 3 other;
  b4 = slice_index_or bytes 4 other;
  b5 = slice_index_or bytes 5 other;
  b6 = slice_index_or bytes 6 other;
  b7 = slice_index_or bytes 7 other;
}
