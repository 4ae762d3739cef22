-- What the instructions of a probe do to a machine over numbers.
use Rattle.std.specs.Prelude.{◌≡◌, ◌≢◌, ℕ, negsuc, ◌+◌, ◌%◌, ◌^◌, ◌<◌, List, [], ◌∷◌, length, All, Some, None, Ok, slice_set, slice_index}
use Rattle.x86_insn.specs.declared.kinds.Reg.TheVariants.{Rax, Rsp}
use Rattle.x86_insn.specs.declared.instruction.Insn.{Insn}
use Rattle.x86_insn.specs.WellFormed.{code_of}
use Rattle.rw_words.specs.Words.{eight_bytes, number_of_bytes}
use Rattle.rw_domain.specs.declared.flags.Flags.{Flags}
use Rattle.rw_domain.specs.declared.place.Access.TheVariants.{Write}
use Rattle.rw_domain.specs.declared.place.Place.{Place}
use Rattle.rw_domain.specs.Placed.{Placed}
use Rattle.rw_domain.specs.NumberPlaces.{numbers_over}
use Rattle.rw_domain.specs.Numbers.{address_sum}
use Rattle.rw_machine.specs.Program.{Program}
use Rattle.rw_machine.specs.Running.{range_at, written_at}
use Rattle.rw_machine.specs.Step.{Machine}
use Rattle.rw_machine.specs.Views.{HasRange}
use Rattle.rw_probe.specs.declared.form.Probe.{Probe}
use Rattle.rw_probe.specs.declared.form.Probe.TheVariants.{Inc, Dead, Spill}

-- instructions stand one after another from a point on, and end is the point behind the last
abbrev pub StandFrom : {P R V : Type 0} → Program P R V → P → List (Insn R) → P → Type 0
StandFrom prog p [] end = p ≡ end
StandFrom prog p (i ∷ is) end = (prog.insn p ≡ Some i) × StandFrom prog (prog.next p) is end

module _ {P : Type 0} (m : Machine Placed ℕ ℕ P) where
  -- an address is that of eight bytes at a place, which may be written
  pub record IsEightBytes (address : ℕ) (place : Place) : Type 0 where
    pub writable : (numbers_over m.placed).place address 8 Write ≡ Ok place
    pub range : HasRange m.memory place 8

  -- sixteen registers of 64 bits
  pub record HasRegisters : Type 0 where
    pub count : length m.registers ≡ 16
    pub fit : All (λ n. n < 2 ^ 64) m.registers

  -- eight bytes from %rsp - 136 on, below the red zone and the 8 bytes of a push, in another region than the counter
  pub record HasRoom (counter saved : Place) : Type 0 where
    pub below : IsEightBytes (address_sum (Some (slice_index m.registers (code_of Rsp))) None (negsuc 135)) saved
    pub apart : saved.region ≢ counter.region

  -- only a spill needs room
  abbrev pub HasRoomFor : Probe → Place → Place → Type 0
  HasRoomFor Spill counter saved = HasRoom counter saved
  HasRoomFor Inc counter saved = Unit {0}
  HasRoomFor (Dead r) counter saved = Unit {0}

-- the number of eight bytes, and the next one of 64 bits
abbrev pub next_number : List (List ℕ) → Place → ℕ
next_number memory place = (number_of_bytes (range_at memory place 8) + 1) % 2 ^ 64

-- memory with the next number in these bytes
abbrev pub counted : List (List ℕ) → Place → List (List ℕ)
counted memory place = written_at memory place (eight_bytes (next_number memory place))

module _ (counter saved : Place) where
  -- A spill leaves %rax in the eight bytes below the red zone. No other byte is changed but those of the counter.
  abbrev pub memory_behind : Probe → List ℕ → List (List ℕ) → List (List ℕ)
  memory_behind Spill registers memory = counted (written_at memory saved (eight_bytes (slice_index registers (code_of Rax)))) counter
  memory_behind Inc registers memory = counted memory counter
  memory_behind (Dead r) registers memory = counted memory counter

  -- the register that a probe goes through has the number, and no other register is changed
  abbrev pub registers_behind : Probe → List ℕ → List (List ℕ) → List ℕ
  registers_behind (Dead r) registers memory = slice_set registers (code_of r) (next_number memory counter)
  registers_behind Inc registers memory = registers
  registers_behind Spill registers memory = registers

-- incq keeps CF, and the other probes keep every flag
abbrev pub FlagsBehind : Probe → Flags → Flags → Type 0
FlagsBehind Inc before after = after.cf ≡ before.cf
FlagsBehind (Dead r) before after = after ≡ before
FlagsBehind Spill before after = after ≡ before

-- one machine is what a probe leaves of another
pub record Counts {P : Type 0} (probe : Probe) (counter saved : Place) (m n : Machine Placed ℕ ℕ P) : Type 0 where
  pub memory : n.memory ≡ memory_behind counter saved probe m.registers m.memory
  pub registers : n.registers ≡ registers_behind counter saved probe m.registers m.memory
  pub flags : FlagsBehind probe m.flags n.flags
  pub placed : n.placed ≡ m.placed
