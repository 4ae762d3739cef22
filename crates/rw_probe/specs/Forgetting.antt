-- What a machine over words may still know behind a probe, where it corresponds to the machine that makes the probe.
use Rattle.std.specs.Prelude.{◌≡◌, ◌≢◌, ◌<◌, ℕ, negsuc, ◌+◌, ◌*◌, ◌%◌, ◌^◌, List, flat_map, length, replicate, All, Bool, true, false, not, nat_eq, Some, None, Ok, slice_set, slice_get, slice_index}
use Rattle.x86_insn.specs.declared.kinds.Reg.{Reg}
use Rattle.x86_insn.specs.declared.kinds.Reg.TheVariants.{Rsp}
use Rattle.x86_insn.specs.WellFormed.{code_of}
use Rattle.x86_meaning.specs.declared.sets.Flag.{Flag}
use Rattle.x86_meaning.specs.declared.sets.Flag.TheVariants.{Cf, Zf, Sf, Of, Pf}
use Rattle.rw_words.specs.declared.atom.Cell.{Cell}
use Rattle.rw_words.specs.declared.atom.Cell.TheVariants.{Undef}
use Rattle.rw_words.specs.Words.{eight_bytes}
use Rattle.rw_domain.specs.declared.place.Access.TheVariants.{Write}
use Rattle.rw_domain.specs.declared.place.Place.{Place}
use Rattle.rw_domain.specs.declared.place.Region.{Region}
use Rattle.rw_domain.specs.Placed.{Placed}
use Rattle.rw_domain.specs.Symbols.{symbols_over}
use Rattle.rw_machine.specs.Running.{range_at, register}
use Rattle.rw_machine.specs.Step.{Machine}
use Rattle.rw_machine.specs.Views.{HasRange}
use Rattle.rw_live.specs.Weakened.{weakened_machine}
use Rattle.rw_probe.specs.declared.form.Probe.{Probe}
use Rattle.rw_probe.specs.declared.form.Probe.TheVariants.{Inc, Dead, Spill}

-- the registers and flags that a probe keeps
abbrev pub keeps : Probe → Reg → Bool
keeps (Dead r) q = not (nat_eq (code_of q) (code_of r))
keeps Inc q = true
keeps Spill q = true

abbrev pub is_carry : Flag → Bool
is_carry Cf = true
is_carry Zf = false
is_carry Sf = false
is_carry Of = false
is_carry Pf = false

abbrev pub keeps_flag : Probe → Flag → Bool
keeps_flag Inc x = is_carry x
keeps_flag (Dead r) x = true
keeps_flag Spill x = true

-- the machine without the others
abbrev pub forgotten : {D C P : Type 0} → Probe → Machine D (List Cell) C P → Machine D (List Cell) C P
forgotten probe m = weakened_machine (keeps probe) (keeps_flag probe) m

module _ {P : Type 0} (m : Machine Placed (List Cell) Cell P) where
  -- sixteen registers of eight cells
  pub record HasWords : Type 0 where
    pub count : length m.registers ≡ 16
    pub wide : All (λ word. length word ≡ 8) m.registers

  -- the eight cells from %rsp - 136 on may be written, and none of them is known
  pub record HasFreeRoom (saved : Place) : Type 0 where
    pub below : (symbols_over m.placed).place ((symbols_over m.placed).sum (Some (register (symbols_over m.placed) m.registers Rsp)) None (negsuc 135)) 8 Write ≡ Ok saved
    pub unknown : range_at m.memory saved 8 ≡ replicate 8 Undef

  -- The region of the stack stands two before the canary. All its bytes may be read and written.
  pub record HasStack (number : ℕ) (stack : Region) : Type 0 where
    pub before : number + 2 ≡ m.placed.canary
    pub region : slice_get m.placed.regions number ≡ Some stack
    pub writable : stack.writable ≡ true
    pub small : stack.size < 2 ^ 64
    pub whole : All (λ hole. hole.region ≢ number) m.placed.holes
    pub range : HasRange m.memory (record { region = number; offset = 0 }) stack.size

  abbrev pub HasFreeRoomFor : Probe → Place → Type 0
  HasFreeRoomFor Spill saved = HasFreeRoom saved
  HasFreeRoomFor Inc saved = Unit {0}
  HasFreeRoomFor (Dead r) saved = Unit {0}

-- ---- counters

-- the bytes of counters, eight each
abbrev pub counter_bytes : List ℕ → List ℕ
counter_bytes counts = flat_map eight_bytes counts

-- the place of a counter in its region
abbrev pub counter_place : ℕ → ℕ → Place
counter_place region k = record { region = region; offset = 8 * k }

-- counters of which one is one more, modulo 2 ^ 64
abbrev pub incremented : ℕ → List ℕ → List ℕ
incremented k counts = slice_set counts k ((slice_index counts k + 1) % 2 ^ 64)
