-- When two machines hold the same words and flags, and are equal in all else.
use Rattle.std.specs.Prelude.{◌≡◌, ◌⊎◌, List, length, slice_get}
use Rattle.std.specs.List.{Contains}
use Rattle.x86_insn.specs.declared.kinds.Reg.{Reg}
use Rattle.x86_insn.specs.declared.kinds.Reg.TheVariants.{Rsp}
use Rattle.x86_insn.specs.WellFormed.{code_of}
use Rattle.x86_meaning.specs.declared.sets.Flag.{Flag}
use Rattle.x86_meaning.specs.declared.sets.Flag.TheVariants.{Cf, Zf, Sf, Of, Pf}
use Rattle.rw_domain.specs.declared.flags.Tri.{Tri}
use Rattle.rw_domain.specs.declared.flags.Flags.{Flags}
use Rattle.rw_machine.specs.Step.{Machine}

-- a flag by its name
abbrev pub flag_of : Flag → Flags → Tri
flag_of Cf flags = flags.cf
flag_of Zf flags = flags.zf
flag_of Sf flags = flags.sf
flag_of Of flags = flags.of
flag_of Pf flags = flags.pf

-- the same word in a register, of two lists of registers
abbrev pub SameWord : {V : Type 0} → Reg → List V → List V → Type 0
SameWord r a b = slice_get a (code_of r) ≡ slice_get b (code_of r)

abbrev pub SameFlag : Flag → Flags → Flags → Type 0
SameFlag x f g = flag_of x f ≡ flag_of x g

-- Two machines agree on registers and flags: these are the same, and so are %rsp, memory, regions and point.
pub record Agree {D V C P : Type 0} (on : Reg → Type 0) (and_on : Flag → Type 0) (m o : Machine D V C P) : Type 0 where
  pub count : length m.registers ≡ length o.registers
  pub stack : SameWord Rsp m.registers o.registers
  pub registers : (r : Reg) → on r → SameWord r m.registers o.registers
  pub flags : (x : Flag) → and_on x → SameFlag x m.flags o.flags
  pub memory : m.memory ≡ o.memory
  pub placed : m.placed ≡ o.placed
  pub point : m.point ≡ o.point

module _ {D V C P : Type 0} (m o : Machine D V C P) where
  -- a register that is the same in both, or one of a list
  abbrev pub SameOrOneOf : List Reg → Reg → Type 0
  SameOrOneOf regs r = SameWord r m.registers o.registers ⊎ Contains regs r

  abbrev pub SameFlagOrOneOf : List Flag → Flag → Type 0
  SameFlagOrOneOf flags x = SameFlag x m.flags o.flags ⊎ Contains flags x

  -- Two machines after these: they agree on all on which these agree, and on some registers and flags besides.
  abbrev pub AgreeStill : List Reg → List Flag → Machine D V C P → Machine D V C P → Type 0
  AgreeStill regs flags n p = Agree (SameOrOneOf regs) (SameFlagOrOneOf flags) n p
