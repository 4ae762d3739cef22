-- Sets of registers and of flags, as numbers: the bit of each one's code.
use Rattle.std.specs.Prelude.{ℕ, ◌^◌, List, [], ◌∷◌, bit_or}
use Rattle.x86_insn.specs.declared.kinds.Reg.{Reg}
use Rattle.x86_insn.specs.WellFormed.{code_of}
use Rattle.x86_meaning.specs.declared.sets.Flag.{Flag}
use Rattle.x86_meaning.specs.declared.sets.Flag.TheVariants.{Cf, Zf, Sf, Of, Pf}

abbrev pub set_of : List Reg → ℕ
set_of [] = 0
set_of (r ∷ rs) = bit_or (2 ^ code_of r) (set_of rs)

-- the code of a flag
abbrev pub flag_code : Flag → ℕ
flag_code Cf = 0
flag_code Zf = 1
flag_code Sf = 2
flag_code Of = 3
flag_code Pf = 4

abbrev pub flag_set : List Flag → ℕ
flag_set [] = 0
flag_set (f ∷ fs) = bit_or (2 ^ flag_code f) (flag_set fs)

abbrev pub all_flags : List Flag
all_flags = Cf ∷ Zf ∷ Sf ∷ Of ∷ Pf ∷ []
