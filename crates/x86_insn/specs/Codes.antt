-- Which register and which condition a code names: that at its place in the list
-- (Intel SDM vol. 2, 2.2.1.2 on registers, B.1.4.7 on conditions).
use Rattle.std.specs.Prelude.{List, [], ◌∷◌}
use Rattle.x86_insn.specs.declared.kinds.Reg.{Reg}
use Rattle.x86_insn.specs.declared.kinds.Reg.TheVariants.{Rax, Rcx, Rdx, Rbx, Rsp, Rbp, Rsi, Rdi, R8, R9, R10, R11, R12, R13, R14, R15}
use Rattle.x86_insn.specs.declared.kinds.Cond.{Cond}
use Rattle.x86_insn.specs.declared.kinds.Cond.TheVariants as c

abbrev pub registers : List Reg
registers = Rax ∷ Rcx ∷ Rdx ∷ Rbx ∷ Rsp ∷ Rbp ∷ Rsi ∷ Rdi ∷ R8 ∷ R9 ∷ R10 ∷ R11 ∷ R12 ∷ R13 ∷ R14 ∷ R15 ∷ []

abbrev pub conditions : List Cond
conditions = c.O ∷ c.No ∷ c.B ∷ c.Ae ∷ c.E ∷ c.Ne ∷ c.Be ∷ c.A ∷ c.S ∷ c.Ns ∷ c.P ∷ c.Np ∷ c.L ∷ c.Ge ∷ c.Le ∷ c.G ∷ []

-- what stands where a code is past the list
abbrev pub first_register : Reg
first_register = Rax

abbrev pub first_condition : Cond
first_condition = c.O
