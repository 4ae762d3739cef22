-- The bytes of probes, back and forth.
use Rattle.std.proofs.Common.{◌≡◌, refl}
use Rattle.x86_insn.specs.declared.kinds.Reg.{Reg}
use Rattle.x86_insn.specs.declared.kinds.Reg.TheVariants.{Rax, Rcx, Rdx, Rbx, Rsp, Rbp, Rsi, Rdi, R8, R9, R10, R11, R12, R13, R14, R15}
use Rattle.x86_insn.specs.WellFormed.{code_of}
use Rattle.x86_decode.specs.Value.{register_of}

pub register-back : (r : Reg) → register_of (code_of r) ≡ r
register-back Rax = refl
register-back Rcx = refl
register-back Rdx = refl
register-back Rbx = refl
register-back Rsp = refl
register-back Rbp = refl
register-back Rsi = refl
register-back Rdi = refl
register-back R8 = refl
register-back R9 = refl
register-back R10 = refl
register-back R11 = refl
register-back R12 = refl
register-back R13 = refl
register-back R14 = refl
register-back R15 = refl
