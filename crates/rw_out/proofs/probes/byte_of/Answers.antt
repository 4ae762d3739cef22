use Rattle.std.proofs.Common.{◌≡◌, sym, suc, ◌+◌, ap, ◌∙◌, arith}
use Rattle.x86_insn.specs.WellFormed.{code_of}
use Rattle.rw_probe.specs.declared.form.Probe.TheVariants.{Dead}
use Rattle.rw_out.specs.Kept.{probe_of_byte}
use Rattle.rw_out.proofs.Registers.{register-back}
use Rattle.rw_out.proofs.probes.byte_of.Goals as goal

pub returns-in-Dead-clause-back : goal.returns-in-Dead-clause-back
returns-in-Dead-clause-back c =
    let code = c.code.ensures in
    let byte : 2 + c.code.result ≡ suc (suc (code_of c.in-Dead.register)) = omega (arith, code) in
    ap probe_of_byte byte ∙ ap Dead (register-back c.in-Dead.register) ∙ sym c.in-Dead.is
