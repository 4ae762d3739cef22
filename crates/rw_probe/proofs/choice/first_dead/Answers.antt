use Rattle.std.proofs.Common.{◌≡◌, sym, subst, ◌∙◌, All, true, false}
use Rattle.std.proofs.lemmas.List.Elements.{All-more, All-nil}
use Rattle.x86_insn.specs.declared.kinds.Reg.TheVariants.{Rax}
use Rattle.rw_funcs.proofs.FunctionsOf.{take-whole}
use Rattle.rw_live.specs.Liveness.{IsLive}
use Rattle.rw_probe.specs.Probes.{counting_registers}
use Rattle.rw_probe.proofs.OneProbe.{first-at}
use Rattle.rw_probe.proofs.choice.first_dead.Goals as goal

pub loop-r-init : goal.loop-r-init
loop-r-init c = λ points of. All-nil (IsLive points c.args.c)

pub returns-then-not-reg_live : goal.returns-then-not-reg_live
returns-then-not-reg_live c = λ points of.
    first-at points c.args.c counting_registers c.loop-r.r-index Rax c.loop-r-test.true (c.loop-r.invariant points of)
    (λ live. let is = c.reg_live.ensures points of in let yes_ = is.1 live in let never : true ≡ false = sym yes_ ∙ c.if-not-reg_live.true in absurd (cc))

pub loop-r-preserved : goal.loop-r-preserved
loop-r-preserved c = λ points of. All-more (IsLive points c.args.c) counting_registers c.loop-r.r-index Rax c.loop-r-test.true (c.loop-r.invariant points of) ((c.reg_live.ensures points of).0 c.if-not-reg_live.false)

pub returns : goal.returns
returns c = λ points of. subst (All (IsLive points c.args.c)) (take-whole c.loop-r.r-index counting_registers c.loop-r-test.false) (c.loop-r.invariant points of)
