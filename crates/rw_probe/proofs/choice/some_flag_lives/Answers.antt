use Rattle.std.proofs.Common.{◌≡◌, get_or, sym, subst, ◌∙◌, All, true, false}
use Rattle.std.proofs.lemmas.List.Elements.{All-more, All-nil, Contains-get_or}
use Rattle.x86_meaning.specs.declared.sets.Flag.TheVariants.{Cf}
use Rattle.rw_funcs.proofs.FunctionsOf.{take-whole}
use Rattle.rw_live.specs.Liveness.{IsFlagLive}
use Rattle.rw_probe.specs.Probes.{counting_flags}
use Rattle.rw_probe.proofs.choice.some_flag_lives.Goals as goal

pub loop-flag-init : goal.loop-flag-init
loop-flag-init c = λ points of. All-nil (λ x. ¬ IsFlagLive points c.args.c x)

pub returns-then-flag_live : goal.returns-then-flag_live
returns-then-flag_live c = λ points of. let here = Contains-get_or counting_flags c.loop-flag.flag-index Cf c.loop-flag-test.true in (here.0, get_or counting_flags c.loop-flag.flag-index Cf, here.1, here.2, (c.flag_live.ensures points of).0 c.if-flag_live.true)

pub loop-flag-preserved : goal.loop-flag-preserved
loop-flag-preserved c = λ points of. All-more (λ x. ¬ IsFlagLive points c.args.c x) counting_flags c.loop-flag.flag-index Cf c.loop-flag-test.true (c.loop-flag.invariant points of) (λ live. let never : true ≡ false = sym ((c.flag_live.ensures points of).1 live) ∙ c.if-flag_live.false in absurd (cc))

pub returns : goal.returns
returns c = λ points of. subst (All (λ x. ¬ IsFlagLive points c.args.c x)) (take-whole c.loop-flag.flag-index counting_flags c.loop-flag-test.false) (c.loop-flag.invariant points of)
