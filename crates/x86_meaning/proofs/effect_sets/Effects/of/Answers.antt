use Rattle.std.proofs.Common.{ap, ◌∙◌}
use Rattle.x86_meaning.specs.declared.effect_sets.Gathered.{Gathered}
use Rattle.x86_meaning.proofs.EffectLaws.{gathered-micro}
use Rattle.x86_meaning.proofs.effect_sets.Effects.of.Goals as goal

pub returns : goal.returns
returns g c = ap (λ (v : Gathered). v.all) c.push_operations.ensures ∙ gathered-micro c.none.result c.args.insn.now c.none.ensures
