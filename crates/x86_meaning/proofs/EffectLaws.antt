-- The effects of a micro list are those of the row, and are what is gathered from it.
use Rattle.std.proofs.Common.{◌≡◌, List, [], ◌∷◌, None, ◌∙◌, ap, sym}
use Rattle.x86_insn.specs.declared.instruction.Insn.{Insn}
use Rattle.x86_meaning.specs.Meaning.{micro_of}
use Rattle.x86_meaning.specs.Sets.{set_of, flag_set}
use Rattle.x86_meaning.specs.declared.effect_sets.Effects.{Effects}
use Rattle.x86_meaning.specs.declared.effect_sets.Gathered.{Gathered}
use Rattle.x86_meaning.specs.declared.operations.Micro.{Micro}
use Rattle.x86_meaning.specs.Effects.{no_effects, joined, effects_at, made_number, effects_from, effects_of}
use Rattle.x86_meaning.specs.Sinks.{after_all}
use Rattle.x86_meaning.proofs.SetLaws.{effects_from_lists, same_five, joined_assoc, joined_none, none_joined}
use Rattle.x86_meaning.proofs.RegisterLaws.{fetched-micro, changed-micro, whole-micro}
use Rattle.x86_meaning.proofs.FlagLaws.{needed-micro, settled-micro}

pub effects_from-micro : {R : Type 0} (i : Insn R) → effects_from None (micro_of i) ≡ effects_of i
effects_from-micro i = effects_from_lists None (micro_of i) ∙ same_five (ap set_of (fetched-micro i)) (ap set_of (whole-micro i)) (ap set_of (changed-micro i)) (ap flag_set (needed-micro None i)) (ap flag_set (settled-micro None i))

abbrev gathered_one : Gathered → Micro → Gathered
gathered_one g m = record { all = joined g.all (effects_at g.number m); number = made_number m }

gathered_from : (g : Gathered) (ms : List Micro) → (after_all gathered_one g ms).all ≡ joined g.all (effects_from g.number ms)
gathered_from g [] = sym (joined_none g.all)
gathered_from g (m ∷ ms) = gathered_from (gathered_one g m) ms ∙ joined_assoc g.all (effects_at g.number m) (effects_from (made_number m) ms)

-- what is gathered from the small operations of an instruction, begun with nothing
pub gathered-micro : {R : Type 0} (none : Effects) (i : Insn R) → none ≡ no_effects → (after_all gathered_one (record { all = none; number = None }) (micro_of i)).all ≡ effects_of i
gathered-micro none i e =
    gathered_from (record { all = none; number = None }) (micro_of i)
    ∙ ap (λ v. joined v (effects_from None (micro_of i))) e
    ∙ none_joined (effects_from None (micro_of i))
    ∙ effects_from-micro i
