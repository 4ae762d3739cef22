use Rattle.std.proofs.Common.{◌≡◌, ◌<◌, None, All, sym, ap, subst, ◌∙◌}
use Rattle.std.specs.List.{position}
use Rattle.rw_base.specs.Rules.{first}
use Rattle.rw_funcs.specs.Functions.{function_rules}
use Rattle.rw_funcs.specs.Found.{AreApart, AreFunctionsOf, IsOutside, lies_in}
use Rattle.rw_funcs.proofs.CodeFacts.{sections-apart, none-outside}
use Rattle.rw_funcs.proofs.FunctionsOf.{around-some, around-none, clean-functions}
use Rattle.rw_funcs.specs.Points.{file_points}
use Rattle.rw_funcs.proofs.PointFacts.{file_points-some}
use Rattle.rw_funcs.proofs.functions.Functions.section_around.Goals as goal

pub place_of-requires : goal.place_of-requires
place_of-requires c =
    subst AreApart (sym c.deref.ensures.value) (sections-apart c.self.inside.file.value c.self.inside.code.items c.self.invariant.clean_file c.self.invariant.sections)

pub returns-in-Some-clause-some : goal.returns-in-Some-clause-some
returns-in-Some-clause-some c =
    let of : AreFunctionsOf c.args.self.now c.self.inside.code.items c.self.inside.list.items c.self.inside.hosted c.self.inside.entry = subst (λ b. AreFunctionsOf b c.self.inside.code.items c.self.inside.list.items c.self.inside.hosted c.self.inside.entry) c.self.view_is c.self.invariant in
    around-some c.args.self.now c.self.inside.code.items c.self.inside.list.items c.self.inside.hosted c.self.inside.entry of c.args.address c.in-Some.place c.index.result.now
    (ap (position (lies_in c.args.address)) (sym c.deref.ensures.value) ∙ sym c.place_of.ensures ∙ c.in-Some.is) c.index.ensures

pub returns-in-None-clause-none : goal.returns-in-None-clause-none
returns-in-None-clause-none c =
    let of : AreFunctionsOf c.args.self.now c.self.inside.code.items c.self.inside.list.items c.self.inside.hosted c.self.inside.entry = subst (λ b. AreFunctionsOf b c.self.inside.code.items c.self.inside.list.items c.self.inside.hosted c.self.inside.entry) c.self.view_is c.self.invariant in
    around-none c.args.self.now c.self.inside.code.items c.self.inside.list.items c.self.inside.hosted c.self.inside.entry of c.args.address
    (ap (position (lies_in c.args.address)) (sym c.deref.ensures.value) ∙ sym c.place_of.ensures ∙ c.in-None.is)

pub returns-in-Some-clause-lengths : goal.returns-in-Some-clause-lengths
returns-in-Some-clause-lengths c = subst (λ b. All (λ p. 0 < p.len) (file_points b)) c.self.view_is (file_points-some c.self.inside.file.value c.self.invariant.clean_file (clean-functions c.self.inside.file.value c.self.invariant.clean))

pub returns-in-None-clause-lengths : goal.returns-in-None-clause-lengths
returns-in-None-clause-lengths c = subst (λ b. All (λ p. 0 < p.len) (file_points b)) c.self.view_is (file_points-some c.self.inside.file.value c.self.invariant.clean_file (clean-functions c.self.inside.file.value c.self.invariant.clean))

pub returns-in-None-clause-outside : goal.returns-in-None-clause-outside
returns-in-None-clause-outside c =
    subst (λ b. IsOutside b c.args.address) c.self.view_is (none-outside c.self.inside.file.value c.self.inside.code.items c.self.invariant.sections c.args.address
    (ap (position (lies_in c.args.address)) (sym c.deref.ensures.value) ∙ sym c.place_of.ensures ∙ c.in-None.is))

pub returns-in-Some-clause-clean : goal.returns-in-Some-clause-clean
returns-in-Some-clause-clean c = subst (λ b. first (function_rules b) ≡ None) c.self.view_is (clean-functions c.self.inside.file.value c.self.invariant.clean)

pub returns-in-None-clause-clean : goal.returns-in-None-clause-clean
returns-in-None-clause-clean c = subst (λ b. first (function_rules b) ≡ None) c.self.view_is (clean-functions c.self.inside.file.value c.self.invariant.clean)
