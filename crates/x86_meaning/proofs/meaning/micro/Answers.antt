use Rattle.std.proofs.Common.{◌≤◌, ◌++◌, List, length, ap, subst, ◌∙◌}
use Rattle.arrayvec.specs.ArrayVec.{ArrayVec}
use Rattle.x86_meaning.specs.declared.operations.Micro.{Micro}
use Rattle.x86_meaning.specs.Meaning.{micro_of}
use Rattle.x86_meaning.proofs.SinkLaws.{after_all_pushed}
use Rattle.x86_meaning.proofs.meaning.micro.Goals as goal

pub returns-clause-items : goal.returns-clause-items
returns-clause-items g c =
    ap (λ (v : ArrayVec Micro). v.items) c.push_operations.ensures
    ∙ after_all_pushed c.new-list.result (micro_of c.args.insn.now)
    ∙ ap (λ (xs : List Micro). xs ++ micro_of c.args.insn.now) c.new-list.ensures

pub returns-clause-bound : goal.returns-clause-bound
returns-clause-bound g c =
    let most : length c.push_operations.new.sink.items ≤ 16 = subst (λ xs. length xs ≤ 16) c.as_slice-fits.ensures.value c.as_slice-fits.ensures.fits in
    subst (λ xs. length xs ≤ 16) (returns-clause-items g c) most
