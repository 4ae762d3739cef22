use Rattle.std.proofs.Common.{ℕ, List, ap, subst, ◌∙◌, Err}
use Rattle.std.specs.Prelude.{IfSome}
use Rattle.rw_io.specs.Outside.{FileAnswer, file_at}
use Rattle.retro.specs.Asked.{asked}
use Rattle.retro.proofs.Answers.{refused_large}
use Rattle.retro.proofs.command.act_on_file.Goals as goal

pub returns-in-Err-TooLarge-clause-answer : goal.returns-in-Err-TooLarge-clause-answer
returns-in-Err-TooLarge-clause-answer g c =
    let told = g.F.Files.told c.args.files.now in
    rw c.in-Err-TooLarge.field-0-is (refused_large told (asked c.args.command) c.read_all.result c.in-Err-TooLarge.n (c.in-Err-TooLarge.is ∙ ap Err c.in-Err-TooLarge.field-0-is) c.read_all.ensures.bound
    (subst (λ (name : List ℕ). IfSome told (λ files. FileAnswer (file_at files name) 16777216 c.read_all.result)) c.name.ensures c.read_all.ensures.bytes))
