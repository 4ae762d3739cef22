use Rattle.std.proofs.Common.{◌≡◌, None, sym, ap, ◌∙◌, rules}
use Rattle.std.specs.Option.{option_or}
use Rattle.rw_refs.specs.References.{copy_at, end_at, inside_at, start_at}
use Rattle.rw_refs.proofs.Data.{kept-first, start-inside}
use Rattle.rw_refs.proofs.references.data_at.Goals as goal

pub returns : goal.returns
returns c =
    let bytes = c.args.elf.now in
    let a = c.args.address in
    let none : copy_at c.args.elf.now c.args.address ≡ None = search rules in
    c.or.ensures ∙ ap (λ i. option_or i c.end_at.result) c.inside_at.ensures ∙ ap (option_or (inside_at bytes a)) c.end_at.ensures
    ∙ kept-first (start_at bytes a) (inside_at bytes a) (end_at bytes a) (start-inside bytes a c.file-file.ensures.clean)
    ∙ sym (ap (λ o. option_or o (option_or (start_at bytes a) (option_or (inside_at bytes a) (option_or (end_at bytes a) None)))) none)
