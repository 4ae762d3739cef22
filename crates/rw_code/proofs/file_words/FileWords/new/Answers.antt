use Rattle.std.proofs.Common.{◌≡◌, ◌<◌, All, None, subst}
use Rattle.rw_base.specs.Rules.{first}
use Rattle.rw_funcs.specs.Found.{found_rules}
use Rattle.rw_code.proofs.HasPoints.{symbolic-gives}
use Rattle.rw_code.proofs.file_words.FileWords.new.Goals as goal

pub invariant_of-result : goal.invariant_of-result
invariant_of-result c =
    let found = subst (λ file. first (found_rules file) ≡ None) c.requires.funcs c.list-list.ensures.clean in
    let bytes = subst (All (λ b. b < 256)) c.file.ensures.bytes c.are_bytes.ensures in
    record {
      same_relocs = c.requires.relocs;
      same_funcs = c.requires.funcs;
      clean_file = c.file.ensures.clean;
      clean = found;
      instructions = symbolic-gives c.args.elf.now bytes c.file.ensures.clean found;
    }
