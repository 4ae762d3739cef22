use Rattle.std.proofs.Common.{◌≡◌, true, false, arith, sym, ap, ◌∙◌, ◌&&◌, not}
use Rattle.std.specs.List.{list_all}
use Rattle.std.proofs.lemmas.Grind.{common_steps}
use Rattle.rw_base.specs.Name.{is_good_name, is_name_byte, begins_a_name, is_own_name, is_import_name}
use Rattle.rw_elf.specs.Name.{name_bytes}
use Rattle.rw_elf.proofs.NameLength.{good_where_graphic, none_is_bad, long_is_bad}
use Rattle.rw_reloc.proofs.NameBytes.{all_graphic}
use Rattle.rw_reloc.proofs.names.is_import_name.Goals as goal
use Rattle.rw_reloc.proofs.names.is_import_name.Goals.{then-at-eq0-via-then-at-eq0, then-at-eq0-via-else-at-eq0+then-at-gt-LONGEST}

pub returns-then-at-eq0 : goal.returns-then-at-eq0
unfolding is_import_name
returns-then-at-eq0 c =
    let bad : is_good_name (name_bytes c.args.elf.now c.args.at) ≡ false = elim c.then-at-eq0.branch [
      | then-at-eq0-via-then-at-eq0 w ↦ none_is_bad c.args.elf.now c.args.at c.requires.name (omega arith)
      | then-at-eq0-via-else-at-eq0+then-at-gt-LONGEST w ↦ long_is_bad c.args.elf.now c.args.at c.requires.name (omega arith)
    ] in
    let name = name_bytes c.args.elf.now c.args.at in
    sym (ap (λ good. good && list_all is_name_byte name && begins_a_name name && not (is_own_name name)) bad)

pub returns-then-begins_a_name : goal.returns-then-begins_a_name
unfolding is_import_name
returns-then-begins_a_name c =
    let named : list_all is_name_byte (name_bytes c.args.elf.now c.args.at) ≡ true = grind (arith, common_steps) in
    let good : is_good_name (name_bytes c.args.elf.now c.args.at) ≡ true =
    good_where_graphic c.args.elf.now c.args.at c.requires.name (omega arith) (omega arith) ∙ all_graphic (name_bytes c.args.elf.now c.args.at) named in
    grind (arith, common_steps)
