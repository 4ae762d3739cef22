-- A place for the text of the example file.
use Rattle.std.specs.Prelude.{ℕ, ◌+◌, ◌*◌, List, [], ◌∷◌, ◌++◌, replicate, slice_index}
use Rattle.asm_items.specs.declared.item.Label as label_type
use Rattle.asm_items.specs.declared.item.Label.TheVariants as label
use Rattle.asm_items.specs.Layout.{Layout}

-- The items are a comment, four directives, a name, and then by turns a label and an instruction: three of the function, int3
-- behind it, and the last line. The function lies at 0x20000, and its instructions are as long as in the file.
abbrev pub insn_offsets : List ℕ
insn_offsets = replicate 7 0 ++ 0 ∷ 0 ∷ 5 ∷ 0 ∷ 7 ∷ 0 ∷ 9 ∷ 0 ∷ []

abbrev pub insn_sizes : List ℕ
insn_sizes = replicate 7 0 ++ 5 ∷ 0 ∷ 2 ∷ 0 ∷ 2 ∷ 0 ∷ 1 ∷ 0 ∷ []

-- the text has no data
abbrev pub exit_label : label_type.Label → ℕ
exit_label (label.Code a) = 0x1f000 + a
exit_label (label.Past s) = 0x20009
exit_label (label.Section n) = 0
exit_label (label.Table a) = 0

-- it uses no names, and the file imports none
abbrev pub exit_layout : Layout
exit_layout = record {
  insn = λ q. 0x20000 + slice_index insn_offsets q;
  size = λ q. slice_index insn_sizes q;
  label = exit_label;
  region = λ r. 0x100000 * (r + 1);
  name = λ name. 0;
  finish = 0x8000;
}
