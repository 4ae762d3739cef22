use Rattle.std.proofs.Common.{◌≡◌, map, take, []}
use Rattle.std.specs.Prelude.{All}
use Rattle.rw_elf.specs.Places.{section_bytes}
use Rattle.rw_funcs.specs.declared.code.CodeSection.{CodeSection}
use Rattle.rw_funcs.specs.Found.{HasMarks}
use Rattle.rw_funcs.proofs.code.code_sections.Given as goal

abbrev pub invariant-loop-section : goal.invariant-loop-section
invariant-loop-section l = record {
  list : map (λ (c : CodeSection). c.section) l.code.items ≡ take l.section-index l.section-items;
  stored : All (λ (c : CodeSection). c.bytes.items ≡ section_bytes l.elf c.section) l.code.items;
  none : All (HasMarks []) l.code.items;
}
