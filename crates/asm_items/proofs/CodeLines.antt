-- Lines that say nothing of data.
use Rattle.std.proofs.Common.{◌≡◌, ℕ, Bool, true, false, List, [], ◌∷◌, refl}
use Rattle.std.specs.List.{list_all}
use Rattle.std.proofs.lemmas.Bool.{and_parts}
use Rattle.asm_items.specs.declared.item.Item.{Item}
use Rattle.asm_items.specs.declared.item.Item.TheVariants.{Copy, SectionHead, CountsHead}
use Rattle.asm_items.specs.Lines.{Items, sections_of, copies_of, counter_lines}

abbrev pub is_code_line : Item (List ℕ) → Bool
is_code_line (Copy name size) = false
is_code_line (SectionHead n writable nobits) = false
is_code_line CountsHead = false
is_code_line _ = true

pub no-sections : (items : Items) → list_all is_code_line items ≡ true → sections_of items ≡ []
no-sections [] h = refl
no-sections (SectionHead n writable nobits ∷ items) h = cc
no-sections (item ∷ items) h = no-sections items (and_parts (is_code_line item) (list_all is_code_line items) h).1

pub no-copies : (items : Items) → list_all is_code_line items ≡ true → copies_of items ≡ []
no-copies [] h = refl
no-copies (Copy name size ∷ items) h = cc
no-copies (item ∷ items) h = no-copies items (and_parts (is_code_line item) (list_all is_code_line items) h).1

pub no-counters : (items : Items) → list_all is_code_line items ≡ true → counter_lines items ≡ []
no-counters [] h = refl
no-counters (CountsHead ∷ items) h = cc
no-counters (item ∷ items) h = no-counters items (and_parts (is_code_line item) (list_all is_code_line items) h).1
