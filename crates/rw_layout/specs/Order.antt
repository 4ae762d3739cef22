-- The order of the lines of a program, by the parts that they make.
use Rattle.std.specs.Prelude.{◌≡◌, ℕ, ◌+◌, ◌*◌, Bool, true, false, List, [], ◌∷◌, ◌++◌, codes, count_by, flat_map, map, is_some, Option, Some, None, if◌then◌else◌}
use Rattle.std.specs.List.{list_all}
use Rattle.x86_insn.specs.declared.kinds.Plain.TheVariants.{Int3}
use Rattle.x86_insn.specs.declared.instruction.Insn.TheVariants.{Plain}
use Rattle.asm_items.specs.declared.item.Item.{Item}
use Rattle.asm_items.specs.declared.item.Item.TheVariants.{Copy, Comment, Weak, Globl, TextHead, Align, FuncKind, Name, Label, Ins, SectionHead, Bytes, Quad, LongDiff, Zero, CountsHead, Tail}
use Rattle.asm_items.specs.declared.item.Label.TheVariants as label
use Rattle.asm_items.specs.Lines.{Items}

-- ---- functions

-- a function: the name in its comment; if the program starts in it, whether as main or as _start; the address of its first label;
-- the lines behind that; and the address in the label that closes it
pub record Function : Type 0 where
  pub title : List ℕ
  pub entry : Option Bool
  pub first : ℕ
  pub body : Items
  pub past : ℕ

abbrev pub main_name : List ℕ
main_name = codes "main"

abbrev pub start_name : List ℕ
start_name = codes "_start"

abbrev pub entry_name : Bool → List ℕ
entry_name hosted = if hosted then main_name else start_name

abbrev pub entry_lines : Option Bool → Items
entry_lines None = []
entry_lines (Some hosted) = Globl (entry_name hosted) ∷ FuncKind (entry_name hosted) ∷ Name (entry_name hosted) ∷ []

-- a line between the first label of a function and its last: a label of an instruction, or an instruction
abbrev pub is_body_line : Item (List ℕ) → Bool
is_body_line (Label (label.Code a)) = true
is_body_line (Ins i) = true
is_body_line _ = false

abbrev pub function_lines : Function → Items
function_lines f =
    Comment f.title ∷ TextHead ∷ Align 4
    ∷ (entry_lines f.entry ++ Label (label.Code f.first) ∷ (f.body ++ Label (label.Past f.past) ∷ Ins (Plain Int3) ∷ []))

-- ---- sections

pub record Section : Type 0 where
  pub writable : Bool
  pub nobits : Bool
  pub align : ℕ
  pub contents : Items

abbrev pub is_content : Item (List ℕ) → Bool
is_content (Label (label.Table a)) = true
is_content (Bytes bytes) = true
is_content (Quad sym) = true
is_content (LongDiff code table) = true
is_content _ = false

-- the contents of a section without bytes in the file are one Zero; those of another are one or more lines of data
abbrev pub are_contents : Bool → Items → Bool
are_contents true (Zero n ∷ []) = true
are_contents true _ = false
are_contents false [] = false
are_contents false (line ∷ lines) = list_all is_content (line ∷ lines)

abbrev pub section_lines : ℕ → Section → Items
section_lines n s = SectionHead n s.writable s.nobits ∷ Align s.align ∷ Label (label.Section n) ∷ s.contents

-- sections with numbers from n on
abbrev pub sections_lines : ℕ → List Section → Items
sections_lines n [] = []
sections_lines n (s ∷ sections) = section_lines n s ++ sections_lines (n + 1) sections

-- ---- counters

abbrev pub counts_name : List ℕ
counts_name = codes "__retro_counts"

-- a section of so many counters, each of eight bytes
abbrev pub counter_lines : Option ℕ → Items
counter_lines None = []
counter_lines (Some count) = CountsHead ∷ Globl counts_name ∷ Align 3 ∷ Name counts_name ∷ Zero (8 * count) ∷ []

-- ---- the whole text

pub record Parts : Type 0 where
  pub copies : List (List ℕ × ℕ)
  pub weak : List (List ℕ)
  pub functions : List Function
  pub sections : List Section
  pub counters : Option ℕ

-- its parts one after another: copies, weak names, functions, sections, counters, and the line that ends the text
abbrev pub parts_lines : Parts → Items
parts_lines parts =
    map (λ copy. Copy copy.0 copy.1) parts.copies
    ++ (map Weak parts.weak
    ++ (flat_map function_lines parts.functions
    ++ (sections_lines 0 parts.sections
    ++ (counter_lines parts.counters ++ Tail ∷ []))))

-- a program starts in exactly one of its functions
pub record AreParts (parts : Parts) : Type 0 where
  pub bodies : list_all (λ f. list_all is_body_line f.body) parts.functions ≡ true
  pub contents : list_all (λ s. are_contents s.nobits s.contents) parts.sections ≡ true
  pub entry : count_by (λ f. is_some f.entry) parts.functions ≡ 1

-- the lines are in order
abbrev pub IsOrdered : Items → Type 0
IsOrdered items = (parts : Parts) × AreParts parts × (parts_lines parts ≡ items)
