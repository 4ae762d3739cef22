-- How far the lines of a text have come in their order, and what may stand next. The states are those of an automaton that takes
-- exactly the lines in order (proofs/Automaton).
use Rattle.std.specs.Prelude.{ℕ, ◌+◌, ◌%◌, Bool, true, false, List, [], ◌∷◌, Option, Some, None, option_and_then, if◌then◌else◌, ◌==◌}
use Rattle.std.specs.Str.{bytes_eq}
use Rattle.x86_insn.specs.declared.kinds.Plain.TheVariants.{Int3}
use Rattle.x86_insn.specs.declared.instruction.Insn.{Insn}
use Rattle.x86_insn.specs.declared.instruction.Insn.TheVariants.{Plain}
use Rattle.asm_items.specs.declared.item.Item.{Item}
use Rattle.asm_items.specs.declared.item.Item.TheVariants.{Copy, Comment, Weak, Globl, TextHead, Align, FuncKind, Name, Label, Ins, SectionHead, Zero, CountsHead, Tail}
use Rattle.asm_items.specs.declared.item.Label.TheVariants as label
use Rattle.asm_items.specs.declared.item.Sym.{Sym}
use Rattle.asm_items.specs.Lines.{Items}
use Rattle.rw_layout.specs.Order.{entry_name, is_content, counts_name}
use Rattle.rw_layout.specs.declared.order.State.{State}
use Rattle.rw_layout.specs.declared.order.State.TheVariants.{Copies, Weaks, Head, Code, Open, Kind, Naming, Body, Closing, Between, Aligned, Labelled, OneZero, Contents, More, CountsGlobl, CountsAlign, CountsName, CountsZero, Last, Done}

-- whether a name with which a program starts is main
abbrev pub entry_of : List ℕ → Option Bool
entry_of name = if bytes_eq name (entry_name true) then Some true else if bytes_eq name (entry_name false) then Some false else None

abbrev pub is_int3 : Insn (Sym (List ℕ)) → Bool
is_int3 (Plain Int3) = true
is_int3 _ = false

abbrev pub next_if : Bool → State → Option State
next_if test state = if test then Some state else None

-- behind a section, or the last function: the section of a number, the counters, or the end
abbrev pub next_part : ℕ → Item (List ℕ) → Option State
next_part n (SectionHead m writable nobits) = next_if (m == n) (Aligned n nobits)
next_part n CountsHead = Some CountsGlobl
next_part n Tail = Some Done
next_part n _ = None

-- the state behind a line, if the line may stand there
abbrev pub next : State → Item (List ℕ) → Option State
next Copies (Copy name size) = Some Copies
next Copies (Weak name) = Some Weaks
next Copies (Comment name) = Some (Head false)
next Weaks (Weak name) = Some Weaks
next Weaks (Comment name) = Some (Head false)
next (Head entered) TextHead = Some (Code entered)
next (Code entered) (Align k) = next_if (k == 4) (Open entered)
next (Open false) (Globl name) = option_and_then (λ hosted. Some (Kind hosted)) (entry_of name)
next (Open entered) (Label (label.Code a)) = Some (Body entered)
next (Kind hosted) (FuncKind name) = next_if (bytes_eq name (entry_name hosted)) (Naming hosted)
next (Naming hosted) (Name name) = next_if (bytes_eq name (entry_name hosted)) (Open true)
next (Body entered) (Label (label.Code a)) = Some (Body entered)
next (Body entered) (Ins i) = Some (Body entered)
next (Body entered) (Label (label.Past a)) = Some (Closing entered)
next (Closing entered) (Ins i) = next_if (is_int3 i) (Between entered)
next (Between entered) (Comment name) = Some (Head entered)
next (Between true) item = next_part 0 item
next (Aligned n nobits) (Align k) = Some (Labelled n nobits)
next (Labelled n nobits) (Label (label.Section m)) = next_if (m == n) (if nobits then OneZero n else Contents n)
next (OneZero n) (Zero size) = Some (More (n + 1) false)
next (Contents n) item = next_if (is_content item) (More (n + 1) true)
next (More n data_before) item = if data_before then (if is_content item then Some (More n true) else next_part n item) else next_part n item
next CountsGlobl (Globl name) = next_if (bytes_eq name counts_name) CountsAlign
next CountsAlign (Align k) = next_if (k == 3) CountsName
next CountsName (Name name) = next_if (bytes_eq name counts_name) CountsZero
next CountsZero (Zero size) = next_if (size % 8 == 0) Last
next Last Tail = Some Done
next _ _ = None

-- the state behind these lines
abbrev pub after : State → Items → Option State
after state [] = Some state
after state (item ∷ items) = option_and_then (λ more. after more items) (next state item)

-- the number of the section that a state speaks of
abbrev pub section_of : State → ℕ
section_of (Aligned n nobits) = n
section_of (Labelled n nobits) = n
section_of (OneZero n) = n
section_of (Contents n) = n
section_of (More n data_before) = n
section_of _ = 0

abbrev pub is_done : State → Bool
is_done Done = true
is_done _ = false
