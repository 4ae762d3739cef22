-- What is due for the words of a call.
use Rattle.std.specs.Prelude.{◌≡◌, ◌⊎◌, ℕ, ◌<◌, List, [], ◌++◌, take, map, codes, ◌==◌, if◌then◌else◌, Option, Some, None, IfSome, option_map, String, string_bytes}
use Rattle.std.specs.declared.alloc.Global.{Global}
use Rattle.std.specs.Io.KnownBytes.{Appends}
use Rattle.rw_base.specs.declared.fault.Fault.{Fault}
use Rattle.rw_io.specs.Outside.{Store, file_at}
use Rattle.asm_items.specs.Lines.{Items}
use Rattle.asm_print.specs.Text.{text_of}
use Rattle.rw_data.specs.FirstFault.{first_fault}
use Rattle.rw_probe.specs.declared.leaders.Mode.{Mode}
use Rattle.rw_out.specs.Probed.{AreItemsOf}
use Rattle.retro.specs.FaultText.{fault_text}
use Rattle.retro.specs.Blocks.{IsListOf}
use Rattle.retro.specs.Words.{Command, Rewrite, Blocks, command_of, name_in}

abbrev pub texts : List (String Global) → List (List ℕ)
texts words = map string_bytes words

-- what a call comes to, where nothing fails
pub data Outcome : Type 0 where
  Rewritten : (mode : Mode) (file : List ℕ) → Outcome
  Listed : (file : List ℕ) → Outcome
  Refused : (fault : Fault) → Outcome
  NotUnderstood : Outcome

-- what is done with a file
abbrev pub done_with : Command → List ℕ → Outcome
done_with (Rewrite mode name) file = Rewritten mode file
done_with (Blocks name) file = Listed file

-- a file that has a fault is refused, by the first one
abbrev pub unless_refused : Outcome → Option Fault → Outcome
unless_refused done None = done
unless_refused done (Some fault) = Refused fault

abbrev pub outcome_of : Command → List ℕ → Outcome
outcome_of command file = unless_refused (done_with command file) (first_fault file)

-- what the words come to; for words that aren't understood, whether the files are told or not
abbrev pub command_outcome : Option Command → Option Store → Option Outcome
command_outcome None told = Some NotUnderstood
command_outcome (Some command) told = option_map (λ files. outcome_of command (file_at files (name_in command))) told

abbrev pub told_outcome : List (List ℕ) → Option Store → Option Outcome
told_outcome words told = command_outcome (command_of words) told

abbrev pub status_of : Outcome → ℕ
status_of (Rewritten mode file) = 0
status_of (Listed file) = 0
status_of (Refused fault) = 1
status_of NotUnderstood = 2

-- the answers that the words and the file decide
abbrev pub IsDecided : ℕ → Type 0
IsDecided status = status < 3

-- ---- the output

-- The bytes are the text of the file in a mode. There is one such text, since there is one such list of items.
pub record IsTextOf (file : List ℕ) (mode : Mode) (text : List ℕ) : Type 0 where
  pub items : Items
  pub are_items : AreItemsOf file mode items
  pub is_text : text ≡ text_of items

-- what is due on the output
abbrev pub IsDue : Outcome → List ℕ → Type 0
IsDue (Rewritten mode file) due = IsTextOf file mode due
IsDue (Listed file) due = IsListOf file due
IsDue (Refused fault) due = due ≡ []
IsDue NotUnderstood due = due ≡ []

-- a front of some bytes is appended
abbrev pub AppendsPart : Option (List ℕ) → Option (List ℕ) → List ℕ → Type 0
AppendsPart old new due = (n : ℕ) × Appends old new (take n due)

-- what is due is appended; a front of it, or nothing
abbrev pub Gains : Option (List ℕ) → Option (List ℕ) → Outcome → Type 0
Gains old new outcome = (due : List ℕ) × IsDue outcome due × Appends old new due

abbrev pub GainsPart : Option (List ℕ) → Option (List ℕ) → Outcome → Type 0
GainsPart old new outcome = (new ≡ old) ⊎ ((due : List ℕ) × IsDue outcome due × AppendsPart old new due)

-- ---- texts

-- what holds of the mode, where a text is asked for
abbrev pub IfRewrite : Command → (Mode → Type 0) → Type 0
IfRewrite (Rewrite mode name) P = P mode
IfRewrite (Blocks name) P = Unit {0}

-- what holds of the file and the mode, where the words ask for a text and the files are told
abbrev pub IfRewriteTold : Option Command → Option Store → (List ℕ → Mode → Type 0) → Type 0
IfRewriteTold None told P = Unit {0}
IfRewriteTold (Some command) told P = IfSome told (λ files. IfRewrite command (P (file_at files (name_in command))))

-- ---- the error output

abbrev pub message : List ℕ → List ℕ
message text = codes "retro: " ++ text ++ codes "\n"

abbrev pub outcome_line : Outcome → List ℕ
outcome_line (Rewritten mode file) = []
outcome_line (Listed file) = []
outcome_line (Refused fault) = message (fault_text fault)
outcome_line NotUnderstood = message (codes "words not understood")

-- the line on the error output for an answer
abbrev pub due_on_err : ℕ → Option Outcome → Option (List ℕ)
due_on_err status outcome =
    if status == 3 then Some (message (codes "read fault"))
    else if status == 5 then Some (message (codes "out of memory"))
    else option_map outcome_line outcome
