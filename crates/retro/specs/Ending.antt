-- How a command ends.
use Rattle.std.specs.Prelude.{◌≡◌, ℕ, List, Option, Some, None}
use Rattle.rw_io.specs.Outside.{Rose}
use Rattle.rw_probe.specs.declared.leaders.Mode.{Mode}
use Rattle.asm_print.specs.Text.{text_of}
use Rattle.std.specs.Io.KnownBytes.{Appends}
use Rattle.asm_items.specs.Lines.{Items}
use Rattle.rw_out.specs.Probed.{AreItemsOf}
use Rattle.rw_out.specs.Simulates.{Simulates}
use Rattle.rw_out.specs.Rewritten.{IsRewritten}
use Rattle.retro.specs.declared.failure.Failure.TheVariants as failure
use Rattle.retro.specs.declared.command.Ending.{Ending}
use Rattle.retro.specs.declared.command.Ending.TheVariants as ending
use Rattle.retro.specs.Call.{Outcome, Refused, NotUnderstood, Gains, GainsPart, status_of}
use Rattle.retro.specs.Words.{Command}

-- the ending is that of the outcome, or reading failed, or memory is short
abbrev pub Fits : Option (List ℕ) → Option (List ℕ) → Ending → Outcome → Type 0
Fits old new ending.Done outcome = (status_of outcome ≡ 0) × Gains old new outcome
Fits old new ending.WriteFault outcome = (status_of outcome ≡ 0) × GainsPart old new outcome
Fits old new (ending.Failed (failure.Fault f)) outcome = outcome ≡ Refused f
Fits old new (ending.Failed failure.Words) outcome = outcome ≡ NotUnderstood
Fits old new (ending.Failed failure.Read) outcome = Unit {0}
Fits old new (ending.Failed failure.Memory) outcome = Unit {0}

-- The output gained the text of the items of the file in a mode, and they simulate the file.
pub record Simulated (old new : Option (List ℕ)) (file : List ℕ) (mode : Mode) : Type 0 where
  pub items : Items
  pub are_items : AreItemsOf file mode items
  pub gained : Appends old new (text_of items)
  pub simulates : Simulates file mode items
  pub rewritten : IsRewritten file mode (text_of items)

-- what a command that is done has written is the text of items that simulate the file, and so do whatever items it is the text of
abbrev pub Rewrites : Option (List ℕ) → Option (List ℕ) → Ending → List ℕ → Mode → Type 0
Rewrites old new ending.Done file mode = Simulated old new file mode
Rewrites old new ending.WriteFault file mode = Unit {0}
Rewrites old new (ending.Failed f) file mode = Unit {0}

-- something was written, or its writing failed
abbrev pub HasWritten : Ending → Type 0
HasWritten ending.Done = Unit {0}
HasWritten ending.WriteFault = Unit {0}
HasWritten (ending.Failed f) = ⊥

-- a failure leaves the output
abbrev pub Keeps : Option (List ℕ) → Option (List ℕ) → Ending → Type 0
Keeps old new ending.Done = Unit {0}
Keeps old new ending.WriteFault = Unit {0}
Keeps old new (ending.Failed f) = new ≡ old

-- only a failed write moves the count of the output, and raises it
abbrev pub BlamesOut : ℕ → ℕ → Ending → Type 0
BlamesOut before now ending.Done = now ≡ before
BlamesOut before now ending.WriteFault = Rose before now
BlamesOut before now (ending.Failed f) = now ≡ before

-- only a failed read moves the count of the files, and raises it
abbrev pub BlamesFiles : ℕ → ℕ → Ending → Type 0
BlamesFiles before now ending.Done = now ≡ before
BlamesFiles before now ending.WriteFault = now ≡ before
BlamesFiles before now (ending.Failed (failure.Fault f)) = now ≡ before
BlamesFiles before now (ending.Failed failure.Words) = now ≡ before
BlamesFiles before now (ending.Failed failure.Read) = Rose before now
BlamesFiles before now (ending.Failed failure.Memory) = now ≡ before

-- reading didn't fail, and the words were understood
abbrev pub NotRead : Ending → Type 0
NotRead ending.Done = Unit {0}
NotRead ending.WriteFault = Unit {0}
NotRead (ending.Failed (failure.Fault f)) = Unit {0}
NotRead (ending.Failed failure.Words) = ⊥
NotRead (ending.Failed failure.Read) = ⊥
NotRead (ending.Failed failure.Memory) = Unit {0}

-- any ending but that of words that aren't understood
abbrev pub IsOther : Ending → Type 0
IsOther ending.Done = Unit {0}
IsOther ending.WriteFault = Unit {0}
IsOther (ending.Failed (failure.Fault f)) = Unit {0}
IsOther (ending.Failed failure.Words) = ⊥
IsOther (ending.Failed failure.Read) = Unit {0}
IsOther (ending.Failed failure.Memory) = Unit {0}

-- words that ask for nothing aren't understood, and others are, whether the files are told or not
abbrev pub FitsWords : Option Command → Ending → Type 0
FitsWords None e = e ≡ ending.Failed failure.Words
FitsWords (Some command) e = IsOther e
