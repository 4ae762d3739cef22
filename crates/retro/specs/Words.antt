-- What the words of a call ask for.
use Rattle.std.specs.Prelude.{ℕ, List, [], ◌∷◌, codes, bytes_eq, Bool, false, not, ◌==◌, if◌then◌else◌, Option, Some, None, option_and_then}
use Rattle.rw_probe.specs.declared.leaders.Mode.{Mode}
use Rattle.rw_probe.specs.declared.leaders.Mode.TheVariants as mode

-- The text of the file of a name, with probes at the leaders of a mode; or a list of its leaders.
pub data Command : Type 0 where
  Rewrite : (leaders : Mode) (name : List ℕ) → Command
  Blocks : (name : List ℕ) → Command

-- the name of its file
abbrev pub name_in : Command → List ℕ
name_in (Rewrite leaders name) = name
name_in (Blocks name) = name

-- the mode of its leaders
abbrev pub mode_in : Command → Mode
mode_in (Rewrite leaders name) = leaders
mode_in (Blocks name) = mode.Blocks

-- a name isn't empty and doesn't begin with a dash
abbrev pub is_name : List ℕ → Bool
is_name [] = false
is_name (b ∷ bs) = not (b == 45)

-- a command, where the name of its file is one
abbrev pub if_named : List ℕ → Command → Option Command
if_named name command = if is_name name then Some command else None

-- the option that says at which leaders probes stand
abbrev pub mode_of : List ℕ → Option Mode
mode_of word =
    if bytes_eq word (codes "--probes=none") then Some mode.Nothing
    else if bytes_eq word (codes "--probes=functions") then Some mode.Starts
    else if bytes_eq word (codes "--probes=blocks") then Some mode.Blocks
    else None

-- rewrite [--probes=none|functions|blocks] FILE: none where the option isn't given
abbrev pub rewrite_of : List (List ℕ) → Option Command
rewrite_of [] = None
rewrite_of (name ∷ []) = if_named name (Rewrite mode.Nothing name)
rewrite_of (word ∷ name ∷ []) = option_and_then (λ leaders. if_named name (Rewrite leaders name)) (mode_of word)
rewrite_of (word ∷ name ∷ other ∷ words) = None

-- blocks FILE
abbrev pub blocks_of : List (List ℕ) → Option Command
blocks_of [] = None
blocks_of (name ∷ []) = if_named name (Blocks name)
blocks_of (name ∷ other ∷ words) = None

-- None where the words aren't understood
abbrev pub command_of : List (List ℕ) → Option Command
command_of [] = None
command_of (word ∷ words) =
    if bytes_eq word (codes "rewrite") then rewrite_of words
    else if bytes_eq word (codes "blocks") then blocks_of words
    else None
