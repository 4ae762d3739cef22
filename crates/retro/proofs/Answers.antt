-- From the ending of a command to the answer of a call.
use Rattle.std.proofs.Common.{◌≡◌, ◌<◌, ℕ, List, ◌∷◌, length, Option, Some, None, refl, sym, ap, subst, ◌∙◌, arith, inl}
use Rattle.std.specs.Prelude.{Result, Err, Vec, ◌+◌, IfSome, option_map}
use Rattle.std.specs.Io.KnownBytes.{Appends}
use Rattle.std.proofs.KnownBytes.{Appends-nil}
use Rattle.std.proofs.lemmas.Bool.{lt-ltb}
use Rattle.rw_io.specs.Outside.{Store, file_at, FileFits, FileAnswer}
use Rattle.rw_io.specs.declared.outside.FileError.{FileError}
use Rattle.rw_io.specs.declared.outside.FileError.TheVariants as error
use Rattle.std.specs.declared.alloc.Global.{Global}
use Rattle.rw_base.specs.declared.fault.Fault.{Fault}
use Rattle.rw_base.specs.declared.fault.Fault.TheVariants.{TooLarge}
use Rattle.rw_base.specs.Rules.{Rule, first, first_of, when}
use Rattle.std.specs.Option.{option_or}
use Rattle.rw_elf.specs.Tables.{size_rules}
use Rattle.rw_data.specs.FirstFault.{first_fault, file_rules}
use Rattle.rw_probe.specs.declared.leaders.Mode.{Mode}
use Rattle.asm_items.specs.Lines.{Items}
use Rattle.asm_print.specs.Text.{text_of}
use Rattle.rw_out.specs.Probed.{AreItemsOf}
use Rattle.rw_out.specs.Simulates.{Simulates}
use Rattle.rw_out.specs.Rewritten.{IsRewritten}
use Rattle.retro.specs.declared.failure.Failure.{Failure}
use Rattle.retro.specs.declared.failure.Failure.TheVariants as failure
use Rattle.retro.specs.declared.command.Ending.TheVariants as ending
use Rattle.retro.specs.Call as call
use Rattle.retro.specs.Call.{Outcome, Gains, GainsPart, IfRewrite, IfRewriteTold, IsDue, outcome_of, unless_refused, done_with, command_outcome, told_outcome, status_of, IsDecided, due_on_err, message}
use Rattle.retro.specs.Words.{Command, Rewrite, Blocks, command_of, name_in}
use Rattle.retro.specs.Failure.{status, failure_text}
use Rattle.retro.specs.Ending.{Fits, Rewrites}

-- ---- the file

found_first : (rules : List Rule) (rule : Rule) (rest : List Rule) (fault : Fault) → rules ≡ rule ∷ rest → first_of rule ≡ Some fault → first rules ≡ Some fault
found_first rules rule rest fault e h = ap first e ∙ ap (λ (x : Option Fault). option_or x (first rest)) h

-- a long file is refused first
too_large : (file : List ℕ) → 16777216 < length file → first_fault file ≡ Some (TooLarge 16777217)
unfolding size_rules
too_large file h = found_first (file_rules file) _ _ _ refl (ap (λ b. when b (TooLarge 16777217)) (lt-ltb 16777216 (length file) h))

-- what was read is the file that is told
pub read_told : (told : Option Store) (name bytes : List ℕ) (P : List ℕ → Type 0) → IfSome told (λ files. bytes ≡ file_at files name) → P bytes → IfSome told (λ known. P (file_at known name))
read_told None name bytes P h k = tt
read_told (Some known) name bytes P h k = subst P h k

large_file : (told : Option Store) (command : Command) (n : ℕ) → n ≡ 16777216 + 1 → IfSome told (λ files. 16777216 < length (file_at files (name_in command)))
    → IfSome told (λ known. outcome_of command (file_at known (name_in command)) ≡ call.Refused (TooLarge n))
large_file None command n e h = tt
large_file (Some known) command n e h =
    let file = file_at known (name_in command) in
    ap (unless_refused (done_with command file)) (too_large file h) ∙ ap (λ m. call.Refused (TooLarge m)) (sym e)

-- what was said of a file that is too large
pub refused_large : (told : Option Store) (command : Command) (r : Result (Vec ℕ Global) FileError) (n : ℕ) → r ≡ Err (error.TooLarge n) → FileFits 16777216 r → IfSome told (λ files. FileAnswer (file_at files (name_in command)) 16777216 r)
    → IfSome told (λ known. outcome_of command (file_at known (name_in command)) ≡ call.Refused (TooLarge n))
refused_large told command r n e h k =
    large_file told command n (subst (λ x. FileFits 16777216 x) e h) (subst (λ x. IfSome told (λ files. FileAnswer (file_at files (name_in command)) 16777216 x)) e k)

-- of a failure nothing is said about texts
pub none_rewritten : (told : Option Store) (command : Command) (P : Store → Mode → Type 0) → ((known : Store) (mode : Mode) → P known mode) → IfSome told (λ known. IfRewrite command (P known))
none_rewritten None command P h = tt
none_rewritten (Some known) (Rewrite mode name) P h = h known mode
none_rewritten (Some known) (Blocks name) P h = tt

-- ---- the words

pub fits_words : (words : List (List ℕ)) (told : Option Store) (command : Command) (P : Outcome → Type 0) → command_of words ≡ Some command
    → IfSome told (λ known. P (outcome_of command (file_at known (name_in command)))) → IfSome (told_outcome words told) P
fits_words words told command P h k =
    subst (λ c. IfSome (command_outcome c told) P) (sym h) (by_told told k)
  where
    by_told : (t : Option Store) → IfSome t (λ known. P (outcome_of command (file_at known (name_in command)))) → IfSome (option_map (λ files. outcome_of command (file_at files (name_in command))) t) P
    by_told None k = tt
    by_told (Some known) k = k

pub fits_none : (words : List (List ℕ)) (told : Option Store) (old new : Option (List ℕ)) → command_of words ≡ None → IfSome (told_outcome words told) (Fits old new (ending.Failed failure.Words))
fits_none words told old new h = subst (λ c. IfSome (command_outcome c told) (Fits old new (ending.Failed failure.Words))) (sym h) refl

pub rewrites_words : (words : List (List ℕ)) (told : Option Store) (command : Command) (P : List ℕ → Mode → Type 0) → command_of words ≡ Some command
    → IfSome told (λ known. IfRewrite command (P (file_at known (name_in command)))) → IfRewriteTold (command_of words) told P
rewrites_words words told command P h k = subst (λ c. IfRewriteTold c told P) (sym h) k

pub rewrites_none : (words : List (List ℕ)) (told : Option Store) (P : List ℕ → Mode → Type 0) → command_of words ≡ None → IfRewriteTold (command_of words) told P
rewrites_none words told P h = subst (λ c. IfRewriteTold c told P) (sym h) tt

-- ---- the clauses of the call, each from the ending

module _ (old new : Option (List ℕ)) where
  pub done_status : (o : Option Outcome) → IfSome o (Fits old new ending.Done) → IfSome o (λ x. 0 ≡ status_of x)
  done_status None h = tt
  done_status (Some x) h = sym h.0

  pub done_text : (o : Option Outcome) → IfSome o (Fits old new ending.Done) → IfSome o (Gains old new)
  done_text None h = tt
  done_text (Some x) h = h.1

  pub done_line : (o : Option Outcome) (e : Option (List ℕ)) → IfSome o (Fits old new ending.Done) → IfSome (due_on_err 0 o) (Appends e e)
  done_line None e h = tt
  done_line (Some (call.Rewritten mode file)) e h = Appends-nil e
  done_line (Some (call.Listed file)) e h = Appends-nil e
  done_line (Some (call.Refused f)) e h = absurd (omega (arith, h.0))
  done_line (Some call.NotUnderstood) e h = absurd (omega (arith, h.0))

  pub written_part : (o : Option Outcome) → IfSome o (Fits old new ending.WriteFault) → IfSome o (GainsPart old new)
  written_part None h = tt
  written_part (Some x) h = h.1

  pub kept_part : (o : Option Outcome) → new ≡ old → IfSome o (GainsPart old new)
  kept_part None h = tt
  kept_part (Some x) h = inl h

  pub failed_status : (o : Option Outcome) (f : Failure) (n : ℕ) → n ≡ status f → IfSome o (Fits old new (ending.Failed f)) → n < 3 → IfSome o (λ x. n ≡ status_of x)
  failed_status None f n e h d = tt
  failed_status (Some x) (failure.Fault f) n e h d = e ∙ ap status_of (sym h)
  failed_status (Some x) failure.Words n e h d = e ∙ ap status_of (sym h)
  failed_status (Some x) failure.Read n e h d = absurd (omega (arith, e, d))
  failed_status (Some x) failure.Memory n e h d = absurd (omega (arith, e, d))

  line_at : (o : Option Outcome) (e e' : Option (List ℕ)) (f : Failure) → IfSome o (Fits old new (ending.Failed f)) → Appends e e' (message (failure_text f)) → IfSome (due_on_err (status f) o) (Appends e e')
  line_at None e e' (failure.Fault f) h k = tt
  line_at None e e' failure.Words h k = tt
  line_at (Some x) e e' (failure.Fault f) h k = subst (λ o. IfSome (due_on_err 1 (Some o)) (Appends e e')) (sym h) k
  line_at (Some x) e e' failure.Words h k = subst (λ o. IfSome (due_on_err 2 (Some o)) (Appends e e')) (sym h) k
  line_at o e e' failure.Read h k = k
  line_at o e e' failure.Memory h k = k

  pub failed_line : (o : Option Outcome) (e e' : Option (List ℕ)) (f : Failure) (n : ℕ) → n ≡ status f → IfSome o (Fits old new (ending.Failed f)) → Appends e e' (message (failure_text f)) → IfSome (due_on_err n o) (Appends e e')
  failed_line o e e' f n s h k = subst (λ m. IfSome (due_on_err m o) (Appends e e')) (sym s) (line_at o e e' f h k)

-- ---- texts

told_more : (command : Option Command) (told : Option Store) (P Q : List ℕ → Mode → Type 0) → ((file : List ℕ) (mode : Mode) → P file mode → Q file mode) → IfRewriteTold command told P → IfRewriteTold command told Q
told_more None told P Q f h = tt
told_more (Some command) None P Q f h = tt
told_more (Some (Rewrite mode name)) (Some known) P Q f h = f (file_at known name) mode h
told_more (Some (Blocks name)) (Some known) P Q f h = tt

pub done_simulates : (command : Option Command) (told : Option Store) (old new : Option (List ℕ)) → IfRewriteTold command told (Rewrites old new ending.Done)
    → IfRewriteTold command told (λ file mode. (gained : List ℕ) × Appends old new gained × IsRewritten file mode gained)
done_simulates command told old new h = told_more command told (Rewrites old new ending.Done) _ (λ file mode s. (text_of s.items, s.gained, s.rewritten)) h

pub done_items : (command : Option Command) (told : Option Store) (old new : Option (List ℕ)) → IfRewriteTold command told (Rewrites old new ending.Done)
    → IfRewriteTold command told (λ file mode. (items : Items) × AreItemsOf file mode items × Appends old new (text_of items) × Simulates file mode items)
done_items command told old new h = told_more command told (Rewrites old new ending.Done) _ (λ file mode s. (s.items, s.are_items, s.gained, s.simulates)) h
