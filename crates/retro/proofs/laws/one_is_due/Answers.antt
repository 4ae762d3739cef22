use Rattle.std.proofs.Common.{◌≡◌, ℕ, List, sym, ap, ◌∙◌}
use Rattle.asm_print.specs.Text.{text_of}
use Rattle.rw_probe.specs.declared.leaders.Mode.TheVariants.{Blocks}
use Rattle.rw_probe.specs.Leaders.{leaders_of}
use Rattle.rw_out.proofs.OneList.{one-forms, one-list}
use Rattle.retro.specs.Blocks.{lines_from}
use Rattle.retro.specs.Call.{IsDue, Outcome, Rewritten, Listed, Refused, NotUnderstood}
use Rattle.retro.proofs.laws.one_is_due.Goals as goal

one-due : (outcome : Outcome) (due other : List ℕ) → IsDue outcome due → IsDue outcome other → due ≡ other
one-due (Rewritten mode file) due other h k = h.is_text ∙ ap text_of (one-list file mode h.items k.items h.are_items k.are_items) ∙ sym k.is_text
one-due (Listed file) due other h k = h.is_text ∙ ap (lines_from file 0 (leaders_of file Blocks)) (one-forms file Blocks h.forms k.forms h.are_probes k.are_probes) ∙ sym k.is_text
one-due (Refused fault) due other h k = h ∙ sym k
one-due NotUnderstood due other h k = h ∙ sym k

pub returns : goal.returns
returns c outcome due other h k = one-due outcome due other h k
