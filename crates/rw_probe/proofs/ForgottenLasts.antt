-- A machine of which a probe's changes are forgotten has the same registers of eight cells, stack and room.
use Rattle.std.proofs.Common.{◌≡◌, ℕ, negsuc, List, [], ◌∷◌, Some, None, Ok, Bool, true, false, if◌then◌else◌, sym, subst, ◌∙◌}
use Rattle.std.proofs.lemmas.List.{length-map}
use Rattle.rw_base.specs.declared.width.Width.TheVariants.{Q}
use Rattle.x86_insn.specs.declared.kinds.Reg.{Reg}
use Rattle.x86_insn.specs.declared.kinds.Reg.TheVariants.{Rsp}
use Rattle.x86_insn.specs.Codes.{registers}
use Rattle.x86_insn.specs.WellFormed.{code_of}
use Rattle.rw_words.specs.declared.atom.Cell.{Cell}
use Rattle.rw_words.specs.declared.atom.Cell.TheVariants.{Undef}
use Rattle.rw_words.specs.Words.{undefined_cells}
use Rattle.rw_domain.specs.declared.place.Access.TheVariants.{Write}
use Rattle.rw_domain.specs.declared.place.Place.{Place}
use Rattle.rw_domain.specs.declared.place.Region.{Region}
use Rattle.rw_domain.specs.Placed.{Placed}
use Rattle.rw_domain.specs.Symbols.{symbols_over, word_sum}
use Rattle.rw_machine.specs.Agree.{Agree}
use Rattle.rw_machine.specs.Step.{Machine}
use Rattle.rw_machine.proofs.SameWords.{same-or}
use Rattle.rw_live.specs.Weakened.{kept_words, unknown_word}
use Rattle.rw_live.proofs.WeakenedAgrees.{weakened-agrees}
use Rattle.rw_probe.specs.declared.form.Probe.{Probe}
use Rattle.rw_probe.specs.Forgetting.{HasFreeRoom, HasStack, HasWords, forgotten, keeps, keeps_flag}
use Rattle.rw_probe.proofs.Lasting.{AllWide, IsWide, wide-all, wide-from}

kept-wide : (keep : Reg → Bool) (rs : List Reg) (words : List (List Cell)) → AllWide words → AllWide (kept_words keep rs words)
kept-wide keep [] words h = h
kept-wide keep (r ∷ rs) [] h = h
kept-wide keep (r ∷ rs) (word ∷ words) h = (by (keep r), kept-wide keep rs words h.1)
  where
    by : (t : Bool) → IsWide (if t then word else unknown_word word)
    by true = h.0
    by false = length-map word (λ cell. Undef) ∙ h.0

module _ {P : Type 0} (m : Machine Placed (List Cell) Cell P) (probe : Probe) (stack_kept : keeps probe Rsp ≡ true) where
  its-agreement : Agree (λ r. keeps probe r ≡ true) (λ x. keeps_flag probe x ≡ true) m (forgotten probe m)
  its-agreement = weakened-agrees (keeps probe) (keeps_flag probe) m stack_kept

  pub forgotten-words : HasWords m → HasWords (forgotten probe m)
  forgotten-words h = record {
    count = sym its-agreement.count ∙ h.count;
    wide = wide-all (forgotten probe m).registers (kept-wide (keeps probe) registers m.registers (wide-from m.registers h.wide));
  }

  pub forgotten-stack : (number : ℕ) (stack : Region) → HasStack m number stack → HasStack (forgotten probe m) number stack
  forgotten-stack number stack h = record { before = h.before; region = h.region; writable = h.writable; small = h.small; whole = h.whole; range = h.range }

  pub forgotten-room : (saved : Place) → HasFreeRoom m saved → HasFreeRoom (forgotten probe m) saved
  forgotten-room saved h = record {
    below = subst (λ w. (symbols_over m.placed).place (word_sum (Some w) None (negsuc 135)) 8 Write ≡ Ok saved) (same-or m.registers (forgotten probe m).registers (code_of Rsp) (undefined_cells Q) its-agreement.stack) h.below;
    unknown = h.unknown;
  }
