-- A machine over words of which less is known: it has words of undefined cells and unknown flags in place of others.
use Rattle.std.specs.Prelude.{Bool, List, [], ◌∷◌, map, if◌then◌else◌}
use Rattle.x86_insn.specs.declared.kinds.Reg.{Reg}
use Rattle.x86_insn.specs.Codes.{registers}
use Rattle.x86_meaning.specs.declared.sets.Flag.{Flag}
use Rattle.x86_meaning.specs.declared.sets.Flag.TheVariants.{Cf, Zf, Sf, Of, Pf}
use Rattle.rw_words.specs.declared.atom.Cell.{Cell}
use Rattle.rw_words.specs.declared.atom.Cell.TheVariants.{Undef}
use Rattle.rw_domain.specs.declared.flags.Tri.{Tri}
use Rattle.rw_domain.specs.declared.flags.Tri.TheVariants.{Unknown}
use Rattle.rw_domain.specs.declared.flags.Flags.{Flags}
use Rattle.rw_machine.specs.Step.{Machine}

-- as many cells, of which none is known
abbrev pub unknown_word : List Cell → List Cell
unknown_word word = map (λ cell. Undef) word

-- the words of some registers, where those that aren't kept are unknown
abbrev pub kept_words : (Reg → Bool) → List Reg → List (List Cell) → List (List Cell)
kept_words keeps [] words = words
kept_words keeps (r ∷ rs) [] = []
kept_words keeps (r ∷ rs) (word ∷ words) = (if keeps r then word else unknown_word word) ∷ kept_words keeps rs words

abbrev pub kept_flag : Bool → Tri → Tri
kept_flag keeps t = if keeps then t else Unknown

abbrev pub kept_flags : (Flag → Bool) → Flags → Flags
kept_flags keeps f = record {
  cf = kept_flag (keeps Cf) f.cf;
  zf = kept_flag (keeps Zf) f.zf;
  sf = kept_flag (keeps Sf) f.sf;
  of = kept_flag (keeps Of) f.of;
  pf = kept_flag (keeps Pf) f.pf;
}

-- the machine of which these registers and flags are known, and no others
abbrev pub weakened_machine : {D C P : Type 0} → (Reg → Bool) → (Flag → Bool) → Machine D (List Cell) C P → Machine D (List Cell) C P
weakened_machine keeps keeps_flag m = record m {
  registers = kept_words keeps registers m.registers;
  flags = kept_flags keeps_flag m.flags;
}
