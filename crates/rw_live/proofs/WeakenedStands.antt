-- A machine over numbers that corresponds to a machine over words corresponds to a weakened one.
use Rattle.std.proofs.Common.{ℕ, ◌/◌, List, [], ◌∷◌, Bool, true, false, if◌then◌else◌}
use Rattle.rw_words.specs.declared.atom.Atom.{Atom}
use Rattle.rw_words.specs.declared.atom.Cell.{Cell}
use Rattle.rw_words.specs.Addresses.{Addresses, CellsStand}
use Rattle.x86_insn.specs.declared.kinds.Reg.{Reg}
use Rattle.x86_insn.specs.Codes.{registers}
use Rattle.x86_meaning.specs.declared.sets.Flag.{Flag}
use Rattle.x86_meaning.specs.declared.sets.Flag.TheVariants.{Cf, Zf, Sf, Of, Pf}
use Rattle.rw_domain.specs.declared.flags.Tri.{Tri}
use Rattle.rw_domain.specs.declared.flags.Flags.{Flags}
use Rattle.rw_domain.specs.Placed.{Placed}
use Rattle.rw_domain.specs.Stands.{FlagStands, FlagsStand, Both}
use Rattle.rw_domain.specs.LaidOut.{KnownCells, WordStands}
use Rattle.rw_machine.specs.Step.{Machine}
use Rattle.rw_machine.specs.Stands.{Spare}
use Rattle.rw_machine.specs.Correspond.{MachinesCorrespond}
use Rattle.rw_live.specs.Weakened.{unknown_word, kept_words, kept_flag, kept_flags, weakened_machine}

module _ (l : Addresses) (known : Atom → Bool) where
  unknown-cells : (a : List Cell) (n : ℕ) → CellsStand l a n → CellsStand l (unknown_word a) n
  unknown-cells [] n h = h
  unknown-cells (c ∷ cells) n h = (tt, unknown-cells cells (n / 256) h.1)

  unknown-atoms : (a : List Cell) → KnownCells known (unknown_word a)
  unknown-atoms [] = tt
  unknown-atoms (c ∷ cells) = (tt, unknown-atoms cells)

  kept-word-stands : (t : Bool) (a : List Cell) (n : ℕ) → WordStands l known a n → WordStands l known (if t then a else unknown_word a) n
  kept-word-stands true a n h = h
  kept-word-stands false a n h = record { cells = unknown-cells a n h.cells; atoms = unknown-atoms a }

  kept-words-stand : (keeps : Reg → Bool) (rs : List Reg) (xs : List (List Cell)) (ys : List ℕ) → Both (WordStands l known) xs ys → Both (WordStands l known) (kept_words keeps rs xs) ys
  kept-words-stand keeps [] xs ys h = h
  kept-words-stand keeps (r ∷ rs) [] ys h = h
  kept-words-stand keeps (r ∷ rs) (x ∷ xs) [] h = absurd h
  kept-words-stand keeps (r ∷ rs) (x ∷ xs) (y ∷ ys) h = (kept-word-stands (keeps r) x y h.0, kept-words-stand keeps rs xs ys h.1)

kept-flag-stands : (t : Bool) (u v : Tri) → FlagStands u v → FlagStands (kept_flag t u) v
kept-flag-stands true u v h = h
kept-flag-stands false u v h = tt

kept-flags-stand : (keeps : Flag → Bool) (f g : Flags) → FlagsStand f g → FlagsStand (kept_flags keeps f) g
kept-flags-stand keeps f g h = record {
  cf = kept-flag-stands (keeps Cf) f.cf g.cf h.cf;
  zf = kept-flag-stands (keeps Zf) f.zf g.zf h.zf;
  sf = kept-flag-stands (keeps Sf) f.sf g.sf h.sf;
  of = kept-flag-stands (keeps Of) f.of g.of h.of;
  pf = kept-flag-stands (keeps Pf) f.pf g.pf h.pf;
}

pub weakened-corresponds : {P O : Type 0} (l : Addresses) (known : Atom → Bool) (spare : Spare ℕ) (near : P → O → Bool) (keeps : Reg → Bool) (keeps_flag : Flag → Bool) (m : Machine Placed (List Cell) Cell P) (o : Machine Placed ℕ ℕ O)
    → MachinesCorrespond l known spare near m o → MachinesCorrespond l known spare near (weakened_machine keeps keeps_flag m) o
weakened-corresponds l known spare near keeps keeps_flag m o h = record {
  registers = kept-words-stand l known keeps registers m.registers o.registers h.registers;
  flags = kept-flags-stand keeps_flag m.flags o.flags h.flags;
  memory = h.memory;
  placed = h.placed;
  point = h.point;
}
