-- When the operators with one operand, shifts, products, quotients, and those on bits of one domain stand for those of
-- another: R ties words.
use Rattle.std.specs.Prelude.{Bool}
use Rattle.rw_base.specs.declared.width.Width.{Width}
use Rattle.x86_insn.specs.declared.kinds.OneOp.{OneOp}
use Rattle.x86_insn.specs.declared.kinds.ShiftOp.{ShiftOp}
use Rattle.x86_insn.specs.declared.kinds.BitOp.{BitOp}
use Rattle.x86_insn.specs.declared.kinds.ScanOp.{ScanOp}
use Rattle.rw_domain.specs.declared.flags.Flags.{Flags}
use Rattle.rw_domain.specs.Operators.{Operators}
use Rattle.rw_domain.specs.Stands.{FlagsStand, OptionStands, ResultStands}

-- a word and its flags
abbrev pub FlaggedStands : {V W : Type 0} → (V → W → Type 0) → V × Flags → W × Flags → Type 0
FlaggedStands R p q = R p.0 q.0 × FlagsStand p.1 q.1

abbrev pub PairStands : {V W : Type 0} → (V → W → Type 0) → V × V → W × W → Type 0
PairStands R p q = R p.0 q.0 × R p.1 q.1

abbrev pub ProductStands : {V W : Type 0} → (V → W → Type 0) → V × V × Flags → W × W × Flags → Type 0
ProductStands R p q = R p.0 q.0 × R p.1 q.1 × FlagsStand p.2 q.2

pub record OtherOperatorsStand {V W E F : Type 0} (R : V → W → Type 0) (s : Operators V E) (n : Operators W F) : Type 0 where
  pub one : (op : OneOp) (w : Width) (a : V) (b : W) (f g : Flags) → R a b → FlagsStand f g → FlaggedStands R (s.one op w a f) (n.one op w b g)
  pub shift : (op : ShiftOp) (w : Width) (a c : V) (b d : W) (f g : Flags) → R a b → R c d → FlagsStand f g → ResultStands (FlaggedStands R) (s.shift op w a c f) (n.shift op w b d g)
  pub mul : (is_signed : Bool) (w : Width) (a c : V) (b d : W) → R a b → R c d → ProductStands R (s.mul is_signed w a c) (n.mul is_signed w b d)
  pub div : (is_signed : Bool) (w : Width) (a c e : V) (b d f : W) → R a b → R c d → R e f → ResultStands (OptionStands (PairStands R)) (s.div is_signed w a c e) (n.div is_signed w b d f)
  pub extend : (is_signed : Bool) (from : Width) (a : V) (b : W) (to : Width) → R a b → R (s.extend is_signed from a to) (n.extend is_signed from b to)
  pub swap : (w : Width) (a : V) (b : W) → R a b → R (s.swap w a) (n.swap w b)
  pub bit : (op : BitOp) (w : Width) (a c : V) (b d : W) (f g : Flags) → R a b → R c d → FlagsStand f g → FlaggedStands R (s.bit op w a c f) (n.bit op w b d g)
  pub scan : (op : ScanOp) (w : Width) (a : V) (b : W) → R a b → FlaggedStands R (s.scan op w a) (n.scan op w b)
