-- Which temporary words the small operations of a list use, and of what widths: each is put before it is used.
use Rattle.std.specs.Prelude.{ℕ, ◌<◌, ◌^◌, ◌≡◌, ◌⊎◌, Option, Some, None, List, [], ◌∷◌, Bool, true, false, nat_eq, nat_lt, IsTrue, if◌then◌else◌}
use Rattle.rw_base.specs.Width.{byte_count, bit_count}
use Rattle.rw_base.specs.declared.width.Width.{Width}
use Rattle.rw_base.specs.declared.width.Width.TheVariants.{B, Q}
use Rattle.x86_insn.specs.declared.kinds.Reg8.{Reg8}
use Rattle.x86_insn.specs.declared.kinds.Reg8.TheVariants.{Low, High}
use Rattle.x86_insn.specs.declared.kinds.OneOp.{OneOp}
use Rattle.x86_insn.specs.declared.kinds.OneOp.TheVariants as one
use Rattle.x86_insn.specs.WellFormed.{is_scale, is_long}
use Rattle.x86_meaning.specs.declared.operations.Temp.{Temp}
use Rattle.x86_meaning.specs.declared.operations.Micro.{Micro}
use Rattle.x86_meaning.specs.declared.operations.Micro.TheVariants.{Get, Put, Num, Ref, Next, Sum, Load, Store, Alu, One, Shift, Mul, Div, Extend, Swap, Bit, Scan, Same, Choose, Go, Elements, Trap, System}
use Rattle.x86_meaning.specs.declared.operations.Micro.TheVariants as micro

-- the widths of the temporary words, where they are known
abbrev pub Widths : Type 0
Widths = ℕ → Option Width

abbrev pub no_widths : Widths
no_widths t = None

abbrev pub with_width : Widths → Temp → Option Width → Widths
with_width g to w t = if nat_eq t to.0 then w else g t

abbrev pub Has : Widths → Temp → Width → Type 0
Has g t w = g t.0 ≡ Some w

-- a word of the width, or one of width Q, of which the lowest cells are taken
abbrev pub HasLow : Widths → Temp → Width → Type 0
HasLow g t w = Has g t w ⊎ Has g t Q

abbrev pub HasBase : Widths → Option Temp → Type 0
HasBase g None = Unit {0}
HasBase g (Some t) = Has g t Q

abbrev pub HasIndex : Widths → Option (Temp × ℕ) → Type 0
HasIndex g None = Unit {0}
HasIndex g (Some (t, scale)) = Has g t Q × IsTrue (is_scale scale)

-- the second byte of a register is a part of width B alone
abbrev pub IsByte : Width → Type 0
IsByte B = Unit {0}
IsByte _ = ⊥

abbrev pub IsPart : Width → Reg8 → Type 0
IsPart w (Low r) = Unit {0}
IsPart w (High r) = IsByte w

abbrev pub is_unary : OneOp → Bool
is_unary one.Inc = true
is_unary one.Dec = true
is_unary one.Not = true
is_unary one.Neg = true
is_unary _ = false

-- the small operation uses words of the widths that it needs, and makes one of the eight
abbrev pub IsReady : Widths → Micro → Type 0
IsReady g (Get to w from) = (to.0 < 8) × IsPart w from
IsReady g (Put w to from) = HasLow g from w × IsPart w to
IsReady g (Num to w v) = (to.0 < 8) × (v < 2 ^ bit_count w)
IsReady g (Ref to direct) = to.0 < 8
IsReady g (micro.Canary to) = to.0 < 8
IsReady g (Next to) = to.0 < 8
IsReady g (Sum to base index disp) = (to.0 < 8) × HasBase g base × HasIndex g index
IsReady g (Load to w at) = (to.0 < 8) × Has g at Q
IsReady g (Store w at from) = Has g at Q × Has g from w
IsReady g (Alu op w to a b) = (to.0 < 8) × Has g a w × Has g b w
IsReady g (One op w to a) = (to.0 < 8) × Has g a w × IsTrue (is_unary op)
IsReady g (Shift op w to a count flags) = (to.0 < 8) × Has g a w × Has g count B
IsReady g (Mul signed w low high a b) = (low.0 < 8) × (high.0 < 8) × Has g a w × Has g b w
IsReady g (Div signed w quotient rest high low by) = (quotient.0 < 8) × (rest.0 < 8) × Has g high w × Has g low w × Has g by w
IsReady g (Extend signed from w to a) = (to.0 < 8) × Has g a from × IsTrue (nat_lt (byte_count from) (byte_count w))
IsReady g (Swap w to a) = (to.0 < 8) × Has g a w × IsTrue (is_long w)
IsReady g (Bit op w to a index) = (to.0 < 8) × Has g a w × Has g index w
IsReady g (Scan op w to a) = (to.0 < 8) × Has g a w
IsReady g (Same borrow w to) = to.0 < 8
IsReady g (Choose cond to a b) = (to.0 < 8) × ((w : Width) × Has g a w × Has g b w)
IsReady g (Go cond to) = Has g to Q
IsReady g _ = Unit {0}

-- the widths after it
abbrev pub widths_after : Widths → Micro → Widths
widths_after g (Get to w from) = with_width g to (Some w)
widths_after g (Num to w v) = with_width g to (Some w)
widths_after g (Ref to direct) = with_width g to (Some Q)
widths_after g (micro.Canary to) = with_width g to (Some Q)
widths_after g (Next to) = with_width g to (Some Q)
widths_after g (Sum to base index disp) = with_width g to (Some Q)
widths_after g (Load to w at) = with_width g to (Some w)
widths_after g (Alu op w to a b) = with_width g to (Some w)
widths_after g (One op w to a) = with_width g to (Some w)
widths_after g (Shift op w to a count flags) = with_width g to (Some w)
widths_after g (Mul signed w low high a b) = with_width (with_width g low (Some w)) high (Some w)
widths_after g (Div signed w quotient rest high low by) = with_width (with_width g quotient (Some w)) rest (Some w)
widths_after g (Extend signed from w to a) = with_width g to (Some w)
widths_after g (Swap w to a) = with_width g to (Some w)
widths_after g (Bit op w to a index) = with_width g to (Some w)
widths_after g (Scan op w to a) = with_width g to (Some w)
widths_after g (Same borrow w to) = with_width g to (Some w)
widths_after g (Choose cond to a b) = with_width g to (g a.0)
widths_after g _ = g

-- each small operation of a list, one after another
abbrev pub IsTyped : Widths → List Micro → Type 0
IsTyped g [] = Unit {0}
IsTyped g (m ∷ ms) = IsReady g m × IsTyped (widths_after g m) ms
