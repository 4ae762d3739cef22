-- What operators do with flags: none looks at a flag that its kind doesn't need, and each passes on those that it doesn't set.
use Rattle.std.proofs.Common.{◌≡◌, ℕ, ◌+◌, ◌*◌, ◌%◌, List, [], ◌∷◌, Option, Some, None, Result, Ok, Err, Bool, true, false, refl, sym, ap, subst, arith}
use Rattle.std.specs.Prelude.{nat_eq, IsTrue, if◌then◌else◌}
use Rattle.std.specs.List.{AllByRecursion}
use Rattle.std.proofs.lemmas.Bool.{ltb-true}
use Rattle.rw_base.specs.declared.width.Width.{Width}
use Rattle.rw_base.specs.declared.width.Width.TheVariants.{B, W, L, Q}
use Rattle.rw_words.specs.declared.atom.Cell.{Cell}
use Rattle.rw_words.specs.declared.kind.Kind.{Kind}
use Rattle.rw_words.specs.declared.kind.Kind.TheVariants.{Number, Whole, Mixed}
use Rattle.rw_words.specs.Addresses.{byte_of}
use Rattle.rw_words.specs.Words.{number_cells}
use Rattle.x86_insn.specs.declared.kinds.AluOp.{AluOp}
use Rattle.x86_insn.specs.declared.kinds.AluOp.TheVariants as alu
use Rattle.x86_insn.specs.declared.kinds.OneOp.{OneOp}
use Rattle.x86_insn.specs.declared.kinds.OneOp.TheVariants as one
use Rattle.x86_insn.specs.declared.kinds.ShiftOp.{ShiftOp}
use Rattle.x86_insn.specs.declared.kinds.ShiftOp.TheVariants.{Rol, Ror, Shl, Shr, Sar}
use Rattle.x86_insn.specs.declared.kinds.BitOp.{BitOp}
use Rattle.x86_insn.specs.declared.kinds.Count.TheVariants as count
use Rattle.x86_insn.specs.WellFormed.{is_count}
use Rattle.x86_meaning.specs.declared.sets.Flag.{Flag}
use Rattle.x86_meaning.specs.declared.sets.Flag.TheVariants.{Cf, Zf, Sf, Of, Pf}
use Rattle.x86_meaning.specs.Flags.{all_but_carry, borrowed, written_one, written_shift, written_above_zero, written_bit}
use Rattle.x86_meaning.specs.Typing.{is_unary}
use Rattle.rw_domain.specs.declared.cause.Cause.{Cause}
use Rattle.rw_domain.specs.declared.flags.Tri.{Tri}
use Rattle.rw_domain.specs.declared.flags.Flags.{Flags}
use Rattle.rw_domain.specs.declared.place.Region.{Region}
use Rattle.rw_domain.specs.declared.place.Hole.{Hole}
use Rattle.rw_domain.specs.Operators.{Operators}
use Rattle.rw_domain.specs.Placed.{Placed}
use Rattle.rw_domain.specs.Numbers.{low, sum_result, difference_result, known_flag, with_carry, alu_of, one_of, shift_count, shift_flags, shift_result, shifted_by, is_rotate, bit_of}
use Rattle.rw_domain.specs.NumberPlaces.{numbers_over}
use Rattle.rw_domain.specs.Symbols.{word_number, word_kind, numbered_answer, no_flags, unknown_result, needed_flag, after_flag, alu_rows, alu_by, step_of, is_place, step_result, one_rows, one_by, shift_by, counted_shift, bit_by, symbols_over}
use Rattle.rw_machine.specs.Agree.{SameFlag}

-- each flag that was the same stays the same
abbrev pub KeepFlags : Flags → Flags → Flags → Flags → Type 0
KeepFlags f g p q = (x : Flag) → SameFlag x f g → SameFlag x p q

abbrev pub SetFlags : List Flag → Flags → Flags → Type 0
SetFlags xs p q = AllByRecursion (λ x. SameFlag x p q) xs

-- two answers that give one word, or refuse for one cause
abbrev pub AnswersKeep : {V : Type 0} → Flags → Flags → Result (V × Flags) Cause → Result (V × Flags) Cause → Type 0
AnswersKeep f g (Ok p) (Ok q) = (p.0 ≡ q.0) × KeepFlags f g p.1 q.1
AnswersKeep f g (Err c) (Err d) = c ≡ d
AnswersKeep f g _ _ = ⊥

abbrev pub AnswersSet : {V : Type 0} → List Flag → Result (V × Flags) Cause → Result (V × Flags) Cause → Type 0
AnswersSet xs (Ok p) (Ok q) = SetFlags xs p.1 q.1
AnswersSet xs _ _ = Unit {0}

pub record UsesFlags {V C : Type 0} (ops : Operators V C) : Type 0 where
  pub alu : (op : AluOp) (w : Width) (a b : V) (f g : Flags) → SetFlags (borrowed op) f g → ops.alu op w a b f ≡ ops.alu op w a b g
  pub one : (op : OneOp) (w : Width) (a : V) (f g : Flags) → (ops.one op w a f).0 ≡ (ops.one op w a g).0
  pub one_keeps : (op : OneOp) (w : Width) (a : V) (f g : Flags) → KeepFlags f g (ops.one op w a f).1 (ops.one op w a g).1
  pub one_sets : (op : OneOp) (w : Width) (a : V) (f g : Flags) → IsTrue (is_unary op) → SetFlags (written_one op) (ops.one op w a f).1 (ops.one op w a g).1
  pub shift : (op : ShiftOp) (w : Width) (a b : V) (f g : Flags) → AnswersKeep f g (ops.shift op w a b f) (ops.shift op w a b g)
  pub shift_sets : (op : ShiftOp) (w : Width) (a : V) (n : ℕ) (f g : Flags) → is_count w (count.Imm n) ≡ true → AnswersSet (written_above_zero op n) (ops.shift op w a (ops.num B n) f) (ops.shift op w a (ops.num B n) g)
  pub bit : (op : BitOp) (w : Width) (a b : V) (f g : Flags) → (ops.bit op w a b f).0 ≡ (ops.bit op w a b g).0
  pub bit_keeps : (op : BitOp) (w : Width) (a b : V) (f g : Flags) → KeepFlags f g (ops.bit op w a b f).1 (ops.bit op w a b g).1
  pub bit_sets : (op : BitOp) (w : Width) (a b : V) (f g : Flags) → SetFlags written_bit (ops.bit op w a b f).1 (ops.bit op w a b g).1

-- ---- numbers

with-carry : (f g : Flags) (answer : Bool → ℕ × Flags) → SameFlag Cf f g → with_carry (known_flag f.cf) answer ≡ with_carry (known_flag g.cf) answer
with-carry f g answer e = ap (λ t. with_carry (known_flag t) answer) e

alu-number : (op : AluOp) (w : Width) (a b : ℕ) (f g : Flags) → SetFlags (borrowed op) f g → alu_of op w a b f ≡ alu_of op w a b g
alu-number alu.Add w a b f g h = refl
alu-number alu.Or w a b f g h = refl
alu-number alu.Adc w a b f g h = with-carry f g (sum_result w a b) h.0
alu-number alu.Sbb w a b f g h = with-carry f g (difference_result w a b) h.0
alu-number alu.And w a b f g h = refl
alu-number alu.Sub w a b f g h = refl
alu-number alu.Xor w a b f g h = refl
alu-number alu.Cmp w a b f g h = refl

-- flags of which the first alone is passed on
carry-kept : (f g p : Flags) → KeepFlags f g (record p { cf = f.cf }) (record p { cf = g.cf })
carry-kept f g p Cf e = e
carry-kept f g p Zf e = refl
carry-kept f g p Sf e = refl
carry-kept f g p Of e = refl
carry-kept f g p Pf e = refl

one-number : (op : OneOp) (w : Width) (a : ℕ) (f g : Flags) → (one_of op w a f).0 ≡ (one_of op w a g).0
one-number one.Inc w a f g = refl
one-number one.Dec w a f g = refl
one-number one.Not w a f g = refl
one-number one.Neg w a f g = refl
one-number one.Mul w a f g = refl
one-number one.Imul w a f g = refl
one-number one.Div w a f g = refl
one-number one.Idiv w a f g = refl

one-number-keeps : (op : OneOp) (w : Width) (a : ℕ) (f g : Flags) → KeepFlags f g (one_of op w a f).1 (one_of op w a g).1
one-number-keeps one.Inc w a f g x e = carry-kept f g (sum_result w a 1 false).1 x e
one-number-keeps one.Dec w a f g x e = carry-kept f g (difference_result w a 1 false).1 x e
one-number-keeps one.Not w a f g x e = e
one-number-keeps one.Neg w a f g x e = refl
one-number-keeps one.Mul w a f g x e = e
one-number-keeps one.Imul w a f g x e = e
one-number-keeps one.Div w a f g x e = e
one-number-keeps one.Idiv w a f g x e = e

all-same : (p : Flags) (xs : List Flag) → SetFlags xs p p
all-same p [] = tt
all-same p (x ∷ xs) = (refl, all-same p xs)

one-number-sets : (op : OneOp) (w : Width) (a : ℕ) (f g : Flags) → IsTrue (is_unary op) → SetFlags (written_one op) (one_of op w a f).1 (one_of op w a g).1
one-number-sets one.Inc w a f g h = (refl, (refl, (refl, (refl, tt))))
one-number-sets one.Dec w a f g h = (refl, (refl, (refl, (refl, tt))))
one-number-sets one.Not w a f g h = tt
one-number-sets one.Neg w a f g h = (refl, (refl, (refl, (refl, (refl, tt)))))
one-number-sets one.Mul w a f g h = cc
one-number-sets one.Imul w a f g h = cc
one-number-sets one.Div w a f g h = cc
one-number-sets one.Idiv w a f g h = cc

-- a flag that a rotate passes on, and another shift sets
passed : (rotates : Bool) (t u v : Tri) → t ≡ u → (if rotates then t else v) ≡ (if rotates then u else v)
passed rotates t u v e = ap (λ s. if rotates then s else v) e

shift-flags-keep : (op : ShiftOp) (w : Width) (a c : ℕ) (f g : Flags) → KeepFlags f g (shift_flags op w a c f) (shift_flags op w a c g)
shift-flags-keep op w a c f g Cf e = refl
shift-flags-keep op w a c f g Zf e = passed (is_rotate op) f.zf g.zf _ e
shift-flags-keep op w a c f g Sf e = passed (is_rotate op) f.sf g.sf _ e
shift-flags-keep op w a c f g Of e = refl
shift-flags-keep op w a c f g Pf e = passed (is_rotate op) f.pf g.pf _ e

shift-flags-set : (op : ShiftOp) (w : Width) (a c : ℕ) (f g : Flags) → SetFlags (written_shift op) (shift_flags op w a c f) (shift_flags op w a c g)
shift-flags-set Rol w a c f g = (refl, (refl, tt))
shift-flags-set Ror w a c f g = (refl, (refl, tt))
shift-flags-set Shl w a c f g = (refl, (refl, (refl, (refl, (refl, tt)))))
shift-flags-set Shr w a c f g = (refl, (refl, (refl, (refl, (refl, tt)))))
shift-flags-set Sar w a c f g = (refl, (refl, (refl, (refl, (refl, tt)))))

abbrev shifted_when : Bool → ShiftOp → Width → ℕ → ℕ → Flags → ℕ × Flags
shifted_when none op w a c f = if none then (low w a, f) else (shift_result op w a c, shift_flags op w a c f)

shifted-same : (none : Bool) (op : ShiftOp) (w : Width) (a c : ℕ) (f g : Flags) → (shifted_when none op w a c f).0 ≡ (shifted_when none op w a c g).0
shifted-same true op w a c f g = refl
shifted-same false op w a c f g = refl

shifted-keeps : (none : Bool) (op : ShiftOp) (w : Width) (a c : ℕ) (f g : Flags) → KeepFlags f g (shifted_when none op w a c f).1 (shifted_when none op w a c g).1
shifted-keeps true op w a c f g x e = e
shifted-keeps false op w a c f g x e = shift-flags-keep op w a c f g x e

shifted-sets : (none : Bool) (op : ShiftOp) (w : Width) (a c : ℕ) (f g : Flags) → SetFlags (if none then [] else written_shift op) (shifted_when none op w a c f).1 (shifted_when none op w a c g).1
shifted-sets true op w a c f g = tt
shifted-sets false op w a c f g = shift-flags-set op w a c f g

-- the count of a shift by a number is that number
count-is : (w : Width) (n m : ℕ) → is_count w (count.Imm n) ≡ true → m ≡ n % 256 → shift_count w (low B m) ≡ n
count-is B n m h e = let lt = ltb-true n 32 h in omega (arith, lt, e)
count-is W n m h e = let lt = ltb-true n 32 h in omega (arith, lt, e)
count-is L n m h e = let lt = ltb-true n 32 h in omega (arith, lt, e)
count-is Q n m h e = let lt = ltb-true n 64 h in omega (arith, lt, e)

by-number-sets : (op : ShiftOp) (w : Width) (a n m : ℕ) (f g : Flags) → is_count w (count.Imm n) ≡ true → m ≡ n % 256
    → SetFlags (written_above_zero op n) (shifted_by op w a (shift_count w (low B m)) f).1 (shifted_by op w a (shift_count w (low B m)) g).1
by-number-sets op w a n m f g h e =
    subst (λ c. SetFlags (written_above_zero op n) (shifted_by op w a c f).1 (shifted_by op w a c g).1) (sym (count-is w n m h e)) (shifted-sets (nat_eq n 0) op w a n f g)

bit-keeps : (op : BitOp) (w : Width) (a i : ℕ) (f g : Flags) → KeepFlags f g (bit_of op w a i f).1 (bit_of op w a i g).1
bit-keeps op w a i f g Cf e = refl
bit-keeps op w a i f g Zf e = e
bit-keeps op w a i f g Sf e = refl
bit-keeps op w a i f g Of e = refl
bit-keeps op w a i f g Pf e = refl

pub numbers-use : (placed : Placed) → UsesFlags (numbers_over placed)
numbers-use placed = record {
  alu = alu-number;
  one = one-number;
  one_keeps = one-number-keeps;
  one_sets = one-number-sets;
  shift = λ op w a b f g. (shifted-same (nat_eq (shift_count w (low B b)) 0) op w a _ f g, shifted-keeps (nat_eq (shift_count w (low B b)) 0) op w a _ f g);
  shift_sets = λ op w a n f g h. by-number-sets op w a n (low B n) f g h refl;
  bit = λ op w a b f g. refl;
  bit_keeps = bit-keeps;
  bit_sets = λ op w a b f g. (refl, (refl, (refl, (refl, tt))));
}

-- ---- words

needed-same : (op : AluOp) (f g : Flags) → SetFlags (borrowed op) f g → needed_flag op f ≡ needed_flag op g
needed-same alu.Add f g h = refl
needed-same alu.Or f g h = refl
needed-same alu.Adc f g h = ap known_flag h.0
needed-same alu.Sbb f g h = ap known_flag h.0
needed-same alu.And f g h = refl
needed-same alu.Sub f g h = refl
needed-same alu.Xor f g h = refl
needed-same alu.Cmp f g h = refl

alu-word : (regions : List Region) (holes : List Hole) (op : AluOp) (w : Width) (a b : List Cell) (f g : Flags) → SetFlags (borrowed op) f g → (m n : Option ℕ) → alu_by regions holes op w a b f m n ≡ alu_by regions holes op w a b g m n
alu-word regions holes op w a b f g h (Some m) (Some n) = ap (numbered_answer w) (alu-number op w m n f g h)
alu-word regions holes op w a b f g h (Some m) None = ap (λ c. after_flag c (alu_rows regions holes op w a b)) (needed-same op f g h)
alu-word regions holes op w a b f g h None n = ap (λ c. after_flag c (alu_rows regions holes op w a b)) (needed-same op f g h)

-- a place that is moved: the carry flag is passed on, and nothing is known of the others
abbrev moved_when : Bool → List Cell → Tri → List Cell × Flags
moved_when place word cf = if place then (word, record no_flags { cf = cf }) else unknown_result Q

moved-same : (place : Bool) (word : List Cell) (s t : Tri) → (moved_when place word s).0 ≡ (moved_when place word t).0
moved-same true word s t = refl
moved-same false word s t = refl

moved-keeps : (place : Bool) (word : List Cell) (f g : Flags) → KeepFlags f g (moved_when place word f.cf).1 (moved_when place word g.cf).1
moved-keeps true word f g x e = carry-kept f g no_flags x e
moved-keeps false word f g x e = refl

moved-sets : (place : Bool) (word : List Cell) (f g : Flags) → SetFlags all_but_carry (moved_when place word f.cf).1 (moved_when place word g.cf).1
moved-sets true word f g = (refl, (refl, (refl, (refl, tt))))
moved-sets false word f g = (refl, (refl, (refl, (refl, tt))))

stepped-same : (o : Option ℕ) (k : Kind) (s t : Tri) → (step_result o k s).0 ≡ (step_result o k t).0
stepped-same (Some by) (Whole a) s t = moved-same (is_place a) _ s t
stepped-same (Some by) (Number n) s t = refl
stepped-same (Some by) Mixed s t = refl
stepped-same None k s t = refl

stepped-keeps : (o : Option ℕ) (k : Kind) (f g : Flags) → KeepFlags f g (step_result o k f.cf).1 (step_result o k g.cf).1
stepped-keeps (Some by) (Whole a) f g x e = moved-keeps (is_place a) _ f g x e
stepped-keeps (Some by) (Number n) f g x e = refl
stepped-keeps (Some by) Mixed f g x e = refl
stepped-keeps None k f g x e = refl

stepped-sets : (by : ℕ) (k : Kind) (f g : Flags) → SetFlags all_but_carry (step_result (Some by) k f.cf).1 (step_result (Some by) k g.cf).1
stepped-sets by (Whole a) f g = moved-sets (is_place a) _ f g
stepped-sets by (Number n) f g = (refl, (refl, (refl, (refl, tt))))
stepped-sets by Mixed f g = (refl, (refl, (refl, (refl, tt))))

row-sets : (op : OneOp) (k : Kind) (f g : Flags) → IsTrue (is_unary op) → SetFlags (written_one op) (step_result (step_of op) k f.cf).1 (step_result (step_of op) k g.cf).1
row-sets one.Inc k f g h = stepped-sets _ k f g
row-sets one.Dec k f g h = stepped-sets _ k f g
row-sets one.Not k f g h = tt
row-sets one.Neg k f g h = (refl, (refl, (refl, (refl, (refl, tt)))))
row-sets one.Mul k f g h = cc
row-sets one.Imul k f g h = cc
row-sets one.Div k f g h = cc
row-sets one.Idiv k f g h = cc

one-row : (op : OneOp) (w : Width) (a : List Cell) (f g : Flags) → (one_rows op w a f).0 ≡ (one_rows op w a g).0
one-row op B a f g = refl
one-row op W a f g = refl
one-row op L a f g = refl
one-row op Q a f g = stepped-same (step_of op) (word_kind a) f.cf g.cf

one-row-keeps : (op : OneOp) (w : Width) (a : List Cell) (f g : Flags) → KeepFlags f g (one_rows op w a f).1 (one_rows op w a g).1
one-row-keeps op B a f g x e = refl
one-row-keeps op W a f g x e = refl
one-row-keeps op L a f g x e = refl
one-row-keeps op Q a f g x e = stepped-keeps (step_of op) (word_kind a) f g x e

one-row-sets : (op : OneOp) (w : Width) (a : List Cell) (f g : Flags) → IsTrue (is_unary op) → SetFlags (written_one op) (one_rows op w a f).1 (one_rows op w a g).1
one-row-sets op B a f g h = all-same no_flags (written_one op)
one-row-sets op W a f g h = all-same no_flags (written_one op)
one-row-sets op L a f g h = all-same no_flags (written_one op)
one-row-sets op Q a f g h = row-sets op (word_kind a) f g h

one-word : (op : OneOp) (w : Width) (a : List Cell) (f g : Flags) (o : Option ℕ) → (one_by op w a f o).0 ≡ (one_by op w a g o).0
one-word op w a f g (Some n) = ap (number_cells w) (one-number op w n f g)
one-word op w a f g None = one-row op w a f g

one-word-keeps : (op : OneOp) (w : Width) (a : List Cell) (f g : Flags) (o : Option ℕ) → KeepFlags f g (one_by op w a f o).1 (one_by op w a g o).1
one-word-keeps op w a f g (Some n) x e = one-number-keeps op w n f g x e
one-word-keeps op w a f g None x e = one-row-keeps op w a f g x e

one-word-sets : (op : OneOp) (w : Width) (a : List Cell) (f g : Flags) (o : Option ℕ) → IsTrue (is_unary op) → SetFlags (written_one op) (one_by op w a f o).1 (one_by op w a g o).1
one-word-sets op w a f g (Some n) h = one-number-sets op w n f g h
one-word-sets op w a f g None h = one-row-sets op w a f g h

shift-word : (op : ShiftOp) (w : Width) (count : ℕ) (f g : Flags) (o : Option ℕ) → (shift_by op w count f o).0 ≡ (shift_by op w count g o).0
shift-word op w count f g (Some n) = ap (number_cells w) (shifted-same (nat_eq (shift_count w (low B count)) 0) op w n _ f g)
shift-word op w count f g None = refl

shift-word-keeps : (op : ShiftOp) (w : Width) (count : ℕ) (f g : Flags) (o : Option ℕ) → KeepFlags f g (shift_by op w count f o).1 (shift_by op w count g o).1
shift-word-keeps op w count f g (Some n) x e = shifted-keeps (nat_eq (shift_count w (low B count)) 0) op w n _ f g x e
shift-word-keeps op w count f g None x e = refl

shift-word-sets : (op : ShiftOp) (w : Width) (n m : ℕ) (f g : Flags) (o : Option ℕ) → is_count w (count.Imm n) ≡ true → m ≡ n % 256 → SetFlags (written_above_zero op n) (shift_by op w m f o).1 (shift_by op w m g o).1
shift-word-sets op w n m f g (Some v) h e = by-number-sets op w v n m f g h e
shift-word-sets op w n m f g None h e = all-same no_flags (written_above_zero op n)

counted-keeps : (op : ShiftOp) (w : Width) (a : List Cell) (f g : Flags) (o : Option ℕ) → AnswersKeep f g (counted_shift op w a f o) (counted_shift op w a g o)
counted-keeps op w a f g (Some count) = (shift-word op w count f g (word_number w a), shift-word-keeps op w count f g (word_number w a))
counted-keeps op w a f g None = refl

bit-word : (op : BitOp) (w : Width) (f g : Flags) (m n : Option ℕ) → (bit_by op w f m n).0 ≡ (bit_by op w g m n).0
bit-word op w f g (Some m) (Some n) = refl
bit-word op w f g (Some m) None = refl
bit-word op w f g None n = refl

bit-word-keeps : (op : BitOp) (w : Width) (f g : Flags) (m n : Option ℕ) → KeepFlags f g (bit_by op w f m n).1 (bit_by op w g m n).1
bit-word-keeps op w f g (Some m) (Some n) x e = bit-keeps op w m n f g x e
bit-word-keeps op w f g (Some m) None x e = refl
bit-word-keeps op w f g None n x e = refl

bit-word-sets : (op : BitOp) (w : Width) (f g : Flags) (m n : Option ℕ) → SetFlags written_bit (bit_by op w f m n).1 (bit_by op w g m n).1
bit-word-sets op w f g (Some m) (Some n) = (refl, (refl, (refl, (refl, tt))))
bit-word-sets op w f g (Some m) None = (refl, (refl, (refl, (refl, tt))))
bit-word-sets op w f g None n = (refl, (refl, (refl, (refl, tt))))

-- the number of a byte
number-of-byte : (n : ℕ) → byte_of n 0 + 256 * 0 ≡ n % 256
number-of-byte n = omega arith

pub symbols-use : (placed : Placed) → UsesFlags (symbols_over placed)
symbols-use placed = record {
  alu = λ op w a b f g h. alu-word placed.regions placed.holes op w a b f g h (word_number w a) (word_number w b);
  one = λ op w a f g. one-word op w a f g (word_number w a);
  one_keeps = λ op w a f g. one-word-keeps op w a f g (word_number w a);
  one_sets = λ op w a f g. one-word-sets op w a f g (word_number w a);
  shift = λ op w a b f g. counted-keeps op w a f g (word_number B b);
  shift_sets = λ op w a n f g h. shift-word-sets op w n _ f g (word_number w a) h (number-of-byte n);
  bit = λ op w a b f g. bit-word op w f g (word_number w a) (word_number w b);
  bit_keeps = λ op w a b f g. bit-word-keeps op w f g (word_number w a) (word_number w b);
  bit_sets = λ op w a b f g. bit-word-sets op w f g (word_number w a) (word_number w b);
}
