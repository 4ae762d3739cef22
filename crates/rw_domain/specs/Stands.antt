-- When words, bytes and flags of one domain stand for those of another: R ties words, and Byte ties bytes.
use Rattle.std.specs.Prelude.{◌≡◌, ◌≤◌, ℕ, ℤ, List, [], ◌∷◌, Option, Some, None, Result, Ok, Err, true, false}
use Rattle.rw_base.specs.declared.width.Width.{Width}
use Rattle.rw_base.specs.declared.width.Width.TheVariants.{B}
use Rattle.x86_insn.specs.declared.kinds.AluOp.{AluOp}
use Rattle.rw_domain.specs.declared.cause.Cause.{Cause}
use Rattle.rw_domain.specs.declared.flags.Tri.{Tri}
use Rattle.rw_domain.specs.declared.flags.Tri.TheVariants.{Yes, No, Unknown}
use Rattle.rw_domain.specs.declared.flags.Flags.{Flags}
use Rattle.rw_domain.specs.declared.place.Access.{Access}
use Rattle.rw_domain.specs.Operators.{Operators}

-- a flag stands for itself, and an unknown one for anything
abbrev pub FlagStands : Tri → Tri → Type 0
FlagStands Yes t = t ≡ Yes
FlagStands No t = t ≡ No
FlagStands Unknown t = Unit {0}

pub record FlagsStand (f g : Flags) : Type 0 where
  pub cf : FlagStands f.cf g.cf
  pub zf : FlagStands f.zf g.zf
  pub sf : FlagStands f.sf g.sf
  pub of : FlagStands f.of g.of
  pub pf : FlagStands f.pf g.pf

-- two lists of one length, tied element by element
abbrev pub Both : {A T : Type 0} → (A → T → Type 0) → List A → List T → Type 0
Both R [] [] = Unit {0}
Both R [] (y ∷ ys) = ⊥
Both R (x ∷ xs) [] = ⊥
Both R (x ∷ xs) (y ∷ ys) = R x y × Both R xs ys

abbrev pub OptionStands : {A T : Type 0} → (A → T → Type 0) → Option A → Option T → Type 0
OptionStands R None None = Unit {0}
OptionStands R None (Some y) = ⊥
OptionStands R (Some x) None = ⊥
OptionStands R (Some x) (Some y) = R x y

-- where the first is known, the second is the same
abbrev pub KnownStands : {T : Type 0} → Option T → Option T → Type 0
KnownStands None o = Unit {0}
KnownStands (Some v) o = o ≡ Some v

-- where the first is an answer, the second is one for which it stands
abbrev pub ResultStands : {A T : Type 0} → (A → T → Type 0) → Result A Cause → Result T Cause → Type 0
ResultStands R (Err c) o = Unit {0}
ResultStands R (Ok x) (Err d) = ⊥
ResultStands R (Ok x) (Ok y) = R x y

-- The operators of the first stand for those of the second, which forgets nothing.
pub record OperatorsStand {V W E F : Type 0} (R : V → W → Type 0) (Byte : E → F → Type 0) (s : Operators V E) (n : Operators W F) : Type 0 where
  pub num : (w : Width) (v : ℕ) → R (s.num w v) (n.num w v)
  pub undef : (w : Width) → R (s.undef w) (n.undef w)
  pub number : (w : Width) (a : V) (b : W) → R a b → KnownStands (s.number w a) (n.number w b)
  pub split : (a : V) (b : W) (i : ℕ) → R a b → Byte (s.split a i) (n.split b i)
  pub join : (w : Width) (xs : List E) (ys : List F) → Both Byte xs ys → R (s.join w xs) (n.join w ys)
  pub alu : (op : AluOp) (w : Width) (a c : V) (b d : W) (f g : Flags) → R a b → R c d → FlagsStand f g → ResultStands (λ p q. R p.0 q.0 × FlagsStand p.1 q.1) (s.alu op w a c f) (n.alu op w b d g)
  pub sum : (base : Option V) (base' : Option W) (index : Option (V × ℕ)) (index' : Option (W × ℕ)) (disp : ℤ) → OptionStands R base base' → OptionStands (λ p q. R p.0 q.0 × (p.1 ≡ q.1)) index index' → R (s.sum base index disp) (n.sum base' index' disp)
  pub canary : R s.canary n.canary
  pub place : (a : V) (b : W) (len : ℕ) (access : Access) → 1 ≤ len → R a b → ResultStands (λ p q. p ≡ q) (s.place a len access) (n.place b len access)
  pub stack : n.stack ≡ s.stack
  pub stack_fits : (a : V) (b : W) → R a b → s.stack_fits a ≡ true → n.stack_fits b ≡ true
  -- a forgotten byte stands for any byte for which one stood
  pub forgets : s.forgets ≡ true → (a : E) (b : F) → Byte a b → Byte (s.split (s.undef B) 0) b
  pub keeps : n.forgets ≡ false
