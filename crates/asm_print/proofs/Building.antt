-- An instruction is built alike whatever its references are.
use Rattle.std.proofs.Common.{◌≡◌, Option, Some, None, refl, ap, ◌∙◌}
use Rattle.std.specs.Prelude.{ℤ, option_map}
use Rattle.rw_base.specs.declared.width.Width.{Width}
use Rattle.rw_base.specs.declared.width.Width.TheVariants.{B, W, L, Q}
use Rattle.x86_insn.specs.declared.kinds.Reg8.TheVariants.{Low, High}
use Rattle.x86_insn.specs.declared.kinds.Reg.{Reg}
use Rattle.x86_insn.specs.declared.kinds.Count.{Count}
use Rattle.x86_insn.specs.declared.operands.Mem.{Mem}
use Rattle.x86_insn.specs.declared.operands.Operand.{Operand}
use Rattle.x86_insn.specs.declared.instruction.Insn.{Insn}
use Rattle.x86_insn.specs.declared.instruction.Insn.TheVariants as insns
use Rattle.x86_insn.specs.References.{map_mem, map_operand, map_references}
use Rattle.asm_print.specs.declared.spelling.Form.{Form}
use Rattle.asm_print.specs.declared.spelling.Form.TheVariants as forms
use Rattle.asm_print.specs.declared.spelling.Arg.{Arg}
use Rattle.asm_print.specs.declared.spelling.Arg.TheVariants as argument
use Rattle.asm_print.specs.declared.spelling.Args.{Args}
use Rattle.asm_print.specs.declared.spelling.Args.TheVariants.{Zero, One, Star, Two, Three}
use Rattle.asm_print.specs.Pieces.{◌>>=◌}
use Rattle.asm_print.specs.Building.{low_at, operand_at, count_in, register_at, immediate_at, memory_at, target_at, one_at, star_at, two_at, into_register, into_named, long_into, address_into, product_into, shifted_at, target_of, register_of, alone, built}
use Rattle.asm_print.specs.Spelling.{map_arg, map_args}

-- what is found next, where the first step is seen by view and the whole by whole
bind-map : {A B C D : Type 0} (view : A → B) (whole : C → D) (o : Option A) (k : A → Option C) (l : B → Option D) → ((a : A) → l (view a) ≡ option_map whole (k a)) → (option_map view o >>= l) ≡ option_map whole (o >>= k)
bind-map view whole None k l h = refl
bind-map view whole (Some a) k l h = h a

bind-same : {B C D : Type 0} (whole : C → D) (o : Option B) (k : B → Option C) (l : B → Option D) → ((b : B) → l b ≡ option_map whole (k b)) → (o >>= l) ≡ option_map whole (o >>= k)
bind-same whole None k l h = refl
bind-same whole (Some b) k l h = h b

module _ {R S : Type 0} (f : R → S) where
  low-map : (w : Width) (r : Reg) → low_at {R = S} w r ≡ map_operand f (low_at w r)
  low-map B r = refl
  low-map W r = refl
  low-map L r = refl
  low-map Q r = refl

  operand-map : (w : Width) (a : Arg R) → operand_at w (map_arg f a) ≡ option_map (map_operand f) (operand_at w a)
  operand-map w (argument.Reg v (High r)) = refl
  operand-map w (argument.Reg v (Low r)) = ap Some (low-map w r)
  operand-map w (argument.Imm n) = refl
  operand-map w (argument.Mem m) = refl
  operand-map w (argument.To s) = refl

  count-map : (a : Arg R) → count_in (map_arg f a) ≡ count_in a
  count-map (argument.Reg w r) = refl
  count-map (argument.Imm n) = refl
  count-map (argument.Mem m) = refl
  count-map (argument.To s) = refl

  register-map : (a : Arg R) → register_at (map_arg f a) ≡ register_at a
  register-map (argument.Reg w (Low r)) = refl
  register-map (argument.Reg w (High r)) = refl
  register-map (argument.Imm n) = refl
  register-map (argument.Mem m) = refl
  register-map (argument.To s) = refl

  immediate-map : (a : Arg R) → immediate_at (map_arg f a) ≡ immediate_at a
  immediate-map (argument.Reg w r) = refl
  immediate-map (argument.Imm n) = refl
  immediate-map (argument.Mem m) = refl
  immediate-map (argument.To s) = refl

  memory-map : (a : Arg R) → memory_at (map_arg f a) ≡ option_map (map_mem f) (memory_at a)
  memory-map (argument.Reg w r) = refl
  memory-map (argument.Imm n) = refl
  memory-map (argument.Mem m) = refl
  memory-map (argument.To s) = refl

  target-map : (a : Arg R) → target_at (map_arg f a) ≡ option_map f (target_at a)
  target-map (argument.Reg w r) = refl
  target-map (argument.Imm n) = refl
  target-map (argument.Mem m) = refl
  target-map (argument.To s) = refl

  -- ---- steps

  module _ {C D : Type 0} (whole : C → D) where
    with-operand : (w : Width) (a : Arg R) (k : Operand R → Option C) (l : Operand S → Option D) → ((o : Operand R) → l (map_operand f o) ≡ option_map whole (k o)) → (operand_at w (map_arg f a) >>= l) ≡ option_map whole (operand_at w a >>= k)
    with-operand w a k l h = ap (λ o. o >>= l) (operand-map w a) ∙ bind-map (map_operand f) whole (operand_at w a) k l h

    with-memory : (a : Arg R) (k : Mem R → Option C) (l : Mem S → Option D) → ((m : Mem R) → l (map_mem f m) ≡ option_map whole (k m)) → (memory_at (map_arg f a) >>= l) ≡ option_map whole (memory_at a >>= k)
    with-memory a k l h = ap (λ o. o >>= l) (memory-map a) ∙ bind-map (map_mem f) whole (memory_at a) k l h

    with-same : {B : Type 0} (o r : Option B) → o ≡ r → (k : B → Option C) (l : B → Option D) → ((b : B) → l b ≡ option_map whole (k b)) → (o >>= l) ≡ option_map whole (r >>= k)
    with-same o r e k l h = ap (λ x. x >>= l) e ∙ bind-same whole r k l h

  -- ---- arguments

  one-map : (w : Width) (args : Args R) → one_at w (map_args f args) ≡ option_map (map_operand f) (one_at w args)
  one-map w Zero = refl
  one-map w (One a) = operand-map w a
  one-map w (Star a) = refl
  one-map w (Two a b) = refl
  one-map w (Three a b c) = refl

  star-map : (args : Args R) → star_at (map_args f args) ≡ option_map (map_operand f) (star_at args)
  star-map Zero = refl
  star-map (One a) = refl
  star-map (Star a) = operand-map Q a
  star-map (Two a b) = refl
  star-map (Three a b c) = refl

  target_of-map : (args : Args R) → target_of (map_args f args) ≡ option_map f (target_of args)
  target_of-map Zero = refl
  target_of-map (One a) = target-map a
  target_of-map (Star a) = refl
  target_of-map (Two a b) = refl
  target_of-map (Three a b c) = refl

  register_of-map : (args : Args R) → register_of (map_args f args) ≡ register_of args
  register_of-map Zero = refl
  register_of-map (One a) = register-map a
  register_of-map (Star a) = refl
  register_of-map (Two a b) = refl
  register_of-map (Three a b c) = refl

  abbrev both : Operand R × Operand R → Operand S × Operand S
  both x = (map_operand f x.0, map_operand f x.1)

  two-map : (w : Width) (args : Args R) → two_at w (map_args f args) ≡ option_map both (two_at w args)
  two-map w Zero = refl
  two-map w (One a) = refl
  two-map w (Star a) = refl
  two-map w (Two a b) = with-operand both w a _ _ (λ o. with-operand both w b _ _ (λ p. refl))
  two-map w (Three a b c) = refl

  abbrev source : Operand R × Reg → Operand S × Reg
  source x = (map_operand f x.0, x.1)

  into-map : (w : Width) (args : Args R) → into_register w (map_args f args) ≡ option_map source (into_register w args)
  into-map w Zero = refl
  into-map w (One a) = refl
  into-map w (Star a) = refl
  into-map w (Two a b) = with-operand source w a _ _ (λ o. with-same source _ _ (register-map b) _ _ (λ r. refl))
  into-map w (Three a b c) = refl

  abbrev named_source : Operand R × Width × Reg → Operand S × Width × Reg
  named_source x = (map_operand f x.0, x.1, x.2)

  named-map : (args : Args R) → into_named (map_args f args) ≡ option_map named_source (into_named args)
  named-map Zero = refl
  named-map (One a) = refl
  named-map (Star a) = refl
  named-map (Two a b) = with-same named_source _ _ (register-map b) _ _ (λ r. with-operand named_source r.0 a _ _ (λ o. refl))
  named-map (Three a b c) = refl

  abbrev number : ℤ × Reg → ℤ × Reg
  number x = x

  long-map : (args : Args R) → long_into (map_args f args) ≡ option_map number (long_into args)
  long-map Zero = refl
  long-map (One a) = refl
  long-map (Star a) = refl
  long-map (Two a b) = with-same number _ _ (immediate-map a) _ _ (λ v. with-same number _ _ (register-map b) _ _ (λ r. refl))
  long-map (Three a b c) = refl

  abbrev address : Mem R × Reg → Mem S × Reg
  address x = (map_mem f x.0, x.1)

  address-map : (args : Args R) → address_into (map_args f args) ≡ option_map address (address_into args)
  address-map Zero = refl
  address-map (One a) = refl
  address-map (Star a) = refl
  address-map (Two a b) = with-memory address a _ _ (λ m. with-same address _ _ (register-map b) _ _ (λ r. refl))
  address-map (Three a b c) = refl

  abbrev product : ℤ × Operand R × Reg → ℤ × Operand S × Reg
  product x = (x.0, map_operand f x.1, x.2)

  product-map : (w : Width) (args : Args R) → product_into w (map_args f args) ≡ option_map product (product_into w args)
  product-map w Zero = refl
  product-map w (One a) = refl
  product-map w (Star a) = refl
  product-map w (Two a b) = refl
  product-map w (Three a b c) = with-same product _ _ (immediate-map a) _ _ (λ v. with-operand product w b _ _ (λ o. with-same product _ _ (register-map c) _ _ (λ r. refl)))

  abbrev shifted : Count × Operand R → Count × Operand S
  shifted x = (x.0, map_operand f x.1)

  shifted-map : (w : Width) (args : Args R) → shifted_at w (map_args f args) ≡ option_map shifted (shifted_at w args)
  shifted-map w Zero = refl
  shifted-map w (One a) = refl
  shifted-map w (Star a) = refl
  shifted-map w (Two a b) = with-same shifted _ _ (count-map a) _ _ (λ n. with-operand shifted w b _ _ (λ o. refl))
  shifted-map w (Three a b c) = refl

  alone-map : (args : Args R) (i : Insn R) (j : Insn S) → j ≡ map_references f i → alone (map_args f args) j ≡ option_map (map_references f) (alone args i)
  alone-map Zero i j e = ap Some e
  alone-map (One a) i j e = refl
  alone-map (Star a) i j e = refl
  alone-map (Two a b) i j e = refl
  alone-map (Three a b c) i j e = refl

  -- ---- instructions

  module _ {A B : Type 0} (view : A → B) where
    then-map : (o : Option B) (r : Option A) → o ≡ option_map view r → (k : A → Insn R) (l : B → Insn S) → ((a : A) → l (view a) ≡ map_references f (k a)) → (o >>= λ x. Some (l x)) ≡ option_map (map_references f) (r >>= λ x. Some (k x))
    then-map o r e k l h = ap (λ x. x >>= λ y. Some (l y)) e ∙ bind-map view (map_references f) r (λ x. Some (k x)) (λ x. Some (l x)) (λ a. ap Some (h a))

  then-same : {A : Type 0} (o r : Option A) → o ≡ r → (k : A → Insn R) (l : A → Insn S) → ((a : A) → l a ≡ map_references f (k a)) → (o >>= λ x. Some (l x)) ≡ option_map (map_references f) (r >>= λ x. Some (k x))
  then-same o r e k l h = ap (λ x. x >>= λ y. Some (l y)) e ∙ bind-same (map_references f) r (λ x. Some (k x)) (λ x. Some (l x)) (λ a. ap Some (h a))

  pub built-map : (form : Form) (args : Args R) → built form (map_args f args) ≡ option_map (map_references f) (built form args)
  built-map (forms.Alu op w) args = then-map both _ _ (two-map w args) (λ x. insns.Alu op w x.1 x.0) (λ x. insns.Alu op w x.1 x.0) (λ x. refl)
  built-map (forms.Test w) args = then-map both _ _ (two-map w args) (λ x. insns.Test w x.1 x.0) (λ x. insns.Test w x.1 x.0) (λ x. refl)
  built-map (forms.Xchg w) args = then-map both _ _ (two-map w args) (λ x. insns.Xchg w x.1 x.0) (λ x. insns.Xchg w x.1 x.0) (λ x. refl)
  built-map (forms.Mov w) args = then-map both _ _ (two-map w args) (λ x. insns.Mov w x.1 x.0) (λ x. insns.Mov w x.1 x.0) (λ x. refl)
  built-map forms.MovAbs args = then-map number _ _ (long-map args) (λ x. insns.MovAbs x.1 x.0) (λ x. insns.MovAbs x.1 x.0) (λ x. refl)
  built-map (forms.MovZx from_w w) args = then-map source _ _ (into-map from_w args) (λ x. insns.MovZx from_w w x.1 x.0) (λ x. insns.MovZx from_w w x.1 x.0) (λ x. refl)
  built-map (forms.MovSx from_w w) args = then-map source _ _ (into-map from_w args) (λ x. insns.MovSx from_w w x.1 x.0) (λ x. insns.MovSx from_w w x.1 x.0) (λ x. refl)
  built-map (forms.Lea w) args = then-map address _ _ (address-map args) (λ x. insns.Lea w x.1 x.0) (λ x. insns.Lea w x.1 x.0) (λ x. refl)
  built-map forms.Push args = then-map (map_operand f) _ _ (one-map Q args) (λ x. insns.Push x) (λ x. insns.Push x) (λ x. refl)
  built-map forms.Pop args = then-map (map_operand f) _ _ (one-map Q args) (λ x. insns.Pop x) (λ x. insns.Pop x) (λ x. refl)
  built-map (forms.Imul2 w) args = then-map source _ _ (into-map w args) (λ x. insns.Imul2 w x.1 x.0) (λ x. insns.Imul2 w x.1 x.0) (λ x. refl)
  built-map (forms.Imul3 w) args = then-map product _ _ (product-map w args) (λ x. insns.Imul3 w x.2 x.1 x.0) (λ x. insns.Imul3 w x.2 x.1 x.0) (λ x. refl)
  built-map (forms.One op w) args = then-map (map_operand f) _ _ (one-map w args) (λ x. insns.One op w x) (λ x. insns.One op w x) (λ x. refl)
  built-map (forms.Shift op w) args = then-map shifted _ _ (shifted-map w args) (λ x. insns.Shift op w x.1 x.0) (λ x. insns.Shift op w x.1 x.0) (λ x. refl)
  built-map (forms.Convert c) args = alone-map args (insns.Convert c) (insns.Convert c) refl
  built-map (forms.Movs w rep) args = alone-map args (insns.Movs w rep) (insns.Movs w rep) refl
  built-map (forms.Stos w rep) args = alone-map args (insns.Stos w rep) (insns.Stos w rep) refl
  built-map (forms.Cmov cond) args = then-map named_source _ _ (named-map args) (λ x. insns.Cmov cond x.1 x.2 x.0) (λ x. insns.Cmov cond x.1 x.2 x.0) (λ x. refl)
  built-map (forms.Setcc cond) args = then-map (map_operand f) _ _ (one-map B args) (λ x. insns.Setcc cond x) (λ x. insns.Setcc cond x) (λ x. refl)
  built-map (forms.Bit op w) args = then-map both _ _ (two-map w args) (λ x. insns.Bit op w x.1 x.0) (λ x. insns.Bit op w x.1 x.0) (λ x. refl)
  built-map (forms.Scan op w) args = then-map source _ _ (into-map w args) (λ x. insns.Scan op w x.1 x.0) (λ x. insns.Scan op w x.1 x.0) (λ x. refl)
  built-map forms.Bswap args = then-same _ _ (register_of-map args) (λ x. insns.Bswap x.0 x.1) (λ x. insns.Bswap x.0 x.1) (λ x. refl)
  built-map (forms.Jcc cond) args = then-map f _ _ (target_of-map args) (λ x. insns.Jcc cond x) (λ x. insns.Jcc cond x) (λ x. refl)
  built-map forms.Jmp args = then-map f _ _ (target_of-map args) (λ x. insns.Jmp x) (λ x. insns.Jmp x) (λ x. refl)
  built-map forms.Call args = then-map f _ _ (target_of-map args) (λ x. insns.Call x) (λ x. insns.Call x) (λ x. refl)
  built-map (forms.JmpTo notrack) args = then-map (map_operand f) _ _ (star-map args) (λ x. insns.JmpTo x notrack) (λ x. insns.JmpTo x notrack) (λ x. refl)
  built-map (forms.CallTo notrack) args = then-map (map_operand f) _ _ (star-map args) (λ x. insns.CallTo x notrack) (λ x. insns.CallTo x notrack) (λ x. refl)
  built-map forms.Ret args = alone-map args insns.Ret insns.Ret refl
  built-map forms.Leave args = alone-map args insns.Leave insns.Leave refl
  built-map forms.Syscall args = alone-map args insns.Syscall insns.Syscall refl
  built-map (forms.Plain c) args = alone-map args (insns.Plain c) (insns.Plain c) refl
