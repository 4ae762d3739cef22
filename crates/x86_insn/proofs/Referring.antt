-- Putting references into an instruction, one after another.
use Rattle.std.proofs.Common.{◌≡◌, Option, Some, None, IsSome, refl, sym, ap, ◌∙◌}
use Rattle.std.specs.Prelude.{option_map}
use Rattle.x86_insn.specs.declared.operands.Mem.{Mem}
use Rattle.x86_insn.specs.declared.operands.Mem.TheVariants.{At, Rel, Canary}
use Rattle.x86_insn.specs.declared.operands.Operand.{Operand}
use Rattle.x86_insn.specs.declared.operands.Operand.TheVariants as operand
use Rattle.x86_insn.specs.declared.instruction.Insn.{Insn}
use Rattle.x86_insn.specs.declared.instruction.Insn.TheVariants as insn
use Rattle.x86_insn.specs.References.{or_else, mem_reference, operand_reference, reference_of, map_mem, map_operand, map_references, shape_of}

mem_twice : {R S T : Type 0} (g : S → T) (f : R → S) (m : Mem R) → map_mem g (map_mem f m) ≡ map_mem (λ r. g (f r)) m
mem_twice g f (At b i d) = refl
mem_twice g f (Rel r) = refl
mem_twice g f Canary = refl

operand_twice : {R S T : Type 0} (g : S → T) (f : R → S) (o : Operand R) → map_operand g (map_operand f o) ≡ map_operand (λ r. g (f r)) o
operand_twice g f (operand.Mem m) = ap operand.Mem (mem_twice g f m)
operand_twice g f (operand.Reg r) = refl
operand_twice g f (operand.Byte r) = refl
operand_twice g f (operand.Imm v) = refl

-- to put in references twice is to put them in once
pub twice : {R S T : Type 0} (g : S → T) (f : R → S) (i : Insn R) → map_references g (map_references f i) ≡ map_references (λ r. g (f r)) i
twice g f (insn.Alu op w to from) = rw (operand_twice g f to, operand_twice g f from) refl
twice g f (insn.Test w e by) = rw (operand_twice g f e, operand_twice g f by) refl
twice g f (insn.Xchg w e k) = rw (operand_twice g f e, operand_twice g f k) refl
twice g f (insn.Mov w to from) = rw (operand_twice g f to, operand_twice g f from) refl
twice g f (insn.Bit op w at index) = rw (operand_twice g f at, operand_twice g f index) refl
twice g f (insn.MovZx a w r from) = rw (operand_twice g f from) refl
twice g f (insn.MovSx a w r from) = rw (operand_twice g f from) refl
twice g f (insn.Push from) = rw (operand_twice g f from) refl
twice g f (insn.Pop to) = rw (operand_twice g f to) refl
twice g f (insn.Imul2 w r from) = rw (operand_twice g f from) refl
twice g f (insn.Imul3 w r from v) = rw (operand_twice g f from) refl
twice g f (insn.One op w at) = rw (operand_twice g f at) refl
twice g f (insn.Shift op w at c) = rw (operand_twice g f at) refl
twice g f (insn.Cmov k w r from) = rw (operand_twice g f from) refl
twice g f (insn.Setcc k to) = rw (operand_twice g f to) refl
twice g f (insn.Scan op w r from) = rw (operand_twice g f from) refl
twice g f (insn.JmpTo to k) = rw (operand_twice g f to) refl
twice g f (insn.CallTo to k) = rw (operand_twice g f to) refl
twice g f (insn.Lea w r at) = rw (mem_twice g f at) refl
twice g f (insn.Jcc k to) = refl
twice g f (insn.Jmp to) = refl
twice g f (insn.Call to) = refl
twice g f (insn.MovAbs to v) = refl
twice g f (insn.Convert k) = refl
twice g f (insn.Movs w k) = refl
twice g f (insn.Stos w k) = refl
twice g f (insn.Bswap w r) = refl
twice g f insn.Ret = refl
twice g f insn.Leave = refl
twice g f insn.Syscall = refl
twice g f (insn.Plain k) = refl

mem_same : {R : Type 0} (m : Mem R) → map_mem (λ r. r) m ≡ m
mem_same (At b i d) = refl
mem_same (Rel r) = refl
mem_same Canary = refl

operand_same : {R : Type 0} (o : Operand R) → map_operand (λ r. r) o ≡ o
operand_same (operand.Mem m) = ap operand.Mem (mem_same m)
operand_same (operand.Reg r) = refl
operand_same (operand.Byte r) = refl
operand_same (operand.Imm v) = refl

-- to leave each reference as it is changes nothing
pub same : {R : Type 0} (i : Insn R) → map_references (λ r. r) i ≡ i
same (insn.Alu op w to from) = rw (operand_same to, operand_same from) refl
same (insn.Test w e by) = rw (operand_same e, operand_same by) refl
same (insn.Xchg w e k) = rw (operand_same e, operand_same k) refl
same (insn.Mov w to from) = rw (operand_same to, operand_same from) refl
same (insn.Bit op w at index) = rw (operand_same at, operand_same index) refl
same (insn.MovZx a w r from) = rw (operand_same from) refl
same (insn.MovSx a w r from) = rw (operand_same from) refl
same (insn.Push from) = rw (operand_same from) refl
same (insn.Pop to) = rw (operand_same to) refl
same (insn.Imul2 w r from) = rw (operand_same from) refl
same (insn.Imul3 w r from v) = rw (operand_same from) refl
same (insn.One op w at) = rw (operand_same at) refl
same (insn.Shift op w at c) = rw (operand_same at) refl
same (insn.Cmov k w r from) = rw (operand_same from) refl
same (insn.Setcc k to) = rw (operand_same to) refl
same (insn.Scan op w r from) = rw (operand_same from) refl
same (insn.JmpTo to k) = rw (operand_same to) refl
same (insn.CallTo to k) = rw (operand_same to) refl
same (insn.Lea w r at) = rw (mem_same at) refl
same (insn.Jcc k to) = refl
same (insn.Jmp to) = refl
same (insn.Call to) = refl
same (insn.MovAbs to v) = refl
same (insn.Convert k) = refl
same (insn.Movs w k) = refl
same (insn.Stos w k) = refl
same (insn.Bswap w r) = refl
same insn.Ret = refl
same insn.Leave = refl
same insn.Syscall = refl
same (insn.Plain k) = refl

mem_put : {R S : Type 0} (s : S) (m : Mem R) → IsSome (mem_reference m) → mem_reference (map_mem (λ _. s) m) ≡ Some s
mem_put s (Rel r) h = refl
mem_put s (At b i d) h = cc
mem_put s Canary h = cc

operand_put : {R S : Type 0} (s : S) (o : Operand R) → IsSome (operand_reference o) → operand_reference (map_operand (λ _. s) o) ≡ Some s
operand_put s (operand.Mem m) h = mem_put s m h
operand_put s (operand.Reg r) h = cc
operand_put s (operand.Byte r) h = cc
operand_put s (operand.Imm v) h = cc

pair_put : {R S : Type 0} (s : S) (a b : Operand R) → IsSome (or_else (operand_reference a) (operand_reference b)) → or_else (operand_reference (map_operand (λ _. s) a)) (operand_reference (map_operand (λ _. s) b)) ≡ Some s
pair_put s (operand.Mem (Rel r)) b h = refl
pair_put s (operand.Mem (At x y z)) b h = operand_put s b h
pair_put s (operand.Mem Canary) b h = operand_put s b h
pair_put s (operand.Reg r) b h = operand_put s b h
pair_put s (operand.Byte r) b h = operand_put s b h
pair_put s (operand.Imm v) b h = operand_put s b h

-- the reference is the one that was put in
pub put : {R S : Type 0} (s : S) (i : Insn R) → IsSome (reference_of i) → reference_of (map_references (λ _. s) i) ≡ Some s
put s (insn.Alu op w to from) h = pair_put s to from h
put s (insn.Test w e by) h = pair_put s e by h
put s (insn.Xchg w e k) h = pair_put s e k h
put s (insn.Mov w to from) h = pair_put s to from h
put s (insn.Bit op w at index) h = pair_put s at index h
put s (insn.MovZx a w r from) h = operand_put s from h
put s (insn.MovSx a w r from) h = operand_put s from h
put s (insn.Push from) h = operand_put s from h
put s (insn.Pop to) h = operand_put s to h
put s (insn.Imul2 w r from) h = operand_put s from h
put s (insn.Imul3 w r from v) h = operand_put s from h
put s (insn.One op w at) h = operand_put s at h
put s (insn.Shift op w at c) h = operand_put s at h
put s (insn.Cmov k w r from) h = operand_put s from h
put s (insn.Setcc k to) h = operand_put s to h
put s (insn.Scan op w r from) h = operand_put s from h
put s (insn.JmpTo to k) h = operand_put s to h
put s (insn.CallTo to k) h = operand_put s to h
put s (insn.Lea w r at) h = mem_put s at h
put s (insn.Jcc k to) h = refl
put s (insn.Jmp to) h = refl
put s (insn.Call to) h = refl
put s (insn.MovAbs to v) h = cc
put s (insn.Convert k) h = cc
put s (insn.Movs w k) h = cc
put s (insn.Stos w k) h = cc
put s (insn.Bswap w r) h = cc
put s insn.Ret h = cc
put s insn.Leave h = cc
put s insn.Syscall h = cc
put s (insn.Plain k) h = cc

pub chain : {A : Type 0} {a b c d : A} → a ≡ b → b ≡ c → c ≡ d → a ≡ d
chain p q r = cc

-- what an instruction with an optional reference in each place says of the one with a reference in each
pub shape_from : {R S : Type 0} (o : Option S) (j : Insn S) (i : Insn R) → map_references Some j ≡ map_references (λ _. o) i → shape_of j ≡ shape_of i
shape_from o j i h = chain (sym (twice (λ _. tt) Some j)) (ap (map_references (λ _. tt)) h) (twice (λ _. tt) (λ _. o) i)

abbrev or : {S : Type 0} → S → Option S → S
or s (Some t) = t
or s None = s

pub value_from : {R S : Type 0} (s : S) (j : Insn S) (i : Insn R) → map_references Some j ≡ map_references (λ _. Some s) i → j ≡ map_references (λ _. s) i
value_from s j i h = chain (sym (same j)) (sym (twice (or s) Some j)) (chain (ap (map_references (or s)) h) (twice (or s) (λ _. Some s) i) refl)

-- ---- the reference of an instruction with other references

two : {A B T : Type 0} (f : A → B → T) {a c : A} {b d : B} → a ≡ c → b ≡ d → f a b ≡ f c d
two f {a} {c} {b} {d} h k = ap (λ x. f x b) h ∙ ap (λ y. f c y) k

module _ {R S : Type 0} (f : R → S) where
  mem_mapped : (m : Mem R) → mem_reference (map_mem f m) ≡ option_map f (mem_reference m)
  mem_mapped (At base index disp) = refl
  mem_mapped (Rel r) = refl
  mem_mapped Canary = refl

  operand_mapped : (o : Operand R) → operand_reference (map_operand f o) ≡ option_map f (operand_reference o)
  operand_mapped (operand.Reg r) = refl
  operand_mapped (operand.Byte r) = refl
  operand_mapped (operand.Mem m) = mem_mapped m
  operand_mapped (operand.Imm v) = refl

  else_mapped : (a b : Option R) → or_else (option_map f a) (option_map f b) ≡ option_map f (or_else a b)
  else_mapped None b = refl
  else_mapped (Some a) b = refl

  both_mapped : (a b : Operand R) → or_else (operand_reference (map_operand f a)) (operand_reference (map_operand f b)) ≡ option_map f (or_else (operand_reference a) (operand_reference b))
  both_mapped a b = two (λ x y. or_else x y) (operand_mapped a) (operand_mapped b) ∙ else_mapped (operand_reference a) (operand_reference b)

  pub reference_mapped : (i : Insn R) → reference_of (map_references f i) ≡ option_map f (reference_of i)
  reference_mapped (insn.Alu op w to from) = both_mapped to from
  reference_mapped (insn.Test w e by) = both_mapped e by
  reference_mapped (insn.Xchg w e g) = both_mapped e g
  reference_mapped (insn.Mov w to from) = both_mapped to from
  reference_mapped (insn.MovAbs to v) = refl
  reference_mapped (insn.MovZx from_w w to from) = operand_mapped from
  reference_mapped (insn.MovSx from_w w to from) = operand_mapped from
  reference_mapped (insn.Lea w to at) = mem_mapped at
  reference_mapped (insn.Push from) = operand_mapped from
  reference_mapped (insn.Pop to) = operand_mapped to
  reference_mapped (insn.Imul2 w to from) = operand_mapped from
  reference_mapped (insn.Imul3 w to from by) = operand_mapped from
  reference_mapped (insn.One op w at) = operand_mapped at
  reference_mapped (insn.Shift op w at count) = operand_mapped at
  reference_mapped (insn.Convert kind) = refl
  reference_mapped (insn.Movs w rep) = refl
  reference_mapped (insn.Stos w rep) = refl
  reference_mapped (insn.Cmov c w to from) = operand_mapped from
  reference_mapped (insn.Setcc c to) = operand_mapped to
  reference_mapped (insn.Bit op w at index) = both_mapped at index
  reference_mapped (insn.Scan op w to from) = operand_mapped from
  reference_mapped (insn.Bswap w r) = refl
  reference_mapped (insn.Jcc c to) = refl
  reference_mapped (insn.Jmp to) = refl
  reference_mapped (insn.Call to) = refl
  reference_mapped (insn.JmpTo to notrack) = operand_mapped to
  reference_mapped (insn.CallTo to notrack) = operand_mapped to
  reference_mapped insn.Ret = refl
  reference_mapped insn.Leave = refl
  reference_mapped insn.Syscall = refl
  reference_mapped (insn.Plain kind) = refl
