-- To replace the one reference of an instruction by two functions that agree there gives the same.
use Rattle.std.proofs.Common.{◌≡◌, ◌≤◌, ◌++◌, Option, Some, List, length, refl, ap, arith}
use Rattle.x86_insn.specs.declared.operands.Mem.{Mem}
use Rattle.x86_insn.specs.declared.operands.Mem.TheVariants.{At, Rel, Canary}
use Rattle.x86_insn.specs.declared.operands.Operand.{Operand}
use Rattle.x86_insn.specs.declared.operands.Operand.TheVariants as operand
use Rattle.x86_insn.specs.declared.instruction.Insn.{Insn}
use Rattle.x86_insn.specs.declared.instruction.Insn.TheVariants as insn
use Rattle.x86_insn.specs.References.{or_else, mem_reference, operand_reference, reference_of, map_mem, map_operand, map_references, mem_references, operand_references, references_of}

module _ {R S : Type 0} (f g : R → S) where
  -- the reference, if there is one, is the only one, and the functions agree at it
  abbrev AgreeAt : Option R → List R → Type 0
  AgreeAt reference all = (r : R) → reference ≡ Some r → (length all ≤ 1) × (f r ≡ g r)

  mem-agree : (m : Mem R) → AgreeAt (mem_reference m) (mem_references m) → map_mem f m ≡ map_mem g m
  mem-agree (At base index disp) h = refl
  mem-agree (Rel r) h = ap (λ t. Rel t) (h r refl).1
  mem-agree Canary h = refl

  operand-agree : (o : Operand R) → AgreeAt (operand_reference o) (operand_references o) → map_operand f o ≡ map_operand g o
  operand-agree (operand.Reg r) h = refl
  operand-agree (operand.Byte r) h = refl
  operand-agree (operand.Mem m) h = ap (λ x. operand.Mem x) (mem-agree m h)
  operand-agree (operand.Imm v) h = refl

  pair-agree : (make : Operand S → Operand S → Insn S) (a b : Operand R) → AgreeAt (or_else (operand_reference a) (operand_reference b)) (operand_references a ++ operand_references b) → make (map_operand f a) (map_operand f b) ≡ make (map_operand g a) (map_operand g b)
  pair-agree make (operand.Mem (Rel r)) (operand.Mem (Rel s)) h = absurd (omega (arith, (h r refl).0))
  pair-agree make (operand.Mem (Rel r)) (operand.Mem (At base index disp)) h = ap (λ t. make (operand.Mem (Rel t)) (operand.Mem (At base index disp))) (h r refl).1
  pair-agree make (operand.Mem (Rel r)) (operand.Mem Canary) h = ap (λ t. make (operand.Mem (Rel t)) (operand.Mem Canary)) (h r refl).1
  pair-agree make (operand.Mem (Rel r)) (operand.Reg q) h = ap (λ t. make (operand.Mem (Rel t)) (operand.Reg q)) (h r refl).1
  pair-agree make (operand.Mem (Rel r)) (operand.Byte q) h = ap (λ t. make (operand.Mem (Rel t)) (operand.Byte q)) (h r refl).1
  pair-agree make (operand.Mem (Rel r)) (operand.Imm v) h = ap (λ t. make (operand.Mem (Rel t)) (operand.Imm v)) (h r refl).1
  pair-agree make (operand.Mem (At base index disp)) b h = ap (λ x. make (operand.Mem (At base index disp)) x) (operand-agree b h)
  pair-agree make (operand.Mem Canary) b h = ap (λ x. make (operand.Mem Canary) x) (operand-agree b h)
  pair-agree make (operand.Reg r) b h = ap (λ x. make (operand.Reg r) x) (operand-agree b h)
  pair-agree make (operand.Byte r) b h = ap (λ x. make (operand.Byte r) x) (operand-agree b h)
  pair-agree make (operand.Imm v) b h = ap (λ x. make (operand.Imm v) x) (operand-agree b h)

  pub agree : (i : Insn R) → AgreeAt (reference_of i) (references_of i) → map_references f i ≡ map_references g i
  agree (insn.Alu op w to from) h = pair-agree (λ a b. insn.Alu op w a b) to from h
  agree (insn.Test w e by) h = pair-agree (λ a b. insn.Test w a b) e by h
  agree (insn.Xchg w e o) h = pair-agree (λ a b. insn.Xchg w a b) e o h
  agree (insn.Mov w to from) h = pair-agree (λ a b. insn.Mov w a b) to from h
  agree (insn.Bit op w at index) h = pair-agree (λ a b. insn.Bit op w a b) at index h
  agree (insn.MovZx from_w w to from) h = ap (λ x. insn.MovZx from_w w to x) (operand-agree from h)
  agree (insn.MovSx from_w w to from) h = ap (λ x. insn.MovSx from_w w to x) (operand-agree from h)
  agree (insn.Lea w to at) h = ap (λ x. insn.Lea w to x) (mem-agree at h)
  agree (insn.Push from) h = ap (λ x. insn.Push x) (operand-agree from h)
  agree (insn.Pop to) h = ap (λ x. insn.Pop x) (operand-agree to h)
  agree (insn.Imul2 w to from) h = ap (λ x. insn.Imul2 w to x) (operand-agree from h)
  agree (insn.Imul3 w to from by) h = ap (λ x. insn.Imul3 w to x by) (operand-agree from h)
  agree (insn.One op w at) h = ap (λ x. insn.One op w x) (operand-agree at h)
  agree (insn.Shift op w at count) h = ap (λ x. insn.Shift op w x count) (operand-agree at h)
  agree (insn.Cmov cond w to from) h = ap (λ x. insn.Cmov cond w to x) (operand-agree from h)
  agree (insn.Setcc cond to) h = ap (λ x. insn.Setcc cond x) (operand-agree to h)
  agree (insn.Scan op w to from) h = ap (λ x. insn.Scan op w to x) (operand-agree from h)
  agree (insn.JmpTo to notrack) h = ap (λ x. insn.JmpTo x notrack) (operand-agree to h)
  agree (insn.CallTo to notrack) h = ap (λ x. insn.CallTo x notrack) (operand-agree to h)
  agree (insn.Jcc cond to) h = ap (λ t. insn.Jcc cond t) (h to refl).1
  agree (insn.Jmp to) h = ap (λ t. insn.Jmp t) (h to refl).1
  agree (insn.Call to) h = ap (λ t. insn.Call t) (h to refl).1
  agree (insn.MovAbs to v) h = refl
  agree (insn.Convert kind) h = refl
  agree (insn.Movs w rep) h = refl
  agree (insn.Stos w rep) h = refl
  agree (insn.Bswap w r) h = refl
  agree insn.Ret h = refl
  agree insn.Leave h = refl
  agree insn.Syscall h = refl
  agree (insn.Plain kind) h = refl
