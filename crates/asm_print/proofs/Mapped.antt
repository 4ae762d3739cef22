-- An instruction whose references are replaced is spelled alike, but for these.
use Rattle.std.proofs.Common.{◌≡◌, ℕ, refl, ap, ◌∙◌, append_assoc}
use Rattle.rw_base.specs.declared.width.Width.{Width}
use Rattle.rw_base.specs.declared.width.Width.TheVariants.{B, Q}
use Rattle.x86_insn.specs.declared.kinds.Count.{Count}
use Rattle.x86_insn.specs.declared.kinds.Count.TheVariants as counts
use Rattle.x86_insn.specs.declared.operands.Operand.{Operand}
use Rattle.x86_insn.specs.declared.operands.Operand.TheVariants as operands
use Rattle.x86_insn.specs.declared.instruction.Insn.{Insn}
use Rattle.x86_insn.specs.declared.instruction.Insn.TheVariants as insns
use Rattle.x86_insn.specs.References.{map_operand, map_references}
use Rattle.asm_print.specs.declared.spelling.Arg.{Arg}
use Rattle.asm_print.specs.declared.spelling.Args.TheVariants.{One, Star, Two, Three}
use Rattle.asm_print.proofs.Cut.{cut-cut, cut-none}
use Rattle.asm_print.specs.Spelling.{arg_at, count_as_arg, form_of, args_of, map_arg, map_args}

module _ {R S : Type 0} (f : R → S) where
  at-map : (w : Width) (o : Operand R) → arg_at w (map_operand f o) ≡ map_arg f (arg_at w o)
  at-map w (operands.Reg r) = refl
  at-map w (operands.Byte b) = refl
  at-map w (operands.Mem m) = refl
  at-map w (operands.Imm n) = refl

  count-map : (count : Count) → count_as_arg count ≡ map_arg f (count_as_arg count)
  count-map counts.Cl = refl
  count-map (counts.Imm n) = refl

  both : {a b c d : Arg S} → a ≡ b → c ≡ d → Two a c ≡ Two b d
  both {a} {b} {c} {d} h k = ap (λ (x : Arg S). Two x c) h ∙ ap (λ (x : Arg S). Two b x) k

  middle : {a b c d : Arg S} → b ≡ c → Three a b d ≡ Three a c d
  middle {a} {b} {c} {d} h = ap (λ (x : Arg S). Three a x d) h

  pub form-map : (i : Insn R) → form_of (map_references f i) ≡ form_of i
  form-map (insns.Alu op w to from) = refl
  form-map (insns.Test w e by) = refl
  form-map (insns.Xchg w e g) = refl
  form-map (insns.Mov w to from) = refl
  form-map (insns.MovAbs to v) = refl
  form-map (insns.MovZx from_w w to from) = refl
  form-map (insns.MovSx from_w w to from) = refl
  form-map (insns.Lea w to at) = refl
  form-map (insns.Push from) = refl
  form-map (insns.Pop to) = refl
  form-map (insns.Imul2 w to from) = refl
  form-map (insns.Imul3 w to from by) = refl
  form-map (insns.One op w at) = refl
  form-map (insns.Shift op w at count) = refl
  form-map (insns.Convert kind) = refl
  form-map (insns.Movs w rep) = refl
  form-map (insns.Stos w rep) = refl
  form-map (insns.Cmov cond w to from) = refl
  form-map (insns.Setcc cond to) = refl
  form-map (insns.Bit op w at index) = refl
  form-map (insns.Scan op w to from) = refl
  form-map (insns.Bswap w r) = refl
  form-map (insns.Jcc cond to) = refl
  form-map (insns.Jmp to) = refl
  form-map (insns.Call to) = refl
  form-map (insns.JmpTo to notrack) = refl
  form-map (insns.CallTo to notrack) = refl
  form-map insns.Ret = refl
  form-map insns.Leave = refl
  form-map insns.Syscall = refl
  form-map (insns.Plain kind) = refl

  pub args-map : (i : Insn R) → args_of (map_references f i) ≡ map_args f (args_of i)
  args-map (insns.Alu op w to from) = both (at-map w from) (at-map w to)
  args-map (insns.Test w e by) = both (at-map w by) (at-map w e)
  args-map (insns.Xchg w e g) = both (at-map w g) (at-map w e)
  args-map (insns.Mov w to from) = both (at-map w from) (at-map w to)
  args-map (insns.MovAbs to v) = refl
  args-map (insns.MovZx from_w w to from) = both (at-map from_w from) refl
  args-map (insns.MovSx from_w w to from) = both (at-map from_w from) refl
  args-map (insns.Lea w to at) = refl
  args-map (insns.Push from) = ap One (at-map Q from)
  args-map (insns.Pop to) = ap One (at-map Q to)
  args-map (insns.Imul2 w to from) = both (at-map w from) refl
  args-map (insns.Imul3 w to from by) = middle (at-map w from)
  args-map (insns.One op w at) = ap One (at-map w at)
  args-map (insns.Shift op w at count) = both (count-map count) (at-map w at)
  args-map (insns.Convert kind) = refl
  args-map (insns.Movs w rep) = refl
  args-map (insns.Stos w rep) = refl
  args-map (insns.Cmov cond w to from) = both (at-map w from) refl
  args-map (insns.Setcc cond to) = ap One (at-map B to)
  args-map (insns.Bit op w at index) = both (at-map w index) (at-map w at)
  args-map (insns.Scan op w to from) = both (at-map w from) refl
  args-map (insns.Bswap w r) = refl
  args-map (insns.Jcc cond to) = refl
  args-map (insns.Jmp to) = refl
  args-map (insns.Call to) = refl
  args-map (insns.JmpTo to notrack) = ap Star (at-map Q to)
  args-map (insns.CallTo to notrack) = ap Star (at-map Q to)
  args-map insns.Ret = refl
  args-map insns.Leave = refl
  args-map insns.Syscall = refl
  args-map (insns.Plain kind) = refl

pub ruleset spelled = (cut-cut, cut-none, append_assoc, form-map, args-map)
