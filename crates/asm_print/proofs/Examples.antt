-- Worked lines, by computing: what is read of them.
use Rattle.std.proofs.Common.{◌≡◌, ℕ, true, false, List, [], ◌∷◌, Some, None, refl}
use Rattle.std.specs.Prelude.{codes, pos, negsuc}
use Rattle.rw_base.specs.declared.width.Width.TheVariants.{B, L, Q}
use Rattle.x86_insn.specs.declared.kinds.Reg.TheVariants.{Rax, Rcx, Rbx, R9}
use Rattle.x86_insn.specs.declared.kinds.Reg8.TheVariants.{High}
use Rattle.x86_insn.specs.declared.kinds.AluOp.TheVariants.{Add}
use Rattle.x86_insn.specs.declared.operands.Mem.TheVariants.{At, Rel}
use Rattle.x86_insn.specs.declared.operands.Operand.TheVariants as operands
use Rattle.x86_insn.specs.declared.instruction.Insn.TheVariants as insns
use Rattle.asm_items.specs.declared.item.Sym.TheVariants as syms
use Rattle.asm_items.specs.declared.item.Label.TheVariants as labels
use Rattle.asm_items.specs.declared.item.Item.TheVariants as items
use Rattle.asm_items.specs.Formed.{is_item}
use Rattle.asm_print.specs.Text.{section_text}
use Rattle.asm_print.specs.Pieces.{split, pieces, number_after, signed_in}
use Rattle.asm_print.specs.Forms.{reg_named, form_named}
use Rattle.asm_print.specs.Arguments.{offset_in, sym_in, disp_in, quad_in, place_in, mem_in, arg_in, without_comma}
use Rattle.asm_print.specs.Reading.{TextItem, insn_in, comment_in, section_kind_in, section_in, directive_in, defined, defined_in, item_in}

abbrev Reads : List ℕ → TextItem → Type 0
Reads text item = item_in text ≡ Some item

copy-line : Reads (codes "# copy stdout 8") (items.Copy (codes "stdout") 8)
unfolding item_in comment_in split number_after
copy-line = refl

label-line : Reads (codes ".Lp1a40:") (items.Label (labels.Past 0x1a40))
unfolding item_in defined_in defined split number_after
label-line = refl

bytes-line : Reads (codes "\t.byte 0, 17, 255") (items.Bytes (record { items = 0 ∷ 17 ∷ 255 ∷ [] }))
unfolding item_in directive_in split pieces number_after
bytes-line = refl

section-line : Reads (codes "\t.section .retro.s12,\"aw\",@nobits") (items.SectionHead 12 true true)
unfolding item_in directive_in section_in section_kind_in section_text split number_after
section-line = refl

exit-line : Reads (codes "\tmovl $60, %eax") (items.Ins (insns.Mov L (operands.Reg Rax) (operands.Imm (pos 60))))
unfolding item_in insn_in pieces arg_in without_comma signed_in number_after reg_named form_named
exit-line = refl

address-line : Reads (codes "\taddq -8(%rbx,%r9,4), %rax") (items.Ins (insns.Alu Add Q (operands.Reg Rax) (operands.Mem (At (Some Rbx) (Some (R9, 4)) (negsuc 7)))))
unfolding item_in insn_in pieces split arg_in mem_in place_in quad_in disp_in without_comma signed_in number_after reg_named form_named
address-line = refl

symbol-line : Reads (codes "\tmovb .Ls3+16(%rip), %ah") (items.Ins (insns.Mov B (operands.Byte (High Rax)) (operands.Mem (Rel (syms.Section 3 16)))))
unfolding item_in insn_in pieces split arg_in mem_in sym_in offset_in without_comma signed_in number_after reg_named form_named
symbol-line = refl

repeated-line : Reads (codes "\trep stosq") (items.Ins (insns.Stos Q true))
unfolding item_in insn_in pieces form_named
repeated-line = refl

untracked-line : Reads (codes "\tnotrack jmp *%rcx") (items.Ins (insns.JmpTo (operands.Reg Rcx) true))
unfolding item_in insn_in pieces arg_in reg_named form_named
untracked-line = refl

-- a displacement has 32 bits
least-displacement : is_item (items.Ins (insns.Push (operands.Mem (At (Some Rax) None (negsuc 0x7fffffff))))) ≡ true
least-displacement = refl

below-displacements : is_item (items.Ins (insns.Push (operands.Mem (At (Some Rax) None (negsuc 0x80000000))))) ≡ false
below-displacements = refl

-- a word that is no directive
no-line : item_in (codes "\t.quod 1") ≡ None
unfolding item_in directive_in split
no-line = refl
