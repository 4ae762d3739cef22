-- The names that an instruction of a file uses, and the instruction with the numbers of its names.
use Rattle.std.proofs.Common.{◌≡◌, ℕ, List, Option, Some, None, refl, sym, ap, ◌∙◌, append-nil}
use Rattle.std.specs.Prelude.{flat_map, option_map, true}
use Rattle.x86_insn.specs.declared.instruction.Insn.{Insn}
use Rattle.x86_insn.specs.References.{reference_of, map_references, shape_of}
use Rattle.x86_insn.specs.WellFormed.{is_instruction}
use Rattle.x86_insn.proofs.Agree.{agree}
use Rattle.x86_insn.proofs.Listed.{to_list, listed-references}
use Rattle.x86_insn.proofs.OneReference.{one_reference}
use Rattle.x86_insn.proofs.Referring.{reference_mapped, twice}
use Rattle.x86_insn.proofs.SameForm.{same-form}
use Rattle.asm_items.specs.declared.item.Item.TheVariants.{Ins}
use Rattle.asm_items.specs.declared.item.Sym.{Sym}
use Rattle.rw_refs.specs.CodeReferences.{is_direct}
use Rattle.rw_out.specs.Items.{symbol_named, with_symbols}
use Rattle.asm_items.specs.Lines.{names_in}
use Rattle.rw_out.specs.Uses.{names_used}

-- ---- the names that it uses

pub insn-names : (file : List ℕ) (i : Insn ℕ) (o : Option (Sym (List ℕ))) → is_instruction i ≡ true → o ≡ option_map (symbol_named file (is_direct i)) (reference_of i) → names_used (Ins (with_symbols file i)) ≡ flat_map names_in (to_list o)
unfolding with_symbols
insn-names file i o h e =
    let f = symbol_named file (is_direct i) in
    ap (flat_map names_in) (listed-references (map_references f i) (same-form f i ∙ h) ∙ ap to_list (reference_mapped f i ∙ sym e))

pub symbol-names : (file : List ℕ) (i : Insn ℕ) (s : Sym (List ℕ)) → is_instruction i ≡ true → Some s ≡ option_map (symbol_named file (is_direct i)) (reference_of i) → names_used (Ins (with_symbols file i)) ≡ names_in s
symbol-names file i s h e = insn-names file i (Some s) h e ∙ append-nil (names_in s)

-- ---- the same instruction over other references

no-reference : {A B : Type 0} (f : A → B) (o : Option A) → option_map f o ≡ None → o ≡ None
no-reference f None h = refl
no-reference f (Some a) h = absurd cc

unreferring : {R S : Type 0} (f g : R → S) (i : Insn R) → reference_of i ≡ None → map_references f i ≡ map_references g i
unreferring f g i none = agree f g i (λ r is. absurd cc)

-- with symbols that show the same
pub with-named : {N : Type 0} (file : List ℕ) (i : Insn ℕ) (g : Sym N → Sym (List ℕ)) (s : Sym N) → is_instruction i ≡ true → Some (g s) ≡ option_map (symbol_named file (is_direct i)) (reference_of i)
    → map_references g (map_references (λ _. s) i) ≡ with_symbols file i
unfolding with_symbols
with-named file i g s h e =
    let f = symbol_named file (is_direct i) in
    twice g (λ _. s) i ∙ agree (λ _. g s) f i (λ r is. (one_reference i h, (let both : Some (g s) ≡ Some (f r) = e ∙ ap (option_map f) is in cc)))

-- where there is none
pub without-named : {N : Type 0} (file : List ℕ) (i : Insn ℕ) (g : Sym N → Sym (List ℕ)) (j : Insn (Sym N)) → None ≡ option_map (symbol_named file (is_direct i)) (reference_of i) → shape_of j ≡ shape_of i → map_references g j ≡ with_symbols file i
unfolding with_symbols
without-named file i g j e shape =
    let f = symbol_named file (is_direct i) in
    let none : reference_of i ≡ None = no-reference f (reference_of i) (sym e) in
    let empty : reference_of (shape_of j) ≡ None = ap reference_of shape ∙ (reference_mapped (λ _. tt) i ∙ ap (option_map (λ _. tt)) none) in
    let other : reference_of j ≡ None = no-reference (λ _. tt) (reference_of j) (sym (reference_mapped (λ _. tt) j) ∙ empty) in
    unreferring g (λ _. f 0) j other
    ∙ (sym (twice (λ _. f 0) (λ _. tt) j)
    ∙ (ap (map_references (λ _. f 0)) shape
    ∙ (twice (λ _. f 0) (λ _. tt) i
    ∙ unreferring (λ _. f 0) f i none)))
