-- The references of a well formed instruction, by the one that it has.
use Rattle.std.proofs.Common.{◌≡◌, ℕ, suc, ◌<◌, Bool, true, false, ◌&&◌, Option, Some, None, List, [], ◌∷◌, get_or, refl, sym, ap, ◌∙◌, lt-ltb}
use Rattle.std.proofs.lemmas.Bool.{and_from}
use Rattle.std.specs.List.{list_all}
use Rattle.x86_insn.specs.declared.instruction.Insn.{Insn}
use Rattle.x86_insn.specs.Fields.{fits_fields}
use Rattle.x86_insn.specs.References.{reference_of, references_of, map_references}
use Rattle.x86_insn.specs.WellFormed.{is_instruction}
use Rattle.x86_insn.proofs.Listed.{to_list, listed-references}
use Rattle.x86_insn.proofs.SameForm.{same-form, same-fields, same-references}
use Rattle.asm_items.specs.Formed.{is_byte, is_sym}
use Rattle.asm_print.specs.Arguments.{Symbol}

and-true : (b : Bool) → (b && true) ≡ b
and-true true = refl
and-true false = refl

module _ {R : Type 0} where
  abbrev all_of : (R → Bool) → Option R → Bool
  all_of p None = true
  all_of p (Some r) = p r

  all-listed : (p : R → Bool) (o : Option R) → list_all p (to_list o) ≡ all_of p o
  all-listed p None = refl
  all-listed p (Some r) = and-true (p r)

  one-all : (p : R → Bool) (i : Insn R) (o : Option R) → is_instruction i ≡ true → o ≡ reference_of i → list_all p (references_of i) ≡ all_of p o
  one-all p i o h e = ap (list_all p) (listed-references i h ∙ ap to_list (sym e)) ∙ all-listed p o

  module _ (f : R → Symbol) (i : Insn R) (o : Option R) (whole : is_instruction i ≡ true) (reference : o ≡ reference_of i) (fits : fits_fields i ≡ true) where
    formed-by : ((is_instruction (map_references f i) && list_all is_sym (references_of (map_references f i))) && fits_fields (map_references f i)) ≡ all_of (λ r. is_sym (f r)) o
    formed-by =
        ap (λ b. (b && list_all is_sym (references_of (map_references f i))) && fits_fields (map_references f i)) (same-form f i ∙ whole)
        ∙ ap (λ b. list_all is_sym (references_of (map_references f i)) && b) (same-fields f i ∙ fits)
        ∙ and-true (list_all is_sym (references_of (map_references f i)))
        ∙ same-references f (λ r. is_sym (f r)) is_sym (λ r. refl) i
        ∙ one-all (λ r. is_sym (f r)) i o whole reference

pub formed-some : {R : Type 0} (f : R → Symbol) (i : Insn R) (s : R) → is_instruction i ≡ true → Some s ≡ reference_of i → fits_fields i ≡ true
    → ((is_instruction (map_references f i) && list_all is_sym (references_of (map_references f i))) && fits_fields (map_references f i)) ≡ is_sym (f s)
formed-some f i s h e k = formed-by f i (Some s) h e k

pub formed-none : {R : Type 0} (f : R → Symbol) (i : Insn R) → is_instruction i ≡ true → None ≡ reference_of i → fits_fields i ≡ true
    → ((is_instruction (map_references f i) && list_all is_sym (references_of (map_references f i))) && fits_fields (map_references f i)) ≡ true
formed-none f i h e k = formed-by f i None h e k

pub all-bytes : (bytes : List ℕ) → ((i : ℕ) → get_or bytes i 0 < 256) → list_all is_byte bytes ≡ true
all-bytes [] h = refl
all-bytes (b ∷ bs) h = and_from (is_byte b) (list_all is_byte bs) (lt-ltb b 256 (h 0)) (all-bytes bs (λ i. h (suc i)))
