-- What is built of the words of a line, whatever its references are.
use Rattle.std.proofs.Common.{◌≡◌, ℕ, Option, Some, None, List, refl, sym, ap, subst, ◌∙◌}
use Rattle.std.specs.Prelude.{option_map}
use Rattle.x86_insn.specs.declared.instruction.Insn.{Insn}
use Rattle.x86_insn.specs.References.{map_references}
use Rattle.asm_print.specs.declared.spelling.Form.{Form}
use Rattle.asm_print.specs.declared.spelling.Args.{Args}
use Rattle.asm_print.specs.declared.spelling.Args.TheVariants.{Zero, One, Star, Two, Three}
use Rattle.asm_print.specs.Pieces.{◌>>=◌}
use Rattle.asm_print.specs.Building.{built}
use Rattle.asm_print.specs.Forms.{kind_of, form_named}
use Rattle.asm_print.specs.Arguments.{Symbol, args_in}
use Rattle.asm_print.specs.Reading.{insn_named}
use Rattle.asm_print.specs.Spelling.{map_args}
use Rattle.asm_print.proofs.Building.{built-map}
use Rattle.asm_read.specs.Found.{Finds}

module _ {R S : Type 0} (f : R → S) where
  -- what is built, seen by f, is what is built of the arguments that f sees
  found : (r : Option (Insn R)) → Finds (map_references f) r (option_map (map_references f) r)
  found None = refl
  found (Some i) = refl

  built-found : (form : Form) (args : Args R) (r : Option (Insn R)) → r ≡ built form args → Finds (map_references f) r (built form (map_args f args))
  built-found form args r e = subst (Finds (map_references f) r) (ap (option_map (map_references f)) e ∙ sym (built-map f form args)) (found r)

-- ---- by the mnemonic and the words of the arguments

kind-map : {R S : Type 0} (f : R → S) (args : Args R) → kind_of (map_args f args) ≡ kind_of args
kind-map f Zero = refl
kind-map f (One a) = refl
kind-map f (Star a) = refl
kind-map f (Two a b) = refl
kind-map f (Three a b c) = refl

module _ {R : Type 0} (f : R → Symbol) where
  pub named-found : (name : List ℕ) (words : List (List ℕ)) (args : Args R) (form : Form) (r : Option (Insn R)) → args_in words ≡ Some (map_args f args) → Some form ≡ form_named name (kind_of args) → r ≡ built form args
      → Finds (map_references f) r (insn_named name words)
  named-found name words args form r read named e =
      let found =
      ap (λ o. o >>= λ xs. form_named name (kind_of xs) >>= λ g. built g xs) read
      ∙ ap (λ k. form_named name k >>= λ g. built g (map_args f args)) (kind-map f args)
      ∙ ap (λ o. o >>= λ g. built g (map_args f args)) (sym named) in
      subst (Finds (map_references f) r) (sym found) (built-found f form args r e)
