-- The numbers of names, where a name is added behind the others.
use Rattle.std.proofs.Common.{◌≡◌, ℕ, not, ◌||◌, one-add, ◌+◌, Bool, true, false, cond, ◌&&◌, Option, Some, None, List, [], ◌∷◌, ◌++◌, get_or, refl, sym, ap, subst, ◌∙◌}
use Rattle.std.specs.Prelude.{option_map, option_and_then, Result, Ok, Err, IfOk}
use Rattle.std.specs.List.{list_any, position_or_len}
use Rattle.std.specs.Str.{bytes_eq}
use Rattle.std.specs.Cmp.Lexicographic.{bytes_decides, nat_list_eq_equiv}
use Rattle.std.proofs.lemmas.Bool.{false≢true, and_parts}
use Rattle.x86_insn.specs.declared.instruction.Insn.{Insn}
use Rattle.x86_insn.specs.Fields.{fits_fields}
use Rattle.x86_insn.specs.References.{reference_of, references_of, map_references, shape_of}
use Rattle.x86_insn.specs.WellFormed.{is_instruction}
use Rattle.x86_insn.proofs.Agree.{agree}
use Rattle.x86_insn.proofs.OneReference.{one_reference}
use Rattle.x86_insn.proofs.Referring.{twice, same, reference_mapped}
use Rattle.x86_insn.proofs.SameForm.{same-form}
use Rattle.asm_items.specs.declared.item.Item.{Item}
use Rattle.asm_items.specs.declared.item.Item.TheVariants as items
use Rattle.asm_items.specs.declared.item.NameId.{NameId}
use Rattle.asm_items.specs.declared.item.Sym.TheVariants as syms
use Rattle.asm_items.specs.Formed.{is_item, is_sym}
use Rattle.asm_items.specs.Named.{name_of, map_sym, named}
use Rattle.asm_items.specs.Names.{with_name, place_of}
use Rattle.std.specs.List.{list_all}
use Rattle.asm_print.specs.Arguments.{Symbol}
use Rattle.asm_read.specs.Numbered.{number_of, numbered, name_in_sym, name_in, with_shown}

-- ---- a search in a list with one more behind it

module _ (p : List ℕ → Bool) (x : List ℕ) where
  place-step : (t u : Bool) (n m : ℕ) → (u ≡ true → m ≡ n) → (t || u) ≡ true → cond (not t) (1 + m) 0 ≡ cond (not t) (1 + n) 0
  place-step true u n m h e = refl
  place-step false u n m h e = ap (λ k. 1 + k) (h e)

  place-kept : (xs : List (List ℕ)) → list_any p xs ≡ true → position_or_len p (xs ++ x ∷ []) ≡ position_or_len p xs
  place-kept [] h = absurd (false≢true h)
  place-kept (y ∷ ys) h = place-step (p y) (list_any p ys) (position_or_len p ys) (position_or_len p (ys ++ x ∷ [])) (place-kept ys) h

  last-step : (t u : Bool) (n m : ℕ) → (u ≡ false → m ≡ n) → (t || u) ≡ false → cond (not t) (1 + m) 0 ≡ cond (not t) (1 + n) 0
  last-step true u n m h e = refl
  last-step false u n m h e = ap (λ k. 1 + k) (h e)

  place-last : (xs : List (List ℕ)) → p x ≡ true → list_any p xs ≡ false → position_or_len p (xs ++ x ∷ []) ≡ position_or_len p xs
  place-last [] e h = ap (λ t. cond (not t) (1 + 0) 0) e
  place-last (y ∷ ys) e h = last-step (p y) (list_any p ys) (position_or_len p ys) (position_or_len p (ys ++ x ∷ [])) (place-last ys e) h

added-by : (names : List (List ℕ)) (name : List ℕ) (t : Bool) → list_any (bytes_eq name) names ≡ t → place_of (cond t names (names ++ name ∷ [])) name ≡ place_of names name
added-by names name true e = refl
added-by names name false e = place-last (bytes_eq name) name names (nat_list_eq_equiv.refl name) e

pub place-added : (names : List (List ℕ)) (name : List ℕ) → place_of (with_name names name) name ≡ place_of names name
place-added names name = added-by names name (list_any (bytes_eq name) names) refl

number-is : (names : List (List ℕ)) (name : List ℕ) (id : NameId) → id.0 ≡ place_of names name → id ≡ number_of (with_name names name) name
number-is names name id e = ap (λ (n : ℕ). let id : NameId = record { 0 = n } in id) (e ∙ sym (place-added names name))

number-added : (names new : List (List ℕ)) (name : List ℕ) (id : NameId) → id.0 ≡ place_of names name → new ≡ with_name names name → id ≡ number_of new name
number-added names new name id e h = number-is names name id e ∙ ap (λ ns. number_of ns name) (sym h)

-- the number that adding a name gives is its number among the new names
pub added-number : {E : Type 0} (names new : List (List ℕ)) (name : List ℕ) (r : Result NameId E) → IfOk r (λ id. id.0 ≡ place_of names name) → IfOk r (λ id. new ≡ with_name names name) → IfOk r (λ id. id ≡ number_of new name)
added-number names new name (Ok id) e h = number-added names new name id e h
added-number names new name (Err r) e h = tt

-- ---- instructions

module _ {R S T : Type 0} (f : S → T) (v : R → S) (i : Insn R) (whole : is_instruction i ≡ true) where
  pub put-reference : (r : R) (s : T) → reference_of i ≡ Some r → s ≡ f (v r) → map_references (λ _. s) i ≡ map_references f (map_references v i)
  put-reference r s at e =
      agree (λ _. s) (λ x. f (v x)) i (λ x is. (one_reference i whole, (let same : r ≡ x = cc in e ∙ ap (λ y. f (v y)) same))) ∙ sym (twice f v i)

no-reference : {A B : Type 0} (f : A → B) (o : Option A) → option_map f o ≡ None → o ≡ None
no-reference f None h = refl
no-reference f (Some a) h = absurd cc

unreferring : {R S : Type 0} (f g : R → S) (i : Insn R) → reference_of i ≡ None → map_references f i ≡ map_references g i
unreferring f g i none = agree f g i (λ r is. absurd cc)

-- the same instruction over other references, where there is none
pub without-reference : {R T : Type 0} (any : T) (f : R → T) (i : Insn R) (j : Insn T) → reference_of i ≡ None → shape_of j ≡ shape_of i → j ≡ map_references f i
without-reference {R} {T} any f i j none shape =
    let empty : reference_of (shape_of j) ≡ None = ap reference_of shape ∙ (reference_mapped (λ _. tt) i ∙ ap (option_map (λ _. tt)) none) in
    let other : reference_of j ≡ None = no-reference (λ _. tt) (reference_of j) (sym (reference_mapped (λ _. tt) j) ∙ empty) in
    sym (same j)
    ∙ (unreferring (λ s. s) (λ _. any) j other
    ∙ (sym (twice (λ _. any) (λ _. tt) j)
    ∙ (ap (map_references (λ _. any)) shape
    ∙ (twice (λ _. any) (λ _. tt) i
    ∙ unreferring (λ _. any) f i none))))

pub no-name : {R : Type 0} (v : R → Symbol) (i : Insn R) → reference_of i ≡ None → name_in (items.Ins (map_references v i)) ≡ None
no-name v i none = ap (option_and_then name_in_sym) (reference_mapped v i ∙ ap (option_map v) none)

pub its-name : {R : Type 0} (v : R → Symbol) (i : Insn R) (r : R) → reference_of i ≡ Some r → name_in (items.Ins (map_references v i)) ≡ name_in_sym (v r)
its-name v i r at = ap (option_and_then name_in_sym) (reference_mapped v i ∙ ap (option_map v) at)

pub whole-from : {R : Type 0} (v : R → Symbol) (i : Insn R) → is_item (items.Ins (map_references v i)) ≡ true → is_instruction i ≡ true
whole-from v i h =
    let m = map_references v i in
    sym (same-form v i) ∙ (and_parts (is_instruction m) (list_all is_sym (references_of m)) (and_parts (is_instruction m && list_all is_sym (references_of m)) (fits_fields m) h).0).0

-- ---- names that are among the names

module _ (p : List ℕ → Bool) (x : List ℕ) (here : p x ≡ true) where
  any-step : (t u : Bool) → u ≡ true → (t || u) ≡ true
  any-step true u h = refl
  any-step false u h = h

  any-last : (xs : List (List ℕ)) → list_any p (xs ++ x ∷ []) ≡ true
  any-last [] = ap (λ t. t || false) here
  any-last (y ∷ ys) = any-step (p y) (list_any p (ys ++ x ∷ [])) (any-last ys)

any-kept : (p : List ℕ → Bool) (x : List ℕ) (xs : List (List ℕ)) → list_any p xs ≡ true → list_any p (xs ++ x ∷ []) ≡ true
any-kept p x [] h = absurd (false≢true h)
any-kept p x (y ∷ ys) h = kept (p y) (list_any p ys) (list_any p (ys ++ x ∷ [])) (any-kept p x ys) h
  where
    kept : (t u v : Bool) → (u ≡ true → v ≡ true) → (t || u) ≡ true → (t || v) ≡ true
    kept true u v f e = refl
    kept false u v f e = f e

-- a name is among the names
abbrev pub IsKnown : List (List ℕ) → List ℕ → Type 0
IsKnown names name = list_any (bytes_eq name) names ≡ true

known-by : (names : List (List ℕ)) (name : List ℕ) (t : Bool) → list_any (bytes_eq name) names ≡ t → IsKnown (cond t names (names ++ name ∷ [])) name
known-by names name true e = e
known-by names name false e = any-last (bytes_eq name) name (nat_list_eq_equiv.refl name) names

pub known-added : (names : List (List ℕ)) (name : List ℕ) → IsKnown (with_name names name) name
known-added names name = known-by names name (list_any (bytes_eq name) names) refl

kept-by : (names : List (List ℕ)) (name other : List ℕ) (t : Bool) → IsKnown names other → IsKnown (cond t names (names ++ name ∷ [])) other
kept-by names name other true h = h
kept-by names name other false h = any-kept (bytes_eq other) name names h

pub known-kept : (names : List (List ℕ)) (o : Option (List ℕ)) (other : List ℕ) → IsKnown names other → IsKnown (with_shown names o) other
known-kept names None other h = h
known-kept names (Some name) other h = kept-by names name other (list_any (bytes_eq name) names) h

pub known-shown : (names : List (List ℕ)) (o : Option (List ℕ)) (name : List ℕ) → o ≡ Some name → IsKnown (with_shown names o) name
known-shown names o name e = subst (λ p. IsKnown (with_shown names p) name) (sym e) (known-added names name)

placed-by : (names : List (List ℕ)) (name other : List ℕ) (t : Bool) → IsKnown names other → place_of (cond t names (names ++ name ∷ [])) other ≡ place_of names other
placed-by names name other true h = refl
placed-by names name other false h = place-kept (bytes_eq other) name names h

-- the number of a known name stays
pub number-kept : (names : List (List ℕ)) (o : Option (List ℕ)) (other : List ℕ) → IsKnown names other → number_of (with_shown names o) other ≡ number_of names other
number-kept names None other h = refl
number-kept names (Some name) other h = ap (λ (n : ℕ). let id : NameId = record { 0 = n } in id) (placed-by names name other (list_any (bytes_eq name) names) h)

name-step : (name n : List ℕ) (ns : List (List ℕ)) (t u : Bool) (k : ℕ) → bytes_eq name n ≡ t → (u ≡ true → get_or ns k [] ≡ name) → (t || u) ≡ true → get_or (n ∷ ns) (cond (not t) (1 + k) 0) [] ≡ name
name-step name n ns true u k e f h = sym ((bytes_decides name n).0 e)
name-step name n ns false u k e f h = ap (λ j. get_or (n ∷ ns) j []) (one-add k) ∙ f h

-- a name has its number
pub name-placed : (names : List (List ℕ)) (name : List ℕ) → IsKnown names name → name_of names (number_of names name) ≡ name
name-placed [] name h = absurd (false≢true h)
name-placed (n ∷ ns) name h = name-step name n ns (bytes_eq name n) (list_any (bytes_eq name) ns) (place_of ns name) refl (name-placed ns name) h

-- ---- items

-- the name of an item, if it shows one, is among the names
abbrev pub ShowsKnown : List (List ℕ) → Option (List ℕ) → Type 0
ShowsKnown names o = (name : List ℕ) → o ≡ Some name → IsKnown names name

module _ (names : List (List ℕ)) where
  sym-named : (s : Symbol) → ShowsKnown names (name_in_sym s) → map_sym (name_of names) (map_sym (number_of names) s) ≡ s
  sym-named (syms.Code a) h = refl
  sym-named (syms.Section n o) h = refl
  sym-named (syms.Named name o) h = ap (λ n. syms.Named n o) (name-placed names name (h name refl))
  sym-named (syms.Counter k) h = refl

  insn-named : (i : Insn Symbol) → is_instruction i ≡ true → ShowsKnown names (name_in (items.Ins i)) → map_references (map_sym (name_of names)) (map_references (map_sym (number_of names)) i) ≡ i
  insn-named i whole h =
      twice (map_sym (name_of names)) (map_sym (number_of names)) i
      ∙ agree (λ r. map_sym (name_of names) (map_sym (number_of names) r)) (λ r. r) i (λ r is. (one_reference i whole, sym-named r (λ name e. h name (ap (option_and_then name_in_sym) is ∙ e))))
      ∙ same i

  insn-whole : (i : Insn Symbol) → is_item (items.Ins i) ≡ true → is_instruction i ≡ true
  insn-whole i h = (and_parts (is_instruction i) (list_all is_sym (references_of i)) (and_parts (is_instruction i && list_all is_sym (references_of i)) (fits_fields i) h).0).0

  -- an item that shows a known name is shown by its numbers
  pub shown-named : (item : Item (List ℕ)) → is_item item ≡ true → ShowsKnown names (name_in item) → named names (numbered names item) ≡ item
  shown-named (items.Copy name size) h k = ap (λ n. items.Copy n size) (name-placed names name (k name refl))
  shown-named (items.Comment name) h k = ap (λ n. items.Comment n) (name-placed names name (k name refl))
  shown-named (items.Weak name) h k = ap (λ n. items.Weak n) (name-placed names name (k name refl))
  shown-named (items.Globl name) h k = ap (λ n. items.Globl n) (name-placed names name (k name refl))
  shown-named (items.FuncKind name) h k = ap (λ n. items.FuncKind n) (name-placed names name (k name refl))
  shown-named (items.Name name) h k = ap (λ n. items.Name n) (name-placed names name (k name refl))
  shown-named (items.Ins i) h k = ap (λ x. items.Ins x) (insn-named i (insn-whole i h) k)
  shown-named (items.Quad s) h k = ap (λ x. items.Quad x) (sym-named s k)
  shown-named _ h k = refl

module _ (names : List (List ℕ)) (o : Option (List ℕ)) where
  sym-kept : (s : Symbol) → ShowsKnown names (name_in_sym s) → map_sym (number_of (with_shown names o)) s ≡ map_sym (number_of names) s
  sym-kept (syms.Code a) h = refl
  sym-kept (syms.Section n p) h = refl
  sym-kept (syms.Named name p) h = ap (λ n. syms.Named n p) (number-kept names o name (h name refl))
  sym-kept (syms.Counter k) h = refl

  -- an item keeps its numbers where a name is added
  pub numbered-kept : (item : Item (List ℕ)) → is_item item ≡ true → ShowsKnown names (name_in item) → numbered (with_shown names o) item ≡ numbered names item
  numbered-kept (items.Copy name size) h k = ap (λ n. items.Copy n size) (number-kept names o name (k name refl))
  numbered-kept (items.Comment name) h k = ap (λ n. items.Comment n) (number-kept names o name (k name refl))
  numbered-kept (items.Weak name) h k = ap (λ n. items.Weak n) (number-kept names o name (k name refl))
  numbered-kept (items.Globl name) h k = ap (λ n. items.Globl n) (number-kept names o name (k name refl))
  numbered-kept (items.FuncKind name) h k = ap (λ n. items.FuncKind n) (number-kept names o name (k name refl))
  numbered-kept (items.Name name) h k = ap (λ n. items.Name n) (number-kept names o name (k name refl))
  numbered-kept (items.Ins i) h k =
      ap (λ x. items.Ins x) (agree (map_sym (number_of (with_shown names o))) (map_sym (number_of names)) i (λ r is. (one_reference i (insn-whole names i h), sym-kept r (λ name e. k name (ap (option_and_then name_in_sym) is ∙ e)))))
  numbered-kept (items.Quad s) h k = ap (λ x. items.Quad x) (sym-kept s k)
  numbered-kept _ h k = refl
