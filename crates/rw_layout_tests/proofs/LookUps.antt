-- What may be looked up in a layout.
use Rattle.std.proofs.Common.{◌≡◌, ℕ, zero, suc, ◌+◌, ◌≤◌, ◌<◌, true, cond, List, [], ◌∷◌, ◌++◌, Some, drop, get_or, length, refl, sym, subst, arith, inl, inr}
use Rattle.std.specs.Prelude.{Contains, IsSome, flat_map, slice_get, ◌&&◌, nat_le}
use Rattle.std.proofs.lemmas.Bool.{and_parts}
use Rattle.std.proofs.lemmas.List.Elements.{Contains-append_right}
use Rattle.std.proofs.lemmas.List.Sums.{sum_by-cons}
use Rattle.std.proofs.lemmas.Option.{slice_get_within}
use Rattle.x86_insn.specs.declared.instruction.Insn.{Insn}
use Rattle.rw_base.specs.Name.{is_import_name}
use Rattle.asm_items.specs.declared.item.Item.{Item}
use Rattle.asm_items.specs.declared.item.Item.TheVariants.{Copy, Label, Ins, SectionHead, Quad, TextHead}
use Rattle.asm_items.specs.declared.item.Label as label_type
use Rattle.asm_items.specs.declared.item.NameId.{NameId}
use Rattle.asm_items.specs.declared.item.Sym.{Sym}
use Rattle.asm_items.specs.declared.item.Sym.TheVariants.{Named}
use Rattle.asm_items.specs.Formed.{is_item, is_word}
use Rattle.asm_items.specs.Layout.{Layout}
use Rattle.asm_items.specs.Lines.{Items, copies_number, names_in, symbols_in, used_names}
use Rattle.asm_items.specs.Named.{name_of, named}
use Rattle.asm_read.specs.declared.text.Text.{Text}
use Rattle.rw_layout.specs.Places.{IsLaidBy, Laid, address_in}
use Rattle.rw_layout.specs.Program.{IsText, Numbered, seen, shown}
use Rattle.rw_layout.specs.Rule.{functions_number, is_text_head}
use Rattle.rw_layout.proofs.Defined.{import-within}
use Rattle.rw_layout.proofs.Lines.{item-formed, read-at, shown-at}
use Rattle.rw_layout.proofs.Used.{contains-at, line-copied}

-- ---- a line begins one function or one section, or none

abbrev units : Items → ℕ
units items = functions_number items + copies_number items

pub units-few : (items : Items) → units items ≤ length items
units-few [] = omega arith
units-few (item ∷ items) = by_item item (sum_by-cons (λ x. cond (is_text_head x) 1 0) item items) (units-few items)
  where
    by_item : (item : Item (List ℕ)) → functions_number (item ∷ items) ≡ cond (is_text_head item) 1 0 + functions_number items → units items ≤ length items → units (item ∷ items) ≤ length (item ∷ items)
    by_item TextHead e less = omega (arith, e, less)
    by_item (SectionHead n writable nobits) e less = omega (arith, e, less)
    by_item _ e less = omega (arith, e, less)

-- a line, and those behind it
pub drop-at : {A : Type 0} (xs : List A) (i : ℕ) (x : A) → slice_get xs i ≡ Some x → drop i xs ≡ x ∷ drop (suc i) xs
drop-at [] i x e = cc
drop-at (y ∷ ys) zero x e = cc
drop-at (y ∷ ys) (suc i) x e = drop-at ys i x e

-- ---- names

word-used : (items : Items) (p : ℕ) (name : List ℕ) (o : ℕ) → slice_get items p ≡ Some (Quad (Named name o)) → Contains (used_names items) name
word-used [] p name o e = cc
word-used (item ∷ items) zero name o e =
    let same : item ≡ Quad (Named name o) = cc in
    subst (λ (x : Item (List ℕ)). Contains (flat_map names_in (symbols_in x) ++ used_names items) name) (sym same) (0, omega arith, refl)
word-used (item ∷ items) (suc p) name o e = Contains-append_right (flat_map names_in (symbols_in item)) (used_names items) name (word-used items p name o e)

-- the line that is read of a program
pub line-at : (text : Text) (program : Numbered) → seen text ≡ program → (k : ℕ) → k < length program.items → (item : Item NameId) → item ≡ get_or text.items.items k item
    → slice_get program.items k ≡ Some item
line-at text program e k less item read =
    let within : k < length text.items.items = subst (λ (t : Numbered). k < length t.items) (sym e) less in
    subst (λ (t : Numbered). slice_get t.items k ≡ Some item) e (read-at text.items.items k item within read)

module _ (text : Numbered) (is : IsText text) (at : Layout) (laid : Laid) (by : IsLaidBy (shown text) text.names at laid) (p : ℕ) where
  formed : (item : Item NameId) → slice_get text.items p ≡ Some item → is_item (named text.names item) ≡ true
  formed item here = item-formed (shown text) p (named text.names item) is.formed (shown-at text.names text.items p item here)

  pub label-there : (l : label_type.Label) → slice_get text.items p ≡ Some (Label l) → IsSome (address_in laid l)
  label-there l here =
      let one = by.labels l (contains-at (shown text) p (Label l) (shown-at text.names text.items p (Label l) here)) in
      search one

  pub insn-there : (i : Insn (Sym NameId)) → slice_get text.items p ≡ Some (Ins i) → p < length laid.addresses
  insn-there i here = slice_get_within laid.addresses p _ (by.insns p _ (shown-at text.names text.items p (Ins i) here))

  pub copy-there : (id : NameId) (size : ℕ) → slice_get text.items p ≡ Some (Copy id size) → (a : ℕ) × (slice_get laid.names id.0 ≡ Some (Some a))
  copy-there id size here =
      let name = name_of text.names id in
      let good = and_parts (is_import_name name && nat_le 1 size) (is_word size) (formed (Copy id size) here) in
      let within = import-within text.names id (and_parts (is_import_name name) (nat_le 1 size) good.0).0 in
      (at.name name, by.names_at id within (inr (line-copied (shown text) name p size (shown-at text.names text.items p (Copy id size) here))))

  pub word-there : (id : NameId) (o : ℕ) → slice_get text.items p ≡ Some (Quad (Named id o)) → (a : ℕ) × (slice_get laid.names id.0 ≡ Some (Some a))
  word-there id o here =
      let name = name_of text.names id in
      let within = import-within text.names id (and_parts (is_import_name name) (is_word o) (formed (Quad (Named id o)) here)).0 in
      (at.name name, by.names_at id within (inl (word-used (shown text) p name o (shown-at text.names text.items p (Quad (Named id o)) here))))
