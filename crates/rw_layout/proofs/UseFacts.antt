-- The name that a line uses.
use Rattle.std.proofs.Common.{◌≡◌, ◌≢◌, ℕ, ◌+◌, ◌*◌, ◌<◌, ◌≤◌, Bool, true, false, List, [], ◌∷◌, ◌++◌, Option, Some, None, map, length, take, refl, sym, ap, subst, ◌∙◌, append-nil, arith, drop}
use Rattle.std.specs.Prelude.{slice_get, option_map, option_and_then, flat_map, filter, not, slice_index, slice_index_or, slice_set, ◌&&◌}
use Rattle.std.specs.List.{list_all}
use Rattle.std.proofs.lemmas.Bool.{and_parts}
use Rattle.x86_insn.specs.declared.instruction.Insn.{Insn}
use Rattle.x86_insn.specs.Fields.{fits_fields}
use Rattle.x86_insn.specs.References.{reference_of, references_of, map_references}
use Rattle.x86_insn.specs.WellFormed.{is_instruction}
use Rattle.x86_insn.proofs.Referring.{reference_mapped}
use Rattle.rw_base.specs.Name.{is_import_name}
use Rattle.asm_items.specs.declared.item.Item.{Item}
use Rattle.asm_items.specs.declared.item.Item.TheVariants.{Ins, Quad, Copy}
use Rattle.asm_items.specs.declared.item.NameId.{NameId}
use Rattle.asm_items.specs.declared.item.Sym.{Sym}
use Rattle.asm_items.specs.declared.item.Sym.TheVariants as syms
use Rattle.asm_items.specs.Formed.{is_item, is_sym, is_word}
use Rattle.asm_items.specs.Names.{AreDistinct}
use Rattle.asm_items.specs.Named.{name_of, named, map_sym}
use Rattle.asm_items.specs.Lines.{Items, names_in, symbols_in, used_names, copies_of, is_copied}
use Rattle.rw_layout.specs.Rule.{copy_extent, each_once}
use Rattle.rw_layout.specs.Units.{copy_room, extent_of}
use Rattle.rw_layout.specs.declared.units.Room.{Room}
use Rattle.rw_layout.specs.NameTable.{IsTable, copied_at, named_at, own_among, name_used, name_copied, symbol_name}
use Rattle.rw_layout.proofs.Defined.{import-within, one-number, copy-import}
use Rattle.rw_layout.proofs.UnitFacts.{drop-at}
use Rattle.std.proofs.lemmas.List.{length-append, length_push, map-append, take-append-drop}
use Rattle.rw_layout.proofs.Lines.{shown-at, take-next}
use Rattle.x86_insn.proofs.Listed.{to_list, listed-references}
use Rattle.rw_layout.proofs.NameFacts.{copies-append, used-append, copy-given, copy-kept, own-grows, own-same, use-given}

abbrev uses : Item (List ℕ) → List (List ℕ)
uses item = flat_map names_in (symbols_in item)

abbrev pub to_names : List (List ℕ) → Option NameId → List (List ℕ)
to_names names None = []
to_names names (Some id) = name_of names id ∷ []

symbol-names : (names : List (List ℕ)) (s : Sym NameId) → flat_map names_in (map_sym (name_of names) s ∷ []) ≡ to_names names (symbol_name s)
symbol-names names (syms.Code a) = refl
symbol-names names (syms.Section n o) = refl
symbol-names names (syms.Named id o) = refl
symbol-names names (syms.Counter k) = refl

pub insn-references : (names : List (List ℕ)) (i : Insn (Sym NameId)) → is_item (named names (Ins i)) ≡ true → symbols_in (named names (Ins i)) ≡ to_list (option_map (map_sym (name_of names)) (reference_of i))
insn-references names i h =
    let j : Insn (Sym (List ℕ)) = map_references (map_sym (name_of names)) i in
    let parts = and_parts (is_instruction j && list_all is_sym (references_of j)) (fits_fields j) h in
    let good = and_parts (is_instruction j) (list_all is_sym (references_of j)) parts.0 in
    listed-references j good.0 ∙ ap to_list (reference_mapped (map_sym (name_of names)) i)

uses-are : (names : List (List ℕ)) (item : Item NameId) → is_item (named names item) ≡ true → uses (named names item) ≡ to_names names (name_used item)
uses-are names (Ins i) h = ap (flat_map names_in) (insn-references names i h) ∙ by_reference (reference_of i)
  where
    by_reference : (o : Option (Sym NameId)) → flat_map names_in (to_list (option_map (map_sym (name_of names)) o)) ≡ to_names names (option_and_then symbol_name o)
    by_reference None = refl
    by_reference (Some s) = symbol-names names s
uses-are names (Quad s) h = symbol-names names s
uses-are names _ h = refl

symbol-within : (names : List (List ℕ)) (s : Sym NameId) (id : NameId) → is_sym (map_sym (name_of names) s) ≡ true → symbol_name s ≡ Some id → id.0 < length names
symbol-within names (syms.Named n o) id h e = import-within names id (subst (λ k. is_import_name (name_of names k) ≡ true) (some_is n id e) (and_parts (is_import_name (name_of names n)) (is_word o) h).0)
  where
    some_is : (a b : NameId) → Some a ≡ Some b → a ≡ b
    some_is a b e = cc
symbol-within names _ id h e = cc

pub used-within : (names : List (List ℕ)) (item : Item NameId) (id : NameId) → is_item (named names item) ≡ true → name_used item ≡ Some id → id.0 < length names
used-within names (Ins i) id h e = by_reference (reference_of i) refl e
  where
    by_reference : (o : Option (Sym NameId)) → reference_of i ≡ o → option_and_then symbol_name o ≡ Some id → id.0 < length names
    by_reference None f g = cc
    by_reference (Some s) f g =
        let j : Insn (Sym (List ℕ)) = map_references (map_sym (name_of names)) i in
        let parts = and_parts (is_instruction j && list_all is_sym (references_of j)) (fits_fields j) h in
        let good = and_parts (is_instruction j) (list_all is_sym (references_of j)) parts.0 in
        let one : references_of j ≡ map_sym (name_of names) s ∷ [] = insn-references names i h ∙ ap (λ o. to_list (option_map (map_sym (name_of names)) o)) f in
        let fine = (and_parts (is_sym (map_sym (name_of names) s)) true (subst (λ rs. list_all is_sym rs ≡ true) one good.1)).0 in
        symbol-within names s id fine g
used-within names (Quad s) id h e = symbol-within names s id h e
used-within names _ id h e = cc

module _ (names : List (List ℕ)) (items : List (Item NameId)) (i : ℕ) (item : Item NameId) (here : slice_get items i ≡ Some item) where
  abbrev lines : Items
  lines = map (named names) items

  next : take (i + 1) lines ≡ take i lines ++ named names item ∷ []
  next = take-next lines i (named names item) (shown-at names items i item here)

  pub uses-more : is_item (named names item) ≡ true → (o : Option NameId) → name_used item ≡ o → used_names (take (i + 1) lines) ≡ used_names (take i lines) ++ to_names names o
  uses-more h o e =
      ap used_names next ∙ used-append (take i lines) (named names item ∷ []) ∙ ap (λ ns. used_names (take i lines) ++ ns) (append-nil (uses (named names item)) ∙ uses-are names item h ∙ ap (to_names names) e)

  pub use-more : is_item (named names item) ≡ true → (id : NameId) → name_used item ≡ Some id → used_names (take (i + 1) lines) ≡ used_names (take i lines) ++ name_of names id ∷ []
  use-more h id e = uses-more h (Some id) e

  pub no-use-more : is_item (named names item) ≡ true → name_used item ≡ None → used_names (take (i + 1) lines) ≡ used_names (take i lines)
  no-use-more h e = uses-more h None e ∙ append-nil (used_names (take i lines))

  pub copies-more : copies_of (take (i + 1) lines) ≡ copies_of (take i lines) ++ copies_of (named names item ∷ [])
  copies-more = ap copies_of next ∙ copies-append (take i lines) (named names item ∷ [])

pub one-place : (names : List (List ℕ)) → AreDistinct names → (i j : ℕ) → i < length names → j < length names → slice_index_or names i [] ≡ slice_index_or names j [] → i ≡ j
one-place names distinct i j h k e = one-number names distinct (record { 0 = i }) (record { 0 = j }) h k e

-- a line that copies a name, and another
pub copied-line : (item : Item NameId) (id : NameId) → name_copied item ≡ Some id → (size : ℕ) × (item ≡ Copy id size)
copied-line (Copy n size) id e = (size, ap (λ k. Copy k size) (some_is n id e))
  where
    some_is : (a b : NameId) → Some a ≡ Some b → a ≡ b
    some_is a b e = cc
copied-line _ id e = cc

pub no-copy : (names : List (List ℕ)) (item : Item NameId) → name_copied item ≡ None → copies_of (named names item ∷ []) ≡ []
no-copy names (Copy n size) e = cc
no-copy names _ e = refl

-- a copy has a place among all, and its name a number
module _ (names : List (List ℕ)) (items : List (Item NameId)) (i : ℕ) (id : NameId) (size : ℕ) (here : slice_get items i ≡ Some (Copy id size)) where
  pub copy-within : is_item (named names (Copy id size)) ≡ true → id.0 < length names
  copy-within h = copy-import names id size h

  pub copies-fewer : length (copies_of (take i (map (named names) items))) < length (copies_of (map (named names) items))
  copies-fewer =
      let all = ap copies_of (take-append-drop i (map (named names) items)) in
      let both = copies-append (take i (map (named names) items)) (drop i (map (named names) items)) in
      let rest = ap copies_of (drop-at (map (named names) items) i (named names (Copy id size)) (shown-at names items i (Copy id size) here)) in
      let long = length-append (copies_of (take i (map (named names) items))) (copies_of (drop i (map (named names) items))) in
      let more = ap length rest in
      let whole = ap length (sym both ∙ all) in
      omega (arith, long, more, whole)

module _ (names : List (List ℕ)) (distinct : AreDistinct names) (items : List (Item NameId)) (i : ℕ) (item : Item NameId) (here : slice_get items i ≡ Some item) (good : is_item (named names item) ≡ true) (table new : List (Option ℕ)) (given : Bool) where
  -- one line more, of which the copied name was given an address unless it had one
  pub copied-table : (bases : List ℕ) (id : NameId) (a n : ℕ) → name_copied item ≡ Some id → IsTable names table (copied_at bases (copies_of (take i (map (named names) items))))
      → n ≡ length (copies_of (take i (map (named names) items))) → a ≡ slice_index bases n
      → (given ≡ true → (slice_get table id.0 ≡ Some None) × (new ≡ slice_set table id.0 (Some a))) → (given ≡ false → (slice_get table id.0 ≢ Some None) × (new ≡ table))
      → IsTable names new (copied_at bases (copies_of (take (i + 1) (map (named names) items)))) × (length (copies_of (take (i + 1) (map (named names) items))) ≡ n + 1)
  copied-table bases id a n e is count address put kept = (by_test given refl, long)
    where
      copy : (size : ℕ) × (item ≡ Copy id size)
      copy = copied-line item id e

      done : List (List ℕ × ℕ)
      done = copies_of (take i (map (named names) items))

      more : copies_of (take (i + 1) (map (named names) items)) ≡ done ++ (name_of names id, copy.0) ∷ []
      more = copies-more names items i item here ∙ ap (λ x. done ++ copies_of (named names x ∷ [])) copy.1

      long : length (copies_of (take (i + 1) (map (named names) items))) ≡ n + 1
      long = let l = ap length more in let m = length_push done (name_of names id, copy.0) in omega (arith, l, m, count)

      within : id.0 < length names
      within = copy-import names id copy.0 (subst (λ x. is_item (named names x) ≡ true) copy.1 good)

      by_test : (t : Bool) → given ≡ t → IsTable names new (copied_at bases (copies_of (take (i + 1) (map (named names) items))))
      by_test true f =
          subst (λ cs. IsTable names new (copied_at bases cs)) (sym more)
          (subst (λ t. IsTable names t (copied_at bases (done ++ (name_of names id, copy.0) ∷ []))) (sym ((put f).1 ∙ ap (λ b. slice_set table id.0 (Some b)) (address ∙ ap (slice_index bases) count)))
          (copy-given names (one-place names distinct) table id.0 within bases done copy.0 is (put f).0))
      by_test false f =
          subst (λ cs. IsTable names new (copied_at bases cs)) (sym more)
          (subst (λ t. IsTable names t (copied_at bases (done ++ (name_of names id, copy.0) ∷ []))) (sym (kept f).1)
          (copy-kept names (one-place names distinct) table id.0 within bases done copy.0 is (kept f).0))

  module _ (bases : List ℕ) (first : ℕ) (is : IsTable names table (named_at bases first (copies_of (map (named names) items)) (own_among (map (named names) items) (take i (map (named names) items))))) where
    abbrev whole : Items
    whole = map (named names) items

    abbrev done_own : List (List ℕ)
    done_own = own_among whole (take i whole)

    abbrev not_copied : List ℕ → Bool
    not_copied n = not (is_copied whole n)

    own-more : (id : NameId) → name_used item ≡ Some id → own_among whole (take (i + 1) whole) ≡ each_once (filter not_copied (used_names (take i whole) ++ name_of names id ∷ []))
    own-more id e = ap (λ ns. each_once (filter not_copied ns)) (use-more names items i item here good id e)

    pub named-given : (id : NameId) (a : ℕ) → name_used item ≡ Some id → a ≡ first + 16 * length done_own → slice_get table id.0 ≡ Some None → new ≡ slice_set table id.0 (Some a)
        → IsTable names new (named_at bases first (copies_of whole) (own_among whole (take (i + 1) whole))) × (length (own_among whole (take (i + 1) whole)) ≡ length done_own + 1)
    named-given id a e address none set =
        let within = used-within names item id good e in
        let one = one-place names distinct in (
          subst (λ o. IsTable names new (named_at bases first (copies_of whole) o)) (sym (own-more id e))
              (subst (λ t. IsTable names t (named_at bases first (copies_of whole) (each_once (filter not_copied (used_names (take i whole) ++ name_of names id ∷ []))))) (sym (set ∙ ap (λ b. slice_set table id.0 (Some b)) address))
              (use-given names one table id.0 within bases first whole (take i whole) is none)),
          ap length (own-more id e ∙ own-grows names one table id.0 within bases first whole (take i whole) is none) ∙ length_push done_own (name_of names id),
        )

    pub named-kept : (id : NameId) → name_used item ≡ Some id → slice_get table id.0 ≢ Some None → own_among whole (take (i + 1) whole) ≡ done_own
    named-kept id e some = own-more id e ∙ own-same names (one-place names distinct) table id.0 (used-within names item id good e) bases first whole (take i whole) is some

    pub named-none : name_used item ≡ None → own_among whole (take (i + 1) whole) ≡ done_own
    named-none e = ap (λ ns. each_once (filter not_copied ns)) (no-use-more names items i item here good e)

pub copies-few : (xs : Items) → length (copies_of xs) ≤ length xs
copies-few [] = omega arith
copies-few (Copy name size ∷ xs) = let rest = copies-few xs in omega (arith, rest)
copies-few (_ ∷ xs) = let rest = copies-few xs in omega (arith, rest)

-- the room of one copy more
pub room-more : (names : List (List ℕ)) (items : List (Item NameId)) (i : ℕ) (item : Item NameId) → slice_get items i ≡ Some item → (room : Room) → copy_room item ≡ Some room
    → map copy_extent (copies_of (take (i + 1) (map (named names) items))) ≡ map copy_extent (copies_of (take i (map (named names) items))) ++ extent_of room ∷ []
room-more names items i item here room e =
    ap (map copy_extent) (copies-more names items i item here) ∙ map-append copy_extent (copies_of (take i (map (named names) items))) (copies_of (named names item ∷ []))
    ∙ ap (λ rs. map copy_extent (copies_of (take i (map (named names) items))) ++ rs) (by_item item e)
  where
    some_is : (a b : Room) → Some a ≡ Some b → a ≡ b
    some_is a b e = cc

    by_item : (item : Item NameId) → copy_room item ≡ Some room → map copy_extent (copies_of (named names item ∷ [])) ≡ extent_of room ∷ []
    by_item (Copy id size) e = ap (λ r. extent_of r ∷ []) (some_is (record { size = size; align = 16 }) room e)
    by_item _ e = cc

pub no-room-more : (names : List (List ℕ)) (items : List (Item NameId)) (i : ℕ) (item : Item NameId) → slice_get items i ≡ Some item → copy_room item ≡ None
    → copies_of (take (i + 1) (map (named names) items)) ≡ copies_of (take i (map (named names) items))
no-room-more names items i item here e =
    copies-more names items i item here ∙ ap (λ cs. copies_of (take i (map (named names) items)) ++ cs) (by_item item e) ∙ append-nil (copies_of (take i (map (named names) items)))
  where
    by_item : (item : Item NameId) → copy_room item ≡ None → copies_of (named names item ∷ []) ≡ []
    by_item (Copy id size) e = cc
    by_item _ e = refl
