-- Lines of a text, by the numbers of their names and by their names.
use Rattle.std.proofs.Common.{◌≡◌, ℕ, ◌+◌, ◌<◌, true, List, [], ◌∷◌, ◌++◌, Some, map, length, take, refl, ap, subst, ◌∙◌, get_or}
use Rattle.std.specs.Prelude.{slice_get, option_map}
use Rattle.std.proofs.lemmas.List.{take_more}
use Rattle.std.proofs.lemmas.Option.{slice_get-map, slice_get_within, slice_get_read, get_or_from_slice_get}
use Rattle.asm_items.specs.declared.item.Item.{Item}
use Rattle.asm_items.specs.declared.item.NameId.{NameId}
use Rattle.asm_items.specs.Formed.{is_item, AreItems}
use Rattle.asm_items.specs.Named.{named}
use Rattle.asm_items.specs.Lines.{Items}

-- the line at a place, as the text shows it
pub shown-at : (names : List (List ℕ)) (items : List (Item NameId)) (i : ℕ) (item : Item NameId) → slice_get items i ≡ Some item → slice_get (map (named names) items) i ≡ Some (named names item)
shown-at names items i item e = slice_get-map (named names) items i ∙ ap (option_map (named names)) e

pub item-formed : (items : Items) (i : ℕ) (item : Item (List ℕ)) → AreItems items → slice_get items i ≡ Some item → is_item item ≡ true
item-formed items i item all e = subst (λ x. is_item x ≡ true) (get_or_from_slice_get items i item item e) (all i item (slice_get_within items i item e))

-- the lines up to one are those before it, and it
pub take-next : {A : Type 0} (xs : List A) (i : ℕ) (x : A) → slice_get xs i ≡ Some x → take (i + 1) xs ≡ take i xs ++ x ∷ []
take-next xs i x e = take_more xs i x (slice_get_within xs i x e) ∙ ap (λ y. take i xs ++ y ∷ []) (get_or_from_slice_get xs i x x e)

-- an item that a loop reads
pub read-at : {A : Type 0} (xs : List A) (i : ℕ) (x : A) → i < length xs → x ≡ get_or xs i x → slice_get xs i ≡ Some x
read-at xs i x h e = slice_get_read xs (length xs) i x refl h e
