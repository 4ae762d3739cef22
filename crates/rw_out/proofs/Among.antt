-- The items of a list, one after another: each is an item of a text, and its names are among those of all.
use Rattle.std.proofs.Common.{◌≡◌, ℕ, suc, ◌+◌, ◌<◌, ◌≤◌, List, [], ◌∷◌, ◌++◌, length, map, take, drop, get_or, refl, sym, ap, subst, ◌∙◌, append_assoc, append-nil, arith, length-append}
use Rattle.std.specs.Prelude.{flat_map, Option, Result, Ok, Err, true}
use Rattle.std.specs.List.{AllByRecursion}
use Rattle.std.proofs.Math.Seq.{drop-cons, take-suc}
use Rattle.std.proofs.lemmas.Grind.{flat_map-append}
use Rattle.std.proofs.lemmas.List.{map-append, take-append-drop}
use Rattle.rw_io.specs.declared.outside.WriteFault.{WriteFault}
use Rattle.asm_items.specs.declared.item.Item.{Item}
use Rattle.asm_items.specs.Formed.{AreItems, is_item}
use Rattle.asm_print.specs.Text.{line_text, text_of}
use Rattle.rw_elf.specs.Name.{name_bytes}
use Rattle.asm_items.specs.declared.item.Item.TheVariants.{Weak}
use Rattle.rw_elf.specs.declared.section.NameAt.{NameAt}
use Rattle.rw_elf.specs.declared.symbol.Symbol.{Symbol}
use Rattle.rw_reloc.specs.declared.slot.Slot.{Slot}
use Rattle.rw_reloc.specs.Slots.{copies_of}
use Rattle.rw_reloc.specs.declared.slot.Target.{Target}
use Rattle.rw_reloc.specs.declared.slot.Target.TheVariants as target
use Rattle.rw_out.specs.Items.{Probes, copy_item, copy_items, items_with, main_items, target_name, weak_items, weakly_used}
use Rattle.rw_out.specs.Plan.{by_appearance, has, item_names, names_of}
use Rattle.rw_out.specs.Positions.{IsWeak, target_place}
use Rattle.rw_out.specs.Writing.{WritesOn}
use Rattle.rw_out.proofs.Appearance.{all-among}
use Rattle.rw_out.proofs.Pieces.{stop_text, then_text}
use Rattle.rw_out.proofs.Rests.{twice_mapped}

abbrev Items : Type 0
Items = List (Item (List ℕ))

-- an item between others
pub among-item : (before after : Items) (x : Item (List ℕ)) → AreItems (before ++ x ∷ after) → is_item x ≡ true
among-item [] after x h = h 0 x (omega arith)
among-item (y ∷ before) after x h = among-item before after x (λ k d within. h (suc k) d (omega (arith, within)))

pub item-in : (all before after : Items) (x : Item (List ℕ)) → all ≡ before ++ x ∷ after → AreItems all → is_item x ≡ true
item-in all before after x e h = among-item before after x (subst AreItems e h)

pub names-in : (names : List (List ℕ)) (all before after : Items) (x : Item (List ℕ)) → names ≡ names_of all → all ≡ before ++ x ∷ after → AllByRecursion (has names) (item_names x)
names-in names all before after x is e =
    all-among names (flat_map item_names before) (item_names x) (flat_map item_names after)
    (is ∙ (ap names_of e ∙ ap by_appearance (flat_map-append item_names before (x ∷ after))))

pub shorter : (all before after : Items) (x : Item (List ℕ)) → all ≡ before ++ x ∷ after → length before + 1 ≤ length all
shorter all before after x e = let size = ap length e in let two = length-append before (x ∷ after) in omega (arith, size, two)

-- one more line
pub line-then : (old mid new : Option (List ℕ)) (done n : ℕ) (r : Result ℕ WriteFault) (before : Items) (x : Item (List ℕ)) → WritesOn old mid done (Ok n) (text_of before) → WritesOn mid new n r (line_text x) → WritesOn old new done r (text_of (before ++ x ∷ []))
line-then old mid new done n r before x a b = then_text old mid new done n r before (x ∷ []) a (subst (λ t. WritesOn mid new n r t) (sym (append-nil (line_text x))) b)

pub line-stop : (old new : Option (List ℕ)) (done : ℕ) (e : WriteFault) (all before after : Items) (x : Item (List ℕ)) → all ≡ before ++ x ∷ after → WritesOn old new done (Err e) (text_of (before ++ x ∷ [])) → WritesOn old new done (Err e) (text_of all)
line-stop old new done e all before after x is a =
    subst (λ xs. WritesOn old new done (Err e) (text_of xs)) (append_assoc before (x ∷ []) after ∙ sym is) (stop_text old new done e (before ++ x ∷ []) after a)

-- ---- the items of a list of other things

module _ {A : Type 0} (f : A → Item (List ℕ)) (xs : List A) (i : ℕ) (d : A) (low : i < length xs) where
  pub mapped-around : map f xs ≡ map f (take i xs) ++ f (get_or xs i d) ∷ map f (drop (i + 1) xs)
  mapped-around =
      let next : suc i ≡ i + 1 = omega arith in
      ap (map f) (sym (take-append-drop i xs) ∙ ap (λ ys. take i xs ++ ys) (drop-cons xs i d low ∙ ap (λ k. get_or xs i d ∷ drop k xs) next))
      ∙ map-append f (take i xs) (get_or xs i d ∷ drop (i + 1) xs)

  pub mapped-more : map f (take (i + 1) xs) ≡ map f (take i xs) ++ f (get_or xs i d) ∷ []
  mapped-more =
      let next : suc i ≡ i + 1 = omega arith in
      ap (λ k. map f (take k xs)) (sym next) ∙ (ap (map f) (take-suc xs i d low) ∙ map-append f (take i xs) (get_or xs i d ∷ []))

-- the name of what a slot copies or imports, by its place
pub place-name : (file : List ℕ) (t : Target) → name_bytes file (target_place file t) ≡ target_name file t
place-name file (target.To a) = refl
place-name file (target.Import number) = refl
place-name file (target.Copy number size) = refl

-- ---- where the items of a file stand among all

pub copies-around : (file : List ℕ) (cs : List Slot) (i : ℕ) (d : Slot) → cs ≡ copies_of file → i < length cs → copy_items file ≡ map (copy_item file) (take i cs) ++ copy_item file (get_or cs i d) ∷ map (copy_item file) (drop (i + 1) cs)
unfolding copy_items
copies-around file cs i d is low = ap (map (copy_item file)) (sym is) ∙ mapped-around (copy_item file) cs i d low

abbrev pub weak_line : List ℕ → NameAt → Item (List ℕ)
weak_line file n = Weak (name_bytes file n)

pub weak-listed : (file : List ℕ) (probes : Probes) (ws : List NameAt) → IsWeak file probes ws → map (weak_line file) ws ≡ weak_items file probes
unfolding weak_items
weak-listed file probes ws is = ap (map (weak_line file)) is ∙ twice_mapped (weak_line file) (λ (s : Symbol). s.name) (weakly_used file probes)

pub weak-around : (file : List ℕ) (probes : Probes) (ws : List NameAt) (i : ℕ) (d : NameAt) → IsWeak file probes ws → i < length ws → weak_items file probes ≡ map (weak_line file) (take i ws) ++ weak_line file (get_or ws i d) ∷ map (weak_line file) (drop (i + 1) ws)
weak-around file probes ws i d is low = sym (weak-listed file probes ws is) ∙ mapped-around (weak_line file) ws i d low

pub in-copies : (file : List ℕ) (probes : Probes) (before after : Items) (x : Item (List ℕ)) → copy_items file ≡ before ++ x ∷ after → items_with file probes ≡ before ++ x ∷ (after ++ weak_items file probes ++ main_items file probes)
unfolding items_with
in-copies file probes before after x e =
    ap (λ xs. (xs ++ weak_items file probes) ++ main_items file probes) e
    ∙ (ap (λ xs. xs ++ main_items file probes) (append_assoc before (x ∷ after) (weak_items file probes)) ∙ append_assoc before (x ∷ after ++ weak_items file probes) (main_items file probes))

pub in-weak : (file : List ℕ) (probes : Probes) (before after : Items) (x : Item (List ℕ)) → weak_items file probes ≡ before ++ x ∷ after → items_with file probes ≡ (copy_items file ++ before) ++ x ∷ (after ++ main_items file probes)
unfolding items_with
in-weak file probes before after x e =
    ap (λ xs. (copy_items file ++ xs) ++ main_items file probes) e
    ∙ (ap (λ xs. xs ++ main_items file probes) (sym (append_assoc (copy_items file) before (x ∷ after))) ∙ append_assoc (copy_items file ++ before) (x ∷ after) (main_items file probes))

pub in-main : (file : List ℕ) (probes : Probes) (before after : Items) (x : Item (List ℕ)) → main_items file probes ≡ before ++ x ∷ after → items_with file probes ≡ ((copy_items file ++ weak_items file probes) ++ before) ++ x ∷ after
unfolding items_with
in-main file probes before after x e = ap (λ xs. (copy_items file ++ weak_items file probes) ++ xs) e ∙ sym (append_assoc (copy_items file ++ weak_items file probes) before (x ∷ after))
