-- Equal lines are of equal items, and equal texts of equal lists of items.
use Rattle.std.proofs.Common.{◌≡◌, ℕ, suc, true, Option, Some, None, List, [], ◌∷◌, ◌++◌, refl, sym, ap, ◌∙◌, arith, append_assoc}
use Rattle.asm_items.specs.declared.item.Item.{Item}
use Rattle.asm_items.specs.declared.item.Item.TheVariants.{Tail}
use Rattle.asm_items.specs.Formed.{is_item, AreItems}
use Rattle.asm_print.specs.Text.{newline, body, line_text, text_of}
use Rattle.asm_print.specs.Pieces.{split}
use Rattle.asm_print.specs.Reading.{item_in}
use Rattle.asm_print.proofs.Separators.{split-at}
use Rattle.asm_print.proofs.InsnRead.{is_inline}
use Rattle.asm_print.proofs.ItemsRead.{item-again, inline-item}

abbrev pub Items : Type 0
Items = List (Item (List ℕ))

some-is : {A : Type 0} (x y : A) → ◌≡◌ {A = Option A} (Some x) (Some y) → x ≡ y
some-is x y e = cc

no-some : {A : Type 0} (x : A) → ◌≡◌ {A = Option A} None (Some x) → ⊥
no-some x e = cc

bodies-apart : (a b : Item (List ℕ)) → is_item a ≡ true → is_item b ≡ true → body a ≡ body b → a ≡ b
bodies-apart a b h k e = some-is a b (sym (item-again a h) ∙ ap item_in e ∙ item-again b k)

-- a text is cut behind its first line
first-line : (item : Item (List ℕ)) (rest : List ℕ) → is_item item ≡ true → split 10 (line_text item ++ rest) ≡ Some (body item, rest)
first-line item rest h = ap (split 10) (append_assoc (body item) newline rest) ∙ split-at is_inline 10 refl (body item) rest (inline-item item h)

-- the first items and the rests of two equal texts
heads-apart : (a b : Item (List ℕ)) (xs ys : List ℕ) → is_item a ≡ true → is_item b ≡ true → line_text a ++ xs ≡ line_text b ++ ys → (a ≡ b) × (xs ≡ ys)
heads-apart a b xs ys h k e =
    let same : (body a, xs) ≡ (body b, ys) = some-is _ _ (sym (first-line a xs h) ∙ ap (split 10) e ∙ first-line b ys k) in
    (bodies-apart a b h k (ap (λ (p : List ℕ × List ℕ). p.0) same), ap (λ (p : List ℕ × List ℕ). p.1) same)

pub lines-apart : (a b : Item (List ℕ)) → is_item a ≡ true → is_item b ≡ true → line_text a ≡ line_text b → a ≡ b
lines-apart a b h k e = (heads-apart a b [] [] h k (ap (λ t. t ++ []) e)).0

-- a text with an item isn't empty
not-empty : (a : Item (List ℕ)) (rest : List ℕ) → is_item a ≡ true → [] ≡ line_text a ++ rest → ⊥
unfolding split
not-empty a rest h e = no-some (body a, rest) (ap (split 10) e ∙ first-line a rest h)

module _ (a : Item (List ℕ)) (xs : Items) (h : AreItems (a ∷ xs)) where
  first-is : is_item a ≡ true
  first-is = h 0 Tail (omega arith)

  rest-are : AreItems xs
  rest-are = λ k d below. h (suc k) d (omega (arith, below))

pub texts-apart : (xs ys : Items) → AreItems xs → AreItems ys → text_of xs ≡ text_of ys → xs ≡ ys
texts-apart [] [] h k e = refl
texts-apart [] (b ∷ ys) h k e = absurd (not-empty b (text_of ys) (first-is b ys k) e)
texts-apart (a ∷ xs) [] h k e = absurd (not-empty a (text_of xs) (first-is a xs h) (sym e))
texts-apart (a ∷ xs) (b ∷ ys) h k e =
    let parts = heads-apart a b (text_of xs) (text_of ys) (first-is a xs h) (first-is b ys k) e in
    ap (λ x. x ∷ xs) parts.0 ∙ ap (λ zs. b ∷ zs) (texts-apart xs ys (rest-are a xs h) (rest-are b ys k) parts.1)
