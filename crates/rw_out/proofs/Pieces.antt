-- Pieces of a text that are written one after another.
use Rattle.std.proofs.Common.{◌≡◌, ℕ, zero, suc, ◌+◌, ◌<◌, ◌≤◌, List, [], ◌∷◌, ◌++◌, length, take, drop, map, get_or, append_assoc, Option, refl, sym, ap, subst, ◌∙◌, arith, length-append}
use Rattle.std.specs.Prelude.{Result, Ok, Err}
use Rattle.std.specs.Io.KnownBytes.{Appends}
use Rattle.std.proofs.KnownBytes.{Appends-trans, Appends-nil}
use Rattle.std.proofs.Math.Seq.{take-append-add}
use Rattle.std.proofs.lemmas.List.{take-append-le}
use Rattle.std.proofs.lemmas.Grind.{flat_map-append}
use Rattle.rw_io.specs.declared.outside.WriteFault.{WriteFault}
use Rattle.rw_io.specs.WriteAll.{WritesAll}
use Rattle.asm_items.specs.declared.item.Item.{Item}
use Rattle.asm_print.specs.Text.{line_text, text_of}
use Rattle.rw_out.specs.Writing.{WritesOn}

-- one piece, and then another
pub writes_then : (old mid new : Option (List ℕ)) (done n : ℕ) (r : Result ℕ WriteFault) (a b : List ℕ) → WritesOn old mid done (Ok n) a → WritesOn mid new n r b → WritesOn old new done r (a ++ b)
writes_then old mid new done n (Ok m) a b h k =
    let size = length-append a b in
    let first : n ≡ done + length a = h.0 in
    let second : m ≡ n + length b = k.0 in
    (omega (arith, size, first, second), Appends-trans old mid new a b h.1 k.1)
writes_then old mid new done n (Err e) a b h k =
    let size = length-append a b in
    let first : n ≡ done + length a = h.0 in
    let second : e.done ≡ n + k.0 = k.1 in
    let short : k.0 ≤ length b = k.2 in
    (length a + k.0, omega (arith, first, second), omega (arith, size, short), subst (λ xs. Appends old new xs) (sym (take-append-add a b k.0)) (Appends-trans old mid new a (take k.0 b) h.1 k.3))

-- a fault in a piece is one in the whole
pub writes_stop : (old new : Option (List ℕ)) (done : ℕ) (e : WriteFault) (a b : List ℕ) → WritesOn old new done (Err e) a → WritesOn old new done (Err e) (a ++ b)
writes_stop old new done e a b h =
    let size = length-append a b in
    let short : h.0 ≤ length a = h.2 in
    (h.0, h.1, omega (arith, size, short), subst (λ xs. Appends old new xs) (sym (take-append-le h.0 a b short)) h.3)

-- nothing is written
pub writes_nothing : (old : Option (List ℕ)) (done : ℕ) → WritesOn old old done (Ok done) []
writes_nothing old done = (omega arith, Appends-nil old)

-- a whole write is one from nothing on
pub writes_all : (old new : Option (List ℕ)) (e : WriteFault) (text : List ℕ) → WritesOn old new 0 (Err e) text → WritesAll {T = Unit {0}} old new (Err e) text
writes_all old new e text h =
    let same : e.done ≡ h.0 = let d : e.done ≡ 0 + h.0 = h.1 in omega (arith, d) in
    let short : h.0 ≤ length text = h.2 in
    (omega (arith, same, short), subst (λ k. Appends old new (take k text)) (sym same) h.3)

-- the text of a list around one of its items
pub text_around : {A : Type 0} (f : A → Item (List ℕ)) (xs : List A) (i : ℕ) (d : A) → i < length xs → (text_of (map f (take i xs)) ++ line_text (f (get_or xs i d))) ++ text_of (map f (drop (suc i) xs)) ≡ text_of (map f xs)
text_around f [] i d h = absurd (omega (arith, h))
text_around f (x ∷ xs) zero d h = refl
text_around f (x ∷ xs) (suc i) d h =
    append_assoc (line_text (f x) ++ text_of (map f (take i xs))) (line_text (f (get_or xs i d))) (text_of (map f (drop (suc i) xs)))
    ∙ append_assoc (line_text (f x)) (text_of (map f (take i xs))) (line_text (f (get_or xs i d)) ++ text_of (map f (drop (suc i) xs)))
    ∙ ap (λ t. line_text (f x) ++ t) (sym (append_assoc (text_of (map f (take i xs))) (line_text (f (get_or xs i d))) (text_of (map f (drop (suc i) xs)))) ∙ text_around f xs i d (omega (arith, h)))

-- a fault in the line of an item is one in the whole text
pub fault_in_text : {A : Type 0} (f : A → Item (List ℕ)) (xs : List A) (i : ℕ) (d : A) (old mid new : Option (List ℕ)) (done n : ℕ) (e : WriteFault) → i < length xs → WritesOn old mid done (Ok n) (text_of (map f (take i xs))) → WritesOn mid new n (Err e) (line_text (f (get_or xs i d))) → WritesOn old new done (Err e) (text_of (map f xs))
fault_in_text f xs i d old mid new done n e h a b =
    subst (λ t. WritesOn old new done (Err e) t) (text_around f xs i d h)
    (writes_stop old new done e (text_of (map f (take i xs)) ++ line_text (f (get_or xs i d))) (text_of (map f (drop (suc i) xs)))
    (writes_then old mid new done n (Err e) (text_of (map f (take i xs))) (line_text (f (get_or xs i d))) a b))

-- the text of two lists, one after another
pub then_text : (old mid new : Option (List ℕ)) (done n : ℕ) (r : Result ℕ WriteFault) (xs ys : List (Item (List ℕ))) → WritesOn old mid done (Ok n) (text_of xs) → WritesOn mid new n r (text_of ys) → WritesOn old new done r (text_of (xs ++ ys))
then_text old mid new done n r xs ys a b =
    subst (λ t. WritesOn old new done r t) (sym (flat_map-append line_text xs ys)) (writes_then old mid new done n r (text_of xs) (text_of ys) a b)

pub stop_text : (old new : Option (List ℕ)) (done : ℕ) (e : WriteFault) (xs ys : List (Item (List ℕ))) → WritesOn old new done (Err e) (text_of xs) → WritesOn old new done (Err e) (text_of (xs ++ ys))
stop_text old new done e xs ys a =
    subst (λ t. WritesOn old new done (Err e) t) (sym (flat_map-append line_text xs ys)) (writes_stop old new done e (text_of xs) (text_of ys) a)
