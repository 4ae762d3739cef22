-- The parts that a byte separates, a prefix, and digits.
use Rattle.std.proofs.Common.{◌≡◌, ℕ, ◌+◌, ◌-◌, ◌*◌, ◌^◌, ◌<◌, ◌≤◌, Bool, true, false, cond, eqb, ◌&&◌, eq-eqb, Option, Some, None, List, [], ◌∷◌, ◌++◌, length, get_or, take, drop, refl, sym, ap, ◌∙◌, arith, append_assoc, append-nil}
use Rattle.std.specs.Str.{bytes_eq}
use Rattle.std.proofs.lemmas.Bool.{false≢true, eqb-true, ne_eqb}
use Rattle.std.proofs.lemmas.List.{at_drop_more, drop_all, take_more, take_all, take_at, length-drop}
use Rattle.std.proofs.Math.Nat.{mul-le-mul_left}
use Rattle.asm_print.specs.Pieces.{split, with_front, pieces, put_first, after_prefix, number_after}

-- front put before what split found
pub onto : List ℕ → Option (List ℕ × List ℕ) → Option (List ℕ × List ℕ)
onto front None = None
onto front (Some x) = Some (front ++ x.0, x.1)

pub onto-none : (s : Option (List ℕ × List ℕ)) → onto [] s ≡ s
unfolding onto
onto-none None = refl
onto-none (Some x) = refl

onto-push : (front : List ℕ) (b : ℕ) (s : Option (List ℕ × List ℕ)) → onto front (with_front b s) ≡ onto (front ++ b ∷ []) s
unfolding onto
onto-push front b None = refl
onto-push front b (Some x) = ap (λ t. Some (t, x.1)) (sym (append_assoc front (b ∷ []) x.0))

pub split-step : (c b : ℕ) (bs : List ℕ) (t : Bool) → eqb b c ≡ t → split c (b ∷ bs) ≡ cond t (Some ([], bs)) (with_front b (split c bs))
unfolding split
split-step c b bs t e = ap (λ u. cond u (Some ([], bs)) (with_front b (split c bs))) e

pub split-hit : (c : ℕ) (text : List ℕ) (i : ℕ) → i < length text → get_or text i 0 ≡ c → onto (take i text) (split c (drop i text)) ≡ Some (take i text, drop (i + 1) text)
unfolding split onto
split-hit c text i h e =
    ap (onto (take i text)) (at_drop_more (split c) text i 0 h ∙ split-step c (get_or text i 0) (drop (i + 1) text) true (eq-eqb _ _ e)) ∙ ap (λ t. Some (t, drop (i + 1) text)) (append-nil (take i text))

pub split-miss : (c : ℕ) (text : List ℕ) (i : ℕ) → i < length text → (get_or text i 0 ≡ c → ⊥) → onto (take i text) (split c (drop i text)) ≡ onto (take (i + 1) text) (split c (drop (i + 1) text))
unfolding split
split-miss c text i h e =
    ap (onto (take i text)) (at_drop_more (split c) text i 0 h ∙ split-step c (get_or text i 0) (drop (i + 1) text) false (ne_eqb _ _ e)) ∙ onto-push (take i text) (get_or text i 0) (split c (drop (i + 1) text)) ∙ ap (λ t. onto t (split c (drop (i + 1) text))) (sym (take_more text i 0 h))

pub split-end : (c : ℕ) (text front : List ℕ) (i : ℕ) → length text ≤ i → onto front (split c (drop i text)) ≡ None
unfolding split onto
split-end c text front i h = ap (λ t. onto front (split c t)) (drop_all i text h)

pub product_fits : (n base : ℕ) → n < 2 ^ 64 → base ≤ 16 → n * base < 2 ^ 70
product_fits n base h k = omega (arith, mul-le-mul_left n k)

pub number-step : (base n : ℕ) (text : List ℕ) (i : ℕ) → i < length text → number_after base n (drop i text) ≡ number_after base n (get_or text i 0 ∷ drop (i + 1) text)
number-step base n text i h = at_drop_more (number_after base n) text i 0 h

pub ruleset digits = (product_fits, number-step)

both : {A : Type 0} (t u : Bool) (r s none : A) → (t && u) ≡ true → (u ≡ true → r ≡ s) → cond t r none ≡ s
both true u r s none e f = f e
both false u r s none e f = absurd (false≢true e)

either : {A : Type 0} (t u : Bool) (r none : A) → (t && u) ≡ false → (u ≡ false → r ≡ none) → cond t r none ≡ none
either true u r none e f = f e
either false u r none e f = refl

pub prefix-yes : (p text : List ℕ) → bytes_eq (take (length p) text) p ≡ true → after_prefix p text ≡ Some (drop (length p) text)
prefix-yes [] text e = refl
prefix-yes (b ∷ bs) [] e = absurd (false≢true e)
prefix-yes (b ∷ bs) (x ∷ xs) e = both (eqb x b) _ _ _ None e (prefix-yes bs xs)

pub prefix-no : (p text : List ℕ) → bytes_eq (take (length p) text) p ≡ false → after_prefix p text ≡ None
prefix-no [] text e = absurd (false≢true (sym e))
prefix-no (b ∷ bs) [] e = refl
prefix-no (b ∷ bs) (x ∷ xs) e = either (eqb x b) _ _ None e (prefix-no bs xs)

pub ruleset prefixes = (prefix-yes, prefix-no)

pub rest_of : (text : List ℕ) (i : ℕ) → take (length text - i) (drop i text) ≡ drop i text
rest_of text i = take_all _ _ (omega (arith, length-drop i text))

pub ruleset splits = (onto-none, split-hit, split-miss, split-end, rest_of)

-- ---- a text after its front

differs-step : (t u : Bool) (o : Option (List ℕ)) → cond t o None ≡ None → (o ≡ None → u ≡ false) → (t && u) ≡ false
differs-step true u o e f = f e
differs-step false u o e f = refl

pub prefix-differs : (p s text : List ℕ) → after_prefix p text ≡ None → bytes_eq text (p ++ s) ≡ false
prefix-differs [] s text e = absurd cc
prefix-differs (b ∷ bs) s [] e = refl
prefix-differs (b ∷ bs) s (x ∷ xs) e = differs-step (eqb x b) (bytes_eq xs (bs ++ s)) (after_prefix bs xs) e (prefix-differs bs s xs)

rest-step : (t u v : Bool) (o : Option (List ℕ)) (rest : List ℕ) → cond t o None ≡ Some rest → (o ≡ Some rest → u ≡ v) → (t && u) ≡ v
rest-step true u v o rest e f = f e
rest-step false u v o rest e f = absurd cc

some-is : {A : Type 0} (x y : A) → ◌≡◌ {A = Option A} (Some x) (Some y) → x ≡ y
some-is x y e = cc

pub prefix-rest : (p s text rest : List ℕ) → after_prefix p text ≡ Some rest → bytes_eq text (p ++ s) ≡ bytes_eq rest s
prefix-rest [] s text rest e = ap (λ t. bytes_eq t s) (some-is text rest e)
prefix-rest (b ∷ bs) s [] rest e = absurd cc
prefix-rest (b ∷ bs) s (x ∷ xs) rest e = rest-step (eqb x b) (bytes_eq xs (bs ++ s)) (bytes_eq rest s) (after_prefix bs xs) rest e (prefix-rest bs s xs rest)

pub ruleset fronts = (prefix-differs, prefix-rest)

-- ---- pieces

-- the pieces of a text that is split at its first separator, if it has one
abbrev pub pieces_by : ℕ → List ℕ → Option (List ℕ × List ℕ) → List (List ℕ)
pieces_by c text None = text ∷ []
pieces_by c text (Some x) = x.0 ∷ pieces c x.1

pieces-step : (c b : ℕ) (bs : List ℕ) (t : Bool) (s : Option (List ℕ × List ℕ)) → pieces c bs ≡ pieces_by c bs s → cond t ([] ∷ pieces c bs) (put_first b (pieces c bs)) ≡ pieces_by c (b ∷ bs) (cond t (Some ([], bs)) (with_front b s))
pieces-step c b bs true s h = refl
pieces-step c b bs false None h = ap (put_first b) h
pieces-step c b bs false (Some x) h = ap (put_first b) h

pub pieces-split : (c : ℕ) (text : List ℕ) → pieces c text ≡ pieces_by c text (split c text)
unfolding pieces split
pieces-split c [] = refl
pieces-split c (b ∷ bs) = pieces-step c b bs (eqb b c) (split c bs) (pieces-split c bs)

pub one-piece : (c : ℕ) (text : List ℕ) → split c text ≡ None → pieces c text ≡ text ∷ []
one-piece c text e = pieces-split c text ∙ ap (pieces_by c text) e

pub more-pieces : (c : ℕ) (text front back : List ℕ) → split c text ≡ Some (front, back) → pieces c text ≡ front ∷ pieces c back
more-pieces c text front back e = pieces-split c text ∙ ap (pieces_by c text) e

text-step : (c b : ℕ) (bs : List ℕ) (t : Bool) (s : Option (List ℕ × List ℕ)) (x : List ℕ × List ℕ) → eqb b c ≡ t → ((y : List ℕ × List ℕ) → s ≡ Some y → bs ≡ y.0 ++ c ∷ y.1) → cond t (Some ([], bs)) (with_front b s) ≡ Some x → b ∷ bs ≡ x.0 ++ c ∷ x.1
text-step c b bs true s x e h k = ap (λ a. a ∷ bs) (eqb-true b c e) ∙ ap (λ (y : List ℕ × List ℕ). y.0 ++ c ∷ y.1) (some-is ([], bs) x k)
text-step c b bs false None x e h k = absurd cc
text-step c b bs false (Some y) x e h k = ap (λ t. b ∷ t) (h y refl) ∙ ap (λ (z : List ℕ × List ℕ). z.0 ++ c ∷ z.1) (some-is (b ∷ y.0, y.1) x k)

-- what is split is the parts with the separator between them
pub split-text : (c : ℕ) (text : List ℕ) (x : List ℕ × List ℕ) → split c text ≡ Some x → text ≡ x.0 ++ c ∷ x.1
unfolding split
split-text c [] x e = absurd cc
split-text c (b ∷ bs) x e = text-step c b bs (eqb b c) (split c bs) x refl (split-text c bs) e

pub text-parts : (c : ℕ) (text front back : List ℕ) → split c text ≡ Some (front, back) → text ≡ front ++ c ∷ back
text-parts c text front back e = split-text c text (front, back) e

pub front-part : (c : ℕ) (text front back : List ℕ) → split c text ≡ Some (front, back) → take (length front) text ≡ front
front-part c text front back e = ap (take (length front)) (text-parts c text front back e) ∙ take_at front (c ∷ back) (length front) refl

pub whole-part : (text : List ℕ) → take (length text) text ≡ text
whole-part text = take_all (length text) text (omega arith)

pub ruleset piecewise = (one-piece, more-pieces, text-parts, front-part, whole-part)
