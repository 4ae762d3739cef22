-- What is cut to the room of a line, piece by piece.
use Rattle.std.proofs.Common.{◌≡◌, ℕ, ◌+◌, ◌-◌, ◌<◌, ◌≤◌, List, [], ◌∷◌, ◌++◌, length, take, drop, min, refl, sym, ap, ◌∙◌, inl, inr, arith, append_assoc, append-nil}
use Rattle.std.proofs.lemmas.List.{length-append, length-take, length-take-le, take-take, take-append-le, take_min, take_all}
use Rattle.std.proofs.lemmas.Bool.{cases_lt, false≢true}
use Rattle.std.proofs.Math.Seq.{take-append-add}
use Rattle.asm_print.specs.Line.{cut}
use Rattle.asm_print.specs.Text.{more_numbers, numbers_text}
use Rattle.std.specs.Prelude.{codes, decimal}
use Rattle.std.specs.Result.{OnOk, IsOk}
use Rattle.std.proofs.Common.{Result, Ok, Err, get_or, add-one}
use Rattle.std.proofs.lemmas.List.{at_drop_more, drop_all}

take-room : (n k : ℕ) (a b : List ℕ) → length a ≤ n → k ≡ min (n - length a) (length b) → a ++ take k b ≡ take n (a ++ b)
take-room n k a b h e =
    let shorter : take k b ≡ take (n - length a) b = ap (λ j. take j b) e ∙ take_min (n - length a) b in
    let whole : length a + (n - length a) ≡ n = omega arith in
    ap (λ t. a ++ t) shorter ∙ sym (take-append-add a b (n - length a)) ∙ ap (λ j. take j (a ++ b)) whole

take-again : (n : ℕ) (a b : List ℕ) → take n (take n a ++ b) ≡ take n (a ++ b)
take-again n a b =
    elim (cases_lt (length a) n) [
      | inl lt ↦ ap (λ t. take n (t ++ b)) (take_all n a (omega arith))
      | inr le ↦ take-append-le n (take n a) b (omega (arith, length-take-le n a le)) ∙ take-take n n a (omega arith) ∙ sym (take-append-le n a b le)
    ]

pub cut-room : (a b : List ℕ) (n m : ℕ) → length a ≤ m → m ≡ 8192 → n ≡ min (m - length a) (length b) → a ++ take n b ≡ cut (a ++ b)
unfolding cut
cut-room a b n m h k e = take-room m n a b h e ∙ ap (λ j. take j (a ++ b)) k

pub cut-cut : (a b : List ℕ) → cut (cut a ++ b) ≡ cut (a ++ b)
unfolding cut
cut-cut a b = take-again 8192 a b

pub cut-none : (a : List ℕ) → length a ≤ 8192 → a ≡ cut (a ++ [])
unfolding cut
cut-none a h = sym (ap (take 8192) (append-nil a) ∙ take_all 8192 a h)

pub cut-short : (a : List ℕ) → length a ≤ 8192 → cut a ≡ a
unfolding cut
cut-short a h = take_all 8192 a h

pub length-cut : (a : List ℕ) → length (cut a) ≤ 8192
unfolding cut
length-cut a = omega (arith, length-take 8192 a)

-- one piece after another
pub cut-then : (old a b mid new : List ℕ) → mid ≡ cut (old ++ a) → new ≡ cut (mid ++ b) → new ≡ cut (old ++ (a ++ b))
cut-then old a b mid new h k = k ∙ ap (λ t. cut (t ++ b)) h ∙ cut-cut (old ++ a) b ∙ ap cut (append_assoc old a b)

pub ruleset pieces = (cut-cut, cut-none, append_assoc)

pub more_numbers-drop : (bytes : List ℕ) (i : ℕ) → i < length bytes → more_numbers (drop i bytes) ≡ codes ", " ++ decimal (get_or bytes i 0) ++ more_numbers (drop (i + 1) bytes)
more_numbers-drop bytes i h = at_drop_more more_numbers bytes i 0 h

pub more_numbers-end : (bytes : List ℕ) (i : ℕ) → length bytes ≤ i → more_numbers (drop i bytes) ≡ []
more_numbers-end bytes i h = ap more_numbers (drop_all i bytes h)

pub numbers_text-first : (bytes : List ℕ) → 1 ≤ length bytes → numbers_text bytes ≡ decimal (get_or bytes 0 0) ++ more_numbers (drop 1 bytes)
unfolding numbers_text
numbers_text-first [] h = absurd (omega arith)
numbers_text-first (b ∷ bs) h = refl

pub numbers_text-none : (bytes : List ℕ) → length bytes < 1 → numbers_text bytes ≡ []
unfolding numbers_text
numbers_text-none [] h = refl
numbers_text-none (b ∷ bs) h = absurd (omega arith)

pub ruleset more_pieces = (cut-cut, cut-none, append_assoc, more_numbers-drop, more_numbers-end, numbers_text-first, numbers_text-none)

pub on_ok : {A E : Type 0} (P : Type 0) (r : Result A E) → OnOk r P → IsOk r → P
on_ok P (Ok x) h k = h
on_ok P (Err e) h k = absurd (false≢true k)

pub length-cut_long : (a : List ℕ) → 8192 ≤ length a → length (cut a) ≡ 8192
unfolding cut
length-cut_long a h = length-take-le 8192 a h
