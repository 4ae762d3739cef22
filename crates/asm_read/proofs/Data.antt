-- More bytes of data than an item has room for.
use Rattle.std.proofs.Common.{◌≡◌, ℕ, ◌<◌, ◌≤◌, false, cond, Option, Some, None, List, [], ◌∷◌, ◌++◌, length, refl, sym, ap, ◌∙◌, arith}
use Rattle.std.specs.Prelude.{nat_le}
use Rattle.std.proofs.lemmas.Bool.Decides.{nat_tests}
use Rattle.std.proofs.lemmas.List.{length-append}
use Rattle.asm_print.specs.Pieces.{◌>>=◌, pieces, split}
use Rattle.asm_print.specs.Reading.{byte_in, numbers_in, with_room}
use Rattle.asm_read.proofs.Separated.{pieces_by, pieces-split}

-- what is read so far, before what is still to be read
abbrev pub behind : List ℕ → Option (List ℕ) → Option (List ℕ)
behind front None = None
behind front (Some rest) = Some (front ++ rest)

no-room : (bytes : List ℕ) → 16 < length bytes → with_room bytes ≡ None
no-room bytes h =
    let long : nat_le (length bytes) 16 ≡ false = grind (arith, nat_tests) in
    ap (λ t. cond t (Some bytes) None) long

full : (front : List ℕ) (n : ℕ) (rest : Option (List ℕ)) → 16 ≤ length front → (behind front (rest >>= λ ns. Some (n ∷ ns)) >>= with_room) ≡ None
full front n None h = refl
full front n (Some ns) h = no-room (front ++ n ∷ ns) (omega (arith, length-append front (n ∷ ns)))

full-by : (front : List ℕ) (b : Option ℕ) (rest : Option (List ℕ)) → 16 ≤ length front → (behind front (b >>= λ n. rest >>= λ ns. Some (n ∷ ns)) >>= with_room) ≡ None
full-by front None rest h = refl
full-by front (Some n) rest h = full front n rest h

full-pieces : (front text : List ℕ) (s : Option (List ℕ × List ℕ)) → 16 ≤ length front → (behind front (numbers_in (pieces_by 44 text s)) >>= with_room) ≡ None
full-pieces front text None h = full-by front (byte_in text) (Some []) h
full-pieces front text (Some x) h = full-by front (byte_in x.0) (numbers_in (pieces 44 x.1)) h

-- one piece more than there is room for
pub data-full : (front : List ℕ) (all : Option (List ℕ)) (text : List ℕ) → behind front (numbers_in (pieces 44 text)) ≡ all → 16 ≤ length front → (all >>= with_room) ≡ None
data-full front all text read h = ap (λ r. r >>= with_room) (sym read ∙ ap (λ ps. behind front (numbers_in ps)) (pieces-split 44 text)) ∙ full-pieces front text (split 44 text) h
