-- Words stand for numbers cell by cell.
use Rattle.std.proofs.Common.{ℕ, zero, suc, Option, Some, None, List, [], ◌∷◌, ◌≡◌, ◌≢◌, ◌<◌, ◌+◌, ◌*◌, ◌/◌, ◌%◌, ◌^◌, Bool, true, false, ◌&&◌, nat_eq, length, get_or, take, refl, sym, ◌∙◌, ap, subst, arith, lit<, zero-add, cond}
use Rattle.std.proofs.Math.Nat.{mod-add-div, mod-eq_of_lt, add-mul-mod_self_left, add-mul-div_left, div-eq_of_lt, div-one, div-div-eq-div-mul, pow-suc, pow-succ'}
use Rattle.std.proofs.lemmas.Nat.{div_below, mod_below}
use Rattle.std.proofs.lemmas.Bool.{eqb-true}
use Rattle.std.proofs.lemmas.Option.{same_Some}
use Rattle.std.specs.Option.{option_map}
use Rattle.rw_base.specs.declared.width.Width.{Width}
use Rattle.rw_base.specs.Width.{byte_count}
use Rattle.rw_words.specs.declared.atom.Atom.{Atom}
use Rattle.rw_words.specs.declared.atom.Atom.TheVariants.{Ptr, Code, Past, Import, End, Diff}
use Rattle.rw_words.specs.declared.atom.Cell.{Cell}
use Rattle.rw_words.specs.declared.atom.Cell.TheVariants.{Num, Part, Undef}
use Rattle.rw_words.specs.Addresses.{Addresses, address_of, byte_of, CellStands, CellsStand}
use Rattle.rw_words.specs.Words.{atom_cells, number_in, whole_of, lowest_of, same_atom, are_parts, number_of_bytes}
use Rattle.rw_words.specs.Laws.{RowStands, HoldBytes}
use Rattle.rw_words.specs.Kinds.{KindStands, kind_from, kind_of}

-- a number is its lowest byte and the rest
pub same_step : (n x : ℕ) → n % 256 ≡ x % 256 → n / 256 ≡ x / 256 → n ≡ x
same_step n x e d = sym (mod-add-div n 256) ∙ (ap (λ z. z + 256 * (n / 256)) e ∙ ap (λ z. x % 256 + 256 * z) d) ∙ mod-add-div x 256

-- a number below 2 ^ 64 has eight bytes
pub no_more : (x : ℕ) → x < 2 ^ 64 → x / 256 / 256 / 256 / 256 / 256 / 256 / 256 / 256 ≡ 0
no_more x h =
    let a : x / 256 < 2 ^ 56 = div_below x 256 (2 ^ 56) (lit< tt) h in
    let b : x / 256 / 256 < 2 ^ 48 = div_below _ 256 (2 ^ 48) (lit< tt) a in
    let c : x / 256 / 256 / 256 < 2 ^ 40 = div_below _ 256 (2 ^ 40) (lit< tt) b in
    let d : x / 256 / 256 / 256 / 256 < 2 ^ 32 = div_below _ 256 (2 ^ 32) (lit< tt) c in
    let e : x / 256 / 256 / 256 / 256 / 256 < 2 ^ 24 = div_below _ 256 (2 ^ 24) (lit< tt) d in
    let f : x / 256 / 256 / 256 / 256 / 256 / 256 < 2 ^ 16 = div_below _ 256 (2 ^ 16) (lit< tt) e in
    let g : x / 256 / 256 / 256 / 256 / 256 / 256 / 256 < 2 ^ 8 = div_below _ 256 (2 ^ 8) (lit< tt) f in
    let i : x / 256 / 256 / 256 / 256 / 256 / 256 / 256 / 256 < 1 = div_below _ 256 1 (lit< tt) g in
    omega arith

pub address_below : (l : Addresses) (a : Atom) → address_of l a < 2 ^ 64
address_below l (Ptr r o) = mod_below _ (2 ^ 64) (lit< tt)
address_below l (Code c) = mod_below _ (2 ^ 64) (lit< tt)
address_below l (Past c) = mod_below _ (2 ^ 64) (lit< tt)
address_below l (Import i) = mod_below _ (2 ^ 64) (lit< tt)
address_below l End = mod_below _ (2 ^ 64) (lit< tt)
address_below l (Diff c r o) = mod_below _ (2 ^ 64) (lit< tt)

-- byte i after the lowest is byte i of the rest
byte_step : (n i : ℕ) → byte_of (n / 256) i ≡ byte_of n (suc i)
byte_step n i = ap (λ z. z % 256) (div-div-eq-div-mul n 256 (256 ^ i) ∙ ap (λ z. n / z) (sym (pow-succ' 256 i)))

byte_zero : (n : ℕ) → byte_of n 0 ≡ n % 256
byte_zero n = ap (λ z. z % 256) (div-one n)

-- a number without its lowest bytes
rest : ℕ → ℕ → ℕ
rest x i = x / 256 ^ i

rest-suc : (x i : ℕ) → rest x i / 256 ≡ rest x (suc i)
unfolding rest
rest-suc x i = div-div-eq-div-mul x (256 ^ i) 256 ∙ ap (λ z. x / z) (sym (pow-suc 256 i))

pub and-first : (b c : Bool) → (b && c) ≡ true → b ≡ true
and-first true c h = refl
and-first false c h = cc

pub and-second : (b c : Bool) → (b && c) ≡ true → c ≡ true
and-second true c h = h
and-second false c h = cc

pub same_atom-true : (a b : Atom) → same_atom a b ≡ true → a ≡ b
same_atom-true (Ptr r o) (Ptr s p) h =
    let x : r ≡ s = eqb-true r s (and-first (nat_eq r s) (nat_eq o p) h) in
    let y : o ≡ p = eqb-true o p (and-second (nat_eq r s) (nat_eq o p) h) in cc
same_atom-true (Code c) (Code d) h = ap Code (eqb-true c d h)
same_atom-true (Past c) (Past d) h = ap Past (eqb-true c d h)
same_atom-true (Import c) (Import d) h = ap Import (eqb-true c d h)
same_atom-true End End h = refl
same_atom-true (Diff c r o) (Diff d s p) h =
    let w : c ≡ d = eqb-true c d (and-first (nat_eq c d) _ h) in
    let t : (nat_eq r s && nat_eq o p) ≡ true = and-second (nat_eq c d) _ h in
    let x : r ≡ s = eqb-true r s (and-first (nat_eq r s) (nat_eq o p) t) in
    let y : o ≡ p = eqb-true o p (and-second (nat_eq r s) (nat_eq o p) t) in cc
same_atom-true _ _ h = cc

-- the parts of an atom from part i on
parts_from : Atom → ℕ → ℕ → List Cell
parts_from a i zero = []
parts_from a i (suc n) = Part a i ∷ parts_from a (i + 1) n

are_parts-list : (a : Atom) (i : ℕ) (cells : List Cell) → are_parts a i cells ≡ true → cells ≡ parts_from a i (length cells)
unfolding parts_from
are_parts-list a i [] h = refl
are_parts-list a i (Part b j ∷ cells) h =
    let ba : b ≡ a = same_atom-true b a (and-first (same_atom b a) _ h) in
    let t : (nat_eq j i && are_parts a (i + 1) cells) ≡ true = and-second (same_atom b a) _ h in
    let ji : j ≡ i = eqb-true j i (and-first (nat_eq j i) _ t) in
    let more : cells ≡ parts_from a (i + 1) (length cells) = are_parts-list a (i + 1) cells (and-second (nat_eq j i) _ t) in cc
are_parts-list a i (Num b ∷ cells) h = cc
are_parts-list a i (Undef ∷ cells) h = cc

-- a whole word is its atom's parts
pub whole-parts : (cells : List Cell) (a : Atom) → whole_of cells ≡ Some a → cells ≡ atom_cells a
unfolding parts_from
whole-parts [] a h = cc
whole-parts (Num b ∷ cells) a h = cc
whole-parts (Undef ∷ cells) a h = cc
whole-parts (Part b i ∷ cells) a h = by_test (nat_eq i 0 && (nat_eq (length cells) 7 && are_parts b 1 cells)) refl h
  where
    by_test : (t : Bool) → (nat_eq i 0 && (nat_eq (length cells) 7 && are_parts b 1 cells)) ≡ t → cond t (Some b) None ≡ Some a → Part b i ∷ cells ≡ atom_cells a
    by_test false e h = cc
    by_test true e h =
        let i0 : i ≡ 0 = eqb-true i 0 (and-first (nat_eq i 0) _ e) in
        let t : (nat_eq (length cells) 7 && are_parts b 1 cells) ≡ true = and-second (nat_eq i 0) _ e in
        let seven : length cells ≡ 7 = eqb-true (length cells) 7 (and-first (nat_eq (length cells) 7) _ t) in
        let others : cells ≡ parts_from b 1 (length cells) = are_parts-list b 1 cells (and-second (nat_eq (length cells) 7) _ t) in
        let others' : cells ≡ parts_from b 1 7 = others ∙ ap (parts_from b 1) seven in
        let ba : b ≡ a = same_Some b a h in cc

-- four cells that are the lowest parts of an atom
pub lowest-parts : (cells : List Cell) (a : Atom) → length cells ≡ 4 → lowest_of cells ≡ Some a → cells ≡ Part a 0 ∷ Part a 1 ∷ Part a 2 ∷ Part a 3 ∷ []
unfolding parts_from
lowest-parts [] a four h = cc
lowest-parts (Num b ∷ cells) a four h = cc
lowest-parts (Undef ∷ cells) a four h = cc
lowest-parts (Part b i ∷ cells) a four h = by_test (nat_eq i 0 && are_parts b 1 cells) refl h
  where
    by_test : (t : Bool) → (nat_eq i 0 && are_parts b 1 cells) ≡ t → cond t (Some b) None ≡ Some a → Part b i ∷ cells ≡ Part a 0 ∷ Part a 1 ∷ Part a 2 ∷ Part a 3 ∷ []
    by_test false e h = cc
    by_test true e h =
        let i0 : i ≡ 0 = eqb-true i 0 (and-first (nat_eq i 0) _ e) in
        let three : length cells ≡ 3 = let four' : suc (length cells) ≡ 4 = four in omega arith in
        let others : cells ≡ parts_from b 1 (length cells) = are_parts-list b 1 cells (and-second (nat_eq i 0) _ e) in
        let others' : cells ≡ parts_from b 1 3 = others ∙ ap (parts_from b 1) three in
        let ba : b ≡ a = same_Some b a h in cc

cell-one : (l : Addresses) (c : Cell) (m n : ℕ) → c ≢ Undef → CellStands l c m → CellStands l c n → m ≡ n
cell-one l (Num b) m n known e f = e ∙ sym f
cell-one l (Part a i) m n known e f = e ∙ sym f
cell-one l Undef m n known e f = absurd (known refl)

pub equal-cells : (l : Addresses) (c d : Cell) (m n : ℕ) → c ≡ d → c ≢ Undef → CellStands l c m → CellStands l d n → m ≡ n
equal-cells l c d m n e known s t = cell-one l c m n known s (subst (λ z. CellStands l z n) (sym e) t)

-- an atom's word stands for its address
pub atom-stands : (l : Addresses) (a : Atom) → CellsStand l (atom_cells a) (address_of l a)
atom-stands l a =
    let x = address_of l a in
    let none : x / 256 / 256 / 256 / 256 / 256 / 256 / 256 / 256 ≡ 0 = no_more x (address_below l a) in
    (part0 x, (part1 x, (part2 x, (part3 x, (part4 x, (part5 x, (part6 x, (part7 x, none))))))))
  where
    part0 : (x : ℕ) → x % 256 ≡ byte_of x 0
    part0 x = sym (byte_zero x)

    part1 : (x : ℕ) → x / 256 % 256 ≡ byte_of x 1
    part1 x = part0 (x / 256) ∙ byte_step x 0

    part2 : (x : ℕ) → x / 256 / 256 % 256 ≡ byte_of x 2
    part2 x = part1 (x / 256) ∙ byte_step x 1

    part3 : (x : ℕ) → x / 256 / 256 / 256 % 256 ≡ byte_of x 3
    part3 x = part2 (x / 256) ∙ byte_step x 2

    part4 : (x : ℕ) → x / 256 / 256 / 256 / 256 % 256 ≡ byte_of x 4
    part4 x = part3 (x / 256) ∙ byte_step x 3

    part5 : (x : ℕ) → x / 256 / 256 / 256 / 256 / 256 % 256 ≡ byte_of x 5
    part5 x = part4 (x / 256) ∙ byte_step x 4

    part6 : (x : ℕ) → x / 256 / 256 / 256 / 256 / 256 / 256 % 256 ≡ byte_of x 6
    part6 x = part5 (x / 256) ∙ byte_step x 5

    part7 : (x : ℕ) → x / 256 / 256 / 256 / 256 / 256 / 256 / 256 % 256 ≡ byte_of x 7
    part7 x = part6 (x / 256) ∙ byte_step x 6

-- cells of which all is known stand for one number
pub AllKnown : List Cell → Type 0
AllKnown [] = Unit {0}
AllKnown (c ∷ cells) = (c ≢ Undef) × AllKnown cells

pub known-one : (l : Addresses) (cells : List Cell) (m n : ℕ) → AllKnown cells → CellsStand l cells m → CellsStand l cells n → m ≡ n
unfolding AllKnown
known-one l [] m n known s t = s ∙ sym t
known-one l (c ∷ cells) m n known s t =
    same_step m n (cell-one l c _ _ known.0 s.0 t.0) (known-one l cells (m / 256) (n / 256) known.1 s.1 t.1)

pub part-known : (a : Atom) (i : ℕ) → Part a i ≢ Undef
part-known a i e = cc

-- four cells of an atom stand for the low 32 bits of its address alone
pub four-parts : (l : Addresses) (a : Atom) (m n : ℕ) → CellsStand l (Part a 0 ∷ Part a 1 ∷ Part a 2 ∷ Part a 3 ∷ []) m → CellsStand l (Part a 0 ∷ Part a 1 ∷ Part a 2 ∷ Part a 3 ∷ []) n → m ≡ n
unfolding AllKnown
four-parts l a m n s t =
    known-one l (Part a 0 ∷ Part a 1 ∷ Part a 2 ∷ Part a 3 ∷ []) m n
    (part-known a 0, (part-known a 1, (part-known a 2, (part-known a 3, tt)))) s t

-- and for this alone
pub atom-only : (l : Addresses) (a : Atom) (n : ℕ) → CellsStand l (atom_cells a) n → n ≡ address_of l a
unfolding AllKnown
atom-only l a n s =
    known-one l (atom_cells a) n (address_of l a)
    (part-known a 0, (part-known a 1, (part-known a 2, (part-known a 3, (part-known a 4, (part-known a 5, (part-known a 6, (part-known a 7, tt))))))))
    s (atom-stands l a)

pub whole-stands : (l : Addresses) (cells : List Cell) (a : Atom) → whole_of cells ≡ Some a → CellsStand l cells (address_of l a)
whole-stands l cells a h = subst (λ z. CellsStand l z (address_of l a)) (sym (whole-parts cells a h)) (atom-stands l a)

pub whole-only : (l : Addresses) (cells : List Cell) (a : Atom) (n : ℕ) → whole_of cells ≡ Some a → CellsStand l cells n → n ≡ address_of l a
whole-only l cells a n h s = atom-only l a n (subst (λ z. CellsStand l z n) (whole-parts cells a h) s)

-- the lowest byte of a number made of bytes, and the rest
low-byte : (b n : ℕ) → b < 256 → (b + 256 * n) % 256 ≡ b
low-byte b n h = add-mul-mod_self_left b 256 n ∙ mod-eq_of_lt h

other-bytes : (b n : ℕ) → b < 256 → (b + 256 * n) / 256 ≡ n
other-bytes b n h = add-mul-div_left b n (lit< tt) ∙ (ap (λ z. z + n) (div-eq_of_lt h) ∙ zero-add n)

pub number-only : (l : Addresses) (cells : List Cell) (v n : ℕ) → number_in cells ≡ Some v → CellsStand l cells n → n ≡ v
number-only l [] v n e s = s ∙ same_Some 0 v e
number-only l (Num b ∷ cells) v n e s = by_rest (number_in cells) (λ m k. number-only l cells m (n / 256) k s.1) refl e
  where
    by_rest : (o : Option ℕ) → ((m : ℕ) → number_in cells ≡ Some m → n / 256 ≡ m) → number_in cells ≡ o → option_map (λ higher. b + 256 * higher) o ≡ Some v → n ≡ v
    by_rest (Some m) high k e =
        sym (mod-add-div n 256) ∙ (ap (λ z. z + 256 * (n / 256)) s.0 ∙ ap (λ z. b + 256 * z) (high m k)) ∙ same_Some _ v e
    by_rest None high k e = cc
number-only l (Part a i ∷ cells) v n e s = cc
number-only l (Undef ∷ cells) v n e s = cc

pub number-stands : (l : Addresses) (cells : List Cell) (v : ℕ) → HoldBytes cells → number_in cells ≡ Some v → CellsStand l cells v
number-stands l [] v bytes e = sym (same_Some 0 v e)
number-stands l (Num b ∷ cells) v bytes e = by_rest (number_in cells) (λ m k. number-stands l cells m bytes.1 k) refl e
  where
    by_rest : (o : Option ℕ) → ((m : ℕ) → number_in cells ≡ Some m → CellsStand l cells m) → number_in cells ≡ o → option_map (λ higher. b + 256 * higher) o ≡ Some v → CellsStand l (Num b ∷ cells) v
    by_rest (Some m) high k e =
        subst (CellsStand l (Num b ∷ cells)) (same_Some _ v e)
        (low-byte b m bytes.0, subst (CellsStand l cells) (sym (other-bytes b m bytes.0)) (high m k))
    by_rest None high k e = cc
number-stands l (Part a i ∷ cells) v bytes e = cc
number-stands l (Undef ∷ cells) v bytes e = cc

pub split-stands : (l : Addresses) (cells : List Cell) (n i : ℕ) → CellsStand l cells n → CellStands l (get_or cells i Undef) (byte_of n i)
split-stands l [] n i s = tt
split-stands l (c ∷ cells) n zero s = subst (CellStands l c) (sym (byte_zero n)) s.0
split-stands l (c ∷ cells) n (suc i) s =
    subst (CellStands l (get_or cells i Undef)) (byte_step n i) (split-stands l cells (n / 256) i s.1)

join-row : (l : Addresses) (k : ℕ) (row : List Cell) (bytes : List ℕ) → RowStands l row bytes → CellsStand l (take k row) (number_of_bytes (take k bytes))
join-row l zero row bytes s = refl
join-row l (suc k) [] [] s = refl
join-row l (suc k) [] (b ∷ bytes) s = absurd s
join-row l (suc k) (c ∷ row) [] s = absurd s
join-row l (suc k) (c ∷ row) (b ∷ bytes) s =
    let n = number_of_bytes (take k bytes) in
    (subst (CellStands l c) (sym (low-byte b n s.1)) s.0, subst (CellsStand l (take k row)) (sym (other-bytes b n s.1)) (join-row l k row bytes s.2))

pub join-stands : (l : Addresses) (w : Width) (row : List Cell) (bytes : List ℕ) → RowStands l row bytes → CellsStand l (take (byte_count w) row) (number_of_bytes (take (byte_count w) bytes))
join-stands l w row bytes s = join-row l (byte_count w) row bytes s

pub kind-stands : (l : Addresses) (cells : List Cell) (n : ℕ) → CellsStand l cells n → KindStands l (kind_of cells) n
kind-stands l cells n s = by_parts (number_in cells) (whole_of cells) refl refl
  where
    by_parts : (number : Option ℕ) (whole : Option Atom) → number_in cells ≡ number → whole_of cells ≡ whole → KindStands l (kind_from number whole) n
    by_parts (Some v) whole e f = number-only l cells v n e s
    by_parts None (Some a) e f = whole-only l cells a n f s
    by_parts None None e f = tt
