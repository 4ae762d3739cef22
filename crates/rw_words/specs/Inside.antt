-- How the cells of a word lie in its fields.
use Rattle.std.specs.Prelude.{ℕ, List, ◌++◌, ◌≡◌, take, drop, length, replicate, refl, nat_eq, if◌then◌else◌}
use Rattle.std.proofs.Common.{sym, arith, length-take}
use Rattle.std.proofs.Math.ListN.{take-append-drop}
use Rattle.rw_base.specs.declared.width.Width.{Width}
use Rattle.rw_base.specs.declared.width.Width.TheVariants.{B, W, L, Q}
use Rattle.rw_base.specs.Width.{byte_count}
use Rattle.rw_words.specs.declared.atom.Cell.{Cell}
use Rattle.rw_words.specs.declared.atom.Cell.TheVariants.{Undef}
use Rattle.rw_words.specs.declared.word.Word.TheInside.{Inside}

abbrev pub cells_in : Inside → List Cell
cells_in a = take (byte_count a.width) a.cells

-- the cells after the width's are undefined
abbrev pub rest_of : Width → ℕ
rest_of B = 7
rest_of W = 6
rest_of L = 4
rest_of Q = 0

abbrev pub IsPadded : Inside → Type 0
IsPadded a = (length a.cells ≡ 8) × (drop (byte_count a.width) a.cells ≡ replicate (rest_of a.width) Undef)

abbrev pub width_of : ℕ → Width
width_of n = if nat_eq n 1 then B else if nat_eq n 2 then W else if nat_eq n 4 then L else Q

abbrev pub padded_cells : List Cell → Inside
padded_cells cs = record { width = width_of (length cs); cells = cs ++ replicate (rest_of (width_of (length cs))) Undef }

inside : Width → List Cell → Inside
inside w cs = record { width = w; cells = cs }

padded_take : (w : Width) (cs : List Cell) → length cs ≡ 8 → drop (byte_count w) cs ≡ replicate (rest_of w) Undef → length (take (byte_count w) cs) ≡ byte_count w → width_of (byte_count w) ≡ w → padded_cells (take (byte_count w) cs) ≡ inside w cs
unfolding inside
padded_take w cs eight rest n back = rw (n, back, sym rest, take-append-drop) refl

pub padded_ok : (a : Inside) → IsPadded a → padded_cells (cells_in a) ≡ a
unfolding inside
padded_ok a h = padded_take a.width a.cells h.0 h.1 (long a.width a.cells h.0) (back a.width)
  where
    long : (w : Width) (cs : List Cell) → length cs ≡ 8 → length (take (byte_count w) cs) ≡ byte_count w
    long B cs e = simp length-take (omega arith)
    long W cs e = simp length-take (omega arith)
    long L cs e = simp length-take (omega arith)
    long Q cs e = simp length-take (omega arith)

    back : (w : Width) → width_of (byte_count w) ≡ w
    back B = refl
    back W = refl
    back L = refl
    back Q = refl
