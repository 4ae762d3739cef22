-- What the points of a function are: what its bytes spell there.
use Rattle.std.proofs.Common.{◌≡◌, ℕ, zero, suc, ◌+◌, List, length, drop, Option, Some, None, Bool, true, false, ◌==◌, refl, sym, ap, subst, ◌∙◌, arith}
use Rattle.std.specs.Prelude.{if◌then◌else◌}
use Rattle.std.proofs.lemmas.Bool.{eqb-true}
use Rattle.x86_insn.specs.declared.instruction.Insn.{Insn}
use Rattle.x86_decode.specs.Reading.{decode_of}
use Rattle.rw_elf.specs.declared.symbol.Symbol.{Symbol}
use Rattle.rw_funcs.specs.Functions.{code_of_symbol}
use Rattle.rw_funcs.specs.Points.{Point, points_from, points, point_at, points_of}
use Rattle.rw_funcs.proofs.Fuel.{drop_drop}

-- the instruction of a point is what the bytes have at its front
abbrev pub PointHere : ℕ → List ℕ → ℕ → Option Point → Type 0
PointHere a bytes b None = Unit {0}
PointHere a bytes b (Some p) = (m : ℕ) × (b ≡ a + m) × (decode_of b (drop m bytes) ≡ Some (p.insn, p.len))

later : (a n : ℕ) (bytes : List ℕ) (b : ℕ) (o : Option Point) → PointHere (a + n) (drop n bytes) b o → PointHere a bytes b o
later a n bytes b None h = tt
later a n bytes b (Some p) h =
    (n + h.0, (let e : b ≡ a + n + h.0 = h.1 in omega (arith, e)), ap (decode_of b) (sym (drop_drop n h.0 bytes)) ∙ h.2)

here_from : (k a b : ℕ) (bytes : List ℕ) → ((c : ℕ) (rest : List ℕ) → PointHere c rest b (point_at (points k c rest) b)) → (o : Option (Insn ℕ × ℕ)) → decode_of a bytes ≡ o
    → PointHere a bytes b (point_at (points_from k a bytes o (points k)) b)
here_from k a b bytes ih None e = tt
here_from k a b bytes ih (Some d) e =
    let choose : (t : Bool) → (a == b) ≡ t → PointHere a bytes b (if t then Some (record { place = a; insn = d.0; len = d.1 }) else point_at (points k (a + d.1) (drop d.1 bytes)) b) =
    elim [
      | true ↦ λ same. let same' : a ≡ b = eqb-true a b same in (0, (omega (arith, same')), subst (λ z. decode_of z bytes ≡ Some d) same' e)
      | false ↦ λ other. later a d.1 bytes b _ (ih (a + d.1) (drop d.1 bytes))
    ] in
    choose (a == b) refl

pub points-here : (k a : ℕ) (bytes : List ℕ) (b : ℕ) → PointHere a bytes b (point_at (points k a bytes) b)
points-here zero a bytes b = tt
points-here (suc k) a bytes b = here_from k a b bytes (λ c rest. points-here k c rest b) (decode_of a bytes) refl

-- the points of a function have what its code has at its front
pub points_of-here : (file : List ℕ) (f : Symbol) (a : ℕ) → PointHere f.value (code_of_symbol file f) a (point_at (points_of file f) a)
unfolding points_of
points_of-here file f a = points-here (length (code_of_symbol file f)) f.value (code_of_symbol file f) a
