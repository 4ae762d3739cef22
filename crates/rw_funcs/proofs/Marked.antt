-- What is noted of points, one after another, at the places of their first bytes.
use Rattle.std.proofs.Common.{◌≡◌, ◌≢◌, inl, inr, ℕ, ◌+◌, ◌<◌, ◌≤◌, Bool, true, false, ◌==◌, cond, List, [], ◌∷◌, length, drop, get_or, Some, None, refl, sym, ap, ◌∙◌, arith, length-drop, get_or-set_same, get_or-set_other}
use Rattle.std.proofs.Math.ListN.{set}
use Rattle.std.specs.Option.{option_map_or}
use Rattle.std.proofs.lemmas.Bool.{eqb-true, eq-eqb, cases_eq}
use Rattle.std.proofs.lemmas.List.Elements.{All-contains}
use Rattle.x86_insn.specs.declared.instruction.Insn.{Insn}
use Rattle.x86_decode.specs.Reading.{decode_of}
use Rattle.rw_funcs.specs.Found.{IsNotedFrom}
use Rattle.rw_funcs.specs.Notes.{noted_or}
use Rattle.rw_funcs.specs.Points.{Point, points, point_at}
use Rattle.rw_funcs.proofs.Fuel.{points_in, points_next, points_at_start}
use Rattle.rw_funcs.proofs.PointFacts.{IsPointIn, points-are, point_at-none}

-- the points from a place on lie behind an address before it
none_below : (code : List ℕ) (start at b : ℕ) → b < start + at → point_at (points_in code start at) b ≡ None
none_below code start at b below =
    point_at-none (points_in code start at) b (λ p here same.
    let low = (All-contains (IsPointIn (start + at) (drop at code)) (points_in code start at) p (points-are (length (drop at code)) (start + at) (drop at code)) here).low in
    omega (arith, low, same, below))

-- no point is behind the last byte
pub none_at_end : (code : List ℕ) (start at : ℕ) → length code ≤ at → points_in code start at ≡ []
none_at_end code start at past =
    let size = length-drop at code in
    let none : length (drop at code) ≡ 0 = omega (arith, size, past) in
    ap (λ n. points n (start + at) (drop at code)) none

pub not_same : (a b : ℕ) → a ≢ b → (a == b) ≡ false
not_same a b other = by_test (a == b) refl
  where
    by_test : (t : Bool) → (a == b) ≡ t → t ≡ false
    by_test false e = refl
    by_test true e = absurd (other (eqb-true a b e))

module _ {A : Type 0} (note : Point → A) (none : A) where
  -- what is noted so far and what is still ahead are the notes of all
  abbrev pub AreNotedUpTo : (ℕ → A) → List A → List ℕ → ℕ → ℕ → Type 0
  AreNotedUpTo whole notes code start at = (k : ℕ) → k < length code → noted_or note (get_or notes k none) (points_in code start at) (start + k) ≡ whole k

  pub note-head : (n : A) (p : Point) (ps : List Point) (a : ℕ) → (p.place == a) ≡ true → noted_or note n (p ∷ ps) a ≡ note p
  note-head n p ps a e = ap (λ t. option_map_or note (cond t (Some p) (point_at ps a)) n) e

  pub note-tail : (n : A) (p : Point) (ps : List Point) (a : ℕ) → (p.place == a) ≡ false → noted_or note n (p ∷ ps) a ≡ noted_or note n ps a
  note-tail n p ps a e = ap (λ t. option_map_or note (cond t (Some p) (point_at ps a)) n) e

  pub note-none : (n : A) (ps : List Point) (a : ℕ) → point_at ps a ≡ None → noted_or note n ps a ≡ n
  note-none n ps a e = ap (λ o. option_map_or note o n) e

  pub one_more_noted : (whole : ℕ → A) (notes : List A) (code : List ℕ) (start at : ℕ) (d : Insn ℕ × ℕ) → length notes ≡ length code → 0 < d.1 → decode_of (start + at) (drop at code) ≡ Some d
      → AreNotedUpTo whole notes code start at → AreNotedUpTo whole (set notes at (note (record { place = start + at; insn = d.0; len = d.1 }))) code start (at + d.1)
  one_more_noted whole notes code start at d size some e h k within =
      elim (cases_eq k at) [
        | inl same ↦ here same
        | inr other ↦ elsewhere other
      ]
    where
      point : Point
      point = record { place = start + at; insn = d.0; len = d.1 }

      rest : List Point
      rest = points_in code start (at + d.1)

      before : noted_or note (get_or notes k none) (record { place = start + at; insn = d.0; len = d.1 } ∷ points_in code start (at + d.1)) (start + k) ≡ whole k
      before = ap (λ ps. noted_or note (get_or notes k none) ps (start + k)) (sym (points_next code start at d e)) ∙ h k within

      here : k ≡ at → noted_or note (get_or (set notes at (note point)) k none) (points_in code start (at + d.1)) (start + k) ≡ whole k
      here same =
          let low : at < length notes = omega (arith, size, same, within) in
          let noted : get_or (set notes at (note point)) k none ≡ note point = ap (λ j. get_or (set notes at (note point)) j none) same ∙ get_or-set_same notes at (note point) none low in
          let place : start + at ≡ start + k = omega (arith, same) in
          let all : note point ≡ whole k = sym (note-head (get_or notes k none) (record { place = start + at; insn = d.0; len = d.1 }) (points_in code start (at + d.1)) (start + k) (eq-eqb (start + at) (start + k) place)) ∙ before in
          note-none _ (points_in code start (at + d.1)) (start + k) (none_below code start (at + d.1) (start + k) (omega (arith, same, some))) ∙ noted ∙ all

      elsewhere : k ≢ at → noted_or note (get_or (set notes at (note point)) k none) (points_in code start (at + d.1)) (start + k) ≡ whole k
      elsewhere other =
          let place : start + at ≢ start + k = λ z. other (omega (arith, z)) in
          ap (λ n. noted_or note n (points_in code start (at + d.1)) (start + k)) (get_or-set_other notes at k (note point) none other)
          ∙ sym (note-tail (get_or notes k none) (record { place = start + at; insn = d.0; len = d.1 }) (points_in code start (at + d.1)) (start + k) (not_same (start + at) (start + k) place))
          ∙ before

  pub all_noted : (before after : List A) (code : List ℕ) (start at : ℕ) → length after ≡ length code → length code ≤ at
      → AreNotedUpTo (λ k. noted_or note (get_or before k none) (points_in code start 0) (start + k)) after code start at → IsNotedFrom note none before after start (points (length code) start code)
  all_noted before after code start at size past h = record {
    exact = λ k within.
        ap (λ ps. noted_or note (get_or after k none) ps (start + k)) (sym (none_at_end code start at past))
        ∙ h k (omega (arith, size, within))
        ∙ ap (λ ps. noted_or note (get_or before k none) ps (start + k)) (points_at_start code start);
  }
