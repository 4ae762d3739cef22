-- What is added at the points of some code, one after another.
use Rattle.std.proofs.Common.{◌≡◌, ℕ, ◌+◌, Bool, List, length, drop, Option, Some, None, sym, ap, ◌∙◌}
use Rattle.std.specs.Prelude.{◌==◌, ◌||◌, ◌&&◌, nat_lt, option_and_then}
use Rattle.std.specs.List.{list_any}
use Rattle.x86_insn.specs.declared.instruction.Insn.{Insn}
use Rattle.x86_insn.specs.References.{reference_of}
use Rattle.x86_decode.specs.Reading.{decode_of}
use Rattle.rw_words.specs.declared.atom.Atom.{Atom}
use Rattle.rw_funcs.specs.Points.{Point, is_one_of, points}
use Rattle.rw_funcs.proofs.Fuel.{points_in, points_next, points_stop, points_at_start}
use Rattle.rw_probe.specs.Collecting.{AddsWhere, begins_with, begins_by}
use Rattle.rw_probe.specs.Leaders.{ends_block, is_code, named_at}
use Rattle.rw_probe.proofs.Adding.{or-or, or-false}

module _ (bytes code : List ℕ) (start end : ℕ) where
  abbrev rest_at : ℕ → ℕ → Bool
  rest_at at c = begins_by bytes end (points_in code start at) c

  -- one more point
  pub walk-more : (at n : ℕ) (i : Insn ℕ) (old mid new : List ℕ) (atom : Option Atom) (ends : Bool) (next : ℕ) → decode_of (start + at) (drop at code) ≡ Some (i, n)
      → AddsWhere (λ c. is_code c atom) old mid → atom ≡ option_and_then (named_at bytes i) (reference_of i)
      → AddsWhere (λ c. (ends && next == c) && nat_lt c end) mid new → ends ≡ ends_block i → next ≡ start + at + n
      → (c : ℕ) → (is_one_of new c || rest_at (at + n) c) ≡ (is_one_of old c || rest_at at c)
  walk-more at n i old mid new atom ends next found names named below ended behind c =
      let p : Point = record { place = start + at; insn = i; len = n } in
      let rest : Bool = rest_at (at + n) c in
      let name : is_code c atom ≡ is_code c (option_and_then (named_at bytes i) (reference_of i)) = ap (is_code c) named in
      let end_here : ((ends && next == c) && nat_lt c end) ≡ ((ends_block i && start + at + n == c) && nat_lt c end) = ap (λ b. (b && next == c) && nat_lt c end) ended ∙ ap (λ m. (ends_block i && m == c) && nat_lt c end) behind in
      ap (λ b. b || rest) (below c ∙ ap (λ b. b || ((ends && next == c) && nat_lt c end)) (names c ∙ ap (λ b. is_one_of old c || b) name) ∙ ap (λ b. (is_one_of old c || is_code c (option_and_then (named_at bytes i) (reference_of i))) || b) end_here
      ∙ or-or (is_one_of old c) (is_code c (option_and_then (named_at bytes i) (reference_of i))) ((ends_block i && start + at + n == c) && nat_lt c end))
      ∙ or-or (is_one_of old c) (begins_with bytes end c p) rest
      ∙ ap (λ ps. is_one_of old c || list_any (begins_with bytes end c) ps) (sym (points_next code start at (i, n) found))

  -- all of them
  pub walk-end : (at : ℕ) (old new : List ℕ) → decode_of (start + at) (drop at code) ≡ None → ((c : ℕ) → (is_one_of new c || rest_at at c) ≡ (is_one_of old c || rest_at 0 c))
      → AddsWhere (begins_by bytes end (points (length code) start code)) old new
  walk-end at old new none same = λ c.
      sym (or-false (is_one_of new c)) ∙ ap (λ ps. is_one_of new c || list_any (begins_with bytes end c) ps) (sym (points_stop (length (drop at code)) (start + at) (drop at code) none)) ∙ same c
      ∙ ap (λ ps. is_one_of old c || list_any (begins_with bytes end c) ps) (points_at_start code start)
