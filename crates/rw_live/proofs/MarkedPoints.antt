-- The points of a function are where its marks are above 0.
use Rattle.std.proofs.Common.{◌≡◌, ℕ, ◌+◌, ◌-◌, ◌<◌, ◌≤◌, ◌==◌, not, true, List, All, length, get_or, sym, ap, ◌∙◌, arith}
use Rattle.std.proofs.lemmas.Bool.Decides.{nat_tests}
use Rattle.rw_base.specs.declared.span.Span.{Span}
use Rattle.rw_funcs.specs.Notes.{marks_from}
use Rattle.rw_funcs.specs.Points.{file_points, is_point}
use Rattle.rw_funcs.proofs.NoteFacts.{note-at, notes-count}
use Rattle.rw_funcs.proofs.PointFacts.{is_point-length}
use Rattle.rw_live.specs.Nodes.{in_span, points_in}
use Rattle.rw_live.proofs.Within.{is-inside}

in-span : (span : Span) (a : ℕ) → span.start ≤ a → a < span.end → in_span span a ≡ true
in-span span a low high = grind (arith, nat_tests, low, high)

pub marks-size : (bytes : List ℕ) (span : Span) (marks : List ℕ) → marks ≡ marks_from (file_points bytes) span.start (span.end - span.start) → length marks ≡ span.end - span.start
marks-size bytes span marks is = ap length is ∙ notes-count (λ p. p.len) 0 (file_points bytes) span.start (span.end - span.start)

pub marked-point : (bytes : List ℕ) (span : Span) (marks : List ℕ) (k d : ℕ) → All (λ p. 0 < p.len) (file_points bytes) → marks ≡ marks_from (file_points bytes) span.start (span.end - span.start) → k < length marks
    → is_point (points_in bytes span) (span.start + k) ≡ not (get_or marks k d == 0)
marked-point bytes span marks k d some is within =
    let size = marks-size bytes span marks is in
    is-inside span (file_points bytes) (span.start + k) (in-span span (span.start + k) (omega arith) (omega (arith, size, within)))
    ∙ is_point-length (file_points bytes) (span.start + k) some
    ∙ ap (λ n. not (n == 0)) (sym (note-at (λ p. p.len) 0 (file_points bytes) span.start (span.end - span.start) k d (omega (arith, size, within))) ∙ ap (λ l. get_or l k d) (sym is))
