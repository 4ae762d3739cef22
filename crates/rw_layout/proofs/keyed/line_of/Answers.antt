use Rattle.std.proofs.Common.{ℕ, sym, ◌∙◌, arith}
use Rattle.std.specs.Prelude.{slice_index_or}
use Rattle.std.proofs.lemmas.Option.{slice_get-get_or}
use Rattle.rw_layout.specs.Keys.{Key}
use Rattle.rw_layout.proofs.KeyedLines.{line-here, line-other, line-past}
use Rattle.rw_layout.proofs.keyed.line_of.Goals as goal

null_line : Key × ℕ
null_line = ((0, 0), 0)

pub returns-then-next-lines : goal.returns-then-next-lines
returns-then-next-lines c =
    let count = c.count_before-next.ensures in
    sym (line-past c.args.lines.now c.requires c.args.key c.count_before-next.result count.before count.behind (omega arith))

pub returns-then-eq : goal.returns-then-eq
unfolding null_line
returns-then-eq c =
    let lines = c.args.lines.now in
    let next = c.count_before-next.result in
    let count = c.count_before-next.ensures in
    let line : Key × ℕ = slice_index_or lines next null_line in
    sym (line-here lines c.requires c.args.key next count.before count.behind line (slice_get-get_or lines next null_line (omega arith)) (sym c.eq.ensures ∙ c.if-eq.true))

pub returns-else-eq : goal.returns-else-eq
unfolding null_line
returns-else-eq c =
    let lines = c.args.lines.now in
    let next = c.count_before-next.result in
    let count = c.count_before-next.ensures in
    let line : Key × ℕ = slice_index_or lines next null_line in
    sym (line-other lines c.requires c.args.key next count.before count.behind line (slice_get-get_or lines next null_line (omega arith)) (sym c.eq.ensures ∙ c.if-eq.false))
