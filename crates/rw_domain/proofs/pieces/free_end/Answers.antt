use Rattle.std.proofs.Common.{get_or}
use Rattle.std.proofs.lemmas.Option.{slice_get-get_or}
use Rattle.rw_domain.proofs.HolesAscend.{null_hole, all-free, by-first}
use Rattle.rw_domain.proofs.PiecesPushed.{end-of-size, end-of-hole, end-of-other}
use Rattle.rw_domain.proofs.pieces.free_end.Goals as goal

pub returns-then-next-holes : goal.returns-then-next-holes
returns-then-next-holes c = λ end some.
    end-of-size c.args.holes.now c.args.region c.args.number c.args.from end (all-free c.args.holes.now c.args.number c.args.from end c.count_before-next.result c.if-next-holes.true c.count_before-next.ensures.before)

pub returns-then-hole-number : goal.returns-then-hole-number
returns-then-hole-number c = λ end some.
    let holes = c.args.holes.now in
    let next = c.count_before-next.result in
    let first = by-first holes c.requires c.args.number c.args.from end next (get_or holes next null_hole) some (slice_get-get_or holes next null_hole c.if-next-holes.false) c.count_before-next.ensures.before c.count_before-next.ensures.behind in
    end-of-hole holes c.args.region c.args.number c.args.from end c.min.result (get_or holes next null_hole) c.if-hole-number.true c.min.ensures first

pub returns-else-hole-number : goal.returns-else-hole-number
returns-else-hole-number c = λ end some.
    let holes = c.args.holes.now in
    let next = c.count_before-next.result in
    let first = by-first holes c.requires c.args.number c.args.from end next (get_or holes next null_hole) some (slice_get-get_or holes next null_hole c.if-next-holes.false) c.count_before-next.ensures.before c.count_before-next.ensures.behind in
    end-of-other holes c.args.region c.args.number c.args.from end (get_or holes next null_hole) c.if-hole-number.false first
