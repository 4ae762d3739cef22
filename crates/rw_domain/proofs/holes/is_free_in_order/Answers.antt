use Rattle.std.proofs.Common.{not, sym, ap, ◌∙◌, get_or}
use Rattle.std.proofs.lemmas.Option.{slice_get-get_or}
use Rattle.rw_domain.proofs.HolesAscend.{null_hole, all-free, by-first, nothing-touched}
use Rattle.rw_domain.proofs.holes.is_free_in_order.Goals as goal

pub returns-then-end-start : goal.returns-then-end-start
returns-then-end-start c = ap not (sym (nothing-touched c.args.list.now c.args.region c.args.start c.args.end c.if-end-start.true))

pub returns-then-next-list : goal.returns-then-next-list
returns-then-next-list c =
    ap not (sym (all-free c.args.list.now c.args.region c.args.start c.args.end c.count_before-next.result c.if-next-list.true c.count_before-next.ensures.before))

pub returns : goal.returns
returns c =
    let list = c.args.list.now in
    let next = c.count_before-next.result in
    let first = by-first list c.requires c.args.region c.args.start c.args.end next (get_or list next null_hole) c.if-end-start.false (slice_get-get_or list next null_hole c.if-next-list.false) c.count_before-next.ensures.before c.count_before-next.ensures.behind in
    ap not (c.begins_before.ensures ∙ sym first)
