use Rattle.std.proofs.Common.{◌≡◌, true, false, rules, arith, subst}
use Rattle.std.proofs.lemmas.Option.{slice_get_within, get_or_from_slice_get}
use Rattle.std.proofs.lemmas.List.Sorted.{IsPartitionPoint-from_clause}
use Rattle.rw_domain.specs.Holes.{is_before}
use Rattle.rw_domain.proofs.HolesAscend.{partitioned}
use Rattle.rw_domain.proofs.holes.count_before.Goals as goal

pub returns : goal.returns
returns c =
    let list = c.args.list.now in
    let point = IsPartitionPoint-from_clause (is_before c.args.region c.args.offset) list _ c.partition_point.ensures.partitioned (partitioned list c.requires c.args.region c.args.offset) (λ a r q k. search rules) in
    record {
      before = λ k h low at. subst (λ x. is_before c.args.region c.args.offset x ≡ true) (get_or_from_slice_get list k h h at) (point.0 k h (omega arith) low);
      behind = λ k h high at. subst (λ x. is_before c.args.region c.args.offset x ≡ false) (get_or_from_slice_get list k h h at) (point.1 k h high (slice_get_within list k h at));
    }
